-- The axioms and the unproved theorems of the one are among those of the other.
use Rattle.mm_step.specs.Plain.{ids_in}
use Rattle.mm_with_lemmas.proofs.FoundedTheorems.{founded_by}
use Rattle.mm_with_lemmas.proofs.founded.is_founded_by.Goals as goal

pub returns : goal.returns
returns c = λ t.
    founded_by c.args.old.now c.args.new.now c.args.both.now.formers.items c.args.former.0
    c.args.id.0 c.requires.formers (ids_in c.in_ok-axioms.axioms.items)
    (ids_in c.in_ok-old_axioms.old_axioms.items) (ids_in c.in_ok-unproved.unproved.items)
    (ids_in c.in_ok-old_unproved.old_unproved.items) c.in_ok-axioms.ensures
    c.in_ok-old_axioms.ensures c.in_ok-unproved.ensures c.in_ok-old_unproved.ensures
    (rw (c.deref.ensures.value, c.deref-2.ensures.value, c.deref-3.ensures.value) at
    (c.are_formers_among.ensures c.if-not-are_formers_among.false))
    (rw (c.deref-4.ensures.value, c.deref-5.ensures.value, c.deref-6.ensures.value) at
    (c.are_formers_among-2.ensures t))
