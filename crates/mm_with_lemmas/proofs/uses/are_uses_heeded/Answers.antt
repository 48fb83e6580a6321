-- By what is kept of both databases.
use Rattle.std.proofs.Common.{List, ℕ, sym, subst, ◌∙◌}
use Rattle.mm_verdict.proofs.Verdicts.AcceptedStatements.{KeptWell}
use Rattle.mm_with_lemmas.specs.Mirror.Using.{AreBelow}
use Rattle.mm_with_lemmas.proofs.HeededUses.{below_one, lemmas_alone, uses_allowed}
use Rattle.mm_with_lemmas.proofs.uses.are_uses_heeded.Goals as goal

pub are_proofs_heeded-are-requires-clause-marks : goal.are_proofs_heeded-are-requires-clause-marks
are_proofs_heeded-are-requires-clause-marks c =
    subst (λ (marks : List ℕ). AreBelow 1 marks)
    (sym (c.in_ok-marks.ensures.items_if_clones_equal (λ y h. h)) ∙ sym c.deref_mut.ensures.value)
    (below_one c.room_of.result)

pub returns-clause-by_lemmas : goal.returns-clause-by_lemmas
returns-clause-by_lemmas c = λ t statements others reads reads_too.
    lemmas_alone c.args.old.now c.args.new.now statements others
    (subst KeptWell c.old.view_is c.old.invariant) (subst KeptWell c.new.view_is c.new.invariant)
    reads reads_too (c.are_proofs_heeded-are.ensures t)

pub returns-clause-allowed : goal.returns-clause-allowed
returns-clause-allowed c = λ t statements others reads reads_too.
    uses_allowed c.args.old.now c.args.new.now statements others
    (subst KeptWell c.old.view_is c.old.invariant) (subst KeptWell c.new.view_is c.new.invariant)
    reads reads_too (c.are_proofs_heeded-are.ensures t)
