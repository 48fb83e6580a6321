-- The next labelled statement is a theorem if a proof of it is kept.
use Rattle.std.proofs.Common.{refl, sym, ◌∙◌, arith}
use Rattle.mm_verdict.proofs.Questions.TheoremsAgain.{passed_none, passed_few, passed_to}
use Rattle.mm_verdict.proofs.Questions.TheoremsAgain.{passed_labelled, passed_unlabelled}
use Rattle.mm_verdict.proofs.Questions.TheoremsAgain.{plain_labelled}
use Rattle.mm_verdict.proofs.theorems.Rereading.next_theorem.Goals as goal

pub loop-id-init : goal.loop-id-init
loop-id-init c = λ taken read. passed_none _ taken _ read

pub overflow_add-self : goal.overflow_add-self
overflow_add-self c =
    let next = rw c.if-branch.true at c.in_ok-more.ensures.on in
    let few = passed_few c.args.checked.now.files c.requires.0 c.loop-id.self (record {
      statements = c.more.new.self;
      statement = c.more.new.into;
      labelled = c.loop-id.self.labelled;
      theorems = c.loop-id.self.theorems;
    }) next (c.loop-id.invariant c.requires.0 c.requires.1) in omega (arith, few)

pub returns-then-is_theorem-clause-next : goal.returns-then-is_theorem-clause-next
returns-then-is_theorem-clause-next c = λ taken read.
    let next = rw c.if-branch.true at c.in_ok-more.ensures.on in
    passed_to c.args.checked.now.files taken c.loop-id.self _ next (c.loop-id.invariant taken read)
    (record { 0 = c.loop-id.self.labelled })
    (c.in_ok-more.ensures.formed (rw c.if-branch.true refl))
    (plain_labelled c.more.new.into.label ∙ sym c.is_some.ensures ∙ c.if-is_some.true) refl refl
    (λ statements reads. (c.is_theorem.ensures statements reads).0 c.if-is_theorem.true)

pub loop-id-preserved-else-is_theorem : goal.loop-id-preserved-else-is_theorem
loop-id-preserved-else-is_theorem c = λ taken read.
    let next = rw c.if-branch.true at c.in_ok-more.ensures.on in
    passed_labelled c.args.checked.now.files taken c.loop-id.self _ next
    (c.loop-id.invariant taken read) c.loop-id.self.labelled
    (plain_labelled c.more.new.into.label ∙ sym c.is_some.ensures ∙ c.if-is_some.true) refl refl
    (λ statements reads there. let t = (c.is_theorem.ensures statements reads).1 there in
    absurd (let f = c.if-is_theorem.false in cc))

pub loop-id-preserved : goal.loop-id-preserved
loop-id-preserved c = λ taken read.
    let next = rw c.if-branch.true at c.in_ok-more.ensures.on in
    passed_unlabelled c.args.checked.now.files taken c.loop-id.self _ next
    (c.loop-id.invariant taken read)
    (c.in_ok-more.ensures.formed (rw c.if-branch.true refl))
    (plain_labelled c.more.new.into.label ∙ sym c.is_some.ensures ∙ c.if-is_some.false) refl
