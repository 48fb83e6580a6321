-- The lines are those of all theorems.
use Rattle.std.proofs.Common.{ℕ, List, Contains, ap, subst}
use Rattle.std.proofs.lemmas.Result.{IfOk-weaker}
use Rattle.mm_frame.specs.declared.number.LabelId.{LabelId}
use Rattle.mm_step.specs.Plain.{ids_in}
use Rattle.mm_axioms.specs.Mirror.Tables.{AreLinesOf}
use Rattle.mm_axioms.proofs.all_axioms.all_axioms_text.Goals as goal

pub lines_of-requires-clause-kinds : goal.lines_of-requires-clause-kinds
lines_of-requires-clause-kinds c = λ n h.
    (c.in_ok-theorems.ensures.kinds.each n).0 (subst (λ (ns : List ℕ). Contains ns n) (ap ids_in c.deref.ensures.value) h)

pub returns : goal.returns
returns c =
    IfOk-weaker c.lines_of.result _ _
    (λ text told statements reads.
    let (lines, each, said) = subst (λ (ids : List LabelId). AreLinesOf c.args.essential statements (ids_in ids) text.items) c.deref.ensures.value (told statements reads) in
    (lines, record { theorems = ids_in c.in_ok-theorems.theorems.items; are_theorems = c.in_ok-theorems.ensures.told statements reads; each = each }, said))
    c.lines_of.ensures
