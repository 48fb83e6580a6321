-- What stands in the row is what the theorem rests on.
use Rattle.std.proofs.Common.{◌≡◌, ℕ, List, Contains, ap, subst, ◌∙◌}
use Rattle.std.proofs.lemmas.Result.{IfOk-weaker}
use Rattle.mm_step.specs.Plain.{ids_in}
use Rattle.mm_rules.specs.Conclusion.{Conclusion}
use Rattle.mm_axioms.specs.Mirror.Tables.{AreReached}
use Rattle.mm_axioms.proofs.Resting.AllReports.{rests_in}
use Rattle.mm_axioms.proofs.asked_axioms.unproved_at.Goals as goal

pub returns : goal.returns
returns c =
    let now : Conclusion = c.args.checked.now in
    let same : ids_in c.deref.result.now ≡ now.incomplete =
    ap ids_in c.deref.ensures.value ∙ ap (λ (v : Conclusion). v.incomplete) c.checked.view_is in
    IfOk-weaker c.unproved_in.result _ _
    (λ ids found. rests_in (λ n. Contains now.incomplete n) now.uses now.incomplete
    c.args.tables.now.unproved_rows c.args.theorem.0 (ids_in ids.items)
    (λ n. ((λ h. h), λ h. h)) c.requires.unproved_rows
    (subst (λ (ns : List ℕ). AreReached ns c.args.tables.now.unproved_rows c.args.theorem.0
    (ids_in ids.items)) same found))
    c.unproved_in.ensures
