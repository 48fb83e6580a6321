-- One more number, which is used already, or isn't.
use Rattle.std.proofs.Common.{◌≤◌, ℕ, List, length, get_or, Contains, subst}
use Rattle.std.proofs.lemmas.List.{take_all}
use Rattle.std.proofs.lemmas.Option.{slice_get-get_or}
use Rattle.mm_frame.specs.declared.number.LabelId.{LabelId}
use Rattle.mm_step.specs.Plain.{ids_in}
use Rattle.mm_rules.specs.Conclusion.{Conclusion}
use Rattle.mm_rules.specs.Mirror.Marks.{UsedIn}
use Rattle.mm_rules.specs.Rests.{AreInOrder}
use Rattle.mm_rules.proofs.OrderedNumbers.{among_taken, among_passed}
use Rattle.mm_minimize.proofs.ShorterTheorems.ShorterProofs.{newly_told}
use Rattle.mm_verdict.proofs.Verdicts.AcceptedStatements.{AreOf, read_statements, KeptWell}
use Rattle.mm_verdict.proofs.Verdicts.StatementByStatement.{all_meant}
use Rattle.mm_minimize.proofs.shortening.Shortening.newly_used.Goals as goal
use Rattle.mm_minimize.proofs.shortening.Shortening.newly_used.Goals.{then-not-is_among+in_ok-push, else-not-is_among}

pub loop-id-preserved : goal.loop-id-preserved
loop-id-preserved c =
    let M : ℕ → Type 0 = λ n. ¬ (UsedIn c.args.self.now.checked.now.uses c.args.theorem.0 n) in
    let used : List LabelId = c.args.used.now in
    let k : ℕ = c.loop-id.id-index in
    let x : LabelId = get_or used k (record { 0 = 0 }) in
    let at = slice_get-get_or used k (record { 0 = 0 }) c.loop-id-test.true in
    elim c.if-not-is_among.branch [
      | then-not-is_among+in_ok-push w ↦
          among_taken M used c.loop-id.newly.items c.if-not-is_among.newly.items k x c.requires at c.loop-id.invariant
          (λ h. absurd (let t = c.is_among.ensures.1 ((c.uses_of-uses.ensures x.0).1 h) in let f = w.if-not-is_among.true in cc))
          (rw w.newly-is w.in_ok-push.ensures.items)
      | else-not-is_among w ↦
          rw w.newly-is (among_passed M used c.loop-id.newly.items k x at c.loop-id.invariant
          (λ m. m ((c.uses_of-uses.ensures x.0).0 (c.is_among.ensures.0 w.if-not-is_among.false))))
    ]

pub returns : goal.returns
returns c = λ statements reads.
    let now : Conclusion = c.args.self.now.checked.now in
    let well : KeptWell now = subst KeptWell c.checked.view_is c.checked.invariant in
    let of : AreOf now statements = read_statements now statements well.origin reads in
    let used : List LabelId = c.args.used.now in
    let all : length used ≤ c.loop-id.id-index = c.loop-id-test.false in
    let order = subst (λ (xs : List LabelId). AreInOrder (λ n. Contains (ids_in xs) n × ¬ (UsedIn now.uses c.args.theorem.0 n)) (ids_in c.loop-id.newly.items))
    (take_all c.loop-id.id-index used all) c.loop-id.invariant in
    newly_told statements now c.args.theorem.0 (ids_in used) (ids_in c.loop-id.newly.items)
    (all_meant now.profile statements of.accepted.obeyed) of.kept order
