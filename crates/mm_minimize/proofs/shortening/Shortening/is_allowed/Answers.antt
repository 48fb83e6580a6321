-- It is used already; or it may be newly used, and the theorem rests on what it rests on.
use Rattle.std.proofs.Common.{◌≡◌, List, sym, ap, subst}
use Rattle.mm_frame.specs.declared.number.LabelId.{LabelId}
use Rattle.mm_step.specs.Plain.{ids_in}
use Rattle.mm_rules.specs.Rests.{AreRising}
use Rattle.mm_rules.specs.Conclusion.{Conclusion}
use Rattle.mm_verdict.proofs.Verdicts.AcceptedStatements.{AreOf, read_statements, KeptWell}
use Rattle.mm_verdict.proofs.Verdicts.StatementByStatement.{all_meant}
use Rattle.mm_minimize.proofs.ShorterTheorems.ShorterProofs.{used_before, newly_used}
use Rattle.mm_minimize.proofs.shortening.Shortening.is_allowed.Goals as goal

pub returns-then-is_among : goal.returns-then-is_among
returns-then-is_among c = λ _ statements index s reads at.
    let now : Conclusion = c.args.self.now.checked.now in
    let well : KeptWell now = subst KeptWell c.checked.view_is c.checked.invariant in
    let of : AreOf now statements = read_statements now statements well.origin reads in
    used_before now.files statements now c.args.theorem.0 c.args.used.0 s
    (all_meant now.profile statements of.accepted.obeyed) of.kept
    ((c.requires.uses c.args.used.0).0 (c.is_among.ensures.0 c.if-is_among.true))

pub is_founded-requires-clause-axioms : goal.is_founded-requires-clause-axioms
is_founded-requires-clause-axioms c = c.requires.known.told.axioms.rising

pub is_founded-requires-clause-incomplete : goal.is_founded-requires-clause-incomplete
is_founded-requires-clause-incomplete c =
    subst (λ (ids : List LabelId). AreRising (ids_in ids)) (sym c.deref.ensures.value) c.checked.invariant.rising

pub returns : goal.returns
returns c = λ may statements index s reads at.
    let now : Conclusion = c.args.self.now.checked.now in
    let well : KeptWell now = subst KeptWell c.checked.view_is c.checked.invariant in
    let of : AreOf now statements = read_statements now statements well.origin reads in
    let incomplete : ids_in c.checked.inside.incomplete.items ≡ now.incomplete = ap (λ (v : Conclusion). v.incomplete) c.checked.view_is in
    let founded = rw (c.deref.ensures.value, incomplete) at c.is_founded.ensures in
    newly_used now.files statements now c.args.theorem.0 c.args.used.0 s
    (all_meant now.profile statements of.accepted.obeyed) of.kept
    ((founded now.sentences now.uses c.requires.known.told).0 c.if-not-is_founded.false)
    (λ place a there. (c.may_use.ensures now.files s a
    (c.remark-own.ensures statements index s reads at)
    (c.remark-other.ensures statements place a reads there)).0 may)
