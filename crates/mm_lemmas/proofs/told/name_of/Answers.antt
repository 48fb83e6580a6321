-- The label that is found is that of an assertion.
use Rattle.std.proofs.Common.{ap, subst}
use Rattle.mm_frame.specs.Sentence.{IsAssertion}
use Rattle.mm_rules.specs.Conclusion.{Conclusion}
use Rattle.mm_verdict.proofs.Questions.AskedTheorems.{found_as}
use Rattle.mm_verdict.proofs.Verdicts.AcceptedStatements.{KeptWell, read_statements}
use Rattle.mm_lemmas.proofs.told.name_of.Goals as goal

pub returns-in-Assertion-find : goal.returns-in-Assertion-find
returns-in-Assertion-find c = λ statements reads.
    let now : Conclusion = c.args.checked.now in
    let well = subst KeptWell c.checked.view_is c.checked.invariant in
    let kept = (read_statements now statements well.origin reads).kept in
    let (index, s, numbered, named, kind) = c.in-Assertion-find.ensures.found in
    let same = ap (λ (v : Conclusion). v.sentences) c.checked.view_is in (
      _,
      found_as statements now _ IsAssertion _ index s kept (rw same at numbered) named kind,
    )
