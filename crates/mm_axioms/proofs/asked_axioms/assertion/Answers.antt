-- What the book finds under the label.
use Rattle.std.proofs.Common.{ap, subst}
use Rattle.mm_frame.specs.Sentence.{IsHypothesis, IsAssertion}
use Rattle.mm_frame.specs.Form.{IsSound}
use Rattle.mm_rules.specs.Conclusion.{Conclusion}
use Rattle.mm_verdict.proofs.Questions.AskedTheorems.{found_as}
use Rattle.mm_axioms.proofs.asked_axioms.assertion.Goals as goal

pub returns-in-Hypothesis-clause-fault : goal.returns-in-Hypothesis-clause-fault
returns-in-Hypothesis-clause-fault c = λ statements kept.
    let (index, s, numbered, named, kind, active) = c.in-Hypothesis.ensures.found in
    let same = ap (λ (v : Conclusion). v.sentences) c.checked.view_is in (
      c.in-Hypothesis.id.0,
      found_as statements c.args.checked.now c.args.label.now IsHypothesis c.in-Hypothesis.id.0 index s kept
          (rw same at numbered) named kind,
    )

pub returns-in-Assertion-clause-found : goal.returns-in-Assertion-clause-found
returns-in-Assertion-clause-found c = λ statements kept.
    let (index, s, numbered, named, kind) = c.in-Assertion.ensures.found in
    let same = ap (λ (v : Conclusion). v.sentences) c.checked.view_is in
    found_as statements c.args.checked.now c.args.label.now IsAssertion c.in-Assertion.id.0 index s kept
    (rw same at numbered) named kind

pub returns-in-None-clause-sound : goal.returns-in-None-clause-sound
returns-in-None-clause-sound c = subst IsSound (ap (λ (v : Conclusion). v.sentences) c.checked.view_is) c.find.ensures.sound

pub returns-in-Hypothesis-clause-sound : goal.returns-in-Hypothesis-clause-sound
returns-in-Hypothesis-clause-sound c = subst IsSound (ap (λ (v : Conclusion). v.sentences) c.checked.view_is) c.find.ensures.sound

pub returns-in-Assertion-clause-sound : goal.returns-in-Assertion-clause-sound
returns-in-Assertion-clause-sound c = subst IsSound (ap (λ (v : Conclusion). v.sentences) c.checked.view_is) c.find.ensures.sound
