-- What the book finds under the label.
use Rattle.std.proofs.Common.{ap, subst}
use Rattle.mm_frame.specs.Form.{IsSound}
use Rattle.mm_frame.proofs.Names.LabelNumbers.{numbered_within}
use Rattle.mm_rules.specs.Conclusion.{Conclusion}
use Rattle.mm_verdict.proofs.Questions.AskedTheorems.{found_as}
use Rattle.mm_verdict.proofs.checked.Checked.labelled.Goals as goal

pub returns-in-Hypothesis-clause-within : goal.returns-in-Hypothesis-clause-within
returns-in-Hypothesis-clause-within c =
    let (index, s, numbered, named, kind, active) = c.in-Hypothesis.ensures.found in
    let same = ap (λ (v : Conclusion). v.sentences) c.self.view_is in
    numbered_within _ _ _ _ (rw same at numbered)

pub returns-in-Assertion-clause-within : goal.returns-in-Assertion-clause-within
returns-in-Assertion-clause-within c =
    let (index, s, numbered, named, kind) = c.in-Assertion.ensures.found in
    let same = ap (λ (v : Conclusion). v.sentences) c.self.view_is in
    numbered_within _ _ _ _ (rw same at numbered)

pub returns-in-Hypothesis-clause-found : goal.returns-in-Hypothesis-clause-found
returns-in-Hypothesis-clause-found c = λ statements kept.
    let (index, s, numbered, named, kind, active) = c.in-Hypothesis.ensures.found in
    let same = ap (λ (v : Conclusion). v.sentences) c.self.view_is in
    found_as statements c.args.self.now c.args.label.now (λ k. Unit {0}) c.in-Hypothesis.id.0 index s
    kept (rw same at numbered) named tt

pub returns-in-Assertion-clause-found : goal.returns-in-Assertion-clause-found
returns-in-Assertion-clause-found c = λ statements kept.
    let (index, s, numbered, named, kind) = c.in-Assertion.ensures.found in
    let same = ap (λ (v : Conclusion). v.sentences) c.self.view_is in
    found_as statements c.args.self.now c.args.label.now (λ k. Unit {0}) c.in-Assertion.id.0 index s
    kept (rw same at numbered) named tt

pub returns-in-None-clause-sound : goal.returns-in-None-clause-sound
returns-in-None-clause-sound c = subst IsSound (ap (λ (v : Conclusion). v.sentences) c.self.view_is) c.find.ensures.sound

pub returns-in-Hypothesis-clause-sound : goal.returns-in-Hypothesis-clause-sound
returns-in-Hypothesis-clause-sound c = subst IsSound (ap (λ (v : Conclusion). v.sentences) c.self.view_is) c.find.ensures.sound

pub returns-in-Assertion-clause-sound : goal.returns-in-Assertion-clause-sound
returns-in-Assertion-clause-sound c = subst IsSound (ap (λ (v : Conclusion). v.sentences) c.self.view_is) c.find.ensures.sound
