-- What the book finds under the label.
use Rattle.std.proofs.Common.{◌≡◌, ◌<◌, List, length, map, Contains, sym, ap, subst, ◌∙◌}
use Rattle.mm_frame.specs.declared.number.LabelId.{LabelId}
use Rattle.mm_frame.specs.Sentence.{Sentence}
use Rattle.mm_frame.specs.Taken.{kind_behind}
use Rattle.mm_frame.specs.Form.{IsSound}
use Rattle.mm_frame.specs.Numbers.{labelled_sentences}
use Rattle.mm_frame.proofs.Names.LabelNumbers.{numbered_get, numbered_within}
use Rattle.mm_rules.specs.Conclusion.{Conclusion}
use Rattle.mm_verdict.proofs.Questions.AskedTheorems.{found_theorem, found_incomplete, found_other}
use Rattle.mm_verdict.proofs.Questions.AskedTheorems.{hypothesis_other, other_kind}
use Rattle.mm_verdict.proofs.checked.Checked.theorem.Goals as goal

pub returns-in-Hypothesis-clause-fault : goal.returns-in-Hypothesis-clause-fault
returns-in-Hypothesis-clause-fault c = λ statements kept.
    let (index, s, numbered, named, kind, active) = c.in-Hypothesis.ensures.found in
    let same = ap (λ (v : Conclusion). v.sentences) c.self.view_is in (
      c.in-Hypothesis.id.0,
      found_other statements c.args.self.now c.args.label.now c.in-Hypothesis.id.0 index s kept
          (rw same at numbered) named (hypothesis_other s.kind kind),
    )

pub returns-in-Proof-clause-fault : goal.returns-in-Proof-clause-fault
returns-in-Proof-clause-fault c = λ statements kept.
    let (index, s, numbered, named, kind) = c.in-Assertion.ensures.found in
    let same : c.self.inside.book.statements ≡ c.args.self.now.sentences = ap (λ (v : Conclusion). v.sentences) c.self.view_is in
    let numbers = ap (λ (v : Conclusion). v.incomplete) c.self.view_is in
    let among : Contains c.args.self.now.incomplete c.in-Assertion.id.0 =
    subst (λ ns. Contains ns c.in-Assertion.id.0) (ap (λ (ls : List LabelId). map (λ (l : LabelId). l.0) ls) c.deref.ensures.value ∙ numbers) (c.is_among.ensures.0 c.if-is_among.true) in (
      c.in-Assertion.id.0,
      found_incomplete statements c.args.self.now c.args.label.now c.in-Assertion.id.0 index s kept
          (rw same at numbered) named among,
    )

pub returns-in-Proof-2-clause-within : goal.returns-in-Proof-2-clause-within
returns-in-Proof-2-clause-within c =
    let (index, s, numbered, named, kind) = c.in-Assertion.ensures.found in
    let same : c.self.inside.book.statements ≡ c.args.self.now.sentences = ap (λ (v : Conclusion). v.sentences) c.self.view_is in
    subst (λ (ss : List Sentence). c.in-Assertion.id.0 < length (labelled_sentences ss)) same (numbered_within c.self.inside.book.statements c.in-Assertion.id.0 index s numbered)

pub returns-in-Proof-2-clause-found : goal.returns-in-Proof-2-clause-found
returns-in-Proof-2-clause-found c = λ statements kept.
    let (index, s, numbered, named, kind) = c.in-Assertion.ensures.found in
    let same : c.self.inside.book.statements ≡ c.args.self.now.sentences = ap (λ (v : Conclusion). v.sentences) c.self.view_is in
    let numbers = ap (λ (v : Conclusion). v.incomplete) c.self.view_is in
    found_theorem statements c.args.self.now c.args.label.now c.in-Assertion.id.0 index s kept
    (rw same at numbered) named
    (c.kind.ensures s (numbered_get c.self.inside.book.statements c.in-Assertion.id.0 index s numbered) ∙ ap kind_behind c.in-Proof-2.is)
    (λ among.
    let t = c.is_among.ensures.1 (subst (λ ns. Contains ns c.in-Assertion.id.0) (sym (ap (λ (ls : List LabelId). map (λ (l : LabelId). l.0) ls) c.deref.ensures.value ∙ numbers)) among) in
    absurd (let f = c.if-is_among.false in cc))

pub returns-in_default-clause-fault : goal.returns-in_default-clause-fault
returns-in_default-clause-fault c = λ statements kept.
    let (index, s, numbered, named, kind) = c.in-Assertion.ensures.found in
    let same = ap (λ (v : Conclusion). v.sentences) c.self.view_is in (
      c.in-Assertion.id.0,
      found_other statements c.args.self.now c.args.label.now c.in-Assertion.id.0 index s kept
          (rw same at numbered) named
          (other_kind c.kind.result s.kind (c.kind.ensures s (numbered_get c.self.inside.book.statements c.in-Assertion.id.0 index s numbered)) c.in_default.not-Proof),
    )

pub returns-in-None-clause-sound : goal.returns-in-None-clause-sound
returns-in-None-clause-sound c = subst IsSound (ap (λ (v : Conclusion). v.sentences) c.self.view_is) c.find.ensures.sound

pub returns-in-Hypothesis-clause-sound : goal.returns-in-Hypothesis-clause-sound
returns-in-Hypothesis-clause-sound c = subst IsSound (ap (λ (v : Conclusion). v.sentences) c.self.view_is) c.find.ensures.sound

pub returns-in-Proof-clause-sound : goal.returns-in-Proof-clause-sound
returns-in-Proof-clause-sound c = subst IsSound (ap (λ (v : Conclusion). v.sentences) c.self.view_is) c.find.ensures.sound

pub returns-in-Proof-2-clause-sound : goal.returns-in-Proof-2-clause-sound
returns-in-Proof-2-clause-sound c = subst IsSound (ap (λ (v : Conclusion). v.sentences) c.self.view_is) c.find.ensures.sound

pub returns-in_default-clause-sound : goal.returns-in_default-clause-sound
returns-in_default-clause-sound c = subst IsSound (ap (λ (v : Conclusion). v.sentences) c.self.view_is) c.find.ensures.sound
