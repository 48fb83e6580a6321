use Rattle.std.proofs.Common.{subst}
use Rattle.mm_frame.specs.Sentence.{Sentence, IsHypothesis}
use Rattle.mm_frame.proofs.Names.LabelNumbers.{numbered_unique}
use Rattle.mm_step.specs.Mirror.CodeApply.{IsCallOf}
use Rattle.mm_forms.proofs.PackedProofs.LabelWidths.{width_hypothesis, width_assertion}
use Rattle.mm_forms.proofs.builder.width.Goals as goal

pub returns-in-Hypothesis : goal.returns-in-Hypothesis
returns-in-Hypothesis c index label below used stands =
    let st = c.args.book.now.statements in
    let of = subst (IsCallOf st index c.args.id.0) c.in-Hypothesis.is (c.call_of.ensures index label used) in
    let same = (numbered_unique st c.args.id.0 _ _ _ _ of.1.numbered used.numbered).1 in
    width_hypothesis st index c.args.id.0 label below c.requires.sound.0 used (subst (λ (s : Sentence). IsHypothesis s.kind) same of.2) stands

pub returns-in-Assertion : goal.returns-in-Assertion
returns-in-Assertion c index label below used stands =
    let st = c.args.book.now.statements in
    let of = subst (IsCallOf st index c.args.id.0) c.in-Assertion.is (c.call_of.ensures index label used) in
    width_assertion st index c.args.id.0 label below c.in-Assertion.signature c.requires.sound.0 used of stands
