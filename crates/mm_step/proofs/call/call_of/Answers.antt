use Rattle.std.proofs.Common.{◌≡◌, ◌<◌, ℕ, sym, subst, ◌∙◌}
use Rattle.std.proofs.lemmas.Bool.{false≢true}
use Rattle.mm_frame.specs.Sentence.{IsHypothesis, IsAssertion}
use Rattle.mm_frame.proofs.Names.LabelNumbers.{numbered_get}
use Rattle.mm_step.proofs.ByNumbers.OneIndex.{one_index}
use Rattle.mm_step.proofs.ByNumbers.StepByAssertion.{is_hypothesis_kind, is_assertion_kind}
use Rattle.mm_step.proofs.ByNumbers.CalledAssertions.{signature_of}
use Rattle.mm_step.proofs.call.call_of.Goals as goal

pub frame-requires : goal.frame-requires
frame-requires c =
    let n = c.is_label.ensures.0 c.if-not-is_label.false in
    let there = numbered_get c.args.book.now.statements c.args.id.0 n.0 n.1 n.2 in
    (n.0, n.1, n.2, subst IsAssertion (sym (c.kind.ensures n.1 there)) (is_assertion_kind c.kind.result c.in_default.not-Floating c.in_default.not-Essential))

pub returns-then-not-is_label : goal.returns-then-not-is_label
returns-then-not-is_label c index label u =
    absurd (false≢true (sym c.if-not-is_label.true ∙ c.is_label.ensures.1 (u.at, u.s, u.numbered)))

pub returns-in-Floating : goal.returns-in-Floating
returns-in-Floating c index label u =
    let there = numbered_get c.args.book.now.statements c.args.id.0 u.at u.s u.numbered in
    (label, u, subst IsHypothesis (sym (c.kind.ensures u.s there)) (is_hypothesis_kind c.kind.result c.in-Floating.is), c.expression.ensures u.s there)

pub returns-in_default : goal.returns-in_default
returns-in_default c index label u =
    let st = c.args.book.now.statements in
    let p = c.frame.ensures.index in
    let at = c.frame.result.index in
    let same : u.at ≡ at = one_index st c.args.id.0 u.at at u.s p.0 u.numbered p.1 in
    let its = c.signature.ensures.conclusion in
    signature_of c.frame.result.statements st index c.args.id.0 at p.0 its.0 c.signature.result c.frame.ensures.book p.1 p.2 (subst (λ (n : ℕ). n < index) same u.before)
    c.signature.ensures.ids c.signature.ensures.typed c.signature.ensures.pairs c.signature.ensures.indices its.1 its.2 c.signature.ensures.patterns
