-- One shape more is that of the next pattern.
use Rattle.std.proofs.Common.{◌≤◌, ◌∙◌, ap, length}
use Rattle.mm_base.specs.MostBytes.{most_bytes}
use Rattle.mm_code.specs.Layout.{texts}
use Rattle.mm_code.specs.Words.{tokens_in}
use Rattle.mm_find.specs.Shape.{shape_of}
use Rattle.mm_find.proofs.Replies.{each_at, patterns_all, patterns_next}
use Rattle.mm_find.proofs.reply.shapes_for.Goals as goal

pub tokens_of-requires : goal.tokens_of-requires
tokens_of-requires c =
    each_at (λ p. length p ≤ most_bytes) c.args.patterns.now c.loop-pattern.pattern-index _
    c.requires c.loop-pattern-test.true

pub loop-pattern-preserved : goal.loop-pattern-preserved
loop-pattern-preserved c =
    patterns_next (λ p. shape_of c.args.whole (tokens_in p)) c.args.patterns.now
    c.loop-pattern.pattern-index _
    c.loop-pattern.shapes.items c.push.new.self.items c.in_ok-shape.shape c.loop-pattern-test.true
    (c.in_ok-shape.ensures
    ∙ ap (λ ts. shape_of c.args.whole (texts ts)) c.deref.ensures.value
    ∙ ap (shape_of c.args.whole) c.in_ok-tokens.ensures.tokens)
    c.in_ok-push.ensures.items c.loop-pattern.invariant

pub returns : goal.returns
returns c =
    patterns_all (λ p. shape_of c.args.whole (tokens_in p)) c.args.patterns.now
    c.loop-pattern.pattern-index c.loop-pattern.shapes.items c.loop-pattern-test.false
    c.loop-pattern.invariant
