use Rattle.std.proofs.Common.{◌≡◌, sym, ◌∙◌, ap, rules, Some, subst, slice_get}
use denote.Enum.Bare.{same_true}
use Rattle.mm_base.specs.contracts.statement.Kind.{the_type}
use Rattle.mm_base.specs.declared.statement.Kind.TheVariants.{Floating}
use Rattle.mm_frame.proofs.Frames.FrameTypings.{kind_at, typing_says}
use Rattle.mm_frame.specs.FrameIndex.{IsTypingOf}
use Rattle.mm_frame.specs.Mirror.Layout.{statements_of}
use Rattle.mm_frame.proofs.tables.Tables.typing.Goals as goal

pub returns-then-eq : goal.returns-then-eq
returns-then-eq c f said hypothesis =
    let t = c.args.self.now in
    let st = statements_of t in
    let there : slice_get t.log.items c.args.index ≡ Some c.in-Some.entry = ap (λ xs. slice_get xs c.args.index) (sym c.deref.ensures.value) ∙ sym c.at.ensures ∙ c.in-Some.is in
    let kind : c.in-Some.entry.kind ≡ Floating = same_true the_type (search rules) _ _ (sym c.if-eq.ensures) in
    let floats = kind_at t.symbols.names t.labels.names t.flat.items t.log.items c.args.index c.in-Some.entry f there said ∙ kind in
    let (a, b, is, types) = typing_says st f c.symbols_at.result.now (c.requires.sound.1 _ f said) floats (c.symbols_at.ensures f said) in
    subst (λ o. IsTypingOf st o f) (sym (c.first_two.ensures a b is)) types
