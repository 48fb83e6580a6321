-- The byte that is found is the first that is no letter.
use Rattle.std.proofs.Common.{subst, All}
use Rattle.std.proofs.lemmas.List.{take_all}
use Rattle.std.proofs.lemmas.List.Elements.{All-more}
use Rattle.std.proofs.lemmas.Option.{slice_get-get_or}
use Rattle.mm_code.specs.Letters.{IsLetter}
use Rattle.mm_places.proofs.whole_places.stray_index.Goals as goal

pub loop-index-preserved : goal.loop-index-preserved
loop-index-preserved c =
    All-more IsLetter c.args.letters.now c.loop-index.index 0 c.loop-index-test.true
    c.loop-index.invariant (c.is_stray.ensures.letter c.if-is_stray.false)

pub returns-then-is_stray : goal.returns-then-is_stray
returns-then-is_stray c = (
  _,
  slice_get-get_or c.args.letters.now c.loop-index.index 0 c.loop-index-test.true,
  c.loop-index.invariant,
  c.is_stray.ensures.stray c.if-is_stray.true,
)

pub returns : goal.returns
returns c =
    subst (All IsLetter) (take_all c.loop-index.index c.args.letters.now c.loop-index-test.false)
    c.loop-index.invariant
