use Rattle.std.proofs.Common.{◌≡◌, length, arith}
use Rattle.mm_frame.proofs.Frames.MandatoryPairs.{pairs_from_found}
use Rattle.mm_frame.proofs.framing.find_pairs.Goals as goal

pub returns : goal.returns
returns c s more meant stated are =
    let variables = c.find_variables.new.variables.items in
    let vars = c.in_ok-find_variables.ensures s are in
    let all : length variables ≡ c.loop-i.i = omega (arith, c.loop-i.auto.i-end, c.len-i-end.ensures, c.find_variables.new.variables.ok.0) in
    pairs_from_found _ _ more _ _ _ _ c.requires.sound.0 meant stated are vars all (c.loop-i.invariant c.args.indices.now vars)
