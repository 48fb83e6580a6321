-- The last piece takes what came over the limit.
use Rattle.std.proofs.Common.{◌≡◌, ◌<◌, ◌≤◌, ◌++◌, length, take, arith, rules, length-append}
use Rattle.std.specs.Prelude.{vec_len}
use Rattle.std.proofs.lemmas.List.{length-take-le}
use Rattle.std.proofs.KnownBytes.{Consumes-trans}
use Rattle.mm_text.proofs.load.read_all.Goals as goal

pub returns-then-count-max-clause-over : goal.returns-then-count-max-clause-over
returns-then-count-max-clause-over g c = λ answered.
    let (within, before, kept, later) = c.loop-bytes.invariant in
    let piece = take c.in-Ok.count c.read.new.buf in
    let long : length piece ≡ c.in-Ok.count = length-take-le c.in-Ok.count _ (search rules) in
    let so_far : vec_len c.loop-bytes.bytes ≡ length c.loop-bytes.bytes.items = search rules in
    let over : c.args.max < length (c.loop-bytes.bytes.items ++ piece) = omega (arith, length-append c.loop-bytes.bytes.items piece) in
    (c.loop-bytes.bytes.items ++ piece, over, Consumes-trans _ _ _ _ _ before c.in-Ok.ensures.bytes.0)

-- The last piece is the one for which there was no room.
pub returns-in_err-extend_from_slice-clause-memory : goal.returns-in_err-extend_from_slice-clause-memory
returns-in_err-extend_from_slice-clause-memory g c = λ answered.
    let (within, before, kept, later) = c.loop-bytes.invariant in
    let piece = take c.in-Ok.count c.read.new.buf in
    let long : length piece ≡ c.in-Ok.count = length-take-le c.in-Ok.count _ (search rules) in
    let so_far : vec_len c.loop-bytes.bytes ≡ length c.loop-bytes.bytes.items = search rules in
    let some : 0 < length (c.loop-bytes.bytes.items ++ piece) = omega (arith, length-append c.loop-bytes.bytes.items piece) in
    let few : length (c.loop-bytes.bytes.items ++ piece) ≤ c.args.max = omega (arith, length-append c.loop-bytes.bytes.items piece) in
    (c.loop-bytes.bytes.items ++ piece, some, few, Consumes-trans _ _ _ _ _ before c.in-Ok.ensures.bytes.0)
