-- The last piece takes what came over the limit.
use Rattle.std.proofs.Common.{◌≡◌, ◌<◌, ◌≤◌, ◌++◌, length, take, arith, rules, length-append}
use Rattle.std.proofs.lemmas.List.{length-take-le}
use Rattle.std.proofs.KnownBytes.{Consumes-trans}
use Rattle.mm_text.proofs.load.read_stripped.Goals as goal

pub returns-then-more-max-clause-over : goal.returns-then-more-max-clause-over
returns-then-more-max-clause-over g c = λ answered.
    let (within, (came, size, before, stripped), calm, kept, later) = c.loop-more.invariant in
    let piece = take c.in-Ok.more c.read.new.buf in
    let long : length piece ≡ c.in-Ok.more = length-take-le c.in-Ok.more _ (search rules) in
    let over : c.args.max < length (came ++ piece) = omega (arith, size, long, length-append came piece, c.if-more-max.true) in
    (came ++ piece, over, Consumes-trans _ _ _ _ _ before c.in-Ok.ensures.bytes.0)

pub loop-more-preserved : goal.loop-more-preserved
loop-more-preserved g c =
    let (within, (came, size, before, stripped), calm, kept, later) = c.loop-more.invariant in
    let piece = take c.in-Ok.more c.read.new.buf in
    let long : length piece ≡ c.in-Ok.more = length-take-le c.in-Ok.more _ (search rules) in
    let some : 0 < c.in-Ok.more = search rules in (
      omega (arith, c.if-more-max.false),
      (came ++ piece, omega (arith, size, long, length-append came piece), Consumes-trans _ _ _ _ _ before c.in-Ok.ensures.bytes.0, c.in_ok-take.ensures came stripped),
      λ none. absurd (omega (arith, none, some)),
      search rules,
      search rules,
    )

-- The last piece is the one for which there was no room.
pub returns-in_err-take-clause-memory : goal.returns-in_err-take-clause-memory
returns-in_err-take-clause-memory g c = λ answered.
    let (within, (came, size, before, stripped), calm, kept, later) = c.loop-more.invariant in
    let piece = take c.in-Ok.more c.read.new.buf in
    let long : length piece ≡ c.in-Ok.more = length-take-le c.in-Ok.more _ (search rules) in
    let more : 0 < c.in-Ok.more = search rules in
    let some : 0 < length (came ++ piece) = omega (arith, more, long, length-append came piece) in
    let few : length (came ++ piece) ≤ c.args.max = omega (arith, size, long, length-append came piece, c.if-more-max.false) in
    (came ++ piece, some, few, Consumes-trans _ _ _ _ _ before c.in-Ok.ensures.bytes.0)
