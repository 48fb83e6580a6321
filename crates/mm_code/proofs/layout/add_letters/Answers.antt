-- Each line is taken from the letters that are left, until none are.
use Rattle.std.proofs.Common.{◌≡◌, ◌<◌, [], length, append_assoc, arith}
use Rattle.std.proofs.lemmas.List.{append-nil, nil_from_length}
use Rattle.std.proofs.lemmas.Bool.Decides.{nat_tests}
use Rattle.mm_code.proofs.LaidOutLines.{letters_laid-nil, letters_laid-begun}
use Rattle.mm_code.proofs.layout.add_letters.Goals as goal

pub loop-rest-preserved : goal.loop-rest-preserved
loop-rest-preserved c block laid =
    let some : 0 < length c.loop-rest.rest.now = grind (arith, nat_tests) in
    rw (c.in_ok-add_letter_line.ensures, c.split_at.ensures.front, append_assoc)
    (c.loop-rest.invariant _ (letters_laid-begun c.loop-rest.rest.now block c.min.result some
    c.min.ensures (rw c.split_at.ensures.back at laid)))

-- no letters are left
pub returns : goal.returns
returns c =
    let none : length c.loop-rest.rest.now ≡ 0 = grind (arith, nat_tests) in
    rw append-nil at (c.loop-rest.invariant [] (rw (nil_from_length _ none) letters_laid-nil))
