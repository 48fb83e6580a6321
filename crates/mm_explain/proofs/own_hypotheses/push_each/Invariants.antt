-- The facts so far are those of the hypotheses so far, and lines are counted in the files.
use Rattle.std.proofs.Common.{◌≡◌, ◌++◌, List, map, take}
use Rattle.mm_text.specs.Files.{plain_file}
use Rattle.mm_base.specs.Statement.{PlainStatement}
use Rattle.mm_base.specs.Token.{PlainToken, plain_token}
use Rattle.mm_frame.specs.Sentence.{Sentence}
use Rattle.mm_explain.specs.Mirror.Outlined.{firsts_of}
use Rattle.mm_explain.specs.Mirror.Standing.{AddsEach, AreEarlier}
use Rattle.mm_explain.proofs.own_hypotheses.push_each.Given as goal

abbrev pub invariant-loop-hypothesis : goal.invariant-loop-hypothesis
invariant-loop-hypothesis l =
    (l.lines ≡ map plain_file l.files)
    × ((before : List PlainStatement) (stated : List Sentence) (rest : List PlainToken)
    → AreEarlier l.book.statements before (map (λ h. h.id.0) l.hypotheses) stated
    → map plain_token l.firsts ≡ firsts_of before ++ rest
    → AddsEach (map plain_file l.files) before (take l.hypothesis-index stated) l.fn.out.items
    l.out.items)
