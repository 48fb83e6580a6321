-- What stands between the blanks are the words.
use Rattle.std.proofs.Common.{◌≡◌, ◌==◌, List, IfOk, lit<, map, Bor, ℕ, Bool, ap, ◌∙◌}
use Rattle.std.specs.List.{slice_split}
use Rattle.std.proofs.lemmas.Iterator.Consumers.{map_from_collect}
use Rattle.std.proofs.lemmas.Iterator.Splits.{YieldsList-from_str_split}
use Rattle.mm_help.specs.Explained.{code_in_reply}
use Rattle.mm_help.proofs.AskedCodes.{line_asks}
use Rattle.mm_help.proofs.explain.asked_code.Goals as goal

pub returns : goal.returns
returns c =
    let blank : ℕ → Bool = λ b. b == 32 in
    let cut : IfOk c.collect.result
    (λ words. map (λ word. word.now) words.items ≡ slice_split blank c.args.line.now) =
    map_from_collect _ c.collect.ensures.ran
    (YieldsList-from_str_split 32 c.args.line.now (lit< tt) c.split.ensures.text
    c.split.ensures.has_more c.split.ensures.pattern) in
    let words : map (λ word. word.now) c.in_ok-words.words.items
    ≡ slice_split blank c.args.line.now =
    rw c.in_ok-words.was at cut in
    ap (λ r. r.now) c.unwrap_or.ensures
    ∙ line_asks c.in_ok-words.words.items c.args.line c.code_in_reply.result words
    (c.code_in_reply.ensures
    ∙ ap (λ (list : List (Bor (List ℕ))). code_in_reply (map (λ word. word.now) list))
    c.deref.ensures.value)
