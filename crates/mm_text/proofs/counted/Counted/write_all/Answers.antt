-- Each piece goes on where the last one ended.
use Rattle.std.proofs.Common.{rules, ℕ, ◌+◌, List, ◌++◌, length, take, drop, ap, sym, subst, ◌∙◌}
use Rattle.std.proofs.Common.{◌-◌, Option, take-add}
use Rattle.std.proofs.lemmas.List.{take_rest}
use Rattle.std.proofs.KnownBytes.{Appends-trans}
use Rattle.std.specs.Io.KnownBytes.{Appends}
use Rattle.mm_text.proofs.counted.Counted.write_all.Goals as goal

-- the first i bytes were written, and then n bytes of the rest
Appends-piece : (a b c : Option (List ℕ)) (bytes : List ℕ) (i n : ℕ)
    → Appends a b (take i bytes)
    → Appends b c (take n (take (length bytes - i) (drop i bytes)))
    → Appends a c (take (i + n) bytes)
Appends-piece a b c bytes i n before piece =
    let joined =
    take-add i n bytes ∙ ap (λ rest. take i bytes ++ take n rest) (sym (take_rest bytes i)) in
    subst (Appends a c) (sym joined) (Appends-trans a b c _ _ before piece)

pub loop-written-preserved : goal.loop-written-preserved
loop-written-preserved g c =
    let (within, before, kept) = c.loop-written.invariant in
    (search rules, Appends-piece _ _ _ _ _ _ before c.in-Ok.ensures.bytes, search rules)
