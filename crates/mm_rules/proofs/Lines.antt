-- Lines and columns are counted on: the line feeds before a position are those before an earlier
-- one and those between the two; and the bytes since the last feed are those between the two, where a
-- feed is among these, else those since the feed before the earlier one, too.
use Rattle.std.proofs.Common.{◌≡◌, ℕ, ◌+◌, ◌≤◌, ◌==◌, ◌++◌, List, length, take, drop, not, cond}
use Rattle.std.proofs.Common.{sym, ap, ◌∙◌, arith, eq-eqb, ne_eqb}
use Rattle.std.specs.List.{count_by, prefix_len}
use Rattle.std.specs.Prelude.{reverse}
use Rattle.std.proofs.lemmas.List.{take-take, take-append-drop, reverse-append, length-reverse}
use Rattle.std.proofs.lemmas.List.Folds.{prefix_len-append}
use Rattle.std.proofs.lemmas.List.Sums.{sum_by-take-drop}
use Rattle.mm_text.specs.LineNumbers.{feeds_before}
use Rattle.mm_rules.specs.Places.{bytes_since_feed, column_in}

pub feeds_between : (bytes : List ℕ) (before at : ℕ) → before ≤ at
    → feeds_before bytes before + count_by (λ b. b == 10) (drop before (take at bytes))
    ≡ feeds_before bytes at
feeds_between bytes before at le =
    rw (← take-take before at bytes le) (sum_by-take-drop _ (take at bytes) before)

since_append : (xs ys : List ℕ)
    → bytes_since_feed (xs ++ ys)
    ≡ cond (bytes_since_feed ys == length ys) (length ys + bytes_since_feed xs)
    (bytes_since_feed ys)
since_append xs ys =
    ap (prefix_len (λ b. not (b == 10))) (reverse-append xs ys)
    ∙ prefix_len-append (λ b. not (b == 10)) (reverse ys) (reverse xs)
    ∙ ap
    (λ (n : ℕ). cond (bytes_since_feed ys == n) (n + bytes_since_feed xs) (bytes_since_feed ys))
    (length-reverse ys)

since_parts : (bytes : List ℕ) (before at : ℕ) → before ≤ at
    → take before bytes ++ drop before (take at bytes) ≡ take at bytes
since_parts bytes before at le =
    rw (← take-take before at bytes le) (take-append-drop before (take at bytes))

since_at : (bytes : List ℕ) (before at : ℕ) → before ≤ at
    → bytes_since_feed (take at bytes)
    ≡ cond
    (bytes_since_feed (drop before (take at bytes)) == length (drop before (take at bytes)))
    (length (drop before (take at bytes)) + bytes_since_feed (take before bytes))
    (bytes_since_feed (drop before (take at bytes)))
since_at bytes before at le =
    ap bytes_since_feed (sym (since_parts bytes before at le))
    ∙ since_append (take before bytes) (drop before (take at bytes))

pub same_line : (bytes : List ℕ) (before at : ℕ) → before ≤ at
    → bytes_since_feed (drop before (take at bytes)) ≡ length (drop before (take at bytes))
    → column_in bytes before + bytes_since_feed (drop before (take at bytes))
    ≡ column_in bytes at
same_line bytes before at le same =
    let is = since_at bytes before at le in
    omega (arith, same, rw (eq-eqb _ _ same) at is)

pub new_line : (bytes : List ℕ) (before at : ℕ) → before ≤ at
    → ¬ (bytes_since_feed (drop before (take at bytes)) ≡ length (drop before (take at bytes)))
    → bytes_since_feed (drop before (take at bytes)) + 1 ≡ column_in bytes at
new_line bytes before at le other =
    let is = since_at bytes before at le in omega (arith, rw (ne_eqb _ _ other) at is)
