-- The changes that are tried, one place after the other.
use Rattle.std.proofs.Common.{◌≡◌, ℕ, zero, suc, ◌+◌, ◌-◌, List, [], ◌∷◌, ◌++◌, ap, sym, ◌∙◌, arith}
use Rattle.std.proofs.Common.{append_assoc, append-nil}
use Rattle.std.specs.List.{flat_map, range_with_len}
use Rattle.mm_mend.specs.Mend.{byte_changes, changes_at}
use Rattle.mm_mend.specs.declared.change.Change.{Change}

range_more : (a n : ℕ) → range_with_len a (suc n) ≡ range_with_len a n ++ (a + n) ∷ []
range_more a zero = let same : a ≡ a + 0 = omega arith in ap (λ (m : ℕ). m ∷ []) same
range_more a (suc n) =
    let same : a + 1 + n ≡ a + suc n = omega arith in
    ap (λ (l : List ℕ). a ∷ l)
    (range_more (a + 1) n ∙ ap (λ (m : ℕ). range_with_len (a + 1) n ++ m ∷ []) same)

flat_push : (f : ℕ → List Change) (xs : List ℕ) (x : ℕ)
    → flat_map f (xs ++ x ∷ []) ≡ flat_map f xs ++ f x
flat_push f [] x = append-nil (f x)
flat_push f (y ∷ xs) x =
    ap (λ (l : List Change). f y ++ l) (flat_push f xs x)
    ∙ sym (append_assoc (f y) (flat_map f xs) (f x))

-- at one place more
pub byte_changes_more : (count reach : ℕ) (text : List ℕ)
    → byte_changes (count + 1) reach text
    ≡ byte_changes count reach text ++ changes_at text (reach - count)
byte_changes_more count reach text =
    let f : ℕ → List Change = λ i. changes_at text (reach - i) in
    let same : 0 + count ≡ count = omega arith in
    let next : count + 1 ≡ suc count = omega arith in
    ap (λ (n : ℕ). byte_changes n reach text) next
    ∙ ap (λ (l : List ℕ). flat_map f l) (range_more 0 count)
    ∙ flat_push f (range_with_len 0 count) (0 + count)
    ∙ ap (λ (m : ℕ). flat_map f (range_with_len 0 count) ++ f m) same
