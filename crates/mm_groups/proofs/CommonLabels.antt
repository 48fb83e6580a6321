-- Labels as keys of a set, and what several lists of labels share. The contracts of `common.rt` and
-- `shared.rt` rest on it.
use Rattle.std.proofs.Common.{◌≡◌, ℕ, List, [], ◌∷◌, ◌++◌, filter, Bool, true, false, ◌&&◌, ◌||◌}
use Rattle.std.proofs.Common.{cond, refl, sym, ap, ◌∙◌}
use Rattle.std.specs.List.{list_all}
use Rattle.std.specs.Str.{bytes_eq}
use Rattle.std.specs.Cmp.Lexicographic.{nat_list_eq_equiv}
use Rattle.std.proofs.lemmas.List.Folds.{list_any-append, list_all-append}
use Rattle.mm_groups.specs.Shared.{is_in, shared_in}

-- ---- one more label in a set

pub same_turned : (a b : List ℕ) → bytes_eq a b ≡ bytes_eq b a
same_turned a b = nat_list_eq_equiv.symm a b

one_more : (b old : Bool) → cond b true old ≡ (old || (b || false))
one_more true true = refl
one_more true false = refl
one_more false true = refl
one_more false false = refl

pub in_more : (front : List (List ℕ)) (k q : List ℕ) (old new : Bool)
    → new ≡ cond (bytes_eq k q) true old → old ≡ is_in front q
    → new ≡ is_in (front ++ k ∷ []) q
in_more front k q old new is so_far =
    is ∙ ap (λ (b : Bool). cond b true old) (same_turned k q) ∙ one_more (bytes_eq q k) old
    ∙ ap (λ (b : Bool). b || (bytes_eq q k || false)) so_far
    ∙ sym (list_any-append (bytes_eq q) front (k ∷ []))

-- ---- what is shared with one more list

-- what passes both tests passes the one after the other
filter_both : (p q r : List ℕ → Bool) → ((l : List ℕ) → r l ≡ (p l && q l)) → (ls : List (List ℕ))
    → filter r ls ≡ filter q (filter p ls)
filter_both p q r is [] = refl
filter_both p q r is (l ∷ ls) = step (filter_both p q r is ls) (p l) (q l) refl refl
  where
    step : filter r ls ≡ filter q (filter p ls) → (a b : Bool) → p l ≡ a → q l ≡ b
        → cond (r l) (l ∷ filter r ls) (filter r ls)
        ≡ filter q (cond (p l) (l ∷ filter p ls) (filter p ls))
    step rest true true e f =
        rw (is l, e, f) (ap (λ (others : List (List ℕ)). l ∷ others) rest)
    step rest true false e f = rw (is l, e, f) rest
    step rest false b e f = rw (is l, e) rest

and_true : (b : Bool) → (b && true) ≡ b
and_true true = refl
and_true false = refl

pub shared_more : (first : List (List ℕ)) (others : List (List (List ℕ))) (last : List (List ℕ))
    → shared_in ((first ∷ others) ++ last ∷ []) ≡ filter (is_in last) (shared_in (first ∷ others))
shared_more first others last =
    filter_both (λ (l : List ℕ). list_all (λ (o : List (List ℕ)). is_in o l) others) (is_in last)
    (λ (l : List ℕ). list_all (λ (o : List (List ℕ)). is_in o l) (others ++ last ∷ []))
    (λ l. list_all-append (λ (o : List (List ℕ)). is_in o l) others (last ∷ [])
    ∙ ap (λ (b : Bool). list_all (λ (o : List (List ℕ)). is_in o l) others && b)
    (and_true (is_in last l))) first

-- one list alone
pub shared_alone : (labels : List (List ℕ)) → shared_in (labels ∷ []) ≡ labels
shared_alone [] = refl
shared_alone (l ∷ ls) = ap (λ (rest : List (List ℕ)). l ∷ rest) (shared_alone ls)
