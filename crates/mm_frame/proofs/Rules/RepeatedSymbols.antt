-- The symbols of a statement as its tokens spell them, and which of them repeat.
use Rattle.std.proofs.Common.{◌≡◌, ◌↔◌, IsTrue, Any, ℕ, ◌<◌, length, Bool, true, false, List, map}
use Rattle.std.proofs.Common.{Option, Some, inl, inr, refl, sym, ◌∙◌, ap, subst, arith, MatchBool}
use Rattle.std.proofs.Common.{MatchOption, option_map, ◌⊎◌, Contains, [], ◌∷◌, slice_get, suc, ◌+◌}
use Rattle.std.proofs.Common.{is_some, get_or, take, ◌++◌, None}
use Rattle.std.specs.List.{slice_index_or, FoldsTo, HoldsAt, AllWithin}
use Rattle.std.specs.Iterator.{YieldsThen}
use Rattle.std.specs.Fn.{Called}
use denote.Param.Members.{Mut}
use Rattle.std.proofs.lemmas.Option.{slice_get-map, slice_get_read, slice_get_cases}
use Rattle.std.proofs.lemmas.Option.{slice_get-get_or}
use Rattle.std.proofs.lemmas.Iterator.{YieldsList, cases_from_any}
use Rattle.mm_base.specs.declared.token.Token.{Token}
use Rattle.mm_base.specs.Token.{plain_token}
use Rattle.mm_frame.specs.Sentence.{Sentence, StandsTwice}
use Rattle.mm_frame.specs.Rules.{SomeSymbol}
use Rattle.mm_base.proofs.Lists.{at_from_contains, contains_from_at, take_next, get_from_take}
use Rattle.mm_frame.specs.Numbers.{with_name}
use Rattle.mm_frame.proofs.Names.NameNumbers.{with_name_cases, get_mapped}

-- ==== between the elements that code walks over and what is said by them, index by index

-- some element is so, by its index
abbrev pub SomeAt : {X : Type 0} → List X → (X → Type 0) → Type 0
SomeAt {X} xs P = (index : ℕ) × (x : X) × (slice_get xs index ≡ Some x) × P x

-- the element of which it is said
pub said_at : {X Y : Type 0} (v : X → Y) (P : Y → Type 0) (xs : List X) (k : ℕ) (y : Y) → slice_get (map v xs) k ≡ Some y → P y → (x : X) × (k < length xs) × (slice_index_or xs k x ≡ x) × P (v x)
said_at v P xs k y there p =
    elim (slice_get_cases xs k).1 [
      | inl (x, lt, at, is) ↦
          let same : v x ≡ y = let e = slice_get-map v xs k in cc in
          (x, lt, is, subst P (sym same) p)
      | inr (le, none) ↦ absurd (let e = slice_get-map v xs k in cc)
    ]

any_from_cases : {X : Type 0} (P : X → Type 0) (xs : List X) (r : Bool) → MatchBool r ((k : ℕ) × (k < length xs) × HoldsAt P xs k) (AllWithin (λ x. ¬ (P x)) xs 0 (length xs)) → IsTrue r ↔ Any P xs
any_from_cases P xs true (k, lt, holds) =
    let here = elim (slice_get_cases xs k).1 as (λ _. Any P xs) [
      | inl (x, in_range, there, at) ↦ (k, x, lt, at, subst P at (holds x))
      | inr (past, none) ↦ absurd (omega arith)
    ] in
    ((λ _. here), (λ _. refl))
any_from_cases P xs false h = ((λ t. absurd (cc t)), (λ (k, x, lt, is, p). absurd (h k x (omega arith) lt (subst P (sym is) p))))

-- what `any` answers, where the closure answers whether P holds of what is said by the element
pub some_says : {S A B F Y : Type 0} {steps : S → Option A → S → Type 0} {v : A → B} {g : Mut F (A × Unit {0}) Bool} {s : S} {all : List B} (w : B → Y) (P : Y → Type 0) (u : S) (f : F) (r : Bool)
    → (xs : List A) × (o : Option A) × (j : F) × YieldsThen steps s xs o u × FoldsTo (λ p x q. Called g p (x, tt) false q) f xs j × MatchOption o (r ≡ false) (λ x. (r ≡ true) × ((h : F) × Called g j (x, tt) true h))
    → YieldsList steps v s all → ((x : A) (b : Bool) (q : F) → Called g f (x, tt) b q → (q ≡ f) × (IsTrue b ↔ P (w (v x)))) → IsTrue r ↔ SomeAt (map w all) P
some_says {all = all} w P u f r ran list calls =
    let any = any_from_cases (λ x. P (w x)) all r
    (cases_from_any u f r (λ x. P (w x)) (λ x. ¬ (P (w x))) ran list
    (λ x q k. (calls x true q k).1.0 refl)
    (λ x q k. ((calls x false q k).0, λ p. absurd (cc ((calls x false q k).1.1 p))))) in (
      (λ t. let (k, x, lt, is, p) = any.0 t in (
        k,
        w x,
        slice_get-map w all k
            ∙ ap (option_map w) (slice_get_read all (length all) k x refl lt (sym is)),
        p,
      )),
      (λ (k, y, there, p). let (x, lt, is, q) = said_at w P all k y there p in any.1 (k, x, lt, is, q)),
    )

-- ==== the symbols of a statement, as its tokens spell them

-- some symbol among these tokens is so
abbrev pub SomeToken : List Token → (List ℕ → Type 0) → Type 0
SomeToken tokens P = (symbol : List ℕ) × Contains (map (λ t. t.text) (map plain_token tokens)) symbol × P symbol

pub texts : (tokens : List Token) → map (λ t. t.text) (map plain_token tokens) ≡ map (λ t. t.text.now) tokens
texts [] = refl
texts (t ∷ tokens) = ap (λ ts. t.text.now ∷ ts) (texts tokens)

-- what `any` answers over the tokens of symbols, where the closure answers whether P holds of the symbol
pub symbol_says : {S A F : Type 0} {steps : S → Option A → S → Type 0} {v : A → Token} {g : Mut F (A × Unit {0}) Bool} {s : S} {all : List Token} (P : List ℕ → Type 0) (u : S) (f : F) (r : Bool)
    → (xs : List A) × (o : Option A) × (j : F) × YieldsThen steps s xs o u × FoldsTo (λ p x q. Called g p (x, tt) false q) f xs j × MatchOption o (r ≡ false) (λ x. (r ≡ true) × ((h : F) × Called g j (x, tt) true h))
    → YieldsList steps v s all → ((x : A) (b : Bool) (q : F) → Called g f (x, tt) b q → (q ≡ f) × (IsTrue b ↔ P ((v x).text.now))) → IsTrue r ↔ SomeToken all P
symbol_says {all = all} P u f r ran list calls =
    let said = some_says (λ (t : Token). t.text.now) P u f r ran list calls in
    let Q : List (List ℕ) → Type 0 = λ xs. (x : List ℕ) × Contains xs x × P x in (
      (λ t. let (k, x, there, p) = said.0 t in
          subst Q (sym (texts all)) (x, contains_from_at _ x (k, there), p)),
      (λ q. let (x, in_it, p) = subst Q (texts all) q in
          let (k, there) = at_from_contains _ x in_it in said.1 (k, x, there, p)),
    )

-- a test that holds, and then another
pub with_test : {K Q : Type 0} (r : Bool) → K → (IsTrue r ↔ Q) → IsTrue r ↔ (K × Q)
with_test r k h = ((λ t. (k, h.0 t)), (λ q. h.1 q.1))

-- where no symbol stands twice, that alternative adds nothing
pub none_twice : (symbols : List (List ℕ)) (A B Twice : List ℕ → Type 0) (r : Bool) → ¬ ((x : List ℕ) × Contains symbols x × Twice x)
    → (IsTrue r ↔ ((x : List ℕ) × Contains symbols x × (A x ⊎ B x))) → IsTrue r ↔ ((x : List ℕ) × Contains symbols x × (A x ⊎ B x ⊎ Twice x))
none_twice symbols A B Twice r once h = ((λ t. more (h.0 t)), (λ q. h.1 (fewer q)))
  where
    more : (x : List ℕ) × Contains symbols x × (A x ⊎ B x) → (x : List ℕ) × Contains symbols x × (A x ⊎ B x ⊎ Twice x)
    more (x, there, inl a) = (x, there, inl a)
    more (x, there, inr b) = (x, there, inr (inl b))

    fewer : (x : List ℕ) × Contains symbols x × (A x ⊎ B x ⊎ Twice x) → (x : List ℕ) × Contains symbols x × (A x ⊎ B x)
    fewer (x, there, inl a) = (x, there, inl a)
    fewer (x, there, inr (inl b)) = (x, there, inr b)
    fewer (x, there, inr (inr t)) = absurd (once (x, there, t))

-- what a test that failed tells of isn't so
pub not_so : {P : Type 0} (r : Bool) → r ≡ false → (IsTrue r ↔ P) → ¬ P
not_so true e h p = absurd (cc)
not_so false e h p = absurd (cc (h.1 p))

-- ==== a symbol that stands twice in a statement

-- what stands at two indices stands twice
pub twice_some : (s : Sentence) (x : List ℕ) (i j : ℕ) → i < j → slice_get s.symbols i ≡ Some x → slice_get s.symbols j ≡ Some x → SomeSymbol s (StandsTwice s.symbols)
twice_some s x i j lt at_i at_j = (x, contains_from_at s.symbols x (i, at_i), record { i = i; j = j; apart = lt; at_i = at_i; at_j = at_j })

-- ==== names that are read one after the other, until one comes again

-- the texts of tokens
abbrev pub texts_of : List Token → List (List ℕ)
texts_of tokens = map (λ t. t.text.now) tokens

pub text_at : (tokens : List Token) (i : ℕ) (d : Token) → i < length tokens → slice_get (texts_of tokens) i ≡ Some (get_or tokens i d).text.now
text_at tokens i d lt =
    get_mapped (λ (t : Token). t.text.now) tokens i (get_or tokens i d) (slice_get-get_or tokens i d lt)

-- a name that was among the ones before stands twice
pub found_again : (tokens : List Token) (i : ℕ) (d : Token) (names : List (List ℕ)) (o : Option ℕ) (r : Bool) → i < length tokens → names ≡ take i (texts_of tokens)
    → r ≡ is_some o → r ≡ true → MatchOption o (¬ (Contains names (get_or tokens i d).text.now)) (λ n. slice_get names n ≡ Some (get_or tokens i d).text.now)
    → (x : List ℕ) × StandsTwice (texts_of tokens) x
found_again tokens i d names None r lt are is so h = absurd (cc)
found_again tokens i d names (Some n) r lt are is so h =
    let x = (get_or tokens i d).text.now in
    let (apart, at) = get_from_take (texts_of tokens) i _ _ (rw are at h) in
    (x, record { i = n; j = i; apart = apart; at_i = at; at_j = text_at tokens i d lt })

-- a new name goes last
pub new_name : (tokens : List Token) (i : ℕ) (d : Token) (names : List (List ℕ)) (o : Option ℕ) (r : Bool) → i < length tokens → names ≡ take i (texts_of tokens)
    → r ≡ is_some o → r ≡ false → MatchOption o (¬ (Contains names (get_or tokens i d).text.now)) (λ n. slice_get names n ≡ Some (get_or tokens i d).text.now)
    → with_name names (get_or tokens i d).text.now ≡ take (i + 1) (texts_of tokens)
new_name tokens i d names (Some n) r lt are is not_so h = absurd (cc)
new_name tokens i d names None r lt are is not_so h =
    let x = (get_or tokens i d).text.now in
    let next : suc i ≡ i + 1 = omega arith in
    let longer : take (i + 1) (texts_of tokens) ≡ take i (texts_of tokens) ++ x ∷ [] = rw (← next) (take_next (texts_of tokens) i x (text_at tokens i d lt)) in
    elim (with_name_cases names x) [
      | inl (found, same) ↦ absurd (h (contains_from_at names x found))
      | inr (absent, pushed) ↦ pushed ∙ ap (λ ns. ns ++ x ∷ []) are ∙ sym longer
    ]

-- what stands twice among the texts stands twice in the statement
pub twice_told : (tokens : List Token) (r : Bool) → (IsTrue r ↔ ((x : List ℕ) × StandsTwice (texts_of tokens) x))
    → IsTrue r ↔ ((x : List ℕ) × Contains (map (λ t. t.text) (map plain_token tokens)) x × StandsTwice (map (λ t. t.text) (map plain_token tokens)) x)
twice_told tokens r h =
    let Q : List (List ℕ) → Type 0 = λ xs. (x : List ℕ) × Contains xs x × StandsTwice xs x in (
      (λ t. let (x, twice) = h.0 t in subst Q (sym (texts tokens)) (x, contains_from_at (texts_of tokens) x (twice.i, twice.at_i), twice)),
      (λ q. let (x, there, twice) = subst Q (texts tokens) q in h.1 (x, twice)),
    )
