-- The different variables of a list of symbols, by numbers.
use Rattle.std.proofs.Common.{◌≡◌, ℕ, ◌+◌, ◌<◌, List, [], ◌∷◌, ◌++◌, length, map, take, get_or}
use Rattle.std.proofs.Common.{option_map, slice_get, Contains, Option, Some, None, Bool}
use Rattle.std.proofs.Common.{false, IsTrue}
use Rattle.std.proofs.Common.{◌↔◌, ◌⊎◌, refl, sym, ap, subst, ◌∙◌}
use Rattle.std.proofs.lemmas.Bool.{false≢true}
use Rattle.std.proofs.lemmas.Option.{same_Some, none-some, slice_get-map}
use Rattle.std.proofs.lemmas.List.{take_more, map-append}
use Rattle.std.proofs.lemmas.List.Elements.{Contains-push, Contains-push_cases}
use Rattle.std.proofs.lemmas.List.Elements.{Contains-append_left}
use Rattle.mm_base.proofs.Lists.{contains_from_at, at_from_contains}
use Rattle.mm_frame.specs.declared.number.Sym.{Sym}
use Rattle.mm_frame.specs.Sentence.{Sentence}
use Rattle.mm_frame.specs.Active.{IsVariable}
use Rattle.mm_frame.specs.Numbers.{symbols_of, IsNumberOf}
use Rattle.mm_step.specs.Stores.{numbers_in}
use Rattle.mm_step.specs.Mirror.CodeVerify.{name_at}
use Rattle.mm_step.specs.Mirror.CodeAsked.{IsVariableNumber}
use Rattle.mm_step.proofs.ByNumbers.NumberedSymbols.{number_of_name}

-- ==== tests

pub not_true : (b : Bool) → b ≡ false → ¬ (IsTrue b)
not_true b is t = false≢true (sym is ∙ t)

-- what is told of a number tells whether it is that of a variable
pub variable_number : (st : List Sentence) (n : ℕ) (r : Bool)
    → ((x : List ℕ) → IsNumberOf st x n → IsTrue r ↔ IsVariable st x)
    → (IsTrue r → n < length (symbols_of st)) → IsTrue r ↔ IsVariableNumber st n
variable_number st n r told known = (
  λ t.
      let number = number_of_name st n (known t) in
      (name_at st n, number, (told (name_at st n) number).0 t),
  λ v. (told v.0 v.1).1 v.2,
)

-- ==== lists with one element more

pub symbol_pushed : (old new : List Sym) (s : Sym) → new ≡ old ++ s ∷ []
    → numbers_in new ≡ numbers_in old ++ s.0 ∷ []
symbol_pushed old new s is = ap numbers_in is ∙ map-append (λ (x : Sym). x.0) old (s ∷ [])

-- the elements up to an index, and the one there
module _ (ns : List ℕ) (i : ℕ) (less : i < length ns) where
  pub taken_more : (n : ℕ) → Contains (take (i + 1) ns) n → Contains (take i ns) n
      ⊎ (get_or ns i 0 ≡ n)
  taken_more n c =
      Contains-push_cases (take i ns) (get_or ns i 0) n
      (subst (λ l. Contains l n) (take_more ns i 0 less) c)

  pub more_taken : (n : ℕ) → Contains (take i ns) n → Contains (take (i + 1) ns) n
  more_taken n c = subst (λ l. Contains l n) (sym (take_more ns i 0 less))
      (Contains-append_left (take i ns) (get_or ns i 0 ∷ []) n c)

  pub last_taken : Contains (take (i + 1) ns) (get_or ns i 0)
  last_taken = subst (λ l. Contains l (get_or ns i 0)) (sym (take_more ns i 0 less))
      (Contains-push (take i ns) (get_or ns i 0))

-- ==== what stands in a list whose elements were mapped

module _ {A B : Type 0} (f : A → B) (xs : List A) where
  pub mapped_at : (i : ℕ) (y : B) → slice_get (map f xs) i ≡ Some y
      → (x : A) × (slice_get xs i ≡ Some x) × (f x ≡ y)
  mapped_at i y there = go (slice_get xs i) refl
    where
      go : (o : Option A) → slice_get xs i ≡ o → (x : A) × (slice_get xs i ≡ Some x) × (f x ≡ y)
      go None is = absurd (none-some y
          (sym (ap (option_map f) is) ∙ sym (slice_get-map f xs i) ∙ there))
      go (Some x) is = (
        x,
        is,
        same_Some (f x) y
            (sym (ap (option_map f) is) ∙ sym (slice_get-map f xs i) ∙ there),
      )

  pub contains_mapped : (x : A) → Contains xs x → Contains (map f xs) (f x)
  contains_mapped x c =
      let at = at_from_contains xs x c in
      contains_from_at (map f xs) (f x) (at.0, slice_get-map f xs at.0 ∙ ap (option_map f) at.1)

  pub mapped_contains : (y : B) → Contains (map f xs) y → (x : A) × Contains xs x × (f x ≡ y)
  mapped_contains y c =
      let at = at_from_contains (map f xs) y c in
      let x = mapped_at at.0 y at.1 in
      (x.0, contains_from_at xs x.0 (at.0, x.1), x.2)
