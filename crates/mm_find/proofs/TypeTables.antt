-- The table of types, with one more in it. On this file rests the contract of `Types::note`.
use Rattle.std.proofs.Common.{◌≡◌, ◌↔◌, ◌⊎◌, inl, inr, ℕ, List, [], ◌∷◌, ◌++◌, length}
use Rattle.std.proofs.Common.{Bool, true, false, cond, Option, Some, None, option_map}
use Rattle.std.proofs.Common.{refl, sym, ap, subst, ◌∙◌, arith, get_or, map, ◌<◌, ◌≤◌}
use Rattle.std.proofs.lemmas.List.{length-map}
use Rattle.mm_base.specs.Token.{PlainToken, plain_token}
use Rattle.mm_base.specs.declared.token.Token.{Token}
use Rattle.std.specs.Str.{bytes_eq}
use denote.Ref.{Bor}
use Rattle.std.proofs.lemmas.Slice.Eq.{bytes_eq-Decides}
use Rattle.std.proofs.lemmas.Bool.{false≢true}
use Rattle.indexmap.specs.IndexMap.{IndexMap, get_by}
use Rattle.std.proofs.lemmas.Option.{none-some, same_Some, slice_get_within}
use Rattle.mm_base.proofs.Lists.{get_kept, get_pushed, pushed_cases}
use Rattle.mm_frame.specs.declared.rule.MeaningRule.TheVariants.{M13}
use Rattle.mm_frame.specs.Rules.{IsMeant}
use Rattle.mm_frame.specs.Sentence.{Sentence, SomeSentence, Types}
use Rattle.mm_frame.proofs.Rules.DecidedStatements.{symbol_dec, unless_not}
use Rattle.mm_step.proofs.ProofSteps.Derivations.{same_typing}
use Rattle.mm_find.specs.declared.types.Name.{Name}
use Rattle.mm_find.specs.Variant.{AreTypeCodes}

-- ---- a statement more

some_before : (before : List Sentence) (s : Sentence) (P : Sentence → Type 0)
    → SomeSentence before P → SomeSentence (before ++ s ∷ []) P
some_before before s P (index, t, there, holds) =
    (index, t, get_kept before (s ∷ []) index t there, holds)

some_parted : (before : List Sentence) (s : Sentence) (P : Sentence → Type 0)
    → SomeSentence (before ++ s ∷ []) P → SomeSentence before P ⊎ P s
some_parted before s P (index, t, there, holds) = elim (pushed_cases before s index t there) [
  | inl earlier ↦ inl (index, t, earlier, holds)
  | inr (last, same) ↦ inr (subst P (sym same) holds)
]

-- it gives no type
pub types_kept : (before : List Sentence) (s : Sentence) (type_of : List ℕ → Option (List ℕ))
    → AreTypeCodes before type_of → ((code x : List ℕ) → ¬ (Types code x s))
    → AreTypeCodes (before ++ s ∷ []) type_of
types_kept before s type_of are none x code = (
  (λ is. some_before before s (Types code x) ((are x code).0 is)),
  (λ some. elim (some_parted before s (Types code x) some) [
    | inl earlier ↦ (are x code).1 earlier
    | inr types ↦ absurd (none code x types)
  ]),
)

-- it gives the variable a type
module _ (before : List Sentence) (s : Sentence) (own v : List ℕ) (types : Types own v s)
    (type_of next : List ℕ → Option (List ℕ)) (are : AreTypeCodes before type_of)
    (meant : IsMeant before s)
    (more : (x : List ℕ) → next x ≡ cond (bytes_eq v x) (Some own) (type_of x)) where
  -- each other `$f` of it gave it the same
  one_type : (code : List ℕ) → SomeSentence before (Types code v) → own ≡ code
  one_type code (index, t, there, earlier) =
      unless_not (symbol_dec own code)
      (λ apart. meant M13
      (own, v, types, (index, t, there, (code, earlier, (λ same. apart (sym same))))))

  same_code : (x code : List ℕ) → x ≡ v → SomeSentence before (Types code x) ⊎ Types code x s
      → own ≡ code
  same_code x code same (inl earlier) =
      one_type code (subst (λ (y : List ℕ). SomeSentence before (Types code y)) same earlier)
  same_code x code same (inr now) = (same_typing s own v code x types now).0

  here : (x code : List ℕ) → bytes_eq v x ≡ true
      → (next x ≡ Some code) ↔ SomeSentence (before ++ s ∷ []) (Types code x)
  here x code equal =
      let same : x ≡ v = sym ((bytes_eq-Decides v x).0 equal) in
      let is : next x ≡ Some own =
      more x ∙ ap (λ (b : Bool). cond b (Some own) (type_of x)) equal in (
        (λ told. (
          length before,
          s,
          get_pushed before s,
          subst (λ (y : List ℕ). Types code y s) (sym same)
              (subst (λ (c : List ℕ). Types c v s) (same_Some own code (sym is ∙ told)) types),
        )),
        (λ some. is ∙ ap Some (same_code x code same (some_parted before s (Types code x) some))),
      )

  other_code : (x code : List ℕ) → bytes_eq v x ≡ false
      → SomeSentence before (Types code x) ⊎ Types code x s → type_of x ≡ Some code
  other_code x code unequal (inl earlier) = (are x code).1 earlier
  other_code x code unequal (inr now) =
      absurd (false≢true (sym unequal ∙ (bytes_eq-Decides v x).1 (same_typing s own v code x types now).1))

  elsewhere : (x code : List ℕ) → bytes_eq v x ≡ false
      → (next x ≡ Some code) ↔ SomeSentence (before ++ s ∷ []) (Types code x)
  elsewhere x code unequal =
      let is : next x ≡ type_of x =
      more x ∙ ap (λ (b : Bool). cond b (Some own) (type_of x)) unequal in (
        (λ told. some_before before s (Types code x) ((are x code).0 (sym is ∙ told))),
        (λ some. is ∙ other_code x code unequal (some_parted before s (Types code x) some)),
      )

  pub types_more : AreTypeCodes (before ++ s ∷ []) next
  types_more x code = go (bytes_eq v x) refl
    where
      go : (b : Bool) → bytes_eq v x ≡ b
          → (next x ≡ Some code) ↔ SomeSentence (before ++ s ∷ []) (Types code x)
      go true e = here x code e
      go false e = elsewhere x code e

-- ---- the table

-- the table with one more in it has that one, and else what it had
pub looked_up : {S : Type 0} (old new : IndexMap Name (Bor (List ℕ)) S) (v : List ℕ)
    (code : Bor (List ℕ))
    → ((name : Name) → get_by (λ other. bytes_eq name.0.now other.0.now) new
    ≡ cond (bytes_eq v name.0.now) (Some code)
    (get_by (λ other. bytes_eq name.0.now other.0.now) old))
    → (x : List ℕ)
    → option_map (λ c. c.now) (get_by (λ name. bytes_eq x name.0.now) new)
    ≡ cond (bytes_eq v x) (Some code.now)
    (option_map (λ c. c.now) (get_by (λ name. bytes_eq x name.0.now) old))
looked_up old new v code updates x =
    let spelled : Bor (List ℕ) = record code { now = x } in
    let name : Name = record { 0 = spelled } in
    ap (option_map (λ (c : Bor (List ℕ)). c.now)) (updates name)
    ∙ by_choice (bytes_eq v x) (get_by (λ (n : Name). bytes_eq x n.0.now) old)
  where
    by_choice : (b : Bool) (o : Option (Bor (List ℕ)))
        → option_map (λ (c : Bor (List ℕ)). c.now) (cond b (Some code) o)
        ≡ cond b (Some code.now) (option_map (λ (c : Bor (List ℕ)). c.now) o)
    by_choice true o = refl
    by_choice false o = refl

-- the empty table has none
pub no_types : (type_of : List ℕ → Option (List ℕ)) → ((x : List ℕ) → type_of x ≡ None)
    → AreTypeCodes [] type_of
no_types type_of none x code = (
  (λ is. absurd (none-some code (sym (none x) ∙ is))),
  (λ (index, s, there, types). absurd (omega (arith, slice_get_within [] index s there))),
)

-- ---- the two symbols of a `$f`

pub two_there : (symbols : List Token) (d e : Token) → 2 ≤ length symbols → length symbols < 3
    → symbols ≡ get_or symbols 0 d ∷ get_or symbols 1 e ∷ []
two_there [] d e some few = absurd (omega (arith, some))
two_there (a ∷ []) d e some few = absurd (omega (arith, some))
two_there (a ∷ b ∷ []) d e some few = refl
two_there (a ∷ b ∷ c ∷ symbols) d e some few = absurd (omega (arith, few))

abbrev words : List Token → List (List ℕ)
words symbols = map (λ (t : PlainToken). t.text) (map plain_token symbols)

-- another count of symbols is no typing
pub not_two : (symbols : List Token) (s : Sentence) → s.symbols ≡ words symbols
    → ¬ (length symbols ≡ 2) → (code x : List ℕ) → ¬ (Types code x s)
not_two symbols s same other code x types =
    let count : length (words symbols) ≡ 2 =
    ap (λ (ss : List (List ℕ)). length ss) (sym same ∙ types.1) in
    other (
    sym (length-map symbols plain_token)
    ∙ sym (length-map (map plain_token symbols) (λ (t : PlainToken). t.text)) ∙ count
    )
