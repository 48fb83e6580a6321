-- The variables that two expressions share, and the pairs of variables that are missing, as lists,
-- by numbers and by names.
use Rattle.std.proofs.Common.{◌≡◌, ℕ, ◌+◌, ◌<◌, List, [], ◌∷◌, ◌++◌, length, map, take, get_or}
use Rattle.std.proofs.Common.{Contains, Bool, true}
use Rattle.std.proofs.Common.{false, IsTrue}
use Rattle.std.proofs.Common.{not}
use Rattle.std.proofs.Common.{◌↔◌, inl, inr, ⊎_elim, refl, sym, ap, subst, ◌∙◌}
use Rattle.std.proofs.lemmas.Bool.{false≢true}
use Rattle.std.proofs.lemmas.Option.{slice_get_within}
use Rattle.std.proofs.lemmas.List.{map-append}
use Rattle.std.proofs.lemmas.List.Elements.{Contains-push, Contains-push_cases}
use Rattle.std.proofs.lemmas.List.Elements.{Contains-append_left}
use Rattle.mm_base.proofs.Lists.{contains_from_at, all_within}
use Rattle.mm_frame.specs.declared.number.Sym.{Sym}
use Rattle.mm_base.specs.declared.statement.Kind.TheVariants.{Constants}
use Rattle.mm_frame.specs.Sentence.{Sentence, Declares}
use Rattle.mm_frame.specs.Active.{IsVariable}
use Rattle.mm_frame.specs.Frame.{IsDistinct}
use Rattle.mm_frame.specs.Rules.{AllMeant}
use Rattle.mm_frame.specs.Numbers.{symbols_of, IsNumberOf, AreNumbers}
use Rattle.mm_frame.specs.Laws.{OneNumber}
use Rattle.mm_frame.proofs.Rules.ObeyedRules.{some_later, one_role}
use Rattle.mm_frame.proofs.Names.NameNumbers.{once_pushed}
use Rattle.mm_proof.specs.Asked.{AreDeclared}
use Rattle.mm_step.specs.Mirror.CodeVerify.{name_at, names_at, AreBelow}
use Rattle.mm_step.specs.Mirror.CodeAsked.{IsVariableNumber, PutsOnce, AreOnce}
use Rattle.mm_step.specs.Mirror.CodeAsked.{AreSharedNumbers}
use Rattle.mm_step.specs.Mirror.CodeRun.{DoRise}
use Rattle.mm_step.specs.Mirror.CodeAsked.{IsMissingPair, HasEither, AreSamePairs, number_pairs}
use Rattle.mm_step.specs.Mirror.CodeAsked.{AddsMissing, AreMissingNumbers}
use Rattle.mm_proof.proofs.Members.{only_one}
use Rattle.mm_step.proofs.ByNumbers.NumberedSymbols.{name_is, named_is, number_of_name}
use Rattle.mm_step.proofs.ByNumbers.NumberedSymbols.{below_is, within_at}
use Rattle.mm_step.proofs.ByNumbers.SharedVariables.{has_named, number_among}
use Rattle.mm_step.proofs.ByNumbers.SharedVariables.{named_has}
use Rattle.mm_proof.proofs.ProofNumbers.NumbersNamed.{numbers_named}
use Rattle.mm_step.proofs.ByNumbers.VariablesOfLists.{contains_mapped, last_taken, mapped_contains, more_taken, taken_more}

-- ==== shared variables

-- ---- by numbers

-- one number more
pub once_more : (P : ℕ → Type 0) (e old new : List ℕ) (i : ℕ) → i < length e
    → PutsOnce (P (get_or e i 0)) (Contains old (get_or e i 0)) old (get_or e i 0) new
    → AreOnce P (take i e) old → AreOnce P (take (i + 1) e) new
once_more P e old new i less puts are = elim puts [
  | inl (not, same) ↦ subst (AreOnce P (take (i + 1) e)) (sym same) (kept (λ p. absurd (not p)))
  | inr (inl (is, there, same)) ↦
      subst (AreOnce P (take (i + 1) e)) (sym same) (kept (λ p. there))
  | inr (inr (is, none, pushed)) ↦ subst (AreOnce P (take (i + 1) e)) (sym pushed) (record {
    each = λ n. (
      λ c. elim (Contains-push_cases old last n c) [
        | inl before ↦ longer n ((are.each n).0 before)
        | inr same ↦ subst (λ m. P m × Contains (take (i + 1) e) m) same
            (is, last_taken e i less)
      ],
      λ h. elim (taken_more e i less n h.1) [
        | inl before ↦ Contains-append_left old (last ∷ []) n ((are.each n).1 (h.0, before))
        | inr same ↦ subst (Contains (old ++ last ∷ [])) same (Contains-push old last)
      ],
    );
    once = once_pushed old last are.once (λ at. none (contains_from_at old last at));
  })
]
  where
    last : ℕ
    last = get_or e i 0

    longer : (n : ℕ) → P n × Contains (take i e) n → P n × Contains (take (i + 1) e) n
    longer n h = (h.0, more_taken e i less n h.1)

    kept : (P last → Contains old last) → AreOnce P (take (i + 1) e) old
    kept there = record {
      each = λ n. (
        λ c. longer n ((are.each n).0 c),
        λ h. elim (taken_more e i less n h.1) [
          | inl before ↦ (are.each n).1 (h.0, before)
          | inr same ↦ subst (Contains old) same (there (subst P (sym same) h.0))
        ],
      );
      once = are.once;
    }

-- the variables of the one that are variables of the other are those that both share, and so they
-- are in another order
pub shared_of : (st : List Sentence) (e f first second those shared : List ℕ)
    → AreOnce (IsVariableNumber st) e first → AreOnce (IsVariableNumber st) f second
    → AreOnce (Contains second) first those
    → ((n : ℕ) → Contains shared n ↔ Contains those n) → DoRise shared
    → AreSharedNumbers st e f shared
shared_of st e f first second those shared in_e in_f picked same rising = record {
  each = λ n. (
    λ c.
        let h = (picked.each n).0 ((same n).0 c) in
        let v = (in_e.each n).0 h.1 in
        (v.0, v.1, ((in_f.each n).0 h.0).1),
    λ h. (same n).1 ((picked.each n).1
        ((in_f.each n).1 (h.0, h.2), (in_e.each n).1 (h.0, h.1))),
  );
  rising = rising;
}

-- ---- by names

module _ (one : OneNumber) (st : List Sentence) (index : ℕ) (all : AllMeant st) where
  -- a declared symbol that is a variable of all statements is one of those before
  pub declared_variable : (x : List (List ℕ)) (u : List ℕ) → AreDeclared (take index st) x
      → Contains x u
      → IsVariable st u → IsVariable (take index st) u
  declared_variable x u declared has variable = ⊎_elim
      (λ c. absurd (one_role st u all (some_later st index (Declares Constants u) c) variable))
      (λ v. v) (declared u has)

  -- the name of a number that stands among these
  pub has_name : (ns : List ℕ) (xs : List (List ℕ)) (n : ℕ) → AreNumbers st ns xs → Contains ns n
      → Contains xs (name_at st n)
  has_name ns xs n are c = subst (λ l. Contains l (name_at st n)) (named_is st ns xs are)
      (named_has st ns n c)

  -- the number of a name that stands among these
  pub has_number : (ns : List ℕ) (xs : List (List ℕ)) (u : List ℕ) → AreNumbers st ns xs → Contains xs u
      → (n : ℕ) × Contains ns n × IsNumberOf st u n
  has_number ns xs u are c =
      let k = has_named st ns u (subst (λ l. Contains l u) (sym (named_is st ns xs are)) c) in
      let less = all_at_number ns (below_is st ns xs are) k.0 k.1 in (
        get_or ns k.0 0,
        number_among ns k.0 k.1,
        subst (λ x. IsNumberOf st x (get_or ns k.0 0)) k.2 (number_of_name st _ less),
      )
    where
      all_at_number : (ns : List ℕ) → AreBelow st ns → (k : ℕ) → k < length ns
          → get_or ns k 0 < length (symbols_of st)
      all_at_number ns below k less = within_at (λ n. n < length (symbols_of st)) ns k 0 below less

-- ==== missing pairs

-- ---- by numbers

-- what is told of the pair of two variables tells whether it is missing
pub missing_told : (st : List Sentence) (index m n : ℕ) (r : Bool) → IsVariableNumber st m
    → IsVariableNumber st n → (m ≡ n → ⊥)
    → ((x y : List ℕ) → IsNumberOf st x m → IsNumberOf st y n
    → IsTrue r ↔ IsDistinct (take index st) x y)
    → IsTrue (not r) ↔ IsMissingPair st index m n
missing_told st index m n true first second differ told = (
  λ t. absurd (false≢true t),
  λ p. absurd (p.inactive first.0 second.0 first.1 second.1
      ((told first.0 second.0 first.1 second.1).0 refl)),
)
missing_told st index m n false first second differ told = (
  λ t. record {
    first = first;
    second = second;
    differ = differ;
    inactive =
        λ x y p q d. false≢true ((told x y p q).1 d);
  },
  λ p. refl,
)

abbrev pub numbers_of : Sym × Sym → ℕ × ℕ
numbers_of p = (p.0.0, p.1.0)

pub pair_pushed : (old new : List (Sym × Sym)) (p : Sym × Sym) → new ≡ old ++ p ∷ []
    → number_pairs new ≡ number_pairs old ++ (p.0.0, p.1.0) ∷ []
pair_pushed old new p is = ap number_pairs is ∙ map-append numbers_of old (p ∷ [])

pub more_either : (old new : List (ℕ × ℕ)) (p : ℕ × ℕ) → ((q : ℕ × ℕ) → Contains old q
    → Contains new q)
    → HasEither old p → HasEither new p
more_either old new p kept (inl c) = inl (kept p c)
more_either old new p kept (inr c) = inr (kept (p.1, p.0) c)

-- a pair that isn't missing
pub adds_none : (st : List Sentence) (index m n : ℕ) (old : List (ℕ × ℕ))
    → ¬ (IsMissingPair st index m n) → AddsMissing st index m (n ∷ []) old old
adds_none st index m n old not = record {
  kept = λ p c. c;
  only = λ p c. inl c;
  each = λ k p c. absurd (not (subst (IsMissingPair st index m) (sym (only_one n k c)) p));
}

-- a missing pair, which was put behind the others
pub adds_pair : (st : List Sentence) (index m n : ℕ) (old before new : List (ℕ × ℕ))
    → IsMissingPair st index m n → AreSamePairs old before → new ≡ before ++ (m, n) ∷ []
    → AddsMissing st index m (n ∷ []) old new
adds_pair st index m n old before new is same pushed =
    subst (AddsMissing st index m (n ∷ []) old) (sym pushed) (record {
      kept = λ p c. Contains-append_left before ((m, n) ∷ []) p ((same p).1 c);
      only = λ p c. elim (Contains-push_cases before (m, n) p c) [
        | inl b ↦ inl ((same p).0 b)
        | inr e ↦ inr (subst (λ (q : ℕ × ℕ). (q.0 ≡ m) × IsMissingPair st index q.0 q.1
            × Contains (n ∷ []) q.1) e (refl, is, Contains-push [] n))
      ];
      each = λ k p c. inl (subst (λ (j : ℕ). Contains (before ++ (m, n) ∷ []) (m, j))
          (only_one n k c) (Contains-push before (m, n)));
    })

-- one symbol more of the expression
pub adds_more : (st : List Sentence) (index m : ℕ) (f : List ℕ) (old before new : List (ℕ × ℕ))
    (i : ℕ) → i < length f → AddsMissing st index m (get_or f i 0 ∷ []) before new
    → AddsMissing st index m (take i f) old before → AddsMissing st index m (take (i + 1) f) old new
adds_more st index m f old before new i less adds was = record {
  kept = λ p c. adds.kept p (was.kept p c);
  only = λ p c. elim (adds.only p c) [
    | inl b ↦ ⊎_elim inl (λ h. inr (h.0, h.1, more_taken f i less p.1 h.2)) (was.only p b)
    | inr h ↦ inr (
      h.0,
      h.1,
      subst (Contains (take (i + 1) f))
          (only_one (get_or f i 0) p.1 h.2) (last_taken f i less),
    )
  ];
  each = λ n p c. elim (taken_more f i less n c) [
    | inl b ↦ more_either before new (m, n) adds.kept (was.each n p b)
    | inr e ↦
        adds.each n p (subst (Contains (get_or f i 0 ∷ [])) e (Contains-push [] (get_or f i 0)))
  ];
}

-- one symbol more of the first expression
pub missing_more : (st : List Sentence) (index : ℕ) (e f : List ℕ) (old new : List (ℕ × ℕ)) (i : ℕ)
    → i < length e
    → AddsMissing st index (get_or e i 0) f old new
    → AreMissingNumbers st index (take i e) f old
    → AreMissingNumbers st index (take (i + 1) e) f new
missing_more st index e f old new i less adds are = record {
  only = λ p c. elim (adds.only p c) [
    | inl b ↦ let h = are.only p b in (h.0, more_taken e i less p.0 h.1, h.2)
    | inr h ↦ (h.1, subst (Contains (take (i + 1) e)) (sym h.0) (last_taken e i less), h.2)
  ];
  each = λ m n p c d. elim (taken_more e i less m c) [
    | inl b ↦ more_either old new (m, n) adds.kept (are.each m n p b d)
    | inr same ↦ subst (λ k. HasEither new (k, n)) same
        (adds.each n (subst (λ k. IsMissingPair st index k n) (sym same) p) d)
  ];
}

-- the missing pairs of the variables of the expressions are those of the expressions
pub missing_of : (st : List Sentence) (index : ℕ) (e f first second : List ℕ)
    (missing : List (ℕ × ℕ)) → AreOnce (IsVariableNumber st) e first
    → AreOnce (IsVariableNumber st) f second → AreMissingNumbers st index first second missing
    → AreMissingNumbers st index e f missing
missing_of st index e f first second missing in_e in_f are = record {
  only = λ p c.
      let h = are.only p c in
      (h.0, ((in_e.each p.0).0 h.1).1, ((in_f.each p.1).0 h.2).1);
  each = λ m n p c d. are.each m n p ((in_e.each m).1 (p.first, c)) ((in_f.each n).1 (p.second, d));
}

-- ---- by names

abbrev pub names_of : List Sentence → ℕ × ℕ → List ℕ × List ℕ
names_of st p = (name_at st p.0, name_at st p.1)

abbrev pub name_pairs : List Sentence → List (ℕ × ℕ) → List (List ℕ × List ℕ)
name_pairs st pairs = map (names_of st) pairs

firsts_named : (st : List Sentence) (pairs : List (Sym × Sym))
    → AreBelow st (map (λ p. p.0.0) pairs)
    → AreNumbers st (map (λ p. p.0.0) pairs) (map (λ p. p.0) (name_pairs st (number_pairs pairs)))
firsts_named st pairs below =
    subst (AreNumbers st (map (λ p. p.0.0) pairs)) (same pairs)
    (numbers_named st (map (λ p. p.0.0) pairs) below)
  where
    same : (pairs : List (Sym × Sym))
        → names_at st (map (λ p. p.0.0) pairs) ≡ map (λ p. p.0) (name_pairs st (number_pairs pairs))
    same [] = refl
    same (p ∷ pairs) = ap (λ l. name_at st p.0.0 ∷ l) (same pairs)

seconds_named : (st : List Sentence) (pairs : List (Sym × Sym))
    → AreBelow st (map (λ p. p.1.0) pairs)
    → AreNumbers st (map (λ p. p.1.0) pairs) (map (λ p. p.1) (name_pairs st (number_pairs pairs)))
seconds_named st pairs below =
    subst (AreNumbers st (map (λ p. p.1.0) pairs)) (same pairs)
    (numbers_named st (map (λ p. p.1.0) pairs) below)
  where
    same : (pairs : List (Sym × Sym))
        → names_at st (map (λ p. p.1.0) pairs) ≡ map (λ p. p.1) (name_pairs st (number_pairs pairs))
    same [] = refl
    same (p ∷ pairs) = ap (λ l. name_at st p.1.0 ∷ l) (same pairs)

pub variable_below : (st : List Sentence) (n : ℕ) → IsVariableNumber st n
    → n < length (symbols_of st)
variable_below st n v = slice_get_within (symbols_of st) n v.0 v.1

-- the name of a variable's number is that of a variable
pub named_variable : (st : List Sentence) (n : ℕ) → IsVariableNumber st n
    → IsVariable st (name_at st n)
named_variable st n v = subst (IsVariable st) (sym (name_is st n v.0 v.1)) v.2

-- the numbers of missing pairs are those of their names
pub pairs_named : (st : List Sentence) (index : ℕ) (pairs : List (Sym × Sym))
    → ((p : ℕ × ℕ) → Contains (number_pairs pairs) p → IsMissingPair st index p.0 p.1)
    → AreNumbers st (map (λ p. p.0.0) pairs) (map (λ p. p.0) (name_pairs st (number_pairs pairs)))
    × AreNumbers st (map (λ p. p.1.0) pairs) (map (λ p. p.1) (name_pairs st (number_pairs pairs)))
pairs_named st index pairs missing = (
  firsts_named st pairs (all_within (λ n. n < length (symbols_of st)) (map (λ p. p.0.0) pairs)
      (λ n c.
      let p = mapped_contains (λ (p : Sym × Sym). p.0.0) pairs n c in
      let h = missing (numbers_of p.0) (contains_mapped numbers_of pairs p.0 p.1) in
      subst (λ n. n < length (symbols_of st)) p.2 (variable_below st p.0.0.0 h.first))),
  seconds_named st pairs (all_within (λ n. n < length (symbols_of st)) (map (λ p. p.1.0) pairs)
      (λ n c.
      let p = mapped_contains (λ (p : Sym × Sym). p.1.0) pairs n c in
      let h = missing (numbers_of p.0) (contains_mapped numbers_of pairs p.0 p.1) in
      subst (λ n. n < length (symbols_of st)) p.2 (variable_below st p.0.1.0 h.second))),
)
