-- Mandatory pairs that were put in order, by names: they are the same, in the order of the
-- declarations of their variables.
use Rattle.std.proofs.Common.{◌≡◌, ℕ, ◌<◌, List, length, take, slice_get, Some, Contains}
use Rattle.std.proofs.Common.{◌⊎◌, inl, inr, ⊎_elim, sym, ap, subst, ◌∙◌, arith}
use Rattle.std.proofs.lemmas.Bool.{cases_lt}
use Rattle.mm_base.specs.declared.statement.Kind.TheVariants.{Variables}
use Rattle.mm_base.proofs.Lists.{contains_from_at}
use Rattle.mm_frame.specs.Sentence.{Sentence, Declares}
use Rattle.mm_frame.specs.Active.{IsVariable}
use Rattle.mm_frame.specs.Frame.{IsMandatoryPair}
use Rattle.mm_frame.specs.Numbers.{symbols_of}
use Rattle.mm_frame.specs.declared.distinct.DistinctPair.{DistinctPair}
use Rattle.mm_frame.proofs.Frames.FrameLaws.{distinct_other}
use Rattle.mm_frame.proofs.Names.LabelNumbers.{one_number_holds}
use Rattle.mm_frame.proofs.Rules.ObeyedRules.{some_later}
use Rattle.mm_step.specs.Substitution.{Symbol}
use Rattle.mm_step.specs.Mirror.CodeVerify.{name_at}
use Rattle.mm_step.proofs.ByNumbers.NumberedSymbols.{one_name}
use Rattle.mm_step.proofs.ByNumbers.VariablesOfLists.{mapped_at, mapped_contains, contains_mapped}
use Rattle.mm_proof.specs.Asked.{IsEarlier, IsEarlierPair, StandInOrder}
use Rattle.mm_distinct.specs.InOrder.{flipped, AreInOrder, IsBefore}
use Rattle.mm_distinct.proofs.AskedByNumbers.NamedVariables.{earlier_named}
use Rattle.mm_distinct.proofs.TurnedPairs.{holds_ordered, is_ordered, lower_ordered}
use Rattle.mm_rules.specs.Explained.{AreMandatoryPairs}
use Rattle.mm_rules.specs.Mirror.Explaining.{named_pairs}

-- the names of a pair
abbrev names_of : List Sentence → DistinctPair → Symbol × Symbol
names_of st p = (name_at st p.variables.0.0, name_at st p.variables.1.0)

-- a mandatory pair is one in the other order too
mandatory_other : (before : List Sentence) (a : Sentence) (x y : Symbol)
    → IsMandatoryPair before a x y → IsMandatoryPair before a y x
mandatory_other before a x y (apart, first, second) =
    (distinct_other before x y apart, second, first)

-- both numbers are those of symbols
abbrev AreSymbols : List Sentence → DistinctPair → Type 0
AreSymbols st p =
    (p.variables.0.0 < length (symbols_of st)) × (p.variables.1.0 < length (symbols_of st))

module _ (st : List Sentence) (index at : ℕ) (a : Sentence) (pairs ordered : List DistinctPair)
    (are : AreInOrder pairs ordered)
    (mandatory : AreMandatoryPairs (take at (take index st)) a (named_pairs st pairs))
    (symbols : (i : ℕ) (p : DistinctPair) → slice_get pairs i ≡ Some p → AreSymbols st p) where
  -- what is known of each pair that was put in order
  abbrev IsKnown : DistinctPair → Type 0
  IsKnown q =
      AreSymbols st q
      × IsMandatoryPair (take at (take index st)) a (name_at st q.variables.0.0)
      (name_at st q.variables.1.0)

  known : (q : DistinctPair) → Contains ordered q → IsKnown q
  known q c = holds_ordered pairs ordered are IsKnown
      (λ i p there.
      let b = symbols i p there in
      let m = mandatory.only (names_of st p)
      (contains_mapped (names_of st) pairs p (contains_from_at pairs p (i, there))) in (
        (b, m),
        (
          (b.1, b.0),
          mandatory_other (take at (take index st)) a (name_at st p.variables.0.0)
              (name_at st p.variables.1.0) m,
        ),
      )) q c

  variable_before : (x : Symbol) → IsVariable (take at (take index st)) x
      → IsVariable (take index st) x
  variable_before x v = some_later (take index st) at (Declares Variables x) v

  -- two symbols of pairs, by their numbers
  earlier : (m n : ℕ) → IsVariable (take at (take index st)) (name_at st m)
      → IsVariable (take at (take index st)) (name_at st n) → m < length (symbols_of st)
      → n < length (symbols_of st) → m < n
      → IsEarlier (take index st) (name_at st m) (name_at st n)
  earlier m n first second bm bn less =
      earlier_named one_number_holds st index m n (variable_before (name_at st m) first)
      (variable_before (name_at st n) second) bm bn less

  number_turned : (q : DistinctPair) → Contains ordered q → q.variables.0.0 < q.variables.1.0
  number_turned q c =
      let most = lower_ordered pairs ordered are q c in
      let apart = (known q c).1.0.0 in
      elim (cases_lt q.variables.0.0 q.variables.1.0) [
        | inl less ↦ less
        | inr over ↦
            let same : q.variables.0.0 ≡ q.variables.1.0 = omega arith in
            absurd (apart (ap (name_at st) same))
      ]

  pub turned_named : (p : Symbol × Symbol) → Contains (named_pairs st ordered) p
      → IsEarlier (take index st) p.0 p.1
  turned_named p c =
      let q = mapped_contains (names_of st) ordered p c in
      let k = known q.0 q.1 in
      subst (λ (r : Symbol × Symbol). IsEarlier (take index st) r.0 r.1) q.2
      (earlier q.0.variables.0.0 q.0.variables.1.0 k.1.1.0 k.1.2.0 k.0.0 k.0.1
      (number_turned q.0 q.1))

  pub order_named : StandInOrder (IsEarlierPair (take index st)) (named_pairs st ordered)
  order_named i j p q less at_i at_j =
      let x = mapped_at (names_of st) ordered i p at_i in
      let y = mapped_at (names_of st) ordered j q at_j in
      let k = known x.0 (contains_from_at ordered x.0 (i, x.1)) in
      let l = known y.0 (contains_from_at ordered y.0 (j, y.1)) in
      subst (IsEarlierPair (take index st) p) y.2
      (subst (λ r. IsEarlierPair (take index st) r (names_of st y.0)) x.2
      (⊎_elim
      (λ h. inl (earlier x.0.variables.0.0 y.0.variables.0.0 k.1.1.0 l.1.1.0 k.0.0 l.0.0 h))
      (λ h. inr (
        ap (name_at st) h.0,
        earlier x.0.variables.1.0 y.0.variables.1.0 k.1.2.0 l.1.2.0 k.0.1 l.0.1 h.1,
      ))
      (are.in_order i j x.0 y.0 less x.1 y.1)))

  -- the numbers of two pairs with the same names, in one order or the other
  same_numbers : (p q : DistinctPair) → Contains ordered p → Contains ordered q
      → (names_of st p ≡ names_of st q)
      ⊎ (names_of st p ≡ (name_at st q.variables.1.0, name_at st q.variables.0.0))
      → (p.variables.0.0 ≡ q.variables.0.0) × (p.variables.1.0 ≡ q.variables.1.0)
  same_numbers p q in_p in_q (inl same) =
      let k = (known p in_p).0 in
      let l = (known q in_q).0 in (
        one_name one_number_holds st p.variables.0.0 q.variables.0.0 k.0 l.0
            (ap (λ (r : Symbol × Symbol). r.0) same),
        one_name one_number_holds st p.variables.1.0 q.variables.1.0 k.1 l.1
            (ap (λ (r : Symbol × Symbol). r.1) same),
      )
  same_numbers p q in_p in_q (inr same) =
      let k = (known p in_p).0 in
      let l = (known q in_q).0 in
      let first = one_name one_number_holds st p.variables.0.0 q.variables.1.0 k.0 l.1
      (ap (λ (r : Symbol × Symbol). r.0) same) in
      let second = one_name one_number_holds st p.variables.1.0 q.variables.0.0 k.1 l.0
      (ap (λ (r : Symbol × Symbol). r.1) same) in
      let less = number_turned p in_p in
      let over = number_turned q in_q in
      absurd (omega (arith, first, second, less, over))

  not_before : (p q : DistinctPair)
      → (p.variables.0.0 ≡ q.variables.0.0) × (p.variables.1.0 ≡ q.variables.1.0)
      → IsBefore p q → ⊥
  not_before p q same (inl h) = omega (arith, same.0, h)
  not_before p q same (inr h) = omega (arith, same.1, h.1)

  pub mandatory_ordered : AreMandatoryPairs (take at (take index st)) a (named_pairs st ordered)
  mandatory_ordered = record {
    only = λ p c.
        let q = mapped_contains (names_of st) ordered p c in
        subst (λ (r : Symbol × Symbol). IsMandatoryPair (take at (take index st)) a r.0 r.1) q.2
        (known q.0 q.1).1;
    each = λ x y pair. ⊎_elim (there x y) (λ c. other x y (there y x c)) (mandatory.each x y pair);
    once = λ i j p q at_i at_j same.
        let x = mapped_at (names_of st) ordered i p at_i in
        let y = mapped_at (names_of st) ordered j q at_j in
        let numbers = same_numbers x.0 y.0 (contains_from_at ordered x.0 (i, x.1))
        (contains_from_at ordered y.0 (j, y.1))
        (⊎_elim (λ e. inl (x.2 ∙ e ∙ sym y.2))
        (λ e. inr (x.2 ∙ e ∙ ap (λ (r : Symbol × Symbol). (r.1, r.0)) (sym y.2))) same) in
        elim (cases_lt i j) [
          | inl less ↦ absurd (not_before x.0 y.0 numbers (are.in_order i j x.0 y.0 less x.1 y.1))
          | inr over ↦ elim (cases_lt j i) [
            | inl less ↦ absurd (not_before y.0 x.0 (sym numbers.0, sym numbers.1)
                (are.in_order j i y.0 x.0 less y.1 x.1))
            | inr under ↦ omega arith
          ]
        ];
  }
    where
      there : (x y : Symbol) → Contains (named_pairs st pairs) (x, y)
          → Contains (named_pairs st ordered) (x, y) ⊎ Contains (named_pairs st ordered) (y, x)
      there x y c =
          let p = mapped_contains (names_of st) pairs (x, y) c in
          ⊎_elim
          (λ h. inl (subst (Contains (named_pairs st ordered)) p.2
          (contains_mapped (names_of st) ordered p.0 h)))
          (λ h. inr (subst (Contains (named_pairs st ordered))
          (ap (λ (r : Symbol × Symbol). (r.1, r.0)) p.2)
          (contains_mapped (names_of st) ordered (flipped p.0) h)))
          (is_ordered pairs ordered are p.0 p.1)

      other : (x y : Symbol)
          → Contains (named_pairs st ordered) (y, x) ⊎ Contains (named_pairs st ordered) (x, y)
          → Contains (named_pairs st ordered) (x, y) ⊎ Contains (named_pairs st ordered) (y, x)
      other x y (inl c) = inr c
      other x y (inr c) = inl c
