-- Axioms on which theorems depend in one database alone, and what is told of them. On this file rest
-- the contracts of `depends`.
use Rattle.std.proofs.Common.{◌≡◌, ℕ, ◌+◌, ◌<◌, ◌≤◌, List, [], ◌∷◌, ◌++◌, map, take, length}
use Rattle.std.proofs.Common.{slice_get, Contains, Option, Some, inl, inr, refl, sym}
use Rattle.std.proofs.Common.{subst, ◌∙◌, append-nil, Bool}
use Rattle.std.specs.List.{AllByRecursion}
use Rattle.std.proofs.lemmas.List.{map-append, take_all}
use Rattle.mm_base.proofs.Lists.{at_from_contains, contains_from_at}
use Rattle.mm_frame.specs.declared.number.LabelId.{LabelId}
use Rattle.mm_frame.specs.Numbers.{labelled_sentences}
use Rattle.mm_frame.specs.Rules.{AllMeant}
use Rattle.mm_frame.specs.Sentence.{Sentence}
use Rattle.mm_frame.proofs.Names.LabelNumbers.{numbered_within}
use Rattle.mm_step.specs.Plain.{ids_in}
use Rattle.mm_rules.specs.Conclusion.{Conclusion}
use Rattle.mm_rules.specs.Rests.{AreInOrder, AreRising}
use Rattle.mm_rules.proofs.Numbers.{in_order_same}
use Rattle.mm_rules.proofs.OrderedNumbers.{in_order_once}
use Rattle.mm_diff.specs.declared.depends.Dependence.{Dependence}
use Rattle.mm_diff.specs.Diff.{AreTold}
use Rattle.mm_diff.specs.Mirror.Changes.{plain_dependence}
use Rattle.mm_diff.specs.Mirror.Depends.{AreOthersSettled, DependsOnIn, HasTwinAmong, IsFurtherIn}
use Rattle.mm_diff.specs.Mirror.Depends.{IsOneTheoremIn, IsUnsettled, Tells, TellsFurther, TellsLess, told_of}
use Rattle.mm_diff.specs.Mirror.Twins.{AreTwins}
use Rattle.mm_diff.proofs.OneAssertions.{one_once}
use Rattle.mm_diff.proofs.RenamedLabels.{all_more, next_passed, next_taken}

-- ---- of one theorem

-- numbers of which each is so are none, where none is so
pub none_so : (P : ℕ → Type 0) (ids : List ℕ) → AreInOrder P ids → ((n : ℕ) → ¬ (P n)) → ids ≡ []
none_so P [] order none = refl
none_so P (n ∷ ids) order none =
    absurd (none n ((order.each n).0 (contains_from_at (n ∷ ids) n (0, refl))))

-- those of its axioms that are one with none of the other's are those on which the other doesn't
-- depend
pub without_further : (c d : Conclusion) (twins : List (Option LabelId)) (id other : ℕ)
    (axioms others ids : List ℕ) → AreTwins c.sentences d.sentences twins
    → AreInOrder (DependsOnIn c id) axioms → AreInOrder (DependsOnIn d other) others
    → AreInOrder (λ n. Contains axioms n × ¬ (HasTwinAmong twins others n)) ids
    → AreInOrder (IsFurtherIn c d id other) ids
without_further c d twins id other axioms others ids tells own theirs order =
    in_order_same (λ n. Contains axioms n × ¬ (HasTwinAmong twins others n))
    (IsFurtherIn c d id other) ids order (λ n. (
      (λ (among, none). (
        (own.each n).0 among,
        λ m one depends. none (m, (tells n m).1 one, (theirs.each m).1 depends),
      )),
      (λ (depends, none). (
        (own.each n).1 depends,
        λ (m, twin, among). none m ((tells n m).0 twin) ((theirs.each m).0 among),
      )),
    ))

-- ---- what is told of one theorem

module _ (Pair : ℕ → ℕ → Type 0) (Differ : ℕ → ℕ → ℕ → Type 0) (id former : ℕ)
    (pair : Pair id former) (axioms : List ℕ) (order : AreInOrder (Differ id former) axioms) where
  pub some_told : ¬ (axioms ≡ []) → Tells Pair Differ id axioms
  some_told some = (former, pair, order, some)

  pub none_told : ((n : ℕ) → Pair id n → n ≡ former) → axioms ≡ [] → (others : List ℕ)
      → ¬ (Tells Pair Differ id others)
  none_told once none others (n, again, order_too, some) =
      let same : n ≡ former = once n again in
      some (in_order_once (Differ id former) others axioms
      (subst (λ (k : ℕ). AreInOrder (Differ id k) others) same order_too) order ∙ none)

-- ---- what is told of those so far

-- those among the numbers that were looked at
pub record AreToldAmong (T : ℕ → List ℕ → Type 0) (passed : List ℕ)
    (told : List (ℕ × List ℕ)) : Type 0 where
  pub order : AreInOrder (λ n. Contains passed n × ((axioms : List ℕ) × T n axioms))
      (map (λ p. p.0) told)
  pub each : AllByRecursion (λ p. T p.0 p.1) told

pub told_first : (T : ℕ → List ℕ → Type 0) (told : List (ℕ × List ℕ)) → told ≡ []
    → AreToldAmong T [] told
told_first T told e =
    subst (λ (ps : List (ℕ × List ℕ)). AreToldAmong T [] ps) (sym e) (record {
      order = record {
        rising = λ i j a b less at there. absurd (cc);
        each = λ n. (
          (λ among. let (i, there) = at_from_contains [] n among in absurd (cc)),
          (λ h. let (i, there) = at_from_contains [] n h.0 in absurd (cc)),
        );
      };
      each = tt;
    })

-- one more number
pub told_next : (T : ℕ → List ℕ → Type 0) (xs : List LabelId) (told more : List (ℕ × List ℕ))
    (i : ℕ) (x : LabelId) (axioms : List ℕ) → AreRising (ids_in xs) → slice_get xs i ≡ Some x
    → AreToldAmong T (ids_in (take i xs)) told
    → (axioms ≡ [] → (others : List ℕ) → ¬ (T x.0 others))
    → (¬ (axioms ≡ []) → T x.0 axioms) → more ≡ told ++ told_of x.0 axioms
    → AreToldAmong T (ids_in (take (i + 1) xs)) more
told_next T xs told more i x [] rising at so_far none some e =
    subst (λ (ps : List (ℕ × List ℕ)). AreToldAmong T (ids_in (take (i + 1) xs)) ps)
    (sym (e ∙ append-nil told)) (record {
      order = next_passed (λ n. (axioms : List ℕ) × T n axioms) xs
          (map (λ (p : ℕ × List ℕ). p.0) told) i x at so_far.order
          (λ (others, tells). none refl others tells);
      each = so_far.each;
    })
told_next T xs told more i x (n ∷ ns) rising at so_far none some e =
    let tells : T x.0 (n ∷ ns) = some (λ is. cc) in
    let seconds : map (λ (p : ℕ × List ℕ). p.0) (told ++ (x.0, n ∷ ns) ∷ [])
    ≡ map (λ (p : ℕ × List ℕ). p.0) told ++ x.0 ∷ [] =
    map-append (λ (p : ℕ × List ℕ). p.0) told ((x.0, n ∷ ns) ∷ []) in
    let M : ℕ → Type 0 = λ m. (axioms : List ℕ) × T m axioms in
    let passed : List ℕ = ids_in (take (i + 1) xs) in
    subst (λ (ps : List (ℕ × List ℕ)). AreToldAmong T passed ps) (sym e) (record {
      order =
          subst (λ (ms : List ℕ). AreInOrder (λ m. Contains passed m × M m) ms) (sym seconds)
          (next_taken M xs (map (λ (p : ℕ × List ℕ). p.0) told) i x rising at so_far.order
          (n ∷ ns, tells));
      each = all_more (λ (p : ℕ × List ℕ). T p.0 p.1) told (x.0, n ∷ ns) so_far.each tells;
    })

-- all were looked at of which something is told
pub told_last : (T : ℕ → List ℕ → Type 0) (ids : List ℕ) (told : List (ℕ × List ℕ))
    → AreToldAmong T ids told → ((n : ℕ) (axioms : List ℕ) → T n axioms → Contains ids n)
    → AreTold T told
told_last T ids told so_far all = record {
  order = in_order_same (λ n. Contains ids n × ((axioms : List ℕ) × T n axioms))
      (λ n. (axioms : List ℕ) × T n axioms) (map (λ (p : ℕ × List ℕ). p.0) told) so_far.order
      (λ n. ((λ h. h.1), (λ h. (all n h.0 h.1, h))));
  each = so_far.each;
}

-- ---- of two databases

module _ (old new : Conclusion) (ids : List ℕ) (settled : AreOthersSettled old new ids) where
  pub further_among : (n : ℕ) (axioms : List ℕ)
      → TellsFurther old new n axioms → Contains ids n
  further_among n axioms (former, pair, order, some) = elim (settled n former pair) [
    | inl among ↦ among
    | inr same ↦ absurd (some (none_so (IsFurtherIn new old n former) axioms order same.0))
  ]

  pub less_among : (n : ℕ) (axioms : List ℕ)
      → TellsLess old new n axioms → Contains ids n
  less_among n axioms (former, pair, order, some) = elim (settled n former pair) [
    | inl among ↦ among
    | inr same ↦ absurd (some (none_so (IsFurtherIn old new former n) axioms order same.1))
  ]

-- the theorem that is one with one is that one
pub pair_once : (st others : List Sentence) (id former n : ℕ) → AllMeant others
    → IsOneTheoremIn st others id former → IsOneTheoremIn st others id n → n ≡ former
pair_once st others id former n meant one again =
    one_once st others id n former meant again.0 one.0

-- ---- numbers of those that aren't settled

pub unsettled_within : (st others : List Sentence) (twins : List (Option LabelId))
    (marks : List Bool) (n : ℕ) → IsUnsettled st others twins marks n
    → n < length (labelled_sentences st)
unsettled_within st others twins marks n
    (unmarked, (index, s, number), former, twin, other) =
    numbered_within st n index s number.numbered

-- ---- both lists

-- what is told of the theorems that were looked at
pub record AreComparedTo (old new : Conclusion) (passed : List ℕ)
    (further less : List (ℕ × List ℕ)) : Type 0 where
  pub more : AreToldAmong (TellsFurther old new) passed further
  pub fewer : AreToldAmong (TellsLess old new) passed less

module _ (old new : Conclusion) (meant : AllMeant old.sentences) (xs : List LabelId) (i : ℕ)
    (x : LabelId) (rising : AreRising (ids_in xs)) (at : slice_get xs i ≡ Some x) (former : ℕ)
    (pair : IsOneTheoremIn new.sentences old.sentences x.0 former) where
  -- what is told of one more
  pub compared_more : (further more less fewer : List (ℕ × List ℕ)) (axioms others : List ℕ)
      → AreComparedTo old new (ids_in (take i xs)) further less
      → AreInOrder (IsFurtherIn new old x.0 former) axioms
      → AreInOrder (IsFurtherIn old new former x.0) others
      → more ≡ further ++ told_of x.0 axioms → fewer ≡ less ++ told_of x.0 others
      → AreComparedTo old new (ids_in (take (i + 1) xs)) more fewer
  compared_more further more less fewer axioms others so_far order order_too is is_too =
      let Pair : ℕ → ℕ → Type 0 = IsOneTheoremIn new.sentences old.sentences in
      let Further : ℕ → ℕ → ℕ → Type 0 = λ id n. IsFurtherIn new old id n in
      let Less : ℕ → ℕ → ℕ → Type 0 = λ id n. IsFurtherIn old new n id in
      let once : (n : ℕ) → Pair x.0 n → n ≡ former =
      λ n again. pair_once new.sentences old.sentences x.0 former n meant pair again in
      record {
        more =
            told_next (TellsFurther old new) xs further more i x axioms rising at so_far.more
            (none_told Pair Further x.0 former pair axioms order once)
            (some_told Pair Further x.0 former pair axioms order) is;
        fewer =
            told_next (TellsLess old new) xs less fewer i x others rising at so_far.fewer
            (none_told Pair Less x.0 former pair others order_too once)
            (some_told Pair Less x.0 former pair others order_too) is_too;
      }

-- at first nothing is told
pub compared_first : (old new : Conclusion) (further less : List (ℕ × List ℕ)) → further ≡ []
    → less ≡ [] → AreComparedTo old new [] further less
compared_first old new further less none none_too = record {
  more = told_first (TellsFurther old new) further none;
  fewer = told_first (TellsLess old new) less none_too;
}

-- the list was gone through
pub compared_through : (old new : Conclusion) (xs : List LabelId) (i : ℕ)
    (further less : List (ℕ × List ℕ)) → length xs ≤ i
    → AreComparedTo old new (ids_in (take i xs)) further less
    → AreComparedTo old new (ids_in xs) further less
compared_through old new xs i further less all so_far =
    subst (λ (ys : List LabelId). AreComparedTo old new (ids_in ys) further less)
    (take_all i xs all) so_far

-- all were looked at
module _ (old new : Conclusion) (further less : List Dependence) where
  pub compared_all : (ids : List ℕ) → AreOthersSettled old new ids
      → AreComparedTo old new ids (map plain_dependence further) (map plain_dependence less)
      → AreTold (TellsFurther old new) (map plain_dependence further)
      × AreTold (TellsLess old new) (map plain_dependence less)
  compared_all ids settled so_far = (
    told_last (TellsFurther old new) ids (map plain_dependence further) so_far.more
        (further_among old new ids settled),
    told_last (TellsLess old new) ids (map plain_dependence less) so_far.fewer
        (less_among old new ids settled),
  )

-- each of those that aren't settled is a theorem of both
pub paired_unsettled : (st others : List Sentence) (twins : List (Option LabelId))
    (marks : List Bool) (ids : List ℕ) → AreTwins st others twins
    → AreInOrder (IsUnsettled st others twins marks) ids → (id : ℕ) → Contains ids id
    → (former : ℕ) × IsOneTheoremIn st others id former
paired_unsettled st others twins marks ids tells order id among =
    let (unmarked, theorem, former, twin, other) = (order.each id).0 among in
    (former, ((tells id former).0 twin, theorem, other))
