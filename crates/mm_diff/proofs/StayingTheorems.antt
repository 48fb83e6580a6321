-- Assertions whose proofs use the same in two databases, and so on down: they depend on the same
-- axioms. On this file rest the contracts of `stays`.
use Rattle.std.proofs.Common.{◌≡◌, ◌↔◌, ℕ, zero, suc, ◌+◌, ◌<◌, List, [], ◌∷◌, ◌++◌, length}
use Rattle.std.proofs.Common.{get_or, slice_get, Contains, Bool, true, false, ◌&&◌, Option, Some}
use Rattle.std.proofs.Common.{None, ◌⊎◌, inl, inr, refl, sym, ap, subst, ◌∙◌, arith, length-append, take}
use Rattle.std.specs.List.{AllZip}
use Rattle.std.proofs.lemmas.Bool.{and_parts}
use Rattle.std.proofs.lemmas.List.{take_more}
use Rattle.std.proofs.lemmas.Option.{same_Some}
use Rattle.mm_base.proofs.Lists.{at_from_contains, zip_push}
use Rattle.mm_frame.specs.declared.number.LabelId.{LabelId}
use Rattle.mm_frame.specs.declared.number.LabelKind.{LabelKind}
use Rattle.mm_frame.specs.Numbers.{IsLabelNumber, labelled_sentences}
use Rattle.mm_frame.specs.Sentence.{Sentence}
use Rattle.mm_frame.specs.Taken.{kind_behind}
use Rattle.mm_frame.proofs.Names.LabelNumbers.{numbered_get}
use Rattle.mm_step.specs.Plain.{ids_in}
use Rattle.mm_rules.specs.Conclusion.{Conclusion}
use Rattle.mm_rules.specs.Rests.{AreInOrder, IsClosed, RestsOn}
use Rattle.mm_rules.specs.Mirror.Marks.{IsAxiomNumber, IsMarked, UsedIn}
use Rattle.mm_rules.proofs.Numbers.{holds_cons, holds_first, holds_later}
use Rattle.mm_axioms.proofs.Resting.UsersOf.{true_or_not}
use Rattle.mm_diff.specs.Mirror.Depends.{AreOthersSettled, IsFurtherIn}
use Rattle.mm_diff.specs.Mirror.Depends.{IsUnsettled}
use Rattle.mm_diff.specs.Mirror.Twins.{AreTwins, IsTwinAt, IsUsedAlike, StayThose, StaysAs}
use Rattle.mm_diff.proofs.OneAssertions.{one_turned}

-- ---- the table

-- it has one number at one
pub one_twin : (twins : List (Option LabelId)) (id n m : ℕ) → IsTwinAt twins id n
    → IsTwinAt twins id m → n ≡ m
one_twin twins id n m (l, at, is) (k, there, also) =
    let outer : Some l ≡ Some k = same_Some (Some l) (Some k) (sym at ∙ there) in
    sym is ∙ ap (λ (j : LabelId). j.0) (same_Some l k outer) ∙ also

-- ---- one assertion

module _ (twins : List (Option LabelId)) (marks : List Bool) where
  -- for each that the one proof uses there is one that the other uses
  pub used_alike : (xs ys : List LabelId)
      → AllZip (λ id other. IsUsedAlike twins marks id.0 other.0) xs ys → (u : ℕ)
      → Contains (ids_in xs) u
      → (n : ℕ) × IsUsedAlike twins marks u n × Contains (ids_in ys) n
  used_alike [] [] all u among =
      let (i, there) = at_from_contains [] u among in absurd (cc)
  used_alike (x ∷ xs) (y ∷ ys) all u among = elim (holds_cons x.0 (ids_in xs) u among) [
    | inl same ↦ (
      y.0,
      subst (λ (k : ℕ). IsUsedAlike twins marks k y.0) same all.0,
      holds_first y.0 (ids_in ys),
    )
    | inr later ↦
        let (n, alike, there) = used_alike xs ys all.1 u later in
        (n, alike, holds_later y.0 (ids_in ys) n there)
  ]
  used_alike _ _ all u among = absurd all

  -- and the other way round
  pub others_alike : (xs ys : List LabelId)
      → AllZip (λ id other. IsUsedAlike twins marks id.0 other.0) xs ys → (n : ℕ)
      → Contains (ids_in ys) n
      → (u : ℕ) × IsUsedAlike twins marks u n × Contains (ids_in xs) u
  others_alike [] [] all n among =
      let (i, there) = at_from_contains [] n among in absurd (cc)
  others_alike (x ∷ xs) (y ∷ ys) all n among = elim (holds_cons y.0 (ids_in ys) n among) [
    | inl same ↦ (
      x.0,
      subst (λ (k : ℕ). IsUsedAlike twins marks x.0 k) same all.0,
      holds_first x.0 (ids_in xs),
    )
    | inr later ↦
        let (u, alike, there) = others_alike xs ys all.1 n later in
        (u, alike, holds_later x.0 (ids_in xs) u there)
  ]
  others_alike _ _ all n among = absurd all

-- one more of both
pub alike_more : (twins : List (Option LabelId)) (marks : List Bool) (xs ys : List LabelId) (k : ℕ)
    (d : LabelId) → k < length xs → k < length ys
    → AllZip (λ id other. IsUsedAlike twins marks id.0 other.0) (take k xs) (take k ys)
    → IsUsedAlike twins marks (get_or xs k d).0 (get_or ys k d).0
    → AllZip (λ id other. IsUsedAlike twins marks id.0 other.0) (take (k + 1) xs)
    (take (k + 1) ys)
alike_more twins marks xs ys k d within within_too all alike =
    rw (take_more xs k d within, take_more ys k d within_too)
    (zip_push (λ (id other : LabelId). IsUsedAlike twins marks id.0 other.0) (take k xs) (take k ys)
    (get_or xs k d) (get_or ys k d) all alike)

-- of one kind, both are axioms or none is
kinds_agree : (st others : List Sentence) (id former : ℕ) (k j : LabelKind)
    → IsLabelNumber others former
    → ((s : Sentence) → slice_get (labelled_sentences st) id ≡ Some s → s.kind ≡ kind_behind k)
    → ((s : Sentence) → slice_get (labelled_sentences others) former ≡ Some s
    → s.kind ≡ kind_behind j) → k ≡ j → IsAxiomNumber st id → IsAxiomNumber others former
kinds_agree st others id former k j (i, t, numbered) told told_too same (index, s, at, is) = (
  i,
  t,
  numbered,
  told_too t (numbered_get others former i t numbered) ∙ ap kind_behind (sym same)
      ∙ sym (told s (numbered_get st id index s at)) ∙ is,
)

module _ (c d : Conclusion) (twins : List (Option LabelId)) (marks : List Bool)
    (id former : ℕ) where
  -- an assertion stays as the other is
  pub stays_told : (k j : LabelKind) (used others : List LabelId) → IsLabelNumber c.sentences id
      → IsLabelNumber d.sentences former
      → ((s : Sentence) → slice_get (labelled_sentences c.sentences) id ≡ Some s
      → s.kind ≡ kind_behind k)
      → ((s : Sentence) → slice_get (labelled_sentences d.sentences) former ≡ Some s
      → s.kind ≡ kind_behind j) → k ≡ j
      → ((n : ℕ) → Contains (ids_in used) n ↔ UsedIn c.uses id n)
      → ((n : ℕ) → Contains (ids_in others) n ↔ UsedIn d.uses former n)
      → AllZip (λ x other. IsUsedAlike twins marks x.0 other.0) used others
      → StaysAs c d twins marks id former
  stays_told k j used others here there told told_too same own own_too all = record {
    axioms = (
      kinds_agree c.sentences d.sentences id former k j there told told_too same,
      kinds_agree d.sentences c.sentences former id j k here told_too told (sym same),
    );
    used = λ u uses.
        let (n, alike, among) = used_alike twins marks used others all u ((own u).1 uses) in
        (n, alike, (own_too n).0 among);
    others = λ n uses.
        let (u, alike, among) = others_alike twins marks used others all n ((own_too n).1 uses) in
        (u, alike, (own u).0 among);
  }

-- ---- all that stay

-- marks stay when one more is put behind them
pub marked_kept : (marks : List Bool) (b : Bool) (n : ℕ) → IsMarked marks n
    → IsMarked (marks ++ b ∷ []) n
marked_kept [] b n h = absurd cc
marked_kept (m ∷ marks) b zero h = h
marked_kept (m ∷ marks) b (suc n) h = marked_kept marks b n h

-- and none but the last is new
marked_cases : (marks : List Bool) (b : Bool) (n : ℕ) → IsMarked (marks ++ b ∷ []) n
    → IsMarked marks n ⊎ ((n ≡ length marks) × (b ≡ true))
marked_cases [] b zero h = inr (refl, h)
marked_cases [] b (suc n) h = absurd cc
marked_cases (m ∷ marks) b zero h = inl h
marked_cases (m ∷ marks) b (suc n) h = elim (marked_cases marks b n h) [
  | inl old ↦ inl old
  | inr (is, holds) ↦ inr (ap suc is, holds)
]

-- the marks of the numbers before an end
pub record AreMarksTo (c d : Conclusion) (twins : List (Option LabelId)) (end : ℕ)
    (marks : List Bool) : Type 0 where
  pub long : length marks ≡ end
  pub those : StayThose c d twins marks

module _ (c d : Conclusion) (twins : List (Option LabelId)) where
  more_marks : (marks : List Bool) (b : Bool) (id former : ℕ) → StaysAs c d twins marks id former
      → StaysAs c d twins (marks ++ b ∷ []) id former
  more_marks marks b id former so = record {
    axioms = so.axioms;
    used = λ u uses.
        let (n, (twin, marked), other) = so.used u uses in
        (n, (twin, marked_kept marks b u marked), other);
    others = λ n uses.
        let (u, (twin, marked), other) = so.others n uses in
        (u, (twin, marked_kept marks b u marked), other);
  }

  pub marks_none : (marks : List Bool) → marks ≡ [] → AreMarksTo c d twins 0 marks
  marks_none marks e =
      subst (λ (ms : List Bool). AreMarksTo c d twins 0 ms) (sym e)
      (record { long = refl; those = λ id marked. absurd cc })

  pub marks_more : (end : ℕ) (marks more : List Bool) (b : Bool) → AreMarksTo c d twins end marks
      → (b ≡ true → (former : ℕ) × IsTwinAt twins end former × StaysAs c d twins marks end former)
      → more ≡ marks ++ b ∷ [] → AreMarksTo c d twins (end + 1) more
  marks_more end marks more b so_far told e =
      subst (λ (ms : List Bool). AreMarksTo c d twins (end + 1) ms) (sym e) (record {
        long = omega (arith, length-append marks (b ∷ []), so_far.long);
        those = λ id marked. elim (marked_cases marks b id marked) [
          | inl old ↦
              let (former, twin, so) = so_far.those id old in
              (former, twin, more_marks marks b id former so)
          | inr (is, holds) ↦
              let (former, twin, so) = told holds in
              let same : end ≡ id = sym (is ∙ so_far.long) in (
                former,
                subst (λ (k : ℕ). IsTwinAt twins k former) same twin,
                subst (λ (k : ℕ). StaysAs c d twins (marks ++ b ∷ []) k former) same
                    (more_marks marks b end former so),
              )
        ];
      })

-- ---- what those that stay depend on

-- the number in a table, if there is one, is in a set
abbrev passes : (set : ℕ → Bool) → Option (Option LabelId) → Bool
passes set None = false
passes set (Some None) = false
passes set (Some (Some l)) = set l.0

passes_told : (set : ℕ → Bool) (o : Option (Option LabelId)) → passes set o ≡ true
    → (l : LabelId) × (o ≡ Some (Some l)) × (set l.0 ≡ true)
passes_told set None holds = absurd cc
passes_told set (Some None) holds = absurd cc
passes_told set (Some (Some l)) holds = (l, refl, holds)

both_hold : (a b : Bool) → a ≡ true → b ≡ true → (a && b) ≡ true
both_hold true true e f = refl
both_hold true false e f = absurd cc
both_hold false b e f = absurd cc

module _ (table : List (Option LabelId)) (set : ℕ → Bool) where
  passes_at : (id n : ℕ) → IsTwinAt table id n → set n ≡ true
      → passes set (slice_get table id) ≡ true
  passes_at id n (l, at, is) holds = ap (passes set) at ∙ ap set is ∙ holds

  passed_at : (id : ℕ) → passes set (slice_get table id) ≡ true
      → (n : ℕ) × IsTwinAt table id n × (set n ≡ true)
  passed_at id h =
      let (l, at, holds) = passes_told set (slice_get table id) h in (l.0, (l, at, refl), holds)

-- each number
abbrev everything : ℕ → Bool
everything n = true

all_closed : (Uses : ℕ → ℕ → Type 0) (theorem : ℕ) → IsClosed Uses theorem everything
all_closed Uses theorem = record {
  own = λ used uses. refl;
  others = λ id used among uses. refl;
}

module _ (c d : Conclusion) (twins backs : List (Option LabelId)) (marks : List Bool)
    (there : AreTwins c.sentences d.sentences twins)
    (back : AreTwins d.sentences c.sentences backs) (stay : StayThose c d twins marks) where
  -- what a marked assertion is one with, it stays so
  stays_as : (id n : ℕ) → IsMarked marks id → IsTwinAt twins id n
      → StaysAs c d twins marks id n
  stays_as id n marked twin =
      let (former, own, so) = stay id marked in
      subst (λ (k : ℕ). StaysAs c d twins marks id k) (one_twin twins id former n own twin) so

  -- both tables tell the same
  turned_at : (id n : ℕ) → IsTwinAt twins id n → IsTwinAt backs n id
  turned_at id n twin =
      (back n id).1 (one_turned c.sentences d.sentences id n ((there id n).0 twin))

  turned_back : (id n : ℕ) → IsTwinAt backs n id → IsTwinAt twins id n
  turned_back id n twin =
      (there id n).1 (one_turned d.sentences c.sentences n id ((back n id).0 twin))

  -- ---- from the first database to the second

  -- marked, and one with a number in a set
  abbrev forth : (set : ℕ → Bool) → ℕ → Bool
  forth set n = get_or marks n false && passes set (slice_get twins n)

  forth_told : (set : ℕ → Bool) (id : ℕ) → forth set id ≡ true
      → IsMarked marks id × ((n : ℕ) × IsTwinAt twins id n × (set n ≡ true))
  forth_told set id h =
      let (marked, holds) =
      and_parts (get_or marks id false) (passes set (slice_get twins id)) h in
      (marked, passed_at twins set id holds)

  forth_holds : (set : ℕ → Bool) (id n : ℕ) → IsMarked marks id → IsTwinAt twins id n
      → set n ≡ true → forth set id ≡ true
  forth_holds set id n marked twin holds =
      both_hold (get_or marks id false) (passes set (slice_get twins id)) marked
      (passes_at twins set id n twin holds)

  forth_closed : (theorem former : ℕ) (set : ℕ → Bool) → IsMarked marks theorem
      → IsTwinAt twins theorem former → IsClosed (UsedIn d.uses) former set
      → IsClosed (UsedIn c.uses) theorem (forth set)
  forth_closed theorem former set marked twin closed = record {
    own = λ used uses.
        let (n, (one, holds), other) = (stays_as theorem former marked twin).used used uses in
        forth_holds set used n holds one (closed.own n other);
    others = λ id used among uses.
        let (marked_too, (m, twin_too, in_set)) = forth_told set id among in
        let (n, (one, holds), other) = (stays_as id m marked_too twin_too).used used uses in
        forth_holds set used n holds one (closed.others m n in_set other);
  }

  rests_forth : (theorem former n : ℕ) → IsMarked marks theorem → IsTwinAt twins theorem former
      → RestsOn (UsedIn c.uses) theorem n
      → (m : ℕ) × IsTwinAt twins n m × IsMarked marks n × RestsOn (UsedIn d.uses) former m
  rests_forth theorem former n marked twin rests =
      let (marked_too, (m, one, holds)) =
      forth_told everything n (rests (forth everything)
      (forth_closed theorem former everything marked twin
      (all_closed (UsedIn d.uses) former))) in (
        m,
        one,
        marked_too,
        λ set closed.
            let (again, (k, other, in_set)) = forth_told set n (rests (forth set)
            (forth_closed theorem former set marked twin closed)) in
            subst (λ (j : ℕ). set j ≡ true) (one_twin twins n k m other one) in_set,
      )

  none_further : (theorem former n : ℕ) → IsMarked marks theorem
      → IsTwinAt twins theorem former → ¬ (IsFurtherIn c d theorem former n)
  none_further theorem former n marked twin ((is, rests), none) =
      let (m, one, marked_too, other) = rests_forth theorem former n marked twin rests in
      none m ((there n m).0 one) ((stays_as n m marked_too one).axioms.0 is, other)

  -- ---- and back

  -- one with a number that is marked and in a set
  abbrev and_marked : (set : ℕ → Bool) → ℕ → Bool
  and_marked set n = get_or marks n false && set n

  abbrev hither : (set : ℕ → Bool) → ℕ → Bool
  hither set n = passes (and_marked set) (slice_get backs n)

  hither_told : (set : ℕ → Bool) (n : ℕ) → hither set n ≡ true
      → (id : ℕ) × IsTwinAt twins id n × IsMarked marks id × (set id ≡ true)
  hither_told set n h =
      let (id, twin, holds) = passed_at backs (and_marked set) n h in
      let (marked, in_set) = and_parts (get_or marks id false) (set id) holds in
      (id, turned_back id n twin, marked, in_set)

  hither_holds : (set : ℕ → Bool) (id n : ℕ) → IsMarked marks id → IsTwinAt twins id n
      → set id ≡ true → hither set n ≡ true
  hither_holds set id n marked twin holds =
      passes_at backs (and_marked set) n id (turned_at id n twin)
      (both_hold (get_or marks id false) (set id) marked holds)

  hither_closed : (theorem former : ℕ) (set : ℕ → Bool) → IsMarked marks theorem
      → IsTwinAt twins theorem former → IsClosed (UsedIn c.uses) theorem set
      → IsClosed (UsedIn d.uses) former (hither set)
  hither_closed theorem former set marked twin closed = record {
    own = λ used uses.
        let (u, (one, holds), other) = (stays_as theorem former marked twin).others used uses in
        hither_holds set u used holds one (closed.own u other);
    others = λ n used among uses.
        let (id, twin_too, marked_too, in_set) = hither_told set n among in
        let (u, (one, holds), other) = (stays_as id n marked_too twin_too).others used uses in
        hither_holds set u used holds one (closed.others id u in_set other);
  }

  rests_hither : (theorem former n : ℕ) → IsMarked marks theorem → IsTwinAt twins theorem former
      → RestsOn (UsedIn d.uses) former n
      → (id : ℕ) × IsTwinAt twins id n × IsMarked marks id × RestsOn (UsedIn c.uses) theorem id
  rests_hither theorem former n marked twin rests =
      let (id, one, marked_too, holds) =
      hither_told everything n (rests (hither everything)
      (hither_closed theorem former everything marked twin
      (all_closed (UsedIn c.uses) theorem))) in (
        id,
        one,
        marked_too,
        λ set closed.
            let (k, other, again, in_set) = hither_told set n (rests (hither set)
            (hither_closed theorem former set marked twin closed)) in
            subst (λ (j : ℕ). set j ≡ true)
            (one_twin backs n k id (turned_at k n other) (turned_at id n one)) in_set,
      )

  none_less : (theorem former n : ℕ) → IsMarked marks theorem
      → IsTwinAt twins theorem former → ¬ (IsFurtherIn d c former theorem n)
  none_less theorem former n marked twin ((is, rests), none) =
      let (id, one, marked_too, other) = rests_hither theorem former n marked twin rests in
      none id (one_turned c.sentences d.sentences id n ((there id n).0 one))
      ((stays_as id n marked_too one).axioms.1 is, other)

  -- ---- all others are settled

  pub others_settled : (ids : List ℕ)
      → AreInOrder (IsUnsettled c.sentences d.sentences twins marks) ids
      → AreOthersSettled d c ids
  others_settled ids order id former (one, theorem, other) =
      let twin : IsTwinAt twins id former = (there id former).1 one in
      elim (true_or_not (get_or marks id false)) [
        | inl marked ↦
            inr (
              (λ n. none_further id former n marked twin),
              (λ n. none_less id former n marked twin),
            )
        | inr unmarked ↦ inl ((order.each id).1 (unmarked, theorem, former, twin, other))
      ]
