-- Assertions that are one in two databases: each is one with one alone, and a table tells with which.
-- On this file rest the contracts of `twins`.
use Rattle.std.proofs.Common.{◌≡◌, ◌↔◌, ℕ, ◌+◌, ◌<◌, ◌≤◌, List, [], ◌∷◌, ◌++◌, map, length}
use Rattle.std.proofs.Common.{slice_get, Contains, Option, Some, None, IfSome, inl, inr, refl, sym}
use Rattle.std.proofs.Common.{ap, subst, ◌∙◌, arith, length-append, take, get_or}
use Rattle.std.specs.List.{AllByRecursion}
use Rattle.std.proofs.lemmas.Bool.{cases_eq, cases_lt}
use Rattle.std.proofs.lemmas.List.{map-append, take_all, take_more}
use Rattle.std.proofs.lemmas.Option.{same_Some, slice_get-get_or, slice_get_within}
use Rattle.mm_base.specs.declared.statement.Kind.{Kind}
use Rattle.mm_base.proofs.Lists.{all_at, at_from_contains, contains_from_at, get_kept, get_pushed}
use Rattle.mm_base.proofs.Lists.{one_there, pushed_cases}
use Rattle.mm_frame.specs.declared.number.LabelId.{LabelId}
use Rattle.mm_frame.specs.Numbers.{IsAssertionNumber, IsLabelNumber, labelled_sentences}
use Rattle.mm_frame.specs.Rules.{AllMeant}
use Rattle.mm_frame.specs.Sentence.{Sentence, IsHypothesis}
use Rattle.mm_frame.proofs.Names.LabelNumbers.{numbered_get, numbered_some, numbered_within}
use Rattle.mm_frame.proofs.Names.NameNumbers.{get_mapped, get_unmapped}
use Rattle.mm_rules.proofs.Numbers.{holds_cases}
use Rattle.mm_diff.specs.declared.renamed.Renaming.{Renaming}
use Rattle.mm_diff.specs.Diff.{AreRenamed, IsOne, IsRenamed}
use Rattle.mm_alike.specs.Alike.{IsAssertionNamed}
use Rattle.mm_diff.specs.Mirror.Changes.{plain_renaming}
use Rattle.mm_diff.specs.Mirror.Twins.{AreTwins, IsRenamedBy, IsTwinAt, TellRenamed, turned}
use Rattle.mm_alike.proofs.DifferingNumbers.{no_assertion, not_alone, one_name_of, one_number}
use Rattle.mm_diff.proofs.RenamedLabels.{alone_asserts, only_once}

-- ---- one with one alone

-- they are seen so from the other database
pub one_turned : (st others : List Sentence) (id n : ℕ) → IsOne st others id n
    → IsOne others st n id
one_turned st others id n (inl (label, here, there)) = inl (label, there, here)
one_turned st others id n (inr (one, other)) = inr (other, one)

-- one that is renamed doesn't have its label in the other database
not_renamed : (st others : List Sentence) (label : List ℕ) (id n m : ℕ)
    → IsAssertionNamed st label id → IsAssertionNamed others label n
    → ¬ (IsRenamed st others id m)
not_renamed st others label id n m here there both =
    not_alone st others id label here n there both.1.0

pub one_once : (st others : List Sentence) (id n m : ℕ) → AllMeant others
    → IsOne st others id n → IsOne st others id m → n ≡ m
one_once st others id n m meant (inl (label, here, there)) (inl (name, named, stands)) =
    let same : name ≡ label = one_name_of st name label id named here in
    one_number others label n m meant there
    (subst (λ (l : List ℕ). IsAssertionNamed others l m) same stands)
one_once st others id n m meant (inl (label, here, there)) (inr both) =
    absurd (not_renamed st others label id n m here there both)
one_once st others id n m meant (inr both) (inl (label, here, there)) =
    absurd (not_renamed st others label id m n here there both)
one_once st others id n m meant (inr both) (inr other) =
    only_once st others id n m both.0 other.0

-- each is an assertion
pub one_asserts : (st others : List Sentence) (id n : ℕ) → IsOne st others id n
    → IsAssertionNumber st id
one_asserts st others id n (inl (label, (index, s, numbered, named, asserts), there)) =
    (index, s, numbered, asserts)
one_asserts st others id n (inr both) = alone_asserts st others id both.1.0

pub one_within : (st others : List Sentence) (id n : ℕ) → IsOne st others id n
    → id < length (labelled_sentences st)
one_within st others id n one =
    let (index, s, numbered, asserts) = one_asserts st others id n one in
    numbered_within st id index s numbered

pub one_labelled : (st others : List Sentence) (id n : ℕ) → IsOne st others id n
    → IsLabelNumber st id
one_labelled st others id n one =
    let (index, s, numbered, asserts) = one_asserts st others id n one in
    (index, s, numbered)

-- a hypothesis is one with nothing
pub hypothesis_alone : (st others : List Sentence) (id : ℕ) (kind : Kind) → IsHypothesis kind
    → ((s : Sentence) → slice_get (labelled_sentences st) id ≡ Some s → s.kind ≡ kind)
    → (n : ℕ) → ¬ (IsOne st others id n)
hypothesis_alone st others id kind is told n one =
    let (index, s, numbered, asserts) = one_asserts st others id n one in
    no_assertion s.kind
    (subst IsHypothesis (sym (told s (numbered_get st id index s numbered))) is) asserts

-- ---- those that are renamed

-- what holds of each of a list holds of one of it
of_one : {X : Type 0} (P : X → Type 0) (xs : List X) (x : X) → AllByRecursion P xs
    → Contains xs x → P x
of_one P xs x all among =
    let (i, there) = at_from_contains xs x among in all_at P xs i x all there

-- the pairs are those of all that are renamed
pub renamed_tells : (old new : List Sentence) (pairs : List (ℕ × ℕ)) → AreRenamed old new pairs
    → TellRenamed old new pairs
renamed_tells old new pairs are n id = (
  (λ among. of_one (λ (p : ℕ × ℕ). IsRenamed old new p.0 p.1) pairs (n, id) are.each among),
  (λ is.
      let (i, there) = at_from_contains (map (λ (p : ℕ × ℕ). p.1) pairs) id
      ((are.order.each id).1 (n, is)) in
      let (p, at, same) = get_unmapped (λ (p : ℕ × ℕ). p.1) pairs i id there in
      let among : Contains pairs p = contains_from_at pairs p (i, at) in
      let own : IsRenamed old new p.0 p.1 =
      of_one (λ (q : ℕ × ℕ). IsRenamed old new q.0 q.1) pairs p are.each among in
      let moved : IsRenamed old new p.0 id =
      subst (λ (k : ℕ). IsRenamed old new p.0 k) same own in
      let first : p.0 ≡ n = only_once new old id p.0 n moved.1 is.1 in
      let whole : p ≡ (n, id) =
      ap (λ (k : ℕ). (k, p.1)) first ∙ ap (λ (k : ℕ). (n, k)) same in
      subst (λ (q : ℕ × ℕ). Contains pairs q) whole among),
)

-- so are the pairs with their numbers exchanged, seen from the other database
pub turned_tells : (others st : List Sentence) (pairs : List (ℕ × ℕ))
    → TellRenamed others st pairs → TellRenamed st others (map turned pairs)
turned_tells others st pairs tells n id = (
  (λ among.
      let (i, there) = at_from_contains (map turned pairs) (n, id) among in
      let (p, at, same) = get_unmapped turned pairs i (n, id) there in
      let back : p ≡ (id, n) = ap turned same in
      let here : Contains pairs (id, n) =
      subst (λ (q : ℕ × ℕ). Contains pairs q) back (contains_from_at pairs p (i, at)) in
      let is : IsRenamed others st id n = (tells id n).0 here in (is.1, is.0)),
  (λ is.
      let (i, at) = at_from_contains pairs (id, n) ((tells id n).1 (is.1, is.0)) in
      contains_from_at (map turned pairs) (n, id) (i, get_mapped turned pairs i (id, n) at)),
)

-- one more pair with its numbers exchanged
pub turned_more : (rs those more : List Renaming) (k : ℕ) (d : Renaming) → k < length rs
    → map plain_renaming those ≡ map turned (map plain_renaming (take k rs))
    → more ≡ those ++ record { other = (get_or rs k d).id; id = (get_or rs k d).other } ∷ []
    → map plain_renaming more ≡ map turned (map plain_renaming (take (k + 1) rs))
turned_more rs those more k d less so_far e =
    let r : Renaming = get_or rs k d in
    let back : Renaming = record { other = r.id; id = r.other } in
    let longer : map turned (map plain_renaming (take (k + 1) rs))
    ≡ map turned (map plain_renaming (take k rs)) ++ turned (plain_renaming r) ∷ [] =
    ap (λ (xs : List Renaming). map turned (map plain_renaming xs)) (take_more rs k d less)
    ∙ ap (map turned) (map-append plain_renaming (take k rs) (r ∷ []))
    ∙ map-append turned (map plain_renaming (take k rs)) (plain_renaming r ∷ []) in
    ap (map plain_renaming) e ∙ map-append plain_renaming those (back ∷ [])
    ∙ ap (λ (ps : List (ℕ × ℕ)). ps ++ turned (plain_renaming r) ∷ []) so_far ∙ sym longer

-- the pair of one that is renamed
pub pair_found : (rs : List Renaming) (k id : ℕ) (d : Renaming) → k < length rs
    → (get_or rs k d).id.0 ≡ id → IsRenamedBy (map plain_renaming rs) (get_or rs k d).other.0 id
pair_found rs k id d less same =
    let r : Renaming = get_or rs k d in
    subst (λ (n : ℕ). Contains (map plain_renaming rs) (r.other.0, n)) same
    (contains_from_at (map plain_renaming rs) (r.other.0, r.id.0)
    (k, get_mapped plain_renaming rs k r (slice_get-get_or rs k d less)))

-- none of those so far is that of one
abbrev pub IsNoPair : List Renaming → (id : ℕ) → Type 0
IsNoPair rs id = (n : ℕ) → ¬ (IsRenamedBy (map plain_renaming rs) n id)

pub no_pair_first : (rs : List Renaming) (id : ℕ) → rs ≡ [] → IsNoPair rs id
no_pair_first rs id e n among =
    let (i, there) = at_from_contains [] (n, id)
    (subst (λ (xs : List Renaming). Contains (map plain_renaming xs) (n, id)) e among) in
    absurd (cc)

pub no_pair_more : (rs : List Renaming) (k id : ℕ) (d : Renaming) → k < length rs
    → IsNoPair (take k rs) id → ¬ ((get_or rs k d).id.0 ≡ id) → IsNoPair (take (k + 1) rs) id
no_pair_more rs k id d less none apart n among =
    let r : Renaming = get_or rs k d in
    let longer : map plain_renaming (take (k + 1) rs)
    ≡ map plain_renaming (take k rs) ++ plain_renaming r ∷ [] =
    ap (map plain_renaming) (take_more rs k d less)
    ∙ map-append plain_renaming (take k rs) (r ∷ []) in
    elim (holds_cases (map plain_renaming (take k rs)) (plain_renaming r) (n, id)
    (subst (λ (ps : List (ℕ × ℕ)). Contains ps (n, id)) longer among)) [
      | inl before ↦ none n before
      | inr last ↦ apart (sym (ap (λ (p : ℕ × ℕ). p.1) last))
    ]

pub no_pair_all : (rs : List Renaming) (k id : ℕ) → length rs ≤ k → IsNoPair (take k rs) id
    → IsNoPair rs id
no_pair_all rs k id all none =
    subst (λ (xs : List Renaming). IsNoPair xs id) (take_all k rs all) none

-- ---- the one that is one with an assertion

module _ (st others : List Sentence) (pairs : List (ℕ × ℕ)) (id : ℕ)
    (tells : TellRenamed others st pairs) where
  -- it is renamed
  pub twin_renamed : (o : Option LabelId) → IfSome o (λ n. IsRenamedBy pairs n.0 id)
      → IfSome o (λ n. IsOne st others id n.0)
  twin_renamed None none = tt
  twin_renamed (Some n) is = let both = (tells n.0 id).0 is in inr (both.1, both.0)

  -- there is none
  pub no_twin : (label : List ℕ) → IsAssertionNamed st label id
      → ((n : ℕ) → ¬ (IsAssertionNamed others label n))
      → ((n : ℕ) → ¬ (IsRenamedBy pairs n id)) → (n : ℕ) → ¬ (IsOne st others id n)
  no_twin label here lacks none n (inl (name, named, stands)) =
      lacks n (subst (λ (l : List ℕ). IsAssertionNamed others l n)
      (one_name_of st name label id named here) stands)
  no_twin label here lacks none n (inr both) = none n ((tells n id).1 (both.1, both.0))

-- ---- the table

-- what it has of one number
pub twin_there : (twins : List (Option LabelId)) (id : ℕ) (o : Option LabelId)
    → slice_get twins id ≡ Some o → IfSome o (λ n. IsTwinAt twins id n.0)
twin_there twins id None there = tt
twin_there twins id (Some l) there = (l, there, refl)

pub twin_lacks : (twins : List (Option LabelId)) (id : ℕ) (o : Option LabelId)
    → slice_get twins id ≡ Some o → o ≡ None → (n : ℕ) → ¬ (IsTwinAt twins id n)
twin_lacks twins id o there none n (l, at, is) =
    let same : o ≡ Some l = same_Some o (Some l) (sym there ∙ at) in absurd (cc)

pub twin_past : (twins : List (Option LabelId)) (id : ℕ) → length twins ≤ id → (n : ℕ)
    → ¬ (IsTwinAt twins id n)
twin_past twins id past n (l, at, is) =
    let within : id < length twins = slice_get_within twins id (Some l) at in omega arith

-- the table of the numbers before an end
pub record AreTwinsTo (st others : List Sentence) (end : ℕ)
    (twins : List (Option LabelId)) : Type 0 where
  pub long : length twins ≡ end
  pub told : (id n : ℕ) → id < end → IsTwinAt twins id n ↔ IsOne st others id n

-- what is told of one number
twin_told : (st others : List Sentence) (id n : ℕ) (o : Option LabelId) → AllMeant others
    → IfSome o (λ l. IsOne st others id l.0)
    → (o ≡ None → (m : ℕ) → ¬ (IsOne st others id m))
    → ((l : LabelId) × (o ≡ Some l) × (l.0 ≡ n)) ↔ IsOne st others id n
twin_told st others id n None meant some none = (
  (λ (l, is, same). absurd (cc)),
  (λ one. absurd (none refl n one)),
)
twin_told st others id n (Some l) meant some none = (
  (λ (k, is, same). let here : l ≡ k = same_Some l k is in
      subst (λ (m : ℕ). IsOne st others id m) (ap (λ (j : LabelId). j.0) here ∙ same) some),
  (λ one. (l, refl, one_once st others id l.0 n meant some one)),
)

module _ (st others : List Sentence) (meant : AllMeant others) where
  pub twins_more : (end : ℕ) (twins more : List (Option LabelId)) (o : Option LabelId)
      → AreTwinsTo st others end twins → IfSome o (λ l. IsOne st others end l.0)
      → (o ≡ None → (m : ℕ) → ¬ (IsOne st others end m)) → more ≡ twins ++ o ∷ []
      → AreTwinsTo st others (end + 1) more
  twins_more end twins more o so_far some none e =
      subst (λ (ts : List (Option LabelId)). AreTwinsTo st others (end + 1) ts) (sym e) (record {
        long = length_pushed;
        told = λ id n less. elim (cases_eq id end) [
          | inl same ↦
              let both = twin_told st others end n o meant some none in (
                (λ (l, at, is). subst (λ (k : ℕ). IsOne st others k n) (sym same)
                    (both.0 (l, pushed_is id l same at, is))),
                (λ one.
                    let (l, is, equal) = both.1
                    (subst (λ (k : ℕ). IsOne st others k n) same one) in (
                      l,
                      subst (λ (k : ℕ). slice_get (twins ++ o ∷ []) k ≡ Some (Some l)) (sym same)
                          (last_is ∙ ap (λ (p : Option LabelId). Some p) is),
                      equal,
                    )),
              )
          | inr other ↦
              let both = so_far.told id n (omega arith) in (
                (λ (l, at, is). both.0 (l, before id l other at, is)),
                (λ one. let (l, at, is) = both.1 one in
                    (l, get_kept twins (o ∷ []) id (Some l) at, is)),
              )
        ];
      })
    where
      length_pushed : length (twins ++ o ∷ []) ≡ end + 1
      length_pushed = omega (arith, length-append twins (o ∷ []), so_far.long)

      last_is : slice_get (twins ++ o ∷ []) end ≡ Some o
      last_is = subst (λ (k : ℕ). slice_get (twins ++ o ∷ []) k ≡ Some o) so_far.long
          (get_pushed twins o)

      pushed_is : (id : ℕ) (l : LabelId) → id ≡ end
          → slice_get (twins ++ o ∷ []) id ≡ Some (Some l) → o ≡ Some l
      pushed_is id l same at =
          one_there (twins ++ o ∷ []) end o (Some l) last_is
          (subst (λ (k : ℕ). slice_get (twins ++ o ∷ []) k ≡ Some (Some l)) same at)

      before : (id : ℕ) (l : LabelId) → ¬ (id ≡ end)
          → slice_get (twins ++ o ∷ []) id ≡ Some (Some l) → slice_get twins id ≡ Some (Some l)
      before id l other at = elim (pushed_cases twins o id (Some l) at) [
        | inl there ↦ there
        | inr (is, last) ↦ absurd (other (is ∙ so_far.long))
      ]

  -- the table of all
  pub twins_all : (end : ℕ) (twins : List (Option LabelId)) → AreTwinsTo st others end twins
      → ((id n : ℕ) → IsOne st others id n → id < end) → AreTwins st others twins
  twins_all end twins so_far below id n = (
    (λ (l, at, is).
        let within : id < length twins = slice_get_within twins id (Some l) at in
        let long = so_far.long in
        (so_far.told id n (omega arith)).0 (l, at, is)),
    (λ one. (so_far.told id n (below id n one)).1 one),
  )

-- no label has a number from an end on
pub within_end : (st : List Sentence) (end id : ℕ) → ¬ (IsLabelNumber st end)
    → id < length (labelled_sentences st) → id < end
within_end st end id none within = elim (cases_lt id end) [
  | inl less ↦ less
  | inr more ↦ absurd (none (numbered_some st end (omega arith)))
]

-- an empty table is that of no numbers
pub twins_none : (st others : List Sentence) (twins : List (Option LabelId)) → twins ≡ []
    → AreTwinsTo st others 0 twins
twins_none st others twins e =
    subst (λ (ts : List (Option LabelId)). AreTwinsTo st others 0 ts) (sym e)
    (record { long = refl; told = λ id n less. absurd (omega arith) })
