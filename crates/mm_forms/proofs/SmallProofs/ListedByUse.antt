-- The pair with the labels of a proof by use, and codes with their new numbers, say the moves that
-- the proof says.
use Rattle.std.proofs.Common.{◌≡◌, ℕ, ◌+◌, ◌<◌, List, [], ◌∷◌, ◌++◌, length, get_or, slice_get}
use Rattle.std.proofs.Common.{Contains, Some, refl, sym, ap, subst, ◌∙◌, arith}
use Rattle.std.proofs.Common.{inl, inr, ⊎_elim, ◌↔◌, All}
use Rattle.std.specs.List.{AllZip}
use Rattle.std.specs.List.Sorted.{IsPermutation}
use Rattle.std.proofs.lemmas.List.Sorted.{Contains-permutation, IsPermutation-sym}
use Rattle.std.proofs.lemmas.List.Sorted.{length_permutation}
use Rattle.std.proofs.lemmas.List.{length-append}
use Rattle.std.proofs.lemmas.Option.{same_Some, slice_get_within, slice_get-get_or}
use Rattle.std.proofs.lemmas.Option.{get_or_from_slice_get}
use Rattle.mm_base.proofs.Lists.{zip_left, zip_right, zip_length, get_after, get_kept, append_cases}
use Rattle.mm_base.proofs.Lists.{contains_from_at, at_from_contains}
use Rattle.mm_code.specs.declared.code.Code.{Code}
use Rattle.mm_code.specs.declared.code.Code.TheVariants.{Number, Tag}
use Rattle.mm_forms.specs.declared.small.LabelUse.{LabelUse}
use Rattle.mm_step.specs.Moves.{Move, name}
use Rattle.mm_proof.specs.Tokens.{Says}
use Rattle.mm_forms.specs.Sharing.{AreFirstUses}
use Rattle.mm_forms.specs.SmallProofs.{uses, ComesBefore, AreByUse}
use Rattle.mm_forms.specs.Mirror.CodeSmall.{AreLabelUses, AreWithin}
use Rattle.mm_forms.specs.Mirror.CodeSmall.{IsRenumbered, times, ArePlaces, AreInOrder}
use Rattle.mm_proof.specs.Mirror.SharedSteps.{In}
use Rattle.mm_proof.proofs.Members.{Once, once_indices, get_in, in_get, contains_in}
use Rattle.mm_proof.proofs.Members.{in_contains}
use Rattle.mm_proof.proofs.Members.{in_apart}
use Rattle.mm_forms.proofs.FullSharing.OneSharedProof.{uses_apart, uses_have}
use Rattle.mm_forms.proofs.FullSharing.OneSharedProof.{once_joined}
use Rattle.mm_forms.proofs.SmallProofs.UsedLabels.{named, named_in, in_named, first_named}
use Rattle.mm_forms.proofs.SmallProofs.UsedLabels.{used_before, uses_times}

-- ---- entries of the order

module _ (own : ℕ) (codes : List Code) (entries order : List LabelUse)
    (counted : AreLabelUses own codes entries) (permuted : IsPermutation entries order) where
  -- an entry has an index of a label, and how often this label is used
  pub entry : (k : ℕ) (one : LabelUse) → slice_get order k ≡ Some one
      → (one.index < length entries) × (one.uses ≡ times (own + one.index + 1) codes)
  entry k one there =
      let back = IsPermutation-sym entries order permuted in
      let has = Contains-permutation order entries one back
      (contains_from_at order one (k, there)) in
      let same : get_or entries has.0 one ≡ one = has.2 in
      let told = counted has.0 one has.1 in
      let index : one.index ≡ has.0 = ap (λ (u : LabelUse). u.index) (sym same) ∙ told.0 in (
        omega (arith, index, has.1),
        rw index
            (ap (λ (u : LabelUse). u.uses) (sym same) ∙ told.1),
      )

  pub entries_within : AreWithin order (length entries)
  entries_within k one there = (entry k one there).0

  -- each label has an entry
  pub entry_of : (i : ℕ) → i < length entries
      → (k : ℕ) × (one : LabelUse) × (slice_get order k ≡ Some one) × (one.index ≡ i)
  entry_of i less =
      let d : LabelUse = record { index = 0; uses = 0 } in
      let one = get_or entries i d in
      let has : Contains entries one =
      contains_from_at entries one (i, slice_get-get_or entries i d less) in
      let at = at_from_contains order one (Contains-permutation entries order one permuted has) in
      (at.0, one, at.1, (counted i d less).0)

-- ---- the codes keep what is asked of each

pub renumbered_keep : (own : ℕ) (places : List ℕ) (P : Code → Type 0)
    → ((i place : ℕ) → slice_get places i ≡ Some place → P (Number (own + place + 1)))
    → (codes codes' : List Code) → AllZip (IsRenumbered own places) codes codes' → All P codes
    → All P codes'
renumbered_keep own places P new codes codes' z all k d less =
    let there = slice_get-get_or codes' k d less in
    let beside = zip_right (IsRenumbered own places) codes codes' k (get_or codes' k d) z there in
    let within = slice_get_within codes k beside.0 beside.1 in
    let old : P beside.0 =
    subst P (get_or_from_slice_get codes k beside.0 d beside.1) (all k d within) in
    ⊎_elim (λ h. subst P (sym h.4) (new h.0 h.1 h.3)) (λ h. subst P (sym h.1) old) beside.2

-- ---- what the codes say

behind : (names listed : List (List ℕ)) (i : ℕ) (label : List ℕ)
    → slice_get (names ++ listed) (length names + i) ≡ Some label → slice_get listed i ≡ Some label
behind names listed i label there = ⊎_elim
    (λ h. absurd (omega (arith, slice_get_within names (length names + i) label h)))
    (λ h. let same : h.0 ≡ i = omega (arith, h.1) in rw same at h.2)
    (append_cases names listed (length names + i) label there)

module _ (own : ℕ) (names listed : List (List ℕ)) (codes : List Code)
    (moves : List (Move (List ℕ))) (entries order : List LabelUse)
    (counted : AreLabelUses own codes entries) (permuted : IsPermutation entries order)
    (many : length entries ≡ length listed) (own_is : own ≡ length names)
    (listed' : List (List ℕ))
    (those : AllZip (λ (one : LabelUse) l. slice_get listed one.index ≡ Some l) order listed') where
  -- what is listed at a place was listed at its entry's index
  pub listed_there : (k : ℕ) (label : List ℕ) → slice_get listed' k ≡ Some label
      → (one : LabelUse) × (slice_get order k ≡ Some one)
      × (slice_get listed one.index ≡ Some label)
  listed_there k label there =
      zip_right (λ (one : LabelUse) l. slice_get listed one.index ≡ Some l) order listed' k label
      those there

  -- and what was listed at an index is so at the places of its entries
  pub place_there : (k : ℕ) (one : LabelUse) (label : List ℕ) → slice_get order k ≡ Some one
      → slice_get listed one.index ≡ Some label → slice_get listed' k ≡ Some label
  place_there k one label there at =
      let beside = zip_left (λ (u : LabelUse) l. slice_get listed u.index ≡ Some l) order listed' k
      one those there in
      beside.1 ∙ sym beside.2 ∙ at

  pub lengths : (length listed' ≡ length listed) × (length order ≡ length listed)
  lengths =
      let p = length_permutation entries order permuted in
      let q = zip_length (λ (one : LabelUse) l. slice_get listed one.index ≡ Some l) order listed'
      those in
      (omega (arith, p, q), omega (arith, p))

  -- ---- codes

  module _ (places : List ℕ) (long : length places ≡ length order)
      (placed : ArePlaces order places) where
    -- the number of a label becomes that of its place
    pub at_place : (index place : ℕ) (label : List ℕ) → slice_get listed index ≡ Some label
        → slice_get places index ≡ Some place
        → slice_get (names ++ listed') (own + place) ≡ Some label
    at_place index place label there at =
        let less : index < length entries =
        omega (arith, slice_get_within listed index label there) in
        let e = entry_of own codes entries order counted permuted index less in
        let p = placed e.0 e.1 e.2 in
        let same : p.0 ≡ place = same_Some p.0 place (sym p.2 ∙ ap (slice_get places) e.3 ∙ at) in
        let its : p.1.index ≡ index = p.4 ∙ e.3 in
        let here : slice_get listed' place ≡ Some label =
        rw (← same) (place_there p.0 p.1 label p.3 (rw its there)) in
        rw own_is (get_after names listed' place label here)

    pub says_new : (c c' : Code) (m : Move (List ℕ)) → Says (names ++ listed) c m
        → IsRenumbered own places c c' → Says (names ++ listed') c' m
    says_new Tag c' m says (inl h) = absurd (cc (h.2))
    says_new Tag c' m says (inr h) = rw h.1 says
    says_new (Number n) c' m says (inl h) =
        let is : n ≡ own + h.0 + 1 = cc (h.2) in
        let inside = slice_get_within places h.0 h.1 h.3 in
        let whole = length-append names listed in
        rw h.4 (
          own + h.1,
          refl,
          ⊎_elim
              (λ a.
              let at : says.0 ≡ length names + h.0 = omega (arith, says.1, is, own_is) in
              let old = rw at at a.1 in
              let there : slice_get listed h.0 ≡ Some a.0 = behind names listed h.0 a.0 old in
              inl (a.0, at_place h.0 h.1 a.0 there h.3, a.2))
              (λ a. absurd (omega (arith, says.1, is, a.1, whole, inside, lengths.1, long, own_is)))
              says.2,
        )
    says_new (Number n) c' m says (inr h) =
        let whole = length-append names listed in
        let whole' = length-append names listed' in
        rw h.1 (
          says.0,
          says.1,
          ⊎_elim
              (λ a. inl (
                a.0,
                ⊎_elim (λ k. get_kept names listed' says.0 a.0 k)
                    (λ k. absurd (h.0 k.0
                    (omega (arith, slice_get_within listed k.0 a.0 k.2, lengths.1, long))
                    (ap Number (omega (arith, says.1, k.1, own_is)))))
                    (append_cases names listed says.0 a.0 a.1),
                a.2,
              ))
              (λ a. inr (a.0, omega (arith, a.1, whole, whole', lengths.0), a.2)) says.2,
        )

    pub all_say_new : (codes codes' : List Code) (moves : List (Move (List ℕ)))
        → AllZip (Says (names ++ listed)) codes moves
        → AllZip (IsRenumbered own places) codes codes'
        → AllZip (Says (names ++ listed')) codes' moves
    all_say_new [] [] [] z r = tt
    all_say_new (c ∷ codes) (c' ∷ codes') (m ∷ moves) z r =
        (says_new c c' m z.0 r.0, all_say_new codes codes' moves z.1 r.1)
    all_say_new (c ∷ codes) codes' [] z r = absurd z
    all_say_new [] codes' (m ∷ moves) z r = absurd z
    all_say_new codes codes' moves z r = absurd r

  -- ---- the list

  module _ (ordered : AreInOrder order) (once : Once names)
      (first : AreFirstUses names (named moves) listed)
      (says : AllZip (Says (names ++ listed)) codes moves) where
    pub all_once : Once (names ++ listed)
    all_once =
        let apart = uses_apart (named moves) names listed first in
        once_joined names listed once apart.0 apart.1

    -- a label is used as often as its entry says
    pub its_uses : (k : ℕ) (one : LabelUse) (label : List ℕ) → slice_get order k ≡ Some one
        → slice_get listed one.index ≡ Some label → one.uses ≡ uses label moves
    its_uses k one label there at =
        let e = entry own codes entries order counted permuted k one there in
        e.1 ∙ sym (uses_times (names ++ listed) all_once (own + one.index) label
        (rw own_is (get_after names listed one.index label at)) codes moves says)

    pub not_before : (i j : ℕ) (label : List ℕ) → i < j → slice_get listed' i ≡ Some label
        → slice_get listed' j ≡ Some label → ⊥
    not_before i j label less p q =
        let a = listed_there i label p in
        let b = listed_there j label q in
        let apart = uses_apart (named moves) names listed first in
        let same = once_indices listed a.0.index b.0.index label apart.0 a.2 b.2 in
        let u = its_uses i a.0 label a.1 a.2 in
        let v = its_uses j b.0 label b.1 b.2 in
        let o = ordered i j a.0 b.0 less a.1 b.1 in
        ⊎_elim (λ h. omega (arith, h, u, v)) (λ h. omega (arith, h.1, same)) o

    pub comes_before : (i j : ℕ) (a b : List ℕ) → i < j → slice_get listed' i ≡ Some a
        → slice_get listed' j ≡ Some b → ComesBefore moves a b
    comes_before i j a b less p q =
        let x = listed_there i a p in
        let y = listed_there j b q in
        let u = its_uses i x.0 a x.1 x.2 in
        let v = its_uses j y.0 b y.1 y.2 in
        ⊎_elim (λ h. inl (omega (arith, h, u, v)))
        (λ h. inr (
          omega (arith, h.0, u, v),
          used_before moves names listed x.0.index y.0.index a b
              first h.1 x.2 y.2,
        )) (ordered i j x.0 y.0 less x.1 y.1)

    -- what is listed is used and isn't among the names, and the other way round
    pub members : (label : List ℕ)
        → Contains listed' label ↔ (Contains moves (name label) × ¬ (Contains names label))
    members label = (
      λ h.
          let at = at_from_contains listed' label h in
          let a = listed_there at.0 label at.1 in
          let old = get_in listed a.0.index label a.2 in (
            in_contains moves (name label)
                (named_in moves label (first_named names (named moves) listed label first old)),
            λ k. (uses_apart (named moves) names listed first).1 label old
                (contains_in names label k),
          ),
      λ h.
          let used = in_named moves label (contains_in moves (name label) h.0) in
          let has = uses_have (named moves) names listed label first used in
          let old : In listed label =
          ⊎_elim (λ k. absurd (h.1 (in_contains names label k))) (λ k. k)
          (in_apart names listed label has) in
          let at = in_get listed label old in
          let less : at.0 < length entries =
          omega (arith, slice_get_within listed at.0 label at.1) in
          let e = entry_of own codes entries order counted permuted at.0 less in
          contains_from_at listed' label
          (e.0, place_there e.0 e.1 label e.2 (rw e.3 at.1)),
    )

    pub listed_by_use : AreByUse names moves listed'
    listed_by_use = record {
      those = members;
      once = λ i j label p q.
          let m = not_before i j label in
          let n = not_before j i label in
          omega (arith, λ (h : i < j). m h p q, λ (h : j < i). n h q p);
      ordered = comes_before;
    }
