-- Labels that are near to another: each label is offered that the proof may name.
use Rattle.std.proofs.Common.{◌≡◌, ◌≢◌, ℕ, suc, ◌+◌, ◌≤◌, ◌<◌, List, [], ◌∷◌, ◌++◌, length, take, slice_get}
use Rattle.std.proofs.Common.{arith, inl, inr, ◌⊎◌, ◌∙◌, ◌↔◌, Bool, true, Some}
use Rattle.std.proofs.Common.{refl, ap, sym, subst, option_map, unwrap_or}
use Rattle.std.proofs.lemmas.List.{take-take, take_all, length-map}
use Rattle.std.proofs.lemmas.Option.{slice_get-map}
use Rattle.mm_base.proofs.Lists.{get_in_front, take_next, one_there}
use Rattle.mm_base.specs.declared.statement.Kind.{Kind}
use Rattle.mm_base.specs.declared.statement.Kind.TheVariants.{Floating, Essential}
use Rattle.mm_frame.specs.Frame.{AreThose}
use Rattle.mm_frame.specs.Rules.{AllMeant}
use Rattle.mm_frame.specs.Sentence.{Sentence, IsLabelled, IsAssertion, IsHypothesis}
use Rattle.mm_frame.specs.Active.{IsActive}
use Rattle.mm_frame.specs.Numbers.{labelled_sentences, IsNumbered}
use Rattle.mm_frame.specs.FrameIndex.{FrameIndex, before_it}
use Rattle.mm_frame.specs.Taken.{kind_behind}
use Rattle.mm_frame.specs.declared.number.LabelKind.{LabelKind}
use Rattle.mm_frame.specs.declared.number.LabelKind.TheVariants as label_kinds
use Rattle.mm_frame.proofs.Names.LabelNumbers.{numbered_get, numbered_some, numbered_within}
use Rattle.mm_frame.proofs.Names.LabelNumbers.{numbered_unique}
use Rattle.mm_frame.proofs.Rules.ObeyedRules.{one_label, allmeant_prefix}
use Rattle.mm_step.specs.Steps.{IsProofNumber, IsUsable}
use Rattle.mm_proof.specs.Parsed.{OfProof}
use Rattle.mm_proof.proofs.ProofNumbers.NumberedLabels.{numbers_order}
use Rattle.mm_facts.specs.Explained.{labels_in, AreNearLabels}
use Rattle.mm_near.specs.Near.{AreNearestBelow}
use Rattle.mm_near.proofs.Offers.{those_next, those_passed, nearest_told}

-- the kind of a labelled statement that is no hypothesis
pub assertion_kind : (kind : LabelKind) → kind ≢ label_kinds.Floating → kind ≢ label_kinds.Essential
    → IsAssertion (kind_behind kind)
assertion_kind label_kinds.Floating floating essential = absurd (floating refl)
assertion_kind label_kinds.Essential floating essential = absurd (essential refl)
assertion_kind label_kinds.Axiom floating essential = inl refl
assertion_kind label_kinds.Proof floating essential = inr refl

-- a hypothesis is usable, if it is active
pub floating_alone : (kind : Kind) (Active : Type 0) → kind ≡ Floating
    → IsAssertion kind ⊎ (IsHypothesis kind × Active) → Active
floating_alone kind Active is (inl (inl stated)) = absurd (let e = is in cc)
floating_alone kind Active is (inl (inr proved)) = absurd (let e = is in cc)
floating_alone kind Active is (inr h) = h.1

pub essential_alone : (kind : Kind) (Active : Type 0) → kind ≡ Essential
    → IsAssertion kind ⊎ (IsHypothesis kind × Active) → Active
essential_alone kind Active is (inl (inl stated)) = absurd (let e = is in cc)
essential_alone kind Active is (inl (inr proved)) = absurd (let e = is in cc)
essential_alone kind Active is (inr h) = h.1

-- so many first labels of those before the `$p` were gone through, and these were found
abbrev pub GoneThrough : (st : List Sentence) → (id number limit : ℕ) → (wanted : List ℕ)
    → (listed found : List (List ℕ)) → Type 0
GoneThrough st id number limit wanted listed found = OfProof st id (λ index s.
    (usable : List (List ℕ))
    × AreThose (λ i label. IsUsable (take index st) label) 0
    (take number (labels_in (take index st))) usable
    × AreNearestBelow wanted listed usable limit found)

-- none yet
pub none_gone : (st : List Sentence) (id limit : ℕ) (wanted : List ℕ)
    (listed found : List (List ℕ)) → AreNearestBelow wanted listed [] limit found
    → GoneThrough st id 0 limit wanted listed found
none_gone st id limit wanted listed found begun = λ index s proof. ([], refl, begun)

-- all of them
pub all_gone : (st : List Sentence) (id number limit : ℕ) (wanted : List ℕ)
    (listed found : List (List ℕ)) → id ≤ number
    → GoneThrough st id number limit wanted listed found
    → OfProof st id (λ index s. AreNearLabels (take index st) listed wanted found)
all_gone st id number limit wanted listed found is gone = λ index s proof.
    let before = take index st in
    let (usable, those, nearest) = gone index s proof in
    let long : length (labels_in before) ≡ id =
    length-map (labelled_sentences before) (λ (s : Sentence). unwrap_or s.label [])
    ∙ proof.numbered.number in (
      usable,
      subst (λ (ls : List (List ℕ)). AreThose (λ i label. IsUsable before label) 0 ls usable)
          (take_all number (labels_in before) (omega arith)) those,
      nearest_told wanted listed usable limit found nearest,
    )

-- the label with a number below that of the `$p`
module _ (st : List Sentence) (number id : ℕ) (own : FrameIndex) (label : List ℕ)
    (same : own.statements ≡ st) (a : Sentence) (numbered : IsNumbered st id own.index a)
    (all : AllMeant st) (less : number < id)
    (named : (s : Sentence) → slice_get (labelled_sentences st) number ≡ Some s
    → IsLabelled label s) (test : Bool)
    (tests : (at : ℕ) (s : Sentence) → IsNumbered st number at s
    → (test ≡ true) ↔ (IsAssertion s.kind ⊎ (IsHypothesis s.kind × IsActive (before_it own) at)))
  where
    module _ (index : ℕ) (s : Sentence) (proof : IsProofNumber st id index s) where
      its : (at : ℕ) × (t : Sentence) × IsNumbered st number at t
      its =
          let within = numbered_within st id index s proof.numbered in
          numbered_some st number (omega arith)

      earlier : its.0 < index
      earlier = numbers_order st number id its.0 index its.1 s its.2 proof.numbered less

      stands : slice_get (take index st) its.0 ≡ Some its.1
      stands = get_in_front st index its.0 its.1 earlier its.2.there

      in_front : IsNumbered (take index st) number its.0 its.1
      in_front = record {
        there = stands;
        named = its.2.named;
        number = let e = earlier in rw (take-take its.0 index st (omega arith)) its.2.number;
      }

      labelled : IsLabelled label its.1
      labelled = named its.1 (numbered_get st number its.0 its.1 its.2)

      front_same : before_it own ≡ take index st
      front_same =
          let place = (numbered_unique st id own.index index a s numbered proof.numbered).0 in
          ap (λ (ss : List Sentence). take own.index ss) same ∙ ap (λ (n : ℕ). take n st) place

      -- it is the next one
      next_label : take (number + 1) (labels_in (take index st))
          ≡ take number (labels_in (take index st)) ++ label ∷ []
      next_label =
          let next : number + 1 ≡ suc number = omega arith in
          ap (λ (n : ℕ). take n (labels_in (take index st))) next
          ∙ take_next (labels_in (take index st)) number label
          (slice_get-map (λ (s : Sentence). unwrap_or s.label [])
          (labelled_sentences (take index st)) number
          ∙ ap (option_map (λ (s : Sentence). unwrap_or s.label []))
          (numbered_get (take index st) number its.0 its.1 in_front)
          ∙ ap (λ o. Some (unwrap_or o [])) labelled)

      -- it may be named
      is_usable : test ≡ true → IsUsable (take index st) label
      is_usable passes =
          elim ((tests its.0 its.1 its.2).0 passes) [
            | inl assertion ↦ inr (its.0, its.1, stands, (labelled, assertion))
            | inr hypothesis ↦
                inl (
                  its.0,
                  its.1,
                  stands,
                  subst (λ (b : List Sentence). IsActive b its.0) front_same hypothesis.1,
                  (labelled, hypothesis.0),
                )
          ]

      -- no other statement has the label
      one : (at : ℕ) (t : Sentence) → slice_get (take index st) at ≡ Some t → IsLabelled label t
          → (at ≡ its.0) × (t ≡ its.1)
      one at t there has =
          let place = one_label (take index st) label at its.0 t its.1 (allmeant_prefix st index all)
          there stands has labelled in (
            place,
            one_there (take index st) its.0 t its.1
                (subst (λ (n : ℕ). slice_get (take index st) n ≡ Some t) place there) stands,
          )

      usable_only : IsUsable (take index st) label → test ≡ true
      usable_only (inl (at, t, there, active, has)) =
          let same_one = one at t there has.0 in
          (tests its.0 its.1 its.2).1
          (inr (
            subst (λ (u : Sentence). IsHypothesis u.kind) same_one.1 has.1,
            subst (λ (b : List Sentence). IsActive b its.0) (sym front_same)
                (subst (λ (n : ℕ). IsActive (take index st) n) same_one.0 active),
          ))
      usable_only (inr (at, t, there, has)) =
          let same_one = one at t there has.0 in
          (tests its.0 its.1 its.2).1
          (inl (subst (λ (u : Sentence). IsAssertion u.kind) same_one.1 has.1))

    module _ (limit : ℕ) (wanted : List ℕ) (listed found : List (List ℕ))
        (before : GoneThrough st id number limit wanted listed found) where
      -- it was offered
      pub one_offered : test ≡ true → (new_limit : ℕ) (new_found : List (List ℕ))
          → ((names : List (List ℕ)) → AreNearestBelow wanted listed names limit found
          → AreNearestBelow wanted listed (names ++ label ∷ []) new_limit new_found)
          → GoneThrough st id (number + 1) new_limit wanted listed new_found
      one_offered passes new_limit new_found offered = λ index s proof.
          let (usable, those, nearest) = before index s proof in (
            usable ++ label ∷ [],
            those_next (λ i l. IsUsable (take index st) l) (take number (labels_in (take index st)))
                (take (number + 1) (labels_in (take index st))) usable label
                (next_label index s proof) those (is_usable index s proof passes),
            offered usable nearest,
          )

      -- or it may not be named
      pub one_passed : ¬ (test ≡ true)
          → GoneThrough st id (number + 1) limit wanted listed found
      one_passed fails = λ index s proof.
          let (usable, those, nearest) = before index s proof in (
            usable,
            those_passed (λ i l. IsUsable (take index st) l) (take number (labels_in (take index st)))
                (take (number + 1) (labels_in (take index st))) usable label
                (next_label index s proof) those (λ may. fails (usable_only index s proof may)),
            nearest,
          )
