-- Over how many trees labels stand, by their numbers. On this file rest the contracts of `moves`,
-- and what is said of the moves of two databases.
use Rattle.std.proofs.Common.{◌≡◌, ◌⊎◌, ℕ, List, length, take, slice_get, Some, inl, inr, refl, sym}
use Rattle.std.proofs.Common.{ap, subst, ◌∙◌, ◌≤◌, arith, ◌↔◌, Bool, true, bytes_eq}
use Rattle.std.proofs.lemmas.List.{take-take}
use Rattle.std.proofs.lemmas.Option.{same_Some}
use Rattle.std.proofs.lemmas.Slice.Eq.{bytes_eq-Decides}
use Rattle.mm_base.specs.declared.statement.Kind.{Kind}
use Rattle.mm_base.proofs.Lists.{get_from_take, get_from_front}
use Rattle.mm_frame.specs.Frame.{AreMandatory}
use Rattle.mm_frame.specs.Numbers.{IsLabelNumber, IsNumbered, labelled_sentences}
use Rattle.mm_frame.specs.Rules.{AllMeant}
use Rattle.mm_frame.specs.Sentence.{Sentence, IsAssertion, IsHypothesis, IsLabelled}
use Rattle.mm_frame.proofs.Frames.FrameLaws.{mandatory_unique}
use Rattle.mm_frame.proofs.Names.LabelNumbers.{numbered_get, numbered_from_get, numbered_unique}
use Rattle.mm_step.specs.Tree.{Trees, Names, MayStandOver, roots}
use Rattle.mm_step.proofs.ProofSteps.OneStep.{hypothesis_or_assertion, one_label, one_labelled}
use Rattle.mm_step.proofs.ProofSteps.OneStep.{one_names}
use Rattle.mm_forms.specs.Spelled.{IsNumberOfLabel}
use Rattle.mm_alike.specs.Mirror.Steps.{HasWidth, HaveOneLabel, HaveOneWidth}
use Rattle.mm_alike.proofs.DifferingNumbers.{no_assertion}

-- a label stands over one number of trees
pub width_once : (st : List Sentence) (id w v : ℕ) → HasWidth st id w → HasWidth st id v → w ≡ v
width_once st id w v one other =
    let (index, s) = numbered_unique st id one.index other.index one.s other.s one.numbered
    other.numbered in
    go index s one.stands other.stands
  where
    go : one.index ≡ other.index → one.s ≡ other.s
        → ((IsHypothesis one.s.kind × (w ≡ 0))
        ⊎ (IsAssertion one.s.kind × (hypotheses : List Sentence)
        × AreMandatory (take one.index st) one.s hypotheses × (w ≡ length hypotheses)))
        → ((IsHypothesis other.s.kind × (v ≡ 0))
        ⊎ (IsAssertion other.s.kind × (hypotheses : List Sentence)
        × AreMandatory (take other.index st) other.s hypotheses × (v ≡ length hypotheses)))
        → w ≡ v
    go index s (inl p) (inl q) = p.1 ∙ sym q.1
    go index s (inl p) (inr q) =
        absurd (no_assertion other.s.kind (subst (λ (u : Sentence). IsHypothesis u.kind) s p.0) q.0)
    go index s (inr p) (inl q) =
        absurd (no_assertion other.s.kind q.0 (subst (λ (u : Sentence). IsAssertion u.kind) s p.0))
    go index s (inr p) (inr q) =
        let here : AreMandatory (take other.index st) other.s p.1 =
        subst (λ (k : ℕ). AreMandatory (take k st) other.s p.1) index
        (subst (λ (u : Sentence). AreMandatory (take one.index st) u p.1) s p.2) in
        p.3
        ∙ ap (λ (hs : List Sentence). length hs)
        (mandatory_unique (take other.index st) other.s p.1 q.1 here q.2)
        ∙ sym q.3

-- what is named in a prefix is named in the whole
names_whole : (st : List Sentence) (i k : ℕ) (label : List ℕ) (a : Sentence) (hs : List Sentence)
    → Names (take i st) label k a hs → Names st label k a hs
names_whole st i k label a hs n =
    let (less, there) = get_from_take st i k a n.there in
    let short : k ≤ i = omega arith in
    record {
      there = there;
      named = n.named;
      kind = n.kind;
      mandatory =
          subst (λ (before : List Sentence). AreMandatory before a hs) (take-take k i st short)
          n.mandatory;
    }

module _ (st : List Sentence) (i id : ℕ) (label : List ℕ) (below : Trees) (meant : AllMeant st)
    (n : IsNumberOfLabel st id label) where
  -- the width of a label is how many trees it stands over, wherever it may
  pub stands_width : (w : ℕ) → HasWidth st id w → MayStandOver (take i st) label below
      → roots below ≡ w
  stands_width w has stands =
      let there = numbered_get st id has.index has.s has.numbered in
      let same : n.s ≡ has.s = same_Some n.s has.s (sym n.there ∙ there) in
      let named : IsLabelled label has.s =
      subst (λ (u : Sentence). IsLabelled label u) same n.named in
      go named stands has.stands
    where
      go : IsLabelled label has.s → MayStandOver (take i st) label below
          → ((IsHypothesis has.s.kind × (w ≡ 0))
          ⊎ (IsAssertion has.s.kind × (hypotheses : List Sentence)
          × AreMandatory (take has.index st) has.s hypotheses × (w ≡ length hypotheses)))
          → roots below ≡ w
      go named (inl p) (inl q) = ap roots p.0 ∙ sym q.1
      go named (inl p) (inr q) =
          absurd (hypothesis_or_assertion st p.1.0 has.index p.1.1 has.s label meant
          (get_from_front st i p.1.0 p.1.1 p.1.2) has.numbered.there p.1.4.0 named p.1.4.1 q.0)
      go named (inr p) (inl q) =
          absurd (hypothesis_or_assertion st has.index p.0 has.s p.1 label meant has.numbered.there
          (get_from_front st i p.0 p.1 p.3.there) named p.3.named q.0 p.3.kind)
      go named (inr p) (inr q) =
          let own : Names st label has.index has.s q.1 = record {
            there = has.numbered.there;
            named = named;
            kind = q.0;
            mandatory = q.2;
          } in
          p.4
          ∙ ap (λ (hs : List Sentence). length hs)
          (one_names st label p.0 has.index p.1 has.s p.2 q.1 meant
          (names_whole st i p.0 label p.1 p.2 p.3) own)
          ∙ sym q.3

  -- and so many is its width
  pub width_stands : MayStandOver (take i st) label below → HasWidth st id (roots below)
  width_stands stands =
      let (index, numbered) = numbered_from_get st id n.s n.there in
      go index numbered stands
    where
      moved : (index k : ℕ) (t : Sentence) → IsNumbered st id index n.s
          → slice_get st k ≡ Some t → IsLabelled label t → IsNumbered st id k t
      moved index k t numbered there named =
          let at : index ≡ k =
          one_label st index k n.s t label meant numbered.there there n.named named in
          let same : n.s ≡ t =
          one_labelled st index k n.s t label meant numbered.there there n.named named in
          subst (λ (m : ℕ). IsNumbered st id m t) at
          (subst (λ (u : Sentence). IsNumbered st id index u) same numbered)

      go : (index : ℕ) → IsNumbered st id index n.s → MayStandOver (take i st) label below
          → HasWidth st id (roots below)
      go index numbered (inl p) = record {
        index = p.1.0;
        s = p.1.1;
        numbered =
            moved index p.1.0 p.1.1 numbered (get_from_front st i p.1.0 p.1.1 p.1.2) p.1.4.0;
        stands = inl (p.1.4.1, ap roots p.0);
      }
      go index numbered (inr p) =
          let whole = names_whole st i p.0 label p.1 p.2 p.3 in
          record {
            index = p.0;
            s = p.1;
            numbered = moved index p.0 p.1 numbered whole.there whole.named;
            stands = inr (whole.kind, p.2, whole.mandatory, p.4);
          }

-- ---- labels by their numbers

-- a hypothesis stands over nothing
pub no_width : (st : List Sentence) (id : ℕ) (kind : Kind) → IsHypothesis kind
    → IsLabelNumber st id
    → ((s : Sentence) → slice_get (labelled_sentences st) id ≡ Some s → s.kind ≡ kind)
    → HasWidth st id 0
no_width st id kind is (index, s, numbered) told = record {
  index = index;
  s = s;
  numbered = numbered;
  stands =
      inl (subst IsHypothesis (sym (told s (numbered_get st id index s numbered))) is, refl);
}

-- two labels are one by their bytes
pub one_label_told : (old new : List Sentence) (one other : ℕ) (x y : List ℕ) (b : Bool)
    → IsLabelNumber old one → IsLabelNumber new other
    → ((s : Sentence) → slice_get (labelled_sentences old) one ≡ Some s → IsLabelled x s)
    → ((s : Sentence) → slice_get (labelled_sentences new) other ≡ Some s → IsLabelled y s)
    → b ≡ bytes_eq x y → (b ≡ true) ↔ HaveOneLabel old new one other
one_label_told old new one other x y b (i, s, numbered) (j, t, numbered') told told' e = (
  (λ is.
      let same : x ≡ y = (bytes_eq-Decides x y).0 (sym e ∙ is) in
      let at = numbered_get old one i s numbered in
      let at' = numbered_get new other j t numbered' in
      let here : IsNumberOfLabel old one y = record {
        s = s;
        there = at;
        named = told s at ∙ ap (λ (l : List ℕ). Some l) same;
      } in
      let there : IsNumberOfLabel new other y =
      record { s = t; there = at'; named = told' t at' } in
      (y, here, there)),
  (λ (label, n, m).
      let mine : x ≡ label = same_Some x label (sym (told n.s n.there) ∙ n.named) in
      let theirs : y ≡ label = same_Some y label (sym (told' m.s m.there) ∙ m.named) in
      e ∙ (bytes_eq-Decides x y).1 (mine ∙ sym theirs)),
)

-- two widths are one
pub one_width_told : (old new : List Sentence) (one other w v : ℕ) (b : Bool)
    → HasWidth old one w → HasWidth new other v → (b ≡ true) ↔ (w ≡ v)
    → (b ≡ true) ↔ HaveOneWidth old new one other
one_width_told old new one other w v b has has' told = (
  (λ is. (v, subst (λ (k : ℕ). HasWidth old one k) (told.0 is) has, has')),
  (λ (k, mine, theirs).
      told.1 (width_once old one w k has mine ∙ sym (width_once new other v k has' theirs))),
)

-- what has a label's number is a labelled statement
pub named_number : (st : List Sentence) (id : ℕ) (label : List ℕ) → IsNumberOfLabel st id label
    → IsLabelNumber st id
named_number st id label n =
    let (index, numbered) = numbered_from_get st id n.s n.there in (index, n.s, numbered)
