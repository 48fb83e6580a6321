-- Labels of two books: which number one has, and how its assertion differs. On this file rest the
-- contracts of `differences`.
use Rattle.std.proofs.Common.{◌≡◌, ◌↔◌, ℕ, ◌<◌, ◌≤◌, List, take, length, slice_get, Bool, true}
use Rattle.std.proofs.Common.{false, not, Some, inl, inr, refl, sym, ap, subst, ◌∙◌, arith}
use Rattle.std.proofs.lemmas.Bool.{cases_lt}
use Rattle.std.proofs.lemmas.Option.{same_Some}
use Rattle.mm_base.proofs.Lists.{one_there}
use Rattle.mm_base.specs.declared.statement.Kind.{Kind}
use Rattle.mm_frame.specs.declared.answer.Found.{Found}
use Rattle.mm_frame.specs.declared.answer.Found.TheVariants as found
use Rattle.mm_frame.specs.declared.number.LabelId.{LabelId}
use Rattle.mm_frame.specs.Form.{IsSound}
use Rattle.mm_frame.specs.Found.{Finds}
use Rattle.mm_frame.specs.Numbers.{IsLabelNumber, IsAssertionNumber}
use Rattle.mm_frame.specs.Numbers.{labelled_sentences}
use Rattle.mm_frame.specs.Rules.{AllMeant}
use Rattle.mm_frame.specs.Sentence.{Sentence, IsAssertion, IsHypothesis, IsLabelled}
use Rattle.mm_frame.proofs.Names.LabelNumbers.{numbered_get, numbered_some, numbered_unique}
use Rattle.mm_frame.proofs.Names.LabelNumbers.{numbered_within}
use Rattle.mm_frame.proofs.Rules.ObeyedRules.{one_label}
use Rattle.mm_alike.specs.declared.differences.Difference.{Difference}
use Rattle.mm_alike.specs.declared.differences.Difference.TheVariants.{Alone, Changed, Shared}
use Rattle.mm_alike.specs.Alike.{IsAssertionNamed, IsAlone, IsChanged, IsShared, AreAlike}
use Rattle.mm_alike.specs.Mirror.Differences.{Differs}

-- ---- labels

-- a hypothesis is no assertion
pub no_assertion : (kind : Kind) → IsHypothesis kind → ¬ (IsAssertion kind)
no_assertion kind (inl is) (inl also) = cc
no_assertion kind (inl is) (inr also) = cc
no_assertion kind (inr is) (inl also) = cc
no_assertion kind (inr is) (inr also) = cc

-- where no assertion is found, none has the label
pub none_named : (st : List Sentence) (label : List ℕ) (f : Found) → IsSound st
    → Finds st label f → ((id : LabelId) → ¬ (f ≡ found.Assertion id)) → (n : ℕ)
    → ¬ (IsAssertionNamed st label n)
none_named st label found.None sound none other n (index, s, numbered, named, asserts) =
    none (index, s, numbered.there, named)
none_named st label (found.Hypothesis id active) sound finds other n asserted =
    let (i, t, at, stands, kind, is) = finds in
    let (index, s, numbered, named, asserts) = asserted in
    let same : index ≡ i =
    one_label st label index i s t sound.0 numbered.there at.there named stands in
    let one : s ≡ t =
    one_there st i s t (subst (λ (k : ℕ). slice_get st k ≡ Some s) same numbered.there) at.there in
    no_assertion t.kind kind (subst (λ (u : Sentence). IsAssertion u.kind) one asserts)
none_named st label (found.Assertion id) sound finds other n named = absurd (other id refl)

-- a label is that of one number
pub one_number : (st : List Sentence) (label : List ℕ) (n m : ℕ) → AllMeant st
    → IsAssertionNamed st label n → IsAssertionNamed st label m → n ≡ m
one_number st label n m meant (i, s, one, named, asserts) (j, t, other, stands, is) =
    let same : i ≡ j = one_label st label i j s t meant one.there other.there named stands in
    sym one.number ∙ ap (λ (k : ℕ). length (labelled_sentences (take k st))) same ∙ other.number

-- and a number has one
pub one_name_of : (st : List Sentence) (label other : List ℕ) (n : ℕ)
    → IsAssertionNamed st label n → IsAssertionNamed st other n → label ≡ other
one_name_of st label other n (i, s, one, named, asserts) (j, t, two, stands, is) =
    let (same, equal) = numbered_unique st n i j s t one two in
    same_Some label other
    (sym named ∙ ap (λ (u : Sentence). u.label) equal ∙ stands)

-- the label that stands with the number of an assertion
pub named_by : (st : List Sentence) (label : List ℕ) (id : ℕ) → IsAssertionNumber st id
    → ((s : Sentence) → slice_get (labelled_sentences st) id ≡ Some s → IsLabelled label s)
    → IsAssertionNamed st label id
named_by st label id (index, s, numbered, asserts) told =
    (index, s, numbered, told s (numbered_get st id index s numbered), asserts)

-- ---- differences

pub opposite : (b : Bool) → not b ≡ true → ¬ (b ≡ true)
opposite true f t = cc
opposite false f t = cc

pub not_true : (b : Bool) → ¬ (b ≡ true) → not b ≡ true
not_true true none = absurd (none refl)
not_true false none = refl

module _ (st others : List Sentence) (id : ℕ) (label : List ℕ)
    (here : IsAssertionNamed st label id) where
  -- the label is that of no assertion there
  pub is_alone : ((n : ℕ) → ¬ (IsAssertionNamed others label n)) → IsAlone st others id
  is_alone none = (label, here, none)

  pub not_changed : ((n : ℕ) → ¬ (IsAssertionNamed others label n)) → ¬ (IsChanged st others id)
  not_changed none (name, named, n, there, apart) =
      none n (subst (λ (l : List ℕ). IsAssertionNamed others l n)
      (one_name_of st name label id named here) there)

  -- the label is that of one
  pub not_alone : (n : ℕ) → IsAssertionNamed others label n → ¬ (IsAlone st others id)
  not_alone n there (name, named, none) =
      none n (subst (λ (l : List ℕ). IsAssertionNamed others l n)
      (one_name_of st label name id here named) there)

  -- so it isn't shared where it is that of none
  pub not_shared : ((n : ℕ) → ¬ (IsAssertionNamed others label n)) → ¬ (IsShared st others id)
  not_shared none (name, named, n, there) =
      none n (subst (λ (l : List ℕ). IsAssertionNamed others l n)
      (one_name_of st name label id named here) there)

  pub changed_where : AllMeant others → (n : ℕ) → IsAssertionNamed others label n → (b : Bool)
      → (b ≡ true) ↔ AreAlike st others id n → (not b ≡ true) ↔ IsChanged st others id
  changed_where meant n there b alike = (
    (λ f. (label, here, n, there, λ same. opposite b f (alike.1 same))),
    (λ (name, named, m, stands, apart).
        let equal : name ≡ label = one_name_of st name label id named here in
        let same : m ≡ n =
        one_number others label m n meant
        (subst (λ (l : List ℕ). IsAssertionNamed others l m) equal stands) there in
        not_true b (λ t. apart (subst (λ (k : ℕ). AreAlike st others id k) (sym same)
        (alike.0 t)))),
  )

-- by the kind of difference
pub differs_alone : (d : Difference) (st others : List Sentence) (id : ℕ) (b : Bool) → d ≡ Alone
    → (b ≡ true) ↔ IsAlone st others id → (b ≡ true) ↔ Differs d st others id
differs_alone d st others id b is h =
    subst (λ (e : Difference). (b ≡ true) ↔ Differs e st others id) (sym is) h

pub differs_changed : (d : Difference) (st others : List Sentence) (id : ℕ) (b : Bool)
    → d ≡ Changed → (b ≡ true) ↔ IsChanged st others id → (b ≡ true) ↔ Differs d st others id
differs_changed d st others id b is h =
    subst (λ (e : Difference). (b ≡ true) ↔ Differs e st others id) (sym is) h

pub differs_shared : (d : Difference) (st others : List Sentence) (id : ℕ) (b : Bool)
    → d ≡ Shared → (b ≡ true) ↔ IsShared st others id → (b ≡ true) ↔ Differs d st others id
differs_shared d st others id b is h =
    subst (λ (e : Difference). (b ≡ true) ↔ Differs e st others id) (sym is) h

-- what differs is an assertion
pub differing_asserts : (d : Difference) (st others : List Sentence) (id : ℕ)
    → Differs d st others id → IsAssertionNumber st id
differing_asserts Alone st others id (label, (index, s, numbered, named, asserts), none) =
    (index, s, numbered, asserts)
differing_asserts Changed st others id (label, here, n, there, apart) =
    (here.0, here.1, here.2, here.4)
differing_asserts Shared st others id (label, here, n, there) =
    (here.0, here.1, here.2, here.4)

-- a hypothesis doesn't differ
pub hypothesis_is_none : (d : Difference) (st others : List Sentence) (id : ℕ) (kind : Kind)
    → IsHypothesis kind → IsLabelNumber st id
    → ((s : Sentence) → slice_get (labelled_sentences st) id ≡ Some s → s.kind ≡ kind)
    → ¬ (Differs d st others id)
hypothesis_is_none d st others id kind is (index, s, numbered) told differs =
    let (i, t, at, asserts) = differing_asserts d st others id differs in
    no_assertion kind is
    (subst IsAssertion (told t (numbered_get st id i t at)) asserts)

-- an assertion by its kind
pub asserts_by : (st : List Sentence) (id : ℕ) (kind : Kind) → IsAssertion kind
    → IsLabelNumber st id
    → ((s : Sentence) → slice_get (labelled_sentences st) id ≡ Some s → s.kind ≡ kind)
    → IsAssertionNumber st id
asserts_by st id kind is (index, s, numbered) told = (
  index,
  s,
  numbered,
  subst IsAssertion (sym (told s (numbered_get st id index s numbered))) is,
)

-- ---- the numbers of those that differ

pub differing_within : (d : Difference) (st others : List Sentence) (n : ℕ)
    → Differs d st others n → n < length (labelled_sentences st)
differing_within d st others n differs =
    let (index, s, numbered, asserts) = differing_asserts d st others n differs in
    numbered_within st n index s numbered

-- none is from an end on
pub none_past : (d : Difference) (st others : List Sentence) (end n : ℕ)
    → ¬ (IsLabelNumber st end) → Differs d st others n → n < end
none_past d st others end n none differs = elim (cases_lt n end) [
  | inl less ↦ less
  | inr more ↦ absurd (
      let within : n < length (labelled_sentences st) = differing_within d st others n differs in
      none (numbered_some st end (omega arith)))
]

pub none_beyond : (d : Difference) (st others : List Sentence) (end n : ℕ)
    → length (labelled_sentences st) ≤ end → Differs d st others n → n < end
none_beyond d st others end n few differs =
    let within : n < length (labelled_sentences st) = differing_within d st others n differs in
    omega arith
