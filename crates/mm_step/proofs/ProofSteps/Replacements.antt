-- The entries of an assertion's hypotheses give the replacement of its variables: what a step
-- meets.
use Rattle.std.proofs.Common.{◌≡◌, ℕ, zero, suc, ◌+◌, ◌<◌, List, [], ◌∷◌, ◌++◌, length, take}
use Rattle.std.proofs.Common.{drop}
use Rattle.std.proofs.Common.{slice_get, Option, Some, None, IsSome, inl, inr, refl, sym, ap, subst}
use Rattle.std.proofs.Common.{◌∙◌, arith, ⊎_elim}
use Rattle.std.proofs.lemmas.Option.{same_Some, none-some}
use Rattle.std.proofs.lemmas.Bool.{cases_lt}
use Rattle.std.proofs.lemmas.List.{take_all}
use Rattle.mm_frame.specs.declared.rule.MeaningRule.TheVariants.{M12}
use Rattle.mm_frame.specs.Sentence.{Sentence, Types}
use Rattle.mm_frame.specs.Active.{IsActive}
use Rattle.mm_frame.specs.Frame.{IsMandatory, IsMandatoryAt, AreThose, AreMandatory}
use Rattle.mm_frame.specs.Rules.{AllMeant}
use Rattle.mm_frame.proofs.Rules.DecidedStatements.{types_dec}
use Rattle.mm_frame.proofs.Rules.ObeyedRules.{meant_at, allmeant_prefix, active_in_front}
use Rattle.mm_frame.proofs.Rules.ObeyedRules.{mandatory_typed}
use Rattle.mm_step.specs.Tree.{Names}
use Rattle.mm_step.specs.Proof.{MeetsHypotheses}
use Rattle.mm_base.proofs.Lists.{get_take, get_beside}
use Rattle.mm_frame.proofs.Frames.FrameLaws.{those_hold}
use Rattle.mm_step.proofs.ProofSteps.OneStep.{typing_among}
use Rattle.mm_step.proofs.ProofSteps.Derivations.{typing_of, same_typing}

-- ---- what the first `$f` of the variable gives

abbrev pub first_of : {P : Type 0} → Dec P → Option (List (List ℕ)) → Option (List (List ℕ)) → Option (List (List ℕ))
first_of (yes p) a b = a
first_of (no n) a b = b

abbrev pub replaced_by : List Sentence → List (List (List ℕ)) → List ℕ → Option (List (List ℕ))
replaced_by [] entries x = None
replaced_by (h ∷ hypotheses) [] x = None
replaced_by (h ∷ hypotheses) (entry ∷ entries) x = first_of (types_dec x h) (Some (drop 1 entry)) (replaced_by hypotheses entries x)

-- each variable has one `$f` of these
abbrev pub IsTypedOnce : List Sentence → Type 0
IsTypedOnce hypotheses = (i j : ℕ) (f g : Sentence) (code code' x : List ℕ) → slice_get hypotheses i ≡ Some f → slice_get hypotheses j ≡ Some g
    → Types code x f → Types code' x g → i ≡ j

replaced_found : (hypotheses : List Sentence) (entries : List (List (List ℕ))) (x : List ℕ) → IsSome (replaced_by hypotheses entries x)
    → (i : ℕ) × (f : Sentence) × (code : List ℕ) × (slice_get hypotheses i ≡ Some f) × Types code x f
replaced_found (h ∷ hypotheses) (entry ∷ entries) x some = go (types_dec x h) some (replaced_found hypotheses entries x)
  where
    go : (d : Dec ((code : List ℕ) × Types code x h)) → IsSome (first_of d (Some (drop 1 entry)) (replaced_by hypotheses entries x))
        → (IsSome (replaced_by hypotheses entries x) → (i : ℕ) × (f : Sentence) × (code : List ℕ) × (slice_get hypotheses i ≡ Some f) × Types code x f)
        → (i : ℕ) × (f : Sentence) × (code : List ℕ) × (slice_get (h ∷ hypotheses) i ≡ Some f) × Types code x f
    go (yes t) s later = (0, h, t.0, refl, t.1)
    go (no n) s later = let l = later s in (suc l.0, l.1, l.2, l.3, l.4)
replaced_found hypotheses entries x some = absurd cc

typed_once_later : (h : Sentence) (hypotheses : List Sentence) → IsTypedOnce (h ∷ hypotheses) → IsTypedOnce hypotheses
typed_once_later h hypotheses once i j f g code code' x p q t u = let e : suc i ≡ suc j = once (suc i) (suc j) f g code code' x p q t u in omega arith

pub replaced_at : (hypotheses : List Sentence) (entries : List (List (List ℕ))) → IsTypedOnce hypotheses → (i : ℕ) (f : Sentence) (entry : List (List ℕ)) (code x : List ℕ)
    → slice_get hypotheses i ≡ Some f → slice_get entries i ≡ Some entry → Types code x f → replaced_by hypotheses entries x ≡ Some (drop 1 entry)
replaced_at [] entries once i f entry code x there at types = absurd (none-some f there)
replaced_at (h ∷ hypotheses) [] once i f entry code x there at types = absurd (none-some entry at)
replaced_at (h ∷ hypotheses) (e ∷ entries) once zero f entry code x there at types = go (types_dec x h)
  where
    go : (d : Dec ((c : List ℕ) × Types c x h)) → first_of d (Some (drop 1 e)) (replaced_by hypotheses entries x) ≡ Some (drop 1 entry)
    go (yes t) = ap (λ l. Some (drop 1 l)) (same_Some e entry at)
    go (no n) = absurd (n (code, subst (λ s. Types code x s) (sym (same_Some h f there)) types))
replaced_at (h ∷ hypotheses) (e ∷ entries) once (suc i) f entry code x there at types =
    go (types_dec x h) (replaced_at hypotheses entries (typed_once_later h hypotheses once) i f entry code x there at types)
  where
    go : (d : Dec ((c : List ℕ) × Types c x h)) → replaced_by hypotheses entries x ≡ Some (drop 1 entry)
        → first_of d (Some (drop 1 e)) (replaced_by hypotheses entries x) ≡ Some (drop 1 entry)
    go (yes t) later = let twice : 0 ≡ suc i = once 0 (suc i) h f t.0 code x refl there t.1 types in absurd (omega arith)
    go (no n) later = later

-- ---- the mandatory hypotheses type each variable once

-- two of the picked elements stand in their order in the list
pub those_order : {X : Type 0} (P : ℕ → X → Type 0) (index : ℕ) (xs those : List X) (i j : ℕ) (a b : X) → AreThose P index xs those → i < j
    → slice_get those i ≡ Some a → slice_get those j ≡ Some b
    → (k : ℕ) × (l : ℕ) × (k < l) × (slice_get xs k ≡ Some a) × (slice_get xs l ≡ Some b) × P (index + k) a × P (index + l) b
those_order P index [] those i j a b t less p q = absurd (none-some a (subst (λ l. slice_get l i ≡ Some a) t p))
those_order P index (y ∷ xs) those i zero a b (inl t) less p q = absurd (omega arith)
those_order P index (y ∷ xs) those zero (suc j) a b (inl t) less p q =
    let same : y ≡ a = same_Some y a (subst (λ l. slice_get l 0 ≡ Some a) t.2 p) in
    let here : index ≡ index + 0 = omega arith in
    let h = those_hold P (index + 1) xs t.1 j b t.3 (subst (λ l. slice_get l (suc j) ≡ Some b) t.2 q) in
    let at : index + 1 + h.0 ≡ index + suc h.0 = omega arith in
    (0, suc h.0, omega arith, ap Some same, h.1, subst (λ k. P k a) here (subst (P index) same t.0), subst (λ k. P k b) at h.2)
those_order P index (y ∷ xs) those (suc i) (suc j) a b (inl t) less p q =
    let h = those_order P (index + 1) xs t.1 i j a b t.3 (omega arith) (subst (λ l. slice_get l (suc i) ≡ Some a) t.2 p) (subst (λ l. slice_get l (suc j) ≡ Some b) t.2 q) in
    let at_k : index + 1 + h.0 ≡ index + suc h.0 = omega arith in
    let at_l : index + 1 + h.1 ≡ index + suc h.1 = omega arith in
    (suc h.0, suc h.1, (let l : h.0 < h.1 = h.2 in omega arith), h.3, h.4, subst (λ k. P k a) at_k h.5, subst (λ k. P k b) at_l h.6)
those_order P index (y ∷ xs) those i j a b (inr t) less p q =
    let h = those_order P (index + 1) xs those i j a b t.1 less p q in
    let at_k : index + 1 + h.0 ≡ index + suc h.0 = omega arith in
    let at_l : index + 1 + h.1 ≡ index + suc h.1 = omega arith in
    (suc h.0, suc h.1, (let l : h.0 < h.1 = h.2 in omega arith), h.3, h.4, subst (λ k. P k a) at_k h.5, subst (λ k. P k b) at_l h.6)

-- what is active was so in each prefix that has it
active_earlier : (before : List Sentence) (i index : ℕ) → index < i → IsActive before index
    → IsActive (take i before) index
active_earlier before i index less active = ⊎_elim
    (λ within. active_in_front before index i less (omega arith) active)
    (λ past. rw (take_all i before past) active) (cases_lt i (length before))

not_typed_twice : (before : List Sentence) (s : Sentence) (hypotheses : List Sentence) (i j : ℕ) (f g : Sentence) (code code' x : List ℕ) → AllMeant before
    → AreMandatory before s hypotheses → slice_get hypotheses i ≡ Some f → slice_get hypotheses j ≡ Some g → Types code x f → Types code' x g → i < j → ⊥
not_typed_twice before s hypotheses i j f g code code' x all mandatory p q t u less =
    let h = those_order (IsMandatoryAt before s) 0 before hypotheses i j f g mandatory less p q in
    let k : 0 + h.0 ≡ h.0 = omega arith in
    let at_f : IsMandatoryAt before s h.0 f = subst (λ n. IsMandatoryAt before s n f) k h.5 in
    meant_at before h.1 g all h.4 M12 (code', x, u, (h.0, f, get_take before h.1 h.0 h.2 ∙ h.3, active_earlier before h.1 h.0 h.2 at_f.0, (code, t)))

typed_once : (before : List Sentence) (s : Sentence) (hypotheses : List Sentence) → AllMeant before → AreMandatory before s hypotheses → IsTypedOnce hypotheses
typed_once before s hypotheses all mandatory i j f g code code' x p q t u =
    let less = not_typed_twice before s hypotheses i j f g code code' x all mandatory p q t u in
    let more = not_typed_twice before s hypotheses j i g f code' code x all mandatory q p u t in
    omega arith

-- ---- what a step meets

some_unless : (o : Option (List (List ℕ))) → ¬ (o ≡ None) → IsSome o
some_unless None h = absurd (h refl)
some_unless (Some x) h = refl

module _ (before : List Sentence) (label : List ℕ) (index : ℕ) (assertion : Sentence)
    (hypotheses : List Sentence) where
  module _ (entries : List (List (List ℕ))) where
    pub found_mandatory : Names before label index assertion hypotheses → (x : List ℕ)
        → IsSome (replaced_by hypotheses entries x) → IsMandatory (take index before) assertion x
    found_mandatory names x some =
        let f = replaced_found hypotheses entries x some in
        let t = typing_of before label index assertion hypotheses f.0 f.1 names f.3 f.4.0 in
        subst (IsMandatory (take index before) assertion) (same_typing f.1 t.0 t.1 f.2 x t.2 f.4).1 t.3

    pub mandatory_found : AllMeant before → Names before label index assertion hypotheses
        → length entries ≡ length hypotheses → IsTypedOnce hypotheses → (x : List ℕ)
        → IsMandatory (take index before) assertion x → IsSome (replaced_by hypotheses entries x)
    mandatory_found all names paired once x m = some_unless (replaced_by hypotheses entries x)
        (λ none.
        let typed = mandatory_typed (take index before) assertion x (allmeant_prefix before index all)
        (meant_at before index assertion all names.there) (inr names.kind) m in
        let f = typing_among before label index assertion hypotheses x names m typed in
        let e = get_beside hypotheses entries f.0 f.1 paired f.3 in
        none-some (drop 1 e.0) (sym none ∙ replaced_at hypotheses entries once f.0 f.1 e.0 f.2 x f.3 e.1 f.4))

  pub names_once : AllMeant before → Names before label index assertion hypotheses
      → IsTypedOnce hypotheses
  names_once all names = typed_once (take index before) assertion hypotheses (allmeant_prefix before index all) names.mandatory

-- Where there are as many entries as mandatory hypotheses, the step meets them.
abbrev pub meets_of : (before : List Sentence) (stack : List (List (List ℕ))) (label : List ℕ) (index : ℕ) (assertion : Sentence) (hypotheses : List Sentence)
    (rest entries : List (List (List ℕ))) → AllMeant before → Names before label index assertion hypotheses → stack ≡ rest ++ entries
    → length entries ≡ length hypotheses → MeetsHypotheses before stack label
meets_of before stack label index assertion hypotheses rest entries all names split paired =
    record {
      index = index;
      assertion = assertion;
      hypotheses = hypotheses;
      names = names;
      rest = rest;
      entries = entries;
      split = split;
      paired = paired;
      σ = replaced_by hypotheses entries;
      on = λ x. (
        found_mandatory before label index assertion hypotheses entries names x,
        mandatory_found before label index assertion hypotheses entries all names paired (names_once before label index assertion hypotheses all names) x,
      );
      replaced = replaced_at hypotheses entries (names_once before label index assertion hypotheses all names);
    }
