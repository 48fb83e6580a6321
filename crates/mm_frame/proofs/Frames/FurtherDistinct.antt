-- The `$d` that say more than mandatory pairs, as they are found: a member is mandatory exactly where
-- it is the variable of a mandatory `$f`.
use Rattle.std.proofs.Common.{◌≡◌, ◌↔◌, ℕ, ◌+◌, ◌<◌, inl, inr, Bool, true, false, length}
use Rattle.std.proofs.Common.{take, List, [], ◌∷◌, ◌++◌, map, Contains, Option, Some, None, refl, sym, ap}
use Rattle.std.proofs.Common.{◌∙◌, subst, arith, slice_get, option_map}
use Rattle.std.proofs.Common.{slice_index_or, ◌⊎◌}
use Rattle.std.proofs.lemmas.Option.{slice_get_within, same_Some, get_or_from_slice_get}
use Rattle.std.proofs.lemmas.Bool.{cases_lt, false≢true}
use Rattle.std.proofs.lemmas.Bool.Decides.{Decides-eqb}
use Rattle.std.proofs.lemmas.List.{append-nil, length-take-le}
use Rattle.std.proofs.lemmas.List.Elements.{Contains-append_left, Contains-push_cases}
use Rattle.mm_base.specs.declared.statement.Kind.TheVariants.{Constants, Variables}
use Rattle.mm_base.proofs.Lists.{at_from_contains, contains_from_at, get_within, get_from_front}
use Rattle.mm_base.proofs.Lists.{get_pushed, get_take, one_there, pushed_cases}
use Rattle.mm_frame.specs.declared.hypothesis.Hypothesis.{Hypothesis}
use Rattle.mm_frame.specs.declared.number.Sym.{Sym}
use Rattle.mm_frame.specs.Sentence.{Sentence, Declares, IsAssertion}
use Rattle.mm_frame.specs.Active.{IsConstant, IsVariable}
use Rattle.mm_frame.specs.Form.{IsSound}
use Rattle.mm_frame.specs.Frame.{IsMandatory, IsMandatoryAt, IsFurtherAt}
use Rattle.mm_frame.specs.FrameIndex.{AreHypotheses, AreFurtherIndices, HaveTypings, IsTypingOf}
use Rattle.mm_frame.specs.Numbers.{IsNumberOf, labelled_sentences, AreNumbers, symbols_of}
use Rattle.mm_frame.specs.Numbers.{IsNumbered}
use Rattle.mm_frame.specs.Pieces.{variables_of, is_of, IsNowhere}
use Rattle.mm_frame.specs.Mirror.Further.{AreFoundFurther, HasOther, SaysMore}
use Rattle.mm_frame.proofs.Blocks.NumberedBlocks.{rising_grown}
use Rattle.mm_frame.proofs.BookLists.GrownLists.{map_agree}
use Rattle.mm_frame.proofs.Names.NameNumbers.{get_mapped, get_unmapped, get_alike, symbols_unique}
use Rattle.mm_frame.proofs.Names.NameNumbers.{number_from_declared}
use Rattle.mm_frame.proofs.Rules.ObeyedRules.{allmeant_prefix, mandatory_typed, meant_at, used_declared}
use Rattle.mm_frame.proofs.Rules.ObeyedRules.{some_later}
use Rattle.mm_frame.proofs.Frames.FrameLaws.{at_index, those_by_indices, those_have, those_hold}
use Rattle.mm_frame.proofs.Frames.MandatoryPairs.{second_of, typed_somewhere}
use Rattle.mm_frame.proofs.Frames.VariableIndices.{none_behind}

-- ---- the members of a `$d`, by their numbers

module _ (st : List Sentence) (variables : List (Option ℕ)) (symbols : List Sym) (d : Sentence)
    (numbers : AreNumbers st (map (λ n. n.0) symbols) d.symbols) where
  -- a number that is nowhere is that of a member
  pub other_member : HasOther variables symbols
      → (x : List ℕ) × (n : ℕ) × Contains d.symbols x × IsNumberOf st x n × IsNowhere n variables
  other_member (i, m, there, nowhere) =
      let (x, at_x, same) = get_alike (slice_get (symbols_of st)) (λ (y : List ℕ). Some y)
      (map (λ (n : Sym). n.0) symbols) d.symbols i m.0 numbers
      (get_mapped (λ (n : Sym). n.0) symbols i m there) in
      (x, m.0, contains_from_at d.symbols x (i, at_x), sym same, nowhere)

  -- and the other way round
  pub member_other : ((x : List ℕ) × (n : ℕ) × Contains d.symbols x × IsNumberOf st x n
      × IsNowhere n variables) → HasOther variables symbols
  member_other (x, n, has, number, nowhere) =
      let (i, at) = at_from_contains d.symbols x has in
      let (k, at_k, same) = get_alike (λ (y : List ℕ). Some y) (slice_get (symbols_of st)) d.symbols
      (map (λ (m : Sym). m.0) symbols) i x (sym numbers) at in
      let (m, at_m, is) = get_unmapped (λ (m : Sym). m.0) symbols i k at_k in
      let one : n ≡ m.0 = symbols_unique st n k x number same ∙ sym is in
      (i, m, at_m, subst (λ j. IsNowhere j variables) one nowhere)

-- ---- mandatory variables, by the hypotheses

module _ (st : List Sentence) (at : ℕ) (hs : List Hypothesis) (sound : IsSound st)
    (are : AreHypotheses (at_index st at) (map (λ h. h.id.0) hs)) (typed : HaveTypings st hs) where
  -- the hypothesis with a number is mandatory
  one_of_them : (k : ℕ) (h : Hypothesis) (e : Sentence) → slice_get hs k ≡ Some h
      → slice_get (labelled_sentences st) h.id.0 ≡ Some e
      → (p : ℕ) × IsMandatoryAt (take at st) are.assertion p e
  one_of_them k h e there is =
      let id = get_mapped (λ (g : Hypothesis). g.id.0) hs k h there in
      let (f, at_f, same) = get_alike (slice_get (labelled_sentences st)) (λ (g : Sentence). Some g)
      (map (λ (g : Hypothesis). g.id.0) hs) are.hypotheses k h.id.0 are.numbered id in
      let one : f ≡ e = same_Some f e (same ∙ is) in
      let (j, at_j, mandatory) = those_hold (IsMandatoryAt (take at st) are.assertion) 0 (take at st)
      are.hypotheses k f are.mandatory at_f in
      let at_j_is : 0 + j ≡ j = omega arith in (
        j,
        subst (IsMandatoryAt (take at st) are.assertion j) one
            (subst (λ i. IsMandatoryAt (take at st) are.assertion i f) at_j_is mandatory),
      )

  -- the variable of a `$f` among them is mandatory
  among_mandatory : (n : ℕ) (x : List ℕ) (e : Sentence) (p : ℕ) (typing : Option (Sym × Sym))
      → IsNumberOf st x n → IsTypingOf st typing e
      → is_of n (option_map (λ t. t.1.0) typing) ≡ true
      → IsMandatoryAt (take at st) are.assertion p e → IsMandatory (take at st) are.assertion x
  among_mandatory n x e p None number types is mandatory = absurd (false≢true is)
  among_mandatory n x e p (Some typing) number (code, y, types, code_is, variable) is mandatory =
      let same : typing.1.0 ≡ n = (Decides-eqb typing.1.0 n).0 is in
      let y_is : y ≡ x = same_Some y x (sym (subst (λ m. slice_get (symbols_of st) m ≡ Some y) same variable) ∙ number) in
      elim mandatory.1 [
        | inl essential ↦ absurd (let floats = types.0 in cc)
        | inr (other, z, other_types, is_mandatory) ↦
            let z_is : z ≡ y = second_of other z code y e.symbols other_types.1 types.1 in
            subst (IsMandatory (take at st) are.assertion) (z_is ∙ y_is) is_mandatory
      ]

  -- a variable that isn't mandatory is that of no `$f` among them
  none_among : (n : ℕ) (x : List ℕ) → IsNumberOf st x n
      → ¬ (IsMandatory (take at st) are.assertion x) → IsNowhere n (variables_of hs)
  none_among n x number other k = elim (cases_lt k (length hs)) [
    | inl within ↦ by (is_of n (slice_index_or (variables_of hs) k None)) refl
    | inr behind ↦ none_behind hs n k behind
  ]
    where
      by : (b : Bool) → is_of n (slice_index_or (variables_of hs) k None) ≡ b
          → is_of n (slice_index_or (variables_of hs) k None) ≡ false
      by false is = is
      by true is = elim (cases_lt k (length hs)) [
        | inl within ↦
            let (h, there) = get_within hs k within in
            let (e, at_e, types) = typed k h there in
            let (p, mandatory) = one_of_them k h e there at_e in
            let variable = get_or_from_slice_get (variables_of hs) k _ None
            (get_mapped (λ (g : Hypothesis). option_map (λ t. t.1.0) g.typing) hs k h there) in
            absurd (other (among_mandatory n x e p h.typing number types (ap (is_of n) (sym variable) ∙ is) mandatory))
        | inr behind ↦ none_behind hs n k behind
      ]

  -- a variable that is mandatory is that of a `$f` among them
  some_among : (n : ℕ) (x : List ℕ) → slice_get st at ≡ Some are.assertion
      → IsAssertion are.assertion.kind → IsNumberOf st x n
      → IsMandatory (take at st) are.assertion x → ¬ (IsNowhere n (variables_of hs))
  some_among n x there asserts number mandatory nowhere =
      let meant = meant_at st at are.assertion sound.0 there in
      let (p, f, at_p, active, (code, types)) = mandatory_typed (take at st) are.assertion x
      (allmeant_prefix st at sound.0) meant (inr asserts) mandatory in
      let at_p_is : p ≡ 0 + p = omega arith in
      let (k, at_k) = those_have (IsMandatoryAt (take at st) are.assertion) 0 (take at st)
      are.hypotheses p f are.mandatory at_p
      (subst (λ i. IsMandatoryAt (take at st) are.assertion i f) at_p_is
      (active, inr (code, x, types, mandatory))) in
      let (id, at_id, same) = get_alike (λ (g : Sentence). Some g) (slice_get (labelled_sentences st))
      are.hypotheses (map (λ (h : Hypothesis). h.id.0) hs) k f (sym are.numbered) at_k in
      let (h, at_h, is) = get_unmapped (λ (g : Hypothesis). g.id.0) hs k id at_id in
      let (e, at_e, typing) = typed k h at_h in
      let one : e ≡ f = same_Some e f (sym at_e ∙ ap (slice_get (labelled_sentences st)) is ∙ same) in
      let variable = get_or_from_slice_get (variables_of hs) k _ None
      (get_mapped (λ (g : Hypothesis). option_map (λ t. t.1.0) g.typing) hs k h at_h) in
      typed_somewhere st [] n code x f _ h.typing types (subst (IsTypingOf st h.typing) one typing)
      (rw append-nil number) variable (nowhere k)

  -- What says more by the hypotheses is what says more than mandatory pairs.
  says_further : (p : ℕ) (d : Sentence) → slice_get st at ≡ Some are.assertion
      → IsAssertion are.assertion.kind → p < at → slice_get st p ≡ Some d
      → SaysMore st (variables_of hs) at p d ↔ IsFurtherAt (take at st) are.assertion p d
  says_further p d there asserts lt at_p = (
    (λ (active, distinct, (x, n, has, number, nowhere)).
        (active, distinct, (x, has, λ mandatory. some_among n x there asserts number mandatory nowhere))),
    (λ (active, distinct, (x, has, other)).
        let declared = used_declared (take p st) d x (meant_at st p d sound.0 at_p) (inl distinct) has in
        let later : IsConstant st x ⊎ IsVariable st x = elim declared [
          | inl constant ↦ inl (some_later st p (Declares Constants x) constant)
          | inr variable ↦ inr (some_later st p (Declares Variables x) variable)
        ] in
        let (n, number) = number_from_declared st x later in
        (active, distinct, (x, n, has, number, none_among n x number other))),
  )

-- ---- those that are found

module _ {st : List Sentence} {variables : List (Option ℕ)} {at count : ℕ} {indices : List ℕ}
    (d : Sentence) (there : slice_get st count ≡ Some d)
    (found : AreFoundFurther st variables at count indices) where
  -- one that says more
  pub one_further : SaysMore st variables at count d
      → AreFoundFurther st variables at (count + 1) (indices ++ count ∷ [])
  one_further says = record {
    rising = rising_grown indices count found.rising found.within;
    within = λ i p at_i. elim (pushed_cases indices count i p at_i) [
      | inl before ↦ let lt = found.within i p before in omega arith
      | inr (last, same) ↦ omega arith
    ];
    exact = λ p e lt at_p. elim (cases_lt p count) [
      | inl less ↦ (
        (λ more. Contains-append_left indices (count ∷ []) p ((found.exact p e less at_p).0 more)),
        (λ has. (found.exact p e less at_p).1 (elim (Contains-push_cases indices count p has) [
          | inl before ↦ before
          | inr last ↦ absurd (omega (arith, last))
        ])),
      )
      | inr not_less ↦
          let same : p ≡ count = omega arith in
          let one : e ≡ d = one_there st count e d (subst (λ j. slice_get st j ≡ Some e) same at_p) there in (
            (λ more. contains_from_at (indices ++ count ∷ []) p (length indices, get_pushed indices count ∙ ap Some (sym same))),
            (λ has. subst (λ j. SaysMore st variables at j e) (sym same) (subst (SaysMore st variables at count) (sym one) says)),
          )
    ];
  }

  -- one that doesn't
  pub none_further : ¬ (SaysMore st variables at count d)
      → AreFoundFurther st variables at (count + 1) indices
  none_further says = record {
    rising = found.rising;
    within = λ i p at_i. let lt = found.within i p at_i in omega arith;
    exact = λ p e lt at_p. elim (cases_lt p count) [
      | inl less ↦ found.exact p e less at_p
      | inr not_less ↦
          let same : p ≡ count = omega arith in
          let one : e ≡ d = one_there st count e d (subst (λ j. slice_get st j ≡ Some e) same at_p) there in (
            (λ more. absurd (says (subst (λ j. SaysMore st variables at j d) same (subst (SaysMore st variables at p) one more)))),
            (λ has.
                let (i, at_i) = at_from_contains indices p has in
                let less = found.within i p at_i in absurd (omega arith)),
          )
    ];
  }

-- What is found says more than mandatory pairs, in database order.
pub further_found : (st : List Sentence) (id at : ℕ) (s : Sentence) (hs : List Hypothesis)
    (indices : List ℕ) → IsSound st → IsNumbered st id at s → IsAssertion s.kind
    → AreHypotheses (at_index st at) (map (λ h. h.id.0) hs) → HaveTypings st hs
    → AreFoundFurther st (variables_of hs) at at indices
    → AreFurtherIndices (at_index st at) indices
further_found st id at s hs indices sound numbered asserts are typed found =
    let one : s ≡ are.assertion = one_there st at s are.assertion numbered.there are.there in
    let kind : IsAssertion are.assertion.kind = subst (λ (t : Sentence). IsAssertion t.kind) one asserts in
    let size : length (take at st) ≡ at = length-take-le at st (omega (arith, slice_get_within st at s numbered.there)) in
    let (further, those, same) = those_by_indices (IsFurtherAt (take at st) are.assertion) (take at st) indices
    found.rising (λ i p at_i. let lt = found.within i p at_i in omega arith)
    (λ p d at_p.
    let lt : p < at = let less = slice_get_within (take at st) p d at_p in omega arith in
    let in_all = get_from_front st at p d at_p in
    let says = says_further st at hs sound are typed p d are.there kind lt in_all in
    let exact = found.exact p d lt in_all in
    ((λ is. exact.0 (says.1 is)), (λ has. says.0 (exact.1 has)))) in
    record {
      assertion = are.assertion;
      there = are.there;
      further = further;
      are_further = those;
      indexed = map_agree (slice_get st) (slice_get (take at st)) indices
          (λ i p at_i. let lt = found.within i p at_i in sym (get_take st at p lt)) ∙ same;
    }
