-- There is one frame of an assertion, and it stays as statements are added.
use Rattle.std.proofs.Common.{◌≡◌, ◌↔◌, ℕ, zero, suc, ◌+◌, ◌<◌, ◌≤◌, inl, inr, length, drop, List}
use Rattle.std.proofs.Common.{[], ◌∷◌, map, Contains, Some, refl, sym, ap, ◌∙◌, arith, slice_get}
use Rattle.std.proofs.Common.{length-drop, take, ◌++◌, subst}
use Rattle.std.proofs.lemmas.Bool.{cases_eq}
use Rattle.mm_frame.specs.Mirror.Gathered.{AreRisingIndices}
use Rattle.mm_frame.specs.Sentence.{Sentence, IsAssertion}
use Rattle.mm_frame.specs.Frame.{AreThose, AreMandatory, IsMandatoryAt, IsDistinct}
use Rattle.mm_base.proofs.Lists.{at_from_contains, contains_from_at, get_kept, get_pushed}
use Rattle.mm_base.proofs.Lists.{pushed_cases, get_before, zip_mapped, mapped_zip}
use Rattle.mm_frame.proofs.Names.NameNumbers.{At, symbols_grow, symbols_unique}
use Rattle.mm_frame.proofs.Names.NameNumbers.{number_from_declared}
use Rattle.std.proofs.lemmas.Option.{slice_get_within, same_Some, none-some}
use Rattle.std.proofs.lemmas.List.{take-append-le}
use Rattle.mm_base.specs.declared.statement.Kind.TheVariants.{Distinct}
use Rattle.mm_frame.specs.declared.distinct.DistinctPair.{DistinctPair}
use Rattle.mm_frame.specs.declared.hypothesis.Hypothesis.{Hypothesis}
use Rattle.mm_frame.specs.declared.piece.Piece.{Piece}
use Rattle.mm_frame.specs.declared.part.Part.{Part}
use Rattle.mm_frame.specs.declared.tables.LabelInfo.{LabelInfo}
use Rattle.mm_frame.specs.Rules.{AllMeant}
use Rattle.mm_frame.specs.Numbers.{symbols_of}
use Rattle.mm_frame.specs.FrameIndex.{FrameIndex, AreHypotheses, ArePairs}
use Rattle.mm_frame.specs.Mirror.Layout.{IsPartWithin, IsFrameInfo, AreFrames, AreLabelInfos}
use Rattle.mm_frame.specs.Mirror.Layout.{AreStated}
use Rattle.mm_frame.specs.Mirror.Stated.{AllStated}
use Rattle.mm_frame.proofs.BookLists.GrownLists.{slice_left, longer}
use Rattle.mm_frame.proofs.Rules.ObeyedRules.{meant_at, used_declared, some_later}
use Rattle.mm_frame.proofs.DistinctPairs.StatedPairs.{stated_kept}
use Rattle.mm_frame.proofs.Frames.VariableIndices.{its_pieces_grow, pattern_grow, pattern_longer}
use Rattle.mm_frame.proofs.Names.LabelNumbers.{labelled_grow}

-- ==== the elements of a list at given indices are those of which something holds

-- there is one list of those only
pub those_unique : {X : Type 0} (P : ℕ → X → Type 0) (n : ℕ) (xs ys zs : List X) → AreThose P n xs ys → AreThose P n xs zs → ys ≡ zs
those_unique P n [] ys zs one other = one ∙ sym other
those_unique P n (x ∷ xs) ys zs one other =
    elim one [
      | inl (p, others, e, rest) ↦ elim other [
        | inl (q, more, d, left) ↦ e ∙ ap (λ r. x ∷ r) (those_unique P (n + 1) xs others more rest left) ∙ sym d
        | inr (not_it, left) ↦ absurd (not_it p)
      ]
      | inr (not_it, rest) ↦ elim other [
        | inl (q, more, d, left) ↦ absurd (not_it q)
        | inr (not_again, left) ↦ those_unique P (n + 1) xs ys zs rest left
      ]
    ]

-- P holds of each of them
pub those_hold : {X : Type 0} (P : ℕ → X → Type 0) (index : ℕ) (xs those : List X) (i : ℕ) (x : X) → AreThose P index xs those → slice_get those i ≡ Some x
    → (j : ℕ) × (slice_get xs j ≡ Some x) × P (index + j) x
those_hold P index [] those i x a e = absurd (none-some x (subst (λ l. slice_get l i ≡ Some x) a e))
those_hold P index (y ∷ xs) those zero x (inl a) e =
    let same : y ≡ x = same_Some y x (subst (λ l. slice_get l 0 ≡ Some x) a.2 e) in
    let at : index ≡ index + 0 = omega arith in
    (0, ap Some same, subst (λ k. P k x) at (subst (P index) same a.0))
those_hold P index (y ∷ xs) those (suc i) x (inl a) e =
    let h = those_hold P (index + 1) xs a.1 i x a.3 (subst (λ l. slice_get l (suc i) ≡ Some x) a.2 e) in
    let at : index + 1 + h.0 ≡ index + suc h.0 = omega arith in
    (suc h.0, h.1, subst (λ k. P k x) at h.2)
those_hold P index (y ∷ xs) those i x (inr a) e =
    let h = those_hold P (index + 1) xs those i x a.1 e in
    let at : index + 1 + h.0 ≡ index + suc h.0 = omega arith in
    (suc h.0, h.1, subst (λ k. P k x) at h.2)

-- each of which P holds is one of them
pub those_have : {X : Type 0} (P : ℕ → X → Type 0) (index : ℕ) (xs those : List X) (j : ℕ) (x : X) → AreThose P index xs those → slice_get xs j ≡ Some x
    → P (index + j) x → (i : ℕ) × (slice_get those i ≡ Some x)
those_have P index [] those j x a e p = absurd (none-some x e)
those_have P index (y ∷ xs) those zero x (inl a) e p = (0, subst (λ l. slice_get l 0 ≡ Some x) (sym a.2) e)
those_have P index (y ∷ xs) those zero x (inr a) e p =
    let at : index + 0 ≡ index = omega arith in
    absurd (a.0 (subst (P index) (sym (same_Some y x e)) (subst (λ k. P k x) at p)))
those_have P index (y ∷ xs) those (suc j) x (inl a) e p =
    let at : index + suc j ≡ index + 1 + j = omega arith in
    let h = those_have P (index + 1) xs a.1 j x a.3 e (subst (λ k. P k x) at p) in
    (suc h.0, subst (λ l. slice_get l (suc h.0) ≡ Some x) (sym a.2) h.1)
those_have P index (y ∷ xs) those (suc j) x (inr a) e p =
    let at : index + suc j ≡ index + 1 + j = omega arith in
    those_have P (index + 1) xs those j x a.1 e (subst (λ k. P k x) at p)

pub mandatory_unique : (before : List Sentence) (s : Sentence) (hs gs : List Sentence) → AreMandatory before s hs → AreMandatory before s gs → hs ≡ gs
mandatory_unique before s hs gs one other = those_unique (IsMandatoryAt before s) 0 before hs gs one other

-- an active pair, and a mandatory one, is so in the other order
pub distinct_other : (before : List Sentence) (x y : List ℕ) → IsDistinct before x y → IsDistinct before y x
distinct_other before x y (apart, (p, d, there, active, (kind, x_in, y_in))) = ((λ e. apart (sym e)), (p, d, there, active, (kind, y_in, x_in)))

-- what a list begins with that is the rest of another from an index on
rest_first : {X : Type 0} (whole : List X) (n : ℕ) (x : X) (xs : List X) → drop n whole ≡ x ∷ xs → (slice_get whole n ≡ Some x) × (drop (suc n) whole ≡ xs)
rest_first [] zero x xs e = absurd (cc)
rest_first [] (suc n) x xs e = absurd (cc)
rest_first (y ∷ whole) zero x xs e = (cc, cc)
rest_first (y ∷ whole) (suc n) x xs e = rest_first whole n x xs e

-- indices rise, lie from an index on within the list, and are those where P holds
record AreAll {X : Type 0} (P : ℕ → X → Type 0) (whole : List X) (n : ℕ) (indices : List ℕ) : Type 0 where
  rise : AreRisingIndices indices
  within : (i p : ℕ) → slice_get indices i ≡ Some p → (n ≤ p) × (p < length whole)
  each : (p : ℕ) (x : X) → n ≤ p → slice_get whole p ≡ Some x → P p x → At indices p
  only : (i p : ℕ) (x : X) → slice_get indices i ≡ Some p → slice_get whole p ≡ Some x → P p x

all_after : {X : Type 0} (P : ℕ → X → Type 0) (whole : List X) (n p : ℕ) (indices : List ℕ) → p ≡ n → AreAll P whole n (p ∷ indices) → AreAll P whole (suc n) indices
all_after P whole n p indices same all = record {
  rise = λ i j a b at_i at_j lt. all.rise (suc i) (suc j) a b at_i at_j (omega arith);
  within = λ i q there.
      let above = all.rise 0 (suc i) p q refl there (omega arith) in
      let inside = all.within (suc i) q there in
      (omega arith, inside.1);
  each = λ q x above there holds. later q above (all.each q x (omega arith) there holds);
  only = λ i q x there at. all.only (suc i) q x there at;
}
  where
    later : (q : ℕ) → suc n ≤ q → At (p ∷ indices) q → At indices q
    later q above (zero, there) = absurd (let e : p ≡ q = cc in omega arith)
    later q above (suc i, there) = (i, there)

all_past : {X : Type 0} (P : ℕ → X → Type 0) (whole : List X) (n : ℕ) (indices : List ℕ) → ((i p : ℕ) → slice_get indices i ≡ Some p → n < p) → AreAll P whole n indices → AreAll P whole (suc n) indices
all_past P whole n indices above all = record {
  rise = all.rise;
  within = λ i q there. let lt = above i q there in (omega arith, (all.within i q there).1);
  each = λ q x le there holds. all.each q x (omega arith) there holds;
  only = all.only;
}

-- the elements from an index on
those_from : {X : Type 0} (P : ℕ → X → Type 0) (whole : List X) (n : ℕ) (xs : List X) (indices : List ℕ) → drop n whole ≡ xs → AreAll P whole n indices
    → (ys : List X) × AreThose P n xs ys × (map (slice_get whole) indices ≡ map (λ y. Some y) ys)
those_from P whole n [] [] is all = ([], refl, refl)
those_from P whole n [] (p ∷ indices) is all =
    let h : length whole ≤ n = omega (arith, length-drop n whole, ap length is) in
    let inside = all.within 0 p refl in
    absurd (let ge = inside.0 in let lt = inside.1 in omega arith)
those_from {X} P whole n (x ∷ xs) [] is all =
    let (here, rest) = rest_first whole n x xs is in
    let more : n + 1 ≡ suc n = omega arith in
    let absent : ¬ (P n x) = λ holds. let (i, there) = all.each n x (omega arith) here holds in cc in
    let (ys, those, same) = those_from _ _ _ xs _ rest (all_past _ _ _ _ (λ i p there. absurd (cc)) all) in
    (ys, inr (absent, rw more those), same)
those_from {X} P whole n (x ∷ xs) (p ∷ indices) is all =
    let (here, rest) = rest_first whole n x xs is in
    let more : n + 1 ≡ suc n = omega arith in
    elim (cases_eq p n) [
      | inl same ↦
          let holds = rw same at (all.only 0 p x refl (rw same here)) in
          let (ys, those, values) = those_from _ _ _ xs _ rest (all_after _ _ _ _ indices same all) in
          let first : slice_get whole p ≡ Some x = rw same here in
          (x ∷ ys, inl (holds, ys, refl, rw more those), cc)
      | inr apart ↦
          let lt : n < p = let ge = (all.within 0 p refl).0 in omega arith in
          let above : (i q : ℕ) → slice_get (p ∷ indices) i ≡ Some q → n < q = above_first n p indices lt all.rise in
          let absent : ¬ (P n x) = λ holds. let (i, there) = all.each n x (omega arith) here holds in let h = above i n there in omega arith in
          let (ys, those, values) = those_from _ _ _ xs _ rest (all_past _ _ _ _ above all) in
          (ys, inr (absent, rw more those), values)
    ]
  where
    above_first : (n p : ℕ) (indices : List ℕ) → n < p → AreRisingIndices (p ∷ indices) → (i q : ℕ) → slice_get (p ∷ indices) i ≡ Some q → n < q
    above_first n p indices lt rise zero q there = let e : p ≡ q = cc in omega arith
    above_first n p indices lt rise (suc i) q there = let h = rise 0 (suc i) p q refl there (omega arith) in omega arith

-- The elements at indices that rise are those of which P holds, if P holds exactly at these
-- indices.
pub those_by_indices : {X : Type 0} (P : ℕ → X → Type 0) (xs : List X) (indices : List ℕ) → AreRisingIndices indices → ((i p : ℕ) → slice_get indices i ≡ Some p → p < length xs)
    → ((p : ℕ) (x : X) → slice_get xs p ≡ Some x → P p x ↔ Contains indices p) → (ys : List X) × AreThose P 0 xs ys × (map (slice_get xs) indices ≡ map (λ y. Some y) ys)
those_by_indices P xs indices rise within tells = those_from P xs 0 xs indices refl record {
  rise = rise;
  within = λ i p there. (omega arith, within i p there);
  each = λ p x le there holds. at_from_contains indices p ((tells p x there).0 holds);
  only = λ i p x there at. (tells p x at).1 (contains_from_at indices p (i, there));
}

-- ==== one more element

-- of one more it holds
pub those_more : {X : Type 0} (P : ℕ → X → Type 0) (n : ℕ) (xs ys : List X) (x : X)
    → AreThose P n xs ys → P (n + length xs) x → AreThose P n (xs ++ x ∷ []) (ys ++ x ∷ [])
those_more {X} P n [] ys x those is =
    let here : n + 0 ≡ n = omega arith in
    inl (subst (λ k. P k x) here is, [], ap (λ (l : List X). l ++ x ∷ []) those, refl)
those_more {X} P n (y ∷ xs) ys x those is =
    let at : n + suc (length xs) ≡ n + 1 + length xs = omega arith in
    let later = subst (λ k. P k x) at is in
    elim those [
      | inl one ↦ inl (
        one.0,
        one.1 ++ x ∷ [],
        ap (λ (l : List X). l ++ x ∷ []) one.2,
        those_more P (n + 1) xs one.1 x one.3 later,
      )
      | inr other ↦ inr (other.0, those_more P (n + 1) xs ys x other.1 later)
    ]

-- of one more it doesn't
pub those_skipped : {X : Type 0} (P : ℕ → X → Type 0) (n : ℕ) (xs ys : List X) (x : X)
    → AreThose P n xs ys → ¬ (P (n + length xs) x) → AreThose P n (xs ++ x ∷ []) ys
those_skipped P n [] ys x those isnt =
    let here : n ≡ n + 0 = omega arith in
    inr ((λ is. isnt (subst (λ k. P k x) here is)), those)
those_skipped P n (y ∷ xs) ys x those isnt =
    let at : n + 1 + length xs ≡ n + suc (length xs) = omega arith in
    let later : ¬ (P (n + 1 + length xs) x) = λ is. isnt (subst (λ k. P k x) at is) in
    elim those [
      | inl one ↦ inl (one.0, one.1, one.2, those_skipped P (n + 1) xs one.1 x one.3 later)
      | inr other ↦ inr (other.0, those_skipped P (n + 1) xs ys x other.1 later)
    ]

-- ==== frames stay what they are as statements are added

abbrev pub at_index : List Sentence → ℕ → FrameIndex
at_index st index = record { statements = st; index = index }

pub hypotheses_grow : (st more : List Sentence) (index : ℕ) (numbers : List ℕ) → AreHypotheses (at_index st index) numbers → AreHypotheses (at_index (st ++ more) index) numbers
hypotheses_grow st more index numbers are =
    let lt = slice_get_within st index are.assertion are.there in
    record {
      assertion = are.assertion;
      there = get_kept st more index are.assertion are.there;
      hypotheses = are.hypotheses;
      mandatory = rw (take-append-le index st more (omega arith)) are.mandatory;
      numbered = zip_mapped _ _ _ _ (mapped_zip _ _ _ (labelled_grow st more) _ _ are.numbered);
    }

pub pairs_grow : (st more : List Sentence) (index : ℕ) (pairs : List (ℕ × ℕ)) → ArePairs (at_index st index) pairs → ArePairs (at_index (st ++ more) index) pairs
pairs_grow st more index pairs are =
    let lt = slice_get_within st index are.assertion are.there in
    let same : take index (st ++ more) ≡ take index st = take-append-le index st more (omega arith) in
    record {
      assertion = are.assertion;
      there = get_kept st more index are.assertion are.there;
      only = λ pair in_it.
          let (x, y, at_x, at_y, mandatory) = are.only pair in_it in (
            x,
            y,
            symbols_grow st more pair.0 x at_x,
            symbols_grow st more pair.1 y at_y,
            rw same mandatory,
          );
      each = λ x y mandatory.
          let (pair, at_x, at_y, in_it) = are.each x y (rw same at mandatory) in
          (pair, symbols_grow st more pair.0 x at_x, symbols_grow st more pair.1 y at_y, in_it);
      once = are.once;
    }

part_grow : {X : Type 0} (xs ys : List X) (part : Part) → IsPartWithin part (length xs) → IsPartWithin part (length (xs ++ ys))
part_grow xs ys part within = let inside = within.within in let more = longer xs ys in record { ordered = within.ordered; within = omega arith }

pub frame_grow : (st more : List Sentence) (hs a : List Hypothesis) (pairs b : List DistinctPair) (pieces c : List Piece) (info : LabelInfo) → IsFrameInfo st hs pairs pieces info → IsFrameInfo (st ++ more) (hs ++ a) (pairs ++ b) (pieces ++ c) info
frame_grow st more hs a pairs b pieces c info is =
    let h = is.hypotheses_in in
    let p = is.pairs_in in
    let q = is.conclusion_in in
    let all_h = slice_left hs a info.hypotheses.start info.hypotheses.end h.ordered h.within in
    let all_p = slice_left pairs b info.pairs.start info.pairs.end p.ordered p.within in
    let all_q = slice_left pieces c info.conclusion.start info.conclusion.end q.ordered q.within in
    let (s, there, says) = is.concluded in
    record {
      hypotheses_in = part_grow hs a info.hypotheses h;
      pairs_in = part_grow pairs b info.pairs p;
      conclusion_in = part_grow pieces c info.conclusion q;
      are_hypotheses = hypotheses_grow st more info.index _ (rw all_h is.are_hypotheses);
      are_pairs = pairs_grow st more info.index _ (rw all_p is.are_pairs);
      indexed = rw (all_h, all_p) is.indexed;
      concluded = (
        s,
        get_kept st more info.index s there,
        rw (all_h, all_q) (its_pieces_grow st more _ s _ says),
      );
      patterned = rw all_h (λ i h at.
          pattern_longer (st ++ more) _ pieces c h
          (pattern_grow st more _ pieces h (is.patterned i h at)));
    }

-- each label's statement is one of the statements
abbrev pub ArePlaced : List Sentence → List LabelInfo → Type 0
ArePlaced st named = (id : ℕ) (info : LabelInfo) → slice_get named id ≡ Some info → info.index < length st

pub indexed : (st : List Sentence) (labels : List (List ℕ)) (named : List LabelInfo) (log : List _) → AreLabelInfos st labels named log → ArePlaced st named
indexed st labels named log are id info there = let (s, numbered) = are.each id info there in slice_get_within st info.index s numbered.there

module _ (st : List Sentence) (e : Sentence) (hs a : List Hypothesis)
    (pairs b : List DistinctPair) (pieces c : List Piece) (named : List LabelInfo)
    (within : ArePlaced st named) (are : AreFrames st hs pairs pieces named) where
  -- a statement with no label
  pub frames_other : AreFrames (st ++ e ∷ []) (hs ++ a) (pairs ++ b) (pieces ++ c) named
  frames_other id info s there at is =
      frame_grow st (e ∷ []) hs a pairs b pieces c info (are id info s there (get_before st (e ∷ []) info.index s (within id info there) at) is)

  -- a hypothesis
  pub frames_hypothesis : (new : LabelInfo) → new.index ≡ length st → ¬ (IsAssertion e.kind)
      → AreFrames (st ++ e ∷ []) (hs ++ a) (pairs ++ b) (pieces ++ c) (named ++ new ∷ [])
  frames_hypothesis new index other id info s there at is = elim (pushed_cases named new id info there) [
    | inl before ↦ frames_other id info s before at is
    | inr (last, same) ↦
        let here : info.index ≡ length st = ap (λ (i : LabelInfo). i.index) (sym same) ∙ index in
        let e_is : e ≡ s = let one = get_pushed st e in cc in
        absurd (other (rw e_is is))
  ]

  -- an assertion
  pub frames_assertion : (new : LabelInfo)
      → IsFrameInfo (st ++ e ∷ []) (hs ++ a) (pairs ++ b) (pieces ++ c) new
      → AreFrames (st ++ e ∷ []) (hs ++ a) (pairs ++ b) (pieces ++ c) (named ++ new ∷ [])
  frames_assertion new frame id info s there at is = elim (pushed_cases named new id info there) [
    | inl before ↦ frames_other id info s before at is
    | inr (last, same) ↦ rw same at frame
  ]

-- ---- the pairs that `$d` state

-- the number of a symbol that a statement uses, among the symbols before or after
old_number : (st : List Sentence) (e d : Sentence) (symbols more : List (List ℕ)) (index n : ℕ) (x : List ℕ) → AllMeant st → symbols ≡ symbols_of st → symbols ++ more ≡ symbols_of (st ++ e ∷ [])
    → slice_get st index ≡ Some d → d.kind ≡ Distinct → Contains d.symbols x → slice_get (symbols ++ more) n ≡ Some x → slice_get symbols n ≡ Some x
old_number st e d symbols more index n x meant all all' there kind in_it at =
    let declared = used_declared (take index st) d x (meant_at st index d meant there) (inl kind) in_it in
    let (k, number) = number_from_declared st x (elim declared [ inl c ↦ inl (some_later st index _ c) | inr v ↦ inr (some_later st index _ v) ]) in
    let old : slice_get symbols k ≡ Some x = subst (λ names. slice_get names k ≡ Some x) (sym all) number in
    let same : k ≡ n = symbols_unique (st ++ e ∷ []) k n x (symbols_grow st (e ∷ []) k x number) (subst (λ names. slice_get names n ≡ Some x) all' at) in
    subst (λ m. slice_get symbols m ≡ Some x) same old

pub stated_other : (st : List Sentence) (e : Sentence) (symbols more : List (List ℕ))
    (stated : AllStated) → AllMeant st → symbols ≡ symbols_of st
    → symbols ++ more ≡ symbols_of (st ++ e ∷ [])
    → AreStated st symbols stated → ¬ (e.kind ≡ Distinct)
    → AreStated (st ++ e ∷ []) (symbols ++ more) stated
stated_other st e symbols more stated meant all all' are other =
    let kept = stated_kept st e symbols more stated
    (λ d index n x there kind in_it at. old_number st e d symbols more index n x meant all all'
    there kind in_it at) are in
    record {
      only = kept.only;
      each = λ index a b d x y there kind at_a at_b lt in_x in_y. elim
          (pushed_cases st e index d there) [
            | inl before ↦ kept.each index a b d x y before kind at_a at_b lt in_x in_y
            | inr (last, same) ↦ absurd (other (ap (λ (t : Sentence). t.kind) same ∙ kind))
          ];
      apart = kept.apart;
      wide = kept.wide;
    }
