-- Where a variable's `$f` stands among the hypotheses, and patterns by that.
use Rattle.std.proofs.Common.{◌≡◌, ℕ, zero, suc, ◌+◌, ◌<◌, ◌⊎◌, inl, inr, length, get_or, take, set}
use Rattle.std.proofs.Common.{List, [], ◌∷◌, ◌++◌, Bool, true, false, Option, option_map, Some}
use Rattle.std.proofs.Common.{None, refl, sym, ap, ◌∙◌, subst, length-append, arith, MatchOption}
use Rattle.std.proofs.Common.{is_some, ◌≤◌, slice_index_or}
use Rattle.std.specs.List.{slice_get, position_or_len}
use Rattle.std.proofs.lemmas.Bool.{false≢true, cases_lt}
use Rattle.std.proofs.lemmas.Bool.Decides.{Decides-eqb}
use Rattle.std.proofs.lemmas.List.{map_more, get_or_append_left, get_or_push, get_or_past, take_all}
use Rattle.std.proofs.lemmas.List.{get_or-map, length-map}
use Rattle.std.proofs.lemmas.Option.{same_Some}
use Rattle.mm_frame.specs.declared.number.Sym.{Sym}
use Rattle.mm_frame.specs.declared.hypothesis.Hypothesis.{Hypothesis}
use Rattle.mm_frame.specs.Pieces.{variables_of, is_of, IsNowhere, IsFirstAt, AreItsPieces}
use Rattle.mm_frame.specs.Pieces.{HasPattern}
use Rattle.mm_frame.specs.Mirror.Patterned.{IsLonger, AreNoted}
use Rattle.mm_base.proofs.Lists.{get_kept, get_set_same, zip_mapped, mapped_zip}
use Rattle.std.proofs.lemmas.List.Sums.{passes_at_first, fails_before_first}
use Rattle.mm_frame.specs.declared.piece.Piece.{Piece}
use Rattle.mm_frame.specs.Sentence.{Sentence}
use Rattle.mm_frame.proofs.BookLists.GrownLists.{slice_left, longer}
use Rattle.mm_frame.proofs.Names.LabelNumbers.{labelled_grow}
use Rattle.mm_frame.proofs.Names.NameNumbers.{symbols_grow}

-- ==== indices of variables' `$f` among hypotheses, noted by the variables' numbers

-- ---- the first place

-- where the symbol's `$f` is, or before it, is the first place
first_before : (n k : ℕ) (variables : List (Option ℕ)) → is_of n (get_or variables k None) ≡ true → (index : ℕ) × IsFirstAt n variables index
first_before n k variables is = elim (cases_lt k (length variables)) [
  | inl inside ↦ elim (cases_lt (position_or_len (is_of n) variables) (length variables)) [
    | inl within ↦ (
      position_or_len (is_of n) variables,
      record {
        within = within;
        is = passes_at_first (is_of n) variables None within;
        first = λ j lt. fails_before_first (is_of n) variables j None lt;
      },
    )
    | inr past ↦
        absurd (false≢true (sym (fails_before_first (is_of n) variables k None (omega arith)) ∙ is))
  ]
  | inr outside ↦
      absurd (false≢true (sym (ap (is_of n) (get_or_past variables k None outside)) ∙ is))
]

-- what stands at the noted index is the `$f`: so this is the first one
pub noted_at : (indices : List ℕ) (variables : List (Option ℕ)) (n index : ℕ) → slice_get indices n ≡ Some index → is_of n (get_or variables index None) ≡ true → AreNoted indices variables → IsFirstAt n variables index
noted_at indices variables n index there is noted =
    let (q, first) = first_before n index variables is in
    subst (IsFirstAt n variables) (same_Some q index (sym (noted n q first) ∙ there)) first

-- what stands there is another: so there is none
pub noted_nowhere : (indices : List ℕ) (variables : List (Option ℕ)) (n : ℕ) → ((index : ℕ) → slice_get indices n ≡ Some index → is_of n (get_or variables index None) ≡ false) → AreNoted indices variables → IsNowhere n variables
noted_nowhere indices variables n other noted k = by (is_of n (get_or variables k None)) refl
  where
    by : (b : Bool) → is_of n (get_or variables k None) ≡ b → is_of n (get_or variables k None) ≡ false
    by false none = none
    by true is =
        let (q, first) = first_before n k variables is in
        absurd (false≢true (sym (other q (noted n q first)) ∙ first.is))

-- ---- one variable more

-- an element stays where another index was written
get_set_other : {X : Type 0} (xs : List X) (i j : ℕ) (x : X) → ¬ (j ≡ i) → slice_get (set xs i x) j ≡ slice_get xs j
get_set_other (y ∷ xs) zero zero x apart = absurd (apart refl)
get_set_other (y ∷ xs) (suc i) (suc j) x apart = get_set_other xs i j x (λ same. apart (ap suc same))
get_set_other xs i j x apart = refl

pub noted_longer : (old new : List ℕ) (variables : List (Option ℕ)) → IsLonger old new → AreNoted old variables → AreNoted new variables
noted_longer old new variables (more, is) noted n index first =
    subst (λ ps. slice_get ps n ≡ Some index) (sym is) (get_kept old more n index (noted n index first))

-- the first place is among those before, or is that of the one more
first_pushed : (n index : ℕ) (variables : List (Option ℕ)) (v : Option ℕ) → IsFirstAt n (variables ++ v ∷ []) index → IsFirstAt n variables index ⊎ ((index ≡ length variables) × (is_of n v ≡ true))
first_pushed n index variables v first = elim (cases_lt index (length variables)) [
  | inl before ↦
      let kept : (k : ℕ) → k < length variables → get_or (variables ++ v ∷ []) k None ≡ get_or variables k None = λ k lt. get_or_append_left variables (v ∷ []) None k lt in
      inl (record {
        within = before;
        is = ap (is_of n) (sym (kept index before)) ∙ first.is;
        first = λ k lt. ap (is_of n) (sym (kept k (omega arith))) ∙ first.first k lt;
      })
  | inr from ↦
      let last : index ≡ length variables = omega (arith, length-append variables (v ∷ [])) in
      inr (last, ap (is_of n) (sym (get_or_push variables v None index (sym last))) ∙ first.is)
]

pub noted_untyped : (indices : List ℕ) (variables : List (Option ℕ)) → AreNoted indices variables → AreNoted indices (variables ++ None ∷ [])
noted_untyped indices variables noted n index first = elim (first_pushed n index variables None first) [
  | inl before ↦ noted n index before
  | inr (last, is) ↦ absurd (false≢true is)
]

-- by what is told of the symbol among those before: it is none of them, and is noted
pub noted_by_none : (indices : List ℕ) (variables : List (Option ℕ)) (m : ℕ) (told : Option ℕ) → is_some told ≡ false → MatchOption told (IsNowhere m variables) (IsFirstAt m variables) → m < length indices → AreNoted indices variables
    → AreNoted (set indices m (length variables)) (variables ++ Some m ∷ [])
noted_by_none indices variables m (Some q) is known lt noted n index first = absurd (cc)
noted_by_none indices variables m None is nowhere lt noted n index first = elim (first_pushed n index variables (Some m) first) [
  | inl before ↦
      let apart : ¬ (n ≡ m) = λ same. false≢true (sym (nowhere index) ∙ ap (λ (k : ℕ). is_of k (get_or variables index None)) (sym same) ∙ before.is) in
      get_set_other indices m n (length variables) apart ∙ noted n index before
  | inr (last, is) ↦
      let same : m ≡ n = (Decides-eqb m n).0 is in
      subst (λ k. slice_get (set indices m (length variables)) k ≡ Some index) same (get_set_same indices m (length variables) lt ∙ ap Some (sym last))
]

-- it is one of those before already
pub noted_by_some : (indices : List ℕ) (variables : List (Option ℕ)) (m : ℕ) (told : Option ℕ) → is_some told ≡ true → MatchOption told (IsNowhere m variables) (IsFirstAt m variables) → AreNoted indices variables
    → AreNoted indices (variables ++ Some m ∷ [])
noted_by_some indices variables m None is nowhere noted n index first = absurd (cc)
noted_by_some indices variables m (Some q) is known noted n index first = elim (first_pushed n index variables (Some m) first) [
  | inl before ↦ noted n index before
  | inr (last, is) ↦
      let same : m ≡ n = (Decides-eqb m n).0 is in
      let none = first.first q (let lt = known.within in omega arith) in
      absurd (false≢true (sym none ∙ ap (is_of n) (get_or_append_left variables (Some m ∷ []) None q known.within) ∙ ap (λ (k : ℕ). is_of k (get_or variables q None)) (sym same) ∙ known.is))
]

-- the variables of one hypothesis more
pub noted_more : (indices : List ℕ) (hs : List Hypothesis) (i : ℕ) (d : Hypothesis) (typing : Option (Sym × Sym)) → i < length hs → (get_or hs i d).typing ≡ typing
    → AreNoted indices (variables_of (take i hs) ++ option_map (λ typing. typing.1.0) typing ∷ []) → AreNoted indices (variables_of (take (i + 1) hs))
noted_more indices hs i d typing lt is noted =
    let variable : Option (Sym × Sym) → Option ℕ = option_map (λ typing. typing.1.0) in
    let pushed : variables_of (take (i + 1) hs) ≡ variables_of (take i hs) ++ variable (get_or hs i d).typing ∷ [] = map_more (λ (h : Hypothesis). variable h.typing) hs i d lt in
    subst (AreNoted indices) (sym (pushed ∙ ap (λ t. variables_of (take i hs) ++ variable t ∷ []) is)) noted

pub ruleset noting_steps = (take_all, noted_untyped, noted_more)

-- ==== indices of variables among hypotheses, and patterns by them

-- the variable of the hypothesis at an index
pub variable_at : (hs : List Hypothesis) (k : ℕ) (d : Hypothesis) → k < length hs → slice_index_or (variables_of hs) k None ≡ option_map (λ typing. typing.1.0) (get_or hs k d).typing
variable_at hs k d lt =
    get_or-map (λ (h : Hypothesis). option_map (λ typing. typing.1.0) h.typing) hs k d None lt

pub variables_counted : (hs : List Hypothesis) → length (variables_of hs) ≡ length hs
variables_counted hs = length-map hs _

-- behind the last there is none
pub none_behind : (hs : List Hypothesis) (n k : ℕ) → length hs ≤ k → is_of n (slice_index_or (variables_of hs) k None) ≡ false
none_behind hs n k le =
    ap (is_of n) (get_or_past (variables_of hs) k None (omega (arith, variables_counted hs)))

-- ---- patterns stay what they are as statements and pieces are added

-- the pieces of a statement
pub its_pieces_grow : (st more : List Sentence) (variables : List (Option ℕ)) (s : Sentence) (pieces : List Piece) → AreItsPieces st variables s pieces → AreItsPieces (st ++ more) variables s pieces
its_pieces_grow st more variables s pieces (numbers, are, says) =
    let known = mapped_zip _ _ _ (symbols_grow st more) numbers _ are in
    (numbers, zip_mapped _ _ numbers s.symbols known, says)

pub pattern_grow : (st more : List Sentence) (variables : List (Option ℕ)) (pieces : List Piece) (h : Hypothesis) → HasPattern st variables pieces h → HasPattern (st ++ more) variables pieces h
pattern_grow st more variables pieces h has = record {
  ordered = has.ordered;
  within = has.within;
  says = λ untyped.
      let (e, at, are) = has.says untyped in
      (e, labelled_grow st more h.id.0 e at, its_pieces_grow st more variables e _ are);
}

pub pattern_longer : (st : List Sentence) (variables : List (Option ℕ)) (pieces c : List Piece) (h : Hypothesis) → HasPattern st variables pieces h → HasPattern st variables (pieces ++ c) h
pattern_longer st variables pieces c h has =
    let more = longer pieces c in
    record {
      ordered = has.ordered;
      within = omega arith;
      says = λ untyped.
          let (e, at, are) = has.says untyped in
          (e, at, subst (AreItsPieces st variables e) (sym (slice_left pieces c h.pattern.start h.pattern.end has.ordered has.within)) are);
    }
