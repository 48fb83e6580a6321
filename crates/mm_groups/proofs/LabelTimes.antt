-- How often labels are named, counted down in a map. The contracts of `countdown.rt` rest on it.
use Rattle.std.proofs.Common.{◌≡◌, ℕ, ◌+◌, ◌-◌, List, [], ◌∷◌, ◌++◌, length, filter}
use Rattle.std.proofs.Common.{Bool, true, false, ◌||◌, cond, Option, Some, None}
use Rattle.std.proofs.Common.{refl, sym, ap, ◌∙◌, arith, length-append, append-nil}
use denote.Ref.{Bor}
use Rattle.std.specs.List.{flat_map}
use Rattle.std.specs.Str.{bytes_eq}
use Rattle.std.proofs.lemmas.Slice.Eq.{bytes_eq-Decides}
use Rattle.std.proofs.lemmas.List.Elements.{filter-append}
use Rattle.std.proofs.lemmas.List.Folds.{list_any-append}
use Rattle.std.proofs.lemmas.Grind.{flat_map-append}
use Rattle.indexmap.specs.IndexMap.{IndexMap, get, get_by}
use Rattle.mm_base.specs.Statement.{PlainStatement}
use Rattle.mm_groups.specs.Shared.{is_in, labels_in, times, times_in}
use Rattle.mm_groups.specs.Mirror.Sets.{same_bytes, left_after, left_at_first}
use Rattle.mm_groups.proofs.CommonLabels.{same_turned}

-- ---- what is left

-- no label is named
pub left_none : (left : Option ℕ) → left ≡ left_after 0 left
left_none None = refl
left_none (Some count) =
    let e : count ≡ count - 0 = omega arith in ap (λ (k : ℕ). Some k) e

-- labels are named in two parts
pub left_both : (m n : ℕ) (left : Option ℕ) → left_after n (left_after m left) ≡ left_after (m + n)
    left
left_both m n None = refl
left_both m n (Some count) =
    let e : (count - m) - n ≡ count - (m + n) = omega arith in ap (λ (k : ℕ). Some k) e

-- ---- how often

pub times_append : (a b : List (List ℕ)) (label : List ℕ)
    → times_in (a ++ b) label ≡ times_in a label + times_in b label
times_append a b label =
    ap length (filter-append (bytes_eq label) a b)
    ∙ length-append (filter (bytes_eq label) a) (filter (bytes_eq label) b)

pub times_more : (passed : List PlainStatement) (s : PlainStatement) (label : List ℕ)
    → times (passed ++ s ∷ []) label ≡ times passed label + times_in (labels_in s) label
times_more passed s label =
    ap (λ (ls : List (List ℕ)). times_in ls label)
    (flat_map-append labels_in passed (s ∷ [])
    ∙ ap (λ (ls : List (List ℕ)). flat_map labels_in passed ++ ls) (append-nil (labels_in s)))
    ∙ times_append (flat_map labels_in passed) (labels_in s) label

-- labels are named once more, after others
pub named_after : (front more : List (List ℕ)) (label : List ℕ) (first middle last : Option ℕ)
    → middle ≡ left_after (times_in front label) first
    → last ≡ left_after (times_in more label) middle
    → last ≡ left_after (times_in (front ++ more) label) first
named_after front more label first middle last so_far is =
    is ∙ ap (left_after (times_in more label)) so_far
    ∙ left_both (times_in front label) (times_in more label) first
    ∙ ap (λ (n : ℕ). left_after n first) (sym (times_append front more label))

pub passed_after : (passed : List PlainStatement) (s : PlainStatement) (label : List ℕ)
    (first middle last : Option ℕ) → middle ≡ left_after (times passed label) first
    → last ≡ left_after (times_in (labels_in s) label) middle
    → last ≡ left_after (times (passed ++ s ∷ []) label) first
passed_after passed s label first middle last so_far is =
    is ∙ ap (left_after (times_in (labels_in s) label)) so_far
    ∙ left_both (times passed label) (times_in (labels_in s) label) first
    ∙ ap (λ (n : ℕ). left_after n first) (sym (times_more passed s label))

-- ---- the map

-- a label is one key, wherever it stands
pub same_key : {S : Type 0} (m : IndexMap (Bor (List ℕ)) ℕ S) (x y : Bor (List ℕ)) → x.now ≡ y.now
    → get same_bytes m x ≡ get same_bytes m y
same_key m x y same = ap (λ (l : List ℕ). get_by (λ k. bytes_eq l k.now) m) same

module _ (label other : List ℕ) where
  named_once : bytes_eq label other ≡ true → times_in (label ∷ []) other ≡ 1
  named_once is =
      ap (λ (b : Bool). length (cond b (label ∷ []) [])) (same_turned other label ∙ is)

  named_never : bytes_eq label other ≡ false → times_in (label ∷ []) other ≡ 0
  named_never is =
      ap (λ (b : Bool). length (cond b (label ∷ []) [])) (same_turned other label ∙ is)

  -- one less is left for it
  pub one_less : (count less : ℕ) (old new : Option ℕ)
      → (label ≡ other → old ≡ Some count) → less ≡ count - 1
      → new ≡ cond (bytes_eq label other) (Some less) old
      → new ≡ left_after (times_in (label ∷ []) other) old
  one_less count less old new had fewer is = go (bytes_eq label other) refl
    where
      go : (b : Bool) → bytes_eq label other ≡ b → new ≡ left_after (times_in (label ∷ []) other)
          old
      go true e =
          let there : old ≡ Some count = had ((bytes_eq-Decides label other).0 e) in
          is ∙ ap (λ (b : Bool). cond b (Some less) old) e ∙ ap (λ (k : ℕ). Some k) fewer
          ∙ sym (ap (λ (n : ℕ). left_after n old) (named_once e) ∙ ap (left_after 1) there)
      go false e =
          is ∙ ap (λ (b : Bool). cond b (Some less) old) e ∙ left_none old
          ∙ ap (λ (n : ℕ). left_after n old) (sym (named_never e))

  -- it isn't one of those that are counted
  pub none_less : (old : Option ℕ) → (label ≡ other → old ≡ None)
      → old ≡ left_after (times_in (label ∷ []) other) old
  none_less old had = go (bytes_eq label other) refl
    where
      go : (b : Bool) → bytes_eq label other ≡ b → old ≡ left_after (times_in (label ∷ []) other) old
      go true e =
          let none : old ≡ None = had ((bytes_eq-Decides label other).0 e) in rw none refl
      go false e = left_none old ∙ ap (λ (n : ℕ). left_after n old) (sym (named_never e))

-- one more label at the beginning
first_more : (limit : ℕ) (b old : Bool)
    → cond b (Some limit) (left_at_first limit old) ≡ left_at_first limit (old || (b || false))
first_more limit true true = refl
first_more limit true false = refl
first_more limit false true = refl
first_more limit false false = refl

pub begun_more : (limit : ℕ) (front : List (List ℕ)) (k q : List ℕ) (old new : Option ℕ)
    → new ≡ cond (bytes_eq k q) (Some limit) old → old ≡ left_at_first limit (is_in front q)
    → new ≡ left_at_first limit (is_in (front ++ k ∷ []) q)
begun_more limit front k q old new is so_far =
    is ∙ ap (cond (bytes_eq k q) (Some limit)) so_far
    ∙ ap (λ (b : Bool). cond b (Some limit) (left_at_first limit (is_in front q))) (same_turned k q)
    ∙ first_more limit (bytes_eq q k) (is_in front q)
    ∙ ap (left_at_first limit) (sym (list_any-append (bytes_eq q) front (k ∷ [])))

-- what is left of the limit in the end
pub left_in_end : (limit n : ℕ) (listed : Bool) (first last : Option ℕ) → listed ≡ true
    → first ≡ left_at_first limit listed → last ≡ left_after n first → last ≡ Some (limit - n)
left_in_end limit n listed first last is begun ended =
    ended ∙ ap (left_after n) (begun ∙ ap (left_at_first limit) is)
