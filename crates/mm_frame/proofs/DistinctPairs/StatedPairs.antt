-- The distinct pairs at an index, by the pairs that `$d` state.
use Rattle.std.proofs.Common.{◌≡◌, ◌≢◌, ℕ, ◌-◌, ◌<◌, ◌≤◌, inl, inr, length, take, get_or, List, []}
use Rattle.std.proofs.Common.{◌∷◌, ◌++◌, Contains, Some, refl, sym, ap, ◌∙◌, subst, arith, ◌+◌}
use Rattle.std.proofs.Common.{slice_get, ◌↔◌, suc, ◌⊎◌, None, map}
use Rattle.std.proofs.lemmas.Bool.{cases_lt, cases_order}
use Rattle.std.proofs.lemmas.List.{take-append-le, length-take-le, take-take, append-nil}
use Rattle.std.proofs.Math.Seq.{take-length}
use Rattle.std.proofs.lemmas.Option.{slice_get_within, slice_get_read}
use Rattle.mm_base.specs.declared.statement.Kind.TheVariants.{Distinct}
use Rattle.mm_frame.specs.declared.wide.WideDistinct.{WideDistinct}
use Rattle.mm_frame.specs.Sentence.{Sentence}
use Rattle.mm_frame.specs.Active.{IsActive}
use Rattle.mm_frame.specs.Frame.{IsDistinct}
use Rattle.mm_frame.specs.Numbers.{symbols_of, AreNumbers}
use Rattle.mm_frame.specs.Mirror.Wide.{AreWide, HoldsPair, IsHeld, NoneFrom, IsWide, IsNewWide}
use Rattle.mm_frame.specs.Mirror.Wide.{EndWithActive}
use Rattle.mm_base.proofs.Lists.{get_kept, get_in_front, get_pushed, pushed_cases, get_before}
use Rattle.mm_base.proofs.Lists.{get_after, append_cases, get_from_take, at_from_contains}
use Rattle.mm_base.proofs.Lists.{contains_from_at}
use Rattle.mm_frame.proofs.Rules.ObeyedRules.{active_in_front}
use Rattle.mm_frame.proofs.Names.NameNumbers.{symbols_unique, get_mapped, get_unmapped, member_name}
use Rattle.mm_frame.proofs.Names.NameNumbers.{name_member, each_pushed}
use Rattle.mm_frame.specs.Mirror.Stated.{Stated, AllStated, HasSpan, IsLatestStated}
use Rattle.mm_frame.specs.Mirror.Layout.{AreStated, IsStatedThere, AreCovered}
use Rattle.mm_frame.proofs.Blocks.ActiveStatements.{active_last, active_stays, active_nest}
use Rattle.mm_frame.proofs.Blocks.NumberedBlocks.{taken_at}
use Rattle.std.proofs.lemmas.List.Sorted.{IsPermutation-sym, Contains-permutation}
use Rattle.mm_frame.specs.declared.number.Sym.{Sym}

-- ==== the `$d` of many variables that are kept as they are written

-- the last of the first so many, as it is read
pub wide_at : (wide read : List WideDistinct) (n m : ℕ) (w : WideDistinct) → read ≡ wide → n ≢ 0
    → n + m ≤ length wide → w ≡ get_or read (n - 1) w → slice_get wide (n - 1) ≡ Some w
wide_at wide read n m w same apart within is =
    slice_get_read wide (length wide) (n - 1) w refl (omega arith)
    (is ∙ ap (λ xs. get_or xs (n - 1) w) same)

-- one further back isn't so either
pub none_next : (P : WideDistinct → Type 0) (wide : List WideDistinct) (n : ℕ) (w : WideDistinct)
    → 0 < n → slice_get wide (n - 1) ≡ Some w → ¬ (P w) → NoneFrom P wide n
    → NoneFrom P wide (n - 1)
none_next P wide n w some there other none k v le at = elim (cases_lt k n) [
  | inl before ↦
      let same : k ≡ n - 1 = omega arith in
      λ holds. let e : v ≡ w = cc in other (subst P e holds)
  | inr after ↦ none k v after at
]

-- nor are those that an earlier one passes
pub none_older : (P : WideDistinct → Type 0) (wide : List WideDistinct) (n m : ℕ)
    → ((k : ℕ) (v : WideDistinct) → m ≤ k → k < n → slice_get wide k ≡ Some v → ¬ (P v))
    → NoneFrom P wide n → NoneFrom P wide m
none_older P wide n m passed none k v le at = elim (cases_lt k n) [
  | inl before ↦ passed k v le before at
  | inr after ↦ none k v after at
]

-- what is active later was active before
pub active_shorter : (st : List Sentence) (k n q : ℕ) → k < n → n ≤ q → q ≤ length st
    → IsActive (take q st) k → IsActive (take n st) k
active_shorter st k n q lt le within active =
    let size = length-take-le q st within in
    rw (take-take n q st le) at (active_in_front _ _ n lt (omega arith) active)

module _ {st : List Sentence} {symbols : List (List ℕ)} {wide : List WideDistinct}
    (are : AreWide st symbols wide) where
  -- one that stands before an index passes none that is active there
  pub passes_none : (i k q : ℕ) (w v : WideDistinct) → slice_get wide i ≡ Some w
      → slice_get wide k ≡ Some v → w.older ≤ k → k < i → w.index < q → q ≤ length st
      → ¬ (IsActive (take q st) v.index)
  passes_none i k q w v at_i at_k le lt before within active =
      let (less, inactive) = are.passed i k w v at_i at_k le lt in
      inactive (active_shorter st v.index w.index q less (omega arith) within active)

  -- what a step of the search for one that holds two symbols leaves
  pub held_next : (q a b n : ℕ) (w : WideDistinct) → q ≤ length st → 0 < n
      → slice_get wide (n - 1) ≡ Some w → ¬ (HoldsPair st q a b w)
      → NoneFrom (HoldsPair st q a b) wide n → w.index < q
      → NoneFrom (HoldsPair st q a b) wide w.older
  held_next q a b n w within some there other none before =
      none_older (HoldsPair st q a b) wide (n - 1) w.older
      (λ k v le lt at (early, in_a, in_b, active).
      passes_none (n - 1) k q w v there at le lt before within active)
      (none_next (HoldsPair st q a b) wide n w some there other none)

  -- and of the search for one that is active
  pub active_next : (n : ℕ) (w : WideDistinct) → 0 < n → slice_get wide (n - 1) ≡ Some w
      → ¬ (IsActive st w.index) → NoneFrom (λ v. IsActive st v.index) wide n
      → NoneFrom (λ v. IsActive st v.index) wide w.older
  active_next n w some there other none =
      let is = are.each (n - 1) w there in
      let lt = slice_get_within st w.index is.d is.there in
      none_older (λ v. IsActive st v.index) wide (n - 1) w.older
      (λ k v le less at active. passes_none (n - 1) k (length st) w v there at le
      less lt
      (omega arith) (subst (λ ys. IsActive ys v.index) (sym (take-length st)) active))
      (none_next (λ v. IsActive st v.index) wide n w some there other none)

  -- the members of one that is active are distinct
  pub held_distinct : (a b q : ℕ) (x y : List ℕ) → symbols ≡ symbols_of st
      → slice_get symbols a ≡ Some x → slice_get symbols b ≡ Some y → a ≢ b → IsHeld st wide q a b
      → IsDistinct (take q st) x y
  held_distinct a b q x y all at_a at_b apart (i, w, there, (before, in_a, in_b, active)) =
      let is = are.each i w there in
      let (u, at_u, in_u) = is.only a in_a in
      let (v, at_v, in_v) = is.only b in_b in
      let same_x : u ≡ x = cc in
      let same_y : v ≡ y = cc in (
        (λ same. apart (symbols_unique st a b x (rw all at at_a)
            (rw all at (at_b ∙ ap (λ z. Some z) (sym same))))),
        (
          w.index,
          is.d,
          get_in_front st q w.index is.d before is.there,
          active,
          (is.kind, rw same_x at in_u, rw same_y at in_v),
        ),
      )

-- the same ones end so in a longer list
ends_longer : (st : List Sentence) (wide : List WideDistinct) (w : WideDistinct) (n : ℕ)
    → EndWithActive st wide n → EndWithActive st (wide ++ w ∷ []) n
ends_longer st wide w n (inl none) = inl none
ends_longer st wide w n (inr (k, v, is, there, active)) =
    inr (k, v, is, get_kept wide (w ∷ []) k v there, active)

-- one statement more leaves them, where the symbols that they hold keep their numbers
pub wide_grow : (st : List Sentence) (e : Sentence) (symbols more : List (List ℕ))
    (wide : List WideDistinct)
    → ((d : Sentence) (index n : ℕ) (x : List ℕ) → slice_get st index ≡ Some d → d.kind ≡ Distinct
    → Contains d.symbols x → slice_get (symbols ++ more) n ≡ Some x → slice_get symbols n ≡ Some x)
    → AreWide st symbols wide → AreWide (st ++ e ∷ []) (symbols ++ more) wide
wide_grow st e symbols more wide old are = record {
  each = λ i w there.
      let is = are.each i w there in
      record {
        d = is.d;
        there = get_kept st (e ∷ []) w.index is.d is.there;
        kind = is.kind;
        only = λ n in_it. let (x, at, in_d) = is.only n in_it in
            (x, get_kept symbols more n x at, in_d);
        each = λ n x at in_d. is.each n x (old is.d w.index n x is.there is.kind in_d at) in_d;
        sorted = is.sorted;
      };
  older = are.older;
  latest = λ i w there.
      let is = are.each i w there in
      let within = slice_get_within st w.index is.d is.there in
      rw (take-append-le w.index st (e ∷ []) (omega arith)) (are.latest i w there);
  passed = λ i k w v at_i at_k le lt.
      let (less, inactive) = are.passed i k w v at_i at_k le lt in
      let within = slice_get_within st w.index (are.each i w at_i).d (are.each i w at_i).there in
      (less, rw (take-append-le w.index st (e ∷ []) (omega arith)) inactive);
}

-- ==== the distinct pairs at an index, by the pairs that `$d` state

-- what is active where an active statement stands is active
active_then : (st : List Sentence) (s p q : ℕ) → s ≤ p → p < q → IsActive (take (p + 1) st) s
    → IsActive (take q st) p → IsActive (take q st) s
active_then st s p q le lt at_p at_q =
    let next : p + 1 ≡ suc p = omega arith in
    elim (cases_order s p) [
      | inl same ↦ subst (IsActive (take q st)) (sym same) at_q
      | inr (inl before) ↦ active_nest st _ _ q before lt (rw next at at_p) at_q
      | inr (inr after) ↦ absurd (omega arith)
    ]

module _ {st : List Sentence} {symbols : List (List ℕ)} {stated : AllStated}
    (are : AreStated st symbols stated) where
  -- an active pair was stated by an active `$d`, as a pair or by one of many variables
  pub distinct_stated : (a b q : ℕ) (x y : List ℕ) → slice_get symbols a ≡ Some x
      → slice_get symbols b ≡ Some y → a < b → IsDistinct (take q st) x y
      → HasSpan st stated.pairs (a, b) q ⊎ IsHeld st stated.wide q a b
  distinct_stated a b q x y at_a at_b lt (apart, (p, d, there, active, (kind, in_x, in_y))) =
      let (p_before, at_d) = get_from_take st q _ _ there in
      elim (are.each p a b d x y at_d kind at_a at_b lt in_x in_y) [
        | inl (i, span, at, pair, le, at_p) ↦
            inl (record {
              i = i;
              span = span;
              there = at;
              same = pair;
              early = omega arith;
              active = active_then st _ _ q le p_before at_p active;
            })
        | inr (i, w, at, in_a, in_b, le, at_p) ↦
            inr (i, w, at, (omega arith, in_a, in_b, active_then st _ _ q le p_before at_p active))
      ]

  -- an active `$d` states active pairs
  pub span_distinct : (a b q : ℕ) (x y : List ℕ) → symbols ≡ symbols_of st
      → slice_get symbols a ≡ Some x → slice_get symbols b ≡ Some y → a < b
      → HasSpan st stated.pairs (a, b) q → IsDistinct (take q st) x y
  span_distinct a b q x y all at_a at_b lt has =
      let (d, there, kind, less, u, v, at_u, at_v, in_u, in_v) = are.only has.i has.span has.there in
      let first : has.span.pair.0 ≡ a = ap (λ p. p.0) has.same in
      let second : has.span.pair.1 ≡ b = ap (λ p. p.1) has.same in
      let same_x : u ≡ x = let at = subst (λ n. slice_get symbols n ≡ Some u) first at_u in cc in
      let same_y : v ≡ y = let at = subst (λ n. slice_get symbols n ≡ Some v) second at_v in cc in (
        (λ same.
            let one : a ≡ b = symbols_unique st a b x (subst (λ xs. slice_get xs a ≡ Some x) all at_a) (subst (λ xs. slice_get xs b ≡ Some x) all (at_b ∙ ap (λ z. Some z) (sym same))) in
            omega arith),
        (
          has.span.index,
          d,
          get_in_front st q has.span.index d has.early there,
          has.active,
          (kind, rw same_x at in_u, rw same_y at in_v),
        ),
      )

  -- The latest span of a pair before an index is active there exactly if one is.
  pub latest_has : (pair : ℕ × ℕ) (q index : ℕ) → q ≤ length st
      → IsLatestStated stated.pairs pair q (Some index)
      → (index < q) × (IsActive (take q st) index ↔ HasSpan st stated.pairs pair q)
  latest_has pair q index within (i, span, there, same, is, before, last) = (
    before,
    (
      (λ active. record {
        i = i;
        span = span;
        there = there;
        same = same;
        early = rw is before;
        active = subst (IsActive (take q st)) (sym is) active;
      }),
      (λ has.
          elim (cases_order has.i i) [
            | inl one ↦
                let e : has.span ≡ span = let at = rw one at has.there in cc in
                subst (IsActive (take q st)) is (rw e at has.active)
            | inr (inl older) ↦
                let (less, inactive) = are.apart _ _ _ _ older has.there there
                (has.same ∙ sym same) in
                absurd (inactive (active_shorter st _ span.index q less
                (omega (arith, is, before)) within has.active))
            | inr (inr newer) ↦ absurd (let h = last has.i has.span newer has.there has.same in
                let g = has.early in omega arith)
          ]),
    ),
  )

-- Where no span before an index states the pair, none is active there.
pub none_has : (st : List Sentence) (spans : List Stated) (pair : ℕ × ℕ) (q : ℕ)
    → IsLatestStated spans pair q None → ¬ (HasSpan st spans pair q)
none_has st spans pair q none has =
    let h = none has.i has.span has.there has.same in
    omega arith

-- the new spans of a `$d`: pairs of its members that weren't distinct
pub record AreNew (st : List Sentence) (e : Sentence) (symbols : List (List ℕ)) (new : List Stated) : Type 0 where
  pub only : (i : ℕ) (span : Stated) → slice_get new i ≡ Some span
      → (span.index ≡ length st) × (span.pair.0 < span.pair.1) × (x : List ℕ) × (y : List ℕ) × (slice_get symbols span.pair.0 ≡ Some x) × (slice_get symbols span.pair.1 ≡ Some y)
      × Contains e.symbols x × Contains e.symbols y × ¬ (IsDistinct st x y)
  pub once : (i j : ℕ) (one other : Stated) → slice_get new i ≡ Some one → slice_get new j ≡ Some other → one.pair ≡ other.pair → i ≡ j
  pub each : (a b : ℕ) (x y : List ℕ) → slice_get symbols a ≡ Some x → slice_get symbols b ≡ Some y → a < b → Contains e.symbols x → Contains e.symbols y
      → ((i : ℕ) × (span : Stated) × (slice_get new i ≡ Some span) × (span.pair ≡ (a, b))) ⊎ IsDistinct st x y

-- what was stated, where a statement is added, and symbols whose numbers the `$d` before it don't
-- hold
pub record AreKept (st : List Sentence) (e : Sentence) (symbols : List (List ℕ))
    (stated : AllStated) : Type 0 where
  pub only : (i : ℕ) (span : Stated) → slice_get stated.pairs i ≡ Some span
      → IsStatedThere (st ++ e ∷ []) symbols span
  pub each : (index a b : ℕ) (d : Sentence) (x y : List ℕ) → slice_get st index ≡ Some d
      → d.kind ≡ Distinct → slice_get symbols a ≡ Some x → slice_get symbols b ≡ Some y → a < b
      → Contains d.symbols x
      → Contains d.symbols y → AreCovered (st ++ e ∷ []) stated index a b
  pub apart : (i j : ℕ) (older newer : Stated) → i < j → slice_get stated.pairs i ≡ Some older
      → slice_get stated.pairs j ≡ Some newer → older.pair ≡ newer.pair
      → (older.index < newer.index) × ¬ (IsActive (take newer.index (st ++ e ∷ [])) older.index)
  pub wide : AreWide (st ++ e ∷ []) symbols stated.wide

-- a symbol of a `$d` has no number among those that are added
abbrev pub AreOldNumbers : List Sentence → List (List ℕ) → List (List ℕ) → Type 0
AreOldNumbers st symbols more =
    (d : Sentence) (index n : ℕ) (x : List ℕ) → slice_get st index ≡ Some d → d.kind ≡ Distinct
    → Contains d.symbols x → slice_get (symbols ++ more) n ≡ Some x
    → slice_get symbols n ≡ Some x

pub stated_kept : (st : List Sentence) (e : Sentence) (symbols more : List (List ℕ))
    (stated : AllStated) → AreOldNumbers st symbols more → AreStated st symbols stated
    → AreKept st e (symbols ++ more) stated
stated_kept st e symbols more stated old are = record {
  only = λ i span there.
      let (d, at, kind, lt, x, y, at_x, at_y, in_x, in_y) = are.only i span there in (
        d,
        get_kept st (e ∷ []) span.index d at,
        kind,
        lt,
        x,
        y,
        get_kept symbols more span.pair.0 x at_x,
        get_kept symbols more span.pair.1 y at_y,
        in_x,
        in_y,
      );
  each = λ index a b d x y there kind at_a at_b lt in_x in_y.
      let within = slice_get_within st index d there in
      let prefix = take-append-le (index + 1) st (e ∷ []) (omega arith) in
      elim (are.each index a b d x y there kind (old d index a x there kind in_x at_a)
      (old d index b y there kind in_y at_b) lt in_x in_y) [
        | inl (i, span, at, pair, le, active) ↦ inl (i, span, at, pair, le, rw prefix active)
        | inr (i, w, at, in_a, in_b, le, active) ↦ inr (i, w, at, in_a, in_b, le, rw prefix active)
      ];
  apart = λ i j older newer lt at_i at_j same.
      let (less, inactive) = are.apart i j older newer lt at_i at_j same in
      let stated_at = are.only j newer at_j in
      let within = slice_get_within st newer.index stated_at.0 stated_at.1 in
      (less, rw (take-append-le newer.index st (e ∷ []) (omega arith)) inactive);
  wide = wide_grow _ e _ more _ old are.wide;
}

-- the same where no symbol is added
pub stated_more : (st : List Sentence) (e : Sentence) (symbols : List (List ℕ)) (stated : AllStated)
    → AreStated st symbols stated → AreKept st e symbols stated
stated_more st e symbols stated are =
    let none = append-nil symbols in
    rw none at (stated_kept _ e _ [] _ (λ d index n x there kind in_it at. rw none at (at)) are)

-- A `$d`, with its new spans.
pub stated_push : (st : List Sentence) (e : Sentence) (symbols : List (List ℕ)) (stated : AllStated)
    (new : List Stated) → symbols ≡ symbols_of st → AreStated st symbols stated → e.kind ≡ Distinct
    → AreNew st e symbols new
    → AreStated (st ++ e ∷ []) symbols (record { pairs = stated.pairs ++ new; wide = stated.wide })
stated_push st e symbols stated new all are kind news =
    let kept = stated_more _ e _ _ are in
    let spans = stated.pairs in
    record {
      only = λ i span there. elim (append_cases spans new i span there) [
        | inl before ↦ kept.only i span before
        | inr (j, is, at) ↦
            let (index, lt, x, y, at_x, at_y, in_x, in_y, apart) = news.only j span at in
            (e, rw index (get_pushed st e), kind, lt, x, y, at_x, at_y, in_x, in_y)
      ];
      each = λ index a b d x y there is at_a at_b lt in_x in_y. elim (pushed_cases st e index d there) [
        | inl before ↦ elim (kept.each index a b d x y before is at_a at_b lt in_x in_y) [
          | inl (i, span, at, pair, le, active) ↦
              inl (i, span, get_kept spans new i span at, pair, le, active)
          | inr held ↦ inr held
        ]
        | inr (last, same) ↦
            elim (news.each a b x y at_a at_b lt (rw (← same) at in_x) (rw (← same) at in_y)) [
              | inl (j, span, at, pair) ↦
                  let here : span.index ≡ length st = (news.only j span at).0 in
                  inl (
                    length spans + j,
                    span,
                    get_after spans new j span at,
                    pair,
                    omega arith,
                    rw (taken_at st e index last, here) (active_last st e),
                  )
              | inr distinct ↦ elim (distinct_stated are a b (length st) x y at_a at_b lt
                  (rw (take-length st) distinct)) [
                    | inl has ↦
                        inl (
                          has.i,
                          has.span,
                          get_kept spans new has.i has.span has.there,
                          has.same,
                          omega arith,
                          still index has.span.index last has.active,
                        )
                    | inr (i, w, at, (early, in_a, in_b, active)) ↦
                        inr (i, w, at, in_a, in_b, omega arith, still index _ last active)
                  ]
            ]
      ];
      apart = λ i j older newer lt at_i at_j same. elim (append_cases spans new j newer at_j) [
        | inl j_before ↦ kept.apart i j older newer lt
            (get_before spans new i older (let h = slice_get_within spans j newer j_before in omega
            arith) at_i) j_before same
        | inr (k, j_is, j_new) ↦ elim (append_cases spans new i older at_i) [
          | inl i_before ↦ old_new i k older newer i_before j_new same
          | inr (m, i_is, i_new) ↦ absurd (let h = news.once m k older newer i_new j_new same in omega arith)
        ]
      ];
      wide = kept.wide;
    }
  where
    -- what was active stays so at the `$d`
    still : (index p : ℕ) → index ≡ length st → IsActive (take (length st) st) p
        → IsActive (take (index + 1) (st ++ e ∷ [])) p
    still index p last active = rw (taken_at st e index last)
        (active_stays _ e _ (λ closes. cc) (rw (take-length st) at active))

    old_new : (i k : ℕ) (older newer : Stated) → slice_get stated.pairs i ≡ Some older
        → slice_get new k ≡ Some newer → older.pair ≡ newer.pair → (older.index < newer.index)
        × ¬ (IsActive (take newer.index (st ++ e ∷ [])) older.index)
    old_new i k older newer at_i at_k same =
        let (index, lt, x, y, at_x, at_y, in_x, in_y, apart) = news.only k newer at_k in
        let stated_at = are.only i older at_i in
        let within = slice_get_within st older.index stated_at.0 stated_at.1 in
        let whole : take (length st) st ≡ st = take-length st in
        let prefix : take newer.index (st ++ e ∷ []) ≡ st = ap (λ n. take n (st ++ e ∷ [])) index ∙ take-append-le (length st) st (e ∷ []) (omega arith) ∙ whole in (
          omega arith,
          λ active. apart (rw whole at (span_distinct are newer.pair.0 newer.pair.1 (length st) x y
              all at_x at_y lt (record {
                i = i;
                span = older;
                there = at_i;
                same = same;
                early = within;
                active = rw whole (rw prefix at active);
              }))),
        )

-- ==== a new `$d` of many variables, as it is kept

module _ (st : List Sentence) (s : Sentence) (symbols : List (List ℕ)) (members : List Sym)
    (w : WideDistinct) (all : symbols ≡ symbols_of st) (kind : s.kind ≡ Distinct)
    (numbers : AreNumbers st (map (λ n. n.0) members) s.symbols) where
  -- what is kept of a new `$d` is right
  wide_new : (wide : List WideDistinct) → IsNewWide st wide members w
      → IsWide (st ++ s ∷ []) symbols w
  wide_new wide new = record {
    d = s;
    there = rw new.index (get_pushed st s);
    kind = kind;
    only = λ n in_it.
        let among = Contains-permutation w.members.items (map (λ n. n.0) members) n
        (IsPermutation-sym (map (λ n. n.0) members) w.members.items new.among) in_it in
        let (u, at_u) = at_from_contains (map (λ n. n.0) members) n among in
        let (m, at_m, is) = get_unmapped (λ (n : Sym). n.0) members u n at_u in
        let (x, in_u, name) = member_name (symbols_of st) members s.symbols u m numbers at_m in
        let here : slice_get symbols m.0 ≡ Some x = rw all name in
        (x, rw is at here, contains_from_at s.symbols x (u, in_u));
    each = λ n x at in_d.
        let (u, at_u) = at_from_contains s.symbols x in_d in
        let (m, m_at, m_name) = name_member (symbols_of st) members s.symbols u x numbers at_u in
        let is : m.0 ≡ n = symbols_unique st m.0 n x m_name (rw all at (at)) in
        let there = get_mapped (λ (n : Sym). n.0) members u m m_at in
        let among = contains_from_at (map (λ n. n.0) members) n (u, there ∙ ap (λ z. Some z) is) in
        Contains-permutation (map (λ n. n.0) members) w.members.items n new.among among;
    sorted = new.sorted;
  }

  -- the list with a new one
  wide_push : (wide : List WideDistinct) → AreWide (st ++ s ∷ []) symbols wide
      → AreWide st symbols wide → IsNewWide st wide members w
      → AreWide (st ++ s ∷ []) symbols (wide ++ w ∷ [])
  wide_push wide kept before new = record {
    each = each_pushed (IsWide (st ++ s ∷ []) symbols) wide w kept.each
        (wide_new _ new);
    older = λ i v there. elim (pushed_cases wide w i v there) [
      | inl at ↦ kept.older i v at
      | inr (last, same) ↦ let h = new.older in rw (← same) (omega arith)
    ];
    latest = λ i v there. ends_longer _ wide w v.older (elim (pushed_cases wide w i v there) [
      | inl at ↦ kept.latest i v at
      | inr (last, same) ↦
          let prefix : take w.index (st ++ s ∷ []) ≡ st =
          ap (λ n. take n (st ++ s ∷ [])) new.index
          ∙ take-append-le (length st) st (s ∷ []) (omega arith) ∙ take-length st in
          rw (← same) (rw prefix new.latest)
    ]);
    passed = λ i k v u at_i at_k le lt. elim (pushed_cases wide w i v at_i) [
      | inl at ↦
          let within = slice_get_within wide i v at in
          kept.passed i k v u at (get_before wide (w ∷ []) k u (omega arith) at_k) le lt
      | inr (last, same) ↦
          let at = get_before wide (w ∷ []) k u (omega arith) at_k in
          let is = before.each k u at in
          let within = slice_get_within st u.index is.d is.there in
          let prefix : take w.index (st ++ s ∷ []) ≡ st = ap (λ n. take n (st ++ s ∷ [])) new.index
          ∙ take-append-le (length st) st (s ∷ []) (omega arith) ∙ take-length st in
          rw (← same) (omega arith, rw prefix (new.passed k u (rw same le) at))
    ];
  }

  -- A `$d` of many variables, with what is kept of it.
  pub stated_wide : (stated : AllStated) → AreStated st symbols stated
      → IsNewWide st stated.wide members w
      → AreStated (st ++ s ∷ []) symbols (record { pairs = stated.pairs; wide = stated.wide ++ w ∷ [] })
  unfolding wide_new
  stated_wide stated are new =
      let kept = stated_more _ s _ _ are in
      let is = wide_new _ new in
      record {
        only = kept.only;
        each = λ index a b d x y there kinds at_a at_b lt in_x in_y. elim
            (pushed_cases st s index d there) [
              | inl before ↦ elim (kept.each index a b d x y before kinds at_a at_b lt in_x in_y) [
                | inl span ↦ inl span
                | inr (i, v, at, in_a, in_b, le, active) ↦
                    inr (i, v, get_kept stated.wide (w ∷ []) i v at, in_a, in_b, le, active)
              ]
              | inr (last, same) ↦
                  inr (
                    length stated.wide,
                    w,
                    get_pushed stated.wide w,
                    is.each a x at_a (rw (← same) at in_x),
                    is.each b y at_b (rw (← same) at in_y),
                    omega arith,
                    rw (taken_at st s index last, new.index) (active_last st s),
                  )
            ];
        apart = kept.apart;
        wide = wide_push _ kept.wide are.wide new;
      }
