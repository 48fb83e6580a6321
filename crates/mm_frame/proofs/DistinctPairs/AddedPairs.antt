-- The pairs that a `$d` adds, and how they are linked.
use Rattle.std.proofs.Common.{◌≡◌, ◌≢◌, ℕ, suc, ◌+◌, ◌<◌, ◌≤◌, inl, inr, true, cond, ◌==◌, length}
use Rattle.std.proofs.Common.{length-append, List, [], ◌∷◌, ◌++◌, map, Option, Some, None, refl}
use Rattle.std.proofs.Common.{sym, ap, ◌∙◌, subst, arith, slice_get, option_and_then, ◌⊎◌, ◌↔◌}
use Rattle.std.proofs.Common.{Bool, false, IsTrue, take, Contains, if◌then◌else◌}
use Rattle.std.proofs.lemmas.Option.{slice_get_within}
use Rattle.std.proofs.lemmas.Bool.{cases_lt, cases_order, cases_Bool, and_parts, and_from, eqb-true}
use Rattle.std.proofs.lemmas.Bool.{eq-eqb, le-ltb, lt-ltb}
use Rattle.std.specs.Map.{update}
use Rattle.mm_frame.specs.declared.pairs.Span.{Span}
use Rattle.mm_frame.specs.Mirror.Stated.{Stated, stated_by, IsLastSpan, IsLatestStated, AreOlder}
use Rattle.mm_frame.specs.Mirror.Stated.{AreLinked, is_same_key}
use Rattle.mm_base.proofs.Lists.{get_kept, get_pushed, pushed_cases, get_before, at_from_contains}
use Rattle.mm_base.proofs.Lists.{contains_from_at}
use Rattle.mm_frame.proofs.Names.NameNumbers.{get_mapped, get_unmapped, member_name, name_member}
use Rattle.mm_frame.proofs.Names.NameNumbers.{At, StandOnce, once_pushed, symbols_unique}
use Rattle.std.proofs.Math.Seq.{take-length}
use Rattle.mm_base.specs.declared.statement.Kind.TheVariants.{Distinct}
use Rattle.mm_frame.specs.declared.number.Sym.{Sym}
use Rattle.mm_frame.specs.Sentence.{Sentence}
use Rattle.mm_frame.specs.Frame.{IsDistinct}
use Rattle.mm_frame.specs.Numbers.{symbols_of, AreNumbers, IsNumberOf}
use Rattle.mm_frame.specs.Rules.{IsMeant}
use Rattle.mm_frame.specs.declared.rule.MeaningRule.TheVariants.{M9}
use Rattle.mm_frame.specs.Mirror.Separated.{ordered_pair, stated_at, IsOld, IsFresh, IsPassed}
use Rattle.mm_frame.specs.Mirror.Separated.{ArePaired}
use Rattle.mm_frame.proofs.Rules.RepeatedSymbols.{twice_some}
use Rattle.mm_frame.proofs.Frames.FrameLaws.{distinct_other}
use Rattle.mm_frame.proofs.DistinctPairs.StatedPairs.{AreNew}

-- ==== the spans of pairs, one after the other and linked

-- after so many steps from the newest span of a pair, the next one is the last of the first spans of the pair, and those after
-- them stand at the index or later
pub record IsLeft (spans : List Span) (newest next : Option ℕ) (before steps : ℕ) : Type 0 where
  pub left : (pair : ℕ × ℕ) → IsLastSpan spans (length spans) pair newest
      → (n : ℕ) × (n + steps ≤ length spans) × IsLastSpan spans n pair next
      × ((j : ℕ) (span : Span) → n ≤ j → slice_get spans j ≡ Some span → span.pair ≡ pair → before ≤ span.index)

-- the one further back
pub step_next : (spans : List Span) (newest next : Option ℕ) (before steps : ℕ) (span : Span) → AreOlder spans → IsLeft spans newest next before steps → option_and_then (λ n. slice_get spans n) next ≡ Some span → before ≤ span.index
    → IsLeft spans newest span.older before (steps + 1)
step_next spans newest None before steps span links is found late = absurd cc
step_next spans newest (Some k) before steps span links is there late = record {
  left = λ pair last.
      let (n, within, (lt, (s, at, same), after), done) = is.left pair last in
      let e : s ≡ span = cc in
      let pair_is : span.pair ≡ pair = ap (λ (t : Span). t.pair) (sym e) ∙ same in (
        k,
        omega arith,
        subst (λ p. IsLastSpan spans k p span.older) pair_is (links k span there),
        λ j other le other_at other_is. elim (cases_order j k) [
          | inl here ↦ let f : other ≡ span = let g = subst (λ m. slice_get spans m ≡ Some other) here other_at in cc in subst (λ (t : Span). before ≤ t.index) (sym f) late
          | inr (inl less) ↦ absurd (omega arith)
          | inr (inr more) ↦ elim (cases_lt j n) [
            | inl before_n ↦ absurd (after j other more before_n other_at other_is)
            | inr past ↦ done j other past other_at other_is
          ]
        ],
      );
}

-- where there's none further back, none stands before the index
pub left_none : (spans : List Span) (newest : Option ℕ) (before steps : ℕ) → IsLeft spans newest None before steps → (pair : ℕ × ℕ) → IsLastSpan spans (length spans) pair newest → IsLatestStated (map stated_by spans) pair before None
left_none spans newest before steps is pair last j other there same =
    let (n, within, none, done) = is.left pair last in
    let (span, at, says) = get_unmapped stated_by spans j other there in
    let pair_is : span.pair ≡ pair = ap (λ (t : Stated). t.pair) says ∙ same in
    let index_is : span.index ≡ other.index = ap (λ (t : Stated). t.index) says in
    elim (cases_lt j n) [
      | inl lt ↦ absurd (none j span lt at pair_is)
      | inr le ↦ let h = done j span le at pair_is in omega arith
    ]

-- where as many steps were taken as there are spans, there's none further back
pub left_all : (spans : List Span) (newest next : Option ℕ) (before : ℕ) → IsLeft spans newest next before (length spans) → (pair : ℕ × ℕ) → IsLastSpan spans (length spans) pair newest → IsLatestStated (map stated_by spans) pair before None
left_all spans newest None before is pair last = left_none spans newest before (length spans) is pair last
left_all spans newest (Some k) before is pair last =
    let (n, within, (lt, there, after), done) = is.left pair last in
    absurd (omega arith)

-- the first one that stands before the index
pub step_found : (spans : List Span) (newest next : Option ℕ) (before steps : ℕ) (span : Span) → IsLeft spans newest next before steps → option_and_then (λ n. slice_get spans n) next ≡ Some span → span.index < before
    → (pair : ℕ × ℕ) → IsLastSpan spans (length spans) pair newest → IsLatestStated (map stated_by spans) pair before (Some span.index)
step_found spans newest None before steps span is found early pair last = absurd cc
step_found spans newest (Some k) before steps span is there early pair last =
    let (n, within, (lt, (s, at, same), after), done) = is.left pair last in
    let e : s ≡ span = cc in
    let pair_is : span.pair ≡ pair = ap (λ (t : Span). t.pair) (sym e) ∙ same in (
      k,
      stated_by span,
      get_mapped stated_by spans k span there,
      pair_is,
      refl,
      early,
      λ j other more other_at other_is.
          let (found, found_at, says) = get_unmapped stated_by spans j other other_at in
          let found_is : found.pair ≡ pair = ap (λ (t : Stated). t.pair) says ∙ other_is in
          let index_is : found.index ≡ other.index = ap (λ (t : Stated). t.index) says in
          elim (cases_lt j n) [
            | inl before_n ↦ absurd (after j found more before_n found_at found_is)
            | inr past ↦ let h = done j found past found_at found_is in omega arith
          ],
    )

-- where a look-up by a number that there may be gives nothing, none stands before the index
pub step_none : (spans : List Span) (newest next : Option ℕ) (before steps : ℕ) → IsLeft spans newest next before steps → option_and_then (λ n. slice_get spans n) next ≡ None
    → (pair : ℕ × ℕ) → IsLastSpan spans (length spans) pair newest → IsLatestStated (map stated_by spans) pair before None
step_none spans newest None before steps is found pair last = left_none spans newest before steps is pair last
step_none spans newest (Some k) before steps is found pair last =
    let (n, within, (lt, (s, at, same), after), done) = is.left pair last in
    absurd (cc)

-- ---- one span more

last_grow : (spans more : List Span) (n : ℕ) (pair : ℕ × ℕ) (o : Option ℕ) → n ≤ length spans → IsLastSpan spans n pair o → IsLastSpan (spans ++ more) n pair o
last_grow spans more n pair None le none = λ j span lt there. none j span lt (get_before spans more j span (omega arith) there)
last_grow spans more n pair (Some k) le (lt, (s, at, same), after) =
    (lt, (s, get_kept spans more k s at, same), λ j span above below there. after j span above below (get_before spans more j span (omega arith) there))

last_passed : (spans : List Span) (n : ℕ) (pair : ℕ × ℕ) (o : Option ℕ) (s : Span) → slice_get spans n ≡ Some s → s.pair ≢ pair → IsLastSpan spans n pair o → IsLastSpan spans (suc n) pair o
last_passed spans n pair None s there other none = λ j span lt at. elim (cases_lt j n) [
  | inl less ↦ none j span less at
  | inr more ↦
      let here : j ≡ n = omega arith in
      let same : s ≡ span = let f = subst (λ m. slice_get spans m ≡ Some span) here at in cc in
      λ e. other (ap (λ (t : Span). t.pair) same ∙ e)
]
last_passed spans n pair (Some k) s there other (lt, found, after) = (
  omega arith,
  found,
  λ j span above below at. elim (cases_lt j n) [
    | inl less ↦ after j span above less at
    | inr more ↦
        let here : j ≡ n = omega arith in
        let same : s ≡ span = let f = subst (λ m. slice_get spans m ≡ Some span) here at in cc in
        λ e. other (ap (λ (t : Span). t.pair) same ∙ e)
  ],
)

same_key : (p q : ℕ × ℕ) → is_same_key p q ≡ true → p ≡ q
same_key p q is =
    let (first, second) = and_parts (p.0 == q.0) (p.1 == q.1) is in
    ap (λ a. (a, p.1)) (eqb-true p.0 q.0 first) ∙ ap (λ b. (q.0, b)) (eqb-true p.1 q.1 second)

key_same : (p q : ℕ × ℕ) → p ≡ q → is_same_key p q ≡ true
key_same p q same = and_from (p.0 == q.0) (p.1 == q.1) (eq-eqb p.0 q.0 (ap (λ r. r.0) same)) (eq-eqb p.1 q.1 (ap (λ r. r.1) same))

pub linked_push : (spans : List Span) (old new : ℕ × ℕ → Option ℕ) (pair : ℕ × ℕ) (index : ℕ) → AreLinked spans old
    → ((q : ℕ × ℕ) → new q ≡ update is_same_key old pair (Some (length spans)) q)
    → AreLinked (spans ++ record { pair = pair; index = index; older = old pair } ∷ []) new
linked_push spans old new pair index linked updates =
    let s : Span = record { pair = pair; index = index; older = old pair } in
    let here = get_pushed spans s in
    let size = length-append spans (s ∷ []) in
    let next : suc (length spans) ≡ length (spans ++ s ∷ []) = omega arith in
    record {
      last = λ p. rw (← next) (elim (cases_Bool (is_same_key pair p)) [
        | inl is ↦
            let value : new p ≡ Some (length spans) = updates p ∙ ap (λ b. cond b (Some (length spans)) (old p)) is in
            rw value (omega arith, (_, here, same_key pair p is), λ j span above below at. absurd (omega arith))
        | inr is_not ↦
            let other : pair ≢ p = λ same. let t = key_same _ _ same in absurd (cc) in
            rw (updates p ∙ ap (λ b. cond b (Some (length spans)) (old p)) is_not)
            (last_passed (spans ++ s ∷ []) (length spans) p (old p) s here other (last_grow spans (s ∷ []) (length spans) p (old p) (omega arith) (linked.last p)))
      ]);
      older = λ i span there. elim (pushed_cases spans s i span there) [
        | inl before ↦
            let lt = slice_get_within spans i span before in
            last_grow spans (s ∷ []) i span.pair span.older (omega arith) (linked.older i span before)
        | inr (at_end, same) ↦ rw (← same)
            (rw at_end (last_grow spans (s ∷ []) (length spans) pair (old pair) (omega arith) (linked.last pair)))
      ];
    }

-- ==== the pairs that a `$d` adds

pub ordered_less : (a b : ℕ) → a < b → ordered_pair a b ≡ (a, b)
ordered_less a b lt = ap (λ c. if c then (a, b) else (b, a)) (lt-ltb a b lt)

pub ordered_more : (a b : ℕ) → b ≤ a → ordered_pair a b ≡ (b, a)
ordered_more a b le = ap (λ c. if c then (a, b) else (b, a)) (le-ltb a b le)

-- a pair in order is of the same two numbers
same_two : (a b c d : ℕ) → ordered_pair a b ≡ ordered_pair c d → ((a ≡ c) × (b ≡ d)) ⊎ ((a ≡ d) × (b ≡ c))
same_two a b c d same = elim (cases_lt a b) [
  | inl lt ↦ elim (cases_lt c d) [
    | inl lt' ↦ let e = sym (ordered_less a b lt) ∙ same ∙ ordered_less c d lt' in inl (ap (λ p. p.0) e, ap (λ p. p.1) e)
    | inr le' ↦ let e = sym (ordered_less a b lt) ∙ same ∙ ordered_more c d le' in inr (ap (λ p. p.0) e, ap (λ p. p.1) e)
  ]
  | inr le ↦ elim (cases_lt c d) [
    | inl lt' ↦ let e = sym (ordered_more a b le) ∙ same ∙ ordered_less c d lt' in inr (ap (λ p. p.1) e, ap (λ p. p.0) e)
    | inr le' ↦ let e = sym (ordered_more a b le) ∙ same ∙ ordered_more c d le' in inl (ap (λ p. p.1) e, ap (λ p. p.0) e)
  ]
]

same_number : (a b : Sym) → a.0 ≡ b.0 → a ≡ b
same_number a b same = ap (λ n. record { 0 = n }) same

-- one more index was looked at: one that was looked at before, or the new one
passed_cases : (i j u v : ℕ) → IsPassed i (j + 1) u v → IsPassed i j u v ⊎ ((u ≡ j) × (v ≡ i))
passed_cases i j u v (lt, inl before) = inl (lt, inl before)
passed_cases i j u v (lt, inr (is, less)) = elim (cases_lt u j) [
  | inl early ↦ inl (lt, inr (is, early))
  | inr late ↦ inr (omega arith, is)
]

passed_more : (i j u v : ℕ) → IsPassed i j u v → IsPassed i (j + 1) u v
passed_more i j u v (lt, inl before) = (lt, inl before)
passed_more i j u v (lt, inr (is, less)) = (lt, inr (is, omega arith))

passed_row : (i u v : ℕ) → IsPassed i i u v → IsPassed (i + 1) 0 u v
passed_row i u v (lt, inl before) = (lt, inl (omega arith))
passed_row i u v (lt, inr (is, less)) = (lt, inl (omega arith))

passed_in_row : (i u v : ℕ) → IsPassed (i + 1) 0 u v → IsPassed i i u v
passed_in_row i u v (lt, inl before) = elim (cases_lt v i) [
  | inl early ↦ (lt, inl early)
  | inr late ↦ (lt, inr (omega arith, omega arith))
]
passed_in_row i u v (lt, inr (is, less)) = absurd (omega arith)

-- All members before one were looked at with it.
pub paired_row : (st : List Sentence) (members : List Sym) (i : ℕ) (pairs : List (ℕ × ℕ)) → ArePaired st members i i pairs → ArePaired st members (i + 1) 0 pairs
paired_row st members i pairs are = record {
  only = λ k pair there. let (u, v, a, b, passed, at_u, at_v, is, fresh) = are.only k pair there in (u, v, a, b, passed_row i u v passed, at_u, at_v, is, fresh);
  once = are.once;
  each = λ u v a b passed. are.each u v a b (passed_in_row i u v passed);
}

module _ {st : List Sentence} {members : List Sym} {i j : ℕ} {a b : Sym}
    {pairs : List (ℕ × ℕ)} (at_j : slice_get members j ≡ Some a)
    (at_i : slice_get members i ≡ Some b) (are : ArePaired st members i j pairs) where
  -- One pair of members more, that is distinct already.
  pub paired_pass : IsOld st b.0 a.0 → ArePaired st members i (j + 1) pairs
  paired_pass old = record {
    only = λ k pair there. let (u, v, c, d, passed, at_u, at_v, is, fresh) = are.only k pair there in (u, v, c, d, passed_more i j u v passed, at_u, at_v, is, fresh);
    once = are.once;
    each = λ u v c d passed at_u at_v. elim (passed_cases i j u v passed) [
      | inl before ↦ are.each u v c d before at_u at_v
      | inr (is_j, is_i) ↦
          let first : a ≡ c = let at = subst (λ n. slice_get members n ≡ Some c) is_j at_u in cc in
          let second : b ≡ d = let at = subst (λ n. slice_get members n ≡ Some d) is_i at_v in cc in
          inr (subst (λ (n : Sym). IsOld st d.0 n.0) first (subst (λ (n : Sym). IsOld st n.0 a.0) second old))
    ];
  }

  -- One pair of members more, that isn't distinct yet.
  pub paired_push : j < i → IsFresh st b.0 a.0
      → ArePaired st members i (j + 1) (pairs ++ ordered_pair b.0 a.0 ∷ [])
  paired_push less fresh = record {
    only = λ k pair there. elim (pushed_cases pairs (ordered_pair b.0 a.0) k pair there) [
      | inl before ↦ let (u, v, c, d, passed, at_u, at_v, is, none) = are.only k pair before in (u, v, c, d, passed_more i j u v passed, at_u, at_v, is, none)
      | inr (last, is) ↦ (j, i, a, b, (less, inr (refl, omega arith)), at_j, at_i, sym is, fresh)
    ];
    once = λ stand. once_pushed pairs (ordered_pair b.0 a.0) (are.once stand) (absent stand);
    each = λ u v c d passed at_u at_v. elim (passed_cases i j u v passed) [
      | inl before ↦ elim (are.each u v c d before at_u at_v) [
        | inl (k, at) ↦ inl (k, get_kept pairs (ordered_pair b.0 a.0 ∷ []) k (ordered_pair d.0 c.0) at)
        | inr old ↦ inr old
      ]
      | inr (is_j, is_i) ↦
          let first : a ≡ c = let at = subst (λ n. slice_get members n ≡ Some c) is_j at_u in cc in
          let second : b ≡ d = let at = subst (λ n. slice_get members n ≡ Some d) is_i at_v in cc in
          inl (length pairs, get_pushed pairs (ordered_pair b.0 a.0) ∙ ap (λ (n : Sym). Some (ordered_pair n.0 a.0)) second ∙ ap (λ (n : Sym). Some (ordered_pair d.0 n.0)) first)
    ];
  }
    where
      absent : StandOnce members → ¬ (At pairs (ordered_pair b.0 a.0))
      absent stand (k, there) =
          let (u, v, c, d, passed, at_u, at_v, is, none) = are.only k (ordered_pair b.0 a.0) there in
          elim (same_two b.0 a.0 d.0 c.0 is) [
            | inl (same_b, same_a) ↦
                let e = stand i v b at_i (at_v ∙ ap (λ n. Some n) (sym (same_number b d same_b))) in
                let f = stand j u a at_j (at_u ∙ ap (λ n. Some n) (sym (same_number a c same_a))) in
                again u v passed e f
            | inr (same_b, same_a) ↦
                let e = stand i u b at_i (at_u ∙ ap (λ n. Some n) (sym (same_number b c same_b))) in
                omega arith
          ]
        where
          again : (u v : ℕ) → IsPassed i j u v → i ≡ v → j ≡ u → ⊥
          again u v (lt, inl before) e f = omega arith
          again u v (lt, inr (is, early)) e f = omega arith

module _ (st : List Sentence) (a b n : ℕ) (r : Bool) (all : n ≡ length st)
    (says : (x y : List ℕ) → IsNumberOf st x a → IsNumberOf st y b
    → (IsTrue r ↔ IsDistinct (take n st) x y)) where
  -- the test says that two symbols are distinct already
  pub is_old : r ≡ true → IsOld st a b
  is_old holds x y at_x at_y =
      rw (ap (λ m. take m st) all ∙ take-length st) at ((says x y at_x at_y).0 holds)

  pub is_fresh : r ≡ false → IsFresh st a b
  is_fresh fails x y at_x at_y distinct =
      let whole : take n st ≡ st = ap (λ m. take m st) all ∙ take-length st in
      let holds : r ≡ true = (says x y at_x at_y).1 (rw whole distinct) in
      absurd (cc)

-- no member of a `$d` that breaks no rule stands twice
members_once : (st : List Sentence) (s : Sentence) (members : List Sym) → s.kind ≡ Distinct → IsMeant st s → AreNumbers st (map (λ n. n.0) members) s.symbols → StandOnce members
members_once st s members kind meant numbers u v a at_u at_v =
    let (x, in_u, name_u) = member_name (symbols_of st) members s.symbols u a numbers at_u in
    let (y, in_v, name_v) = member_name (symbols_of st) members s.symbols v a numbers at_v in
    let same : y ≡ x = cc in
    let in_v' : slice_get s.symbols v ≡ Some x = in_v ∙ ap (λ z. Some z) same in
    let no : ¬ (u < v) = λ before. meant M9 (kind, twice_some s x u v before in_u in_v') in
    let none : ¬ (v < u) = λ after. meant M9 (kind, twice_some s x v u after in_v' in_u) in
    omega arith

-- a pair of members that weren't distinct, the one with the lesser number first
abbrev IsAdded : List Sentence → Sentence → List (List ℕ) → ℕ × ℕ → Type 0
IsAdded st s symbols p =
    (p.0 < p.1) × (x : List ℕ) × (y : List ℕ) × (slice_get symbols p.0 ≡ Some x) × (slice_get symbols p.1 ≡ Some y) × Contains s.symbols x × Contains s.symbols y × ¬ (IsDistinct st x y)

added : (st : List Sentence) (s : Sentence) (symbols : List (List ℕ)) (members : List Sym) (u v : ℕ) (a b : Sym) → symbols ≡ symbols_of st → AreNumbers st (map (λ n. n.0) members) s.symbols → StandOnce members → u < v
    → slice_get members u ≡ Some a → slice_get members v ≡ Some b → IsFresh st b.0 a.0 → IsAdded st s symbols (ordered_pair b.0 a.0)
added st s symbols members u v a b all numbers stand lt at_u at_v fresh =
    let (x, in_u, name_u) = member_name (symbols_of st) members s.symbols u a numbers at_u in
    let (y, in_v, name_v) = member_name (symbols_of st) members s.symbols v b numbers at_v in
    let has_x = contains_from_at s.symbols x (u, in_u) in
    let has_y = contains_from_at s.symbols y (v, in_v) in
    let here_x : slice_get symbols a.0 ≡ Some x = rw all name_u in
    let here_y : slice_get symbols b.0 ≡ Some y = rw all name_v in
    elim (cases_order a.0 b.0) [
      | inl is ↦
          let e = stand u v a at_u (at_v ∙ ap (λ z. Some z) (sym (same_number a b is))) in
          absurd (omega arith)
      | inr (inl less) ↦ subst (IsAdded st s symbols) (sym (ordered_more b.0 a.0 (omega arith))) (less, x, y, here_x, here_y, has_x, has_y, λ d. fresh y x name_v name_u (distinct_other st x y d))
      | inr (inr more) ↦ subst (IsAdded st s symbols) (sym (ordered_less b.0 a.0 more)) (more, y, x, here_y, here_x, has_y, has_x, fresh y x name_v name_u)
    ]

-- The pairs of all members that weren't distinct are the new pairs of the `$d`.
pub new_from_paired : (st : List Sentence) (s : Sentence) (symbols : List (List ℕ)) (members : List Sym) (pairs : List (ℕ × ℕ)) → symbols ≡ symbols_of st → s.kind ≡ Distinct → IsMeant st s
    → AreNumbers st (map (λ n. n.0) members) s.symbols → ArePaired st members (length members) 0 pairs → AreNew st s symbols (map (stated_at (length st)) pairs)
new_from_paired st s symbols members pairs all kind meant numbers are = record {
  only = λ k span there. let (pair, at, is) = get_unmapped (stated_at (length st)) pairs k span there in only k span pair at is;
  once = λ k l one other at_k at_l same.
      let (p, at_p, is_p) = get_unmapped (stated_at (length st)) pairs k one at_k in
      let (q, at_q, is_q) = get_unmapped (stated_at (length st)) pairs l other at_l in
      let e : q ≡ p = ap (λ (x : Stated). x.pair) is_q ∙ sym same ∙ ap (λ (x : Stated). x.pair) (sym is_p) in
      are.once stand k l p at_p (at_q ∙ ap (λ z. Some z) e);
  each = λ a b x y at_a at_b lt in_x in_y.
      let (u, at_u) = at_from_contains s.symbols x in_x in
      let (v, at_v) = at_from_contains s.symbols y in_y in
      let (m, m_at, m_name) = name_member (symbols_of st) members s.symbols u x numbers at_u in
      let (n, n_at, n_name) = name_member (symbols_of st) members s.symbols v y numbers at_v in
      let is_a : m.0 ≡ a = symbols_unique st m.0 a x m_name (subst (λ xs. slice_get xs a ≡ Some x) all at_a) in
      let is_b : n.0 ≡ b = symbols_unique st n.0 b y n_name (subst (λ xs. slice_get xs b ≡ Some y) all at_b) in
      elim (cases_order u v) [
        | inl is ↦
            let same : m ≡ n = cc in
            let number = ap (λ (k : Sym). k.0) same in
            absurd (omega arith)
        | inr (inl before) ↦ elim (are.each u v m n (before, inl (slice_get_within members v n n_at)) m_at n_at) [
          | inl (k, at) ↦
              let pair : ordered_pair n.0 m.0 ≡ (a, b) = ordered_more n.0 m.0 (omega arith) ∙ ap (λ p. (p, n.0)) is_a ∙ ap (λ q. (a, q)) is_b in
              inl (k, stated_at (length st) (a, b), get_mapped (stated_at (length st)) pairs k (a, b) (at ∙ ap (λ z. Some z) pair), refl)
          | inr old ↦ inr (distinct_other st y x (old y x n_name m_name))
        ]
        | inr (inr after) ↦ elim (are.each v u n m (after, inl (slice_get_within members u m m_at)) n_at m_at) [
          | inl (k, at) ↦
              let pair : ordered_pair m.0 n.0 ≡ (a, b) = ordered_less m.0 n.0 (omega arith) ∙ ap (λ p. (p, n.0)) is_a ∙ ap (λ q. (a, q)) is_b in
              inl (k, stated_at (length st) (a, b), get_mapped (stated_at (length st)) pairs k (a, b) (at ∙ ap (λ z. Some z) pair), refl)
          | inr old ↦ inr (old x y m_name n_name)
        ]
      ];
}
  where
    stand : StandOnce members
    stand = members_once st s members kind meant numbers

    only : (k : ℕ) (span : Stated) (pair : ℕ × ℕ) → slice_get pairs k ≡ Some pair → stated_at (length st) pair ≡ span → (span.index ≡ length st) × (span.pair.0 < span.pair.1) × (x : List ℕ) × (y : List ℕ)
        × (slice_get symbols span.pair.0 ≡ Some x) × (slice_get symbols span.pair.1 ≡ Some y) × Contains s.symbols x × Contains s.symbols y × ¬ (IsDistinct st x y)
    only k span pair there is =
        let (u, v, a, b, (lt, before), at_u, at_v, same, fresh) = are.only k pair there in
        let (less, x, y, at_x, at_y, in_x, in_y, none) = subst (IsAdded st s symbols) (sym same ∙ ap (λ (z : Stated). z.pair) is) (added st s symbols members u v a b all numbers stand lt at_u at_v fresh) in
        (ap (λ (z : Stated). z.index) (sym is), less, x, y, at_x, at_y, in_x, in_y, none)
