-- Which symbols have a shape, token by token, and the marks that tell it. On this file rests the
-- contract of `has_shape`.
use Rattle.std.proofs.Common.{◌≡◌, ℕ, suc, ◌<◌, List, [], ◌∷◌, ◌++◌, map, length, slice_get}
use Rattle.std.proofs.Common.{codes}
use Rattle.std.proofs.Common.{Bool, true, false, ◌||◌, ◌&&◌, Some, ◌⊎◌, inl, inr, refl, sym}
use Rattle.std.proofs.Common.{ap, subst, ◌∙◌}
use Rattle.std.proofs.Common.{append-nil, append_assoc, arith, drop, take, get_or, ◌+◌, ◌-◌, ◌≤◌}
use Rattle.std.proofs.Common.{None}
use Rattle.std.proofs.lemmas.List.{drop_more, drop_all, length-map, map-append}
use Rattle.std.specs.Bool.{Decides}
use Rattle.std.specs.Str.{bytes_eq}
use denote.Ref.{Bor}
use Rattle.std.proofs.lemmas.Bool.Decides.{Decides-and, Decides-or, Decides-like}
use Rattle.std.proofs.lemmas.Slice.Eq.{bytes_eq-Decides}
use Rattle.std.proofs.lemmas.Option.{same_Some, none-some}
use Rattle.mm_base.proofs.Lists.{get_within, last_cut, nil_append, one_parting, take_next}
use Rattle.mm_code.specs.Layout.{texts}
use Rattle.mm_find.specs.Shape.{HaveShape, StandsFor, StandsForOne}
use Rattle.mm_find.specs.Mirror.Marks.{AreMarks, spread, shifted, stands_for}

abbrev Symbols : Type 0
Symbols = List (List ℕ)

-- ---- the last token of a shape

-- the shape without it, and what it stands for
split_last : (shape : Symbols) (token : List ℕ) (symbols : Symbols)
    → HaveShape (shape ++ token ∷ []) symbols
    → (before : Symbols) × (own : Symbols) × (symbols ≡ before ++ own) × HaveShape shape before
    × StandsFor token own
split_last [] token symbols (own, rest, is, stands, none) =
    ([], own, is ∙ ap (λ (r : Symbols). own ++ r) none ∙ append-nil own, refl, stands)
split_last (t ∷ shape) token symbols (own, rest, is, stands, has) =
    let (before, last, cut, shaped, ends) = split_last shape token rest has in (
      own ++ before,
      last,
      is ∙ ap (λ (r : Symbols). own ++ r) cut ∙ sym (append_assoc own before last),
      (own, before, refl, stands, shaped),
      ends,
    )

join_last : (shape : Symbols) (token : List ℕ) (before own : Symbols) → HaveShape shape before
    → StandsFor token own → HaveShape (shape ++ token ∷ []) (before ++ own)
join_last [] token before own none stands =
    (own, [], ap (λ (r : Symbols). r ++ own) none ∙ sym (append-nil own), stands, refl)
join_last (t ∷ shape) token before own (first, rest, is, stands, has) ends = (
  first,
  rest ++ own,
  ap (λ (r : Symbols). r ++ own) is ∙ append_assoc first rest own,
  stands,
  join_last shape token rest own has ends,
)

-- ---- a `$*`

abbrev any : List ℕ
any = codes "$*"

-- of no symbols
none_left : (before own : Symbols) → [] ≡ before ++ own → before ≡ []
none_left [] own e = refl
none_left (x ∷ before) own e = absurd cc

any_none : (shape : Symbols) → HaveShape (shape ++ any ∷ []) [] → HaveShape shape []
any_none shape has =
    let (before, own, cut, shaped, stands) = split_last shape any [] has in
    subst (HaveShape shape) (none_left before own cut) shaped

any_at_once : (shape symbols : Symbols) → HaveShape shape symbols
    → HaveShape (shape ++ any ∷ []) symbols
any_at_once shape symbols has =
    subst (HaveShape (shape ++ any ∷ [])) (append-nil symbols)
    (join_last shape any symbols [] has (inl refl))

-- of one symbol more: without it, or at once
any_parted : (shape seen : Symbols) (x : List ℕ) (before own : Symbols)
    → seen ++ x ∷ [] ≡ before ++ own → HaveShape shape before
    → HaveShape (shape ++ any ∷ []) seen ⊎ HaveShape shape (seen ++ x ∷ [])
any_parted shape seen x before [] cut shaped =
    inr (subst (HaveShape shape) (sym (cut ∙ append-nil before)) shaped)
any_parted shape seen x before (y ∷ own) cut shaped = elim (last_cut seen x before y own cut) [
  | inl (mid, is) ↦ inl (subst (HaveShape (shape ++ any ∷ [])) (sym is)
      (join_last shape any before (y ∷ mid) shaped (inl refl)))
  | inr (same, e) ↦ inl (subst (HaveShape (shape ++ any ∷ [])) same
      (any_at_once shape before shaped))
]

any_before : (shape seen : Symbols) (x : List ℕ)
    → HaveShape (shape ++ any ∷ []) (seen ++ x ∷ [])
    → HaveShape (shape ++ any ∷ []) seen ⊎ HaveShape shape (seen ++ x ∷ [])
any_before shape seen x has =
    let (before, own, cut, shaped, stands) = split_last shape any (seen ++ x ∷ []) has in
    any_parted shape seen x before own cut shaped

any_longer : (shape seen : Symbols) (x : List ℕ) → HaveShape (shape ++ any ∷ []) seen
    → HaveShape (shape ++ any ∷ []) (seen ++ x ∷ [])
any_longer shape seen x has =
    let (before, own, cut, shaped, stands) = split_last shape any seen has in
    subst (HaveShape (shape ++ any ∷ []))
    (sym (ap (λ (r : Symbols). r ++ x ∷ []) cut ∙ append_assoc before own (x ∷ [])))
    (join_last shape any before (own ++ x ∷ []) shaped (inl refl))

any_after : (shape seen : Symbols) (x : List ℕ)
    → HaveShape (shape ++ any ∷ []) seen ⊎ HaveShape shape (seen ++ x ∷ [])
    → HaveShape (shape ++ any ∷ []) (seen ++ x ∷ [])
any_after shape seen x (inl has) = any_longer shape seen x has
any_after shape seen x (inr has) = any_at_once shape (seen ++ x ∷ []) has

-- ---- another token

pub stands_for_one : (token symbol : List ℕ) → Decides (stands_for token symbol)
    (StandsForOne token symbol)
stands_for_one token symbol =
    Decides-or (bytes_eq token (codes "$?")) (bytes_eq token symbol)
    (bytes_eq-Decides token (codes "$?")) (bytes_eq-Decides token symbol)

module _ (shape : Symbols) (token : List ℕ) (other : ¬ (token ≡ any)) where
  -- it stands for one symbol
  one_symbol : (own : Symbols) → StandsFor token own
      → (symbol : List ℕ) × (own ≡ symbol ∷ []) × StandsForOne token symbol
  one_symbol own (inl same) = absurd (other same)
  one_symbol own (inr one) = one

  one_none : HaveShape (shape ++ token ∷ []) [] → ⊥
  one_none has =
      let (before, own, cut, shaped, stands) = split_last shape token [] has in
      let (symbol, is, one) = one_symbol own stands in
      nil_append before symbol [] (cut ∙ ap (λ (r : Symbols). before ++ r) is)

  one_before : (seen : Symbols) (x : List ℕ) → HaveShape (shape ++ token ∷ []) (seen ++ x ∷ [])
      → HaveShape shape seen × StandsForOne token x
  one_before seen x has =
      let (before, own, cut, shaped, stands) = split_last shape token (seen ++ x ∷ []) has in
      let (symbol, is, one) = one_symbol own stands in
      let (same, last) = one_parting seen (x ∷ []) before (symbol ∷ [])
      (cut ∙ ap (λ (r : Symbols). before ++ r) is) refl in
      let equal : symbol ≡ x = cc in
      (subst (HaveShape shape) (sym same) shaped, subst (StandsForOne token) equal one)

  one_after : (seen : Symbols) (x : List ℕ) → HaveShape shape seen × StandsForOne token x
      → HaveShape (shape ++ token ∷ []) (seen ++ x ∷ [])
  one_after seen x (has, one) = join_last shape token seen (x ∷ []) has (inr (x, refl, one))

-- ---- marks

-- of the empty shape
past_marks : (seen : Symbols) (x : List ℕ) (xs : List (Bor (List ℕ)))
    → AreMarks [] (seen ++ x ∷ []) (texts xs) (false ∷ map (λ symbol. false) xs)
past_marks seen x [] = (((λ h. absurd cc), (λ e. absurd (nil_append seen x [] (sym e)))), refl)
past_marks seen x (y ∷ xs) = (
  ((λ h. absurd cc), (λ e. absurd (nil_append seen x [] (sym e)))),
  past_marks
      (seen ++ x ∷ []) y.now xs,
)

pub first_are_marks : (xs : List (Bor (List ℕ)))
    → AreMarks [] [] (texts xs) (true ∷ map (λ symbol. false) xs)
first_are_marks [] = (((λ h. refl), (λ e. refl)), refl)
first_are_marks (x ∷ xs) = (((λ h. refl), (λ e. refl)), past_marks [] x.now xs)

-- with a `$*` more, after marks that told whether there was one
spread_on : (shape seen left : Symbols) (marks : List Bool) (met : Bool) (P : Type 0)
    → Decides met P
    → (HaveShape (shape ++ any ∷ []) seen → P ⊎ HaveShape shape seen)
    → (P ⊎ HaveShape shape seen → HaveShape (shape ++ any ∷ []) seen)
    → AreMarks shape seen left marks → AreMarks (shape ++ any ∷ []) seen left (spread met marks)
spread_on shape seen left [] met P told back forth marks = absurd marks
spread_on shape seen [] (mark ∷ marks) met P told back forth (is, none) = (
  Decides-like (met || mark) forth back (Decides-or met mark told is),
  ap (spread (met || mark)) none,
)
spread_on shape seen (x ∷ left) (mark ∷ marks) met P told back forth (is, rest) =
    let here : Decides (met || mark) (HaveShape (shape ++ any ∷ []) seen) =
    Decides-like (met || mark) forth back (Decides-or met mark told is) in (
      here,
      spread_on shape (seen ++ x ∷ []) left marks (met || mark)
          (HaveShape (shape ++ any ∷ []) seen) here (any_before shape seen x)
          (any_after shape seen x) rest,
    )

pub spread_are_marks : (shape left : Symbols) (marks : List Bool) → AreMarks shape [] left marks
    → AreMarks (shape ++ any ∷ []) [] left (spread false marks)
spread_are_marks shape left marks are =
    spread_on shape [] left marks false ⊥ ((λ h. absurd cc), (λ h. absurd h))
    (λ has. inr (any_none shape has)) (λ h. at_once h) are
  where
    at_once : ⊥ ⊎ HaveShape shape [] → HaveShape (shape ++ any ∷ []) []
    at_once (inl never) = absurd never
    at_once (inr has) = any_at_once shape [] has

-- with another token more
module _ (shape : Symbols) (token : List ℕ) (other : ¬ (token ≡ any)) where
  shifted_on : (seen left : Symbols) (marks : List Bool) (mark : Bool)
      → Decides mark (HaveShape (shape ++ token ∷ []) seen) → AreMarks shape seen left marks
      → AreMarks (shape ++ token ∷ []) seen left (mark ∷ shifted token left marks)
  shifted_on seen left [] mark told marks = absurd marks
  shifted_on seen [] (m ∷ marks) mark told are = (told, refl)
  shifted_on seen (x ∷ left) (m ∷ marks) mark told (is, rest) = (
    told,
    shifted_on (seen ++ x ∷ []) left marks (m && stands_for token x)
        (Decides-like (m && stands_for token x) (one_after shape token other seen x)
        (one_before shape token other seen x)
        (Decides-and m (stands_for token x) is (stands_for_one token x)))
        rest,
  )

  pub shifted_are_marks : (left : Symbols) (marks : List Bool) → AreMarks shape [] left marks
      → AreMarks (shape ++ token ∷ []) [] left (false ∷ shifted token left marks)
  shifted_are_marks left marks are =
      shifted_on [] left marks false (
        (λ h. absurd cc),
        (λ has. absurd (one_none shape token other has)),
      ) are

-- there is one more than symbols
marks_count : (shape seen left : Symbols) (marks : List Bool) → AreMarks shape seen left marks
    → length marks ≡ length left + 1
marks_count shape seen left [] are = absurd are
marks_count shape seen [] (mark ∷ marks) (is, none) = ap (λ (m : List Bool). length (mark ∷ m)) none
marks_count shape seen (x ∷ left) (mark ∷ marks) (is, rest) =
    let count = marks_count shape (seen ++ x ∷ []) left marks rest in omega (arith, count)

pub marks_long : (shape : Symbols) (symbols : List (Bor (List ℕ))) (marks : List Bool)
    → AreMarks shape [] (texts symbols) marks → length symbols < length marks
marks_long shape symbols marks are =
    omega (
      arith,
      marks_count shape [] (texts symbols) marks are,
      length-map symbols
          (λ (t : Bor (List ℕ)). t.now),
    )

-- the last one tells of all symbols
last_tells : (shape seen left : Symbols) (marks : List Bool) → AreMarks shape seen left marks
    → (mark : Bool) → slice_get marks (length left) ≡ Some mark
    → Decides mark (HaveShape shape (seen ++ left))
last_tells shape seen left [] are mark there = absurd are
last_tells shape seen [] (m ∷ marks) (is, none) mark there =
    let same : m ≡ mark = same_Some m mark there in
    subst (λ (b : Bool). Decides b (HaveShape shape (seen ++ []))) same
    (subst (λ (ss : Symbols). Decides m (HaveShape shape ss)) (sym (append-nil seen)) is)
last_tells shape seen (x ∷ left) (m ∷ marks) (is, rest) mark there =
    subst (λ (ss : Symbols). Decides mark (HaveShape shape ss)) (append_assoc seen (x ∷ []) left)
    (last_tells shape (seen ++ x ∷ []) left marks rest mark there)

last_index : (shape left : Symbols) (marks : List Bool) → AreMarks shape [] left marks
    → length marks - 1 ≡ length left
last_index shape left marks are = let count = marks_count shape [] left marks are in omega
    (arith, count)

pub told_some : (shape left : Symbols) (marks : List Bool) → AreMarks shape [] left marks
    → (mark : Bool) → slice_get marks (length marks - 1) ≡ Some mark
    → Decides mark (HaveShape shape left)
told_some shape left marks are mark there =
    last_tells shape [] left marks are mark
    (subst (λ (n : ℕ). slice_get marks n ≡ Some mark) (last_index shape left marks are) there)

pub told_none : (shape left : Symbols) (marks : List Bool) → AreMarks shape [] left marks
    → slice_get marks (length marks - 1) ≡ None → ⊥
told_none shape left marks are none =
    let count = marks_count shape [] left marks are in
    let less : length marks - 1 < length marks = omega (arith, count) in
    let (mark, there) = get_within marks (length marks - 1) less in
    none-some mark (sym none ∙ there)

-- ---- marks, one after the other

pub spread_next : (marks : List Bool) (i : ℕ) (d met met_now : Bool) (so_far next all : List Bool)
    → met_now ≡ (met || get_or marks i d) → next ≡ so_far ++ met_now ∷ [] → i < length marks
    → so_far ++ spread met (drop i marks) ≡ all → next ++ spread met_now (drop (i + 1) marks) ≡ all
spread_next marks i d met met_now so_far next all is pushed less rest =
    ap (λ (n : List Bool). n ++ spread met_now (drop (i + 1) marks)) pushed
    ∙ append_assoc so_far (met_now ∷ []) (spread met_now (drop (i + 1) marks))
    ∙ ap (λ (b : Bool). so_far ++ b ∷ spread b (drop (i + 1) marks)) is
    ∙ ap (λ (m : List Bool). so_far ++ spread met m) (sym (drop_more marks i d less)) ∙ rest

pub spread_all : (marks : List Bool) (i : ℕ) (met : Bool) (so_far all : List Bool)
    → length marks ≤ i
    → so_far ++ spread met (drop i marks) ≡ all → so_far ≡ all
spread_all marks i met so_far all past is =
    sym (append-nil so_far) ∙ rw (drop_all i marks past) at is

pub shifted_next : (token : List ℕ) (symbols : List (Bor (List ℕ))) (marks : List Bool) (i : ℕ)
    (e : Bor (List ℕ)) (d mark : Bool) (so_far next all : List Bool)
    → mark ≡ (get_or marks i d && stands_for token (get_or symbols i e).now)
    → next ≡ so_far ++ mark ∷ [] → i < length symbols → length symbols < length marks
    → so_far ++ shifted token (texts (drop i symbols)) (drop i marks) ≡ all
    → next ++ shifted token (texts (drop (i + 1) symbols)) (drop (i + 1) marks) ≡ all
shifted_next token symbols marks i e d mark so_far next all is pushed less long rest =
    let others : List Bool = shifted token (texts (drop (i + 1) symbols)) (drop (i + 1) marks) in
    ap (λ (n : List Bool). n ++ others) pushed
    ∙ append_assoc so_far (mark ∷ []) others
    ∙ ap (λ (b : Bool). so_far ++ b ∷ others) is
    ∙ ap (λ (ms : List Bool). so_far ++ shifted token (texts
    (get_or symbols i e ∷ drop (i + 1) symbols)) ms)
    (sym (drop_more marks i d (omega arith)))
    ∙ ap (λ (ss : List (Bor (List ℕ))). so_far ++ shifted token (texts ss) (drop i marks))
    (sym (drop_more symbols i e less))
    ∙ rest

pub first_next : (symbols : List (Bor (List ℕ))) (i : ℕ) (so_far next : List Bool)
    → i < length symbols
    → so_far ≡ true ∷ map (λ symbol. false) (take i symbols) → next ≡ so_far ++ false ∷ []
    → next ≡ true ∷ map (λ symbol. false) (take (i + 1) symbols)
first_next symbols i so_far next less is pushed =
    let (x, there) = get_within symbols i less in
    let one : suc i ≡ i + 1 = omega arith in
    let longer : take (i + 1) symbols ≡ take i symbols ++ x ∷ [] =
    subst (λ (n : ℕ). take n symbols ≡ take i symbols ++ x ∷ []) one
    (take_next symbols i x there) in
    pushed ∙ ap (λ (s : List Bool). s ++ false ∷ []) is
    ∙ ap (λ (s : List Bool). true ∷ s)
    (sym (map-append (λ (symbol : Bor (List ℕ)). false) (take i symbols) (x ∷ [])))
    ∙ ap (λ (ss : List (Bor (List ℕ))). true ∷ map (λ (symbol : Bor (List ℕ)). false) ss)
    (sym longer)

pub shifted_all : (token : List ℕ) (symbols : List (Bor (List ℕ))) (marks : List Bool) (i : ℕ)
    (so_far all : List Bool) → length symbols ≤ i
    → so_far ++ shifted token (texts (drop i symbols)) (drop i marks) ≡ all → so_far ≡ all
shifted_all token symbols marks i so_far all past is =
    sym (append-nil so_far) ∙ rw (drop_all i symbols past) at is
