-- Ranges of a list that grows at its end or is cut there: the expressions of a store in its
-- buffer.
use Rattle.std.proofs.Common.{◌≡◌, ℕ, ◌<◌, ◌+◌, ◌-◌, List, [], ◌∷◌, ◌++◌, map, take, drop, length}
use Rattle.std.proofs.Common.{get_or, option_map, Some, refl, ap, ◌∙◌, arith, zero, suc, ◌≤◌}
use Rattle.std.proofs.Common.{Result, Ok, Err, sym, subst, slice_get, slice_range, OnOk, OnErr}
use Rattle.std.proofs.Common.{◌↔◌, Bool, IsTrue}
use Rattle.std.proofs.lemmas.List.{take-map, length-map, map-append, append_assoc, drop-map}
use Rattle.std.proofs.lemmas.List.{drop-drop, take_at, drop_at, length-drop, length-take, take_all}
use Rattle.std.proofs.lemmas.List.{drop-take, take-take, length-append, length-take-le}
use Rattle.std.proofs.Math.Seq.{take-append-add}
use Rattle.std.proofs.lemmas.Option.{slice_get-map, slice_get_read, slice_get-get_or}
use Rattle.std.proofs.lemmas.Option.{get_or_from_slice_get, none-some, same_Some}
use Rattle.mm_step.proofs.ByNumbers.NumberedSymbols.{drop_get, no_piece, said_appended}
use Rattle.mm_frame.specs.declared.number.Sym.{Sym}
use Rattle.mm_step.specs.declared.entry.Entry.{Entry}
use Rattle.mm_step.specs.Stores.{numbers_in, said_by, all_said_by}
use Rattle.mm_frame.specs.declared.piece.Piece.{Piece}
use Rattle.mm_step.specs.Mirror.Buffer.{parts_of, IsPart, AreParts}
use Rattle.mm_base.proofs.Lists.{get_from_front}
use Rattle.mm_frame.proofs.BookLists.GrownLists.{slice_left}

-- ==== elements of a list that a contract sees as something else

module _ {X Y : Type 0} (f : X → Y) (xs : List X) (i : ℕ) (x : X) (y : Y) where
  -- what is read at an index is seen as what stands there
  pub read-at : i < length (map f xs) → x ≡ get_or xs i x → slice_get (map f xs) i ≡ Some y
      → f x ≡ y
  read-at within read there =
      let at = slice_get-map f xs i in
      let room : i < length xs = omega (arith, length-map xs f) in
      let is = slice_get_read xs (length xs) i x refl room read in
      cc

  -- what stands last is seen as what is read there
  pub read-last : 0 < length (map f xs) → i ≡ length xs - 1 → x ≡ get_or xs i x
      → slice_get (map f xs) (length (map f xs) - 1) ≡ Some y → f x ≡ y
  read-last some last read there =
      let is : length (map f xs) - 1 ≡ i = omega (arith, length-map xs f) in
      let at : slice_get (map f xs) i ≡ Some y = cc in
      read-at (omega (arith, length-map xs f)) read at

-- a prefix of the list is seen as that prefix
pub take-seen : {X Y : Type 0} (f : X → Y) (xs : List X) (m k : ℕ) → m ≡ length xs - k → map f (take m xs) ≡ take (length (map f xs) - k) (map f xs)
take-seen f xs m k is =
    let cut = take-map f m xs in
    let number : m ≡ length (map f xs) - k = omega (arith, length-map xs f) in
    cc

-- an element more at the end is seen as what it is
pub push-seen : {X Y : Type 0} (f : X → Y) (xs : List X) (x : X) (y : Y) → f x ≡ y → map f (xs ++ x ∷ []) ≡ map f xs ++ y ∷ []
push-seen f xs x y is =
    let whole = map-append f xs (x ∷ []) in
    cc

-- what is read behind a base is seen as what stands there
read-behind : {X Y : Type 0} (f : X → Y) (xs : List X) (base i : ℕ) (d : X) (e : Y) → base + i < length xs
    → get_or (drop base (map f xs)) i e ≡ f (get_or xs (base + i) d)
read-behind f xs base i d e less =
    let there : slice_get (drop base (map f xs)) i ≡ Some (f (get_or xs (base + i) d)) =
    drop_get (map f xs) base i ∙ slice_get-map f xs (base + i) ∙ ap (option_map f) (slice_get-get_or xs (base + i) d less) in
    get_or_from_slice_get (drop base (map f xs)) i (f (get_or xs (base + i) d)) e there

pub ruleset row_steps = (take-seen, read-last, push-seen)

-- ==== ranges of a list that grows at its end, or is cut there

-- a part of a prefix, from an index within it on
pub cut-before : {X : Type 0} (n i : ℕ) (xs : List X) → i ≤ n → drop i (take n xs) ≡ take (n - i) (drop i xs)
cut-before {X} n i xs prefix =
    let whole : i + (n - i) ≡ n = omega arith in
    subst (λ (k : ℕ). drop i (take k xs) ≡ take (n - i) (drop i xs)) whole (drop-take i (n - i) xs)

-- a range of a list stays as it is where the list is cut behind it
pub part-take : {X : Type 0} (n : ℕ) (xs : List X) (i j : ℕ) → i ≤ j → j ≤ n → slice_range (take n xs) i j ≡ slice_range xs i j
part-take n xs i j order within =
    ap (take (j - i)) (cut-before n i xs (omega arith)) ∙ take-take (j - i) (n - i) (drop i xs) (omega arith)

-- what is appended is the range behind what there was
pub part-new : {X : Type 0} (xs ys : List X) (n : ℕ) → n ≡ length (xs ++ ys) → slice_range (xs ++ ys) (length xs) n ≡ ys
part-new xs ys n is =
    let room : length ys ≤ n - length xs = omega (arith, length-append xs ys) in
    ap (take (n - length xs)) (drop_at xs ys (length xs) refl) ∙ take_all (n - length xs) ys room

-- entries name what they did where the buffer grows
pub parts-grow : (xs ys : List Sym) (entries : List Entry) → AreParts (length xs) entries → parts_of (xs ++ ys) entries ≡ parts_of xs entries
parts-grow xs ys [] h = refl
parts-grow xs ys (e ∷ entries) h =
    let first = ap numbers_in (slice_left xs ys e.start e.end (h 0 e refl).order (h 0 e refl).within) in
    let others = parts-grow xs ys entries (λ i a at. h (suc i) a at) in
    cc

-- entries name what they did where the buffer is cut behind them
pub parts-cut : (n : ℕ) (xs : List Sym) (entries : List Entry) → AreParts n entries → parts_of (take n xs) entries ≡ parts_of xs entries
parts-cut n xs [] h = refl
parts-cut n xs (e ∷ entries) h =
    let first = ap numbers_in (part-take n xs e.start e.end (h 0 e refl).order (h 0 e refl).within) in
    let others = parts-cut n xs entries (λ i a at. h (suc i) a at) in
    cc

-- what stands before an index stands before a later one
pub within-later : (m n : ℕ) (entries : List Entry) → m ≤ n → AreParts m entries → AreParts n entries
within-later m n entries le h i e at =
    let here = h i e at in
    record { order = here.order; within = omega (arith, here.within) }

-- what is pushed on the stack, and what was there, are what the entries name then
pub parts-push : (xs ys : List Sym) (entries : List Entry) (e : Entry) → AreParts (length xs) entries → e.start ≡ length xs → e.end ≡ length (xs ++ ys)
    → parts_of (xs ++ ys) (entries ++ e ∷ []) ≡ parts_of xs entries ++ numbers_in ys ∷ []
parts-push xs ys entries e h from to =
    let whole = map-append (λ (a : Entry). numbers_in (slice_range (xs ++ ys) a.start a.end)) entries (e ∷ []) in
    let prefix = parts-grow xs ys entries h in
    let new = part-new xs ys e.end to in
    let is : slice_range (xs ++ ys) e.start e.end ≡ ys = rw from new in
    let last = ap numbers_in is in
    cc

-- what stands behind a prefix is put there
pub put-behind : {X : Type 0} (xs ys zs : List X) (n : ℕ) → length xs + length ys ≡ n → take n (xs ++ (ys ++ zs)) ≡ xs ++ ys
put-behind xs ys zs n is =
    ap (take n) (sym (append_assoc xs ys zs)) ∙ take_at (xs ++ ys) zs n (omega (arith, length-append xs ys))

-- a range from its second element on
behind-first : {X : Type 0} (k : ℕ) (xs : List X) (i j first : ℕ) → j - i ≡ k → (i < j → first ≡ i + 1) → (j ≤ i → first ≡ j) → slice_range xs first j ≡ drop 1 (slice_range xs i j)
behind-first zero xs i j first size behind none =
    let no : j - first ≡ 0 = omega (arith, none (omega arith)) in
    ap (λ (n : ℕ). take n (drop first xs)) no ∙ sym (ap (λ (n : ℕ). drop 1 (take n (drop i xs))) size)
behind-first (suc k) xs i j first size behind none =
    let is : first ≡ i + 1 = behind (omega arith) in
    let less : j - first ≡ k = omega (arith, is) in
    let whole : j - i ≡ 1 + k = omega (arith, size) in
    let rest : drop 1 (drop i xs) ≡ drop first xs = drop-drop 1 i xs ∙ ap (λ (n : ℕ). drop n xs) (omega (arith, is)) in
    ap (λ (n : ℕ). take n (drop first xs)) less ∙ ap (take k) (sym rest) ∙ sym (drop-take 1 k (drop i xs)) ∙ ap (λ (n : ℕ). drop 1 (take n (drop i xs))) (sym whole)

-- the value of an entry is what follows its first symbol
pub value-part : (xs : List Sym) (entries : List Entry) (base i first : ℕ) (d : Entry) → base + i < length entries
    → ((get_or entries (base + i) d).start < (get_or entries (base + i) d).end → first ≡ (get_or entries (base + i) d).start + 1)
    → ((get_or entries (base + i) d).end ≤ (get_or entries (base + i) d).start → first ≡ (get_or entries (base + i) d).end)
    → numbers_in (slice_range xs first (get_or entries (base + i) d).end) ≡ drop 1 (get_or (drop base (parts_of xs entries)) i [])
value-part xs entries base i first d less behind none =
    let e = get_or entries (base + i) d in
    let seen : Entry → List ℕ = λ a. numbers_in (slice_range xs a.start a.end) in
    let whole = slice_range xs e.start e.end in
    let read = read-behind seen entries base i d [] less in
    ap numbers_in (behind-first (e.end - e.start) xs e.start e.end first refl behind none) ∙ sym (drop-map (λ (s : Sym). s.0) 1 whole) ∙ ap (drop 1) (sym read)

-- those of a prefix are within what all are within
pub within-prefix : (m base : ℕ) (entries : List Entry) → AreParts m entries → AreParts m (take base entries)
within-prefix m base entries h i e at = h i e (get_from_front entries base i e at)

-- and so are these and one more that is
pub within-more : (m : ℕ) (entries : List Entry) (e : Entry) → AreParts m entries → IsPart m e → AreParts m (entries ++ e ∷ [])
within-more m [] e h is zero a at = subst (IsPart m) (same_Some e a at) is
within-more m [] e h is (suc i) a at = absurd (none-some a at)
within-more m (x ∷ entries) e h is zero a at = h 0 a at
within-more m (x ∷ entries) e h is (suc i) a at = within-more m entries e (λ j b there. h (suc j) b there) is i a at

-- and so are those that are left where one is put in the place of the last ones, refused too
pub within-put : {T E : Type 0} (m base : ℕ) (result : Result T E) (old new : List Entry) (e : Entry) → OnOk result (new ≡ take base old ++ e ∷ []) → OnErr result (new ≡ old) → AreParts m old → IsPart m e → AreParts m new
within-put m base (Ok x) old new e put same h is = subst (AreParts m) (sym put) (within-more m (take base old) e (within-prefix m base old h) is)
within-put m base (Err x) old new e put same h is = subst (AreParts m) (sym same) h

-- ---- a conclusion at the end of the buffer

-- a prefix and what stands behind it are a prefix of the stack and the conclusion
pub concluded : (xs new more : List Sym) (entries : List Entry) (base start : ℕ) (whole : List ℕ) → AreParts (length xs) entries → start ≡ length xs
    → new ≡ xs ++ more → numbers_in more ≡ whole
    → take base (parts_of new entries) ++ numbers_in (drop start new) ∷ [] ≡ take base (parts_of xs entries) ++ whole ∷ []
concluded xs new more entries base start whole h from is said =
    let grown : parts_of new entries ≡ parts_of xs entries = ap (λ l. parts_of l entries) is ∙ parts-grow xs more entries h in
    let made : numbers_in (drop start new) ≡ whole = ap (λ l. numbers_in (drop start l)) is ∙ ap numbers_in (drop_at xs more start (sym from)) ∙ said in
    ap (λ l. take base l ++ numbers_in (drop start new) ∷ []) grown ∙ ap (λ n. take base (parts_of xs entries) ++ n ∷ []) made

-- the entry of what stands at the end, behind a prefix of the stack, names the conclusion
pub concluded-entry : (xs new more : List Sym) (entries : List Entry) (base : ℕ) (e : Entry) (whole : List ℕ) → AreParts (length xs) entries
    → e.start ≡ length xs → e.end ≡ length new → new ≡ xs ++ more → numbers_in more ≡ whole
    → parts_of new (take base entries ++ e ∷ []) ≡ take base (parts_of xs entries) ++ whole ∷ []
concluded-entry xs new more entries base e whole h from to is said =
    ap (λ l. parts_of l (take base entries ++ e ∷ [])) is
    ∙ parts-push xs more (take base entries) e (within-prefix (length xs) base entries h) from (to ∙ ap length is)
    ∙ ap (λ l. l ++ numbers_in more ∷ []) (sym (take-map (λ (a : Entry). numbers_in (slice_range xs a.start a.end)) base entries))
    ∙ ap (λ n. take base (parts_of xs entries) ++ n ∷ []) said

-- one piece more is said
pub pieces-step : (xs symbols new more next : List Sym) (entries : List Entry) (base i : ℕ) (pieces : List Piece) → AreParts (length xs) entries → i < length pieces
    → symbols ≡ xs ++ more → numbers_in more ≡ all_said_by (drop base (parts_of xs entries)) (take i pieces)
    → new ≡ symbols ++ next → numbers_in next ≡ said_by (drop base (parts_of symbols entries)) (get_or pieces i no_piece)
    → (new ≡ xs ++ (more ++ next)) × (numbers_in (more ++ next) ≡ all_said_by (drop base (parts_of xs entries)) (take (i + 1) pieces))
pieces-step xs symbols new more next entries base i pieces h less is said grown piece =
    let same : parts_of symbols entries ≡ parts_of xs entries = ap (λ l. parts_of l entries) is ∙ parts-grow xs more entries h in
    let here : numbers_in next ≡ said_by (drop base (parts_of xs entries)) (get_or pieces i no_piece) = piece ∙ ap (λ l. said_by (drop base l) (get_or pieces i no_piece)) same in (
      grown ∙ ap (λ l. l ++ next) is ∙ append_assoc xs more next,
      said_appended (said_by (drop base (parts_of xs entries))) pieces i no_piece (numbers_in more) (numbers_in (more ++ next)) less said
          (map-append (λ (s : Sym). s.0) more next ∙ ap (λ l. numbers_in more ++ l) here),
    )

-- how long the buffer is where its end was moved down
pub moved-length : (n start : ℕ) (xs : List Sym) → n ≤ start → start ≤ length xs → length (take n xs ++ drop start xs) ≡ n + (length xs - start)
moved-length n start xs order inside =
    omega (arith, length-append (take n xs) (drop start xs), length-take n xs, length-drop start xs)

-- the entry of a conclusion that was moved down, behind a prefix of the stack, names it
pub moved-entry : (n start : ℕ) (xs new : List Sym) (entries : List Entry) (base : ℕ) (e : Entry) → AreParts n (take base entries) → n ≤ length xs → start ≤ length xs
    → e.start ≡ n → e.end ≡ n + (length xs - start) → new ≡ take n xs ++ drop start xs
    → parts_of new (take base entries ++ e ∷ []) ≡ take base (parts_of xs entries) ++ numbers_in (drop start xs) ∷ []
moved-entry n start xs new entries base e h within inside from to is =
    let prefix = take n xs in
    let more = drop start xs in
    let size : length prefix ≡ n = omega (arith, length-take n xs, within) in
    let rest : length more ≡ length xs - start = length-drop start xs in
    ap (λ l. parts_of l (take base entries ++ e ∷ [])) is
    ∙ parts-push prefix more (take base entries) e (rw size h) (from ∙ sym size)
    (omega (arith, to, size, rest, length-append prefix more))
    ∙ ap (λ l. l ++ numbers_in more ∷ []) (parts-cut n xs (take base entries) h ∙ sym (take-map (λ (a : Entry). numbers_in (slice_range xs a.start a.end)) base entries))

-- what is named of a prefix stays where something else is put behind that prefix
pub parts-moved : (n : ℕ) (xs more new : List Sym) (entries : List Entry) → AreParts n entries → n ≤ length xs → new ≡ take n xs ++ more → parts_of new entries ≡ parts_of xs entries
parts-moved n xs more new entries h within is =
    let size : length (take n xs) ≡ n = omega (arith, length-take n xs, within) in
    rw is (parts-grow (take n xs) more entries (rw size h) ∙ parts-cut n xs entries h)

pub ruleset value_steps = (value-part)

pub ruleset part_steps = (length-take, part-take)

-- ==== what is put behind the symbols that are used

-- the first ones stay where more than them do
pub prefix_stays : {X : Type 0} (n k : ℕ) (new old first : List X) → n ≤ k → take k new ≡ take k old → take n old ≡ take n first → take n new ≡ take n first
prefix_stays n k new old first order same h = sym (take-take n k new order) ∙ ap (take n) same ∙ take-take n k old order ∙ h

-- what stays where more is put behind it
pub stays-before : {X : Type 0} (n k : ℕ) (old new more : List X) → n ≤ length old → n ≤ k
    → take k new ≡ take n old ++ more → take n new ≡ take n old
stays-before n k old new more size order put =
    sym (take-take n k new order) ∙ ap (take n) put
    ∙ take_at (take n old) more n (length-take-le n old size)

-- of a copy that is longer than the part that was meant, the part is put
pub part-of-copy : {X : Type 0} (used i j count : ℕ) (old new : List X) → used ≤ length old
    → i ≤ j → j ≤ used → j - i ≤ count
    → take (used + count) new ≡ take used old ++ slice_range old i (i + count)
    → take (used + (j - i)) new ≡ take used old ++ slice_range (take used old) i j
part-of-copy {X} used i j count old new size order within short put =
    let n = j - i in
    let prefix = take used old in
    let long : length prefix ≡ used = length-take-le used old size in
    let copy = slice_range old i (i + count) in
    let cut : take (used + n) (prefix ++ copy) ≡ prefix ++ take n copy =
    subst (λ (k : ℕ). take (k + n) (prefix ++ copy) ≡ prefix ++ take n copy) long
    (take-append-add prefix copy n) in
    let part : take n copy ≡ slice_range old i j =
    take-take n (i + count - i) (drop i old) (omega (arith, short)) in
    sym (take-take (used + n) (used + count) new (omega (arith, short))) ∙ ap (take (used + n)) put
    ∙ cut ∙ ap (λ l. prefix ++ l) (part ∙ sym (part-take used old i j order within))

-- whether a range of what stays is what is put behind it tells whether it is what is said
pub said-there : (used end i j : ℕ) (prefix new more : List Sym) (whole : List ℕ) (told : Bool)
    → length prefix ≡ used → i ≤ j → j ≤ used → used ≤ end
    → take used new ≡ prefix → take end new ≡ prefix ++ more → numbers_in more ≡ whole
    → (IsTrue told
    ↔ (numbers_in (slice_range new i j) ≡ numbers_in (slice_range new used end)))
    → (IsTrue told ↔ (numbers_in (slice_range prefix i j) ≡ whole))
said-there used end i j prefix new more whole told size order within later same put said is =
    let range : slice_range new i j ≡ slice_range prefix i j =
    sym (part-take used new i j order within) ∙ ap (λ (l : List Sym). slice_range l i j) same in
    let made : slice_range new used end ≡ more =
    sym (cut-before end used new later) ∙ ap (drop used) put ∙ drop_at prefix more used size in
    let first = ap numbers_in range in
    let second = ap numbers_in made ∙ said in (
      λ t. sym first ∙ is.0 t ∙ second,
      λ e. is.1 (first ∙ e ∙ sym second),
    )

-- what is put is as long as what is used more
pub put_within : (used end limit : ℕ) (prefix new more : List Sym) (whole : List ℕ) → length prefix ≡ used → end ≤ length new → take end new ≡ prefix ++ more → numbers_in more ≡ whole → end - used ≤ limit → length whole ≤ limit
put_within used end limit prefix new more whole size within is said few =
    let long : length (take end new) ≡ end = omega (arith, length-take end new, within) in
    omega (arith, long, ap length is, length-append prefix more, length-map more (λ (s : Sym). s.0), ap length said, size, few)
