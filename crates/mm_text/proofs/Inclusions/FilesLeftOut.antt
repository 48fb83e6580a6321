-- The files that nothing includes, by the flags of those that were met.
use Rattle.std.proofs.Common.{◌≡◌, ℕ, zero, suc, ◌<◌, ◌≤◌, ◌==◌, ◌||◌, List, [], ◌∷◌, length}
use Rattle.std.proofs.Common.{replicate, map, filter, Bool, true, false, not, cond, refl, sym, ap}
use Rattle.std.proofs.Common.{◌∙◌, subst, codes, Some, None, arith, inl, inr, get_or-set_same}
use Rattle.std.proofs.Common.{get_or-set_other, length-set, slice_index_or, slice_set, eq-eqb}
use Rattle.std.proofs.Common.{ne_eqb}
use Rattle.std.specs.List.{AllByRecursion, list_any, range_with_len}
use Rattle.std.proofs.lemmas.Bool.{cases_eq, cond_both, or_left}
use Rattle.std.proofs.Math.Bool.{or-false, or_assoc, or_comm}
use Rattle.std.proofs.lemmas.List.{length-replicate}
use Rattle.std.proofs.lemmas.Option.{slice_get_within}
use Rattle.std.proofs.lemmas.Slice.Zip.{AllZip-long}
use Rattle.mm_base.specs.Token.{tokens_from}
use Rattle.mm_text.specs.Files.{PlainFile}
use Rattle.mm_text.specs.Items.{Item, Plain, Wrong, Inclusion, End, Shown, Clear, Broken}
use Rattle.mm_base.specs.Spelling.{spells}
use Rattle.mm_text.specs.Items.{Outside, Piece, Met, Named, broken_outside, pieces, pieces_of}
use Rattle.mm_text.specs.Items.{put_in, items}
use Rattle.mm_text.specs.LineNumbers.{feeds_in}
use Rattle.mm_text.specs.Alike.{item_on, AreAlike}
use Rattle.mm_text.specs.Included.{file_of, is_left_out, left_out, AlikeFilesLeaveOutTheSame}
use Rattle.mm_text.specs.Mirror.Included.{AreOfFiles, met_with, unmet}
use Rattle.mm_base.proofs.Lists.{all_weaker, zip_mapped}
use Rattle.mm_text.proofs.Inclusions.ItemTokens.{StandsIn, tokens_in_place, ItemOf, all_items_of}
use Rattle.mm_text.proofs.Inclusions.FilePieces.{is_wrong, put_in-met}
use Rattle.mm_text.proofs.Alike.AlikeItems.{AtHome, shown_at_home, alike_items}

-- ---- each item is of a handed file

-- each item is of one of the files
pub items_of_files : (files : List PlainFile) → AreOfFiles (length files) (items files)
items_of_files files =
    let There : ℕ → Type 0 = λ n. n < length files in
    all_weaker (ItemOf (λ t. There t.file) There) (λ item. There (file_of item))
    (elim [ Plain t ↦ λ h. h.0 | Wrong rule t ↦ λ h. h | Inclusion t ↦ λ h. h | End n ↦ λ h. h ])
    (items files) (all_items_of (λ t. There t.file) There files (λ n f there.
    let within = slice_get_within files n f there in (
      all_weaker (StandsIn n f.bytes) (λ t. There t.file) (λ t h. rw h.home within)
          (tokens_from n 0 f.bytes) (tokens_in_place n f.bytes),
      within,
    )))

-- ---- flags

-- a flag, once one was set
flag-set : (met : List Bool) (k n : ℕ) → k < length met
    → slice_index_or (slice_set met k true) n false ≡ ((k == n) || slice_index_or met n false)
flag-set met k n lt = elim (cases_eq k n) [
  | inl same ↦ rw (eq-eqb k n same, ← same) (get_or-set_same met k true false lt)
  | inr other ↦ rw (ne_eqb k n other) (get_or-set_other met k n true false (λ e. other (sym e)))
]

-- a file is met in the end if an item is of it, or if it was met before
flag-met_with : (met : List Bool) (its : List Item) (n : ℕ) → AreOfFiles (length met) its
    → slice_index_or (met_with met its) n false
    ≡ (list_any (λ item. file_of item == n) its || slice_index_or met n false)
flag-met_with met [] n h = refl
flag-met_with met (item ∷ its) n h =
    let here : Bool = file_of item == n in
    let any : Bool = list_any (λ i. file_of i == n) its in
    flag-met_with (slice_set met (file_of item) true) its n
    (subst (λ count. AreOfFiles count its) (sym (length-set met (file_of item) true)) h.1)
    ∙ ap (λ b. any || b) (flag-set met (file_of item) n h.0)
    ∙ sym (or_assoc any here (slice_index_or met n false))
    ∙ ap (λ b. b || slice_index_or met n false) (or_comm any here)

-- there are as many flags as before
pub length-met_with : (met : List Bool) (its : List Item) → length (met_with met its) ≡ length met
length-met_with met [] = refl
length-met_with met (item ∷ its) =
    length-met_with (slice_set met (file_of item) true) its
    ∙ length-set met (file_of item) true

-- at first none is met
none_met : (count n : ℕ) → slice_index_or (replicate count false) n false ≡ false
none_met zero n = refl
none_met (suc count) zero = refl
none_met (suc count) (suc n) = none_met count n

-- what isn't met once all items are is left out
pub unmet_is_left_out : (files : List PlainFile)
    → unmet (met_with (replicate (length files) false) (items files)) ≡ left_out files
unmet_is_left_out files =
    let met = replicate (length files) false in
    let its = items files in
    let long : length met ≡ length files = length-replicate (length files) false in
    let told : (n : ℕ) → slice_index_or (met_with met its) n false
    ≡ list_any (λ item. file_of item == n) its = λ n.
    flag-met_with met its n
    (subst (λ count. AreOfFiles count its) (sym long) (items_of_files files))
    ∙ rw (none_met (length files) n) (or-false _) in
    λ i. filter (λ n. not (told n i)) (range_with_len 0 ((length-met_with met its ∙ long) i))

-- ---- the top file

-- the first piece is an item of this file
abbrev StartsIn : ℕ → List Piece → Type 0
StartsIn n [] = ⊥
StartsIn n (Met item ∷ rest) = file_of item ≡ n
StartsIn n (Named name ∷ rest) = ⊥

pieces_start : (n : ℕ) (shown : List Shown) → AllByRecursion (AtHome n) shown
    → StartsIn n (pieces n Outside shown)
unfolding pieces
pieces_start n [] h = refl
pieces_start n (Broken rule t ∷ rest) h = h.0
pieces_start n (Clear t ∷ rest) h =
    cond_both (spells t.text (codes "$[")) _ _ (StartsIn n)
    (λ _. h.0) (λ _. elim (broken_outside t.text) as (λ o. StartsIn n (elim o [
      | Some r ↦ Met (Wrong r t) ∷ []
      | None ↦ Met (Plain t) ∷ pieces n Outside rest
    ])) [ None ↦ h.0 | Some rule ↦ h.0 ])

put_in_start : (files : List PlainFile) (left : ℕ) (named : List Bool) (n : ℕ) (ps : List Piece)
    → StartsIn n ps → list_any (λ i. file_of i == n) (put_in files left named ps) ≡ true
put_in_start files left named n [] h = absurd h
put_in_start files left named n (Met item ∷ rest) h = let first = eq-eqb (file_of item) n h in
    rw (put_in-met files left named item rest)
    (cond_both (is_wrong item) _ _ (λ its. list_any (λ i. file_of i == n) its ≡ true)
    (λ _. or_left _ _ first) (λ _. or_left _ _ first))
put_in_start files left named n (Named name ∷ rest) h = absurd h

-- the first item is of the top file
top_file_is_never_left_out : (top : PlainFile) (others : List PlainFile)
    → is_left_out (top ∷ others) 0 ≡ false
top_file_is_never_left_out top others =
    ap not
    (put_in_start (top ∷ others) (length others) (true ∷ replicate (length others) false) 0
    (pieces_of 0 top) (pieces_start 0 _ (shown_at_home 0 top.bytes)))

-- of one file, or none, nothing is left out
pub left_out-few : (files : List PlainFile) → length files ≤ 1 → left_out files ≡ []
left_out-few [] few = refl
left_out-few (top ∷ []) few =
    ap (λ b. cond b (0 ∷ []) []) (top_file_is_never_left_out top [])
left_out-few (top ∷ other ∷ files) few = absurd (omega arith)

-- ---- files that show the same

-- items are of the same files whatever their positions
any_on : (line : ℕ → ℕ → ℕ) (n : ℕ) (its : List Item)
    → list_any (λ i. file_of i == n) (map (item_on line) its)
    ≡ list_any (λ i. file_of i == n) its
any_on line n [] = refl
any_on line n (Plain t ∷ its) = ap (λ b. (t.file == n) || b) (any_on line n its)
any_on line n (item ∷ its) = ap (λ b. (file_of item == n) || b) (any_on line n its)

pub alike_files_leave_out_the_same : AlikeFilesLeaveOutTheSame
alike_files_leave_out_the_same files others alike =
    let long : length files ≡ length others = sym (AllZip-long AreAlike files others alike) in
    let same : (n : ℕ) → is_left_out files n ≡ is_left_out others n = λ n.
    ap not (sym (any_on (feeds_in files) n (items files))
    ∙ ap (list_any (λ i. file_of i == n)) (zip_mapped (item_on (feeds_in files))
    (item_on (feeds_in others)) _ _ (alike_items files others alike))
    ∙ any_on (feeds_in others) n (items others)) in
    λ i. filter (λ n. same n i) (range_with_len 0 (long i))
