-- Files that show the same have the same items, but for the positions of their tokens, and are read
-- alike.
use Rattle.std.proofs.Common.{◌≡◌, ℕ, zero, suc, ◌+◌, List, [], ◌∷◌, length, map, replicate, Bool}
use Rattle.std.proofs.Common.{true, false, cond, not, refl, sym, ap, ◌∙◌, codes, Option, Some, None}
use Rattle.std.proofs.Common.{arith, inl, inr, nat_lt, slice_get, slice_index_or, slice_set}
use Rattle.std.proofs.Common.{unwrap_or, option_map}
use Rattle.std.specs.List.{AllZip, AllByRecursion, prefix_len}
use Rattle.std.proofs.lemmas.Slice.Zip.{AllZip-long}
use Rattle.std.proofs.lemmas.Option.{slice_get_cases, slice_get_past}
use Rattle.mm_text.specs.declared.fault.TextRule.{TextRule}
use Rattle.mm_text.specs.declared.fault.TextRule.TheVariants.{X5, X7}
use Rattle.mm_base.specs.Token.{PlainToken, tokens_from}
use Rattle.mm_text.specs.Files.{PlainFile}
use Rattle.mm_text.specs.Items.{Item, Plain, Wrong, Inclusion, Shown, Clear, Broken}
use Rattle.mm_text.specs.Items.{without_comments, holds_dollar, Spot, Outside, Naming}
use Rattle.mm_base.specs.Spelling.{spells}
use Rattle.mm_text.specs.Items.{Closing, Piece, Met, Named, broken_outside, pieces, pieces_of}
use Rattle.mm_text.specs.Items.{file_number, with_inclusions, put_before, put_in, items}
use Rattle.mm_text.specs.LineNumbers.{feeds_before, feeds_in}
use Rattle.mm_text.specs.Alike.{token_on, faulty_on, shown_on, item_on, shows, AreAlike}
use Rattle.mm_text.specs.Alike.{AlikeFilesAreReadAlike}
use Rattle.mm_text.proofs.Inclusions.ItemTokens.{StandsIn, tokens_in_place, ShownIs, shown_all}
use Rattle.mm_base.proofs.Lists.{all_weaker, both_choices, mapped_zip, zip_append, zip_left}
use Rattle.mm_base.proofs.Lists.{zip_length, zip_weaker}
use Rattle.mm_text.proofs.Inclusions.FilePieces.{is_wrong, named_related, spliced_met, spliced_name}
use Rattle.mm_text.proofs.Inclusions.FilePieces.{spliced_nil}
use Rattle.mm_text.proofs.Alike.AlikeReadings.{text_alike, faulty_alike, reading_on, same_read}
use Rattle.mm_text.specs.Mirror.Reader.{PlainReading, Between, outermost}
use Rattle.mm_text.proofs.Reader.OneReading.{reads_reading}
use Rattle.mm_text.proofs.Reader.WholeReadings.{files_reading, reading_reads}

-- ==== files that show the same have the same items, but for the positions of their tokens

-- ---- tokens of a file have its number

-- what is shown is of the file with this number
abbrev pub AtHome : ℕ → Shown → Type 0
AtHome file s = ShownIs (λ t. t.file ≡ file) s

-- what a file shows is of that file
pub shown_at_home : (file : ℕ) (bytes : List ℕ)
    → AllByRecursion (AtHome file) (without_comments None (tokens_from file 0 bytes))
shown_at_home file bytes =
    let Home : PlainToken → Type 0 = λ t. t.file ≡ file in
    let tokens = tokens_from file 0 bytes in
    let home = all_weaker (StandsIn file bytes) Home (λ t h. h.home) tokens in
    shown_all Home None tokens tt (home (tokens_in_place file bytes))

-- positions of one file's tokens are replaced in the same way by what agrees on that file
one_on : (h k : ℕ → ℕ → ℕ) (file : ℕ) → ((at : ℕ) → h file at ≡ k file at) → (s : Shown) → AtHome file s → shown_on h s ≡ shown_on k s
one_on h k file agree (Clear t) home = rw (home, agree t.at) refl
one_on h k file agree (Broken rule t) home = rw (home, agree t.at) refl

-- the same for all that a file shows
each_on : (h k : ℕ → ℕ → ℕ) (file : ℕ) → ((at : ℕ) → h file at ≡ k file at) → (shown : List Shown) → AllByRecursion (AtHome file) shown → map (shown_on h) shown ≡ map (shown_on k) shown
each_on h k file agree [] home = refl
each_on h k file agree (s ∷ shown) home = λ i. one_on h k file agree s home.0 i ∷ each_on h k file agree shown home.1 i

-- what the file with a number shows, by the line feeds of all files
shown_of_file : (files : List PlainFile) (n : ℕ) (f : PlainFile) → slice_get files n ≡ Some f → map (shown_on (feeds_in files)) (without_comments None (tokens_from n 0 f.bytes)) ≡ shows n f.bytes
shown_of_file files n f there =
    each_on (feeds_in files) (λ file at. feeds_before f.bytes at) n
    (λ at. ap (λ (o : Option PlainFile). feeds_before (unwrap_or (option_map (λ g. g.bytes) o) []) at) there)
    (without_comments None (tokens_from n 0 f.bytes))
    (shown_at_home n f.bytes)

-- ---- two readings of tokens that correspond

-- pieces correspond
abbrev pub SamePiece : (ℕ → ℕ → ℕ) → (ℕ → ℕ → ℕ) → Piece → Piece → Type 0
SamePiece h k (Met a) (Met b) = item_on h a ≡ item_on k b
SamePiece h k (Named n) (Named m) = token_on h n ≡ token_on k m
SamePiece h k _ _ = ⊥

-- what files show corresponds
abbrev pub SameShown : (ℕ → ℕ → ℕ) → (ℕ → ℕ → ℕ) → Shown → Shown → Type 0
SameShown h k (Clear t) (Clear u) = token_on h t ≡ token_on k u
SameShown h k (Broken rule t) (Broken law u) = (rule ≡ law) × (faulty_on h t ≡ faulty_on k u)
SameShown h k _ _ = ⊥

-- spots correspond
abbrev pub SameSpot : (ℕ → ℕ → ℕ) → (ℕ → ℕ → ℕ) → Spot → Spot → Type 0
SameSpot h k Outside Outside = Unit {0}
SameSpot h k (Naming t) (Naming u) = token_on h t ≡ token_on k u
SameSpot h k (Closing t name) (Closing u other) = (token_on h t ≡ token_on k u) × (token_on h name ≡ token_on k other)
SameSpot h k _ _ = ⊥

-- what is one with lines for positions corresponds
pub shown_same : (h k : ℕ → ℕ → ℕ) (x y : Shown) → shown_on h x ≡ shown_on k y → SameShown h k x y
shown_same h k (Clear t) (Clear u) e = cc
shown_same h k (Broken rule t) (Broken law u) e = (cc, cc)
shown_same h k _ _ e = absurd cc

-- lines for positions make no fault of an item, and none undone
wrong_on : (h : ℕ → ℕ → ℕ) (a : Item) → is_wrong (item_on h a) ≡ is_wrong a
wrong_on h (Plain t) = refl
wrong_on h _ = refl

module _ (h k : ℕ → ℕ → ℕ) where
  -- a fault at one corresponds to a fault at the other
  wrong_piece : (rule : TextRule) (t u : PlainToken) → token_on h t ≡ token_on k u → AllZip (SamePiece h k) (Met (Wrong rule t) ∷ []) (Met (Wrong rule u) ∷ [])
  wrong_piece rule t u e = (ap (λ (x : PlainToken). Wrong rule x) (faulty_alike h k t u e), tt)

  -- a token outside inclusions that isn't a `$[`
  outside_same : (t u : PlainToken) → token_on h t ≡ token_on k u → (ps qs : List Piece) → AllZip (SamePiece h k) ps qs → (o p : Option TextRule) → o ≡ p
      → AllZip (SamePiece h k) (elim o [ Some rule ↦ Met (Wrong rule t) ∷ [] | None ↦ Met (Plain t) ∷ ps ]) (elim p [ Some rule ↦ Met (Wrong rule u) ∷ [] | None ↦ Met (Plain u) ∷ qs ])
  outside_same t u e ps qs s None None i = (ap (λ (x : PlainToken). Plain x) e, s)
  outside_same t u e ps qs s (Some rule) (Some law) i =
      let same : rule ≡ law = cc in (λ j. Wrong (same j) (faulty_alike h k t u e j), tt)
  outside_same t u e ps qs s _ _ i = absurd cc

  -- what corresponds has pieces that correspond
  pub pieces_same : (file : ℕ) (s r : Spot) (a b : List Shown) → SameSpot h k s r → AllZip (SameShown h k) a b → AllZip (SamePiece h k) (pieces file s a) (pieces file r b)
  unfolding pieces
  pieces_same file Outside Outside [] [] w z = (refl, tt)
  pieces_same file (Naming t) (Naming u) [] [] w z = wrong_piece X5 t u w
  pieces_same file (Closing t name) (Closing u other) [] [] w z = wrong_piece X5 t u w.0
  pieces_same file s r (Broken rule t ∷ a) (Broken law u ∷ b) w z = (λ i. Wrong (z.0.0 i) (z.0.1 i), tt)
  pieces_same file Outside Outside (Clear t ∷ a) (Clear u ∷ b) w z =
      let text = text_alike h k t u z.0 in
      let naming = pieces_same file (Naming t) (Naming u) a b z.0 z.1 in
      both_choices (AllZip (SamePiece h k)) (spells t.text (codes "$[")) (spells u.text (codes "$[")) _ _ _ _ (ap (λ l. spells l (codes "$[")) text)
      (ap (λ (x : PlainToken). Inclusion x) z.0, naming)
      (outside_same t u z.0 (pieces file Outside a) (pieces file Outside b) (pieces_same file Outside Outside a b tt z.1) (broken_outside t.text) (broken_outside u.text) (ap broken_outside text))
  pieces_same file (Naming x) (Naming y) (Clear t ∷ a) (Clear u ∷ b) w z =
      let text = text_alike h k t u z.0 in
      both_choices (AllZip (SamePiece h k)) (holds_dollar t.text) (holds_dollar u.text) _ _ _ _ (ap holds_dollar text) (wrong_piece X5 t u z.0) (pieces_same file (Closing x t) (Closing y u) a b (w, z.0) z.1)
  pieces_same file (Closing x name) (Closing y other) (Clear t ∷ a) (Clear u ∷ b) w z =
      both_choices (AllZip (SamePiece h k)) (spells t.text (codes "$]")) (spells u.text (codes "$]")) _ _ _ _ (ap (λ l. spells l (codes "$]")) (text_alike h k t u z.0))
      (w.1, pieces_same file Outside Outside a b tt z.1) (wrong_piece X5 t u z.0)
  pieces_same file s r [] (x ∷ b) w z = absurd z
  pieces_same file s r (x ∷ a) [] w z = absurd z
  pieces_same file s r (Clear t ∷ a) (Broken rule u ∷ b) w z = absurd z.0
  pieces_same file s r (Broken rule t ∷ a) (Clear u ∷ b) w z = absurd z.0
  pieces_same file s r a b w z = absurd w

  -- the pieces of a file of whose positions both tell the same
  pub pieces_agree : (number : ℕ) (file : PlainFile)
      → ((at : ℕ) → h number at ≡ k number at)
      → AllZip (SamePiece h k) (pieces_of number file) (pieces_of number file)
  pieces_agree number file agree =
      let shown : List Shown = without_comments None (tokens_from number 0 file.bytes) in
      pieces_same number Outside Outside shown shown tt
      (mapped_zip (shown_on h) (shown_on k) (SameShown h k) (shown_same h k) shown shown
      (each_on h k number agree shown (shown_at_home number file.bytes)))

  -- ---- putting in

  -- the items are the same, but that two functions of positions tell of them in place of their
  -- positions
  abbrev pub SameItem : Item → Item → Type 0
  SameItem a b = item_on h a ≡ item_on k b

  module _ (files others : List PlainFile) (numbers : (text : List ℕ) → file_number files text ≡ file_number others text) where
    -- pieces that correspond have items that do, if what goes on at a file that isn't named yet does
    pub spliced_same : (named : List Bool) (next on : ℕ → List Piece → List Item)
        → ((n : ℕ) (ps qs : List Piece) → slice_index_or named n true ≡ false
        → AllZip (SamePiece h k) ps qs → AllZip SameItem (next n ps) (on n qs))
        → (ps qs : List Piece) → AllZip (SamePiece h k) ps qs
        → AllZip SameItem (with_inclusions files named next ps) (with_inclusions others named on qs)
    spliced_same named next on goes [] [] z = rw (spliced_nil files named next) (rw (spliced_nil others named on) tt)
    spliced_same named next on goes (Met a ∷ ps) (Met b ∷ qs) z =
        rw (spliced_met files named next a ps) (rw (spliced_met others named on b qs)
        (both_choices (AllZip SameItem) (is_wrong a) (is_wrong b) _ _ _ _ (sym (wrong_on h a) ∙ ap is_wrong z.0 ∙ wrong_on k b) (z.0, tt) (z.0, spliced_same named next on goes ps qs z.1)))
    spliced_same named next on goes (Named t ∷ ps) (Named u ∷ qs) z =
        let inner = spliced_same named next on goes ps qs z.1 in
        rw (spliced_name files named next t ps) (rw (spliced_name others named on u qs)
        (named_related (AllZip SameItem) named t u _ _ (λ n. next n ps) (λ n. on n qs)
        (ap (λ (x : PlainToken). Wrong X7 x) (faulty_alike h k t u z.0), tt) inner
        (λ n e. goes n ps qs e z.1) (file_number files t.text) (file_number others u.text)
        (numbers t.text ∙ ap (file_number others) (text_alike h k t u z.0))))
    spliced_same named next on goes (p ∷ ps) (q ∷ qs) z = absurd z.0
    spliced_same named next on goes ps qs z = absurd z

    -- the same with files put in
    put_in_same : ((n : ℕ) (ps qs : List Piece) → AllZip (SamePiece h k) ps qs → AllZip (SamePiece h k) (put_before files n ps) (put_before others n qs))
        → (left : ℕ) (named : List Bool) (ps qs : List Piece) → AllZip (SamePiece h k) ps qs → AllZip SameItem (put_in files left named ps) (put_in others left named qs)
    unfolding put_in
    put_in_same before zero named ps qs z = spliced_same named (λ n after. []) (λ n after. []) (λ n x y e w. tt) ps qs z
    put_in_same before (suc left) named ps qs z =
        spliced_same named (λ n after. put_in files left (slice_set named n true) (put_before files n after)) (λ n after. put_in others left (slice_set named n true) (put_before others n after))
        (λ n x y e w. put_in_same before left (slice_set named n true) (put_before files n x) (put_before others n y) (before n x y w)) ps qs z

-- ---- files that show the same

-- files with the same names, index by index
abbrev pub SameNames : List PlainFile → List PlainFile → Type 0
SameNames files others = AllZip (λ f g. f.name ≡ g.name) files others

-- a name stands at one index in both lists
first_position : (text : List ℕ) (files others : List PlainFile) → SameNames files others
    → prefix_len (λ f. not (spells text f.name)) files
    ≡ prefix_len (λ f. not (spells text f.name)) others
first_position text [] [] z = refl
first_position text (f ∷ files) (g ∷ others) z =
    λ i. cond (not (spells text (z.0 i))) (1 + first_position text files others z.1 i) 0
first_position text files others z = absurd z

-- as many files
pub as_long : (files others : List PlainFile) → SameNames files others
    → length files ≡ length others
as_long files others z = sym (AllZip-long (λ f g. f.name ≡ g.name) files others z)

-- a name is that of the file with the same number
pub same_number : (files others : List PlainFile) → SameNames files others → (text : List ℕ)
    → file_number files text ≡ file_number others text
same_number files others z text =
    let position = first_position text files others z in
    λ i. cond (nat_lt (position i) (as_long files others z i)) (Some (position i)) None

-- the pieces of files with one number correspond
file_pieces_same : (files others : List PlainFile) (n : ℕ) (f g : PlainFile) → slice_get files n ≡ Some f → slice_get others n ≡ Some g → AreAlike f g
    → AllZip (SamePiece (feeds_in files) (feeds_in others)) (pieces_of n f) (pieces_of n g)
file_pieces_same files others n f g here there alike =
    let h = feeds_in files in
    let k = feeds_in others in
    pieces_same h k n Outside Outside _ _ tt
    (mapped_zip (shown_on h) (shown_on k) (SameShown h k) (shown_same h k) _ _ (shown_of_file files n f here ∙ alike.1 n ∙ sym (shown_of_file others n g there)))

-- the same with the pieces after them
put_before_same : (files others : List PlainFile) → AllZip AreAlike files others → (n : ℕ) (ps qs : List Piece) → AllZip (SamePiece (feeds_in files) (feeds_in others)) ps qs
    → AllZip (SamePiece (feeds_in files) (feeds_in others)) (put_before files n ps) (put_before others n qs)
put_before_same files others z n ps qs w = elim (slice_get_cases files n).1 [
  | inl (f, lt, here, read) ↦
      let (g, there, alike) = zip_left AreAlike files others n f z here in
      let same = file_pieces_same files others n f g here there alike in
      rw (here, there, put_before) (zip_append _ (pieces_of n f) (pieces_of n g) ps qs same w)
  | inr (past, here) ↦
      let there = slice_get_past others n (omega (arith, zip_length AreAlike files others z)) in
      rw (here, there, put_before) w
]

-- files that show the same have the same items, where each position is replaced by the line feeds
-- before it
pub alike_items : (files others : List PlainFile) → AllZip AreAlike files others
    → AllZip (SameItem (feeds_in files) (feeds_in others)) (items files) (items others)
alike_items [] [] z = tt
alike_items (f ∷ files) (g ∷ others) z =
    let h = feeds_in (f ∷ files) in
    let k = feeds_in (g ∷ others) in
    let names : SameNames (f ∷ files) (g ∷ others) =
    zip_weaker AreAlike _ (λ f g alike. alike.0) (f ∷ files) (g ∷ others) z in
    rw (AllZip-long AreAlike files others z.1)
    (put_in_same h k (f ∷ files) (g ∷ others) (same_number (f ∷ files) (g ∷ others) names)
    (put_before_same (f ∷ files) (g ∷ others) z) (length files)
    (true ∷ replicate (length files) false) (pieces_of 0 f) (pieces_of 0 g)
    (file_pieces_same (f ∷ files) (g ∷ others) 0 f g refl refl z.0))
alike_items files others z = absurd z

-- ==== files that show the same are read alike

pub alike_files_are_read_alike : AlikeFilesAreReadAlike
alike_files_are_read_alike files others alike statements ending reads =
    let h = feeds_in files in
    let k = feeds_in others in
    let same = ap (reading_on h) (sym (reads_reading (items files) statements ending reads))
    ∙ same_read h k (items files) (items others) (alike_items files others alike) outermost
    outermost Between Between refl refl in
    record {
      same = (files_reading others).statements;
      end = (files_reading others).ending;
      reads = reading_reads others;
      spelled = ap (λ (r : PlainReading). r.statements) same;
      ended = ap (λ (r : PlainReading). r.ending) same;
    }
