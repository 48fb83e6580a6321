-- Files in files: the items that are left, as a file's pieces are taken, a file is gone into and a
-- file ends. The names of files: where one stands, and two that are equal.
use Rattle.std.proofs.Common.{◌≡◌, ◌≢◌, ℕ, zero, suc, ◌+◌, ◌<◌, ◌≤◌, List, [], ◌∷◌, map, length}
use Rattle.std.proofs.Common.{get_or, take, Bool, ◌||◌, true, false, Some, None, cond, nat_lt, refl}
use Rattle.std.proofs.Common.{sym, ap, ◌∙◌, arith, ⊎_elim, if◌then◌else◌, not, ◌++◌, ◌-◌, Option}
use Rattle.std.proofs.Common.{count_by, drop, replicate, append-nil, slice_get, position}
use Rattle.std.proofs.Common.{slice_index_or, slice_set, get_or-take, length-take-le}
use Rattle.std.proofs.Common.{option_map}
use Rattle.std.specs.List.{list_any, position_or_len}
use Rattle.std.specs.Cmp.Lexicographic.{bytes_decides}
use Rattle.std.proofs.lemmas.Bool.{both_ways}
use Rattle.std.proofs.lemmas.List.{get_or_default, length-map, map-append, get_or-map, take_more}
use Rattle.std.proofs.lemmas.List.{nil_from_length}
use Rattle.std.proofs.str.Laws.{order}
use Rattle.std.proofs.lemmas.Option.{slice_get_within, slice_get-map, slice_get-get_or}
use Rattle.std.proofs.lemmas.List.Folds.{list_any_at, Any-from_list_any, sum_by-replicate}
use Rattle.std.proofs.lemmas.List.Sums.{sum_by-set, sum_by_from}
use Rattle.std.proofs.lemmas.List.Quantifiers.{position-Some}
use Rattle.mm_base.specs.declared.file.File.{File}
use Rattle.mm_text.specs.Files.{PlainFile, plain_file, HasTwins, total_bytes}
use Rattle.mm_base.specs.Spelling.{spells}
use Rattle.mm_text.specs.Items.{Inclusion, End, Piece, Met, Named, Outside, Naming, pieces}
use Rattle.mm_text.specs.Items.{pieces_of, without_comments, holds_dollar, file_number, put_before}
use Rattle.mm_text.specs.Items.{put_in}
use Rattle.mm_text.specs.declared.comments.Position.{Position}
use Rattle.mm_text.specs.declared.comments.Wrong.{Wrong}
use Rattle.mm_text.specs.declared.class.Class.{Class}
use Rattle.mm_text.specs.declared.nest.Nest.{Nest}
use Rattle.mm_base.specs.declared.token.Token.{Token}
use Rattle.mm_base.specs.Token.{PlainToken, plain_token, tokens_from}
use Rattle.mm_text.specs.Mirror.Names.{number_among}
use Rattle.mm_text.specs.Mirror.Position.{IsSameFile, TakesWordAt, shown_at}
use Rattle.mm_text.specs.Mirror.Next.{items_with, TakesWord}
use Rattle.mm_text.specs.Mirror.Nest.{IsNest, pieces_with, wrong_item, waiting, spot_of, put_into}
use Rattle.mm_text.specs.Mirror.Nest.{pieces_left, items_after, items_left}
use Rattle.mm_text.specs.declared.fault.TextRule.TheVariants.{X7}
use Rattle.mm_base.proofs.Lists.{get_within}
use Rattle.mm_text.proofs.Tokens.WordsAndComments.{no_dollar-spells}
use Rattle.mm_text.proofs.Inclusions.FilePieces.{pieces-class, put_in-plain, put_in-wrong}
use Rattle.mm_text.proofs.Inclusions.FilePieces.{put_in-inclusion, put_in-end, put_in-nil}
use Rattle.mm_text.proofs.Inclusions.FilePieces.{put_in-unknown, put_in-again, put_in-first}
use Rattle.mm_text.proofs.Inclusions.FilePieces.{waiting-push}
use Rattle.mm_text.specs.declared.class.Class.TheVariants as class
use Rattle.mm_text.specs.Items as items
use Rattle.mm_base.proofs.NoneThere.{none_there}

-- ==== the names of files: different up to an index, two of them equal, and where one stands

-- the names before an index are different
abbrev pub AreDisjoint : List (List ℕ) → ℕ → Type 0
AreDisjoint names n = (i j : ℕ) → i < j → j < n → get_or names i [] ≢ get_or names j []

name_at : (files : List File) (i : ℕ) (file : PlainFile) → slice_get (map plain_file files) i ≡ Some file → get_or (map (λ f. f.name.now) files) i [] ≡ file.name
name_at [] i file e = absurd cc
name_at (f ∷ files) zero file e = let same : plain_file f ≡ file = cc in ap (λ g. g.name) same
name_at (f ∷ files) (suc i) file e = name_at files i file e

-- two equal names are those of two files
twins_from_names : (files : List File) (i j : ℕ) → i < j → j < length files
    → get_or (map (λ f. f.name.now) files) i [] ≡ get_or (map (λ f. f.name.now) files) j [] → HasTwins (map plain_file files)
twins_from_names files i j apart within same =
    let one = get_within (map plain_file files) i (omega (arith, length-map files plain_file)) in
    let other = get_within (map plain_file files) j (omega (arith, length-map files plain_file)) in
    record { i = i; j = j; one = one.0; other = other.0; apart = apart; at_i = one.1; at_j = other.1; same = sym (name_at files i one.0 one.1) ∙ same ∙ name_at files j other.0 other.1 }

-- where all names are different no two files have one
pub no_twins : (files : List File) (n : ℕ) → length files ≤ n → AreDisjoint (map (λ f. f.name.now) files) n → ¬ (HasTwins (map plain_file files))
no_twins files n all apart twins =
    let within : twins.j < n = omega (arith, slice_get_within (map plain_file files) twins.j twins.other twins.at_j, length-map files plain_file) in
    apart twins.i twins.j twins.apart within (name_at files twins.i twins.one twins.at_i ∙ twins.same ∙ sym (name_at files twins.j twins.other twins.at_j))

-- the name at an index is among those before it, or isn't
apart_more : (names : List (List ℕ)) (n : ℕ) → n < length names → AreDisjoint names n → list_any (spells (get_or names n [])) (take n names) ≡ false → AreDisjoint names (n + 1)
apart_more names n within apart none i j less more same =
    ⊎_elim (λ (below : j < n). apart i j less below same)
    (λ (last : n ≤ j).
    let here : j ≡ n = omega arith in
    let long : length (take n names) ≡ n = length-take-le n names (omega arith) in
    let spelled : spells (get_or names n []) (get_or (take n names) i []) ≡ true =
    (bytes_decides _ _).1 (ap (λ k. get_or names k []) (sym here) ∙ sym same ∙ sym (get_or-take n names i [] (omega arith))) in
    both_ways _ none (list_any_at (spells (get_or names n [])) (take n names) i [] (omega arith) spelled))
    (order j n)

equal_before : (names : List (List ℕ)) (n : ℕ) → n < length names → list_any (spells (get_or names n [])) (take n names) ≡ true → (i : ℕ) × (i < n) × (get_or names i [] ≡ get_or names n [])
equal_before names n within some =
    let found = Any-from_list_any (spells (get_or names n [])) (take n names) some in
    let low : found.0 < n = omega (arith, found.2, length-take-le n names (omega arith)) in
    (found.0, low, get_or_default names found.0 [] found.1 (omega arith) ∙ sym (get_or-take n names found.0 found.1 low) ∙ found.3 ∙ sym ((bytes_decides _ _).0 found.4))

list_any-map : {K : Type 0} (g : K → List ℕ) (p : List ℕ → Bool) (ks : List K) → list_any (λ k. p (g k)) ks ≡ list_any p (map g ks)
list_any-map g p [] = refl
list_any-map g p (k ∷ ks) = ap (λ b. p (g k) || b) (list_any-map g p ks)

position_or_len-map : {K : Type 0} (g : K → List ℕ) (p : List ℕ → Bool) (ks : List K) → position_or_len (λ k. p (g k)) ks ≡ position_or_len p (map g ks)
position_or_len-map g p [] = refl
position_or_len-map g p (k ∷ ks) = ap (λ n. cond (not (p (g k))) (1 + n) 0) (position_or_len-map g p ks)

-- the index of a key is that of its name
pub position-names : {K : Type 0} (g : K → List ℕ) (p : List ℕ → Bool) (ks : List K) → position (λ k. p (g k)) ks ≡ position p (map g ks)
position-names g p ks =
    ap (λ n. cond (nat_lt n (length ks)) (Some n) None) (position_or_len-map g p ks)
    ∙ ap (λ n. cond (nat_lt (position_or_len p (map g ks)) n) (Some (position_or_len p (map g ks))) None) (sym (length-map ks g))

file_name : (files : List File) (n : ℕ) (d : File) → n < length files → (get_or files n d).name.now ≡ get_or (map (λ f. f.name.now) files) n []
file_name files n d lt = sym (get_or-map (λ f. f.name.now) files n d [] lt)

module _ {K : Type 0} (g : K → List ℕ) (ks : List K) (files : List File) (n : ℕ) (d : File) where
  -- whether a file's name is among the keys, where those are the names before it
  among_names : n < length files → map g ks ≡ take n (map (λ f. f.name.now) files)
      → list_any (λ k. spells (get_or files n d).name.now (g k)) ks ≡ list_any (spells (get_or (map (λ f. f.name.now) files) n [])) (take n (map (λ f. f.name.now) files))
  among_names lt kept =
      list_any-map g (spells (get_or files n d).name.now) ks
      ∙ ap (λ name. list_any (spells name) (map g ks)) (file_name files n d lt)
      ∙ ap (list_any (spells (get_or (map (λ f. f.name.now) files) n []))) kept

  -- a new name goes last
  pub kept_more : n < length files → map g ks ≡ take n (map (λ f. f.name.now) files) → (k : K) → g k ≡ (get_or files n d).name.now
      → (new : List K) → (b : Bool) → new ≡ (if b then ks else ks ++ k ∷ []) → b ≡ false → map g new ≡ take (n + 1) (map (λ f. f.name.now) files)
  kept_more lt kept k same new b e none =
      let within : n < length (map (λ f. f.name.now) files) = omega (arith, length-map files (λ f. f.name.now)) in
      rw (e, none, map-append, kept, same, file_name files n d lt)
      (sym (take_more (map (λ f. f.name.now) files) n [] within))

  -- a name that is there already is that of two files
  pub twins_found : n < length files → map g ks ≡ take n (map (λ f. f.name.now) files)
      → list_any (λ k. spells (get_or files n d).name.now (g k)) ks ≡ true → HasTwins (map plain_file files)
  twins_found lt kept some =
      let names = map (λ f. f.name.now) files in
      let within : n < length names = omega (arith, length-map files (λ f. f.name.now)) in
      let found = equal_before names n within (sym (among_names lt kept) ∙ some) in
      twins_from_names files found.0 n found.1 lt found.2

  -- and where it isn't the names stay apart
  pub apart_with : n < length files → map g ks ≡ take n (map (λ f. f.name.now) files) → AreDisjoint (map (λ f. f.name.now) files) n
      → list_any (λ k. spells (get_or files n d).name.now (g k)) ks ≡ false → AreDisjoint (map (λ f. f.name.now) files) (n + 1)
  apart_with lt kept apart none =
      apart_more (map (λ f. f.name.now) files) n (omega (arith, length-map files (λ f. f.name.now))) apart (sym (among_names lt kept) ∙ none)

-- the names of the files as they are handed in
pub plain_names : (files : List File) → map (λ f. f.name) (map plain_file files) ≡ map (λ f. f.name.now) files
plain_names [] = refl
plain_names (f ∷ files) = ap (λ l. f.name.now ∷ l) (plain_names files)

-- ==== the items that are left, as a file's pieces are taken, a file is gone into and a file ends

-- before the top file's end, outside inclusions or after a `$[`
pub left_at : (n : Nest) (o : Option Token) (file : ℕ) → n.is_over ≡ false → n.naming ≡ o
    → n.position.file ≡ file → items_left n
    ≡ put_into n (pieces file (spot_of o) (shown_at n.position) ++ waiting n.«open».items)
left_at n o file over naming home =
    ap (λ b. if b then [] else put_into n (pieces_left n)) over ∙ (λ i. put_into n
    (pieces (home i) (spot_of (naming i)) (shown_at n.position) ++ waiting n.«open».items))

left_pieces : (n : Nest) (o : Option Token) (ps : List Piece) → n.is_over ≡ false → n.naming ≡ o
    → pieces n.position.file (spot_of o) (shown_at n.position) ≡ ps
    → items_left n ≡ put_into n (ps ++ waiting n.«open».items)
left_pieces n o ps over naming e =
    left_at n o n.position.file over naming refl ∙ ap (λ l. put_into n (l ++ waiting n.«open».items)) e

same_file : (p q : Position) → IsSameFile p q → q.file ≡ p.file
same_file p q e = ap (λ (r : Position). r.file) e

-- ---- one piece is taken

put_in-with : (files : List PlainFile) (left : ℕ) (named : List Bool) (t : PlainToken) (kind : Class) (rest after : List Piece)
    → put_in files left named (pieces_with t kind rest ++ after) ≡ items_with t kind (put_in files left named (rest ++ after))
put_in-with files left named t (class.Wrong rule) rest after = put_in-wrong files left named rule t after
put_in-with files left named t _ rest after = put_in-plain files left named t (rest ++ after)

pub takes_token : (n : Nest) (q : Position) (t : PlainToken) (kind : Class) → n.is_over ≡ false → n.naming ≡ None → IsSameFile n.position q
    → pieces n.position.file Outside (shown_at n.position) ≡ pieces_with t kind (pieces n.position.file Outside (shown_at q))
    → items_left n ≡ items_with t kind (items_left (record n { position = q }))
takes_token n q t kind over naming same e =
    left_pieces n None _ over naming e
    ∙ put_in-with (map plain_file n.files.now) (count_by not n.named.items) n.named.items t kind (pieces n.position.file Outside (shown_at q)) (waiting n.«open».items)
    ∙ ap (items_with t kind) (sym (left_at (record n { position = q }) None n.position.file over naming
    (same_file n.position q same)))

-- what is taken at once is a word, or nothing
pub takes_word : (n : Nest) (q : Position) (found : Option Token) → n.is_over ≡ false
    → n.naming ≡ None → IsSameFile n.position q → TakesWordAt n.position found q
    → TakesWord (items_left n) found (items_left (record n { position = q }))
takes_word n q (Some token) over naming same taken =
    let t = plain_token token in
    let lacks : holds_dollar t.text ≡ false = sym taken.1.dollar in
    record {
      first = takes_token n q t class.Word over naming same
          (ap (pieces n.position.file Outside) taken.0
          ∙ pieces-class n.position.file t _ class.Word (no_dollar-spells t.text 91 lacks) lacks);
      text = lacks;
      at = taken.1.at;
    }
takes_word n q None over naming same taken =
    ap (λ (p : Position). items_left (record n { position = p })) taken

pub takes_inclusion : (n : Nest) (q : Position) (begin : Token) → n.is_over ≡ false → n.naming ≡ None → IsSameFile n.position q
    → pieces n.position.file Outside (shown_at n.position) ≡ Met (Inclusion (plain_token begin)) ∷ pieces n.position.file (Naming (plain_token begin)) (shown_at q)
    → items_left n ≡ Inclusion (plain_token begin) ∷ items_left (record n { position = q; naming = Some begin })
takes_inclusion n q begin over naming same e =
    left_pieces n None _ over naming e
    ∙ put_in-inclusion (map plain_file n.files.now) (count_by not n.named.items) n.named.items (plain_token begin) _
    ∙ ap (λ l. Inclusion (plain_token begin) ∷ l) (sym (left_at (record n { position = q; naming = Some begin })
    (Some begin) n.position.file over refl (same_file n.position q same)))

pub takes_end : (n : Nest) (file : ℕ) → n.is_over ≡ false → n.naming ≡ None → pieces n.position.file Outside (shown_at n.position) ≡ Met (End file) ∷ [] → items_left n ≡ End file ∷ items_after n
takes_end n file over naming e =
    left_pieces n None _ over naming e
    ∙ put_in-end (map plain_file n.files.now) (count_by not n.named.items) n.named.items file (waiting n.«open».items)

-- ---- an inclusion is finished

pub includes_wrong : (n : Nest) (begin : Token) (w : Wrong) → n.is_over ≡ false → n.naming ≡ Some begin
    → pieces n.position.file (Naming (plain_token begin)) (shown_at n.position) ≡ Met (wrong_item w) ∷ [] → items_left n ≡ wrong_item w ∷ []
includes_wrong n begin w over naming e =
    left_pieces n (Some begin) _ over naming e
    ∙ put_in-wrong (map plain_file n.files.now) (count_by not n.named.items) n.named.items w.rule (plain_token w.token) (waiting n.«open».items)

-- the name was read
pub includes_name : (n : Nest) (q : Position) (begin : Token) (name : PlainToken) → n.is_over ≡ false → n.naming ≡ Some begin → IsSameFile n.position q
    → pieces n.position.file (Naming (plain_token begin)) (shown_at n.position) ≡ Named name ∷ pieces n.position.file Outside (shown_at q)
    → items_left n ≡ put_into n (Named name ∷ pieces q.file Outside (shown_at q) ++ waiting n.«open».items)
includes_name n q begin name over naming same e =
    left_pieces n (Some begin) _ over naming e
    ∙ ap (λ f. put_into n (Named name ∷ pieces f Outside (shown_at q) ++ waiting n.«open».items)) (sym (same_file n.position q same))

-- no file has it
pub includes_unknown : (n : Nest) (name : PlainToken) (rest : List Piece) → file_number (map plain_file n.files.now) name.text ≡ None → put_into n (Named name ∷ rest) ≡ items.Wrong X7 name ∷ []
includes_unknown n name rest e = put_in-unknown (map plain_file n.files.now) (count_by not n.named.items) n.named.items name rest e

-- its file was named before
pub includes_again : (n : Nest) (q : Position) (name : PlainToken) (number : ℕ) → n.is_over ≡ false
    → file_number (map plain_file n.files.now) name.text ≡ Some number → slice_index_or n.named.items number true ≡ true
    → items_left (record n { position = q; naming = None }) ≡ put_into n (Named name ∷ pieces q.file Outside (shown_at q) ++ waiting n.«open».items)
includes_again n q name number over e again =
    left_at (record n { position = q; naming = None }) None q.file over refl refl
    ∙ sym (put_in-again (map plain_file n.files.now) (count_by not n.named.items) n.named.items name _ number e again)

-- ---- numbers

pub number_told : (n : Nest) (name : List ℕ) → IsNest n → number_among n.names name ≡ file_number (map plain_file n.files.now) name
number_told n name nest =
    ap (λ names. number_among names name) nest.names
    ∙ sym (position-names (λ (f : PlainFile). f.name) (spells name) (map plain_file n.files.now))

pub number_within : (files : List File) (name : List ℕ) (number : ℕ) → file_number (map plain_file files) name ≡ Some number → number < length files
number_within files name number e =
    omega (arith, (position-Some (λ (f : PlainFile). spells name f.name) (map plain_file files) number (record { name = []; bytes = [] }) e).0, length-map files plain_file)

-- one file holds no more than all
pub file_within : (files : List File) (n : ℕ) (d : File) → n < length files → length (get_or files n d).bytes.now ≤ total_bytes (map plain_file files)
file_within [] n d lt = absurd (omega arith)
file_within (f ∷ files) zero d lt = omega (arith, sum_by_from (λ (g : PlainFile). length g.bytes) (0 + length f.bytes.now) (map plain_file files))
file_within (f ∷ files) (suc n) d lt =
    omega (arith, file_within files n d (omega arith), sum_by_from (λ (g : PlainFile). length g.bytes) (0 + length f.bytes.now) (map plain_file files))

pub file_there : (files : List File) (n : ℕ) (d : File) → n < length files → slice_get (map plain_file files) n ≡ Some (plain_file (get_or files n d))
file_there files n d lt =
    slice_get-map plain_file files n ∙ ap (option_map plain_file) (slice_get-get_or files n d lt)

-- what isn't named already has its place
pub in_range : (named : List Bool) (n : ℕ) → slice_index_or named n true ≡ false → n < length named
in_range [] n e = absurd cc
in_range (b ∷ named) zero e = omega arith
in_range (b ∷ named) (suc n) e = omega (arith, in_range named n e)

-- one file fewer wasn't named
pub count_named : (named : List Bool) (n : ℕ) → n < length named → slice_index_or named n true ≡ false → count_by not named ≡ suc (count_by not (slice_set named n true))
count_named named n lt e =
    let weight : Bool → ℕ = λ b. cond (not b) 1 0 in
    omega (arith, sum_by-set (λ b. cond (not b) 1 0) named n true true lt, ap weight e)

-- ---- a file is gone into

pub enters : (n : Nest) (q begin : Position) (name : PlainToken) (number : ℕ) (d : File) → number < length n.files.now → IsNest n
    → file_number (map plain_file n.files.now) name.text ≡ Some number → slice_index_or n.named.items number true ≡ false
    → begin.bytes.now ≡ (get_or n.files.now number d).bytes.now → begin.file ≡ number → begin.at ≡ 0
    → put_in (map plain_file n.files.now) (count_by not (slice_set n.named.items number true)) (slice_set n.named.items number true)
    (pieces begin.file Outside (shown_at begin) ++ waiting (n.«open».items ++ q ∷ []))
    ≡ put_into n (Named name ∷ pieces q.file Outside (shown_at q) ++ waiting n.«open».items)
enters n q begin name number d lt nest e first bytes file at =
    let files = map plain_file n.files.now in
    let named = slice_set n.named.items number true in
    let rest = pieces q.file Outside (shown_at q) ++ waiting n.«open».items in
    let counted = count_named n.named.items number (omega (arith, nest.named)) first in
    let before : put_before files number rest ≡ pieces_of number (plain_file (get_or n.files.now number d)) ++ rest =
    ap (λ o. elim o [ None ↦ rest | Some f ↦ pieces_of number f ++ rest ]) (file_there n.files.now number d lt) in
    let fresh : pieces begin.file Outside (shown_at begin) ≡ pieces_of number (plain_file (get_or n.files.now number d)) =
    λ i. pieces (file i) Outside
    (without_comments None (tokens_from (file i) (at i) (drop (at i) (bytes i)))) in
    ap (λ l. put_in files (count_by not named) named (pieces begin.file Outside (shown_at begin) ++ l)) (waiting-push n.«open».items q)
    ∙ ap (λ l. put_in files (count_by not named) named (l ++ rest)) fresh
    ∙ ap (put_in files (count_by not named) named) (sym before)
    ∙ sym (put_in-first files (count_by not named) n.named.items name rest number e first)
    ∙ ap (λ k. put_in files k n.named.items (Named name ∷ rest)) (sym counted)

-- ---- a file ends

pub leaves_last : (n : Nest) → n.«open».items ≡ [] → items_after n ≡ []
leaves_last n e = ap (λ l. put_into n (waiting l)) e ∙ put_in-nil (map plain_file n.files.now) (count_by not n.named.items) n.named.items

-- the last of the files that wait goes on
pub leaves_to : (n m : Nest) (q : Position) → n.is_over ≡ false → n.naming ≡ None → n.«open».items ≡ m.«open».items ++ q ∷ []
    → m ≡ record n { position = q; «open» = m.«open» } → items_left m ≡ items_after n
leaves_to n m q over naming e same =
    ap items_left same
    ∙ left_at (record n { position = q; «open» = m.«open» }) None q.file over naming refl
    ∙ ap (put_into n) (sym (waiting-push m.«open».items q) ∙ ap waiting (sym e))

-- ---- the beginning of the top file

abbrev pub no_file : File
no_file = record { name = record { ref_ptr = (0, 0); now = [] }; bytes = record { ref_ptr = (0, 0); now = [] } }

pub count_top : (n : ℕ) → count_by not (true ∷ replicate n false) ≡ n
count_top n =
    let weight : Bool → ℕ = λ b. cond (not b) 1 0 in
    omega (arith, sum_by-replicate weight n false, sum_by_from weight (0 + 0) (replicate n false))

-- all files but the top file aren't named yet
pub room_at_begin : (files : List File) (named : List Bool) → 0 < length files → named ≡ replicate (length files) false → count_by not (slice_set named 0 true) ≡ length files - 1
room_at_begin [] named some e = absurd (omega arith)
room_at_begin (f ∷ files) named some e =
    let first : count_by not (slice_set named 0 true) ≡ length files = ap (λ l. count_by not (slice_set l 0 true)) e ∙ count_top (length files) in
    omega (arith, first)

pub begins : (files : List File) (d : File) (named : List Bool) (p : Position) (positions : List Position) → 0 < length files → named ≡ replicate (length files) false
    → p.bytes.now ≡ (get_or files 0 d).bytes.now → p.file ≡ 0 → p.at ≡ 0 → positions ≡ []
    → put_in (map plain_file files) (count_by not (slice_set named 0 true)) (slice_set named 0 true) (pieces p.file Outside (shown_at p) ++ waiting positions) ≡ items.items (map plain_file files)
begins [] d named p positions some e bytes file at none = absurd (omega arith)
begins (f ∷ files) d named p positions some e bytes file at none =
    let all = map plain_file (f ∷ files) in
    let others : ℕ = length (map plain_file files) in
    let first : slice_set named 0 true ≡ true ∷ replicate others false =
    rw (e, length-map files plain_file) refl in
    let count = ap (count_by not) first ∙ count_top others in
    (λ i. put_in all (count i) (first i) (pieces (file i) Outside
    (without_comments None (tokens_from (file i) (at i) (drop (at i) (bytes i))))
    ++ waiting (none i)))
    ∙ ap (put_in all others (true ∷ replicate others false)) (append-nil (pieces_of 0 (plain_file f)))

-- `grind` takes these by their names.
pub ruleset nest_steps = (
  nil_from_length,
  get_or_default,
  includes_wrong,
  includes_name,
  includes_unknown,
  includes_again,
  number_told,
  number_within,
  leaves_to,
  leaves_last,
  takes_token,
  takes_inclusion,
  takes_end,
  takes_word,
  none_there,
)
