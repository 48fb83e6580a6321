-- The pieces and the items of files of which one has other bytes between the `$=` and the `$.` of a
-- statement: up to them the same, then those, and then the same but for positions.
use Rattle.std.proofs.Common.{◌≡◌, ◌≢◌, ℕ, ◌+◌, ◌-◌, ◌≤◌, ◌==◌, Bool, true, cond, eq-eqb, List, []}
use Rattle.std.proofs.Common.{◌∷◌, ◌++◌, length, map, refl, sym, ap, ◌∙◌, subst, codes, None}
use Rattle.std.proofs.Common.{append_assoc, arith, zero, suc, false, Some, ◌⊎◌, inl, inr, replicate}
use Rattle.std.proofs.Common.{ne_eqb, length-append, get_or-set_other, slice_get, slice_index_or}
use Rattle.std.proofs.Common.{slice_set}
use Rattle.std.specs.List.{AllZip, AllByRecursion}
use Rattle.std.proofs.lemmas.List.{map-append, get_or-replicate}
use Rattle.std.proofs.Math.Seq.{take-append_seam, drop-append_seam}
use Rattle.std.proofs.Math.Decide.{ℕ_discrete}
use Rattle.std.proofs.lemmas.Option.{slice_get_cases, same_Some, slice_get_within}
use Rattle.mm_base.specs.Token.{PlainToken, tokens_from}
use Rattle.mm_text.specs.Files.{PlainFile}
use Rattle.mm_text.specs.Items.{Plain, Shown, Clear, without_comments, Outside, Piece, Met, pieces}
use Rattle.mm_text.specs.Items.{pieces_of, Item, Named, file_number, with_inclusions, put_before}
use Rattle.mm_text.specs.Items.{put_in, items}
use Rattle.mm_text.specs.Alike.{token_on, shown_on}
use Rattle.mm_text.specs.Replaced.{IsProofToken, IsProofText, with_span}
use Rattle.mm_base.proofs.TokensFrom.{BeginsWithSpace}
use Rattle.mm_text.proofs.Tokens.WordsAndComments.{outside-clear, no_dollar-spells}
use Rattle.mm_text.proofs.Inclusions.FilePieces.{pieces-plain, IsPlainIn, AllPlainIn, StandsInFile}
use Rattle.mm_text.proofs.Inclusions.FilePieces.{is_wrong, named_related, spliced_nil, spliced_met}
use Rattle.mm_text.proofs.Inclusions.FilePieces.{spliced_name}
use Rattle.mm_text.proofs.Alike.AlikeItems.{SamePiece, SameShown, shown_same, pieces_same, SameItem}
use Rattle.mm_text.proofs.Alike.AlikeItems.{spliced_same, pieces_agree, SameNames, as_long}
use Rattle.mm_text.proofs.Alike.AlikeItems.{same_number}
use Rattle.mm_text.proofs.Alike.StrippedFiles.{seen, lines_seen}
use Rattle.mm_text.proofs.Tokens.CutTokens.{IsSpaced, replaced_between, clear_shown}
use Rattle.mm_text.proofs.Inclusions.EachOnce.{Rises, rises_earlier, tokens_rise}
use Rattle.mm_base.proofs.Lists.{all_push, all_weaker, mapped_zip, zip_append, get_set_same}

-- ==== the pieces of a file in which other bytes stand between the `$=` and the `$.` of a statement

-- positions of the file with this number so much further on, and those of other files as they are
abbrev pub further : ℕ → ℕ → ℕ → ℕ → ℕ
further number by file at = cond (file == number) (at + by) at

pub further_here : (number by at : ℕ) → further number by number at ≡ at + by
further_here number by at = ap (λ (b : Bool). cond b (at + by) at) (eq-eqb number number refl)

pub further_elsewhere : (number by file at : ℕ) → file ≢ number → further number by file at ≡ at
further_elsewhere number by file at other = rw (ne_eqb file number other) refl

-- a text that may stand between a `$=` and a `$.` has white space at both ends
spaced : (text : List ℕ) → IsProofText text → IsSpaced text
spaced text t = record {
  inner = t.inner;
  last = t.last;
  whole = t.ends;
  begins = subst BeginsWithSpace (sym t.begins) t.first_space;
  ends = t.last_space;
}

-- ---- tokens of a proof

all_clear : (tokens more : List PlainToken) → AllByRecursion IsProofToken tokens → without_comments None (tokens ++ more) ≡ map Clear tokens ++ without_comments None more
all_clear [] more h = refl
all_clear (t ∷ tokens) more h =
    outside-clear t (tokens ++ more) h.0.0 (no_dollar-spells t.text 40 h.0.1) (no_dollar-spells t.text 41 h.0.1)
    ∙ ap (λ (l : List Shown). Clear t ∷ l) (all_clear tokens more h.1)

-- ---- pieces

-- a piece for each of the tokens
abbrev pub met : List PlainToken → List Piece
met tokens = map (λ t. Met (Plain t)) tokens

pieces_met : (number : ℕ) (tokens : List PlainToken) (rest : List Shown) → AllPlainIn number tokens → pieces number Outside (map Clear tokens ++ rest) ≡ met tokens ++ pieces number Outside rest
pieces_met number [] rest h = refl
pieces_met number (t ∷ tokens) rest h = h.0 (map Clear tokens ++ rest) ∙ ap (λ (l : List Piece). Met (Plain t) ∷ l) (pieces_met number tokens rest h.1)

-- ---- tokens that stand elsewhere

-- behind a token
rises_behind : (file n : ℕ) (before : List PlainToken) (t : PlainToken) (after : List PlainToken)
    → Rises file n (before ++ t ∷ after) → Rises file (t.at + 1) after
rises_behind file n [] t after r = r.2
rises_behind file n (u ∷ before) t after r = rises_behind file (u.at + 1) before t after r.2

-- tokens from a position on, and the same from another position on, are as far behind these
-- positions
moved_same : (number at to n : ℕ) (tokens : List PlainToken) → at ≤ n → Rises number n tokens
    → map (token_on (further number to)) tokens
    ≡ map (token_on (further number at)) (map (token_on (λ file m. to + (m - at))) tokens)
moved_same number at to n [] from r = refl
moved_same number at to n (t ∷ tokens) from r =
    let behind : at ≤ t.at = omega (arith, r.0) in
    let position : further number to t.file t.at ≡ further number at t.file (to + (t.at - at)) =
    let same : (number == number) ≡ true = eq-eqb number number refl in
    rw (r.1, same) (omega arith) in
    λ i. record { text = t.text; file = t.file; at = position i }
    ∷ moved_same number at to (t.at + 1) tokens (omega arith) r.2 i

moved_pieces : (number at to : ℕ) (tokens : List PlainToken) → Rises number at tokens
    → AllZip (SamePiece (further number to) (further number at))
    (pieces number Outside (without_comments None tokens))
    (pieces number Outside
    (without_comments None (map (token_on (λ file n. to + (n - at))) tokens)))
moved_pieces number at to tokens r =
    let one : ℕ → ℕ → ℕ = further number to in
    let two : ℕ → ℕ → ℕ = further number at in
    let others : List PlainToken = map (token_on (λ file n. to + (n - at))) tokens in
    let same = lines_seen one None tokens
    ∙ ap (seen None) (moved_same number at to at tokens (omega arith) r)
    ∙ sym (lines_seen two None others) in
    pieces_same one two number Outside Outside (without_comments None tokens)
    (without_comments None others) tt
    (mapped_zip (shown_on one) (shown_on two) (SameShown one two) (shown_same one two) _ _ same)

-- ---- the file

pub record ReplacedPieces (number : ℕ) (file : PlainFile) (text : List ℕ) (equals : PlainToken) (proof : List PlainToken) (stop : PlainToken) : Type 0 where
  pub before : List Piece
  pub after : List Piece
  pub others : List Piece
  pub old : pieces_of number file ≡ before ++ (met (equals ∷ (proof ++ stop ∷ [])) ++ after)
  pub new : let start : ℕ = equals.at + length equals.text in
      pieces_of number (record file { bytes = with_span file.bytes (start, stop.at) text })
      ≡ before ++ (met (equals ∷ (tokens_from number start text ++ record stop { at = start + length text } ∷ [])) ++ others)
  pub same : let end : ℕ = equals.at + length equals.text + length text in
      AllZip (SamePiece (further number end) (further number stop.at)) after others

pub replaced_pieces : (files : List PlainFile) (text : List ℕ) (equals : PlainToken) (proof : List PlainToken) (stop : PlainToken) → IsProofText text → stop.text ≡ codes "$."
    → (s : StandsInFile files equals (proof ++ stop ∷ [])) → ReplacedPieces s.number s.position.file text equals proof stop
replaced_pieces files text equals proof stop is_text sign s =
    let number : ℕ = s.number in
    let file : PlainFile = s.position.file in
    let r = s.position.reached in
    let shown : without_comments None (tokens_from number 0 file.bytes) ≡ map Clear r.tokens ++ Clear equals ∷ (map Clear (proof ++ stop ∷ []) ++ s.rest) =
    s.position.whole ∙ ap (λ (l : List Shown). l ++ Clear equals ∷ (map Clear (proof ++ stop ∷ []) ++ s.rest)) r.clear in
    let one = clear_shown None (tokens_from number 0 file.bytes) r.tokens equals (map Clear (proof ++ stop ∷ []) ++ s.rest) shown in
    let split : without_comments None one.after ≡ map Clear proof ++ Clear stop ∷ s.rest =
    sym one.later ∙ ap (λ (l : List Shown). l ++ s.rest) (map-append Clear proof (stop ∷ [])) ∙ append_assoc (map Clear proof) (Clear stop ∷ []) s.rest in
    let two = clear_shown None one.after proof stop s.rest split in
    let all : tokens_from number 0 file.bytes ≡ one.before ++ equals ∷ (two.before ++ stop ∷ two.after) = one.whole ∙ ap (λ (l : List PlainToken). one.before ++ equals ∷ l) two.whole in
    let b = replaced_between number file.bytes text one.before equals two.before stop two.after all
    (spaced text is_text) in
    let start : ℕ = equals.at + length equals.text in
    let line : ℕ → ℕ → ℕ = λ f n. start + length text + (n - stop.at) in
    let put : List PlainToken = tokens_from number (length b.prefix) text in
    let moved : PlainToken = token_on line stop in
    let later : List PlainToken = map (token_on line) two.after in
    let bytes : with_span file.bytes (start, stop.at) text ≡ b.prefix ++ (text ++ b.back) =
    cut file.bytes b.prefix b.within b.back text start stop.at b.whole b.start b.stop in
    let told : without_comments None (tokens_from number 0 (b.prefix ++ (text ++ b.back))) ≡ map Clear r.tokens ++ (map Clear (equals ∷ (put ++ moved ∷ [])) ++ without_comments None later) =
    ap (without_comments None) (b.tokens line (λ i. omega (arith, b.start)))
    ∙ one.others (put ++ moved ∷ later)
    ∙ ap (λ (l : List Shown). map Clear r.tokens ++ Clear equals ∷ l)
    (all_clear put (moved ∷ later) (is_text.tokens number (length b.prefix))
    ∙ ap (λ (l : List Shown). map Clear put ++ l)
    (outside-clear moved later (rw sign refl) (rw sign refl) (rw sign refl))
    ∙ sym (ap (λ (l : List Shown). l ++ without_comments None later) (map-append Clear put (moved ∷ [])) ∙ append_assoc (map Clear put) (Clear moved ∷ []) (without_comments None later))) in
    let reach : (more : List Shown) → pieces number Outside (map Clear r.tokens ++ more) ≡ r.prefix ++ pieces number Outside more = λ more.
    ap (λ (l : List Shown). pieces number Outside (l ++ more)) (sym r.clear) ∙ r.before more in
    let plain : AllPlainIn number (equals ∷ (put ++ moved ∷ [])) = (
      s.plain.0,
      all_push (IsPlainIn number) put moved (all_weaker IsProofToken (IsPlainIn number)
          (λ t h more. pieces-plain number t more (no_dollar-spells t.text 91 h.1)
          (simp (no_dollar-spells t.text 93 h.1, h.1))) put
          (is_text.tokens number (length b.prefix)))
          (λ more. pieces-plain number moved more (rw sign refl) (rw sign refl)),
    ) in
    let position : line stop.file stop.at ≡ start + length text = omega arith in
    let found : pieces_of number (record file { bytes = with_span file.bytes (start, stop.at) text })
    ≡ r.prefix ++ (met (equals ∷ (put ++ moved ∷ []))
    ++ pieces number Outside (without_comments None later)) =
    ap (λ (l : List ℕ). pieces number Outside (without_comments None (tokens_from number 0 l))) bytes
    ∙ ap (pieces number Outside) told ∙ reach (map Clear (equals ∷ (put ++ moved ∷ [])) ++ without_comments None later)
    ∙ ap (λ (l : List Piece). r.prefix ++ l) (pieces_met number (equals ∷ (put ++ moved ∷ [])) (without_comments None later) plain) in
    let behind : Rises number stop.at two.after =
    rises_earlier number stop.at (stop.at + 1) two.after (omega arith)
    (rises_behind number (equals.at + 1) two.before stop two.after
    (rises_behind number 0 one.before equals (two.before ++ stop ∷ two.after)
    (subst (Rises number 0) all (tokens_rise number 0 file.bytes)))) in
    record {
      before = r.prefix;
      after = pieces number Outside s.rest;
      others = pieces number Outside (without_comments None later);
      old = ap (pieces number Outside) shown ∙ reach (map Clear (equals ∷ (proof ++ stop ∷ [])) ++ s.rest)
          ∙ ap (λ (l : List Piece). r.prefix ++ l) (pieces_met number (equals ∷ (proof ++ stop ∷ [])) s.rest s.plain);
      new = found
          ∙ ap (λ (n : ℕ). r.prefix ++ (met (equals ∷ (put ++ record stop { at = n } ∷ [])) ++ pieces number Outside (without_comments None later))) position
          ∙ ap (λ (n : ℕ). r.prefix ++ (met (equals ∷ (tokens_from number n text ++ record stop { at = start + length text } ∷ [])) ++ pieces number Outside (without_comments None later))) (sym b.start);
      same = subst (λ (l : List Shown).
          AllZip (SamePiece (further number (start + length text)) (further number stop.at))
          (pieces number Outside l) (pieces number Outside (without_comments None later)))
          (sym two.later) (moved_pieces number stop.at (start + length text) two.after behind);
    }
  where
    cut : (bytes prefix within back text : List ℕ) (start stop : ℕ) → bytes ≡ prefix ++ (within ++ back) → start ≡ length prefix → stop ≡ length prefix + length within
        → with_span bytes (start, stop) text ≡ prefix ++ (text ++ back)
    cut bytes prefix within back text start stop e a b =
        rw (
          e,
          a,
          b,
          take-append_seam prefix (within ++ back),
          ← length-append prefix within,
          ← append_assoc prefix within back,
          drop-append_seam (prefix ++ within) back,
        ) refl

-- ==== the items of files of which one has other tokens in place of some: up to them the same, then
-- those, and then the same but for positions

module _ (h j : ℕ → ℕ → ℕ) (p q : List PlainToken) where
  -- up to some tokens the items are the same, after them they are but for positions
  pub record Alter (its others : List Item) : Type 0 where
    pub prefix : List Item
    pub old : List Item
    pub new : List Item
    pub here : its ≡ prefix ++ (map Plain p ++ old)
    pub there : others ≡ prefix ++ (map Plain q ++ new)
    pub same : AllZip (SameItem h j) old new

  abbrev pub SameOrAlter : List Item → List Item → Type 0
  SameOrAlter its others = (its ≡ others) ⊎ Alter its others

  -- one item more before, after which nothing follows if it is a fault
  after_item : (item : Item) (its others : List Item) → SameOrAlter its others → (w : Bool)
      → SameOrAlter (cond w (item ∷ []) (item ∷ its)) (cond w (item ∷ []) (item ∷ others))
  after_item item its others inner true = inl refl
  after_item item its others (inl e) false = inl (ap (λ (l : List Item). item ∷ l) e)
  after_item item its others (inr a) false = inr (record {
    prefix = item ∷ a.prefix;
    old = a.old;
    new = a.new;
    here = ap (λ (l : List Item). item ∷ l) a.here;
    there = ap (λ (l : List Item). item ∷ l) a.there;
    same = a.same;
  })

-- a file that is named stays so
pub still_named : (named : List Bool) (n k : ℕ) → slice_index_or named k true ≡ true → slice_index_or (slice_set named n true) k true ≡ true
still_named (b ∷ named) zero zero h = refl
still_named (b ∷ named) (suc n) (suc k) h = still_named named n k h
still_named named n k h = h

pub now_named : (named : List Bool) (k : ℕ) → slice_index_or (slice_set named k true) k true ≡ true
now_named [] k = refl
now_named (b ∷ named) zero = refl
now_named (b ∷ named) (suc k) = now_named named k

named_apart : (named : List Bool) (n k : ℕ) → slice_index_or named n true ≡ false → slice_index_or named k true ≡ true → n ≢ k
named_apart named n k e h same = cc

met_spliced : (files : List PlainFile) (named : List Bool) (next : ℕ → List Piece → List Item) (p : List PlainToken) (rest : List Piece) → with_inclusions files named next (met p ++ rest) ≡ map Plain p ++ with_inclusions files named next rest
met_spliced files named next [] rest = refl
met_spliced files named next (t ∷ p) rest = spliced_met files named next (Plain t) (met p ++ rest) ∙ ap (λ (l : List Item). Plain t ∷ l) (met_spliced files named next p rest)

module _ (h j : ℕ → ℕ → ℕ) (files others : List PlainFile) (k : ℕ) (f g : PlainFile)
    (p q : List PlainToken) (before after behind : List Piece)
    (numbers : (text : List ℕ) → file_number files text ≡ file_number others text)
    (elsewhere : (n : ℕ) → n ≢ k → slice_get others n ≡ slice_get files n)
    (here : slice_get files k ≡ Some f) (there : slice_get others k ≡ Some g)
    (old : pieces_of k f ≡ before ++ (met p ++ after))
    (new : pieces_of k g ≡ before ++ (met q ++ behind))
    (same : AllZip (SamePiece h j) after behind)
    (still : (n : ℕ) (file : PlainFile) → n ≢ k
    → AllZip (SamePiece h j) (pieces_of n file) (pieces_of n file)) where
  abbrev R : List Piece → List Piece → Type 0
  R ps qs = AllZip (SamePiece h j) ps qs

  abbrev Same : List Item → List Item → Type 0
  Same its items = AllZip (SameItem h j) its items

  abbrev Differ : List Item → List Item → Type 0
  Differ its items = SameOrAlter h j p q its items

  -- what the pieces of a file and others give, with so many more files put in
  abbrev old_next : ℕ → List Bool → ℕ → List Piece → List Item
  old_next left named n rest = put_in files left (slice_set named n true) (put_before files n rest)

  abbrev new_next : ℕ → List Bool → ℕ → List Piece → List Item
  new_next left named n rest =
      put_in others left (slice_set named n true) (put_before others n rest)

  -- the same file is put in
  put_same : (n : ℕ) (rest : List Piece) → n ≢ k
      → put_before others n rest ≡ put_before files n rest
  put_same n rest other = rw (elsewhere n other, put_before) refl

  put_zip : (n : ℕ) (ps qs : List Piece) → n ≢ k → R ps qs
      → R (put_before files n ps) (put_before files n qs)
  put_zip n ps qs other z = elim (slice_get_cases files n).1 [
    | inl (file, lt, e, read) ↦
        rw (e, put_before) (zip_append (SamePiece h j) _ _ ps qs (still n file other) z)
    | inr (past, e) ↦ rw (e, put_before) z
  ]

  -- ---- after the tokens

  put_in_after : (left : ℕ) (named : List Bool) → slice_index_or named k true ≡ true
      → (ps qs : List Piece) → R ps qs
      → Same (put_in files left named ps) (put_in others left named qs)
  unfolding put_in
  put_in_after zero named known ps qs z =
      spliced_same h j files others numbers named (λ n rest. []) (λ n rest. []) (λ n x y e w. tt)
      ps qs z
  put_in_after (suc left) named known ps qs z =
      spliced_same h j files others numbers named (old_next left named) (new_next left named)
      (λ n x y e w. let other = named_apart named n k e known in
      put_in_after left (slice_set named n true) (still_named named n k known)
      (put_before files n x) (put_before others n y)
      (rw (put_same n y other) (put_zip n x y other w))) ps qs z

  -- ---- in the file

  module _ (named : List Bool) (next on : ℕ → List Piece → List Item)
      (later : (ps qs : List Piece) → R ps qs
      → Same (with_inclusions files named next ps) (with_inclusions others named on qs))
      (goes : (n : ℕ) (a b c : List Piece) → slice_index_or named n true ≡ false → R b c
      → Differ (next n (a ++ (met p ++ b))) (on n (a ++ (met q ++ c)))) where
    spliced_within : (a b c : List Piece) → R b c
        → Differ (with_inclusions files named next (a ++ (met p ++ b)))
        (with_inclusions others named on (a ++ (met q ++ c)))
    spliced_within [] b c z = inr (record {
      prefix = [];
      old = with_inclusions files named next b;
      new = with_inclusions others named on c;
      here = met_spliced files named next p b;
      there = met_spliced others named on q c;
      same = later b c z;
    })
    spliced_within (Met item ∷ a) b c z =
        rw (spliced_met files named next item (a ++ (met p ++ b)))
        (rw (spliced_met others named on item (a ++ (met q ++ c)))
        (after_item h j p q item _ _ (spliced_within a b c z) (is_wrong item)))
    spliced_within (Named t ∷ a) b c z =
        let ps : List Piece = a ++ (met p ++ b) in
        let qs : List Piece = a ++ (met q ++ c) in
        rw (spliced_name files named next t ps) (rw (spliced_name others named on t qs)
        (named_related Differ named t t _ _ (λ n. next n ps) (λ n. on n qs) (inl refl)
        (spliced_within a b c z) (λ n e. goes n a b c e z) (file_number files t.text) _
        (numbers t.text)))

  put_longer : (n : ℕ) (a : List Piece)
      → (longer : List Piece) × ((ps : List Piece) → put_before files n (a ++ ps) ≡ longer ++ ps)
  put_longer n a = elim (slice_get_cases files n).1 [
    | inl (file, lt, e, read) ↦
        (pieces_of n file ++ a, λ ps. rw (e, put_before) (simp append_assoc))
    | inr (past, e) ↦ (a, λ ps. rw (e, put_before) refl)
  ]

  put_in_within : (left : ℕ) (named : List Bool) → slice_index_or named k true ≡ true
      → (a b c : List Piece) → R b c
      → Differ (put_in files left named (a ++ (met p ++ b)))
      (put_in others left named (a ++ (met q ++ c)))
  unfolding put_in
  put_in_within zero named known a b c z =
      spliced_within named (λ n rest. []) (λ n rest. [])
      (spliced_same h j files others numbers named (λ n rest. []) (λ n rest. []) (λ n x y e v. tt))
      (λ n x y w e v. inl refl) a b c z
  put_in_within (suc left) named known a b c z =
      spliced_within named (old_next left named) (new_next left named)
      (put_in_after (suc left) named known)
      (λ n x y w e v. let longer = put_longer n x in
      let there = put_same n (x ++ (met q ++ w)) (named_apart named n k e known)
      ∙ longer.1 (met q ++ w) in
      rw (longer.1 (met p ++ y), there)
      (put_in_within left (slice_set named n true) (still_named named n k known) longer.0 y w v))
      a b c z

  -- ---- before the file

  module _ (named : List Bool) (next on : ℕ → List Piece → List Item)
      (goes : (n : ℕ) (ps : List Piece) → slice_index_or named n true ≡ false → R ps ps
      → Differ (next n ps) (on n ps)) where
    spliced_before : (ps : List Piece) → R ps ps
        → Differ (with_inclusions files named next ps) (with_inclusions others named on ps)
    spliced_before [] z = inl (spliced_nil files named next ∙ sym (spliced_nil others named on))
    spliced_before (Met item ∷ ps) z =
        rw (spliced_met files named next item ps) (rw (spliced_met others named on item ps)
        (after_item h j p q item _ _ (spliced_before ps z.1) (is_wrong item)))
    spliced_before (Named t ∷ ps) z =
        rw (spliced_name files named next t ps) (rw (spliced_name others named on t ps)
        (named_related Differ named t t _ _ (λ n. next n ps) (λ n. on n ps) (inl refl)
        (spliced_before ps z.1) (λ n e. goes n ps e z.1) (file_number files t.text) _
        (numbers t.text)))

  put_in_before : (left : ℕ) (named : List Bool) → slice_index_or named k true ≡ false
      → (ps : List Piece) → R ps ps
      → Differ (put_in files left named ps) (put_in others left named ps)
  unfolding put_in
  put_in_before zero named known ps z =
      spliced_before named (λ n rest. []) (λ n rest. []) (λ n x e w. inl refl) ps z
  put_in_before (suc left) named known ps z =
      spliced_before named (old_next left named) (new_next left named)
      (λ n x f w. elim (ℕ_discrete n k) [
        | yes e ↦
            let first : put_before files k x ≡ before ++ (met p ++ (after ++ x)) =
            rw (here, put_before) (rw old (simp append_assoc)) in
            let second : put_before others k x ≡ before ++ (met q ++ (behind ++ x)) =
            rw (there, put_before) (rw new (simp append_assoc)) in
            rw (e, first, second)
            (put_in_within left (slice_set named k true) (now_named named k) before (after ++ x)
            (behind ++ x) (zip_append (SamePiece h j) after behind x x same w))
        | no other ↦
            rw (put_same n x other) (put_in_before left (slice_set named n true)
            (get_or-set_other named n k true true (λ e. other (sym e)) ∙ known)
            (put_before files n x) (put_zip n x x other w))
      ]) ps z

-- ==== the items of files of which one has other bytes between the `$=` and the `$.` of a statement

-- ---- files of which one is another

-- the files with another one at a number
abbrev pub with_file : List PlainFile → ℕ → PlainFile → List PlainFile
with_file files number file = slice_set files number file

same_names_all : (files : List PlainFile) → SameNames files files
same_names_all [] = tt
same_names_all (f ∷ files) = (refl, same_names_all files)

same_names : (files : List PlainFile) (k : ℕ) (f g : PlainFile) → slice_get files k ≡ Some f → f.name ≡ g.name → SameNames files (with_file files k g)
same_names [] k f g there e = tt
same_names (h ∷ files) zero f g there e = (ap (λ (x : PlainFile). x.name) (same_Some h f there) ∙ e, same_names_all files)
same_names (h ∷ files) (suc k) f g there e = (refl, same_names files k f g there e)

pub set_there : (files : List PlainFile) (k : ℕ) (f g : PlainFile) → slice_get files k ≡ Some f → slice_get (with_file files k g) k ≡ Some g
set_there files k f g there = get_set_same files k g (slice_get_within files k f there)

set_elsewhere : (files : List PlainFile) (k : ℕ) (g : PlainFile) (n : ℕ) → n ≢ k → slice_get (with_file files k g) n ≡ slice_get files n
set_elsewhere (h ∷ files) zero g zero other = absurd (other refl)
set_elsewhere (h ∷ files) (suc k) g (suc n) other = set_elsewhere files k g n (λ e. other (ap suc e))
set_elsewhere files k g n other = refl

-- ---- the items

-- what stands between the `$=` and the `$.` in the file where other bytes do, and both signs
abbrev pub replacing : ℕ → List ℕ → PlainToken → PlainToken → List PlainToken
replacing number text equals stop =
    let start : ℕ = equals.at + length equals.text in
    equals ∷ (tokens_from number start text ++ record stop { at = start + length text } ∷ [])

module _ (text : List ℕ) (equals : PlainToken) (proof : List PlainToken) (stop : PlainToken)
    (h j : ℕ → ℕ → ℕ) where
  abbrev run : List PlainToken
  run = equals ∷ (proof ++ stop ∷ [])

  -- The pieces of a file and of the one with the other bytes. Of the positions behind these the two
  -- functions tell the same, and so they do of those in the other files.
  record AreReplaced (k : ℕ) (f g : PlainFile) : Type 0 where
    before : List Piece
    after : List Piece
    behind : List Piece
    name : f.name ≡ g.name
    old : pieces_of k f ≡ before ++ (met run ++ after)
    new : pieces_of k g ≡ before ++ (met (replacing k text equals stop) ++ behind)
    same : AllZip (SamePiece h j) after behind
    still : (n : ℕ) (file : PlainFile) → n ≢ k
        → AllZip (SamePiece h j) (pieces_of n file) (pieces_of n file)

  abbrev DifferAt : ℕ → List Item → List Item → Type 0
  DifferAt k its others = SameOrAlter h j run (replacing k text equals stop) its others

  -- in the top file
  top_replaced : (top : PlainFile) (others : List PlainFile) (f g : PlainFile)
      → slice_get (top ∷ others) 0 ≡ Some f → AreReplaced 0 f g
      → DifferAt 0 (items (top ∷ others)) (items (with_file (top ∷ others) 0 g))
  top_replaced top others f g there r =
      let files : List PlainFile = top ∷ others in
      let changed : List PlainFile = g ∷ others in
      let long : ℕ = length others in
      let named : List Bool = true ∷ replicate long false in
      let numbers = same_number files changed (same_names files 0 f g there r.name) in
      let inner =
      put_in_within h j files changed 0 f g run (replacing 0 text equals stop) r.before r.after
      r.behind numbers (set_elsewhere files 0 g) there refl r.old r.new r.same r.still long named
      refl r.before r.after r.behind r.same in
      rw (ap (pieces_of 0) (same_Some top f there) ∙ r.old, r.new) inner

  -- in another file
  other_replaced : (top : PlainFile) (others : List PlainFile) (k : ℕ) (f g : PlainFile)
      → slice_get (top ∷ others) (suc k) ≡ Some f → AreReplaced (suc k) f g
      → DifferAt (suc k) (items (top ∷ others)) (items (with_file (top ∷ others) (suc k) g))
  other_replaced top others k f g there r =
      let files : List PlainFile = top ∷ others in
      let changed : List PlainFile = top ∷ with_file others k g in
      let named : List Bool = true ∷ replicate (length others) false in
      let long = as_long others (with_file others k g) (same_names others k f g there r.name) in
      let numbers = same_number files changed (same_names files (suc k) f g there r.name) in
      let inner =
      put_in_before h j files changed (suc k) f g run (replacing (suc k) text equals stop) r.before
      r.after r.behind numbers (set_elsewhere files (suc k) g) there
      (set_there files (suc k) f g there) r.old r.new r.same r.still (length others) named
      (get_or-replicate _ k false true (slice_get_within others k f there)) (pieces_of 0 top)
      (r.still 0 top (λ e. omega (arith, e))) in
      subst (λ n. DifferAt (suc k) (put_in files (length others) named (pieces_of 0 top))
      (put_in changed n (true ∷ replicate n false) (pieces_of 0 top))) long inner

  replaced_at : (files : List PlainFile) (k : ℕ) (f g : PlainFile) → slice_get files k ≡ Some f
      → AreReplaced k f g → DifferAt k (items files) (items (with_file files k g))
  replaced_at [] k f g there r = absurd cc
  replaced_at (top ∷ others) zero f g there r = top_replaced top others f g there r
  replaced_at (top ∷ others) (suc k) f g there r = other_replaced top others k f g there r

-- the items behind the tokens stand as far behind the other bytes as behind the old ones
pub replaced_items : (text : List ℕ) (equals : PlainToken) (proof : List PlainToken)
    (stop : PlainToken) → IsProofText text → stop.text ≡ codes "$." → (files : List PlainFile)
    (s : StandsInFile files equals (proof ++ stop ∷ []))
    → let start : ℕ = equals.at + length equals.text in
    let bytes : List ℕ = with_span s.position.file.bytes (start, stop.at) text in
    SameOrAlter (further s.number (start + length text)) (further s.number stop.at)
    (equals ∷ (proof ++ stop ∷ [])) (replacing s.number text equals stop) (items files)
    (items (with_file files s.number (record s.position.file { bytes = bytes })))
replaced_items text equals proof stop is_text sign files s =
    let start : ℕ = equals.at + length equals.text in
    let h : ℕ → ℕ → ℕ = further s.number (start + length text) in
    let j : ℕ → ℕ → ℕ = further s.number stop.at in
    let r = replaced_pieces files text equals proof stop is_text sign s in
    let bytes : List ℕ = with_span s.position.file.bytes (start, stop.at) text in
    let g : PlainFile = record s.position.file { bytes = bytes } in
    replaced_at text equals proof stop h j files s.number s.position.file g s.position.there (record {
      before = r.before;
      after = r.after;
      behind = r.others;
      name = refl;
      old = r.old;
      new = r.new;
      same = r.same;
      still = λ n file other. pieces_agree h j n file (λ at.
          further_elsewhere s.number (start + length text) n at other
          ∙ sym (further_elsewhere s.number stop.at n at other));
    })
