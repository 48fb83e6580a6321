-- Each file is put in at most once: what is counted of all items is at most what is counted of each
-- file once. So each of its tokens is met at most once, and as many files as there are can be put
-- in: that more could be changes nothing.
use Rattle.std.proofs.Common.{add-zero, ◌≡◌, ℕ, zero, suc, ◌+◌, ◌≤◌, List, [], ◌∷◌, ◌++◌, length}
use Rattle.std.proofs.Common.{Bool, true, false, cond, refl, ap, Some, replicate, arith, None}
use Rattle.std.proofs.Common.{Option, ◌<◌, ◌==◌, ◌&&◌, sym, ◌∙◌, subst, eqb-true, count_by, not}
use Rattle.std.proofs.Common.{slice_index_or, slice_set, slice_get, sum_by, ne_eqb}
use Rattle.std.proofs.lemmas.List.Sums.{sum_by_from}
use Rattle.std.proofs.lemmas.Bool.{and_parts, cond_both}
use Rattle.mm_text.specs.declared.fault.TextRule.{TextRule}
use Rattle.mm_base.specs.Token.{PlainToken, tokens_from}
use Rattle.mm_text.specs.Files.{PlainFile, total_bytes}
use Rattle.mm_text.specs.Items.{Item, Wrong, Piece, Met, Named, pieces_of, put_before, put_in}
use Rattle.mm_text.specs.Items.{items, Plain, Inclusion, End, Shown, Clear, Broken}
use Rattle.mm_text.specs.Items.{without_comments, Spot, Outside, pieces, plain_tokens, file_number}
use Rattle.mm_text.specs.Items.{with_inclusions}
use Rattle.mm_text.specs.Laws.{InclusionsEnd}
use Rattle.mm_text.proofs.Tokens.StepByStep.{put_before_by, put_in_by, shown_by}
use Rattle.mm_base.proofs.TokensByByte.{tokens_by}
use Rattle.mm_text.proofs.Tokens.StepByStep.{pieces_by}
use Rattle.mm_text.proofs.Inclusions.FilePieces.{named_related}
use Rattle.mm_text.proofs.Inclusions.OpenFiles.{in_range, count_named, count_top}

-- ==== what is counted of the items of all files is at most what is counted of each file once

module _ (w : Item → ℕ) where
  abbrev pub weigh : List Item → ℕ
  weigh [] = 0
  weigh (i ∷ rest) = w i + weigh rest

  abbrev pub weigh_pieces : List Piece → ℕ
  weigh_pieces [] = 0
  weigh_pieces (Met i ∷ rest) = w i + weigh_pieces rest
  weigh_pieces (Named name ∷ rest) = weigh_pieces rest

  pub weigh_pieces-append : (a b : List Piece) → weigh_pieces (a ++ b) ≡ weigh_pieces a + weigh_pieces b
  weigh_pieces-append [] b = omega arith
  weigh_pieces-append (Met i ∷ a) b = omega (arith, weigh_pieces-append a b)
  weigh_pieces-append (Named name ∷ a) b = weigh_pieces-append a b

  -- the files that weren't named yet
  abbrev pub unnamed : ℕ → List PlainFile → List Bool → ℕ
  unnamed k [] named = 0
  unnamed k (f ∷ files) [] = 0
  unnamed k (f ∷ files) (b ∷ named) = cond b 0 (weigh_pieces (pieces_of k f)) + unnamed (k + 1) files named

  -- all files, each once
  abbrev pub each_once : ℕ → List PlainFile → ℕ
  each_once k [] = 0
  each_once k (f ∷ files) = weigh_pieces (pieces_of k f) + each_once (k + 1) files

  unnamed_all : (k : ℕ) (files : List PlainFile) → unnamed k files (replicate (length files) false) ≡ each_once k files
  unnamed_all k [] = refl
  unnamed_all k (f ∷ files) = ap (λ n. weigh_pieces (pieces_of k f) + n) (unnamed_all (k + 1) files)

  unnamed_set : (k : ℕ) (files : List PlainFile) (named : List Bool) (n : ℕ) (f : PlainFile) → slice_get files n ≡ Some f → slice_index_or named n true ≡ false
      → weigh_pieces (pieces_of (k + n) f) + unnamed k files (slice_set named n true) ≡ unnamed k files named
  unnamed_set k (g ∷ files) (b ∷ named) zero f e h =
      let same : f ≡ g = cc in
      rw (add-zero k, same, h) (omega arith)
  unnamed_set k (g ∷ files) (b ∷ named) (suc n) f e h =
      let inner = unnamed_set (k + 1) files named n f e h in
      let step : k + suc n ≡ k + 1 + n = omega arith in
      let here = ap (λ m. weigh_pieces (pieces_of m f)) step in
      omega arith
  unnamed_set k files named n f e h = absurd cc

  unnamed_less : (k : ℕ) (files : List PlainFile) (named : List Bool) (n : ℕ) → unnamed k files (slice_set named n true) ≤ unnamed k files named
  unnamed_less k (f ∷ files) (b ∷ named) (suc n) = omega (arith, unnamed_less (k + 1) files named n)
  unnamed_less k files named n = omega arith

  -- a file that is put in is counted no longer as one that wasn't named
  put_before_weight : (files : List PlainFile) (named : List Bool) (n : ℕ) (rest : List Piece) → slice_index_or named n true ≡ false
      → weigh_pieces (put_before files n rest) + unnamed 0 files (slice_set named n true) ≤ weigh_pieces rest + unnamed 0 files named
  put_before_weight files named n rest h =
      let less : ℕ = unnamed 0 files (slice_set named n true) in
      let all : ℕ = weigh_pieces rest + unnamed 0 files named in
      put_before_by (λ ps. weigh_pieces ps + less ≤ all) files n rest
      (omega (arith, unnamed_less 0 files named n)) (λ f e.
      let first : 0 + n ≡ n = omega arith in
      let position = ap (λ m. weigh_pieces (pieces_of m f)) first in
      let own = weigh_pieces-append (pieces_of n f) rest in
      omega (arith, unnamed_set 0 files named n f e h))

  module _ (faults : (rule : TextRule) (t : PlainToken) → w (Wrong rule t) ≡ 0) where
    put_in_weight : (files : List PlainFile) (left : ℕ) (named : List Bool) (ps : List Piece) → weigh (put_in files left named ps) ≤ weigh_pieces ps + unnamed 0 files named
    put_in_weight files left named ps =
        put_in_by files (λ _ flags qs its. weigh its ≤ weigh_pieces qs + unnamed 0 files flags)
        (λ _ flags. omega arith) (λ _ flags p qs rule t. omega (arith, faults rule t))
        (λ _ flags t qs its inner. omega arith) (λ _ flags t qs its inner. omega arith)
        (λ _ flags n qs its inner. omega arith) (λ _ flags name qs its inner. inner)
        (λ flags name n qs new. omega arith) (λ _ flags name n qs its new inner.
        omega (arith, inner, put_before_weight files flags n qs new)) left named ps

    -- the items of the files count at most what each file counts once
    items_weight : (files : List PlainFile) → weigh (items files) ≤ each_once 0 files
    items_weight [] = omega arith
    items_weight (top ∷ others) =
        omega (arith, put_in_weight (top ∷ others) (length others) (true ∷ replicate (length others) false) (pieces_of 0 top), unnamed_all (0 + 1) others)

-- ==== what is counted of the pieces of a file is at most what is counted of its tokens and of its
-- end

-- what is counted of a token, and of the end of a file
abbrev pub weight_of : (PlainToken → ℕ) → (ℕ → ℕ) → Item → ℕ
weight_of v e (Plain t) = v t
weight_of v e (Wrong rule t) = 0
weight_of v e (Inclusion t) = 0
weight_of v e (End n) = e n

module _ (v : PlainToken → ℕ) where
  abbrev pub weigh_shown : List Shown → ℕ
  weigh_shown [] = 0
  weigh_shown (Clear t ∷ rest) = v t + weigh_shown rest
  weigh_shown (Broken rule t ∷ rest) = 0

  abbrev pub weigh_tokens : List PlainToken → ℕ
  weigh_tokens [] = 0
  weigh_tokens (t ∷ rest) = v t + weigh_tokens rest

  uncommented_weight : (begin : Option PlainToken) (tokens : List PlainToken) → weigh_shown (without_comments begin tokens) ≤ weigh_tokens tokens
  uncommented_weight begin tokens =
      shown_by (λ ts shown. weigh_shown shown ≤ weigh_tokens ts) (omega arith)
      (λ ts rule t. omega arith) (λ t ts shown inner. omega arith) (λ t ts shown inner. omega arith)
      begin tokens

  module _ (e : ℕ → ℕ) where
    pieces_weight : (file : ℕ) (spot : Spot) (shown : List Shown) → weigh_pieces (weight_of v e) (pieces file spot shown) ≤ weigh_shown shown + e file
    pieces_weight file spot shown =
        pieces_by file (λ rest ps. weigh_pieces (weight_of v e) ps ≤ weigh_shown rest + e file)
        (omega arith) (λ rest rule t. omega arith) (λ t rest ps inner. omega arith)
        (λ t rest ps inner. omega arith) (λ t rest ps inner. omega arith)
        (λ t name rest ps inner. omega arith) spot shown

    -- a file counts at most its tokens and its end
    pub file_weight : (number : ℕ) (file : PlainFile) → weigh_pieces (weight_of v e) (pieces_of number file) ≤ weigh_tokens (tokens_from number 0 file.bytes) + e number
    file_weight number file = omega (arith, pieces_weight number Outside (without_comments None (tokens_from number 0 file.bytes)), uncommented_weight None (tokens_from number 0 file.bytes))

-- ---- bytes

abbrev bytes_of : PlainToken → ℕ
bytes_of t = length t.text

tokens_bytes : (file at : ℕ) (bytes : List ℕ) → weigh_tokens bytes_of (tokens_from file at bytes) ≤ length bytes
tokens_bytes file at bytes =
    tokens_by file (λ _ bs tokens. weigh_tokens bytes_of tokens ≤ length bs) (λ n. omega arith)
    (λ n b bs tokens inner. omega arith) (λ n b bs tokens inner. omega arith)
    (λ n b bs t tokens e inner. omega arith) at bytes

bytes_once : (k : ℕ) (files : List PlainFile) → each_once (weight_of bytes_of (λ n. 0)) k files ≤ total_bytes files
bytes_once k [] = omega arith
bytes_once k (f ∷ files) =
    omega (arith, bytes_once (k + 1) files, file_weight bytes_of (λ n. 0) k f, tokens_bytes k 0 f.bytes, sum_by_from (λ (g : PlainFile). length g.bytes) (0 + length f.bytes) files)

weigh_plain : (v : PlainToken → ℕ) (its : List Item) → weigh (weight_of v (λ n. 0)) its ≡ sum_by v (plain_tokens its)
weigh_plain v [] = refl
weigh_plain v (Plain t ∷ rest) = omega (arith, weigh_plain v rest, sum_by_from v (0 + v t) (plain_tokens rest))
weigh_plain v (item ∷ rest) = omega (arith, weigh_plain v rest)

no_fault_weight : (v : PlainToken → ℕ) (e : ℕ → ℕ) (rule : TextRule) (t : PlainToken) → weight_of v e (Wrong rule t) ≡ 0
no_fault_weight v e rule t = refl

pub tokens_fit : (files : List PlainFile) → sum_by (λ t. length t.text) (plain_tokens (items files)) ≤ total_bytes files
tokens_fit files =
    omega (arith, weigh_plain bytes_of (items files), items_weight (weight_of bytes_of (λ n. 0)) (no_fault_weight bytes_of (λ n. 0)) files, bytes_once 0 files)

-- ==== each file is put in at most once: each of its tokens is met at most once

-- what is counted in one file alone, and there at most once, is counted at most once in all
module _ (w : Item → ℕ) (file : ℕ) (bound : (k : ℕ) (f : PlainFile) → weigh_pieces w (pieces_of k f) ≤ cond (k == file) 1 0) where
  later_none : (k : ℕ) (files : List PlainFile) → file < k → each_once w k files ≤ 0
  later_none k [] above = omega arith
  later_none k (f ∷ files) above =
      let here : weigh_pieces w (pieces_of k f) ≤ 0 = subst (λ b. weigh_pieces w (pieces_of k f) ≤ cond b 1 0) (ne_eqb k file (λ e. omega (arith, e))) (bound k f) in
      omega (arith, here, later_none (k + 1) files (omega arith))

  at_most_once : (k : ℕ) (files : List PlainFile) → each_once w k files ≤ 1
  at_most_once k [] = omega arith
  at_most_once k (f ∷ files) =
      let rest = at_most_once (k + 1) files in
      let here : ℕ = weigh_pieces w (pieces_of k f) in
      cond_both (k == file) _ _ (λ (n : ℕ). here ≤ n → here + each_once w (k + 1) files ≤ 1)
      (λ e le. let same : k ≡ file = eqb-true k file e in
      omega (arith, later_none (k + 1) files (omega arith))) (λ _ le. omega arith) (bound k f)

-- tokens of a file, each at a later position than those before it
abbrev pub Rises : ℕ → ℕ → List PlainToken → Type 0
Rises file n [] = Unit {0}
Rises file n (t ∷ tokens) = (n ≤ t.at) × (t.file ≡ file) × Rises file (t.at + 1) tokens

pub rises_earlier : (file m n : ℕ) (tokens : List PlainToken) → m ≤ n → Rises file n tokens → Rises file m tokens
rises_earlier file m n [] h r = tt
rises_earlier file m n (t ∷ tokens) h r = (omega (arith, r.0), r.1, r.2)

pub tokens_rise : (file at : ℕ) (bytes : List ℕ) → Rises file at (tokens_from file at bytes)
tokens_rise file at bytes =
    tokens_by file (λ n _ tokens. Rises file n tokens) (λ n. tt)
    (λ n b bs tokens inner. rises_earlier file n (n + 1) tokens (omega arith) inner)
    (λ n b bs tokens inner. (omega arith, refl, inner)) (λ n b bs t tokens e inner.
    (omega arith, refl, rises_earlier file (n + 1) (t.at + 1) tokens (omega (arith, e)) inner.2))
    at bytes

abbrev pub token_weight : ℕ → ℕ → PlainToken → ℕ
token_weight file at t = cond (t.file == file && t.at == at) 1 0

after_none : (file at k n : ℕ) (tokens : List PlainToken) → at < n → Rises k n tokens → weigh_tokens (token_weight file at) tokens ≤ 0
after_none file at k n [] h r = omega arith
after_none file at k n (t ∷ tokens) h r =
    let rest = after_none file at k (t.at + 1) tokens (omega (arith, r.0)) r.2 in
    cond_both (t.file == file && t.at == at) _ _
    (λ (m : ℕ). m + weigh_tokens (token_weight file at) tokens ≤ 0)
    (λ e. let same : t.at ≡ at = eqb-true t.at at (and_parts (t.file == file) (t.at == at) e).1 in
    absurd (omega (arith, r.0))) (λ _. omega arith)

pub one_token : (file at k n : ℕ) (tokens : List PlainToken) → Rises k n tokens → weigh_tokens (token_weight file at) tokens ≤ cond (k == file) 1 0
one_token file at k n [] r = omega arith
one_token file at k n (t ∷ tokens) r =
    let rest = one_token file at k (t.at + 1) tokens r.2 in
    cond_both (t.file == file && t.at == at) _ _
    (λ (m : ℕ). m + weigh_tokens (token_weight file at) tokens ≤ cond (k == file) 1 0)
    (λ e. let (own, here) = and_parts (t.file == file) (t.at == at) e in
    let same : t.at ≡ at = eqb-true t.at at here in
    let home : (k == file) ≡ true = ap (λ m. m == file) (sym r.1) ∙ own in
    rw home (omega (arith, after_none file at k (t.at + 1) tokens (omega arith) r.2)))
    (λ _. omega arith)

pub one_position : (file at : ℕ) (files : List PlainFile)
    → count_by (λ t. t.file == file && t.at == at) (plain_tokens (items files)) ≤ 1
one_position file at files =
    let w = weight_of (token_weight file at) (λ n. 0) in
    omega (
      arith,
      weigh_plain (token_weight file at) (items files),
      items_weight w (no_fault_weight (token_weight file at) (λ n. 0)) files,
      at_most_once w file (λ k f. omega (arith, file_weight (token_weight file at) (λ n. 0) k f, one_token file at k 0 (tokens_from k 0 f.bytes) (tokens_rise k 0 f.bytes))) 0 files,
    )

-- ==== so many files as there are can be put in: that more could be changes nothing

-- what happens at a file that is named for the first time decides all
spliced_same : (files : List PlainFile) (named : List Bool) (one other : ℕ → List Piece → List Item)
    → ((n : ℕ) (rest : List Piece) → slice_index_or named n true ≡ false → one n rest ≡ other n rest)
    → (ps : List Piece) → with_inclusions files named one ps ≡ with_inclusions files named other ps
unfolding with_inclusions
spliced_same files named one other same [] = refl
spliced_same files named one other same (Met (Wrong rule t) ∷ rest) = refl
spliced_same files named one other same (Met item ∷ rest) = ap (λ (l : List Item). item ∷ l) (spliced_same files named one other same rest)
spliced_same files named one other same (Named name ∷ rest) =
    named_related (λ its others. its ≡ others) named name name _ _ (λ n. one n rest)
    (λ n. other n rest) refl (spliced_same files named one other same rest) (λ n e. same n rest e)
    (file_number files name.text) _ refl

put_in_any : (files : List PlainFile) (a b : ℕ) (named : List Bool) (ps : List Piece) → count_by not named ≤ a → count_by not named ≤ b → put_in files a named ps ≡ put_in files b named ps
unfolding put_in
put_in_any files zero zero named ps h k = refl
put_in_any files zero (suc b) named ps h k = spliced_same files named _ _ (λ n rest e. absurd (omega (arith, count_named named n (in_range named n e) e, h))) ps
put_in_any files (suc a) zero named ps h k = spliced_same files named _ _ (λ n rest e. absurd (omega (arith, count_named named n (in_range named n e) e, k))) ps
put_in_any files (suc a) (suc b) named ps h k =
    spliced_same files named _ _
    (λ n rest e. put_in_any files a b (slice_set named n true) (put_before files n rest)
    (omega (arith, count_named named n (in_range named n e) e, h)) (omega (arith, count_named named n (in_range named n e) e, k)))
    ps

pub inclusions_end : InclusionsEnd
inclusions_end top others more =
    put_in_any (top ∷ others) (length others + more) (length others) (true ∷ replicate (length others) false) (pieces_of 0 top)
    (omega (arith, count_top (length others))) (omega (arith, count_top (length others)))
