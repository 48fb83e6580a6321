-- How the tokens of a file come from its bytes: white space is skipped, a run of other bytes is
-- one token, and a comment is skipped up to its end.
use Rattle.std.proofs.Common.{◌≡◌, ℕ, ◌+◌, ◌-◌, ◌<◌, ◌≤◌, ◌==◌, List, [], ◌∷◌, ◌++◌, length, get_or}
use Rattle.std.proofs.Common.{drop, true, false, refl, sym, ap, ◌∙◌, subst, arith, add-zero}
use Rattle.std.proofs.Common.{⊎_elim, append-nil, ◌&&◌, ◌||◌, take, Bool, cond, not, Some, None}
use Rattle.std.proofs.Common.{◌⊎◌, inl, inr, slice_range, codes, drop-drop, take-append-drop}
use Rattle.std.proofs.Common.{get_or-drop, get_or-take, length-drop, length-take-le}
use Rattle.std.specs.List.{AllByRecursion, list_any, list_all}
use Rattle.std.proofs.lemmas.List.{drop_more, drop_all}
use Rattle.std.proofs.lemmas.Bool.{cases_Bool, cases_lt, cond_both, or_parts, or_right, both_ways}
use Rattle.std.proofs.str.Laws.{order}
use Rattle.std.proofs.lemmas.List.Folds.{list_all_at}
use Rattle.mm_base.specs.Token.{PlainToken, is_space, with_byte, tokens_from, is_printable}
use Rattle.mm_text.specs.declared.fault.TextRule.TheVariants.{X1, X2, X3, X4}
use Rattle.mm_text.specs.Items.{Clear, Broken, without_comments, holds_mark}
use Rattle.mm_base.specs.Spelling.{spells}
use Rattle.mm_text.specs.Mirror.Position.{is_legal, is_quiet, IsLegalPrefix, IsLegalUpTo, IsMarkAt}
use Rattle.mm_text.specs.Mirror.Position.{IsClosedAt, IsLater, comment_at, shown_at}
use Rattle.mm_text.specs.declared.comments.Position.{Position}
use Rattle.mm_base.specs.MostBytes.{most_bytes}
use Rattle.mm_base.proofs.Lists.{all_positions, choice_mapped}
use Rattle.mm_text.proofs.Tokens.ManyBytes.{all_from_positions}
use Rattle.mm_base.proofs.TokensFrom.{AreInk, BeginFrom, BeginsWithSpace, begin_earlier, run, tokens_from-nil, tokens_from-run, tokens_from-space, with_byte_apart, with_byte_joined}

-- the same, of the bytes of a file by their positions

-- a byte of white space is stepped over
pub tokens_from-step : (bytes : List ℕ) (file at : ℕ) → at < length bytes → is_space (get_or bytes at 0) ≡ true → tokens_from file at (drop at bytes) ≡ tokens_from file (at + 1) (drop (at + 1) bytes)
tokens_from-step bytes file at within space =
    ap (tokens_from file at) (drop_more bytes at 0 within) ∙ tokens_from-space file at _ _ space

-- at the end of a file there is no token
pub tokens_from-end : (bytes : List ℕ) (file at : ℕ) → length bytes ≤ at → tokens_from file at (drop at bytes) ≡ []
tokens_from-end bytes file at past = ap (tokens_from file at) (drop_all at bytes past) ∙ tokens_from-nil file at

space_from_position : (bytes : List ℕ) → (0 < length bytes → is_space (get_or bytes 0 0) ≡ true) → BeginsWithSpace bytes
space_from_position [] h = tt
space_from_position (b ∷ bytes) h = h (omega arith)

run_of : (file at : ℕ) (run rest : List ℕ) → 0 < length run → AreInk run → BeginsWithSpace rest → tokens_from file at (run ++ rest) ≡ record { text = run; file = file; at = at } ∷ tokens_from file (at + length run) rest
run_of file at [] rest some ink after = absurd (omega arith)
run_of file at (b ∷ run) rest some ink after = tokens_from-run file at b run rest ink after

-- the bytes from one position up to another are a token
pub tokens_from-token : (bytes : List ℕ) (file start stop : ℕ) → start < stop → stop ≤ length bytes → ((k : ℕ) → start ≤ k → k < stop → is_space (get_or bytes k 0) ≡ false) → (stop < length bytes → is_space (get_or bytes stop 0) ≡ true) → tokens_from file start (drop start bytes) ≡ record { text = slice_range bytes start stop; file = file; at = start } ∷ tokens_from file stop (drop stop bytes)
tokens_from-token bytes file start stop some within run after =
    let text = slice_range bytes start stop in
    let long : length text ≡ stop - start = length-take-le (stop - start) (drop start bytes) (omega (arith, length-drop start bytes)) in
    let split : text ++ drop stop bytes ≡ drop start bytes =
    ap (λ n. text ++ drop n bytes) (omega arith) ∙ ap (λ l. text ++ l) (sym (drop-drop (stop - start) start bytes)) ∙ take-append-drop (stop - start) (drop start bytes) in
    let position : (k : ℕ) → k < length text → is_space (get_or text k 0) ≡ false = λ k lt.
    ap is_space (get_or-take (stop - start) (drop start bytes) k 0 (omega arith) ∙ get_or-drop start bytes k 0) ∙ run (start + k) (omega arith) (omega arith) in
    let space : BeginsWithSpace (drop stop bytes) = space_from_position (drop stop bytes) (λ lt.
    ap is_space (get_or-drop stop bytes 0 0 ∙ ap (λ n. get_or bytes n 0) (add-zero stop)) ∙ after (omega (arith, length-drop stop bytes))) in
    let ends : start + length text ≡ stop = omega arith in
    ap (tokens_from file start) (sym split)
    ∙ run_of file start text (drop stop bytes) (omega arith) (all_positions (λ b. is_space b ≡ false) text 0 position) space
    ∙ ap (λ n. record { text = text; file = file; at = start } ∷ tokens_from file n (drop stop bytes)) ends

-- white space from the first byte of a token on comes after it
pub space_after : (bytes : List ℕ) (start at : ℕ) → start ≤ at
    → is_space (get_or bytes start 0) ≡ false → is_space (get_or bytes at 0) ≡ true → start < at
space_after bytes start at from ink space = grind arith

-- ==== how a comment is skipped: bytes that hold no `$` and may stand in a file are passed over, up
-- to a token's begin

-- ---- marks

pub holds_mark-step : (text : List ℕ) (at : ℕ) (m : Bool) → (get_or text (at - 1) 0 == 36 && (get_or text at 0 == 40 || get_or text at 0 == 41)) ≡ m
    → 1 ≤ at → at < length text → holds_mark (drop (at - 1) text) ≡ (m || holds_mark (drop at text))
holds_mark-step text at m e some within =
    let before : drop (at - 1) text ≡ get_or text (at - 1) 0 ∷ drop at text =
    drop_more text (at - 1) 0 (omega arith) ∙ ap (λ n. get_or text (at - 1) 0 ∷ drop n text) (omega arith) in
    rw (← e, before, drop_more text at 0 within) refl

pub holds_mark-short : (text : List ℕ) → length text ≤ 1 → holds_mark text ≡ false
holds_mark-short [] short = refl
holds_mark-short (b ∷ []) short = refl
holds_mark-short (b ∷ c ∷ text) short = absurd (omega arith)

-- The tokens of bytes, each with a number in place of its position: the number goes on at each
-- byte. At the beginning a token may go on that began before.
abbrev pub ahead : ℕ → (ℕ → ℕ → ℕ) → Bool → ℕ → List ℕ → List PlainToken
ahead file step inside n [] = []
ahead file step inside n (b ∷ bytes) =
    cond (is_space b) (ahead file step false (step n b) bytes)
    (cond inside (ahead file step true (step n b) bytes)
    (record { text = b ∷ run bytes; file = file; at = n } ∷ ahead file step true (step n b) bytes))

-- the number is a position
abbrev pub by_position : ℕ → ℕ → ℕ
by_position n b = n + 1

-- what is told from a position on begins there or later
ahead_begins : (file : ℕ) (inside : Bool) (at : ℕ) (bytes : List ℕ) → BeginFrom at (ahead file by_position inside at bytes)
ahead_begins file inside at [] = tt
ahead_begins file inside at (b ∷ bytes) =
    let apart = begin_earlier at _ (ahead_begins file false (at + 1) bytes) in
    let more = begin_earlier at _ (ahead_begins file true (at + 1) bytes) in
    cond_both (is_space b) _ _ (BeginFrom at) (λ _. apart)
    (λ _. cond_both inside _ _ (BeginFrom at) (λ _. more) (λ _. omega arith))

-- a byte before the rest of what is told
extended : (file at b : ℕ) (bytes : List ℕ) → with_byte file at b (ahead file by_position false (at + 1) bytes) ≡ record { text = b ∷ run bytes; file = file; at = at } ∷ ahead file by_position true (at + 1) bytes
extended file at b [] = refl
extended file at b (c ∷ bytes) =
    let later = ahead file by_position false (at + 1 + 1) bytes in
    let more = ahead file by_position true (at + 1 + 1) bytes in
    let far : BeginFrom (at + 2) later = subst (λ n. BeginFrom n later) (omega arith) (ahead_begins file false (at + 1 + 1) bytes) in
    elim (cases_Bool (is_space c)) [
      | inl e ↦ rw e (with_byte_apart file at b later far)
      | inr e ↦ rw e (with_byte_joined file at b (c ∷ run bytes) more)
    ]

-- the tokens of a file are told so
pub tokens_ahead : (file at : ℕ) (bytes : List ℕ) → tokens_from file at bytes ≡ ahead file by_position false at bytes
unfolding tokens_from
tokens_ahead file at [] = refl
tokens_ahead file at (b ∷ bytes) =
    let rest = tokens_ahead file (at + 1) bytes in
    choice_mapped (λ l. l) (λ l. l) (is_space b) _ _ _ _ rest
    (ap (with_byte file at b) rest ∙ extended file at b bytes)

-- ---- bytes that are passed over

abbrev AreQuiet : List ℕ → Type 0
AreQuiet bytes = AllByRecursion (λ b. is_quiet b ≡ true) bytes

-- a byte of a token that isn't a `$`
pub quiet_ink : (printable space dollar : Bool) → ((printable || space) && not dollar) ≡ true → space ≡ false → (printable ≡ true) × (dollar ≡ false)
quiet_ink true false false q s = (refl, refl)
quiet_ink _ _ _ q s = absurd cc

-- the run at the front of quiet bytes before white space, or before the file's end, is quiet
quiet_run : (prefix rest : List ℕ) → AreQuiet prefix → BeginsWithSpace rest
    → (list_all is_printable (run (prefix ++ rest)) ≡ true)
    × (list_any (λ b. b == 36) (run (prefix ++ rest)) ≡ false)
quiet_run [] [] q after = (refl, refl)
quiet_run [] (s ∷ rest) q after = rw after (refl, refl)
quiet_run (b ∷ prefix) rest q after = elim (cases_Bool (is_space b)) [
  | inl e ↦ rw e (refl, refl)
  | inr e ↦
      let parts = quiet_ink (is_printable b) (is_space b) (b == 36) q.0 e in
      rw (e, parts.0, parts.1) (quiet_run prefix rest q.1 after)
]

pub begin_far : (at n : ℕ) (tokens : List PlainToken) → n ≤ at → BeginFrom at tokens
    → BeginFrom n tokens
begin_far at n [] h k = tt
begin_far at n (t ∷ tokens) h k = omega arith

-- ---- tokens in a comment

pub in_comment-illegal : (begin t : PlainToken) (tokens : List PlainToken) → list_all is_printable t.text ≡ false → without_comments (Some begin) (t ∷ tokens) ≡ Broken X1 t ∷ []
unfolding without_comments
in_comment-illegal begin t tokens e = simp e

pub in_comment-close : (begin t : PlainToken) (tokens : List PlainToken) → list_all is_printable t.text ≡ true → spells t.text (codes "$)") ≡ true → without_comments (Some begin) (t ∷ tokens) ≡ without_comments None tokens
unfolding without_comments
in_comment-close begin t tokens e f = simp (e, f)

pub in_comment-mark : (begin t : PlainToken) (tokens : List PlainToken) → list_all is_printable t.text ≡ true → spells t.text (codes "$)") ≡ false → holds_mark t.text ≡ true → without_comments (Some begin) (t ∷ tokens) ≡ Broken X3 t ∷ []
unfolding without_comments
in_comment-mark begin t tokens e f g = simp (e, f, g)

pub in_comment-more : (begin t : PlainToken) (tokens : List PlainToken) → list_all is_printable t.text ≡ true → spells t.text (codes "$)") ≡ false → holds_mark t.text ≡ false → without_comments (Some begin) (t ∷ tokens) ≡ without_comments (Some begin) tokens
unfolding without_comments
in_comment-more begin t tokens e f g = simp (e, f, g)

pub in_comment-end : (begin : PlainToken) → without_comments (Some begin) [] ≡ Broken X2 begin ∷ []
unfolding without_comments
in_comment-end begin = refl

no_dollar-mark : (text : List ℕ) → list_any (λ b. b == 36) text ≡ false → holds_mark text ≡ false
no_dollar-mark [] h = refl
no_dollar-mark (b ∷ []) h = refl
no_dollar-mark (b ∷ c ∷ text) h =
    let parts = or_parts (b == 36) (list_any (λ x. x == 36) (c ∷ text)) h in
    ap (λ d. (d && (c == 40 || c == 41)) || holds_mark (c ∷ text)) parts.0 ∙ no_dollar-mark (c ∷ text) parts.1

pub no_dollar-spells : (text : List ℕ) (c : ℕ) → list_any (λ b. b == 36) text ≡ false → spells text (36 ∷ c ∷ []) ≡ false
no_dollar-spells [] c h = refl
no_dollar-spells (b ∷ text) c h =
    ap (λ d. d && spells text (c ∷ [])) (or_parts (b == 36) (list_any (λ x. x == 36) text) h).0

-- in a comment quiet bytes before white space or the file's end are passed over
quiet_passed : (begin : PlainToken) (file : ℕ) (inside : Bool) (at : ℕ) (prefix rest : List ℕ)
    → AreQuiet prefix → BeginsWithSpace rest
    → without_comments (Some begin) (ahead file by_position inside at (prefix ++ rest))
    ≡ without_comments (Some begin) (ahead file by_position false (at + length prefix) rest)
quiet_passed begin file inside at [] [] q after = refl
quiet_passed begin file inside at [] (s ∷ rest) q after = rw (after, add-zero at) refl
quiet_passed begin file inside at (b ∷ prefix) rest q after =
    let further : at + length (b ∷ prefix) ≡ at + 1 + length prefix = omega arith in
    let more = λ (s : Bool). quiet_passed begin file s (at + 1) prefix rest q.1 after in
    rw further (elim (cases_Bool (is_space b)) [
      | inl e ↦ rw e (more false)
      | inr e ↦
          let (printable, lacks) = rw e at (quiet_run (b ∷ prefix) rest q after) in
          let t : PlainToken = record { text = b ∷ run (prefix ++ rest); file = file; at = at } in
          rw e (cond_both inside _ _ (λ l. without_comments (Some begin) l
          ≡ without_comments (Some begin) (ahead file by_position false (at + 1 + length prefix) rest))
          (λ _. more true) (λ _. in_comment-more begin t _ printable (no_dollar-spells t.text 41 lacks)
          (no_dollar-mark t.text lacks) ∙ more true))
    ])

prefix_passed : (begin : PlainToken) (file at : ℕ) (prefix rest : List ℕ) → AreQuiet prefix → BeginsWithSpace rest → without_comments (Some begin) (tokens_from file at (prefix ++ rest)) ≡ without_comments (Some begin) (tokens_from file (at + length prefix) rest)
prefix_passed begin file at prefix rest q after =
    rw (tokens_ahead file at (prefix ++ rest), tokens_ahead file (at + length prefix) rest)
    (quiet_passed begin file false at prefix rest q after)

-- ---- the same, of the bytes of a file by their positions

-- before the position after white space
passed_space : (begin : PlainToken) (bytes : List ℕ) (file at n : ℕ) → at + n + 1 ≤ length bytes → ((k : ℕ) → at ≤ k → k < at + n → is_quiet (get_or bytes k 0) ≡ true) → is_space (get_or bytes (at + n) 0) ≡ true
    → without_comments (Some begin) (tokens_from file at (drop at bytes)) ≡ without_comments (Some begin) (tokens_from file (at + n + 1) (drop (at + n + 1) bytes))
passed_space begin bytes file at n within quiet space =
    let prefix = take n (drop at bytes) in
    let long : length prefix ≡ n = length-take-le n (drop at bytes) (omega (arith, length-drop at bytes)) in
    let split : prefix ++ drop (at + n) bytes ≡ drop at bytes =
    ap (λ m. prefix ++ drop m bytes) (omega arith) ∙ ap (λ l. prefix ++ l) (sym (drop-drop n at bytes)) ∙ take-append-drop n (drop at bytes) in
    let each : AreQuiet prefix = all_positions (λ b. is_quiet b ≡ true) prefix 0 (λ k lt. ap is_quiet (get_or-take n (drop at bytes) k 0 (omega arith) ∙ get_or-drop at bytes k 0) ∙ quiet (at + k) (omega arith) (omega arith)) in
    let after : BeginsWithSpace (drop (at + n) bytes) = space_from_position (drop (at + n) bytes) (λ lt. ap is_space (get_or-drop (at + n) bytes 0 0 ∙ ap (λ m. get_or bytes m 0) (omega arith)) ∙ space) in
    rw (← split, prefix_passed begin file at prefix (drop (at + n) bytes) each after, long)
    (ap (without_comments (Some begin)) (tokens_from-step bytes file (at + n) (omega arith) space))

-- in a comment quiet bytes are passed over, up to a position after white space
passed_to : (begin : PlainToken) (bytes : List ℕ) (file at start : ℕ) → at ≤ start → start ≤ length bytes → ((k : ℕ) → at ≤ k → k < start → is_quiet (get_or bytes k 0) ≡ true)
    → (start ≡ at) ⊎ ((k : ℕ) → k + 1 ≡ start → is_space (get_or bytes k 0) ≡ true)
    → without_comments (Some begin) (tokens_from file at (drop at bytes)) ≡ without_comments (Some begin) (tokens_from file start (drop start bytes))
passed_to begin bytes file at start from within quiet (inl same) = ap (λ n. without_comments (Some begin) (tokens_from file n (drop n bytes))) (sym same)
passed_to begin bytes file at start from within quiet (inr space) =
    elim (cases_lt at start) [
      | inl less ↦
          let n : ℕ = start - at - 1 in
          let last : at + n + 1 ≡ start = omega arith in
          passed_space begin bytes file at n (omega arith)
          (λ k low high. quiet k low (omega arith)) (space (at + n) last)
          ∙ ap (λ m. without_comments (Some begin) (tokens_from file m (drop m bytes))) last
      | inr end ↦ let same : at ≡ start = omega arith in rw same refl
    ]

-- and up to the file's end, where the comment is open
pub passed_all : (begin : PlainToken) (bytes : List ℕ) (file at : ℕ) → at ≤ length bytes → ((k : ℕ) → at ≤ k → k < length bytes → is_quiet (get_or bytes k 0) ≡ true)
    → without_comments (Some begin) (tokens_from file at (drop at bytes)) ≡ Broken X2 begin ∷ []
passed_all begin bytes file at within quiet =
    let prefix = drop at bytes in
    let each : AreQuiet prefix = all_positions (λ b. is_quiet b ≡ true) prefix 0 (λ k lt. ap is_quiet (get_or-drop at bytes k 0) ∙ quiet (at + k) (omega arith) (omega (arith, length-drop at bytes))) in
    rw (← append-nil prefix, prefix_passed begin file at prefix [] each tt, tokens_from-nil)
    (in_comment-end begin)

-- what holds from one position up to another, and there
pub below_more_from : (P : ℕ → Type 0) (low i : ℕ) → ((k : ℕ) → low ≤ k → k < i → P k) → P i → (k : ℕ) → low ≤ k → k < i + 1 → P k
below_more_from P low i below here k from lt = ⊎_elim (λ (less : k < i). below k from less) (λ (e : i ≤ k). subst P (omega arith) here) (order k i)

-- ---- how far bytes are judged

-- up to a position further on, behind a mark
pub legal_behind_mark : (bytes : List ℕ) (second at position legal n : ℕ) → is_legal second ≡ true → IsMarkAt bytes second position → IsLegalPrefix bytes legal → at ≤ legal
    → ((k : ℕ) → at ≤ k → k < position → is_legal (get_or bytes k 0) ≡ true) → n ≤ length bytes → (legal < n → n ≤ position + 2) → IsLegalPrefix bytes n
legal_behind_mark bytes second at position legal n right mark prefix from each inside most =
    let all = below_more_from (λ k. is_legal (get_or bytes k 0) ≡ true) at (position + 1) (below_more_from (λ k. is_legal (get_or bytes k 0) ≡ true) at position each (ap is_legal mark.dollar)) (ap is_legal mark.other ∙ right) in
    record {
      within = inside;
      prefix = λ k high. ⊎_elim (λ (less : k < legal). prefix.prefix k less)
          (λ (more : legal ≤ k). let last = most (omega arith) in all k (omega arith) (omega arith)) (order k legal);
    }

-- ---- the bytes of a token

legal_ink : (b : ℕ) → is_space b ≡ false → is_printable b ≡ is_legal b
legal_ink b ink =
    rw ink (elim (is_printable b) as (λ p. p ≡ (p || false)) [ true ↦ refl | false ↦ refl ])

pub slice_byte : (bytes : List ℕ) (start stop k : ℕ) → start + k < stop → get_or (slice_range bytes start stop) k 0 ≡ get_or bytes (start + k) 0
slice_byte bytes start stop k lt = get_or-take (stop - start) (drop start bytes) k 0 (omega arith) ∙ get_or-drop start bytes k 0

-- a token before the first byte that may not stand there holds none
pub token_printable : (bytes : List ℕ) (legal start stop file : ℕ) (t : PlainToken) → t ≡ record { text = slice_range bytes start stop; file = file; at = start } → IsLegalPrefix bytes legal → start < stop → stop ≤ legal
    → ((k : ℕ) → start ≤ k → k < stop → is_space (get_or bytes k 0) ≡ false) → list_all is_printable t.text ≡ true
token_printable bytes legal start stop file t same prefix some within ink =
    let long : length (slice_range bytes start stop) ≡ stop - start = length-take-le (stop - start) (drop start bytes) (omega (arith, length-drop start bytes, prefix.within)) in
    ap (λ (u : PlainToken). list_all is_printable u.text) same ∙ all_from_positions is_printable (slice_range bytes start stop) (λ k lt.
    ap is_printable (slice_byte bytes start stop k (omega arith)) ∙ legal_ink (get_or bytes (start + k) 0) (ink (start + k) (omega arith) (omega arith)) ∙ prefix.prefix (start + k) (omega arith))

-- a token across such a byte does
pub token_illegal : (bytes : List ℕ) (legal start stop file : ℕ) (t : PlainToken) → t ≡ record { text = slice_range bytes start stop; file = file; at = start } → is_legal (get_or bytes legal 0) ≡ false → start ≤ legal → legal < stop → stop ≤ length bytes
    → ((k : ℕ) → start ≤ k → k < stop → is_space (get_or bytes k 0) ≡ false) → list_all is_printable t.text ≡ false
token_illegal bytes legal start stop file t same bad low high within ink =
    let long : length (slice_range bytes start stop) ≡ stop - start = length-take-le (stop - start) (drop start bytes) (omega (arith, length-drop start bytes)) in
    let position : start + (legal - start) ≡ legal = omega arith in
    ap (λ (u : PlainToken). list_all is_printable u.text) same ∙ list_all_at is_printable (slice_range bytes start stop) (legal - start) 0 (omega arith)
    (ap is_printable (slice_byte bytes start stop (legal - start) (omega arith) ∙ ap (λ m. get_or bytes m 0) position) ∙ legal_ink (get_or bytes legal 0) (ink legal low high) ∙ bad)

-- ---- the next token of a comment that holds a `$` or a byte that may not stand there

-- such a token stands here: what is before it is passed over
pub comment_token : (begin : PlainToken) (p : Position) (stop start end : ℕ) (t : PlainToken) → p.at ≤ start → start ≤ stop → stop ≤ length p.bytes.now
    → ((k : ℕ) → p.at ≤ k → k < stop → is_quiet (get_or p.bytes.now k 0) ≡ true)
    → (start ≡ p.at) ⊎ ((k : ℕ) → k + 1 ≡ start → is_space (get_or p.bytes.now k 0) ≡ true)
    → ((file : ℕ) → tokens_from file start (drop start p.bytes.now) ≡ record { text = slice_range p.bytes.now start end; file = file; at = start } ∷ tokens_from file end (drop end p.bytes.now))
    → t ≡ record { text = slice_range p.bytes.now start end; file = p.file; at = start }
    → comment_at begin p ≡ without_comments (Some begin) (t ∷ tokens_from p.file end (drop end p.bytes.now))
comment_token begin p stop start end t from before within quiet apart token same =
    passed_to begin p.bytes.now p.file p.at start from (omega arith) (λ k low high. quiet k low (omega arith)) apart
    ∙ ap (without_comments (Some begin)) (token p.file ∙ ap (λ (u : PlainToken). u ∷ tokens_from p.file end (drop end p.bytes.now)) (sym same))

-- ---- tokens outside comments

pub outside-end : without_comments None [] ≡ []
unfolding without_comments
outside-end = refl

pub outside-illegal : (t : PlainToken) (tokens : List PlainToken) → list_all is_printable t.text ≡ false → without_comments None (t ∷ tokens) ≡ Broken X1 t ∷ []
unfolding without_comments
outside-illegal t tokens e = simp e

pub outside-begin : (t : PlainToken) (tokens : List PlainToken) → list_all is_printable t.text ≡ true → spells t.text (codes "$(") ≡ true → without_comments None (t ∷ tokens) ≡ without_comments (Some t) tokens
unfolding without_comments
outside-begin t tokens e f = simp (e, f)

pub outside-close : (t : PlainToken) (tokens : List PlainToken) → list_all is_printable t.text ≡ true → spells t.text (codes "$(") ≡ false → spells t.text (codes "$)") ≡ true → without_comments None (t ∷ tokens) ≡ Broken X4 t ∷ []
unfolding without_comments
outside-close t tokens e f g = simp (e, f, g)

pub outside-clear : (t : PlainToken) (tokens : List PlainToken) → list_all is_printable t.text ≡ true → spells t.text (codes "$(") ≡ false → spells t.text (codes "$)") ≡ false → without_comments None (t ∷ tokens) ≡ Clear t ∷ without_comments None tokens
unfolding without_comments
outside-clear t tokens e f g = simp (e, f, g)

-- white space is skipped, and a token stands here
pub outside_token : (p : Position) (start end : ℕ) (t : PlainToken)
    → ((file : ℕ) → tokens_from file p.at (drop p.at p.bytes.now) ≡ tokens_from file start (drop start p.bytes.now))
    → ((file : ℕ) → tokens_from file start (drop start p.bytes.now) ≡ record { text = slice_range p.bytes.now start end; file = file; at = start } ∷ tokens_from file end (drop end p.bytes.now))
    → t ≡ record { text = slice_range p.bytes.now start end; file = p.file; at = start }
    → shown_at p ≡ without_comments None (t ∷ tokens_from p.file end (drop end p.bytes.now))
outside_token p start end t skipped token same =
    ap (without_comments None) (skipped p.file ∙ token p.file ∙ ap (λ (u : PlainToken). u ∷ tokens_from p.file end (drop end p.bytes.now)) (sym same))

-- a later position of a file, up to which it was judged
pub later_position : (p : Position) (at legal : ℕ) → IsLegalPrefix p.bytes.now legal → at ≤ legal
    → p.at < at → length p.bytes.now ≤ most_bytes → IsLater p (record p { at = at; legal = legal })
later_position p at legal prefix within after small = record {
  position = record { within = within; prefix = prefix; small = small };
  same = refl;
  after = after;
}

-- a byte that may not stand there isn't skipped as white space
pub skipped_legal : (bytes : List ℕ) (legal at start stop : ℕ) → IsLegalUpTo bytes legal stop → at ≤ legal → start < stop → ((k : ℕ) → at ≤ k → k < start → is_space (get_or bytes k 0) ≡ true) → start ≤ legal
skipped_legal bytes legal at start stop judged from within space =
    ⊎_elim (λ (less : legal < start).
    absurd (both_ways _ (judged.stops (omega arith)) (or_right (is_printable (get_or bytes legal 0)) (is_space (get_or bytes legal 0)) (space legal from less))))
    (λ (le : start ≤ legal). le) (order legal start)

-- ---- marks that are told at once

-- the bytes from such a mark on
mark_bytes : (bytes : List ℕ) (second at : ℕ) → IsMarkAt bytes second at
    → drop at bytes ≡ 36 ∷ second ∷ drop (at + 2) bytes
mark_bytes bytes second at mark =
    let back : at + 1 + 1 ≡ at + 2 = omega arith in
    rw (
      drop_more bytes at 0 (omega (arith, mark.within)),
      mark.dollar,
      drop_more bytes (at + 1) 0 (omega (arith, mark.within)),
      mark.other,
      back,
    ) refl

-- it is a token
mark_token : (bytes : List ℕ) (file second at : ℕ) → IsMarkAt bytes second at → is_space second ≡ false
    → tokens_from file at (drop at bytes)
    ≡ record { text = 36 ∷ second ∷ []; file = file; at = at } ∷ tokens_from file (at + 2) (drop (at + 2) bytes)
mark_token bytes file second at mark ink =
    let rest = drop (at + 2) bytes in
    let space : BeginsWithSpace rest = space_from_position rest (λ lt.
    ap is_space (get_or-drop (at + 2) bytes 0 0 ∙ ap (λ n. get_or bytes n 0) (omega arith)) ∙ mark.right) in
    ap (tokens_from file at) (mark_bytes bytes second at mark)
    ∙ tokens_from-run file at 36 (second ∷ []) rest (refl, (ink, tt)) space

-- a `$)` closes the comment that it is met in
pub closed_at : (begin : PlainToken) (p : Position) (at legal : ℕ)
    → p.at ≤ at → ((k : ℕ) → p.at ≤ k → k < at → is_quiet (get_or p.bytes.now k 0) ≡ true)
    → IsClosedAt p.bytes.now at
    → comment_at begin p ≡ shown_at (record p { at = at + 2; legal = legal })
closed_at begin p at legal from quiet closed =
    let bytes = p.bytes.now in
    passed_to begin bytes p.file p.at at from (omega (arith, closed.mark.within)) quiet (inr closed.left)
    ∙ ap (without_comments (Some begin)) (mark_token bytes p.file 41 at closed.mark refl)
    ∙ in_comment-close begin (record { text = 36 ∷ 41 ∷ []; file = p.file; at = at }) _ refl refl

-- a `$(` begins one outside comments
pub begins_at : (p : Position) (start legal : ℕ) (t : PlainToken)
    → ((file : ℕ) → tokens_from file p.at (drop p.at p.bytes.now) ≡ tokens_from file start (drop start p.bytes.now))
    → IsMarkAt p.bytes.now 40 start
    → t ≡ record { text = slice_range p.bytes.now start (start + 2); file = p.file; at = start }
    → shown_at p ≡ comment_at t (record p { at = start + 2; legal = legal })
begins_at p start legal t skipped mark same =
    let bytes = p.bytes.now in
    let begin : PlainToken = record { text = 36 ∷ 40 ∷ []; file = p.file; at = start } in
    let two : start + 2 - start ≡ 2 = omega arith in
    let text : slice_range bytes start (start + 2) ≡ 36 ∷ 40 ∷ [] =
    ap (λ n. take n (drop start bytes)) two ∙ ap (take 2) (mark_bytes bytes 40 start mark) in
    let token : begin ≡ t = ap (λ (l : List ℕ). record { text = l; file = p.file; at = start }) (sym text) ∙ sym same in
    ap (without_comments None) (skipped p.file ∙ mark_token bytes p.file 40 start mark refl)
    ∙ outside-begin begin _ refl refl
    ∙ ap (λ (u : PlainToken). comment_at u (record p { at = start + 2; legal = legal })) token
