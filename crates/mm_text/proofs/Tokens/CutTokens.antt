-- Tokens of bytes that are cut apart, put behind others, or in place of others, and what is shown
-- of tokens from one of them on.
use Rattle.std.proofs.Common.{◌≡◌, ℕ, ◌+◌, ◌==◌, List, [], ◌∷◌, ◌++◌, length, map, Bool, true}
use Rattle.std.proofs.Common.{false, refl, sym, ap, ◌∙◌, subst, arith, add-zero, inl, inr}
use Rattle.std.proofs.Common.{append_assoc, codes, Option, Some, None, append-nil, length-append}
use Rattle.std.proofs.lemmas.Bool.{cases_Bool}
use Rattle.std.specs.List.{list_all}
use Rattle.mm_base.specs.Token.{PlainToken, is_space, with_byte, tokens_from, is_printable}
use Rattle.mm_text.specs.Alike.{token_on}
use Rattle.mm_text.specs.Items.{Shown, Clear, without_comments, holds_mark}
use Rattle.mm_base.specs.Spelling.{spells}
use Rattle.mm_base.proofs.Lists.{choice_mapped, cons_parts, nil_append}
use Rattle.mm_text.proofs.Tokens.WordsAndComments.{ahead, begin_far, by_position, tokens_ahead}
use Rattle.mm_base.proofs.TokensFrom.{run}
use Rattle.mm_base.proofs.TokensFrom.{tokens_from-space, tokens_from-nil}
use Rattle.mm_base.proofs.TokensFrom.{tokens_from-run, tokens_from_begin, BeginFrom}
use Rattle.mm_base.proofs.TokensFrom.{AreInk, BeginsWithSpace, with_byte_apart}
use Rattle.mm_text.proofs.Tokens.WordsAndComments.{in_comment-illegal, in_comment-close}
use Rattle.mm_text.proofs.Tokens.WordsAndComments.{in_comment-mark, in_comment-more, in_comment-end}
use Rattle.mm_text.proofs.Tokens.WordsAndComments.{outside-end, outside-illegal, outside-begin}
use Rattle.mm_text.proofs.Tokens.WordsAndComments.{outside-close, outside-clear}

-- ==== tokens of bytes that are cut apart, put behind others, or in place of others

-- ---- a cut at white space

-- a byte before tokens and others that begin later
byte_before : (file at b : ℕ) (tokens others : List PlainToken) → BeginFrom (at + 2) others → with_byte file at b (tokens ++ others) ≡ with_byte file at b tokens ++ others
byte_before file at b [] others h = with_byte_apart file at b others h
byte_before file at b (t ∷ tokens) others h =
    choice_mapped (λ l. l) (λ l. l ++ others) (t.at == at + 1) _ _ _ _ refl refl

-- tokens on both sides of a byte of white space
tokens_cut : (file at : ℕ) (bytes : List ℕ) (b : ℕ) (rest : List ℕ) → is_space b ≡ true
    → tokens_from file at (bytes ++ b ∷ rest) ≡ tokens_from file at bytes ++ tokens_from file (at + length bytes + 1) rest
unfolding tokens_from
tokens_cut file at [] b rest space = rw (space, add-zero at) refl
tokens_cut file at (c ∷ bytes) b rest space =
    let far : at + length (c ∷ bytes) + 1 ≡ at + 1 + length bytes + 1 = omega arith in
    let behind = tokens_from file (at + 1 + length bytes + 1) rest in
    let begins = tokens_from_begin file (at + 1 + length bytes + 1) rest in
    let inner = tokens_cut file (at + 1) bytes b rest space in
    rw far (choice_mapped (λ l. l) (λ l. l ++ behind) (is_space c) _ _ _ _ inner
    (ap (with_byte file at c) inner
    ∙ byte_before file at c _ behind (begin_far _ (at + 2) _ (omega arith) begins)))

-- ---- the same bytes further on

-- positions of a file from one on become those from another on
abbrev pub Moves : (ℕ → ℕ → ℕ) → ℕ → ℕ → ℕ → Type 0
Moves line file at to = (i : ℕ) → line file (at + i) ≡ to + i

moved_ahead : (line : ℕ → ℕ → ℕ) (file : ℕ) (s : Bool) (at to : ℕ) (bytes : List ℕ)
    → Moves line file at to
    → ahead file by_position s to bytes ≡ map (token_on line) (ahead file by_position s at bytes)
moved_ahead line file s at to [] moves = refl
moved_ahead line file s at to (b ∷ bytes) moves =
    let here : to ≡ line file at = sym (ap (line file) (sym (add-zero at)) ∙ moves 0 ∙ add-zero to) in
    let rest = λ (r : Bool). moved_ahead line file r (at + 1) (to + 1) bytes
    (λ i. ap (line file) (omega arith) ∙ moves (i + 1) ∙ omega arith) in
    choice_mapped (λ l. l) (map (token_on line)) (is_space b) _ _ _ _ (rest false)
    (choice_mapped (λ l. l) (map (token_on line)) s _ _ _ _ (rest true)
    (λ i. record { text = b ∷ run bytes; file = file; at = here i } ∷ rest true i))

-- the tokens of bytes that stand elsewhere
tokens_moved : (line : ℕ → ℕ → ℕ) (file at to : ℕ) (bytes : List ℕ) → Moves line file at to → tokens_from file to bytes ≡ map (token_on line) (tokens_from file at bytes)
tokens_moved line file at to bytes moves =
    rw (tokens_ahead file to bytes, tokens_ahead file at bytes)
    (moved_ahead line file false at to bytes moves)

-- ---- a token among the others

-- where the bytes of a token stand among those of a file: behind those of the tokens before it, and
-- before white space or the file's end; what other bytes after it make of the tokens
pub record StandsAt (file at : ℕ) (bytes : List ℕ) (before : List PlainToken) (t : PlainToken) (after : List PlainToken) : Type 0 where
  pub prefix : List ℕ
  pub rest : List ℕ
  pub whole : bytes ≡ prefix ++ (t.text ++ rest)
  pub position : t.at ≡ at + length prefix
  pub ahead : tokens_from file at prefix ≡ before
  pub spaced : BeginsWithSpace rest
  pub alone : (more : List ℕ) → BeginsWithSpace more → tokens_from file t.at (t.text ++ more) ≡ t ∷ tokens_from file (t.at + length t.text) more
  pub later : after ≡ tokens_from file (t.at + length t.text) rest
  pub others : (more : List ℕ) → BeginsWithSpace more → tokens_from file at (prefix ++ (t.text ++ more)) ≡ before ++ t ∷ tokens_from file (t.at + length t.text) more

-- bytes are a longest run of other bytes than white space, which may be none, and what is left
longest_run : (bytes : List ℕ)
    → (run : List ℕ) × (rest : List ℕ) × (bytes ≡ run ++ rest) × AreInk run × BeginsWithSpace rest
longest_run [] = ([], [], refl, tt, tt)
longest_run (b ∷ bytes) =
    let (run, rest, whole, ink, spaced) = longest_run bytes in
    elim (cases_Bool (is_space b)) [
      | inl e ↦ ([], b ∷ bytes, refl, tt, e)
      | inr e ↦ (b ∷ run, rest, ap (λ (l : List ℕ). b ∷ l) whole, (e, ink), spaced)
    ]

first_stands : (file at : ℕ) (bytes : List ℕ) (t : PlainToken) (after : List PlainToken) → tokens_from file at bytes ≡ t ∷ after → StandsAt file at bytes [] t after
first_stands file at [] t after is = let no = sym (tokens_from-nil file at) ∙ is in absurd cc
first_stands file at (b ∷ bytes) t after is = elim (cases_Bool (is_space b)) [
  | inl e ↦
      let behind = sym (tokens_from-space file at b bytes e) ∙ is in
      let s = first_stands file (at + 1) bytes t after behind in
      record {
        prefix = b ∷ s.prefix;
        rest = s.rest;
        whole = ap (λ (l : List ℕ). b ∷ l) s.whole;
        position = omega (arith, s.position);
        ahead = tokens_from-space file at b s.prefix e ∙ s.ahead;
        spaced = s.spaced;
        alone = s.alone;
        later = s.later;
        others = λ more h. tokens_from-space file at b (s.prefix ++ (t.text ++ more)) e ∙ s.others more h;
      }
  | inr e ↦
      let (run, rest, split, ink, spaced) = longest_run bytes in
      let whole = ap (λ (l : List ℕ). b ∷ l) split in
      let token : PlainToken = record { text = b ∷ run; file = file; at = at } in
      let end : ℕ = at + length (b ∷ run) in
      let known : (more : List ℕ) → BeginsWithSpace more
      → tokens_from file at (b ∷ run ++ more) ≡ token ∷ tokens_from file end more =
      λ more h. tokens_from-run file at b run more (e, ink) h in
      let parts =
      cons_parts t token after _ (sym is ∙ ap (tokens_from file at) whole ∙ known rest spaced) in
      subst (λ (u : PlainToken). StandsAt file at (b ∷ bytes) [] u after) (sym parts.0) (record {
        prefix = [];
        rest = rest;
        whole = whole;
        position = sym (add-zero at);
        ahead = tokens_from-nil file at;
        spaced = spaced;
        alone = known;
        later = parts.1;
        others = known;
      })
]

-- each token of bytes stands somewhere among them
stands_at : (file at : ℕ) (bytes : List ℕ) (before : List PlainToken) (t : PlainToken) (after : List PlainToken) → tokens_from file at bytes ≡ before ++ t ∷ after → StandsAt file at bytes before t after
stands_at file at bytes [] t after is = first_stands file at bytes t after is
stands_at file at bytes (u ∷ before) t after is =
    let f = first_stands file at bytes u (before ++ t ∷ after) is in
    let s = stands_at file (u.at + length u.text) f.rest before t after (sym f.later) in
    let regroup : (more : List ℕ) → (f.prefix ++ (u.text ++ s.prefix)) ++ (t.text ++ more) ≡ f.prefix ++ (u.text ++ (s.prefix ++ (t.text ++ more))) = λ more.
    simp append_assoc in
    let long : length (f.prefix ++ (u.text ++ s.prefix)) ≡ length f.prefix + (length u.text + length s.prefix) =
    simp length-append in
    record {
      prefix = f.prefix ++ (u.text ++ s.prefix);
      rest = s.rest;
      whole = f.whole ∙ ap (λ (l : List ℕ). f.prefix ++ (u.text ++ l)) s.whole ∙ sym (regroup s.rest);
      position = omega (arith, s.position, f.position, long);
      ahead =
          f.others s.prefix
          (front_spaced s.prefix (t.text ++ s.rest) (subst BeginsWithSpace s.whole f.spaced))
          ∙ ap (λ (l : List PlainToken). u ∷ l) s.ahead;
      spaced = s.spaced;
      alone = s.alone;
      later = s.later;
      others = λ more h.
          ap (tokens_from file at) (regroup more)
          ∙ f.others (s.prefix ++ (t.text ++ more)) (rw append_assoc at (between (s.prefix ++ t.text) s.rest more (rw append_assoc (subst BeginsWithSpace s.whole f.spaced)) h))
          ∙ ap (λ (l : List PlainToken). u ∷ l) (s.others more h);
    }
  where
    between : (text rest more : List ℕ) → BeginsWithSpace (text ++ rest) → BeginsWithSpace more → BeginsWithSpace (text ++ more)
    between [] rest more h m = m
    between (b ∷ text) rest more h m = h

    front_spaced : (text rest : List ℕ) → BeginsWithSpace (text ++ rest) → BeginsWithSpace text
    front_spaced [] rest h = tt
    front_spaced (b ∷ text) rest h = h

-- ---- other bytes between two tokens

-- bytes with white space at both ends
pub record IsSpaced (bytes : List ℕ) : Type 0 where
  pub inner : List ℕ
  pub last : ℕ
  pub whole : bytes ≡ inner ++ last ∷ []
  pub begins : BeginsWithSpace bytes
  pub ends : is_space last ≡ true

-- tokens of such bytes and of others after them
spaced_first : (file at : ℕ) (bytes rest : List ℕ) → IsSpaced bytes → tokens_from file at (bytes ++ rest) ≡ tokens_from file at bytes ++ tokens_from file (at + length bytes) rest
spaced_first file at bytes rest s =
    let long : length bytes ≡ length s.inner + 1 = ap length s.whole ∙ length-append s.inner (s.last ∷ []) in
    let alone : tokens_from file at bytes ≡ tokens_from file at s.inner =
    ap (tokens_from file at) s.whole ∙ tokens_cut file at s.inner s.last [] s.ends
    ∙ ap (λ (l : List PlainToken). tokens_from file at s.inner ++ l) (tokens_from-nil file (at + length s.inner + 1)) ∙ append-nil (tokens_from file at s.inner) in
    ap (λ (l : List ℕ). tokens_from file at (l ++ rest)) s.whole
    ∙ ap (tokens_from file at) (append_assoc s.inner (s.last ∷ []) rest)
    ∙ tokens_cut file at s.inner s.last rest s.ends
    ∙ ap (λ (n : ℕ). tokens_from file at s.inner ++ tokens_from file n rest) (omega (arith, long))
    ∙ ap (λ (l : List PlainToken). l ++ tokens_from file (at + length bytes) rest) (sym alone)

-- the bytes of a file with others between two of its tokens, and the tokens that stood there
pub record ReplacedBetween (file : ℕ) (bytes text : List ℕ) (before : List PlainToken)
    (first : PlainToken) (between : List PlainToken) (last : PlainToken)
    (after : List PlainToken) : Type 0 where
  pub prefix : List ℕ
  pub within : List ℕ
  pub back : List ℕ
  pub whole : bytes ≡ prefix ++ (within ++ back)
  pub start : first.at + length first.text ≡ length prefix
  pub stop : last.at ≡ length prefix + length within
  pub stood : tokens_from file (length prefix) within ≡ between
  pub tokens : (line : ℕ → ℕ → ℕ) → Moves line file last.at (length prefix + length text)
      → tokens_from file 0 (prefix ++ (text ++ back)) ≡ before ++ first ∷ (tokens_from file (length prefix) text ++ map (token_on line) (last ∷ after))

pub replaced_between : (file : ℕ) (bytes text : List ℕ) (before : List PlainToken) (first : PlainToken) (between : List PlainToken) (last : PlainToken) (after : List PlainToken)
    → tokens_from file 0 bytes ≡ before ++ first ∷ (between ++ last ∷ after) → IsSpaced text
    → ReplacedBetween file bytes text before first between last after
replaced_between file bytes text before first between last after is spaced =
    let f = stands_at file 0 bytes before first (between ++ last ∷ after) is in
    let from : ℕ = first.at + length first.text in
    let l = stands_at file from f.rest between last after (sym f.later) in
    let prefix : List ℕ = f.prefix ++ first.text in
    let back : List ℕ = last.text ++ l.rest in
    let start : from ≡ length prefix = omega (arith, f.position, length-append f.prefix first.text) in
    let behind : tokens_from file last.at back ≡ last ∷ after =
    l.alone l.rest l.spaced ∙ ap (λ (x : List PlainToken). last ∷ x) (sym l.later) in
    record {
      prefix = prefix;
      within = l.prefix;
      back = back;
      whole = f.whole ∙ ap (λ (b : List ℕ). f.prefix ++ (first.text ++ b)) l.whole ∙ sym (append_assoc f.prefix first.text (l.prefix ++ back));
      start = start;
      stop = l.position ∙ ap (λ n. n + length l.prefix) start;
      stood = ap (λ (n : ℕ). tokens_from file n l.prefix) (sym start) ∙ l.ahead;
      tokens = λ line moves.
          ap (tokens_from file 0) (append_assoc f.prefix first.text (text ++ back))
          ∙ f.others (text ++ back) (spaced_prefix text back spaced)
          ∙ ap (λ (x : List PlainToken). before ++ first ∷ x)
          (ap (λ n. tokens_from file n (text ++ back)) start
          ∙ spaced_first file (length prefix) text back spaced
          ∙ ap (λ (x : List PlainToken). tokens_from file (length prefix) text ++ x) (tokens_moved line file last.at (length prefix + length text) back moves ∙ ap (map (token_on line)) behind));
    }
  where
    spaced_prefix : (text back : List ℕ) → IsSpaced text → BeginsWithSpace (text ++ back)
    spaced_prefix [] back s = absurd (nil_append s.inner s.last [] s.whole)
    spaced_prefix (b ∷ text) back s = s.begins

-- ==== what is shown of tokens, from a token on that is shown

-- The token is shown after so much, and is the last of these tokens before others; what is shown
-- before it is so of the tokens before it alone, and whatever tokens come after it.
pub record ShownAt (begin : Option PlainToken) (tokens : List PlainToken) (passed : List Shown) (t : PlainToken) (rest : List Shown) : Type 0 where
  pub before : List PlainToken
  pub after : List PlainToken
  pub whole : tokens ≡ before ++ t ∷ after
  pub later : rest ≡ without_comments None after
  pub alone : without_comments begin before ≡ passed
  pub others : (more : List PlainToken) → without_comments begin (before ++ t ∷ more) ≡ passed ++ Clear t ∷ without_comments None more

-- one token more before
skipped : (begin next : Option PlainToken) (u : PlainToken) (tokens : List PlainToken) (passed : List Shown) (t : PlainToken) (rest : List Shown)
    → ((more : List PlainToken) → without_comments begin (u ∷ more) ≡ without_comments next more) → ShownAt next tokens passed t rest → ShownAt begin (u ∷ tokens) passed t rest
skipped begin next u tokens passed t rest step s = record {
  before = u ∷ s.before;
  after = s.after;
  whole = ap (λ (l : List PlainToken). u ∷ l) s.whole;
  later = s.later;
  alone = step s.before ∙ s.alone;
  others = λ more. step (s.before ++ t ∷ more) ∙ s.others more;
}

first_shown : (begin : Option PlainToken) (tokens : List PlainToken) (t : PlainToken) (rest : List Shown) → without_comments begin tokens ≡ Clear t ∷ rest → ShownAt begin tokens [] t rest
first_shown None [] t rest e = let no = sym outside-end ∙ e in absurd cc
first_shown (Some begin) [] t rest e = let no = sym (in_comment-end begin) ∙ e in absurd cc
first_shown None (u ∷ tokens) t rest e = elim (cases_Bool (list_all is_printable u.text)) [
  | inr p ↦ let no = sym (outside-illegal u tokens p) ∙ e in absurd cc
  | inl p ↦ elim (cases_Bool (spells u.text (codes "$("))) [
    | inl o ↦
        skipped None (Some u) u tokens [] t rest (λ more. outside-begin u more p o)
        (first_shown (Some u) tokens t rest (sym (outside-begin u tokens p o) ∙ e))
    | inr o ↦ elim (cases_Bool (spells u.text (codes "$)"))) [
      | inl c ↦ let no = sym (outside-close u tokens p o c) ∙ e in absurd cc
      | inr c ↦
          let told = sym (outside-clear u tokens p o c) ∙ e in
          let same : u ≡ t = cc in
          subst (λ (v : PlainToken). ShownAt None (u ∷ tokens) [] v rest) same (record {
            before = [];
            after = tokens;
            whole = refl;
            later = cc;
            alone = outside-end;
            others = λ others. outside-clear u others p o c;
          })
    ]
  ]
]
first_shown (Some begin) (u ∷ tokens) t rest e = elim (cases_Bool (list_all is_printable u.text)) [
  | inr p ↦ let no = sym (in_comment-illegal begin u tokens p) ∙ e in absurd cc
  | inl p ↦ elim (cases_Bool (spells u.text (codes "$)"))) [
    | inl c ↦
        skipped (Some begin) None u tokens [] t rest (λ more. in_comment-close begin u more p c)
        (first_shown None tokens t rest (sym (in_comment-close begin u tokens p c) ∙ e))
    | inr c ↦ elim (cases_Bool (holds_mark u.text)) [
      | inl m ↦ let no = sym (in_comment-mark begin u tokens p c m) ∙ e in absurd cc
      | inr m ↦
          skipped _ (Some begin) u tokens [] t rest (λ more. in_comment-more begin u more p c m)
          (first_shown _ tokens t rest (sym (in_comment-more begin u tokens p c m) ∙ e))
    ]
  ]
]

-- after tokens that are shown
pub clear_shown : (begin : Option PlainToken) (tokens run : List PlainToken) (t : PlainToken) (rest : List Shown) → without_comments begin tokens ≡ map Clear run ++ Clear t ∷ rest → ShownAt begin tokens (map Clear run) t rest
clear_shown begin tokens [] t rest e = first_shown begin tokens t rest e
clear_shown begin tokens (u ∷ run) t rest e =
    let f = first_shown begin tokens u (map Clear run ++ Clear t ∷ rest) e in
    let s = clear_shown None f.after run t rest (sym f.later) in
    record {
      before = f.before ++ u ∷ s.before;
      after = s.after;
      whole = f.whole ∙ ap (λ (l : List PlainToken). f.before ++ u ∷ l) s.whole ∙ sym (append_assoc f.before (u ∷ s.before) (t ∷ s.after));
      later = s.later;
      alone = f.others s.before ∙ ap (λ (l : List Shown). Clear u ∷ l) s.alone;
      others = λ more. ap (without_comments begin) (append_assoc f.before (u ∷ s.before) (t ∷ more)) ∙ f.others (s.before ++ t ∷ more) ∙ ap (λ (l : List Shown). Clear u ∷ l) (s.others more);
    }
