-- A byte of what a comment says may be left out: the file shows the same. What is kept of a file
-- as its bytes come.
use Rattle.std.proofs.Common.{◌≡◌, ℕ, suc, ◌+◌, ◌≤◌, ◌==◌, ◌&&◌, ◌||◌, ◌≢◌, List, [], ◌∷◌, ◌++◌}
use Rattle.std.proofs.Common.{length, map, take, Bool, true, false, not, cond, refl, sym, ap, ◌∙◌}
use Rattle.std.proofs.Common.{arith, codes, Option, Some, None, count_by, append_assoc, add-zero}
use Rattle.std.proofs.Common.{inl, inr, subst, append-nil, length-append, take-add, zero, drop, ◌-◌}
use Rattle.std.proofs.Common.{◌<◌, get_or, Result, Ok, Err, OnOk, option_map, ne_eqb, eqb-true}
use Rattle.std.proofs.Common.{leb-true, get_or-drop, length-drop, drop-drop}
use Rattle.std.specs.List.{list_all}
use Rattle.std.proofs.lemmas.Bool.{cases_Bool, cond_both, both_ways, and_parts, and_from, cases_eq}
use Rattle.std.proofs.lemmas.List.Sums.{sum_by-cons}
use Rattle.std.proofs.lemmas.List.{take_more}
use Rattle.std.proofs.lemmas.List.Folds.{list_all-append}
use Rattle.mm_base.specs.Token.{PlainToken, is_space, is_printable, tokens_from}
use Rattle.mm_text.specs.Items.{Shown, Clear, without_comments, holds_mark}
use Rattle.mm_base.specs.Spelling.{spells}
use Rattle.mm_text.specs.LineNumbers.{feeds_before}
use Rattle.mm_text.specs.Alike.{token_on, shown_on, shows}
use Rattle.mm_text.specs.Mirror.Position.{is_quiet}
use Rattle.mm_text.specs.Mirror.Stripped.{ShowSame, IsBoundary, IsOpen, ink, feeds, IsStripped, IsAt}
use Rattle.mm_text.specs.Mirror.Stripped.{held, is_spoken, last_before}
use Rattle.mm_text.specs.declared.stripped.State.TheVariants.{Inside, Marked}
use Rattle.mm_text.specs.declared.stripped.State.{State}
use Rattle.mm_base.proofs.Lists.{both_choices, choice_mapped}
use Rattle.mm_base.proofs.TokensFrom.{run}
use Rattle.mm_text.proofs.Tokens.WordsAndComments.{ahead, by_position, tokens_ahead, quiet_ink}
use Rattle.mm_text.proofs.Tokens.WordsAndComments.{outside-begin, in_comment-mark, in_comment-more}
use Rattle.mm_text.proofs.Tokens.ManyBytes.{shown_legal}

-- ==== a byte of what a comment says may be left out: the file shows the same

-- ---- tokens that carry their lines

-- the number is that of the line feeds before
abbrev by_line : ℕ → ℕ → ℕ
by_line n b = n + cond (b == 10) 1 0

-- positions are line numbers in the other telling
lines_ahead : (file : ℕ) (line : ℕ → ℕ → ℕ) (inside : Bool) (at n : ℕ) (bytes : List ℕ) → ((i : ℕ) → line file (at + i) ≡ n + count_by (λ b. b == 10) (take i bytes))
    → map (token_on line) (ahead file by_position inside at bytes) ≡ ahead file by_line inside n bytes
lines_ahead file line inside at n [] h = refl
lines_ahead file line inside at n (b ∷ bytes) h =
    let here : line file at ≡ n = ap (line file) (sym (add-zero at)) ∙ h 0 ∙ add-zero n in
    let rest : (s : Bool) → map (token_on line) (ahead file by_position s (at + 1) bytes) ≡ ahead file by_line s (n + cond (b == 10) 1 0) bytes = λ s.
    lines_ahead file line s (at + 1) (n + cond (b == 10) 1 0) bytes (λ i.
    ap (line file) (omega arith) ∙ h (suc i) ∙ omega (arith, sum_by-cons (λ x. cond (x == 10) 1 0) b (take i bytes))) in
    choice_mapped (map (token_on line)) (λ l. l) (is_space b) _ _ _ _ (rest false)
    (choice_mapped (map (token_on line)) (λ l. l) inside _ _ _ _ (rest true)
    (λ i. record { text = b ∷ run bytes; file = file; at = here i } ∷ rest true i))

-- ---- what is shown of tokens that carry their lines

-- with nothing of what the texts of faults say
abbrev pub strip : List Shown → List Shown
strip shown = map (shown_on (λ file at. at)) shown

-- what is shown of tokens, where a comment is open or none is
abbrev pub seen : Option PlainToken → List PlainToken → List Shown
seen begin tokens = strip (without_comments begin tokens)

-- lines may be put in before comments are left out
pub lines_seen : (line : ℕ → ℕ → ℕ) (begin : Option PlainToken) (tokens : List PlainToken) → map (shown_on line) (without_comments begin tokens) ≡ seen (option_map (token_on line) begin) (map (token_on line) tokens)
unfolding without_comments
lines_seen line None [] = refl
lines_seen line (Some begin) [] = refl
lines_seen line None (t ∷ tokens) =
    let inside = lines_seen line (Some t) tokens in
    let outside = lines_seen line None tokens in
    choice_mapped (map (shown_on line)) strip (not (list_all is_printable t.text)) _ _ _ _ refl
    (choice_mapped (map (shown_on line)) strip (spells t.text (codes "$(")) _ _ _ _ inside
    (choice_mapped (map (shown_on line)) strip (spells t.text (codes "$)")) _ _ _ _ refl
    (ap (λ (l : List Shown). Clear (token_on line t) ∷ l) outside)))
lines_seen line (Some begin) (t ∷ tokens) =
    let inside = lines_seen line (Some begin) tokens in
    let outside = lines_seen line None tokens in
    choice_mapped (map (shown_on line)) strip (not (list_all is_printable t.text)) _ _ _ _ refl
    (choice_mapped (map (shown_on line)) strip (spells t.text (codes "$)")) _ _ _ _ outside
    (choice_mapped (map (shown_on line)) strip (holds_mark t.text) _ _ _ _ refl inside))

-- what is shown of bytes, from a line on
abbrev told : ℕ → Option PlainToken → Bool → ℕ → List ℕ → List Shown
told file begin inside n bytes = seen begin (ahead file by_line inside n bytes)

-- what a file shows is told so
shows_told : (file : ℕ) (bytes : List ℕ) → shows file bytes ≡ told file None false 0 bytes
shows_told file bytes =
    let line : (i : ℕ) → feeds_before bytes (0 + i) ≡ 0 + feeds_before bytes i = λ i.
    let position : 0 + i ≡ i = omega arith in
    ap (feeds_before bytes) position ∙ omega arith in
    lines_seen (λ file at. feeds_before bytes at) None (tokens_from file 0 bytes)
    ∙ ap (λ l. seen None (map (token_on (λ file at. feeds_before bytes at)) l)) (tokens_ahead file 0 bytes)
    ∙ ap (seen None) (lines_ahead file (λ file at. feeds_before bytes at) false 0 0 bytes line)

-- the same token before what shows the same
token_seen : (t : PlainToken) (tokens others : List PlainToken) → ((begin : Option PlainToken) → seen begin tokens ≡ seen begin others) → (begin : Option PlainToken) → seen begin (t ∷ tokens) ≡ seen begin (t ∷ others)
unfolding without_comments
token_seen t tokens others same None =
    choice_mapped strip strip (not (list_all is_printable t.text)) _ _ _ _ refl
    (choice_mapped strip strip (spells t.text (codes "$(")) _ _ _ _ (same (Some t))
    (choice_mapped strip strip (spells t.text (codes "$)")) _ _ _ _ refl
    (ap (λ (l : List Shown). Clear t ∷ l) (same None))))
token_seen t tokens others same (Some begin) =
    choice_mapped strip strip (not (list_all is_printable t.text)) _ _ _ _ refl
    (choice_mapped strip strip (spells t.text (codes "$)")) _ _ _ _ (same None)
    (choice_mapped strip strip (holds_mark t.text) _ _ _ _ refl (same (Some begin))))

-- ---- behind a prefix that ends with white space

-- the last byte is white space; where there is none, no token goes on from before
abbrev EndsApart : Bool → List ℕ → Type 0
EndsApart inside [] = inside ≡ false
EndsApart inside (b ∷ bytes) = EndsApart (not (is_space b)) bytes

-- bytes over whose end no token reaches end so
ends_apart : (inside : Bool) (bytes : List ℕ) → (length bytes ≡ 0 → inside ≡ false) → IsBoundary bytes → EndsApart inside bytes
ends_apart inside [] none boundary = none refl
ends_apart inside (b ∷ bytes) none boundary =
    ends_apart (not (is_space b)) bytes (λ e. ap not (boundary 0 (omega arith))) (λ k e. boundary (suc k) (omega arith))

-- what comes behind such bytes belongs to no run in them
run_apart : (prefix one other : List ℕ) → EndsApart true prefix → run (prefix ++ one) ≡ run (prefix ++ other)
run_apart [] one other ends = absurd cc
run_apart (b ∷ prefix) one other ends = elim (cases_Bool (is_space b)) [
  | inl e ↦ rw e refl
  | inr e ↦ rw e (ap (λ l. b ∷ l) (run_apart prefix one other (rw e at ends)))
]

-- such bytes before what shows the same
prefix_told : (file : ℕ) (one other : List ℕ) → ((begin : Option PlainToken) (n : ℕ) → told file begin false n one ≡ told file begin false n other)
    → (inside : Bool) (n : ℕ) (prefix : List ℕ) → EndsApart inside prefix → (begin : Option PlainToken) → told file begin inside n (prefix ++ one) ≡ told file begin inside n (prefix ++ other)
prefix_told file one other same inside n [] ends begin =
    ap (λ s. told file begin s n one) ends ∙ same begin n ∙ ap (λ s. told file begin s n other) (sym ends)
prefix_told file one other same inside n (b ∷ prefix) ends begin =
    elim (cases_Bool (is_space b)) [
      | inl e ↦ rw e (prefix_told file one other same false (by_line n b) prefix (rw e at ends) begin)
      | inr e ↦
          let h : EndsApart true prefix = rw e at ends in
          let rest = prefix_told file one other same true (by_line n b) prefix h in
          rw e (choice_mapped (seen begin) (seen begin) inside _ _ _ _ (rest begin)
          (token_seen (record { text = b ∷ run (prefix ++ one); file = file; at = n }) _ _ rest begin
          ∙ ap (λ (l : List ℕ). seen begin (record { text = b ∷ l; file = file; at = n } ∷ ahead file by_line true (by_line n b) (prefix ++ other))) (run_apart prefix one other h)))
    ]

-- ---- single bytes

-- a byte of a token isn't a line feed
ink_line : (n b : ℕ) → is_space b ≡ false → by_line n b ≡ n
ink_line n b e =
    let apart : (b == 10) ≡ false = ne_eqb b 10 (λ same. both_ways (is_space b) e (ap is_space same)) in
    ap (λ s. n + cond s 1 0) apart ∙ add-zero n

-- a token begins
ink_ahead : (file n b : ℕ) (rest : List ℕ) → is_space b ≡ false → ahead file by_line false n (b ∷ rest) ≡ record { text = b ∷ run rest; file = file; at = n } ∷ ahead file by_line true n rest
ink_ahead file n b rest e = rw (e, ink_line n b e) refl

-- white space ends one
run_space : (b : ℕ) (rest : List ℕ) → is_space b ≡ true → run (b ∷ rest) ≡ []
run_space b rest e = rw e refl

-- ---- a comment's tokens

-- in a comment they come to the same
record IsLike (text other : List ℕ) : Type 0 where
  printable : list_all is_printable text ≡ list_all is_printable other
  closes : spells text (codes "$)") ≡ spells other (codes "$)")
  mark : holds_mark text ≡ holds_mark other

-- such texts show the same, as the text of a fault shows nothing
like_seen : (begin : PlainToken) (file n : ℕ) (text other : List ℕ) (tokens : List PlainToken) → IsLike text other
    → seen (Some begin) (record { text = text; file = file; at = n } ∷ tokens) ≡ seen (Some begin) (record { text = other; file = file; at = n } ∷ tokens)
unfolding without_comments
like_seen begin file n text other tokens like =
    let Same : List Shown → List Shown → Type 0 = λ l m. strip l ≡ strip m in
    both_choices Same (not (list_all is_printable text)) _ _ _ _ _ (ap not like.printable) refl
    (both_choices Same (spells text (codes "$)")) _ _ _ _ _ like.closes refl
    (both_choices Same (holds_mark text) _ _ _ _ _ like.mark refl refl))

-- one more byte that is neither white space nor a `$`
more_like : (last b : ℕ) (text : List ℕ) → is_quiet last ≡ true → is_space last ≡ false → spells (b ∷ text) (codes "$)") ≡ false → IsLike (last ∷ b ∷ text) (b ∷ text)
more_like last b text q e closes =
    let parts = quiet_ink (is_printable last) (is_space last) (last == 36) q e in
    record {
      printable = ap (λ p. p && list_all is_printable (b ∷ text)) parts.0;
      closes = ap (λ d. d && spells (b ∷ text) (41 ∷ [])) parts.1 ∙ sym closes;
      mark = ap (λ d. (d && (b == 40 || b == 41)) || holds_mark (b ∷ text)) parts.1;
    }

-- a `$` more before such a byte
dollar_like : (b : ℕ) (text : List ℕ) → is_quiet b ≡ true → is_space b ≡ false → b ≢ 40 → b ≢ 41 → IsLike (36 ∷ b ∷ text) (b ∷ text)
dollar_like b text q e left right =
    let parts = quiet_ink (is_printable b) (is_space b) (b == 36) q e in
    record {
      printable = refl;
      closes = rw (ne_eqb b 41 right, parts.1) refl;
      mark = rw (ne_eqb b 40 left, ne_eqb b 41 right) refl;
    }

-- ---- the dropped bytes

-- two bytes begin a token
two_ahead : (file n a b : ℕ) (rest : List ℕ) → is_space a ≡ false → is_space b ≡ false → ahead file by_line false n (a ∷ b ∷ rest) ≡ record { text = a ∷ b ∷ run rest; file = file; at = n } ∷ ahead file by_line true n rest
two_ahead file n a b rest e f = rw (e, f, ink_line n a e, ink_line n b f) refl

-- a token before white space is passed over in a comment
passed : (begin : PlainToken) (file n b : ℕ) (text rest : List ℕ) → list_all is_printable text ≡ true → spells text (codes "$)") ≡ false → holds_mark text ≡ false → is_space b ≡ true
    → seen (Some begin) (record { text = text; file = file; at = n } ∷ ahead file by_line true n (b ∷ rest)) ≡ told file (Some begin) false n (b ∷ rest)
passed begin file n b text rest e f g space =
    ap strip (in_comment-more begin (record { text = text; file = file; at = n }) (ahead file by_line true n (b ∷ rest)) e f g)
    ∙ rw space refl

-- what is left of a byte shows what the byte shows
left_told : (file : ℕ) (begin : Option PlainToken) (n b : ℕ) (rest : List ℕ) (t : Bool) → is_space b ≡ t → told file begin false n (feeds (b ∷ []) ++ (cond t [] (b ∷ []) ++ rest)) ≡ told file begin false n (b ∷ rest)
left_told file begin n b rest true space =
    let Fed : List ℕ → Type 0 =
    λ l. told file begin false n (l ++ rest) ≡ told file begin false n (b ∷ rest) in
    cond_both (b == 10) _ _ Fed (λ e. refl) (λ e.
    ap (λ m. told file begin false m rest) (sym (ap (λ s. n + cond s 1 0) e ∙ add-zero n))
    ∙ rw space refl)
left_told file begin n b rest false e =
    let apart : (b == 10) ≡ false = ne_eqb b 10 (λ same. both_ways (is_space b) e (ap is_space same)) in
    ap (λ p. told file begin false n (cond p (b ∷ []) [] ++ (b ∷ rest))) apart

-- what the last byte of a word and a byte show, the byte shows alone
byte_told : (file : ℕ) (begin : PlainToken) (n last b : ℕ) (rest : List ℕ) (s t : Bool) → is_space last ≡ s → is_space b ≡ t → is_quiet last ≡ true → is_quiet b ≡ true
    → told file (Some begin) false n (cond s [] (last ∷ []) ++ (b ∷ rest)) ≡ told file (Some begin) false n (b ∷ rest)
byte_told file begin n last b rest true t e f q r = refl
byte_told file begin n last b rest false true e f q r =
    let parts = quiet_ink (is_printable last) (is_space last) (last == 36) q e in
    rw (ink_ahead file n last (b ∷ rest) e, run_space b rest f)
    (passed begin file n b (last ∷ []) rest (rw parts.0 refl) (rw parts.1 refl) refl f)
byte_told file begin n last b rest false false e f q r =
    rw (two_ahead file n last b rest e f, ink_ahead file n b rest f)
    (like_seen begin file n (last ∷ b ∷ run rest) (b ∷ run rest) (ahead file by_line true n rest) (more_like last b (run rest) q e (rw (quiet_ink (is_printable b) (is_space b) (b == 36) r f).1 refl)))

-- and so with a `$` between them
dollar_told : (file : ℕ) (begin : PlainToken) (n last b : ℕ) (rest : List ℕ) (s t : Bool) → is_space last ≡ s → is_space b ≡ t → is_quiet last ≡ true → is_quiet b ≡ true → b ≢ 40 → b ≢ 41
    → told file (Some begin) false n (cond s [] (last ∷ []) ++ (36 ∷ b ∷ rest)) ≡ told file (Some begin) false n (b ∷ rest)
dollar_told file begin n last b rest true true e f q r left right =
    rw (ink_ahead file n 36 (b ∷ rest) refl, run_space b rest f)
    (passed begin file n b (36 ∷ []) rest refl refl refl f)
dollar_told file begin n last b rest true false e f q r left right =
    rw (two_ahead file n 36 b rest refl f, ink_ahead file n b rest f)
    (like_seen begin file n (36 ∷ b ∷ run rest) (b ∷ run rest) (ahead file by_line true n rest) (dollar_like b (run rest) r f left right))
dollar_told file begin n last b rest false true e f q r left right =
    let parts = quiet_ink (is_printable last) (is_space last) (last == 36) q e in
    rw (two_ahead file n last 36 (b ∷ rest) e refl, run_space b rest f)
    (passed begin file n b (last ∷ 36 ∷ []) rest (rw parts.0 refl) (rw parts.1 refl) (rw parts.1 refl) f)
dollar_told file begin n last b rest false false e f q r left right =
    rw (two_ahead file n last 36 (b ∷ rest) e refl, f, ink_line n b f)
    (like_seen begin file n (last ∷ 36 ∷ b ∷ run rest) (36 ∷ b ∷ run rest) (ahead file by_line true n rest) (more_like last 36 (b ∷ run rest) q e (rw (ne_eqb b 41 right) refl))
    ∙ like_seen begin file n (36 ∷ b ∷ run rest) (b ∷ run rest) (ahead file by_line true n rest) (dollar_like b (run rest) r f left right))

-- ---- behind a `$(`

-- white space before what shows the same
spaces_told : (file : ℕ) (begin : Option PlainToken) (one other : List ℕ) → ((n : ℕ) → told file begin false n one ≡ told file begin false n other)
    → (inside : Bool) (n : ℕ) (spaces : List ℕ) → (length spaces ≡ 0 → inside ≡ false) → list_all is_space spaces ≡ true → told file begin inside n (spaces ++ one) ≡ told file begin inside n (spaces ++ other)
spaces_told file begin one other same inside n [] some each =
    ap (λ s. told file begin s n one) (some refl) ∙ same n ∙ ap (λ s. told file begin s n other) (sym (some refl))
spaces_told file begin one other same inside n (b ∷ spaces) some each =
    let parts = and_parts (is_space b) (list_all is_space spaces) each in
    rw parts.0 (spaces_told file begin one other same false (by_line n b) spaces (λ e. refl) parts.1)

-- it opens a comment, or is a fault in one
mark_told : (file : ℕ) (one other : List ℕ) → ((begin : PlainToken) (n : ℕ) → told file (Some begin) false n one ≡ told file (Some begin) false n other)
    → (spaces : List ℕ) → 1 ≤ length spaces → list_all is_space spaces ≡ true → (begin : Option PlainToken) (n : ℕ) → told file begin false n (36 ∷ 40 ∷ spaces ++ one) ≡ told file begin false n (36 ∷ 40 ∷ spaces ++ other)
mark_told file one other same [] some each begin n = absurd (omega arith)
mark_told file one other same (b ∷ spaces) some each begin n =
    let parts = and_parts (is_space b) (list_all is_space spaces) each in
    ap (seen begin) (mark (spaces ++ one) parts.0) ∙ go begin ∙ ap (seen begin) (sym (mark (spaces ++ other) parts.0))
  where
    mark : (rest : List ℕ) → is_space b ≡ true → ahead file by_line false n (36 ∷ 40 ∷ b ∷ rest) ≡ record { text = 36 ∷ 40 ∷ []; file = file; at = n } ∷ ahead file by_line true n (b ∷ rest)
    mark rest e = two_ahead file n 36 40 (b ∷ rest) refl refl ∙ rw e refl

    go : (begin : Option PlainToken) → seen begin (record { text = 36 ∷ 40 ∷ []; file = file; at = n } ∷ ahead file by_line true n (b ∷ spaces ++ one)) ≡ seen begin (record { text = 36 ∷ 40 ∷ []; file = file; at = n } ∷ ahead file by_line true n (b ∷ spaces ++ other))
    go None =
        let t : PlainToken = record { text = 36 ∷ 40 ∷ []; file = file; at = n } in
        ap strip (outside-begin t (ahead file by_line true n (b ∷ spaces ++ one)) refl refl)
        ∙ spaces_told file (Some t) one other (same t) true n (b ∷ spaces) (λ e. absurd (omega (arith, e))) each
        ∙ ap strip (sym (outside-begin t (ahead file by_line true n (b ∷ spaces ++ other)) refl refl))
    go (Some begun) =
        let t : PlainToken = record { text = 36 ∷ 40 ∷ []; file = file; at = n } in
        ap strip (in_comment-mark begun t (ahead file by_line true n (b ∷ spaces ++ one)) refl refl refl)
        ∙ ap strip (sym (in_comment-mark begun t (ahead file by_line true n (b ∷ spaces ++ other)) refl refl refl))

-- what shows the same in a comment, behind an open one
opened : (file : ℕ) (bytes one other : List ℕ) → IsOpen bytes → ((begin : PlainToken) (n : ℕ) → told file (Some begin) false n one ≡ told file (Some begin) false n other) → shows file (bytes ++ one) ≡ shows file (bytes ++ other)
opened file bytes one other comment same =
    whole one ∙ prefix_told file (36 ∷ 40 ∷ comment.behind ++ one) (36 ∷ 40 ∷ comment.behind ++ other) (mark_told file one other same comment.behind comment.some comment.spaces)
    false 0 comment.prefix (ends_apart false comment.prefix (λ e. refl) comment.boundary) None ∙ sym (whole other)
  where
    whole : (behind : List ℕ) → shows file (bytes ++ behind) ≡ told file None false 0 (comment.prefix ++ (36 ∷ 40 ∷ comment.behind ++ behind))
    whole behind =
        rw comment.whole (simp append_assoc
        (shows_told file (comment.prefix ++ (36 ∷ 40 ∷ comment.behind ++ behind))))

-- bytes of a comment may be left out where the rest tells the same
dropped : (bytes more : List ℕ) (last b : ℕ) → IsOpen bytes
    → ((file : ℕ) (begin : PlainToken) (n : ℕ) (rest : List ℕ)
    → told file (Some begin) false n (ink last ++ (more ++ b ∷ rest))
    ≡ told file (Some begin) false n (b ∷ rest))
    → ShowSame (bytes ++ ink last ++ (more ++ b ∷ [])) (bytes ++ feeds (b ∷ []) ++ ink b)
dropped bytes more last b comment same file rest =
    simp append_assoc (opened file bytes (ink last ++ (more ++ b ∷ rest))
    (feeds (b ∷ []) ++ (ink b ++ rest)) comment (λ begin n. same file begin n rest
    ∙ sym (left_told file (Some begin) n b rest (is_space b) refl)))

-- a byte of what a comment says may be left out so, but for its line feed and for the last byte of a word
byte_dropped : (bytes : List ℕ) (last b : ℕ) → IsOpen bytes → is_quiet last ≡ true → is_quiet b ≡ true → ShowSame (bytes ++ ink last ++ b ∷ []) (bytes ++ feeds (b ∷ []) ++ ink b)
byte_dropped bytes last b comment q r =
    dropped bytes [] last b comment (λ file begin n rest. byte_told file begin n last b rest (is_space last) (is_space b) refl refl q r)

-- and so may a `$` before such a byte, where the two are no mark
dollar_dropped : (bytes : List ℕ) (last b : ℕ) → IsOpen bytes → is_quiet last ≡ true → is_quiet b ≡ true → b ≢ 40 → b ≢ 41 → ShowSame (bytes ++ ink last ++ 36 ∷ b ∷ []) (bytes ++ feeds (b ∷ []) ++ ink b)
dollar_dropped bytes last b comment q r left right =
    dropped bytes (36 ∷ []) last b comment (λ file begin n rest. dollar_told file begin n last b rest (is_space last) (is_space b) refl refl q r left right)

-- ==== what is kept of a file as its bytes come

-- what comes behind both shows the same too
kept_as_it_is : (bytes others more : List ℕ) → ShowSame bytes others → ShowSame (bytes ++ more) (others ++ more)
kept_as_it_is bytes others more same file rest =
    ap (shows file) (append_assoc bytes more rest) ∙ same file (more ++ rest) ∙ sym (ap (shows file) (append_assoc others more rest))

-- a comment stays open behind a line feed of it
pub still_open : (kept : List ℕ) (b : ℕ) → IsOpen kept → IsOpen (kept ++ feeds (b ∷ []))
still_open kept b «open» = record {
  prefix = «open».prefix;
  behind = «open».behind ++ feeds (b ∷ []);
  whole = ap (λ l. l ++ feeds (b ∷ [])) «open».whole ∙ append_assoc («open».prefix ++ codes "$(") «open».behind (feeds (b ∷ []));
  boundary = «open».boundary;
  some = omega (arith, «open».some, length-append «open».behind (feeds (b ∷ [])));
  spaces =
      list_all-append is_space «open».behind (feeds (b ∷ []))
      ∙ and_from _ _ «open».spaces (cond_both (b == 10) _ _ (λ l. list_all is_space l ≡ true)
      (λ e. rw (eqb-true b 10 e) refl) (λ _. refl));
}

-- a line feed, or the byte of a word, is one byte at most
few : (kept : List ℕ) (b : ℕ) → length (kept ++ feeds (b ∷ []) ++ ink b) ≤ length kept + 1
few kept b = elim (cases_eq b 10) [
  | inl feed ↦ rw feed (omega (arith, length-append (kept ++ 10 ∷ []) [], length-append kept (10 ∷ [])))
  | inr other ↦
      let none : feeds (b ∷ []) ≡ [] = rw (ne_eqb b 10 other) refl in
      let ink_few : length (ink b) ≤ 1 =
      cond_both (is_space b) _ _ (λ l. length l ≤ 1) (λ _. omega arith) (λ _. omega arith) in
      omega (arith, length-append (kept ++ feeds (b ∷ [])) (ink b), length-append kept (feeds (b ∷ [])), ap length none)
]

-- a byte of a comment is left out
pub left_out : (bytes kept : List ℕ) (last b : ℕ) → is_quiet b ≡ true → IsStripped bytes kept (Inside last) → IsStripped (bytes ++ b ∷ []) (kept ++ feeds (b ∷ [])) (Inside b)
left_out bytes kept last b quiet stripped = record {
  same = λ file rest. kept_as_it_is bytes (kept ++ ink last) (b ∷ []) stripped.same file rest ∙ byte_dropped kept last b stripped.at.0 stripped.at.1 quiet file rest;
  at = (still_open kept b stripped.at.0, quiet);
  short = omega (arith, few kept b, stripped.short, length-append bytes (b ∷ []), length-append kept (ink last));
}

-- what is told of a success, by what else is told of it
pub both_told : {A E : Type 0} (r : Result A E) (P Q R : Type 0) → OnOk r P → OnOk r Q → (P → Q → R) → OnOk r R
both_told (Ok x) P Q R p q each = each p q
both_told (Err e) P Q R p q each = tt

-- a byte of a comment behind a `$` was left out, as the code says it
pub mark_left_out_so : (bytes kept next : List ℕ) (state after : State) (last b : ℕ) → is_quiet b ≡ true → b ≢ 40 → b ≢ 41 → state ≡ Marked last → next ≡ kept ++ feeds (b ∷ []) → after ≡ Inside b → IsStripped bytes kept state → IsStripped (bytes ++ b ∷ []) next after
mark_left_out_so bytes kept next state after last b quiet one other is what where_to stripped =
    let h = rw is at stripped in
    let whole : kept ++ (ink last ++ 36 ∷ []) ++ b ∷ [] ≡ kept ++ ink last ++ 36 ∷ b ∷ [] =
    simp append_assoc in
    rw (where_to, what) (record {
      same = λ file rest. kept_as_it_is bytes _ (b ∷ []) h.same file rest
          ∙ rw whole (dollar_dropped kept last b h.at.0 h.at.1 quiet one other file rest);
      at = (still_open kept b h.at.0, quiet);
      short = omega (arith, few kept b, h.short, length-append bytes (b ∷ []), length-append kept (ink last ++ 36 ∷ []));
    })

-- bytes were kept as they are
pub kept_so : (bytes kept next more : List ℕ) (state after : State) → held state ≡ [] → held after ≡ [] → next ≡ kept ++ more → (IsAt kept state → IsAt (kept ++ more) after) → IsStripped bytes kept state → IsStripped (bytes ++ more) next after
kept_so bytes kept next more state after none none_then is where_to stripped =
    let before = ap (λ l. kept ++ l) none ∙ append-nil kept in
    let behind = ap (λ l. kept ++ more ++ l) none_then ∙ append-nil (kept ++ more) in
    rw is (record {
      same = rw behind (kept_as_it_is bytes kept more (rw before at stripped.same));
      at = where_to stripped.at;
      short = omega (arith, stripped.short, length-append bytes more, length-append kept more, ap length before, ap length behind);
    })

-- such bytes of a comment are left out
run_left_out : (bytes kept piece : List ℕ) (at last n : ℕ) → at + n ≤ length piece → ((k : ℕ) → at ≤ k → k < at + n → is_spoken (get_or piece k 0) ≡ true) → IsStripped bytes kept (Inside last)
    → IsStripped (bytes ++ take n (drop at piece)) kept (Inside (last_before piece at last n))
run_left_out bytes kept piece at last zero within all stripped = subst (λ l. IsStripped l kept (Inside last)) (sym (append-nil bytes)) stripped
run_left_out bytes kept piece at last (suc n) within all stripped =
    let b = get_or piece (at + n) 0 in
    let before = run_left_out bytes kept piece at last n (omega (arith, within)) (λ k low high. all k low (omega (arith, high))) stripped in
    let parts = and_parts _ _ (all (at + n) (omega arith) (omega arith)) in
    let ends = and_parts _ _ parts.0 in
    let low : 32 ≤ b = leb-true 32 b ends.0 in
    let quiet : is_quiet b ≡ true =
    ap (λ l. l && not (b == 36)) (shown_legal b low (leb-true b 126 ends.1)) ∙ parts.1 in
    let none : feeds (b ∷ []) ≡ [] = rw (ne_eqb b 10 (λ is. omega (arith, low, is))) refl in
    let one = left_out (bytes ++ take n (drop at piece)) kept (last_before piece at last n) b quiet before in
    let same_kept = ap (λ l. kept ++ l) none ∙ append-nil kept in
    let next : n + 1 ≡ suc n = omega arith in
    let more : take n (drop at piece) ++ b ∷ [] ≡ take (suc n) (drop at piece) =
    sym (ap (λ m. take m (drop at piece)) (sym next) ∙ take_more (drop at piece) n 0 (omega (arith, within, length-drop at piece)) ∙ ap (λ d. take n (drop at piece) ++ d ∷ []) (get_or-drop at piece n 0)) in
    subst (λ l. IsStripped l kept (Inside b)) (append_assoc bytes (take n (drop at piece)) (b ∷ []) ∙ ap (λ l. bytes ++ l) more)
    (subst (λ l. IsStripped (bytes ++ take n (drop at piece) ++ b ∷ []) l (Inside b)) same_kept one)

-- one byte of a piece
pub one_of : (piece : List ℕ) (at : ℕ) → at < length piece → take (at + 1 - at) (drop at piece) ≡ get_or piece at 0 ∷ []
one_of piece at within =
    let one : at + 1 - at ≡ 1 = omega arith in
    let more = take_more (drop at piece) 0 0 (omega (arith, within, length-drop at piece)) in
    rw (one, more, get_or-drop at piece 0 0, add-zero at) refl

-- a part of a piece, and the part behind it
two_parts : (bytes piece : List ℕ) (start at n : ℕ) → start ≤ at → bytes ++ take (at - start) (drop start piece) ++ take n (drop at piece) ≡ bytes ++ take (at + n - start) (drop start piece)
two_parts bytes piece start at n order =
    let k = at - start in
    let there : start + k ≡ at = omega (arith, order) in
    let whole : k + n ≡ at + n - start = omega (arith, order) in
    rw (← whole, take-add k n (drop start piece), drop-drop k start piece, there)
    (append_assoc bytes (take k (drop start piece)) (take n (drop at piece)))

-- the end of a part of lines that are left out
pub lines_end : (bytes kept next piece : List ℕ) (state after : State) (start at end last : ℕ) → start ≤ at → at ≤ end → end ≤ length piece → ((k : ℕ) → at ≤ k → k < end → is_spoken (get_or piece k 0) ≡ true)
    → state ≡ Inside last → next ≡ kept → after ≡ Inside (last_before piece at last (end - at)) → IsStripped (bytes ++ take (at - start) (drop start piece)) kept state
    → IsStripped (bytes ++ take (end - start) (drop start piece)) next after
lines_end bytes kept next piece state after start at end last from order within all is same where_to stripped =
    let whole : at + (end - at) ≡ end = omega (arith, order) in
    let prefix = bytes ++ take (at - start) (drop start piece) in
    let run = run_left_out prefix kept piece at last (end - at) (omega (arith, whole, within))
    (λ k low high. all k low (omega (arith, high, whole))) (rw is at stripped) in
    rw (where_to, same)
    (subst (λ l. IsStripped l kept (Inside (last_before piece at last (end - at)))) (two_parts bytes piece start at (end - at) from ∙ ap (λ m. bytes ++ take (m - start) (drop start piece)) whole) run)

-- one more line that is left out
pub lines_more : (bytes kept next piece : List ℕ) (state after : State) (start at end last : ℕ) → start ≤ at → at ≤ end → end < length piece → ((k : ℕ) → at ≤ k → k < end → is_spoken (get_or piece k 0) ≡ true)
    → get_or piece end 0 ≡ 10 → state ≡ Inside last → next ≡ kept ++ feeds (10 ∷ []) → after ≡ Inside 10 → IsStripped (bytes ++ take (at - start) (drop start piece)) kept state
    → IsStripped (bytes ++ take (end + 1 - start) (drop start piece)) next after
lines_more bytes kept next piece state after start at end last from order within all feed is what where_to stripped =
    let b = last_before piece at last (end - at) in
    let line = lines_end bytes kept kept piece state (Inside b) start at end last from order (omega (arith, within)) all is refl refl stripped in
    let one = left_out (bytes ++ take (end - start) (drop start piece)) kept b 10 refl line in
    let next_position : end + (end + 1 - end) ≡ end + 1 = omega arith in
    let whole = ap (λ d. bytes ++ take (end - start) (drop start piece) ++ d ∷ []) (sym feed)
    ∙ ap (λ l. bytes ++ take (end - start) (drop start piece) ++ l) (sym (one_of piece end within))
    ∙ two_parts bytes piece start end (end + 1 - end) (omega (arith, from, order))
    ∙ ap (λ m. bytes ++ take (m - start) (drop start piece)) next_position in
    rw (where_to, what) (subst (λ l. IsStripped l (kept ++ feeds (10 ∷ [])) (Inside 10)) whole one)
