-- A text in a form is a proof of its theorem; that of a packed proof tells its labels and its codes,
-- so such texts tell whether two proofs are the same (`packed_texts_tell`).
use Rattle.std.proofs.Common.{◌≡◌, ◌≢◌, ℕ, ◌+◌, ◌≤◌, ◌==◌, ◌||◌, ◌&&◌, List, [], ◌∷◌, ◌++◌, map}
use Rattle.std.proofs.Common.{Bool, true, false, cond, refl, sym, subst, ◌∙◌, arith, append_assoc}
use Rattle.std.proofs.Common.{append-nil, Contains, ◌↔◌, zero, suc, take, None, inl, inr, ap}
use Rattle.std.specs.Prelude.{nat_le}
use Rattle.std.specs.List.{AllByRecursion, AllZip, flat_map, list_all, list_any}
use Rattle.std.proofs.lemmas.Bool.{leb-true, eqb-true, le-leb, ne_eqb, and_parts, cases_Bool}
use Rattle.mm_base.specs.Token.{PlainToken, is_space, is_printable, is_label_byte, IsLabel}
use Rattle.mm_base.specs.Token.{HoldsNoDollar, tokens_from}
use Rattle.mm_text.specs.Replaced.{IsProofToken, IsProofText}
use Rattle.mm_text.proofs.Reader.OneToken.{label_held}
use Rattle.mm_base.proofs.LabelBytes.{label_bytes}
use Rattle.mm_base.proofs.Lists.{all_append, all_prefix, all_back, all_weaker, contains_from_at}
use Rattle.mm_base.proofs.Lists.{all_within}
use Rattle.mm_code.specs.declared.code.Code.{Code}
use Rattle.mm_code.specs.declared.code.Code.TheVariants.{Number, Tag}
use Rattle.mm_code.specs.Letters.{IsLeadingDigit, leading_letter, last_letter, SaysCode}
use Rattle.mm_code.specs.Letters.{SpellsCodes, Letters}
use Rattle.mm_code.specs.Layout.{indent, token_line, LaidOut, CompressedLaidOut, in_parentheses}
use Rattle.mm_code.specs.Words.{texts_of, tokens_in, LacksWhiteSpace, IsOneToken}
use Rattle.mm_code.proofs.ReadBack.{texts_in, tokens_in-space, normal_read_back}
use Rattle.mm_code.proofs.ReadBack.{compressed_read_back}
use Rattle.mm_proof.specs.Tokens.{is_incomplete, SayMoves, IsNormal, opening_token, closing_token}
use Rattle.mm_proof.specs.Tokens.{IsCompressed}
use Rattle.mm_frame.specs.Sentence.{Sentence, SomeSentence, IsLabelled}
use Rattle.mm_frame.specs.Form.{AllFormed}
use Rattle.mm_frame.specs.Rules.{AllMeant}
use Rattle.mm_frame.proofs.BookLists.ReadLabels.{label_named}
use Rattle.mm_step.specs.Tree.{Trees, none, tree, spelling, TreesFit, DeriveAll}
use Rattle.mm_step.specs.Moves.{Move, Makes}
use Rattle.mm_forms.specs.OneTree.{MakeTree, MakeSameTree}
use Rattle.mm_proof.specs.Proof.{IsProvedWithin}
use Rattle.mm_proof.specs.Strict.{IsStrict}
use Rattle.mm_step.proofs.ProofSteps.Derivations.{makes_once}
use Rattle.mm_proof.proofs.ProofTokens.SaidMoves.{moves_once, compressed_once}
use Rattle.mm_proof.proofs.ProofTokens.WrittenLabels.{normal_is_strict}
use Rattle.mm_forms.proofs.PackedProofs.WrittenProofs.{packed_is_strict}
use Rattle.mm_proof.proofs.ProofTokens.WrittenLabels.{label_fits, stands_known, IsProofBy}
use Rattle.mm_proof.proofs.ProofTokens.WrittenLabels.{spelled_proves}
use Rattle.mm_forms.proofs.PackedProofs.WrittenProofs.{packed_listed, packed_proves}
use Rattle.mm_forms.proofs.SmallProofs.WrittenSmallProofs.{small_known}
use Rattle.mm_forms.proofs.SmallProofs.WrittenSmallProofs.{small_proves, small_text_is_strict}
use Rattle.mm_code.proofs.SmallReadBack.{small_read_back}
use Rattle.mm_code.proofs.SmallEnds.{small_begins, small_ends}
use Rattle.mm_verdict.specs.declared.form.Form.{Form}
use Rattle.mm_render.specs.Forms.{IsPackedText, IsSmallBehind}
use Rattle.mm_render.specs.Saved.{IsSpanText, indent_of, has_long_ends, with_ends_of}
use Rattle.mm_laws.proofs.SavingLaws.LineEnds.{lengthened, lengthened_begins, lengthened_ends}
use Rattle.mm_laws.proofs.SavingLaws.LineEnds.{lengthened_tokens}
use Rattle.mm_verdict.proofs.Questions.AskedTheorems.{map-take}
use Rattle.mm_code.proofs.LaidOutLines.{one_text_of_compressed}
use Rattle.mm_code.proofs.OneSpelling.{one_text_only, one_reading_only}
use Rattle.mm_forms.specs.Sharing.{AreFirstUses}
use Rattle.mm_forms.proofs.TreeBuilding.TreeWords.{made_word}
use Rattle.mm_forms.proofs.FullSharing.OneSharedProof.{told_by_packed_holds}
use Rattle.mm_text.proofs.Reader.WholeReadings.{readings_are_formed_in_place}
use Rattle.mm_frame.proofs.Rules.ObeyedRules.{allformed_prefix, allmeant_prefix}
use Rattle.mm_rules.specs.Verdict.{sentences}
use Rattle.mm_laws.specs.FormLaws.{PackedTextsTell}
use Rattle.mm_verdict.proofs.Verdicts.OneVerdict.{formed_sentences}
use Rattle.mm_verdict.proofs.Verdicts.StatementByStatement.{all_meant}
use Rattle.mm_verdict.specs.declared.form.Form.TheVariants as form

-- ==== the tokens of a text that is laid out in lines are those of a proof

-- ---- bytes of labels and letters

-- a byte that a token of a complete proof may hold
abbrev pub IsFine : ℕ → Type 0
IsFine b = (33 ≤ b) × ((b ≤ 126) × ((b ≢ 36) × (b ≢ 63)))

abbrev pub AreFine : List ℕ → Type 0
AreFine text = AllByRecursion IsFine text

one_of_six : (a b c d e f : Bool) (P : Type 0) → (a || b || c || d || e || f) ≡ true → (a ≡ true → P) → (b ≡ true → P) → (c ≡ true → P) → (d ≡ true → P) → (e ≡ true → P) → (f ≡ true → P) → P
one_of_six true b c d e f P h pa pb pc pd pe pf = pa refl
one_of_six false true c d e f P h pa pb pc pd pe pf = pb refl
one_of_six false false true d e f P h pa pb pc pd pe pf = pc refl
one_of_six false false false true e f P h pa pb pc pd pe pf = pd refl
one_of_six false false false false true f P h pa pb pc pd pe pf = pe refl
one_of_six false false false false false true P h pa pb pc pd pe pf = pf refl
one_of_six false false false false false false P h pa pb pc pd pe pf = absurd cc

label_range : (b low high : ℕ) → (nat_le low b && nat_le b high) ≡ true → (low ≤ b) × (b ≤ high)
label_range b low high h = let both = and_parts (nat_le low b) (nat_le b high) h in (leb-true low b both.0, leb-true b high both.1)

pub fine_in : (b low high : ℕ) → low ≤ b → b ≤ high → 42 ≤ low → high ≤ 126 → ((low ≤ 63) → high ≤ 62) → IsFine b
fine_in b low high more less from to apart =
    (omega (arith, more, from), (omega (arith, less, to), ((λ e. omega (arith, e, more, from)), (λ e. let up : high ≤ 62 = apart (omega (arith, e, more)) in omega (arith, e, less, up)))))

pub label_fine : (b : ℕ) → is_label_byte b ≡ true → IsFine b × (42 ≤ b)
label_fine b h =
    one_of_six (nat_le 65 b && nat_le b 90) (nat_le 97 b && nat_le b 122) (nat_le 48 b && nat_le b 57) (b == 45) (b == 95) (b == 46) (IsFine b × (42 ≤ b)) h
    (λ e. let r = label_range b 65 90 e in (fine_in b 65 90 r.0 r.1 (omega arith) (omega arith) (λ x. absurd (omega (arith, x))), omega (arith, r.0)))
    (λ e. let r = label_range b 97 122 e in (fine_in b 97 122 r.0 r.1 (omega arith) (omega arith) (λ x. absurd (omega (arith, x))), omega (arith, r.0)))
    (λ e. let r = label_range b 48 57 e in (fine_in b 48 57 r.0 r.1 (omega arith) (omega arith) (λ x. omega arith), omega (arith, r.0)))
    (λ e. let r = eqb-true b 45 e in (fine_in b 45 45 (omega (arith, r)) (omega (arith, r)) (omega arith) (omega arith) (λ x. omega arith), omega (arith, r)))
    (λ e. let r = eqb-true b 95 e in (fine_in b 95 95 (omega (arith, r)) (omega (arith, r)) (omega arith) (omega arith) (λ x. absurd (omega (arith, x))), omega (arith, r)))
    (λ e. let r = eqb-true b 46 e in (fine_in b 46 46 (omega (arith, r)) (omega (arith, r)) (omega arith) (omega arith) (λ x. omega arith), omega (arith, r)))

bytes_fine : (text : List ℕ) → list_all is_label_byte text ≡ true → AreFine text
bytes_fine [] h = tt
bytes_fine (b ∷ text) h =
    let both = and_parts (is_label_byte b) (list_all is_label_byte text) h in
    ((label_fine b both.0).0, bytes_fine text both.1)

pub label_all_fine : (text : List ℕ) → IsLabel text → AreFine text
label_all_fine text is = bytes_fine text (label_bytes text is)

-- a parenthesis is no label
pub no_parenthesis : (b : ℕ) → b ≤ 41 → ¬ (IsLabel (b ∷ []))
no_parenthesis b small h =
    absurd (omega (arith, (label_fine b (and_parts (is_label_byte b) true h).0).1, small))

-- ---- letters

leading_fine : (digits : List ℕ) → AllByRecursion IsLeadingDigit digits → AreFine (map leading_letter digits)
leading_fine [] h = tt
leading_fine (d ∷ digits) h =
    let more = h.0.0 in let less = h.0.1 in
    (fine_in (84 + d) 85 89 (omega (arith, more)) (omega (arith, less)) (omega arith) (omega arith) (λ x. absurd (omega (arith, x))), leading_fine digits h.1)

piece_fine : (piece : List ℕ) (code : Code) → SaysCode piece code → AreFine piece
piece_fine piece (Number number) s =
    let more = s.is_last.0 in let less = s.is_last.1 in
    subst AreFine (sym s.letters) (all_append IsFine (map leading_letter s.leading) (last_letter s.last ∷ []) (leading_fine s.leading s.are_leading)
    (fine_in (64 + s.last) 65 84 (omega (arith, more)) (omega (arith, less)) (omega arith) (omega arith) (λ x. absurd (omega (arith, x))), tt))
piece_fine piece Tag s = subst AreFine (sym s) (fine_in 90 90 90 (omega arith) (omega arith) (omega arith) (omega arith) (λ x. absurd (omega (arith, x))), tt)

pieces_fine : (pieces : List (List ℕ)) (codes : List Code) → AllZip SaysCode pieces codes → AreFine (flat_map (λ piece. piece) pieces)
pieces_fine [] codes h = tt
pieces_fine (piece ∷ pieces) [] h = absurd h
pieces_fine (piece ∷ pieces) (code ∷ codes) h = all_append IsFine piece (flat_map (λ p. p) pieces) (piece_fine piece code h.0) (pieces_fine pieces codes h.1)

pub letters_fine : (letters : List ℕ) (codes : List Code) → SpellsCodes letters codes → AreFine letters
letters_fine letters codes s = subst AreFine (sym s.joined) (pieces_fine s.pieces codes s.each)

pub cut_fine : (pieces : List (List ℕ)) → AreFine (flat_map (λ piece. piece) pieces) → AllByRecursion AreFine pieces
cut_fine [] h = tt
cut_fine (piece ∷ pieces) h =
    (all_prefix IsFine piece (flat_map (λ p. p) pieces) h, cut_fine pieces (all_back IsFine piece (flat_map (λ p. p) pieces) h))

-- ---- tokens of fine bytes

fine_dark : (b : ℕ) → IsFine b → is_space b ≡ false
fine_dark b f =
    let apart : (n : ℕ) → n ≤ 32 → (b == n) ≡ false =
    λ n less. ne_eqb b n (λ e. omega (arith, e, less, f.0)) in
    rw (apart 32 (omega arith), apart 9 (omega arith), apart 10 (omega arith))
    (rw (apart 12 (omega arith), apart 13 (omega arith)))

pub fine_lacks : (text : List ℕ) → AreFine text → LacksWhiteSpace text
fine_lacks [] h = tt
fine_lacks (b ∷ text) h = (fine_dark b h.0, fine_lacks text h.1)

-- a label is one token
pub label_token : (label : List ℕ) → IsLabel label → IsOneToken label
label_token label is = (omega (arith, label_held label is), fine_lacks label (label_all_fine label is))

fine_printable : (text : List ℕ) → AreFine text → list_all is_printable text ≡ true
fine_printable [] h = refl
fine_printable (b ∷ text) h =
    rw (le-leb 33 b h.0.0, le-leb b 126 h.0.1.0) (fine_printable text h.1)

fine_dollar : (text : List ℕ) → AreFine text → HoldsNoDollar text
fine_dollar [] h = refl
fine_dollar (b ∷ text) h = rw (ne_eqb b 36 h.0.1.1.0) (fine_dollar text h.1)

fine_known : (text : List ℕ) → AreFine text → list_any (λ b. b == 63) text ≡ false
fine_known [] h = refl
fine_known (b ∷ text) h = rw (ne_eqb b 63 h.0.1.1.1) (fine_known text h.1)

pub fine_complete : (tokens : List (List ℕ)) → AllByRecursion AreFine tokens → is_incomplete tokens ≡ false
fine_complete [] h = refl
fine_complete (t ∷ tokens) h = rw (fine_known t h.0) (fine_complete tokens h.1)

fine_tokens : (tokens : List PlainToken) → AllByRecursion AreFine (texts_of tokens) → AllByRecursion IsProofToken tokens
fine_tokens [] h = tt
fine_tokens (t ∷ tokens) h = ((fine_printable t.text h.0, fine_dollar t.text h.0), fine_tokens tokens h.1)

-- ---- the end of the text

-- after a line feed, the text ends in one
abbrev pub EndsLine : List ℕ → Type 0
EndsLine text = (inner : List ℕ) × (10 ∷ text ≡ inner ++ 10 ∷ [])

line_before : (line text : List ℕ) → EndsLine text → EndsLine ((line ++ 10 ∷ []) ++ text)
line_before line text (inner, e) =
    (10 ∷ (line ++ inner), rw (append_assoc line (10 ∷ []) text, e, append_assoc line inner))

lines_end : (lines : List (List (List ℕ))) (text : List ℕ) → EndsLine text → EndsLine (flat_map (λ line. token_line line ++ 10 ∷ []) lines ++ text)
lines_end [] text h = h
lines_end (line ∷ lines) text h =
    rw append_assoc (line_before (token_line line) _ (lines_end lines text h))

letter_lines_end : (lines : List (List ℕ)) (prefix : List ℕ) → EndsLine (flat_map (λ line. (prefix ++ line) ++ 10 ∷ []) lines)
letter_lines_end [] prefix = ([], refl)
letter_lines_end (line ∷ lines) prefix = line_before (prefix ++ line) (flat_map (λ l. (prefix ++ l) ++ 10 ∷ []) lines) (letter_lines_end lines prefix)

pub laid_ends : (tokens : List (List ℕ)) (text more : List ℕ) → LaidOut tokens text → EndsLine more → EndsLine (text ++ more)
laid_ends tokens text more laid h = subst (λ (l : List ℕ). EndsLine (l ++ more)) (sym laid.printed) (lines_end laid.lines more h)

pub normal_ends : (tokens : List (List ℕ)) (text : List ℕ) → LaidOut tokens text → EndsLine text
normal_ends tokens text laid = subst EndsLine (append-nil text) (laid_ends tokens text [] laid ([], refl))

pub compressed_ends : (labels : List (List ℕ)) (letters text : List ℕ) → CompressedLaidOut labels letters text → EndsLine text
compressed_ends labels letters text laid =
    let block : EndsLine laid.block = subst EndsLine (sym laid.letters_laid_out.printed) (letter_lines_end laid.letters_laid_out.lines indent) in
    subst EndsLine (sym laid.whole) (laid_ends (in_parentheses labels) laid.list laid.block laid.list_laid_out block)

-- ---- a text that may stand between a `$=` and a `$.`

pub words_after_feed : (text : List ℕ) → tokens_in (10 ∷ text) ≡ tokens_in text
words_after_feed text = tokens_in-space 10 text refl

-- its tokens are such, and it begins and ends with white space
pub is_proof_text : (put : List ℕ) (tokens : List (List ℕ)) (first : ℕ) (more inner : List ℕ)
    (last : ℕ) → tokens_in put ≡ tokens → AllByRecursion AreFine tokens → put ≡ first ∷ more
    → is_space first ≡ true → put ≡ inner ++ last ∷ [] → is_space last ≡ true → IsProofText put
is_proof_text put tokens first more inner last read fine begins white ends last_white = record {
  first = first;
  more = more;
  begins = begins;
  first_space = white;
  inner = inner;
  last = last;
  ends = ends;
  last_space = last_white;
  tokens = λ file at. fine_tokens (tokens_from file at put)
      (subst (AllByRecursion AreFine) (sym (texts_in file at put ∙ read)) fine);
}

-- a text of whole lines behind a line feed
behind_feed : (text : List ℕ) (tokens : List (List ℕ)) → tokens_in (10 ∷ text) ≡ tokens
    → AllByRecursion AreFine tokens → EndsLine text → IsProofText (10 ∷ text)
behind_feed text tokens read fine (inner, ends) =
    is_proof_text (10 ∷ text) tokens 10 text inner 10 read fine refl refl ends refl

-- ==== a text in one of the forms is a proof of its theorem

-- ---- its tokens

-- These bytes, between a `$=` and a `$.`, are a proof of the tree.
pub record ReadsAsProof (before : List Sentence) (s : Sentence) (root : List ℕ) (below : Trees)
    (put : List ℕ) : Type 1 where
  pub tokens : List (List ℕ)
  pub read : tokens_in put ≡ tokens
  pub fine : AllByRecursion AreFine tokens
  pub is_text : IsProofText put
  pub strict : IsStrict before s tokens
  pub proves : (Fits : List (List ℕ) → Type 0)
      → DeriveAll Fits before (tree root below none) (s.symbols ∷ [])
      → IsProofBy Fits before s tokens root below

spelled_labels : (before : List Sentence) (trees : Trees) → AllFormed before → TreesFit before trees
    → (label : List ℕ) → Contains (spelling trees) label → IsLabel label
spelled_labels before trees formed fit label c =
    let f = label_fits before trees label fit c in
    label_named before label formed (stands_known before label f.0 f.1)

normal_reads : (before : List Sentence) (s : Sentence) (root : List ℕ) (below : Trees)
    (text : List ℕ) → AllMeant before → AllFormed before → TreesFit before (tree root below none)
    → LaidOut (spelling (tree root below none)) text → ReadsAsProof before s root below (10 ∷ text)
normal_reads before s root below text meant formed fit laid =
    let tokens : List (List ℕ) = spelling (tree root below none) in
    let words : AllByRecursion IsLabel tokens =
    all_within IsLabel tokens (spelled_labels before (tree root below none) formed fit) in
    let apart : ¬ (Contains tokens opening_token) = λ c.
    no_parenthesis 40 (omega arith)
    (spelled_labels before (tree root below none) formed fit opening_token c) in
    let normal : IsNormal tokens = λ e. apart (contains_from_at tokens opening_token (0, e)) in
    let fine = all_weaker IsLabel AreFine label_all_fine tokens words in
    let read = words_after_feed text
    ∙ normal_read_back tokens text (all_weaker IsLabel IsOneToken label_token tokens words) laid in
    record {
      tokens = tokens;
      read = read;
      fine = fine;
      is_text = behind_feed text tokens read fine (normal_ends tokens text laid);
      strict = normal_is_strict before s tokens normal;
      proves = λ Fits derived. spelled_proves Fits before s root below meant apart derived;
    }

-- ---- compressed proofs

left_fine : AreFine (40 ∷ [])
left_fine = ((omega arith, (omega arith, ((λ e. omega (arith, e)), (λ e. omega (arith, e))))), tt)

right_fine : AreFine (41 ∷ [])
right_fine = ((omega arith, (omega arith, ((λ e. omega (arith, e)), (λ e. omega (arith, e))))), tt)

list_fine : (listed pieces : List (List ℕ)) (letters : List ℕ) → AllByRecursion IsLabel listed
    → AreFine letters → flat_map (λ piece. piece) pieces ≡ letters
    → AllByRecursion AreFine (in_parentheses listed ++ pieces)
list_fine listed pieces letters words fine joined =
    let labels = all_weaker IsLabel AreFine label_all_fine listed words in
    all_append AreFine (in_parentheses listed) pieces
    (left_fine, all_append AreFine listed ((41 ∷ []) ∷ []) labels (right_fine, tt))
    (cut_fine pieces (subst AreFine (sym joined) fine))

packed_reads : (before : List Sentence) (s : Sentence) (root : List ℕ) (below : Trees)
    (text : List ℕ) → AllMeant before → AllFormed before → TreesFit before (tree root below none)
    → IsPackedText before s (tree root below none) text
    → ReadsAsProof before s root below (10 ∷ text)
packed_reads before s root below text meant formed fit p =
    let trees : Trees = tree root below none in
    let words : AllByRecursion IsLabel p.listed =
    all_within IsLabel p.listed (λ label c. spelled_labels before trees formed fit label
    (packed_listed before s trees p.listed p.codes label p.packed c)) in
    let letters : AreFine p.letters = letters_fine p.letters p.codes p.spelled in
    let (pieces, found, joined) = compressed_read_back p.listed p.letters text
    (all_weaker IsLabel IsOneToken label_token p.listed words) (fine_lacks p.letters letters)
    p.laid in
    let apart : ¬ (Contains (spelling trees) closing_token) = λ c.
    no_parenthesis 41 (omega arith) (spelled_labels before trees formed fit closing_token c) in
    let read = words_after_feed text ∙ found in
    let fine = list_fine p.listed pieces p.letters words letters joined in
    record {
      tokens = in_parentheses p.listed ++ pieces;
      read = read;
      fine = fine;
      is_text = behind_feed text _ read fine (compressed_ends p.listed p.letters text p.laid);
      strict = packed_is_strict before s trees p.listed p.codes p.letters pieces p.packed p.coded
          joined apart;
      proves = λ Fits derived. packed_proves Fits before s root below p.listed p.codes p.letters
          pieces meant p.packed p.coded joined apart derived;
    }

small_reads : (indent : ℕ) (before : List Sentence) (s : Sentence) (root : List ℕ) (below : Trees)
    (put : List ℕ) → AllMeant before → AllFormed before → TreesFit before (tree root below none)
    → IsSmallBehind indent before s (tree root below none) put
    → ReadsAsProof before s root below put
small_reads indent before s root below put meant formed fit p =
    let trees : Trees = tree root below none in
    let words : AllByRecursion IsLabel p.listed =
    all_within IsLabel p.listed (λ label c. spelled_labels before trees formed fit label
    (small_known before s root below p.listed p.codes p.small label c)) in
    let letters : AreFine p.letters = letters_fine p.letters p.codes p.spelled in
    let (pieces, read, joined) = small_read_back indent p.listed p.letters put
    (all_weaker IsLabel IsOneToken label_token p.listed words) (fine_lacks p.letters letters)
    p.laid in
    let apart : ¬ (Contains (spelling trees) closing_token) = λ c.
    no_parenthesis 41 (omega arith) (spelled_labels before trees formed fit closing_token c) in
    let fine = list_fine p.listed pieces p.letters words letters joined in
    let begins = small_begins indent p.listed p.letters put p.laid in
    let ends = small_ends indent p.listed p.letters put p.laid in
    record {
      tokens = in_parentheses p.listed ++ pieces;
      read = read;
      fine = fine;
      is_text = is_proof_text put _ 10 _ ends.inner ends.last read fine begins.is refl ends.is
          ends.white;
      strict = small_text_is_strict before s root below p.listed p.codes p.letters pieces p.small
          p.coded joined apart;
      proves = λ Fits derived. small_proves before s root below p.listed p.codes p.letters pieces
          p.small p.coded joined apart Fits meant derived;
    }

-- ---- with other line ends

lengthened_reads : (before : List Sentence) (s : Sentence) (root : List ℕ) (below : Trees)
    (put : List ℕ) → ReadsAsProof before s root below put
    → ReadsAsProof before s root below (lengthened put)
lengthened_reads before s root below put r =
    let t = r.is_text in
    let begins = lengthened_begins put
    (record { first = t.first; more = t.more; is = t.begins; white = t.first_space }) in
    let ends = lengthened_ends put
    (record { inner = t.inner; last = t.last; is = t.ends; white = t.last_space }) in
    let read = lengthened_tokens put ∙ r.read in
    record {
      tokens = r.tokens;
      read = read;
      fine = r.fine;
      is_text = is_proof_text (lengthened put) r.tokens begins.first begins.more ends.inner
          ends.last read r.fine begins.is begins.white ends.is ends.white;
      strict = r.strict;
      proves = r.proves;
    }

ends_read : (before : List Sentence) (s : Sentence) (root : List ℕ) (below : Trees)
    (old put : List ℕ) → ReadsAsProof before s root below put
    → ReadsAsProof before s root below (with_ends_of old put)
ends_read before s root below old put r =
    let So : Bool → Type 1 = λ c. ReadsAsProof before s root below (cond c (lengthened put) put) in
    elim (cases_Bool (has_long_ends old)) [
      | inl long ↦ subst So (sym long) (lengthened_reads before s root below put r)
      | inr short ↦ subst So (sym short) r
    ]

-- ---- what is put in place of a proof is one, or the bytes that stood there

-- small form keeps them
abbrev pub KeepsBytes : Form → (old put : List ℕ) → Type 0
KeepsBytes f old put = (f ≡ form.Small) × (put ≡ old)

pub span_reads : {P : Type 0} (f : Form) (before : List Sentence) (s : Sentence) (root : List ℕ)
    (below : Trees) (old put : List ℕ) → AllMeant before → AllFormed before
    → TreesFit before (tree root below none)
    → IsSpanText f before s (tree root below none) old put
    → (ReadsAsProof before s root below put → P) → (KeepsBytes f old put → P) → P
span_reads form.Normal before s root below old put meant formed fit (text, laid, is) new kept =
    new (rw is (ends_read before s root below old (10 ∷ text)
    (normal_reads before s root below text meant formed fit laid.1)))
span_reads form.Packed before s root below old put meant formed fit (text, laid, is) new kept =
    new (rw is (ends_read before s root below old (10 ∷ text)
    (packed_reads before s root below text meant formed fit laid)))
span_reads form.Small before s root below old put meant formed fit (text, laid, inl (less, is)) new
    kept =
    new (rw is (ends_read before s root below old text
    (small_reads (indent_of old) before s root below text meant formed fit laid)))
span_reads form.Small before s root below old put meant formed fit (text, laid, inr (more, is)) new
    kept =
    kept (refl, is)

-- ---- the tree of a proof

pub tree_is : (Fits : List (List ℕ) → Type 0) (before : List Sentence) (s : Sentence) (tokens : List (List ℕ)) (moves : List (Move (List ℕ))) (root : List ℕ) (below : Trees) → AllMeant before
    → (p : IsProvedWithin Fits before s tokens) → SayMoves before s tokens moves → MakeTree before moves root below → tree p.proves.label p.proves.below none ≡ tree root below none
tree_is Fits before s tokens moves root below meant p told made =
    let same : p.moves ≡ moves = moves_once before s tokens p.moves moves p.said told in
    (makes_once before moves none (tree p.proves.label p.proves.below none) (tree root below none) [] p.proves.kept made.kept meant
    (subst (λ (ms : List (Move (List ℕ))). Makes before ms none [] (tree p.proves.label p.proves.below none) p.proves.kept) same p.proves.made) made.made).0

pub tree_derives : (Fits : List (List ℕ) → Type 0) (before : List Sentence) (s : Sentence) (tokens : List (List ℕ)) (moves : List (Move (List ℕ))) (root : List ℕ) (below : Trees) → AllMeant before
    → IsProvedWithin Fits before s tokens → SayMoves before s tokens moves → MakeTree before moves root below → DeriveAll Fits before (tree root below none) (s.symbols ∷ [])
tree_derives Fits before s tokens moves root below meant p told made =
    subst (λ (t : Trees). DeriveAll Fits before t (s.symbols ∷ [])) (tree_is Fits before s tokens moves root below meant p told made) p.proves.derived

-- ==== the text of a packed proof tells its labels and its codes

-- ---- labels

fit_labelled : (before : List Sentence) (trees : Trees) → TreesFit before trees → AllByRecursion (λ label. SomeSentence before (IsLabelled label)) (spelling trees)
fit_labelled before none fit = tt
fit_labelled before (tree label below right) fit =
    all_append (λ x. SomeSentence before (IsLabelled x)) (spelling below) (label ∷ spelling right) (fit_labelled before below fit.1)
    (stands_known before label below fit.0, fit_labelled before right fit.2)

uses_among : (P : List ℕ → Type 0) (word seen listed : List (List ℕ)) → AreFirstUses seen word listed → AllByRecursion P word → AllByRecursion P listed
uses_among P [] seen listed uses all = subst (AllByRecursion P) (sym uses) tt
uses_among P (label ∷ word) seen listed (inl h) all = uses_among P word seen listed h.1 all.1
uses_among P (label ∷ word) seen listed (inr (new, others, is, uses)) all =
    subst (AllByRecursion P) (sym is) (all.0, uses_among P word (label ∷ seen) others uses all.1)

-- a label of a statement
abbrev IsProper : List ℕ → Type 0
IsProper label = IsOneToken label × ¬ (label ≡ closing_token)

proper_label : (before : List Sentence) (label : List ℕ) → AllFormed before
    → SomeSentence before (IsLabelled label) → IsProper label
proper_label before label formed named =
    let is : IsLabel label = label_named before label formed named in
    (label_token label is, λ same. no_parenthesis 41 (omega arith) (subst IsLabel same is))

none_closing : (listed : List (List ℕ)) → AllByRecursion IsProper listed → ¬ (Contains listed closing_token)
none_closing [] all h = absurd (omega (arith, h.1))
none_closing (label ∷ listed) all (zero, less, is) = all.0.1 is
none_closing (label ∷ listed) all (suc i, less, is) = none_closing listed all.1 (i, omega (arith, less), is)

-- ---- the law

listed_proper : (before : List Sentence) (s : Sentence) (trees : Trees) (text : List ℕ) → AllFormed before → (p : IsPackedText before s trees text)
    → AllByRecursion IsProper p.listed
listed_proper before s trees text formed p =
    let fit : TreesFit before trees = (made_word before p.packed.moves trees p.packed.shared.kept p.packed.shared.made).1 in
    uses_among IsProper (spelling trees) p.packed.says.labels p.listed p.packed.uses
    (all_weaker (λ label. SomeSentence before (IsLabelled label)) IsProper (λ label h. proper_label before label formed h) (spelling trees) (fit_labelled before trees fit))

same_parts : (before : List Sentence) (s : Sentence) (t u : Trees) (text other : List ℕ) → AllFormed before → (p : IsPackedText before s t text) → (q : IsPackedText before s u other)
    → text ≡ other → (p.listed ≡ q.listed) × (p.codes ≡ q.codes)
same_parts before s t u text other formed p q same =
    let first = listed_proper before s t text formed p in
    let second = listed_proper before s u other formed q in
    let one = compressed_read_back p.listed p.letters text (all_weaker IsProper IsOneToken (λ label h. h.0) p.listed first) (fine_lacks p.letters (letters_fine p.letters p.codes p.spelled)) p.laid in
    let two = compressed_read_back q.listed q.letters other (all_weaker IsProper IsOneToken (λ label h. h.0) q.listed second) (fine_lacks q.letters (letters_fine q.letters q.codes q.spelled)) q.laid in
    let tokens : List (List ℕ) = tokens_in text in
    let mine : IsCompressed tokens p.listed one.0 = record { whole = one.1 ∙ ap (λ (ws : List (List ℕ)). (40 ∷ []) ∷ ws) (append_assoc p.listed ((41 ∷ []) ∷ []) one.0); first = none_closing p.listed first } in
    let yours : IsCompressed tokens q.listed two.0 = record { whole = ap tokens_in same ∙ two.1 ∙ ap (λ (ws : List (List ℕ)). (40 ∷ []) ∷ ws) (append_assoc q.listed ((41 ∷ []) ∷ []) two.0); first = none_closing q.listed second } in
    let parts = compressed_once tokens p.listed q.listed one.0 two.0 mine yours in
    let letters : p.letters ≡ q.letters = sym one.2 ∙ ap (λ (ps : List (List ℕ)). flat_map (λ (piece : List ℕ). piece) ps) parts.1 ∙ two.2 in
    (parts.0, one_reading_only q.letters p.codes q.codes (subst (λ (ls : List ℕ). Letters ls p.codes) letters p.coded) q.coded)

told_by_texts : (before : List Sentence) (s : Sentence) (moves others : List (Move (List ℕ))) (l m : List ℕ) (a b : Trees) (text other : List ℕ)
    → AllMeant before → AllFormed before → MakeTree before moves l a → MakeTree before others m b
    → IsPackedText before s (tree l a none) text → IsPackedText before s (tree m b none) other → MakeSameTree before moves others ↔ (text ≡ other)
told_by_texts before s moves others l m a b text other all formed made made' p q = (
  λ same.
      let first = (makes_once before moves none (tree same.0 same.1 none) (tree l a none) [] same.2.kept made.kept all same.2.made made.made).0 in
      let second = (makes_once before others none (tree same.0 same.1 none) (tree m b none) [] same.3.kept made'.kept all same.3.made made'.made).0 in
      let parts = (told_by_packed_holds before s l m a b p.listed q.listed p.codes q.codes all p.packed q.packed).0 (sym first ∙ second) in
      let letters : p.letters ≡ q.letters = one_text_only p.letters q.letters q.codes (subst (SpellsCodes p.letters) parts.1 p.spelled) q.spelled in
      one_text_of_compressed q.listed q.letters text other
      (subst (λ (ls : List (List ℕ)). CompressedLaidOut ls q.letters text) parts.0 (subst (λ (cs : List ℕ). CompressedLaidOut p.listed cs text) letters p.laid)) q.laid,
  λ same.
      let parts = same_parts before s (tree l a none) (tree m b none) text other formed p q same in
      let trees = (told_by_packed_holds before s l m a b p.listed q.listed p.codes q.codes all p.packed q.packed).1 parts in
      (m, b, record { kept = made.kept; made = subst (λ (t : Trees). Makes before moves none [] t made.kept) trees made.made }, made'),
)

-- ---- statements of files

pub packed_texts : PackedTextsTell
packed_texts profile files statements index s moves others l m a b text other accepted made made' p q =
    let before : List Sentence = sentences (take index statements) in
    let prefix : before ≡ take index (sentences statements) = map-take index statements in
    let formed : AllFormed (sentences statements) = formed_sentences statements (readings_are_formed_in_place files statements None accepted.reads).formed in
    let meant : AllMeant (sentences statements) = all_meant profile statements accepted.obeyed in
    told_by_texts before s moves others l m a b text other (subst AllMeant (sym prefix) (allmeant_prefix (sentences statements) index meant))
    (subst AllFormed (sym prefix) (allformed_prefix (sentences statements) index formed)) made made' p q
