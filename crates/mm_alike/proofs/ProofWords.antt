-- The words of a proof in the bytes of its file: those outside comments, where its span says. On
-- this file rest the contracts of `words` and `homes`.
use Rattle.std.proofs.Common.{◌≡◌, ℕ, ◌-◌, List, [], ◌∷◌, ◌++◌, map, take, drop}
use Rattle.std.proofs.Common.{length, filter, slice_get, slice_range, Some, None, Option, is_some}
use Rattle.std.proofs.Common.{Bool, true, false, cond, if◌then◌else◌, codes, refl, sym, ap, subst}
use Rattle.std.proofs.Common.{◌∙◌, arith, inl, inr, suc, drop_at, take_at, append-nil}
use Rattle.std.proofs.Common.{append_assoc}
use Rattle.std.specs.List.{list_all}
use Rattle.std.proofs.lemmas.Bool.{cases_Bool}
use Rattle.std.proofs.lemmas.List.{length-map, map-append}
use Rattle.std.proofs.lemmas.List.Elements.{filter-append}
use Rattle.mm_base.specs.Spelling.{spells}
use Rattle.mm_base.specs.Token.{PlainToken, is_printable, tokens_from}
use Rattle.mm_base.specs.Statement.{PlainStatement}
use Rattle.mm_base.proofs.Lists.{get_parted, split_at}
use Rattle.mm_code.specs.Words.{texts_of, tokens_in}
use Rattle.mm_code.proofs.ReadBack.{texts_in}
use Rattle.mm_text.specs.Files.{PlainFile}
use Rattle.mm_text.specs.Items.{Clear, Broken, holds_mark, without_comments}
use Rattle.mm_text.specs.declared.fault.TextRule.{TextRule}
use Rattle.mm_text.specs.Reading.{PlainFault, Reads}
use Rattle.mm_text.specs.Remaining.{IsUnread, ReadsOn, Remaining}
use Rattle.mm_text.specs.Replaced.{IsProofSpan}
use Rattle.mm_text.proofs.Replaced.ProofSpans.{proofs_stand_in_spans_holds}
use Rattle.mm_text.proofs.Tokens.WordsAndComments.{in_comment-illegal, in_comment-close}
use Rattle.mm_text.proofs.Tokens.WordsAndComments.{in_comment-mark, in_comment-more, in_comment-end}
use Rattle.mm_text.proofs.Tokens.WordsAndComments.{outside-end, outside-illegal, outside-begin}
use Rattle.mm_text.proofs.Tokens.WordsAndComments.{outside-close, outside-clear}
use Rattle.mm_frame.specs.Numbers.{labelled_sentences}
use Rattle.mm_frame.specs.Sentence.{Sentence, sentence_of}
use Rattle.mm_rules.specs.Rests.{IsAt}
use Rattle.mm_rules.specs.Verdict.{is_proof, proof_of, sentences}
use Rattle.mm_verdict.proofs.FileBytes.StatementsInFiles.{home_file, provable_proof, within_bytes}
use Rattle.mm_verdict.proofs.Questions.AskedTheorems.{map-take}
use Rattle.mm_verdict.proofs.Questions.TheoremsAgain.{said_label}
use Rattle.mm_verdict.proofs.Verdicts.AcceptedStatements.{same_reading}
use Rattle.mm_alike.specs.declared.homes.Home.{Home}
use Rattle.mm_alike.specs.Mirror.Homes.{home_of, homes_in, words_outside, HaveHomes}
use Rattle.mm_alike.specs.Mirror.Homes.{IsWithinFiles}

-- ---- words outside comments

-- whether a comment is open
abbrev is_open : Option PlainToken → Bool
is_open None = false
is_open (Some begin) = true

-- a word in a comment, and one outside
word_in : (word : List ℕ) (words : List (List ℕ)) (ends : Bool)
    → spells word (codes "$)") ≡ ends
    → words_outside true (word ∷ words) ≡ words_outside (if ends then false else true) words
word_in word words true is = rw is refl
word_in word words false is = rw is refl

word_begins : (word : List ℕ) (words : List (List ℕ)) → spells word (codes "$(") ≡ true
    → words_outside false (word ∷ words) ≡ words_outside true words
word_begins word words is = rw is refl

word_stands : (word : List ℕ) (words : List (List ℕ)) → spells word (codes "$(") ≡ false
    → words_outside false (word ∷ words) ≡ word ∷ words_outside false words
word_stands word words is = rw is refl

-- a fault is no shown token
none_broken : (shown : List PlainToken) (t : PlainToken) {rule : TextRule}
    → Broken rule t ∷ [] ≡ map Clear shown → ⊥
none_broken [] t is = cc
none_broken (v ∷ shown) t is = cc

-- where tokens show these outside comments, these are the words there
words_shown : (begin : Option PlainToken) (tokens shown : List PlainToken)
    → without_comments begin tokens ≡ map Clear shown
    → words_outside (is_open begin) (texts_of tokens) ≡ texts_of shown
words_shown None [] [] e = refl
words_shown None [] (t ∷ shown) e = let no = sym outside-end ∙ e in absurd cc
words_shown (Some begin) [] [] e = let no = sym (in_comment-end begin) ∙ e in absurd cc
words_shown (Some begin) [] (t ∷ shown) e = let no = sym (in_comment-end begin) ∙ e in absurd cc
words_shown None (u ∷ tokens) [] e = elim (cases_Bool (list_all is_printable u.text)) [
  | inr p ↦ let no = sym (outside-illegal u tokens p) ∙ e in absurd cc
  | inl p ↦ elim (cases_Bool (spells u.text (codes "$("))) [
    | inl o ↦
        word_begins u.text (texts_of tokens) o
        ∙ words_shown (Some u) tokens [] (sym (outside-begin u tokens p o) ∙ e)
    | inr o ↦ elim (cases_Bool (spells u.text (codes "$)"))) [
      | inl c ↦ let no = sym (outside-close u tokens p o c) ∙ e in absurd cc
      | inr c ↦ let no = sym (outside-clear u tokens p o c) ∙ e in absurd cc
    ]
  ]
]
words_shown None (u ∷ tokens) (t ∷ shown) e = elim (cases_Bool (list_all is_printable u.text)) [
  | inr p ↦ let no = sym (outside-illegal u tokens p) ∙ e in absurd cc
  | inl p ↦ elim (cases_Bool (spells u.text (codes "$("))) [
    | inl o ↦
        word_begins u.text (texts_of tokens) o
        ∙ words_shown (Some u) tokens (t ∷ shown) (sym (outside-begin u tokens p o) ∙ e)
    | inr o ↦ elim (cases_Bool (spells u.text (codes "$)"))) [
      | inl c ↦ let no = sym (outside-close u tokens p o c) ∙ e in absurd cc
      | inr c ↦
          let told = sym (outside-clear u tokens p o c) ∙ e in
          let same : u ≡ t = cc in
          let later : without_comments None tokens ≡ map Clear shown = cc in
          let rest = words_shown None tokens shown later in
          word_stands u.text (texts_of tokens) o
          ∙ ap (λ (ws : List (List ℕ)). u.text ∷ ws) rest
          ∙ ap (λ (v : PlainToken). v.text ∷ texts_of shown) same
    ]
  ]
]
words_shown (Some begin) (u ∷ tokens) shown e = elim (cases_Bool (list_all is_printable u.text)) [
  | inr p ↦ absurd (none_broken shown u (sym (in_comment-illegal begin u tokens p) ∙ e))
  | inl p ↦ elim (cases_Bool (spells u.text (codes "$)"))) [
    | inl c ↦
        word_in u.text (texts_of tokens) true c
        ∙ words_shown None tokens shown (sym (in_comment-close begin u tokens p c) ∙ e)
    | inr c ↦ elim (cases_Bool (holds_mark u.text)) [
      | inl m ↦ absurd (none_broken shown u (sym (in_comment-mark begin u tokens p c m) ∙ e))
      | inr m ↦
          word_in u.text (texts_of tokens) false c
          ∙ words_shown (Some begin) tokens shown
          (sym (in_comment-more begin u tokens p c m) ∙ e)
    ]
  ]
]

-- ---- the bytes of a proof

-- the bytes of a span
abbrev pub bytes_of : PlainFile → Home → List ℕ
bytes_of file home = slice_range file.bytes home.span.0 home.span.1

-- they are those within
span_bytes : (s : PlainStatement) (bytes : List ℕ) (p : IsProofSpan s bytes)
    → slice_range bytes s.span.0 s.span.1 ≡ p.within
span_bytes s bytes p =
    let back : drop s.span.0 bytes ≡ p.within ++ p.back =
    ap (drop s.span.0) p.whole ∙ drop_at p.prefix (p.within ++ p.back) s.span.0 (sym p.start) in
    let long : s.span.1 - s.span.0 ≡ length p.within = omega (arith, p.start, p.stop) in
    ap (take (s.span.1 - s.span.0)) back
    ∙ take_at p.within p.back (s.span.1 - s.span.0) (sym long)

module _ (files : List PlainFile) (statements : List PlainStatement) (index : ℕ)
    (s : PlainStatement) (reads : Reads files statements None)
    (there : slice_get statements index ≡ Some s) (complete : is_proof s ≡ true) where
  own_span : (file : PlainFile) → slice_get files s.first.file ≡ Some file
      → IsProofSpan s file.bytes
  own_span file handed =
      proofs_stand_in_spans_holds files (take index statements) s (drop (suc index) statements) None
      file
      (subst (λ (ss : List PlainStatement). Reads files ss None) (split_at statements index s there)
      reads) (provable_proof s complete) handed

  -- they stand in a file
  pub proof_within : IsWithinFiles files (home_of s)
  proof_within =
      let (file, handed) = home_file files statements index s reads there in
      let (order, end) = within_bytes s file.bytes (own_span file handed) in
      record { file = file; there = handed; order = order; end = end }

  -- their words outside comments are those of the proof
  pub proof_words : (bytes : List ℕ)
      → ((file : PlainFile) → slice_get files s.first.file ≡ Some file
      → bytes ≡ bytes_of file (home_of s))
      → words_outside false (tokens_in bytes) ≡ proof_of s
  proof_words bytes are =
      let (file, handed) = home_file files statements index s reads there in
      let p = own_span file handed in
      let same : bytes ≡ p.within = are file handed ∙ span_bytes s file.bytes p in
      ap (λ (bs : List ℕ). words_outside false (tokens_in bs)) same
      ∙ ap (words_outside false) (sym (texts_in s.first.file s.span.0 p.within))
      ∙ words_shown None (tokens_from s.first.file s.span.0 p.within) s.proof p.tokens

-- ---- the homes of statements

abbrev labelled_in : List PlainStatement → List PlainStatement
labelled_in statements = filter (λ (t : PlainStatement). is_some t.label) statements

-- those before a statement with a label, its own, and those after it
homes_parted : (before after : List PlainStatement) (s : PlainStatement) → is_some s.label ≡ true
    → homes_in (before ++ s ∷ after) ≡ homes_in before ++ home_of s ∷ homes_in after
homes_parted before after s labelled =
    ap (map home_of)
    (filter-append (λ (t : PlainStatement). is_some t.label) before (s ∷ after)
    ∙ ap (λ (c : Bool). labelled_in before ++ cond c (s ∷ labelled_in after) (labelled_in after))
    labelled)
    ∙ map-append home_of (labelled_in before) (s ∷ labelled_in after)

-- one statement more, with a label or without
pub homes_labelled : (statements : List PlainStatement) (s : PlainStatement)
    → is_some s.label ≡ true
    → homes_in (statements ++ s ∷ []) ≡ homes_in statements ++ home_of s ∷ []
homes_labelled statements s labelled = homes_parted statements [] s labelled

pub homes_unlabelled : (statements : List PlainStatement) (s : PlainStatement)
    → is_some s.label ≡ false → homes_in (statements ++ s ∷ []) ≡ homes_in statements
homes_unlabelled statements s unlabelled =
    ap (map home_of)
    (filter-append (λ (t : PlainStatement). is_some t.label) statements (s ∷ [])
    ∙ ap (λ (c : Bool). labelled_in statements ++ cond c (s ∷ []) []) unlabelled
    ∙ append-nil (labelled_in statements))

one_more : (s : PlainStatement) (statements : List PlainStatement)
    → length (labelled_in statements) ≡ length (labelled_sentences (sentences statements))
    → (b : Bool) → is_some s.label ≡ b
    → length (labelled_in (s ∷ statements))
    ≡ length (labelled_sentences (sentences (s ∷ statements)))
one_more s statements rest true is =
    ap (λ (c : Bool). length (cond c (s ∷ labelled_in statements) (labelled_in statements))) is
    ∙ ap suc rest
    ∙ sym (ap (λ (c : Bool). length (cond c
    (sentence_of s ∷ labelled_sentences (sentences statements))
    (labelled_sentences (sentences statements)))) (said_label s.label ∙ is))
one_more s statements rest false is =
    ap (λ (c : Bool). length (cond c (s ∷ labelled_in statements) (labelled_in statements))) is
    ∙ rest
    ∙ sym (ap (λ (c : Bool). length (cond c
    (sentence_of s ∷ labelled_sentences (sentences statements))
    (labelled_sentences (sentences statements)))) (said_label s.label ∙ is))

-- as many have a label as say one
labelled_count : (statements : List PlainStatement)
    → length (labelled_in statements) ≡ length (labelled_sentences (sentences statements))
labelled_count [] = refl
labelled_count (s ∷ statements) =
    one_more s statements (labelled_count statements) (is_some s.label) refl

-- the home of a statement stands at its number
pub home_at : (statements : List PlainStatement) (id index : ℕ) (s : PlainStatement)
    → IsAt statements id index s → slice_get (homes_in statements) id ≡ Some (home_of s)
home_at statements id index s at =
    let before : List PlainStatement = take index statements in
    let after : List PlainStatement = drop (suc index) statements in
    let labelled : is_some s.label ≡ true = sym (said_label s.label) ∙ at.numbered.named in
    let parts : homes_in statements ≡ homes_in before ++ home_of s ∷ homes_in after =
    ap homes_in (split_at statements index s at.there) ∙ homes_parted before after s labelled in
    let count : length (homes_in before) ≡ id =
    length-map (labelled_in before) home_of ∙ labelled_count before
    ∙ ap (λ (ss : List Sentence). length (labelled_sentences ss)) (map-take index statements)
    ∙ at.numbered.number in
    subst (λ (n : ℕ). slice_get (homes_in statements) n ≡ Some (home_of s)) count
    (subst (λ (hs : List Home). slice_get hs (length (homes_in before)) ≡ Some (home_of s))
    (sym parts) (get_parted (homes_in before) (homes_in after) (home_of s)))

-- ---- the files, read again

-- these statements were read, the others are left, and these are the homes of the first
pub record AreHomesTo (files : List PlainFile) (left : Remaining)
    (homes : List Home) : Type 0 where
  pub taken : List PlainStatement
  pub reads : Reads files (taken ++ left.statements) None
  pub are : homes ≡ homes_in taken

-- none were
pub homes_begun : (files : List PlainFile) (left : Remaining) (homes : List Home)
    → IsUnread files left → left.ending ≡ None → homes ≡ [] → AreHomesTo files left homes
homes_begun files left homes unread faultless none = record {
  taken = [];
  reads = subst (λ (e : Option PlainFault). Reads files left.statements e) faultless unread.reads;
  are = none;
}

-- one statement more was read
more_read : (files : List PlainFile) (taken : List PlainStatement) (old new : Remaining)
    (s : PlainStatement) → Reads files (taken ++ old.statements) None → ReadsOn old true s new
    → Reads files ((taken ++ s ∷ []) ++ new.statements) None
more_read files taken old new s reads on =
    subst (λ (ss : List PlainStatement). Reads files ss None)
    (ap (λ (ss : List PlainStatement). taken ++ ss) on.0
    ∙ sym (append_assoc taken (s ∷ []) new.statements)) reads

pub homes_more : (files : List PlainFile) (old new : Remaining) (s : PlainStatement)
    (homes later : List Home) → AreHomesTo files old homes → ReadsOn old true s new
    → is_some s.label ≡ true → later ≡ homes ++ home_of s ∷ [] → AreHomesTo files new later
homes_more files old new s homes later so_far on labelled is = record {
  taken = so_far.taken ++ s ∷ [];
  reads = more_read files so_far.taken old new s so_far.reads on;
  are = is ∙ ap (λ (hs : List Home). hs ++ home_of s ∷ []) so_far.are
      ∙ sym (homes_labelled so_far.taken s labelled);
}

pub homes_passed : (files : List PlainFile) (old new : Remaining) (s : PlainStatement)
    (homes : List Home) → AreHomesTo files old homes → ReadsOn old true s new
    → is_some s.label ≡ false → AreHomesTo files new homes
homes_passed files old new s homes so_far on unlabelled = record {
  taken = so_far.taken ++ s ∷ [];
  reads = more_read files so_far.taken old new s so_far.reads on;
  are = so_far.are ∙ sym (homes_unlabelled so_far.taken s unlabelled);
}

-- all were
pub homes_whole : (files : List PlainFile) (left new : Remaining) (s : PlainStatement)
    (homes : List Home) → AreHomesTo files left homes → ReadsOn left false s new
    → HaveHomes files homes
homes_whole files left new s homes so_far on statements reads =
    let own : Reads files so_far.taken None =
    subst (λ (ss : List PlainStatement). Reads files ss None)
    (ap (λ (ss : List PlainStatement). so_far.taken ++ ss) on.0 ∙ append-nil so_far.taken)
    so_far.reads in
    so_far.are
    ∙ ap homes_in (same_reading files so_far.taken statements None None own reads).0
