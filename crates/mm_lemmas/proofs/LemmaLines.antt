-- The list of lemmas: line by line, with the sums over the lines. On this file rest the contracts of
-- `listed` and of what it calls.
use Rattle.std.proofs.Common.{◌≡◌, ℕ, ◌+◌, ◌<◌, List, [], ◌∷◌, ◌++◌, length}
use Rattle.std.proofs.Common.{codes, None, min, sym, ap, subst, ◌∙◌, arith, append_assoc}
use Rattle.std.proofs.Common.{append-nil, length-append}
use Rattle.std.specs.List.{flat_map, sum_by}
use Rattle.std.proofs.lemmas.Grind.{flat_map-append}
use Rattle.std.proofs.lemmas.List.Sums.{sum_by-append, sum_by-cons}
use Rattle.mm_base.specs.Statement.{PlainStatement}
use Rattle.mm_rules.specs.Shown.{symbols_text}
use Rattle.mm_text.specs.Files.{PlainFile}
use Rattle.mm_text.specs.Reading.{Reads}
use Rattle.mm_lemmas.specs.declared.listing.Listing.{Listing}
use Rattle.mm_lemmas.specs.Told.{AreLemmaLines, IsLemmaLine, LemmaLine, ListsLemmas, lemma_text}
use Rattle.mm_lemmas.specs.Told.{most_sum, sum_of, sums_text}
use Rattle.mm_lemmas.specs.Mirror.Listing.{IsListedSoFar, PutsLine}

-- ---- the text of a line

line_parts : (o g m k b c w s e : List ℕ)
    → o ++ g ++ m ++ k ++ b ++ c ++ w ++ s ++ e
    ≡ o ++ ((((g ++ m) ++ k) ++ ((b ++ c) ++ (w ++ s))) ++ e)
line_parts o g m k b c w s e = simp append_assoc

-- its parts follow one another
pub line_told : (o₀ o₁ o₂ o₃ o₄ o₅ o₆ gain made known : List ℕ) (words symbols : List (List ℕ))
    → o₁ ≡ o₀ ++ gain → o₂ ≡ o₁ ++ made ++ known → o₃ ≡ o₂ ++ codes " " ++ codes ":"
    → o₄ ≡ o₃ ++ symbols_text words → o₅ ≡ o₄ ++ symbols_text symbols → o₆ ≡ o₅ ++ 10 ∷ []
    → o₆ ≡ o₀ ++ (gain ++ made ++ known ++ symbols_text (codes ":" ∷ words ++ symbols)
    ++ codes "\n")
line_told o₀ o₁ o₂ o₃ o₄ o₅ o₆ gain made known words symbols h₁ h₂ h₃ h₄ h₅ h₆ =
    let split : symbols_text (words ++ symbols) ≡ symbols_text words ++ symbols_text symbols =
    flat_map-append (λ (symbol : List ℕ). codes " " ++ symbol) words symbols in
    h₆ ∙ ap (λ (o : List ℕ). o ++ 10 ∷ []) h₅
    ∙ ap (λ (o : List ℕ). o ++ symbols_text symbols ++ 10 ∷ []) h₄
    ∙ ap (λ (o : List ℕ). o ++ symbols_text words ++ symbols_text symbols ++ 10 ∷ []) h₃
    ∙ ap (λ (o : List ℕ). o ++ codes " " ++ codes ":" ++ symbols_text words ++ symbols_text symbols
    ++ 10 ∷ []) h₂
    ∙ ap (λ (o : List ℕ). o ++ made ++ known ++ codes " " ++ codes ":" ++ symbols_text words
    ++ symbols_text symbols ++ 10 ∷ []) h₁
    ∙ line_parts o₀ gain made known (codes " ") (codes ":") (symbols_text words)
    (symbols_text symbols) (10 ∷ [])
    ∙ ap (λ (t : List ℕ). o₀ ++ ((((gain ++ made) ++ known) ++ ((codes " " ++ codes ":") ++ t))
    ++ 10 ∷ [])) (sym split)

-- ---- one line more

lines_more : (least : ℕ) (statements : List PlainStatement) (before : ℕ) (lines : List LemmaLine)
    (line : LemmaLine) → AreLemmaLines least statements before lines
    → IsLemmaLine least statements (before + length lines) line
    → AreLemmaLines least statements before (lines ++ line ∷ [])
lines_more least statements before [] line all own =
    (subst (λ (n : ℕ). IsLemmaLine least statements n line) (omega arith) own, tt)
lines_more least statements before (first ∷ lines) line all own = (
  all.0,
  lines_more least statements (before + 1) lines line all.1
      (subst (λ (n : ℕ). IsLemmaLine least statements n line) (omega arith) own),
)

-- a sum that is told, with one more
sum_more : (number : LemmaLine → ℕ) (lines : List LemmaLine) (line : LemmaLine) (old now : ℕ)
    → old ≡ sum_of number lines → now ≡ min most_sum (old + number line)
    → now ≡ sum_of number (lines ++ line ∷ [])
sum_more number lines line old now was is =
    let one : sum_by number (line ∷ []) ≡ number line = omega (arith, sum_by-cons number line []) in
    omega (arith, was, is, one, sum_by-append number lines (line ∷ []))

-- one line more is listed
pub listed_more : (most least : ℕ) (files : List PlainFile) (lines : List LemmaLine)
    (line : LemmaLine) (old new : Listing) → IsListedSoFar most least files lines old
    → old.sums.lemmas < most → PutsLine line old new
    → ((statements : List PlainStatement) → Reads files statements None
    → IsLemmaLine least statements old.sums.lemmas line)
    → IsListedSoFar most least files (lines ++ line ∷ []) new
listed_more most least files lines line old new so_far less puts own =
    let same : old.sums.lemmas ≡ 0 + length lines = omega (arith, so_far.sums.lemmas) in record {
      text = puts.text ∙ ap (λ (t : List ℕ). t ++ lemma_text line) so_far.text
          ∙ ap (λ (t : List ℕ). flat_map lemma_text lines ++ t) (sym (append-nil (lemma_text line)))
          ∙ sym (flat_map-append lemma_text lines (line ∷ []));
      sums = record {
        lemmas = omega (arith, puts.lemmas, so_far.sums.lemmas, length-append lines (line ∷ []));
        saved = sum_more (λ l. l.saved) lines line _ _ so_far.sums.saved puts.saved;
        uses = sum_more (λ l. l.uses) lines line _ _ so_far.sums.uses puts.uses;
      };
      few = omega (arith, less, so_far.sums.lemmas, length-append lines (line ∷ []));
      each = λ statements reads. lines_more least statements 0 lines line
          (so_far.each statements reads)
          (subst (λ (n : ℕ). IsLemmaLine least statements n line) same (own statements reads));
    }

-- ---- the list

-- at the beginning no line is listed
pub listed_none : (most least : ℕ) (files : List PlainFile) (list : Listing) → list.text.items ≡ []
    → list.sums.lemmas ≡ 0 → list.sums.saved ≡ 0 → list.sums.uses ≡ 0
    → IsListedSoFar most least files [] list
listed_none most least files list text lemmas saved uses = record {
  text = text;
  sums = record { lemmas = lemmas; saved = saved; uses = uses };
  few = omega arith;
  each = λ statements reads. tt;
}

-- the lines and their sums are the list
pub listed_all : (most least : ℕ) (files : List PlainFile) (lines : List LemmaLine) (list : Listing)
    (text : List ℕ) → IsListedSoFar most least files lines list
    → text ≡ list.text.items ++ sums_text lines → (statements : List PlainStatement)
    → Reads files statements None → ListsLemmas most least statements text
listed_all most least files lines list text so_far is statements reads = (
  lines,
  so_far.few,
  so_far.each statements reads,
  is ∙ ap (λ (t : List ℕ). t ++ sums_text lines) so_far.text,
)
