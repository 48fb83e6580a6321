-- What is told of the statement with a label: its line, and the lines of its frame, one after the
-- other.
use Rattle.std.proofs.Common.{◌≡◌, ℕ, suc, ◌+◌, ◌<◌, List, [], ◌∷◌, ◌++◌, map, take, length, slice_get, Some}
use Rattle.std.proofs.Common.{codes, unwrap_or, Option, ap, sym, subst, ◌∙◌, arith, append_assoc, append-nil}
use Rattle.std.proofs.Common.{get_or, inl, inr, refl, ◌⊎◌, Result, Ok, Err, OnOk}
use Rattle.std.specs.List.{flat_map}
use Rattle.std.proofs.lemmas.Grind.{flat_map-append}
use Rattle.std.proofs.lemmas.Option.{slice_get-get_or, slice_get_within}
use Rattle.std.proofs.lemmas.List.{take-map}
use Rattle.mm_base.specs.declared.statement.Kind.{Kind}
use Rattle.mm_base.specs.declared.statement.Kind.TheVariants.{Provable}
use Rattle.mm_text.specs.Files.{PlainFile}
use Rattle.mm_base.specs.Statement.{PlainStatement, keyword_of}
use Rattle.mm_base.proofs.Lists.{contains_from_at, get_parted, one_there, take_next}
use Rattle.mm_frame.specs.declared.distinct.DistinctPair.{DistinctPair}
use Rattle.mm_frame.specs.declared.number.LabelKind.{LabelKind}
use Rattle.mm_frame.specs.declared.number.LabelKind.TheVariants as label_kinds
use Rattle.mm_frame.specs.Sentence.{Sentence, sentence_of, IsLabelled, IsAssertion, IsHypothesis}
use Rattle.mm_frame.specs.Frame.{AreFurther}
use Rattle.mm_frame.specs.FrameIndex.{FrameIndex, AreFurtherIndices, AreHypotheses, ArePairs}
use Rattle.mm_frame.specs.Numbers.{AreNumbers, IsAssertionNumber, IsNumbered, IsNumberOf}
use Rattle.mm_frame.specs.Numbers.{labelled_sentences, symbols_of}
use Rattle.mm_frame.specs.Taken.{kind_behind}
use Rattle.mm_frame.proofs.Names.LabelNumbers.{numbered_get, numbered_some}
use Rattle.mm_frame.proofs.Names.LabelNumbers.{numbered_unique}
use Rattle.mm_frame.proofs.Names.NameNumbers.{get_alike, get_mapped}
use Rattle.mm_step.specs.Mirror.CodeVerify.{name_at}
use Rattle.mm_step.proofs.ByNumbers.NumberedSymbols.{name_is}
use Rattle.mm_rules.specs.Answer.{labels_at}
use Rattle.mm_rules.specs.Mirror.Explaining.{named_pairs}
use Rattle.mm_rules.specs.Shown.{symbols_text}
use Rattle.mm_verdict.specs.Stated.{IsFrameText, IsTextBefore, TellsStatement, further_line, pair_line}
use Rattle.mm_verdict.specs.Stated.{statement_line}
use Rattle.mm_rules.specs.Places.{place_of, place_text}
use Rattle.mm_rules.specs.Verdict.{sentences}
use Rattle.mm_rules.proofs.Numbers.{names_at}
use Rattle.mm_rules.proofs.PairsNamed.{pairs_mandatory}

-- ---- one line

-- label, keyword, symbols and line feed
pub statement_told : (st : List Sentence) (s : Sentence) (label keyword : List ℕ) (numbers : List ℕ)
    (o₀ o₁ o₂ o₃ o₄ : List ℕ) → IsLabelled label s → keyword ≡ keyword_of s.kind
    → AreNumbers st numbers s.symbols → o₁ ≡ o₀ ++ label → o₂ ≡ o₁ ++ codes " " ++ keyword
    → o₃ ≡ o₂ ++ symbols_text (labels_at (symbols_of st) numbers) → o₄ ≡ o₃ ++ 10 ∷ []
    → o₄ ≡ o₀ ++ statement_line s
statement_told st s label keyword numbers o₀ o₁ o₂ o₃ o₄ named sign are h₁ h₂ h₃ h₄ =
    let symbols : labels_at (symbols_of st) numbers ≡ s.symbols =
    names_at (symbols_of st) numbers s.symbols are in
    let name : unwrap_or s.label [] ≡ label = ap (λ (o : Option (List ℕ)). unwrap_or o []) named in
    rw (h₄, h₃, h₂, h₁, symbols, sign, name) (simp append_assoc)

-- the words before them, the symbols and line feed
pub further_told : (st : List Sentence) (d : Sentence) (numbers : List ℕ) (o₀ o₁ o₂ o₃ : List ℕ)
    → AreNumbers st numbers d.symbols → o₁ ≡ o₀ ++ codes "also $d"
    → o₂ ≡ o₁ ++ symbols_text (labels_at (symbols_of st) numbers) → o₃ ≡ o₂ ++ 10 ∷ []
    → o₃ ≡ o₀ ++ further_line d
further_told st d numbers o₀ o₁ o₂ o₃ are h₁ h₂ h₃ =
    let symbols : labels_at (symbols_of st) numbers ≡ d.symbols =
    names_at (symbols_of st) numbers d.symbols are in
    rw (h₃, h₂, h₁, symbols) (simp append_assoc)

-- ---- lines, one after the other

-- one line more
pub line_more : {X : Type 0} (line : X → List ℕ) (xs : List X) (i : ℕ) (x : X) (before old new : List ℕ)
    → slice_get xs i ≡ Some x → old ≡ before ++ flat_map line (take i xs) → new ≡ old ++ line x
    → new ≡ before ++ flat_map line (take (i + 1) xs)
line_more line xs i x before old new there so_far more =
    let one : suc i ≡ i + 1 = omega arith in
    let next = subst (λ n. take n xs ≡ take i xs ++ x ∷ []) one (take_next xs i x there) in
    rw (more, so_far, next) (simp (flat_map-append, append-nil, append_assoc))

-- what stands at an index of a list that numbers tell
pub number_there : {X : Type 0} (all : List X) (numbers : List ℕ) (told : List X) (i d : ℕ)
    → map (slice_get all) numbers ≡ map Some told → i < length numbers
    → (x : X) × (slice_get told i ≡ Some x) × (slice_get all (get_or numbers i d) ≡ Some x)
number_there {X} all numbers told i d same less =
    let (x, there, is) = get_alike (slice_get all) (λ (y : X). Some y) numbers told i
    (get_or numbers i d) same (slice_get-get_or numbers i d less) in
    (x, there, sym is)

-- and of one that is told by what has numbers
pub told_there : {I X : Type 0} (number : I → ℕ) (all : List X) (xs : List I) (told : List X) (i : ℕ)
    (d : I) → map (slice_get all) (map number xs) ≡ map Some told → i < length xs
    → (x : X) × (slice_get told i ≡ Some x) × (slice_get all (number (get_or xs i d)) ≡ Some x)
told_there {I} {X} number all xs told i d same less =
    let at = get_mapped number xs i (get_or xs i d) (slice_get-get_or xs i d less) in
    let (x, there, is) = get_alike (slice_get all) (λ (y : X). Some y) (map number xs) told i
    (number (get_or xs i d)) same at in
    (x, there, sym is)

-- the names of a mandatory pair are those of symbols
pub pair_within : (frame : FrameIndex) (pairs : List DistinctPair)
    → ArePairs frame (map (λ pair. (pair.variables.0.0, pair.variables.1.0)) pairs)
    → (i : ℕ) (pair : DistinctPair) → slice_get pairs i ≡ Some pair
    → (pair.variables.0.0 < length (symbols_of frame.statements))
    × (pair.variables.1.0 < length (symbols_of frame.statements))
pair_within frame pairs are i pair there =
    let numbers : DistinctPair → ℕ × ℕ = λ p. (p.variables.0.0, p.variables.1.0) in
    let (x, y, at_x, at_y, mandatory) = are.only (numbers pair)
    (contains_from_at (map numbers pairs) (numbers pair)
    (i, get_mapped numbers pairs i pair there)) in (
      slice_get_within (symbols_of frame.statements) pair.variables.0.0 x at_x,
      slice_get_within (symbols_of frame.statements) pair.variables.1.0 y at_y,
    )

-- the names of the pair at an index
pub named_there : (st : List Sentence) (pairs : List DistinctPair) (i : ℕ) (d : DistinctPair)
    (x y : List ℕ) → i < length pairs → IsNumberOf st x (get_or pairs i d).variables.0.0
    → IsNumberOf st y (get_or pairs i d).variables.1.0
    → slice_get (named_pairs st pairs) i ≡ Some (x, y)
named_there st pairs i d x y less at_x at_y =
    let p = get_or pairs i d in
    let names : DistinctPair → List ℕ × List ℕ =
    λ r. (name_at st r.variables.0.0, name_at st r.variables.1.0) in
    get_mapped names pairs i p (slice_get-get_or pairs i d less)
    ∙ ap (λ (z : List ℕ). Some (z, name_at st p.variables.1.0)) (name_is st p.variables.0.0 x at_x)
    ∙ ap (λ (z : List ℕ). Some (x, z)) (name_is st p.variables.1.0 y at_y)

-- ---- the frame

-- what follows where a call succeeds
pub on_ok : {A E : Type 0} (r : Result A E) (P Q : Type 0) → (P → Q) → OnOk r P → OnOk r Q
on_ok (Ok x) P Q f p = f p
on_ok (Err e) P Q f p = tt

-- a number whose kind is that of an assertion
pub assertion_number : (st : List Sentence) (id : ℕ) (k : LabelKind)
    → id < length (labelled_sentences st)
    → ((s : Sentence) → slice_get (labelled_sentences st) id ≡ Some s → s.kind ≡ kind_behind k)
    → (k ≡ label_kinds.Axiom) ⊎ (k ≡ label_kinds.Proof) → IsAssertionNumber st id
assertion_number st id k within kind is =
    let (p, s, numbered) = numbered_some st id within in
    let at = kind s (numbered_get st id p s numbered) in (
      p,
      s,
      numbered,
      elim is [
        | inl of_axiom ↦ inl (at ∙ ap kind_behind of_axiom)
        | inr of_proof ↦ inr (at ∙ ap kind_behind of_proof)
      ],
    )

-- nothing is told before a hypothesis
pub nothing_before : (before : List Sentence) (s : Sentence) (kind : Kind) → s.kind ≡ kind
    → IsHypothesis kind → IsTextBefore s.kind before s []
nothing_before before s kind is (inl floating) = rw (is, floating) refl
nothing_before before s kind is (inr essential) = rw (is, essential) refl

abbrev frame_at : List Sentence → ℕ → FrameIndex
frame_at st index = record { statements = st; index = index }

module _ {st : List Sentence} {id index : ℕ} {s : Sentence} (numbered : IsNumbered st id index s)
  where
    -- the frame of the number is that of the statement
    frame_is : (f : FrameIndex) → f.statements ≡ st
        → ((t : Sentence) × IsNumbered st id f.index t × IsAssertion t.kind) → f ≡ frame_at st index
    frame_is f is (t, other, asserts) =
        let at : f.index ≡ index = (numbered_unique st id f.index index t s other numbered).0 in
        ap (λ (ss : List Sentence). frame_at ss f.index) is ∙ ap (λ (n : ℕ). frame_at st n) at

    -- the lines of hypotheses and pairs are those of the frame
    pub frame_told : (f : FrameIndex) (ids : List ℕ) (pairs : List DistinctPair)
        (o₀ o₁ o₂ : List ℕ) → f.statements ≡ st
        → ((t : Sentence) × IsNumbered st id f.index t × IsAssertion t.kind) → AreHypotheses f ids
        → ArePairs f (map (λ pair. (pair.variables.0.0, pair.variables.1.0)) pairs)
        → ((told : List Sentence) → map (slice_get (labelled_sentences st)) ids ≡ map Some told
        → o₁ ≡ o₀ ++ flat_map statement_line told)
        → o₂ ≡ o₁ ++ flat_map pair_line (named_pairs st pairs)
        → (lines : List ℕ) × IsFrameText (take index st) s [] lines × (o₂ ≡ o₀ ++ lines)
    frame_told f ids pairs o₀ o₁ o₂ is asserts are_hypotheses are_pairs told paired =
        let same = frame_is f is asserts in
        let hypotheses = subst (λ (g : FrameIndex). AreHypotheses g ids) same are_hypotheses in
        let distinct = subst (λ (g : FrameIndex). ArePairs g (map (λ (pair : DistinctPair). (pair.variables.0.0, pair.variables.1.0)) pairs)) same are_pairs in
        let one : hypotheses.assertion ≡ s =
        one_there st index hypotheses.assertion s hypotheses.there numbered.there in
        let other : distinct.assertion ≡ s =
        one_there st index distinct.assertion s distinct.there numbered.there in
        let first : List ℕ = flat_map statement_line hypotheses.hypotheses in
        let second : List ℕ = flat_map pair_line (named_pairs st pairs) in (
          first ++ second,
          record {
            hypotheses = hypotheses.hypotheses;
            mandatory = rw one at hypotheses.mandatory;
            pairs = named_pairs st pairs;
            distinct = rw other at (pairs_mandatory st index pairs distinct);
            told = sym (append-nil (first ++ second));
          },
          paired ∙ ap (λ (l : List ℕ). l ++ second) (told hypotheses.hypotheses hypotheses.numbered)
              ∙ append_assoc o₀ first second,
        )

    -- the lines of further `$d` are those of the ones that say more
    pub more_told : (f : FrameIndex) (indices : List ℕ) (o₀ o₁ : List ℕ) → f.statements ≡ st
        → ((t : Sentence) × IsNumbered st id f.index t × IsAssertion t.kind)
        → AreFurtherIndices f indices
        → ((told : List Sentence) → map (slice_get st) indices ≡ map Some told
        → o₁ ≡ o₀ ++ flat_map further_line told)
        → (further : List Sentence) × AreFurther (take index st) s further
        × (o₁ ≡ o₀ ++ flat_map further_line further)
    more_told f indices o₀ o₁ is asserts are_further told =
        let are = subst (λ (g : FrameIndex). AreFurtherIndices g indices) (frame_is f is asserts) are_further in
        let one : are.assertion ≡ s = one_there st index are.assertion s are.there numbered.there in
        (are.further, rw one at are.are_further, told are.further are.indexed)

    -- the lines of the frame of a `$p`, with what says more
    pub proof_told : (o₀ o₁ o₂ : List ℕ) → s.kind ≡ Provable
        → (lines : List ℕ) × IsFrameText (take index st) s [] lines × (o₁ ≡ o₀ ++ lines)
        → (further : List Sentence) × AreFurther (take index st) s further
        × (o₂ ≡ o₁ ++ flat_map further_line further)
        → (lines : List ℕ) × IsTextBefore s.kind (take index st) s lines × (o₂ ≡ o₀ ++ lines)
    proof_told o₀ o₁ o₂ kind (lines, text, first) (further, are, second) =
        let more : List ℕ = flat_map further_line further in
        let framed : List ℕ =
        flat_map statement_line text.hypotheses ++ flat_map pair_line text.pairs in (
          lines ++ more,
          subst (λ (k : Kind). IsTextBefore k (take index st) s (lines ++ more)) (sym kind) (
            further,
            are,
            record {
              hypotheses = text.hypotheses;
              mandatory = text.mandatory;
              pairs = text.pairs;
              distinct = text.distinct;
              told = ap (λ (l : List ℕ). l ++ more) (text.told ∙ append-nil framed);
            },
          ),
          second ∙ ap (λ (l : List ℕ). l ++ more) first ∙ append_assoc o₀ lines more,
        )

-- ---- the statement with the label

-- What is told of the statement that a book has last is what is told of it.
pub tells_last : (files : List PlainFile) (before : List PlainStatement) (s : PlainStatement)
    (label : List ℕ) (st : List Sentence) (id : ℕ) (o₁ o₂ o₃ : List ℕ)
    → st ≡ sentences (before ++ s ∷ []) → IsNumbered st id (length before) (sentence_of s)
    → IsLabelled label (sentence_of s)
    → o₁ ≡ place_text files (place_of files s.first.file s.first.at) → o₂ ≡ o₁ ++ 10 ∷ []
    → ((index : ℕ) (t : Sentence) → IsNumbered st id index t → (lines : List ℕ)
    × IsTextBefore t.kind (take index st) t lines × (o₃ ≡ o₂ ++ lines ++ statement_line t))
    → TellsStatement files (before ++ s ∷ []) label o₃
tells_last files before s label st id o₁ o₂ o₃ book numbered named h₁ h₂ told =
    let (lines, text, h₃) = told (length before) (sentence_of s) numbered in
    record {
      index = length before;
      s = s;
      there = get_parted before [] s;
      named = named;
      lines = lines;
      before = subst (λ (ss : List Sentence). IsTextBefore s.kind ss (sentence_of s) lines)
          (ap (λ (ss : List Sentence). take (length before) ss) book
          ∙ take-map sentence_of (length before) (before ++ s ∷ [])) text;
      said = h₃ ∙ ap (λ (l : List ℕ). l ++ lines ++ statement_line (sentence_of s))
          (h₂ ∙ ap (λ (l : List ℕ). l ++ 10 ∷ []) h₁);
    }
