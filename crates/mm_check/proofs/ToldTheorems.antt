-- The steps of first moves of a theorem, and of one that is read again, whose tokens are those of its
-- proof.
use Rattle.std.proofs.Common.{◌≡◌, ◌≤◌, ◌∙◌, ℕ, List, length, take, Bool, true, false, ◌&&◌, not}
use Rattle.std.proofs.Common.{refl, sym, ap, subst, arith}
use Rattle.std.specs.List.{AllZip}
use Rattle.std.proofs.lemmas.List.{take-append-drop}
use Rattle.mm_base.specs.Statement.{PlainStatement}
use Rattle.mm_base.proofs.Lists.{zip_length}
use Rattle.mm_text.specs.Files.{PlainFile}
use Rattle.mm_frame.specs.Sentence.{Sentence, sentence_of}
use Rattle.mm_step.specs.Moves.{Move, steps_in}
use Rattle.mm_step.specs.Steps.{IsProofNumber}
use Rattle.mm_proof.specs.Tokens.{SayMoves, is_incomplete}
use Rattle.mm_proof.specs.Parsed.{OfProof, SaySteps}
use Rattle.mm_proof.specs.Verified.{OfMoves}
use Rattle.mm_proof.proofs.ProofVerdicts.FirstFault.{steps_in-append}
use Rattle.mm_listing.specs.declared.lines.Line.{Line}
use Rattle.mm_listing.specs.Listing.{ListedStep, TellsStep, AreLinesOf}
use Rattle.mm_base.specs.Statement.{is_provable}
use Rattle.mm_rules.specs.Verdict.{proof_of, sentences}
use Rattle.mm_verdict.specs.declared.question.Telling.TheVariants.{Letters}
use Rattle.mm_verdict.specs.Mirror.Theorems.{AreStepsOf}
use Rattle.mm_verdict.proofs.Questions.AskedTheorems.{of_theorem}
use Rattle.mm_facts.specs.Explained.{judged_tokens}
use Rattle.mm_facts.specs.Lettered.{AreLetteredLines}
use Rattle.mm_facts.proofs.TokenHalts.{judged_complete}
use Rattle.mm_check.specs.Told.{TellsProof}

-- a complete proof holds no `?`
no_question : (provable open_one : Bool) → (provable && not open_one) ≡ true → open_one ≡ false
no_question true false is = refl
no_question true true is = absurd cc
no_question false open_one is = absurd cc

-- the lines of first moves are no more than the steps that the judged tokens say
pub first_said : (st : List Sentence) (id : ℕ) (tokens : List (List ℕ)) (steps : List (Move ℕ))
    → OfProof st id (λ index s. SaySteps st index s (judged_tokens tokens) steps)
    → (passed : ℕ) (lines : List Line)
    → OfMoves st id steps (λ index s moves.
    AreLinesOf st (take index st) (take passed moves) lines)
    → (index : ℕ) (s : Sentence) → IsProofNumber st id index s
    → (before : List Sentence) × (s : Sentence) × (moves : List (Move (List ℕ)))
    × SayMoves before s (judged_tokens tokens) moves × (length lines ≤ steps_in moves)
first_said st id tokens steps said passed lines listed index s number =
    let told = said index s number in
    let (own, are, tells) = listed index s told.1 number told.3 in
    let whole = ap steps_in (sym (take-append-drop passed told.1))
    ∙ steps_in-append (take passed told.1) _ in (
      take index st,
      s,
      told.1,
      told.2,
      omega (arith, whole, are.count, zip_length (TellsStep st) lines own tells),
    )

module _ (st : List Sentence) (statements : List PlainStatement) (label : List ℕ) (id : ℕ)
    (steps : List (Move ℕ)) (lines : List Line) (t : PlainStatement) (same : st ≡ sentences statements)
    (r : AreStepsOf statements label id steps) (one : t ≡ r.s)
    (listed : OfMoves st id steps (λ index s moves. AreLinesOf st (take index st) moves lines)) where
  -- the lines are those of the moves that its tokens say
  own_lines : AreLinesOf st (sentences (take r.index statements)) r.moves lines
  own_lines =
      of_theorem st statements label id steps (λ before s moves. AreLinesOf st before moves lines)
      same r listed

  -- the moves have as many steps
  pub theorem_said : (tokens : List (List ℕ)) → tokens ≡ proof_of t
      → (before : List Sentence) × (s : Sentence) × (moves : List (Move (List ℕ)))
      × SayMoves before s (judged_tokens tokens) moves × (length lines ≤ steps_in moves)
  theorem_said tokens are =
      let (told, all, tells) = own_lines in
      let its : tokens ≡ proof_of r.s = are ∙ ap proof_of one in
      let whole : is_incomplete (proof_of r.s) ≡ false =
      no_question (is_provable r.s.kind) (is_incomplete (proof_of r.s)) r.complete in
      let judged : judged_tokens tokens ≡ proof_of r.s =
      ap judged_tokens its ∙ judged_complete (proof_of r.s) whole in (
        sentences (take r.index statements),
        sentence_of r.s,
        r.moves,
        subst
            (λ (ts : List (List ℕ)). SayMoves (sentences (take r.index statements)) (sentence_of r.s)
            ts r.moves)
            (sym judged) r.told,
        omega (arith, all.count, zip_length (TellsStep st) lines told tells),
      )

  -- the text of their lines tells the proof
  pub theorem_told : (files : List PlainFile) (text : List ℕ)
      → ((told : List ListedStep) → AllZip (TellsStep st) lines told
      → AreLetteredLines files t.proof told text)
      → TellsProof Letters files statements label text
  theorem_told files text laid =
      let (told, all, tells) = own_lines in
      record {
        index = r.index;
        s = r.s;
        there = r.there;
        named = r.named;
        complete = r.complete;
        told = (
          r.moves,
          r.told,
          (
            told,
            all,
            subst (λ (s : PlainStatement). AreLetteredLines files s.proof told text) one
                (laid told tells),
          ),
        );
      }
