-- What is listed at the end of moves that have run.
use Rattle.std.proofs.Common.{◌≡◌, ℕ, List, [], ◌∷◌, take, subst, sym, Bool}
use Rattle.mm_base.proofs.Lists.{zip_take}
use Rattle.mm_frame.specs.Sentence.{Sentence}
use Rattle.mm_step.specs.declared.fault.ProofRule.{ProofRule}
use Rattle.mm_step.specs.Moves.{Move}
use Rattle.mm_step.specs.Proof.{IsWithin, Passed}
use Rattle.mm_step.specs.Steps.{IsNumberedMove, AreSteps}
use Rattle.mm_step.specs.Mirror.Sites.{ProofSite, IsSite}
use Rattle.mm_proof.specs.CheckedPrefix.{Pass}
use Rattle.mm_proof.specs.Verified.{OfMoves}
use Rattle.mm_step.specs.Mirror.CodeRun.{HasRun}
use Rattle.mm_frame.specs.Numbers.{IsNumbered}
use Rattle.mm_frame.specs.FrameIndex.{AreItsSymbols}
use Rattle.mm_step.proofs.ByNumbers.OneIndex.{one_index}
use Rattle.mm_listing.specs.declared.lines.Line.{Line}
use Rattle.mm_listing.specs.Listing.{AreLinesWith}
use Rattle.mm_listing.specs.Mirror.CodeLines.{AreLinesAt, BreaksAt, ListsProof}
use Rattle.mm_proof.proofs.ProofVerdicts.JudgedMoves.{proved_end}
use Rattle.mm_proof.proofs.ProofVerdicts.PassedMoves.{no_fault_within}
use Rattle.mm_listing.proofs.Machines.ProofHalts.{meant_before}

-- ==== what is listed at the end

-- the moves have run, and left the statement's expression
pub lists_end : (limit : ℕ) (st : List Sentence) (id own : ℕ) (t : Sentence) (xs : List (Move ℕ))
    (stack kept : List (List ℕ)) (count : ℕ) (numbers : List ℕ) (expressed : ℕ → Bool)
    (lines : List Line)
    → IsNumbered st id own t → AreItsSymbols (record { statements = st; index = own }) numbers
    → HasRun limit st own xs stack kept count → stack ≡ numbers ∷ []
    → AreLinesAt st expressed own xs lines → ListsProof limit st id xs expressed lines
lists_end limit st id own t xs stack kept count numbers expressed lines n symbols run is lines_so
    index s names proof numbered =
    let here : own ≡ index = one_index st id own index t s n proof.numbered in (
      proved_end limit st id own t xs stack kept count numbers n symbols run is index s names proof
          numbered,
      subst (λ p. AreLinesAt st expressed p xs lines) here lines_so names numbered,
    )

-- ==== what is listed of first moves

module _ (site : ProofSite) (xs : List (Move ℕ)) (n : ℕ) (own : IsSite site) where
  -- those that pass have no fault
  pub no_front_fault : (rule : ProofRule) (at : ℕ) → AreSteps site.statements site.number xs
      → OfMoves site.statements site.number xs (λ index s moves.
      Pass (IsWithin site.limit) (take index site.statements) (take n moves))
      → BreaksAt site.limit site.statements site.index (take n xs) rule at → ⊥
  no_front_fault rule at steps pass breaks =
      let st = site.statements in
      let before : List Sentence = take site.index st in
      let Fits : List (List ℕ) → Type 0 = IsWithin site.limit in
      let names = take n steps.moves in
      let m = breaks names
      (zip_take (IsNumberedMove st) xs steps.moves n steps.numbered) in
      let here : site.index ≡ steps.index =
      one_index st site.number site.index steps.index own.s steps.s own.proof.numbered
      steps.proof.numbered in
      let p = subst (λ i. Pass Fits (take i st) names) (sym here)
      (pass steps.index steps.s steps.moves steps.proof steps.numbered) in
      no_fault_within Fits before m.earlier m.move m.later m.stack m.kept p.0 p.1 rule
      (meant_before site own) (subst (λ l. Passed Fits before l p.0 p.1) m.parts p.2) m.passed
      m.fault

  -- their lines are those of their names
  pub front_listed : (expressed : ℕ → Bool) (lines : List Line)
      → AreLinesAt site.statements expressed site.index (take n xs) lines
      → OfMoves site.statements site.number xs (λ index s moves.
      AreLinesWith site.statements (take index site.statements) (take n moves) expressed lines)
  front_listed expressed lines listed index s moves proof numbered =
      let st = site.statements in
      let here : site.index ≡ index =
      one_index st site.number site.index index own.s s own.proof.numbered proof.numbered in
      subst (λ i. AreLinesWith st (take i st) (take n moves) expressed lines) here
      (listed (take n moves) (zip_take (IsNumberedMove st) xs moves n numbered))
