-- Where a proof is judged, as the code carries it: it mirrors the code.
use Rattle.std.specs.Prelude.{ℕ, List}
use Rattle.mm_frame.specs.Sentence.{Sentence}
use Rattle.mm_frame.specs.Form.{IsSound}
use Rattle.mm_step.specs.Steps.{IsProofNumber}

-- the statements of a book, the index and the number of the `$p`, and the most symbols that an
-- expression may have
pub record ProofSite : Type 0 where
  pub statements : List Sentence
  pub index : ℕ
  pub number : ℕ
  pub limit : ℕ

-- the statements are sound, and the `$p` with the number stands at the index
pub record IsSite (site : ProofSite) : Type 0 where
  pub sound : IsSound site.statements
  pub s : Sentence
  pub proof : IsProofNumber site.statements site.number site.index s

-- where the codes of a compressed proof are judged, and the labels, by numbers, that its first
-- numbers stand for
pub record CodeSite : Type 0 where
  pub site : ProofSite
  pub ids : List ℕ
