-- Whether a text is a proof of a theorem that spells the same tree as its own: what is wrong with
-- the text, and the answer (the Metamath book, sections 4.1.1, 4.3, 4.4.3 and 4.4.4, appendix B).
use Rattle.std.specs.Prelude.{◌↔◌, ℕ, Bool, IsTrue, List, take}
use Rattle.mm_base.specs.Statement.{PlainStatement}
use Rattle.mm_code.specs.Words.{tokens_in}
use Rattle.mm_frame.specs.Sentence.{sentence_of}
use Rattle.mm_step.specs.declared.profile.Profile.{Profile}
use Rattle.mm_step.specs.Moves.{Move}
use Rattle.mm_proof.specs.Tokens.{SayMoves}
use Rattle.mm_forms.specs.OneTree.{MakeSameTree}
use Rattle.mm_proof.specs.UnderProfile.{IsProvedUnder}
use Rattle.mm_rules.specs.Verdict.{proof_of, sentences}
use Rattle.mm_rules.specs.Compared.{IsProofText, IsTheorem}

-- The text is a proof of the theorem with the label under the profile, and this tells whether it
-- makes the same tree as the theorem's own proof.
pub record IsCompared (profile : Profile) (statements : List PlainStatement) (label text : List ℕ)
    (same : Bool) : Type 0 where
  pub index : ℕ
  pub s : PlainStatement
  pub theorem : IsTheorem statements label index s
  pub moves : List (Move (List ℕ))
  pub told : SayMoves (sentences (take index statements)) (sentence_of s) (proof_of s) moves
  pub legal : IsProofText text
  pub proved : IsProvedUnder profile (sentences (take index statements)) (sentence_of s)
      (tokens_in text)
  pub answer : IsTrue same ↔ MakeSameTree (sentences (take index statements)) moves proved.1.moves
