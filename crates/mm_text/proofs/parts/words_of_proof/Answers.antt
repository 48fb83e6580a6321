use Rattle.mm_base.specs.Statement.{plain_statement}
use Rattle.mm_text.specs.Mirror.Reader.{InProof}
use Rattle.mm_text.proofs.Reader.OneToken.{answers_refused, reads_err}
use Rattle.mm_text.proofs.parts.words_of_proof.Goals as goal

pub returns-in_err-add_to_proof-clause-reads : goal.returns-in_err-add_to_proof-clause-reads
returns-in_err-add_to_proof-clause-reads c =
    reads_err _ _ _ _ _ c.from_residual.ensures.1 c.loop-word.invariant.0
    (answers_refused _ (InProof (plain_statement c.loop-word.into)) _ _ _ _ _ tt
    c.in-Some.ensures.first c.in_err-add_to_proof.ensures)
