-- They are one where no fault is found.
use Rattle.mm_step.specs.Plain.{token_texts}
use Rattle.mm_mend.proofs.JudgedChanges.{proof_decided}
use Rattle.mm_mend.proofs.judge.is_proof.Goals as goal

pub returns : goal.returns
returns c = λ index s number.
    proof_decided c.args.book.now.statements index s (token_texts c.args.tokens.now)
    c.requires.meant c.in_ok-fault.fault (c.in_ok-fault.ensures index s number) c.is_none.result
    c.is_none.ensures
