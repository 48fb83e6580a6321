use Rattle.mm_step.proofs.ByNumbers.NumberedSymbols.{code_told, code_judged}
use Rattle.mm_step.proofs.step.is_typed.Goals as goal

pub returns-in-Some : goal.returns-in-Some
returns-in-Some c st h typing below =
    let (code, x, types, first, second) = rw c.in-Some.is at typing in
    let told = code_told c.one_number.ensures st h code x _ _ below types first in
    code_judged c.begins_with.result h _ types.0 (λ is. told.0 (c.begins_with.ensures.0 is)) (λ same. c.begins_with.ensures.1 (told.1 same))

pub returns-in-None : goal.returns-in-None
returns-in-None c st h typing below =
    let essential = rw c.in-None.is at typing in λ floats. absurd (cc (floats, essential))
