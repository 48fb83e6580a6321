-- The question is why the theorem rests on the assertion behind `--to`, or else what it rests on.
use Rattle.mm_words.proofs.AskedWords.{chain_asked, report_asked}
use Rattle.mm_words.proofs.axioms_request.axioms_question.Goals as goal

pub returns-in-Some : goal.returns-in-Some
returns-in-Some c = λ words names label alone asked some.
    chain_asked words names label c.args.essential c.args.to c.in-Some.other _ c.in-Some.is
    c.as_bytes.ensures.value alone asked some

pub returns-in-None : goal.returns-in-None
returns-in-None c = λ words names label alone asked some.
    report_asked words names label c.args.essential c.args.to c.in-None.is asked some
