-- Each hypothesis has the number at its index.
use Rattle.std.proofs.Common.{List, map, subst, arith}
use Rattle.std.proofs.lemmas.List.{take_all}
use Rattle.mm_frame.specs.Sentence.{Sentence}
use Rattle.mm_frame.specs.Numbers.{AreNumbers}
use Rattle.mm_step.specs.Stores.{numbers_in}
use Rattle.mm_step.proofs.ByNumbers.NumberedSymbols.{as_many}
use Rattle.mm_facts.specs.Explained.{type_codes}
use Rattle.mm_facts.proofs.HaltDetails.{hypothesis_there}
use Rattle.mm_facts.proofs.WrongTypes.{one_code}
use Rattle.mm_facts.proofs.types.codes_taken.Goals as goal

pub loop-hypothesis-preserved : goal.loop-hypothesis-preserved
loop-hypothesis-preserved c = λ stated are.
    let st = c.args.book.now.statements in
    let h = hypothesis_there st c.args.hypotheses.now stated c.loop-hypothesis.hypothesis-index _
    are c.loop-hypothesis-test.true in
    one_code st stated c.loop-hypothesis.hypothesis-index h.0 (numbers_in
    c.loop-hypothesis.codes.items)
    (numbers_in c.expression.result.now) (numbers_in c.push_code.new.codes.items) h.1
    (c.loop-hypothesis.invariant stated are) (c.expression.ensures h.0 h.2)
    c.in_ok-push_code.ensures

pub returns : goal.returns
returns c = λ stated are.
    let many = as_many c.args.book.now.statements c.args.hypotheses.now stated are in
    let all = c.loop-hypothesis-test.false in
    subst (λ (hs : List Sentence). AreNumbers c.args.book.now.statements (numbers_in
    c.loop-hypothesis.codes.items)
    (type_codes (map (λ h. h.symbols) hs)))
    (take_all c.loop-hypothesis.hypothesis-index stated (omega arith)) (c.loop-hypothesis.invariant
    stated are)
