-- Each hypothesis has the number at its index.
use Rattle.std.proofs.Common.{ap, ◌∙◌, arith, ◌++◌}
use Rattle.std.proofs.lemmas.List.{take_all}
use Rattle.mm_frame.specs.Numbers.{symbols_of}
use Rattle.mm_step.specs.Stores.{numbers_in}
use Rattle.mm_step.proofs.ByNumbers.NumberedSymbols.{as_many}
use Rattle.mm_facts.specs.Explained.{details_text, hypotheses_stated}
use Rattle.mm_rules.proofs.Numbers.{numbers_within}
use Rattle.mm_facts.proofs.HaltDetails.{hypothesis_there, hypothesis_told}
use Rattle.mm_facts.proofs.details.push_hypotheses.Goals as goal

pub push_stated-requires : goal.push_stated-requires
push_stated-requires c =
    let st = c.args.book.now.statements in
    let h = hypothesis_there st c.args.hypotheses.now c.requires.0 c.loop-hypothesis.hypothesis-index _ c.requires.1 c.loop-hypothesis-test.true in
    numbers_within (symbols_of st) (numbers_in c.expression.result.now) h.0.symbols (c.expression.ensures h.0 h.2)

pub loop-hypothesis-preserved : goal.loop-hypothesis-preserved
loop-hypothesis-preserved c = λ stated are.
    let st = c.args.book.now.statements in
    let h = hypothesis_there st c.args.hypotheses.now stated c.loop-hypothesis.hypothesis-index _ are c.loop-hypothesis-test.true in
    hypothesis_told st stated c.loop-hypothesis.hypothesis-index h.0 c.label.result.now (numbers_in c.expression.result.now)
    c.args.out.now.items c.loop-hypothesis.out.items c.push_stated.new.out.items h.1 (c.label.ensures h.0 h.2)
    (c.expression.ensures h.0 h.2) (c.loop-hypothesis.invariant stated are) c.in_ok-push_stated.ensures

pub returns : goal.returns
returns c = λ stated are.
    let many = as_many c.args.book.now.statements c.args.hypotheses.now stated are in
    let all = c.loop-hypothesis-test.false in
    c.loop-hypothesis.invariant stated are
    ∙ ap (λ hs. c.args.out.now.items ++ details_text (hypotheses_stated hs)) (take_all c.loop-hypothesis.hypothesis-index stated (omega arith))
