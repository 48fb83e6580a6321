-- The first symbols are the same; where one ends and the other doesn't, they differ.
use Rattle.std.proofs.Common.{◌≡◌, ◌<◌, ◌≤◌, length, arith}
use Rattle.mm_step.specs.Stores.{numbers_in}
use Rattle.mm_facts.proofs.DetailTexts.{one_same, count_numbers, all_same, where_apart}
use Rattle.mm_facts.proofs.fact_lines.difference.Goals as goal

pub loop-index-preserved : goal.loop-index-preserved
loop-index-preserved c =
    let end = c.min-index-end.ensures in
    let less : c.loop-index.index < c.min-index-end.result = c.loop-index-test.true in
    one_same c.args.e.now c.args.f.now c.loop-index.index _ _ c.loop-index.invariant (omega arith) (omega arith) c.if-e-index.false

pub returns-then-e-f-clause-same : goal.returns-then-e-f-clause-same
returns-then-e-f-clause-same c = λ none.
    let end = c.min-index-end.ensures in
    let count : length c.args.e.now ≡ length c.args.f.now = c.if-e-f.true in
    let past : c.min-index-end.result ≤ c.loop-index.index = c.loop-index-test.false in
    let e_count = count_numbers c.args.e.now in
    let f_count = count_numbers c.args.f.now in
    all_same (numbers_in c.args.e.now) (numbers_in c.args.f.now) (omega arith) (λ i less. c.loop-index.invariant i (omega arith))

pub returns-else-e-f-clause-differ : goal.returns-else-e-f-clause-differ
returns-else-e-f-clause-differ c =
    where_apart c.args.e.now c.args.f.now c.min.result c.min.ensures c.if-e-f.false
