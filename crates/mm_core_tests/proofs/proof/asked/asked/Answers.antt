-- An assertion with a lesser number than the theorem stands before it, and its frame has its
-- hypotheses.
use Rattle.std.proofs.Common.{◌∙◌, arith}
use Rattle.std.proofs.lemmas.List.{length-map}
use Rattle.mm_proof.proofs.ProofNumbers.NamedAssertions.{named_by_number, hypotheses_at}
use Rattle.mm_core_tests.proofs.proof.asked.asked.Goals as goal

pub asked_by-requires-clause-step : goal.asked_by-requires-clause-step
asked_by-requires-clause-step c index t proof =
    let st = c.args.theorem.now.book.statements in
    let at = c.frame.result.index in
    let are = hypotheses_at c.frame.result st _ c.frame.ensures.book c.hypotheses.ensures.ids in
    let found = c.in-Assertion.ensures.found in
    let frame = c.frame.ensures.index in
    let named = named_by_number st c.in-Assertion.id.0 c.args.theorem.now.id.0 at found.0
    index frame.0 found.1 t _ _ found.2 found.3 frame.1 frame.2 proof.numbered
    (omega (arith, c.if-id-theorem.false)) are in
    let many = named.2 ∙ length-map c.hypotheses.result.now _ ∙ c.if-hypotheses-entries.false in
    (_, named.0, at, frame.0, are.hypotheses, named.1, many)
