use Rattle.mm_proof.proofs.ProofTokens.ProofCodes.{calls_more}
use Rattle.mm_proof.proofs.run.calls_of.Goals as goal

pub loop-id-preserved : goal.loop-id-preserved
loop-id-preserved c index =
    rw c.in_ok-push.ensures.items (calls_more c.args.book.now.statements index c.args.entries.now c.loop-id.id-index _ c.loop-id.calls.items _ c.loop-id-test.true
    (c.loop-id.invariant index) (c.call_of.ensures index))
