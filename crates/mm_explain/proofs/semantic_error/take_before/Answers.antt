-- The next statement stands before the site, so it breaks no rule of meaning.
use Rattle.std.proofs.Common.{map, arith}
use Rattle.mm_text.specs.Files.{plain_file}
use Rattle.mm_explain.proofs.SemanticErrors.{meant_next}
use Rattle.mm_explain.proofs.semantic_error.take_before.Goals as goal

pub take_next-requires-clause-next : goal.take_next-requires-clause-next
take_next-requires-clause-next c =
    meant_next (map plain_file c.args.files.now) c.args.count c.requires.meant.0 c.loop.progress
    c.loop.statements c.requires.meant.1 c.loop.invariant.read
    (let e = c.loop.invariant.count in let f = c.loop-test.true in omega arith)
