use Rattle.std.proofs.Common.{map, ap, ◌∙◌}
use Rattle.std.proofs.lemmas.List.{map-append, take_all}
use Rattle.std.proofs.lemmas.List.Elements.{All-from_recursion}
use Rattle.mm_code.specs.Letters.{HasSpelling}
use Rattle.mm_step.specs.Moves.{name}
use Rattle.mm_step.specs.Plain.{ids_in}
use Rattle.mm_proof.proofs.ProofTokens.ProofCodes.{entries_later, says_more, entries_say}
use Rattle.mm_proof.proofs.ProofTokens.ProofCodes.{entries_spelled}
use Rattle.mm_proof.proofs.parse.fill_distinct.Goals as goal

pub loop-id-init : goal.loop-id-init
loop-id-init c = rw (c.clear.ensures.items, c.clear-2.ensures.items) tt

pub loop-id-preserved : goal.loop-id-preserved
loop-id-preserved c =
    let indexed = c.in_ok-index.ensures in
    let more = indexed.longer in
    let old = c.loop-id.invariant in
    rw c.in_ok-push.ensures.items (says_more _ _ c.args.ids.now c.loop-id.id-index _ c.in_ok-index.index
    c.loop-id-test.true (rw (more.1, map-append) (entries_later _ (ids_in more.0) _ _ old))
    indexed.there)

pub returns-clause-ok : goal.returns-clause-ok
returns-clause-ok c =
    entries_say _ _ _ c.loop-id.invariant ∙ ap (λ l. map name (ids_in l)) (take_all c.loop-id.id-index c.args.ids.now c.loop-id-test.false)

pub returns-clause-spelled : goal.returns-clause-spelled
returns-clause-spelled c = All-from_recursion HasSpelling _ (entries_spelled _ _ _ c.loop-id.invariant)
