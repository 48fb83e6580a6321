-- No rule over the whole of the tokens is broken.
use Rattle.mm_places.proofs.form_places.fill_whole.Goals as goal

pub unreachable-requires : goal.unreachable-requires
unreachable-requires c =
    let fault = rw c.in-Err-Rule.field-0-is at c.in-Err-Rule.ensures.fault in
    c.requires c.in-Err-Rule.field-0-0 fault.1.broken
