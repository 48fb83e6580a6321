-- The line, part by part.
use Rattle.std.proofs.Common.{length, sym, ◌∙◌}
use Rattle.mm_facts.proofs.DisjointDetails.{some_in}
use Rattle.mm_explain.proofs.UnusedLabels.{unused_told}
use Rattle.mm_explain.proofs.unused.push_unused_line.Goals as goal

pub returns : goal.returns
returns c =
    let xs = c.args.unused.now in
    unused_told c.args.out.now.items c.extend_from_slice.new.self.items c.push_words.new.out.items
    c.push_more_unused.new.out.items c.push.new.self.items xs c.min.result c.saturating_sub.result
    (some_in (length xs) (sym c.if-is_empty.false ∙ c.is_empty.ensures)) c.min.ensures
    c.saturating_sub.ensures c.in_ok-extend_from_slice.ensures.items c.in_ok-push_words.ensures
    c.in_ok-push_more_unused.ensures c.in_ok-push.ensures.items
