-- The line, part by part.
use Rattle.mm_facts.proofs.DetailTexts.{three_parts}
use Rattle.mm_explain.proofs.Explanations.{some_more}
use Rattle.mm_explain.proofs.why.push_more.Goals as goal

pub returns : goal.returns
returns c =
    rw (some_more c.args.profile c.args.count c.if-count-eq0.false, ← c.listing_words.ensures)
    (three_parts _ _ _ _ _ _ _ c.in_ok-extend_from_slice.ensures.items c.in_ok-push_decimal.ensures
    c.in_ok-extend_from_slice-2.ensures.items)
