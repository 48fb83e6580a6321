-- The first `)`, or the end.
use Rattle.std.proofs.Common.{◌≡◌, [], length, get_or, false, sym, ap, ◌∙◌, arith}
use Rattle.std.proofs.lemmas.List.{length-map, get_or-map}
use Rattle.std.proofs.lemmas.List.Sums.{position_or_len_is}
use borrow.Author.Count.{below_more}
use Rattle.mm_step.specs.Plain.{token_texts}
use Rattle.mm_groups.specs.Shared.{is_closing}
use Rattle.mm_groups.proofs.labels.count_before_closing.Goals as goal

pub returns-then-is_closing-clause-first : goal.returns-then-is_closing-clause-first
returns-then-is_closing-clause-first c =
    let tokens = c.args.tokens.now in
    let here = get_or-map (λ t. t.text.now) tokens c.loop-index.index _ [] c.loop-index-test.true in
    sym (position_or_len_is is_closing (token_texts tokens) c.loop-index.index []
    (omega (arith, c.loop-index-test.true, length-map tokens (λ t. t.text.now)))
    c.loop-index.invariant
    (λ less. ap is_closing here ∙ sym c.is_closing.ensures ∙ c.if-is_closing.true))

pub loop-index-preserved : goal.loop-index-preserved
loop-index-preserved c =
    let tokens = c.args.tokens.now in
    let here = get_or-map (λ t. t.text.now) tokens c.loop-index.index _ [] c.loop-index-test.true in
    below_more (λ k. is_closing (get_or (token_texts tokens) k []) ≡ false) c.loop-index.index
    c.loop-index.invariant (ap is_closing here ∙ sym c.is_closing.ensures ∙ c.if-is_closing.false)

pub returns-clause-first : goal.returns-clause-first
returns-clause-first c =
    let long = length-map c.args.tokens.now (λ t. t.text.now) in
    sym (position_or_len_is is_closing (token_texts c.args.tokens.now) (length c.args.tokens.now) []
    (omega (arith, long))
    (λ k less. c.loop-index.invariant k (omega (arith, less, c.loop-index-test.false)))
    (λ less. absurd (omega (arith, less, long))))
