-- The word stands at the first position from which the text goes on with it, or nowhere.
use Rattle.std.proofs.Common.{◌+◌, ◌||◌, drop, sym, ap, ◌∙◌, arith}
use Rattle.std.specs.Prelude.{nat_eq}
use Rattle.std.specs.List.{starts_with}
use Rattle.std.proofs.lemmas.Slice.{between_to_end}
use Rattle.mm_text.specs.Remarks.{holds}
use Rattle.mm_text.proofs.SaidBefore.{holds-step, holds-nil, starts-nil}
use Rattle.mm_words.proofs.lemma_file_request.holds.Goals as goal

pub returns-then-starts_with : goal.returns-then-starts_with
returns-then-starts_with c =
    let text = c.args.text.now in
    let word = c.args.word.now in
    let here = sym (ap (λ t. starts_with nat_eq t word) (between_to_end text c.loop-at.at _
    (omega arith))) in
    sym (c.loop-at.invariant ∙ holds-step word text c.loop-at.at c.loop-at-test.true
    ∙ ap (λ b. b || holds word (drop (c.loop-at.at + 1) text))
    (here ∙ sym c.starts_with.ensures.value ∙ c.if-starts_with.true))

pub loop-at-preserved : goal.loop-at-preserved
loop-at-preserved c =
    let text = c.args.text.now in
    let word = c.args.word.now in
    let here = sym (ap (λ t. starts_with nat_eq t word) (between_to_end text c.loop-at.at _
    (omega arith))) in
    c.loop-at.invariant ∙ holds-step word text c.loop-at.at c.loop-at-test.true
    ∙ ap (λ b. b || holds word (drop (c.loop-at.at + 1) text))
    (here ∙ sym c.starts_with.ensures.value ∙ c.if-starts_with.false)

pub returns : goal.returns
returns c =
    let text = c.args.text.now in
    let word = c.args.word.now in
    c.is_empty.ensures ∙ sym (c.loop-at.invariant
    ∙ holds-nil word text c.loop-at.at c.loop-at-test.false ∙ starts-nil word)
