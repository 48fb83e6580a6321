-- A word that is 0 is none.
use Rattle.std.proofs.Common.{◌∙◌, ap, ◌++◌, sym, append-nil, List}
use Rattle.mm_axioms.specs.declared.bits.SetWord.{SetWord}
use Rattle.mm_axioms.proofs.ScratchWords.{one_word_from, no_word_from}
use Rattle.mm_axioms.proofs.scratch.push_word.Goals as goal

pub returns-in_ok-push : goal.returns-in_ok-push
returns-in_ok-push c =
    c.in_ok-push.ensures.items
    ∙ ap (λ (vs : List SetWord). c.args.out.now.items ++ vs)
    (sym (one_word_from c.args.index c.args.bits c.if-bits-ne0.true))

pub returns-else-bits-ne0 : goal.returns-else-bits-ne0
returns-else-bits-ne0 c =
    sym (ap (λ (vs : List SetWord). c.args.out.now.items ++ vs)
    (no_word_from c.args.index c.args.bits c.if-bits-ne0.false) ∙ append-nil c.args.out.now.items)
