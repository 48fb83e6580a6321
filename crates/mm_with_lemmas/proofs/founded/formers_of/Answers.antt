-- One more number.
use Rattle.mm_with_lemmas.proofs.FoundedTheorems.{formers_more, formers_none}
use Rattle.mm_with_lemmas.proofs.founded.formers_of.Goals as goal

pub loop-number-init : goal.loop-number-init
loop-number-init c =
    formers_none c.args.old.now.statements c.args.new.now.statements _ c.new-formers.ensures.items

pub loop-number-preserved : goal.loop-number-preserved
loop-number-preserved c =
    formers_more c.args.old.now.statements c.args.new.now.statements c.loop-number.number
    c.loop-number.formers.items _ c.former_of.result c.loop-number.invariant
    c.former_of.ensures.some c.in_ok-push.ensures.items

pub returns : goal.returns
returns c = c.loop-number.invariant.each
