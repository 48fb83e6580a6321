-- One of them is it, or none.
use Rattle.std.proofs.Common.{refl, sym, ◌∙◌}
use Rattle.std.proofs.lemmas.Bool.{false≢true}
use Rattle.mm_diff.proofs.OneAssertions.{no_pair_all, no_pair_first, no_pair_more, pair_found}
use Rattle.mm_diff.proofs.twins.renamed_from.Goals as goal

pub loop-renaming-init : goal.loop-renaming-init
loop-renaming-init c = no_pair_first _ c.args.id.0 refl

pub returns-then-is_same-clause-some : goal.returns-then-is_same-clause-some
returns-then-is_same-clause-some c =
    pair_found c.args.renamed.now c.loop-renaming.renaming-index c.args.id.0 _
    c.loop-renaming-test.true (c.is_same.ensures.0 c.if-is_same.true)

pub loop-renaming-preserved : goal.loop-renaming-preserved
loop-renaming-preserved c =
    no_pair_more c.args.renamed.now c.loop-renaming.renaming-index c.args.id.0 _
    c.loop-renaming-test.true c.loop-renaming.invariant
    (λ same. false≢true (sym c.if-is_same.false ∙ c.is_same.ensures.1 same))

pub returns-clause-none : goal.returns-clause-none
returns-clause-none c = λ none.
    no_pair_all c.args.renamed.now c.loop-renaming.renaming-index c.args.id.0
    c.loop-renaming-test.false c.loop-renaming.invariant
