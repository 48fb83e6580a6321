-- No chain leads there from a number without a size.
use Rattle.std.proofs.Common.{List, ℕ, sym, ap, ◌∙◌}
use Rattle.mm_axioms.specs.Mirror.Chains.{size_at}
use Rattle.mm_axioms.proofs.ShortestChains.{no_chain}
use Rattle.mm_axioms.proofs.chains.chain_between.Goals as goal

pub returns-then-size_of-eq0-clause-none : goal.returns-then-size_of-eq0-clause-none
returns-then-size_of-eq0-clause-none c = λ e.
    no_chain c.args.kept.now c.args.to.0 c.args.from.0 c.in_ok-sizes.sizes.items
    c.in_ok-sizes.ensures
    (sym (c.size_of.ensures ∙ ap (λ (ss : List ℕ). size_at ss c.args.from.0) c.deref.ensures.value)
    ∙ c.if-size_of-eq0.true)
