-- By what has its label in the other database.
use Rattle.std.proofs.Common.{refl, sym, ◌∙◌}
use Rattle.std.proofs.lemmas.Bool.{false≢true}
use Rattle.mm_alike.proofs.CheckedTheorems.{named_theorem, no_other_alike}
use Rattle.mm_alike.proofs.CheckedTheorems.{none_alike_here}
use Rattle.mm_alike.proofs.reproved.alike_named.Goals as goal

pub returns-then-are_alike-clause-some : goal.returns-then-are_alike-clause-some
returns-then-are_alike-clause-some c = (
  c.label.result.now,
  named_theorem c.args.book.now.statements c.label.result.now c.args.id.0 c.requires
      (λ s at. c.label.ensures s at),
  c.in-Some.ensures.some,
  c.are_alike.ensures.0 c.if-are_alike.true,
)

pub returns-else-are_alike-clause-none : goal.returns-else-are_alike-clause-none
returns-else-are_alike-clause-none c = λ none.
    no_other_alike c.args.book.now.statements c.args.other.now.statements c.label.result.now
    c.args.id.0 c.in-Some.named.0 c.in-Some.ensures.sound.0
    (named_theorem c.args.book.now.statements c.label.result.now c.args.id.0 c.requires
    (λ s at. c.label.ensures s at)) c.in-Some.ensures.some
    (λ alike. false≢true (sym c.if-are_alike.false ∙ c.are_alike.ensures.1 alike))

pub returns-in-None-clause-none : goal.returns-in-None-clause-none
returns-in-None-clause-none c = λ none.
    none_alike_here c.args.book.now.statements c.args.other.now.statements c.label.result.now
    c.args.id.0
    (named_theorem c.args.book.now.statements c.label.result.now c.args.id.0 c.requires
    (λ s at. c.label.ensures s at)) (λ n there. c.in-None.ensures.none refl n there)
