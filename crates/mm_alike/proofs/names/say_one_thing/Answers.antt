-- The kinds, and the names of the symbols.
use Rattle.std.proofs.Common.{sym, ◌∙◌}
use Rattle.std.proofs.lemmas.Bool.{false≢true}
use Rattle.mm_alike.proofs.ComparedNames.{told_symbols, said_of_kind, said_apart}
use Rattle.mm_alike.proofs.names.say_one_thing.Goals as goal

pub have_same_names-requires-clause-one : goal.have_same_names-requires-clause-one
have_same_names-requires-clause-one c =
    told_symbols c.args.old.now.statements c.args.one.0 c.expression.result.now c.requires.one
    (λ s at. c.expression.ensures s at)

pub have_same_names-requires-clause-other : goal.have_same_names-requires-clause-other
have_same_names-requires-clause-other c =
    told_symbols c.args.new.now.statements c.args.other.0
    c.expression-then-is_same_kind.result.now c.requires.other
    (λ s at. c.expression-then-is_same_kind.ensures s at)

pub returns-then-is_same_kind : goal.returns-then-is_same_kind
returns-then-is_same_kind c =
    said_of_kind c.args.old.now.statements c.args.new.now.statements c.args.one.0 c.args.other.0
    c.kind.result c.kind-2.result c.expression.result.now
    c.expression-then-is_same_kind.result.now
    (record {
      within = c.requires.one;
      kind = λ s at. c.kind.ensures s at;
      symbols = λ s at. c.expression.ensures s at;
    })
    (record {
      within = c.requires.other;
      kind = λ s at. c.kind-2.ensures s at;
      symbols = λ s at. c.expression-then-is_same_kind.ensures s at;
    })
    (c.is_same_kind.ensures.0 c.if-is_same_kind.true) c.have_same_names.result
    c.have_same_names.ensures

pub returns-else-is_same_kind : goal.returns-else-is_same_kind
returns-else-is_same_kind c = (
  (λ t. absurd (false≢true t)),
  (λ same. absurd (said_apart c.args.old.now.statements c.args.new.now.statements c.args.one.0
      c.args.other.0 c.kind.result c.kind-2.result c.requires.one c.requires.other
      (λ s at. c.kind.ensures s at) (λ t at. c.kind-2.ensures t at)
      (λ equal. false≢true (sym c.if-is_same_kind.false ∙ c.is_same_kind.ensures.1 equal)) same)),
)
