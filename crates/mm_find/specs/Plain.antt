-- What assertions and queries in memory hold.
use Rattle.std.specs.Prelude.{ℕ, List, map}
use Rattle.std.specs.Global.{Vec}
use denote.Ref.{Bor}
use Rattle.mm_code.specs.Layout.{texts}
use Rattle.mm_find.specs.declared.assertion.Assertion.{Assertion}
use Rattle.mm_find.specs.declared.query.Query.{Query}
use Rattle.mm_find.specs.Found.{PlainAssertion, PlainQuery}

-- the expressions that lists in memory hold
abbrev pub expressions_in : List (Vec (Bor (List ℕ))) → List (List (List ℕ))
expressions_in lists = map (λ v. texts v.items) lists

abbrev pub plain_assertion : Assertion → PlainAssertion
plain_assertion a = record {
  label = a.label.now;
  kind = a.kind;
  hypotheses = expressions_in a.hypotheses.items;
  expression = texts a.expression.items;
}

abbrev pub plain_query : Query → PlainQuery
plain_query q = record {
  patterns = expressions_in q.patterns.items;
  matching = q.matching;
  hypotheses = q.hypotheses;
}
