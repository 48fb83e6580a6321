-- What was found is the statement, by the number that it was taken with.
use Rattle.std.proofs.Common.{◌≡◌, ap, sym, inl, inr}
use Rattle.mm_base.specs.Statement.{plain_statement}
use Rattle.mm_explain.proofs.LoneProofs.FoundStatements.{stated_as}
use Rattle.mm_explain.proofs.statement_at.stated_in.Goals as goal

pub returns-in-Some-Assertion : goal.returns-in-Some-Assertion
returns-in-Some-Assertion c = λ files label ended.
    let found = rw c.in-Some-Assertion.is at ended in
    let same : plain_statement c.stated_at.result.statement ≡ plain_statement c.args.statement =
    ap plain_statement c.stated_at.ensures.statement in
    stated_as files label c.args.progress c.in-Some-Assertion.field-0 c.stated_at.result
    (rw (sym same) at found) (inl (cc)) c.stated_at.ensures.book

pub returns-in-Some-Hypothesis : goal.returns-in-Some-Hypothesis
returns-in-Some-Hypothesis c = λ files label ended.
    let found = rw c.in-Some-Hypothesis.is at ended in
    let same : plain_statement c.stated_at-in-Some-Hypothesis.result.statement
    ≡ plain_statement c.args.statement =
    ap plain_statement c.stated_at-in-Some-Hypothesis.ensures.statement in
    stated_as files label c.args.progress c.in-Some-Hypothesis.field-0
    c.stated_at-in-Some-Hypothesis.result (rw (sym same) at found) (inr (cc))
    c.stated_at-in-Some-Hypothesis.ensures.book
