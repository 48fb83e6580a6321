-- What was found is the theorem, if it was taken as an assertion and is a `$p`.
use Rattle.std.proofs.Common.{◌≡◌, ◌∙◌, ap, sym, rules}
use Rattle.mm_base.specs.Statement.{PlainStatement, plain_statement}
use Rattle.mm_base.specs.declared.statement.Kind.TheVariants.{Provable}
use Rattle.mm_explain.proofs.LoneProofs.LoneTheorems.{reached_as}
use Rattle.mm_explain.proofs.read_to.theorem_in.Goals as goal

pub returns-in-Some-Assertion-clause-reached : goal.returns-in-Some-Assertion-clause-reached
returns-in-Some-Assertion-clause-reached c = λ files label ended.
    let found = rw c.in-Some-Assertion.is at ended in
    let same : plain_statement c.reached_at.result.statement ≡ plain_statement c.args.statement =
    ap plain_statement c.reached_at.ensures.statement in
    let provable : (plain_statement c.args.statement).kind ≡ Provable = search rules in
    reached_as files label c.args.progress c.in-Some-Assertion.field-0 c.reached_at.result
    (rw (sym same) at found) (cc) (ap (λ (s : PlainStatement). s.kind) same ∙ provable)
    c.reached_at.ensures.book c.reached_at.ensures.before
