-- A statement that is no `$p` has no proof.
use Rattle.std.proofs.Common.{◌≡◌, ap, ◌∙◌, true, rules}
use denote.Enum.Bare.{sameb}
use Rattle.mm_base.specs.contracts.statement.Kind.{the_type}
use Rattle.mm_base.specs.declared.statement.Kind.{Kind}
use Rattle.mm_base.specs.Statement.{plain_statement}
use Rattle.mm_base.specs.declared.statement.Kind.TheVariants.{Provable}
use Rattle.mm_axioms.proofs.AcceptedProofs.{last_proof, kept_other}
use Rattle.mm_axioms.proofs.accepted_uses.keep_taken.Goals as goal

pub keep-requires-clause-last : goal.keep-requires-clause-last
keep-requires-clause-last c =
    let provable : (plain_statement c.args.statement.now).kind ≡ Provable = search rules in
    last_proof c.args.prover.now.book.statements c.args.taken c.in-Assertion.id
    (plain_statement c.args.statement.now) c.requires.taken c.in-Assertion.is provable

pub returns-in_default-clause-kept : goal.returns-in_default-clause-kept
returns-in_default-clause-kept c = λ before e.
    kept_other before (plain_statement c.args.statement.now) c.args.kept.now
    (λ provable.
    let f = c.if-eq.false in
    let t : c.eq.result ≡ true =
    c.eq.ensures ∙ ap (λ (k : Kind). sameb the_type k Provable) provable in cc)
