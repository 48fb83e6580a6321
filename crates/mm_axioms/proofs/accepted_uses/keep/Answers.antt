-- What it uses is kept, or it isn't accepted.
use Rattle.std.proofs.Common.{◌++◌, ◌∷◌, [], List, ap, ◌∙◌, inr, refl, true, false, ℕ}
use Rattle.std.proofs.lemmas.Result.{on_ok_weaker}
use Rattle.mm_base.specs.Statement.{PlainStatement, plain_statement}
use Rattle.mm_rules.specs.Mirror.Ordered.{ordered}
use Rattle.mm_axioms.specs.Mirror.Accepted.{TellsAccepted}
use Rattle.mm_axioms.proofs.AcceptedProofs.{kept_one}
use Rattle.mm_axioms.proofs.accepted_uses.keep.Goals as goal

pub returns-then-branch-clause-kept : goal.returns-then-branch-clause-kept
returns-then-branch-clause-kept c =
    let s : PlainStatement = plain_statement c.args.statement.now in
    let tells : TellsAccepted c.args.prover.now.book.statements s true
    c.is_accepted.new.prover.used =
    rw c.if-branch.true at c.in_ok-is_accepted.ensures.told in
    on_ok_weaker c.push.result
    (λ pushed. kept_one c.args.prover.now.book.statements c.args.id.0 s
    c.is_accepted.new.prover.used c.args.kept.now c.push.new.self c.requires.last tells
    (pushed ∙ ap (λ (ns : List ℕ). c.args.kept.now
    ++ record { number = c.args.id.0; used = ordered ns } ∷ []) c.used.ensures))
    c.push.ensures

pub returns-clause-kept : goal.returns-clause-kept
returns-clause-kept c = λ before e.
    let s : PlainStatement = plain_statement c.args.statement.now in
    let tells : TellsAccepted c.args.prover.now.book.statements s false
    c.is_accepted.new.prover.used =
    rw c.if-branch.false at c.in_ok-is_accepted.ensures.told in
    inr (tells before e, refl)
