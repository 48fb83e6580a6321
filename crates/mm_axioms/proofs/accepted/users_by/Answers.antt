-- The numbers that are kept are those of the statements.
use Rattle.std.proofs.Common.{map}
use Rattle.std.proofs.lemmas.Result.{IfOk-weaker}
use Rattle.mm_axioms.proofs.AcceptedProofs.{accepted_backward, accepted_users_of}
use Rattle.mm_axioms.proofs.AcceptedProofs.{all_accepted_users_of}
use Rattle.mm_axioms.proofs.accepted.users_by.Goals as goal

pub all_users_among-requires : goal.all_users_among-requires
all_users_among-requires c =
    accepted_backward c.requires.1.statements c.args.uses.now.kept c.requires.1.kept

pub users_among-requires : goal.users_among-requires
users_among-requires c =
    (accepted_backward c.requires.1.statements c.args.uses.now.kept c.requires.1.kept).rising

pub returns-then-all : goal.returns-then-all
returns-then-all c =
    rw c.if-all.true
    (IfOk-weaker c.all_users_among.result _ _
    (λ users order files kept label named. all_accepted_users_of files
    c.args.uses.now.book.statements c.args.uses.now.kept kept label c.args.assertion.0
    (map (λ id. id.0) users.items) named order)
    c.all_users_among.ensures)

pub returns-else-all : goal.returns-else-all
returns-else-all c =
    rw c.if-all.false
    (IfOk-weaker c.users_among.result _ _
    (λ users order files kept label named. accepted_users_of files
    c.args.uses.now.book.statements c.args.uses.now.kept kept label c.args.assertion.0
    (map (λ id. id.0) users.items) named order)
    c.users_among.ensures)
