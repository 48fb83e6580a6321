use Rattle.std.proofs.Common.{rules, refl, subst}
use Rattle.mm_proof.specs.Mirror.CodeSteps.{moves_of}
use Rattle.mm_proof.proofs.ProofVerdicts.JudgedMoves.{first_up_to}
use Rattle.mm_proof.proofs.ProofVerdicts.FirstFault.{handed}
use Rattle.mm_forms.proofs.TreeBuilding.Building.{first_all, row_items, same_built}
use Rattle.mm_forms.proofs.builder.build_moves.Goals as goal

pub run-requires-clause-allowed : goal.run-requires-clause-allowed
run-requires-clause-allowed g c index move there =
    (moves_of c.args.entries.now c.args.codes.now, c.requires.made, first_up_to _ index move there)

pub returns-in_err-run-clause-long : goal.returns-in_err-run-clause-long
returns-in_err-run-clause-long g c =
    handed _ c.from_residual.result c.from_residual.ensures.1 (λ fault is long m.
    let s = c.in_err-run.ensures.stops in
    s.known (subst g.B.Builder.is_long is long) (moves_of c.args.entries.now c.args.codes.now) m
    (first_up_to _ s.index s.move s.there))

pub returns-clause-built : goal.returns-clause-built
returns-clause-built g c m =
    same_built g.B.Builder.holds c.args.builder.now c.run.new.machine.builder.now _
    c.args.book.now.statements m.names m.row c.run.new.machine.stack.now.items _ (search rules)
    (search rules) (row_items _ _ _ m _ _ _ refl (c.in_ok-run.ensures.ran.at _ m (first_all _)))
