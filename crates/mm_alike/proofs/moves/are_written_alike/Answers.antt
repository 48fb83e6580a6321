-- The same codes over the same entries.
use Rattle.std.proofs.Common.{List, subst}
use Rattle.mm_code.specs.declared.code.Code.{Code}
use Rattle.mm_proof.specs.Mirror.CodeSteps.{moves_of}
use Rattle.mm_alike.specs.Mirror.Steps.{AreSameMoves}
use Rattle.mm_alike.proofs.SharedTrees.{codes_alike}
use Rattle.mm_alike.proofs.moves.are_written_alike.Goals as goal

pub returns-then-are_same_codes : goal.returns-then-are_same_codes
returns-then-are_same_codes c = λ same.
    subst (λ (cs : List Code). AreSameMoves c.args.old.now.statements c.args.new.now.statements
    (moves_of c.args.entries.now c.args.codes.now) (moves_of c.args.others.now cs))
    (c.are_same_codes.ensures c.if-are_same_codes.true)
    (codes_alike c.args.old.now.statements c.args.new.now.statements c.args.entries.now
    c.args.others.now c.args.codes.now (c.are_same_entries.ensures same))
