use Rattle.std.proofs.Common.{rules, List, refl, subst}
use Rattle.mm_base.proofs.Lists.{all_at}
use Rattle.mm_frame.specs.declared.number.Sym.{Sym}
use Rattle.mm_step.specs.Mirror.CodeAsked.{number_pairs}
use Rattle.mm_proof.specs.Mirror.CodeSteps.{code_moves}
use Rattle.mm_step.specs.Mirror.CodeRun.{MayBeMade}
use Rattle.mm_distinct.specs.Mirror.CodeLacking.{AreLackingNumbers}
use Rattle.mm_distinct.proofs.LackingPairs.LackingMoves.{sought_none, sought_all}
use Rattle.mm_distinct.proofs.lacking.lacking_of_codes.Goals as goal

pub run-requires-clause-begun : goal.run-requires-clause-begun
run-requires-clause-begun g c =
    sought_none g.S.Store.stack g.S.Store.kept _ c.requires.stack c.requires.kept
    c.new-lacking.ensures.items refl refl

pub run-requires-clause-allowed : goal.run-requires-clause-allowed
run-requires-clause-allowed g c index move there =
    let site = c.args.table.now.site in
    all_at (MayBeMade site.statements site.index) (code_moves c.args.table.now.ids c.args.codes.now)
    index move c.requires.usable there

pub returns : goal.returns
returns g c =
    let moves = code_moves c.args.table.now.ids c.args.codes.now in
    subst (λ (l : List (Sym × Sym)). AreLackingNumbers c.args.table.now.site (number_pairs l) moves)
    (search rules)
    (sought_all g.S.Store.stack g.S.Store.kept _ _ moves c.in_ok-run.ensures.ran)
