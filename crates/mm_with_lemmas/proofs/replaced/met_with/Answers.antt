-- The statement is the theorem of the next span, or another.
use Rattle.mm_base.specs.Statement.{plain_statement}
use Rattle.std.proofs.Common.{[], ◌∷◌, map, take}
use Rattle.mm_text.specs.Files.{plain_file}
use Rattle.mm_with_lemmas.proofs.ReplaceableProofs.{all_past, met_at}
use Rattle.mm_with_lemmas.proofs.replaced.met_with.Goals as goal

pub returns-then-proofs-met-clause-each : goal.returns-then-proofs-met-clause-each
returns-then-proofs-met-clause-each c = λ seen h.
    all_past (map plain_file c.args.files.now) c.args.number seen
    (plain_statement c.args.statement.now ∷ []) (take c.args.met c.args.proofs.now) h

pub returns-then-branch-clause-each : goal.returns-then-branch-clause-each
returns-then-branch-clause-each c = λ seen h.
    met_at (map plain_file c.args.files.now) c.args.number seen
    (plain_statement c.args.statement.now) c.args.proofs.now c.args.met _ c.if-proofs-met.false h
    (c.in_ok-is_theorem_at.ensures c.if-branch.true)

pub returns-clause-each : goal.returns-clause-each
returns-clause-each c = λ seen h.
    all_past (map plain_file c.args.files.now) c.args.number seen
    (plain_statement c.args.statement.now ∷ []) (take c.args.met c.args.proofs.now) h
