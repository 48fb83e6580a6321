-- A theorem alone is a lemma.
use Rattle.std.proofs.Common.{sym, ◌∙◌}
use Rattle.mm_base.specs.Statement.{plain_statement}
use Rattle.mm_with_lemmas.proofs.WalkedParts.{theorem_alone}
use Rattle.mm_with_lemmas.proofs.lemma.begun_by.Goals as goal

pub returns-then-is_theorem : goal.returns-then-is_theorem
returns-then-is_theorem c = λ before strict.
    theorem_alone before (plain_statement c.args.statement.now)
    (sym c.is_theorem.ensures ∙ c.if-is_theorem.true) strict
