-- The theorem of the block.
use Rattle.std.proofs.Common.{sym, ◌∙◌}
use Rattle.mm_base.specs.Statement.{plain_statement}
use Rattle.mm_with_lemmas.proofs.WalkedParts.{block_proved}
use Rattle.mm_with_lemmas.proofs.lemma.behind_conditions.Goals as goal

pub returns-then-is_theorem : goal.returns-then-is_theorem
returns-then-is_theorem c = λ before partial strict begun.
    block_proved before partial (plain_statement c.args.statement.now)
    (sym c.is_theorem.ensures ∙ c.if-is_theorem.true) strict begun
