-- They are the texts of the tokens with their positions.
use Rattle.std.proofs.Common.{ap, ◌∙◌}
use Rattle.mm_step.specs.Plain.{token_texts}
use Rattle.mm_verdict.proofs.text.tokens_of.Goals as goal

pub returns-clause-tokens : goal.returns-clause-tokens
returns-clause-tokens c =
    c.in_ok-fill_texts.ensures ∙ ap token_texts c.deref.ensures.value
    ∙ c.in_ok-placed.ensures.tokens
