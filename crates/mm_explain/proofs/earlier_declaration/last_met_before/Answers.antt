-- What was found in the statement itself, or before it.
use Rattle.std.proofs.Common.{◌≡◌, Option, Some, None, option_map, map, refl}
use Rattle.std.proofs.lemmas.Result.{IfOk-weaker}
use Rattle.mm_base.specs.declared.token.Token.{Token}
use Rattle.mm_text.specs.Files.{plain_file}
use Rattle.mm_base.specs.Token.{plain_token}
use Rattle.mm_explain.specs.MeaningFacts.{last_looked_at, token_at}
use Rattle.mm_explain.specs.Mirror.SemanticErrors.{Site}
use Rattle.mm_explain.proofs.Collisions.{met_for}
use Rattle.mm_explain.proofs.earlier_declaration.last_met_before.Goals as goal

pub returns-in-Some : goal.returns-in-Some
returns-in-Some c site =
    met_for (map plain_file c.args.files.now) c.args.error.now c.token.result
    (Some c.in-Some.token) _ c.requires c.token.ensures (rw c.in-Some.is at c.last_within.ensures)
    site refl

pub returns-in-None : goal.returns-in-None
returns-in-None c =
    let Q : Option Token → Type 0 = λ last.
    (site : Site (map plain_file c.args.files.now) c.args.error.now.before)
    → option_map plain_token last
    ≡ last_looked_at c.args.error.now.rule site.before site.s c.args.error.now.index
    (token_at site.s c.args.error.now.index).text in
    IfOk-weaker _ _ Q (λ last h site.
    met_for (map plain_file c.args.files.now) c.args.error.now c.token.result None
    (option_map plain_token last) c.requires c.token.ensures
    (rw c.in-None.is at c.last_within.ensures) site (h site)) c.last_before.ensures
