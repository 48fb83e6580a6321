-- The database is that of the files; or a proof is incomplete.
use Rattle.std.proofs.Common.{map, sym, ◌∙◌}
use Rattle.std.proofs.lemmas.Bool.{false≢true}
use Rattle.std.proofs.lemmas.Result.{IfOk-weaker}
use Rattle.mm_text.specs.Files.{plain_file}
use Rattle.mm_diff.proofs.DiffReplies.{yes_told}
use Rattle.mm_diff.proofs.reply.outcome_of_checked.Goals as goal

pub returns-then-is_complete : goal.returns-then-is_complete
returns-then-is_complete c = λ profile holds keeps files.
    let complete = c.is_complete.ensures.0 c.if-is_complete.true in
    let (statements, got, says) =
    yes_told profile (map plain_file c.args.files.now) c.args.checked complete holds keeps in
    record {
      statements = statements;
      yes = got;
      kept = files;
      told = says;
      complete = record { complete = complete; homes = c.in_ok-homes.ensures };
    }

pub incomplete_outcome-outcome-requires : goal.incomplete_outcome-outcome-requires
incomplete_outcome-outcome-requires c = λ none.
    false≢true (sym c.if-is_complete.false ∙ c.is_complete.ensures.1 none)

pub returns : goal.returns
returns c =
    IfOk-weaker c.incomplete_outcome-outcome.result _ _
    (λ outcome told profile holds keeps files. told profile holds)
    c.incomplete_outcome-outcome.ensures
