-- The values that clap gives are those of the row of the argument.
use Rattle.std.proofs.Common.{ℕ, List, Some, None, map, ap, ◌∙◌, Bor}
use Rattle.std.proofs.lemmas.Result.{IfOk-weaker}
use Rattle.clap.specs.Words.{found_of}
use Rattle.mm_words.proofs.AskedWords.{values_are}
use Rattle.mm_words.proofs.matches.values_of.Goals as goal

abbrev texts : List (Bor (List ℕ)) → List (List ℕ)
texts values = map (λ value. value.now) values

pub returns-in-None : goal.returns-in-None
returns-in-None c = ap texts c.new.ensures.items ∙ values_are (found_of c.args.command.now) c.args.argument.now None c.in-None.ensures

pub returns-in-Some : goal.returns-in-Some
returns-in-Some c =
    IfOk-weaker c.to_vec.result _ _
    (λ v h. ap texts (h (λ x y e. e)) ∙ values_are (found_of c.args.command.now) c.args.argument.now (Some (texts c.in-Some.values.now)) c.in-Some.ensures)
    c.to_vec.ensures.items_if_clones_equal
