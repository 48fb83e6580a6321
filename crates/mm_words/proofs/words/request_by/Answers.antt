-- The words ask for what the parse found.
use Rattle.std.proofs.Common.{ℕ, List, map, option_map}
use Rattle.clap.specs.Words.{app_of}
use Rattle.std.proofs.lemmas.Result.{IfErr-weaker, IfOk-weaker}
use Rattle.mm_words.proofs.AskedWords.{fault_met, matches_met, request_asked}
use Rattle.mm_words.proofs.words.request_by.Goals as goal

pub returns-in-Ok-clause-request : goal.returns-in-Ok-clause-request
returns-in-Ok-clause-request c =
    let words : List (List ℕ) = map (λ word. word.now) c.args.words.now in
    let met = matches_met (app_of c.args.command.now) words c.in-Ok.matches c.requires
    c.in-Ok.ensures.kinds c.in-Ok.ensures.ok.2 in
    IfOk-weaker c.request_of_words-request.result _ _ (λ request h. h met)
    c.request_of_words-request.ensures.request

pub returns-in-Ok-clause-fault : goal.returns-in-Ok-clause-fault
returns-in-Ok-clause-fault c =
    let words : List (List ℕ) = map (λ word. word.now) c.args.words.now in
    let met = matches_met (app_of c.args.command.now) words c.in-Ok.matches c.requires
    c.in-Ok.ensures.kinds c.in-Ok.ensures.ok.2 in
    IfErr-weaker c.request_of_words-request.result _ _ (λ stop h. h met)
    c.request_of_words-request.ensures.fault

pub returns-in-Err-clause-request : goal.returns-in-Err-clause-request
returns-in-Err-clause-request c =
    request_asked (app_of c.args.command.now) _
    (option_map (λ name. name.now) c.first_topic-topic.result) c.in-Err.error
    c.request_of_error.result c.requires c.first_topic-topic.ensures c.in-Err.ensures.kinds c.request_of_error.ensures.request

pub returns-in-Err-clause-fault : goal.returns-in-Err-clause-fault
returns-in-Err-clause-fault c =
    fault_met (app_of c.args.command.now) _ c.in-Err.error c.request_of_error.result
    c.requires c.in-Err.ensures.kinds c.request_of_error.ensures.fault
