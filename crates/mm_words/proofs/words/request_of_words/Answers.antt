-- The words ask for what their matches say.
use Rattle.std.proofs.Common.{Bor, IsSome, List, map, rules, ℕ}
use Rattle.std.proofs.lemmas.Result.{IfErr-weaker, IfOk-weaker}
use Rattle.clap.specs.Words.{found_of, rows_of}
use Rattle.clap.specs.declared.parser.matches.ArgMatches.{ArgMatches}
use Rattle.mm_words.proofs.AskedWords.{commands_met, not_commanded, rows_there}
use Rattle.mm_words.proofs.words.request_of_words.Goals as goal

pub returns-then-is_some-clause-request : goal.returns-then-is_some-clause-request
returns-then-is_some-clause-request c =
    let words : List (List ℕ) = map (λ word. word.now) c.args.words.now in
    let there : IsSome c.subcommand_matches.result = search rules in
    let found = rows_there (λ (m : Bor ArgMatches). rows_of (found_of m.now))
    c.subcommand_matches.result _ there c.subcommand_matches.ensures.rows in
    IfOk-weaker c.diff_request.result _ _
    (λ request asks met. asks found.0 (commands_met words c.args.matches.now _ found.0 met
    (c.subcommand_matches.ensures.found.0 there) found.1))
    c.diff_request.ensures.request

pub returns-then-is_some-clause-fault : goal.returns-then-is_some-clause-fault
returns-then-is_some-clause-fault c =
    let words : List (List ℕ) = map (λ word. word.now) c.args.words.now in
    let there : IsSome c.subcommand_matches.result = search rules in
    let found = rows_there (λ (m : Bor ArgMatches). rows_of (found_of m.now))
    c.subcommand_matches.result _ there c.subcommand_matches.ensures.rows in
    IfErr-weaker c.diff_request.result _ _
    (λ stop refused met. refused found.0 (commands_met words c.args.matches.now _ found.0 met
    (c.subcommand_matches.ensures.found.0 there) found.1))
    c.diff_request.ensures.fault

pub request_of_matches-requires : goal.request_of_matches-requires
request_of_matches-requires c = λ words rows met.
    not_commanded words c.args.matches.now _ rows met
    (λ named. let there = c.subcommand_matches.ensures.found.1 named in search rules)

pub returns-clause-request : goal.returns-clause-request
returns-clause-request c =
    let words : List (List ℕ) = map (λ word. word.now) c.args.words.now in
    IfOk-weaker c.request_of_matches.result _ _ (λ request asks met. asks words met)
    c.request_of_matches.ensures.request

pub returns-clause-fault : goal.returns-clause-fault
returns-clause-fault c =
    let words : List (List ℕ) = map (λ word. word.now) c.args.words.now in
    IfErr-weaker c.request_of_matches.result _ _ (λ stop refused met. refused words met)
    c.request_of_matches.ensures.fault
