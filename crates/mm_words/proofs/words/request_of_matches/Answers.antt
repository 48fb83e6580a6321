-- The words ask for what their matches say.
use Rattle.std.proofs.Common.{inl, inr, refl}
use Rattle.std.proofs.lemmas.Result.{IfErr-weaker, IfOk-weaker}
use Rattle.mm_words.proofs.AskedWords.{commands_met, none_there, not_commanded}
use Rattle.mm_words.proofs.words.request_of_matches.Goals as goal

pub returns-in-Some-clause-request : goal.returns-in-Some-clause-request
returns-in-Some-clause-request c = λ words met. c.in_ok-whole_request.ensures words _
    (commands_met words c.args.matches.now _ _ met (c.in-Some.ensures.found.0 refl)
    c.in-Some.ensures.rows)
    (λ profile names asks. asks)

pub returns-in-Some-subcommand_matches-clause-request :
    goal.returns-in-Some-subcommand_matches-clause-request
returns-in-Some-subcommand_matches-clause-request c = λ words met.
    c.in_ok-whole_request-2.ensures words _
    (commands_met words c.args.matches.now _ _ met
    (c.in-Some-subcommand_matches.ensures.found.0 refl) c.in-Some-subcommand_matches.ensures.rows)
    (λ profile names asks. asks)

pub returns-in-Some-subcommand_matches-2-clause-request :
    goal.returns-in-Some-subcommand_matches-2-clause-request
returns-in-Some-subcommand_matches-2-clause-request c = λ words met.
    c.in_ok-why_request.ensures words
    (commands_met words c.args.matches.now _ _ met
    (c.in-Some-subcommand_matches-2.ensures.found.0 refl)
    c.in-Some-subcommand_matches-2.ensures.rows)

pub returns-in-Some-subcommand_matches-3-clause-request :
    goal.returns-in-Some-subcommand_matches-3-clause-request
returns-in-Some-subcommand_matches-3-clause-request c =
    IfOk-weaker c.axioms_request.result _ _
    (λ request asks words met. asks words
    (commands_met words c.args.matches.now _ _ met
    (c.in-Some-subcommand_matches-3.ensures.found.0 refl)
    c.in-Some-subcommand_matches-3.ensures.rows))
    c.axioms_request.ensures.request

pub returns-in-Some-subcommand_matches-3-clause-fault :
    goal.returns-in-Some-subcommand_matches-3-clause-fault
returns-in-Some-subcommand_matches-3-clause-fault c =
    IfErr-weaker c.axioms_request.result _ _
    (λ stop refused words met. refused words
    (commands_met words c.args.matches.now _ _ met
    (c.in-Some-subcommand_matches-3.ensures.found.0 refl)
    c.in-Some-subcommand_matches-3.ensures.rows))
    c.axioms_request.ensures.fault

pub returns-in-Some-subcommand_matches-4-clause-request :
    goal.returns-in-Some-subcommand_matches-4-clause-request
returns-in-Some-subcommand_matches-4-clause-request c = λ words met.
    c.in_ok-users_request.ensures words
    (commands_met words c.args.matches.now _ _ met
    (c.in-Some-subcommand_matches-4.ensures.found.0 refl)
    c.in-Some-subcommand_matches-4.ensures.rows)

pub returns-in-Some-subcommand_matches-5-clause-request :
    goal.returns-in-Some-subcommand_matches-5-clause-request
returns-in-Some-subcommand_matches-5-clause-request c =
    IfOk-weaker c.statement_request.result _ _
    (λ request asks words met. asks words
    (commands_met words c.args.matches.now _ _ met
    (c.in-Some-subcommand_matches-5.ensures.found.0 refl)
    c.in-Some-subcommand_matches-5.ensures.rows))
    c.statement_request.ensures.request

pub returns-in-Some-subcommand_matches-5-clause-fault :
    goal.returns-in-Some-subcommand_matches-5-clause-fault
returns-in-Some-subcommand_matches-5-clause-fault c =
    IfErr-weaker c.statement_request.result _ _
    (λ stop refused words met. refused words
    (commands_met words c.args.matches.now _ _ met
    (c.in-Some-subcommand_matches-5.ensures.found.0 refl)
    c.in-Some-subcommand_matches-5.ensures.rows))
    c.statement_request.ensures.fault

pub returns-in-Some-subcommand_matches-6-clause-request :
    goal.returns-in-Some-subcommand_matches-6-clause-request
returns-in-Some-subcommand_matches-6-clause-request c =
    IfOk-weaker c.find_request.result _ _
    (λ request asks words met. asks words
    (commands_met words c.args.matches.now _ _ met
    (c.in-Some-subcommand_matches-6.ensures.found.0 refl)
    c.in-Some-subcommand_matches-6.ensures.rows))
    c.find_request.ensures.request

pub returns-in-Some-subcommand_matches-6-clause-fault :
    goal.returns-in-Some-subcommand_matches-6-clause-fault
returns-in-Some-subcommand_matches-6-clause-fault c =
    IfErr-weaker c.find_request.result _ _
    (λ stop refused words met. refused words
    (commands_met words c.args.matches.now _ _ met
    (c.in-Some-subcommand_matches-6.ensures.found.0 refl)
    c.in-Some-subcommand_matches-6.ensures.rows))
    c.find_request.ensures.fault

pub returns-in-Some-subcommand_matches-7-clause-request :
    goal.returns-in-Some-subcommand_matches-7-clause-request
returns-in-Some-subcommand_matches-7-clause-request c =
    IfOk-weaker c.show_request.result _ _
    (λ request asks words met. asks words
    (commands_met words c.args.matches.now _ _ met
    (c.in-Some-subcommand_matches-7.ensures.found.0 refl)
    c.in-Some-subcommand_matches-7.ensures.rows))
    c.show_request.ensures.request

pub returns-in-Some-subcommand_matches-7-clause-fault :
    goal.returns-in-Some-subcommand_matches-7-clause-fault
returns-in-Some-subcommand_matches-7-clause-fault c =
    IfErr-weaker c.show_request.result _ _
    (λ stop refused words met. refused words
    (commands_met words c.args.matches.now _ _ met
    (c.in-Some-subcommand_matches-7.ensures.found.0 refl)
    c.in-Some-subcommand_matches-7.ensures.rows))
    c.show_request.ensures.fault

pub returns-clause-fault : goal.returns-clause-fault
returns-clause-fault c = λ words met.
    let other = not_commanded words c.args.matches.now in
    inr (inl (
      met.0,
      (rw c.in_default-2.is at c.in_ok-request.ensures.none) words met,
      (rw c.in_default-3.is at c.in_ok-request-2.ensures.none) words met,
      λ rows. (
        other _ rows met (λ named. none_there c.subcommand_matches.result c.in_default.is
            (c.subcommand_matches.ensures.found.1 named)),
        other _ rows met (λ named. none_there c.subcommand_matches-2.result
            c.in_default-subcommand_matches.is (c.subcommand_matches-2.ensures.found.1 named)),
        other _ rows met (λ named. none_there c.subcommand_matches-3.result
            c.in_default-subcommand_matches-2.is (c.subcommand_matches-3.ensures.found.1 named)),
        other _ rows met (λ named. none_there c.subcommand_matches-4.result
            c.in_default-subcommand_matches-3.is (c.subcommand_matches-4.ensures.found.1 named)),
        other _ rows met (λ named. none_there c.subcommand_matches-5.result
            c.in_default-subcommand_matches-4.is (c.subcommand_matches-5.ensures.found.1 named)),
        other _ rows met (λ named. none_there c.subcommand_matches-6.result
            c.in_default-subcommand_matches-5.is (c.subcommand_matches-6.ensures.found.1 named)),
        other _ rows met (λ named. none_there c.subcommand_matches-7.result
            c.in_default-subcommand_matches-6.is (c.subcommand_matches-7.ensures.found.1 named)),
        other _ rows met (λ named. none_there c.subcommand_matches-8.result
            c.in_default-subcommand_matches-7.is (c.subcommand_matches-8.ensures.found.1 named)),
        c.requires words rows met,
      ),
    ))
