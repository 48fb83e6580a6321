-- Why there is no request is passed on.
use Rattle.std.proofs.Common.{List, refl}
use Rattle.clap.specs.Words.{Text}
use Rattle.mm_words.specs.Words.{AreMatchesOf}
use Rattle.mm_words.specs.RefusedWords.{IsWordFault}
use Rattle.mm_words.proofs.AskedWords.{commands_met, none_there, not_commanded}
use Rattle.mm_base.proofs.Lists.{error_keeps}
use Rattle.mm_words.proofs.words.form_request.Goals as goal

pub returns-in_err-normal_request-clause-fault : goal.returns-in_err-normal_request-clause-fault
returns-in_err-normal_request-clause-fault c =
    error_keeps c.from_residual.result c.in_err-normal_request.field-0.0
    (λ stop. (words : List Text) → AreMatchesOf words c.args.matches.now → IsWordFault words stop)
    c.from_residual.ensures.1 (λ words met. c.in_err-normal_request.ensures.fault words
    (commands_met words c.args.matches.now _ _ met (c.in-Some.ensures.found.0 refl)
    c.in-Some.ensures.rows))

pub returns-in_err-proof_request-clause-fault :
    goal.returns-in_err-proof_request-clause-fault
returns-in_err-proof_request-clause-fault c =
    error_keeps c.from_residual-in_err-proof_request.result c.in_err-proof_request.field-0.0
    (λ stop. (words : List Text) → AreMatchesOf words c.args.matches.now → IsWordFault words stop)
    c.from_residual-in_err-proof_request.ensures.1
    (λ words met. c.in_err-proof_request.ensures.fault words
    (commands_met words c.args.matches.now _ _ met
    (c.in-Some-subcommand_matches.ensures.found.0 refl)
    c.in-Some-subcommand_matches.ensures.rows))

pub returns-in_err-proof_request-2-clause-fault :
    goal.returns-in_err-proof_request-2-clause-fault
returns-in_err-proof_request-2-clause-fault c =
    error_keeps c.from_residual-in_err-proof_request-2.result c.in_err-proof_request-2.field-0.0
    (λ stop. (words : List Text) → AreMatchesOf words c.args.matches.now → IsWordFault words stop)
    c.from_residual-in_err-proof_request-2.ensures.1
    (λ words met. c.in_err-proof_request-2.ensures.fault words
    (commands_met words c.args.matches.now _ _ met
    (c.in-Some-subcommand_matches-2.ensures.found.0 refl)
    c.in-Some-subcommand_matches-2.ensures.rows))

pub returns-in_err-minimize_request-clause-fault :
    goal.returns-in_err-minimize_request-clause-fault
returns-in_err-minimize_request-clause-fault c =
    error_keeps c.from_residual-in_err-minimize_request.result c.in_err-minimize_request.field-0.0
    (λ stop. (words : List Text) → AreMatchesOf words c.args.matches.now → IsWordFault words stop)
    c.from_residual-in_err-minimize_request.ensures.1
    (λ words met. c.in_err-minimize_request.ensures.fault words
    (commands_met words c.args.matches.now _ _ met
    (c.in-Some-subcommand_matches-3.ensures.found.0 refl)
    c.in-Some-subcommand_matches-3.ensures.rows))

pub returns-in-Some-clause-request : goal.returns-in-Some-clause-request
returns-in-Some-clause-request c = λ words met.
    c.in_ok-normal_request.ensures.request words (commands_met words c.args.matches.now _ _ met
    (c.in-Some.ensures.found.0 refl)
    c.in-Some.ensures.rows)

pub returns-in-Some-subcommand_matches-clause-request :
    goal.returns-in-Some-subcommand_matches-clause-request
returns-in-Some-subcommand_matches-clause-request c = λ words met.
    c.in_ok-proof_request.ensures.request words (commands_met words c.args.matches.now _ _ met
    (c.in-Some-subcommand_matches.ensures.found.0 refl)
    c.in-Some-subcommand_matches.ensures.rows) tt

pub returns-in-Some-subcommand_matches-2-clause-request :
    goal.returns-in-Some-subcommand_matches-2-clause-request
returns-in-Some-subcommand_matches-2-clause-request c = λ words met.
    c.in_ok-proof_request-2.ensures.request words (commands_met words c.args.matches.now _ _ met
    (c.in-Some-subcommand_matches-2.ensures.found.0 refl)
    c.in-Some-subcommand_matches-2.ensures.rows) tt

pub returns-in-Some-subcommand_matches-3-clause-request :
    goal.returns-in-Some-subcommand_matches-3-clause-request
returns-in-Some-subcommand_matches-3-clause-request c = λ words met.
    c.in_ok-minimize_request.ensures.request words (commands_met words c.args.matches.now _ _ met
    (c.in-Some-subcommand_matches-3.ensures.found.0 refl)
    c.in-Some-subcommand_matches-3.ensures.rows)

pub returns-in-Some-subcommand_matches-4-clause-request :
    goal.returns-in-Some-subcommand_matches-4-clause-request
returns-in-Some-subcommand_matches-4-clause-request c = λ words met.
    c.in_ok-asked_text.ensures words (commands_met words c.args.matches.now _ _ met
    (c.in-Some-subcommand_matches-4.ensures.found.0 refl)
    c.in-Some-subcommand_matches-4.ensures.rows)

pub returns-in-Some-subcommand_matches-5-clause-request :
    goal.returns-in-Some-subcommand_matches-5-clause-request
returns-in-Some-subcommand_matches-5-clause-request c = λ words met.
    c.in_ok-asked_text-2.ensures words (commands_met words c.args.matches.now _ _ met
    (c.in-Some-subcommand_matches-5.ensures.found.0 refl)
    c.in-Some-subcommand_matches-5.ensures.rows)

pub returns-in_err-lemmas_request-clause-fault : goal.returns-in_err-lemmas_request-clause-fault
returns-in_err-lemmas_request-clause-fault c =
    error_keeps c.from_residual-in_err-lemmas_request.result c.in_err-lemmas_request.field-0.0
    (λ stop. (words : List Text) → AreMatchesOf words c.args.matches.now → IsWordFault words stop)
    c.from_residual-in_err-lemmas_request.ensures.1
    (λ words met. c.in_err-lemmas_request.ensures.fault words
    (commands_met words c.args.matches.now _ _ met
    (c.in-Some-subcommand_matches-6.ensures.found.0 refl)
    c.in-Some-subcommand_matches-6.ensures.rows))

pub returns-in-Some-subcommand_matches-6-clause-request :
    goal.returns-in-Some-subcommand_matches-6-clause-request
returns-in-Some-subcommand_matches-6-clause-request c = λ words met.
    c.in_ok-lemmas_request.ensures.request words (commands_met words c.args.matches.now _ _ met
    (c.in-Some-subcommand_matches-6.ensures.found.0 refl)
    c.in-Some-subcommand_matches-6.ensures.rows)

pub returns-in-Some-subcommand_matches-7-clause-request :
    goal.returns-in-Some-subcommand_matches-7-clause-request
returns-in-Some-subcommand_matches-7-clause-request c = λ words met.
    c.in_ok-mend_request.ensures words (commands_met words c.args.matches.now _ _ met
    (c.in-Some-subcommand_matches-7.ensures.found.0 refl)
    c.in-Some-subcommand_matches-7.ensures.rows)

pub returns-clause-none : goal.returns-clause-none
returns-clause-none c = λ words met rows.
    let other = not_commanded words c.args.matches.now in (
      other _ rows met (λ named. none_there c.subcommand_matches.result c.in_default.is
          (c.subcommand_matches.ensures.found.1 named)),
      other _ rows met (λ named. none_there c.subcommand_matches-2.result
          c.in_default-subcommand_matches.is (c.subcommand_matches-2.ensures.found.1 named)),
      other _ rows met (λ named. none_there c.subcommand_matches-3.result
          c.in_default-subcommand_matches-2.is (c.subcommand_matches-3.ensures.found.1 named)),
      other _ rows met (λ named. none_there c.subcommand_matches-4.result
          c.in_default-subcommand_matches-3.is (c.subcommand_matches-4.ensures.found.1 named)),
      other _ rows met (λ named. none_there c.subcommand_matches-5.result
          c.in_default-subcommand_matches-4.is (c.subcommand_matches-5.ensures.found.1 named)),
      other _ rows met (λ named. none_there c.subcommand_matches-6.result
          c.in_default-subcommand_matches-5.is (c.subcommand_matches-6.ensures.found.1 named)),
      other _ rows met (λ named. none_there c.subcommand_matches-7.result
          c.in_default-subcommand_matches-6.is (c.subcommand_matches-7.ensures.found.1 named)),
      other _ rows met (λ named. none_there c.subcommand_matches-8.result
          c.in_default-subcommand_matches-7.is (c.subcommand_matches-8.ensures.found.1 named)),
    )
