-- The words ask for what their matches say.
use Rattle.std.proofs.Common.{Bor, IsSome, refl, rules, sym, ◌∙◌, codes, inr}
use Rattle.clap.specs.Words.{found_of, rows_of}
use Rattle.clap.specs.declared.parser.matches.ArgMatches.{ArgMatches}
use Rattle.clap.proofs.WalkLemmas.{first_value-rows}
use Rattle.mm_words.proofs.AskedWords.{commands_met, none_there, not_commanded, rows_there}
use Rattle.mm_words.proofs.words.text_request.Goals as goal

pub returns-in-Some-subcommand_matches-clause-request :
    goal.returns-in-Some-subcommand_matches-clause-request
returns-in-Some-subcommand_matches-clause-request c = λ words met. inr (
  _,
  commands_met words c.args.matches.now _ _ met
      (c.in-Some-subcommand_matches.ensures.found.0 refl)
      c.in-Some-subcommand_matches.ensures.rows,
  sym (c.get_str.ensures
      ∙ first_value-rows (found_of c.in-Some-subcommand_matches.help.now) (codes "COMMAND")),
)

pub returns-then-is_some-clause-request : goal.returns-then-is_some-clause-request
returns-then-is_some-clause-request c = λ words met.
    let there : IsSome c.subcommand_matches-3.result = search rules in
    let found = rows_there (λ (m : Bor ArgMatches). rows_of (found_of m.now))
    c.subcommand_matches-3.result _ there c.subcommand_matches-3.ensures.rows in
    inr (
      found.0,
      commands_met words c.args.matches.now _ found.0 met
          (c.subcommand_matches-3.ensures.found.0 there) found.1,
    )

pub returns-clause-none : goal.returns-clause-none
returns-clause-none c = λ words met rows.
    let other = not_commanded words c.args.matches.now in (
      other _ rows met (λ named. none_there c.subcommand_matches.result c.in_default.is
          (c.subcommand_matches.ensures.found.1 named)),
      other _ rows met (λ named. none_there c.subcommand_matches-2.result
          c.in_default-subcommand_matches.is (c.subcommand_matches-2.ensures.found.1 named)),
      other _ rows met (λ named.
          let there = c.subcommand_matches-3.ensures.found.1 named in search rules),
    )
