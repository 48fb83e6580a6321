-- The words ask for the steps of a proof by the flags that are given, or two exclude each other.
use Rattle.std.proofs.Common.{inl, inr, sym, ◌∙◌}
use Rattle.clap.specs.Words.{found_of, rows_of}
use Rattle.mm_words.proofs.show_request.show_request.Goals as goal

pub returns-in-Some-clause-request : goal.returns-in-Some-clause-request
returns-in-Some-clause-request c = λ words commands. c.show_command-command.ensures words _
    (c.in-Some.ensures.told words _ _ _ (
      rows_of (found_of c.args.matches.now),
      commands,
      sym (c.as_bytes-label.ensures.value ∙ c.asked_word.ensures),
      (
        c.is_given-known.ensures,
        c.is_given-letters.ensures,
        c.is_given-essential.ensures,
        c.is_given-uses.ensures,
      ),
      sym c.in_ok-names.ensures,
    ))

pub returns-clause-fault : goal.returns-clause-fault
returns-clause-fault c = λ words commands. inr (inr (inr (inr (inl (
  rows_of (found_of c.args.matches.now),
  _,
  _,
  _,
  _,
  commands,
  (
    c.is_given-known.ensures,
    c.is_given-letters.ensures,
    c.is_given-essential.ensures,
    c.is_given-uses.ensures,
  ),
  c.in-None.ensures.none,
)))))
