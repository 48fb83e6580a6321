-- The words ask for the normal proof so far, or `--known` stands beside another flag.
use Rattle.std.proofs.Common.{List, inl, inr}
use Rattle.clap.specs.Words.{Row, found_of, rows_of}
use Rattle.mm_words.proofs.AskedWords.{known_refused}
use Rattle.mm_words.proofs.form_request.known_request.Goals as goal
use Rattle.mm_words.proofs.form_request.known_request.Goals.{then-is_given-via-then-is_given}
use Rattle.mm_words.proofs.form_request.known_request.Goals.{then-is_given-via-else-is_given+then-is_given-2}

pub returns-then-is_given-clause-fault : goal.returns-then-is_given-clause-fault
returns-then-is_given-clause-fault c = λ words commands.
    let rows : List Row = rows_of (found_of c.args.matches.now) in
    elim c.then-is_given.branch [
      | then-is_given-via-then-is_given w ↦ known_refused rows _ c.requires w.if-is_given.true
          (inl c.is_given.ensures) words commands
      | then-is_given-via-else-is_given+then-is_given-2 w ↦ known_refused rows _ c.requires
          w.if-is_given-2.true (inr w.is_given-else-is_given.ensures) words commands
    ]
