-- What goes with the text of an answer.
use Rattle.std.specs.Prelude.{ℕ, List, [], unwrap_or, option_map}
use Rattle.mm_rules.specs.Status.{number_of}
use Rattle.mm_serve.specs.declared.answer.Answer.{Answer}

-- the status with which the program ends, and what standard error is then told
pub record Outcome : Type 0 where
  pub status : ℕ
  pub notes : List ℕ

-- a status of which nothing is told
abbrev pub quiet : ℕ → Outcome
quiet status = record { status = status; notes = [] }

abbrev pub outcome_of : Answer → Outcome
outcome_of answer = record {
  status = number_of answer.status;
  notes = unwrap_or (option_map (λ notes. notes.items) answer.notes) [];
}
