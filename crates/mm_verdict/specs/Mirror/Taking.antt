-- What taking the next statement comes to, whatever its proof. This file mirrors the code, and is
-- cited by private contracts alone.
use Rattle.std.specs.Prelude.{◌≡◌, ◌+◌, [], ◌∷◌, ◌++◌, true, false, Option, Some, None}
use Rattle.mm_text.specs.Remaining.{Remaining}
use Rattle.mm_base.specs.Statement.{PlainStatement, HasForm, bytes_in}
use Rattle.mm_frame.specs.Rules.{IsMeant}
use Rattle.mm_frame.specs.Sentence.{sentence_of}
use Rattle.mm_frame.specs.Taken.{TakenAs}
use Rattle.mm_frame.specs.declared.answer.Taken.{Taken}
use Rattle.mm_rules.specs.declared.progress.Progress.{Progress}
use Rattle.mm_verdict.specs.Mirror.Judged.{TakesNext}

-- the statement breaks no rule of meaning, and is taken into the progress as this, whatever its
-- proof
pub record TakesAs (old : Progress) (s : PlainStatement) (taken : Taken)
    (new : Progress) : Type 0 where
  pub meant : IsMeant old.prover.book.statements (sentence_of s)
  pub statements : new.prover.book.statements ≡ old.prover.book.statements ++ sentence_of s ∷ []
  pub bytes : new.prover.book.bytes ≡ old.prover.book.bytes + bytes_in s
  pub count : new.count ≡ old.count + 1
  pub proofs : new.proofs ≡ old.proofs
  pub lines : new.lines ≡ old.lines
  pub kind : TakenAs old.prover.book.statements s.kind taken

-- what reading and taking the next statement came to; nothing where there is none
abbrev pub TakesTurn : (old : Progress) → Remaining → Option Taken → PlainStatement
    → (new : Progress) → Remaining → Type 0
TakesTurn old left None s new rest = TakesNext left false s rest
TakesTurn old left (Some taken) s new rest =
    TakesNext left true s rest × HasForm s × TakesAs old s taken new
