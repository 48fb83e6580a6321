-- The statement was taken last, and is a `$p`.
use Rattle.std.proofs.Common.{length}
use Rattle.mm_base.specs.Statement.{PlainStatement, plain_statement}
use Rattle.mm_frame.specs.Sentence.{sentence_of}
use Rattle.mm_core_tests.proofs.LastTaken.{last_number}
use Rattle.mm_core_tests.proofs.proof.take_theorem.Goals as goal

pub returns-in-Some-clause-proof : goal.returns-in-Some-clause-proof
returns-in-Some-clause-proof c =
    let s : PlainStatement = plain_statement c.read_next.new.into in (
      length c.loop.book.statements,
      sentence_of s,
      last_number c.take.new.book.statements c.loop.book.statements s c.in_ok-taken.taken c.in-Some.id c.in_ok-taken.ensures.formed
          c.in_ok-taken.ensures.book c.in-Some.ensures.0 c.in_ok-taken.ensures.taken c.in-Some.ensures.1,
    )
