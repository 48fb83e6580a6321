-- The statement was taken last, and is a `$p`.
use Rattle.std.proofs.Common.{length}
use Rattle.mm_base.specs.Statement.{PlainStatement, plain_statement}
use Rattle.mm_frame.specs.Sentence.{sentence_of}
use Rattle.mm_core_tests.proofs.LastTaken.{last_number}
use Rattle.mm_core_tests.proofs.proof.prover.take_numbered.Goals as goal

pub returns-in-Some : goal.returns-in-Some
returns-in-Some c =
    let s : PlainStatement = plain_statement c.args.statement.now in record {
      proof = (
        length c.args.prover.now.book.statements,
        sentence_of s,
        last_number c.take.new.prover.book.statements c.args.prover.now.book.statements s
            c.in_ok-taken.taken c.in-Some.id c.requires c.in_ok-taken.ensures.book
            c.in-Some.ensures.0 c.in_ok-taken.ensures.taken c.in-Some.ensures.1,
      );
    }
