-- A refusal is kept and may be explained, and another statement is passed over.
use Rattle.mm_base.specs.Statement.{plain_statement}
use Rattle.mm_explain.proofs.Explanations.{refused_last, noted, passed_over}
use Rattle.mm_explain.proofs.why.ReasonsVisitor.see.Goals as goal

pub note-requires-clause-refused : goal.note-requires-clause-refused
note-requires-clause-refused c =
    let n = c.requires.next in
    rw (n.seen.same_profile, n.seen.same_files)
    (refused_last n.profile n.files n.taken n.listed c.args.book.now.statements
    (plain_statement c.args.statement.now) c.in-Faulty.refusal (rw c.in-Faulty.is at n.met))

pub note-requires-clause-outline : goal.note-requires-clause-outline
note-requires-clause-outline c =
    let n = c.requires.next in rw n.seen.same_files n.seen.outline

pub returns-in_ok-note-in-Faulty-clause-seen : goal.returns-in_ok-note-in-Faulty-clause-seen
returns-in_ok-note-in-Faulty-clause-seen c = λ profile files first taken listed met seen.
    rw c.in-Faulty.is
    (noted profile files first c.args.self.now c.note.new.self taken listed
    c.args.book.now.statements (plain_statement c.args.statement.now) c.in-Faulty.refusal
    (rw c.in-Faulty.is at met) c.in_ok-note-in-Faulty.ensures seen)

pub returns-in_default : goal.returns-in_default
returns-in_default c = record {
  seen = λ profile files first taken listed met seen.
      passed_over profile files first c.args.self.now taken listed
      (plain_statement c.args.statement.now) c.args.judged c.in_default.not-Faulty seen;
  stopped = tt;
}
