-- A theorem of the file is written, and another statement is passed over.
use Rattle.mm_base.specs.Statement.{PlainStatement, plain_statement}
use Rattle.mm_save.proofs.Saving.FileSpans.{theorem_complete, theorem_home}
use Rattle.mm_save.proofs.Saving.WrittenFiles.{theorem_met, span_stands, span_follows, written_on}
use Rattle.mm_save.proofs.Saving.WrittenFiles.{passed_by}
use Rattle.mm_save.proofs.save_all.NewFileVisitor.see.Goals as goal
use Rattle.mm_save.proofs.save_all.NewFileVisitor.see.Goals.{in_default-via-in-Theorem+else-wants, in_default-via-in_default}

pub write-requires-clause-theorem : goal.write-requires-clause-theorem
write-requires-clause-theorem c =
    let n = c.requires.next in
    theorem_met n.taken (plain_statement c.args.statement.now)
    (rw (n.seen.lenient, c.in-Theorem.is) at n.met) n.seen.none c.requires.formed

pub write-requires-clause-after : goal.write-requires-clause-after
write-requires-clause-after c =
    let n = c.requires.next in
    span_follows n.taken (plain_statement c.args.statement.now)
    (rw (n.seen.lenient, c.in-Theorem.is) at n.met) n.seen.none n.seen.so_far
    (c.wants.ensures.0 c.if-wants.true).1

pub write-requires-clause-order : goal.write-requires-clause-order
write-requires-clause-order c =
    let n = c.requires.next in
    (span_stands n.taken (plain_statement c.args.statement.now)
    (rw (n.seen.lenient, c.in-Theorem.is) at n.met) n.seen.none n.seen.so_far
    (c.wants.ensures.0 c.if-wants.true).1).0

pub write-requires-clause-within : goal.write-requires-clause-within
write-requires-clause-within c =
    let n = c.requires.next in
    (span_stands n.taken (plain_statement c.args.statement.now)
    (rw (n.seen.lenient, c.in-Theorem.is) at n.met) n.seen.none n.seen.so_far
    (c.wants.ensures.0 c.if-wants.true).1).1

pub returns-in_ok-write-in-Theorem-clause-seen : goal.returns-in_ok-write-in-Theorem-clause-seen
returns-in_ok-write-in-Theorem-clause-seen c = λ profile files first taken listed met w.
    let s : PlainStatement = plain_statement c.args.statement.now in
    let (short, home) = c.wants.ensures.0 c.if-wants.true in
    rw (w.lenient, c.in-Theorem.is)
    (written_on taken s (rw (w.lenient, c.in-Theorem.is) at met) w.none w.so_far home first
    c.write.new.self short c.requires.formed w.number w.form c.in_ok-write-in-Theorem.ensures)

pub returns-in_default-clause-seen : goal.returns-in_default-clause-seen
returns-in_default-clause-seen c = λ profile files first taken listed met w.
    let s : PlainStatement = plain_statement c.args.statement.now in
    elim c.in_default.branch [
      | in_default-via-in-Theorem+else-wants b ↦
          rw b.in-Theorem.is
          (passed_by profile files first c.args.self.now taken listed s
          (λ (short, is). let t = b.wants.ensures.1 (short, theorem_home _ s is) in
          let f = b.if-wants.false in absurd cc) w)
      | in_default-via-in_default b ↦
          let other = (rw b.in_default.is at met).came.0 in
          rw b.in_default.is
          (passed_by profile files first c.args.self.now taken listed s
          (λ (short, is). let t = theorem_complete _ s is in absurd cc) w)
    ]
