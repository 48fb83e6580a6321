-- The course of checking, turn by turn.
use Rattle.std.proofs.Common.{List, ◌++◌, map, refl, ap}
use Rattle.mm_base.specs.Statement.{PlainStatement, plain_statement}
use Rattle.mm_text.specs.Files.{PlainFile, plain_file}
use Rattle.mm_base.proofs.Lists.{error_keeps}
use Rattle.mm_rules.specs.Mirror.Judged.{fault_of}
use Rattle.mm_rules.specs.Mirror.Visits.{IsMet, refusals_in}
use Rattle.mm_verdict.proofs.Verdicts.LoopOverStatements.{goes_on, meets, met_last, stopped_at}
use Rattle.mm_verdict.proofs.Verdicts.LoopOverStatements.{visited_all}
use Rattle.mm_verdict.proofs.verdict.judge_rest.Goals as goal

pub see-requires : goal.see-requires
see-requires g c κs =
    let files : List PlainFile = map plain_file c.args.files.now in
    let s : PlainStatement = plain_statement c.judge_next.new.into in
    let v = c.loop-statement.invariant in
    let (taken, formed, is) = rw c.in-Some.is at c.in_ok-judged.ensures.turned in (
      (refl, tt),
      (
        formed,
        record {
          profile = c.args.profile;
          files = files;
          first = c.args.visitor.now;
          taken = v.way.read.earlier;
          listed = v.listed;
          met = rw (ap (λ b. b.statements) c.book.ensures)
              (meets c.args.profile files v.listed c.loop-statement.progress
              c.judge_next.new.progress c.loop-statement.statements c.judge_next.new.statements s
              taken v.way c.in-Some.judged is);
          seen = v.seen;
        },
      ),
    )

pub loop-statement-preserved : goal.loop-statement-preserved
loop-statement-preserved g c =
    let files : List PlainFile = map plain_file c.args.files.now in
    let s : PlainStatement = plain_statement c.judge_next.new.into in
    let v = c.loop-statement.invariant in
    let (taken, formed, is) = rw c.in-Some.is at c.in_ok-judged.ensures.turned in
    let (on, all) = goes_on c.args.profile files v.listed c.loop-statement.progress
    c.judge_next.new.progress c.loop-statement.statements c.judge_next.new.statements s taken v.way
    c.in-Some.judged formed is in
    let met : IsMet c.args.profile files v.way.read.earlier v.listed
    c.book.result.now.statements s c.in-Some.judged = rw (ap (λ b. b.statements) c.book.ensures)
    (meets c.args.profile files v.listed c.loop-statement.progress c.judge_next.new.progress
    c.loop-statement.statements c.judge_next.new.statements s taken v.way c.in-Some.judged is) in
    record {
      listed = v.listed ++ refusals_in c.in-Some.judged;
      way = on;
      seen = rw all (c.in_ok-see.ensures.seen c.args.profile files c.args.visitor.now
          v.way.read.earlier v.listed met v.seen);
    }

pub returns-clause-visited : goal.returns-clause-visited
returns-clause-visited g c =
    visited_all g.V.Visitor.has_seen g.V.Visitor.may_stop c.args.profile
    (map plain_file c.args.files.now) c.args.visitor.now c.loop-statement.visitor
    c.loop-statement.progress c.judge_next.new.progress c.loop-statement.statements
    c.judge_next.new.statements (plain_statement c.judge_next.new.into) c.loop-statement.invariant
    c.in_ok-judged.field-0 c.in_ok-judged.ensures.turned c.in_default.not-Some

pub returns-in_err-judged-clause-stopped : goal.returns-in_err-judged-clause-stopped
returns-in_err-judged-clause-stopped g c =
    error_keeps c.from_residual.result (fault_of c.in_err-judged.field-0.0) _
    c.from_residual.ensures.1
    (met_last g.V.Visitor.has_seen g.V.Visitor.may_stop c.args.profile
    (map plain_file c.args.files.now) c.args.visitor.now c.loop-statement.visitor
    c.loop-statement.progress c.judge_next.new.progress c.loop-statement.statements
    c.judge_next.new.statements (plain_statement c.judge_next.new.into) c.loop-statement.invariant
    c.in_err-judged.field-0.0 c.in_err-judged.ensures.stopped)

pub returns-in_err-see-clause-stopped : goal.returns-in_err-see-clause-stopped
returns-in_err-see-clause-stopped g c =
    let (taken, formed, is) = rw c.in-Some.is at c.in_ok-judged.ensures.turned in
    error_keeps c.from_residual-in_err-see.result (fault_of c.in_err-see.field-0.0) _
    c.from_residual-in_err-see.ensures.1
    (stopped_at g.V.Visitor.has_seen g.V.Visitor.may_stop c.args.profile
    (map plain_file c.args.files.now) c.args.visitor.now c.loop-statement.visitor
    c.loop-statement.progress c.judge_next.new.progress c.loop-statement.statements
    c.judge_next.new.statements (plain_statement c.judge_next.new.into) c.loop-statement.invariant
    c.see.new.self c.in-Some.judged taken is c.in_err-see.field-0.0
    c.in_err-see.ensures.stopped)
