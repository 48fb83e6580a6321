-- The statement has the label, or the way goes on.
use Rattle.std.proofs.Common.{map}
use Rattle.mm_text.specs.Files.{plain_file}
use Rattle.mm_base.specs.Statement.{plain_statement}
use Rattle.mm_base.proofs.Lists.{error_keeps}
use Rattle.mm_explain.proofs.LoneProofs.LoneTheorems.{found_here, seeks_on, stops_before}
use Rattle.mm_explain.proofs.read_to.take_to.Goals as goal

pub returns-in_err-taken-clause-stopped : goal.returns-in_err-taken-clause-stopped
returns-in_err-taken-clause-stopped c =
    error_keeps c.from_residual.result c.in_err-taken.field-0.0 _ c.from_residual.ensures.1
    (stops_before (map plain_file c.args.files.now) c.args.label.now c.loop-taken.progress
    c.loop-taken.statements c.loop-taken.invariant c.in_err-taken.field-0.0
    c.in_err-taken.ensures.stopped)

pub returns-then-has_label-clause-ended : goal.returns-then-has_label-clause-ended
returns-then-has_label-clause-ended c =
    let (next, formed, takes) = rw c.in-Some.is at c.in_ok-taken.ensures.turned in
    found_here (map plain_file c.args.files.now) c.args.label.now c.loop-taken.progress
    c.loop-taken.statements c.loop-taken.invariant c.take_next.new.progress
    (plain_statement c.take_next.new.into) c.take_next.new.statements next c.in-Some.taken takes
    formed (c.has_label.ensures.0 c.if-has_label.true)

pub loop-taken-preserved : goal.loop-taken-preserved
loop-taken-preserved c =
    let (next, formed, takes) = rw c.in-Some.is at c.in_ok-taken.ensures.turned in
    seeks_on (map plain_file c.args.files.now) c.args.label.now c.loop-taken.progress
    c.loop-taken.statements c.loop-taken.invariant c.take_next.new.progress
    (plain_statement c.take_next.new.into) c.take_next.new.statements next c.in-Some.taken takes
    (λ named. let t = c.has_label.ensures.1 named in absurd (let f = c.if-has_label.false in cc))
