use Rattle.std.proofs.Common.{◌-◌, get_or, refl, sym, subst, arith}
use Rattle.mm_proof.proofs.ProofVerdicts.FirstFault.{handed}
use Rattle.mm_proof.proofs.ProofTokens.ProofCodes.{entry_there, tag_there, comes_next, goes_on}
use Rattle.mm_proof.proofs.ProofTokens.ProofCodes.{stops_at}
use Rattle.mm_proof.proofs.machine.run.Goals as goal
use Rattle.mm_proof.proofs.machine.run.Goals.{in-Number+then-index-count+in_ok-step-in-Number}
use Rattle.mm_proof.proofs.machine.run.Goals.{in-Number+else-index-count+in_ok-step_again-in-Number}
use Rattle.mm_proof.proofs.machine.run.Goals.{in-Tag+in_ok-mark-in-Tag}

pub step-requires : goal.step-requires
step-requires g c =
    let entry = entry_there (g.M.Machine.entries c.args.machine.now) (c.in-Number.number - 1)
    c.if-index-count.true c.requires.count in
    record {
      id = get_or (g.M.Machine.entries c.args.machine.now) (c.in-Number.number - 1) 0;
      next = comes_next g.M.Machine.has_run g.M.Machine.may_take c.args.machine.now _ _
          c.args.codes.now _ _ _ _ c.loop-code-test.true c.in-Number.is entry.1
          c.requires.allowed c.loop-code.invariant (omega arith);
      there = entry.0;
    }

pub step_again-requires : goal.step_again-requires
step_again-requires g c =
    let is = tag_there (g.M.Machine.entries c.args.machine.now) (c.in-Number.number - 1)
    c.if-index-count.false c.requires.count in
    comes_next g.M.Machine.has_run g.M.Machine.may_take c.args.machine.now _ _ c.args.codes.now _ _
    _ _ c.loop-code-test.true c.in-Number.is is c.requires.allowed c.loop-code.invariant
    (omega arith)

pub mark-requires : goal.mark-requires
mark-requires g c =
    comes_next g.M.Machine.has_run g.M.Machine.may_take c.args.machine.now _ _ c.args.codes.now _ _
    _ _ c.loop-code-test.true c.in-Tag.is refl c.requires.allowed c.loop-code.invariant
    (omega arith)

pub returns-in_err-step-in-Number-clause-stops : goal.returns-in_err-step-in-Number-clause-stops
returns-in_err-step-in-Number-clause-stops g c =
    let entry = entry_there (g.M.Machine.entries c.args.machine.now) (c.in-Number.number - 1)
    c.if-index-count.true c.requires.count in
    handed _ c.from_residual.result c.from_residual.ensures.1 (λ fault is.
    stops_at g.M.Machine.may_take g.M.Machine.stops c.args.machine.now _ c.args.codes.now _ _ _ _
    fault c.loop-code-test.true c.in-Number.is entry.1 c.requires.allowed
    (λ may. subst (g.M.Machine.stops _ _ _) (sym is) (c.in_err-step-in-Number.ensures.stops
    c.args.machine.now _ _ entry.0 may c.loop-code.invariant)))

pub returns-in_err-step_again-in-Number-clause-stops :
    goal.returns-in_err-step_again-in-Number-clause-stops
returns-in_err-step_again-in-Number-clause-stops g c =
    let is = tag_there (g.M.Machine.entries c.args.machine.now) (c.in-Number.number - 1)
    c.if-index-count.false c.requires.count in
    handed _ c.from_residual-in_err-step_again-in-Number.result
    c.from_residual-in_err-step_again-in-Number.ensures.1 (λ fault same.
    stops_at g.M.Machine.may_take g.M.Machine.stops c.args.machine.now _ c.args.codes.now _ _ _ _
    fault c.loop-code-test.true c.in-Number.is is c.requires.allowed
    (λ may. subst (g.M.Machine.stops _ _ _) (sym same) (c.in_err-step_again-in-Number.ensures.stops
    c.args.machine.now _ may c.loop-code.invariant)))

pub returns-in_err-mark-in-Tag-clause-stops : goal.returns-in_err-mark-in-Tag-clause-stops
returns-in_err-mark-in-Tag-clause-stops g c =
    handed _ c.from_residual-in_err-mark-in-Tag.result c.from_residual-in_err-mark-in-Tag.ensures.1
    (λ fault same. stops_at g.M.Machine.may_take g.M.Machine.stops c.args.machine.now _
    c.args.codes.now _ _ _ _ fault c.loop-code-test.true c.in-Tag.is refl c.requires.allowed
    (λ may. subst (g.M.Machine.stops _ _ _) (sym same) (c.in_err-mark-in-Tag.ensures.stops
    c.args.machine.now _ may c.loop-code.invariant)))

pub loop-code-preserved : goal.loop-code-preserved
loop-code-preserved g c =
    let has_run = g.M.Machine.has_run in
    let may_take = g.M.Machine.may_take in
    let first = c.args.machine.now in
    let ids = g.M.Machine.entries first in
    let said = c.args.codes.now in
    let less = c.loop-code-test.true in
    let count = c.requires.count in
    let allowed = c.requires.allowed in
    let ran = c.loop-code.invariant in
    elim c.match-code.branch [
      | in-Number+then-index-count+in_ok-step-in-Number w ↦
          let entry = entry_there ids (w.in-Number.number - 1) w.if-index-count.true count in
          rw w.machine-is (goes_on has_run may_take first _ ids said _ _ _ _ less w.in-Number.is
          entry.1 allowed
          (λ may. w.in_ok-step-in-Number.ensures.ran first _ _ entry.0 may ran))
      | in-Number+else-index-count+in_ok-step_again-in-Number w ↦
          let is = tag_there ids (w.in-Number.number - 1) w.if-index-count.false count in
          rw w.machine-is (goes_on has_run may_take first _ ids said _ _ _ _ less w.in-Number.is is
          allowed (λ may. w.in_ok-step_again-in-Number.ensures.ran first _ may ran))
      | in-Tag+in_ok-mark-in-Tag w ↦ rw w.machine-is (goes_on has_run may_take first _ ids said _ _
          _ _ less w.in-Tag.is refl allowed
          (λ may. w.in_ok-mark-in-Tag.ensures.ran first _ may ran))
    ]
