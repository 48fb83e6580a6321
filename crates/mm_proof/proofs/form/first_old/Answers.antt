use Rattle.mm_step.specs.Plain.{ids_in}
use Rattle.mm_proof.proofs.ProofVerdicts.StrictForm.{new_none, new_one, new_all, old_here}
use Rattle.mm_proof.proofs.form.first_old.Goals as goal

pub loop-index-init : goal.loop-index-init
loop-index-init c = new_none c.args.seen.now (ids_in c.args.listed.now)

pub returns-then-not-branch : goal.returns-then-not-branch
returns-then-not-branch c =
    old_here c.args.seen.now c.loop-index.seen c.add.new.self c.args.listed.now c.loop-index.index
    _ _ c.loop-index-test.true c.loop-index.invariant c.in_ok-add.ensures c.if-not-branch.true

pub loop-index-preserved : goal.loop-index-preserved
loop-index-preserved c =
    new_one c.args.seen.now c.loop-index.seen c.add.new.self c.args.listed.now c.loop-index.index
    _ _ c.loop-index-test.true c.loop-index.invariant c.in_ok-add.ensures c.if-not-branch.false

pub returns : goal.returns
returns c =
    new_all c.args.seen.now c.loop-index.seen c.args.listed.now c.loop-index.index
    c.loop-index-test.false c.loop-index.invariant
