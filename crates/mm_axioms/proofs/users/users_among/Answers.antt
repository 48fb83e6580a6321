-- One more proof was looked at: its theorem is taken or passed over.
use Rattle.std.proofs.Common.{◌<◌, ℕ, List, length, arith}
use Rattle.mm_base.proofs.Lists.{get_within}
use Rattle.mm_rules.specs.Conclusion.{ProofUses}
use Rattle.mm_rules.proofs.KeptNumbers.LabelsAmong.{any_among}
use Rattle.mm_axioms.proofs.Resting.UsersOf.{user_taken, user_passed, users_ended}
use Rattle.mm_axioms.proofs.users.users_among.Goals as goal
use Rattle.mm_axioms.proofs.users.users_among.Goals.{then-contains+in_ok-push, else-contains}

pub loop-at-preserved : goal.loop-at-preserved
loop-at-preserved c =
    let uses : List ProofUses = c.args.kept.now in
    let k : ℕ = c.loop-at.at in
    let within : k < length uses = omega arith in
    let found = get_within uses k within in
    let u : ProofUses = found.0 in
    let id : ℕ = c.args.assertion.0 in
    let here = any_among c.used.result.now c.args.assertion c.contains.result c.contains.ensures.value in
    elim c.if-contains.branch [
      | then-contains+in_ok-push w ↦
          user_taken uses id k u c.loop-at.users.items c.if-contains.users.items w.proof.result c.requires found.1 c.loop-at.invariant
          (w.proof.ensures u found.1) ((c.used.ensures u found.1 id).0 (here.0 w.if-contains.true))
          (rw w.users-is w.in_ok-push.ensures.items)
      | else-contains w ↦
          rw w.users-is (user_passed uses id k u c.loop-at.users.items found.1 c.loop-at.invariant
          (λ holds. absurd (let t = here.1 ((c.used.ensures u found.1 id).1 holds) in let f = w.if-contains.false in cc)))
    ]

pub returns : goal.returns
returns c =
    users_ended c.args.kept.now c.args.assertion.0 c.loop-at.at _ (omega arith) c.loop-at.invariant
