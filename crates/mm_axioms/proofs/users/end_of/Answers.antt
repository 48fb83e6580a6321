-- The last number is the greatest.
use Rattle.std.proofs.Common.{ℕ, ◌-◌, ◌<◌, List, length, inr, arith}
use Rattle.mm_base.proofs.Lists.{get_within, contains_from_at}
use Rattle.mm_rules.specs.Conclusion.{ProofUses}
use Rattle.mm_axioms.proofs.Resting.UsersOf.{below_end}
use Rattle.mm_axioms.proofs.users.end_of.Goals as goal

pub returns-in_default-clause-room : goal.returns-in_default-clause-room
returns-in_default-clause-room c = λ u among.
    let uses : List ProofUses = c.args.kept.now in
    let last : ℕ = c.len.result - 1 in
    let within : last < length uses = omega arith in
    let found = get_within uses last within in
    let less = below_end uses last found.0 c.requires (omega arith) found.1 u among in
    let number = c.proof.ensures found.0 found.1 in
    omega arith

pub returns-in_default-clause-least : goal.returns-in_default-clause-least
returns-in_default-clause-least c =
    let uses : List ProofUses = c.args.kept.now in
    let last : ℕ = c.len.result - 1 in
    let within : last < length uses = omega arith in
    let found = get_within uses last within in
    let number = c.proof.ensures found.0 found.1 in
    inr (found.0, contains_from_at uses found.0 (last, found.1), omega arith)
