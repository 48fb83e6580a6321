-- Half of what is left is left out, and the proof isn't there.
use Rattle.std.proofs.Common.{◌≡◌, ◌<◌, ◌+◌, ◌-◌, ◌/◌, ℕ, List, length, Some, ap, ◌∙◌, arith}
use Rattle.std.proofs.lemmas.List.{length-map}
use Rattle.std.proofs.lemmas.Option.{slice_get_within}
use Rattle.mm_frame.proofs.Names.NameNumbers.{get_mapped}
use Rattle.mm_base.proofs.Lists.{get_within}
use Rattle.mm_rules.specs.Conclusion.{ProofUses, numbers_of}
use Rattle.mm_rules.proofs.NumberBounds.{bounds_above, bounds_below, bounds_empty}
use Rattle.mm_rules.proofs.kept.Kept.index_of.Goals as goal

pub loop-low-init : goal.loop-low-init
loop-low-init c =
    let uses : List ProofUses = c.args.self.now in
    let long = length-map uses (λ (u : ProofUses). u.number) in (
      omega arith,
      λ i there. (
        omega arith,
        (let within = slice_get_within (numbers_of uses) i c.args.id.0 there in omega arith),
      ),
    )

pub proof-number-requires : goal.proof-number-requires
proof-number-requires c =
    let top = c.loop-low.invariant.0 in
    omega (arith, top, length-map c.args.self.now (λ (u : ProofUses). u.number))

pub returns-then-number-id-clause-found : goal.returns-then-number-id-clause-found
returns-then-number-id-clause-found c =
    let uses : List ProofUses = c.args.self.now in
    let middle : ℕ = c.loop-low.low + (c.loop-low.high - c.loop-low.low) / 2 in
    let top = c.loop-low.invariant.0 in
    let less : middle < length uses = omega (arith, top, length-map uses (λ (u : ProofUses). u.number)) in
    let found = get_within uses middle less in
    let at = get_mapped (λ (u : ProofUses). u.number) uses middle found.0 found.1 in
    let number : c.proof-number.result.0 ≡ found.0.number = c.proof-number.ensures found.0 found.1 in
    let same : found.0.number ≡ c.args.id.0 = omega arith in
    at ∙ ap (λ (n : ℕ). Some n) same

pub loop-low-preserved-then-number-id-2 : goal.loop-low-preserved-then-number-id-2
loop-low-preserved-then-number-id-2 c =
    let uses : List ProofUses = c.args.self.now in
    let middle : ℕ = c.loop-low.low + (c.loop-low.high - c.loop-low.low) / 2 in
    let top = c.loop-low.invariant.0 in
    let less : middle < length uses = omega (arith, top, length-map uses (λ (u : ProofUses). u.number)) in
    let found = get_within uses middle less in
    let at = get_mapped (λ (u : ProofUses). u.number) uses middle found.0 found.1 in
    let number : c.proof-number.result.0 ≡ found.0.number = c.proof-number.ensures found.0 found.1 in
    let up = c.if-number-id-2.true in
    bounds_above (numbers_of uses) c.args.id.0 c.loop-low.low c.loop-low.high middle found.0.number c.requires c.loop-low.invariant at (omega arith)

pub loop-low-preserved : goal.loop-low-preserved
loop-low-preserved c =
    let uses : List ProofUses = c.args.self.now in
    let middle : ℕ = c.loop-low.low + (c.loop-low.high - c.loop-low.low) / 2 in
    let top = c.loop-low.invariant.0 in
    let less : middle < length uses = omega (arith, top, length-map uses (λ (u : ProofUses). u.number)) in
    let found = get_within uses middle less in
    let at = get_mapped (λ (u : ProofUses). u.number) uses middle found.0 found.1 in
    let number : c.proof-number.result.0 ≡ found.0.number = c.proof-number.ensures found.0 found.1 in
    let apart = c.if-number-id.false in
    let up = c.if-number-id-2.false in
    bounds_below (numbers_of uses) c.args.id.0 c.loop-low.low c.loop-low.high middle found.0.number c.requires c.loop-low.invariant at (omega arith) (omega arith)

pub returns-clause-none : goal.returns-clause-none
returns-clause-none c = λ is.
    bounds_empty (numbers_of c.args.self.now) c.args.id.0 c.loop-low.low c.loop-low.high c.loop-low.invariant c.loop-low-test.false
