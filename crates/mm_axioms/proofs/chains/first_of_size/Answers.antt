-- One more number.
use Rattle.std.proofs.Common.{◌≤◌, ℕ, List, map, take, length, get_or, sym, subst}
use Rattle.std.proofs.Common.{◌∙◌}
use Rattle.std.proofs.lemmas.List.{take_all}
use Rattle.std.proofs.lemmas.Option.{slice_get-get_or}
use Rattle.mm_frame.specs.declared.number.LabelId.{LabelId}
use Rattle.mm_rules.proofs.OrderedNumbers.{among_more}
use Rattle.mm_axioms.proofs.ShortestChains.{IsFirstOfSize, first_starts, first_taken, first_passed}
use Rattle.mm_axioms.proofs.chains.first_of_size.Goals as goal
use Rattle.mm_axioms.proofs.chains.first_of_size.Goals.{then-own-size, else-own-size}

pub loop-number-init : goal.loop-number-init
loop-number-init c = first_starts c.args.sizes.now c.args.size

pub loop-number-preserved : goal.loop-number-preserved
loop-number-preserved c =
    let numbers : List LabelId = c.args.numbers.now in
    let k : ℕ = c.loop-number.number-index in
    let x : LabelId = get_or numbers k (record { 0 = 0 }) in
    let at = slice_get-get_or numbers k (record { 0 = 0 }) c.loop-number-test.true in
    let more = among_more numbers k x at in
    elim c.if-own-size.branch [
      | then-own-size w ↦
          rw (w.first-is, more)
          (first_taken c.args.sizes.now
          (map (λ (l : LabelId). l.0) (take k numbers)) x w.earlier.result c.args.size
          c.loop-number.first c.loop-number.invariant
          (sym c.size_of-own.ensures ∙ w.if-own-size.true) w.earlier.ensures.either
          w.earlier.ensures.least w.earlier.ensures.no_later)
      | else-own-size w ↦
          rw (w.first-is, more)
          (first_passed c.args.sizes.now
          (map (λ (l : LabelId). l.0) (take k numbers)) x.0 c.args.size c.loop-number.first
          c.loop-number.invariant
          (λ h. w.if-own-size.false (c.size_of-own.ensures ∙ h)))
    ]

pub returns-clause-found : goal.returns-clause-found
returns-clause-found c =
    let numbers : List LabelId = c.args.numbers.now in
    let all : length numbers ≤ c.loop-number.number-index = c.loop-number-test.false in
    (subst (λ (xs : List LabelId). IsFirstOfSize c.args.sizes.now
    (map (λ (l : LabelId). l.0) xs) c.args.size c.loop-number.first)
    (take_all c.loop-number.number-index numbers all)
    c.loop-number.invariant).found

pub returns-clause-first : goal.returns-clause-first
returns-clause-first c =
    let numbers : List LabelId = c.args.numbers.now in
    let all : length numbers ≤ c.loop-number.number-index = c.loop-number-test.false in
    (subst (λ (xs : List LabelId). IsFirstOfSize c.args.sizes.now
    (map (λ (l : LabelId). l.0) xs) c.args.size c.loop-number.first)
    (take_all c.loop-number.number-index numbers all)
    c.loop-number.invariant).first
