-- One more number.
use Rattle.std.proofs.Common.{◌≤◌, ℕ, List, map, take, length, get_or, subst}
use Rattle.std.proofs.lemmas.List.{take_all}
use Rattle.std.proofs.lemmas.Option.{slice_get-get_or}
use Rattle.mm_frame.specs.declared.number.LabelId.{LabelId}
use Rattle.mm_rules.proofs.OrderedNumbers.{among_more}
use Rattle.mm_axioms.proofs.ShortestChains.{IsLeastSize, least_starts, least_taken, least_passed}
use Rattle.mm_axioms.proofs.chains.least_size.Goals as goal
use Rattle.mm_axioms.proofs.chains.least_size.Goals.{then-is_less, else-is_less}

pub loop-number-init : goal.loop-number-init
loop-number-init c = least_starts c.args.sizes.now

pub loop-number-preserved : goal.loop-number-preserved
loop-number-preserved c =
    let numbers : List LabelId = c.args.numbers.now in
    let k : ℕ = c.loop-number.number-index in
    let x : LabelId = get_or numbers k (record { 0 = 0 }) in
    let at = slice_get-get_or numbers k (record { 0 = 0 }) c.loop-number-test.true in
    let more = among_more numbers k x at in
    elim c.if-is_less.branch [
      | then-is_less w ↦
          let (some, less) = c.is_less.ensures.0 w.if-is_less.true in
          rw (w.least-is, more)
          (least_taken c.args.sizes.now
          (map (λ (l : LabelId). l.0) (take k numbers)) x.0 c.size_of-size.result
          c.loop-number.least c.loop-number.invariant
          c.size_of-size.ensures some less)
      | else-is_less w ↦
          rw (w.least-is, more)
          (least_passed c.args.sizes.now
          (map (λ (l : LabelId). l.0) (take k numbers)) x.0 c.size_of-size.result
          c.loop-number.least c.loop-number.invariant
          c.size_of-size.ensures
          (λ h. absurd (let t = c.is_less.ensures.1 h in let f = w.if-is_less.false in cc)))
    ]

pub returns-clause-least : goal.returns-clause-least
returns-clause-least c =
    let numbers : List LabelId = c.args.numbers.now in
    let all : length numbers ≤ c.loop-number.number-index = c.loop-number-test.false in
    (subst (λ (xs : List LabelId). IsLeastSize c.args.sizes.now
    (map (λ (l : LabelId). l.0) xs) c.loop-number.least)
    (take_all c.loop-number.number-index numbers all)
    c.loop-number.invariant).least

pub returns-clause-found : goal.returns-clause-found
returns-clause-found c =
    let numbers : List LabelId = c.args.numbers.now in
    let all : length numbers ≤ c.loop-number.number-index = c.loop-number-test.false in
    (subst (λ (xs : List LabelId). IsLeastSize c.args.sizes.now
    (map (λ (l : LabelId). l.0) xs) c.loop-number.least)
    (take_all c.loop-number.number-index numbers all)
    c.loop-number.invariant).found
