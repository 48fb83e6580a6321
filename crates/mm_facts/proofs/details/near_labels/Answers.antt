-- The label of one more number is offered, if the proof may name it.
use Rattle.std.proofs.Common.{◌≡◌, ℕ, List, ap, ◌∙◌, true, false}
use Rattle.mm_code.specs.Layout.{texts}
use Rattle.mm_facts.proofs.NearLabels.{none_gone, all_gone, one_offered, one_passed}
use Rattle.mm_facts.proofs.details.near_labels.Goals as goal
use Rattle.mm_facts.proofs.details.near_labels.Goals.{then-is_usable+in_ok-offer, else-is_usable}

pub loop-number-init : goal.loop-number-init
loop-number-init c = (
  ap (λ b. b.now) c.new-nearest.ensures.wanted,
  ap (λ b. b.now) c.new-nearest.ensures.listed,
  none_gone c.args.book.now.statements c.args.id.0 c.new-nearest.result.limit c.args.wanted.now
      (texts c.args.listed.now) (texts c.new-nearest.result.found.items)
      c.new-nearest.ensures.begun,
)

pub loop-number-preserved : goal.loop-number-preserved
loop-number-preserved c =
    let st = c.args.book.now.statements in
    let id = c.args.id.0 in
    let own = c.frame-own.ensures in
    let was = c.loop-number.invariant in
    let near = c.loop-number.nearest in
    let wanted : List ℕ = c.args.wanted.now in
    let listed : List (List ℕ) = texts c.args.listed.now in
    elim c.if-is_usable.branch [
      | then-is_usable+in_ok-offer w ↦
          rw w.nearest-is (
            ap (λ b. b.now) w.offer.ensures.wanted ∙ was.0,
            ap (λ b. b.now) w.offer.ensures.listed ∙ was.1,
            one_offered st c.loop-number.number id c.frame-own.result c.label-label.result.now own.book
                own.index.0 own.index.1 own.sound.0 c.loop-number-test.true c.label-label.ensures
                c.is_usable.result c.is_usable.ensures near.limit wanted listed
                (texts near.found.items) was.2 w.if-is_usable.true w.offer.new.self.limit
                (texts w.offer.new.self.found.items)
                (rw (was.0, was.1) at w.in_ok-offer.ensures.kept),
          )
      | else-is_usable w ↦
          rw w.nearest-is (
            was.0,
            was.1,
            one_passed st c.loop-number.number id c.frame-own.result c.label-label.result.now own.book
                own.index.0 own.index.1 own.sound.0 c.loop-number-test.true c.label-label.ensures
                c.is_usable.result c.is_usable.ensures near.limit wanted listed
                (texts near.found.items) was.2
                (λ yes. let no : c.is_usable.result ≡ false = w.if-is_usable.false in cc),
          )
    ]

pub returns : goal.returns
returns c =
    all_gone c.args.book.now.statements c.args.id.0 c.loop-number.number
    c.loop-number.nearest.limit c.args.wanted.now (texts c.args.listed.now)
    (texts c.loop-number.nearest.found.items) c.loop-number-test.false c.loop-number.invariant.2
