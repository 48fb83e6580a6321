-- By what has its label in the other database.
use Rattle.std.proofs.Common.{true, false, not, refl}
use Rattle.std.proofs.lemmas.Bool.{false≢true}
use Rattle.mm_alike.proofs.DifferingNumbers.{named_by, is_alone, not_alone, not_changed}
use Rattle.mm_alike.proofs.DifferingNumbers.{differs_alone, differs_changed, differs_shared, changed_where}
use Rattle.mm_alike.proofs.DifferingNumbers.{not_shared}
use Rattle.mm_alike.proofs.differences.assertion_differs.Goals as goal

pub returns-in-Alone : goal.returns-in-Alone
returns-in-Alone c =
    let st = c.args.book.now.statements in
    let others = c.args.other.now.statements in
    let named = named_by st c.label.result.now c.args.id.0 c.requires
    (λ s at. c.label.ensures s at) in
    differs_alone c.args.difference st others c.args.id.0 false c.in-Alone.is (
      (λ t. absurd (false≢true t)),
      (λ h. absurd (not_alone st others c.args.id.0 c.label.result.now named c.in-Some.named.0
          c.in-Some.ensures.some h)),
    )

pub returns-in-Changed : goal.returns-in-Changed
returns-in-Changed c =
    let st = c.args.book.now.statements in
    let others = c.args.other.now.statements in
    let named = named_by st c.label.result.now c.args.id.0 c.requires
    (λ s at. c.label.ensures s at) in
    differs_changed c.args.difference st others c.args.id.0 (not c.are_alike.result)
    c.in-Changed.is
    (changed_where st others c.args.id.0 c.label.result.now named c.in-Some.ensures.sound.0
    c.in-Some.named.0 c.in-Some.ensures.some c.are_alike.result c.are_alike.ensures)

pub returns-in-Alone-difference : goal.returns-in-Alone-difference
returns-in-Alone-difference c =
    let st = c.args.book.now.statements in
    let others = c.args.other.now.statements in
    let named = named_by st c.label.result.now c.args.id.0 c.requires
    (λ s at. c.label.ensures s at) in
    differs_alone c.args.difference st others c.args.id.0 true c.in-Alone-difference.is (
      (λ t. is_alone st others c.args.id.0 c.label.result.now named
          (λ n there. c.in-None.ensures.none refl n there)),
      (λ h. refl),
    )

pub returns-in-Changed-difference : goal.returns-in-Changed-difference
returns-in-Changed-difference c =
    let st = c.args.book.now.statements in
    let others = c.args.other.now.statements in
    let named = named_by st c.label.result.now c.args.id.0 c.requires
    (λ s at. c.label.ensures s at) in
    differs_changed c.args.difference st others c.args.id.0 false c.in-Changed-difference.is (
      (λ t. absurd (false≢true t)),
      (λ h. absurd (not_changed st others c.args.id.0 c.label.result.now named
          (λ n there. c.in-None.ensures.none refl n there) h)),
    )

pub returns-in-Shared : goal.returns-in-Shared
returns-in-Shared c =
    let st = c.args.book.now.statements in
    let others = c.args.other.now.statements in
    let named = named_by st c.label.result.now c.args.id.0 c.requires
    (λ s at. c.label.ensures s at) in
    differs_shared c.args.difference st others c.args.id.0 true c.in-Shared.is (
      (λ t. (c.label.result.now, named, c.in-Some.named.0, c.in-Some.ensures.some)),
      (λ h. refl),
    )

pub returns-in-Shared-difference : goal.returns-in-Shared-difference
returns-in-Shared-difference c =
    let st = c.args.book.now.statements in
    let others = c.args.other.now.statements in
    let named = named_by st c.label.result.now c.args.id.0 c.requires
    (λ s at. c.label.ensures s at) in
    differs_shared c.args.difference st others c.args.id.0 false c.in-Shared-difference.is (
      (λ t. absurd (false≢true t)),
      (λ h. absurd (not_shared st others c.args.id.0 c.label.result.now named
          (λ n there. c.in-None.ensures.none refl n there) h)),
    )
