-- What is asked one after the other is what says more.
use Rattle.std.proofs.Common.{arith, rules}
use Rattle.mm_frame.specs.Pieces.{variables_of}
use Rattle.mm_frame.specs.Mirror.Layout.{statements_of}
use Rattle.mm_frame.proofs.BookLists.GrownLists.{all_statements, few_statements}
use Rattle.mm_frame.proofs.Frames.FurtherDistinct.{member_other, other_member}
use Rattle.mm_frame.proofs.further.says_more.Goals as goal

pub symbols_at-requires-clause-within : goal.symbols_at-requires-clause-within
symbols_at-requires-clause-within c = omega (arith, all_statements c.args.tables.now)

pub returns-then-not-is_active : goal.returns-then-not-is_active
returns-then-not-is_active c d there =
    let st = statements_of c.args.tables.now in
    let active = c.is_active.ensures st c.requires.tables.scopes
    (few_statements c.args.tables.now c.requires.tables) in
    ((λ is. absurd (cc)), (λ (is, distinct, more). absurd (let is_active = active.1 is in cc)))

pub returns : goal.returns
returns c d there =
    let t = c.args.tables.now in
    let st = statements_of t in
    let active = c.is_active.ensures st c.requires.tables.scopes
    (few_statements t c.requires.tables) in
    let numbers = c.symbols_at.ensures d there in
    let variables = variables_of c.args.hypotheses.now in (
      (λ is. (
        active.0 (search rules),
        (c.is_distinct.ensures d there).0 (search rules),
        other_member st variables c.symbols_at.result.now d numbers (c.has_other.ensures.0 is),
      )),
      (λ (is, distinct, more). c.has_other.ensures.1
          (member_other st variables c.symbols_at.result.now d numbers more)),
    )
