use Rattle.std.proofs.Common.{◌≡◌, ◌≤◌, ◌+◌, ◌-◌, refl, take, length, ap, ◌∙◌, arith}
use Rattle.mm_step.specs.Mirror.Buffer.{AreParts}
use Rattle.mm_step.proofs.StoreRanges.{within-later, within-prefix, within-more, moved-entry}
use Rattle.mm_step.proofs.StoreRanges.{moved-length, parts-moved}
use Rattle.mm_step.proofs.flat.Flat.conclude_at_cut.Goals.{After-max-needed}
use Rattle.mm_step.proofs.flat.Flat.conclude_at_cut.Goals as goal

pub needed_length-requires : goal.needed_length-requires
needed_length-requires c = (c.args.start, rw c.deref.ensures.value (within-prefix c.args.start c.args.base _ c.requires.stacked))

pub needed_length-requires-2 : goal.needed_length-requires-2
needed_length-requires-2 c = (c.args.start, rw c.deref-2.ensures.value c.requires.saved)

-- what stays begins before the symbols that are moved down
before_start : (c : After-max-needed) → c.max-needed.result ≤ c.args.start
before_start c =
    let prefix = c.needed_length.ensures.least c.args.start (rw c.deref.ensures.value (within-prefix c.args.start c.args.base _ c.requires.stacked)) in
    let others = c.needed_length-2.ensures.least c.args.start (rw c.deref-2.ensures.value c.requires.saved) in
    omega (arith, c.max-needed.ensures, prefix, others)

pub overflow_sub-end : goal.overflow_sub-end
overflow_sub-end c = before_start (goal.at.overflow_sub-end c).After-max-needed

pub move_down-requires-clause-order : goal.move_down-requires-clause-order
move_down-requires-clause-order c =
    before_start (goal.at.move_down-requires-clause-order c).After-max-needed

pub invariant_of-self-2 : goal.invariant_of-self-2
invariant_of-self-2 c =
    let symbols = c.args.self.now.symbols in
    let needed = c.max-needed.result in
    let order = before_start (goal.at.invariant_of-self-2 c).After-max-needed in
    let size : length c.move_down.new.self ≡ needed + (length symbols - c.args.start) =
    ap length c.move_down.ensures ∙ moved-length needed c.args.start symbols order c.requires.start in
    let later : needed ≤ length c.move_down.new.self = omega (arith, size) in
    let stack : AreParts needed (take c.args.base c.args.self.now.stack.items) =
    within-later c.needed_length.result _ _ (omega (arith, c.max-needed.ensures)) (rw c.deref.ensures.value at c.needed_length.ensures.needed) in
    let kept : AreParts needed c.args.self.now.kept.items =
    within-later c.needed_length-2.result _ _ (omega (arith, c.max-needed.ensures)) (rw c.deref-2.ensures.value at c.needed_length-2.ensures.needed) in
    let whole : AreParts (length c.move_down.new.self) c.put_last.new.list.items =
    rw c.in_ok-put_last.ensures.put
    (within-more _ (take c.args.base c.args.self.now.stack.items) _ (within-later _ _ _ later stack)
    (record { order = omega (arith, order, c.len.ensures, c.requires.start); within = omega (arith, order, size, c.len.ensures, c.requires.start) })) in
    record { stacked = whole; saved = within-later _ _ _ later kept }

pub returns-clause-said : goal.returns-clause-said
returns-clause-said c =
    let symbols = c.args.self.now.symbols in
    let needed = c.max-needed.result in
    let order = before_start (goal.at.returns-clause-said c).After-max-needed in
    let stack : AreParts needed (take c.args.base c.args.self.now.stack.items) =
    within-later c.needed_length.result _ _ (omega (arith, c.max-needed.ensures)) (rw c.deref.ensures.value at c.needed_length.ensures.needed) in
    rw c.in_ok-put_last.ensures.put
    (moved-entry needed c.args.start symbols _ c.args.self.now.stack.items c.args.base _ stack (omega (arith, order, c.requires.start)) c.requires.start
    refl (omega (arith, order, c.len.ensures, c.requires.start)) c.move_down.ensures)

pub returns-clause-kept : goal.returns-clause-kept
returns-clause-kept c =
    let needed = c.max-needed.result in
    let order = before_start (goal.at.returns-clause-kept c).After-max-needed in
    let kept : AreParts needed c.args.self.now.kept.items =
    within-later c.needed_length-2.result _ _ (omega (arith, c.max-needed.ensures)) (rw c.deref-2.ensures.value at c.needed_length-2.ensures.needed) in
    parts-moved needed c.args.self.now.symbols _ _ c.args.self.now.kept.items kept (omega (arith, order, c.requires.start)) c.move_down.ensures
