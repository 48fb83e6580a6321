-- Each entry is what the step that made it gives.
use Rattle.std.proofs.Common.{refl, arith}
use Rattle.mm_facts.proofs.HaltDetails.{entry_told, entry_within, all_entries}
use Rattle.mm_facts.proofs.HaltDetails.{step_there, count_steps}
use Rattle.mm_facts.specs.Mirror.Explaining.{told_steps}
use Rattle.mm_facts.proofs.details.push_entries.Goals as goal

pub push_given-requires : goal.push_given-requires
push_given-requires c =
    let halt = c.requires.1 in
    entry_within c.requires.0 c.args.book.now.statements _ halt.s halt.prefix halt.moves c.args.stop.now.halt
    c.loop-index.index _ halt.halts c.entry.ensures.entry

pub loop-index-preserved : goal.loop-index-preserved
loop-index-preserved c = λ limit before s prefix moves h.
    let i = c.index.ensures in
    entry_told limit c.args.book.now.statements before s prefix moves c.args.stop.now.halt h
    (told_steps c.args.stop.now) c.loop-index.index
    c.deref.result.now _ c.args.out.now.items c.loop-index.out.items c.push_given.new.out.items
    c.entry.ensures.entry (step_there c.args.stop.now c.loop-index.index
    c.index.result.now c.deref.result.now (let e = c.len-index-end.ensures in let k = c.loop-index-test.true in omega arith)
    c.index.ensures c.deref.ensures.value) (c.loop-index.invariant limit before s prefix moves h) c.in_ok-push_given.ensures

pub returns : goal.returns
returns c = λ limit index s prefix moves number h. (
  _,
  refl,
  all_entries limit c.args.book.now.statements _ s prefix moves c.args.stop.now.halt h
      (told_steps c.args.stop.now) c.loop-index.index
      c.args.out.now.items c.loop-index.out.items (count_steps c.args.stop.now) (let e = c.len-index-end.ensures in let k = c.loop-index-test.false in omega arith) (c.loop-index.invariant limit _ s prefix moves h),
)
