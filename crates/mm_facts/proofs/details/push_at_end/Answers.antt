-- What is stated has the numbers of the statement's symbols, and one entry is left.
use Rattle.std.proofs.Common.{Some, length, ap, ◌∙◌, arith}
use Rattle.std.proofs.lemmas.Result.{on_ok_weaker}
use Rattle.mm_frame.specs.Numbers.{symbols_of}
use Rattle.mm_step.specs.Stores.{numbers_in}
use Rattle.mm_frame.proofs.Names.LabelNumbers.{numbered_get}
use Rattle.mm_rules.proofs.Numbers.{numbers_within}
use Rattle.mm_facts.proofs.HaltDetails.{entry_within, end_told, end_other, adds_as}
use Rattle.mm_facts.proofs.HaltDetails.{leaves_one, count_steps, step_there}
use Rattle.mm_facts.specs.Mirror.Explaining.{told_steps}
use Rattle.mm_facts.proofs.details.push_at_end.Goals as goal

pub push_end-requires-clause-stated : goal.push_end-requires-clause-stated
push_end-requires-clause-stated c =
    let halt = c.requires.halt.1 in
    numbers_within (symbols_of c.args.book.now.statements) (numbers_in c.expression.result.now) halt.s.symbols
    (c.expression.ensures halt.s (numbered_get c.args.book.now.statements c.args.id.0 halt.index halt.s halt.proof.numbered))

pub push_end-requires-clause-given : goal.push_end-requires-clause-given
push_end-requires-clause-given c =
    let halt = c.requires.halt.1 in
    entry_within c.requires.halt.0 c.args.book.now.statements _ halt.s halt.prefix halt.moves c.args.stop.now.halt 0 _ halt.halts c.entry.ensures.entry

pub returns-in-P14 : goal.returns-in-P14
returns-in-P14 c =
    on_ok_weaker c.push_end.result
    (λ told limit index s prefix moves number h.
    let one = leaves_one limit c.args.book.now.statements _ s prefix moves c.args.stop.now.halt h
    (told_steps c.args.stop.now) (count_steps c.args.stop.now) c.requires.end
    (c.requires.rule ∙ ap Some c.in-P14.is) in
    end_told limit c.args.book.now.statements _ s prefix moves c.args.stop.now.halt h
    (told_steps c.args.stop.now) (count_steps c.args.stop.now) c.deref.result.now
    (numbers_in c.expression.result.now)
    (numbers_in c.entry.result.now) c.args.out.now.items c.push_end.new.out.items c.args.rule c.in-P14.is c.requires.end c.requires.rule
    (c.expression.ensures s (numbered_get c.args.book.now.statements c.args.id.0 index s number.numbered)) c.entry.ensures.entry
    (step_there c.args.stop.now 0 c.index.result.now c.deref.result.now
    (omega (arith, ap length one.origin, count_steps c.args.stop.now)) c.index.ensures
    c.deref.ensures.value) told)
    c.push_end.ensures

pub returns-in_default : goal.returns-in_default
returns-in_default c =
    on_ok_weaker c.push_entries.result
    (λ told limit. adds_as limit c.args.book.now.statements c.args.id.0 c.args.stop.now _ _ c.args.out.now.items c.push_entries.new.out.items
    (λ before s stack kept origins left details. end_other s stack origins c.args.rule details c.in_default.not-P14) (told limit))
    c.push_entries.ensures
