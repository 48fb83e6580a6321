use Rattle.std.proofs.Common.{not, ◌≡◌, length, ap, ◌∙◌, ◌<◌, ◌≤◌, rules, arith, is_some, tests}
use Rattle.mm_frame.proofs.Names.NameTables.{none_if, by_byte_of_longer, by_byte_of_known}
use Rattle.mm_frame.proofs.Names.NameTables.{by_byte_of_new}
use Rattle.mm_frame.proofs.name_table.note_byte.Goals as goal

pub returns-then-name-lt1 : goal.returns-then-name-lt1
returns-then-name-lt1 c = λ names are count.
    by_byte_of_longer names c.args.by_byte.now c.args.name.now (λ one. let few : length c.args.name.now ≡ 1 = one in let less : length c.args.name.now < 1 = search (rules, tests) in absurd (omega arith)) are

pub returns-then-is_none : goal.returns-then-is_none
returns-then-is_none c = λ names are count.
    by_byte_of_new names c.args.by_byte.now c.args.name.now c.args.number (let a = c.in-len1.len_at_least in let b = c.in-len1.len_below in omega arith)
    (let byte = c.type_inv.name 0 in omega arith)
    (none_if _ (c.is_none.ensures ∙ ap not c.if-is_none.true)) count are

pub returns-else-is_none : goal.returns-else-is_none
returns-else-is_none c = λ names are count.
    by_byte_of_known names c.args.by_byte.now c.args.name.now
    (λ none. absurd (cc (ap is_some none, c.is_none.ensures ∙ ap not c.if-is_none.false))) are

pub returns-else-name-lt2 : goal.returns-else-name-lt2
returns-else-name-lt2 c = λ names are count.
    by_byte_of_longer names c.args.by_byte.now c.args.name.now (λ one. let few : length c.args.name.now ≡ 1 = one in let more : 2 ≤ length c.args.name.now = search (rules, tests) in absurd (omega arith)) are
