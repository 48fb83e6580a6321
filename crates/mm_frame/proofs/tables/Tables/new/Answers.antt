use Rattle.std.proofs.Common.{rules, refl}
use Rattle.mm_frame.proofs.BookLists.GrownLists.{empty_tables}
use Rattle.mm_frame.proofs.tables.Tables.new.Goals as goal

pub returns : goal.returns
returns c =
    empty_tables _ c.new-2.ensures c.new-3.ensures.items c.new-4.ensures c.new-5.ensures.items c.new-6.ensures.items c.new-7.ensures.items (search rules)
    c.new-8.ensures.items c.new-9.ensures.items c.new-12.ensures refl
