use Rattle.std.proofs.Common.{sym, ◌∙◌}
use Rattle.mm_frame.proofs.Names.NameNumbers.{index_of_name}
use Rattle.mm_frame.proofs.name_table.Names.find_key.Goals as goal

pub returns-in-Some : goal.returns-in-Some
returns-in-Some c = rw (← c.self.view_is)
    (index_of_name _ _ _ (sym c.get_index_of.ensures.index ∙ c.in-Some.is))

pub returns-in-None : goal.returns-in-None
returns-in-None c = rw (← c.self.view_is)
    (index_of_name _ _ _ (sym c.get_index_of.ensures.index ∙ c.in-None.is))
