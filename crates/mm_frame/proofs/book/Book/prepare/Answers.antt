use Rattle.mm_frame.proofs.BookLists.GrownLists.{same_tables}
use Rattle.mm_frame.proofs.book.Book.prepare.Goals as goal

pub invariant_of-self : goal.invariant_of-self
invariant_of-self c = (same_tables _ _ c.self.invariant c.prepare.ensures).tables
