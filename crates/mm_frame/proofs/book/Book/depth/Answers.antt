use Rattle.mm_frame.specs.Mirror.Layout.{statements_of}
use Rattle.mm_frame.proofs.book.Book.depth.Goals as goal

pub returns : goal.returns
returns c = rw (← c.self.view_is) (c.depth.ensures (statements_of c.self.inside.tables) c.self.invariant.scopes)
