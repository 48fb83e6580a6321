use Rattle.mm_frame.proofs.book.Book.is_label.Goals as goal

pub returns : goal.returns
returns c = rw (← c.self.view_is) c.is_label.ensures
