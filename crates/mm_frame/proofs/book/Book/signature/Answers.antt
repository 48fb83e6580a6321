use Rattle.mm_frame.proofs.book.Book.signature.Goals as goal

pub returns : goal.returns
returns c = rw (← c.self.view_is) c.label_signature.ensures
