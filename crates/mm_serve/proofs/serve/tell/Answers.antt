-- The line that was said is that of the stop.
use Rattle.mm_serve.proofs.AnsweredWords.{told_line}
use Rattle.mm_serve.proofs.serve.tell.Goals as goal

pub returns-in-NotText-clause-told : goal.returns-in-NotText-clause-told
returns-in-NotText-clause-told g c = rw c.in-NotText.is c.say-in-NotText.ensures

pub returns-in-CannotRead-clause-told : goal.returns-in-CannotRead-clause-told
returns-in-CannotRead-clause-told g c =
    rw c.in-CannotRead.is
    (rw c.as_bytes-in-CannotRead.ensures.value at
    (told_line g.E.Write.contents _ c.tell_unread.result _ _
    c.tell_unread.ensures.all c.tell_unread.ensures.beginning))

pub returns-in-CannotWrite-clause-told : goal.returns-in-CannotWrite-clause-told
returns-in-CannotWrite-clause-told g c = rw c.in-CannotWrite.is c.say-in-CannotWrite.ensures

pub returns-in-Memory-clause-told : goal.returns-in-Memory-clause-told
returns-in-Memory-clause-told g c = rw c.in-Memory.is c.say-in-Memory.ensures
