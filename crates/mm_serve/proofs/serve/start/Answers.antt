-- The words that are served are those with which the program was started.
use Rattle.std.proofs.Common.{map, inl, inr, ap, Err, rules}
use Rattle.mm_serve.proofs.AnsweredWords.{ends_unread}
use Rattle.mm_serve.proofs.serve.start.Goals as goal

pub returns-in-Ok-texts_of-clause-ends : goal.returns-in-Ok-texts_of-clause-ends
returns-in-Ok-texts_of-clause-ends g c =
    let strings = rw (← c.deref.ensures.value, ← c.in-Ok-texts_of.ensures) at c.in-Ok.ensures.all in
    inl (
      map (λ text. text.now) c.deref-in-Ok-texts_of.result.now,
      rw c.deref-in-Ok-texts_of.ensures.value strings,
      c.serve_words.ensures.ends,
    )

pub returns-in-Err-clause-ends : goal.returns-in-Err-clause-ends
returns-in-Err-clause-ends g c =
    inr (ends_unread g.E.Write.contents (g.A.Arguments.may_fail c.args.arguments.now) c.tell.result c.number.result c.from.result c.in-Err.fault
    c.args.out.now c.args.err.now c.tell.new.err c.number.ensures c.tell.ensures.status c.from.ensures (λ is. c.in-Err.ensures.cause (ap Err is)) c.tell.ensures.told)

pub returns-clause-ends : goal.returns-clause-ends
returns-clause-ends g c = search rules
