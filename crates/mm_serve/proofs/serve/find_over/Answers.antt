-- The search ends as the command over the files does.
use Rattle.std.proofs.Common.{None, refl, sym}
use Rattle.mm_serve.proofs.AnsweredWords.{stops_command}
use Rattle.mm_words.proofs.AskedWords.{named_by_words}
use Rattle.mm_serve.proofs.serve.find_over.Goals as goal

pub find_command-command-requires : goal.find_command-command-requires
find_command-command-requires g c =
    rw (c.deref-2.ensures.value, c.in_ok-patterns.ensures, c.deref.ensures.value) refl

pub run_over-requires-clause-named : goal.run_over-requires-clause-named
run_over-requires-clause-named g c =
    let (words, asks) = c.requires.asked in
    rw c.deref-3.ensures.value (named_by_words words c.find_command-command.result _
    (c.find_command-command.ensures.asks words asks))

pub returns-in-Ok-clause-replies : goal.returns-in-Ok-clause-replies
returns-in-Ok-clause-replies g c = λ words asks.
    let (text, reply, taken) = rw c.deref-3.ensures.value at c.in-Ok.ensures.replies in
    (text, c.find_command-command.result, c.find_command-command.ensures.asks words asks, reply, taken)

pub returns-clause-stops : goal.returns-clause-stops
returns-clause-stops g c = λ texts words asks.
    stops_command g.O.Write.contents (g.F.Folder.holds c.args.folder.now)
    (g.F.Folder.may_fail c.args.folder.now) texts c.args.max words c.find_command-command.result _
    None c.in-Err.stop c.labelled.result _ _ (c.find_command-command.ensures.asks words asks)
    (sym c.find_command-command.ensures.unlabelled)
    c.labelled.ensures (rw c.deref-3.ensures.value at c.in-Err.ensures.stops)
