-- Once the proof is read, the question ends as the command over the files does.
use Rattle.std.proofs.Common.{◌≤◌, Err, length, ap, arith, sym, ◌∙◌}
use Rattle.mm_serve.proofs.AnsweredWords.{text_replies, text_stops, text_too_long}
use Rattle.mm_serve.proofs.serve.text_over.Goals as goal

pub returns-in-Err-TooLong-clause-stops : goal.returns-in-Err-TooLong-clause-stops
returns-in-Err-TooLong-clause-stops g c =
    text_too_long c.args.asked.now.question g.O.Write.contents (g.F.Folder.holds c.args.folder.now)
    (g.F.Folder.may_fail c.args.folder.now) c.args.asked.now.label.now c.args.asked.now.proof.now _
    c.args.max c.reply.result _ _
    c.reply.ensures.stop c.reply.ensures.beginning
    (c.in-Err-TooLong.ensures.too_long (ap Err c.in-Err-TooLong.field-0-is))

pub returns-clause-replies : goal.returns-clause-replies
returns-clause-replies g c =
    let (whole, named, held, count, reads) = c.in-Ok.ensures.read in
    let within : length whole.bytes ≤ c.args.max =
    let few = c.in-Ok.ensures.within in omega (arith, count, few) in
    text_replies c.args.asked.now.question g.O.Write.contents (g.F.Folder.holds c.args.folder.now) c.args.max
    c.args.asked.now.label.now c.args.asked.now.proof.now _
    c.text_command-command.result whole c.run_over.result _ _ (named, held, within)
    (rw (
      c.as_bytes-2.ensures.value,
      c.as_bytes.ensures.value ∙ sym named,
      c.deref.ensures.value ∙ reads.1,
    ) at c.text_command-command.ensures)
    (rw c.deref-2.ensures.value at c.run_over.ensures.replies)

pub returns-clause-stops : goal.returns-clause-stops
returns-clause-stops g c =
    let (whole, named, held, count, reads) = c.in-Ok.ensures.read in
    let within : length whole.bytes ≤ c.args.max =
    let few = c.in-Ok.ensures.within in omega (arith, count, few) in
    text_stops c.args.asked.now.question g.O.Write.contents (g.F.Folder.holds c.args.folder.now)
    (g.F.Folder.may_fail c.args.folder.now) c.args.max
    c.args.asked.now.label.now c.args.asked.now.proof.now _
    c.text_command-command.result whole c.run_over.result _ _ (named, held, within)
    (rw (
      c.as_bytes-2.ensures.value,
      c.as_bytes.ensures.value ∙ sym named,
      c.deref.ensures.value ∙ reads.1,
    ) at c.text_command-command.ensures)
    (rw c.deref-2.ensures.value at c.run_over.ensures.stops)
