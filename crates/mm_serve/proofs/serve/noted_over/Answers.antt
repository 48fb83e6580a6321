-- What is told of the files as they were read is told of the named ones.
use Rattle.std.proofs.Common.{map, ap, ◌∙◌, subst, inr, refl, codes}
use Rattle.mm_text.specs.Files.{plain_file}
use Rattle.mm_rules.specs.Status.{number_of}
use Rattle.mm_words.specs.declared.request.Request.{Request}
use Rattle.mm_serve.specs.Answer.{Outcome, quiet}
use Rattle.mm_serve.specs.Ending.{StopsNoted}
use Rattle.mm_serve.specs.Folder.{IsFileFault, plain_read}
use Rattle.mm_serve.specs.Noted.{IsNotedReplyOver, names_in, request_in}
use Rattle.mm_serve.specs.declared.files.FileFault.{FileFault}
use Rattle.mm_serve.proofs.AnsweredWords.{broken_off, written}
use Rattle.mm_serve.proofs.NotedReplies.{noted_whole}
use Rattle.mm_serve.proofs.serve.noted_over.Goals as goal

pub returns-in-Err-TooLong-clause-replies : goal.returns-in-Err-TooLong-clause-replies
returns-in-Err-TooLong-clause-replies g c =
    let holds = g.F.Folder.holds c.args.folder.now in
    let request : Request = request_in c.args.asked in
    let Fault : FileFault → Type 0 = IsFileFault holds (g.F.Folder.may_fail c.args.folder.now)
    (names_in request) c.args.max in
    written g.O.Write.contents (IsNotedReplyOver holds request c.args.max) c.reply.result
    (codes "load F3\n") (quiet 4) _ _ c.reply.ensures.outcome c.reply.ensures.all
    (inr (
      subst Fault c.in-Err-TooLong.field-0-is
          (rw c.names.ensures at c.in-Err-TooLong.ensures.fault),
      refl,
      refl,
    ))

pub returns-in-Err-TooLong-clause-stops : goal.returns-in-Err-TooLong-clause-stops
returns-in-Err-TooLong-clause-stops g c =
    let holds = g.F.Folder.holds c.args.folder.now in
    let may_fail = g.F.Folder.may_fail c.args.folder.now in
    let request : Request = request_in c.args.asked in
    let Fault : FileFault → Type 0 = IsFileFault holds may_fail (names_in request) c.args.max in
    broken_off g.O.Write.contents (IsNotedReplyOver holds request c.args.max)
    (λ stop. StopsNoted g.O.Write.contents holds may_fail request c.args.max stop _ _)
    c.reply.result (codes "load F3\n") (quiet 4) _ _ (λ h. h) c.reply.ensures.stop
    c.reply.ensures.beginning
    (inr (
      subst Fault c.in-Err-TooLong.field-0-is
          (rw c.names.ensures at c.in-Err-TooLong.ensures.fault),
      refl,
      refl,
    ))

pub returns-clause-replies : goal.returns-clause-replies
returns-clause-replies g c =
    let holds = g.F.Folder.holds c.args.folder.now in
    let request : Request = request_in c.args.asked in
    let files = ap (map plain_file) c.deref-2.ensures.value ∙ c.in_ok-files.ensures
    ∙ ap (map plain_read) c.deref.ensures.value in
    let outcome : Outcome = record {
      status = number_of c.in_ok-told.told.reply.status;
      notes = c.in_ok-told.told.notes.items;
    } in
    written g.O.Write.contents (IsNotedReplyOver holds request c.args.max) c.noted_reply.result
    c.in_ok-told.told.reply.text.items outcome _ _ c.noted_reply.ensures.outcome
    c.noted_reply.ensures.all
    (noted_whole holds request c.args.max (map plain_read c.in-Ok.files.items)
    (rw c.names.ensures at c.in-Ok.ensures.read) _ outcome (rw files at c.in_ok-told.ensures.told))

pub returns-clause-stops : goal.returns-clause-stops
returns-clause-stops g c =
    let holds = g.F.Folder.holds c.args.folder.now in
    let may_fail = g.F.Folder.may_fail c.args.folder.now in
    let request : Request = request_in c.args.asked in
    let files = ap (map plain_file) c.deref-2.ensures.value ∙ c.in_ok-files.ensures
    ∙ ap (map plain_read) c.deref.ensures.value in
    let outcome : Outcome = record {
      status = number_of c.in_ok-told.told.reply.status;
      notes = c.in_ok-told.told.notes.items;
    } in
    broken_off g.O.Write.contents (IsNotedReplyOver holds request c.args.max)
    (λ stop. StopsNoted g.O.Write.contents holds may_fail request c.args.max stop _ _)
    c.noted_reply.result c.in_ok-told.told.reply.text.items outcome _ _ (λ h. h)
    c.noted_reply.ensures.stop c.noted_reply.ensures.beginning
    (noted_whole holds request c.args.max (map plain_read c.in-Ok.files.items)
    (rw c.names.ensures at c.in-Ok.ensures.read) _ outcome (rw files at c.in_ok-told.ensures.told))
