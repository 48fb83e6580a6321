-- What `read_files`, `watched_reply` and the writing say is what is said of the command over the
-- files.
use Rattle.std.proofs.Common.{List, ℕ, map, ap, ◌∙◌, subst, inl, inr, refl, codes}
use Rattle.mm_text.specs.Files.{plain_file}
use Rattle.mm_serve.specs.Answer.{quiet}
use Rattle.mm_serve.specs.Ending.{IsReplyOver, StopsRun}
use Rattle.mm_serve.specs.Folder.{IsFileFault, plain_read}
use Rattle.mm_serve.specs.declared.files.FileFault.{FileFault}
use Rattle.mm_check.specs.Reply.{IsReplyTo}
use Rattle.mm_rules.specs.Status.{number_of}
use Rattle.mm_serve.proofs.FilesRead.{all_notes_over, reply_over}
use Rattle.mm_serve.proofs.AnsweredWords.{as_many, asks_handed, broken_off, written}
use Rattle.mm_serve.proofs.serve.run_over.Goals as goal

pub returns-in-Err-TooLong-clause-stops : goal.returns-in-Err-TooLong-clause-stops
returns-in-Err-TooLong-clause-stops g c =
    let holds = g.F.Folder.holds c.args.folder.now in
    let may_fail = g.F.Folder.may_fail c.args.folder.now in
    let names : List (List ℕ) = map (λ n. n.now) c.args.names.now in
    let Fault : FileFault → Type 0 = IsFileFault holds may_fail names c.args.max in
    broken_off g.O.Write.contents (IsReplyOver holds c.args.command.now names c.args.max)
    (λ stop. StopsRun g.O.Write.contents holds may_fail c.args.command.now names c.args.max stop _ _)
    c.reply.result (codes "load F3\n") (quiet 4) _ _ (λ h. h) c.reply.ensures.stop
    c.reply.ensures.beginning
    (inr (subst Fault c.in-Err-TooLong.field-0-is c.in-Err-TooLong.ensures.fault, refl, refl))

pub returns-in-Err-TooLong-clause-replies : goal.returns-in-Err-TooLong-clause-replies
returns-in-Err-TooLong-clause-replies g c =
    let holds = g.F.Folder.holds c.args.folder.now in
    let may_fail = g.F.Folder.may_fail c.args.folder.now in
    let names : List (List ℕ) = map (λ n. n.now) c.args.names.now in
    let Fault : FileFault → Type 0 = IsFileFault holds may_fail names c.args.max in
    written g.O.Write.contents (IsReplyOver holds c.args.command.now names c.args.max)
    c.reply.result (codes "load F3\n") (quiet 4) _ _ c.reply.ensures.outcome c.reply.ensures.all
    (inr (
      subst Fault c.in-Err-TooLong.field-0-is c.in-Err-TooLong.ensures.fault,
      refl,
      refl,
    ))

pub watched_reply-requires : goal.watched_reply-requires
watched_reply-requires g c =
    let (wholes, held, within, reads) = c.in-Ok.ensures.read in
    let given = ap (map plain_file) c.deref-2.ensures.value ∙ c.in_ok-files.ensures
    ∙ ap (map plain_read) c.deref.ensures.value in
    rw given (asks_handed c.args.command.now _ (map plain_read c.in-Ok.files.items)
    (as_many c.comments_for.result _ wholes (map plain_read c.in-Ok.files.items) held.0 reads)
    c.requires.named)

pub returns-clause-replies : goal.returns-clause-replies
returns-clause-replies g c =
    let (wholes, held, within, reads) = c.in-Ok.ensures.read in
    let read = c.in_ok-files.ensures ∙ ap (map plain_read) c.deref.ensures.value in
    let given = ap (map plain_file) c.deref-2.ensures.value ∙ read in
    let noted = ap (map plain_file) c.deref-3.ensures.value ∙ read in
    let text : List ℕ = c.in_ok-watched.watched.reply.text.items in
    let notes : List ℕ = c.in_ok-notes.notes.items in
    written g.O.Write.contents
    (IsReplyOver (g.F.Folder.holds c.args.folder.now) c.args.command.now
    (map (λ n. n.now) c.args.names.now) c.args.max)
    c.noted_reply.result text _ _ _ c.noted_reply.ensures.outcome c.noted_reply.ensures.all
    (inl (
      wholes,
      held,
      within,
      reply_over c.alike_files_have_one_reply.ensures c.comments_for.result c.args.command.now
          c.args.max c.comments_for.ensures.0 wholes _ reads within text _
          (subst (λ l. IsReplyTo l c.args.command.now text (number_of c.in_ok-watched.watched.reply.status))
          given c.in_ok-watched.ensures.reply),
      all_notes_over c.alike_files_leave_out_the_same.ensures c.comments_for.result
          c.args.command.now c.args.max c.comments_for.ensures.0 wholes _ reads within text notes
          (rw noted at c.in_ok-notes.ensures),
    ))

pub returns-clause-stops : goal.returns-clause-stops
returns-clause-stops g c =
    let (wholes, held, within, reads) = c.in-Ok.ensures.read in
    let read = c.in_ok-files.ensures ∙ ap (map plain_read) c.deref.ensures.value in
    let given = ap (map plain_file) c.deref-2.ensures.value ∙ read in
    let noted = ap (map plain_file) c.deref-3.ensures.value ∙ read in
    let text : List ℕ = c.in_ok-watched.watched.reply.text.items in
    let notes : List ℕ = c.in_ok-notes.notes.items in
    broken_off g.O.Write.contents
    (IsReplyOver (g.F.Folder.holds c.args.folder.now) c.args.command.now
    (map (λ n. n.now) c.args.names.now) c.args.max)
    (λ stop. StopsRun g.O.Write.contents (g.F.Folder.holds c.args.folder.now)
    (g.F.Folder.may_fail c.args.folder.now) c.args.command.now _ c.args.max stop _ _)
    c.noted_reply.result text _ _ _ (λ h. h) c.noted_reply.ensures.stop
    c.noted_reply.ensures.beginning
    (inl (
      wholes,
      held,
      within,
      reply_over c.alike_files_have_one_reply.ensures c.comments_for.result c.args.command.now
          c.args.max c.comments_for.ensures.0 wholes _ reads within text _
          (subst (λ l. IsReplyTo l c.args.command.now text (number_of c.in_ok-watched.watched.reply.status))
          given c.in_ok-watched.ensures.reply),
      all_notes_over c.alike_files_leave_out_the_same.ensures c.comments_for.result
          c.args.command.now c.args.max c.comments_for.ensures.0 wholes _ reads within text notes
          (rw noted at c.in_ok-notes.ensures),
    ))
