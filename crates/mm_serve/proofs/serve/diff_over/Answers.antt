-- What is told of the files as they were read is told of the versions.
use Rattle.std.proofs.Common.{List, ℕ, map, ap, ◌∙◌, subst, inr, refl, codes}
use Rattle.mm_text.specs.Files.{plain_file}
use Rattle.mm_rules.specs.Status.{number_of}
use Rattle.mm_serve.specs.Answer.{Outcome, quiet}
use Rattle.mm_serve.specs.Ending.{StopsDiff}
use Rattle.mm_serve.specs.Folder.{plain_read}
use Rattle.mm_serve.specs.Versions.{IsDiffReplyOver, IsVersionFault}
use Rattle.mm_serve.specs.declared.files.FileFault.{FileFault}
use Rattle.mm_serve.proofs.AnsweredWords.{broken_off, written}
use Rattle.mm_serve.proofs.ComparedVersions.{diff_told}
use Rattle.mm_serve.proofs.serve.diff_over.Goals as goal

pub returns-in-Err-TooLong-clause-replies : goal.returns-in-Err-TooLong-clause-replies
returns-in-Err-TooLong-clause-replies g c =
    let Fault : FileFault → Type 0 = IsVersionFault (g.F.Folder.holds c.args.folder.now)
    (g.F.Folder.may_fail c.args.folder.now) (map (λ n. n.now) c.args.asked.now.old.now)
    (map (λ n. n.now) c.args.asked.now.new.now) c.args.max in
    written g.O.Write.contents
    (IsDiffReplyOver (g.F.Folder.holds c.args.folder.now) (map (λ n. n.now) c.args.asked.now.old.now)
    (map (λ n. n.now) c.args.asked.now.new.now) c.args.max) c.reply.result (codes "load F3\n")
    (quiet 4) _ _ c.reply.ensures.outcome c.reply.ensures.all
    (inr (
      subst Fault c.in-Err-TooLong.field-0-is c.in-Err-TooLong.ensures.fault,
      refl,
      refl,
    ))

pub returns-in-Err-TooLong-clause-stops : goal.returns-in-Err-TooLong-clause-stops
returns-in-Err-TooLong-clause-stops g c =
    let Fault : FileFault → Type 0 = IsVersionFault (g.F.Folder.holds c.args.folder.now)
    (g.F.Folder.may_fail c.args.folder.now) (map (λ n. n.now) c.args.asked.now.old.now)
    (map (λ n. n.now) c.args.asked.now.new.now) c.args.max in
    broken_off g.O.Write.contents
    (IsDiffReplyOver (g.F.Folder.holds c.args.folder.now) (map (λ n. n.now) c.args.asked.now.old.now)
    (map (λ n. n.now) c.args.asked.now.new.now) c.args.max)
    (λ stop. StopsDiff g.O.Write.contents (g.F.Folder.holds c.args.folder.now)
    (g.F.Folder.may_fail c.args.folder.now) _ _ c.args.max stop _ _) c.reply.result
    (codes "load F3\n") (quiet 4) _ _ (λ h. h) c.reply.ensures.stop c.reply.ensures.beginning
    (inr (
      subst Fault c.in-Err-TooLong.field-0-is c.in-Err-TooLong.ensures.fault,
      refl,
      refl,
    ))

pub returns-clause-replies : goal.returns-clause-replies
returns-clause-replies g c =
    let old = ap (map plain_file) c.deref-3.ensures.value ∙ c.in_ok-old.ensures
    ∙ ap (map plain_read) c.deref.ensures.value in
    let new = ap (map plain_file) c.deref-4.ensures.value ∙ c.in_ok-new.ensures
    ∙ ap (map plain_read) c.deref-2.ensures.value in
    let text : List ℕ = c.in_ok-compared.compared.reply.text.items in
    let outcome : Outcome = record {
      status = number_of c.in_ok-compared.compared.reply.status;
      notes = c.in_ok-compared.compared.notes.items;
    } in
    written g.O.Write.contents
    (IsDiffReplyOver (g.F.Folder.holds c.args.folder.now) (map (λ n. n.now) c.args.asked.now.old.now)
    (map (λ n. n.now) c.args.asked.now.new.now) c.args.max) c.noted_reply.result text outcome _ _
    c.noted_reply.ensures.outcome c.noted_reply.ensures.all
    (diff_told (g.F.Folder.holds c.args.folder.now) _ _ c.alike_files_have_one_reply.ensures
    c.alike_files_leave_out_the_same.ensures c.comments_for-comments.result c.args.max
    (λ out. (c.comments_for-comments.ensures.0 out).1) _ _ c.in-Ok.ensures.read text outcome
    (rw (old, new) at c.in_ok-compared.ensures.reply)
    (rw (old, new) at c.in_ok-compared.ensures.notes))

pub returns-clause-stops : goal.returns-clause-stops
returns-clause-stops g c =
    let old = ap (map plain_file) c.deref-3.ensures.value ∙ c.in_ok-old.ensures
    ∙ ap (map plain_read) c.deref.ensures.value in
    let new = ap (map plain_file) c.deref-4.ensures.value ∙ c.in_ok-new.ensures
    ∙ ap (map plain_read) c.deref-2.ensures.value in
    let text : List ℕ = c.in_ok-compared.compared.reply.text.items in
    let outcome : Outcome = record {
      status = number_of c.in_ok-compared.compared.reply.status;
      notes = c.in_ok-compared.compared.notes.items;
    } in
    broken_off g.O.Write.contents
    (IsDiffReplyOver (g.F.Folder.holds c.args.folder.now) (map (λ n. n.now) c.args.asked.now.old.now)
    (map (λ n. n.now) c.args.asked.now.new.now) c.args.max)
    (λ stop. StopsDiff g.O.Write.contents (g.F.Folder.holds c.args.folder.now)
    (g.F.Folder.may_fail c.args.folder.now) _ _ c.args.max stop _ _) c.noted_reply.result text
    outcome _ _ (λ h. h) c.noted_reply.ensures.stop c.noted_reply.ensures.beginning
    (diff_told (g.F.Folder.holds c.args.folder.now) _ _ c.alike_files_have_one_reply.ensures
    c.alike_files_leave_out_the_same.ensures c.comments_for-comments.result c.args.max
    (λ out. (c.comments_for-comments.ensures.0 out).1) _ _ c.in-Ok.ensures.read text outcome
    (rw (old, new) at c.in_ok-compared.ensures.reply)
    (rw (old, new) at c.in_ok-compared.ensures.notes))
