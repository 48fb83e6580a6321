-- The file is told, or that nothing is known of it.
use Rattle.std.proofs.Common.{List, inr, ap, subst}
use Rattle.std.proofs.lemmas.Result.{IfOk-weaker}
use Rattle.mm_text.specs.Files.{PlainFile}
use Rattle.mm_rules.specs.Conclusion.{Conclusion}
use Rattle.mm_rules.specs.Status.{number_of}
use Rattle.mm_with_lemmas.specs.Reply.{IsUnsure}
use Rattle.mm_with_lemmas.proofs.reply.answer_over.Goals as goal

pub told_file-requires : goal.told_file-requires
told_file-requires g c = rw c.in-Some.is at c.in_ok-bytes.ensures

pub returns-in-None : goal.returns-in-None
returns-in-None g c =
    let files = ap (λ (v : Conclusion). v.files) c.checked.view_is in
    IfOk-weaker c.unsure_reply.result _ _
    (λ told unsure statements reads has. inr (subst (λ (fs : List PlainFile). IsUnsure fs
    c.args.wish.number told.reply.text.items (number_of told.reply.status) told.note.items) files
    unsure))
    c.unsure_reply.ensures
