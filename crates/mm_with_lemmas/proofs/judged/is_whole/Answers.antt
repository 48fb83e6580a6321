-- All that is asked is so.
use Rattle.std.proofs.Common.{List, sym, subst}
use Rattle.std.proofs.lemmas.Result.{IfOk-weaker}
use Rattle.mm_base.specs.Statement.{PlainStatement}
use Rattle.mm_minimize.specs.declared.remarks.Remark.{Remark}
use Rattle.mm_minimize.specs.Remarks.{AreRemarks}
use Rattle.mm_with_lemmas.proofs.JudgedFiles.{whole_lemmas}
use Rattle.mm_with_lemmas.proofs.judged.is_whole.Goals as goal

pub are_remarks_kept-requires : goal.are_remarks_kept-requires
are_remarks_kept-requires c =
    subst (λ (remarks : List Remark). AreRemarks c.args.new.now.files remarks)
    (sym c.deref.ensures.value) c.in_ok-remarks.ensures

pub are_uses_heeded-requires : goal.are_uses_heeded-requires
are_uses_heeded-requires c =
    subst (λ (remarks : List Remark). AreRemarks c.args.new.now.files remarks)
    (sym c.deref-2.ensures.value) c.in_ok-remarks.ensures

pub returns : goal.returns
returns c =
    let others : List PlainStatement = c.requires.accepted.0 in
    IfOk-weaker c.are_founded.result _ _
    (λ are founded is statements reads.
    whole_lemmas c.args.old.now.files c.args.new.now.files c.args.number c.args.bytes.now statements
    others c.requires.files c.requires.accepted.1
    (λ reads_too. c.in_ok-holds_lemmas.ensures c.if-not-branch.false statements others reads
    reads_too)
    (λ reads_too. c.in_ok-are_uses_heeded.ensures.by_lemmas c.if-not-branch-3.false statements
    others reads reads_too)
    (λ reads_too. c.in_ok-are_uses_heeded.ensures.allowed c.if-not-branch-3.false statements
    others reads reads_too)
    (λ reads_too. c.in_ok-are_remarks_kept.ensures c.if-not-branch-2.false statements others reads
    reads_too)
    (λ reads_too. founded is statements others reads reads_too))
    c.are_founded.ensures
