-- The bytes are the theorem's file with its proof in the form.
use Rattle.std.proofs.Common.{◌≡◌, ◌≤◌, List, map, None, sym, ap, subst, ◌∙◌}
use Rattle.mm_base.specs.Statement.{PlainStatement}
use Rattle.mm_base.specs.MostBytes.{most_bytes}
use Rattle.mm_text.specs.Files.{PlainFile, plain_file, total_bytes}
use Rattle.mm_text.specs.Reading.{Reads}
use Rattle.mm_rules.specs.Conclusion.{Conclusion}
use Rattle.mm_render.specs.Mirror.Rewriting.{HoldsSpan, IsPutFault}
use Rattle.mm_verdict.proofs.Verdicts.AcceptedStatements.{within_limit, KeptWell}
use Rattle.mm_base.proofs.Lists.{error_keeps}
use Rattle.mm_render.proofs.SavedProofs.FileTotals.{holds_span, saved_of, ask_save_fault, text_save_fault}
use Rattle.mm_render.proofs.SavedProofs.FileTotals.{put_save_fault}
use Rattle.mm_render.proofs.asked_texts.saved_file.Goals as goal

pub returns-in_err-theorem-clause-fault : goal.returns-in_err-theorem-clause-fault
returns-in_err-theorem-clause-fault c =
    error_keeps c.from_residual.result c.in_err-theorem.field-0.0 _ c.from_residual.ensures.1
    (λ statements reads. ask_save_fault c.args.form c.args.checked.now.files statements
    c.args.label.now c.in_err-theorem.field-0.0 (c.in_err-theorem.ensures.fault statements reads))

pub bytes_of-old-requires : goal.bytes_of-old-requires
bytes_of-old-requires c =
    let now : Conclusion = c.args.checked.now in
    let well = subst KeptWell c.checked.view_is c.checked.invariant in
    let files : map plain_file c.checked.inside.files.now ≡ now.files =
    ap (λ (v : Conclusion). v.files) c.checked.view_is in
    let statements : List PlainStatement = well.origin.statements in
    let reads : Reads now.files statements None = well.origin.accepted.reads in
    let r = (c.in_ok-theorem.ensures.read statements reads).1 in
    let home = c.in_ok-theorem.ensures.home statements reads r.s (r.index, r.there, r.named) in
    subst (λ (fs : List PlainFile).
    HoldsSpan fs c.in_ok-theorem.theorem.file c.in_ok-theorem.theorem.span) (sym files)
    (holds_span now.files statements r.index r.s c.in_ok-theorem.theorem.file
    c.in_ok-theorem.theorem.span reads r.there r.complete home.0 home.1)

pub span_text-requires : goal.span_text-requires
span_text-requires c =
    rw (ap (λ (v : Conclusion). v.sentences) c.checked.view_is) c.in_ok-theorem.ensures.theorem

pub returns-in_err-put-clause-fault : goal.returns-in_err-put-clause-fault
returns-in_err-put-clause-fault c =
    let told = ap (λ (v : Conclusion). v.sentences) c.checked.view_is in
    error_keeps c.from_residual-in_err-put.result c.in_err-put.field-0.0 _
    c.from_residual-in_err-put.ensures.1
    (λ statements reads.
    let read = c.in_ok-theorem.ensures.read statements reads in
    text_save_fault c.args.form _ _ _ _ _ c.in_ok-theorem.theorem.steps c.in_err-put.field-0.0
    (told ∙ read.0) read.1 (rw told c.in_ok-theorem.ensures.theorem.1) c.in_err-put.ensures.fault)

pub put_in-requires-clause-there : goal.put_in-requires-clause-there
put_in-requires-clause-there c =
    let now : Conclusion = c.args.checked.now in
    let well = subst KeptWell c.checked.view_is c.checked.invariant in
    let files : map plain_file c.checked.inside.files.now ≡ now.files = ap (λ (v : Conclusion). v.files) c.checked.view_is in
    let statements : List PlainStatement = well.origin.statements in
    let reads : Reads now.files statements None = well.origin.accepted.reads in
    let r = (c.in_ok-theorem.ensures.read statements reads).1 in
    let home = c.in_ok-theorem.ensures.home statements reads r.s (r.index, r.there, r.named) in
    subst (λ (fs : List PlainFile). HoldsSpan fs c.in_ok-theorem.theorem.file c.in_ok-theorem.theorem.span) (sym files)
    (holds_span now.files statements r.index r.s c.in_ok-theorem.theorem.file c.in_ok-theorem.theorem.span reads r.there r.complete home.0 home.1)

pub put_in-requires-clause-within : goal.put_in-requires-clause-within
put_in-requires-clause-within c =
    let well = subst KeptWell c.checked.view_is c.checked.invariant in
    subst (λ (fs : List PlainFile). total_bytes fs ≤ most_bytes)
    (sym (ap (λ (v : Conclusion). v.files) c.checked.view_is))
    (within_limit c.args.checked.now.files well.origin.accepted.readable)

pub returns-in_err-bytes-clause-fault : goal.returns-in_err-bytes-clause-fault
returns-in_err-bytes-clause-fault c =
    let now : Conclusion = c.args.checked.now in
    let told = ap (λ (v : Conclusion). v.sentences) c.checked.view_is in
    let files : map plain_file c.checked.inside.files.now ≡ now.files = ap (λ (v : Conclusion). v.files) c.checked.view_is in
    let put =
    subst (λ (fs : List PlainFile). IsPutFault fs c.in_ok-theorem.theorem.file
    c.in_ok-theorem.theorem.span c.in_ok-put.put.items c.in_err-bytes.field-0.0) files
    (rw c.deref.ensures.value at c.in_err-bytes.ensures.fault) in
    let stood = rw files at c.bytes_of-old.ensures in
    error_keeps c.from_residual-in_err-bytes.result c.in_err-bytes.field-0.0 _
    c.from_residual-in_err-bytes.ensures.1
    (λ statements reads.
    let read = c.in_ok-theorem.ensures.read statements reads in
    put_save_fault c.args.form _ _ _ _ _ c.in_ok-theorem.theorem.steps _ _ _ _ _ (told ∙ read.0)
    read.1
    (rw told c.in_ok-theorem.ensures.theorem.1) c.in_ok-put.ensures.put
    (c.in_ok-theorem.ensures.home statements reads) stood put)

pub returns-clause-saved : goal.returns-clause-saved
returns-clause-saved c = λ statements reads.
    let now : Conclusion = c.args.checked.now in
    let told = ap (λ (v : Conclusion). v.sentences) c.checked.view_is in
    let files : map plain_file c.checked.inside.files.now ≡ now.files = ap (λ (v : Conclusion). v.files) c.checked.view_is in
    let put = rw (files, c.deref.ensures.value) at c.in_ok-bytes.ensures.put in
    let stood = rw files at c.bytes_of-old.ensures in
    let read = c.in_ok-theorem.ensures.read statements reads in
    saved_of c.args.form _ _ _ _ _ c.in_ok-theorem.theorem.steps _ _ _ _ _ (told ∙ read.0) read.1
    (rw told c.in_ok-theorem.ensures.theorem.1) c.in_ok-put.ensures.put
    (c.in_ok-theorem.ensures.home statements reads) stood put
