-- The answer is that to what is asked.
use Rattle.std.proofs.Common.{◌≡◌, ◌<◌, ◌∙◌, ℕ, List, length, ap, arith, subst, sym}
use Rattle.std.proofs.lemmas.List.{length-map}
use Rattle.std.proofs.lemmas.Result.{IfOk-weaker}
use Rattle.mm_text.specs.Files.{PlainFile, plain_file}
use Rattle.mm_render.specs.Saved.{FitsSaved}
use Rattle.mm_minimize.specs.AllShorter.{IsAllShortened, IsAllShorterFault}
use Rattle.mm_rules.specs.Answer.{verdict_of_conclusion}
use Rattle.mm_rules.specs.Conclusion.{Conclusion}
use Rattle.mm_rules.specs.Places.{name_of}
use Rattle.mm_verdict.specs.Reply.{text_of}
use Rattle.mm_verdict.proofs.ReplyTexts.{made_both}
use Rattle.mm_check.specs.Reply.{ListsAxioms, ListsShorter}
use Rattle.mm_lemmas.specs.Told.{ListsLemmas}
use Rattle.mm_check.proofs.AnswersTold.{list_told, text_told}
use Rattle.mm_check.proofs.accepted.answer_over.Goals as goal

pub minimized_file-requires : goal.minimized_file-requires
minimized_file-requires g c =
    let less : c.in-File.wanted.number < length c.args.files.now = rw c.in-File.is at c.requires.within in
    let count = ap length c.requires.files in
    omega (arith, count, less, length-map c.args.files.now plain_file)

pub returns-in-Verdict : goal.returns-in-Verdict
returns-in-Verdict g c =
    let kept : Conclusion = c.args.checked.now in
    rw c.in-Verdict.is
    (made_both c.accepted_reply.result _ _ _
    (λ reply said ends statements reads has. record {
      verdict = verdict_of_conclusion kept;
      holds = has;
      said = subst (λ (fs : List PlainFile).
          reply.text.items ≡ text_of fs (verdict_of_conclusion kept)) (sym c.requires.files) said;
      ends = ends;
    })
    c.accepted_reply.ensures.text c.accepted_reply.ensures.status)

pub returns-in-Axioms : goal.returns-in-Axioms
returns-in-Axioms g c =
    rw c.in-Axioms.is
    (list_told c.args.checked.now
    (λ statements text. ListsAxioms c.in-Axioms.essential statements text) _ _
    c.all_axioms_text.ensures c.list_reply.ensures)

pub returns-in-Shorter : goal.returns-in-Shorter
returns-in-Shorter g c =
    let kept : Conclusion = c.args.checked.now in
    rw c.in-Shorter.is
    (list_told kept (λ statements text. ListsShorter kept.profile kept.files statements text) _ _
    c.shorter_text.ensures c.list_reply-in-Shorter.ensures)

pub returns-in-Lemmas : goal.returns-in-Lemmas
returns-in-Lemmas g c =
    let kept : Conclusion = c.args.checked.now in
    let most : ℕ = c.in-Lemmas.selection.most in
    let least : ℕ = c.in-Lemmas.selection.least in
    rw c.in-Lemmas.is
    (list_told kept (λ statements text. ListsLemmas most least statements text) _ _
    c.lemmas_text.ensures c.list_reply-in-Lemmas.ensures)

pub returns-in-About : goal.returns-in-About
returns-in-About g c =
    rw c.in-About.is
    (IfOk-weaker c.answer_to.result _ _ (λ reply told statements reads has. told statements reads)
    c.answer_to.ensures)

pub returns-in-File : goal.returns-in-File
returns-in-File g c =
    let kept : Conclusion = c.args.checked.now in
    let number : ℕ = c.in-File.wanted.number in
    let duplicates = c.in-File.wanted.duplicates in
    let named : c.name_of-name.result.now ≡ name_of kept.files number =
    c.name_of-name.ensures
    ∙ ap (λ (fs : List PlainFile). name_of fs number) (sym c.requires.files) in
    rw c.in-File.is
    (IfOk-weaker c.text_reply.result _ _ (λ reply told statements reads has. told statements reads)
    (text_told kept.files (name_of kept.files number)
    (λ statements new. IsAllShortened kept.profile duplicates kept.files statements number new
    × FitsSaved kept.files number new)
    (λ statements fault. IsAllShorterFault kept.profile duplicates kept.files statements number
    fault) _ _
    (made_both c.minimized_file.result _ _ _
    (λ text shortened fits statements reads. (shortened statements reads, fits))
    c.minimized_file.ensures.shortened c.minimized_file.ensures.fits)
    c.minimized_file.ensures.fault (rw named at c.text_reply.ensures)))
