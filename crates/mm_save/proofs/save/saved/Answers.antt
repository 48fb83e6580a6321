-- The statements are those that were checked.
use Rattle.std.proofs.Common.{List, None, sym, subst}
use Rattle.mm_text.specs.Files.{PlainFile}
use Rattle.mm_text.specs.Reading.{Reads}
use Rattle.mm_step.specs.declared.profile.Profile.TheVariants.{Lenient}
use Rattle.mm_render.specs.Saved.{IsSaved, FitsSaved, IsSaveFault}
use Rattle.mm_verdict.proofs.FileBytes.StatementsInFiles.{accepted_of}
use Rattle.mm_save.proofs.save.saved.Goals as goal

pub returns-in-Ok-answer-clause-saved : goal.returns-in-Ok-answer-clause-saved
returns-in-Ok-answer-clause-saved c =
    let found = accepted_of Lenient _ c.check.result c.in-Ok.checked c.in-Ok.is c.check.ensures.verdict in
    let kept = c.in-Ok.ensures.files in
    let reads : Reads c.in-Ok.checked.files found.0 None = subst (λ (fs : List PlainFile). Reads fs found.0 None) (sym kept) found.1.reads in (
      found.0,
      found.1,
      subst (λ (fs : List PlainFile). IsSaved c.args.form fs found.0 c.args.label.now c.in-Ok-answer.new.0 c.in-Ok-answer.new.1.items) kept (c.in-Ok-answer.ensures.saved found.0 reads),
      subst (λ (fs : List PlainFile). FitsSaved fs c.in-Ok-answer.new.0 c.in-Ok-answer.new.1.items) kept c.in-Ok-answer.ensures.fits,
    )

pub returns-in-Err-answer-clause-fault : goal.returns-in-Err-answer-clause-fault
returns-in-Err-answer-clause-fault c =
    let found = accepted_of Lenient _ c.check.result c.in-Ok.checked c.in-Ok.is c.check.ensures.verdict in
    let kept = c.in-Ok.ensures.files in
    let reads : Reads c.in-Ok.checked.files found.0 None = subst (λ (fs : List PlainFile). Reads fs found.0 None) (sym kept) found.1.reads in (
      found.0,
      found.1,
      subst (λ (fs : List PlainFile). IsSaveFault c.args.form fs found.0 c.args.label.now c.in-Err-answer.fault) kept (c.in-Err-answer.ensures.fault found.0 reads),
    )
