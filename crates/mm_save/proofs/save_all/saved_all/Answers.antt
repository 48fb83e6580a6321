-- What was written is what is saved, or why nothing is.
use Rattle.std.proofs.Common.{map, option_map, refl, ap}
use Rattle.mm_text.specs.Files.{plain_file}
use Rattle.mm_base.proofs.Lists.{error_keeps}
use Rattle.mm_render.specs.declared.save_fault.SaveFault.TheVariants as fault
use Rattle.mm_verdict.proofs.Verdicts.AcceptedStatements.{within_limit}
use Rattle.mm_verdict.proofs.Verdicts.LoopOverStatements.{verdict_told}
use Rattle.mm_save.proofs.Saving.WrittenFiles.{all_saved, all_written, finish_fault, long_fault}
use Rattle.mm_save.proofs.save_all.saved_all.Goals as goal

pub judge_files-requires : goal.judge_files-requires
judge_files-requires c κs = (
  (refl, tt),
  λ readable. record {
    lenient = refl;
    none = refl;
    so_far = c.new_file-file.ensures.begun (within_limit (map plain_file c.args.files.now) readable);
    number = refl;
    form = refl;
  },
)

pub returns-clause-saved : goal.returns-clause-saved
returns-clause-saved c =
    all_saved c.args.form (map plain_file c.args.files.now) c.args.number c.new_file-file.result
    c.judge_files.new.visitor c.in_ok-finish-in-None.field-0.items c.new_file-file.ensures.form
    c.new_file-file.ensures.number c.in-None.is (all_written (map plain_file c.args.files.now)
    c.new_file-file.result c.judge_files.new.visitor _ c.in-Ok.ensures.visited)
    c.in_ok-finish-in-None.ensures.whole c.in_ok-finish-in-None.ensures.fits

pub returns-in_err-finish-in-None-clause-fault : goal.returns-in_err-finish-in-None-clause-fault
returns-in_err-finish-in-None-clause-fault c =
    error_keeps c.from_residual.result (fault.Ask c.in_err-finish-in-None.field-0.0) _
    c.from_residual.ensures.1
    (finish_fault c.args.form (map plain_file c.args.files.now) c.args.number c.new_file-file.result
    c.judge_files.new.visitor c.in_err-finish-in-None.field-0.0 c.new_file-file.ensures.form
    c.new_file-file.ensures.number c.in-None.is (all_written (map plain_file c.args.files.now)
    c.new_file-file.result c.judge_files.new.visitor _ c.in-Ok.ensures.visited)
    c.in_err-finish-in-None.ensures.fault)

pub returns-in-Err-clause-fault : goal.returns-in-Err-clause-fault
returns-in-Err-clause-fault c =
    verdict_told _ _ _ (map plain_file c.args.files.now) _ _ (λ taken listed w. w.none)
    c.in-Err.fault c.in-Err.ensures.stopped

pub returns-in-Some-clause-fault : goal.returns-in-Some-clause-fault
returns-in-Some-clause-fault c =
    long_fault c.args.form (map plain_file c.args.files.now) c.args.number c.new_file-file.result
    c.judge_files.new.visitor c.in-Some.label.now c.new_file-file.ensures.form c.new_file-file.ensures.number
    (ap (option_map (λ l. l.now)) c.in-Some.is) (all_written (map plain_file c.args.files.now)
    c.new_file-file.result c.judge_files.new.visitor _ c.in-Ok.ensures.visited)
