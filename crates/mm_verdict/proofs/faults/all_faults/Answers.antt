-- Where no refusal is listed, the files are accepted; else these are all.
use Rattle.std.proofs.Common.{map, refl, sym, ap, ◌∙◌}
use Rattle.mm_rules.specs.Answer.{plain_refusal}
use Rattle.mm_verdict.proofs.Verdicts.LoopOverStatements.{none_there}
use Rattle.mm_verdict.proofs.faults.all_faults.Goals as goal

pub judge_files-requires : goal.judge_files-requires
judge_files-requires c κs =
    ((refl, tt), λ readable. sym (ap (map plain_refusal) c.new.ensures.items))

pub conclude-requires : goal.conclude-requires
conclude-requires c =
    let v = c.in-Ok.ensures.visited in
    (v.clean (v.seen ∙ ap (map plain_refusal)
    (none_there c.judge_files.new.visitor.refusals (sym c.if-is_empty.ensures)))).0

pub returns-then-is_empty-clause-none : goal.returns-then-is_empty-clause-none
returns-then-is_empty-clause-none c =
    let v = c.in-Ok.ensures.visited in
    rw (v.seen ∙ ap (map plain_refusal)
    (none_there c.judge_files.new.visitor.refusals (sym c.if-is_empty.ensures))) at v.faults
