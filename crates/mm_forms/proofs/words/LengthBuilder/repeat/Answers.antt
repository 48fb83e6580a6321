use Rattle.std.proofs.Common.{length, ap, ◌∙◌, arith}
use Rattle.std.proofs.lemmas.List.{length-append}
use Rattle.mm_step.specs.Tree.{tree, none, spelling}
use Rattle.mm_step.proofs.ProofSteps.Derivations.{spelling-beside}
use Rattle.mm_proof.proofs.ProofVerdicts.FirstFault.{handed}
use Rattle.mm_forms.proofs.TreeBuilding.TreeWords.{kept_part, part_order, part_count, parts_repeat}
use Rattle.mm_forms.proofs.words.LengthBuilder.repeat.Goals as goal

pub overflow_sub-item : goal.overflow_sub-item
overflow_sub-item c =
    let k = c.requires.2 in
    (part_order _ c.args.item _ (kept_part k.stack k.shelf c.args.item k.row k.kept k.label k.below k.has k.holds.parts)).0

pub returns-in_err-self-clause-long : goal.returns-in_err-self-clause-long
returns-in_err-self-clause-long c = handed _ c.from_residual.result c.from_residual.ensures.1 (λ fault is long first st stack shelf row kept steps label below has h.
    let count = part_count (spelling row) c.args.item (tree label below none) (kept_part stack shelf c.args.item row kept label below has h.parts) in
    let over = c.in_err-self.ensures.fault.1 in
    let whole = h.count in
    let same = h.same in
    omega arith)

pub returns-clause-made : goal.returns-clause-made
returns-clause-made c first st stack shelf row kept steps label below has h =
    let sum = c.in_ok-self.ensures.sum in
    record {
      same = h.same;
      count =
          let count = part_count (spelling row) c.args.item (tree label below none) (kept_part stack shelf c.args.item row kept label below has h.parts) in
          let n = ap length (spelling-beside row (tree label below none)) ∙ length-append (spelling row) (spelling (tree label below none)) in let m = h.count in let s = sum.0 in omega arith;
      within = sum.1;
      parts = parts_repeat stack shelf c.args.item _ row kept label below has h.count sum.0 h.parts;
    }
