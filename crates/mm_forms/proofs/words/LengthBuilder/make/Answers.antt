use Rattle.std.proofs.Common.{[], ◌∷◌, length, ap, ◌∙◌, arith}
use Rattle.std.proofs.lemmas.List.{length-append}
use Rattle.mm_step.specs.Tree.{spelling, beside}
use Rattle.mm_proof.proofs.ProofTokens.SpelledOver.{spelling_over}
use Rattle.mm_forms.proofs.TreeBuilding.TreeWords.{parts_make}
use Rattle.mm_forms.proofs.words.LengthBuilder.make.Goals as goal

pub returns-clause-made : goal.returns-clause-made
returns-clause-made c first st stack shelf rest below kept steps label named many h =
    let sum = c.in_ok-self.ensures.sum in
    record {
      same = h.same;
      count = let n = ap length (spelling_over rest below label) ∙ length-append (spelling (beside rest below)) (label ∷ []) in let m = h.count in let s = sum.0 in omega arith;
      within = sum.1;
      parts = parts_make stack c.args.below.now shelf _ rest below kept label c.args.self.now.count many h.count c.start_of-start.ensures sum.0 h.parts;
    }
