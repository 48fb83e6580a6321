use Rattle.std.proofs.Common.{rules, ◌≡◌, ℕ, List, length, arith, vec_len}
use Rattle.std.proofs.lemmas.Slice.Zip.{AllZip-long}
use Rattle.mm_base.proofs.Lists.{zip_push}
use Rattle.mm_frame.specs.declared.number.LabelId.{LabelId}
use Rattle.mm_step.specs.Tree.{spelling, beside}
use Rattle.mm_forms.specs.Spelled.{IsNumberOfLabel}
use Rattle.mm_proof.proofs.ProofTokens.SpelledOver.{spelling_over}
use Rattle.mm_forms.proofs.TreeBuilding.TreeWords.{parts_make}
use Rattle.mm_forms.proofs.words.VecLabelIdBuilder.make.Goals as goal

pub returns-clause-made : goal.returns-clause-made
returns-clause-made c first st stack shelf rest below kept steps label named many h =
    let R = λ (i : LabelId) (l : List ℕ). IsNumberOfLabel st i.0 l in
    let old = c.args.self.now.items in
    let long = AllZip-long R old (spelling (beside rest below)) h.labels_are in
    let same : vec_len c.args.self.now ≡ length old = search rules in
    record {
      labels_are = rw (c.in_ok-push.ensures.items, spelling_over rest below label)
          (zip_push R old (spelling (beside rest below)) c.args.id label h.labels_are named);
      parts = parts_make stack c.args.below.now shelf _ rest below kept label c.len.result many (let l = c.len.ensures in omega arith) c.start_of-start.ensures
          (let l = c.len.ensures in let n = c.len-2.ensures in let m = c.in_ok-push.ensures.len in omega arith) h.parts;
    }
