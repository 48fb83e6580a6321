use Rattle.std.proofs.Common.{rules, ◌≡◌, ℕ, List, length, arith, slice_range, vec_len}
use Rattle.std.proofs.lemmas.Slice.Zip.{AllZip-long}
use Rattle.mm_base.proofs.Lists.{zip_append}
use Rattle.mm_frame.specs.declared.number.LabelId.{LabelId}
use Rattle.mm_step.specs.Tree.{tree, none, spelling}
use Rattle.mm_forms.specs.Spelled.{IsNumberOfLabel}
use Rattle.mm_step.proofs.ProofSteps.Derivations.{spelling-beside}
use Rattle.mm_forms.proofs.TreeBuilding.TreeWords.{kept_part, part_order, zip_part, parts_repeat}
use Rattle.mm_forms.proofs.words.VecLabelIdBuilder.repeat.Goals as goal

pub extend_from_within-requires-clause-start_le_end : goal.extend_from_within-requires-clause-start_le_end
extend_from_within-requires-clause-start_le_end c =
    let k = c.requires.2 in
    (part_order _ c.args.item _ (kept_part k.stack k.shelf c.args.item k.row k.kept k.label k.below k.has k.holds.parts)).0

pub extend_from_within-requires-clause-in_bounds : goal.extend_from_within-requires-clause-in_bounds
extend_from_within-requires-clause-in_bounds c =
    let k = c.requires.2 in
    let order = (part_order _ c.args.item _ (kept_part k.stack k.shelf c.args.item k.row k.kept k.label k.below k.has k.holds.parts)).1 in
    let whole = AllZip-long (λ (i : LabelId) (l : List ℕ). IsNumberOfLabel c.requires.1 i.0 l) c.args.self.now.items (spelling k.row) k.holds.labels_are in
    let long : vec_len c.args.self.now ≡ length c.args.self.now.items = search rules in
    omega arith

pub returns-clause-made : goal.returns-clause-made
returns-clause-made c first st stack shelf row kept steps label below has h =
    let R = λ (i : LabelId) (l : List ℕ). IsNumberOfLabel st i.0 l in
    let t = tree label below none in
    let old = c.args.self.now.items in
    let long = AllZip-long R old (spelling row) h.labels_are in
    let same : vec_len c.args.self.now ≡ length old = search rules in
    let part = kept_part stack shelf c.args.item row kept label below has h.parts in
    record {
      labels_are = rw (c.in_ok-extend_from_within.ensures.items, spelling-beside row t)
          (zip_append R old (spelling row) (slice_range old c.args.item.start c.args.item.end) (spelling t) h.labels_are (zip_part R old (spelling row) c.args.item t h.labels_are part));
      parts = parts_repeat stack shelf c.args.item _ row kept label below has (let l = c.len-start.ensures in omega arith)
          (let l = c.len-start.ensures in let n = c.len.ensures in let m = c.in_ok-extend_from_within.ensures.len in omega arith) h.parts;
    }
