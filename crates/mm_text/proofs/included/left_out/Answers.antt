use Rattle.std.proofs.Common.{◌≡◌, ◌≤◌, false, map, length, replicate, ap, sym, ◌∙◌, arith}
use Rattle.std.proofs.lemmas.List.{length-map, length-replicate, with_items_is}
use Rattle.mm_text.specs.Files.{plain_file}
use Rattle.mm_text.specs.Items.{items}
use Rattle.mm_text.specs.Mirror.Included.{met_with, unmet}
use Rattle.mm_text.proofs.Inclusions.FilesLeftOut.{items_of_files, unmet_is_left_out}
use Rattle.mm_text.proofs.Inclusions.FilesLeftOut.{length-met_with, left_out-few}
use Rattle.mm_text.proofs.included.left_out.Goals as goal

pub returns-then-files-le1-clause-whole : goal.returns-then-files-le1-clause-whole
returns-then-files-le1-clause-whole c =
    let files = map plain_file c.args.files.now in
    let few : length files ≤ 1 = omega (arith, length-map c.args.files.now plain_file) in
    λ whole. c.new.ensures.items ∙ sym (left_out-few files few)

pub meet_items-requires : goal.meet_items-requires
meet_items-requires c =
    let files = map plain_file c.args.files.now in
    let met = c.deref_mut.result.now in
    let many : length met ≡ length files =
    ap length c.deref_mut.ensures.value
    ∙ ap length (c.in_ok-met.ensures.items_if_clones_equal (λ y h. h))
    ∙ length-replicate _ _ ∙ sym (length-map c.args.files.now plain_file) in
    rw (c.in-Ok.ensures.0, many) (items_of_files files)

pub returns-clause-whole : goal.returns-clause-whole
returns-clause-whole c =
    let files = map plain_file c.args.files.now in
    let met = c.deref_mut.result.now in
    let fresh : met ≡ replicate (length files) false =
    c.deref_mut.ensures.value ∙ c.in_ok-met.ensures.items_if_clones_equal (λ y h. h)
    ∙ ap (λ count. replicate count false) (sym (length-map c.args.files.now plain_file)) in
    let long = ap length c.meet_items.ensures ∙ length-met_with met c.in-Ok.cursor
    ∙ c.deref_mut.ensures.len in
    let made : c.deref.result.now ≡ met_with (replicate (length files) false) (items files) =
    c.deref.ensures.value ∙ with_items_is c.in_ok-met.met c.meet_items.new.met long
    ∙ c.meet_items.ensures ∙ (λ i. met_with (fresh i) (c.in-Ok.ensures.0 i)) in
    λ whole.
    rw (ap unmet made ∙ unmet_is_left_out files) at c.unmet.ensures
