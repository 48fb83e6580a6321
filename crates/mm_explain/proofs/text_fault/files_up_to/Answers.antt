-- The cut file stands in the place of the whole one, if there is one.
use Rattle.std.proofs.Common.{◌≡◌, List, length, map, refl, ap, ◌∙◌, slice_set, arith, get_or}
use Rattle.mm_base.specs.declared.file.File.{File}
use Rattle.mm_text.specs.Files.{plain_file}
use Rattle.mm_explain.proofs.CutFiles.{cut_made, none_cut}
use Rattle.mm_explain.proofs.text_fault.files_up_to.Goals.{then-file-len, else-file-len}
use Rattle.mm_explain.proofs.text_fault.files_up_to.Goals as goal

pub returns : goal.returns
returns c =
    let items : c.in_ok-cut.cut.items ≡ c.args.files.now = c.in_ok-cut.ensures.items in
    let long : c.len.result ≡ length c.args.files.now = c.len.ensures ∙ c.in_ok-cut.ensures.len in
    elim c.if-file-len.branch [
      | then-file-len w ↦
          let whole : File = w.index-whole.result.now in
          let cut : File = record { name = whole.name; bytes = w.bytes_before.result } in
          ap (λ v. map plain_file v.items) w.cut-is
          ∙ ap (λ (fs : List File). map plain_file (slice_set fs c.args.file cut)) items
          ∙ cut_made c.args.files.now c.args.file c.args.at whole cut
          (let less = w.if-file-len.true in omega (arith, less, long))
          (w.index-whole.ensures
          ∙ ap (λ (fs : List File). get_or fs c.args.file whole) items) refl
          w.bytes_before.ensures
      | else-file-len w ↦
          ap (λ v. map plain_file v.items) w.cut-is ∙ ap (map plain_file) items
          ∙ none_cut c.args.files.now c.args.file c.args.at
          (let past = w.if-file-len.false in omega (arith, past, long))
    ]
