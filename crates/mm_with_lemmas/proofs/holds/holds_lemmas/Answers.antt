-- By the changes, and the parts of both readings.
use Rattle.std.proofs.Common.{◌≡◌, List, map, Some, slice_get, refl, sym, ap, subst}
use Rattle.std.proofs.lemmas.Bool.Decides.{Decides-ltb}
use Rattle.std.proofs.lemmas.Option.{slice_get_read}
use Rattle.std.proofs.lemmas.Result.{IfOk-weaker}
use Rattle.mm_frame.proofs.Names.NameNumbers.{get_mapped}
use Rattle.mm_text.specs.Files.{PlainFile, plain_file}
use Rattle.mm_rules.specs.Conclusion.{Conclusion}
use Rattle.mm_with_lemmas.proofs.HeldLemmas.{held_lemmas}
use Rattle.mm_with_lemmas.proofs.holds.holds_lemmas.Goals as goal

pub returns : goal.returns
returns c =
    let old : Conclusion = c.args.old.now in
    let file : PlainFile = plain_file c.in-Some.file.now in
    let files : map plain_file c.old.inside.files.now ≡ old.files =
    ap (λ (v : Conclusion). v.files) c.old.view_is in
    let there : slice_get old.files c.args.number ≡ Some file =
    subst (λ (fs : List PlainFile). slice_get fs c.args.number ≡ Some file) files
    (get_mapped plain_file c.old.inside.files.now c.args.number c.in-Some.file.now
    (slice_get_read c.old.inside.files.now _ c.args.number c.in-Some.file.now refl
    ((Decides-ltb c.args.number _).0 (sym c.in-Some.ensures.lookup.0))
    c.in-Some.ensures.lookup.1)) in
    IfOk-weaker c.are_parts_with-are.result _ _
    (λ are h t statements others reads reads_too.
    let (put, is, parts) = h t statements others reads reads_too in (
      file,
      there,
      held_lemmas old.files c.args.new.now.files statements others c.args.number file.bytes
          c.args.bytes.now c.args.changes.now put
          (c.in_ok-proofs_stand.ensures c.if-not-branch.false statements reads) is
          (c.are_edited.ensures.apart c.if-not-are_edited.false)
          (c.are_edited.ensures.whole c.if-not-are_edited.false)
          (c.are_edited.ensures.no_longer c.if-not-are_edited.false)
          parts,
    ))
    c.are_parts_with-are.ensures
