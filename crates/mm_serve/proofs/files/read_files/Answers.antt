use Rattle.std.proofs.Common.{◌++◌, ◌∷◌, [], map, arith, sym, subst, ◌∙◌, ap}
use Rattle.std.proofs.lemmas.List.{map-append}
use Rattle.std.specs.List.{AllZip}
use Rattle.mm_base.proofs.Lists.{all_push, zip_push, error_keeps}
use Rattle.mm_serve.specs.Folder.{IsHeld, plain_read}
use Rattle.mm_serve.specs.ReadFiles.{IsReadAs}
use Rattle.mm_serve.proofs.FilesRead.{comes_next, file_fault_at, more_bytes, more_names}
use Rattle.mm_serve.proofs.files.read_files.Goals as goal

pub loop-name-preserved : goal.loop-name-preserved
loop-name-preserved g c =
    let (wholes, named, held, count, reads) = c.loop-name.invariant in
    let (whole, name, is_held, size, read) = c.in_ok-file.ensures.read in (
      wholes ++ whole ∷ [],
      more_names wholes whole c.args.names.now c.loop-name.name-index _ c.loop-name-test.true named name,
      all_push (IsHeld (g.F.Folder.holds c.args.folder.now)) wholes whole held is_held,
      omega (arith, count, size, more_bytes wholes whole, c.in_ok-file.ensures.within),
      subst (λ l. AllZip (IsReadAs c.args.comments) (wholes ++ whole ∷ []) l)
          (sym (ap (map plain_read) c.in_ok-push.ensures.items ∙ map-append plain_read c.loop-name.files.items (c.in_ok-file.file ∷ [])))
          (zip_push (IsReadAs c.args.comments) wholes (map plain_read c.loop-name.files.items) whole (plain_read c.in_ok-file.file) reads read),
    )

pub returns-in_err-file-clause-fault : goal.returns-in_err-file-clause-fault
returns-in_err-file-clause-fault g c =
    let (wholes, named, held, count, reads) = c.loop-name.invariant in
    let next = comes_next (g.F.Folder.holds c.args.folder.now) c.args.names.now c.args.max c.loop-name.name-index _ wholes c.loop-name.left
    (omega arith) named held count in
    error_keeps _ _ _ c.from_residual.ensures.1
    (file_fault_at _ (g.F.Folder.may_fail c.args.folder.now) c.args.names.now _ _ _ next count c.in_err-file.field-0.0
    c.in_err-file.ensures.named c.in_err-file.ensures.unreadable c.in_err-file.ensures.too_long)
