-- The bytes are those of the file of this database in which the theorem stands.
use Rattle.std.proofs.Common.{◌≡◌, List, map, ap, subst, sym}
use Rattle.mm_text.specs.Files.{PlainFile, plain_file}
use Rattle.mm_rules.specs.Conclusion.{Conclusion}
use Rattle.mm_render.specs.Mirror.Rewriting.{HoldsSpan}
use Rattle.mm_verdict.proofs.Verdicts.AcceptedStatements.{KeptWell}
use Rattle.mm_minimize.proofs.shorter_file.file_with_found.Goals as goal

pub bytes_of-old-requires : goal.bytes_of-old-requires
bytes_of-old-requires c =
    let well = subst KeptWell c.checked.view_is c.checked.invariant in
    subst (λ (fs : List PlainFile).
    HoldsSpan fs c.args.theorem.now.file c.args.theorem.now.span)
    (sym (ap (λ (v : Conclusion). v.files) c.checked.view_is))
    (c.requires.there well.origin.statements well.origin.accepted.reads)

pub file_with_text-requires : goal.file_with_text-requires
file_with_text-requires c =
    let well = subst KeptWell c.checked.view_is c.checked.invariant in
    subst (λ (fs : List PlainFile).
    HoldsSpan fs c.args.theorem.now.file c.args.theorem.now.span)
    (sym (ap (λ (v : Conclusion). v.files) c.checked.view_is))
    (c.requires.there well.origin.statements well.origin.accepted.reads)

pub returns-clause-put : goal.returns-clause-put
returns-clause-put c =
    let files : map plain_file c.checked.inside.files.now ≡ c.args.checked.now.files =
    ap (λ (v : Conclusion). v.files) c.checked.view_is in (
      _,
      _,
      rw files at c.bytes_of-old.ensures,
      c.in_ok-put.ensures.text,
      rw (files, c.deref.ensures.value) at c.in_ok-new.ensures,
    )
