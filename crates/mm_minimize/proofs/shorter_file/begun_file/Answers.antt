-- The files have no more bytes than they may.
use Rattle.std.proofs.Common.{List, map, ◌≡◌, ◌≤◌, [], ap, subst, sym}
use Rattle.mm_text.specs.Files.{PlainFile, plain_file, total_bytes}
use Rattle.mm_base.specs.MostBytes.{most_bytes}
use Rattle.mm_rules.specs.Conclusion.{Conclusion}
use Rattle.mm_save.specs.Mirror.AllSaving.{IsWrittenSoFar}
use Rattle.mm_verdict.proofs.Verdicts.AcceptedStatements.{KeptWell, within_limit}
use Rattle.mm_minimize.proofs.shorter_file.begun_file.Goals as goal

pub returns-clause-begun : goal.returns-clause-begun
returns-clause-begun c =
    let now : Conclusion = c.args.checked.now in
    let well = subst KeptWell c.checked.view_is c.checked.invariant in
    let files : map plain_file c.checked.inside.files.now ≡ now.files =
    ap (λ (v : Conclusion). v.files) c.checked.view_is in
    subst (λ (fs : List PlainFile). IsWrittenSoFar fs [] c.new_file.result) files
    (c.new_file.ensures.begun
    (subst (λ (fs : List PlainFile). total_bytes fs ≤ most_bytes) (sym files)
    (within_limit now.files well.origin.accepted.readable)))
