-- The statements are those of the checked files.
use Rattle.std.proofs.Common.{◌≡◌, map, ap, ◌∙◌}
use Rattle.std.proofs.lemmas.Result.{IfOk-weaker}
use Rattle.mm_rules.specs.Conclusion.{Conclusion}
use Rattle.mm_text.specs.Files.{plain_file}
use Rattle.mm_with_lemmas.proofs.ReplaceableProofs.{stand_all}
use Rattle.mm_with_lemmas.proofs.replaced.proofs_stand.Goals as goal

pub returns : goal.returns
returns c =
    let same : map plain_file c.checked.inside.files.now ≡ c.args.checked.now.files =
    ap (λ (v : Conclusion). v.files) c.checked.view_is in
    IfOk-weaker c.are_met.result _ _
    (λ stand h t. stand_all c.args.checked.now c.in_ok-statements.statements
    (map plain_file c.checked.inside.files.now) c.args.number c.args.changes.now c.deref.result.now
    same c.in_ok-statements.ensures (c.deref.ensures.value ∙ c.in_ok-proofs.ensures) (h t))
    c.are_met.ensures
