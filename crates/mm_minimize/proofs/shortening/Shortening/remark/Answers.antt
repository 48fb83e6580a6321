-- There is a remark for each label.
use Rattle.std.proofs.Common.{◌≡◌, ◌<◌, List, length, slice_get, Some, sym, ap, subst, ◌∙◌, arith}
use Rattle.std.proofs.lemmas.Option.{slice_get-get_or}
use Rattle.mm_minimize.specs.declared.remarks.Remark.{Remark}
use Rattle.mm_rules.specs.Conclusion.{Conclusion}
use Rattle.mm_minimize.proofs.ShorterTheorems.StatementRemarks.{remarks_count}
use Rattle.mm_verdict.proofs.Verdicts.AcceptedStatements.{KeptWell}
use Rattle.mm_minimize.proofs.shortening.Shortening.remark.Goals as goal

pub returns : goal.returns
returns c = λ statements index s reads at.
    let now : Conclusion = c.args.self.now.checked.now in
    let well : KeptWell now = subst KeptWell c.checked.view_is c.checked.invariant in
    let remarks : List Remark = c.args.self.now.remarks.items in
    let r : Remark = c.index.result.now in
    let count = remarks_count now remarks well.origin c.requires.known.said in
    let within = c.requires.within in
    let less : c.args.id.0 < length remarks = omega arith in
    let there : slice_get remarks c.args.id.0 ≡ Some r =
    slice_get-get_or remarks c.args.id.0 r less ∙ ap (λ (x : Remark). Some x) (sym c.index.ensures) in
    (c.requires.known.said statements reads).each c.args.id.0 index s r at there
