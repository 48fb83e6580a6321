-- A proof is kept of each theorem, and of nothing else.
use Rattle.std.proofs.Common.{◌≡◌, List, Some, None, ap, subst, sym, Contains, IfSome, slice_get}
use Rattle.mm_rules.specs.Conclusion.{Conclusion, ProofUses, numbers_of}
use Rattle.mm_rules.specs.Rests.{AreRising}
use Rattle.mm_verdict.proofs.Verdicts.AcceptedStatements.{KeptWell, read_statements}
use Rattle.mm_verdict.proofs.Questions.TheoremsAgain.{kept_or_not}
use Rattle.mm_verdict.proofs.checked.Checked.is_theorem.Goals as goal

pub index_of-requires : goal.index_of-requires
index_of-requires c =
    let well = subst KeptWell c.self.view_is c.self.invariant in
    subst (λ (us : List ProofUses). AreRising (numbers_of us))
    (sym (ap (λ (v : Conclusion). v.uses) c.self.view_is)) well.backward.rising

pub returns : goal.returns
returns c = λ statements reads.
    let now : Conclusion = c.args.self.now in
    let well = subst KeptWell c.self.view_is c.self.invariant in
    let each = (read_statements now statements well.origin reads).kept.uses.proofs.each c.args.id.0 in
    let uses = ap (λ (v : Conclusion). v.uses) c.self.view_is in
    let k = kept_or_not (numbers_of now.uses) c.args.id.0 c.index_of.result
    (subst (λ (us : List ProofUses). IfSome c.index_of.result (λ at.
    slice_get (numbers_of us) at ≡ Some c.args.id.0)) uses c.index_of.ensures.found)
    (subst (λ (us : List ProofUses). c.index_of.result ≡ None
    → ¬ (Contains (numbers_of us) c.args.id.0)) uses c.index_of.ensures.none) in
    rw c.is_some.ensures ((λ is. each.0 (k.0 is)), λ there. k.1 (each.1 there))
