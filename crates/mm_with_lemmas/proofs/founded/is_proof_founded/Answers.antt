-- By what the old database has under the label of its theorem.
use Rattle.std.proofs.Common.{◌≡◌, List, Some, refl, slice_get, sym, ap, subst}
use Rattle.std.proofs.lemmas.Result.{IfOk-weaker}
use Rattle.mm_rules.specs.Conclusion.{Conclusion, ProofUses}
use Rattle.mm_with_lemmas.proofs.FoundedTheorems.{founded_new, founded_there}
use Rattle.mm_with_lemmas.proofs.founded.is_proof_founded.Goals as goal

pub returns-in-Some : goal.returns-in-Some
returns-in-Some c =
    let is_old = ap (λ (v : Conclusion). v.sentences) c.old.view_is in
    let is_new = ap (λ (v : Conclusion). v.sentences) c.new.view_is in
    let is_kept = ap (λ (v : Conclusion). v.uses) c.new.view_is in
    IfOk-weaker c.is_founded_by.result _ _
    (λ is h t u at. founded_there c.args.old.now c.args.new.now c.proof-id.result.0
    c.in-Some.former.0 u (rw (is_old, is_new) at c.in-Some.ensures.some)
    (c.proof-id.ensures u
    (subst (λ (us : List ProofUses). slice_get us c.args.at ≡ Some u) (sym is_kept) at)) (h t))
    c.is_founded_by.ensures

pub returns-in-None : goal.returns-in-None
returns-in-None c = λ t u at.
    let is_old = ap (λ (v : Conclusion). v.sentences) c.old.view_is in
    let is_new = ap (λ (v : Conclusion). v.sentences) c.new.view_is in
    let is_kept = ap (λ (v : Conclusion). v.uses) c.new.view_is in
    founded_new c.args.old.now c.args.new.now c.proof-id.result.0 u
    (rw (is_new, is_old) at (c.in-None.ensures.none refl))
    (c.proof-id.ensures u
    (subst (λ (us : List ProofUses). slice_get us c.args.at ≡ Some u) (sym is_kept) at))
