-- One more.
use Rattle.std.proofs.Common.{◌≡◌, ℕ, List, length, inl, inr, ap, subst, arith, Some}
use Rattle.std.proofs.Common.{slice_get}
use Rattle.std.proofs.lemmas.Bool.{cases_eq}
use Rattle.std.proofs.lemmas.Option.{slice_get_within}
use Rattle.mm_base.proofs.Lists.{at_from_contains}
use Rattle.mm_rules.specs.Conclusion.{Conclusion, ProofUses}
use Rattle.mm_with_lemmas.proofs.uses.are_proofs_heeded.Goals as goal

pub loop-at-preserved : goal.loop-at-preserved
loop-at-preserved c = record {
  below = c.is_proof_heeded.ensures.marks;
  heeded = λ i u less there. elim (cases_eq i c.loop-at.at) [
    | inl same ↦
        c.is_proof_heeded.ensures.heeded c.if-not-is_proof_heeded.false u
        (subst (λ (k : ℕ). slice_get c.args.new.now.uses k ≡ Some u) same there)
    | inr other ↦ c.loop-at.invariant.heeded i u (omega arith) there
  ];
}

pub returns : goal.returns
returns c = λ t u among.
    let uses : List ProofUses = c.args.new.now.uses in
    let (i, there) = at_from_contains uses u among in
    let less = slice_get_within uses i u there in
    let count = ap (λ (v : Conclusion). length v.uses) c.new.view_is in
    let end = c.loop-at-test.false in
    let long = c.len-at-end.ensures in
    c.loop-at.invariant.heeded i u (omega arith) there
