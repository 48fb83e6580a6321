-- Its theorem was there, or it wasn't and so it may use what it may use newly.
use Rattle.std.proofs.Common.{◌≡◌, ◌<◌, ℕ, List, [], length, get_or, Some, slice_get}
use Rattle.std.proofs.Common.{inl, inr, refl, sym, ap, subst}
use Rattle.std.proofs.lemmas.Option.{slice_get-get_or}
use Rattle.mm_base.proofs.Lists.{contains_from_at}
use Rattle.mm_rules.specs.Conclusion.{Conclusion, ProofUses}
use Rattle.mm_verdict.proofs.Verdicts.AcceptedStatements.{KeptWell}
use Rattle.mm_with_lemmas.specs.Mirror.Founding.{IsFormer}
use Rattle.mm_with_lemmas.specs.Mirror.Using.{IsUseHeeded}
use Rattle.mm_with_lemmas.proofs.HeededUses.{below_later, proof_remarked, use_remarked}
use Rattle.mm_with_lemmas.proofs.uses.is_proof_heeded.Goals as goal

pub is_former_heeded-requires-clause-former : goal.is_former_heeded-requires-clause-former
is_former_heeded-requires-clause-former c = λ u at.
    let old : Conclusion = c.args.old.now in
    let new : Conclusion = c.args.new.now in
    let is_old = ap (λ (v : Conclusion). v.sentences) c.old.view_is in
    let is_new = ap (λ (v : Conclusion). v.sentences) c.new.view_is in
    let is_kept = ap (λ (v : Conclusion). v.uses) c.new.view_is in
    let number = c.proof-theorem.ensures u
    (subst (λ (us : List ProofUses). slice_get us c.args.at ≡ Some u) (sym is_kept) at) in
    subst (λ (n : ℕ). IsFormer old.sentences new.sentences n c.in-Some.former.0) number
    (rw (is_old, is_new) at c.in-Some.ensures.some)

pub may_newly_use_all-requires-clause-theorem : goal.may_newly_use_all-requires-clause-theorem
may_newly_use_all-requires-clause-theorem c =
    let new : Conclusion = c.args.new.now in
    let well = subst KeptWell c.new.view_is c.new.invariant in
    let is_kept = ap (λ (v : Conclusion). v.uses) c.new.view_is in
    let u : ProofUses = get_or new.uses c.args.at (record { number = 0; used = [] }) in
    let there = slice_get-get_or new.uses c.args.at (record { number = 0; used = [] })
    c.requires.within in
    subst (λ (n : ℕ). n < length c.args.remarks.now)
    (sym (c.proof-theorem.ensures u
    (subst (λ (us : List ProofUses). slice_get us c.args.at ≡ Some u) (sym is_kept) there)))
    (proof_remarked new c.args.remarks.now u well c.requires.said
    (contains_from_at new.uses u (c.args.at, there)))

pub may_newly_use_all-requires-clause-used : goal.may_newly_use_all-requires-clause-used
may_newly_use_all-requires-clause-used c = λ n among.
    let new : Conclusion = c.args.new.now in
    let well = subst KeptWell c.new.view_is c.new.invariant in
    let is_kept = ap (λ (v : Conclusion). v.uses) c.new.view_is in
    let u : ProofUses = get_or new.uses c.args.at (record { number = 0; used = [] }) in
    let there = slice_get-get_or new.uses c.args.at (record { number = 0; used = [] })
    c.requires.within in
    use_remarked new c.args.remarks.now u n well c.requires.said
    (contains_from_at new.uses u (c.args.at, there))
    ((c.used.ensures u
    (subst (λ (us : List ProofUses). slice_get us c.args.at ≡ Some u) (sym is_kept) there) n).0
    among)

pub returns-in-None-clause-marks : goal.returns-in-None-clause-marks
returns-in-None-clause-marks c = below_later c.args.stamp c.args.marks.now c.requires.marks

pub returns-in-None-clause-heeded : goal.returns-in-None-clause-heeded
returns-in-None-clause-heeded c = λ t u at n among.
    let is_old = ap (λ (v : Conclusion). v.sentences) c.old.view_is in
    let is_new = ap (λ (v : Conclusion). v.sentences) c.new.view_is in
    let is_kept = ap (λ (v : Conclusion). v.uses) c.new.view_is in
    let here = subst (λ (us : List ProofUses). slice_get us c.args.at ≡ Some u) (sym is_kept) at in
    subst (λ (k : ℕ). IsUseHeeded c.args.old.now c.args.new.now k n)
    (c.proof-theorem.ensures u here)
    (inr (
      inl (rw (is_new, is_old) at (c.in-None.ensures.none refl)),
      c.may_newly_use_all.ensures t n ((c.used.ensures u here n).1 among) c.args.new.now.files
          c.requires.said,
    ))
