-- What has the stamp is what the theorem used.
use Rattle.std.proofs.Common.{◌≡◌, ◌<◌, ℕ, List, [], length, get_or, Some, slice_get, map}
use Rattle.std.proofs.Common.{sym, ap, subst}
use Rattle.std.proofs.lemmas.Option.{slice_get-get_or}
use Rattle.mm_base.proofs.Lists.{contains_from_at}
use Rattle.mm_frame.specs.declared.number.LabelId.{LabelId}
use Rattle.mm_rules.specs.Conclusion.{Conclusion, ProofUses}
use Rattle.mm_rules.specs.Mirror.Marks.{UsedIn}
use Rattle.mm_verdict.proofs.Verdicts.AcceptedStatements.{KeptWell}
use Rattle.mm_with_lemmas.specs.Mirror.Founding.{IsFormer}
use Rattle.mm_with_lemmas.specs.Mirror.Using.{IsUseHeeded}
use Rattle.mm_with_lemmas.proofs.HeededUses.{proof_remarked, use_remarked, were_used}
use Rattle.mm_with_lemmas.proofs.uses.is_former_heeded.Goals as goal

pub are_heeded-requires-clause-stamped : goal.are_heeded-requires-clause-stamped
are_heeded-requires-clause-stamped c =
    let old : Conclusion = c.args.old.now in
    let new : Conclusion = c.args.new.now in
    let is_kept = ap (λ (v : Conclusion). v.uses) c.new.view_is in
    let was_kept = ap (λ (v : Conclusion). v.uses) c.old.view_is in
    let u : ProofUses = get_or new.uses c.args.at (record { number = 0; used = [] }) in
    let there = slice_get-get_or new.uses c.args.at (record { number = 0; used = [] })
    c.requires.within in
    let number = c.proof-theorem.ensures u
    (subst (λ (us : List ProofUses). slice_get us c.args.at ≡ Some u) (sym is_kept) there) in
    were_used old new c.proof-theorem.result.0 c.args.former.0 c.args.stamp c.stamp_all.new.marks
    (map (λ (l : LabelId). l.0) c.used_by.result.now)
    (subst (λ (n : ℕ). IsFormer old.sentences new.sentences n c.args.former.0) (sym number)
    (c.requires.former u there)) c.stamp_all.ensures.stamped
    (λ n among. subst (λ (us : List ProofUses). UsedIn us c.args.former.0 n) was_kept
    ((c.used_by.ensures n).0 among))

pub are_heeded-requires-clause-theorem : goal.are_heeded-requires-clause-theorem
are_heeded-requires-clause-theorem c =
    let new : Conclusion = c.args.new.now in
    let well = subst KeptWell c.new.view_is c.new.invariant in
    let is_kept = ap (λ (v : Conclusion). v.uses) c.new.view_is in
    let u : ProofUses = get_or new.uses c.args.at (record { number = 0; used = [] }) in
    let there = slice_get-get_or new.uses c.args.at (record { number = 0; used = [] })
    c.requires.within in
    subst (λ (n : ℕ). n < length c.args.remarks.now)
    (sym (c.proof-theorem.ensures u
    (subst (λ (us : List ProofUses). slice_get us c.args.at ≡ Some u) (sym is_kept) there)))
    (proof_remarked new c.args.remarks.now u well c.requires.said
    (contains_from_at new.uses u (c.args.at, there)))

pub are_heeded-requires-clause-used : goal.are_heeded-requires-clause-used
are_heeded-requires-clause-used c = λ n among.
    let new : Conclusion = c.args.new.now in
    let well = subst KeptWell c.new.view_is c.new.invariant in
    let is_kept = ap (λ (v : Conclusion). v.uses) c.new.view_is in
    let u : ProofUses = get_or new.uses c.args.at (record { number = 0; used = [] }) in
    let there = slice_get-get_or new.uses c.args.at (record { number = 0; used = [] })
    c.requires.within in
    use_remarked new c.args.remarks.now u n well c.requires.said
    (contains_from_at new.uses u (c.args.at, there))
    ((c.used.ensures u
    (subst (λ (us : List ProofUses). slice_get us c.args.at ≡ Some u) (sym is_kept) there) n).0
    among)

pub returns-clause-heeded : goal.returns-clause-heeded
returns-clause-heeded c = λ t u at n among.
    let is_kept = ap (λ (v : Conclusion). v.uses) c.new.view_is in
    let here = subst (λ (us : List ProofUses). slice_get us c.args.at ≡ Some u) (sym is_kept) at in
    subst (λ (k : ℕ). IsUseHeeded c.args.old.now c.args.new.now k n)
    (c.proof-theorem.ensures u here)
    (c.are_heeded.ensures t n ((c.used.ensures u here n).1 among))
