-- One more.
use Rattle.std.proofs.Common.{ℕ, List, Contains, map, get_or, sym, subst}
use Rattle.std.proofs.lemmas.List.{take_all}
use Rattle.std.proofs.lemmas.Option.{slice_get-get_or}
use Rattle.mm_base.proofs.Lists.{contains_from_at}
use Rattle.mm_frame.specs.declared.number.LabelId.{LabelId}
use Rattle.mm_frame.proofs.Names.NameNumbers.{get_mapped}
use Rattle.mm_with_lemmas.specs.Mirror.Using.{IsUseHeeded}
use Rattle.mm_with_lemmas.proofs.NamedUses.{each_more}
use Rattle.mm_with_lemmas.proofs.uses.are_heeded.Goals as goal

pub is_use_heeded-requires-clause-used : goal.is_use_heeded-requires-clause-used
is_use_heeded-requires-clause-used c =
    let number : LabelId → ℕ = λ l. l.0 in
    let used : List LabelId = c.args.used.now in
    let k : ℕ = c.loop-id.id-index in
    let x : LabelId = get_or used k (record { 0 = 0 }) in
    let at = slice_get-get_or used k (record { 0 = 0 }) c.loop-id-test.true in
    c.requires.used x.0
    (contains_from_at (map number used) x.0 (k, get_mapped number used k x at))

pub loop-id-preserved : goal.loop-id-preserved
loop-id-preserved c =
    each_more (IsUseHeeded c.args.old.now c.args.new.now c.args.theorem.0) c.args.used.now
    c.loop-id.id-index _ c.loop-id-test.true c.loop-id.invariant
    (c.is_use_heeded.ensures c.if-not-is_use_heeded.false)

pub returns : goal.returns
returns c = λ t n among.
    c.loop-id.invariant n
    (subst (λ (ids : List LabelId). Contains (map (λ (i : LabelId). i.0) ids) n)
    (sym (take_all c.loop-id.id-index c.args.used.now c.loop-id-test.false)) among)
