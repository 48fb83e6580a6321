-- One more.
use Rattle.std.proofs.Common.{ℕ, List, Contains, map, get_or, sym, subst}
use Rattle.std.proofs.lemmas.List.{take_all}
use Rattle.std.proofs.lemmas.Option.{slice_get-get_or}
use Rattle.mm_base.proofs.Lists.{contains_from_at}
use Rattle.mm_text.specs.Files.{PlainFile}
use Rattle.mm_frame.specs.declared.number.LabelId.{LabelId}
use Rattle.mm_frame.proofs.Names.NameNumbers.{get_mapped}
use Rattle.mm_minimize.specs.Remarks.{AreRemarks}
use Rattle.mm_with_lemmas.specs.Mirror.Using.{MayUseAt}
use Rattle.mm_with_lemmas.proofs.NamedUses.{each_more}
use Rattle.mm_with_lemmas.proofs.uses.may_newly_use_all.Goals as goal

pub may_newly_use-requires-clause-used : goal.may_newly_use-requires-clause-used
may_newly_use-requires-clause-used c =
    let number : LabelId → ℕ = λ l. l.0 in
    let used : List LabelId = c.args.used.now in
    let k : ℕ = c.loop-id.id-index in
    let x : LabelId = get_or used k (record { 0 = 0 }) in
    let at = slice_get-get_or used k (record { 0 = 0 }) c.loop-id-test.true in
    c.requires.used x.0
    (contains_from_at (map number used) x.0 (k, get_mapped number used k x at))

pub loop-id-preserved : goal.loop-id-preserved
loop-id-preserved c =
    each_more (λ (n : ℕ). (files : List PlainFile) → AreRemarks files c.args.remarks.now
    → MayUseAt files c.args.theorem.0 n) c.args.used.now c.loop-id.id-index _ c.loop-id-test.true
    c.loop-id.invariant
    (c.may_newly_use.ensures c.if-not-may_newly_use.false)

pub returns : goal.returns
returns c = λ t n among.
    c.loop-id.invariant n
    (subst (λ (ids : List LabelId). Contains (map (λ (i : LabelId). i.0) ids) n)
    (sym (take_all c.loop-id.id-index c.args.used.now c.loop-id-test.false)) among)
