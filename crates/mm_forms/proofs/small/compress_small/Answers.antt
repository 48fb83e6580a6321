use Rattle.std.proofs.Common.{ℕ, arith, subst, sym, ⊎_elim}
use Rattle.std.proofs.lemmas.List.{length-map}
use Rattle.mm_frame.proofs.Rules.ObeyedRules.{allmeant_prefix}
use Rattle.mm_forms.specs.declared.packing.Packed.{Packed}
use Rattle.mm_step.specs.Tree.{Trees, tree, none}
use Rattle.mm_forms.specs.BigSubtrees.{IsBig}
use Rattle.mm_forms.specs.ChosenSharing.{IsWorthATag}
use Rattle.mm_step.specs.Plain.{label_ids}
use Rattle.mm_forms.specs.SmallProofs.{AreSmall}
use Rattle.mm_forms.specs.Mirror.CodeSmall.{AreListedByUse}
use Rattle.mm_forms.proofs.SmallProofs.SmallTrees.{few_ids, small_made, chosen_small, full_small}
use Rattle.mm_forms.proofs.small.compress_small.Goals as goal

pub list_by_use-requires : goal.list_by_use-requires
list_by_use-requires c =
    let st = c.args.book.now.statements in
    let a = c.requires.steps in
    let t = c.requires.makes a.index a.s a.moves a.proof a.numbered in
    let packed = c.in_ok-both.ensures.full a.index a.s a.moves a.proof a.numbered t.0 t.1 t.2 in
    let its = c.frame.ensures.index in
    let many = length-map c.hypotheses-own.result.now (λ h. h.id.0) in
    let few = c.hypotheses-own.ensures.few in
    let h = few_ids st c.args.id.0 a.index a.s its.0 c.frame.result (tree t.0 t.1 none)
    c.in_ok-both.both.full.labels.items c.in_ok-both.both.full.codes.items
    (label_ids c.hypotheses-own.result.now) IsBig c.frame.ensures.sound a.proof.numbered
    c.frame.ensures.book its.1 c.hypotheses-own.ensures.ids packed c.in_ok-both.ensures.exact.0
    (omega (arith, many, few)) in
    omega (arith, h, many)

pub list_by_use-requires-2 : goal.list_by_use-requires-2
list_by_use-requires-2 c =
    let st = c.args.book.now.statements in
    let a = c.requires.steps in
    let t = c.requires.makes a.index a.s a.moves a.proof a.numbered in
    let packed = c.in_ok-both.ensures.chosen a.index a.s a.moves a.proof a.numbered t.0 t.1 t.2
    in
    let its = c.frame.ensures.index in
    let many = length-map c.hypotheses-own.result.now (λ h. h.id.0) in
    let few = c.hypotheses-own.ensures.few in
    let h = few_ids st c.args.id.0 a.index a.s its.0 c.frame.result (tree t.0 t.1 none)
    c.in_ok-both.both.chosen.labels.items c.in_ok-both.both.chosen.codes.items
    (label_ids c.hypotheses-own.result.now) IsWorthATag c.frame.ensures.sound a.proof.numbered
    c.frame.ensures.book its.1 c.hypotheses-own.ensures.ids packed c.in_ok-both.ensures.exact.1
    (omega (arith, many, few)) in
    omega (arith, h, many)

pub returns-clause-small : goal.returns-clause-small
returns-clause-small c index s moves proof numbered label below makes =
    let st = c.args.book.now.statements in
    let trees : Trees = tree label below none in
    let sound = c.frame.ensures.sound in
    let its = c.frame.ensures.index in
    let numbers = label_ids c.hypotheses-own.result.now in
    let many = length-map c.hypotheses-own.result.now (λ h. h.id.0) in
    let meant = allmeant_prefix st index sound.0 in
    let packed = c.in_ok-both.ensures.full index s moves proof numbered label below makes in
    let full = small_made st c.args.id.0 index s its.0 c.frame.result trees
    c.in_ok-both.both.full.labels.items c.in_ok-both.both.full.codes.items numbers IsBig sound
    proof.numbered c.frame.ensures.book its.1 c.hypotheses-own.ensures.ids packed
    c.in_ok-full.full.labels.items c.in_ok-full.full.codes.items
    (subst (λ (n : ℕ). AreListedByUse n c.in_ok-both.both.full.labels.items
    c.in_ok-both.both.full.codes.items c.in_ok-full.full.labels.items
    c.in_ok-full.full.codes.items) (sym many) c.in_ok-full.ensures.listed) in
    let packed' = c.in_ok-both.ensures.chosen index s moves proof numbered label below makes in
    let chosen = small_made st c.args.id.0 index s its.0 c.frame.result trees
    c.in_ok-both.both.chosen.labels.items c.in_ok-both.both.chosen.codes.items numbers IsWorthATag
    sound proof.numbered c.frame.ensures.book its.1 c.hypotheses-own.ensures.ids packed'
    c.in_ok-chosen.chosen.labels.items c.in_ok-chosen.chosen.codes.items
    (subst (λ (n : ℕ). AreListedByUse n c.in_ok-both.both.chosen.labels.items
    c.in_ok-both.both.chosen.codes.items c.in_ok-chosen.chosen.labels.items
    c.in_ok-chosen.chosen.codes.items) (sym many) c.in_ok-chosen.ensures.listed) in
    ⊎_elim
    (λ h. subst (λ (p : Packed). AreSmall st index s trees p.labels.items p.codes.items) (sym h.0)
    (chosen_small st index s trees meant c.in_ok-full.full.labels.items
    c.in_ok-chosen.chosen.labels.items c.in_ok-full.full.codes.items
    c.in_ok-chosen.chosen.codes.items full chosen h.1))
    (λ h. subst (λ (p : Packed). AreSmall st index s trees p.labels.items p.codes.items) (sym h.0)
    (full_small st index s trees meant c.in_ok-full.full.labels.items
    c.in_ok-chosen.chosen.labels.items c.in_ok-full.full.codes.items
    c.in_ok-chosen.chosen.codes.items full chosen h.1))
    c.fewer_letters.ensures

pub returns-clause-steps : goal.returns-clause-steps
returns-clause-steps c index s moves proof numbered label below makes =
    let packed = c.in_ok-both.ensures.full index s moves proof numbered label below makes in
    (packed.0, c.in_ok-both.both.full.codes.items, packed.2, c.in_ok-both.ensures.steps)
