-- One label more is kept, or isn't among the others.
use Rattle.std.proofs.Common.{◌≡◌, ◌+◌, [], ℕ, List, filter, take, ap, sym, subst, ◌∙◌}
use denote.Ref.{Bor}
use Rattle.std.proofs.lemmas.List.{map-append, map_more, take_all}
use Rattle.mm_code.specs.Layout.{texts}
use Rattle.mm_groups.specs.Shared.{is_in}
use Rattle.mm_groups.proofs.NamedLabels.{kept_more, kept_same}
use Rattle.mm_groups.proofs.common.common.Goals as goal

pub loop-label-preserved-then-not-contains : goal.loop-label-preserved-then-not-contains
loop-label-preserved-then-not-contains c =
    let labels = c.args.labels.now in
    let i = c.loop-label.label-index in
    kept_same (is_in (texts c.args.others.now)) [] (texts (take i labels))
    (texts (take (i + 1) labels)) (texts c.loop-label.both.items) _ c.loop-label.invariant
    (map_more (λ (l : Bor (List ℕ)). l.now) labels i _ c.loop-label-test.true)
    (sym (c.in_ok-set.ensures (record { ref_ptr = (0, 0); now = _ })) ∙ sym c.contains.ensures ∙ c.if-not-contains.true)

pub loop-label-preserved : goal.loop-label-preserved
loop-label-preserved c =
    let labels = c.args.labels.now in
    let i = c.loop-label.label-index in
    ap texts c.in_ok-push.ensures.items
    ∙ map-append (λ t. t.now) c.loop-label.both.items _
    ∙ kept_more (is_in (texts c.args.others.now)) [] (texts (take i labels))
    (texts (take (i + 1) labels)) (texts c.loop-label.both.items) _ c.loop-label.invariant
    (map_more (λ (l : Bor (List ℕ)). l.now) labels i _ c.loop-label-test.true)
    (sym (c.in_ok-set.ensures (record { ref_ptr = (0, 0); now = _ })) ∙ sym c.contains.ensures ∙ c.if-not-contains.false)

pub returns : goal.returns
returns c =
    subst (λ (ls : List (Bor (List ℕ))). texts c.loop-label.both.items
    ≡ filter (is_in (texts c.args.others.now)) (texts ls))
    (take_all c.loop-label.label-index c.args.labels.now c.loop-label-test.false)
    c.loop-label.invariant
