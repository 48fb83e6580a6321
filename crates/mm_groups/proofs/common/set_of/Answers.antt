-- One label more is put into the set.
use Rattle.std.proofs.Common.{◌≡◌, ℕ, List, take, ap, sym, subst, ◌∙◌}
use denote.Ref.{Bor}
use Rattle.std.proofs.lemmas.List.{map_more, take_all}
use Rattle.indexmap.specs.IndexSet.{contains}
use Rattle.mm_code.specs.Layout.{texts}
use Rattle.mm_groups.specs.Shared.{is_in}
use Rattle.mm_groups.specs.Mirror.Sets.{same_bytes}
use Rattle.mm_groups.proofs.CommonLabels.{in_more}
use Rattle.mm_groups.proofs.common.set_of.Goals as goal

pub loop-label-preserved : goal.loop-label-preserved
loop-label-preserved c = λ label.
    let labels = c.args.labels.now in
    let i = c.loop-label.label-index in
    in_more (texts (take i labels)) _ label.now _ _ (c.in_ok-insert.ensures.updates.0 label)
    (c.loop-label.invariant label)
    ∙ ap (λ (ls : List (List ℕ)). is_in ls label.now)
    (sym (map_more (λ (l : Bor (List ℕ)). l.now) labels i _ c.loop-label-test.true))

pub returns : goal.returns
returns c =
    subst (λ (ls : List (Bor (List ℕ))). (label : Bor (List ℕ))
    → contains same_bytes c.loop-label.set label ≡ is_in (texts ls) label.now)
    (take_all c.loop-label.label-index c.args.labels.now c.loop-label-test.false)
    c.loop-label.invariant
