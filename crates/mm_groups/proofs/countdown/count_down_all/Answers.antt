-- One label more is named.
use Rattle.std.proofs.Common.{◌≡◌, ℕ, List, [], ◌∷◌, take, ap, sym, subst, ◌∙◌}
use denote.Ref.{Bor}
use Rattle.std.proofs.lemmas.List.{map_more, take_all}
use Rattle.indexmap.specs.IndexMap.{get}
use Rattle.mm_code.specs.Layout.{texts}
use Rattle.mm_groups.specs.Shared.{times_in}
use Rattle.mm_groups.specs.Mirror.Sets.{same_bytes, left_after}
use Rattle.mm_groups.proofs.LabelTimes.{left_none, named_after}
use Rattle.mm_groups.proofs.countdown.count_down_all.Goals as goal

pub loop-label-init : goal.loop-label-init
loop-label-init c = λ other. left_none _

pub loop-label-preserved : goal.loop-label-preserved
loop-label-preserved c = λ other.
    let labels = c.args.labels.now in
    let i = c.loop-label.label-index in
    named_after (texts (take i labels)) (_ ∷ []) other.now _ _ _ (c.loop-label.invariant other)
    (c.in_ok-count_down.ensures other)
    ∙ ap (λ (ls : List (List ℕ)). left_after (times_in ls other.now)
    (get same_bytes c.args.left.now other))
    (sym (map_more (λ (l : Bor (List ℕ)). l.now) labels i _ c.loop-label-test.true))

pub returns : goal.returns
returns c = λ other.
    subst (λ (ls : List (Bor (List ℕ))). get same_bytes c.loop-label.left other
    ≡ left_after (times_in (texts ls) other.now) (get same_bytes c.args.left.now other))
    (take_all c.loop-label.label-index c.args.labels.now c.loop-label-test.false)
    (c.loop-label.invariant other)
