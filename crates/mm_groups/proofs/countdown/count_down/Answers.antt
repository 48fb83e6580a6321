-- One less is left for the label, if it is one of those that are counted.
use Rattle.std.proofs.Common.{sym, ap, ◌∙◌}
use Rattle.std.specs.Option.{option_copied}
use Rattle.mm_groups.proofs.LabelTimes.{none_less, one_less, same_key}
use Rattle.mm_groups.proofs.countdown.count_down.Goals as goal

pub returns-in_ok-insert-in-Some : goal.returns-in_ok-insert-in-Some
returns-in_ok-insert-in-Some c = λ other.
    one_less c.args.label.now other.now _ _ _ _
    (λ same. sym (same_key c.args.left.now c.args.label other same) ∙ sym c.get.ensures.value
    ∙ ap option_copied c.in-Some.is)
    c.saturating_sub-less.ensures (c.in_ok-insert-in-Some.ensures.updates.0 other)

pub returns-in-None : goal.returns-in-None
returns-in-None c = λ other.
    none_less c.args.label.now other.now _
    (λ same. sym (same_key c.args.left.now c.args.label other same) ∙ sym c.get.ensures.value
    ∙ ap option_copied c.in-None.is)
