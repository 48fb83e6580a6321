-- The list is what stands before the first `)`.
use Rattle.std.proofs.Common.{◌-◌, length, take, drop, sym, ap, ◌∙◌}
use Rattle.std.proofs.lemmas.List.{take-map}
use Rattle.mm_base.specs.declared.token.Token.{Token}
use Rattle.mm_step.specs.Plain.{token_texts}
use Rattle.mm_groups.proofs.NamedLabels.{listed}
use Rattle.mm_groups.proofs.labels.named_labels.Goals as goal

pub returns-in-len1-up : goal.returns-in-len1-up
returns-in-len1-up c =
    let rest = take (length c.args.tokens.now - 1) (drop 1 c.args.tokens.now) in
    sym (take-map (λ (t : Token). t.text.now) c.count_before_closing.result rest)
    ∙ ap (λ n. take n (token_texts rest)) c.count_before_closing.ensures.first
    ∙ listed c.args.tokens.now (sym c.begins_list.ensures.begun ∙ c.if-begins_list.true)
