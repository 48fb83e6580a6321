-- The label of a number is that of its sentence.
use Rattle.std.proofs.Common.{◌<◌, ℕ, List, subst, sym}
use Rattle.mm_frame.specs.Sentence.{Sentence}
use Rattle.mm_rules.proofs.Numbers.{count_labelled, label_named}
use Rattle.mm_diff.proofs.text.name_of.Goals as goal

pub returns : goal.returns
returns c =
    let st : List Sentence = c.args.book.now.statements in
    label_named (λ (s : Sentence). s.label) st c.args.number.0 c.label.result.now
    (subst (λ (k : ℕ). c.args.number.0 < k) (sym (count_labelled (λ (s : Sentence). s.label) st))
    c.requires)
    (λ s at. c.label.ensures s at)
