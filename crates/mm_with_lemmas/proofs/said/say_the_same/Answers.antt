-- By the kind, the label and the symbols.
use Rattle.std.proofs.Common.{sym, ap, ◌∙◌}
use Rattle.mm_step.specs.Plain.{token_texts}
use Rattle.mm_with_lemmas.proofs.SaidAlike.{same_sentence}
use Rattle.mm_with_lemmas.proofs.said.say_the_same.Goals as goal

pub returns : goal.returns
returns c = λ t.
    same_sentence c.args.statement.now c.args.other.now
    (c.is_same_kind.ensures c.if-not-is_same_kind.false)
    (c.is_same_label.ensures c.if-not-is_same_label.false)
    (sym (ap token_texts c.deref.ensures.value) ∙ c.have_same_texts.ensures t
    ∙ ap token_texts c.deref-2.ensures.value)
