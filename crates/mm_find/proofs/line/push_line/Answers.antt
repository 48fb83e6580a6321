-- The words follow one another.
use Rattle.std.proofs.Common.{ap, ◌∙◌, ◌++◌, List, ℕ, codes}
use Rattle.mm_base.specs.Statement.{keyword_of}
use Rattle.mm_code.specs.Layout.{texts}
use Rattle.mm_rules.specs.Shown.{symbols_text}
use Rattle.mm_find.specs.Found.{premises}
use Rattle.mm_find.specs.Plain.{expressions_in}
use Rattle.mm_find.proofs.AssertionLines.{line_told}
use Rattle.mm_find.proofs.line.push_line.Goals as goal

pub returns : goal.returns
returns c =
    line_told c.args.out.now.items c.extend_from_slice.new.self.items c.push_word.new.out.items
    c.push_word-2.new.out.items c.push_premises.new.out.items c.push_words.new.out.items
    c.push.new.self.items c.args.assertion.now.label.now (keyword_of c.args.assertion.now.kind)
    (premises (expressions_in c.args.assertion.now.hypotheses.items))
    (texts c.args.assertion.now.expression.items) c.in_ok-extend_from_slice.ensures.items
    (c.in_ok-push_word.ensures ∙ ap (λ (w : List ℕ). c.extend_from_slice.new.self.items ++ codes " "
    ++ w) c.keyword.ensures)
    c.in_ok-push_word-2.ensures
    (c.in_ok-push_premises.ensures ∙ ap (λ vs. c.push_word-2.new.out.items ++ symbols_text
    (premises (expressions_in vs))) c.deref.ensures.value)
    (c.in_ok-push_words.ensures ∙ ap (λ ws. c.push_premises.new.out.items ++ symbols_text
    (texts ws)) c.deref-2.ensures.value)
    c.in_ok-push.ensures.items
