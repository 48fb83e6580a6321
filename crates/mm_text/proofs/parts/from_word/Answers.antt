use Rattle.std.proofs.Common.{None, refl, sym, ◌∙◌}
use Rattle.mm_base.specs.Token.{plain_token}
use Rattle.mm_text.specs.Mirror.Reader.{Between}
use Rattle.mm_text.proofs.Reader.OneToken.{step_label, step_no_label, symbol-is_keyword, gives_same}
use Rattle.mm_text.proofs.Reader.OneToken.{gives_faulty, same_more}
use Rattle.mm_text.proofs.parts.from_word.Goals as goal

pub returns-then-is_label : goal.returns-then-is_label
returns-then-is_label c =
    gives_same _ _ _ _ _ _ (same_more _ Between _ _ c.args.cursor.now _ refl
    (step_label _ (sym c.is_label.ensures ∙ c.if-is_label.true))) c.after_label.ensures

pub returns-else-is_label : goal.returns-else-is_label
returns-else-is_label c =
    let t = plain_token c.args.first in
    gives_faulty _ Between _ _ c.args.cursor.now t _ None _ _ _ refl refl
    (step_no_label t (symbol-is_keyword t.text c.requires.word)
    (sym c.is_label.ensures ∙ c.if-is_label.false)) refl c.fault.ensures
