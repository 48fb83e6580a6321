use Rattle.std.proofs.Common.{None, refl, ap, ◌∙◌}
use Rattle.mm_base.specs.Token.{plain_token}
use Rattle.mm_text.specs.Mirror.Class.{keyword_bytes}
use Rattle.mm_text.specs.Mirror.Next.{items_with}
use Rattle.mm_text.specs.Mirror.Reader.{Between}
use Rattle.mm_text.specs.Mirror.Steps.{plain_scope}
use Rattle.mm_text.proofs.Reader.OneToken.{answers_wrong, closes_block, answers_closing}
use Rattle.mm_text.proofs.parts.from_first.Goals as goal

pub returns-in-Wrong : goal.returns-in-Wrong
returns-in-Wrong c =
    let t = plain_token c.args.first in
    answers_wrong (plain_scope c.args.scope.now) Between _ t c.in-Wrong.rule None _ (ap (λ k. items_with t k c.args.cursor.now) c.in-Wrong.is) refl c.fault.ensures

pub returns-else-not-leave : goal.returns-else-not-leave
returns-else-not-leave c =
    let t = plain_token c.args.first in
    closes_block (plain_scope c.args.scope.now) _ _ c.args.cursor.now t _ (ap (λ k. items_with t k c.args.cursor.now) c.in-Keyword.is)
    ((rw c.in-Keyword.is at c.requires.class) ∙ ap keyword_bytes c.in-Closing.is) c.begin-in-Closing.ensures
    (rw c.if-not-leave.false at c.leave.ensures)

pub returns-then-not-leave : goal.returns-then-not-leave
returns-then-not-leave c =
    let t = plain_token c.args.first in
    answers_closing (plain_scope c.args.scope.now) _ _ c.args.cursor.now t _ (ap (λ k. items_with t k c.args.cursor.now) c.in-Keyword.is)
    ((rw c.in-Keyword.is at c.requires.class) ∙ ap keyword_bytes c.in-Closing.is)
    (rw c.if-not-leave.true at c.leave.ensures) c.fault-then-not-leave.ensures
