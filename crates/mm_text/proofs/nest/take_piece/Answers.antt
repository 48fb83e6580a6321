use Rattle.std.proofs.Common.{◌≡◌, false, [], ◌∷◌, sym, ap, ◌∙◌}
use Rattle.mm_base.specs.Token.{plain_token}
use Rattle.mm_text.specs.declared.class.Class.TheVariants as class
use Rattle.mm_text.specs.Items.{Outside, pieces, Met, End, holds_dollar}
use Rattle.mm_text.specs.declared.comments.Position.{Position}
use Rattle.mm_text.proofs.Tokens.WordsAndComments.{no_dollar-spells}
use Rattle.mm_text.proofs.Inclusions.FilePieces.{pieces-end, pieces-broken, pieces-inclusion}
use Rattle.mm_text.proofs.Inclusions.FilePieces.{pieces-class, class_tells}
use Rattle.mm_text.proofs.nest.take_piece.Goals as goal

pub returns-then-is_inclusion-clause-takes : goal.returns-then-is_inclusion-clause-takes
returns-then-is_inclusion-clause-takes c =
    let h = rw c.in-Ok-Some.field-0-is at c.in-Ok-Some.ensures.takes in (
      ap (pieces _ Outside) h.0 ∙ pieces-inclusion _ (plain_token c.in-Ok-Some.token) _ (sym c.is_inclusion.ensures ∙ c.if-is_inclusion.true),
      h.1.at,
    )

pub returns-in-Err-clause-takes : goal.returns-in-Err-clause-takes
returns-in-Err-clause-takes c = (
  ap (pieces _ Outside) c.in-Err.ensures.takes.0 ∙ pieces-broken _ Outside _ _ [],
  tt,
  c.in-Err.ensures.takes.1,
)

pub returns-in-Ok-None-clause-takes : goal.returns-in-Ok-None-clause-takes
returns-in-Ok-None-clause-takes c =
    let h = rw c.in-Ok-None.field-0-is at c.in-Ok-None.ensures.takes in
    ap (pieces _ Outside) h ∙ pieces-end _ ∙ ap (λ n. Met (End n) ∷ []) (sym (ap (λ (q : Position). q.file) c.in-Ok-None.ensures.same))

-- a token without `$` is a word
pub returns-then-not-has_dollar-clause-takes : goal.returns-then-not-has_dollar-clause-takes
returns-then-not-has_dollar-clause-takes c =
    let t = plain_token c.in-Ok-Some.token in
    let h = rw c.in-Ok-Some.field-0-is at c.in-Ok-Some.ensures.takes in
    let lacks : holds_dollar t.text ≡ false = sym h.1.dollar ∙ c.if-not-has_dollar.true in (
      ap (pieces _ Outside) h.0 ∙ pieces-class _ t _ class.Word (no_dollar-spells t.text 91 lacks) lacks,
      lacks,
      h.1.at,
    )

pub returns-else-is_inclusion-clause-takes : goal.returns-else-is_inclusion-clause-takes
returns-else-is_inclusion-clause-takes c =
    let h = rw c.in-Ok-Some.field-0-is at c.in-Ok-Some.ensures.takes in (
      ap (pieces _ Outside) h.0 ∙ pieces-class _ (plain_token c.in-Ok-Some.token) _ _ (sym c.is_inclusion.ensures ∙ c.if-is_inclusion.false) c.class_of_dollar.ensures,
      class_tells (plain_token c.in-Ok-Some.token) c.class_of_dollar.result c.class_of_dollar.ensures,
      h.1.at,
    )
