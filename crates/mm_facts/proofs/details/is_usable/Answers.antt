-- The kind is that of the statement.
use Rattle.std.proofs.Common.{◌≡◌, List, ap, inl, inr, subst, sym, ◌∙◌, refl}
use Rattle.mm_base.specs.declared.statement.Kind.TheVariants.{Floating, Essential}
use Rattle.mm_frame.specs.Sentence.{Sentence, IsAssertion}
use Rattle.mm_frame.specs.Numbers.{IsNumbered}
use Rattle.mm_frame.specs.Taken.{kind_behind}
use Rattle.mm_frame.proofs.Names.LabelNumbers.{numbered_get}
use Rattle.mm_facts.proofs.NearLabels.{assertion_kind, floating_alone, essential_alone}
use Rattle.mm_facts.proofs.details.is_usable.Goals as goal

pub returns-in-Floating : goal.returns-in-Floating
returns-in-Floating c = λ index s numbered.
    let st = c.args.book.now.statements in
    let kind : s.kind ≡ Floating =
    c.kind.ensures s (numbered_get st c.args.id.0 index s numbered) ∙ ap kind_behind
    c.in-Floating.is in
    let own = c.active.ensures index s
    (subst (λ (ss : List Sentence). IsNumbered ss c.args.id.0 index s) (sym c.requires)
    numbered) in
    ((λ active. inr (inl kind, own.0 active)), (λ may. own.1 (floating_alone s.kind _ kind may)))

pub returns-in-Essential : goal.returns-in-Essential
returns-in-Essential c = λ index s numbered.
    let st = c.args.book.now.statements in
    let kind : s.kind ≡ Essential =
    c.kind.ensures s (numbered_get st c.args.id.0 index s numbered) ∙ ap kind_behind
    c.in-Essential.is in
    let own = c.active-in-Essential.ensures index s
    (subst (λ (ss : List Sentence). IsNumbered ss c.args.id.0 index s) (sym c.requires)
    numbered) in
    ((λ active. inr (inr kind, own.0 active)), (λ may. own.1 (essential_alone s.kind _ kind may)))

pub returns-in_default : goal.returns-in_default
returns-in_default c = λ index s numbered. (
  (λ yes. inl (subst IsAssertion (sym (c.kind.ensures s (numbered_get c.args.book.now.statements
      c.args.id.0 index s numbered)))
      (assertion_kind c.kind.result c.in_default.not-Floating c.in_default.not-Essential))),
  (λ may. refl),
)
