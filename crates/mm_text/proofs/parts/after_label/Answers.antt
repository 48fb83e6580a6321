use Rattle.std.proofs.Common.{Some, refl, sym, ap, ◌∙◌}
use Rattle.mm_base.specs.Token.{plain_token}
use Rattle.mm_text.specs.Mirror.Reader.{Labelled, InBody, reading_of}
use Rattle.mm_text.specs.Mirror.Steps.{plain_scope}
use Rattle.mm_text.proofs.Reader.OneToken.{labelled_by, label_keyword, step_label_word, gives_same}
use Rattle.mm_text.proofs.Reader.OneToken.{gives_faulty, gives_err, same_more}
use Rattle.mm_text.proofs.parts.after_label.Goals as goal

pub returns-in_err-token : goal.returns-in_err-token
returns-in_err-token c =
    gives_err (plain_scope c.args.scope.now) _ _ _ _ _ _ c.from_residual.ensures.1 refl
    (c.in_err-token.ensures (Labelled (plain_token c.args.label)) refl refl)

pub returns-in_default : goal.returns-in_default
returns-in_default c =
    let label = plain_token c.args.label in
    let taken = rw c.in_default.is at c.in_ok-token.ensures in
    gives_faulty _ (Labelled label) _ _ _ _ _ (Some c.args.label) _ _ _ refl taken.first
    (step_label_word label _ taken.text) refl c.fault.ensures

pub returns-in-Some-labelled_kind : goal.returns-in-Some-labelled_kind
returns-in-Some-labelled_kind c =
    let label = plain_token c.args.label in
    let t = plain_token c.in_ok-token.token in
    let taken = rw c.in-Some.is at c.in_ok-token.ensures in
    let begins = sym c.labelled_kind.ensures ∙ c.in-Some-labelled_kind.is in
    gives_same _ _ _ _ _ _ (same_more _ (Labelled label) _ _ c.token_within.new.cursor t taken.first
    (label_keyword label t c.in-Some.keyword taken.text ∙ ap (labelled_by label) begins)
    ∙ ap (λ s. reading_of (plain_scope c.args.scope.now) (InBody s) c.token_within.new.cursor)
    (sym c.begin.ensures))
    c.body.ensures

pub returns-in-None : goal.returns-in-None
returns-in-None c =
    let label = plain_token c.args.label in
    let taken = rw c.in-Some.is at c.in_ok-token.ensures in
    let begins = sym c.labelled_kind.ensures ∙ c.in-None.is in
    gives_faulty _ (Labelled label) _ _ _ _ _ (Some c.args.label) _ _ _ refl taken.first
    (label_keyword label _ c.in-Some.keyword taken.text ∙ ap (labelled_by label) begins) refl
    c.fault-in-None.ensures
