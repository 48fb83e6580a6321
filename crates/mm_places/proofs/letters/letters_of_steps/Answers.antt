-- A proof is compressed or normal.
use Rattle.std.proofs.Common.{◌∙◌, subst, sym}
use Rattle.std.proofs.lemmas.Bool.{false≢true}
use Rattle.std.proofs.lemmas.List.{length-map}
use Rattle.std.proofs.lemmas.Result.{IfOk-weaker}
use Rattle.mm_step.specs.Plain.{token_texts}
use Rattle.mm_places.specs.Mirror.CodeLetters.{AreLabelSteps}
use Rattle.mm_places.proofs.ProofPlaces.StepLetters.{label_letters}
use Rattle.mm_places.proofs.letters.letters_of_steps.Goals as goal

pub returns-else-begins_list : goal.returns-else-begins_list
returns-else-begins_list c =
    let tokens = c.args.tokens.now in
    IfOk-weaker c.label_steps.result _ _
    (λ steps are.
    label_letters (token_texts tokens) steps.items
    (λ begun. false≢true (sym c.if-begins_list.false ∙ c.begins_list.ensures.first.1 begun))
    (subst (λ n. AreLabelSteps n steps.items) (sym (length-map tokens (λ t. t.text.now))) are))
    c.label_steps.ensures
