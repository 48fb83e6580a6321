-- The text of what its steps use is that of the theorem, all of whose moves pass.
use Rattle.std.proofs.Common.{rules, ◌≡◌, ℕ, List, length, take, vec_len, ap, subst, sym, ◌∙◌}
use Rattle.std.proofs.lemmas.List.{length-map}
use Rattle.mm_frame.specs.Sentence.{Sentence}
use Rattle.mm_frame.specs.Rules.{AllMeant}
use Rattle.mm_step.specs.Moves.{Move}
use Rattle.mm_step.specs.Plain.{ids_in}
use Rattle.mm_proof.specs.Mirror.CodeSteps.{code_move}
use Rattle.mm_proof.specs.ReadSteps.{ReadSteps}
use Rattle.mm_proof.specs.CheckedPrefix.{Pass}
use Rattle.mm_proof.specs.Verified.{OfMoves}
use Rattle.mm_step.specs.Profiles.{limit_of}
use Rattle.mm_step.specs.Proof.{IsWithin}
use Rattle.mm_rules.specs.Conclusion.{Conclusion}
use Rattle.mm_verdict.specs.Mirror.Theorems.{IsWholeProof}
use Rattle.mm_verdict.proofs.Verdicts.AcceptedStatements.{KeptWell}
use Rattle.mm_verdict.proofs.Verdicts.StatementByStatement.{all_meant}
use Rattle.mm_render.specs.ShownUses.{TellsUses}
use Rattle.mm_render.proofs.ToldProofs.ShownUses.{uses_shown, whole_front}
use Rattle.mm_render.proofs.asked_texts.uses_listing.Goals.{After-len}
use Rattle.mm_render.proofs.asked_texts.uses_listing.Goals as goal

-- all moves are those before the end, and pass
front : (c : After-len)
    → let st : List Sentence = c.checked.inside.book.statements in
    let steps : ReadSteps = c.in_ok-theorem.theorem.steps in
    OfMoves st c.in_ok-theorem.theorem.id.0 steps.moves (λ index s moves.
    (take c.len.result moves ≡ moves)
    × Pass (IsWithin (limit_of steps.profile)) (take index st) (take c.len.result moves))
front c =
    let st : List Sentence = c.checked.inside.book.statements in
    let steps : ReadSteps = c.in_ok-theorem.theorem.steps in
    let well = subst KeptWell c.checked.view_is c.checked.invariant in
    let told : st ≡ c.args.checked.now.sentences =
    ap (λ (v : Conclusion). v.sentences) c.checked.view_is in
    let whole : IsWholeProof st c.in_ok-theorem.theorem.id.0 steps =
    rw told c.in_ok-theorem.ensures.theorem in
    let meant : AllMeant st = subst AllMeant (sym (told ∙ well.origin.sentences))
    (all_meant c.args.checked.now.profile well.origin.statements well.origin.accepted.obeyed) in
    let codes = c.steps.inside.codes in
    let long : vec_len codes ≡ length codes.items = search rules in
    let moves : length steps.moves ≡ length codes.items =
    sym (ap (λ (v : ReadSteps). length v.moves) c.steps.view_is)
    ∙ length-map codes.items (code_move (ids_in c.steps.inside.entries.items)) in
    whole_front st c.in_ok-theorem.theorem.id.0 steps c.len.result meant whole
    (c.len.ensures ∙ long ∙ sym moves)

pub uses_text-requires-clause-pass : goal.uses_text-requires-clause-pass
uses_text-requires-clause-pass c index s moves proof numbered =
    (front (goal.at.uses_text-requires-clause-pass c).After-len index s moves proof numbered).1

pub returns-clause-shown : goal.returns-clause-shown
returns-clause-shown c statements reads =
    let st : List Sentence = c.checked.inside.book.statements in
    let told : st ≡ c.args.checked.now.sentences =
    ap (λ (v : Conclusion). v.sentences) c.checked.view_is in
    let read = c.in_ok-theorem.ensures.read statements reads in
    let text : List ℕ = c.in_ok-uses_text.field-0.items in
    uses_shown c.args.essential st statements c.args.label.now c.in_ok-theorem.theorem.id.0
    c.in_ok-theorem.theorem.steps.moves text (told ∙ read.0) read.1
    (λ index s moves proof numbered.
    subst (λ (ms : List (Move (List ℕ))). TellsUses c.args.essential (take index st) ms text)
    (front (goal.at.returns-clause-shown c).After-len index s moves proof numbered).0
    (c.in_ok-uses_text.ensures index s moves proof numbered))
