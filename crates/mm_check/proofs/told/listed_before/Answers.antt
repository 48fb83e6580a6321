-- The lines are those of the first moves.
use Rattle.std.proofs.Common.{◌≤◌, ℕ, List, length, sym, subst}
use Rattle.std.proofs.lemmas.Result.{IfOk-weaker}
use Rattle.std.specs.List.{AllZip}
use Rattle.mm_frame.specs.Sentence.{Sentence}
use Rattle.mm_step.specs.Moves.{Move, steps_in}
use Rattle.mm_step.specs.Plain.{token_texts}
use Rattle.mm_proof.specs.Tokens.{SayMoves}
use Rattle.mm_listing.specs.declared.lines.Line.{Line}
use Rattle.mm_listing.specs.Listing.{TellsStep}
use Rattle.mm_facts.specs.Explained.{judged_tokens}
use Rattle.mm_check.proofs.ToldTheorems.{first_said}
use Rattle.mm_check.proofs.told.listed_before.Goals as goal

pub told_text-requires-clause-said : goal.told_text-requires-clause-said
told_text-requires-clause-said c =
    let st : List Sentence = c.args.book.now.statements in
    let p = c.requires.proof in
    subst (λ (lines : List Line). (before : List Sentence) × (s : Sentence)
    × (moves : List (Move (List ℕ)))
    × SayMoves before s (judged_tokens (token_texts c.args.tokens.now)) moves
    × (length lines ≤ steps_in moves))
    (sym c.deref.ensures.value)
    (first_said st c.args.id.0 (token_texts c.args.tokens.now) c.args.steps.now.moves
    c.requires.said c.args.front.0 c.in_ok-lines.lines.items c.in_ok-lines.ensures.listed p.0 p.1
    p.2)

pub told_text-requires-clause-lines : goal.told_text-requires-clause-lines
told_text-requires-clause-lines c =
    let st : List Sentence = c.args.book.now.statements in
    let u = c.requires.steps in
    let listed = c.in_ok-lines.ensures.listed u.index u.s u.moves u.proof u.numbered in (
      listed.0,
      subst (λ (lines : List Line). AllZip (TellsStep st) lines listed.0)
          (sym c.deref.ensures.value) listed.2,
    )

pub returns : goal.returns
returns c =
    let st : List Sentence = c.args.book.now.statements in
    IfOk-weaker c.told_text.result _ _
    (λ text told index s moves proof numbered.
    let listed = c.in_ok-lines.ensures.listed index s moves proof numbered in (
      listed.0,
      listed.1,
      told listed.0 (subst (λ (lines : List Line). AllZip (TellsStep st) lines listed.0)
          (sym c.deref.ensures.value) listed.2),
    ))
    c.told_text.ensures
