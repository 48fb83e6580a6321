-- Each line tells a step, and one more line is that of the next.
use Rattle.std.proofs.Common.{◌≡◌, ℕ, ◌+◌, ◌≤◌, List, ◌++◌, length, sym, ap, subst, ◌∙◌, arith}
use Rattle.std.proofs.lemmas.List.{take_all}
use Rattle.mm_frame.specs.Sentence.{Sentence}
use Rattle.mm_listing.specs.declared.lines.Line.{Line}
use Rattle.mm_listing.specs.Listing.{ListedStep, TellsStep}
use Rattle.mm_render.specs.Shown.{step_text, steps_text}
use Rattle.mm_render.proofs.ToldProofs.ShownSteps.{told_at, as_many, one_more_line}
use Rattle.mm_render.proofs.listing_lines.text_of.Goals as goal

pub push_line-requires : goal.push_line-requires
push_line-requires c =
    let statements : List Sentence = c.args.book.now.statements in
    let told = told_at statements c.args.lines.now c.requires.0 c.loop-at.at c.index-lines-at.result c.requires.1 c.loop-at-test.true in
    (told.0, subst (λ (line : Line). TellsStep statements line told.0) (sym c.index-lines-at.is) told.2)

pub loop-at-preserved : goal.loop-at-preserved
loop-at-preserved c = λ steps zip.
    let statements : List Sentence = c.args.book.now.statements in
    let told = told_at statements c.args.lines.now steps c.loop-at.at c.index-lines-at.result zip c.loop-at-test.true in
    let step : ListedStep = told.0 in
    let tells : TellsStep statements c.index-lines-at.result step =
    subst (λ (line : Line). TellsStep statements line step) (sym c.index-lines-at.is) told.2 in
    c.in_ok-push_line.ensures step tells
    ∙ ap (λ (text : List ℕ). text ++ step_text (c.loop-at.at + 1) step) (c.loop-at.invariant steps zip)
    ∙ sym (one_more_line steps c.loop-at.at step told.1)

pub returns : goal.returns
returns c = λ steps zip.
    let all : length c.args.lines.now ≤ c.loop-at.at = c.loop-at-test.false in
    let many : length steps ≡ length c.args.lines.now = as_many c.args.book.now.statements c.args.lines.now steps zip in
    c.loop-at.invariant steps zip ∙ ap (λ (ss : List ListedStep). steps_text 1 ss) (take_all c.loop-at.at steps (omega (arith, all, many)))
