-- Each line that is told tells a step, and one more line is that of the next, if it is told.
use Rattle.std.proofs.Common.{◌≡◌, ℕ, ◌+◌, ◌<◌, ◌≤◌, List, ◌++◌, length, true, false, sym, ap}
use Rattle.std.proofs.Common.{◌∙◌, arith, append-nil, refl, Some, take}
use Rattle.std.proofs.lemmas.List.{take_all, length-map}
use Rattle.std.proofs.lemmas.Option.{slice_get_read, slice_get-get_or}
use Rattle.mm_base.proofs.Lists.{get_within}
use Rattle.mm_frame.specs.Sentence.{Sentence}
use Rattle.mm_listing.specs.Uses.{rows_of}
use Rattle.mm_listing.proofs.Machines.ReachedSteps.{row_there}
use Rattle.mm_render.specs.ShownUses.{used_step_text, used_steps_text}
use Rattle.mm_render.proofs.ToldProofs.ShownUses.{one_more_told, step_told}
use Rattle.mm_render.proofs.uses_lines.text_of.Goals.{then-told-at+in_ok-push_used, else-told-at}
use Rattle.mm_render.proofs.uses_lines.text_of.Goals as goal

pub push_used-requires : goal.push_used-requires
push_used-requires c =
    let statements : List Sentence = c.args.book.now.statements in
    let lines = c.args.lines.now in
    let at : ℕ = c.loop-at.at in
    let there = slice_get_read lines _ at c.index-lines-at.result refl c.loop-at-test.true
    c.index-lines-at.is in
    let told = step_told statements _ lines c.requires.lines.0 at c.index-lines-at.result
    c.requires.lines.1 there c.if-told-at.true in
    (told.0, told.2)

pub loop-at-preserved : goal.loop-at-preserved
loop-at-preserved c steps tells =
    let statements : List Sentence = c.args.book.now.statements in
    let lines = c.args.lines.now in
    let uses = c.args.uses.now in
    let flags = c.args.told.now in
    let at : ℕ = c.loop-at.at in
    let less : at < length lines = c.loop-at-test.true in
    let used_less : at < length uses = omega (arith, less, c.requires.uses) in
    let told_less : at < length flags = omega (arith, less, c.requires.told) in
    elim c.if-told-at.branch [
      | then-told-at+in_ok-push_used w ↦
          let line = slice_get_read lines _ at w.index-lines-at.result refl less
          w.index-lines-at.is in
          let told = step_told statements _ lines steps at w.index-lines-at.result tells line
          w.if-told-at.true in
          let row : List ℕ = w.deref.result.now in
          let there = row_there uses at w.index-uses-at.result
          (slice_get_read uses _ at w.index-uses-at.result refl used_less w.index-uses-at.is)
          ∙ ap (λ (l : List ℕ). Some l) (sym w.deref.ensures.value) in
          let flag = slice_get-get_or flags at false told_less
          ∙ ap (λ b. Some b) w.if-told-at.true in
          rw w.out-is (w.in_ok-push_used.ensures told.0 told.2
          ∙ ap (λ (text : List ℕ). text ++ used_step_text (at + 1) told.0 row)
          (c.loop-at.invariant steps tells)
          ∙ sym (one_more_told steps (rows_of uses) flags at told.0 row true told.1 there flag))
      | else-told-at w ↦
          let step = get_within steps at (omega (arith, less, tells.count)) in
          let list = get_within uses at used_less in
          let there = row_there uses at list.0 list.1 in
          let flag = slice_get-get_or flags at false told_less
          ∙ ap (λ b. Some b) w.if-told-at.false in
          rw w.out-is (c.loop-at.invariant steps tells
          ∙ sym (append-nil (used_steps_text 1 (take at steps) (take at (rows_of uses))
          (take at flags)))
          ∙ sym (one_more_told steps (rows_of uses) flags at step.0 list.0.items false step.1 there
          flag))
    ]

pub returns : goal.returns
returns c steps tells =
    let rows = rows_of c.args.uses.now in
    let at : ℕ = c.loop-at.at in
    let all : length c.args.lines.now ≤ at = c.loop-at-test.false in
    let long : length rows ≡ length c.args.uses.now =
    length-map c.args.uses.now (λ l. l.items) in
    let one = take_all at steps (omega (arith, all, tells.count)) in
    let two = take_all at rows (omega (arith, all, long, c.requires.uses)) in
    let three = take_all at c.args.told.now (omega (arith, all, c.requires.told)) in
    c.loop-at.invariant steps tells ∙ rw (one, two, three) refl
