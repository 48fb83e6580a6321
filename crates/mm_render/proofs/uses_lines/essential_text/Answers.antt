-- The lines tell the steps, those that are reached with their expressions, and the rows what they
-- use.
use Rattle.std.proofs.Common.{◌≡◌, length, take, true, ap, arith}
use Rattle.std.proofs.lemmas.List.{length-map}
use Rattle.std.proofs.lemmas.Result.{IfOk-weaker}
use Rattle.mm_listing.specs.Uses.{rows_of}
use Rattle.mm_render.proofs.ToldProofs.ShownUses.{uses_told}
use Rattle.mm_render.proofs.uses_lines.essential_text.Goals as goal

pub text_of-requires-clause-lines : goal.text_of-requires-clause-lines
text_of-requires-clause-lines c =
    let a = c.requires.steps in
    let l = c.in_ok-lines.ensures.listed a.index a.s a.moves a.proof a.numbered in (
      l.0,
      rw (c.deref-2.ensures.value, c.deref-4.ensures.value)
          (rw c.deref.ensures.value at l.2),
    )

pub text_of-requires-clause-uses : goal.text_of-requires-clause-uses
text_of-requires-clause-uses c =
    let a = c.requires.steps in
    let used = c.in_ok-used.used in
    let u = c.in_ok-used.ensures.used a.index a.s a.moves a.proof a.numbered in
    let l = c.in_ok-lines.ensures.listed a.index a.s a.moves a.proof a.numbered in
    let long : length (rows_of used.uses.items) ≡ length used.uses.items =
    length-map used.uses.items (λ l. l.items) in
    omega (
      arith,
      l.2.count,
      l.1.count,
      u.1.count,
      long,
      ap length c.deref-2.ensures.value,
      ap length c.deref-3.ensures.value,
    )

pub text_of-requires-clause-told : goal.text_of-requires-clause-told
text_of-requires-clause-told c =
    let a = c.requires.steps in
    let u = c.in_ok-used.ensures.used a.index a.s a.moves a.proof a.numbered in
    let l = c.in_ok-lines.ensures.listed a.index a.s a.moves a.proof a.numbered in
    omega (
      arith,
      l.2.count,
      l.1.count,
      u.1.count,
      c.in_ok-told.ensures.count,
      ap length c.deref-2.ensures.value,
      ap length c.deref-4.ensures.value,
    )

pub returns : goal.returns
returns c =
    IfOk-weaker c.text_of.result _ _
    (λ text laid index s moves proof numbered.
    let used = c.in_ok-used.used in
    let u = c.in_ok-used.ensures.used index s moves proof numbered in
    let l = c.in_ok-lines.ensures.listed index s moves proof numbered in
    uses_told true c.args.book.now.statements _ (take c.args.passed moves)
    c.in_ok-lines.lines.items (rows_of used.uses.items) used.roots.items
    c.in_ok-told.told.items text.items (rw c.deref.ensures.value at l) u.1 u.2 c.in_ok-told.ensures
    laid)
    (rw (c.deref-2.ensures.value, c.deref-3.ensures.value, c.deref-4.ensures.value) at
    c.text_of.ensures)
