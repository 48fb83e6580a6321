-- The lines tell the steps, all with their expressions, and the rows what they use.
use Rattle.std.proofs.Common.{rules, ◌≡◌, List, length, take, vec_len, get_or, replicate, true, false}
use Rattle.std.proofs.Common.{subst}
use Rattle.std.proofs.Common.{sym, ap, arith, ◌∙◌, Bool}
use Rattle.std.proofs.lemmas.List.{length-map, length-replicate}
use Rattle.std.proofs.lemmas.Result.{IfOk-weaker}
use Rattle.mm_listing.specs.declared.lines.Line.{Line}
use Rattle.mm_listing.specs.Listing.{ListedStep, TellSteps}
use Rattle.mm_listing.specs.Uses.{rows_of}
use Rattle.mm_render.proofs.ToldProofs.ShownUses.{all_flags_told, uses_told}
use Rattle.mm_render.proofs.uses_lines.whole_text.Goals.{In_ok-told}
use Rattle.mm_render.proofs.uses_lines.whole_text.Goals as goal

-- as many flags as lines
many : (c : In_ok-told) → length c.in_ok-used.used.lines.items ≡ c.len.result
many c =
    let a = c.requires.steps in
    let used = c.in_ok-used.used in
    let u = c.in_ok-used.ensures.used a.index a.s a.moves a.proof a.numbered in
    let rows : length (rows_of used.uses.items) ≡ length used.uses.items =
    length-map used.uses.items (λ l. l.items) in
    let long : vec_len used.uses ≡ length used.uses.items = search rules in
    omega (arith, u.0.2.count, u.0.1.count, u.1.count, rows, long, c.len.ensures)

-- and they tell the steps
flags_told : (c : In_ok-told) (steps : List ListedStep)
    → TellSteps c.args.book.now.statements (λ step. true) c.in_ok-used.used.lines.items steps
    → TellSteps c.args.book.now.statements (λ index. get_or c.in_ok-told.told.items index false)
    c.in_ok-used.used.lines.items steps
flags_told c steps tells =
    let st = c.args.book.now.statements in
    let lines : List Line = c.in_ok-used.used.lines.items in
    subst (λ (told : List Bool). TellSteps st (λ index. get_or told index false) lines steps)
    (sym c.in_ok-told.ensures) (all_flags_told st lines steps c.len.result tells (many c))

pub text_of-requires-clause-lines : goal.text_of-requires-clause-lines
text_of-requires-clause-lines c =
    let a = c.requires.steps in
    let u = c.in_ok-used.ensures.used a.index a.s a.moves a.proof a.numbered in (
      u.0.0,
      rw (c.deref.ensures.value, c.deref-3.ensures.value)
          (flags_told (goal.at.text_of-requires-clause-lines c).In_ok-told u.0.0 u.0.2),
    )

pub text_of-requires-clause-uses : goal.text_of-requires-clause-uses
text_of-requires-clause-uses c =
    let used = c.in_ok-used.used in
    let long : vec_len used.uses ≡ length used.uses.items = search rules in
    omega (
      arith,
      many (goal.at.text_of-requires-clause-uses c).In_ok-told,
      long,
      c.len.ensures,
      ap length c.deref.ensures.value,
      ap length c.deref-2.ensures.value,
    )

pub text_of-requires-clause-told : goal.text_of-requires-clause-told
text_of-requires-clause-told c =
    omega (
      arith,
      many (goal.at.text_of-requires-clause-told c).In_ok-told,
      ap length c.in_ok-told.ensures,
      length-replicate c.len.result true,
      ap length c.deref.ensures.value,
      ap length c.deref-3.ensures.value,
    )

pub returns : goal.returns
returns c =
    IfOk-weaker c.text_of.result _ _
    (λ text laid index s moves proof numbered.
    let used = c.in_ok-used.used in
    let st = c.args.book.now.statements in
    let told : List Bool = c.in_ok-told.told.items in
    let u = c.in_ok-used.ensures.used index s moves proof numbered in
    let rows : length (rows_of used.uses.items) ≡ length used.uses.items =
    length-map used.uses.items (λ l. l.items) in
    let long : vec_len used.uses ≡ length used.uses.items = search rules in
    let count : c.len.result ≡ length (rows_of used.uses.items) =
    c.len.ensures ∙ long ∙ sym rows in
    uses_told false st _ (take c.args.passed moves) used.lines.items (rows_of used.uses.items)
    used.roots.items told text.items
    (u.0.0, u.0.1, flags_told (goal.at.returns c).In_ok-told u.0.0 u.0.2) u.1 u.2
    (c.in_ok-told.ensures ∙ ap (λ n. replicate n true) count)
    laid)
    (rw (c.deref.ensures.value, c.deref-2.ensures.value, c.deref-3.ensures.value) at
    c.text_of.ensures)
