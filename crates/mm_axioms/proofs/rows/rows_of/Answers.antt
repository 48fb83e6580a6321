-- One more proof has its row.
use Rattle.std.proofs.Common.{◌+◌, ◌/◌, ◌∙◌, ℕ, List, map, length, replicate, ap, subst, arith}
use Rattle.std.proofs.lemmas.List.{length-map, length-replicate}
use Rattle.mm_base.proofs.Lists.{get_within}
use Rattle.mm_frame.specs.declared.number.LabelId.{LabelId}
use Rattle.mm_step.specs.Plain.{ids_in}
use Rattle.mm_rules.specs.Conclusion.{ProofUses}
use Rattle.mm_axioms.specs.Mirror.Bits.{words_from}
use Rattle.mm_axioms.specs.Mirror.Rows.{AreNarrow, IsRowPut}
use Rattle.mm_axioms.proofs.ScratchWords.{number_in_words}
use Rattle.mm_axioms.proofs.Resting.SettledTheorems.{rows_narrow, rows_more, rows_ended, reaches_as}
use Rattle.mm_axioms.proofs.rows.rows_of.Goals as goal

pub fill-requires-clause-narrow : goal.fill-requires-clause-narrow
fill-requires-clause-narrow c =
    let ids : List ℕ = ids_in c.args.numbers.now in
    subst (λ (n : ℕ). AreNarrow c.loop-at.rows n)
    (length-map c.args.numbers.now (λ (l : LabelId). l.0))
    (rows_narrow c.args.kept.now ids c.loop-at.at c.loop-at.rows c.loop-at.invariant.0)

pub with_row-requires : goal.with_row-requires
with_row-requires c =
    let uses : List ProofUses = c.args.kept.now in
    let found = get_within uses c.loop-at.at (omega arith) in
    let below = c.loop-at.invariant.0.below c.loop-at.at found.0 (omega arith) found.1 in
    let number = c.proof.ensures found.0 found.1 in
    omega arith

pub loop-at-preserved : goal.loop-at-preserved
loop-at-preserved c =
    let uses : List ProofUses = c.args.kept.now in
    let ids : List ℕ = ids_in c.args.numbers.now in
    let found = get_within uses c.loop-at.at (omega arith) in
    let u : ProofUses = found.0 in
    let used : List ℕ = map (λ (l : LabelId). l.0) c.used.result.now in
    let set : List ℕ = c.fill.new.set in
    let same = c.used.ensures u found.1 in (
      rows_more uses ids c.loop-at.at c.loop-at.rows c.in_ok-rows-2.rows (words_from 0 set) u
          c.requires.backward c.loop-at.invariant.0 found.1
          (subst (λ (n : ℕ). IsRowPut c.loop-at.rows n (words_from 0 set) c.in_ok-rows-2.rows)
          (c.proof.ensures u found.1) c.in_ok-rows-2.ensures.put)
          (λ k.
          let inside = number_in_words set k in
          let reached = c.fill.ensures.reached k in (
            (λ t. reaches_as c.loop-at.rows ids used u.used k same (reached.0 (inside.0 t))),
            λ t. inside.1 (reached.1
                (reaches_as c.loop-at.rows ids u.used used k (λ n. ((same n).1, (same n).0)) t)),
          )),
      c.in_ok-rows-2.ensures.emptied
          ∙ ap (λ (n : ℕ). replicate n 0)
          (c.fill.ensures.length ∙ ap length c.loop-at.invariant.1
          ∙ length-replicate {A = ℕ} (length c.args.numbers.now / 64 + 1) 0),
    )

pub returns : goal.returns
returns c =
    rows_ended c.args.kept.now (ids_in c.args.numbers.now) c.loop-at.at c.loop-at.rows
    c.loop-at.invariant.0 (omega arith)
