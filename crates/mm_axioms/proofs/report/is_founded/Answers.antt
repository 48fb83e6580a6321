-- The axioms and the unproved theorems are all that is looked at.
use Rattle.std.proofs.Common.{map}
use Rattle.mm_frame.specs.declared.number.LabelId.{LabelId}
use Rattle.mm_axioms.proofs.Resting.FoundedUses.{founded, no_further}
use Rattle.mm_axioms.proofs.report.is_founded.Goals as goal

pub returns-then-not-rests_no_further : goal.returns-then-not-rests_no_further
returns-then-not-rests_no_further c = λ statements uses tables.
    let deref = c.deref.ensures.value in
    let has = c.rests_no_further.ensures uses (rw deref tables.axiom_rows) in (
      (λ never. absurd cc),
      λ all. let yes = has.1 (rw deref (no_further statements
          (map (λ (l : LabelId). l.0) c.args.incomplete.now) uses c.args.tables.now c.args.theorem.0
          c.args.used.0 tables all).0) in let no = c.if-not-rests_no_further.true in absurd cc,
    )

pub returns : goal.returns
returns c = λ statements uses tables.
    let deref = c.deref.ensures.value in
    let axioms = rw deref at ((c.rests_no_further.ensures uses (rw deref tables.axiom_rows)).0
    c.if-not-rests_no_further.false) in
    let unproved = c.rests_no_further-2.ensures uses tables.unproved_rows in (
      (λ holds. founded statements (map (λ (l : LabelId). l.0) c.args.incomplete.now) uses
          c.args.tables.now c.args.theorem.0 c.args.used.0 tables axioms (unproved.0 holds)),
      λ all. unproved.1 (no_further statements (map (λ (l : LabelId). l.0) c.args.incomplete.now)
          uses c.args.tables.now c.args.theorem.0 c.args.used.0 tables all).1,
    )
