-- Whether a theorem rests on each axiom and unproved theorem that an assertion is or rests on.
use Rattle.std.proofs.Common.{ℕ, List}
use Rattle.std.proofs.Common.{inl, inr}
use Rattle.mm_frame.specs.Sentence.{Sentence}
use Rattle.mm_step.specs.Plain.{ids_in}
use Rattle.mm_axioms.specs.declared.report.Tables.{Tables}
use Rattle.mm_rules.specs.Conclusion.{ProofUses}
use Rattle.mm_axioms.specs.Mirror.Shortening.{AreFounded, RestsNoFurther}
use Rattle.mm_axioms.specs.Mirror.Tables.{AreTables}

-- the theorem rests on no further axiom, and on no further unproved theorem
pub founded : (statements : List Sentence) (incomplete : List ℕ) (uses : List ProofUses)
    (t : Tables) (theorem used : ℕ) → AreTables statements incomplete uses t
    → RestsNoFurther uses (ids_in t.axioms.items) theorem used
    → RestsNoFurther uses incomplete theorem used
    → AreFounded statements incomplete uses theorem used
founded statements incomplete uses t theorem used tables axioms unproved n loose reaches =
    elim loose [
      | inl own ↦ axioms n ((tables.axioms.each n).1 own) reaches
      | inr among ↦ unproved n among reaches
    ]

-- and the other way round
pub no_further : (statements : List Sentence) (incomplete : List ℕ) (uses : List ProofUses)
    (t : Tables) (theorem used : ℕ) → AreTables statements incomplete uses t
    → AreFounded statements incomplete uses theorem used
    → RestsNoFurther uses (ids_in t.axioms.items) theorem used
    × RestsNoFurther uses incomplete theorem used
no_further statements incomplete uses t theorem used tables h = (
  (λ n among reaches. h n (inl ((tables.axioms.each n).0 among)) reaches),
  λ n among reaches. h n (inr among) reaches,
)
