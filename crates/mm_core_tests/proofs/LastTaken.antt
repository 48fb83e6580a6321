-- The statement that was taken last, where it is a `$p`.
use Rattle.std.proofs.Common.{◌≡◌, List, [], ◌∷◌, ◌++◌, take, length, slice_get, refl, sym, ap, ◌∙◌}
use Rattle.mm_base.specs.declared.statement.Kind.{Kind}
use Rattle.mm_base.specs.declared.statement.Kind.TheVariants.{Provable}
use Rattle.mm_base.specs.Statement.{PlainStatement, HasForm}
use Rattle.mm_base.proofs.Lists.{get_pushed}
use Rattle.mm_frame.specs.declared.number.LabelId.{LabelId}
use Rattle.mm_frame.specs.declared.answer.Taken.{Taken}
use Rattle.mm_frame.specs.declared.answer.Taken.TheVariants.{Assertion}
use Rattle.mm_frame.specs.Sentence.{Sentence, sentence_of}
use Rattle.mm_frame.specs.Numbers.{labelled_sentences}
use Rattle.mm_frame.specs.Taken.{TakenAs, next_id}
use Rattle.mm_step.specs.Steps.{IsProofNumber}
use Rattle.mm_rules.proofs.Judgements.JudgedProofs.{labelled_said}

take_prefix : {X : Type 0} (xs ys : List X) → take (length xs) (xs ++ ys) ≡ xs
take_prefix [] ys = refl
take_prefix {X} (x ∷ xs) ys = ap (λ (zs : List X). x ∷ zs) (take_prefix xs ys)

number_of : (before : List Sentence) (kind : Kind) (taken : Taken) (id : LabelId) → TakenAs before kind taken → kind ≡ Provable → taken ≡ Assertion id
    → id ≡ next_id before
number_of before Provable taken id was e f = cc
number_of before kind taken id was e f = absurd cc

-- The last statement, a `$p`, has the number that it was taken with.
pub last_number : (statements before : List Sentence) (s : PlainStatement) (taken : Taken) (id : LabelId) → HasForm s → statements ≡ before ++ sentence_of s ∷ []
    → s.kind ≡ Provable → TakenAs before s.kind taken → taken ≡ Assertion id → IsProofNumber statements id.0 (length before) (sentence_of s)
last_number statements before s taken id formed e provable was f = record {
  numbered = record {
    there = ap (λ (ss : List Sentence). slice_get ss (length before)) e ∙ get_pushed before (sentence_of s);
    named = labelled_said s.kind s.label formed.label provable;
    number = ap (λ (ss : List Sentence). length (labelled_sentences ss)) (ap (λ (ss : List Sentence). take (length before) ss) e ∙ take_prefix before (sentence_of s ∷ []))
        ∙ sym (ap (λ (i : LabelId). i.0) (number_of before s.kind taken id was provable f));
  };
  provable = provable;
}
