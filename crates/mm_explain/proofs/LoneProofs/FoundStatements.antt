-- The statement that is found at a label: what it was taken as has its number.
use Rattle.std.proofs.Common.{◌≡◌, ℕ, List, [], ◌∷◌, ◌++◌, Option, inl, inr, ◌⊎◌, sym, ap, ◌∙◌}
use Rattle.std.proofs.Common.{is_some}
use Rattle.std.proofs.lemmas.List.{map-append, length-map}
use Rattle.mm_base.specs.declared.statement.Kind.{Kind}
use Rattle.mm_base.specs.declared.statement.Kind.TheVariants as kinds
use Rattle.mm_base.specs.Statement.{PlainStatement, plain_statement}
use Rattle.mm_text.specs.Files.{PlainFile}
use Rattle.mm_frame.specs.declared.answer.Taken.{Taken}
use Rattle.mm_frame.specs.declared.answer.Taken.TheVariants as taken
use Rattle.mm_frame.specs.declared.number.LabelId.{LabelId}
use Rattle.mm_frame.specs.Sentence.{Sentence, sentence_of}
use Rattle.mm_frame.specs.Taken.{TakenAs, next_id}
use Rattle.mm_frame.proofs.Names.LabelNumbers.{numbered_last}
use Rattle.mm_rules.specs.declared.progress.Progress.{Progress}
use Rattle.mm_rules.specs.Verdict.{sentences}
use Rattle.mm_explain.specs.declared.statement_at.Stated.{Stated}
use Rattle.mm_explain.specs.Mirror.Reached.{IsFound}
use Rattle.mm_explain.specs.Mirror.Stated.{HasStated}

-- what has a number has that of the label after those before
number_taken : (before : List Sentence) (kind : Kind) (t : Taken) (id : LabelId)
    → TakenAs before kind t → (t ≡ taken.Assertion id) ⊎ (t ≡ taken.Hypothesis id)
    → id ≡ next_id before
number_taken before kinds.Opening t id is same = elim same [ inl a ↦ absurd cc | inr h ↦ absurd cc ]
number_taken before kinds.Closing t id is same = elim same [ inl a ↦ absurd cc | inr h ↦ absurd cc ]
number_taken before kinds.Constants t id is same =
    elim same [ inl a ↦ absurd cc | inr h ↦ absurd cc ]
number_taken before kinds.Variables t id is same =
    elim same [ inl a ↦ absurd cc | inr h ↦ absurd cc ]
number_taken before kinds.Distinct t id is same =
    elim same [ inl a ↦ absurd cc | inr h ↦ absurd cc ]
number_taken before kinds.Floating t id is same = elim same [ inl a ↦ absurd cc | inr h ↦ cc ]
number_taken before kinds.Essential t id is same = elim same [ inl a ↦ absurd cc | inr h ↦ cc ]
number_taken before kinds.Axiom t id is same = elim same [ inl a ↦ cc | inr h ↦ absurd cc ]
number_taken before kinds.Provable t id is same = elim same [ inl a ↦ cc | inr h ↦ absurd cc ]

module _ (files : List PlainFile) (label : List ℕ) (p : Progress) (t : Taken) where
  -- the book has it last
  pub stated_as : (r : Stated) → IsFound files label t p (plain_statement r.statement)
      → (t ≡ taken.Assertion r.id) ⊎ (t ≡ taken.Hypothesis r.id)
      → r.book.statements ≡ p.prover.book.statements → HasStated files label r
  stated_as r found is same =
      let s : PlainStatement = plain_statement r.statement in
      let before : List PlainStatement = found.before in
      let id : r.id ≡ next_id (sentences before) =
      number_taken (sentences before) s.kind t r.id found.kind is in
      let book : r.book.statements ≡ sentences before ++ sentence_of s ∷ [] =
      same ∙ found.has.book ∙ map-append sentence_of before (s ∷ []) in
      record {
        before = before;
        at = found.at;
        book = same ∙ found.has.book;
        numbered = rw (book, id, sym (length-map before sentence_of))
            (numbered_last (sentences before) (sentence_of s)
            (ap (λ (o : Option (List ℕ)). is_some o) found.at.named));
      }
