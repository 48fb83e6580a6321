-- What is known of the theorem that was reached, for the search.
use Rattle.std.proofs.Common.{◌≡◌, ◌≤◌, ◌∙◌, ℕ, List, length, ap, sym, subst, sum_by}
use Rattle.mm_base.specs.MostBytes.{most_bytes}
use Rattle.mm_base.specs.Statement.{plain_statement}
use Rattle.mm_base.specs.declared.token.Token.{Token}
use Rattle.mm_text.specs.Files.{PlainFile}
use Rattle.mm_frame.specs.Rules.{AllMeant}
use Rattle.mm_frame.specs.Sentence.{Sentence, sentence_of}
use Rattle.mm_step.specs.Plain.{token_texts}
use Rattle.mm_step.specs.Steps.{IsProofNumber}
use Rattle.mm_rules.specs.Verdict.{proof_of}
use Rattle.mm_rules.proofs.Judgements.JudgedProofs.{texts_of}
use Rattle.mm_explain.specs.declared.read_to.Reached.{Reached}
use Rattle.mm_explain.specs.Mirror.Reached.{HasReached}
use Rattle.mm_explain.proofs.LoneProofs.LoneTheorems.{reached_fits, reached_number}

-- its tokens are those of its proof
pub own_texts : (r : Reached) (tokens : List Token) → tokens ≡ r.statement.proof.items
    → token_texts tokens ≡ proof_of (plain_statement r.statement)
own_texts r tokens same = ap token_texts same ∙ texts_of r.statement.proof.items

module _ (files : List PlainFile) (r : Reached)
    (some : (label : List ℕ) × HasReached files label r) where
  pub proof_number : (index : ℕ) × (s : Sentence)
      × IsProofNumber r.book.statements r.id.0 index s
  proof_number = (
    length some.1.before,
    sentence_of (plain_statement r.statement),
    reached_number files some.0 r some.1,
  )

  pub all_meant : AllMeant r.book.statements
  all_meant =
      subst (λ (st : List Sentence). AllMeant st) (sym some.1.book) some.1.at.0.meant

  pub own_room : (tokens : List Token) → tokens ≡ r.statement.proof.items
      → sum_by length (token_texts tokens) ≤ most_bytes
  own_room tokens same =
      subst (λ (ts : List (List ℕ)). sum_by length ts ≤ most_bytes)
      (sym (own_texts r tokens same)) (reached_fits files some.0 r some.1)
