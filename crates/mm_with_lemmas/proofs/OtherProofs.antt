-- A text that may stand in place of a proof, and tokens with other texts.
use Rattle.std.proofs.Common.{◌≡◌, ◌≢◌, ℕ, ◌<◌, ◌==◌, List, [], ◌∷◌, ◌++◌, Bool, true}
use Rattle.std.proofs.Common.{false, not, length, get_or, sym, ap, subst, ◌∙◌}
use Rattle.std.specs.Str.{bytes_eq}
use Rattle.std.specs.List.{AllByRecursion, list_all, list_any}
use Rattle.std.proofs.lemmas.Bool.{and_parts, or_parts}
use Rattle.std.proofs.lemmas.List.{get_or-map}
use Rattle.std.proofs.lemmas.Slice.Eq.{bytes_eq-Decides}
use Rattle.mm_base.specs.Statement.{plain_statement}
use Rattle.mm_base.specs.declared.statement.Statement.{Statement}
use Rattle.mm_base.specs.Token.{PlainToken, is_printable, is_space, tokens_from}
use Rattle.mm_base.specs.declared.token.Token.{Token}
use Rattle.mm_code.specs.Words.{texts_of, tokens_in}
use Rattle.mm_code.proofs.ReadBack.{texts_in}
use Rattle.mm_rules.specs.Compared.{are_printable, hold_dollar}
use Rattle.mm_rules.specs.Compared.{IsProofText as HasProofTokens}
use Rattle.mm_rules.specs.Verdict.{proof_of}
use Rattle.mm_rules.proofs.Judgements.JudgedProofs.{texts_of as texts_of_proof}
use Rattle.mm_step.specs.Plain.{token_texts}
use Rattle.mm_text.specs.Replaced.{IsProofText, IsProofToken}

-- ---- a text in place of a proof

tokens_stand : (tokens : List PlainToken) → are_printable (texts_of tokens) ≡ true
    → hold_dollar (texts_of tokens) ≡ false → AllByRecursion IsProofToken tokens
tokens_stand [] printable plain = tt
tokens_stand (t ∷ tokens) printable plain =
    let each =
    and_parts (list_all is_printable t.text) (are_printable (texts_of tokens)) printable in
    let none = or_parts (list_any (λ b. b == 36) t.text) (hold_dollar (texts_of tokens)) plain in
    ((each.0, none.0), tokens_stand tokens each.1 none.1)

-- it begins and ends with white space, and has the tokens of a proof
pub text_stands : (text : List ℕ) → HasProofTokens text
    → (first : ℕ) × (more : List ℕ) × (text ≡ first ∷ more) × (is_space first ≡ true)
    → (inner : List ℕ) × (last : ℕ) × (text ≡ inner ++ last ∷ []) × (is_space last ≡ true)
    → IsProofText text
text_stands text legal (first, more, begins, white) (inner, last, ends, last_white) = record {
  first = first;
  more = more;
  begins = begins;
  first_space = white;
  inner = inner;
  last = last;
  ends = ends;
  last_space = last_white;
  tokens = λ file at.
      let same = sym (texts_in file at text) in
      tokens_stand (tokens_from file at text)
      (subst (λ (ts : List (List ℕ)). are_printable ts ≡ true) same legal.printable)
      (subst (λ (ts : List (List ℕ)). hold_dollar ts ≡ false) same legal.plain);
}

-- ---- tokens with other texts

other_bytes : (a b : List ℕ) (r : Bool) → r ≡ not (bytes_eq a b) → r ≡ true → a ≢ b
other_bytes a b r ne is same =
    let e : true ≡ false = sym is ∙ ne ∙ ap not ((bytes_eq-Decides a b).1 same) in absurd cc

-- one of them has another text
pub other_text : (tokens others : List Token) (i : ℕ) (d e : Token) (r : Bool) → i < length tokens
    → i < length others
    → r ≡ not (bytes_eq (get_or tokens i d).text.now (get_or others i e).text.now) → r ≡ true
    → token_texts tokens ≢ token_texts others
other_text tokens others i d e r less within ne is same =
    let text : Token → List ℕ = λ t. t.text.now in
    other_bytes (get_or tokens i d).text.now (get_or others i e).text.now r ne is
    (sym (get_or-map text tokens i d [] less) ∙ ap (λ (ts : List (List ℕ)). get_or ts i []) same
    ∙ get_or-map text others i e [] within)

-- tokens of a text, and of a proof
pub other_proof : (text : List ℕ) (tokens : List Token) (s : Statement)
    → token_texts tokens ≡ tokens_in text → token_texts tokens ≢ token_texts s.proof.items
    → tokens_in text ≢ proof_of (plain_statement s)
other_proof text tokens s read other same =
    other (read ∙ same ∙ sym (texts_of_proof s.proof.items))
