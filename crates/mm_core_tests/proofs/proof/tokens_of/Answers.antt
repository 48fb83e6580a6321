-- The tokens of a proof are those of its statement.
use Rattle.std.proofs.Common.{◌≡◌, ℕ, ◌+◌, ◌≤◌, List, [], ◌∷◌, map, length, refl, sym, ap, ◌∙◌, arith}
use Rattle.std.specs.List.{sum_by}
use Rattle.std.proofs.lemmas.List.Sums.{sum_by-cons}
use Rattle.mm_base.specs.Token.{PlainToken}
use Rattle.mm_base.specs.Statement.{PlainStatement, plain_statement, bytes_in}
use Rattle.mm_base.specs.MostBytes.{most_bytes}
use Rattle.mm_step.specs.Plain.{token_texts}
use Rattle.mm_rules.proofs.Judgements.JudgedProofs.{texts_of}
use Rattle.mm_core_tests.proofs.proof.tokens_of.Goals as goal

bytes_of_texts : (tokens : List PlainToken) → sum_by (λ (t : List ℕ). length t) (map (λ (t : PlainToken). t.text) tokens) ≡ sum_by (λ (t : PlainToken). length t.text) tokens
bytes_of_texts [] = refl
bytes_of_texts (t ∷ tokens) =
    sum_by-cons (λ (t : List ℕ). length t) t.text (map (λ (t : PlainToken). t.text) tokens)
    ∙ ap (λ (n : ℕ). length t.text + n) (bytes_of_texts tokens)
    ∙ sym (sum_by-cons (λ (t : PlainToken). length t.text) t tokens)

pub returns : goal.returns
returns c =
    let s : PlainStatement = plain_statement c.args.statement.now in
    let same : token_texts c.in_ok-tokens.tokens.items ≡ map (λ (t : PlainToken). t.text) s.proof =
    ap token_texts (c.in_ok-tokens.ensures.items ∙ c.deref.ensures.value)
    ∙ texts_of c.args.statement.now.proof.items in
    let room : bytes_in s ≤ most_bytes = c.requires in
    let bytes : sum_by (λ (t : List ℕ). length t) (token_texts c.in_ok-tokens.tokens.items) ≡ sum_by (λ (t : PlainToken). length t.text) s.proof =
    ap (λ (ts : List (List ℕ)). sum_by (λ (t : List ℕ). length t) ts) same ∙ bytes_of_texts s.proof in
    omega (arith, bytes, room)
