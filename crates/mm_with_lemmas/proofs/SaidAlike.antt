-- Two statements that say the same, and the tokens of their proofs.
use Rattle.std.proofs.Common.{◌≡◌, ℕ, List, Option, Some, None, Bool, true, false, not, ◌&&◌}
use Rattle.std.proofs.Common.{option_map, refl, sym, ap, ◌∙◌, take, length, get_or, ◌<◌, ◌+◌, [], ◌∷◌}
use Rattle.std.proofs.Common.{◌++◌}
use Rattle.std.proofs.lemmas.List.{map-append}
use Rattle.mm_base.specs.declared.statement.Kind.{Kind}
use Rattle.mm_base.specs.declared.statement.Kind.TheVariants.{Provable}
use Rattle.mm_base.specs.declared.statement.Statement.{Statement}
use Rattle.mm_base.specs.declared.token.Token.{Token}
use Rattle.mm_base.specs.Statement.{PlainStatement, is_provable, plain_statement}
use Rattle.mm_base.specs.Token.{PlainToken, plain_token}
use Rattle.mm_frame.specs.Sentence.{sentence_in, sentence_of}
use Rattle.mm_proof.specs.Tokens.{is_incomplete}
use Rattle.mm_proof.proofs.ProofNumbers.MoreLabels.{one_more}
use Rattle.mm_rules.specs.Verdict.{is_proof, proof_of}
use Rattle.mm_rules.proofs.Judgements.JudgedProofs.{texts_of}
use Rattle.mm_step.specs.Plain.{token_texts}
use Rattle.mm_with_lemmas.specs.WithLemmas.{said}

-- the texts of one more token
pub texts_on : (tokens others : List Token) (i : ℕ) (d e : Token) → i < length tokens
    → i < length others → token_texts (take i tokens) ≡ token_texts (take i others)
    → (get_or tokens i d).text.now ≡ (get_or others i e).text.now
    → token_texts (take (i + 1) tokens) ≡ token_texts (take (i + 1) others)
texts_on tokens others i d e less within same is =
    let text : Token → List ℕ = λ t. t.text.now in
    let x : Token = get_or tokens i d in
    let y : Token = get_or others i e in
    ap token_texts (one_more tokens i d x less refl) ∙ map-append text (take i tokens) (x ∷ [])
    ∙ (λ j. same j ++ is j ∷ [])
    ∙ sym (ap token_texts (one_more others i e y within refl)
    ∙ map-append text (take i others) (y ∷ []))

label_text : (label : Option Token)
    → option_map (λ (t : Token). t.text.now) label
    ≡ option_map (λ (t : PlainToken). t.text) (option_map plain_token label)
label_text None = refl
label_text (Some t) = refl

-- ---- the same sentence, and the same proof

pub same_sentence : (s t : Statement) → s.kind ≡ t.kind
    → option_map (λ (u : Token). u.text.now) s.label ≡ option_map (λ (u : Token). u.text.now) t.label
    → token_texts s.symbols.items ≡ token_texts t.symbols.items → sentence_in s ≡ sentence_in t
same_sentence s t kind label symbols =
    let labels = sym (label_text s.label) ∙ label ∙ label_text t.label in
    let all = sym (texts_of s.symbols.items) ∙ symbols ∙ texts_of t.symbols.items in
    λ i. record { kind = kind i; label = labels i; symbols = all i }

pub same_proof : (s t : Statement) → token_texts s.proof.items ≡ token_texts t.proof.items
    → proof_of (plain_statement s) ≡ proof_of (plain_statement t)
same_proof s t tokens = sym (texts_of s.proof.items) ∙ tokens ∙ texts_of t.proof.items

pub same_said : (s t : PlainStatement) → sentence_of s ≡ sentence_of t → proof_of s ≡ proof_of t
    → said s ≡ said t
same_said s t sentence proof = λ i. (sentence i, proof i)

-- ---- theorems

pub not_true : (b : Bool) → not b ≡ true → b ≡ false
not_true true is = sym is
not_true false is = refl

pub told_proof : (s : Statement) → s.kind ≡ Provable
    → not (is_incomplete (token_texts s.proof.items)) ≡ is_proof (plain_statement s)
told_proof s provable =
    ap (λ (texts : List (List ℕ)). not (is_incomplete texts)) (texts_of s.proof.items)
    ∙ ap (λ (k : Kind). is_provable k && not (is_incomplete (proof_of (plain_statement s))))
    (sym provable)

other_kind : (kind : Kind) → ¬ (kind ≡ Provable) → is_provable kind ≡ false
other_kind Provable other = absurd (other refl)
other_kind kind other = refl

pub told_other : (s : Statement) → ¬ (s.kind ≡ Provable) → is_proof (plain_statement s) ≡ false
told_other s other =
    ap (λ (b : Bool). b && not (is_incomplete (proof_of (plain_statement s))))
    (other_kind s.kind other)
