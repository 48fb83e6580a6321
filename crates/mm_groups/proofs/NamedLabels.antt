-- The labels that a proof names, and lists of which one more element is kept or not. The contracts
-- of `labels.rt` and `common.rt` rest on it.
use Rattle.std.proofs.Common.{◌≡◌, ℕ, ◌-◌, List, [], ◌∷◌, ◌++◌, length, take, drop, filter, not}
use Rattle.std.proofs.Common.{Bool, true, false, cond, Option, Some, None}
use Rattle.std.proofs.Common.{option_map}
use Rattle.std.proofs.Common.{refl, sym, ap, ◌∙◌, append-nil, append_assoc}
use Rattle.std.specs.List.{take_while}
use Rattle.std.proofs.lemmas.List.{take_rest}
use Rattle.std.proofs.lemmas.List.Elements.{filter-append}
use Rattle.std.specs.Option.{option_to_list}
use Rattle.mm_base.specs.declared.statement.Kind.{Kind}
use Rattle.mm_base.specs.declared.statement.Kind.TheVariants.{Provable}
use Rattle.mm_base.specs.declared.statement.Statement.{Statement}
use Rattle.mm_base.specs.declared.token.Token.{Token}
use Rattle.mm_base.specs.Statement.{is_provable, plain_statement}
use Rattle.mm_base.specs.Token.{plain_token}
use Rattle.mm_proof.specs.CheckedPrefix.{begins_list}
use Rattle.mm_step.specs.Plain.{token_texts}
use Rattle.mm_rules.specs.Verdict.{proof_of}
use Rattle.mm_rules.proofs.Judgements.JudgedProofs.{texts_of}
use Rattle.mm_groups.specs.Shared.{is_closing, is_known, labels_in, named_labels}

-- ---- the list

-- what follows the first token
behind_first : (t : Token) (tokens : List Token)
    → token_texts (take (length (t ∷ tokens) - 1) (drop 1 (t ∷ tokens))) ≡ token_texts tokens
behind_first t tokens = rw (take_rest (t ∷ tokens) 1) refl

-- the list of a compressed proof
pub listed : (tokens : List Token) → begins_list (token_texts tokens) ≡ true
    → take_while (λ t. not (is_closing t))
    (token_texts (take (length tokens - 1) (drop 1 tokens)))
    ≡ named_labels (token_texts tokens)
listed [] begins = absurd cc
listed (t ∷ tokens) begins =
    rw (behind_first t tokens, begins) refl

-- all tokens of a normal one
pub all_named : (tokens : List Token) → begins_list (token_texts tokens) ≡ false
    → token_texts tokens ≡ named_labels (token_texts tokens)
all_named [] other = refl
all_named (t ∷ tokens) other = rw other refl

-- ---- one more element

module _ (p : List ℕ → Bool) (before front labels kept : List (List ℕ)) (label : List ℕ)
    (so_far : kept ≡ before ++ filter p front) (more : labels ≡ front ++ label ∷ []) where
  with_last : before ++ filter p labels ≡ kept ++ cond (p label) (label ∷ []) []
  with_last =
      ap (λ (ls : List (List ℕ)). before ++ filter p ls) more
      ∙ ap (λ (ls : List (List ℕ)). before ++ ls) (filter-append p front (label ∷ []))
      ∙ sym (append_assoc before (filter p front) (filter p (label ∷ [])))
      ∙ ap (λ (ls : List (List ℕ)). ls ++ filter p (label ∷ [])) (sym so_far)

  -- it is kept
  pub kept_more : p label ≡ true → kept ++ label ∷ [] ≡ before ++ filter p labels
  kept_more is =
      sym (with_last ∙ ap (λ (b : Bool). kept ++ cond b (label ∷ []) []) is)

  -- or not
  pub kept_same : p label ≡ false → kept ≡ before ++ filter p labels
  kept_same is =
      sym (with_last ∙ ap (λ (b : Bool). kept ++ cond b (label ∷ []) []) is ∙ append-nil kept)

-- ---- the labels of a statement

other_kind : (kind : Kind) → ¬ (kind ≡ Provable) → is_provable kind ≡ false
other_kind Provable other = absurd (other refl)
other_kind kind other = refl

-- none of another statement than a `$p`
pub of_other : (s : Statement) → ¬ (s.kind ≡ Provable) → [] ≡ labels_in (plain_statement s)
of_other s other = rw (other_kind s.kind other) refl

-- those of a `$p`
pub of_provable : (s : Statement) → s.kind ≡ Provable → (own named : List (List ℕ))
    → own ≡ option_to_list (option_map (λ t. t.text.now) s.label)
    → named ≡ named_labels (token_texts s.proof.items)
    → own ++ filter is_known named ≡ labels_in (plain_statement s)
of_provable s provable own named is_own are_named =
    rw (provable, is_own, are_named, texts_of s.proof.items)
    (ap (λ (o : Option (List ℕ)). option_to_list o
    ++ filter is_known (named_labels (proof_of (plain_statement s)))) (own_text s.label))
  where
    own_text : (label : Option Token)
        → option_map (λ t. t.text.now) label
        ≡ option_map (λ t. t.text) (option_map plain_token label)
    own_text None = refl
    own_text (Some t) = refl
