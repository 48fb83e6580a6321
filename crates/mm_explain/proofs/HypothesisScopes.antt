-- Which statement has a label, and where the block ends in which it stands.
use Rattle.std.proofs.Common.{◌≡◌, ◌≢◌, false, ℕ, ◌+◌, List, [], ◌∷◌, ◌++◌, map}
use Rattle.std.proofs.Common.{Option, Some, None, inl, inr, refl, sym, subst, arith}
use Rattle.std.proofs.Common.{append_assoc}
use Rattle.std.specs.Prelude.{option_map}
use Rattle.std.specs.Option.{option_to_list}
use Rattle.std.proofs.lemmas.List.{map-append}
use Rattle.std.proofs.lemmas.List.Sums.{sum_by-append}
use Rattle.mm_base.specs.declared.statement.Kind.{Kind}
use Rattle.mm_base.specs.declared.statement.Kind.TheVariants.{Opening, Closing}
use Rattle.mm_base.specs.Blocks.{AreBalanced, openings, closings, is_opening, is_closing}
use Rattle.mm_text.specs.Files.{PlainFile}
use Rattle.mm_base.specs.Statement.{PlainStatement}
use Rattle.mm_base.specs.Token.{PlainToken}
use Rattle.mm_base.proofs.Lists.{pushed_cases}
use Rattle.mm_text.proofs.Reader.OpenBlocks.{balanced_more}
use Rattle.mm_frame.specs.Sentence.{SomeSentence, sentence_of, IsLabelled}
use Rattle.mm_step.specs.declared.fault.ProofRule.{ProofRule}
use Rattle.mm_step.specs.declared.fault.ProofRule.TheVariants.{P3}
use Rattle.mm_facts.specs.Explained.{detail_text, details_text, stated_at, block_ended_at}
use Rattle.mm_explain.specs.HypothesisPlaces.{AreTokenPlaces}
use Rattle.mm_rules.specs.Places.{token_place}
use Rattle.mm_rules.specs.Verdict.{sentences}

-- a statement that neither opens a block nor closes one
no_sign : (kind : Kind) → kind ≢ Opening → kind ≢ Closing
    → (is_opening kind ≡ false) × (is_closing kind ≡ false)
no_sign Opening a b = absurd (a refl)
no_sign Closing a b = absurd (b refl)
no_sign _ a b = (refl, refl)

pub no_count : (s : PlainStatement) → s.kind ≢ Opening → s.kind ≢ Closing
    → (openings (s ∷ []) ≡ 0) × (closings (s ∷ []) ≡ 0)
no_count s a b = let none = no_sign s.kind a b in (rw none.0 refl, rw none.1 refl)

-- so many blocks are open within another one behind these statements
abbrev pub IsWithin : List PlainStatement → (inner : ℕ) → Type 0
IsWithin a inner = AreBalanced a × (openings a ≡ closings a + inner)

-- and behind one more
pub within_more : (a : List PlainStatement) (s : PlainStatement) (inner next : ℕ)
    → IsWithin a inner → openings (s ∷ []) + inner ≡ closings (s ∷ []) + next
    → IsWithin (a ++ s ∷ []) next
within_more a s inner next (balanced, counted) more =
    let o : openings (a ++ s ∷ []) ≡ openings a + openings (s ∷ []) =
    sum_by-append _ a (s ∷ []) in
    let c : closings (a ++ s ∷ []) ≡ closings a + closings (s ∷ []) =
    sum_by-append _ a (s ∷ []) in (
      balanced_more a s balanced (λ le. omega (arith, counted, more)),
      omega (arith, o, c, counted, more),
    )

-- no statement has the label, with one more that hasn't it
pub unlabelled_more : (label : List ℕ) (earlier : List PlainStatement) (s : PlainStatement)
    → ¬ (SomeSentence (sentences earlier) (IsLabelled label))
    → ¬ (IsLabelled label (sentence_of s))
    → ¬ (SomeSentence (sentences (earlier ++ s ∷ [])) (IsLabelled label))
unlabelled_more label earlier s none other (index, t, there, named) =
    elim (pushed_cases (sentences earlier) (sentence_of s) index t
    (rw (map-append sentence_of earlier (s ∷ [])) at there)) [
      | inl before ↦ none (index, t, before, named)
      | inr (at, same) ↦ other (subst (IsLabelled label) (sym same) named)
    ]

-- the text of both facts
pub scope_told : (files : List PlainFile) (out text more : List ℕ) (t first : PlainToken)
    (end : Option PlainToken) (closing : Option PlainStatement)
    → text ≡ out ++ detail_text (stated_at (token_place files t)) → t ≡ first
    → more ≡ text
    ++ details_text (map (λ c. block_ended_at (token_place files c)) (option_to_list end))
    → end ≡ option_map (λ s. s.first) closing
    → more ≡ out ++ details_text (stated_at (token_place files first)
    ∷ map (λ s. block_ended_at (token_place files s.first)) (option_to_list closing))
scope_told files out text more t first end None put same last is =
    rw (last, put, same, is)
    (append_assoc out (detail_text (stated_at (token_place files first))) [])
scope_told files out text more t first end (Some s) put same last is =
    rw (last, put, same, is)
    (append_assoc out (detail_text (stated_at (token_place files first)))
    (details_text (block_ended_at (token_place files s.first) ∷ [])))

-- none of another rule
pub other_places : (files : List PlainFile) (before : List PlainStatement) (rule : ProofRule)
    (text : List ℕ) → rule ≢ P3 → AreTokenPlaces files before rule text []
other_places files before P3 text other = absurd (other refl)
other_places files before _ text other = refl
