-- Labels that are stated further down: those of the statements behind one, which of them is found,
-- and for which label that is asked. `forward_reference.rt` and `why.rt` rest on it.
use Rattle.std.proofs.Common.{◌≡◌, ℕ, suc, ◌+◌, List, [], ◌∷◌, ◌++◌, map, take, drop, length}
use Rattle.std.proofs.Common.{◌<◌, arith, get_or, slice_get, Bool, Option, Some, None, option_map}
use Rattle.std.proofs.Common.{inl, inr, refl, sym, ap, subst, ◌∙◌}
use Rattle.std.specs.Prelude.{find}
use Rattle.std.proofs.Math.Seq.{drop-append-add}
use Rattle.std.proofs.lemmas.Option.{slice_get-get_or}
use Rattle.std.specs.List.{AllZip, flat_map}
use Rattle.std.specs.Option.{option_or, option_to_list}
use Rattle.std.specs.Str.{bytes_eq}
use Rattle.std.proofs.lemmas.List.{map-append}
use Rattle.std.proofs.lemmas.Grind.{flat_map-append}
use Rattle.mm_base.specs.Token.{PlainToken, plain_token}
use Rattle.mm_base.specs.Statement.{PlainStatement}
use Rattle.mm_base.proofs.Lists.{take_next, split_at, zip_drop, zip_mapped, zip_weaker}
use Rattle.mm_frame.specs.Sentence.{Sentence}
use Rattle.mm_step.specs.declared.fault.ProofRule.{ProofRule}
use Rattle.mm_step.specs.declared.fault.ProofRule.TheVariants.{P2, P6, P7}
use Rattle.mm_step.specs.declared.profile.Profile.{Profile}
use Rattle.mm_step.specs.Substitution.{Expression}
use Rattle.mm_step.specs.Moves.{Move, name, again, mark}
use Rattle.mm_step.specs.Proof.{BreaksMove, IsWithin}
use Rattle.mm_proof.specs.Proof.{IsMovesFault}
use Rattle.mm_step.specs.Profiles.{limit_of}
use Rattle.mm_places.specs.WholePlaces.{IsWholePlace}
use Rattle.mm_facts.specs.Explained.{IsTokensFault, judged_tokens}
use Rattle.mm_explain.specs.Later.{IsUnknownIn, first_stated}
use Rattle.mm_explain.specs.declared.outline.Brief.{Brief}
use Rattle.mm_explain.specs.Mirror.Outlined.{IsBrief}
use Rattle.mm_explain.proofs.NamesMet.{find-append}

-- ==== the labels behind a statement

-- the statements behind one
pub labels_behind : (before after : List PlainStatement) (s : PlainStatement)
    → drop (length before + 1) (before ++ s ∷ after) ≡ after
labels_behind before after s = drop-append-add before (s ∷ after) 1

-- the label of a statement in brief
abbrev pub label_of : Brief → Option PlainToken
label_of b = option_map plain_token b.label

-- the labels behind so many statements
pub labels_from : (briefs : List Brief) (count : ℕ) (statements : List PlainStatement)
    → AllZip IsBrief statements briefs
    → map label_of (drop count briefs) ≡ map (λ s. s.label) (drop count statements)
labels_from briefs count statements are =
    let later : List PlainStatement = drop count statements in
    sym (zip_mapped (λ (s : PlainStatement). s.label) label_of later (drop count briefs)
    (zip_weaker IsBrief (λ s b. s.label ≡ label_of b) (λ s b is. sym is.label) later
    (drop count briefs) (zip_drop IsBrief statements briefs count are)))

-- ==== which label is found

-- the first one of two parts
first-append : (label : List ℕ) (a b : List (Option PlainToken))
    → first_stated label (a ++ b) ≡ option_or (first_stated label a) (first_stated label b)
first-append label a b =
    let test : PlainToken → Bool = λ t. bytes_eq t.text label in
    ap (find test) (flat_map-append option_to_list a b)
    ∙ find-append test (flat_map option_to_list a) (flat_map option_to_list b)

module _ (label : List ℕ) (briefs : List Brief) (i : ℕ) (d : Brief) (less : i < length briefs)
    (none : first_stated label (map label_of (take i briefs)) ≡ None) where
  abbrev pub x : Brief
  x = get_or briefs i d

  there : slice_get briefs i ≡ Some x
  there = slice_get-get_or briefs i d less

  -- one more that isn't it
  pub none_more : first_stated label (label_of x ∷ []) ≡ None
      → first_stated label (map label_of (take (i + 1) briefs)) ≡ None
  none_more other =
      let next : i + 1 ≡ suc i = omega arith in
      ap (λ (k : ℕ). first_stated label (map label_of (take k briefs))) next
      ∙ ap (λ (bs : List Brief). first_stated label (map label_of bs)) (take_next briefs i x there)
      ∙ ap (first_stated label) (map-append label_of (take i briefs) (x ∷ []))
      ∙ first-append label (map label_of (take i briefs)) (label_of x ∷ [])
      ∙ ap (λ o. option_or o (first_stated label (label_of x ∷ []))) none ∙ other

  -- the first that is it
  pub first_there : (t : PlainToken) → Some t ≡ first_stated label (label_of x ∷ [])
      → Some t ≡ first_stated label (map label_of briefs)
  first_there t own =
      let rest : List (Option PlainToken) = map label_of (drop (suc i) briefs) in
      let parts : map label_of briefs ≡ map label_of (take i briefs) ++ (label_of x ∷ [] ++ rest) =
      ap (map label_of) (split_at briefs i x there)
      ∙ map-append label_of (take i briefs) (x ∷ drop (suc i) briefs) in
      sym (ap (first_stated label) parts
      ∙ first-append label (map label_of (take i briefs)) (label_of x ∷ [] ++ rest)
      ∙ ap (λ o. option_or o (first_stated label (label_of x ∷ [] ++ rest))) none
      ∙ first-append label (label_of x ∷ []) rest
      ∙ ap (λ o. option_or o (first_stated label rest)) (sym own))

-- ==== for which label it is asked

-- no move and no end breaks P2
no_move : (Fits : Expression → Type 0) (before : List Sentence) (stack kept : List Expression)
    (move : Move (List ℕ)) → BreaksMove Fits P2 before stack kept move → ⊥
no_move Fits before stack kept (name label) broken = broken
no_move Fits before stack kept (again tag) broken = let e : P2 ≡ P6 = broken.0 in cc
no_move Fits before stack kept mark broken = let e : P2 ≡ P7 = broken.0 in cc

no_moves : (Fits : Expression → Type 0) (before : List Sentence) (s : Sentence)
    (moves : List (Move (List ℕ))) (step : ℕ) → IsMovesFault Fits before s moves P2 step → ⊥
no_moves Fits before s moves step (inl fault) =
    no_move Fits before fault.stack fault.kept fault.move fault.fault.broken
no_moves Fits before s moves step (inr fault) = fault.broken

-- so P2 is broken at step 0
pub whole_step : (profile : Profile) (before : List Sentence) (s : Sentence)
    (tokens : List (List ℕ)) (step : ℕ) → IsTokensFault profile before s tokens P2 step → step ≡ 0
whole_step profile before s tokens step (inl (complete, inl whole)) = whole.0
whole_step profile before s tokens step (inl (complete, inr moves)) =
    absurd (no_moves (IsWithin (limit_of profile)) before s moves.2 step moves.4)
whole_step profile before s tokens step (inr (known, inl whole)) = whole.0
whole_step profile before s tokens step (inr (known, inr moves)) =
    absurd (no_moves (IsWithin (limit_of profile)) before s moves.2 step (inl moves.4))

-- it is asked for the label there
pub some_unknown : (before : List Sentence) (s : Sentence) (tokens : List (List ℕ))
    (rule : ProofRule) → rule ≡ P2 → (token byte : ℕ) (text : List ℕ)
    → IsWholePlace before s (judged_tokens tokens) rule token byte
    → slice_get tokens token ≡ Some text → IsUnknownIn before tokens rule (Some text)
some_unknown before s tokens rule is token byte text place there =
    subst (λ (r : ProofRule). IsUnknownIn before tokens r (Some text)) (sym is) (
      token,
      (subst (λ (r : ProofRule). IsWholePlace before s (judged_tokens tokens) r token byte) is
          place).0,
      there,
    )

-- no label is asked for where another rule is broken
pub none_unknown : (before : List Sentence) (tokens : List (List ℕ)) (rule : ProofRule)
    → ¬ (rule ≡ P2) → IsUnknownIn before tokens rule None
none_unknown before tokens P2 other = absurd (other refl)
none_unknown before tokens rule other = refl
