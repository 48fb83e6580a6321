-- Statements with others in their place, each in a relation to the one for which it stands: the
-- relation is judged after what the statements before it say.
use Rattle.std.proofs.Common.{◌≡◌, ℕ, zero, suc, List, [], ◌∷◌, ◌++◌, map, take, slice_get, Some}
use Rattle.std.proofs.Common.{refl, append_assoc, append-nil}
use Rattle.mm_base.specs.Statement.{PlainStatement}
use Rattle.mm_text.specs.Replaced.{placeless}
use Rattle.mm_base.proofs.Lists.{cons_parts}
use Rattle.mm_frame.specs.Sentence.{Sentence, sentence_of}
use Rattle.mm_rules.specs.Verdict.{sentences}
use Rattle.mm_verdict.proofs.AlikeVerdicts.{same_sentence}
use Rattle.mm_verdict.proofs.FileBytes.StatementsInFiles.{nowhere}

-- each is, behind those before it
abbrev pub AllAlong : (List Sentence → PlainStatement → PlainStatement → Type 0) → List Sentence
    → (after later : List PlainStatement) → Type 0
AllAlong P prefix [] [] = Unit {0}
AllAlong P prefix [] (t ∷ later) = ⊥
AllAlong P prefix (s ∷ after) [] = ⊥
AllAlong P prefix (s ∷ after) (t ∷ later) =
    P prefix s t × AllAlong P (prefix ++ sentence_of t ∷ []) after later

module _ (P : List Sentence → PlainStatement → PlainStatement → Type 0) where
  -- wherever their tokens stand, if one is so wherever its tokens stand
  pub all_along_moved : ((prefix : List Sentence) (s t u : PlainStatement)
      → placeless t ≡ placeless u → P prefix s t → P prefix s u)
      → (prefix : List Sentence) (after later last : List PlainStatement)
      → map placeless later ≡ map placeless last → AllAlong P prefix after later
      → AllAlong P prefix after last
  all_along_moved one prefix [] [] [] same all = tt
  all_along_moved one prefix [] [] (u ∷ last) same all = absurd cc
  all_along_moved one prefix (s ∷ after) (t ∷ later) [] same all = absurd cc
  all_along_moved one prefix (s ∷ after) (t ∷ later) (u ∷ last) same all =
      let (first, rest) = cons_parts (placeless t) (placeless u) (map placeless later)
      (map placeless last) same in
      let moved = all_along_moved one _ after later last rest all.1 in (
        one prefix s t u first all.0,
        rw (← same_sentence nowhere nowhere t u first) moved,
      )
  all_along_moved one prefix after later last same all = absurd all

  -- with each in its own place
  pub along_self : ((prefix : List Sentence) (s : PlainStatement) → P prefix s s)
      → (prefix : List Sentence) (statements : List PlainStatement)
      → AllAlong P prefix statements statements
  along_self own prefix [] = tt
  along_self own prefix (s ∷ statements) = (own prefix s, along_self own _ statements)

  -- with another in place of one of them
  pub along_put : ((prefix : List Sentence) (s : PlainStatement) → P prefix s s)
      → ((prefix : List Sentence) (s t u : PlainStatement)
      → placeless t ≡ placeless u → P prefix s t → P prefix s u)
      → (prefix : List Sentence) (before : List PlainStatement) (s t : PlainStatement)
      (after later : List PlainStatement) → P (prefix ++ sentences before) s t
      → map placeless after ≡ map placeless later
      → AllAlong P prefix (before ++ s ∷ after) (before ++ t ∷ later)
  along_put own one prefix [] s t after later put same =
      (rw append-nil at put, all_along_moved one _ after after later same (along_self own _ after))
  along_put own one prefix (b ∷ before) s t after later put same = (
    own prefix b,
    along_put own one _ before s t after later
        (rw (append_assoc prefix (sentence_of b ∷ []) (sentences before)) put) same,
  )

  -- the one at an index, and the one for which it stands
  pub along_at : (prefix : List Sentence) (after later : List PlainStatement)
      → AllAlong P prefix after later → (index : ℕ) (t : PlainStatement)
      → slice_get later index ≡ Some t
      → (s : PlainStatement) × (slice_get after index ≡ Some s)
      × P (prefix ++ sentences (take index later)) s t
  along_at prefix [] [] all index t there = absurd cc
  along_at prefix (s ∷ after) (u ∷ later) all zero t there =
      let same : u ≡ t = cc in
      (s, refl, rw (append-nil prefix, ← same) all.0)
  along_at prefix (s ∷ after) (u ∷ later) all (suc index) t there =
      let (v, here, is) = along_at _ after later all.1 index t there in
      (v, here, rw append_assoc at is)
  along_at prefix after later all index t there = absurd all

  -- and the other way round
  pub along_from : (prefix : List Sentence) (after later : List PlainStatement)
      → AllAlong P prefix after later → (index : ℕ) (s : PlainStatement)
      → slice_get after index ≡ Some s
      → (t : PlainStatement) × (slice_get later index ≡ Some t)
      × P (prefix ++ sentences (take index later)) s t
  along_from prefix [] [] all index s there = absurd cc
  along_from prefix (u ∷ after) (t ∷ later) all zero s there =
      let same : u ≡ s = cc in
      (t, refl, rw (append-nil prefix, ← same) all.0)
  along_from prefix (u ∷ after) (t ∷ later) all (suc index) s there =
      let (v, here, is) = along_from _ after later all.1 index s there in
      (v, here, rw append_assoc at is)
  along_from prefix after later all index s there = absurd all
