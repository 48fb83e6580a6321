-- The order of the items of files: the tokens of each file come in the order of their positions.
use Rattle.std.proofs.Common.{◌≡◌, ◌≢◌, ℕ, ◌+◌, ◌<◌, ◌≤◌, List, [], ◌∷◌, ◌++◌, length, replicate}
use Rattle.std.proofs.Common.{Bool, true, false, refl, sym, ap, ◌∙◌, subst, Option, None, ◌⊎◌, inl}
use Rattle.std.proofs.Common.{inr, append_assoc, append-nil, arith, slice_index_or, slice_set}
use Rattle.std.specs.List.{AllByRecursion}
use Rattle.std.proofs.Math.Decide.{ℕ_discrete}
use Rattle.std.proofs.lemmas.Bool.{both_ways, false_from_ne_true}
use Rattle.mm_base.specs.Token.{PlainToken, tokens_from}
use Rattle.mm_text.specs.Files.{PlainFile}
use Rattle.mm_text.specs.Items.{Shown, Clear, Broken, without_comments, Spot, Outside, Piece, Met}
use Rattle.mm_text.specs.Items.{Named, pieces, pieces_of, put_before, put_in, plain_tokens, items}
use Rattle.mm_text.proofs.Inclusions.EachOnce.{Rises, rises_earlier, tokens_rise}
use Rattle.mm_text.proofs.Tokens.StepByStep.{shown_by, pieces_by, put_before_by, put_in_by}
use Rattle.mm_text.proofs.Replaced.ReplacedItems.{still_named, now_named}

-- ==== among the items of files the tokens of each file come in the order of their positions

-- ---- in one file

-- the tokens that are shown
abbrev clear_tokens : List Shown → List PlainToken
clear_tokens [] = []
clear_tokens (Clear t ∷ shown) = t ∷ clear_tokens shown
clear_tokens (Broken rule t ∷ shown) = clear_tokens shown

-- the tokens among pieces
abbrev piece_tokens : List Piece → List PlainToken
piece_tokens [] = []
piece_tokens (Met item ∷ ps) = plain_tokens (item ∷ []) ++ piece_tokens ps
piece_tokens (Named name ∷ ps) = piece_tokens ps

-- leaving out comments changes no order
shown_rise : (file n : ℕ) (begin : Option PlainToken) (tokens : List PlainToken)
    → Rises file n tokens → Rises file n (clear_tokens (without_comments begin tokens))
shown_rise file n begin tokens r =
    shown_by (λ ts shown. (m : ℕ) → Rises file m ts → Rises file m (clear_tokens shown))
    (λ m e. tt) (λ ts rule t m e. tt)
    (λ t ts shown inner m e. inner m (rises_earlier file m (t.at + 1) ts (omega (arith, e.0)) e.2))
    (λ t ts shown inner m e. (e.0, e.1, inner (t.at + 1) e.2)) begin tokens n r

-- and the pieces have the tokens in their order
pieces_rise : (file n : ℕ) (spot : Spot) (shown : List Shown) → Rises file n (clear_tokens shown)
    → Rises file n (piece_tokens (pieces file spot shown))
pieces_rise file n spot shown r =
    pieces_by file So (λ m e. tt) (λ rest rule t m e. tt)
    (λ t rest ps inner m e. (e.0, e.1, inner (t.at + 1) e.2)) passed passed (λ t name. passed t)
    spot shown n r
  where
    So : List Shown → List Piece → Type 0
    So rest ps = (m : ℕ) → Rises file m (clear_tokens rest) → Rises file m (piece_tokens ps)

    passed : (t : PlainToken) (rest : List Shown) (ps : List Piece) → So rest ps
        → So (Clear t ∷ rest) ps
    passed t rest ps inner m e =
        inner m (rises_earlier file m (t.at + 1) (clear_tokens rest) (omega (arith, e.0)) e.2)

file_rises : (number : ℕ) (file : PlainFile) → Rises number 0 (piece_tokens (pieces_of number file))
file_rises number file =
    pieces_rise number 0 Outside (without_comments None (tokens_from number 0 file.bytes))
    (shown_rise number 0 None (tokens_from number 0 file.bytes) (tokens_rise number 0 file.bytes))

piece_tokens-append : (a b : List Piece) → piece_tokens (a ++ b) ≡ piece_tokens a ++ piece_tokens b
piece_tokens-append [] b = refl
piece_tokens-append (Met item ∷ a) b = simp (piece_tokens-append a b, append_assoc)
piece_tokens-append (Named name ∷ a) b = piece_tokens-append a b

-- ---- among the tokens of all files

module _ (k : ℕ) where
  -- the tokens of one file among these, each at a later position than those before it, from a
  -- position on
  abbrev RiseIn : ℕ → List PlainToken → Type 0
  RiseIn n [] = Unit {0}
  RiseIn n (t ∷ tokens) =
      ((t.file ≡ k) × (n ≤ t.at) × RiseIn (t.at + 1) tokens) ⊎ ((t.file ≢ k) × RiseIn n tokens)

  -- none of them is of this file
  abbrev AreElsewhere : List PlainToken → Type 0
  AreElsewhere tokens = AllByRecursion (λ t. t.file ≢ k) tokens

  elsewhere_rise : (n : ℕ) (tokens : List PlainToken) → AreElsewhere tokens → RiseIn n tokens
  elsewhere_rise n [] h = tt
  elsewhere_rise n (t ∷ tokens) h = inr (h.0, elsewhere_rise n tokens h.1)

  -- those of the file, and then others
  own_rise : (n : ℕ) (tokens rest : List PlainToken) → Rises k n tokens → AreElsewhere rest
      → RiseIn n (tokens ++ rest)
  own_rise n [] rest r h = elsewhere_rise n rest h
  own_rise n (t ∷ tokens) rest r h = inl (r.1, r.0, own_rise (t.at + 1) tokens rest r.2 h)

  -- those of another file first
  other_rise : (m i n : ℕ) (tokens rest : List PlainToken) → m ≢ k → Rises m i tokens
      → RiseIn n rest → RiseIn n (tokens ++ rest)
  other_rise m i n [] rest other r h = h
  other_rise m i n (t ∷ tokens) rest other r h =
      inr (λ e. other (sym r.1 ∙ e), other_rise m (t.at + 1) n tokens rest other r.2 h)

  other_elsewhere : (m i : ℕ) (tokens rest : List PlainToken) → m ≢ k → Rises m i tokens
      → AreElsewhere rest → AreElsewhere (tokens ++ rest)
  other_elsewhere m i [] rest other r h = h
  other_elsewhere m i (t ∷ tokens) rest other r h =
      (λ e. other (sym r.1 ∙ e), other_elsewhere m (t.at + 1) tokens rest other r.2 h)

  -- if the file wasn't named yet, none of its tokens was met, and none is left
  abbrev IsFresh : ℕ → List Bool → List Piece → Type 0
  IsFresh n named ps =
      slice_index_or named k true ≡ false → (n ≡ 0) × AreElsewhere (piece_tokens ps)

  -- a file is put in
  put_before_rise : (files : List PlainFile) (named : List Bool) (n m : ℕ) (ps : List Piece)
      → slice_index_or named m true ≡ false → RiseIn n (piece_tokens ps) → IsFresh n named ps
      → RiseIn n (piece_tokens (put_before files m ps))
  put_before_rise files named n m ps new r fresh =
      put_before_by (λ qs. RiseIn n (piece_tokens qs)) files m ps r (λ file _.
      rw (piece_tokens-append (pieces_of m file) ps) (elim (ℕ_discrete m k) [
        | yes e ↦
            let (start, none) = fresh (ap (λ i. slice_index_or named i true) (sym e) ∙ new) in
            own_rise n (piece_tokens (pieces_of m file)) (piece_tokens ps)
            (rw (← e, start) (file_rises m file)) none
        | no other ↦ other_rise m 0 n _ (piece_tokens ps) other (file_rises m file) r
      ]))

  put_before_fresh : (files : List PlainFile) (named : List Bool) (n m : ℕ) (ps : List Piece)
      → IsFresh n named ps → IsFresh n (slice_set named m true) (put_before files m ps)
  put_before_fresh files named n m ps fresh new = elim (ℕ_discrete m k) [
    | yes e ↦ absurd (both_ways _ new
        (ap (λ i. slice_index_or (slice_set named i true) k true) e ∙ now_named named k))
    | no other ↦
        let was = false_from_ne_true _ (λ e. both_ways _ new (still_named named m k e)) in (
          (fresh was).0,
          put_before_by (λ qs. AreElsewhere (piece_tokens qs)) files m ps (fresh was).1 (λ file _.
              rw (piece_tokens-append (pieces_of m file) ps) (other_elsewhere m 0 _
              (piece_tokens ps) other (file_rises m file) (fresh was).1)),
        )
  ]

  put_in_rise : (files : List PlainFile) (left : ℕ) (named : List Bool) (n : ℕ) (ps : List Piece)
      → RiseIn n (piece_tokens ps) → IsFresh n named ps
      → RiseIn n (plain_tokens (put_in files left named ps))
  put_in_rise files left named n ps =
      put_in_by files (λ _ flags qs its.
      (i : ℕ) → RiseIn i (piece_tokens qs) → IsFresh i flags qs → RiseIn i (plain_tokens its))
      (λ _ flags i r fresh. tt) (λ _ flags p qs rule t i r fresh. tt)
      (λ _ flags t qs its inner i r fresh. elim r [
        | inl (home, from, rest) ↦
            inl (home, from, inner (t.at + 1) rest (λ new. absurd ((fresh new).1.0 home)))
        | inr (other, rest) ↦ inr (other, inner i rest (λ new. ((fresh new).0, (fresh new).1.1)))
      ])
      (λ _ flags t qs its inner. inner) (λ _ flags file qs its inner. inner)
      (λ _ flags name qs its inner. inner) (λ flags name m qs new i r fresh. tt)
      (λ _ flags name m qs its new inner i r fresh. inner i
      (put_before_rise files flags i m qs new r fresh) (put_before_fresh files flags i m qs fresh))
      left named ps n

  items_rise : (files : List PlainFile) → RiseIn 0 (plain_tokens (items files))
  items_rise [] = tt
  items_rise (top ∷ others) =
      let files : List PlainFile = top ∷ others in
      let named : List Bool = false ∷ replicate (length others) false in
      let new : IsFresh 0 named [] = λ _. (refl, tt) in
      rw (append-nil (pieces_of 0 top)) at (put_in_rise files (length others)
      (slice_set named 0 true) 0 (put_before files 0 [])
      (put_before_rise files named 0 0 [] refl tt new) (put_before_fresh files named 0 0 [] new))

  -- from a token on
  rise_behind : (n : ℕ) (before : List PlainToken) (t : PlainToken) (after : List PlainToken)
      → RiseIn n (before ++ t ∷ after) → t.file ≡ k → (n ≤ t.at) × RiseIn (t.at + 1) after
  rise_behind n [] t after (inl (home, from, r)) h = (from, r)
  rise_behind n [] t after (inr (other, r)) h = absurd (other h)
  rise_behind n (u ∷ before) t after (inl (home, from, r)) h =
      let (later, rest) = rise_behind (u.at + 1) before t after r h in (omega arith, rest)
  rise_behind n (u ∷ before) t after (inr (other, r)) h = rise_behind n before t after r h

-- of two tokens of one file the first one stands first
pub tokens_in_order : (files : List PlainFile) (before between after : List PlainToken)
    (t u : PlainToken) → plain_tokens (items files) ≡ before ++ t ∷ (between ++ u ∷ after)
    → t.file ≡ u.file → t.at < u.at
tokens_in_order files before between after t u e home =
    let rise = subst (RiseIn u.file 0) e (items_rise u.file files) in
    let (first, behind) = rise_behind u.file 0 before t (between ++ u ∷ after) rise home in
    let (second, rest) = rise_behind u.file (t.at + 1) between u after behind refl in
    omega arith
