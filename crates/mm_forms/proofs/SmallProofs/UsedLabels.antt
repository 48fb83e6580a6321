-- How often moves use labels, which of them first, and what their codes tell of that.
use Rattle.std.proofs.Common.{◌≡◌, ◌≢◌, ℕ, zero, suc, ◌+◌, ◌<◌, List, [], ◌∷◌, ◌++◌}
use Rattle.std.proofs.Common.{slice_get, Some, refl, sym, ap, subst, ◌∙◌, arith}
use Rattle.std.proofs.Common.{Bool, true, false, cond, ◌⊎◌, inl, inr, ⊎_elim}
use Rattle.std.specs.Prelude.{bytes_eq, ◌||◌}
use Rattle.std.specs.List.{AllZip}
use Rattle.std.proofs.lemmas.Bool.{true≢false}
use Rattle.std.proofs.lemmas.Bool.Decides.{eqb_tells}
use Rattle.std.proofs.lemmas.List.Sums.{sum_by-cons}
use Rattle.std.proofs.lemmas.Option.{same_Some, none-some, slice_get_within}
use Rattle.std.proofs.lemmas.Slice.Eq.{bytes_eq-Decides}
use Rattle.mm_code.specs.declared.code.Code.{Code}
use Rattle.mm_code.specs.declared.code.Code.TheVariants.{Number, Tag}
use Rattle.mm_frame.specs.Sentence.{Sentence}
use Rattle.mm_step.specs.Tree.{Trees, none, spelling}
use Rattle.mm_step.specs.Moves.{Move, name, again, mark, Makes}
use Rattle.mm_proof.specs.Tokens.{Says}
use Rattle.mm_forms.specs.Visits.{visits}
use Rattle.mm_forms.specs.Sharing.{AreFirstUses, ShareThose}
use Rattle.mm_forms.specs.SmallProofs.{is_step_by, uses, IsUsedBefore}
use Rattle.mm_forms.specs.Mirror.CodeSmall.{is_number_of, times}
use Rattle.mm_proof.specs.Mirror.SharedSteps.{In}
use Rattle.mm_proof.proofs.Members.{Once, once_indices, get_in, contains_in}
use Rattle.mm_forms.proofs.FullSharing.OneSharing.{strip, made_covers, shared_careful}
use Rattle.mm_forms.proofs.FullSharing.SomeSharing.{labels_in, spelled_uses}
use Rattle.mm_forms.proofs.FullSharing.OneSharedProof.{uses_once, uses_apart, some_uses}

-- ---- the labels by which moves make steps

abbrev pub named : List (Move (List ℕ)) → List (List ℕ)
named [] = []
named (name label ∷ moves) = label ∷ named moves
named (again tag ∷ moves) = named moves
named (mark ∷ moves) = named moves

pub named_in : (moves : List (Move (List ℕ))) (label : List ℕ) → In (named moves) label
    → In moves (name label)
named_in [] label h = absurd h
named_in (name l ∷ moves) label (inl e) = inl (ap name e)
named_in (name l ∷ moves) label (inr h) = inr (named_in moves label h)
named_in (again tag ∷ moves) label h = inr (named_in moves label h)
named_in (mark ∷ moves) label h = inr (named_in moves label h)

pub in_named : (moves : List (Move (List ℕ))) (label : List ℕ) → In moves (name label)
    → In (named moves) label
in_named [] label h = absurd h
in_named (name l ∷ moves) label (inl e) = inl cc
in_named (name l ∷ moves) label (inr h) = inr (in_named moves label h)
in_named (again tag ∷ moves) label (inl e) = absurd cc
in_named (again tag ∷ moves) label (inr h) = in_named moves label h
in_named (mark ∷ moves) label (inl e) = absurd cc
in_named (mark ∷ moves) label (inr h) = in_named moves label h

-- they are those of the trees that the moves make
named_visits : (before : List Sentence) (moves : List (Move (List ℕ))) (row : Trees)
    (kept : List Trees) (row' : Trees) (kept' : List Trees)
    (made : Makes before moves row kept row' kept')
    → labels_in (strip (visits before moves row kept row' kept' made)) ≡ named moves
named_visits before [] row kept row' kept' made = refl
named_visits before (name label ∷ moves) row kept row' kept' made =
    ap (λ l. label ∷ l) (named_visits before moves made.0 made.1 row' kept' made.3)
named_visits before (again tag ∷ moves) row kept row' kept' made =
    named_visits before moves made.0 made.1 row' kept' made.3
named_visits before (mark ∷ moves) row kept row' kept' made =
    named_visits before moves made.0 made.1 row' kept' made.3

-- what is first used in the word of a tree is so in the moves that share subtrees
pub named_uses : (P : Trees → Type 0) (before : List Sentence) (trees : Trees)
    (moves : List (Move (List ℕ))) (seen listed : List (List ℕ)) → ShareThose P before trees moves
    → AreFirstUses seen (spelling trees) listed → AreFirstUses seen (named moves) listed
named_uses P before trees moves seen listed s first =
    let v = visits before moves none [] trees s.kept s.made in
    let same = named_visits before moves none [] trees s.kept s.made in
    let r = some_uses (named moves) seen in
    let spelled = spelled_uses P trees [] (strip v) seen r.0 (λ t h. absurd h)
    (made_covers before trees moves s.kept s.made) (shared_careful before trees moves s)
    (subst (λ w. AreFirstUses seen w r.0) (sym same) r.1) in
    subst (AreFirstUses seen (named moves))
    (uses_once (spelling trees) seen r.0 listed spelled first)
    r.1

-- each is used
pub first_named : (seen word listed : List (List ℕ)) (label : List ℕ)
    → AreFirstUses seen word listed → In listed label → In word label
first_named seen [] listed label u h = absurd (rw u at h)
first_named seen (l ∷ word) listed label (inl u) h = inr (first_named seen word listed label u.1 h)
first_named seen (l ∷ word) listed label (inr u) h = elim (rw u.2 at h) [
  | inl e ↦ inl e
  | inr k ↦ inr (first_named (l ∷ seen) word u.1 label u.3 k)
]

-- ---- which is used first

-- the first is used before the other
abbrev Earlier : List (Move (List ℕ)) → (first other : List ℕ) → Type 0
Earlier moves first other =
    (prefix after : List (Move (List ℕ))) × (moves ≡ prefix ++ name first ∷ after)
    × ¬ (In prefix (name other))

earlier_behind : (move : Move (List ℕ)) (moves : List (Move (List ℕ))) (first other : List ℕ)
    → move ≢ name other → Earlier moves first other → Earlier (move ∷ moves) first other
earlier_behind move moves first other apart e = (
  move ∷ e.0,
  e.1,
  ap (λ m. move ∷ m) e.2,
  λ h. ⊎_elim (λ same. apart same) (λ k. e.3 k) h,
)

used_earlier : (moves : List (Move (List ℕ))) (seen listed : List (List ℕ)) (i j : ℕ)
    (first other : List ℕ) → AreFirstUses seen (named moves) listed → i < j
    → slice_get listed i ≡ Some first → slice_get listed j ≡ Some other → Earlier moves first other
used_earlier [] seen listed i j first other u less p q = absurd (none-some first (rw u at p))
used_earlier (again tag ∷ moves) seen listed i j first other u less p q =
    earlier_behind (again tag) moves first other (λ e. absurd cc)
    (used_earlier moves seen listed i j first other u less p q)
used_earlier (mark ∷ moves) seen listed i j first other u less p q =
    earlier_behind mark moves first other (λ e. absurd cc)
    (used_earlier moves seen listed i j first other u less p q)
used_earlier (name l ∷ moves) seen listed i j first other (inl u) less p q =
    let apart = uses_apart (named moves) seen listed u.1 in
    earlier_behind (name l) moves first other
    (λ e. let same : l ≡ other = cc in
    apart.1 other (get_in listed j other q) (subst (In seen) same (contains_in seen l u.0)))
    (used_earlier moves seen listed i j first other u.1 less p q)
used_earlier (name l ∷ moves) seen listed zero j first other (inr u) less p q =
    let same : l ≡ first = same_Some l first (rw u.2 at p) in
    ([], moves, ap (λ x. name x ∷ moves) same, λ h. h)
used_earlier (name l ∷ moves) seen listed (suc i) zero first other (inr u) less p q =
    absurd (omega arith)
used_earlier (name l ∷ moves) seen listed (suc i) (suc j) first other (inr u) less p q =
    let apart = uses_apart (named moves) (l ∷ seen) u.1 u.3 in
    let p' : slice_get u.1 i ≡ Some first = rw u.2 at p in
    let q' : slice_get u.1 j ≡ Some other = rw u.2 at q in
    earlier_behind (name l) moves first other
    (λ e. let same : l ≡ other = cc in apart.1 other (get_in u.1 j other q') (inl same))
    (used_earlier moves (l ∷ seen) u.1 i j first other u.3 (omega arith) p' q')

pub used_before : (moves : List (Move (List ℕ))) (seen listed : List (List ℕ)) (i j : ℕ)
    (first other : List ℕ) → AreFirstUses seen (named moves) listed → i < j
    → slice_get listed i ≡ Some first → slice_get listed j ≡ Some other
    → IsUsedBefore moves first other
used_before moves seen listed i j first other u less p q =
    let e = used_earlier moves seen listed i j first other u less p q in
    (e.0, e.1, e.2, λ h. e.3 (contains_in e.0 (name other) h))

-- ---- how often labels are used

-- whether two labels are equal
pub label_told : (a b : List ℕ)
    → ((bytes_eq a b ≡ true) × (a ≡ b)) ⊎ ((bytes_eq a b ≡ false) × (a ≢ b))
label_told a b = go (bytes_eq a b) refl
  where
    go : (t : Bool) → bytes_eq a b ≡ t
        → ((bytes_eq a b ≡ true) × (a ≡ b)) ⊎ ((bytes_eq a b ≡ false) × (a ≢ b))
    go true e = inl (e, (bytes_eq-Decides a b).0 e)
    go false e = inr (e, λ same. true≢false (sym ((bytes_eq-Decides a b).1 same) ∙ e))

-- whether the label is one of the list
abbrev pub has : List (List ℕ) → List ℕ → Bool
has [] label = false
has (x ∷ xs) label = bytes_eq x label || has xs label

pub has_told : (xs : List (List ℕ)) (label : List ℕ)
    → ((has xs label ≡ true) × In xs label) ⊎ ((has xs label ≡ false) × ¬ (In xs label))
has_told [] label = inr (refl, λ h. h)
has_told (x ∷ xs) label = ⊎_elim
    (λ h. inl (rw h.0 refl, inl h.1))
    (λ h. ⊎_elim (λ k. inl (rw (h.0, k.0) refl, inr k.1))
    (λ k. inr (rw (h.0, k.0) refl, λ m. ⊎_elim h.1 k.1 m)) (has_told xs label))
    (label_told x label)

abbrev pub one_if : Bool → ℕ
one_if b = cond b 1 0

module _ (names : List (List ℕ)) (once : Once names) (i : ℕ) (label : List ℕ)
    (there : slice_get names i ≡ Some label) where
  -- a code is the label's number exactly if its move is a step by the label
  same_step : (c : Code) (m : Move (List ℕ)) → Says names c m
      → is_step_by label m ≡ is_number_of (i + 1) c
  same_step Tag (name l) says = absurd cc
  same_step Tag (again tag) says = refl
  same_step Tag mark says = refl
  same_step (Number n) mark says = absurd (⊎_elim (λ a. cc (a.2)) (λ a. cc (a.2)) says.2)
  same_step (Number n) (again tag) says =
      let within = slice_get_within names i label there in
      ⊎_elim
      (λ a. absurd (cc (a.2)))
      (λ a. ⊎_elim (λ h. absurd (omega (arith, h.1, says.1, a.1, within))) (λ h. sym h.0)
      (eqb_tells (i + 1) n)) says.2
  same_step (Number n) (name l) says = ⊎_elim
      (λ a.
      let same : a.0 ≡ l = cc (a.2) in
      let at : slice_get names says.0 ≡ Some l = a.1 ∙ ap Some same in
      ⊎_elim
      (λ h. ⊎_elim (λ k. h.0 ∙ sym k.0)
      (λ k. absurd (k.1 (omega (
        arith,
        says.1,
        once_indices names i says.0 label once there
            (at ∙ ap Some (sym h.1)),
      )))) (eqb_tells (i + 1) n))
      (λ h. ⊎_elim (λ k. absurd (h.1 (same_Some label l (sym there ∙ ap (slice_get names)
      (omega (arith, says.1, k.1)) ∙ at)))) (λ k. h.0 ∙ sym k.0) (eqb_tells (i + 1) n))
      (label_told label l))
      (λ a. absurd (cc (a.2))) says.2

  -- the label is used as often as its number stands among the codes
  pub uses_times : (codes : List Code) (moves : List (Move (List ℕ)))
      → AllZip (Says names) codes moves → uses label moves ≡ times (i + 1) codes
  uses_times [] [] z = refl
  uses_times (c ∷ codes) (m ∷ moves) z =
      let same : one_if (is_step_by label m) ≡ one_if (is_number_of (i + 1) c) =
      ap one_if (same_step c m z.0) in
      let rest = uses_times codes moves z.1 in
      let p = sum_by-cons (λ x. one_if (is_step_by label x)) m moves in
      let q = sum_by-cons (λ x. one_if (is_number_of (i + 1) x)) c codes in
      let whole : one_if (is_step_by label m) + uses label moves
      ≡ one_if (is_number_of (i + 1) c) + times (i + 1) codes = omega (arith, same, rest) in
      p ∙ whole ∙ sym q
  uses_times codes moves z = absurd z
