-- Items are cut into greedy lines in one way only, whatever the items are: a line is one item or
-- several within 79 bytes, and is full before the next one. The lines of tokens rest on it
-- (LaidOutLines.antt), and those of pieces (SmallLines.antt).
use Rattle.std.proofs.Common.{◌≡◌, ℕ, ◌<◌, ◌≤◌, ◌⊎◌, inl, inr, List, [], ◌∷◌, ◌++◌, length, refl}
use Rattle.std.proofs.Common.{sym, ap, ◌∙◌, arith, append_assoc, length-append, flat_map}
use Rattle.std.specs.List.{AllByRecursion}

-- Of two prefixes of one list, they are the same, or one goes on where the other ends.
pub data Prefixes {A : Type 0} (a c b d : List A) : Type 0 where
  same : a ≡ b → c ≡ d → Prefixes a c b d
  longer : (x : A) (more : List A) → b ≡ a ++ x ∷ more → c ≡ (x ∷ more) ++ d → Prefixes a c b d
  shorter : (x : A) (more : List A) → a ≡ b ++ x ∷ more → d ≡ (x ∷ more) ++ c → Prefixes a c b d

pub prefixes : {A : Type 0} (a c b d : List A) → a ++ c ≡ b ++ d → Prefixes a c b d
prefixes [] c [] d e = same refl e
prefixes [] c (y ∷ b) d e = longer y b refl e
prefixes (x ∷ a) c [] d e = shorter x a refl (sym e)
prefixes (x ∷ a) c (y ∷ b) d e =
    let head : x ≡ y = cc in
    elim (prefixes a c b d (cc)) [
      | same first rest ↦ same (cc) rest
      | longer z more whole rest ↦ longer z more (cc) rest
      | shorter z more whole rest ↦ shorter z more (cc) rest
    ]

pub no_items : {A : Type 0} (line : List A) (lines : List (List A)) → 0 < length line
    → [] ≡ flat_map (λ l. l) (line ∷ lines) → ⊥
no_items line lines some e =
    omega (arith, length-append line (flat_map (λ l. l) lines), ap length e)

-- ==== lines by a width

-- these items may be a line
abbrev IsCut : {A : Type 0} → (List A → ℕ) → List A → Type 0
IsCut wide items = (length items ≡ 1) ⊎ ((1 < length items) × (wide items ≤ 79))

-- a line is full before these items
abbrev IsFullOf : {A : Type 0} → (List A → ℕ) → List A → List A → Type 0
IsFullOf wide line [] = Unit {0}
IsFullOf wide line (item ∷ items) = 79 < wide (line ++ item ∷ [])

-- each line is full before the next
abbrev AreFull : {A : Type 0} → (List A → ℕ) → List (List A) → Type 0
AreFull wide [] = Unit {0}
AreFull wide (line ∷ lines) =
    IsFullOf wide line (flat_map (λ items. items) lines) × AreFull wide lines

-- a longer list has no smaller width
abbrev Grows : {A : Type 0} → (List A → ℕ) → Type 0
Grows {A} wide = (a b : List A) → wide a ≤ wide (a ++ b)

cut_length : {A : Type 0} (wide : List A → ℕ) (line : List A) → IsCut wide line
    → 0 < length line
cut_length wide line (inl one) = omega (arith, one)
cut_length wide line (inr more) = omega (arith, more.0)

narrow : {A : Type 0} (wide : List A → ℕ) (line : List A) → IsCut wide line → 1 < length line
    → wide line ≤ 79
narrow wide line (inl one) lt = absurd (omega (arith, one, lt))
narrow wide line (inr more) lt = more.1

-- a line that is full before an item does not go on with it
not_longer : {A : Type 0} (wide : List A → ℕ) (grows : Grows wide)
    (line following other rest more : List A) (item : A) → IsCut wide line
    → IsFullOf wide line following → IsCut wide other → other ≡ line ++ item ∷ more
    → following ≡ (item ∷ more) ++ rest → ⊥
not_longer wide grows line following other rest more item is full is_other whole next =
    let over : 79 < wide (line ++ item ∷ []) = rw next at full in
    let some = cut_length wide line is in
    let count = ap length whole ∙ length-append line (item ∷ more) in
    let slim : wide ((line ++ item ∷ []) ++ more) ≤ 79 =
    rw (append_assoc line (item ∷ []) more, ← whole) (narrow wide other is_other (omega arith)) in
    omega (arith, grows (line ++ item ∷ []) more)

pub one_greedy_cut : {A : Type 0} (wide : List A → ℕ) (grows : Grows wide) (a b : List (List A))
    → AllByRecursion (IsCut wide) a → AllByRecursion (IsCut wide) b → AreFull wide a
    → AreFull wide b → flat_map (λ l. l) a ≡ flat_map (λ l. l) b → a ≡ b
one_greedy_cut wide grows [] [] p q g h e = refl
one_greedy_cut wide grows [] (y ∷ b) p q g h e =
    absurd (no_items y b (cut_length wide y q.0) e)
one_greedy_cut wide grows (x ∷ a) [] p q g h e =
    absurd (no_items x a (cut_length wide x p.0) (sym e))
one_greedy_cut wide grows (x ∷ a) (y ∷ b) p q g h e =
    let after = flat_map (λ l. l) a in
    let behind = flat_map (λ l. l) b in
    elim (prefixes x after y behind e) [
      | same first others ↦
          let rest : a ≡ b = one_greedy_cut wide grows a b p.1 q.1 g.1 h.1 others in
          cc
      | longer item more whole next ↦
          absurd (not_longer wide grows x after y behind more item p.0 g.0 q.0 whole next)
      | shorter item more whole next ↦
          absurd (not_longer wide grows y behind x after more item q.0 h.0 p.0 whole next)
    ]
