-- Members of lists, and what can be decided of them and of the members of frames' pairs.
use Rattle.std.proofs.Common.{◌≡◌, ℕ, zero, suc, List, [], ◌∷◌, ◌++◌, slice_get, Contains, Some}
use Rattle.std.proofs.Common.{◌⊎◌, inl, inr, refl, sym, ap, ◌∙◌, arith, ◌≢◌, ◌+◌, ◌<◌, length}
use Rattle.std.proofs.Common.{Option, None, subst, ⊎_elim}
pub use Rattle.mm_proof.specs.Mirror.SharedSteps.{In}
use Rattle.std.proofs.lemmas.Option.{same_Some, none-some, slice_get_within, get_or_from_slice_get}
use Rattle.std.proofs.lemmas.Option.{slice_get-get_or}
use Rattle.mm_base.specs.declared.statement.Kind.TheVariants.{Distinct}
use Rattle.mm_frame.specs.Sentence.{Sentence}
use Rattle.mm_frame.specs.Active.{IsActive, IsVariable}
use Rattle.mm_frame.specs.Frame.{IsMandatory, AreThose, IsDistinct, IsMandatoryPair}
use Rattle.mm_frame.proofs.Rules.DecidedStatements.{dec_both, dec_if, dec_as, dec_some, kind_dec}
use Rattle.mm_frame.proofs.Rules.DecidedStatements.{symbol_dec, distinct_dec, mandatory_dec}
use Rattle.mm_frame.proofs.Rules.DecidedStatements.{active_dec, contains_dec, dec_not, dec_or}
use Rattle.mm_frame.proofs.Rules.DecidedStatements.{variable_dec}
use Rattle.mm_step.specs.Tree.{ShareNoVariable, AreDistinct}

-- ==== members of lists, by recursion on the list

pub in_get : {X : Type 0} (xs : List X) (x : X) → In xs x → (i : ℕ) × (slice_get xs i ≡ Some x)
in_get [] x h = absurd h
in_get (y ∷ ys) x (inl e) = (0, ap Some e)
in_get (y ∷ ys) x (inr h) = let g = in_get ys x h in (suc g.0, g.1)

pub get_in : {X : Type 0} (xs : List X) (i : ℕ) (x : X) → slice_get xs i ≡ Some x → In xs x
get_in [] i x e = absurd (none-some x e)
get_in (y ∷ ys) zero x e = inl (same_Some y x e)
get_in (y ∷ ys) (suc i) x e = inr (get_in ys i x e)

pub in_contains : {X : Type 0} (xs : List X) (x : X) → In xs x → Contains xs x
in_contains xs x h =
    let g = in_get xs x h in
    (g.0, slice_get_within xs g.0 x g.1, get_or_from_slice_get xs g.0 x x g.1)

pub contains_in : {X : Type 0} (xs : List X) (x : X) → Contains xs x → In xs x
contains_in xs x c = get_in xs c.0 x (slice_get-get_or xs c.0 x c.1 ∙ ap Some c.2)

-- the member of a list of one
pub only_one : {X : Type 0} (x y : X) → Contains (x ∷ []) y → x ≡ y
only_one x y (zero, within, is) = is
only_one x y (suc k, within, is) = absurd (let w : suc k < 1 = within in omega arith)

pub in_left : {X : Type 0} (xs ys : List X) (x : X) → In xs x → In (xs ++ ys) x
in_left [] ys x h = absurd h
in_left (y ∷ xs) ys x h = let i = in_left xs ys x in grind arith

pub in_right : {X : Type 0} (xs ys : List X) (x : X) → In ys x → In (xs ++ ys) x
in_right [] ys x h = h
in_right (y ∷ xs) ys x h = inr (in_right xs ys x h)

pub in_apart : {X : Type 0} (xs ys : List X) (x : X) → In (xs ++ ys) x → In xs x ⊎ In ys x
in_apart [] ys x h = inr h
in_apart (y ∷ xs) ys x h = let i = in_apart xs ys x in grind arith

pub in_push : {X : Type 0} (xs : List X) (y x : X) → In (xs ++ y ∷ []) x → In xs x ⊎ (y ≡ x)
in_push [] y x h = grind arith
in_push (z ∷ xs) y x h = let i = in_push xs y x in grind arith

-- no member stands twice
abbrev pub Once : {X : Type 0} → List X → Type 0
Once [] = Unit {0}
Once (x ∷ xs) = ¬ (In xs x) × Once xs

pub once_indices : {X : Type 0} (xs : List X) (i j : ℕ) (x : X) → Once xs → slice_get xs i ≡ Some x
    → slice_get xs j ≡ Some x → i ≡ j
once_indices [] i j x o p q = absurd (none-some x p)
once_indices (y ∷ ys) zero zero x o p q = refl
once_indices (y ∷ ys) zero (suc j) x o p q = absurd (o.0 (get_in ys j y (q ∙ sym p)))
once_indices (y ∷ ys) (suc i) zero x o p q = absurd (o.0 (get_in ys i y (p ∙ sym q)))
once_indices (y ∷ ys) (suc i) (suc j) x o p q = ap suc (once_indices ys i j x o.1 p q)

pub indices_once : {X : Type 0} (xs : List X)
    → ((i j : ℕ) (x : X) → slice_get xs i ≡ Some x → slice_get xs j ≡ Some x → i ≡ j) → Once xs
indices_once [] one = tt
indices_once (y ∷ ys) one = (
  λ h. let g = in_get ys y h in absurd
      (let e : 0 ≡ suc g.0 = one 0 (suc g.0) y refl g.1 in omega arith),
  indices_once ys (λ i j x p q. let e : suc i ≡ suc j = one (suc i) (suc j) x p q in omega arith),
)

-- ==== what can be decided of frames, and of what replaces the members of their pairs

-- ---- over the elements of a list

module _ (y : List ℕ) (xs : List (List ℕ)) where
  pub contains_later : (x : List ℕ) → Contains xs x → Contains (y ∷ xs) x
  contains_later x h = (suc h.0, let less : h.0 < length xs = h.1 in omega arith, h.2)

  pub contains_first : Contains (y ∷ xs) y
  contains_first = (0, omega arith, refl)

  pub contains_cases : (x : List ℕ) → Contains (y ∷ xs) x → (y ≡ x) ⊎ Contains xs x
  contains_cases x (zero, less, e) = inl e
  contains_cases x (suc k, less, e) =
      let more : suc k < length (y ∷ xs) = less in inr (k, omega arith, e)

module _ (P : List ℕ → Type 0) (each : ((x : List ℕ) → Dec (P x))) where
  pub dec_member : (xs : List (List ℕ)) → Dec ((x : List ℕ) × Contains xs x × P x)
  dec_member [] = no (λ h. absurd (let less : h.1.0 < 0 = h.1.1 in omega arith))
  dec_member (y ∷ xs) = dec_as
      (λ h. ⊎_elim (λ p. (y, contains_first y xs, p))
      (λ b. (b.0, contains_later y xs b.0 b.1, b.2)) h)
      (λ h. ⊎_elim (λ e. inl (rw e h.2)) (λ c. inr (h.0, c, h.2)) (contains_cases y xs h.0 h.1))
      (dec_or (each y) (dec_member xs))

  pub dec_each : (xs : List (List ℕ)) → Dec ((x : List ℕ) → Contains xs x → P x)
  dec_each [] = yes (λ x h. absurd (let less : h.0 < 0 = h.1 in omega arith))
  dec_each (y ∷ xs) = dec_as
      (λ h x c. elim (contains_cases y xs x c) [ inl e ↦ subst P e h.0 | inr k ↦ h.1 x k ])
      (λ h. (h y (contains_first y xs), λ x c. h x (contains_later y xs x c)))
      (dec_both (each y) (dec_each xs))

-- the elements that a property picks
pub those_of : {X : Type 0} (P : ℕ → X → Type 0) → ((k : ℕ) (x : X) → Dec (P k x)) → (index : ℕ) (xs : List X) → (those : List X) × AreThose P index xs those
those_of P each index [] = ([], refl)
those_of P each index (x ∷ xs) = go (each index x) (those_of P each (index + 1) xs)
  where
    go : Dec (P index x) → (those : List _) × AreThose P (index + 1) xs those → (those : List _) × AreThose P index (x ∷ xs) those
    go (yes p) r = (x ∷ r.0, inl (p, r.0, refl, r.1))
    go (no n) r = (r.0, inr (n, r.1))

-- ---- pairs

pub share_dec : (before : List Sentence) (e f : List (List ℕ)) → Dec (ShareNoVariable before e f)
share_dec before e f = dec_as (λ h u v c d. h u c v d) (λ h u c v d. h u v c d)
    (dec_each (λ u. IsVariable before u → ¬ (Contains f u)) (λ u. dec_if (variable_dec before u) (dec_not (contains_dec f u))) e)

pub apart_dec : (before : List Sentence) (e f : List (List ℕ)) → Dec (AreDistinct before e f)
apart_dec before e f = dec_as (λ h u v p q c d. h u c p v d q) (λ h u c p v d q. h u v p q c d)
    (dec_each (λ u. IsVariable before u → (v : List ℕ) → Contains f v → IsVariable before v → IsDistinct before u v)
    (λ u. dec_if (variable_dec before u)
    (dec_each (λ v. IsVariable before v → IsDistinct before u v) (λ v. dec_if (variable_dec before v) (distinct_dec before u v)) f)) e)

-- what replaces two symbols is so
abbrev pub BothReplaced : (List ℕ → Option (List (List ℕ))) → (List (List ℕ) → List (List ℕ) → Type 0) → List ℕ → List ℕ → Type 0
BothReplaced σ P x y = (e : List (List ℕ)) × (f : List (List ℕ)) × (σ x ≡ Some e) × (σ y ≡ Some f) × P e f

both_replaced_dec : (σ : List ℕ → Option (List (List ℕ))) (P : List (List ℕ) → List (List ℕ) → Type 0) → ((e f : List (List ℕ)) → Dec (P e f)) → (x y : List ℕ) → Dec (BothReplaced σ P x y)
both_replaced_dec σ P each x y = go (σ x) (σ y) refl refl
  where
    go : (a b : Option (List (List ℕ))) → σ x ≡ a → σ y ≡ b → Dec (BothReplaced σ P x y)
    go None b p q = no (λ h. none-some h.0 (sym p ∙ h.2))
    go (Some a) None p q = no (λ h. none-some h.1 (sym q ∙ h.3))
    go (Some a) (Some b) p q = elim (each a b) [
      | yes h ↦ yes (a, b, p, q, h)
      | no n ↦ no (λ h. n (subst (λ f. P a f) (same_Some h.1 b (sym h.3 ∙ q)) (subst (λ e. P e h.1) (same_Some h.0 a (sym h.2 ∙ p)) h.4)))
    ]

-- some mandatory pair of the assertion is replaced so
pub some_pair_dec : (before : List Sentence) (s : Sentence) (σ : List ℕ → Option (List (List ℕ))) (P : List (List ℕ) → List (List ℕ) → Type 0)
    → ((e f : List (List ℕ)) → Dec (P e f)) → Dec ((x : List ℕ) × (y : List ℕ) × IsMandatoryPair before s x y × BothReplaced σ P x y)
some_pair_dec before s σ P each = dec_as
    (λ h. (h.3.1.0, h.3.1.2.0, (((h.3.1.2.2.0, (h.0, h.1, h.2, h.3.0.0, (h.3.0.1, h.3.1.1, h.3.1.2.1))), h.3.1.2.2.1, h.3.1.2.2.2)), h.3.1.2.2.3))
    (λ h. (h.2.0.1.0, h.2.0.1.1, h.2.0.1.2, ((h.2.0.1.3, h.2.0.1.4.0), (h.0, h.2.0.1.4.1, (h.1, h.2.0.1.4.2, (h.2.0.0, h.2.1, h.2.2, h.3))))))
    (dec_some (λ index (d : Sentence). (IsActive before index × (d.kind ≡ Distinct)) × ((x : List ℕ) × Contains d.symbols x × ((y : List ℕ) × Contains d.symbols y
    × ((x ≢ y) × IsMandatory before s x × IsMandatory before s y × BothReplaced σ P x y))))
    (λ index d. dec_both (dec_both (active_dec before index) (kind_dec d.kind Distinct))
    (dec_member (λ x. (y : List ℕ) × Contains d.symbols y × ((x ≢ y) × IsMandatory before s x × IsMandatory before s y × BothReplaced σ P x y))
    (λ x. dec_member (λ y. (x ≢ y) × IsMandatory before s x × IsMandatory before s y × BothReplaced σ P x y)
    (λ y. dec_as (λ c. (c.0.0, c.0.1, c.1.0, c.1.1)) (λ c. ((c.0, c.1), (c.2, c.3)))
    (dec_both (dec_both (dec_not (symbol_dec x y)) (mandatory_dec before s x)) (dec_both (mandatory_dec before s y) (both_replaced_dec σ P each x y))))
    d.symbols) d.symbols)) before)
