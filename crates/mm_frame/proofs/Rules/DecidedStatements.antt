-- What can be decided of statements: kinds, what lists hold, what is open and active, mandatory hypotheses and active pairs.
use Rattle.std.proofs.Common.{◌≡◌, ℕ, zero, suc, ◌<◌, ◌≤◌, ◌⊎◌, List, [], ◌∷◌, length, take, drop}
use Rattle.std.proofs.Common.{Contains, Option, Some, None, inl, inr, refl, sym, ap, subst, ◌∙◌}
use Rattle.std.proofs.Common.{arith, true, rules, slice_get, take_all}
use Rattle.std.proofs.lemmas.Option.{same_Some, none-some}
use Rattle.std.proofs.lemmas.Bool.{cases_lt, cases_Bool, false≢true}
use Rattle.std.proofs.Math.Decide.{ℕ_discrete, dec_le}
use mathlib.Core.List.{List-discrete}
use Rattle.mm_base.specs.declared.statement.Kind.{Kind}
use Rattle.mm_base.specs.declared.statement.Kind.TheVariants.{Constants, Variables, Distinct}
use Rattle.mm_base.specs.declared.statement.Kind.TheVariants.{Floating, Essential, Opening}
use Rattle.mm_frame.specs.Sentence.{Sentence, SomeSentence, IsLabelled, Declares, Types}
use Rattle.mm_frame.specs.Active.{open_marks, close_marks, IsOpen, IsActive, SomeActive, IsConstant}
use Rattle.mm_frame.specs.Active.{IsVariable, IsTyped}
use Rattle.mm_frame.specs.Frame.{IsMandatory, IsMandatoryAt, IsDistinct}
use denote.Enum.Bare.{same_true, sameb}
use Rattle.mm_base.specs.contracts.statement.Kind.{the_type}
use Rattle.mm_base.proofs.Lists.{at_from_contains, contains_from_at}

-- ---- of parts

pub dec_both : {A B : Type 0} → Dec A → Dec B → Dec (A × B)
dec_both (yes a) (yes b) = yes (a, b)
dec_both (yes a) (no b) = no (λ h. b h.1)
dec_both (no a) b = no (λ h. a h.0)

pub dec_if : {A B : Type 0} → Dec A → Dec B → Dec (A → B)
dec_if a (yes b) = yes (λ x. b)
dec_if (yes a) (no b) = no (λ f. b (f a))
dec_if (no a) (no b) = yes (λ x. absurd (a x))

pub dec_as : {A B : Type 0} → (A → B) → (B → A) → Dec A → Dec B
dec_as f g (yes a) = yes (f a)
dec_as f g (no a) = no (λ b. a (g b))

pub dec_below : (n : ℕ) (P : ℕ → Type 0) → ((k : ℕ) → Dec (P k)) → Dec ((k : ℕ) → k < n → P k)
dec_below zero P each = yes (λ k h. absurd (omega arith))
dec_below (suc n) P each = go (dec_below n P each) (each n)
  where
    go : Dec ((k : ℕ) → k < n → P k) → Dec (P n) → Dec ((k : ℕ) → k < suc n → P k)
    go (yes a) (yes b) = yes (λ k h. elim (cases_lt k n) [ inl less ↦ a k less | inr more ↦ let e : n ≡ k = omega arith in subst P e b ])
    go (yes a) (no b) = no (λ h. b (h n (omega arith)))
    go (no a) b = no (λ h. a (λ k less. h k (omega arith)))

pub dec_some : {X : Type 0} (P : ℕ → X → Type 0) → ((k : ℕ) (x : X) → Dec (P k x)) → (xs : List X) → Dec ((k : ℕ) × (x : X) × (slice_get xs k ≡ Some x) × P k x)
dec_some P each [] = no (λ h. none-some h.1 h.2)
dec_some {X} P each (y ∷ xs) = go (each 0 y) (dec_some (λ k x. P (suc k) x) (λ k x. each (suc k) x) xs)
  where
    later : (k : ℕ) (x : X) → slice_get (y ∷ xs) k ≡ Some x → P k x → ¬ (P 0 y) → (j : ℕ) × (z : X) × (slice_get xs j ≡ Some z) × P (suc j) z
    later zero x e p n = absurd (n (subst (P 0) (sym (same_Some y x e)) p))
    later (suc k) x e p n = (k, x, e, p)

    go : Dec (P 0 y) → Dec ((k : ℕ) × (x : X) × (slice_get xs k ≡ Some x) × P (suc k) x) → Dec ((k : ℕ) × (x : X) × (slice_get (y ∷ xs) k ≡ Some x) × P k x)
    go (yes p) b = yes (0, y, refl, p)
    go (no p) (yes b) = yes (suc b.0, b.1, b.2, b.3)
    go (no p) (no b) = no (λ h. b (later h.0 h.1 h.2 h.3 p))

-- ---- kinds and lists

same_kind : (k : Kind) → sameb the_type k k ≡ true
same_kind Constants = refl
same_kind k = refl

pub kind_dec : (k l : Kind) → Dec (k ≡ l)
kind_dec k l = elim (cases_Bool (sameb the_type k l)) [
  | inl is ↦ yes (same_true the_type (search rules) k l is)
  | inr is_not ↦ no (λ e. false≢true (sym is_not ∙ ap (sameb the_type k) (sym e) ∙ same_kind k))
]

pub symbol_dec : (x y : List ℕ) → Dec (x ≡ y)
symbol_dec x y = List-discrete ℕ_discrete x y

pub expression_dec : (x y : List (List ℕ)) → Dec (x ≡ y)
expression_dec x y = List-discrete (List-discrete ℕ_discrete) x y

pub contains_dec : (xs : List (List ℕ)) (x : List ℕ) → Dec (Contains xs x)
contains_dec xs x = dec_as (λ (k, y, there, is). contains_from_at xs x (k, there ∙ ap Some is))
    (λ c. let (k, at) = at_from_contains xs x c in (k, x, at, refl))
    (dec_some (λ k y. y ≡ x) (λ k y. symbol_dec y x) xs)

-- ---- blocks

-- prefixes past the end are the whole
unclosed_all : (d : List Sentence) → ((n : ℕ) → n < suc (length d) → close_marks (take n d) ≤ open_marks (take n d)) → (n : ℕ) → close_marks (take n d) ≤ open_marks (take n d)
unclosed_all d h n = elim (cases_lt n (suc (length d))) [
  | inl less ↦ h n less
  | inr more ↦
      subst (λ l. close_marks l ≤ open_marks l) (take_all (length d) d (omega arith) ∙ sym (take_all n d (omega arith))) (h (length d) (omega arith))
]

pub open_dec : (before : List Sentence) (index : ℕ) → Dec (IsOpen before index)
open_dec before index = go (slice_get before index) refl
  where
    go : (o : Option Sentence) → slice_get before index ≡ o → Dec (IsOpen before index)
    go None e = no (λ o. none-some o.opening (sym e ∙ o.there))
    go (Some s) e = dec_as
        (λ h. record { opening = s; there = e; opened = h.0; unclosed = unclosed_all (drop (suc index) before) h.1 })
        (λ o. (ap (λ (t : Sentence). t.kind) (same_Some s o.opening (sym e ∙ o.there)) ∙ o.opened, λ n less. o.unclosed n))
        (dec_both (kind_dec s.kind Opening)
        (dec_below (suc (length (drop (suc index) before))) (λ n. close_marks (take n (drop (suc index) before)) ≤ open_marks (take n (drop (suc index) before)))
        (λ n. dec_le (close_marks (take n (drop (suc index) before))) (open_marks (take n (drop (suc index) before))))))

pub active_dec : (before : List Sentence) (index : ℕ) → Dec (IsActive before index)
active_dec before index = dec_as
    (λ h. record { within = h.0; kept = λ outer holds. h.1 outer holds.0 holds.1 })
    (λ a. (a.within, λ outer less o. a.kept outer (less, o)))
    (dec_both (dec_le (suc index) (length before))
    (dec_below index (λ outer. IsOpen (take (suc index) before) outer → IsOpen before outer)
    (λ outer. dec_if (open_dec (take (suc index) before) outer) (open_dec before outer))))

pub dec_or : {A B : Type 0} → Dec A → Dec B → Dec (A ⊎ B)
dec_or (yes a) b = yes (inl a)
dec_or (no a) (yes b) = yes (inr b)
dec_or (no a) (no b) = no (λ h. elim h [ inl x ↦ a x | inr y ↦ b y ])

pub dec_not : {A : Type 0} → Dec A → Dec (¬ A)
dec_not (yes a) = no (λ h. h a)
dec_not (no a) = yes a

-- ---- statements

pub label_dec : (label : List ℕ) (s : Sentence) → Dec (IsLabelled label s)
label_dec label s = go s.label
  where
    go : (o : Option (List ℕ)) → Dec (o ≡ Some label)
    go None = no (λ e. none-some label e)
    go (Some l) = dec_as (λ e. ap Some e) (λ e. same_Some l label e) (symbol_dec l label)

pub sentence_dec : (before : List Sentence) (P : Sentence → Type 0) → ((s : Sentence) → Dec (P s)) → Dec (SomeSentence before P)
sentence_dec before P each = dec_some (λ k s. P s) (λ k s. each s) before

pub some_active_dec : (before : List Sentence) (P : Sentence → Type 0) → ((s : Sentence) → Dec (P s)) → Dec (SomeActive before P)
some_active_dec before P each = dec_as (λ h. (h.0, h.1, h.2, h.3.0, h.3.1)) (λ h. (h.0, h.1, h.2, (h.3, h.4)))
    (dec_some (λ k s. IsActive before k × P s) (λ k s. dec_both (active_dec before k) (each s)) before)

pub variable_dec : (before : List Sentence) (x : List ℕ) → Dec (IsVariable before x)
variable_dec before x = sentence_dec before (Declares Variables x) (λ s. dec_both (kind_dec s.kind Variables) (contains_dec s.symbols x))

pub mandatory_dec : (before : List Sentence) (s : Sentence) (x : List ℕ) → Dec (IsMandatory before s x)
mandatory_dec before s x = dec_both (variable_dec before x)
    (dec_or (contains_dec s.symbols x) (some_active_dec before (λ e. (e.kind ≡ Essential) × Contains e.symbols x) (λ e. dec_both (kind_dec e.kind Essential) (contains_dec e.symbols x))))

-- a `$f` whose variable is so
pub typing_so_dec : (h : Sentence) (P : List ℕ → Type 0) → ((x : List ℕ) → Dec (P x)) → Dec ((code : List ℕ) × (x : List ℕ) × Types code x h × P x)
typing_so_dec h P each = go (kind_dec h.kind Floating) h.symbols refl
  where
    go : Dec (h.kind ≡ Floating) → (symbols : List (List ℕ)) → h.symbols ≡ symbols → Dec ((code : List ℕ) × (x : List ℕ) × Types code x h × P x)
    go (no n) symbols e = no (λ t. n t.2.0)
    go (yes k) (a ∷ b ∷ []) e = elim (each b) [
      | yes s ↦ yes (a, b, (k, e), s)
      | no n ↦ no (λ t. let same : t.1 ≡ b = cc (e, t.2.1) in n (subst P same t.3))
    ]
    go (yes k) symbols e =
        no (λ t. let p : symbols ≡ t.0 ∷ t.1 ∷ [] = sym e ∙ t.2.1 in absurd cc)

pub mandatory_at_dec : (before : List Sentence) (s : Sentence) (index : ℕ) (h : Sentence) → Dec (IsMandatoryAt before s index h)
mandatory_at_dec before s index h = dec_both (active_dec before index)
    (dec_or (kind_dec h.kind Essential) (typing_so_dec h (IsMandatory before s) (mandatory_dec before s)))

-- ---- pairs

pub distinct_dec : (before : List Sentence) (x y : List ℕ) → Dec (IsDistinct before x y)
distinct_dec before x y = dec_both (dec_not (symbol_dec x y))
    (some_active_dec before (λ d. (d.kind ≡ Distinct) × Contains d.symbols x × Contains d.symbols y)
    (λ d. dec_as (λ c. (c.0, c.1.0, c.1.1)) (λ c. (c.0, (c.1, c.2))) (dec_both (kind_dec d.kind Distinct) (dec_both (contains_dec d.symbols x) (contains_dec d.symbols y)))))

pub constant_dec : (before : List Sentence) (x : List ℕ) → Dec (IsConstant before x)
constant_dec before x = sentence_dec before (Declares Constants x) (λ s. dec_both (kind_dec s.kind Constants) (contains_dec s.symbols x))

-- a `$f` of this variable
pub types_dec : (x : List ℕ) (f : Sentence) → Dec ((code : List ℕ) × Types code x f)
types_dec x f = dec_as (λ (code, y, types, same). (code, subst (λ z. Types code z f) same types)) (λ (code, types). (code, x, types, refl)) (typing_so_dec f (λ y. y ≡ x) (λ y. symbol_dec y x))

pub typed_dec : (before : List Sentence) (x : List ℕ) → Dec (IsTyped before x)
typed_dec before x = some_active_dec before (λ f. (code : List ℕ) × Types code x f) (types_dec x)

-- what can't fail to hold, and can be decided, holds
pub unless_not : {P : Type 0} → Dec P → ¬ (¬ P) → P
unless_not (yes p) h = p
unless_not (no n) h = absurd (h n)
