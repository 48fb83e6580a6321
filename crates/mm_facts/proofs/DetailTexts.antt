-- The text of facts: it is written part by part.
use Rattle.std.proofs.Common.{◌≡◌, ◌≢◌, ℕ, zero, suc, ◌+◌, ◌<◌, ◌≤◌, List, [], ◌∷◌, ◌++◌, length}
use Rattle.std.proofs.Common.{get_or, slice_get, Bool, true, false, Option, Some, None, IfSome, refl}
use Rattle.std.proofs.Common.{ap, sym, subst, ◌∙◌, append_assoc, arith, codes, option_map, unwrap_or, decimal}
use Rattle.std.proofs.Common.{append-nil}
use Rattle.std.specs.Prelude.{filter}
use Rattle.std.specs.List.{AllByRecursion}
use Rattle.std.specs.Prelude.{if◌then◌else◌, ◌==◌, nat_lt, min}
use Rattle.std.proofs.lemmas.Bool.Decides.{nat_tests}
use Rattle.std.specs.Option.{option_to_list}
use Rattle.std.specs.Str.{bytes_eq}
use Rattle.std.proofs.lemmas.Slice.Eq.{bytes_eq-Decides}
use Rattle.std.proofs.lemmas.Option.{none-some, same_Some, slice_get_within}
use Rattle.mm_base.proofs.Lists.{get_within}
use Rattle.mm_frame.specs.declared.number.Sym.{Sym}
use Rattle.mm_frame.specs.Sentence.{Sentence}
use Rattle.mm_frame.specs.Numbers.{symbols_of}
use Rattle.mm_step.specs.Stores.{numbers_in}
use Rattle.mm_rules.specs.Answer.{labels_at}
use Rattle.mm_frame.proofs.Names.LabelNumbers.{one_number_holds}
use Rattle.mm_facts.specs.Explained.{symbol_at, difference, expression_line, difference_line}
use Rattle.mm_facts.specs.Explained.{but_given_text, asks_text, detail_text, hypothesis_asks}
use Rattle.mm_facts.specs.Explained.{mark_text, is_alone, replacements_text, Detail, details_text}
use Rattle.mm_facts.specs.Mirror.Explaining.{is_told}

-- ---- parts, one behind the other

pub two_parts : (out a b c d o₁ o₂ : List ℕ) → o₁ ≡ out ++ (a ++ b ++ c) → o₂ ≡ o₁ ++ d
    → o₂ ≡ out ++ (a ++ b ++ c ++ d)
two_parts out a b c d o₁ o₂ h₁ h₂ = rw (h₂, h₁) (simp append_assoc)

pub three_parts : (out a b c o₁ o₂ o₃ : List ℕ) → o₁ ≡ out ++ a → o₂ ≡ o₁ ++ b → o₃ ≡ o₂ ++ c
    → o₃ ≡ out ++ (a ++ b ++ c)
three_parts out a b c o₁ o₂ o₃ h₁ h₂ h₃ = rw (h₃, h₂, h₁) (simp append_assoc)

pub five_parts : (out a b c d e o₁ o₂ o₃ : List ℕ) → o₁ ≡ out ++ (a ++ b ++ c) → o₂ ≡ o₁ ++ d
    → o₃ ≡ o₂ ++ e → o₃ ≡ out ++ (a ++ b ++ c ++ d ++ e)
five_parts out a b c d e o₁ o₂ o₃ h₁ h₂ h₃ = rw (h₃, h₂, h₁) (simp append_assoc)

pub mark_parts : (out a b c d e o₁ o₂ o₃ : List ℕ) → o₁ ≡ out ++ a → o₂ ≡ o₁ ++ b
    → o₃ ≡ o₂ ++ (c ++ d ++ e) → o₃ ≡ out ++ (a ++ b ++ c ++ d ++ e)
mark_parts out a b c d e o₁ o₂ o₃ h₁ h₂ h₃ = rw (h₃, h₂, h₁) (simp append_assoc)

-- the type that a hypothesis asks for, and what it gets
pub type_parts : (out a l b c s n g y z o₁ o₂ o₃ o₄ o₅ : List ℕ) → o₁ ≡ out ++ (a ++ l ++ b)
    → o₂ ≡ o₁ ++ ([] ++ c ++ s) → o₃ ≡ o₂ ++ ([] ++ n ++ g) → o₄ ≡ o₃ ++ y → o₅ ≡ o₄ ++ z
    → o₅ ≡ out ++ (a ++ l ++ b ++ c ++ s ++ n ++ g ++ y ++ z)
type_parts out a l b c s n g y z o₁ o₂ o₃ o₄ o₅ h₁ h₂ h₃ h₄ h₅ =
    rw (h₅, h₄, h₃, h₂, h₁) (simp append_assoc)

-- the types of all
pub types_parts : (out a b c d e o₁ o₂ o₃ o₄ o₅ : List ℕ) → o₁ ≡ out ++ a → o₂ ≡ o₁ ++ b
    → o₃ ≡ o₂ ++ c → o₄ ≡ o₃ ++ d → o₅ ≡ o₄ ++ e → o₅ ≡ out ++ (a ++ b ++ c ++ d ++ e)
types_parts out a b c d e o₁ o₂ o₃ o₄ o₅ h₁ h₂ h₃ h₄ h₅ =
    rw (h₅, h₄, h₃, h₂, h₁) (simp append_assoc)

-- the number of a mark, where it is told and where it isn't
pub mark_told : (index : ℕ) → index < 999999999 → mark_text (index + 1) ≡ decimal (index + 1)
mark_told index less =
    let is : nat_lt (index + 1) 1000000000 ≡ true = grind (arith, nat_tests) in rw is refl

pub mark_untold : (index : ℕ) → 999999999 ≤ index
    → mark_text (index + 1) ≡ codes "1000000000 or a later one"
mark_untold index most =
    let is : nat_lt (index + 1) 1000000000 ≡ false = grind (arith, nat_tests) in rw is refl

pub ruleset mark_numbers = (mark_told, mark_untold)

-- the words in the middle are those that are named so
pub three_groups : (out a b c d e f g x y o₁ o₂ o₃ : List ℕ) → x ≡ d → y ≡ f
    → o₁ ≡ out ++ (a ++ b ++ c) → o₂ ≡ o₁ ++ x → o₃ ≡ o₂ ++ (e ++ y ++ g)
    → o₃ ≡ out ++ (a ++ b ++ c ++ d ++ e ++ f ++ g)
three_groups out a b c d e f g x y o₁ o₂ o₃ k₁ k₂ h₁ h₂ h₃ =
    rw (h₃, h₂, h₁, k₁, k₂) (simp append_assoc)

-- a word before a text
pub behind_word : (out a b o₁ o₂ : List ℕ) → o₁ ≡ out ++ a → o₂ ≡ o₁ ++ b → o₂ ≡ out ++ (a ++ b)
behind_word out a b o₁ o₂ h₁ h₂ = rw (h₂, h₁) (append_assoc out a b)

-- ---- the symbol at an index

-- the name of the first number, and those of the others
first_label : (names : List (List ℕ)) (n : ℕ) (ns : List ℕ) (x : List ℕ) → slice_get names n ≡ Some x
    → labels_at names (n ∷ ns) ≡ x ∷ labels_at names ns
first_label names n ns x e = ap (λ (o : Option (List ℕ)). option_to_list o ++ labels_at names ns) e

label_there : (names : List (List ℕ)) (ns : List ℕ) (i n : ℕ)
    → AllByRecursion (λ n. n < length names) ns → slice_get ns i ≡ Some n
    → slice_get (labels_at names ns) i ≡ slice_get names n
label_there names [] i n within e = absurd cc
label_there names (m ∷ ns) zero n within e =
    let x = get_within names m within.0 in
    let same : m ≡ n = same_Some m n e in
    ap (λ (xs : List (List ℕ)). slice_get xs 0) (first_label names m ns x.0 x.1) ∙ sym x.1
    ∙ ap (slice_get names) same
label_there names (m ∷ ns) (suc i) n within e =
    let x = get_within names m within.0 in
    ap (λ (xs : List (List ℕ)). slice_get xs (suc i)) (first_label names m ns x.0 x.1)
    ∙ label_there names ns i n within.1 e

label_behind : (names : List (List ℕ)) (ns : List ℕ) (i : ℕ)
    → AllByRecursion (λ n. n < length names) ns → length ns ≤ i
    → slice_get (labels_at names ns) i ≡ None
label_behind names [] i within e = refl
label_behind names (m ∷ ns) zero within e = absurd (omega arith)
label_behind names (m ∷ ns) (suc i) within e =
    let x = get_within names m within.0 in
    ap (λ (xs : List (List ℕ)). slice_get xs (suc i)) (first_label names m ns x.0 x.1)
    ∙ label_behind names ns i within.1 (omega arith)

get_number : (symbols : List Sym) (k : ℕ) (d : Sym) → k < length symbols
    → slice_get (numbers_in symbols) k ≡ Some (get_or symbols k d).0
get_number [] k d h = absurd (omega arith)
get_number (s ∷ symbols) zero d h = refl
get_number (s ∷ symbols) (suc k) d h = get_number symbols k d (omega arith)

-- its name, where one is there
pub symbol_named : (names : List (List ℕ)) (symbols : List Sym) (k : ℕ) (d : Sym) (name : List ℕ)
    → k < length symbols → AllByRecursion (λ n. n < length names) (numbers_in symbols)
    → slice_get names (get_or symbols k d).0 ≡ Some name
    → name ≡ symbol_at (labels_at names (numbers_in symbols)) k
symbol_named names symbols k d name less within e =
    let there = label_there names (numbers_in symbols) k (get_or symbols k d).0 within (get_number symbols k d less) in
    ap (λ (o : Option (List ℕ)). unwrap_or o (codes "nothing")) (sym (there ∙ e))

pub count_numbers : (symbols : List Sym) → length (numbers_in symbols) ≡ length symbols
count_numbers [] = refl
count_numbers (s ∷ symbols) = ap suc (count_numbers symbols)

-- `nothing`, where none is
pub nothing_named : (names : List (List ℕ)) (symbols : List Sym) (k : ℕ) → length symbols ≤ k
    → AllByRecursion (λ n. n < length names) (numbers_in symbols)
    → codes "nothing" ≡ symbol_at (labels_at names (numbers_in symbols)) k
nothing_named names symbols k behind within =
    let count = count_numbers symbols in
    ap (λ (o : Option (List ℕ)). unwrap_or o (codes "nothing"))
    (sym (label_behind names (numbers_in symbols) k within (omega arith)))

-- the first names of both
both_first : (names : List (List ℕ)) (n m : ℕ) (ns ms : List ℕ) (x y : List ℕ)
    → slice_get names n ≡ Some x → slice_get names m ≡ Some y
    → difference (labels_at names (n ∷ ns)) (labels_at names (m ∷ ms))
    ≡ (if bytes_eq x y then option_map suc (difference (labels_at names ns) (labels_at names ms)) else Some 0)
both_first names n m ns ms x y p q =
    ap (λ (e : List (List ℕ)). difference e (labels_at names (m ∷ ms))) (first_label names n ns x p)
    ∙ ap (difference (x ∷ labels_at names ns)) (first_label names m ms y q)

-- that is where the names differ first
differs : (names : List (List ℕ))
    → ((m n : ℕ) (x : List ℕ) → slice_get names m ≡ Some x → slice_get names n ≡ Some x → m ≡ n)
    → (ns ms : List ℕ) → AllByRecursion (λ n. n < length names) ns
    → AllByRecursion (λ n. n < length names) ms → (k : ℕ) → (slice_get ns k ≡ slice_get ms k → ⊥)
    → ((i : ℕ) → i < k → slice_get ns i ≡ slice_get ms i)
    → difference (labels_at names ns) (labels_at names ms) ≡ Some k
differs names once [] [] n_within m_within k apart same = absurd (apart refl)
differs names once [] (m ∷ ms) n_within m_within zero apart same =
    let y = get_within names m m_within.0 in
    ap (difference []) (first_label names m ms y.0 y.1)
differs names once [] (m ∷ ms) n_within m_within (suc k) apart same =
    absurd (none-some m (same 0 (omega arith)))
differs names once (n ∷ ns) [] n_within m_within zero apart same =
    let x = get_within names n n_within.0 in
    ap (λ (e : List (List ℕ)). difference e []) (first_label names n ns x.0 x.1)
differs names once (n ∷ ns) [] n_within m_within (suc k) apart same =
    absurd (none-some n (sym (same 0 (omega arith))))
differs names once (n ∷ ns) (m ∷ ms) n_within m_within zero apart same =
    let x = get_within names n n_within.0 in
    let y = get_within names m m_within.0 in
    let other : bytes_eq x.0 y.0 ≡ false = grind (arith, nat_tests, bytes_eq-Decides) in
    both_first names n m ns ms x.0 y.0 x.1 y.1
    ∙ ap (λ (b : Bool). if b then option_map suc (difference (labels_at names ns) (labels_at names ms)) else Some 0) other
differs names once (n ∷ ns) (m ∷ ms) n_within m_within (suc k) apart same =
    let x = get_within names n n_within.0 in
    let y = get_within names m m_within.0 in
    let number : n ≡ m = same_Some n m (same 0 (omega arith)) in
    let one : x.0 ≡ y.0 = same_Some x.0 y.0 (sym x.1 ∙ ap (slice_get names) number ∙ y.1) in
    let first : bytes_eq x.0 y.0 ≡ true = (bytes_eq-Decides x.0 y.0).1 one in
    both_first names n m ns ms x.0 y.0 x.1 y.1
    ∙ ap (λ (b : Bool). if b then option_map suc (difference (labels_at names ns) (labels_at names ms)) else Some 0) first
    ∙ ap (option_map suc) (differs names once ns ms n_within.1 m_within.1 k apart (λ i less. same (suc i) (omega arith)))

-- the same expression differs nowhere
same_nowhere : (e : List (List ℕ)) → difference e e ≡ None
same_nowhere [] = refl
same_nowhere (x ∷ e) =
    ap (λ (b : Bool). if b then option_map suc (difference e e) else Some 0) ((bytes_eq-Decides x x).1 refl)
    ∙ ap (option_map suc) (same_nowhere e)

-- where symbols differ by their numbers, they differ by their names
pub difference_told : (st : List Sentence) (e f : List Sym) (r : Option ℕ)
    → AllByRecursion (λ n. n < length (symbols_of st)) (numbers_in e)
    → AllByRecursion (λ n. n < length (symbols_of st)) (numbers_in f)
    → (r ≡ None → numbers_in e ≡ numbers_in f)
    → IfSome r (λ index. slice_get (numbers_in e) index ≢ slice_get (numbers_in f) index)
    → IfSome r (λ index. (i : ℕ) → i < index → slice_get (numbers_in e) i ≡ slice_get (numbers_in f) i)
    → difference (labels_at (symbols_of st) (numbers_in e)) (labels_at (symbols_of st) (numbers_in f)) ≡ r
difference_told st e f None in_e in_f same differ first =
    ap (λ (ns : List ℕ). difference (labels_at (symbols_of st) ns) (labels_at (symbols_of st) (numbers_in f))) (same refl)
    ∙ same_nowhere (labels_at (symbols_of st) (numbers_in f))
difference_told st e f (Some k) in_e in_f same differ first =
    differs (symbols_of st) (λ m n x p q. (one_number_holds st [] x).1 m n p q)
    (numbers_in e) (numbers_in f) in_e in_f k differ first

-- ---- what is asked, and what is given

pub but_given : (out o₁ o₂ o₃ o₄ : List ℕ) (asked given : List (List ℕ)) (step : List ℕ) (r : Option ℕ)
    → difference asked given ≡ r → o₁ ≡ out ++ expression_line asked
    → o₂ ≡ o₁ ++ (codes "  but step " ++ step ++ codes ", gives\n")
    → o₃ ≡ o₂ ++ expression_line given → o₄ ≡ o₃ ++ difference_line asked given r
    → o₄ ≡ out ++ but_given_text asked step given
but_given out o₁ o₂ o₃ o₄ asked given step r told h₁ h₂ h₃ h₄ =
    go (expression_line asked) (codes "  but step ") step (codes ", gives\n") (expression_line given)
    (difference_line asked given (difference asked given)) h₁ h₂ h₃
    (h₄ ∙ ap (λ (q : Option ℕ). o₃ ++ difference_line asked given q) (sym told))
  where
    go : (a b c d e f : List ℕ) → o₁ ≡ out ++ a → o₂ ≡ o₁ ++ (b ++ c ++ d) → o₃ ≡ o₂ ++ e → o₄ ≡ o₃ ++ f
        → o₄ ≡ out ++ (a ++ b ++ c ++ d ++ e ++ f)
    go a b c d e f k₁ k₂ k₃ k₄ = rw (k₄, k₃, k₂, k₁) (simp append_assoc)

-- they are the same, so they are told once
pub asks_same : (out o₁ o₂ o₃ label : List ℕ) (asked given : List (List ℕ)) (step : List ℕ)
    → difference asked given ≡ None → o₁ ≡ out ++ (codes "  " ++ label ++ codes " asks, and step ")
    → o₂ ≡ o₁ ++ ([] ++ step ++ codes ", gives\n") → o₃ ≡ o₂ ++ expression_line asked
    → o₃ ≡ out ++ detail_text (hypothesis_asks label asked step given)
asks_same out o₁ o₂ o₃ label asked given step told h₁ h₂ h₃ =
    go (codes "  ") label (codes " asks, and step ") step (codes ", gives\n") (expression_line asked) h₁ h₂ h₃
    ∙ ap (λ (q : Option ℕ). out ++ asks_text label asked step given q) (sym told)
  where
    go : (a b c d e f : List ℕ) → o₁ ≡ out ++ (a ++ b ++ c) → o₂ ≡ o₁ ++ ([] ++ d ++ e) → o₃ ≡ o₂ ++ f
        → o₃ ≡ out ++ (a ++ b ++ c ++ d ++ e ++ f)
    go a b c d e f k₁ k₂ k₃ = rw (k₃, k₂, k₁) (simp append_assoc)

-- they differ
pub asks_other : (out o₁ o₂ label : List ℕ) (asked given : List (List ℕ)) (step : List ℕ) (k : ℕ)
    → difference asked given ≡ Some k → o₁ ≡ out ++ (codes "  " ++ label ++ codes " asks\n")
    → o₂ ≡ o₁ ++ but_given_text asked step given
    → o₂ ≡ out ++ detail_text (hypothesis_asks label asked step given)
asks_other out o₁ o₂ label asked given step k told h₁ h₂ =
    go (codes "  ") label (codes " asks\n") (but_given_text asked step given) h₁ h₂
    ∙ ap (λ (q : Option ℕ). out ++ asks_text label asked step given q) (sym told)
  where
    go : (a b c d : List ℕ) → o₁ ≡ out ++ (a ++ b ++ c) → o₂ ≡ o₁ ++ d → o₂ ≡ out ++ (a ++ b ++ c ++ d)
    go a b c d k₁ k₂ = rw (k₂, k₁) (simp append_assoc)

-- ---- pairs

pub apart_parts : (out a x s y b o₁ o₂ : List ℕ) → o₁ ≡ out ++ (a ++ x ++ s)
    → o₂ ≡ o₁ ++ ([] ++ y ++ b) → o₂ ≡ out ++ (a ++ x ++ s ++ y ++ b)
apart_parts out a x s y b o₁ o₂ h₁ h₂ = rw (h₂, h₁) (simp append_assoc)

pub pair_parts : (out a x s y b r o₁ o₂ : List ℕ) → o₁ ≡ out ++ (a ++ x ++ s ++ y ++ b)
    → o₂ ≡ o₁ ++ r → o₂ ≡ out ++ (a ++ x ++ s ++ y ++ b ++ r)
pair_parts out a x s y b r o₁ o₂ h₁ h₂ = rw (h₂, h₁) (simp append_assoc)

pub four_parts : (out a b c d o₁ o₂ o₃ o₄ : List ℕ) → o₁ ≡ out ++ a → o₂ ≡ o₁ ++ b → o₃ ≡ o₂ ++ c
    → o₄ ≡ o₃ ++ d → o₄ ≡ out ++ (a ++ b ++ c ++ d)
four_parts out a b c d o₁ o₂ o₃ o₄ h₁ h₂ h₃ h₄ = rw (h₄, h₃, h₂, h₁) (simp append_assoc)

-- an expression of more than one symbol is no variable alone
pub not_alone : (x : List ℕ) (names : List (List ℕ)) (symbols : List Sym)
    → AllByRecursion (λ n. n < length names) (numbers_in symbols) → 2 ≤ length symbols
    → false ≡ is_alone x (labels_at names (numbers_in symbols))
not_alone x names [] within long = absurd (omega arith)
not_alone x names (s ∷ []) within long = absurd (omega arith)
not_alone x names (s ∷ t ∷ symbols) within long =
    let a = get_within names s.0 within.0 in
    let b = get_within names t.0 within.1.0 in
    sym (ap (is_alone x) (first_label names s.0 (t.0 ∷ numbers_in symbols) a.0 a.1)
    ∙ ap (λ (e : List (List ℕ)). is_alone x (a.0 ∷ e)) (first_label names t.0 (numbers_in symbols)
    b.0 b.1))

-- what is known of whether they are alone is what is told
pub alone_told : (x y : List ℕ) (e f : List (List ℕ)) (p q : Bool) → is_alone x e ≡ p → is_alone y
    f ≡ q
    → replacements_text x y e f p q ≡ replacements_text x y e f (is_alone x e) (is_alone y f)
alone_told x y e f p q h k =
    sym (ap (λ (b : Bool). replacements_text x y e f b (is_alone y f)) h ∙ ap (replacements_text x
    y e f p) k)

-- ---- hypotheses that aren't met, or are

pub not_asked : (out : List ℕ) (unmet : Bool) (d : Detail) → is_told unmet d ≡ false
    → out ≡ out ++ details_text (filter (is_told unmet) (d ∷ []))
not_asked out unmet d other = rw other (sym (append-nil out))

pub are_asked : (out o₁ : List ℕ) (unmet : Bool) (d : Detail) → is_told unmet d ≡ true
    → o₁ ≡ out ++ detail_text d → o₁ ≡ out ++ details_text (filter (is_told unmet) (d ∷ []))
are_asked out o₁ unmet d same h = rw same (h ∙ ap (λ (t : List ℕ). out ++ t) (sym (append-nil
    (detail_text d))))

pub ruleset named = (symbol_named, nothing_named)

-- ---- where numbers differ

-- one symbol more is the same
pub one_same : (e f : List Sym) (k : ℕ) (d c : Sym)
    → ((i : ℕ) → i < k → slice_get (numbers_in e) i ≡ slice_get (numbers_in f) i) → k < length e
    → k < length f → (get_or e k d).0 ≡ (get_or f k c).0 → (i : ℕ) → i < k + 1
    → slice_get (numbers_in e) i ≡ slice_get (numbers_in f) i
one_same e f k d c before in_e in_f same i less = go (i == k) refl
  where
    go : (b : Bool) → (i == k) ≡ b → slice_get (numbers_in e) i ≡ slice_get (numbers_in f) i
    go true is =
        let here : i ≡ k = grind (arith, nat_tests) in
        subst (λ (j : ℕ). slice_get (numbers_in e) j ≡ slice_get (numbers_in f) j) (sym here)
        (get_number e k d in_e ∙ ap Some same ∙ sym (get_number f k c in_f))
    go false is = before i (grind (arith, nat_tests))

-- all are the same
pub all_same : {X : Type 0} (ns ms : List X) → length ns ≡ length ms
    → ((i : ℕ) → i < length ns → slice_get ns i ≡ slice_get ms i) → ns ≡ ms
all_same [] [] count same = refl
all_same [] (m ∷ ms) count same = absurd (omega arith)
all_same (n ∷ ns) [] count same = absurd (omega arith)
all_same (n ∷ ns) (m ∷ ms) count same =
    let first : n ≡ m = same_Some n m (same 0 (omega arith)) in
    let others : ns ≡ ms = all_same ns ms (omega arith) (λ i less. same (suc i) (omega arith)) in
    cc

-- where one ends and the other doesn't, they differ
pub end_apart : (ns ms : List ℕ) (k : ℕ) → length ns ≤ k → k < length ms
    → slice_get ns k ≡ slice_get ms k → ⊥
end_apart ns ms k behind within same =
    let m = get_within ms k within in
    let there : slice_get ns k ≡ Some m.0 = same ∙ m.1 in
    let less : k < length ns = slice_get_within ns k m.0 there in
    omega arith

pub where_apart : (e f : List Sym) (k : ℕ) → k ≡ min (length e) (length f)
    → (length e ≡ length f → ⊥) → slice_get (numbers_in e) k ≡ slice_get (numbers_in f) k → ⊥
where_apart e f k shorter apart same = go (nat_lt (length e) (length f)) refl
  where
    go : (b : Bool) → nat_lt (length e) (length f) ≡ b → ⊥
    go true is =
        let less : length e < length f = grind (arith, nat_tests) in
        let e_count = count_numbers e in
        let f_count = count_numbers f in
        end_apart (numbers_in e) (numbers_in f) k (omega arith) (omega arith) same
    go false is =
        let most : length f ≤ length e = grind (arith, nat_tests) in
        let e_count = count_numbers e in
        let f_count = count_numbers f in
        end_apart (numbers_in f) (numbers_in e) k (omega arith) (omega arith) (sym same)
