-- Whether one assertion alone, of those that a tree uses, has the type code of the statement.
use Rattle.std.proofs.Common.{◌≡◌, ◌↔◌, ℕ, ◌+◌, ◌<◌, List, [], ◌∷◌, ◌++◌, take, length, map, slice_get}
use Rattle.std.proofs.Common.{Contains, Bool, true, false, Some, inl, inr, refl, sym, ap, subst, ◌∙◌, arith}
use Rattle.mm_frame.specs.declared.number.LabelId.{LabelId}
use Rattle.mm_frame.specs.Numbers.{labelled_sentences, symbols_of, AreNumbers, IsNumbered}
use Rattle.mm_frame.specs.Sentence.{Sentence}
use Rattle.mm_frame.proofs.Names.LabelNumbers.{numbered_get, numbered_grow}
use Rattle.mm_frame.proofs.Names.NameNumbers.{same_somes, symbols_unique}
use Rattle.mm_base.proofs.Lists.{get_from_take, one_there, at_from_contains}
use Rattle.mm_step.specs.Plain.{ids_in}
use Rattle.mm_step.specs.Tree.{Trees}
use Rattle.mm_proof.specs.Used.{AreUsed}
use Rattle.mm_minimize.specs.AllShorter.{AreOfOneKind, IsByOneAlone, IsUsedOfKind}
use Rattle.mm_rules.specs.Rests.{AreRising}
use Rattle.mm_minimize.specs.Mirror.Shortening.{HaveOneCode, IsJustOne}
use Rattle.mm_rules.proofs.Numbers.{holds_cases, holds_last}
use Rattle.mm_rules.proofs.OrderedNumbers.{among_more}
use Rattle.std.proofs.Common.{drop, nat_eq, eq-eqb}
use Rattle.std.specs.List.{take-map}
use Rattle.std.specs.Option.{option_eq, option_to_list}
use Rattle.std.specs.Prelude.{Option, None}
use Rattle.std.proofs.lemmas.Bool.{eqb-true}
use Rattle.std.proofs.lemmas.List.{take-append-drop}
use Rattle.mm_frame.specs.declared.number.Sym.{Sym}
use Rattle.mm_frame.proofs.Names.LabelNumbers.{numbered_some}
use Rattle.std.proofs.lemmas.List.Elements.{Contains-append_left}
use Rattle.mm_frame.proofs.Names.NameNumbers.{get_mapped}
use Rattle.mm_base.proofs.Lists.{contains_from_at}

-- ---- type codes

-- the same numbers are those of the same symbols
pub same_symbols : (st : List Sentence) (ns : List ℕ) (xs ys : List (List ℕ)) → AreNumbers st ns xs
    → AreNumbers st ns ys → xs ≡ ys
same_symbols st ns xs ys one other = same_somes xs ys (sym one ∙ other)

-- the same symbols have the same numbers
pub same_numbers : (st : List Sentence) (ns ms : List ℕ) (xs : List (List ℕ)) → AreNumbers st ns xs
    → AreNumbers st ms xs → ns ≡ ms
same_numbers st [] [] xs one other = refl
same_numbers st [] (m ∷ ms) [] one other = absurd cc
same_numbers st [] (m ∷ ms) (x ∷ xs) one other = absurd cc
same_numbers st (n ∷ ns) [] [] one other = absurd cc
same_numbers st (n ∷ ns) [] (x ∷ xs) one other = absurd cc
same_numbers st (n ∷ ns) (m ∷ ms) [] one other = absurd cc
same_numbers st (n ∷ ns) (m ∷ ms) (x ∷ xs) one other =
    let first : slice_get (symbols_of st) n ≡ Some x = cc in
    let second : slice_get (symbols_of st) m ≡ Some x = cc in
    let same : n ≡ m = symbols_unique st n m x first second in
    let more : AreNumbers st ns xs = cc in
    let others : AreNumbers st ms xs = cc in
    let rest : ns ≡ ms = same_numbers st ns ms xs more others in
    cc

-- the number of the first symbol is that of the first
pub first_number : (st : List Sentence) (xs : List Sym) (code : Option Sym) (ys : List (List ℕ))
    → code ≡ slice_get xs 0 → AreNumbers st (map (λ (n : Sym). n.0) xs) ys
    → AreNumbers st (map (λ (n : Sym). n.0) (option_to_list code)) (take 1 ys)
first_number st [] code [] is numbers = rw is refl
first_number st [] code (y ∷ ys) is numbers = absurd cc
first_number st (x ∷ xs) code [] is numbers = absurd cc
first_number st (x ∷ xs) code (y ∷ ys) is numbers =
    let first : slice_get (symbols_of st) x.0 ≡ Some y = cc in
    rw is (ap (λ (o : Option (List ℕ)). o ∷ []) first)

-- the codes are the same
codes_same : (code other : Option Sym) → option_eq (λ (x y : Sym). nat_eq x.0 y.0) code other ≡ true
    → map (λ (n : Sym). n.0) (option_to_list code) ≡ map (λ (n : Sym). n.0) (option_to_list other)
codes_same None None h = refl
codes_same None (Some y) h = absurd cc
codes_same (Some x) None h = absurd cc
codes_same (Some x) (Some y) h = ap (λ (n : ℕ). n ∷ []) (eqb-true x.0 y.0 h)

same_codes : (code other : Option Sym)
    → map (λ (n : Sym). n.0) (option_to_list code) ≡ map (λ (n : Sym). n.0) (option_to_list other)
    → option_eq (λ (x y : Sym). nat_eq x.0 y.0) code other ≡ true
same_codes None None h = refl
same_codes None (Some y) h = absurd cc
same_codes (Some x) None h = absurd cc
same_codes (Some x) (Some y) h = let same : x.0 ≡ y.0 = cc in eq-eqb x.0 y.0 same

-- two statements have the same type code where the numbers of these are the same
pub one_code : (st : List Sentence) (id other : ℕ) (code code' : Option Sym) (r : Bool)
    → id < length (labelled_sentences st) → other < length (labelled_sentences st)
    → ((s : Sentence) → slice_get (labelled_sentences st) id ≡ Some s
    → AreNumbers st (map (λ (n : Sym). n.0) (option_to_list code)) (take 1 s.symbols))
    → ((s : Sentence) → slice_get (labelled_sentences st) other ≡ Some s
    → AreNumbers st (map (λ (n : Sym). n.0) (option_to_list code')) (take 1 s.symbols))
    → r ≡ option_eq (λ (x y : Sym). nat_eq x.0 y.0) code code'
    → (r ≡ true) ↔ HaveOneCode st id other
one_code st id other code code' r within beside own others is = (
  (λ yes s a here there.
      let numbers = codes_same code code' (sym is ∙ yes) in
      same_symbols st (map (λ (n : Sym). n.0) (option_to_list code)) (take 1 s.symbols) (take 1 a.symbols)
      (own s here) (rw (← numbers) at (others a there))),
  λ same.
      let (p, s, numbered) = numbered_some st id within in
      let (q, a, numbered') = numbered_some st other beside in
      let here = numbered_get st id p s numbered in
      let there = numbered_get st other q a numbered' in
      let one : take 1 s.symbols ≡ take 1 a.symbols = same s a here there in
      is ∙ same_codes code code'
      (same_numbers st (map (λ (n : Sym). n.0) (option_to_list code))
      (map (λ (n : Sym). n.0) (option_to_list code')) (take 1 a.symbols)
      (subst (λ (xs : List (List ℕ)). AreNumbers st (map (λ (n : Sym). n.0) (option_to_list code)) xs) one (own s here))
      (others a there)),
)

-- ---- one of the numbers

-- none of the numbers so far is so, or just one of them
abbrev pub IsOneSoFar : (ℕ → Type 0) → Bool → List ℕ → Type 0
IsOneSoFar P true numbers = IsJustOne P numbers
IsOneSoFar P false numbers = (n : ℕ) → Contains numbers n → ¬ (P n)

pub one_first : (P : ℕ → Type 0) (xs : List LabelId) (i : ℕ) (x : LabelId) → slice_get xs i ≡ Some x
    → IsOneSoFar P false (ids_in (take i xs)) → P x.0
    → IsOneSoFar P true (ids_in (take (i + 1) xs))
one_first P xs i x at none holds =
    subst (λ (ns : List ℕ). IsJustOne P ns) (sym (among_more xs i x at)) (record {
      number = x.0;
      among = holds_last (ids_in (take i xs)) x.0;
      holds = holds;
      only = λ n among so. elim (holds_cases (ids_in (take i xs)) x.0 n among) [
        | inl before ↦ absurd (none n before so)
        | inr last ↦ last
      ];
    })

pub one_passed : (P : ℕ → Type 0) (some : Bool) (xs : List LabelId) (i : ℕ) (x : LabelId)
    → slice_get xs i ≡ Some x → IsOneSoFar P some (ids_in (take i xs)) → ¬ (P x.0)
    → IsOneSoFar P some (ids_in (take (i + 1) xs))
one_passed P true xs i x at one other =
    subst (λ (ns : List ℕ). IsOneSoFar P true ns) (sym (among_more xs i x at)) (record {
      number = one.number;
      among = Contains-append_left (ids_in (take i xs)) (x.0 ∷ []) one.number one.among;
      holds = one.holds;
      only = λ n among so. elim (holds_cases (ids_in (take i xs)) x.0 n among) [
        | inl before ↦ one.only n before so
        | inr last ↦ absurd (other (subst P last so))
      ];
    })
one_passed P false xs i x at none other = λ n among so.
    elim (holds_cases (ids_in (take i xs)) x.0 n (subst (λ (ns : List ℕ). Contains ns n) (among_more xs i x at) among)) [
      | inl before ↦ none n before so
      | inr last ↦ other (subst P last so)
    ]

-- one of those before an index
earlier_at : (xs : List LabelId) (i n : ℕ) → Contains (ids_in (take i xs)) n
    → (k : ℕ) × (k < i) × (slice_get (ids_in xs) k ≡ Some n)
earlier_at xs i n among =
    let in_front = rw (← take-map (λ (l : LabelId). l.0) i xs) at among in
    let (k, there) = at_from_contains (take i (ids_in xs)) n in_front in
    let (less, here) = get_from_take (ids_in xs) i k n there in
    (k, less, here)

-- a second one
pub one_second : (P : ℕ → Type 0) (xs : List LabelId) (i : ℕ) (x : LabelId) → AreRising (ids_in xs)
    → slice_get xs i ≡ Some x → IsOneSoFar P true (ids_in (take i xs)) → P x.0
    → ¬ (IsJustOne P (ids_in xs))
one_second P xs i x rising at one holds all =
    let (k, before, there) = earlier_at xs i one.number one.among in
    let less : one.number < x.0 =
    rising k i one.number x.0 before there (get_mapped (λ (l : LabelId). l.0) xs i x at) in
    let first : one.number ≡ all.number =
    all.only one.number (contains_from_at (ids_in xs) one.number (k, there)) one.holds in
    let second : x.0 ≡ all.number = all.only x.0 (contains_from_at (ids_in xs) x.0 (i, get_mapped (λ (l : LabelId). l.0) xs i x at)) holds in
    omega arith

pub one_all : (P : ℕ → Type 0) (some : Bool) (numbers : List ℕ) → IsOneSoFar P some numbers
    → (some ≡ true) ↔ IsJustOne P numbers
one_all P true numbers one = ((λ _. one), λ _. refl)
one_all P false numbers none =
    ((λ f. absurd cc), λ one. absurd (none one.number one.among one.holds))

-- ---- of a tree

-- those of the numbers that have the type code of the statement are those of the tree that have it
pub just_one : (st : List Sentence) (id index : ℕ) (s : Sentence) (t : Trees) (used : List ℕ)
    → IsNumbered st id index s → AreUsed (take index st) t used
    → IsJustOne (HaveOneCode st id) used ↔ IsByOneAlone (take index st) s t
just_one st id index s t used numbered all = (
  (λ one. record {
    number = one.number;
    used = (of_kind one.number one.among).0 one.holds;
    only = λ n of. one.only n ((all.each n).1 of.2) ((of_kind n ((all.each n).1 of.2)).1 of);
  }),
  λ one. record {
    number = one.number;
    among = (all.each one.number).1 one.used.2;
    holds = (of_kind one.number ((all.each one.number).1 one.used.2)).1 one.used;
    only = λ n among so. one.only n ((of_kind n among).0 so);
  },
)
  where
    own : slice_get (labelled_sentences st) id ≡ Some s
    own = numbered_get st id index s numbered

    whole : (n i : ℕ) (a : Sentence) → IsNumbered (take index st) n i a
        → slice_get (labelled_sentences st) n ≡ Some a
    whole n i a h =
        subst (λ (ss : List Sentence). slice_get (labelled_sentences ss) n ≡ Some a)
        (take-append-drop index st)
        (numbered_get (take index st ++ drop index st) n i a (numbered_grow (take index st) (drop index st) n i a h))

    of_kind : (n : ℕ) → Contains used n → HaveOneCode st id n ↔ IsUsedOfKind (take index st) s t n
    of_kind n among =
        let stands = (all.each n).0 among in (
          (λ same. (stands.0, stands.1, stands, stands.3, same s stands.1 own (whole n stands.0 stands.1 stands.3))),
          λ of u a place there.
              let one : s ≡ u = one_there (labelled_sentences st) id s u own place in
              let other : of.1 ≡ a = one_there (labelled_sentences st) n of.1 a (whole n of.0 of.1 of.3) there in
              subst (λ (v : Sentence). AreOfOneKind v a) one
              (subst (λ (b : Sentence). AreOfOneKind s b) other of.4),
        )
