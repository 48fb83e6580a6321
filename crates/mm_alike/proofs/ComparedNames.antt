-- Symbols and statements of two books, compared by names. On this file rest the contracts of
-- `have_one_name` and `say_one_thing`, and what `have_same_names` and `say_the_same` ask for.
use Rattle.std.proofs.Common.{◌≡◌, ◌↔◌, ℕ, ◌<◌, List, [], ◌∷◌, map, length, slice_get, Bool, true}
use Rattle.std.proofs.Common.{Option, Some, option_map, bytes_eq, sym, ap, ◌∙◌, refl}
use Rattle.std.proofs.lemmas.Option.{same_Some}
use Rattle.std.proofs.lemmas.Simd.{map-map}
use Rattle.std.proofs.lemmas.Slice.Eq.{bytes_eq-Decides}
use Rattle.mm_base.proofs.Lists.{get_within}
use Rattle.mm_base.specs.declared.statement.Kind.{Kind}
use Rattle.mm_frame.specs.declared.number.LabelKind.{LabelKind}
use Rattle.mm_frame.specs.declared.number.Sym.{Sym}
use Rattle.mm_frame.specs.Numbers.{labelled_sentences, symbols_of, AreNumbers}
use Rattle.mm_frame.specs.Sentence.{Sentence}
use Rattle.mm_frame.specs.Taken.{kind_behind}
use Rattle.mm_frame.proofs.Names.NameNumbers.{numbers_within}
use Rattle.mm_verdict.proofs.Questions.AskedTheorems.{kinds_once}
use Rattle.mm_alike.specs.Alike.{said}
use Rattle.mm_alike.specs.Mirror.Names.{names_of, said_at, AreSymbols}

-- ---- names

pub one_name : (o p : Option (List ℕ)) (x y : List ℕ) (b : Bool) → o ≡ Some x → p ≡ Some y
    → b ≡ bytes_eq x y → (b ≡ true) ↔ (o ≡ p)
one_name o p x y b is also e = (
  (λ t. is ∙ ap (λ (z : List ℕ). Some z) ((bytes_eq-Decides x y).0 (sym e ∙ t)) ∙ sym also),
  (λ same. e ∙ (bytes_eq-Decides x y).1 (same_Some x y (sym is ∙ same ∙ also))),
)

-- lists that stand as elements of options are one
pub some_once : {A : Type 0} (xs ys : List A)
    → map (λ (x : A). Some x) xs ≡ map (λ (y : A). Some y) ys → xs ≡ ys
some_once [] [] same = refl
some_once (x ∷ xs) (y ∷ ys) same =
    let first : x ≡ y = cc in
    let rest : xs ≡ ys = some_once xs ys cc in
    cc
some_once _ _ same = absurd cc

-- the names of numbers
pub names_told : (st : List Sentence) (ns : List Sym) (symbols : List (List ℕ))
    → AreNumbers st (map (λ n. n.0) ns) symbols
    → names_of st ns ≡ map (λ (x : List ℕ). Some x) symbols
names_told st ns symbols are =
    sym (map-map (slice_get (symbols_of st)) (λ (n : Sym). n.0) ns) ∙ are

-- ---- what statements say

-- what is told of the kind and the symbols of the labelled statement with a number
pub record Told (st : List Sentence) (id : ℕ) (k : LabelKind) (ns : List Sym) : Type 0 where
  pub within : id < length (labelled_sentences st)
  pub kind : (s : Sentence) → slice_get (labelled_sentences st) id ≡ Some s
      → s.kind ≡ kind_behind k
  pub symbols : (s : Sentence) → slice_get (labelled_sentences st) id ≡ Some s
      → AreNumbers st (map (λ n. n.0) ns) s.symbols

-- the numbers are those of symbols
pub told_symbols : (st : List Sentence) (id : ℕ) (ns : List Sym)
    → id < length (labelled_sentences st)
    → ((s : Sentence) → slice_get (labelled_sentences st) id ≡ Some s
    → AreNumbers st (map (λ n. n.0) ns) s.symbols)
    → AreSymbols st ns
told_symbols st id ns within symbols i n there =
    let (s, at) = get_within (labelled_sentences st) id within in
    numbers_within (symbols_of st) ns s.symbols (symbols s at) i n there

module _ (old new : List Sentence) (one other : ℕ) (k l : LabelKind) (ns ms : List Sym)
    (here : Told old one k ns) (there : Told new other l ms) where
  -- statements of one kind say the same where their names are the same
  pub said_of_kind : k ≡ l → (b : Bool) → (b ≡ true) ↔ (names_of old ns ≡ names_of new ms)
      → (b ≡ true) ↔ (said_at old one ≡ said_at new other)
  said_of_kind same b named =
      let (s, at) = get_within (labelled_sentences old) one here.within in
      let (t, also) = get_within (labelled_sentences new) other there.within in
      let kinds : s.kind ≡ t.kind =
      here.kind s at ∙ ap kind_behind same ∙ sym (there.kind t also) in
      let names = names_told old ns s.symbols (here.symbols s at) in
      let others = names_told new ms t.symbols (there.symbols t also) in
      let says : said_at old one ≡ Some (said s) = ap (option_map said) at in
      let tells : said_at new other ≡ Some (said t) = ap (option_map said) also in (
        (λ h.
            let equal : s.symbols ≡ t.symbols =
            some_once s.symbols t.symbols (sym names ∙ named.0 h ∙ others) in
            let one_thing : said s ≡ said t = λ i. (kinds i, equal i) in
            says ∙ ap (λ (v : Kind × List (List ℕ)). Some v) one_thing ∙ sym tells),
        (λ same_said.
            let one_thing : said s ≡ said t =
            same_Some (said s) (said t) (sym says ∙ same_said ∙ tells) in
            let equal : s.symbols ≡ t.symbols =
            ap (λ (v : Kind × List (List ℕ)). v.1) one_thing in
            named.1 (names
            ∙ ap (λ (xs : List (List ℕ)). map (λ (x : List ℕ). Some x) xs) equal ∙ sym others)),
      )

-- those of two kinds don't
pub said_apart : (old new : List Sentence) (one other : ℕ) (k l : LabelKind)
    → one < length (labelled_sentences old) → other < length (labelled_sentences new)
    → ((s : Sentence) → slice_get (labelled_sentences old) one ≡ Some s → s.kind ≡ kind_behind k)
    → ((t : Sentence) → slice_get (labelled_sentences new) other ≡ Some t
    → t.kind ≡ kind_behind l)
    → ¬ (k ≡ l) → ¬ (said_at old one ≡ said_at new other)
said_apart old new one other k l within also_within kind other_kind apart same_said =
    let (s, at) = get_within (labelled_sentences old) one within in
    let (t, also) = get_within (labelled_sentences new) other also_within in
    let says : said_at old one ≡ Some (said s) = ap (option_map said) at in
    let tells : said_at new other ≡ Some (said t) = ap (option_map said) also in
    let one_thing : said s ≡ said t = same_Some (said s) (said t) (sym says ∙ same_said ∙ tells) in
    let kinds : s.kind ≡ t.kind = ap (λ (v : Kind × List (List ℕ)). v.0) one_thing in
    apart (kinds_once k l (sym (kind s at) ∙ kinds ∙ other_kind t also))
