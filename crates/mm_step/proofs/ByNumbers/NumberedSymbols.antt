-- Symbols by their numbers: what replaces them, type codes and typings, and the patterns of a
-- step.
use Rattle.std.proofs.Common.{◌≡◌, ℕ, zero, suc, ◌+◌, ◌<◌, ◌≤◌, List, [], ◌∷◌, ◌++◌, length, take}
use Rattle.std.proofs.Common.{drop, get_or, slice_get, Bool, eqb, ◌&&◌, Option, unwrap_or, Some}
use Rattle.std.proofs.Common.{None, IsTrue, refl, sym, ap, ◌∙◌, arith, ⊎_elim, subst, ◌↔◌, map}
use Rattle.std.proofs.Common.{true, false, MatchBool, is_some, option_map, inl, inr, cond}
use Rattle.std.proofs.Common.{slice_range, flat_map, bytes_eq}
use Rattle.std.specs.List.{AllByRecursion}
use Rattle.std.specs.Cmp.Lexicographic.{pointwise}
use Rattle.std.proofs.lemmas.Slice.Eq.{bytes_eq-Decides}
use Rattle.std.proofs.lemmas.Bool.{cases_Bool, false≢true, cases_lt}
use Rattle.std.proofs.lemmas.Option.{same_Some, none-some, slice_get-get_or, slice_get_within}
use Rattle.std.proofs.lemmas.Option.{get_or_from_slice_get, slice_get-map}
use Rattle.std.proofs.lemmas.List.{nil_from_length, length-map, take-map, take_more, append_assoc}
use Rattle.std.proofs.lemmas.List.{append-nil, append_cancel_left, length-append, take_all, take_at}
use Rattle.std.proofs.lemmas.List.{take-append-drop, get_or-map, map-append, drop-map}
use Rattle.std.proofs.lemmas.List.Concat.{flat_map-append}
use Rattle.mm_frame.specs.declared.number.Sym.{Sym}
use Rattle.mm_step.specs.Stores.{numbers_in, said_by, all_said_by, IsWithinIndices}
use Rattle.mm_frame.specs.declared.piece.Piece.{Piece}
use Rattle.mm_frame.specs.declared.piece.Piece.TheVariants.{Symbol, Value}
use Rattle.mm_base.proofs.Lists.{all_at, same_length, mapped_zip, zip_left, zip_right, all_append}
use Rattle.mm_frame.specs.Pieces.{is_of, IsNowhere, IsFirstAt, IsPieceOf, ArePieces, variables_of}
use Rattle.mm_frame.specs.Pieces.{AreItsPieces, HavePatterns}
use Rattle.mm_step.specs.Mirror.CodeVerify.{value_of, replaced_in, name_at, names_at, AreBelow}
use Rattle.mm_step.specs.Mirror.CodeVerify.{IsRightCode, IsWrongCode, IsEqual, IsVariableOf}
use Rattle.mm_step.specs.Mirror.CodeVerify.{AreHypothesesOf, AreVariablesOf, all_names_at}
use Rattle.mm_step.specs.Mirror.CodeVerify.{IsUnequal, Replaces}
use Rattle.mm_base.specs.declared.statement.Kind.TheVariants.{Floating, Essential}
use Rattle.mm_frame.specs.Sentence.{Sentence, Types}
use Rattle.mm_frame.specs.Numbers.{symbols_of, labelled_sentences, IsNumberOf, AreNumbers}
use Rattle.mm_frame.specs.FrameIndex.{IsTypingOf, HaveTypings}
use Rattle.mm_frame.specs.Laws.{OneNumber}
use Rattle.mm_frame.specs.declared.hypothesis.Hypothesis.{Hypothesis}
use Rattle.mm_step.specs.Plain.{label_ids}
use Rattle.std.proofs.lemmas.Bool.Decides.{Decides-eqb}
use Rattle.mm_step.specs.Substitution.{instance_of}
use Rattle.mm_frame.proofs.Rules.DecidedStatements.{types_dec}
use Rattle.mm_step.proofs.ProofSteps.Replacements.{replaced_by, first_of}
use Rattle.mm_base.proofs.NoneThere.{none_there}

-- ==== what replaces a symbol, by numbers: the entry of the hypothesis that types it

pub value_nowhere : (n : ℕ) (variables : List (Option ℕ)) (entries : List (List ℕ)) → IsNowhere n variables → value_of variables entries n ≡ None
value_nowhere n (v ∷ variables) (e ∷ entries) h = rw (h 0) (value_nowhere n variables entries (λ k. h (suc k)))
value_nowhere n variables entries h = refl

pub value_first : (n : ℕ) (variables : List (Option ℕ)) (entries : List (List ℕ)) (index : ℕ) (e : List ℕ) → IsFirstAt n variables index → slice_get entries index ≡ Some e
    → value_of variables entries n ≡ Some (drop 1 e)
value_first n [] entries index e f at = absurd (let l : index < 0 = f.within in omega arith)
value_first n (v ∷ variables) [] index e f at = absurd (none-some e at)
value_first n (v ∷ variables) (x ∷ entries) zero e f at = rw f.is (ap (λ (l : List ℕ). Some (drop 1 l)) (same_Some x e at))
value_first n (v ∷ variables) (x ∷ entries) (suc index) e f at =
    rw (f.first 0 (omega arith)) (value_first n variables entries index e
    (record { within = (let l : suc index < suc (length variables) = f.within in omega arith); is = f.is; first = λ k less. f.first (suc k) (omega arith) }) at)

pub all_rest : {A : Type 0} (P : A → Type 0) (xs : List A) → AllByRecursion P xs
    → AllByRecursion P (drop 1 xs)
all_rest P [] all = tt
all_rest P (x ∷ xs) all = all.1

-- what holds of each symbol of the entries holds of each that replaces one
pub value_all : (P : ℕ → Type 0) (vs : List (Option ℕ)) (es : List (List ℕ)) (n : ℕ) (v : List ℕ)
    → AllByRecursion (AllByRecursion P) es → value_of vs es n ≡ Some v → AllByRecursion P v
value_all P (x ∷ vs) (e ∷ es) n v all is = ⊎_elim
    (λ t. subst (AllByRecursion P) (same_Some (drop 1 e) v (rw t at is)) (all_rest P e all.0))
    (λ f. value_all P vs es n v all.1 (rw f at is)) (cases_Bool (is_of n x))
value_all P vs es n v all is = absurd cc

-- what replaces the variable whose `$f` stands at the index
pub value_placed : (n : ℕ) (variables : List (Option ℕ)) (entries : List (List ℕ)) (index : ℕ) (v : List ℕ) → IsFirstAt n variables index → index < length entries → v ≡ drop 1 (get_or entries index [])
    → value_of variables entries n ≡ Some v
value_placed n variables entries index v first less is = value_first n variables entries index (get_or entries index []) first (slice_get-get_or entries index [] less) ∙ ap Some (sym is)

pub drop_get : {X : Type 0} (xs : List X) (base i : ℕ) → slice_get (drop base xs) i ≡ slice_get xs (base + i)
drop_get xs zero i = let e : 0 + i ≡ i = omega arith in ap (slice_get xs) (sym e)
drop_get [] (suc base) i = refl
drop_get (x ∷ xs) (suc base) i = let e : suc base + i ≡ suc (base + i) = omega arith in drop_get xs base i ∙ ap (slice_get (x ∷ xs)) (sym e)

-- ---- the same symbols

pub same_numbers : (xs ys : List Sym) → pointwise (λ a b. eqb a.0 b.0) xs ys ≡ bytes_eq (numbers_in xs) (numbers_in ys)
same_numbers [] [] = refl
same_numbers [] (y ∷ ys) = refl
same_numbers (x ∷ xs) [] = refl
same_numbers (x ∷ xs) (y ∷ ys) = ap (λ b. eqb x.0 y.0 && b) (same_numbers xs ys)

pub same_told : (xs ys : List ℕ) (r : Bool) → r ≡ bytes_eq xs ys → (IsTrue r → xs ≡ ys) × (xs ≡ ys → IsTrue r)
same_told xs ys r is = let d = bytes_eq-Decides xs ys in (λ t. d.0 (sym is ∙ t), λ e. is ∙ d.1 e)

-- what begins so has that prefix
pub prefix_of : (symbols prefix begin : List Sym) (n : ℕ) (rest : List ℕ) → begin ≡ take n symbols → n ≡ length prefix → numbers_in symbols ≡ numbers_in prefix ++ rest → numbers_in begin ≡ numbers_in prefix
prefix_of symbols prefix begin n rest b count e =
    let size : length (numbers_in prefix) ≡ n = omega (arith, length-map prefix (λ s. s.0)) in
    ap numbers_in b ∙ sym (take-map (λ s. s.0) n symbols) ∙ ap (take n) e ∙ take_at (numbers_in prefix) rest n size

-- ---- saying, one piece after the other

module _ {X : Type 0} (f : X → List ℕ) (pieces : List X) (i : ℕ) where
  said_more : (d : X) → i < length pieces
      → flat_map f (take (i + 1) pieces) ≡ flat_map f (take i pieces) ++ f (get_or pieces i d)
  said_more d less = rw (take_more pieces i d less, flat_map-append, append-nil)

  -- the whole goes on behind a prefix
  said_whole : flat_map f pieces ≡ flat_map f (take i pieces) ++ flat_map f (drop i pieces)
  said_whole = ap (flat_map f) (sym (take-append-drop i pieces)) ∙ flat_map-append f (take i pieces) (drop i pieces)

module _ {X : Type 0} (f : X → List ℕ) (pieces : List X) (i : ℕ) (d : X) (whole rest : List ℕ) where
  pub said_step : (others : List ℕ) → i < length pieces → whole ≡ flat_map f (take i pieces) ++ rest
      → rest ≡ f (get_or pieces i d) ++ others → whole ≡ flat_map f (take (i + 1) pieces) ++ others
  said_step others less inv piece =
      rw (inv, piece, said_more f pieces i d less)
      (sym (append_assoc (flat_map f (take i pieces)) (f (get_or pieces i d)) others))

  -- what isn't so at one piece isn't so at all
  pub said_none : i < length pieces → whole ≡ flat_map f (take i pieces) ++ rest
      → ((others : List ℕ) → ¬ (rest ≡ f (get_or pieces i d) ++ others))
      → ¬ (whole ≡ flat_map f pieces)
  said_none less inv none is =
      let a = flat_map f (take i pieces) in
      let v = f (get_or pieces i d) in
      let more = flat_map f (drop (i + 1) pieces) in
      let parts : a ++ rest ≡ a ++ (v ++ more) =
      sym inv ∙ is ∙ said_whole f pieces (i + 1) ∙ ap (λ l. l ++ more) (said_more f pieces i d less) ∙ append_assoc a v more in
      none more (append_cancel_left a rest (v ++ more) parts)

pub said_end : {X : Type 0} (f : X → List ℕ) (pieces : List X) (i : ℕ) (whole : List ℕ) (rest : List Sym) (r : Bool) → length pieces ≤ i
    → whole ≡ flat_map f (take i pieces) ++ numbers_in rest → (IsTrue r → length rest ≡ 0) → (length rest ≡ 0 → IsTrue r)
    → (IsTrue r → whole ≡ flat_map f pieces) × (whole ≡ flat_map f pieces → IsTrue r)
said_end f pieces i whole rest r all inv to from = (
  λ t. here ∙ ap (λ l. flat_map f pieces ++ numbers_in l) (nil_from_length _ (to t)) ∙ append-nil _,
  λ is. from (let e = append_cancel_left (flat_map f pieces) (numbers_in rest) [] (sym here ∙ is ∙ sym (append-nil (flat_map f pieces))) in
      omega (arith, ap length e, length-map rest (λ s. s.0))),
)
  where
    here : whole ≡ flat_map f pieces ++ numbers_in rest
    here = inv ∙ ap (λ l. flat_map f l ++ numbers_in rest) (take_all i pieces all)

-- a prefix over the limit puts the whole over it
pub said_over : {X : Type 0} (f : X → List ℕ) (pieces : List X) (i n : ℕ) → n < length (flat_map f (take i pieces)) → n < length (flat_map f pieces)
said_over f pieces i n over = omega (arith, over, ap length (said_whole f pieces i), length-append (flat_map f (take i pieces)) (flat_map f (drop i pieces)))

pub said_appended : {X : Type 0} (f : X → List ℕ) (pieces : List X) (i : ℕ) (d : X) (made next : List ℕ) → i < length pieces
    → made ≡ flat_map f (take i pieces) → next ≡ made ++ f (get_or pieces i d) → next ≡ flat_map f (take (i + 1) pieces)
said_appended f pieces i d made next less inv piece =
    piece ∙ ap (λ l. l ++ f (get_or pieces i d)) inv ∙ sym (said_more f pieces i d less)

-- what a piece that isn't there is read as
abbrev pub no_piece : Piece
no_piece = Symbol (record { 0 = 0 })

-- ---- what a pattern says is what replacement makes

piece_says : (vs : List (Option ℕ)) (es : List (List ℕ)) (n : ℕ) (p : Piece) → length vs ≡ length es → IsPieceOf vs n p → said_by es p ≡ unwrap_or (value_of vs es n) (n ∷ [])
piece_says vs es n (Symbol symbol) size is = rw (value_nowhere n vs es is.1) (ap (λ m. m ∷ []) is.0)
piece_says vs es n (Value index) size is =
    let there = slice_get-get_or es index [] (omega (arith, is.within, size)) in
    rw (value_first n vs es index (get_or es index []) is there) refl

pub pattern_says : (vs : List (Option ℕ)) (es : List (List ℕ)) (ns : List ℕ) (pieces : List Piece) → length vs ≡ length es → ArePieces vs ns pieces → all_said_by es pieces ≡ replaced_in (value_of vs es) ns
pattern_says vs es [] [] size are = refl
pattern_says vs es (n ∷ ns) (p ∷ pieces) size are =
    rw (piece_says vs es n p size are.0, pattern_says vs es ns pieces size are.1)
pattern_says vs es ns pieces size are = absurd are

piece_within : (vs : List (Option ℕ)) (n count : ℕ) (p : Piece) → length vs ≡ count → IsPieceOf vs n p → IsWithinIndices count p
piece_within vs n count (Symbol symbol) size is = tt
piece_within vs n count (Value index) size is = let within = is.within in omega (arith, within, size)

-- a pattern names no index behind the hypotheses
pattern_within : (vs : List (Option ℕ)) (count : ℕ) (ns : List ℕ) (pieces : List Piece) → length vs ≡ count → ArePieces vs ns pieces → AllByRecursion (IsWithinIndices count) pieces
pattern_within vs count [] [] size are = tt
pattern_within vs count (n ∷ ns) (p ∷ pieces) size are = (piece_within vs n count p size are.0, pattern_within vs count ns pieces size are.1)
pattern_within vs count ns pieces size are = absurd are

-- what holds of each element holds of that at an index
pub within_at : {A : Type 0} (P : A → Type 0) (xs : List A) (i : ℕ) (d : A)
    → AllByRecursion P xs → i < length xs → P (get_or xs i d)
within_at P xs i d all less = all_at P xs i (get_or xs i d) all (slice_get-get_or xs i d less)

-- ==== symbols by their numbers, and what is said of their names

pub name_is : (st : List Sentence) (n : ℕ) (x : List ℕ) → IsNumberOf st x n → name_at st n ≡ x
name_is st n x there = get_or_from_slice_get (symbols_of st) n x [] there

pub named_is : (st : List Sentence) (ns : List ℕ) (xs : List (List ℕ)) → AreNumbers st ns xs → names_at st ns ≡ xs
named_is st [] [] are = refl
named_is st (n ∷ ns) (x ∷ xs) are =
    let first = name_is st n x (cc) in
    let others = named_is st ns xs (cc) in
    cc
named_is st ns xs are = absurd cc

pub below_is : (st : List Sentence) (ns : List ℕ) (xs : List (List ℕ)) → AreNumbers st ns xs → AreBelow st ns
below_is st [] [] are = tt
below_is st (n ∷ ns) (x ∷ xs) are =
    (slice_get_within (symbols_of st) n x (cc), below_is st ns xs (cc))
below_is st ns xs are = absurd cc

pub number_of_name : (st : List Sentence) (n : ℕ) → n < length (symbols_of st) → IsNumberOf st (name_at st n) n
number_of_name st n below = slice_get-get_or (symbols_of st) n [] below

-- two numbers of one name are one
pub one_name : OneNumber → (st : List Sentence) (m n : ℕ) → m < length (symbols_of st) → n < length (symbols_of st) → name_at st m ≡ name_at st n → m ≡ n
one_name one st m n bm bn same =
    (one st [] (name_at st n)).1 m n (subst (λ x. IsNumberOf st x m) same (number_of_name st m bm)) (number_of_name st n bn)

pub named_once : OneNumber → (st : List Sentence) (ms ns : List ℕ) → AreBelow st ms → AreBelow st ns → names_at st ms ≡ names_at st ns → ms ≡ ns
named_once one st [] [] bm bn same = refl
named_once one st (m ∷ ms) (n ∷ ns) bm bn same =
    let head = one_name one st m n bm.0 bn.0 (cc) in
    let tail = named_once one st ms ns bm.1 bn.1 (cc) in
    cc
named_once one st ms ns bm bn same = absurd cc

-- ---- type codes

-- whether an entry begins with the type code of a `$f`
pub code_told : OneNumber → (st : List Sentence) (h : Sentence) (code x : List ℕ) (c : ℕ) (entry : List ℕ) → AreBelow st entry → Types code x h → IsNumberOf st code c
    → slice_get entry 0 ≡ Some c ↔ slice_get (names_at st entry) 0 ≡ slice_get h.symbols 0
code_told one st h code x c entry below types number = (
  (λ first. slice_get-map (name_at st) entry 0 ∙ ap (option_map (name_at st)) first ∙ ap Some (name_is st c code number) ∙ ap (λ l. slice_get l 0) (sym types.1)),
  from entry below,
)
  where
    from : (entry : List ℕ) → AreBelow st entry → slice_get (names_at st entry) 0 ≡ slice_get h.symbols 0 → slice_get entry 0 ≡ Some c
    from [] below same = absurd (none-some code (same ∙ ap (λ l. slice_get l 0) types.1))
    from (n ∷ ns) below same =
        let named = same_Some (name_at st n) code (same ∙ ap (λ l. slice_get l 0) types.1) in
        ap Some ((one st [] code).1 n c (subst (λ y. IsNumberOf st y n) named (number_of_name st n below.0)) number)

pub code_judged : (b : Bool) (h : Sentence) (entry : List (List ℕ)) → h.kind ≡ Floating → (IsTrue b → slice_get entry 0 ≡ slice_get h.symbols 0)
    → (slice_get entry 0 ≡ slice_get h.symbols 0 → IsTrue b) → MatchBool b (IsRightCode h entry) (IsWrongCode h entry)
code_judged true h entry floating to from = λ floats. to refl
code_judged false h entry floating to from = (floating, λ same. false≢true (from same))

pub no_variable : (st : List Sentence) (h : Sentence) → h.kind ≡ Essential → IsVariableOf st None h
no_variable st h essential floats = let both : Floating ≡ Essential = sym floats ∙ essential in cc

-- ---- hypotheses and their entries, one after the other

-- what a hypothesis that isn't there is read as
abbrev pub no_hypothesis : Hypothesis
no_hypothesis = record { id = record { 0 = 0 }; typing = None; pattern = record { start = 0; end = 0 } }

-- the hypothesis with the number at an index, whose typing is what stands with it
pub hypothesis_at : (st : List Sentence) (xs : List Hypothesis) (hs : List Sentence) (i : ℕ)
    (d : Hypothesis) → HaveTypings st xs → AreHypothesesOf st (label_ids xs) hs → i < length xs
    → (h : Sentence) × (slice_get hs i ≡ Some h)
    × (slice_get (labelled_sentences st) (get_or xs i d).id.0 ≡ Some h)
    × IsTypingOf st (get_or xs i d).typing h
hypothesis_at st xs hs i d have are less =
    let L = labelled_sentences st in
    let number : slice_get (label_ids xs) i ≡ Some (get_or xs i d).id.0 =
    rw (slice_get-map, slice_get-get_or xs i d less) refl in
    let at = zip_left (λ n h. slice_get L n ≡ Some h) (label_ids xs) hs i (get_or xs i d).id.0
    (mapped_zip (slice_get L) Some _ (λ n h e. e) (label_ids xs) hs are) number in
    let (g, there, is) = have i (get_or xs i d) (slice_get-get_or xs i d less) in
    (at.0, at.1, at.2, rw (same_Some g at.0 (sym there ∙ at.2)) at is)

typing_variable : (st : List Sentence) (typing : Option (Sym × Sym)) (h : Sentence) → IsTypingOf st typing h → IsVariableOf st (option_map (λ t. t.1.0) typing) h
typing_variable st None h is = no_variable st h is
typing_variable st (Some typing) h (code, x, types, first, second) = (code, x, types, second)

-- the variables of hypotheses are those of their typings
pub typed_variables : (st : List Sentence) (xs : List Hypothesis) (hs : List Sentence) → HaveTypings st xs → AreHypothesesOf st (label_ids xs) hs → AreVariablesOf st (variables_of xs) hs
typed_variables st [] [] have are = tt
typed_variables st (x ∷ xs) (h ∷ hs) have are =
    let there : slice_get (labelled_sentences st) x.id.0 ≡ Some h = cc in
    let (g, at, is) = have 0 x refl in (
      typing_variable st x.typing h (subst (IsTypingOf st x.typing) (same_Some g h (sym at ∙ there)) is),
      typed_variables st xs hs (λ i y y_there. have (suc i) y y_there) (cc),
    )
typed_variables st xs hs have are = absurd cc

-- the entry at an index, by names
pub entry_at : (st : List Sentence) (stack : List (List ℕ)) (base i : ℕ) (e : List ℕ) → slice_get stack (base + i) ≡ Some e → slice_get (all_names_at st (drop base stack)) i ≡ Some (names_at st e)
entry_at st stack base i e at =
    slice_get-map (λ (l : List ℕ). map (name_at st) l) (drop base stack) i ∙ ap (option_map (λ (l : List ℕ). map (name_at st) l)) (drop_get stack base i ∙ at)

pub entry_below : (st : List Sentence) (stack : List (List ℕ)) (base i : ℕ) (e : List ℕ) → AllByRecursion (AreBelow st) (drop base stack) → slice_get stack (base + i) ≡ Some e → AreBelow st e
entry_below st stack base i e all at = all_at (AreBelow st) (drop base stack) i e all (drop_get stack base i ∙ at)

-- one entry more, of which this holds if it is there
pub each_next : (hs : List Sentence) (entries : List (List (List ℕ))) (P : Sentence → List (List ℕ) → Type 0) (n : ℕ) (h : Sentence) → slice_get hs n ≡ Some h
    → ((entry : List (List ℕ)) → slice_get entries n ≡ Some entry → P h entry)
    → ((i : ℕ) (g : Sentence) (entry : List (List ℕ)) → i < n → slice_get hs i ≡ Some g → slice_get entries i ≡ Some entry → P g entry)
    → (i : ℕ) (g : Sentence) (entry : List (List ℕ)) → i < n + 1 → slice_get hs i ≡ Some g → slice_get entries i ≡ Some entry → P g entry
each_next hs entries P n h at_h here below i g entry less p q = elim (cases_lt i n) [
  | inl l ↦ below i g entry l p q
  | inr m ↦
      let same : i ≡ n = omega arith in
      subst (λ x. P x entry) (same_Some h g (sym at_h ∙ ap (slice_get hs) (sym same) ∙ p)) (here entry (ap (slice_get entries) (sym same) ∙ q))
]

-- the entry is this one
pub each_more : (hs : List Sentence) (entries : List (List (List ℕ))) (P : Sentence → List (List ℕ) → Type 0) (n : ℕ) (h : Sentence) (e : List (List ℕ))
    → slice_get hs n ≡ Some h → slice_get entries n ≡ Some e → P h e
    → ((i : ℕ) (g : Sentence) (entry : List (List ℕ)) → i < n → slice_get hs i ≡ Some g → slice_get entries i ≡ Some entry → P g entry)
    → (i : ℕ) (g : Sentence) (entry : List (List ℕ)) → i < n + 1 → slice_get hs i ≡ Some g → slice_get entries i ≡ Some entry → P g entry
each_more hs entries P n h e at_h at_e here = each_next hs entries P n h at_h (λ entry at. subst (P h) (same_Some e entry (sym at_e ∙ at)) here)

pub as_many : (st : List Sentence) (ids : List Hypothesis) (hs : List Sentence) → AreHypothesesOf st (label_ids ids) hs → length hs ≡ length ids
as_many st ids hs are = sym (same_length _ Some (label_ids ids) hs are) ∙ length-map ids _

-- the variable at an index is that of the hypothesis there
pub variable_typed : (st : List Sentence) (vs : List (Option ℕ)) (hs : List Sentence) (i : ℕ) (h : Sentence) → AreVariablesOf st vs hs → slice_get hs i ≡ Some h
    → IsVariableOf st (get_or vs i None) h
variable_typed st vs hs i h all at =
    let v = zip_right (IsVariableOf st) vs hs i h all at in
    rw (get_or_from_slice_get vs i v.0 None v.1) v.2

-- a hypothesis with a typing has a variable
pub typing_some : (hs : List Hypothesis) (k : ℕ) (d : Hypothesis) → k < length hs → is_some (get_or hs k d).typing ≡ true → is_some (get_or (variables_of hs) k None) ≡ true
typing_some hs k d less is =
    let variable = λ (h : Hypothesis). option_map (λ (t : Sym × Sym). t.1.0) h.typing in
    rw (get_or-map variable hs k d None less) (some (get_or hs k d).typing is)
  where
    some : (typing : Option (Sym × Sym)) → is_some typing ≡ true → is_some (option_map (λ (t : Sym × Sym). t.1.0) typing) ≡ true
    some None e = absurd (false≢true e)
    some (Some t) e = refl

-- nothing is asked of a `$f`
pub floating_equal : (st : List Sentence) (σ : List ℕ → Option (List (List ℕ))) (h : Sentence) (entry : List (List ℕ)) (v : Option ℕ) → is_some v ≡ true → IsVariableOf st v h → IsEqual σ h entry
floating_equal st σ h entry None is typed = absurd (false≢true is)
floating_equal st σ h entry (Some n) is typed = λ essential. absurd (let both : Floating ≡ Essential = sym typed.2.0 ∙ essential in cc)

-- nor of a hypothesis that has a typing
pub typed_equal : (st : List Sentence) (σ : List ℕ → Option (List (List ℕ))) (h : Sentence) (entry : List (List ℕ)) (typing : Option (Sym × Sym)) → is_some typing ≡ true → IsTypingOf st typing h → IsEqual σ h entry
typed_equal st σ h entry None is typed = absurd (false≢true is)
typed_equal st σ h entry (Some pair) is typed = λ essential. absurd (let both : Floating ≡ Essential = sym typed.2.0 ∙ essential in cc)

-- one that has none is a `$e`
pub untyped_essential : (st : List Sentence) (h : Sentence) (typing : Option (Sym × Sym)) → is_some typing ≡ false → IsTypingOf st typing h → h.kind ≡ Essential
untyped_essential st h None is typed = typed
untyped_essential st h (Some pair) is typed = absurd (false≢true (sym is))

-- ==== replacement by numbers is replacement by names

-- the hypothesis types the symbol exactly if its variable has the symbol's number
variable_is : OneNumber → (st : List Sentence) (v : Option ℕ) (h : Sentence) (n : ℕ) → IsVariableOf st v h → n < length (symbols_of st)
    → (code : List ℕ) × Types code (name_at st n) h → is_of n v ≡ true
variable_is one st None h n is below t = absurd (is t.1.0)
variable_is one st (Some m) h n is below t =
    let same : is.1 ≡ name_at st n = cc (is.2.1, t.1.1) in
    let number : m ≡ n = (one st [] (name_at st n)).1 m n (subst (λ x. IsNumberOf st x m) same is.3) (number_of_name st n below) in
    (Decides-eqb m n).1 number

variable_not : (st : List Sentence) (v : Option ℕ) (h : Sentence) (n : ℕ) → IsVariableOf st v h → ¬ ((code : List ℕ) × Types code (name_at st n) h) → is_of n v ≡ false
variable_not st None h n is none = refl
variable_not st (Some m) h n is none = ⊎_elim
    (λ e. absurd (none (is.0, subst (λ (y : List ℕ). Types is.0 y h) (sym (name_is st m is.1 is.3) ∙ ap (name_at st) ((Decides-eqb m n).0 e)) is.2)))
    (λ e. e) (cases_Bool (eqb m n))

-- what replaces a symbol
value_named : OneNumber → (st : List Sentence) (vs : List (Option ℕ)) (hs : List Sentence) (es : List (List ℕ)) (n : ℕ) → AreVariablesOf st vs hs → n < length (symbols_of st)
    → replaced_by hs (all_names_at st es) (name_at st n) ≡ option_map (names_at st) (value_of vs es n)
value_named one st [] (h ∷ hs) es n are below = absurd are
value_named one st (v ∷ vs) [] es n are below = absurd are
value_named one st (v ∷ vs) (h ∷ hs) (e ∷ es) n are below = go (types_dec (name_at st n) h) (value_named one st vs hs es n are.1 below)
  where
    go : (d : Dec ((code : List ℕ) × Types code (name_at st n) h)) → replaced_by hs (all_names_at st es) (name_at st n) ≡ option_map (names_at st) (value_of vs es n)
        → first_of d (Some (drop 1 (names_at st e))) (replaced_by hs (all_names_at st es) (name_at st n)) ≡ option_map (names_at st) (cond (is_of n v) (Some (drop 1 e)) (value_of vs es n))
    go (yes t) later = rw (variable_is one st v h n are.0 below t) (ap Some (drop-map (name_at st) 1 e))
    go (no none) later = rw (variable_not st v h n are.0 none) later
value_named one st vs hs es n are below = refl

piece_below : (st : List Sentence) (n : ℕ) (o : Option (List ℕ)) → n < length (symbols_of st) → ((v : List ℕ) → o ≡ Some v → AreBelow st v) → AreBelow st (unwrap_or o (n ∷ []))
piece_below st n None below some = (below, tt)
piece_below st n (Some v) below some = some v refl

pub replaced_below : (st : List Sentence) (vs : List (Option ℕ)) (es : List (List ℕ)) (ns : List ℕ) → AllByRecursion (AreBelow st) es → AreBelow st ns → AreBelow st (replaced_in (value_of vs es) ns)
replaced_below st vs es [] all below = tt
replaced_below st vs es (n ∷ ns) all below =
    all_append (λ m. m < length (symbols_of st)) _ _
    (piece_below st n (value_of vs es n) below.0 (λ v is. value_all _ vs es n v all is))
    (replaced_below st vs es ns all below.1)

piece_named : (st : List Sentence) (n : ℕ) (o : Option (List ℕ)) → names_at st (unwrap_or o (n ∷ [])) ≡ unwrap_or (option_map (names_at st) o) (name_at st n ∷ [])
piece_named st n None = refl
piece_named st n (Some v) = refl

-- the replacement that the hypotheses and entries give
pub replaces_by : OneNumber → (st : List Sentence) (vs : List (Option ℕ)) (hs : List Sentence) (es : List (List ℕ)) → AreVariablesOf st vs hs → Replaces st (replaced_by hs (all_names_at st es)) vs es
replaces_by one st vs hs es are n below = value_named one st vs hs es n are below

-- the expression with each variable replaced
pub replaced_named : (st : List Sentence) (σ : List ℕ → Option (List (List ℕ))) (vs : List (Option ℕ)) (es : List (List ℕ)) (ns : List ℕ) → Replaces st σ vs es → AreBelow st ns
    → names_at st (replaced_in (value_of vs es) ns) ≡ instance_of σ (names_at st ns)
replaced_named st σ vs es [] r below = refl
replaced_named st σ vs es (n ∷ ns) r below =
    map-append (name_at st) (unwrap_or (value_of vs es n) (n ∷ [])) (replaced_in (value_of vs es) ns)
    ∙ ap (λ l. l ++ names_at st (replaced_in (value_of vs es) ns)) (piece_named st n (value_of vs es n) ∙ ap (λ o. unwrap_or o (name_at st n ∷ [])) (sym (r n below.0)))
    ∙ ap (λ l. unwrap_or (σ (name_at st n)) (name_at st n ∷ []) ++ l) (replaced_named st σ vs es ns r below.1)

pub equal_told : OneNumber → (st : List Sentence) (σ : List ℕ → Option (List (List ℕ))) (vs : List (Option ℕ)) (es : List (List ℕ)) (h : Sentence) (expression entry : List ℕ) (r : Bool)
    → Replaces st σ vs es → AllByRecursion (AreBelow st) es → AreBelow st entry → AreNumbers st expression h.symbols → h.kind ≡ Essential
    → (IsTrue r → entry ≡ replaced_in (value_of vs es) expression) → (entry ≡ replaced_in (value_of vs es) expression → IsTrue r)
    → MatchBool r (IsEqual σ h (names_at st entry)) (IsUnequal σ h (names_at st entry))
equal_told one st σ vs es h expression entry true are all below numbers kind to from =
    λ k. ap (names_at st) (to refl) ∙ replaced_named st σ vs es expression are (below_is st expression h.symbols numbers)
    ∙ ap (instance_of σ) (named_is st expression h.symbols numbers)
equal_told one st σ vs es h expression entry false are all below numbers kind to from = (
  kind,
  λ same. false≢true (from (named_once one st entry (replaced_in (value_of vs es) expression) below (replaced_below st vs es expression all (below_is st expression h.symbols numbers))
      (same ∙ ap (instance_of σ) (sym (named_is st expression h.symbols numbers)) ∙ sym (replaced_named st σ vs es expression are (below_is st expression h.symbols numbers))))),
)

-- ==== what a step knows of the patterns of an assertion's `$e`

-- the part that a `$e` names is its pattern
pub pattern_found : (st : List Sentence) (vs : List (Option ℕ)) (xs : List Hypothesis) (pieces part : List Piece) (i : ℕ) (d : Hypothesis) (h : Sentence) → HavePatterns st vs pieces xs
    → i < length xs → is_some (get_or xs i d).typing ≡ false
    → ((get_or xs i d).pattern.start ≤ (get_or xs i d).pattern.end → (get_or xs i d).pattern.end ≤ length pieces
    → part ≡ slice_range pieces (get_or xs i d).pattern.start (get_or xs i d).pattern.end)
    → slice_get (labelled_sentences st) (get_or xs i d).id.0 ≡ Some h → AreItsPieces st vs h part
pattern_found st vs xs pieces part i d h have less none is there =
    let has = have i (get_or xs i d) (slice_get-get_or xs i d less) in
    let says = has.says (none_there _ none) in
    let same : says.0 ≡ h = same_Some says.0 h (sym says.1 ∙ there) in
    subst (λ (g : Sentence). AreItsPieces st vs g part) same (subst (AreItsPieces st vs says.0) (sym (is has.ordered has.within)) says.2)

-- it names no index behind the hypotheses
pub its_within : (st : List Sentence) (vs : List (Option ℕ)) (count : ℕ) (h : Sentence) (part : List Piece) → length vs ≡ count → AreItsPieces st vs h part → AllByRecursion (IsWithinIndices count) part
its_within st vs count h part size its = pattern_within vs count its.0 part size its.2

pub part_within : (st : List Sentence) (vs : List (Option ℕ)) (xs : List Hypothesis) (pieces part : List Piece) (i count : ℕ) (d : Hypothesis) → length vs ≡ count → HavePatterns st vs pieces xs
    → i < length xs → is_some (get_or xs i d).typing ≡ false
    → ((get_or xs i d).pattern.start ≤ (get_or xs i d).pattern.end → (get_or xs i d).pattern.end ≤ length pieces
    → part ≡ slice_range pieces (get_or xs i d).pattern.start (get_or xs i d).pattern.end)
    → AllByRecursion (IsWithinIndices count) part
part_within st vs xs pieces part i count d size have less none is =
    let says = (have i (get_or xs i d) (slice_get-get_or xs i d less)).says (none_there _ none) in
    its_within st vs count says.0 part size (pattern_found st vs xs pieces part i d says.0 have less none is says.1)

-- whether an entry is what the pattern of its `$e` says
pub said_told : OneNumber → (st : List Sentence) (σ : List ℕ → Option (List (List ℕ))) (vs : List (Option ℕ)) (es : List (List ℕ)) (h : Sentence) (part : List Piece) (entry : List ℕ) (r : Bool)
    → length vs ≡ length es → Replaces st σ vs es → AllByRecursion (AreBelow st) es → AreBelow st entry → AreItsPieces st vs h part → h.kind ≡ Essential
    → (IsTrue r → entry ≡ all_said_by es part) → (entry ≡ all_said_by es part → IsTrue r) → MatchBool r (IsEqual σ h (names_at st entry)) (IsUnequal σ h (names_at st entry))
said_told one st σ vs es h part entry r size replaces all below its kind to from =
    let says = pattern_says vs es its.0 part size its.2 in
    equal_told one st σ vs es h its.0 entry r replaces all below its.1 kind (λ t. to t ∙ says) (λ same. from (same ∙ sym says))
