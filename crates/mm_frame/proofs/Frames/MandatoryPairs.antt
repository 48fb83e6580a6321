-- The mandatory distinct pairs of an assertion, and where their variables stand.
use Rattle.std.proofs.Common.{◌≡◌, ◌↔◌, ℕ, ◌+◌, ◌<◌, inl, inr, Bool, true, false, IsTrue, length}
use Rattle.std.proofs.Common.{take, get_or, List, [], ◌∷◌, ◌++◌, map, Contains, Option, Some, None}
use Rattle.std.proofs.Common.{refl, sym, ap, ◌∙◌, subst, arith, slice_get, MatchOption, option_map}
use Rattle.std.proofs.lemmas.Simd.{map-map}
use Rattle.std.proofs.lemmas.Option.{slice_get_within, slice_get-get_or, slice_get_read}
use Rattle.std.proofs.lemmas.Option.{get_or_from_slice_get}
use Rattle.std.proofs.lemmas.Bool.{cases_order, false≢true}
use Rattle.std.proofs.lemmas.List.{take_more, length-take-le, length-map, map-append}
use Rattle.std.proofs.Math.Seq.{take-append_seam, take-length}
use Rattle.mm_base.specs.declared.statement.Kind.TheVariants.{Floating}
use Rattle.mm_frame.specs.declared.number.Sym.{Sym}
use Rattle.mm_frame.specs.Sentence.{Sentence, Types, IsStated}
use Rattle.mm_frame.specs.Rules.{IsMeant, AllMeant}
use Rattle.mm_frame.specs.Frame.{IsMandatory, IsDistinct, IsMandatoryPair}
use Rattle.mm_frame.specs.FrameIndex.{ArePairs, FrameIndex, IsTypingOf}
use Rattle.mm_frame.specs.Numbers.{IsNumberOf, labelled_sentences}
use Rattle.mm_frame.specs.Mirror.Gathered.{AreIndices, IsTypedBy, AreVariables, AreDisjoint, AreFound}
use Rattle.mm_frame.specs.Mirror.Gathered.{AreThoseAt}
use Rattle.mm_base.proofs.Lists.{get_kept, get_pushed, get_parted, pushed_cases, get_from_front}
use Rattle.mm_base.proofs.Lists.{get_within, one_there, at_from_contains, contains_from_at}
use Rattle.mm_frame.proofs.Names.NameNumbers.{symbols_grow, get_mapped, get_unmapped, each_pushed}
use Rattle.mm_frame.proofs.Names.NameNumbers.{symbols_unique}
use Rattle.mm_frame.proofs.Rules.ObeyedRules.{latest_from_active, mandatory_typed}
use Rattle.mm_frame.proofs.Frames.FrameLaws.{distinct_other, at_index}
use Rattle.mm_frame.proofs.Frames.MandatoryHypotheses.{one_latest, index_named}
use Rattle.mm_frame.proofs.BookLists.GrownLists.{all_statements}
use Rattle.std.proofs.lemmas.Bool.Decides.{Decides-eqb}
use Rattle.mm_frame.specs.declared.distinct.DistinctPair.{DistinctPair}
use Rattle.mm_frame.specs.declared.hypothesis.Hypothesis.{Hypothesis}
use Rattle.mm_frame.specs.Form.{IsSound}
use Rattle.mm_frame.specs.Pieces.{variables_of, is_of, IsNowhere}
use Rattle.mm_frame.specs.Mirror.Patterned.{AreAmong}
use Rattle.mm_frame.proofs.Names.LabelNumbers.{numbered_at, numbered_get}
use Rattle.mm_frame.proofs.Frames.FramePatterns.{id_same}

-- ==== the mandatory distinct pairs of an assertion, as they are found among its mandatory
-- variables

one_name : (st : List Sentence) (n m : ℕ) (x y : List ℕ) → IsNumberOf st x n → IsNumberOf st y m → n ≡ m → x ≡ y
one_name st n m x y at_n at_m same = cc

pub second_of : (a b c d : List ℕ) (symbols : List (List ℕ)) → symbols ≡ a ∷ b ∷ [] → symbols ≡ c ∷ d ∷ [] → b ≡ d
second_of a b c d symbols one other = cc

-- two mandatory indices whose `$f` type one variable are one
one_type : (st : List Sentence) (s : Sentence) (indices : List ℕ) (i j p q : ℕ) (f g : Sentence) (c d x : List ℕ) → AllMeant st → AreIndices st s indices → slice_get indices i ≡ Some p → slice_get indices j ≡ Some q
    → slice_get st p ≡ Some f → slice_get st q ≡ Some g → Types c x f → Types d x g → p ≡ q
one_type st s indices i j p q f g c d x meant are at_i at_j at_p at_q types_f types_g =
    let mandatory_p = (are.exact _ _ at_p).1 (contains_from_at indices p (i, at_i)) in
    let mandatory_q = (are.exact _ _ at_q).1 (contains_from_at indices q (j, at_j)) in
    one_latest _ _ _ _ (latest_from_active _ x _ _ meant at_p mandatory_p.0 (c, types_f))
    (latest_from_active _ x _ _ meant at_q mandatory_q.0 (d, types_g))

typed_longer : (st : List Sentence) (indices more : List ℕ) (n : Sym) → IsTypedBy st indices n → IsTypedBy st (indices ++ more) n
typed_longer st indices more n is = record {
  k = is.k;
  index = is.index;
  in_places = get_kept indices more is.k is.index is.in_places;
  floating = is.floating;
  there = is.there;
  code = is.code;
  variable = is.variable;
  types = is.types;
  number = is.number;
}

module _ {st : List Sentence} {indices : List ℕ} (p : ℕ) {f : Sentence} {variables : List Sym}
    (there : slice_get st p ≡ Some f) (are : AreVariables st indices variables) where
  -- one index more, of a `$e`
  variables_pass : ¬ (f.kind ≡ Floating) → AreVariables st (indices ++ p ∷ []) variables
  variables_pass other = record {
    only = λ i n at. typed_longer st indices (p ∷ []) n (are.only i n at);
    each = λ k q g code x at_k at_q types. elim (pushed_cases indices p k q at_k) [
      | inl before ↦ are.each k q g code x before at_q types
      | inr (last, same) ↦
          let e = one_there st p f g there (subst (λ m. slice_get st m ≡ Some g) (sym same) at_q) in
          absurd (other (ap (λ (s : Sentence). s.kind) e ∙ types.0))
    ];
    once = are.once;
  }

  -- one index more, of a `$f`
  variables_more : (code x : List ℕ) (n : Sym) → Types code x f → IsNumberOf st x n.0
      → ((i : ℕ) (m : Sym) → slice_get variables i ≡ Some m → ¬ (m.0 ≡ n.0))
      → AreVariables st (indices ++ p ∷ []) (variables ++ n ∷ [])
  variables_more code x n types number new = record {
    only = each_pushed (IsTypedBy st (indices ++ p ∷ [])) variables n
        (λ i m at. typed_longer st indices (p ∷ []) m (are.only i m at)) (record {
          k = length indices;
          index = p;
          in_places = get_pushed indices p;
          floating = f;
          there = there;
          code = code;
          variable = x;
          types = types;
          number = number;
        });
    each = λ k q g c y at_k at_q types_g. elim (pushed_cases indices p k q at_k) [
      | inl before ↦ let (i, m, at, is) = are.each k q g c y before at_q types_g in (i, m, get_kept variables (n ∷ []) i m at, is)
      | inr (last, same) ↦
          let e = one_there st p f g there (subst (λ m. slice_get st m ≡ Some g) (sym same) at_q) in
          let y_is : x ≡ y = second_of code x c y f.symbols types.1 (ap (λ (s : Sentence). s.symbols) e ∙ types_g.1) in
          (length variables, n, get_pushed variables n, subst (λ z. IsNumberOf st z n.0) y_is number)
    ];
    once = λ i j a b at_i at_j same. elim (pushed_cases variables n i a at_i) [
      | inl i_before ↦ elim (pushed_cases variables n j b at_j) [
        | inl j_before ↦ are.once i j a b i_before j_before same
        | inr (j_last, j_same) ↦ absurd (new i a i_before (same ∙ ap (λ (m : Sym). m.0) (sym j_same)))
      ]
      | inr (i_last, i_same) ↦ elim (pushed_cases variables n j b at_j) [
        | inl j_before ↦ absurd (new j b j_before (sym same ∙ ap (λ (m : Sym). m.0) (sym i_same)))
        | inr (j_last, j_same) ↦ i_last ∙ sym j_last
      ]
    ];
  }

-- one index more
pub variables_step : (st : List Sentence) (s : Sentence) (indices : List ℕ) (i : ℕ) (found : Option Sym) (variables : List Sym) → AllMeant st → AreIndices st s indices → i < length indices
    → ((f : Sentence) → slice_get st (get_or indices i 0) ≡ Some f → MatchOption found (¬ (f.kind ≡ Floating)) (λ n. (code : List ℕ) × (x : List ℕ) × Types code x f × IsNumberOf st x n.0))
    → AreVariables st (take i indices) variables → MatchOption found (AreVariables st (take (i + 1) indices) variables) (λ n. AreVariables st (take (i + 1) indices) (variables ++ n ∷ []))
variables_step st s indices i None variables meant are lt says so_far =
    let p = get_or indices i 0 in
    let (f, there) = get_within st p (are.within i p (slice_get-get_or indices i 0 lt)) in
    subst (λ ys. AreVariables st ys variables) (sym (take_more indices i 0 lt)) (variables_pass p
    there so_far (says f there))
variables_step st s indices i (Some n) variables meant are lt says so_far =
    let p = get_or indices i 0 in
    let at_i : slice_get indices i ≡ Some p = slice_get-get_or indices i 0 lt in
    let (f, there) = get_within st p (are.within i p at_i) in
    let (code, x, types, number) = says f there in
    let new : (j : ℕ) (m : Sym) → slice_get variables j ≡ Some m → ¬ (m.0 ≡ n.0) = λ j m at same.
    let typed = so_far.only j m at in
    let at_k = get_from_front indices i typed.k typed.index typed.in_places in
    let before = slice_get_within (take i indices) typed.k typed.index typed.in_places in
    let size = length-take-le i indices (omega arith) in
    let name = one_name st m.0 n.0 typed.variable x typed.number number same in
    let index = one_type st s indices typed.k i typed.index p typed.floating f typed.code code x meant are at_k at_i typed.there there (subst (λ y. Types typed.code y typed.floating) name typed.types) types in
    let below = are.rising typed.k i typed.index p at_k at_i (omega arith) in
    omega arith in
    subst (λ ys. AreVariables st ys (variables ++ n ∷ [])) (sym (take_more indices i 0 lt)) (variables_more
    p there so_far code x n types number new)

-- ---- pairs

-- all before the k-th are reached with it
pub found_next : (st : List Sentence) (variables : List Sym) (i : ℕ) (pairs : List (Sym × Sym)) → AreFound st variables i i pairs → AreFound st variables (i + 1) 0 pairs
found_next st variables i pairs found = record {
  only = λ m pair there.
      let (j, k, at_j, at_k, lt, reached, apart) = found.only m pair there in
      (j, k, at_j, at_k, lt, elim reached [ inl below ↦ inl (omega arith) | inr (same, below) ↦ inl (omega arith) ], apart);
  each = λ j k a b at_j at_k lt reached apart.
      found.each j k a b at_j at_k lt (elim reached [
        | inl below ↦ elim (cases_order k i) [ inl same ↦ inr (same, omega arith) | inr (inl less) ↦ inl less | inr (inr more) ↦ absurd (omega arith) ]
        | inr (same, below) ↦ absurd (omega arith)
      ]) apart;
  once = found.once;
}

module _ {st : List Sentence} {variables : List Sym} {i count : ℕ} {a b : Sym}
    {pairs : List (Sym × Sym)} (at_a : slice_get variables count ≡ Some a)
    (at_b : slice_get variables i ≡ Some b) (found : AreFound st variables i count pairs) where
  -- one pair more is no distinct pair
  pub found_passed : ¬ (AreDisjoint st a b) → AreFound st variables i (count + 1) pairs
  found_passed not_apart = record {
    only = λ m pair there.
        let (j, k, at_j, at_k, lt, reached, apart) = found.only m pair there in
        (j, k, at_j, at_k, lt, elim reached [ inl below ↦ inl below | inr (same, below) ↦ inr (same, omega arith) ], apart);
    each = λ j k c d at_j at_k lt reached apart. elim reached [
      | inl below ↦ found.each j k c d at_j at_k lt (inl below) apart
      | inr (same, below) ↦ elim (cases_order j count) [
        | inl here ↦
            let first : a ≡ c = let at = subst (λ n. slice_get variables n ≡ Some c) here at_j in cc in
            let second : b ≡ d = let at = subst (λ n. slice_get variables n ≡ Some d) same at_k in cc in
            absurd (not_apart (subst (λ m. AreDisjoint st m b) (sym first) (subst (λ m. AreDisjoint st c m) (sym second) apart)))
        | inr (inl less) ↦ found.each j k c d at_j at_k lt (inr (same, less)) apart
        | inr (inr more) ↦ absurd (omega arith)
      ]
    ];
    once = found.once;
  }

  -- one distinct pair more
  pub found_more : (indices : List ℕ) → AreVariables st indices variables → count < i → AreDisjoint st a b
      → AreFound st variables i (count + 1) (pairs ++ (a, b) ∷ [])
  found_more indices are lt_i apart_ab = record {
    only = λ m pair there. elim (pushed_cases pairs (a, b) m pair there) [
      | inl before ↦
          let (j, k, at_j, at_k, lt, reached, apart) = found.only m pair before in
          (j, k, at_j, at_k, lt, elim reached [ inl below ↦ inl below | inr (same, below) ↦ inr (same, omega arith) ], apart)
      | inr (last, same) ↦ (
        count,
        i,
        at_a ∙ ap (λ (p : Sym × Sym). Some p.0) same,
        at_b ∙ ap (λ (p : Sym × Sym). Some p.1) same,
        lt_i,
        inr (refl, omega arith),
        subst (λ (p : Sym × Sym). AreDisjoint st p.0 p.1) same apart_ab,
      )
    ];
    each = λ j k c d at_j at_k lt reached apart. elim reached [
      | inl below ↦ let (m, there) = found.each j k c d at_j at_k lt (inl below) apart in (m, get_kept pairs ((a, b) ∷ []) m (c, d) there)
      | inr (same, below) ↦ elim (cases_order j count) [
        | inl here ↦ (length pairs, cc (get_pushed pairs (a, b)))
        | inr (inl less) ↦ let (m, there) = found.each j k c d at_j at_k lt (inr (same, less)) apart in (m, get_kept pairs ((a, b) ∷ []) m (c, d) there)
        | inr (inr more) ↦ absurd (omega arith)
      ]
    ];
    once = λ m n p q at_m at_n first second. elim (pushed_cases pairs (a, b) m p at_m) [
      | inl m_before ↦ elim (pushed_cases pairs (a, b) n q at_n) [
        | inl n_before ↦ found.once m n p q m_before n_before first second
        | inr (n_last, n_same) ↦ absurd (new_one m p m_before (first ∙ ap (λ (r : Sym × Sym). r.0.0) (sym n_same)) (second ∙ ap (λ (r : Sym × Sym). r.1.0) (sym n_same)))
      ]
      | inr (m_last, m_same) ↦ elim (pushed_cases pairs (a, b) n q at_n) [
        | inl n_before ↦ absurd (new_one n q n_before (sym first ∙ ap (λ (r : Sym × Sym). r.0.0) (sym m_same)) (sym second ∙ ap (λ (r : Sym × Sym). r.1.0) (sym m_same)))
        | inr (n_last, n_same) ↦ m_last ∙ sym n_last
      ]
    ];
  }
    where
      new_one : (m : ℕ) (p : Sym × Sym) → slice_get pairs m ≡ Some p → p.0.0 ≡ a.0 → p.1.0 ≡ b.0 → ⊥
      new_one m p there first second =
          let (j, k, at_j, at_k, lt, reached, apart) = found.only m p there in
          let here = are.once j count p.0 a at_j at_a first in
          let next = are.once k i p.1 b at_k at_b second in
          elim reached [ inl below ↦ absurd (omega arith) | inr (same, below) ↦ absurd (omega arith) ]

-- ---- the mandatory pairs

-- the variable with one of the numbers is mandatory
variable_mandatory : (st : List Sentence) (s : Sentence) (indices : List ℕ) (n : Sym) (x : List ℕ) → AreIndices st s indices → IsTypedBy st indices n → IsNumberOf st x n.0 → IsMandatory st s x
variable_mandatory st s indices n x are typed number =
    let mandatory = (are.exact typed.index typed.floating typed.there).1 (contains_from_at indices typed.index (typed.k, typed.in_places)) in
    let name = one_name st n.0 n.0 typed.variable x typed.number number refl in
    elim mandatory.1 [
      | inl essential ↦ absurd (let floats = typed.types.0 in cc)
      | inr (code, y, types, is) ↦
          let same : typed.variable ≡ y = second_of typed.code typed.variable code y typed.floating.symbols typed.types.1 types.1 in
          subst (IsMandatory st s) (sym same ∙ name) is
    ]

-- a mandatory variable has its number among those
mandatory_number : (st : List Sentence) (s : Sentence) (indices : List ℕ) (variables : List Sym) (x : List ℕ) → AllMeant st → IsMeant st s → IsStated s.kind → AreIndices st s indices → AreVariables st indices variables → IsMandatory st s x
    → (i : ℕ) × (n : Sym) × (slice_get variables i ≡ Some n) × IsNumberOf st x n.0
mandatory_number st s indices variables x meant last stated are vars mandatory =
    let (p, f, there, active, (code, types)) = mandatory_typed st s x meant last stated mandatory in
    let in_places = (are.exact p f there).0 (active, inr (code, x, types, mandatory)) in
    let (k, at) = at_from_contains indices p in_places in
    vars.each k p f code x at there types

pub pair_there : (pairs : List (Sym × Sym)) (m : ℕ) (q : Sym × Sym) → slice_get pairs m ≡ Some q → Contains {X = ℕ × ℕ} (map (λ pair. (pair.0.0, pair.1.0)) pairs) (q.0.0, q.1.0)
pair_there pairs m q there =
    let named : Sym × Sym → ℕ × ℕ = λ pair. (pair.0.0, pair.1.0) in
    contains_from_at (map named pairs) (named q) (m, get_mapped named pairs m q there)

-- the pairs that are found, in one order or the other
found_pair : (st : List Sentence) (indices : List ℕ) (variables : List Sym) (n : ℕ) (pairs : List (Sym × Sym)) (i j : ℕ) (a b : Sym) → length variables ≡ n → AreFound st variables n 0 pairs → slice_get variables i ≡ Some a → slice_get variables j ≡ Some b
    → i < j → AreDisjoint st a b → (m : ℕ) × (slice_get pairs m ≡ Some (a, b))
found_pair st indices variables n pairs i j a b size found at_a at_b lt apart =
    let within = slice_get_within variables j b at_b in
    found.each i j a b at_a at_b lt (inl (omega arith)) apart

-- What is found among all mandatory variables are the mandatory pairs, once the assertion is added.
pub pairs_from_found : (st : List Sentence) (s : Sentence) (more : List Sentence) (indices : List ℕ) (variables : List Sym) (n : ℕ) (pairs : List (Sym × Sym)) → AllMeant st → IsMeant st s → IsStated s.kind → AreIndices st s indices
    → AreVariables st indices variables → length variables ≡ n → AreFound st variables n 0 pairs → ArePairs (at_index (st ++ s ∷ more) (length st)) (map (λ pair. (pair.0.0, pair.1.0)) pairs)
pairs_from_found st s more indices variables n pairs meant last stated are vars size found =
    let prefix : take (length st) (st ++ s ∷ more) ≡ st = take-append_seam st (s ∷ more) in
    let named : Sym × Sym → ℕ × ℕ = λ pair. (pair.0.0, pair.1.0) in
    let names = map named pairs in
    record {
      assertion = s;
      there = get_parted st more s;
      only = λ pair (m, lt, is).
          let at : slice_get names m ≡ Some pair = slice_get_read names (length names) m pair refl lt (sym is) in
          let (q, at_q, same) = get_unmapped named pairs m pair at in
          let (j, k, at_j, at_k, less, reached, apart) = found.only m q at_q in
          let (x, y, number_x, number_y, distinct) = apart in
          let x_is = variable_mandatory st s indices q.0 x are (vars.only j q.0 at_j) number_x in
          let y_is = variable_mandatory st s indices q.1 y are (vars.only k q.1 at_k) number_y in
          let first : q.0.0 ≡ pair.0 = ap (λ (r : ℕ × ℕ). r.0) same in
          let second : q.1.0 ≡ pair.1 = ap (λ (r : ℕ × ℕ). r.1) same in (
            x,
            y,
            symbols_grow st (s ∷ more) pair.0 x (rw first at number_x),
            symbols_grow st (s ∷ more) pair.1 y (rw second at number_y),
            rw prefix (distinct, x_is, y_is),
          );
      each = λ x y mandatory.
          let (distinct, x_is, y_is) = subst (λ ys. IsMandatoryPair ys s x y) prefix mandatory in
          let (i, a, at_a, number_a) = mandatory_number st s indices variables x meant last stated are vars x_is in
          let (j, b, at_b, number_b) = mandatory_number st s indices variables y meant last stated are vars y_is in (
            (a.0, b.0),
            symbols_grow st (s ∷ more) a.0 x number_a,
            symbols_grow st (s ∷ more) b.0 y number_b,
            elim (cases_order i j) [
              | inl same ↦
                  let at = subst (λ k. slice_get variables k ≡ Some a) same at_a in
                  let number = ap (λ (m : Sym). m.0) (one_there variables j a b at at_b) in
                  absurd (distinct.0 (one_name st a.0 b.0 x y number_a number_b number))
              | inr (inl lt) ↦ let (m, there) = found_pair st indices variables n pairs i j a b size found at_a at_b lt (x, y, number_a, number_b, distinct) in inl (pair_there pairs m (a, b) there)
              | inr (inr gt) ↦
                  let (m, there) = found_pair st indices variables n pairs j i b a size found at_b at_a gt (y, x, number_b, number_a, distinct_other st x y distinct) in
                  inr (pair_there pairs m (b, a) there)
            ],
          );
      once = λ i j p q at_i at_j same.
          let (u, at_u, p_is) = get_unmapped named pairs i p at_i in
          let (v, at_v, q_is) = get_unmapped named pairs j q at_j in
          elim same [
            | inl straight ↦
                let e : ◌≡◌ {A = ℕ × ℕ} (u.0.0, u.1.0) (v.0.0, v.1.0) =
                p_is ∙ straight ∙ sym q_is in
                found.once i j u v at_u at_v (ap (λ (r : ℕ × ℕ). r.0) e) (ap (λ (r : ℕ × ℕ). r.1) e)
            | inr turned ↦
                let e : ◌≡◌ {A = ℕ × ℕ} (u.0.0, u.1.0) (v.1.0, v.0.0) =
                p_is ∙ turned ∙ sym (ap (λ (r : ℕ × ℕ). (r.1, r.0)) q_is) in
                let (j1, k1, at_j1, at_k1, less1, reached1, apart1) = found.only i u at_u in
                let (j2, k2, at_j2, at_k2, less2, reached2, apart2) = found.only j v at_v in
                let a = vars.once j1 k2 u.0 v.1 at_j1 at_k2 (ap (λ (r : ℕ × ℕ). r.0) e) in
                let b = vars.once k1 j2 u.1 v.0 at_k1 at_j2 (ap (λ (r : ℕ × ℕ). r.1) e) in
                absurd (omega arith)
          ];
    }

-- ---- the steps of the loops

-- what the test whether two variables are distinct tells
abbrev pub TellsDistinct : List Sentence → ℕ → Sym → Sym → Bool → Type 0
TellsDistinct st n a b r =
    (x y : List ℕ) → IsNumberOf st x a.0 → IsNumberOf st y b.0
    → IsTrue r ↔ IsDistinct (take n st) x y

pub pairs_step : (st : List Sentence) (indices : List ℕ) (variables others : List Sym) (b : Sym) (i n : ℕ) (d : Sym) (r : Bool) (pairs : List (Sym × Sym)) → AreVariables st indices variables → others ≡ take (length others) variables
    → slice_get variables (length others) ≡ Some b → i < length others → n ≡ length st → TellsDistinct st n (get_or others i d) b r → AreFound st variables (length others) i pairs
    → ((r ≡ true) → AreFound st variables (length others) (i + 1) (pairs ++ (get_or others i d, b) ∷ [])) × ((r ≡ false) → AreFound st variables (length others) (i + 1) pairs)
pairs_step st indices variables others b i n d r pairs are same at_b lt all tells found =
    let a = get_or others i d in
    let at_a : slice_get variables i ≡ Some a = get_from_front variables (length others) i a (subst (λ ys. slice_get ys i ≡ Some a) same (slice_get-get_or others i d lt)) in
    let a_is = are.only i a at_a in
    let b_is = are.only (length others) b at_b in
    let whole : take n st ≡ st = ap (λ m. take m st) all ∙ take-length st in
    let tell = tells a_is.variable b_is.variable a_is.number b_is.number in (
      (λ is. found_more at_a at_b found indices are lt
          (a_is.variable, b_is.variable, a_is.number, b_is.number, subst (λ ys. IsDistinct ys a_is.variable b_is.variable) whole (tell.0 is))),
      (λ is. found_passed at_a at_b found (λ (x, y, at_x, at_y, distinct).
          let x_is = one_name st a.0 a.0 x a_is.variable at_x a_is.number refl in
          let y_is = one_name st b.0 b.0 y b_is.variable at_y b_is.number refl in
          let true_is = tell.1 (subst (λ ys. IsDistinct ys a_is.variable b_is.variable) (sym whole) (subst (λ z. IsDistinct st z b_is.variable) x_is (subst (λ z. IsDistinct st x z) y_is distinct))) in
          cc)),
    )

pub ruleset pair_steps = (pairs_step, found_next, all_statements)

-- ==== the variables of the mandatory distinct pairs have their indices among the mandatory
-- hypotheses

-- the `$f` of the variable types it, and so it isn't nowhere
pub typed_somewhere : (st more : List Sentence) (n : ℕ) (code x : List ℕ) (f : Sentence) (o : Option ℕ) (typing : Option (Sym × Sym)) → Types code x f → IsTypingOf st typing f → IsNumberOf (st ++ more) x n
    → o ≡ option_map (λ typing. typing.1.0) typing → is_of n o ≡ false → ⊥
typed_somewhere st more n code x f o None types is number at none = absurd (let floats = types.0 in cc)
typed_somewhere st more n code x f o (Some typing) types (c, y, other, code_is, variable_is) number at none =
    let same : x ≡ y = second_of code x c y f.symbols types.1 other.1 in
    let numbered = symbols_grow st more typing.1.0 x (rw same variable_is) in
    let is : typing.1.0 ≡ n = symbols_unique (st ++ more) typing.1.0 n x numbered number in
    false≢true (sym none ∙ ap (is_of n) at ∙ (Decides-eqb typing.1.0 n).1 is)

-- a mandatory variable is that of a `$f` among the mandatory hypotheses
variable_among : (st more : List Sentence) (s : Sentence) (indices : List ℕ) (hs : List Hypothesis) (n : ℕ) (x : List ℕ) → IsSound st → IsMeant st s → IsStated s.kind → AreIndices st s indices → AreThoseAt st indices hs
    → IsMandatory st s x → IsNumberOf (st ++ more) x n → ¬ (IsNowhere n (variables_of hs))
variable_among st more s indices hs n x sound last stated are those mandatory number nowhere =
    let (p, f, there, active, (code, types)) = mandatory_typed st s x sound.0 last stated mandatory in
    let in_places = (are.exact p f there).0 (active, inr (code, x, types, mandatory)) in
    let (k, at) = at_from_contains indices p in_places in
    let size : length hs ≡ length indices = sym (length-map hs (λ h. h.id.0)) ∙ ap length those.numbers ∙ length-map indices (λ q. length (labelled_sentences (take q st))) in
    let (h, at_h) = get_within hs k (rw size (slice_get_within indices k p at)) in
    let id = id_same st indices hs k p h those.numbers at at_h in
    let numbered = numbered_get st _ p f (numbered_at st p f there (index_named st s indices k p f sound.1 are at there)) in
    let (e, at_e, typing) = those.typed k h at_h in
    let same : e ≡ f = one_there (labelled_sentences st) h.id.0 e f at_e (rw id at numbered) in
    let variable = get_or_from_slice_get (variables_of hs) k _ None (get_mapped (λ (g : Hypothesis). option_map (λ typing. typing.1.0) g.typing) hs k h at_h) in
    typed_somewhere st more n code x f _ h.typing types (subst (IsTypingOf st h.typing) same typing) number variable (nowhere k)

-- so are the variables of the mandatory pairs
pub pairs_among : (st : List Sentence) (s : Sentence) (indices : List ℕ) (hs : List Hypothesis) (pairs : List (Sym × Sym)) → IsSound st → IsMeant st s → IsStated s.kind → AreIndices st s indices → AreThoseAt st indices hs
    → ArePairs (at_index (st ++ s ∷ []) (length st)) (map (λ pair. (pair.0.0, pair.1.0)) pairs) → AreAmong (variables_of hs) pairs
pairs_among st s indices hs pairs sound last stated are those pairs_are i pair there =
    let (x, y, at_x, at_y, mandatory) = pairs_are.only (pair.0.0, pair.1.0) (pair_there pairs i pair there) in
    let same : pairs_are.assertion ≡ s = one_there (st ++ s ∷ []) (length st) pairs_are.assertion s pairs_are.there (get_pushed st s) in
    let (apart, x_is, y_is) = rw same at (rw (take-append_seam st (s ∷ [])) at mandatory) in (
      variable_among _ (s ∷ []) _ _ _ pair.0.0 x sound last stated are those x_is at_x,
      variable_among _ (s ∷ []) _ _ _ pair.1.0 y sound last stated are those y_is at_y,
    )

-- the pairs with their indices are the same pairs
pub pairs_named : (frame : FrameIndex) (pairs : List (Sym × Sym)) (indexed : List DistinctPair) → map (λ pair. pair.variables) indexed ≡ pairs → ArePairs frame (map (λ pair. (pair.0.0, pair.1.0)) pairs)
    → ArePairs frame (map (λ pair. (pair.variables.0.0, pair.variables.1.0)) indexed)
pairs_named frame pairs indexed is are =
    let numbers : Sym × Sym → ℕ × ℕ = λ pair. (pair.0.0, pair.1.0) in
    let variables : DistinctPair → Sym × Sym = λ pair. pair.variables in
    subst (ArePairs frame) (ap (map numbers) (sym is) ∙ map-map numbers variables indexed) are

-- ---- one pair more

pub indexed_variables_more : (pairs : List (Sym × Sym)) (i : ℕ) (d : Sym × Sym) (indexed : List DistinctPair) (new : DistinctPair) → i < length pairs → map (λ pair. pair.variables) indexed ≡ take i pairs → new.variables ≡ get_or pairs i d
    → map (λ pair. pair.variables) (indexed ++ new ∷ []) ≡ take (i + 1) pairs
indexed_variables_more pairs i d indexed new lt so_far is =
    map-append (λ (pair : DistinctPair). pair.variables) indexed (new ∷ []) ∙ ap (λ ps. ps ++ new.variables ∷ []) so_far ∙ ap (λ pair. take i pairs ++ pair ∷ []) is ∙ sym (take_more pairs i d lt)
