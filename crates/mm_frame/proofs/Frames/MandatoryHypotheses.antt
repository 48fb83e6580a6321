-- The mandatory hypotheses of an assertion, as they are gathered.
use Rattle.std.proofs.Common.{eqb, ◌≡◌, ◌↔◌, ℕ, zero, suc, ◌+◌, ◌<◌, inl, inr, length, take, get_or}
use Rattle.std.proofs.Common.{List, [], ◌∷◌, ◌++◌, map, Contains, Option, Some, None, refl, sym, ap}
use Rattle.std.proofs.Common.{◌∙◌, subst, append_assoc, arith, option_and_then, nat_cmp, true}
use Rattle.std.proofs.Common.{is_some, slice_get}
use Rattle.std.specs.List.{cons_option, dedup}
use Rattle.std.proofs.lemmas.Option.{slice_get_within, slice_get-get_or, get_or_from_slice_get}
use Rattle.std.specs.List.Sorted.{IsPermutation, IsSorted, IsStrictlyIncreasing}
use Rattle.std.proofs.lemmas.List.Kept.{AllPairs-from_increasing, Contains-dedup_nat}
use Rattle.std.proofs.lemmas.List.Kept.{Contains-from_dedup}
use Rattle.std.proofs.lemmas.List.Sorted.{IsPermutation-sym, Contains-permutation}
use Rattle.std.proofs.lemmas.Map.Keys.{IsStrictlyIncreasing-dedup}
use Rattle.std.proofs.lemmas.List.{take_more}
use Rattle.std.proofs.lemmas.List.Elements.{filter_map-append}
use Rattle.mm_frame.specs.declared.number.Sym.{Sym}
use Rattle.mm_frame.specs.declared.tables.SymbolInfo.{SymbolInfo}
use Rattle.mm_frame.specs.Sentence.{Sentence, IsStated}
use Rattle.mm_frame.specs.Numbers.{symbols_of, AreNumbers, labelled_sentences}
use Rattle.mm_frame.specs.Mirror.Latest.{IsLatest}
use Rattle.mm_frame.specs.Mirror.Layout.{AreInfos, AreEssentials, GivesType, IsLatestIn}
use Rattle.mm_frame.specs.Mirror.Gathered.{floating_of, floatings, IsIn, StandsIn, AreGathered}
use Rattle.mm_frame.specs.Mirror.Gathered.{AreRisingIndices, IsGathered, AreIndices}
use Rattle.mm_base.proofs.Lists.{get_kept, get_pushed, pushed_cases, get_within, get_after}
use Rattle.mm_base.proofs.Lists.{at_from_contains, contains_from_at, append_cases, get_parted}
use Rattle.mm_base.proofs.Lists.{one_there}
use Rattle.mm_frame.proofs.Names.NameNumbers.{member_name, name_member}
use Rattle.std.proofs.Math.Seq.{take-append_seam}
use Rattle.mm_frame.specs.Rules.{IsMeant, AllMeant}
use Rattle.mm_frame.specs.Form.{AllFormed, HasItsLabel}
use Rattle.mm_frame.specs.Frame.{IsMandatoryAt}
use Rattle.mm_frame.specs.FrameIndex.{AreHypotheses}
use Rattle.mm_frame.proofs.Names.LabelNumbers.{numbered_get, numbered_at, labelled_grow}
use Rattle.mm_frame.proofs.Frames.FrameLaws.{those_by_indices, at_index}
use Rattle.mm_frame.proofs.Rules.ObeyedRules.{mandatory_indices, latest_is_variable}

-- ==== gathering the indices of the mandatory hypotheses

-- one symbol more, with a `$f` or without
pub floatings_more : (infos : List SymbolInfo) (xs : List Sym) (i : ℕ) (d : Sym) (o : Option ℕ)
    (old now : List ℕ) → i < length xs → floating_of infos (get_or xs i d) ≡ o
    → now ≡ old ++ floatings infos (take i xs)
    → now ++ cons_option o [] ≡ old ++ floatings infos (take (i + 1) xs)
floatings_more infos xs i d o old now lt is so_far =
    let more = ap (floatings infos) (take_more xs i d lt)
    ∙ filter_map-append (floating_of infos) (take i xs) ((get_or xs i d) ∷ []) in
    let one = ap (λ o. cons_option o []) is in
    ap (λ ys. ys ++ cons_option o []) so_far ∙ (rw append_assoc)
    ∙ ap (λ ys. old ++ ys) (sym (more ∙ ap (λ ys. floatings infos (take i xs) ++ ys) one))

-- what the indices of latest `$f` are
floatings_at : (infos : List SymbolInfo) (xs : List Sym) (i p : ℕ) → slice_get (floatings infos xs) i ≡ Some p → (j : ℕ) × (n : Sym) × (slice_get xs j ≡ Some n) × (floating_of infos n ≡ Some p)
floatings_at infos [] i p there = absurd (cc)
floatings_at infos (x ∷ xs) i p there = first (floating_of infos x) refl (λ k at. floatings_at infos xs k p at) i there
  where
    first : (o : Option ℕ) → floating_of infos x ≡ o → ((k : ℕ) → slice_get (floatings infos xs) k ≡ Some p → (j : ℕ) × (n : Sym) × (slice_get xs j ≡ Some n) × (floating_of infos n ≡ Some p))
        → (i : ℕ) → slice_get (cons_option o (floatings infos xs)) i ≡ Some p → (j : ℕ) × (n : Sym) × (slice_get (x ∷ xs) j ≡ Some n) × (floating_of infos n ≡ Some p)
    first None is rest i at = let (j, n, at_n, says) = rest i at in (suc j, n, at_n, says)
    first (Some q) is rest zero at = (0, x, refl, is ∙ at)
    first (Some q) is rest (suc i) at = let (j, n, at_n, says) = rest i at in (suc j, n, at_n, says)

floatings_have : (infos : List SymbolInfo) (xs : List Sym) (j p : ℕ) (n : Sym) → slice_get xs j ≡ Some n → floating_of infos n ≡ Some p → IsIn (floatings infos xs) p
floatings_have infos [] j p n there says = absurd (cc)
floatings_have infos (x ∷ xs) zero p n there says =
    let same : x ≡ n = cc in
    let is : floating_of infos x ≡ Some p = ap (floating_of infos) same ∙ says in
    (0, ap (λ o. slice_get (cons_option o (floatings infos xs)) 0) is)
floatings_have infos (x ∷ xs) (suc j) p n there says =
    let (i, at) = floatings_have infos xs j p n there says in
    after (floating_of infos x) i at
  where
    after : (o : Option ℕ) (i : ℕ) → slice_get (floatings infos xs) i ≡ Some p → IsIn (cons_option o (floatings infos xs)) p
    after None i at = (i, at)
    after (Some q) i at = (suc i, at)

-- a symbol's info
pub info_of : (st : List Sentence) (names : List (List ℕ)) (infos : List SymbolInfo) (n : ℕ) (x : List ℕ) → AreInfos st names infos → slice_get (symbols_of st) n ≡ Some x
    → (info : SymbolInfo) × (slice_get infos n ≡ Some info) × IsLatestIn (GivesType x) st info.floating
info_of st names infos n x are at =
    let at_names : slice_get names n ≡ Some x = subst (λ ys. slice_get ys n ≡ Some x) (sym are.all) at in
    let lt = slice_get_within names n x at_names in
    let (info, there) = get_within infos n (omega arith) in
    (info, there, (are.each n x info at_names there).floating)

-- the latest one is one
pub one_latest : (P : Sentence → Type 0) (st : List Sentence) (p q : ℕ) → IsLatest P st p
    → IsLatest P st q → p ≡ q
one_latest P st p q first second =
    let no : ¬ (p < q) = λ lt. first.last q second.statement lt second.there second.holds in
    let none : ¬ (q < p) = λ gt. second.last p first.statement gt first.there first.holds in
    omega arith

floating_latest : (P : Sentence → Type 0) (st : List Sentence) (o : Option ℕ) (p : ℕ) → IsLatestIn P st o → IsLatest P st p → o ≡ Some p
floating_latest P st None p none latest = absurd (none (p, latest.statement, latest.there, latest.holds))
floating_latest P st (Some q) p there latest = ap (λ n. Some n) (one_latest P st q p there latest)

-- The indices are those of the latest `$f` of the symbols.
pub floatings_tell : (st : List Sentence) (names : List (List ℕ)) (infos : List SymbolInfo) (ns : List Sym) (symbols : List (List ℕ)) (p : ℕ) → AreInfos st names infos → AreNumbers st (map (λ n. n.0) ns) symbols
    → IsIn (floatings infos ns) p ↔ ((x : List ℕ) × Contains symbols x × IsLatest (GivesType x) st p)
floatings_tell st names infos ns symbols p are numbers = (
  (λ (i, there).
      let (j, n, at_n, says) = floatings_at infos ns i p there in
      let (x, at_x, number) = member_name (symbols_of st) ns symbols j n numbers at_n in
      let (info, at_info, latest) = info_of st names infos n.0 x are number in
      let floats : info.floating ≡ Some p = sym (ap (option_and_then (λ info. info.floating)) at_info) ∙ says in
      (x, contains_from_at symbols x (j, at_x), rw floats at latest)),
  (λ (x, in_it, latest).
      let (j, at_x) = at_from_contains symbols x in_it in
      let (n, at_n, number) = name_member (symbols_of st) ns symbols j x numbers at_x in
      let (info, at_info, known) = info_of st names infos n.0 x are number in
      floatings_have infos ns j p n at_n (ap (option_and_then (λ info. info.floating)) at_info ∙ floating_latest (GivesType x) st info.floating p known latest)),
)

-- ---- what is gathered, `$e` by `$e`

-- before any `$e`
pub gathered_first : (st : List Sentence) (names : List (List ℕ)) (infos : List SymbolInfo) (ns : List Sym) (s : Sentence) → AreInfos st names infos → AreNumbers st (map (λ n. n.0) ns) s.symbols → AreGathered st [] s (floatings infos ns)
gathered_first st names infos ns s are numbers = record {
  only = λ i p there. let (x, in_it, latest) = (floatings_tell st names infos ns s.symbols p are numbers).0 (i, there) in inr (x, inl in_it, latest);
  each = λ p gathered. elim gathered [
    | inl (i, at) ↦ absurd (cc)
    | inr (x, stands, latest) ↦ elim stands [
      | inl in_it ↦ (floatings_tell st names infos ns s.symbols p are numbers).1 (x, in_it, latest)
      | inr (q, h, (i, at), there, in_h) ↦ absurd (cc)
    ]
  ];
}

in_left : (xs ys : List ℕ) (p : ℕ) → IsIn xs p → IsIn (xs ++ ys) p
in_left xs ys p (i, there) = (i, get_kept xs ys i p there)

in_right : (xs ys : List ℕ) (p : ℕ) → IsIn ys p → IsIn (xs ++ ys) p
in_right xs ys p (i, there) = (length xs + i, get_after xs ys i p there)

module _ {st : List Sentence} {names : List (List ℕ)} {infos : List SymbolInfo} (s : Sentence)
    (ns : List Sym) (indices : List ℕ) (are : AreInfos st names infos) where
  -- one `$e` more
  pub gathered_more : (es : List ℕ) (q : ℕ) (h : Sentence) → slice_get st q ≡ Some h
      → AreNumbers st (map (λ n. n.0) ns) h.symbols → AreGathered st es s indices
      → AreGathered st (es ++ q ∷ []) s ((indices ++ q ∷ []) ++ floatings infos ns)
  gathered_more es q h at_q numbers gathered =
      let widen : (x : List ℕ) → StandsIn st es s x → StandsIn st (es ++ q ∷ []) s x = λ x stands. elim stands [
        | inl in_it ↦ inl in_it
        | inr (k, e, at, there, in_e) ↦ inr (k, e, in_left es (q ∷ []) k at, there, in_e)
      ] in
      let tell = λ (p : ℕ). floatings_tell st names infos ns h.symbols p are numbers in
      record {
        only = λ i p there. elim (append_cases (indices ++ q ∷ []) (floatings infos ns) i p there) [
          | inl prefix ↦ elim (pushed_cases indices q i p prefix) [
            | inl before ↦ elim (gathered.only i p before) [
              | inl at ↦ inl (in_left es (q ∷ []) p at)
              | inr (x, stands, latest) ↦ inr (x, widen x stands, latest)
            ]
            | inr (last, same) ↦ inl (subst (IsIn (es ++ q ∷ [])) same (length es, get_pushed es q))
          ]
          | inr (j, is, at) ↦ let (x, in_it, latest) = (tell p).0 (j, at) in
              inr (x, inr (q, h, (length es, get_pushed es q), at_q, in_it), latest)
        ];
        each = λ p is. elim is [
          | inl (i, at) ↦ elim (pushed_cases es q i p at) [
            | inl before ↦ in_left (indices ++ q ∷ []) (floatings infos ns) p (in_left indices (q ∷ []) p (gathered.each p (inl (i, before))))
            | inr (last, same) ↦ in_left (indices ++ q ∷ []) (floatings infos ns) p (subst (IsIn (indices ++ q ∷ [])) same (length indices, get_pushed indices q))
          ]
          | inr (x, stands, latest) ↦ elim stands [
            | inl in_it ↦ in_left (indices ++ q ∷ []) (floatings infos ns) p (in_left indices (q ∷ []) p (gathered.each p (inr (x, inl in_it, latest))))
            | inr (k, e, (i, at), there, in_e) ↦ elim (pushed_cases es q i k at) [
              | inl before ↦ in_left (indices ++ q ∷ []) (floatings infos ns) p (in_left indices (q ∷ []) p (gathered.each p (inr (x, inr (k, e, (i, before), there, in_e), latest))))
              | inr (last, same) ↦
                  let e_is : e ≡ h = let there_q = subst (λ m. slice_get st m ≡ Some e) (sym same) there in cc in
                  in_right (indices ++ q ∷ []) (floatings infos ns) p ((tell p).1 (x, subst (λ (t : Sentence). Contains t.symbols x) e_is in_e, latest))
            ]
          ]
        ];
      }

  pub gathered_step : (es xs : List ℕ) (i : ℕ) (pushed now : List ℕ) → AreEssentials st es → xs ≡ es
      → i < length xs
      → ((h : Sentence) → slice_get st (get_or xs i 0) ≡ Some h → AreNumbers st (map (λ n. n.0) ns) h.symbols)
      → pushed ≡ indices ++ get_or xs i 0 ∷ [] → now ≡ pushed ++ floatings infos ns
      → AreGathered st (take i es) s indices → AreGathered st (take (i + 1) es) s now
  gathered_step es xs i pushed now essentials same lt says push add gathered =
      let q = get_or xs i 0 in
      let at : slice_get es i ≡ Some q = subst (λ ys. slice_get ys i ≡ Some q) same (slice_get-get_or xs i 0 lt) in
      let (h, there, kind, active) = essentials.only i q at in
      let prefix : take (i + 1) es ≡ take i es ++ q ∷ [] = subst (λ ys. take (i + 1) ys ≡ take i ys ++ q ∷ []) same (take_more xs i 0 lt) in
      let more = gathered_more (take i es) q h there (says h there) gathered in
      let result : (indices ++ q ∷ []) ++ floatings infos ns ≡ now = sym (add ∙ ap (λ ys. ys ++ floatings infos ns) push) in
      subst (λ ys. AreGathered st ys s now) (sym prefix) (subst (λ ys. AreGathered st (take i es ++ q ∷ []) s ys) result more)

-- ---- in order, each once

-- a list that rises from each element to the next rises
increasing_rises : (xs : List ℕ) → IsStrictlyIncreasing xs → AreRisingIndices xs
increasing_rises xs increasing i j p q at_i at_j lt =
    let within_j = slice_get_within xs j q at_j in
    let pairs = AllPairs-from_increasing xs increasing in
    let h = pairs i j 0 lt within_j in
    let e = get_or_from_slice_get xs i p 0 at_i in
    let f = get_or_from_slice_get xs j q 0 at_j in
    omega arith

-- what is left after sorting and leaving out repetitions
pub gathered_sorted : (st : List Sentence) (es : List ℕ) (s : Sentence) (indices sorted once : List ℕ) → AreGathered st es s indices → IsPermutation indices sorted → IsSorted nat_cmp sorted → once ≡ dedup eqb sorted
    → AreRisingIndices once × AreGathered st es s once
gathered_sorted st es s indices sorted once gathered permutation in_order same =
    let rising : AreRisingIndices once = subst AreRisingIndices (sym same) (increasing_rises (dedup eqb sorted) (IsStrictlyIncreasing-dedup sorted in_order)) in (
      rising,
      record {
        only = λ i p there.
            let kept : Contains (dedup eqb sorted) p = subst (λ xs. Contains xs p) same (contains_from_at once p (i, there)) in
            let (j, at) = at_from_contains indices p (Contains-permutation sorted indices p (IsPermutation-sym indices sorted permutation) (Contains-from_dedup eqb sorted p kept)) in
            gathered.only j p at;
        each = λ p is.
            let moved = Contains-permutation indices sorted p permutation (contains_from_at indices p (gathered.each p is)) in
            at_from_contains once p (subst (λ xs. Contains xs p) (sym same) (Contains-dedup_nat sorted p moved));
      },
    )

-- ==== the mandatory hypotheses of an assertion, as they are gathered from what is known of symbols
-- and from the active `$e`

pub mandatory_gathered : (st : List Sentence) (essentials : List ℕ) (s : Sentence) (p : ℕ) (h : Sentence) → AllMeant st → IsMeant st s → IsStated s.kind → AreEssentials st essentials → slice_get st p ≡ Some h
    → IsMandatoryAt st s p h ↔ IsGathered st essentials s p
mandatory_gathered st essentials s p h meant last stated are there =
    let indices = mandatory_indices st s p h meant last stated there in (
      (λ mandatory. elim (indices.0 mandatory) [
        | inl (essential, active) ↦ inl (are.each p h there essential active)
        | inr (x, (variable, stands), latest) ↦ inr (
          x,
          elim stands [
            | inl in_it ↦ inl in_it
            | inr (q, e, at, active, (kind, in_e)) ↦ inr (q, e, are.each q e at kind active, at, in_e)
          ],
          latest,
        )
      ]),
      (λ gathered. elim gathered [
        | inl (i, at) ↦
            let (e, at_p, kind, active) = are.only i p at in
            indices.1 (inl (ap (λ (t : Sentence). t.kind) (one_there st p h e there at_p) ∙ kind, active))
        | inr (x, stands, latest) ↦ indices.1 (inr (
          x,
          (
            latest_is_variable st x p meant latest,
            elim stands [
              | inl in_it ↦ inl in_it
              | inr (q, e, (i, at), at_q, in_e) ↦
                  let (d, at_d, kind, active) = are.only i q at in
                  let same = one_there st q e d at_q at_d in
                  inr (q, e, at_q, active, (ap (λ (t : Sentence). t.kind) same ∙ kind, in_e))
            ],
          ),
          latest,
        ))
      ]),
    )

-- the numbers of the labels of the statements at indices
abbrev pub numbers_at : List Sentence → List ℕ → List ℕ
numbers_at st indices = map (λ p. length (labelled_sentences (take p st))) indices

numbered_all : (st more : List Sentence) (indices : List ℕ) (hs : List Sentence) → map (slice_get st) indices ≡ map (λ h. Some h) hs → ((i p : ℕ) (h : Sentence) → slice_get indices i ≡ Some p → slice_get st p ≡ Some h → is_some h.label ≡ true)
    → map (slice_get (labelled_sentences (st ++ more))) (numbers_at st indices) ≡ map (λ h. Some h) hs
numbered_all st more [] hs are named = are
numbered_all st more (p ∷ indices) [] are named = absurd (cc)
numbered_all st more (p ∷ indices) (h ∷ hs) are named =
    let here : slice_get st p ≡ Some h = cc in
    let rest : map (slice_get st) indices ≡ map (λ h. Some h) hs = cc in
    let first = labelled_grow st more (length (labelled_sentences (take p st))) h (numbered_get st (length (labelled_sentences (take p st))) p h (numbered_at st p h here (named 0 p h refl here))) in
    let others = numbered_all st more indices hs rest (λ i q g at there. named (suc i) q g at there) in
    cc

-- Rising indices, exactly those that are gathered, are those of the mandatory hypotheses.
pub indices_gathered : (st : List Sentence) (essentials indices : List ℕ) (s : Sentence) → AllMeant st → IsMeant st s → IsStated s.kind → AreEssentials st essentials → AreRisingIndices indices → AreGathered st essentials s indices → AreIndices st s indices
indices_gathered st essentials indices s meant last stated are rise gathered = record {
  rising = rise;
  within = λ i p there. elim (gathered.only i p there) [
    | inl (k, at) ↦ let (e, at_p, kind, active) = are.only k p at in slice_get_within st p e at_p
    | inr (x, stands, latest) ↦ slice_get_within st p latest.statement latest.there
  ];
  exact = λ p h there.
      let same = mandatory_gathered st essentials s p h meant last stated are there in (
        (λ mandatory. contains_from_at indices p (gathered.each p (same.0 mandatory))),
        (λ in_it. let (i, at) = at_from_contains indices p in_it in same.1 (gathered.only i p at)),
      );
}

-- a mandatory hypothesis has a label
pub index_named : (st : List Sentence) (s : Sentence) (indices : List ℕ) (i p : ℕ) (h : Sentence) → AllFormed st → AreIndices st s indices → slice_get indices i ≡ Some p → slice_get st p ≡ Some h → is_some h.label ≡ true
index_named st s indices i p h formed are there at =
    let named = (formed p h at).label in
    elim ((are.exact p h at).1 (contains_from_at indices p (i, there))).1 [
      | inl essential ↦ let (l, is, label) = subst (λ k. HasItsLabel k h.label) essential named in ap is_some is
      | inr (code, x, types, mandatory) ↦ let (l, is, label) = subst (λ k. HasItsLabel k h.label) types.0 named in ap is_some is
    ]

-- The labels' numbers at these indices are those of the mandatory hypotheses, once the assertion is
-- added.
pub hypotheses_from_indices : (st : List Sentence) (indices : List ℕ) (s : Sentence) (more : List Sentence) → AllFormed st → AreIndices st s indices → AreHypotheses (at_index (st ++ s ∷ more) (length st)) (numbers_at st indices)
hypotheses_from_indices st indices s more formed are =
    let (hs, those, values) = those_by_indices (IsMandatoryAt st s) st indices are.rising are.within are.exact in
    record {
      assertion = s;
      there = get_parted st more s;
      hypotheses = hs;
      mandatory = rw (take-append_seam st (s ∷ more)) those;
      numbered = numbered_all st (s ∷ more) indices hs values (λ i p h there at. index_named _ _ _ i p h formed are there at);
    }
