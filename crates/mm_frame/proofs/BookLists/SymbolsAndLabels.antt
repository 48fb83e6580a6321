-- What is known of each symbol and label, as a statement is added.
use Rattle.std.proofs.Common.{◌≡◌, ◌≢◌, ℕ, suc, ◌⊎◌, inl, inr, length, take, set, List, [], ◌∷◌}
use Rattle.std.proofs.Common.{◌++◌, Contains, Option, Some, None, refl, sym, ap, ◌∙◌, subst}
use Rattle.std.proofs.Common.{length-set, arith, slice_get, fold, zero, ◌<◌, ◌≤◌, map, is_some}
use Rattle.std.proofs.lemmas.Option.{slice_get_within}
use Rattle.std.proofs.lemmas.List.Sums.{fold-append}
use Rattle.mm_base.specs.declared.statement.Kind.{Kind}
use Rattle.mm_base.specs.declared.statement.Kind.TheVariants.{Constants, Variables, Floating}
use Rattle.mm_base.specs.declared.statement.Kind.TheVariants.{Essential, Closing}
use Rattle.mm_frame.specs.declared.tables.SymbolInfo.{SymbolInfo}
use Rattle.mm_frame.specs.Sentence.{Sentence, SomeSentence, Declares}
use Rattle.mm_frame.specs.Rules.{AllMeant}
use Rattle.mm_frame.specs.Numbers.{declared_by, declared_in, with_name, symbols_of}
use Rattle.mm_frame.specs.Numbers.{labelled_sentences, IsNumbered}
use Rattle.mm_frame.specs.Mirror.Layout.{IsLatestIn, GivesType, AreInfos, AreLabelInfos, IsEntered}
use Rattle.mm_frame.specs.Mirror.Layout.{AreEssentials}
use Rattle.mm_base.proofs.Lists.{get_kept, get_pushed, pushed_cases, get_before, get_set_cases}
use Rattle.mm_base.proofs.Lists.{at_from_contains, contains_from_at, get_within, append_cases}
use Rattle.mm_base.proofs.Lists.{same_length}
use Rattle.mm_frame.proofs.Blocks.NumberedBlocks.{rising_grown, length_pushed}
use Rattle.mm_frame.proofs.Rules.ObeyedRules.{meant_at, typed_variable, some_later, active_in_front}
use Rattle.mm_frame.proofs.Names.NameNumbers.{At, symbols_push, symbols_unique}
use Rattle.mm_frame.proofs.Names.NameNumbers.{number_from_declared, with_name_cases}
use Rattle.mm_frame.specs.Mirror.Declaring.{IsDeclaration, latest_by}
use Rattle.std.proofs.lemmas.Bool.{cases_lt}
use Rattle.std.proofs.lemmas.List.{map-append, take-append-le}
use Rattle.std.proofs.lemmas.List.Elements.{Contains-push}
use Rattle.std.proofs.Math.Seq.{take-append_seam, take-length}
use Rattle.mm_frame.specs.declared.number.LabelId.{LabelId}
use Rattle.mm_frame.specs.declared.tables.Entry.{Entry}
use Rattle.mm_frame.specs.declared.tables.LabelInfo.{LabelInfo}
use Rattle.mm_frame.specs.Active.{IsActive}
use Rattle.mm_frame.proofs.Blocks.ActiveStatements.{active_last, active_stays, active_falls}
use Rattle.mm_frame.proofs.Blocks.ActiveStatements.{active_nest}
use Rattle.mm_frame.proofs.Names.LabelNumbers.{labelled_push, labelled_pass, numbered_grow}
use Rattle.mm_frame.proofs.Names.LabelNumbers.{numbered_last}

-- ==== what is known of each symbol, as a statement is added

-- the latest statement that is so, with one statement more
pub latest_kept : (P : Sentence → Type 0) (st : List Sentence) (e : Sentence) (o : Option ℕ) → ¬ (P e) → IsLatestIn P st o → IsLatestIn P (st ++ e ∷ []) o
latest_kept P st e None other none = λ (p, s, there, holds). elim (pushed_cases st e p s there) [
  | inl before ↦ none (p, s, before, holds)
  | inr (last, same) ↦ other (subst P (sym same) holds)
]
latest_kept P st e (Some p) other latest = record {
  statement = latest.statement;
  there = get_kept st (e ∷ []) p latest.statement latest.there;
  holds = latest.holds;
  last = λ k s after at holds. elim (pushed_cases st e k s at) [
    | inl before ↦ latest.last k s after before holds
    | inr (last, same) ↦ other (subst P (sym same) holds)
  ];
}

pub latest_new : (P : Sentence → Type 0) (st : List Sentence) (e : Sentence) → P e → IsLatestIn P (st ++ e ∷ []) (Some (length st))
latest_new P st e holds = record {
  statement = e;
  there = get_pushed st e;
  holds = holds;
  last = λ k s after at so. elim (pushed_cases st e k s at) [
    | inl before ↦ absurd (let lt = slice_get_within st k s before in omega arith)
    | inr (last, same) ↦ absurd (omega arith)
  ];
}

-- the latest statement that is so, where the last statement is replaced by one that is so exactly if the last was
pub latest_replaced : (P : Sentence → Type 0) (st : List Sentence) (e d : Sentence) (o : Option ℕ) → (P e → P d) → (P d → P e) → IsLatestIn P (st ++ e ∷ []) o → IsLatestIn P (st ++ d ∷ []) o
latest_replaced P st e d None there back none = λ (p, s, at, holds). elim (pushed_cases st d p s at) [
  | inl before ↦ none (p, s, get_kept st (e ∷ []) p s before, holds)
  | inr (last, same) ↦ none (length st, e, get_pushed st e, back (subst P (sym same) holds))
]
latest_replaced P st e d (Some p) there back latest = elim (pushed_cases st e p latest.statement latest.there) [
  | inl before ↦ record {
    statement = latest.statement;
    there = get_kept st (d ∷ []) p latest.statement before;
    holds = latest.holds;
    last = λ k s after at holds. elim (pushed_cases st d k s at) [
      | inl k_before ↦ latest.last k s after (get_kept st (e ∷ []) k s k_before) holds
      | inr (last, same) ↦ latest.last k e after (rw last (get_pushed st e)) (back (subst P (sym same) holds))
    ];
  }
  | inr (at_end, same) ↦ rw at_end (latest_new P st d (there (subst P (sym same) latest.holds)))
]

undeclaring : (e : Sentence) (x : List ℕ) → declared_by e ≡ [] → ¬ (Declares Variables x e)
undeclaring e x none (kind, in_it) =
    let (k, lt, is) = rw (sym (ap (λ k. declared_in k e.symbols) kind) ∙ none) at in_it in
    omega arith

-- no symbols of its own, and no type
pub infos_other : (st : List Sentence) (symbols : List (List ℕ)) (infos : List SymbolInfo) (e : Sentence) → AreInfos st symbols infos → declared_by e ≡ [] → ¬ (e.kind ≡ Floating) → AreInfos (st ++ e ∷ []) symbols infos
infos_other st symbols infos e are none other = record {
  all = are.all ∙ sym (symbols_push st e ∙ ap (fold with_name (symbols_of st)) none);
  informed = are.informed;
  each = λ n x info named there. let old = are.each n x info named there in record {
    variable = latest_kept (Declares Variables x) st e info.variable (undeclaring e x none) old.variable;
    floating = latest_kept (GivesType x) st e info.floating (λ (code, types). other types.0) old.floating;
  };
}

same_number : (st : List Sentence) (symbols : List (List ℕ)) (m n : ℕ) (x : List ℕ) → symbols ≡ symbols_of st → slice_get symbols m ≡ Some x → slice_get symbols n ≡ Some x → m ≡ n
same_number st symbols m n x all at_m at_n =
    symbols_unique st m n x (rw all at at_m) (rw all at at_n)

-- a `$f`
pub infos_floating : (st : List Sentence) (symbols : List (List ℕ)) (infos : List SymbolInfo) (e : Sentence) (code x : List ℕ) (n : ℕ) (info : SymbolInfo) → AreInfos st symbols infos
    → e.kind ≡ Floating → e.symbols ≡ code ∷ x ∷ [] → slice_get symbols n ≡ Some x → slice_get infos n ≡ Some info
    → AreInfos (st ++ e ∷ []) symbols (set infos n (record info { floating = Some (length st) }))
infos_floating st symbols infos e code x n info are kind says named there =
    let none : declared_by e ≡ [] = ap (λ k. declared_in k e.symbols) kind in
    record {
      all = are.all ∙ sym (symbols_push st e ∙ ap (fold with_name (symbols_of st)) none);
      informed = length-set infos n (record info { floating = Some (length st) }) ∙ are.informed;
      each = λ m y other at found. elim (get_set_cases infos n m (record info { floating = Some (length st) }) other found) [
        | inl (same, is) ↦
            let same_name : x ≡ y = cc in
            let old = are.each n x info named there in
            rw (← is) (rw (← same_name) (record {
              variable = latest_kept (Declares Variables x) st e info.variable (undeclaring e x none) old.variable;
              floating = latest_new (GivesType x) st e (code, (kind, says));
            }))
        | inr (apart, before) ↦
            let old = are.each m y other at before in
            record {
              variable = latest_kept (Declares Variables y) st e other.variable (undeclaring e y none) old.variable;
              floating = latest_kept (GivesType y) st e other.floating
                  (λ (c, types). apart (same_number st symbols m n x are.all (let h = types.1 in let g : y ≡ x = cc in rw g at (at)) named)) old.floating;
            }
      ];
    }

-- a `$c` or `$v` of some symbols
abbrev pub of_kind : Kind → List (List ℕ) → Sentence
of_kind kind symbols = record { kind = kind; label = None; symbols = symbols }

contains_push : (xs : List (List ℕ)) (x y : List ℕ) → Contains xs y → Contains (xs ++ x ∷ []) y
contains_push xs x y in_it = let (i, there) = at_from_contains xs y in_it in contains_from_at (xs ++ x ∷ []) y (i, get_kept xs (x ∷ []) i y there)

contains_unpush : (xs : List (List ℕ)) (x y : List ℕ) → x ≢ y → Contains (xs ++ x ∷ []) y → Contains xs y
contains_unpush xs x y apart in_it =
    let (i, there) = at_from_contains (xs ++ x ∷ []) y in_it in
    elim (pushed_cases xs x i y there) [ inl before ↦ contains_from_at xs y (i, before) | inr (last, same) ↦ absurd (apart same) ]

-- the names, with one symbol more of a `$c` or `$v`
pub declaring_all : (kind : Kind) (xs : List (List ℕ)) → (kind ≡ Constants) ⊎ (kind ≡ Variables) → declared_in kind xs ≡ xs
declaring_all kind xs which = elim which [ inl is ↦ ap (λ k. declared_in k xs) is | inr is ↦ ap (λ k. declared_in k xs) is ]

names_more : (st : List Sentence) (kind : Kind) (xs : List (List ℕ)) (x : List ℕ) → (kind ≡ Constants) ⊎ (kind ≡ Variables)
    → symbols_of (st ++ of_kind kind (xs ++ x ∷ []) ∷ []) ≡ with_name (symbols_of (st ++ of_kind kind xs ∷ [])) x
names_more st kind xs x which =
    symbols_push st (of_kind kind (xs ++ x ∷ [])) ∙ ap (fold with_name (symbols_of st)) (declaring_all kind (xs ++ x ∷ []) which)
    ∙ fold-append with_name (symbols_of st) xs (x ∷ [])
    ∙ ap (λ names. with_name names x) (sym (symbols_push st (of_kind kind xs) ∙ ap (fold with_name (symbols_of st)) (declaring_all kind xs which)))

known_name : (names : List (List ℕ)) (x : List ℕ) → At names x → with_name names x ≡ names
known_name names x at = elim (with_name_cases names x) [ inl (found, same) ↦ same | inr (absent, more) ↦ absurd (absent at) ]

pub fresh_name : (names : List (List ℕ)) (x : List ℕ) → ¬ (At names x) → with_name names x ≡ names ++ x ∷ []
fresh_name names x none = elim (with_name_cases names x) [ inl (found, same) ↦ absurd (none found) | inr (absent, more) ↦ more ]

-- a symbol that is known is declared again
no_type_first : (kind : Kind) (xs : List (List ℕ)) (y : List ℕ) → (kind ≡ Constants) ⊎ (kind ≡ Variables) → ¬ (GivesType y (of_kind kind xs))
no_type_first kind xs y which (code, (is, says)) = elim which [ inl c ↦ absurd (cc) | inr v ↦ absurd (cc) ]

pub infos_known : (st : List Sentence) (symbols xs : List (List ℕ)) (infos : List SymbolInfo) (x : List ℕ) (n : ℕ) (info : SymbolInfo) → AreInfos (st ++ of_kind Variables xs ∷ []) symbols infos
    → slice_get symbols n ≡ Some x → slice_get infos n ≡ Some info
    → AreInfos (st ++ of_kind Variables (xs ++ x ∷ []) ∷ []) symbols (set infos n (record info { variable = Some (length st) }))
infos_known st symbols xs infos x n info are named there =
    let e = of_kind Variables xs in
    let d = of_kind Variables (xs ++ x ∷ []) in
    let at_names : At (symbols_of (st ++ e ∷ [])) x = (n, rw are.all at named) in
    record {
      all = are.all ∙ sym (names_more st Variables xs x (inr refl) ∙ known_name (symbols_of (st ++ e ∷ [])) x at_names);
      informed = length-set infos n (record info { variable = Some (length st) }) ∙ are.informed;
      each = λ m y other at found. elim (get_set_cases infos n m (record info { variable = Some (length st) }) other found) [
        | inl (same, is) ↦
            let same_name : x ≡ y = cc in
            let old = are.each n x info named there in
            rw (← is) (rw (← same_name) (record {
              variable = latest_new (Declares Variables x) st d (refl, Contains-push xs x);
              floating = latest_replaced (GivesType x) st e d info.floating (λ h. absurd (no_type_first Variables xs x (inr refl) h)) (λ h. absurd (no_type_first Variables (xs ++ x ∷ []) x (inr refl) h)) old.floating;
            }))
        | inr (apart, before) ↦
            let old = are.each m y other at before in
            let differs : x ≢ y = λ same. apart (same_number (st ++ e ∷ []) symbols m n x are.all (at ∙ ap (λ z. Some z) (sym same)) named) in
            record {
              variable = latest_replaced (Declares Variables y) st e d other.variable (λ h. (refl, contains_push xs x y h.1)) (λ h. (refl, contains_unpush xs x y differs h.1)) old.variable;
              floating = latest_replaced (GivesType y) st e d other.floating (λ h. absurd (no_type_first Variables xs y (inr refl) h)) (λ h. absurd (no_type_first Variables (xs ++ x ∷ []) y (inr refl) h)) old.floating;
            }
      ];
    }

no_variable : (xs : List (List ℕ)) (y : List ℕ) → ¬ (Declares Variables y (of_kind Constants xs))
no_variable xs y (kind, in_it) = absurd (cc)

pub infos_known_constant : (st : List Sentence) (symbols xs : List (List ℕ)) (infos : List SymbolInfo) (x : List ℕ) (n : ℕ) → AreInfos (st ++ of_kind Constants xs ∷ []) symbols infos
    → slice_get symbols n ≡ Some x → AreInfos (st ++ of_kind Constants (xs ++ x ∷ []) ∷ []) symbols infos
infos_known_constant st symbols xs infos x n are named =
    let e = of_kind Constants xs in
    let d = of_kind Constants (xs ++ x ∷ []) in
    let at_names : At (symbols_of (st ++ e ∷ [])) x = (n, rw are.all at named) in
    record {
      all = are.all ∙ sym (names_more st Constants xs x (inl refl) ∙ known_name (symbols_of (st ++ e ∷ [])) x at_names);
      informed = are.informed;
      each = λ m y info at found. let old = are.each m y info at found in record {
        variable = latest_replaced (Declares Variables y) st e d info.variable (λ h. absurd (no_variable xs y h)) (λ h. absurd (no_variable (xs ++ x ∷ []) y h)) old.variable;
        floating = latest_replaced (GivesType y) st e d info.floating (λ h. absurd (no_type_first Constants xs y (inl refl) h)) (λ h. absurd (no_type_first Constants (xs ++ x ∷ []) y (inl refl) h)) old.floating;
      };
    }

-- a symbol that isn't known yet: no `$v` and no `$f` names it
unknown_untyped : (st : List Sentence) (e : Sentence) (x : List ℕ) → AllMeant st → ¬ (e.kind ≡ Floating) → ¬ (At (symbols_of (st ++ e ∷ [])) x) → ¬ (SomeSentence (st ++ e ∷ []) (GivesType x))
unknown_untyped st e x meant other unknown (p, f, there, (code, types)) = elim (pushed_cases st e p f there) [
  | inl before ↦
      let variable = some_later st p (Declares Variables x) (typed_variable (take p st) f code x (meant_at st p f meant before) types) in
      let (k, s, at, declares) = variable in
      unknown (number_from_declared (st ++ e ∷ []) x (inr (k, s, get_kept st (e ∷ []) k s at, declares)))
  | inr (last, same) ↦ other (ap (λ (s : Sentence). s.kind) same ∙ types.0)
]

pub infos_fresh : (st : List Sentence) (kind : Kind) (symbols xs : List (List ℕ)) (infos : List SymbolInfo) (x : List ℕ) (v : Option ℕ) → AllMeant st → (kind ≡ Constants) ⊎ (kind ≡ Variables)
    → AreInfos (st ++ of_kind kind xs ∷ []) symbols infos → ¬ (Contains symbols x) → IsLatestIn (Declares Variables x) (st ++ of_kind kind (xs ++ x ∷ []) ∷ []) v
    → AreInfos (st ++ of_kind kind (xs ++ x ∷ []) ∷ []) (symbols ++ x ∷ []) (infos ++ record { variable = v; floating = None } ∷ [])
infos_fresh st kind symbols xs infos x v meant which are unknown latest =
    let e = of_kind kind xs in
    let d = of_kind kind (xs ++ x ∷ []) in
    let new : SymbolInfo = record { variable = v; floating = None } in
    let absent : ¬ (At symbols x) = λ at. unknown (contains_from_at symbols x at) in
    let absent_before : ¬ (At (symbols_of (st ++ e ∷ [])) x) = λ (i, at). absent (i, rw are.all (at)) in
    let all : symbols ++ x ∷ [] ≡ symbols_of (st ++ d ∷ []) =
    ap (λ names. names ++ x ∷ []) are.all ∙ sym (names_more st kind xs x which ∙ fresh_name (symbols_of (st ++ e ∷ [])) x absent_before) in
    record {
      all = all;
      informed = length_pushed infos new ∙ ap suc are.informed ∙ sym (length_pushed symbols x);
      each = λ m y info at found. elim (pushed_cases symbols x m y at) [
        | inl before ↦
            let lt = slice_get_within symbols m y before in
            let old = are.each m y info before (get_before infos (new ∷ []) m info (omega arith) found) in
            let differs : x ≢ y = λ same. absent (m, before ∙ ap (λ z. Some z) (sym same)) in
            record {
              variable = latest_replaced (Declares Variables y) st e d info.variable (λ h. (h.0, contains_push xs x y h.1)) (λ h. (h.0, contains_unpush xs x y differs h.1)) old.variable;
              floating = latest_replaced (GivesType y) st e d info.floating (λ h. absurd (no_type_first kind xs y which h)) (λ h. absurd (no_type_first kind (xs ++ x ∷ []) y which h)) old.floating;
            }
        | inr (last, same) ↦ elim (pushed_cases infos new m info found) [
          | inl before ↦ absurd (let lt = slice_get_within infos m info before in omega arith)
          | inr (at_end, is) ↦ rw (← is) (rw (← same) (record {
            variable = latest;
            floating = λ (p, f, there, types). elim (pushed_cases st d p f there) [
              | inl before ↦ unknown_untyped st e x meant (λ floats. elim which [ inl c ↦ absurd (cc) | inr w ↦ absurd (cc) ])
                  absent_before (p, f, get_kept st (e ∷ []) p f before, types)
              | inr (last, same) ↦ no_type_first kind (xs ++ x ∷ []) x which (subst (GivesType x) (sym same) types)
            ];
          }))
        ]
      ];
    }

-- its latest `$v`, if it has one, is this one
pub latest_declared : (st : List Sentence) (kind : Kind) (symbols xs : List (List ℕ))
    (infos : List SymbolInfo) (x : List ℕ) → IsDeclaration kind
    → AreInfos (st ++ of_kind kind xs ∷ []) symbols infos → ¬ (Contains symbols x)
    → IsLatestIn (Declares Variables x) (st ++ of_kind kind (xs ++ x ∷ []) ∷ [])
    (latest_by kind (length st))
latest_declared st kind symbols xs infos x which are unknown = elim which [
  | inl c ↦ subst LatestBy (sym c) (λ (p, s, there, declares).
      elim (pushed_cases st (of_kind Constants (xs ++ x ∷ [])) p s there) [
        | inl before ↦
            let e = of_kind kind xs in
            let (n, at) = number_from_declared (st ++ e ∷ []) x
            (inr (p, s, get_kept st (e ∷ []) p s before, declares)) in
            let named = subst (λ names. slice_get names n ≡ Some x) (sym are.all) at in
            unknown (contains_from_at symbols x (n, named))
        | inr (last, same) ↦ no_variable (xs ++ x ∷ []) x
            (subst (Declares Variables x) (sym same) declares)
      ])
  | inr v ↦ subst LatestBy (sym v)
      (latest_new (Declares Variables x) st (of_kind Variables (xs ++ x ∷ []))
      (refl, Contains-push xs x))
]
  where
    LatestBy : Kind → Type 0
    LatestBy k = IsLatestIn (Declares Variables x) (st ++ of_kind k (xs ++ x ∷ []) ∷ [])
        (latest_by k (length st))

pub infos_none : AreInfos [] [] []
unfolding symbols_of
infos_none = record { all = refl; informed = refl; each = λ n x info at found. absurd (cc) }

-- ==== what is known of each label, and the active `$e`, as a statement is added

-- how many labels there are
pub labels_counted : (st : List Sentence) (labels : List (List ℕ)) (named : List LabelInfo) (log : List Entry) → AreLabelInfos st labels named log → length (labelled_sentences st) ≡ length labels
labels_counted st labels named log are = same_length _ _ _ labels are.all

prefix_count : (st : List Sentence) (e : Sentence) (index : ℕ) → index ≤ length st → length (labelled_sentences (take index (st ++ e ∷ []))) ≡ length (labelled_sentences (take index st))
prefix_count st e index le = ap (λ ys. length (labelled_sentences ys)) (take-append-le index st (e ∷ []) le)

named_grow : (st : List Sentence) (e : Sentence) (id : ℕ) (info : LabelInfo) → (s : Sentence) × IsNumbered st id info.index s → (s : Sentence) × IsNumbered (st ++ e ∷ []) id info.index s
named_grow st e id info (s, numbered) = (s, numbered_grow st (e ∷ []) id info.index s numbered)

entered_grow : (log : List Entry) (new : Entry) (info : LabelInfo) → IsEntered log info → IsEntered (log ++ new ∷ []) info
entered_grow log new info is = record {
  entry = is.entry;
  there = get_kept log (new ∷ []) info.index is.entry is.there;
  kind = is.kind;
  symbols = is.symbols;
}

pub labels_none : (st : List Sentence) (labels : List (List ℕ)) (named : List LabelInfo) (log : List Entry) (e : Sentence) (new : Entry) → AreLabelInfos st labels named log
    → e.label ≡ None → new.label ≡ None → length log ≡ length st → AreLabelInfos (st ++ e ∷ []) labels named (log ++ new ∷ [])
labels_none st labels named log e new are none no_id size = record {
  all = ap (map (λ s. s.label)) (labelled_pass st e (ap is_some none)) ∙ are.all;
  informed = are.informed;
  each = λ id info there. named_grow st e id info (are.each id info there);
  logged = λ index f id there is. elim (pushed_cases log new index f there) [
    | inl before ↦
        let lt = slice_get_within log index f before in
        prefix_count st e index (omega arith) ∙ are.logged index f id before is
    | inr (last, same) ↦ absurd (let h = ap (λ (d : Entry). d.label) same in cc)
  ];
  entered = λ id info there. entered_grow log new info (are.entered id info there);
}

pub labels_some : (st : List Sentence) (labels : List (List ℕ)) (named : List LabelInfo) (log : List Entry) (e : Sentence) (new : Entry) (l : List ℕ) (id : LabelId) (info : LabelInfo) → AreLabelInfos st labels named log
    → e.label ≡ Some l → new.label ≡ Some id → id.0 ≡ length labels → info.index ≡ length st → new.kind ≡ info.kind → new.symbols ≡ info.symbols → length log ≡ length st
    → AreLabelInfos (st ++ e ∷ []) (labels ++ l ∷ []) (named ++ info ∷ []) (log ++ new ∷ [])
labels_some st labels named log e new l id info are has has_id number indexed kinds parts size =
    let count = labels_counted st labels named log are in
    let informed = are.informed in
    record {
      all =
          ap (map (λ s. s.label)) (labelled_push st e (ap is_some has)) ∙ map-append (λ (s : Sentence). s.label) (labelled_sentences st) (e ∷ [])
          ∙ ap (λ ys. ys ++ e.label ∷ []) are.all ∙ ap (λ o. map (λ l. Some l) labels ++ o ∷ []) has ∙ sym (map-append (λ l. Some l) labels (l ∷ []));
      informed = length_pushed named info ∙ ap suc informed ∙ sym (length_pushed labels l);
      each = λ n other there. elim (pushed_cases named info n other there) [
        | inl before ↦ named_grow st e n other (are.each n other before)
        | inr (last, same) ↦
            let at : n ≡ length (labelled_sentences st) = omega arith in
            let index : other.index ≡ length st = ap (λ (i : LabelInfo). i.index) (sym same) ∙ indexed in
            (e, subst (λ p. IsNumbered (st ++ e ∷ []) n p e) (sym index) (subst (λ k. IsNumbered (st ++ e ∷ []) k (length st) e) (sym at) (numbered_last st e (ap is_some has))))
      ];
      logged = λ index f i there is. elim (pushed_cases log new index f there) [
        | inl before ↦
            let lt = slice_get_within log index f before in
            prefix_count st e index (omega arith) ∙ are.logged index f i before is
        | inr (last, same) ↦
            let at : index ≡ length st = last ∙ size in
            let same_id : id ≡ i = let h = ap (λ (d : Entry). d.label) same in cc in
            ap (λ p. length (labelled_sentences (take p (st ++ e ∷ [])))) at ∙ ap (λ ys. length (labelled_sentences ys)) (take-append_seam st (e ∷ [])) ∙ count ∙ sym number ∙ ap (λ (j : LabelId). j.0) same_id
      ];
      entered = λ n other there. elim (pushed_cases named info n other there) [
        | inl before ↦ entered_grow log new other (are.entered n other before)
        | inr (last, same) ↦
            let index : length log ≡ other.index = size ∙ sym indexed ∙ ap (λ (i : LabelInfo). i.index) same in
            record {
              entry = new;
              there = subst (λ p. slice_get (log ++ new ∷ []) p ≡ Some new) index (get_pushed log new);
              kind = kinds ∙ ap (λ (i : LabelInfo). i.kind) same;
              symbols = parts ∙ ap (λ (i : LabelInfo). i.symbols) same;
            }
      ];
    }

-- ---- the active `$e`

pub essentials_other : (st : List Sentence) (indices : List ℕ) (e : Sentence) → AreEssentials st indices → ¬ (e.kind ≡ Essential) → ¬ (e.kind ≡ Closing) → AreEssentials (st ++ e ∷ []) indices
essentials_other st indices e are other stays = record {
  rising = are.rising;
  only = λ i p there. let (s, at, kind, active) = are.only i p there in (s, get_kept st (e ∷ []) p s at, kind, active_stays st e p stays active);
  each = λ p s there kind active. elim (pushed_cases st e p s there) [
    | inl before ↦ are.each p s before kind (active_falls st (e ∷ []) p (slice_get_within st p s before) active)
    | inr (last, same) ↦ absurd (other (ap (λ (t : Sentence). t.kind) same ∙ kind))
  ];
}

pub essentials_essential : (st : List Sentence) (indices : List ℕ) (e : Sentence) → AreEssentials st indices → e.kind ≡ Essential → AreEssentials (st ++ e ∷ []) (indices ++ length st ∷ [])
essentials_essential st indices e are kind = record {
  rising = λ i j p q lt at_i at_j. rising_grown indices (length st)
      (λ i j p q at_i at_j lt. are.rising i j p q lt at_i at_j)
      (λ i p there. (are.only i p there).3.within) i j p q at_i at_j lt;
  only = λ i p there. elim (pushed_cases indices (length st) i p there) [
    | inl before ↦ let (s, at, is, active) = are.only i p before in (s, get_kept st (e ∷ []) p s at, is, active_stays st e p (λ closes. absurd (cc)) active)
    | inr (last, same) ↦ (e, subst (λ n. slice_get (st ++ e ∷ []) n ≡ Some e) same (get_pushed st e), kind, subst (λ n. IsActive (st ++ e ∷ []) n) same (active_last st e))
  ];
  each = λ p s there is active. elim (pushed_cases st e p s there) [
    | inl before ↦
        let (i, at) = are.each p s before is (active_falls st (e ∷ []) p (slice_get_within st p s before) active) in
        (i, get_kept indices (length st ∷ []) i p at)
    | inr (last, same) ↦ (length indices, get_pushed indices (length st) ∙ ap (λ n. Some n) (sym last))
  ];
}

-- of two active statements, the earlier one is active if the later one is
earlier_active : (st : List Sentence) (e : Sentence) (s p : ℕ) → s < p → IsActive st s → IsActive st p → IsActive (st ++ e ∷ []) p → IsActive (st ++ e ∷ []) s
earlier_active st e s p lt at_s at_p now =
    let all : take (length (st ++ e ∷ [])) (st ++ e ∷ []) ≡ st ++ e ∷ [] = take-length (st ++ e ∷ []) in
    let early : IsActive (take (suc p) (st ++ e ∷ [])) s = subst (λ ys. IsActive ys s) (sym (take-append-le (suc p) st (e ∷ []) (omega arith))) (active_in_front st s (suc p) (omega arith) (omega arith) at_s) in
    subst (λ ys. IsActive ys s) all (active_nest (st ++ e ∷ []) s p (length (st ++ e ∷ [])) lt (omega arith) early (subst (λ ys. IsActive ys p) (sym all) now))

pub essentials_closing : (st : List Sentence) (rest gone : List ℕ) (e : Sentence) → AreEssentials st (rest ++ gone) → e.kind ≡ Closing
    → ((i p : ℕ) → slice_get gone i ≡ Some p → ¬ (IsActive (st ++ e ∷ []) p))
    → ((k p : ℕ) → length rest ≡ suc k → slice_get rest k ≡ Some p → IsActive (st ++ e ∷ []) p) → AreEssentials (st ++ e ∷ []) rest
essentials_closing st rest gone e are closes inactive last_active = record {
  rising = λ i j p q lt at_i at_j. are.rising i j p q lt (get_kept rest gone i p at_i) (get_kept rest gone j q at_j);
  only = λ i p there.
      let (s, at, kind, active) = are.only i p (get_kept rest gone i p there) in
      (s, get_kept st (e ∷ []) p s at, kind, still i p there (length rest) refl active);
  each = λ p s there kind active. elim (pushed_cases st e p s there) [
    | inl before ↦
        let (i, at) = are.each p s before kind (active_falls st (e ∷ []) p (slice_get_within st p s before) active) in
        elim (append_cases rest gone i p at) [
          | inl kept ↦ (i, kept)
          | inr (j, is, lost) ↦ absurd (inactive j p lost active)
        ]
    | inr (last, same) ↦ absurd (let h = ap (λ (t : Sentence). t.kind) same in cc)
  ];
}
  where
    still : (i p : ℕ) → slice_get rest i ≡ Some p → (n : ℕ) → length rest ≡ n → IsActive st p → IsActive (st ++ e ∷ []) p
    still i p there zero size active = absurd (let lt = slice_get_within rest i p there in omega arith)
    still i p there (suc k) size active =
        let lt = slice_get_within rest i p there in
        let (q, at_k) = get_within rest k (omega arith) in
        let now = last_active k q size at_k in
        let (t, at_q, kind_q, active_q) = are.only k q (get_kept rest gone k q at_k) in
        elim (cases_lt i k) [
          | inl less ↦ earlier_active st e p q (are.rising i k p q less (get_kept rest gone i p there) (get_kept rest gone k q at_k)) active active_q now
          | inr more ↦
              let same : i ≡ k = omega arith in
              let is : q ≡ p = let at_i = subst (λ m. slice_get rest m ≡ Some p) same there in cc in
              subst (λ m. IsActive (st ++ e ∷ []) m) is now
        ]
