-- The steps that are reached from the roots, in one pass from the last step to the first.
use Rattle.std.proofs.Common.{◌≡◌, ℕ, ◌+◌, ◌-◌, ◌<◌, ◌≤◌, List, [], ◌∷◌, ◌++◌, length}
use Rattle.std.proofs.Common.{set, get_or, slice_get, slice_index_or, Contains, Some, Bool}
use Rattle.std.proofs.Common.{true, false, ◌⊎◌, ◌↔◌, inl, inr, refl, sym, ap, subst, ◌∙◌}
use Rattle.std.proofs.Common.{arith}
use Rattle.std.proofs.Common.{All, Vec}
use Rattle.std.proofs.lemmas.Bool.{cases_eq, cases_lt, false≢true}
use Rattle.std.proofs.lemmas.Option.{slice_get_within, slice_get-map, same_Some, slice_get_read}
use Rattle.std.proofs.lemmas.Option.{get_or_from_slice_get}
use Rattle.std.proofs.lemmas.List.Elements.{Contains-get_or, Contains-push, Contains-push_cases}
use Rattle.std.proofs.lemmas.List.Elements.{Contains-append_left}
use Rattle.std.proofs.lemmas.Grind.{get_or-set_at}
use Rattle.std.proofs.lemmas.List.{get_or-set_other, get_or_past, length-set}
use Rattle.mm_listing.specs.Uses.{IsReached, AreReached, rows_of}
use Rattle.mm_listing.specs.Mirror.StepUses.{IsAmong, AreEarlier, AreSet}

-- ---- flags that are set

-- no step
pub set_none : (old : List Bool) → AreSet old old []
set_none old = (
  refl,
  λ index within. (
    inl,
    (λ either. elim either [
      | inl is ↦ is
      | inr none ↦ absurd (omega (arith, none.1))
    ]),
  ),
)

-- a step more
pub set_more : (old now : List Bool) (used : List ℕ) (step : ℕ) → AreSet old now used
    → IsAmong (length old) step → AreSet old (set now (step - 1) true) (used ++ step ∷ [])
set_more old now used step was among = (
  length-set now (step - 1) true ∙ was.0,
  λ index within. (to index within, from index within),
)
  where
    here : step - 1 < length now
    here = omega (arith, among.0, among.1, was.0)

    to : (index : ℕ) → index < length old → IsReached (set now (step - 1) true) index
        → IsReached old index ⊎ Contains (used ++ step ∷ []) (index + 1)
    to index within is = elim (cases_eq index (step - 1)) [
      | inl same ↦ inr (subst (Contains (used ++ step ∷ [])) (omega (arith, same, among.0))
          (Contains-push used step))
      | inr apart ↦ elim ((was.1 index within).0
          (sym (get_or-set_other now (step - 1) index true false apart) ∙ is)) [
            | inl old_one ↦ inl old_one
            | inr in_used ↦ inr (Contains-append_left used (step ∷ []) (index + 1) in_used)
          ]
    ]

    kept : (index : ℕ) → IsReached now index → IsReached (set now (step - 1) true) index
    kept index is = elim (cases_eq index (step - 1)) [
      | inl same ↦ get_or-set_at now (step - 1) index true false same here
      | inr apart ↦ get_or-set_other now (step - 1) index true false apart ∙ is
    ]

    from : (index : ℕ) → index < length old
        → IsReached old index ⊎ Contains (used ++ step ∷ []) (index + 1)
        → IsReached (set now (step - 1) true) index
    from index within (inl is) = kept index ((was.1 index within).1 (inl is))
    from index within (inr is) = elim (Contains-push_cases used step (index + 1) is) [
      | inl in_used ↦ kept index ((was.1 index within).1 (inr in_used))
      | inr same ↦ get_or-set_at now (step - 1) index true false (omega (arith, same)) here
    ]

-- ---- what is read

-- the flag at an index
pub flag_read : (flags : List Bool) (index : ℕ) (flag : Bool) → index < length flags
    → flag ≡ get_or flags index flag → slice_index_or flags index false ≡ flag
flag_read flags index flag within is =
    get_or_from_slice_get flags index flag false
    (slice_get_read flags (length flags) index flag refl within is)

-- the row of the list at an index
pub row_there : {Z : Type 0} (lists : List (Vec ℕ Z)) (index : ℕ) (list : Vec ℕ Z)
    → slice_get lists index ≡ Some list → slice_get (rows_of lists) index ≡ Some list.items
row_there lists index list there = rw (slice_get-map, there) refl

-- the steps of a row are among those that the flags are of
pub row_among : (rows : List (List ℕ)) (flags : List Bool) (index : ℕ) (row : List ℕ)
    → AreEarlier rows → length flags ≡ length rows → slice_get rows index ≡ Some row
    → All (IsAmong (length flags)) row
row_among rows flags index row earlier long there k d less =
    let is = earlier index row (get_or row k d) there (Contains-get_or row k d less) in
    (is.0, omega (arith, is.1, slice_get_within rows index row there, long))

-- ---- one pass

-- the flags are those of the roots, and of what the steps from an index on use that are reached
pub record HasReached (roots : List ℕ) (rows : List (List ℕ)) (flags : List Bool)
    (done : ℕ) : Type 0 where
  pub count : length flags ≡ length rows
  pub each : (index : ℕ) → index < length flags
      → IsReached flags index ↔ (Contains roots (index + 1)
      ⊎ ((user : ℕ) × (used : List ℕ) × (done ≤ user) × IsReached flags user
      × (slice_get rows user ≡ Some used) × Contains used (index + 1)))

-- a flag that is set is one of them
reached_within : (flags : List Bool) (index : ℕ) → IsReached flags index → index < length flags
reached_within flags index is = elim (cases_lt index (length flags)) [
  | inl within ↦ within
  | inr past ↦ absurd (false≢true (sym (get_or_past flags index false (omega (arith, past))) ∙ is))
]

module _ (roots : List ℕ) (rows : List (List ℕ)) (earlier : AreEarlier rows) where
  -- before any step only the roots are
  pub reached_roots : (none flags : List Bool) → length none ≡ length rows
      → ((index : ℕ) → ¬ (IsReached none index)) → AreSet none flags roots
      → HasReached roots rows flags (length rows)
  reached_roots none flags long unset set = record {
    count = set.0 ∙ long;
    each = λ index within.
        let inside : index < length none = omega (arith, within, set.0) in (
          (λ is. elim ((set.1 index inside).0 is) [
            | inl old ↦ absurd (unset index old)
            | inr in_roots ↦ inl in_roots
          ]),
          (λ either. elim either [
            | inl in_roots ↦ (set.1 index inside).1 (inr in_roots)
            | inr later ↦ absurd (let least = later.2 in
                omega (arith, least, slice_get_within rows later.0 later.1 later.4))
          ]),
        );
  }

  -- a step that isn't reached
  pub reached_skipped : (flags : List Bool) (index : ℕ) → HasReached roots rows flags (index + 1)
      → ¬ (IsReached flags index) → HasReached roots rows flags index
  reached_skipped flags index was unset = record {
    count = was.count;
    each = λ i within. (
      (λ is. elim ((was.each i within).0 is) [
        | inl same ↦ inl same
        | inr later ↦ inr (
          later.0,
          later.1,
          (let least = later.2 in omega (arith, least)),
          later.3,
          later.4,
          later.5,
        )
      ]),
      (λ either. elim either [
        | inl same ↦ (was.each i within).1 (inl same)
        | inr later ↦ elim (cases_eq later.0 index) [
          | inl same ↦ absurd (unset (subst (IsReached flags) same later.3))
          | inr apart ↦ (was.each i within).1 (inr (
            later.0,
            later.1,
            (let least = later.2 in omega (arith, least, apart)),
            later.3,
            later.4,
            later.5,
          ))
        ]
      ]),
    );
  }

  -- a step that is, whose uses are set
  pub reached_more : (old new : List Bool) (index : ℕ) (row : List ℕ)
      → HasReached roots rows old (index + 1) → IsReached old index
      → slice_get rows index ≡ Some row → AreSet old new row → HasReached roots rows new index
  reached_more old new index row was here there are = record {
    count = are.0 ∙ was.count;
    each = λ i within.
        let inside : i < length old = omega (arith, within, are.0) in (
          (λ is. elim ((are.1 i inside).0 is) [
            | inl old_one ↦ elim ((was.each i inside).0 old_one) [
              | inl same ↦ inl same
              | inr later ↦ inr (
                later.0,
                later.1,
                (let least = later.2 in omega (arith, least)),
                stays later.0 later.3,
                later.4,
                later.5,
              )
            ]
            | inr in_row ↦ inr (index, row, omega arith, stays index here, there, in_row)
          ]),
          (λ either. elim either [
            | inl same ↦ stays i ((was.each i inside).1 (inl same))
            | inr later ↦ elim (cases_eq later.0 index) [
              | inl same ↦
                  let own : later.1 ≡ row = same_Some later.1 row
                  (sym later.4 ∙ ap (slice_get rows) same ∙ there) in
                  (are.1 i inside).1
                  (inr (subst (λ (l : List ℕ). Contains l (i + 1)) own later.5))
              | inr apart ↦ stays i ((was.each i inside).1 (inr (
                later.0,
                later.1,
                (let least = later.2 in omega (arith, least, apart)),
                was_set later.0 (let least = later.2 in omega (arith, least)) later.3,
                later.4,
                later.5,
              )))
            ]
          ]),
        );
  }
    where
      -- what is set stays so
      stays : (i : ℕ) → IsReached old i → IsReached new i
      stays i is = (are.1 i (reached_within old i is)).1 (inl is)

      -- the step uses none behind it
      was_set : (i : ℕ) → index ≤ i → IsReached new i → IsReached old i
      was_set i least is =
          let inside : i < length old =
          omega (arith, reached_within new i is, are.0) in
          elim ((are.1 i inside).0 is) [
            | inl old_one ↦ old_one
            | inr in_row ↦ absurd (let used = earlier index row (i + 1) there in_row in
                omega (arith, least, used.1))
          ]

  -- all of them
  pub reached_all : (flags : List Bool) → HasReached roots rows flags 0
      → AreReached roots rows flags
  reached_all flags all = record {
    count = all.count;
    each = λ index within. (
      (λ is. elim ((all.each index within).0 is) [
        | inl same ↦ inl same
        | inr user ↦ inr (user.0, user.1, user.3, user.4, user.5)
      ]),
      (λ either. (all.each index within).1 (elim either [
        | inl same ↦ inl same
        | inr user ↦ inr (user.0, user.1, omega arith, user.2, user.3, user.4)
      ])),
    );
  }
