-- What theorems rest on, told proof after proof in their order: for one assertion, a test that tells
-- of each theorem so far whether it rests on it; and rows of such tests.
use Rattle.std.proofs.Common.{◌≡◌, ◌↔◌, ℕ, ◌+◌, ◌/◌, ◌%◌, ◌<◌, ◌≤◌, List, [], ◌∷◌, ◌++◌, take, length}
use Rattle.std.proofs.Common.{get_or, slice_get, Contains, Bool, true, false, replicate}
use Rattle.std.proofs.Common.{Some, ◌⊎◌, inl, inr, refl, sym, ap, subst, ◌∙◌, arith, not, nat_eq}
use Rattle.std.proofs.Common.{◌&&◌, eq-eqb}
use Rattle.std.specs.Int.{bit_at}
use Rattle.std.proofs.lemmas.Bool.{cases_eq, cases_lt, eqb-true, not-true, and_parts}
use Rattle.std.proofs.lemmas.Nat.Bits.{bit_at-zero}
use Rattle.std.proofs.lemmas.List.{get_or-replicate, get_or_past, length-replicate}
use Rattle.std.proofs.lemmas.Option.{slice_get_within, same_Some}
use Rattle.std.proofs.lemmas.List.Elements.{Contains-append_left}
use Rattle.mm_frame.specs.declared.number.LabelId.{LabelId}
use Rattle.mm_frame.proofs.Names.NameNumbers.{get_mapped}
use Rattle.mm_base.proofs.Lists.{at_from_contains, contains_from_at}
use Rattle.mm_step.specs.Plain.{ids_in}
use Rattle.mm_rules.specs.Conclusion.{ProofUses, numbers_of}
use Rattle.mm_rules.specs.Rests.{RestsOn}
use Rattle.mm_axioms.specs.declared.bits.SetWord.{SetWord}
use Rattle.mm_axioms.specs.Mirror.Bits.{has_bit, has_number}
use Rattle.mm_axioms.specs.Mirror.Rows.{PlainRows, row_in, Reaches, IsRowPut, AreNarrow}
use Rattle.mm_rules.specs.Mirror.Marks.{UsedIn, AreBackward}
use Rattle.mm_rules.proofs.Numbers.{holds_last, holds_cases}
use Rattle.mm_axioms.proofs.WordBits.{has_word}
use Rattle.mm_rules.proofs.OrderedNumbers.{among_more}
use Rattle.mm_axioms.proofs.Resting.UsersOf.{rests_by}
use Rattle.mm_axioms.proofs.Resting.UsersOf.{true_or_not}

-- ==== one assertion

-- The proofs before an index are settled: who passes the test rests on the assertion, and the test is
-- closed over these proofs.
pub record IsSettled (uses : List ProofUses) (id k : ℕ) (test : ℕ → Bool) : Type 0 where
  pub sound : (n : ℕ) → test n ≡ true → RestsOn (UsedIn uses) n id
  pub closed : (i : ℕ) (u : ProofUses) → i < k → slice_get uses i ≡ Some u → (n : ℕ) → Contains u.used n
      → (n ≡ id) ⊎ (test n ≡ true) → test u.number ≡ true

pub settled_none : (uses : List ProofUses) (id : ℕ) (test : ℕ → Bool) → ((n : ℕ) → ¬ (test n ≡ true)) → IsSettled uses id 0 test
settled_none uses id test none = record {
  sound = λ n h. absurd (none n h);
  closed = λ i u less there n used reached. absurd (omega arith);
}

-- one more proof, whose theorem passes the test where it uses something that is reached
pub settled_more : (uses : List ProofUses) (id k : ℕ) (test new : ℕ → Bool) (u : ProofUses) → AreBackward uses → IsSettled uses id k test → slice_get uses k ≡ Some u
    → ((n : ℕ) → ¬ (n ≡ u.number) → new n ≡ test n)
    → new u.number ≡ true ↔ ((m : ℕ) × Contains u.used m × ((m ≡ id) ⊎ (test m ≡ true)))
    → IsSettled uses id (k + 1) new
settled_more uses id k test new u backward h at same both =
    let among : Contains uses u = contains_from_at uses u (k, at) in
    let number : (i : ℕ) (v : ProofUses) → slice_get uses i ≡ Some v → slice_get (numbers_of uses) i ≡ Some v.number =
    λ i v there. get_mapped (λ (w : ProofUses). w.number) uses i v there in
    record {
      sound = λ n holds. elim (cases_eq n u.number) [
        | inl own ↦
            let (m, used, reached) = both.0 (subst (λ (t : ℕ). new t ≡ true) own holds) in
            subst (λ (t : ℕ). RestsOn (UsedIn uses) t id) (sym own) (rests_by (UsedIn uses) u.number m id (u, among, refl, used)
            (elim reached [ inl is ↦ inl is | inr passes ↦ inr (h.sound m passes) ]))
        | inr other ↦ h.sound n (sym (same n other) ∙ holds)
      ];
      closed = λ i v within there n used reached.
          let below : n < v.number = backward.below v n (contains_from_at uses v (i, there)) used in
          elim (cases_eq i k) [
            | inl last ↦
                let one : v ≡ u = cc (last, there, at) in
                let less : n < u.number = subst (λ (w : ProofUses). n < w.number) one below in
                subst (λ (w : ProofUses). new w.number ≡ true) (sym one)
                (both.1 (
                  n,
                  subst (λ (w : ProofUses). Contains w.used n) one used,
                  elim reached [
                    | inl is ↦ inl is
                    | inr passes ↦ inr (sym (same n (λ e. absurd (omega arith))) ∙ passes)
                  ],
                ))
            | inr apart ↦
                let earlier : v.number < u.number = backward.rising i k v.number u.number (omega arith) (number i v there) (number k u at) in
                same v.number (λ e. absurd (omega arith)) ∙ h.closed i v (omega arith) there n used (elim reached [
                  | inl is ↦ inl is
                  | inr passes ↦ inr (sym (same n (λ e. absurd (omega arith))) ∙ passes)
                ])
          ];
    }

-- neither the assertion nor one that passes
abbrev unreached : (ℕ → Bool) → ℕ → ℕ → Bool
unreached test id n = not (nat_eq n id) && not (test n)

is_unreached : (test : ℕ → Bool) (id n : ℕ) → ¬ ((n ≡ id) ⊎ (test n ≡ true)) → unreached test id n ≡ true
is_unreached test id n h = go (nat_eq n id) refl (test n) refl
  where
    go : (a : Bool) → nat_eq n id ≡ a → (b : Bool) → test n ≡ b → (not a && not b) ≡ true
    go true e b f = absurd (h (inl (eqb-true n id e)))
    go false e true f = absurd (h (inr f))
    go false e false f = refl

not_reached : (test : ℕ → Bool) (id n : ℕ) → unreached test id n ≡ true → ¬ ((n ≡ id) ⊎ (test n ≡ true))
not_reached test id n t (inl same) =
    let e = eq-eqb n id same in
    let f = not-true (nat_eq n id) (and_parts (not (nat_eq n id)) (not (test n)) t).0 in cc
not_reached test id n t (inr passes) =
    let f = not-true (test n) (and_parts (not (nat_eq n id)) (not (test n)) t).1 in cc

-- all proofs are settled
pub settled_all : (uses : List ProofUses) (id k : ℕ) (test : ℕ → Bool) → IsSettled uses id k test → length uses ≤ k
    → (n : ℕ) → test n ≡ true ↔ RestsOn (UsedIn uses) n id
settled_all uses id k test h all n = (
  h.sound n,
  λ rests. elim (true_or_not (test n)) [
    | inl passes ↦ passes
    | inr other ↦ absurd (not_reached test id id (rests (unreached test id) (record {
      own = λ used holds. is_unreached test id used (λ reached. other (back n used holds reached));
      others = λ m used free holds. is_unreached test id used (λ reached. not_reached test id m free (inr (back m used holds reached)));
    })) (inl refl))
  ],
)
  where
    back : (n used : ℕ) → UsedIn uses n used → (used ≡ id) ⊎ (test used ≡ true) → test n ≡ true
    back n used (u, among, number, holds) reached =
        let (i, there) = at_from_contains uses u among in
        let within : i < length uses = slice_get_within uses i u there in
        subst (λ (m : ℕ). test m ≡ true) number (h.closed i u (omega arith) there used holds reached)

-- ==== rows

-- ---- the row of one proof

not_both : (n : ℕ) → n ≡ 0 → n ≡ 1 → ⊥
not_both n e f = omega arith

-- an empty set has no number
pub no_bits : (k c : ℕ) → ¬ (has_bit (replicate k 0) c ≡ true)
no_bits k c h =
    let bit = (has_word (replicate k 0) c).0 h in
    let none : get_or (replicate k 0) (c / 64) 0 ≡ 0 = elim (cases_lt (c / 64) k) [
      | inl less ↦ get_or-replicate k (c / 64) 0 0 less
      | inr more ↦ get_or_past (replicate k 0) (c / 64) 0
          (omega (arith, more, length-replicate {A = ℕ} k 0))
    ] in
    let zero : bit_at 0 (c % 64) ≡ 1 = ap (λ (w : ℕ). bit_at w (c % 64)) (sym none) ∙ bit in
    not_both (bit_at 0 (c % 64)) (bit_at-zero (c % 64)) zero

-- the words have the bits of what is reached
abbrev pub IsRowOf : PlainRows → (numbers used words : List ℕ) → Type 0
IsRowOf rows numbers used words = (c : ℕ) → has_bit words c ≡ true ↔ Reaches rows numbers used c

pub row_starts : (rows : PlainRows) (numbers words : List ℕ) (k : ℕ) → words ≡ replicate k 0
    → IsRowOf rows numbers [] words
row_starts rows numbers words k e c = (
  (λ h. absurd (no_bits k c (subst (λ (ws : List ℕ). has_bit ws c ≡ true) e h))),
  λ (n, among, reached). absurd
      (let there = at_from_contains [] n among in let none = there.1 in cc),
)

-- one more number
pub row_more : (rows : PlainRows) (numbers old new : List ℕ) (used : List LabelId) (k : ℕ)
    (n : LabelId) → IsRowOf rows numbers (ids_in (take k used)) old
    → slice_get used k ≡ Some n
    → ((c : ℕ) → has_bit new c ≡ true ↔
    ((has_bit old c ≡ true) ⊎
    ((slice_get numbers c ≡ Some n.0) ⊎ (has_number (row_in rows n.0) c ≡ true))))
    → IsRowOf rows numbers (ids_in (take (k + 1) used)) new
row_more rows numbers old new used k n h at one c = (
  (λ t. elim ((one c).0 t) [
    | inl was ↦ let (m, among, reached) = (h c).0 was in (m, later m (inl among), reached)
    | inr reached ↦ (n.0, later n.0 (inr refl), reached)
  ]),
  λ (m, among, reached). (one c).1 (elim (cases m among) [
    | inl before ↦ inl ((h c).1 (m, before, reached))
    | inr last ↦ inr (subst
        (λ (t : ℕ). (slice_get numbers c ≡ Some t) ⊎ (has_number (row_in rows t) c ≡ true)) last
        reached)
  ]),
)
  where
    cases : (m : ℕ) → Contains (ids_in (take (k + 1) used)) m
        → Contains (ids_in (take k used)) m ⊎ (m ≡ n.0)
    cases m among = holds_cases (ids_in (take k used)) n.0 m
        (subst (λ (ns : List ℕ). Contains ns m) (among_more used k n at) among)

    later : (m : ℕ) → Contains (ids_in (take k used)) m ⊎ (m ≡ n.0)
        → Contains (ids_in (take (k + 1) used)) m
    later m way = subst (λ (ns : List ℕ). Contains ns m) (sym (among_more used k n at)) (elim way [
      | inl before ↦ Contains-append_left (ids_in (take k used)) (n.0 ∷ []) m before
      | inr last ↦ subst (λ (t : ℕ). Contains (ids_in (take k used) ++ n.0 ∷ []) t) (sym last)
          (holds_last (ids_in (take k used)) n.0)
    ])

-- ---- the rows of all proofs

-- the rows of the proofs before an index
pub record AreRows (uses : List ProofUses) (numbers : List ℕ) (k : ℕ)
    (rows : PlainRows) : Type 0 where
  pub narrow : (n c : ℕ) → has_number (row_in rows n) c ≡ true
      → (x : ℕ) × (slice_get numbers c ≡ Some x)
  pub below : (i : ℕ) (u : ProofUses) → k ≤ i → slice_get uses i ≡ Some u
      → length rows.bounds ≤ u.number + 1
  pub settled : (c x : ℕ) → slice_get numbers c ≡ Some x
      → IsSettled uses x k (λ n. has_number (row_in rows n) c)

no_number : (row : List SetWord) (c : ℕ) → row ≡ [] → ¬ (has_number row c ≡ true)
no_number [] c e h = absurd cc
no_number (w ∷ row) c e h = absurd cc

pub rows_narrow : (uses : List ProofUses) (numbers : List ℕ) (k : ℕ) (rows : PlainRows)
    → AreRows uses numbers k rows → AreNarrow rows (length numbers)
rows_narrow uses numbers k rows h n c holds = let (x, at) = h.narrow n c holds in slice_get_within
    numbers c x at

pub rows_more : (uses : List ProofUses) (numbers : List ℕ) (k : ℕ) (rows new : PlainRows)
    (row : List SetWord) (u : ProofUses) → AreBackward uses → AreRows uses numbers k rows
    → slice_get uses k ≡ Some u → IsRowPut rows u.number row new
    → ((c : ℕ) → has_number row c ≡ true ↔ Reaches rows numbers u.used c)
    → AreRows uses numbers (k + 1) new
rows_more uses numbers k rows new row u backward h at put told = record {
  narrow = λ n c holds. elim (cases_eq n u.number) [
    | inl own ↦
        let (m, used, reached) = (told c).0
        (subst (λ (ws : List SetWord). has_number ws c ≡ true)
        (ap (λ (t : ℕ). row_in new t) own ∙ put.own) holds) in
        elim reached [ inl there ↦ (m, there) | inr passes ↦ h.narrow m c passes ]
    | inr other ↦ h.narrow n c
        (subst (λ (ws : List SetWord). has_number ws c ≡ true) (put.others n other) holds)
  ];
  below = λ i v within there.
      let later : u.number < v.number =
      backward.rising k i u.number v.number (omega arith)
      (get_mapped (λ (w : ProofUses). w.number) uses k u at)
      (get_mapped (λ (w : ProofUses). w.number) uses i v there) in
      let few = put.count in
      omega arith;
  settled = λ c x there.
      settled_more uses x k (λ n. has_number (row_in rows n) c) (λ n. has_number (row_in new n) c) u
      backward (h.settled c x there) at
      (λ n other. ap (λ (ws : List SetWord). has_number ws c) (put.others n other)) (
        (λ t. let (m, used, reached) = (told c).0
            (subst (λ (ws : List SetWord). has_number ws c ≡ true) put.own t) in (
              m,
              used,
              elim reached
                  [ inl own ↦ inl (same_Some m x (sym own ∙ there)) | inr passes ↦ inr passes ],
            )),
        λ (m, used, reached). subst (λ (ws : List SetWord). has_number ws c ≡ true) (sym put.own)
            ((told c).1 (
              m,
              used,
              elim reached [
                | inl own ↦ inl (there ∙ ap (λ (t : ℕ). Some t) (sym own))
                | inr passes ↦ inr passes
              ],
            )),
      );
}

-- what is reached by the same numbers
pub reaches_as : (rows : PlainRows) (numbers used others : List ℕ) (c : ℕ)
    → ((n : ℕ) → Contains used n ↔ Contains others n) → Reaches rows numbers used c
    → Reaches rows numbers others c
reaches_as rows numbers used others c same (n, among, reached) = (n, (same n).0 among, reached)

pub rows_ended : (uses : List ProofUses) (numbers : List ℕ) (k : ℕ) (rows : PlainRows)
    → AreRows uses numbers k rows → length uses ≤ k
    → (n c : ℕ) → has_number (row_in rows n) c ≡ true ↔
    ((x : ℕ) × (slice_get numbers c ≡ Some x) × RestsOn (UsedIn uses) n x)
rows_ended uses numbers k rows h all n c = (
  (λ holds. let (x, at) = h.narrow n c holds in (
    x,
    at,
    (settled_all uses x k (λ m. has_number (row_in rows m) c) (h.settled c x at) all n).0
        holds,
  )),
  λ (x, at, rests).
      (settled_all uses x k (λ m. has_number (row_in rows m) c) (h.settled c x at) all n).1 rests,
)
