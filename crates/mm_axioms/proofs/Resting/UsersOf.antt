-- Who uses an assertion: proof after proof in their order, those that use it are taken; and who
-- rests on it: they are marked as the proofs are passed.
use Rattle.std.proofs.Common.{◌≡◌, ℕ, suc, ◌+◌, ◌<◌, ◌≤◌, List, [], ◌∷◌, ◌++◌, take, length}
use Rattle.std.proofs.Common.{add-one, get_or, set, replicate, slice_get, Contains, Bool, true, false}
use Rattle.std.proofs.Common.{Some, ◌⊎◌, inl, inr, refl, sym, ap, subst, ◌∙◌, arith, not, nat_eq}
use Rattle.std.proofs.Common.{◌&&◌, eq-eqb}
use Rattle.std.specs.List.{AllByRecursion}
use Rattle.std.proofs.lemmas.List.{get_or-set_other, get_or-replicate, length-replicate, length-set}
use Rattle.std.proofs.lemmas.List.{map-append, take_all}
use Rattle.std.proofs.lemmas.List.Elements.{Contains-append_left}
use Rattle.std.proofs.lemmas.Option.{slice_get_within}
use Rattle.std.proofs.lemmas.Bool.{cases_eq, cases_lt, eqb-true, not-true}
use Rattle.std.proofs.lemmas.Bool.{and_parts}
use Rattle.mm_frame.specs.declared.number.LabelId.{LabelId}
use Rattle.mm_frame.specs.Rules.{AllMeant}
use Rattle.mm_frame.specs.Sentence.{IsAssertion}
use Rattle.mm_frame.proofs.Names.NameNumbers.{get_mapped}
use Rattle.mm_frame.proofs.Names.LabelNumbers.{numbered_within}
use Rattle.mm_base.specs.Statement.{PlainStatement}
use Rattle.mm_base.proofs.Lists.{take_next, get_from_take, at_from_contains, contains_from_at}
use Rattle.mm_base.proofs.Lists.{all_within}
use Rattle.mm_step.specs.Plain.{ids_in}
use Rattle.mm_rules.specs.Conclusion.{ProofUses, Conclusion, numbers_of, labels_in}
use Rattle.mm_rules.specs.Answer.{IsKeptOf}
use Rattle.mm_rules.specs.Rests.{AreRising, AreInOrder, RestsOn, Uses, IsNamed}
use Rattle.mm_axioms.specs.Users.{AreUsers, UsesIt, ReportsTellUsers}
use Rattle.mm_rules.specs.Verdict.{sentences}
use Rattle.mm_rules.specs.Mirror.Marks.{IsMarked, UsedIn, AreBackward}
use Rattle.mm_rules.proofs.Numbers.{holds_last, holds_cases, in_order_same, count_labelled}
use Rattle.mm_axioms.proofs.Resting.RestsOn.{marked_set, marked_within}
use Rattle.mm_rules.proofs.OrderedNumbers.{taken, among_more}
use Rattle.mm_verdict.proofs.Questions.AskedTheorems.{used_is, rests_as}
use Rattle.mm_frame.specs.Sentence.{Sentence}

-- ==== the users of an assertion

-- ---- proofs up to an index

-- one more proof
more_proofs : (uses : List ProofUses) (k : ℕ) (u : ProofUses) → slice_get uses k ≡ Some u → take (k + 1) uses ≡ take k uses ++ u ∷ []
more_proofs uses k u at = ap (λ (n : ℕ). take n uses) (add-one k) ∙ take_next uses k u at

used_before : (uses : List ProofUses) (k : ℕ) (u : ProofUses) (n id : ℕ) → AreRising (numbers_of uses) → slice_get uses k ≡ Some u → UsedIn (take k uses) n id → n < u.number
used_before uses k u n id rising at (v, among, number, holds) =
    let (i, there) = at_from_contains (take k uses) v among in
    let (less, here) = get_from_take uses k i v there in
    subst (λ (m : ℕ). m < u.number) number
    (rising i k v.number u.number less (get_mapped (λ (w : ProofUses). w.number) uses i v here) (get_mapped (λ (w : ProofUses). w.number) uses k u at))

used_still : (before : List ProofUses) (u : ProofUses) (n id : ℕ) → UsedIn before n id → UsedIn (before ++ u ∷ []) n id
used_still before u n id (v, among, number, holds) = (v, Contains-append_left before (u ∷ []) v among, number, holds)

used_cases : (before : List ProofUses) (u : ProofUses) (n id : ℕ) → UsedIn (before ++ u ∷ []) n id → UsedIn before n id ⊎ ((n ≡ u.number) × Contains u.used id)
used_cases before u n id (v, among, number, holds) = elim (holds_cases before u v among) [
  | inl first ↦ inl (v, first, number, holds)
  | inr last ↦ inr (sym number ∙ ap (λ (w : ProofUses). w.number) last, subst (λ (w : ProofUses). Contains w.used id) last holds)
]

-- its theorem is a user
pub user_taken : (uses : List ProofUses) (id k : ℕ) (u : ProofUses) (ids new : List LabelId) (x : LabelId) → AreRising (numbers_of uses) → slice_get uses k ≡ Some u
    → AreInOrder (λ n. UsedIn (take k uses) n id) (ids_in ids) → x.0 ≡ u.number → Contains u.used id → new ≡ ids ++ x ∷ []
    → AreInOrder (λ n. UsedIn (take (k + 1) uses) n id) (ids_in new)
user_taken uses id k u ids new x rising at order is holds e =
    rw (more_proofs uses k u at, e, map-append (λ (l : LabelId). l.0) ids (x ∷ []))
    (taken (λ n. UsedIn (take k uses) n id) (λ n. UsedIn (take k uses ++ u ∷ []) n id) (ids_in ids) x.0 order
    (λ n h. rw is (used_before uses k u n id rising at h))
    (u, holds_last (take k uses) u, sym is, holds)
    (λ n h. used_still (take k uses) u n id h)
    (λ n h. elim (used_cases (take k uses) u n id h) [ inl before ↦ inl before | inr last ↦ inr (last.0 ∙ sym is) ]))

-- or it is passed over
pub user_passed : (uses : List ProofUses) (id k : ℕ) (u : ProofUses) (ids : List LabelId) → slice_get uses k ≡ Some u
    → AreInOrder (λ n. UsedIn (take k uses) n id) (ids_in ids) → ¬ (Contains u.used id)
    → AreInOrder (λ n. UsedIn (take (k + 1) uses) n id) (ids_in ids)
user_passed uses id k u ids at order none =
    rw (more_proofs uses k u at)
    (in_order_same (λ n. UsedIn (take k uses) n id) (λ n. UsedIn (take k uses ++ u ∷ []) n id) (ids_in ids) order
    (λ n. (
      used_still (take k uses) u n id,
      λ h. elim (used_cases (take k uses) u n id h) [ inl before ↦ before | inr last ↦ absurd (none last.1) ],
    )))

pub users_ended : (uses : List ProofUses) (id k : ℕ) (ids : List ℕ) → length uses ≤ k → AreInOrder (λ n. UsedIn (take k uses) n id) ids
    → AreInOrder (λ n. UsedIn uses n id) ids
users_ended uses id k ids all order = subst (λ (us : List ProofUses). AreInOrder (λ n. UsedIn us n id) ids) (take_all k uses all) order

-- the number of each proof is below the end
pub below_end : (uses : List ProofUses) (last : ℕ) (w : ProofUses) → AreRising (numbers_of uses) → length uses ≡ suc last → slice_get uses last ≡ Some w
    → (u : ProofUses) → Contains uses u → u.number < w.number + 1
below_end uses last w rising long at u among =
    let (i, there) = at_from_contains uses u among in
    let within : i < length uses = slice_get_within uses i u there in
    elim (cases_eq i last) [
      | inl same ↦ let one : u ≡ w = cc (same, there, at) in let number = ap (λ (v : ProofUses). v.number) one in omega arith
      | inr other ↦
          let less : u.number < w.number =
          rising i last u.number w.number (omega arith) (get_mapped (λ (v : ProofUses). v.number) uses i u there) (get_mapped (λ (v : ProofUses). v.number) uses last w at) in
          omega arith
    ]

-- ==== all users of an assertion

-- one more number isn't reached
pub none_next : (marks : List Bool) (id : ℕ) (xs : List LabelId) (k : ℕ) (x : LabelId)
    → ((n : ℕ) → Contains (ids_in (take k xs)) n → ¬ ((n ≡ id) ⊎ IsMarked marks n)) → slice_get xs k ≡ Some x → ¬ ((x.0 ≡ id) ⊎ IsMarked marks x.0)
    → (n : ℕ) → Contains (ids_in (take (k + 1) xs)) n → ¬ ((n ≡ id) ⊎ IsMarked marks n)
none_next marks id xs k x none at other n among reached =
    elim (holds_cases (ids_in (take k xs)) x.0 n (subst (λ (ns : List ℕ). Contains ns n) (among_more xs k x at) among)) [
      | inl before ↦ none n before reached
      | inr last ↦ other (subst (λ (m : ℕ). (m ≡ id) ⊎ IsMarked marks m) last reached)
    ]

-- The proofs before an index were passed: what is marked rests on the assertion, the marks are closed
-- over these proofs, and the theorems after them are not marked; the marked ones are listed.
pub record IsPassed (uses : List ProofUses) (id k : ℕ) (marks : List Bool) (ids : List ℕ) : Type 0 where
  pub room : (u : ProofUses) → Contains uses u → u.number < length marks
  pub sound : (n : ℕ) → IsMarked marks n → RestsOn (UsedIn uses) n id
  pub closed : (i : ℕ) (u : ProofUses) → i < k → slice_get uses i ≡ Some u → (n : ℕ) → Contains u.used n
      → (n ≡ id) ⊎ IsMarked marks n → IsMarked marks u.number
  pub before : (n : ℕ) → IsMarked marks n → (i : ℕ) (u : ProofUses) → k ≤ i → slice_get uses i ≡ Some u → n < u.number
  pub order : AreInOrder (IsMarked marks) ids

none_marked : (count n : ℕ) → ¬ (IsMarked (replicate count false) n)
none_marked count n h =
    let less = marked_within (replicate count false) n h in
    let here : n < count = omega (arith, less, length-replicate count false) in
    let e = get_or-replicate count n false false here in cc

pub passing_starts : (uses : List ProofUses) (id count : ℕ) (marks : List Bool) → ((u : ProofUses) → Contains uses u → u.number < count) → marks ≡ replicate count false
    → IsPassed uses id 0 marks []
passing_starts uses id count marks below e = subst (λ (ms : List Bool). IsPassed uses id 0 ms []) (sym e) (record {
  room = λ u among. let less = below u among in omega (arith, less, length-replicate count false);
  sound = λ n h. absurd (none_marked count n h);
  closed = λ i u less there n used reached. absurd (omega arith);
  before = λ n h i u within there. absurd (none_marked count n h);
  order = record {
    rising = λ i j a b less p q. absurd cc;
    each = λ n. ((λ h. absurd (let at = at_from_contains [] n h in let there = at.1 in cc)), λ h. absurd (none_marked count n h));
  };
})

-- the next proof uses nothing that is reached
pub passing_passes : (uses : List ProofUses) (id k : ℕ) (marks : List Bool) (ids : List ℕ) (u : ProofUses) → IsPassed uses id k marks ids → slice_get uses k ≡ Some u
    → ((n : ℕ) → Contains u.used n → ¬ ((n ≡ id) ⊎ IsMarked marks n)) → IsPassed uses id (k + 1) marks ids
passing_passes uses id k marks ids u h at none = record {
  room = h.room;
  sound = h.sound;
  closed = λ i v less there n used reached. elim (cases_eq i k) [
    | inl same ↦
        let one : v ≡ u = cc (same, there, at) in
        absurd (none n (subst (λ (w : ProofUses). Contains w.used n) one used) reached)
    | inr apart ↦ h.closed i v (omega arith) there n used reached
  ];
  before = λ n marked i v within there. h.before n marked i v (omega arith) there;
  order = h.order;
}

-- what a proof uses rests on the assertion, or is it: so its theorem rests on it
pub rests_by : (R : ℕ → ℕ → Type 0) (theorem used id : ℕ) → R theorem used → (used ≡ id) ⊎ RestsOn R used id → RestsOn R theorem id
rests_by R theorem used id holds (inl same) set closed = subst (λ (n : ℕ). set n ≡ true) same (closed.own used holds)
rests_by R theorem used id holds (inr rests) set closed =
    rests set (record { own = λ n h. closed.others used n (closed.own used holds) h; others = closed.others })

-- the next proof uses something that is reached
pub passing_marks : (uses : List ProofUses) (id k : ℕ) (marks : List Bool) (ids : List ℕ) (u : ProofUses) → AreBackward uses → IsPassed uses id k marks ids → slice_get uses k ≡ Some u
    → (n : ℕ) → Contains u.used n → (n ≡ id) ⊎ IsMarked marks n → IsPassed uses id (k + 1) (set marks u.number true) (ids ++ u.number ∷ [])
passing_marks uses id k marks ids u backward h at m used reached =
    let among : Contains uses u = contains_from_at uses u (k, at) in
    let x : ℕ = u.number in
    let less : x < length marks = h.room u among in
    let cases : (n : ℕ) → IsMarked (set marks x true) n → IsMarked marks n ⊎ (n ≡ x) =
    λ n marked. elim (cases_eq n x) [
      | inl same ↦ inr same
      | inr other ↦ inl (sym (get_or-set_other marks x n true false other) ∙ marked)
    ] in
    let later : (i : ℕ) (v : ProofUses) → k < i → slice_get uses i ≡ Some v → x < v.number =
    λ i v after there.
    backward.rising k i x v.number after (get_mapped (λ (w : ProofUses). w.number) uses k u at) (get_mapped (λ (w : ProofUses). w.number) uses i v there) in
    record {
      room = λ v those. let within : v.number < length marks = h.room v those in omega (arith, within, length-set marks x true);
      sound = λ n marked. elim (cases n marked) [
        | inl old ↦ h.sound n old
        | inr same ↦ subst (λ (t : ℕ). RestsOn (UsedIn uses) t id) (sym same) (rests_by (UsedIn uses) x m id (u, among, refl, used)
            (elim reached [ inl own ↦ inl own | inr marked ↦ inr (h.sound m marked) ]))
      ];
      closed = λ i v within there n holds again. elim (cases_eq i k) [
        | inl same ↦
            let one : v ≡ u = cc (same, there, at) in
            marked_set marks x v.number less (inr (ap (λ (w : ProofUses). w.number) one))
        | inr apart ↦
            let earlier : v.number < x =
            backward.rising i k v.number x (omega arith) (get_mapped (λ (w : ProofUses). w.number) uses i v there) (get_mapped (λ (w : ProofUses). w.number) uses k u at) in
            let below : n < v.number = backward.below v n (contains_from_at uses v (i, there)) holds in
            let old : (n ≡ id) ⊎ IsMarked marks n = elim again [
              | inl own ↦ inl own
              | inr marked ↦ elim (cases n marked) [ inl was ↦ inr was | inr same ↦ absurd (omega arith) ]
            ] in
            marked_set marks x v.number less (inl (h.closed i v (omega arith) there n holds old))
      ];
      before = λ n marked i v within there. elim (cases n marked) [
        | inl old ↦ h.before n old i v (omega arith) there
        | inr same ↦ let more : x < v.number = later i v (omega arith) there in omega arith
      ];
      order = taken (IsMarked marks) (IsMarked (set marks x true)) ids x h.order
          (λ n marked. h.before n marked k u (omega arith) at)
          (marked_set marks x x less (inr refl))
          (λ n marked. marked_set marks x n less (inl marked))
          cases;
    }

-- neither the assertion nor marked
abbrev unreached : List Bool → ℕ → ℕ → Bool
unreached marks id n = not (nat_eq n id) && not (get_or marks n false)

is_unreached : (marks : List Bool) (id n : ℕ) → ¬ ((n ≡ id) ⊎ IsMarked marks n) → unreached marks id n ≡ true
is_unreached marks id n h = go (nat_eq n id) refl (get_or marks n false) refl
  where
    go : (a : Bool) → nat_eq n id ≡ a → (b : Bool) → get_or marks n false ≡ b → (not a && not b) ≡ true
    go true e b f = absurd (h (inl (eqb-true n id e)))
    go false e true f = absurd (h (inr f))
    go false e false f = refl

not_reached : (marks : List Bool) (id n : ℕ) → unreached marks id n ≡ true → ¬ ((n ≡ id) ⊎ IsMarked marks n)
not_reached marks id n t (inl same) =
    let e = eq-eqb n id same in
    let f = not-true (nat_eq n id) (and_parts (not (nat_eq n id)) (not (get_or marks n false)) t).0 in cc
not_reached marks id n t (inr marked) =
    let f = not-true (get_or marks n false) (and_parts (not (nat_eq n id)) (not (get_or marks n false)) t).1 in cc

pub true_or_not : (b : Bool) → (b ≡ true) ⊎ ¬ (b ≡ true)
true_or_not true = inl refl
true_or_not false = inr (λ e. cc)

-- all proofs were passed: the marked theorems are those that rest on the assertion
pub passing_ends : (uses : List ProofUses) (id k : ℕ) (marks : List Bool) (ids : List ℕ) → IsPassed uses id k marks ids → length uses ≤ k
    → AreInOrder (λ n. RestsOn (UsedIn uses) n id) ids
passing_ends uses id k marks ids h all =
    in_order_same (IsMarked marks) (λ n. RestsOn (UsedIn uses) n id) ids h.order (λ n. (
      h.sound n,
      λ rests. elim (true_or_not (get_or marks n false)) [
        | inl marked ↦ marked
        | inr other ↦ absurd (not_reached marks id id (rests (unreached marks id) (record {
          own = λ used holds. is_unreached marks id used (λ reached. other (back n used holds reached));
          others = λ m used free holds. is_unreached marks id used (λ reached. not_reached marks id m free (inr (back m used holds reached)));
        })) (inl refl))
      ],
    ))
  where
    back : (n used : ℕ) → UsedIn uses n used → (used ≡ id) ⊎ IsMarked marks used → IsMarked marks n
    back n used (u, among, number, holds) reached =
        let (i, there) = at_from_contains uses u among in
        let within : i < length uses = slice_get_within uses i u there in
        subst (λ (m : ℕ). IsMarked marks m) number (h.closed i u (omega arith) there used holds reached)

-- ==== the answers

-- ---- in the words of the statements

pub users_of : (statements : List PlainStatement) (c : Conclusion) (label : List ℕ) (id : ℕ) (users : List ℕ)
    → IsKeptOf statements c → AllMeant c.sentences → IsNamed statements label (λ s. IsAssertion s.kind) id
    → AreInOrder (λ n. UsedIn c.uses n id) users → AreUsers false statements label users
users_of statements c label id users kept all named order = record {
  id = id;
  assertion = named;
  are_users = in_order_same _ _ users order (λ n. used_is statements c.uses (subst AllMeant kept.sentences all) kept.uses n id);
}

pub all_users_of : (statements : List PlainStatement) (c : Conclusion) (label : List ℕ) (id : ℕ) (users : List ℕ)
    → IsKeptOf statements c → AllMeant c.sentences → IsNamed statements label (λ s. IsAssertion s.kind) id
    → AreInOrder (λ n. RestsOn (UsedIn c.uses) n id) users → AreUsers true statements label users
all_users_of statements c label id users kept all named order =
    let same = used_is statements c.uses (subst AllMeant kept.sentences all) kept.uses in
    record {
      id = id;
      assertion = named;
      are_users = in_order_same _ _ users order (λ n. (
        rests_as (UsedIn c.uses) (Uses statements) (λ x y. (same x y).0) n id,
        rests_as (Uses statements) (UsedIn c.uses) (λ x y. (same x y).1) n id,
      ));
    }

-- ---- each is the number of a label

use_within : (statements : List PlainStatement) (n used : ℕ) → Uses statements n used → n < length (labels_in (sentences statements))
use_within statements n used (index, t, has, stands) =
    subst (λ (k : ℕ). n < k) (count_labelled (λ (s : Sentence). s.label) (sentences statements))
    (numbered_within (sentences statements) n index _ has.at.numbered)

-- what rests on something uses something
rests_within : (R : ℕ → ℕ → Type 0) (n id count : ℕ) → ((used : ℕ) → R n used → n < count) → RestsOn R n id → n < count
rests_within R n id count below rests = elim (cases_lt n count) [
  | inl less ↦ less
  | inr more ↦ absurd (let t = rests (λ m. false) (record {
    own = λ used holds. absurd (let less : n < count = below used holds in omega arith);
    others = λ m used free holds. free;
  }) in cc)
]

pub user_within : (all : Bool) (statements : List PlainStatement) (n id : ℕ) → UsesIt all statements n id → n < length (labels_in (sentences statements))
user_within false statements n id holds = use_within statements n id holds
user_within true statements n id rests = rests_within (Uses statements) n id _ (use_within statements n) rests

pub users_within : (all : Bool) (statements : List PlainStatement) (label : List ℕ) (users : List ℕ) (labels : List (List ℕ)) → AreUsers all statements label users
    → labels_in (sentences statements) ≡ labels → AllByRecursion (λ n. n < length labels) users
users_within all statements label users labels of same =
    subst (λ (ls : List (List ℕ)). AllByRecursion (λ n. n < length ls) users) same
    (all_within (λ n. n < length (labels_in (sentences statements))) users (λ n h. user_within all statements n of.id ((of.are_users.each n).0 h)))

-- ==== the law

pub reports_tell_users : ReportsTellUsers
reports_tell_users statements label other axioms unproved users report of = (
  λ is. (
    (λ h. (of.are_users.each report.id).1 ((report.are_axioms.each of.id).0 h).1),
    λ h. (report.are_axioms.each of.id).1 (is, (of.are_users.each report.id).0 h),
  ),
  λ is. (
    (λ h. (of.are_users.each report.id).1 ((report.are_unproved.each of.id).0 h).1),
    λ h. (report.are_unproved.each of.id).1 (is, (of.are_users.each report.id).0 h),
  ),
)
