-- Chains of uses: the sizes of the shortest ones to an assertion, proof after proof in the order of
-- the database; and the first of the shortest, walked from its beginning on.
use Rattle.std.proofs.Common.{◌≡◌, ◌≢◌, ℕ, ◌+◌, ◌<◌, ◌≤◌, List, [], ◌∷◌, ◌++◌, length}
use Rattle.std.proofs.Common.{set, replicate, slice_get, Contains, true, Some, ◌⊎◌}
use Rattle.std.proofs.Common.{inl, inr, refl, sym, ap, subst, ◌∙◌, arith, nat_eq, eq-eqb}
use Rattle.std.proofs.Common.{append_assoc, append-nil}
use Rattle.std.specs.List.{AllByRecursion}
use Rattle.std.proofs.lemmas.List.{get_or-set_same, get_or-set_other, get_or-replicate}
use Rattle.std.proofs.lemmas.List.{length-replicate, length-set, get_or_past}
use Rattle.std.proofs.lemmas.Option.{slice_get_within}
use Rattle.std.proofs.lemmas.Bool.{cases_eq, cases_lt, eqb-true}
use Rattle.std.proofs.Common.{Option, None, IfSome}
use Rattle.std.proofs.lemmas.List.Elements.{Contains-append_left}
use Rattle.std.proofs.lemmas.Option.{same_Some}
use Rattle.mm_base.specs.Statement.{PlainStatement}
use Rattle.mm_base.proofs.Lists.{at_from_contains, contains_from_at}
use Rattle.mm_frame.specs.declared.number.LabelId.{LabelId}
use Rattle.mm_frame.specs.Rules.{AllMeant}
use Rattle.mm_frame.proofs.Names.NameNumbers.{get_mapped}
use Rattle.mm_rules.specs.Answer.{IsKeptOf}
use Rattle.mm_rules.specs.Conclusion.{ProofUses, Conclusion}
use Rattle.mm_rules.specs.Rests.{RestsOn, Uses}
use Rattle.mm_rules.specs.Mirror.Marks.{UsedIn, AreBackward}
use Rattle.mm_rules.proofs.Numbers.{holds_last, holds_cases}
use Rattle.mm_verdict.proofs.Questions.AskedTheorems.{used_is, rests_as}
use Rattle.mm_axioms.specs.Chains.{Leads, IsNotAfter, IsFirstChain, AreEnds, IsChain, IsChainFault}
use Rattle.mm_axioms.specs.declared.chains.ChainFault.TheVariants.{Independent}
use Rattle.mm_axioms.specs.Mirror.Chains.{size_at, IsSizeOver, AreSizes}

-- ==== sizes, proof after proof

-- sizes elsewhere change nothing
over_kept : (sizes used : List ℕ) (x size s : ℕ) → ((n : ℕ) → Contains used n → n ≢ x)
    → IsSizeOver sizes used s → IsSizeOver (set sizes x size) used s
over_kept sizes used x size s apart h = record {
  least = λ n among some.
      let same : size_at (set sizes x size) n ≡ size_at sizes n = get_or-set_other sizes x n size 0
      (apart n among) in
      let less = h.least n among (subst (λ (k : ℕ). 0 < k) same some) in
      (less.0, subst (λ (k : ℕ). s ≤ k + 1) (sym same) less.1);
  found = λ some.
      let (n, among, has, is) = h.found some in
      let same : size_at (set sizes x size) n ≡ size_at sizes n = get_or-set_other sizes x n size 0
      (apart n among) in
      (n, among, subst (λ (k : ℕ). 0 < k) (sym same) has, is ∙ ap (λ (k : ℕ). k + 1) (sym same));
}

-- a list with the same numbers is as good
pub over_as : (sizes ns ms : List ℕ) (s : ℕ)
    → ((n : ℕ) → (Contains ns n → Contains ms n) × (Contains ms n → Contains ns n))
    → IsSizeOver sizes ns s
    → IsSizeOver sizes ms s
over_as sizes ns ms s same h = record {
  least = λ n among some. h.least n ((same n).1 among) some;
  found = λ some. let (n, among, has, is) = h.found some in (n, (same n).0 among, has, is);
}

-- The proofs before an index were passed: their sizes are known, and no number but the end and
-- those
-- of these proofs has one.
pub record IsSizing (uses : List ProofUses) (to k : ℕ) (sizes : List ℕ) : Type 0 where
  pub room : (u : ProofUses) → Contains uses u → u.number < length sizes
  pub small : (n : ℕ) → size_at sizes n ≤ n + 1
  pub end : size_at sizes to ≡ 1
  pub over : (i : ℕ) (u : ProofUses) → i < k → slice_get uses i ≡ Some u → u.number ≢ to
      → IsSizeOver sizes u.used (size_at sizes u.number)
  pub only : (n : ℕ) → n ≢ to → 0 < size_at sizes n
      → (i : ℕ) × (u : ProofUses) × (i < k) × (slice_get uses i ≡ Some u) × (u.number ≡ n)

no_size : (count n : ℕ) → size_at (replicate count 0) n ≡ 0
no_size count n = elim (cases_lt n count) [
  | inl less ↦ get_or-replicate count n 0 0 less
  | inr more ↦ get_or_past (replicate count 0) n 0 (omega (arith, length-replicate {A = ℕ} count 0))
]

pub sizing_starts : (uses : List ProofUses) (to count : ℕ) (zeros sizes : List ℕ)
    → ((u : ProofUses) → Contains uses u → u.number < count) → to < count
    → zeros ≡ replicate count 0 → sizes ≡ set zeros to 1 → IsSizing uses to 0 sizes
sizing_starts uses to count zeros sizes below within z e = subst
    (λ (ss : List ℕ). IsSizing uses to 0 ss) (sym (e ∙ ap (λ (zs : List ℕ). set zs to 1) z))
    (record {
      room = λ u among.
          let less = below u among in
          omega (
            arith,
            less,
            length-replicate {A = ℕ} count 0,
            length-set {A = ℕ} (replicate count 0) to 1,
          );
      small = λ n. elim (cases_eq n to) [
        | inl same ↦ rw same (let one = at_end in omega arith)
        | inr other ↦ let none = elsewhere n other in omega arith
      ];
      end = at_end;
      over = λ i u less there apart. absurd (omega arith);
      only = λ n other some. absurd (let none = elsewhere n other in omega arith);
    })
  where
    at_end : size_at (set (replicate count 0) to 1) to ≡ 1
    at_end = get_or-set_same (replicate count 0) to 1 0
        (omega (arith, length-replicate {A = ℕ} count 0))

    elsewhere : (n : ℕ) → n ≢ to → size_at (set (replicate count 0) to 1) n ≡ 0
    elsewhere n other = get_or-set_other (replicate count 0) to n 1 0 other ∙ no_size count n

-- the next proof is that of the end
pub sizing_passes : (uses : List ProofUses) (to k : ℕ) (sizes : List ℕ) (u : ProofUses)
    → IsSizing uses to k sizes → slice_get uses k ≡ Some u → u.number ≡ to
    → IsSizing uses to (k + 1) sizes
sizing_passes uses to k sizes u h at is = record {
  room = h.room;
  small = h.small;
  end = h.end;
  over = λ i v less there apart. elim (cases_eq i k) [
    | inl same ↦ absurd (let one : v ≡ u = cc (same, there, at) in apart
        (ap (λ (w : ProofUses). w.number) one ∙ is))
    | inr other ↦ h.over i v (omega arith) there apart
  ];
  only = λ n apart some. let (i, v, less, there, number) = h.only n apart some in
      (i, v, omega arith, there, number);
}

-- or of another
pub sizing_sets : (uses : List ProofUses) (to k : ℕ) (sizes : List ℕ) (u : ProofUses) (size : ℕ)
    → AreBackward uses → IsSizing uses to k sizes → slice_get uses k ≡ Some u
    → u.number ≢ to → IsSizeOver sizes u.used size
    → IsSizing uses to (k + 1) (set sizes u.number size)
sizing_sets uses to k sizes u size backward h at apart new =
    let among : Contains uses u = contains_from_at uses u (k, at) in
    let x : ℕ = u.number in
    let less : x < length sizes = h.room u among in
    let here : size_at (set sizes x size) x ≡ size = get_or-set_same sizes x size 0 less in
    let elsewhere : (n : ℕ) → n ≢ x
    → size_at (set sizes x size) n ≡ size_at sizes n =
    λ n other. get_or-set_other sizes x n size 0 other in
    let fits : size ≤ x + 1 = elim (cases_lt 0 size) [
      | inl some ↦
          let (n, used, has, is) = new.found some in
          let before : n < x = backward.below u n among used in
          let bound : size_at sizes n ≤ n + 1 = h.small n in omega arith
      | inr none ↦ omega arith
    ] in
    record {
      room = λ v those. let within : v.number < length sizes = h.room v those in omega
          (arith, within, length-set sizes x size);
      small = λ n. elim (cases_eq n x) [
        | inl same ↦ rw same (rw here fits)
        | inr other ↦ rw (elsewhere n other) (h.small n)
      ];
      end = elsewhere to (λ e. apart (sym e)) ∙ h.end;
      over = λ i v within there other. elim (cases_eq i k) [
        | inl same ↦
            let one : u ≡ v = cc (same, there, at) in
            subst (λ (w : ProofUses). IsSizeOver (set sizes x size) w.used
            (size_at (set sizes x size) w.number)) one
            (subst (λ (s : ℕ). IsSizeOver (set sizes x size) u.used s) (sym here)
            (over_kept sizes u.used x size size
            (λ n used. let before : n < x = backward.below u n among used in omega arith) new))
        | inr different ↦
            let earlier : v.number < x =
            backward.rising i k v.number x (omega arith)
            (get_mapped (λ (w : ProofUses). w.number) uses i v there)
            (get_mapped (λ (w : ProofUses). w.number) uses k u at) in
            let unlike : v.number ≢ x = omega arith in
            subst (λ (s : ℕ). IsSizeOver (set sizes x size) v.used s)
            (sym (elsewhere v.number unlike))
            (over_kept sizes v.used x size (size_at sizes v.number)
            (λ n used. let before : n < v.number = backward.below v n
            (contains_from_at uses v (i, there)) used in omega arith)
            (h.over i v (omega arith) there other))
      ];
      only = λ n other some. elim (cases_eq n x) [
        | inl same ↦ (k, u, omega arith, at, sym same)
        | inr unlike ↦
            let (i, v, within, there, number) = h.only n other
            (subst (λ (s : ℕ). 0 < s) (elsewhere n unlike) some) in
            (i, v, omega arith, there, number)
      ];
    }

-- all proofs were passed
pub sizing_ends : (uses : List ProofUses) (to k : ℕ) (sizes : List ℕ) → IsSizing uses to k sizes
    → length uses ≤ k → AreSizes uses to sizes
sizing_ends uses to k sizes h all = record {
  end = h.end;
  over = λ u among apart.
      let (i, there) = at_from_contains uses u among in
      let within : i < length uses = slice_get_within uses i u there in
      h.over i u (omega arith) there apart;
  only = λ n apart some. let (i, u, less, there, number) = h.only n apart some in
      (u, contains_from_at uses u (i, there), number);
}

-- ==== sizes are those of shortest chains

-- what uses a number with a size has one, which is greater by one at most
step_over : (uses : List ProofUses) (to : ℕ) (sizes : List ℕ) (n used : ℕ) → AreSizes uses to sizes
    → UsedIn uses n used → 0 < size_at sizes used
    → (0 < size_at sizes n) × (size_at sizes n ≤ size_at sizes used + 1)
step_over uses to sizes n used h (u, among, number, holds) some = elim (cases_eq n to) [
  | inl same ↦
      let one : size_at sizes n ≡ 1 = ap (size_at sizes) same ∙ h.end in (omega arith, omega arith)
  | inr other ↦
      let less = (h.over u among (λ e. other (sym number ∙ e))).least used holds some in (
        subst (λ (k : ℕ). 0 < size_at sizes k) number less.0,
        subst (λ (k : ℕ). size_at sizes k ≤ size_at sizes used + 1) number less.1,
      )
]

-- a chain has no fewer labels than the size says
chain_bound : (uses : List ProofUses) (to : ℕ) (sizes : List ℕ) (ys : List ℕ) (n : ℕ)
    → AreSizes uses to sizes → Leads (UsedIn uses) n to ys
    → (0 < size_at sizes n) × (size_at sizes n ≤ length ys + 1)
chain_bound uses to sizes [] n h leads =
    let one : size_at sizes n ≡ 1 = ap (size_at sizes) leads ∙ h.end in (omega arith, omega arith)
chain_bound uses to sizes (y ∷ ys) n h (used, leads) =
    let (some, few) = chain_bound uses to sizes ys y h leads in
    let (more, over) = step_over uses to sizes n y h used some in
    (more, omega (arith, some, few, more, over))

-- no size: the number is another than the end, and doesn't rest on it
pub no_chain : (uses : List ProofUses) (to from : ℕ) (sizes : List ℕ) → AreSizes uses to sizes
    → size_at sizes from ≡ 0
    → (from ≢ to) × ¬ (RestsOn (UsedIn uses) from to)
no_chain uses to from sizes h none = (
  (λ same. let one : size_at sizes from ≡ 1 = ap (size_at sizes) same ∙ h.end in absurd cc),
  λ rests.
      let zero_at = rests (λ m. nat_eq (size_at sizes m) 0) (record {
        own = λ used holds. free from used none holds;
        others = λ m used told holds. free m used (eqb-true (size_at sizes m) 0 told) holds;
      }) in
      let e : size_at sizes to ≡ 0 = eqb-true (size_at sizes to) 0 zero_at in
      let one : size_at sizes to ≡ 1 = h.end in absurd cc,
)
  where
    free : (n used : ℕ) → size_at sizes n ≡ 0 → UsedIn uses n used
        → nat_eq (size_at sizes used) 0 ≡ true
    free n used e holds = elim (cases_lt 0 (size_at sizes used)) [
      | inl some ↦ absurd (let more =
          (step_over uses to sizes n used h holds some).0 in omega arith)
      | inr none' ↦ eq-eqb (size_at sizes used) 0 (omega arith)
    ]

-- ==== the walk

-- a chain of just so many labels, before which none of as many comes
pub record IsTraced (uses : List ProofUses) (to : ℕ) (sizes : List ℕ) (from : ℕ)
    (others : List ℕ) : Type 0 where
  pub leads : Leads (UsedIn uses) from to others
  pub long : size_at sizes from ≡ length others + 1
  pub first : (ys : List ℕ) → Leads (UsedIn uses) from to ys → length ys ≡ length others
      → IsNotAfter others ys

traced_end : (uses : List ProofUses) (to : ℕ) (sizes : List ℕ) → AreSizes uses to sizes
    → IsTraced uses to sizes to []
traced_end uses to sizes h = record {
  leads = refl;
  long = h.end ∙ refl;
  first = λ ys leads same. tt;
}

-- behind a number comes the first of those that it uses whose size is one less
traced_on : (uses : List ProofUses) (to : ℕ) (sizes : List ℕ) (from next : ℕ) (others : List ℕ)
    → AreSizes uses to sizes → UsedIn uses from next
    → size_at sizes from ≡ size_at sizes next + 1
    → ((n : ℕ) → UsedIn uses from n → size_at sizes n ≡ size_at sizes next → next ≤ n)
    → IsTraced uses to sizes next others → IsTraced uses to sizes from (next ∷ others)
traced_on uses to sizes from next others h used size least t = record {
  leads = (used, t.leads);
  long = let long = t.long in omega (arith, long, size);
  first = comes_first;
}
  where
    comes_first : (ys : List ℕ) → Leads (UsedIn uses) from to ys
        → length ys ≡ length (next ∷ others) → IsNotAfter (next ∷ others) ys
    comes_first [] leads same = absurd cc
    comes_first (y ∷ ys) (holds, leads) same =
        let long : size_at sizes next ≡ length others + 1 = t.long in
        let as_many : length ys ≡ length others = omega arith in
        let (some, few) = chain_bound uses to sizes ys y h leads in
        let over = (step_over uses to sizes from y h holds some).1 in
        let equal : size_at sizes y ≡ size_at sizes next = omega
        (arith, few, over, long, as_many, size) in
        let before : next ≤ y = least y holds equal in
        elim (cases_eq next y) [
          | inl one ↦ inr (
            one,
            t.first ys
                (subst (λ (n : ℕ). Leads (UsedIn uses) n to ys) (sym one) leads) as_many,
          )
          | inr other ↦ inl (omega arith)
        ]

-- What was walked so far: whatever leads on from its last number in the best way makes the whole
-- the
-- best way.
pub record IsWalked (uses : List ProofUses) (from to : ℕ) (sizes chain : List ℕ)
    (last : ℕ) : Type 0 where
  pub reached : 0 < size_at sizes last
  pub on : (zs : List ℕ) → IsTraced uses to sizes last zs
      → (others : List ℕ) × (chain ++ zs ≡ from ∷ others) × IsTraced uses to sizes from others

pub walk_starts : (uses : List ProofUses) (from to : ℕ) (sizes : List ℕ) → 0 < size_at sizes from
    → IsWalked uses from to sizes (from ∷ []) from
walk_starts uses from to sizes some = record {
  reached = some;
  on = λ zs t. (zs, refl, t);
}

-- a number with a size, other than the end, uses one whose size is one less
pub walk_can : (uses : List ProofUses) (to : ℕ) (sizes : List ℕ) (last : ℕ)
    → AreSizes uses to sizes → 0 < size_at sizes last → last ≢ to
    → (n : ℕ) × UsedIn uses last n × (0 < size_at sizes n) ×
    (size_at sizes last ≡ size_at sizes n + 1)
walk_can uses to sizes last h some apart =
    let (u, among, number) = h.only last apart some in
    let over = h.over u among (λ e. apart (sym number ∙ e)) in
    let (n, holds, has, is) = over.found
    (subst (λ (k : ℕ). 0 < size_at sizes k) (sym number) some) in
    (n, (u, among, number, holds), has, ap (size_at sizes) (sym number) ∙ is)

pub walk_goes : (uses : List ProofUses) (from to : ℕ) (sizes chain : List ℕ) (last next : ℕ)
    → AreSizes uses to sizes → IsWalked uses from to sizes chain last
    → UsedIn uses last next → size_at sizes last ≡ size_at sizes next + 1 → 0 < size_at sizes next
    → ((n : ℕ) → UsedIn uses last n → size_at sizes n ≡ size_at sizes next → next ≤ n)
    → IsWalked uses from to sizes (chain ++ next ∷ []) next
walk_goes uses from to sizes chain last next h walked used size some least = record {
  reached = some;
  on = λ zs t.
      let (others, whole, traced) = walked.on (next ∷ zs)
      (traced_on uses to sizes last next zs h used size least t) in
      (others, append_assoc chain (next ∷ []) zs ∙ whole, traced);
}

-- the walk has come to the end
pub walk_ends : (uses : List ProofUses) (from to : ℕ) (sizes chain : List ℕ) (last : ℕ)
    → AreSizes uses to sizes → IsWalked uses from to sizes chain last → last ≡ to
    → (others : List ℕ) × (chain ≡ from ∷ others) × IsFirstChain (UsedIn uses) from to others
walk_ends uses from to sizes chain last h walked same =
    let (others, whole, traced) = walked.on []
    (subst (λ (n : ℕ). IsTraced uses to sizes n []) (sym same) (traced_end uses to sizes h)) in (
      others,
      sym (append-nil chain) ∙ whole,
      record {
        leads = traced.leads;
        shortest = λ ys leads.
            let few = (chain_bound uses to sizes ys from h leads).1 in
            let long = traced.long in omega (arith, few, long);
        first = traced.first;
      },
    )

-- ==== the least size, and the first number of a size, number after number

pub record IsLeastSize (sizes ns : List ℕ) (told : ℕ) : Type 0 where
  pub least : (n : ℕ) → Contains ns n → 0 < size_at sizes n → (0 < told) × (told ≤ size_at sizes n)
  pub found : 0 < told → (n : ℕ) × Contains ns n × (told ≡ size_at sizes n)

pub least_starts : (sizes : List ℕ) → IsLeastSize sizes [] 0
least_starts sizes = record {
  least = λ n among some. absurd (let there = (at_from_contains [] n among).1 in cc);
  found = λ some. absurd (omega arith);
}

pub least_taken : (sizes ns : List ℕ) (x size least : ℕ) → IsLeastSize sizes ns least
    → size ≡ size_at sizes x → 0 < size → (least ≡ 0) ⊎ (size < least)
    → IsLeastSize sizes (ns ++ x ∷ []) size
least_taken sizes ns x size least h is some less = record {
  least = λ n among has. elim (holds_cases ns x n among) [
    | inl before ↦
        let (one, no_more) = h.least n before has in
        elim less [
          | inl none ↦ absurd (omega arith)
          | inr smaller ↦
              (some, omega (arith, smaller, no_more))
        ]
    | inr last ↦ let same : size_at sizes n ≡ size_at sizes x = ap (size_at sizes) last in
        (some, omega (arith, same, is))
  ];
  found = λ t. (x, holds_last ns x, is);
}

pub least_passed : (sizes ns : List ℕ) (x size least : ℕ) → IsLeastSize sizes ns least
    → size ≡ size_at sizes x → ¬ ((0 < size) × ((least ≡ 0) ⊎ (size < least)))
    → IsLeastSize sizes (ns ++ x ∷ []) least
least_passed sizes ns x size least h is other = record {
  least = λ n among has. elim (holds_cases ns x n among) [
    | inl before ↦ h.least n before has
    | inr last ↦
        let same : size_at sizes n ≡ size_at sizes x = ap (size_at sizes) last in
        let some : 0 < size = omega (arith, same, is, has) in
        elim (cases_lt size least) [
          | inl smaller ↦ absurd (other (some, inr smaller))
          | inr more ↦ elim (cases_eq least 0) [
            | inl none ↦ absurd (other (some, inl none))
            | inr one ↦ (omega arith, omega (arith, same, is, more))
          ]
        ]
  ];
  found = λ t. let (n, among, has) = h.found t in
      (n, Contains-append_left ns (x ∷ []) n among, has);
}

pub record IsFirstOfSize (sizes ns : List ℕ) (size : ℕ) (told : Option LabelId) : Type 0 where
  pub found : IfSome told (λ id. Contains ns id.0 × (size_at sizes id.0 ≡ size))
  pub first : (n : ℕ) → Contains ns n → size_at sizes n ≡ size
      → (id : LabelId) × (told ≡ Some id) × (id.0 ≤ n)

pub first_starts : (sizes : List ℕ) (size : ℕ) → IsFirstOfSize sizes [] size None
first_starts sizes size = record {
  found = tt;
  first = λ n among is. absurd (let there = (at_from_contains [] n among).1 in cc);
}

found_still : (sizes ns : List ℕ) (x size : ℕ) (first : Option LabelId)
    → IfSome first (λ id. Contains ns id.0 × (size_at sizes id.0 ≡ size))
    → IfSome first (λ id. Contains (ns ++ x ∷ []) id.0 × (size_at sizes id.0 ≡ size))
found_still sizes ns x size None h = tt
found_still sizes ns x size (Some id) h = (Contains-append_left ns (x ∷ []) id.0 h.0, h.1)

no_later : (first : Option LabelId) (y id : LabelId) → IfSome first (λ other. y.0 ≤ other.0)
    → first ≡ Some id → y.0 ≤ id.0
no_later None y id h e = absurd cc
no_later (Some other) y id h e = let same : other ≡ id = same_Some other id e in subst
    (λ (l : LabelId). y.0 ≤ l.0) same h

found_there : (sizes ns : List ℕ) (size : ℕ) (first : Option LabelId) (y : LabelId)
    → IfSome first (λ id. Contains ns id.0 × (size_at sizes id.0 ≡ size)) → first ≡ Some y
    → Contains ns y.0 × (size_at sizes y.0 ≡ size)
found_there sizes ns size None y h e = absurd cc
found_there sizes ns size (Some other) y h e =
    let same : other ≡ y = same_Some other y e in subst
    (λ (l : LabelId). Contains ns l.0 × (size_at sizes l.0 ≡ size)) same h

pub first_taken : (sizes ns : List ℕ) (x y : LabelId) (size : ℕ) (first : Option LabelId)
    → IsFirstOfSize sizes ns size first → size_at sizes x.0 ≡ size
    → (y ≡ x) ⊎ (first ≡ Some y) → y.0 ≤ x.0 → IfSome first (λ other. y.0 ≤ other.0)
    → IsFirstOfSize sizes (ns ++ x.0 ∷ []) size (Some y)
first_taken sizes ns x y size first h is either least before = record {
  found = elim either [
    | inl same ↦ subst (λ (l : LabelId). Contains (ns ++ x.0 ∷ []) l.0 ×
        (size_at sizes l.0 ≡ size)) (sym same) (holds_last ns x.0, is)
    | inr old ↦ let (among, has) = found_there sizes ns size first y h.found old in
        (Contains-append_left ns (x.0 ∷ []) y.0 among, has)
  ];
  first = λ n among has. (
    y,
    refl,
    elim (holds_cases ns x.0 n among) [
      | inl earlier ↦
          let (id, there, less) = h.first n earlier has in
          let no_more : y.0 ≤ id.0 = no_later first y id before there in omega
          (arith, less, no_more)
      | inr last ↦ omega (arith, least, last)
    ],
  );
}

pub first_passed : (sizes ns : List ℕ) (x size : ℕ) (first : Option LabelId)
    → IsFirstOfSize sizes ns size first → ¬ (size_at sizes x ≡ size)
    → IsFirstOfSize sizes (ns ++ x ∷ []) size first
first_passed sizes ns x size first h other = record {
  found = found_still sizes ns x size first h.found;
  first = λ n among has. elim (holds_cases ns x n among) [
    | inl before ↦ h.first n before has
    | inr last ↦ absurd (other (ap (size_at sizes) (sym last) ∙ has))
  ];
}

-- ==== in the words of the statements

leads_as : (R S : ℕ → ℕ → Type 0) → ((n used : ℕ) → R n used → S n used)
    → (ys : List ℕ) (from to : ℕ) → Leads R from to ys → Leads S from to ys
leads_as R S into [] from to leads = leads
leads_as R S into (y ∷ ys) from to (holds, leads) =
    (into from y holds, leads_as R S into ys y to leads)

first_chain_as : (R S : ℕ → ℕ → Type 0) → ((n used : ℕ) → R n used → S n used)
    → ((n used : ℕ) → S n used → R n used) → (from to : ℕ) (others : List ℕ)
    → IsFirstChain R from to others → IsFirstChain S from to others
first_chain_as R S into back from to others h = record {
  leads = leads_as R S into others from to h.leads;
  shortest = λ ys leads. h.shortest ys (leads_as S R back ys from to leads);
  first = λ ys leads same. h.first ys (leads_as S R back ys from to leads) same;
}

pub chain_of : (statements : List PlainStatement) (c : Conclusion) (label other : List ℕ)
    (theorem assertion : ℕ) (chain others : List ℕ) → IsKeptOf statements c → AllMeant c.sentences
    → AreEnds statements label other theorem assertion → chain ≡ theorem ∷ others
    → IsFirstChain (UsedIn c.uses) theorem assertion others
    → IsChain statements label other chain
chain_of statements c label other theorem assertion chain others kept all ends whole first =
    let same = used_is statements c.uses (subst AllMeant kept.sentences all) kept.uses in
    record {
      theorem = theorem;
      assertion = assertion;
      ends = ends;
      others = others;
      whole = whole;
      first = first_chain_as (UsedIn c.uses) (Uses statements) (λ x y. (same x y).0)
          (λ x y. (same x y).1) theorem assertion others first;
    }

pub independent_of : (statements : List PlainStatement) (c : Conclusion) (label other : List ℕ)
    (theorem assertion : ℕ) → IsKeptOf statements c → AllMeant c.sentences
    → AreEnds statements label other theorem assertion
    → (theorem ≢ assertion) × ¬ (RestsOn (UsedIn c.uses) theorem assertion)
    → IsChainFault statements label other Independent
independent_of statements c label other theorem assertion kept all ends none =
    let same = used_is statements c.uses (subst AllMeant kept.sentences all) kept.uses in (
      theorem,
      assertion,
      ends,
      none.0,
      λ rests. none.1 (rests_as (Uses statements) (UsedIn c.uses)
          (λ x y. (same x y).1) theorem assertion rests),
    )

-- each number is that of a label
pub leads_within : (uses : List ProofUses) (ys : List ℕ) (from to count : ℕ) → AreBackward uses
    → Leads (UsedIn uses) from to ys → from < count
    → AllByRecursion (λ n. n < count) ys
leads_within uses [] from to count backward leads less = tt
leads_within uses (y ∷ ys) from to count backward ((u, among, number, holds), leads) less =
    let below : y < u.number = backward.below u y among holds in
    let within : y < count = omega arith in
    (within, leads_within uses ys y to count backward leads within)
