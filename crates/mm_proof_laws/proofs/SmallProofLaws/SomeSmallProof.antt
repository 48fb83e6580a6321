-- A tree that fits has a small proof: the labels of a proof can be listed by use.
use Rattle.std.proofs.Common.{◌≡◌, ◌≢◌, ℕ, zero, suc, ◌+◌, ◌<◌, ◌≤◌, List, [], ◌∷◌, ◌++◌, length}
use Rattle.std.proofs.Common.{get_or, slice_get, Some, refl, sym, ap, subst, ◌∙◌, arith, ◌⊎◌, inl}
use Rattle.std.proofs.Common.{inr, ⊎_elim}
use Rattle.std.specs.List.{AllZip}
use Rattle.std.specs.List.Sorted.{IsPermutation}
use Rattle.std.proofs.Math.Decide.{dec_le}
use Rattle.std.proofs.lemmas.Bool.Decides.{eqb_tells}
use Rattle.std.proofs.lemmas.List.{length-append, get_or_push, get_or_append_left}
use Rattle.std.proofs.lemmas.List.Sorted.{IsPermutation-refl, IsPermutation-cons}
use Rattle.std.proofs.lemmas.List.Sorted.{IsPermutation-trans, IsPermutation-middle}
use Rattle.std.proofs.lemmas.Option.{same_Some, none-some, slice_get-get_or, slice_get_within}
use Rattle.mm_base.proofs.Lists.{get_within}
use Rattle.mm_code.specs.declared.code.Code.{Code}
use Rattle.mm_code.specs.LetterCount.{letter_count}
use Rattle.mm_frame.specs.Sentence.{Sentence}
use Rattle.mm_frame.specs.Rules.{AllMeant}
use Rattle.mm_forms.specs.declared.small.LabelUse.{LabelUse}
use Rattle.mm_step.specs.Tree.{Trees, none, tree}
use Rattle.mm_step.specs.Moves.{Move, name}
use Rattle.mm_proof.specs.Tokens.{Says}
use Rattle.mm_forms.specs.BigSubtrees.{nodes, IsBig}
use Rattle.mm_forms.specs.ChosenSharing.{IsWorthATag}
use Rattle.mm_forms.specs.Sharing.{AreFirstUses, IsSharedProof}
use Rattle.mm_forms.specs.SmallProofs.{AreByUse, IsByUse}
use Rattle.mm_forms.specs.SmallLaws.{SomeSmall}
use Rattle.mm_forms.specs.Mirror.CodeSmall.{AreLabelUses, AreInOrder, ComesFirst, times}
use Rattle.mm_proof.specs.Mirror.SharedSteps.{In}
use Rattle.mm_proof.proofs.Members.{Once, in_get, get_in, in_left, in_right, contains_in}
use Rattle.mm_proof.proofs.Members.{in_contains}
use Rattle.mm_forms.proofs.FullSharing.OneSharedProof.{some_codes, some_pair}
use Rattle.mm_forms.proofs.FullSharing.OneSharedProof.{mandatory_once}
use Rattle.mm_forms.proofs.SmallProofs.UsedLabels.{named, named_uses, has_told}
use Rattle.mm_forms.proofs.SmallProofs.ListedByUse.{listed_by_use, entry}
use Rattle.mm_forms.proofs.SmallProofs.OneSmallProof.{one_by_use}

-- ---- entries in order

first_on : (a b c : LabelUse) → ComesFirst a b → ComesFirst b c → ComesFirst a c
first_on a b c p q = ⊎_elim
    (λ m. ⊎_elim (λ n. inl (omega (arith, m, n))) (λ n. inl (omega (arith, m, n.0))) q)
    (λ m. ⊎_elim (λ n. inl (omega (arith, m.0, n)))
    (λ n. inr (omega (arith, m.0, n.0), omega (arith, m.1, n.1))) q) p

order_of : (a b : ℕ) → (a < b) ⊎ (a ≡ b) ⊎ (b < a)
order_of zero zero = inr (inl refl)
order_of zero (suc b) = inl (omega arith)
order_of (suc a) zero = inr (inr (omega arith))
order_of (suc a) (suc b) = ⊎_elim (λ h. inl (omega (arith, h)))
    (λ k. ⊎_elim (λ h. inr (inl (ap suc h))) (λ h. inr (inr (omega (arith, h)))) k) (order_of a b)

first_or : (a b : LabelUse) → a.index ≢ b.index → ComesFirst a b ⊎ ComesFirst b a
first_or a b apart = elim (order_of b.uses a.uses) [
  | inl h ↦ inl (inl h)
  | inr (inl h) ↦ elim (order_of a.index b.index) [
    | inl k ↦ inl (inr (sym h, k))
    | inr (inl k) ↦ absurd (apart k)
    | inr (inr k) ↦ inr (inr (h, k))
  ]
  | inr (inr h) ↦ inr (inl h)
]

-- each comes before those behind it
abbrev Ranked : List LabelUse → Type 0
Ranked [] = Unit {0}
Ranked (x ∷ xs) = ((y : LabelUse) → In xs y → ComesFirst x y) × Ranked xs

-- each has another index than those behind it
abbrev Apart : List LabelUse → Type 0
Apart [] = Unit {0}
Apart (x ∷ xs) = ((y : LabelUse) → In xs y → x.index ≢ y.index) × Apart xs

record Put (x : LabelUse) (ys : List LabelUse) : Type 0 where
  all : List LabelUse
  permuted : IsPermutation (x ∷ ys) all
  ranked : Ranked all
  only : (y : LabelUse) → In all y → (x ≡ y) ⊎ In ys y

put : (x : LabelUse) (ys : List LabelUse) → ((y : LabelUse) → In ys y → x.index ≢ y.index)
    → Ranked ys → Put x ys
put x [] apart r = record {
  all = x ∷ [];
  permuted = IsPermutation-refl (x ∷ []);
  ranked = (λ y h. absurd h, tt);
  only = λ y h. h;
}
put x (y ∷ ys) apart r = elim (first_or x y (apart y (inl refl))) [
  | inl before ↦ record {
    all = x ∷ y ∷ ys;
    permuted = IsPermutation-refl (x ∷ y ∷ ys);
    ranked = (
      λ z h. ⊎_elim (λ e. subst (ComesFirst x) e before)
          (λ k. first_on x y z before (r.0 z k)) h,
      r,
    );
    only = λ z h. h;
  }
  | inr behind ↦ (let p = put x ys (λ z h. apart z (inr h)) r.1 in record {
    all = y ∷ p.all;
    permuted = IsPermutation-trans (x ∷ y ∷ ys) (y ∷ x ∷ ys) (y ∷ p.all)
        (IsPermutation-middle (x ∷ []) y ys) (IsPermutation-cons y (x ∷ ys) p.all p.permuted);
    ranked = (
      λ z h. ⊎_elim (λ e. subst (ComesFirst y) e behind) (λ k. r.0 z k) (p.only z h),
      p.ranked,
    );
    only = λ z h. ⊎_elim (λ e. inr (inl e))
        (λ k. ⊎_elim (λ e. inl e) (λ m. inr (inr m)) (p.only z k)) h;
  })
]

record Sorted (xs : List LabelUse) : Type 0 where
  all : List LabelUse
  permuted : IsPermutation xs all
  ranked : Ranked all
  only : (y : LabelUse) → In all y → In xs y

some_order : (xs : List LabelUse) → Apart xs → Sorted xs
some_order [] apart =
    record { all = []; permuted = IsPermutation-refl []; ranked = tt; only = λ y h. h }
some_order (x ∷ xs) apart =
    let s = some_order xs apart.1 in
    let p = put x s.all (λ y h. apart.0 y (s.only y h)) s.ranked in
    record {
      all = p.all;
      permuted = IsPermutation-trans (x ∷ xs) (x ∷ s.all) p.all
          (IsPermutation-cons x xs s.all s.permuted) p.permuted;
      ranked = p.ranked;
      only = λ y h. ⊎_elim (λ e. inl e) (λ k. inr (s.only y k)) (p.only y h);
    }

ranked_order : (xs : List LabelUse) → Ranked xs → AreInOrder xs
ranked_order [] r j k a b less p q = absurd (none-some a p)
ranked_order (x ∷ xs) r zero zero a b less p q = absurd (omega arith)
ranked_order (x ∷ xs) r zero (suc k) a b less p q =
    subst (λ w. ComesFirst w b) (same_Some x a p) (r.0 b (get_in xs k b q))
ranked_order (x ∷ xs) r (suc j) zero a b less p q = absurd (omega arith)
ranked_order (x ∷ xs) r (suc j) (suc k) a b less p q =
    ranked_order xs r.1 j k a b (omega arith) p q

-- ---- entries of labels

module _ (own : ℕ) (codes : List Code) where
  entries : ℕ → List LabelUse
  entries zero = []
  entries (suc n) = entries n ++ record { index = n; uses = times (own + n + 1) codes } ∷ []

  entries_long : (n : ℕ) → length (entries n) ≡ n
  unfolding entries
  entries_long zero = refl
  entries_long (suc n) =
      let h = entries_long n in
      let l = length-append (entries n)
      (record { index = n; uses = times (own + n + 1) codes } ∷ []) in
      omega arith

  entries_counted : (n : ℕ) → AreLabelUses own codes (entries n)
  unfolding entries
  entries_counted zero k d less = absurd (omega arith)
  entries_counted (suc n) k d less =
      let one : LabelUse = record { index = n; uses = times (own + n + 1) codes } in
      let long = entries_long n in
      let l = length-append (entries n) (one ∷ []) in
      ⊎_elim
      (λ h. let at = get_or_push (entries n) one d k (long ∙ sym h.1) in
      rw (at, h.1) (refl, refl))
      (λ h.
      let other : k ≢ n = h.1 in
      let within : k < length (entries n) = omega (arith, l, long, other) in
      rw (get_or_append_left (entries n) (one ∷ []) d k within) (entries_counted n k d within))
      (eqb_tells k n)

apart_of : (m : ℕ) (xs : List LabelUse)
    → ((k : ℕ) (d : LabelUse) → k < length xs → (get_or xs k d).index ≡ m + k) → Apart xs
apart_of m [] each = tt
apart_of m (x ∷ xs) each = (
  λ y h.
      let at = in_get xs y h in
      let less = slice_get_within xs at.0 y at.1 in
      let first : x.index ≡ m + 0 = each 0 x (omega arith) in
      let e : (get_or xs at.0 y).index ≡ m + suc at.0 = each (suc at.0) y (omega arith) in
      let one : get_or xs at.0 y ≡ y =
      same_Some (get_or xs at.0 y) y (sym (slice_get-get_or xs at.0 y less) ∙ at.1) in
      let its : y.index ≡ m + suc at.0 = subst (λ (u : LabelUse). u.index ≡ m + suc at.0) one e in
      omega (arith, first, its),
  apart_of (m + 1) xs (λ k d less.
      let e : (get_or xs k d).index ≡ m + suc k = each (suc k) d (omega arith) in omega (arith, e)),
)

-- the labels that entries name
labels_at : (listed : List (List ℕ)) (order : List LabelUse)
    → ((k : ℕ) (one : LabelUse) → slice_get order k ≡ Some one → one.index < length listed)
    → (listed' : List (List ℕ))
    × AllZip (λ (one : LabelUse) l. slice_get listed one.index ≡ Some l) order listed'
labels_at listed [] within = ([], tt)
labels_at listed (one ∷ order) within =
    let at = get_within listed one.index (within 0 one refl) in
    let rest = labels_at listed order (λ k u e. within (suc k) u e) in
    (at.0 ∷ rest.0, (at.1, rest.1))

-- ---- the labels by use

pub some_by_use : (names listed : List (List ℕ)) (codes : List Code) (moves : List (Move (List ℕ)))
    → Once names → AreFirstUses names (named moves) listed
    → AllZip (Says (names ++ listed)) codes moves
    → (listed' : List (List ℕ)) × (codes' : List Code) × AreByUse names moves listed'
    × AllZip (Says (names ++ listed')) codes' moves
some_by_use names listed codes moves once first says =
    let own = length names in
    let n = length listed in
    let uses = entries own codes n in
    let counted = entries_counted own codes n in
    let many = entries_long own codes n in
    let s = some_order uses (apart_of 0 uses (λ k d less.
    let h = counted k d less in omega (arith, h.0))) in
    let l = labels_at listed s.all (λ k one there.
    let e = entry own codes uses s.all counted s.permuted k one there in
    omega (arith, e.0, many)) in
    let by = listed_by_use own names listed codes moves uses s.all counted s.permuted many refl
    l.0 l.1 (ranked_order s.all s.ranked) once first says in
    let known : (label : List ℕ) → In moves (name label) → In (names ++ l.0) label = λ label h.
    ⊎_elim (λ k. in_left names l.0 label k)
    (λ k. in_right names l.0 label (contains_in l.0 label ((by.those label).1
    (in_contains moves (name label) h, λ c. k (contains_in names label c)))))
    (has_dec names label) in
    let coded = some_codes (names ++ l.0) moves known in
    (l.0, coded.0, by, coded.1)
  where
    has_dec : (xs : List (List ℕ)) (label : List ℕ) → In xs label ⊎ (¬ (In xs label))
    has_dec xs label = ⊎_elim (λ h. inl h.1) (λ h. inr h.1) (has_told xs label)

-- the proof that shares those subtrees, with its labels by use
pub by_use_of : (P : Trees → Type 0) (before : List Sentence) (s : Sentence) (trees : Trees)
    (listed : List (List ℕ)) (codes : List Code) → AllMeant before
    → IsSharedProof P before s trees listed codes → (listed' : List (List ℕ)) × (codes' : List Code)
    × IsByUse P before s trees listed' codes'
by_use_of P before s trees listed codes meant p =
    let names = p.says.labels in
    let once = mandatory_once before s p.says.hypotheses names meant p.says.mandatory
    p.says.labelled in
    let first = named_uses P before trees p.moves names listed p.shared p.uses in
    let r = some_by_use names listed codes p.moves once first p.says.each in (
      r.0,
      r.1,
      record {
        moves = p.moves;
        says = record {
          hypotheses = p.says.hypotheses;
          mandatory = p.says.mandatory;
          labels = names;
          labelled = p.says.labelled;
          each = r.3;
        };
        shared = p.shared;
        by_use = r.2;
      },
    )

pub some_small_holds : SomeSmall
some_small_holds before s label below meant formed fit =
    let trees : Trees = tree label below none in
    let all = some_pair IsBig (λ t. dec_le 2 (nodes t)) before s label below formed fit in
    let less = some_pair IsWorthATag (λ t. dec_le 3 (nodes t)) before s label below formed fit in
    let p = by_use_of IsBig before s trees all.0 all.1 meant all.2 in
    let q = by_use_of IsWorthATag before s trees less.0 less.1 meant less.2 in
    ⊎_elim
    (λ h. (
      q.0,
      q.1,
      inl (
        q.2,
        λ others more r.
            let same = one_by_use IsBig before s trees p.0 others p.1 more meant p.2 r in
            subst (λ (c : List Code). letter_count q.1 < letter_count c) same.1 h,
      ),
    ))
    (λ h. (
      p.0,
      p.1,
      inr (
        p.2,
        λ others more r.
            let same = one_by_use IsWorthATag before s trees q.0 others q.1 more meant q.2 r in
            subst (λ (c : List Code). letter_count p.1 ≤ letter_count c) same.1 h,
      ),
    ))
    (less_or (letter_count q.1) (letter_count p.1))
  where
    less_or : (a b : ℕ) → (a < b) ⊎ (b ≤ a)
    less_or a b = ⊎_elim (λ h. inl h)
        (λ k. inr (⊎_elim (λ h. omega (arith, h)) (λ h. omega (arith, h)) k)) (order_of a b)
