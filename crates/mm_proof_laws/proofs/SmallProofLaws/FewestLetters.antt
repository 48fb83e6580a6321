-- No list gives the codes of moves fewer letters than the one by use.
use Rattle.std.proofs.Common.{◌≡◌, ℕ, zero, suc, ◌+◌, ◌*◌, ◌-◌, ◌<◌, ◌≤◌, min, List, []}
use Rattle.std.proofs.Common.{◌∷◌, ◌++◌, length, take, slice_get, Some, refl, sym, ap}
use Rattle.std.proofs.Common.{subst, ◌∙◌, arith, ◌⊎◌, inl, inr, ⊎_elim, Bool, true, false}
use Rattle.std.proofs.Common.{ltb, not}
use Rattle.std.specs.List.{AllZip, count_by, sum_by}
use Rattle.std.proofs.Math.Nat.{mul-le-mul_left}
use Rattle.std.proofs.lemmas.Bool.{true≢false, ltb-true, ltb-false, le-ltb}
use Rattle.std.proofs.lemmas.List.{length-append, length-take}
use Rattle.std.proofs.lemmas.List.Sums.{sum_by-cons}
use Rattle.std.proofs.lemmas.Option.{same_Some, slice_get_within}
use Rattle.mm_base.proofs.Lists.{get_within, take_next, get_after, get_kept, get_before}
use Rattle.mm_base.proofs.Lists.{append_cases, get_in_front, get_from_take, zip_right}
use Rattle.mm_code.specs.declared.code.Code.{Code}
use Rattle.mm_code.specs.declared.code.Code.TheVariants.{Number, Tag}
use Rattle.mm_code.specs.LetterCount.{letters_for, letters_of, letter_count}
use Rattle.mm_code.proofs.LetterCounts.{letters_grow}
use Rattle.mm_frame.specs.Sentence.{Sentence}
use Rattle.mm_frame.specs.Rules.{AllMeant}
use Rattle.mm_step.specs.Tree.{Trees, none, tree}
use Rattle.mm_step.specs.Moves.{Move, name, again, mark}
use Rattle.mm_proof.specs.Tokens.{Says}
use Rattle.mm_forms.specs.BigSubtrees.{IsBig}
use Rattle.mm_forms.specs.Sharing.{PairSays, IsSharedProof}
use Rattle.mm_proof.specs.Sharing.{is_number}
use Rattle.mm_forms.specs.SmallProofs.{is_step_by, uses, AreByUse, IsByUse}
use Rattle.mm_forms.specs.SmallLaws.{NoBetterOrder, SmallIsNoLarger}
use Rattle.mm_proof.specs.Mirror.SharedSteps.{In}
use Rattle.mm_proof.proofs.Members.{Once, once_indices, indices_once, get_in, in_get, in_left}
use Rattle.mm_proof.proofs.Members.{in_right}
use Rattle.mm_proof.proofs.Members.{in_apart, contains_in, in_contains}
use Rattle.mm_forms.proofs.FullSharing.OneSharing.{shared_once}
use Rattle.mm_forms.proofs.FullSharing.OneSharedProof.{same_mandatory, mandatory_once}
use Rattle.mm_forms.proofs.SmallProofs.UsedLabels.{label_told, one_if, has, has_told}
use Rattle.mm_forms.proofs.SmallProofs.OneSmallProof.{by_use_apart}
use Rattle.mm_proof_laws.proofs.SmallProofLaws.SomeSmallProof.{by_use_of}

-- ==== counts

-- ---- tests

-- what a test answers
told : (b : Bool) → (b ≡ true) ⊎ (b ≡ false)
told true = inl refl
told false = inr refl

one_if_le : (a b : Bool) → (a ≡ true → b ≡ true) → one_if a ≤ one_if b
one_if_le true b h = rw (h refl) (omega arith)
one_if_le false b h = omega arith

-- a test that either of two others answers
either_le : (a b c : Bool) → (a ≡ true → (b ≡ true) ⊎ (c ≡ true)) → one_if a ≤ one_if b + one_if c
either_le false b c h = omega arith
either_le true b c h = ⊎_elim (λ e. rw e (omega arith)) (λ e. rw e (omega arith)) (h refl)

-- two tests that don't answer both, and each of which another answers
both_le : (a b c : Bool) → (b ≡ true → a ≡ true) → (c ≡ true → a ≡ true)
    → (b ≡ true → c ≡ true → ⊥) → one_if b + one_if c ≤ one_if a
both_le a true true p q apart = absurd (apart refl refl)
both_le a true false p q apart = rw (p refl) (omega arith)
both_le a false true p q apart = rw (q refl) (omega arith)
both_le a false false p q apart = omega arith

module _ {X : Type 0} where
  count_cons : (p : X → Bool) (x : X) (xs : List X)
      → count_by p (x ∷ xs) ≡ one_if (p x) + count_by p xs
  count_cons p x xs = sum_by-cons (λ y. one_if (p y)) x xs

  count_split : (p q r : X → Bool)
      → ((x : X) → one_if (p x) ≤ one_if (q x) + one_if (r x)) → (xs : List X)
      → count_by p xs ≤ count_by q xs + count_by r xs
  count_split p q r each [] = omega arith
  count_split p q r each (x ∷ xs) =
      let h = count_split p q r each xs in
      let e = each x in
      let a = count_cons p x xs in
      let b = count_cons q x xs in
      let c = count_cons r x xs in omega arith

  count_join : (p q r : X → Bool)
      → ((x : X) → one_if (q x) + one_if (r x) ≤ one_if (p x)) → (xs : List X)
      → count_by q xs + count_by r xs ≤ count_by p xs
  count_join p q r each [] = omega arith
  count_join p q r each (x ∷ xs) =
      let h = count_join p q r each xs in
      let e = each x in
      let a = count_cons p x xs in
      let b = count_cons q x xs in
      let c = count_cons r x xs in omega arith

  count_le : (p q : X → Bool) → ((x : X) → p x ≡ true → q x ≡ true) → (xs : List X)
      → count_by p xs ≤ count_by q xs
  count_le p q each [] = omega arith
  count_le p q each (x ∷ xs) =
      let h = count_le p q each xs in
      let e = one_if_le (p x) (q x) (each x) in
      let a = count_cons p x xs in
      let b = count_cons q x xs in omega arith

  count_none : (p : X → Bool) (xs : List X) → ((x : X) → In xs x → p x ≡ false)
      → count_by p xs ≡ 0
  count_none p [] each = refl
  count_none p (x ∷ xs) each =
      let h = count_none p xs (λ y k. each y (inr k)) in
      let e = ap one_if (each x (inl refl)) in
      let a = count_cons p x xs in omega arith

-- over two lists that correspond
module _ {X Y : Type 0} (R : X → Y → Type 0) (p : X → Bool) (q : Y → Bool) where
  count_over : ((x : X) (y : Y) → R x y → p x ≡ true → q y ≡ true) → (xs : List X) (ys : List Y)
      → AllZip R xs ys → count_by p xs ≤ count_by q ys
  count_over each [] [] z = omega arith
  count_over each (x ∷ xs) (y ∷ ys) z =
      let h = count_over each xs ys z.1 in
      let e = one_if_le (p x) (q y) (each x y z.0) in
      let a = count_cons p x xs in
      let b = count_cons q y ys in omega arith
  count_over each xs ys z = absurd z

  count_back : ((x : X) (y : Y) → R x y → q y ≡ true → p x ≡ true) → (xs : List X) (ys : List Y)
      → AllZip R xs ys → count_by q ys ≤ count_by p xs
  count_back each [] [] z = omega arith
  count_back each (x ∷ xs) (y ∷ ys) z =
      let h = count_back each xs ys z.1 in
      let e = one_if_le (q y) (p x) (each x y z.0) in
      let a = count_cons p x xs in
      let b = count_cons q y ys in omega arith
  count_back each xs ys z = absurd z

-- ==== letters by thresholds

-- ---- how many codes are over a number

abbrev is_over : ℕ → Code → Bool
is_over most (Number n) = ltb most n
is_over most Tag = false

abbrev is_within : ℕ → Code → Bool
is_within most (Number n) = not (ltb most n)
is_within most Tag = false

-- each number is within the most or over it
count_both : (most : ℕ) (codes : List Code)
    → count_by (is_within most) codes + count_by (is_over most) codes ≡ count_by is_number codes
count_both most [] = refl
count_both most (c ∷ codes) =
    let h = count_both most codes in
    let e = one most c in
    let a = count_cons (is_within most) c codes in
    let b = count_cons (is_over most) c codes in
    let d = count_cons is_number c codes in omega arith
  where
    one : (most : ℕ) (c : Code)
        → one_if (is_within most c) + one_if (is_over most c) ≡ one_if (is_number c)
    one most Tag = refl
    one most (Number n) =
        ⊎_elim (λ e. rw e (omega arith)) (λ e. rw e (omega arith)) (told (ltb most n))

-- ---- letters by steps

-- the letters of a code, where each number over the most counts as the most
abbrev capped : ℕ → Code → ℕ
capped most (Number n) = letters_for (min n most)
capped most Tag = 1

-- what one number more gains
abbrev gain : ℕ → ℕ
gain most = letters_for (most + 1) - letters_for most

one_step : (most : ℕ) (c : Code)
    → capped (most + 1) c ≡ capped most c + gain most * one_if (is_over most c)
one_step most Tag = omega arith
one_step most (Number n) = ⊎_elim
    (λ e.
    let less : most < n = ltb-true most n e in
    let a : min n (most + 1) ≡ most + 1 = omega arith in
    let b : min n most ≡ most = omega arith in
    let rise = letters_grow most (most + 1) (omega arith) in rw (a, b, e) (omega (arith, rise)))
    (λ e.
    let less : n ≤ most = ltb-false most n e in
    let a : min n (most + 1) ≡ n = omega arith in
    let b : min n most ≡ n = omega arith in rw (a, b, e) (omega arith))
    (told (ltb most n))

capped_step : (most : ℕ) (codes : List Code)
    → sum_by (capped (most + 1)) codes
    ≡ sum_by (capped most) codes + gain most * count_by (is_over most) codes
capped_step most [] = omega arith
capped_step most (c ∷ codes) =
    let h = capped_step most codes in
    let e = one_step most c in
    let a = sum_by-cons (capped (most + 1)) c codes in
    let b = sum_by-cons (capped most) c codes in
    let d = count_cons (is_over most) c codes in
    let f : gain most * count_by (is_over most) (c ∷ codes)
    ≡ gain most * one_if (is_over most c) + gain most * count_by (is_over most) codes =
    ap (λ x. gain most * x) d ∙ omega arith in
    omega (arith, h, e, a, b, f)

abbrev value : Code → ℕ
value (Number n) = n
value Tag = 0

capped_is : (most : ℕ) (c : Code) → value c ≤ most → capped most c ≡ letters_of c
capped_is most Tag less = refl
capped_is most (Number n) less = let e : min n most ≡ n = omega arith in ap letters_for e

capped_all : (most : ℕ) (codes : List Code) → sum_by value codes ≤ most
    → sum_by (capped most) codes ≡ letter_count codes
capped_all most [] less = refl
capped_all most (c ∷ codes) less =
    let a = sum_by-cons value c codes in
    let h = capped_all most codes (omega arith) in
    let e = capped_is most c (omega arith) in
    let b = sum_by-cons (capped most) c codes in
    let d = sum_by-cons letters_of c codes in omega (arith, h, e, b, d)

-- codes of which fewer are over each number have fewer letters
module _ (codes codes' : List Code) (start : sum_by (capped 0) codes ≡ sum_by (capped 0) codes')
    (over : (most : ℕ) → count_by (is_over most) codes ≤ count_by (is_over most) codes') where
  capped_le : (most : ℕ) → sum_by (capped most) codes ≤ sum_by (capped most) codes'
  capped_le zero = omega (arith, start)
  capped_le (suc most) =
      let h = capped_le most in
      let p = capped_step most codes in
      let q = capped_step most codes' in
      let m = mul-le-mul_left (gain most) (over most) in
      let next : most + 1 ≡ suc most = omega arith in
      subst (λ n. sum_by (capped n) codes ≤ sum_by (capped n) codes') next
      (omega (arith, h, p, q, m))

  fewer_letters : letter_count codes ≤ letter_count codes'
  fewer_letters =
      let most = sum_by value codes + sum_by value codes' in
      let h = capped_le most in
      let p = capped_all most codes (omega arith) in
      let q = capped_all most codes' (omega arith) in omega (arith, h, p, q)

-- ==== the labels that are used most

-- ---- moves by labels of a list

abbrev among : List (List ℕ) → Move (List ℕ) → Bool
among labels (name l) = has labels l
among labels (again tag) = false
among labels mark = false

in_among : (labels : List (List ℕ)) (l : List ℕ) → In labels l → among labels (name l) ≡ true
in_among labels l h = ⊎_elim (λ k. k.0) (λ k. absurd (k.1 h)) (has_told labels l)

among_in : (labels : List (List ℕ)) (m : Move (List ℕ)) → among labels m ≡ true
    → (l : List ℕ) × (m ≡ name l) × In labels l
among_in labels (name l) e =
    (l, refl, ⊎_elim (λ k. k.1) (λ k. absurd (true≢false (sym e ∙ k.0))) (has_told labels l))
among_in labels (again tag) e = absurd cc
among_in labels mark e = absurd cc

step_is : (label : List ℕ) (m : Move (List ℕ)) → is_step_by label m ≡ true → m ≡ name label
step_is label (name l) e =
    ⊎_elim (λ k. ap name (sym k.1)) (λ k. absurd (true≢false (sym e ∙ k.0))) (label_told label l)
step_is label (again tag) e = absurd cc
step_is label mark e = absurd cc

is_step : (label : List ℕ) → is_step_by label (name label) ≡ true
is_step label = ⊎_elim (λ k. k.0) (λ k. absurd (k.1 refl)) (label_told label label)

-- ---- lists

outside : (xs ys : List (List ℕ))
    → ((s : List ℕ) → In xs s → In ys s) ⊎ ((s : List ℕ) × In xs s × ¬ (In ys s))
outside [] ys = inl (λ s h. absurd h)
outside (x ∷ xs) ys = ⊎_elim
    (λ h. ⊎_elim (λ rest. inl (λ s k. ⊎_elim (λ e. subst (In ys) e h.1) (rest s) k))
    (λ o. inr (o.0, inr o.1, o.2)) (outside xs ys))
    (λ h. inr (x, inl refl, h.1)) (has_told ys x)

-- a list without one of its members
without : (xs : List (List ℕ)) (s : List ℕ) → In xs s → (rest : List (List ℕ))
    × (length xs ≡ length rest + 1) × ((x : List ℕ) → In xs x → (s ≡ x) ⊎ In rest x)
without [] s h = absurd h
without (y ∷ ys) s (inl e) = (ys, omega arith, λ x h. ⊎_elim (λ k. inl (sym e ∙ k)) inr h)
without (y ∷ ys) s (inr h) =
    let r = without ys s h in (
      y ∷ r.0,
      omega (arith, r.1),
      λ x k. ⊎_elim (λ e. inr (inl e)) (λ m. ⊎_elim inl (λ n. inr (inr n)) (r.2 x m)) k,
    )

-- a list of different members is no longer than one that has them all
no_longer : (xs ys : List (List ℕ)) → Once xs → ((x : List ℕ) → In xs x → In ys x)
    → length xs ≤ length ys
no_longer [] ys once all = omega arith
no_longer (x ∷ xs) ys once all =
    let r = without ys x (all x (inl refl)) in
    let h = no_longer xs r.0 once.1 (λ y k. ⊎_elim
    (λ e. absurd (once.0 (subst (In xs) (sym e) k))) (λ m. m) (r.2 y (all y (inr k)))) in
    omega (arith, r.1)

-- ---- the most used

module _ (names listed : List (List ℕ)) (moves : List (Move (List ℕ)))
    (p : AreByUse names moves listed) where
  -- what isn't among the first labels is used no more than the next one
  less_used : (k : ℕ) (a s : List ℕ) → slice_get listed k ≡ Some a
      → ¬ (In (names ++ take k listed) s) → uses s moves ≤ uses a moves
  less_used k a s there apart = ⊎_elim
      (λ h.
      let at = in_get listed s h.1 in
      ⊎_elim
      (λ e. absurd (apart (in_right names (take k listed) s (get_in (take k listed) at.0 s
      (get_in_front listed k at.0 s (ltb-true at.0 k e) at.1)))))
      (λ e. ⊎_elim
      (λ f. ⊎_elim (λ u. omega (arith, u)) (λ u. omega (arith, u.0))
      (p.ordered k at.0 a s (ltb-true k at.0 f) there at.1))
      (λ f.
      let low : k ≤ at.0 = ltb-false at.0 k e in
      let high : at.0 ≤ k = ltb-false k at.0 f in
      let same : at.0 ≡ k = omega (arith, low, high) in
      let one : s ≡ a = same_Some s a (sym at.1 ∙ ap (slice_get listed) same ∙ there) in
      rw one (omega arith)) (told (ltb k at.0)))
      (told (ltb at.0 k)))
      (λ h.
      let unused = count_none (is_step_by s) moves (λ m has. ⊎_elim
      (λ e. absurd (h.1 (contains_in listed s ((p.those s).1 (
        in_contains moves (name s) (subst (In moves) (step_is s m e) has),
        λ c. apart (in_left names (take k listed) s (contains_in names s c)),
      ))))) (λ e. e) (told (is_step_by s m))) in
      omega (arith, unused))
      (has_told listed s)

  -- no other labels, so many, make more of the steps than the first ones
  top : (k : ℕ) → k ≤ length listed → (xs : List (List ℕ)) → length xs ≤ k
      → count_by (among (names ++ xs)) moves ≤ count_by (among (names ++ take k listed)) moves
  top zero within [] few = omega arith
  top zero within (x ∷ xs) few = absurd (omega arith)
  top (suc k) within xs few =
      let a = get_within listed k (omega arith) in
      let B = names ++ take k listed in
      let C = names ++ take (suc k) listed in
      let next = take_next listed k a.0 a.1 in
      let grow : (x : List ℕ) → In B x → In C x = λ x h. ⊎_elim
      (λ l. in_left names (take (suc k) listed) x l)
      (λ r. in_right names (take (suc k) listed) x
      (rw next (in_left (take k listed) (a.0 ∷ []) x r))) (in_apart names (take k listed) x h) in
      ⊎_elim
      (λ all. count_le (among (names ++ xs)) (among C) (λ m t.
      let i = among_in (names ++ xs) m t in
      rw i.1 (in_among C i.0 (⊎_elim (λ l. in_left names (take (suc k) listed) i.0 l)
      (λ r. grow i.0 (all i.0 r)) (in_apart names xs i.0 i.2)))) moves)
      (λ o.
      let r = without xs o.0 o.1 in
      let lower = top k (omega arith) r.0 (omega (arith, r.1)) in
      let split = count_split (among (names ++ xs)) (among (names ++ r.0)) (is_step_by o.0) (λ m.
      either_le (among (names ++ xs) m) (among (names ++ r.0) m) (is_step_by o.0 m) (λ t.
      let i = among_in (names ++ xs) m t in
      rw i.1 (⊎_elim (λ l. inl (in_among (names ++ r.0) i.0 (in_left names r.0 i.0 l)))
      (λ x. ⊎_elim (λ e. inr (subst (λ w. is_step_by o.0 (name w) ≡ true) e (is_step o.0)))
      (λ w. inl (in_among (names ++ r.0) i.0 (in_right names r.0 i.0 w))) (r.2 i.0 x))
      (in_apart names xs i.0 i.2)))) moves in
      let less = less_used k a.0 o.0 a.1 o.2 in
      let fresh : ¬ (In B a.0) = λ h. ⊎_elim
      (λ l. ((p.those a.0).0 (in_contains listed a.0 (get_in listed k a.0 a.1))).1
      (in_contains names a.0 l))
      (λ l.
      let at = in_get (take k listed) a.0 l in
      let f = get_from_take listed k at.0 a.0 at.1 in
      let same = p.once at.0 k a.0 f.1 a.1 in
      omega (arith, f.0, same)) (in_apart names (take k listed) a.0 h) in
      let join = count_join (among C) (among B) (is_step_by a.0) (λ m.
      both_le (among C m) (among B m) (is_step_by a.0 m)
      (λ t. let i = among_in B m t in rw i.1 (in_among C i.0 (grow i.0 i.2)))
      (λ t. rw (step_is a.0 m t) (in_among C a.0 (in_right names (take (suc k) listed) a.0
      (rw next (in_right (take k listed) (a.0 ∷ []) a.0 (inl refl))))))
      (λ t u.
      let i = among_in B m t in
      let same : i.0 ≡ a.0 = cc (sym i.1 ∙ step_is a.0 m u) in
      fresh (subst (In B) same i.2))) moves in
      omega (arith, lower, split, less, join)) (outside xs B)

-- ==== the codes

-- ---- what a number says

abbrev is_step_of : Move (List ℕ) → Bool
is_step_of (name l) = true
is_step_of (again tag) = true
is_step_of mark = false

module _ (names : List (List ℕ)) where
  says_label : (n : ℕ) (l : List ℕ) → Says names (Number n) (name l)
      → (index : ℕ) × (n ≡ index + 1) × (slice_get names index ≡ Some l)
  says_label n l s = (
    s.0,
    s.1,
    ⊎_elim (λ a. let same : a.0 ≡ l = cc (a.2) in a.1 ∙ ap Some same) (λ a. absurd (cc (a.2))) s.2,
  )

  says_tag : (n tag : ℕ) → Says names (Number n) (again tag) → n ≡ length names + tag + 1
  says_tag n tag s = ⊎_elim (λ a. absurd (cc (a.2)))
      (λ a. let same : a.0 ≡ tag = cc (a.2) in omega (arith, s.1, a.1, same)) s.2

  no_mark : (n : ℕ) → Says names (Number n) mark → ⊥
  no_mark n s = ⊎_elim (λ a. cc (a.2)) (λ a. cc (a.2)) s.2

  said_in : (c : Code) (l : List ℕ) → Says names c (name l) → In names l
  said_in Tag l s = absurd cc
  said_in (Number n) l s = let a = says_label n l s in get_in names a.0 l a.2

  -- a code is a number exactly if its move is a step
  number_said : (c : Code) (m : Move (List ℕ)) → Says names c m → is_number c ≡ is_step_of m
  number_said Tag m s = rw s refl
  number_said (Number n) (name l) s = refl
  number_said (Number n) (again tag) s = refl
  number_said (Number n) mark s = absurd (no_mark n s)

-- ---- pairs that say the same moves

module _ (names listed listed' : List (List ℕ)) (codes codes' : List Code)
    (moves : List (Move (List ℕ))) (p : AreByUse names moves listed) (once : Once names)
    (says : AllZip (Says (names ++ listed)) codes moves)
    (says' : AllZip (Says (names ++ listed')) codes' moves) where
  -- two codes that say one move
  Both : Code → Code → Type 0
  Both c c' = (m : Move (List ℕ)) × Says (names ++ listed) c m × Says (names ++ listed') c' m

  meet : (codes codes' : List Code) (moves : List (Move (List ℕ)))
      → AllZip (Says (names ++ listed)) codes moves
      → AllZip (Says (names ++ listed')) codes' moves → AllZip Both codes codes'
  unfolding Both
  meet [] [] [] z w = tt
  meet (c ∷ codes) (d ∷ codes') (m ∷ moves) z w = ((m, z.0, w.0), meet codes codes' moves z.1 w.1)
  meet [] (d ∷ codes') [] z w = absurd w
  meet [] codes' (m ∷ moves) z w = absurd z
  meet (c ∷ codes) codes' [] z w = absurd z
  meet (c ∷ codes) [] (m ∷ moves) z w = absurd w

  pairs : AllZip Both codes codes'
  pairs = meet codes codes' moves says says'

  whole_once : Once (names ++ listed)
  whole_once = by_use_apart names moves listed p once

  kinds : (c c' : Code) → Both c c' → is_number c ≡ is_number c'
  unfolding Both
  kinds c c' b =
      number_said (names ++ listed) c b.0 b.1 ∙ sym (number_said (names ++ listed') c' b.0 b.2)

  numbers_same : count_by is_number codes ≡ count_by is_number codes'
  numbers_same =
      let a = count_over Both is_number is_number (λ c c' b e. sym (kinds c c' b) ∙ e) codes codes'
      pairs in
      let b = count_back Both is_number is_number (λ c c' b e. kinds c c' b ∙ e) codes codes'
      pairs in
      omega (arith, a, b)

  start_one : (c c' : Code) → Both c c' → capped 0 c ≡ capped 0 c'
  start_one Tag Tag b = refl
  start_one (Number n) (Number n') b =
      let e : min n 0 ≡ 0 = omega arith in
      let f : min n' 0 ≡ 0 = omega arith in rw (e, f) refl
  start_one Tag (Number n') b = absurd (true≢false (sym (kinds Tag (Number n') b)))
  start_one (Number n) Tag b = absurd (true≢false (kinds (Number n) Tag b))

  start_all : (codes codes' : List Code) → AllZip Both codes codes'
      → sum_by (capped 0) codes ≡ sum_by (capped 0) codes'
  start_all [] [] z = refl
  start_all (c ∷ codes) (d ∷ codes') z =
      let h = start_all codes codes' z.1 in
      let e = start_one c d z.0 in
      let a = sum_by-cons (capped 0) c codes in
      let b = sum_by-cons (capped 0) d codes' in omega (arith, h, e, a, b)
  start_all codes codes' z = absurd z

  -- the other list has all of these labels
  longer : length listed ≤ length listed'
  longer = no_longer listed listed' (indices_once listed p.once) (λ x h.
      let its = (p.those x).0 (in_contains listed x h) in
      let at = in_get moves (name x) (contains_in moves (name x) its.0) in
      let c = zip_right (Says (names ++ listed')) codes' moves at.0 (name x) says' at.1 in
      ⊎_elim (λ k. absurd (its.1 (in_contains names x k))) (λ k. k)
      (in_apart names listed' x (said_in (names ++ listed') c.0 x c.2)))

  -- ---- how many are over a number

  lengths : (length (names ++ listed) ≡ length names + length listed)
      × (length (names ++ listed') ≡ length names + length listed')
  lengths = (length-append names listed, length-append names listed')

  -- a number of a hypothesis, or one below
  below : (most : ℕ) → most ≤ length names → (c c' : Code) → Both c c' → is_over most c ≡ true
      → is_over most c' ≡ true
  unfolding Both
  below most few Tag c' b e = absurd cc
  below most few (Number n) Tag b e = absurd (true≢false (kinds (Number n) Tag b))
  below most few (Number n) (Number n') b e = ⊎_elim (λ h. h)
      (λ h. absurd (go b.0 b.1 b.2 (ltb-true most n e) (ltb-false most n' h))) (told (ltb most n'))
    where
      go : (m : Move (List ℕ)) → Says (names ++ listed) (Number n) m
          → Says (names ++ listed') (Number n') m → most < n → n' ≤ most → ⊥
      go (name l) s t more less =
          let x = says_label (names ++ listed) n l s in
          let y = says_label (names ++ listed') n' l t in
          let own : slice_get names y.0 ≡ Some l =
          get_before names listed' y.0 l (omega (arith, y.1)) y.2 in
          let same = once_indices (names ++ listed) x.0 y.0 l whole_once x.2
          (get_kept names listed y.0 l own) in
          omega (arith, x.1, y.1, same)
      go (again tag) s t more less =
          omega (arith, says_tag (names ++ listed') n' tag t, lengths.1)
      go mark s t more less = no_mark (names ++ listed) n s

  -- a number behind the list
  above : (most : ℕ) → length names + length listed ≤ most → (c c' : Code) → Both c c'
      → is_over most c ≡ true → is_over most c' ≡ true
  unfolding Both
  above most many Tag c' b e = absurd cc
  above most many (Number n) Tag b e = absurd (true≢false (kinds (Number n) Tag b))
  above most many (Number n) (Number n') b e = ⊎_elim (λ h. h)
      (λ h. absurd (go b.0 b.1 b.2 (ltb-true most n e) (ltb-false most n' h))) (told (ltb most n'))
    where
      go : (m : Move (List ℕ)) → Says (names ++ listed) (Number n) m
          → Says (names ++ listed') (Number n') m → most < n → n' ≤ most → ⊥
      go (name l) s t more less =
          let x = says_label (names ++ listed) n l s in
          omega (arith, x.1, slice_get_within (names ++ listed) x.0 l x.2, lengths.0)
      go (again tag) s t more less =
          omega (
            arith,
            says_tag (names ++ listed) n tag s,
            says_tag (names ++ listed') n' tag t,
            lengths.0,
            lengths.1,
            longer,
          )
      go mark s t more less = no_mark (names ++ listed) n s

  -- a number of a listed label
  among_within : (k : ℕ) (c : Code) (m : Move (List ℕ)) → Says (names ++ listed) c m
      → among (names ++ take k listed) m ≡ true → is_within (length names + k) c ≡ true
  among_within k c m s e =
      let i = among_in (names ++ take k listed) m e in
      go c (subst (Says (names ++ listed) c) i.1 s) (⊎_elim
      (λ h.
      let at = in_get names i.0 h in
      let less = slice_get_within names at.0 i.0 at.1 in
      (at.0, omega (arith, less), get_kept names listed at.0 i.0 at.1))
      (λ h.
      let at = in_get (take k listed) i.0 h in
      let f = get_from_take listed k at.0 i.0 at.1 in
      (length names + at.0, omega (arith, f.0), get_after names listed at.0 i.0 f.1))
      (in_apart names (take k listed) i.0 i.2))
    where
      go : {l : List ℕ} (c : Code) → Says (names ++ listed) c (name l)
          → (j : ℕ) × (j < length names + k) × (slice_get (names ++ listed) j ≡ Some l)
          → is_within (length names + k) c ≡ true
      go Tag said at = absurd cc
      go {l} (Number n) said at =
          let x = says_label (names ++ listed) n l said in
          let same = once_indices (names ++ listed) x.0 at.0 l whole_once x.2 at.2 in
          rw (le-ltb (length names + k) n (omega (arith, x.1, same, at.1))) refl

  within_among : (k : ℕ) → k ≤ length listed → (c : Code) (m : Move (List ℕ))
      → Says (names ++ listed') c m → is_within (length names + k) c ≡ true
      → among (names ++ take k listed') m ≡ true
  within_among k few Tag m s e = absurd cc
  within_among k few (Number n) m s e = ⊎_elim
      (λ h. absurd (true≢false (sym e ∙ ap not h)))
      (λ h. go m s (ltb-false (length names + k) n h)) (told (ltb (length names + k) n))
    where
      go : (m : Move (List ℕ)) → Says (names ++ listed') (Number n) m → n ≤ length names + k
          → among (names ++ take k listed') m ≡ true
      go (name l) s less =
          let x = says_label (names ++ listed') n l s in
          in_among (names ++ take k listed') l (⊎_elim
          (λ h. in_left names (take k listed') l (get_in names x.0 l h))
          (λ h. in_right names (take k listed') l (get_in (take k listed') h.0 l
          (get_in_front listed' k h.0 l (omega (arith, x.1, h.1)) h.2)))
          (append_cases names listed' x.0 l x.2))
      go (again tag) s less =
          absurd (omega (arith, says_tag (names ++ listed') n tag s, lengths.1, longer))
      go mark s less = absurd (no_mark (names ++ listed') n s)

  between : (k : ℕ) → k ≤ length listed
      → count_by (is_over (length names + k)) codes ≤ count_by (is_over (length names + k)) codes'
  between k few =
      let most = length names + k in
      let a = count_back (Says (names ++ listed)) (is_within most) (among (names ++ take k listed))
      (among_within k) codes moves says in
      let b = count_over (Says (names ++ listed')) (is_within most)
      (among (names ++ take k listed')) (within_among k few) codes' moves says' in
      let t = top names listed moves p k few (take k listed')
      (omega (arith, length-take k listed')) in
      omega (arith, a, b, t, count_both most codes, count_both most codes', numbers_same)

  over_le : (most : ℕ) → count_by (is_over most) codes ≤ count_by (is_over most) codes'
  over_le most = ⊎_elim
      (λ h.
      let more : length names < most = ltb-true (length names) most h in
      ⊎_elim
      (λ g.
      let less : most < length names + length listed = ltb-true most _ g in
      let same : length names + (most - length names) ≡ most = omega arith in
      subst (λ n. count_by (is_over n) codes ≤ count_by (is_over n) codes') same
      (between (most - length names) (omega arith)))
      (λ g. count_over Both (is_over most) (is_over most)
      (above most (ltb-false most (length names + length listed) g)) codes codes' pairs)
      (told (ltb most (length names + length listed))))
      (λ h. count_over Both (is_over most) (is_over most)
      (below most (ltb-false (length names) most h)) codes codes' pairs)
      (told (ltb (length names) most))

  pub no_fewer : letter_count codes ≤ letter_count codes'
  no_fewer = fewer_letters codes codes' (start_all codes codes' pairs) over_le

-- ==== the laws

pub no_better_order_holds : NoBetterOrder
no_better_order_holds before s listed listed' codes codes' moves all p u q =
    let labels = same_mandatory before s listed' listed codes' codes moves moves q p in
    no_fewer p.labels listed listed' codes codes' moves u
    (mandatory_once before s p.hypotheses p.labels all p.mandatory p.labelled) p.each
    (rw labels at q.each)

-- the pair by use has at most as many letters as another that shares the same
by_use_fewer : (P : Trees → Type 0) (before : List Sentence) (s : Sentence) (trees : Trees)
    (listed listed' : List (List ℕ)) (codes codes' : List Code) → AllMeant before
    → IsByUse P before s trees listed codes → IsSharedProof P before s trees listed' codes'
    → letter_count codes ≤ letter_count codes'
by_use_fewer P before s trees listed listed' codes codes' all p q =
    let moves = shared_once P before trees p.moves q.moves p.shared q.shared in
    no_better_order_holds before s listed listed' codes codes' p.moves all p.says p.by_use
    (subst (PairSays before s listed' codes') (sym moves) q.says)

pub small_is_no_larger_holds : SmallIsNoLarger
small_is_no_larger_holds before s label below listed listed' codes codes' all p q =
    let trees : Trees = tree label below none in
    ⊎_elim
    (λ a.
    let r = by_use_of IsBig before s trees listed' codes' all q in
    let less = a.1 r.0 r.1 r.2 in
    let more = by_use_fewer IsBig before s trees r.0 listed' r.1 codes' all r.2 q in
    omega (arith, less, more))
    (λ a. by_use_fewer IsBig before s trees listed listed' codes codes' all a.0 q) p
