-- Numbers of labelled statements, which stay as statements are added.
use Rattle.std.proofs.Common.{◌≡◌, ℕ, zero, suc, ◌<◌, ◌≤◌, inl, inr, Bool, true, false, cond}
use Rattle.std.proofs.Common.{length, take, drop, List, [], ◌∷◌, ◌++◌, is_some, Some, refl, sym, ap}
use Rattle.std.proofs.Common.{◌∙◌, subst, append-nil, arith, not, slice_get}
use Rattle.std.proofs.lemmas.Option.{slice_get_within}
use Rattle.std.proofs.lemmas.Bool.{cases_order}
use Rattle.std.proofs.lemmas.List.Elements.{filter-append}
use Rattle.std.proofs.lemmas.List.{take-append-le, take-take}
use Rattle.std.proofs.Math.Seq.{take-append_seam}
use Rattle.mm_frame.specs.Sentence.{Sentence}
use Rattle.mm_frame.specs.Numbers.{labelled_sentences, IsNumbered, symbols_of}
use Rattle.mm_base.proofs.Lists.{get_kept, get_pushed, get_before, get_in_front, get_parted}
use Rattle.mm_base.proofs.Lists.{split_at, one_there}
use Rattle.std.proofs.lemmas.List.Filters.{length-filter_both}
use Rattle.mm_frame.specs.Laws.{OneNumber}
use Rattle.mm_frame.proofs.Names.NameNumbers.{symbols_unique, symbols_grow, number_from_declared}
use Rattle.mm_frame.proofs.Names.NameNumbers.{declared_from_number}

-- ==== numbers of labelled statements: their indices among the labelled ones, which stay as
-- statements are added

pub labelled_append : (st more : List Sentence) → labelled_sentences (st ++ more) ≡ labelled_sentences st ++ labelled_sentences more
labelled_append st more = filter-append (λ (s : Sentence). is_some s.label) st more

-- one statement more, with a label or without
pub labelled_push : (st : List Sentence) (e : Sentence) → is_some e.label ≡ true → labelled_sentences (st ++ e ∷ []) ≡ labelled_sentences st ++ e ∷ []
labelled_push st e is = labelled_append st (e ∷ []) ∙ ap (λ ys. labelled_sentences st ++ ys) (ap (λ c. cond c (e ∷ []) []) is)

pub labelled_pass : (st : List Sentence) (e : Sentence) → is_some e.label ≡ false → labelled_sentences (st ++ e ∷ []) ≡ labelled_sentences st
labelled_pass st e is = labelled_append st (e ∷ []) ∙ ap (λ ys. labelled_sentences st ++ ys) (ap (λ c. cond c (e ∷ []) []) is) ∙ append-nil (labelled_sentences st)

-- the labelled statements before one, it, and those after it
labelled_parts : (st : List Sentence) (p : ℕ) (s : Sentence) → slice_get st p ≡ Some s → is_some s.label ≡ true → labelled_sentences st ≡ labelled_sentences (take p st) ++ s ∷ labelled_sentences (drop (suc p) st)
labelled_parts st p s there named =
    let rest : labelled_sentences (s ∷ drop (suc p) st) ≡ s ∷ labelled_sentences (drop (suc p) st) = ap (λ c. cond c (s ∷ labelled_sentences (drop (suc p) st)) (labelled_sentences (drop (suc p) st))) named in
    ap labelled_sentences (split_at st p s there) ∙ labelled_append (take p st) (s ∷ drop (suc p) st) ∙ ap (λ ys. labelled_sentences (take p st) ++ ys) rest

pub numbered_get : (st : List Sentence) (id p : ℕ) (s : Sentence) → IsNumbered st id p s → slice_get (labelled_sentences st) id ≡ Some s
numbered_get st id p s numbered =
    subst (λ n. slice_get (labelled_sentences st) n ≡ Some s) numbered.number
    (subst (λ ys. slice_get ys (length (labelled_sentences (take p st))) ≡ Some s) (sym (labelled_parts st p s numbered.there numbered.named)) (get_parted (labelled_sentences (take p st)) (labelled_sentences (drop (suc p) st)) s))

pub numbered_within : (st : List Sentence) (id p : ℕ) (s : Sentence) → IsNumbered st id p s → id < length (labelled_sentences st)
numbered_within st id p s numbered = slice_get_within (labelled_sentences st) id s (numbered_get st id p s numbered)

pub numbered_grow : (st more : List Sentence) (id p : ℕ) (s : Sentence) → IsNumbered st id p s → IsNumbered (st ++ more) id p s
numbered_grow st more id p s numbered =
    let lt = slice_get_within st p s numbered.there in
    record {
      there = get_kept st more p s numbered.there;
      named = numbered.named;
      number = subst (λ ys. length (labelled_sentences ys) ≡ id) (sym (take-append-le p st more (omega arith))) numbered.number;
    }

pub numbered_fall : (st more : List Sentence) (id p : ℕ) (s : Sentence) → p < length st → IsNumbered (st ++ more) id p s → IsNumbered st id p s
numbered_fall st more id p s lt numbered = record {
  there = get_before st more p s lt numbered.there;
  named = numbered.named;
  number = subst (λ ys. length (labelled_sentences ys) ≡ id) (take-append-le p st more (omega arith)) numbered.number;
}

-- the last statement's number
pub numbered_last : (st : List Sentence) (e : Sentence) → is_some e.label ≡ true → IsNumbered (st ++ e ∷ []) (length (labelled_sentences st)) (length st) e
numbered_last st e named = record {
  there = get_pushed st e;
  named = named;
  number = ap (λ ys. length (labelled_sentences ys)) (take-append_seam st (e ∷ []));
}

-- a number is smaller than that of a labelled statement further on
pub numbered_rise : (st : List Sentence) (i j p q : ℕ) (s t : Sentence) → IsNumbered st i p s → IsNumbered st j q t → p < q → i < j
numbered_rise st i j p q s t first second lt =
    let prefix : IsNumbered (take q st) i p s = record {
      there = get_in_front st q p s lt first.there;
      named = first.named;
      number = rw (take-take p q st (omega arith)) first.number;
    } in
    let h = numbered_within (take q st) i p s prefix in
    omega arith

-- a number is that of one statement
pub numbered_unique : (st : List Sentence) (id p q : ℕ) (s t : Sentence) → IsNumbered st id p s → IsNumbered st id q t → (p ≡ q) × (s ≡ t)
numbered_unique st id p q s t first second =
    let other = numbered_get st id q t second in
    let index : p ≡ q = elim (cases_order p q) [
      | inl same ↦ same
      | inr (inl lt) ↦ absurd (let h = numbered_rise st id id p q s t first second lt in omega arith)
      | inr (inr gt) ↦ absurd (let h = numbered_rise st id id q p t s second first gt in omega arith)
    ] in
    (index, cc)

-- each labelled statement has a number
pub numbered_at : (st : List Sentence) (p : ℕ) (s : Sentence) → slice_get st p ≡ Some s → is_some s.label ≡ true → IsNumbered st (length (labelled_sentences (take p st))) p s
numbered_at st p s there named = record { there = there; named = named; number = refl }

-- each number below how many labelled statements there are is that of one
step : (x : Sentence) (st : List Sentence) (i p : ℕ) (s : Sentence) (b : Bool) → is_some x.label ≡ b → IsNumbered st i p s → IsNumbered (x ∷ st) (cond b (suc i) i) (suc p) s
step x st i p s b is numbered = record {
  there = numbered.there;
  named = numbered.named;
  number = ap (λ c. length (cond c (x ∷ labelled_sentences (take p st)) (labelled_sentences (take p st)))) is ∙ counted b;
}
  where
    counted : (b : Bool) → length (cond b (x ∷ labelled_sentences (take p st)) (labelled_sentences (take p st))) ≡ cond b (suc i) i
    counted true = ap suc numbered.number
    counted false = numbered.number

some_by : (x : Sentence) (st : List Sentence) → ((i : ℕ) → i < length (labelled_sentences st) → (p : ℕ) × (s : Sentence) × IsNumbered st i p s) → (b : Bool) → is_some x.label ≡ b
    → (i : ℕ) → i < length (cond b (x ∷ labelled_sentences st) (labelled_sentences st)) → (p : ℕ) × (s : Sentence) × IsNumbered (x ∷ st) i p s
some_by x st rest true is zero lt = (0, x, record { there = refl; named = is; number = refl })
some_by x st rest true is (suc i) lt = let (p, s, numbered) = rest i (omega arith) in (suc p, s, step x st i p s true is numbered)
some_by x st rest false is i lt = let (p, s, numbered) = rest i lt in (suc p, s, step x st i p s false is numbered)

pub numbered_some : (st : List Sentence) (i : ℕ) → i < length (labelled_sentences st) → (p : ℕ) × (s : Sentence) × IsNumbered st i p s
numbered_some [] i lt = absurd (omega arith)
numbered_some (x ∷ st) i lt = some_by x st (numbered_some st) (is_some x.label) refl i lt

-- what stands among the labelled statements at a number
pub numbered_from_get : (st : List Sentence) (i : ℕ) (s : Sentence) → slice_get (labelled_sentences st) i ≡ Some s → (p : ℕ) × IsNumbered st i p s
numbered_from_get st i s there =
    let (p, t, numbered) = numbered_some st i (slice_get_within (labelled_sentences st) i s there) in
    let same : t ≡ s = let at = numbered_get st i p t numbered in cc in
    (p, subst (IsNumbered st i p) same numbered)

-- the labelled statements stay at their indices
pub labelled_grow : (st more : List Sentence) (i : ℕ) (s : Sentence) → slice_get (labelled_sentences st) i ≡ Some s → slice_get (labelled_sentences (st ++ more)) i ≡ Some s
labelled_grow st more i s there = subst (λ ys. slice_get ys i ≡ Some s) (sym (labelled_append st more)) (get_kept (labelled_sentences st) (labelled_sentences more) i s there)

-- there are no more labelled statements than statements
pub labelled_few : (st : List Sentence) → length (labelled_sentences st) ≤ length st
labelled_few st =
    let both = length-filter_both (λ (s : Sentence). is_some s.label)
    (λ s. not (is_some s.label)) (λ s. refl) st in
    omega arith

-- ==== the laws hold

pub one_number_holds : OneNumber
one_number_holds st more x = (
  ((λ declared. number_from_declared st x declared), (λ (n, there). declared_from_number st x n there)),
  (λ m n at_m at_n. symbols_unique st m n x at_m at_n),
  (λ y n at_x at_y. one_there (symbols_of st) n x y at_x at_y),
  (λ n there. symbols_grow st more n x there),
)
