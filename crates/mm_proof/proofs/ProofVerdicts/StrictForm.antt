-- The strict form of a proof, as the code judges it by the numbers of its labels and of its moves.
use Rattle.std.proofs.Common.{◌≡◌, ℕ, zero, suc, ◌+◌, ◌-◌, ◌<◌, ◌≤◌, List, [], ◌∷◌, ◌++◌, length}
use Rattle.std.proofs.Common.{take, get_or, slice_get, Contains, Bool, true, false, Option, Some}
use Rattle.std.proofs.Common.{None, ◌⊎◌, ◌↔◌, inl, inr, ⊎_elim, refl, sym, ap, subst, ◌∙◌, arith}
use Rattle.std.proofs.Common.{map, drop, append_assoc, MatchOption}
use Rattle.std.proofs.lemmas.Option.{same_Some, slice_get_within, none-some}
use Rattle.std.proofs.lemmas.Bool.{cases_lt, cases_order}
use Rattle.std.proofs.lemmas.List.{length-map, length-take, map_more, take-map, length-append}
use Rattle.std.proofs.lemmas.List.{length-take-le}
use Rattle.std.proofs.lemmas.List.Elements.{Contains-append_left, Contains-push}
use Rattle.std.proofs.lemmas.List.Elements.{Contains-push_cases}
use Rattle.mm_frame.specs.declared.number.LabelId.{LabelId}
use Rattle.mm_frame.specs.Sentence.{Sentence, SomeSentence, IsLabelled, IsHypothesis, IsAssertion}
use Rattle.mm_code.specs.declared.code.Code.{Code}
use Rattle.mm_code.specs.declared.code.Code.TheVariants.{Number, Tag}
use Rattle.mm_step.specs.Moves.{name, mark, Move, again}
use Rattle.mm_step.specs.Plain.{ids_in}
use Rattle.mm_proof.specs.Mirror.CodeSteps.{code_move, code_moves, move_by, AreFor}
use Rattle.mm_step.specs.Mirror.CodeSteps.{MayBeUsed}
use Rattle.mm_proof.proofs.ProofTokens.ProofCodes.{code_there}
use Rattle.mm_proof.specs.Mirror.CodeSharing.{AddsNew}
use Rattle.mm_proof.specs.Mirror.CodeForm.{IsOld, AllNew, IsFirstOld, IsAfterAssertion}
use Rattle.mm_proof.specs.Mirror.CodeForm.{AreMarksStrict, IsFirstLoose, IsLooseBy}
use Rattle.mm_proof.specs.declared.form.Loose.{Loose}
use Rattle.mm_proof.specs.declared.form.Loose.TheVariants as loose
use Rattle.mm_proof.specs.WholePlaces.{IsSpareLabel, IsLooseMark}
use Rattle.mm_step.proofs.ByNumbers.CalledAssertions.{entry_at}
use Rattle.mm_proof.proofs.ProofNumbers.UsedAssertions.{named_by}
use Rattle.std.specs.List.{AllByRecursion, AllZip}
use Rattle.mm_base.proofs.Lists.{zip_left, zip_right, all_at, split_at, get_before, get_parted}
use Rattle.mm_base.proofs.Lists.{get_take, get_from_take, at_from_contains, contains_from_at}
use Rattle.mm_base.proofs.Lists.{mapped_zip, get_kept}
use Rattle.mm_frame.specs.Rules.{AllMeant}
use Rattle.mm_frame.specs.Frame.{AreMandatory}
use Rattle.mm_frame.specs.FrameIndex.{AreHypotheses}
use Rattle.mm_frame.specs.Numbers.{labelled_sentences, IsNumbered}
use Rattle.mm_frame.proofs.Frames.FrameLaws.{mandatory_unique}
use Rattle.mm_frame.proofs.Names.LabelNumbers.{numbered_get, numbered_from_get, numbered_unique}
use Rattle.mm_proof.specs.Tokens.{IsCompressed, BeginsList, opening_token}
use Rattle.mm_step.specs.Steps.{IsNumberedMove, AreNumberedMoves, AreSteps, IsUsable, IsUsableMove}
use Rattle.mm_step.specs.Steps.{IsProofNumber}
use Rattle.mm_proof.proofs.ProofVerdicts.JudgedMoves.{usable_names}
use Rattle.mm_proof.specs.Parsed.{OfProof, SaySteps}
use Rattle.mm_proof.specs.Strict.{IsStrictList, EndWithAssertion, MarkAssertions, IsStrict}
use Rattle.mm_step.proofs.ProofSteps.OneStep.{one_label, one_labelled, not_both_kinds}
use Rattle.mm_step.proofs.ByNumbers.OneIndex.{one_index}
use Rattle.mm_proof.proofs.ProofTokens.SaidMoves.{moves_once}

-- ==== labels that are new, one after the other

-- what is among numbers with one more behind them
push_has : (old : List ℕ) (n x : ℕ) → Contains (old ++ n ∷ []) x ↔ (Contains old x ⊎ (n ≡ x))
push_has old n x = (
  Contains-push_cases old n x,
  ⊎_elim (Contains-append_left old (n ∷ []) x)
      (λ e. subst (Contains (old ++ n ∷ [])) e (Contains-push old n)),
)

-- what is among them after one was put behind them
added_has : (old : List ℕ) (n : ℕ) (b : Bool) (new : List ℕ) → AddsNew old n b new → (x : ℕ) → Contains new x ↔ (Contains old x ⊎ (n ≡ x))
added_has old n false new a x =
    rw a.1 ((λ h. inl h), ⊎_elim (λ o. o) (λ e. subst (Contains old) e a.0))
added_has old n true new a x = rw a.1 (push_has old n x)

-- the numbers of one label more
ids_more : (ids : List LabelId) (i : ℕ) (d : LabelId) → i < length ids → take (i + 1) (ids_in ids) ≡ take i (ids_in ids) ++ (get_or ids i d).0 ∷ []
ids_more ids i d less =
    let label : LabelId → ℕ = λ l. l.0 in
    rw (take-map label (i + 1) ids, take-map label i ids, map_more label ids i d less)

-- so far each is new, and these are seen
pub record NewSoFar (first seen ids : List ℕ) (i : ℕ) : Type 0 where
  pub new : (j : ℕ) → j < i → ¬ (IsOld first ids j)
  pub has : (x : ℕ) → Contains seen x ↔ (Contains first x ⊎ Contains (take i ids) x)

pub new_none : (first : List ℕ) (ids : List ℕ) → NewSoFar first first ids 0
new_none first ids = record {
  new = λ j less. absurd (omega arith);
  has = λ x. ((λ h. inl h), ⊎_elim (λ f. f) (λ n. absurd (omega (arith, n.1, length-take 0 ids))));
}

-- one more that is new
pub new_one : (first seen next : List ℕ) (ids : List LabelId) (i : ℕ) (d : LabelId) (b : Bool)
    → i < length ids → NewSoFar first seen (ids_in ids) i → AddsNew seen (get_or ids i d).0 b next
    → b ≡ true → NewSoFar first next (ids_in ids) (i + 1)
new_one first seen next ids i d b less so added is =
    let a = subst (λ (c : Bool). AddsNew seen (get_or ids i d).0 c next) is added in
    let here : ¬ (IsOld first (ids_in ids) i) = λ (id, at, among).
    let one : (get_or ids i d).0 ≡ id =
    same_Some (get_or ids i d).0 id (sym (entry_at ids i d less) ∙ at) in
    a.0 (subst (Contains seen) (sym one) ((so.has id).1 among)) in
    record {
      new = λ j below. elim (cases_lt j i) [
        | inl l ↦ so.new j l
        | inr m ↦
            let same : i ≡ j = omega arith in
            subst (λ (k : ℕ). ¬ (IsOld first (ids_in ids) k)) same here
      ];
      has = λ x.
          let grown = added_has seen (get_or ids i d).0 true next a x in
          let pushed = push_has (take i (ids_in ids)) (get_or ids i d).0 x in
          rw (ids_more ids i d less) (
            λ h. ⊎_elim
                (λ s. ⊎_elim (λ f. inl f) (λ t. inr (pushed.1 (inl t))) ((so.has x).0 s))
                (λ e. inr (pushed.1 (inr e))) (grown.0 h),
            λ h. grown.1 (⊎_elim (λ f. inl ((so.has x).1 (inl f)))
                (λ t. ⊎_elim (λ b. inl ((so.has x).1 (inr b))) (λ e. inr e) (pushed.0 t)) h),
          );
    }

pub new_all : (first seen : List ℕ) (ids : List LabelId) (i : ℕ) → length ids ≤ i
    → NewSoFar first seen (ids_in ids) i → AllNew first (ids_in ids)
new_all first seen ids i past so j (id, at, among) =
    so.new j (omega (arith, slice_get_within (ids_in ids) j id at, length-map ids (λ l. l.0)))
    (id, at, among)

pub old_here : (first seen next : List ℕ) (ids : List LabelId) (i : ℕ) (d : LabelId) (b : Bool)
    → i < length ids → NewSoFar first seen (ids_in ids) i → AddsNew seen (get_or ids i d).0 b next
    → b ≡ false → IsFirstOld first (ids_in ids) i
old_here first seen next ids i d b less so added is =
    let a = subst (λ (c : Bool). AddsNew seen (get_or ids i d).0 c next) is added in (
      ((get_or ids i d).0, entry_at ids i d less, (so.has (get_or ids i d).0).0 a.0),
      so.new,
    )

-- ---- labels of hypotheses, put into a set one after the other

pub set_more : (old new hids more : List ℕ) (n : ℕ) (b : Bool) → ((x : ℕ) → Contains old x ↔ Contains hids x) → AddsNew old n b new → more ≡ hids ++ n ∷ []
    → (x : ℕ) → Contains new x ↔ Contains more x
set_more old new hids more n b same a is x =
    let grown = added_has old n b new a x in
    let pushed = push_has hids n x in
    rw is (
      λ h. pushed.1 (⊎_elim (λ o. inl ((same x).0 o)) (λ e. inr e) (grown.0 h)),
      λ h. grown.1 (⊎_elim (λ o. inl ((same x).1 o)) (λ e. inr e) (pushed.0 h)),
    )

module _ (seen hids ids : List ℕ) (same : ((x : ℕ) → Contains seen x ↔ Contains hids x)) where
  old_seen : (j : ℕ) → IsOld seen ids j → IsOld hids ids j
  old_seen j (id, at, o) = (id, at, ⊎_elim (λ h. inl ((same id).0 h)) (λ t. inr t) o)

  seen_old : (j : ℕ) → IsOld hids ids j → IsOld seen ids j
  seen_old j (id, at, o) = (id, at, ⊎_elim (λ h. inl ((same id).1 h)) (λ t. inr t) o)

  -- the first that isn't new stands where it did
  pub old_found : (found : Option ℕ) → MatchOption found (AllNew seen ids) (IsFirstOld seen ids)
      → MatchOption found (AllNew hids ids) (IsFirstOld hids ids)
  old_found None new = λ j old. new j (seen_old j old)
  old_found (Some j) (old, first) =
      (old_seen j old, λ k less other. first k less (seen_old k other))

-- ---- codes

code_mark : (ids : List ℕ) (c : Code) → code_move ids c ≡ mark → c ≡ Tag
code_mark ids Tag e = refl
code_mark ids (Number n) e = absurd (entry_moves (slice_get ids (n - 1)) (n - 1 - length ids) e)
  where
    entry_moves : (o : Option ℕ) (tag : ℕ) → move_by o tag ≡ mark → ⊥
    entry_moves (Some id) tag e = cc
    entry_moves None tag e = cc

pub code_name : (ids : List ℕ) (c : Code) (id : ℕ) → code_move ids c ≡ name id → (n : ℕ) × (c ≡ Number n) × (slice_get ids (n - 1) ≡ Some id)
code_name ids Tag id e = absurd cc
code_name ids (Number n) id e = (n, refl, entry_named (slice_get ids (n - 1)) (n - 1 - length ids) e)
  where
    entry_named : (o : Option ℕ) (tag : ℕ) → move_by o tag ≡ name id → o ≡ Some id
    entry_named (Some k) tag e = cc
    entry_named None tag e = absurd cc

-- the code before an index, where its move is a step by a label
pub code_before : (ids : List ℕ) (said : List Code) (index before : ℕ) (d c : Code) (id : ℕ) → index ≡ before + 1 → index < length said → get_or said (index - 1) d ≡ c
    → slice_get (code_moves ids said) before ≡ Some (name id) → (n : ℕ) × (c ≡ Number n) × (slice_get ids (n - 1) ≡ Some id)
code_before ids said index before d c id is less here there =
    let at : index - 1 ≡ before = omega (arith, is) in
    let moved = same_Some _ (name id) (sym (code_there ids said before d (omega (arith, is, less))) ∙ there) in
    code_name ids c id (ap (code_move ids) (sym here ∙ ap (λ k. get_or said k d) at) ∙ moved)

-- one mark more
pub marks_more : (st : List Sentence) (ids : List ℕ) (said : List Code) (i : ℕ) (d : Code) → i < length said
    → ((k : ℕ) → k < i → slice_get (code_moves ids said) k ≡ Some mark → IsAfterAssertion st (code_moves ids said) k)
    → (get_or said i d ≡ Tag → IsAfterAssertion st (code_moves ids said) i)
    → (k : ℕ) → k < i + 1 → slice_get (code_moves ids said) k ≡ Some mark → IsAfterAssertion st (code_moves ids said) k
marks_more st ids said i d less before here k below at = elim (cases_lt k i) [
  | inl l ↦ before k l at
  | inr m ↦
      let same : k ≡ i = omega arith in
      let marked = same_Some (code_move ids (get_or said i d)) mark (sym (code_there ids said i d less) ∙ ap (slice_get (code_moves ids said)) (sym same) ∙ at) in
      subst (IsAfterAssertion st (code_moves ids said)) (sym same) (here (code_mark ids (get_or said i d) marked))
]

pub marks_all : (st : List Sentence) (ids : List ℕ) (said : List Code) (i : ℕ) → length said ≤ i
    → ((k : ℕ) → k < i → slice_get (code_moves ids said) k ≡ Some mark → IsAfterAssertion st (code_moves ids said) k) → AreMarksStrict st (code_moves ids said)
marks_all st ids said i past before k at = before k (omega (arith, slice_get_within (code_moves ids said) k mark at, length-map said (code_move ids))) at

-- ==== the strict form of a proof, by the numbers of its labels and of its moves

-- ---- labels and their numbers

-- one number for one label
number_once : (st : List Sentence) (p q a b : ℕ) (s t : Sentence) (label : List ℕ) → AllMeant st → IsNumbered st a p s → IsNumbered st b q t → IsLabelled label s → IsLabelled label t → a ≡ b
number_once st p q a b s t label all n m ls lt =
    sym n.number ∙ ap (λ k. length (labelled_sentences (take k st))) (one_label st p q s t label all n.there m.there ls lt) ∙ m.number

-- what a list tells, index by index
pub told_each : {X Y : Type 0} (f : X → Option Y) (xs : List X) (ys : List Y)
    → map f xs ≡ map Some ys → AllZip (λ x y. f x ≡ Some y) xs ys
told_each f xs ys is = mapped_zip f Some (λ x y. f x ≡ Some y) (λ x y same. same) xs ys is

-- ---- the list

-- where nothing stands behind itself, each stands once
pub once_from : {X : Type 0} (xs : List X)
    → ((i : ℕ) (x : X) → slice_get xs i ≡ Some x → ¬ (Contains (take i xs) x))
    → (i j : ℕ) (x : X) → slice_get xs i ≡ Some x → slice_get xs j ≡ Some x → i ≡ j
once_from xs new i j x p q = elim (cases_order i j) [
  | inl e ↦ e
  | inr (inl l) ↦ absurd (new j x q (contains_from_at (take j xs) x (i, get_take xs j i l ∙ p)))
  | inr (inr m) ↦ absurd (new i x p (contains_from_at (take i xs) x (j, get_take xs i j m ∙ q)))
]

-- where no label is spare the list is strict
strict_list : (before : List Sentence) (s : Sentence) (labels : List (List ℕ))
    → ((j : ℕ) → ¬ (IsSpareLabel before s labels j)) → IsStrictList before s labels
strict_list before s labels none = record {
  once = once_from labels (λ j label at has. none j (label, at, inl has));
  optional = λ hypotheses h label mandatory has named among.
      let l = at_from_contains labels label among in
      none l.0 (label, l.1, inr (hypotheses, mandatory, h, has, named));
}

loose_list : (before : List Sentence) (s : Sentence) (labels : List (List ℕ)) (j : ℕ)
    → IsSpareLabel before s labels j → ¬ (IsStrictList before s labels)
loose_list before s labels j (label, at, inl has) strict =
    let k = at_from_contains (take j labels) label has in
    let f = get_from_take labels j k.0 label k.1 in
    absurd (omega (arith, f.0, strict.once k.0 j label f.1 at))
loose_list before s labels j (label, at, inr (hypotheses, mandatory, h, has, named)) strict =
    strict.optional hypotheses h label mandatory has named
    (contains_from_at labels label (j, at))

-- a label is spare where its number isn't new
module _ (st : List Sentence) (index : ℕ) (s : Sentence) (hids ids : List ℕ)
    (labels : List (List ℕ)) (all : AllMeant st) (there : slice_get st index ≡ Some s)
    (h : AreHypotheses (record { statements = st; index = index }) hids)
    (each : AreFor st index ids labels)
  where
    mine : AreMandatory (take index st) s h.hypotheses
    mine =
        subst (λ (a : Sentence). AreMandatory (take index st) a h.hypotheses)
        (same_Some h.assertion s (sym h.there ∙ there)) h.mandatory

    told : AllZip (λ n g. slice_get (labelled_sentences st) n ≡ Some g) hids h.hypotheses
    told = told_each (slice_get (labelled_sentences st)) hids h.hypotheses h.numbered

    spare_of_old : (j : ℕ) → IsOld hids ids j → IsSpareLabel (take index st) s labels j
    spare_of_old j (id, at, inl among) =
        let l = zip_left (λ n k. MayBeUsed st index k n) ids labels j id each at in
        let k = at_from_contains hids id among in
        let g = zip_left _ hids h.hypotheses k.0 id told k.1 in
        let same : l.2.s ≡ g.0 =
        same_Some l.2.s g.0 (sym (numbered_get st id l.2.at l.2.s l.2.numbered) ∙ g.2) in (
          l.0,
          l.1,
          inr (
            h.hypotheses,
            mine,
            g.0,
            contains_from_at h.hypotheses g.0 (k.0, g.1),
            subst (IsLabelled l.0) same l.2.named,
          ),
        )
    spare_of_old j (id, at, inr before) =
        let k = at_from_contains (take j ids) id before in
        let f = get_from_take ids j k.0 id k.1 in
        let a = zip_left (λ n l. MayBeUsed st index l n) ids labels k.0 id each f.1 in
        let b = zip_left (λ n l. MayBeUsed st index l n) ids labels j id each at in
        let one = (numbered_unique st id _ _ _ _ a.2.numbered b.2.numbered).1 in
        let same = same_Some a.0 b.0 (sym (subst (IsLabelled a.0) one a.2.named) ∙ b.2.named) in (
          b.0,
          b.1,
          inl (contains_from_at (take j labels) b.0
              (k.0, get_take labels j k.0 f.0 ∙ a.1 ∙ ap Some same)),
        )

    old_of_spare : (j : ℕ) → IsSpareLabel (take index st) s labels j → IsOld hids ids j
    old_of_spare j (label, at, inl has) =
        let k = at_from_contains (take j labels) label has in
        let f = get_from_take labels j k.0 label k.1 in
        let a = zip_right (λ id l. MayBeUsed st index l id) ids labels k.0 label each f.1 in
        let b = zip_right (λ id l. MayBeUsed st index l id) ids labels j label each at in
        let same : a.0 ≡ b.0 =
        number_once st a.2.at b.2.at a.0 b.0 a.2.s b.2.s label all a.2.numbered b.2.numbered
        a.2.named b.2.named in (
          b.0,
          b.1,
          inr (contains_from_at (take j ids) b.0
              (k.0, get_take ids j k.0 f.0 ∙ a.1 ∙ ap Some same)),
        )
    old_of_spare j (label, at, inr (hypotheses, mandatory, g, has, named)) =
        let same : hypotheses ≡ h.hypotheses =
        mandatory_unique (take index st) s hypotheses h.hypotheses mandatory mine in
        let k =
        at_from_contains h.hypotheses g (subst (λ (l : List Sentence). Contains l g) same has) in
        let n = zip_right _ hids h.hypotheses k.0 g told k.1 in
        let p = numbered_from_get st n.0 g n.2 in
        let b = zip_right (λ id l. MayBeUsed st index l id) ids labels j label each at in
        let one : n.0 ≡ b.0 =
        number_once st p.0 b.2.at n.0 b.0 g b.2.s label all p.1 b.2.numbered named b.2.named in
        (b.0, b.1, inl (subst (Contains hids) one (contains_from_at hids n.0 (k.0, n.1))))

-- ---- the marks

marks_mark : (st : List Sentence) (x : Move ℕ) → IsNumberedMove st x mark → x ≡ mark
marks_mark st (name id) n = absurd (let e = n.4 in cc)
marks_mark st (again tag) n = absurd (let e : mark ≡ again tag = n in cc)
marks_mark st mark n = refl

pub last_of : {X : Type 0} (xs : List X) (b : ℕ) (x : X) → length xs ≡ b + 1 → slice_get xs b ≡ Some x → (earlier : List X) × (xs ≡ earlier ++ x ∷ [])
last_of [] b x long e = absurd (none-some x e)
last_of (y ∷ []) zero x long e = ([], ap (λ z. z ∷ []) (same_Some y x e))
last_of (y ∷ []) (suc b) x long e = absurd (none-some x e)
last_of (y ∷ z ∷ xs) zero x long e = absurd (omega arith)
last_of (y ∷ z ∷ xs) (suc b) x long e =
    let rest = last_of (z ∷ xs) b x (omega arith) e in (y ∷ rest.0, ap (λ l. y ∷ l) rest.1)

-- of an assertion's label
assertion_usable : (st : List Sentence) (index : ℕ) (label : List ℕ) (p : ℕ) (a : Sentence) → AllMeant st → slice_get st p ≡ Some a → IsLabelled label a → IsAssertion a.kind
    → IsUsable (take index st) label → SomeSentence (take index st) (λ b. IsLabelled label b × IsAssertion b.kind)
assertion_usable st index label p a all there named kind (inr b) = b
assertion_usable st index label p a all there named kind (inl h) =
    let f = get_from_take st index h.0 h.1 h.2 in
    let same : h.1 ≡ a = one_labelled st h.0 p h.1 a label all f.1 there h.4.0 named in
    absurd (not_both_kinds a.kind (subst (λ (x : Sentence). IsHypothesis x.kind) same h.4.1) kind)

-- moves behind which one by an assertion's number stands end with a step by its label
module _ (st : List Sentence) (index : ℕ) (steps : List (Move ℕ)) (moves : List (Move (List ℕ)))
    (all : AllMeant st) (numbered : AreNumberedMoves st steps moves)
  where
    marked : (k : ℕ) → slice_get moves k ≡ Some mark → slice_get steps k ≡ Some mark
    marked k at =
        let x = zip_right (IsNumberedMove st) steps moves k mark numbered at in
        x.1 ∙ ap Some (marks_mark st x.0 x.2)

    after_named : AllByRecursion (IsUsableMove (take index st)) moves
        → (prefix rest : List (Move (List ℕ))) → moves ≡ prefix ++ rest
        → IsAfterAssertion st steps (length prefix) → EndWithAssertion (take index st) prefix
    after_named usable prefix rest parts (b, id, is, at, (p, a, number, kind)) =
        let y = zip_left (IsNumberedMove st) steps moves b (name id) numbered at in
        let label = y.2.1 in
        let moved : slice_get moves b ≡ Some (name label) = y.1 ∙ ap Some y.2.4 in
        let held : slice_get prefix b ≡ Some (name label) =
        get_before prefix rest b (name label) (omega (arith, is))
        (ap (λ l. slice_get l b) (sym parts) ∙ moved) in
        let last = last_of prefix b (name label) is held in
        let same : y.2.0 ≡ a = same_Some y.2.0 a (sym y.2.2 ∙ numbered_get st id p a number) in (
          last.0,
          label,
          last.1,
          assertion_usable st index label p a all number.there
              (subst (IsLabelled label) same y.2.3) kind
              (all_at (IsUsableMove (take index st)) moves b (name label) usable moved),
        )

    after_numbered : (prefix rest : List (Move (List ℕ))) → moves ≡ prefix ++ rest
        → EndWithAssertion (take index st) prefix → IsAfterAssertion st steps (length prefix)
    after_numbered prefix rest parts (earlier, label, ends, (at, a, there, (named, kind))) =
        let b = length earlier in
        let held : slice_get prefix b ≡ Some (name label) =
        ap (λ l. slice_get l b) ends ∙ get_parted earlier [] (name label) in
        let moved : slice_get moves b ≡ Some (name label) =
        ap (λ l. slice_get l b) parts ∙ get_kept prefix rest b (name label) held in
        let x = zip_right (IsNumberedMove st) steps moves b (name label) numbered moved in
        let n = named_by st x.0 label x.2 in
        let p = numbered_from_get st n.0 n.1 n.3 in
        let f = get_from_take st index at a there in
        let same = one_labelled st at p.0 a n.1 label all f.1 p.1.there named n.4 in (
          b,
          n.0,
          omega (arith, ap length ends, length-append earlier (name label ∷ [])),
          x.1 ∙ ap Some n.2,
          (p.0, n.1, p.1, subst (λ (c : Sentence). IsAssertion c.kind) same kind),
        )

    strict_marks : AllByRecursion (IsUsableMove (take index st)) moves → AreMarksStrict st steps
        → MarkAssertions (take index st) moves
    strict_marks usable strict prefix after parts =
        let at : slice_get moves (length prefix) ≡ Some mark =
        ap (λ l. slice_get l (length prefix)) parts ∙ get_parted prefix after mark in
        after_named usable prefix (mark ∷ after) parts (strict (length prefix) (marked _ at))

    -- the first mark that doesn't stand so
    loose_marks : AllByRecursion (IsUsableMove (take index st)) moves → (k : ℕ)
        → IsFirstLoose st steps k → IsLooseMark (take index st) moves k
    loose_marks usable k (at, loose, strict) =
        let y = zip_left (IsNumberedMove st) steps moves k mark numbered at in
        let moved : slice_get moves k ≡ Some mark = y.1 ∙ ap Some y.2 in
        let front = take k moves in
        let rest = mark ∷ drop (suc k) moves in
        let parts : moves ≡ front ++ rest = split_at moves k mark moved in
        let less = slice_get_within moves k mark moved in
        let long : k ≡ length front = sym (length-take-le k moves (omega (arith, less))) in (
          front,
          drop (suc k) moves,
          parts,
          long,
          (λ prefix after inner.
              let whole : moves ≡ prefix ++ ((mark ∷ after) ++ rest) =
              parts ∙ ap (λ l. l ++ rest) inner ∙ append_assoc prefix (mark ∷ after) rest in
              let there : slice_get moves (length prefix) ≡ Some mark =
              ap (λ l. slice_get l (length prefix)) whole
              ∙ get_parted prefix (after ++ rest) mark in
              let below : length prefix < k =
              omega (arith, long, ap length inner, length-append prefix (mark ∷ after)) in
              after_named usable prefix ((mark ∷ after) ++ rest) whole
              (strict (length prefix) below (marked _ there))),
          (λ ends. loose (subst (IsAfterAssertion st steps) (sym long)
              (after_numbered front rest parts ends))),
        )

-- the step before a mark of moves whose marks stand so
pub step_before : (before : List Sentence) (moves : List (Move (List ℕ))) (k : ℕ)
    → MarkAssertions before moves → slice_get moves k ≡ Some mark
    → (b : ℕ) × (label : List ℕ) × (k ≡ b + 1) × (slice_get moves b ≡ Some (name label))
    × SomeSentence before (λ a. IsLabelled label a × IsAssertion a.kind)
step_before before moves k strict marked =
    let m = strict (take k moves) (drop (suc k) moves) (split_at moves k mark marked) in
    let less = slice_get_within moves k mark marked in
    let more = length-append m.0 (name m.1 ∷ []) in
    let long : k ≡ length m.0 + 1 = omega (arith, ap length m.2, more, length-take k moves, less) in
    let held = ap (λ l. slice_get l (length m.0)) m.2 ∙ get_parted m.0 [] (name m.1) in
    (length m.0, m.1, long, (get_from_take moves k (length m.0) (name m.1) held).1, m.3)

-- ---- the form

-- a proof that isn't compressed has the form
pub strict_normal : (before : List Sentence) (s : Sentence) (tokens : List (List ℕ)) → ¬ (slice_get tokens 0 ≡ Some opening_token) → IsStrict before s tokens
strict_normal before s tokens normal = record {
  listed = λ labels letters c. absurd (normal (ap (λ l. slice_get l 0) c.whole));
  marked = λ moves c. absurd (normal (ap (λ l. slice_get l 0) c.parts.whole));
}

-- ---- wherever the statement with the number stands

module _ (st : List Sentence) (id own : ℕ) (t : Sentence) (tokens : List (List ℕ))
    (hids ids : List ℕ) (steps : List (Move ℕ)) (all : AllMeant st)
    (number : IsNumbered st id own t)
    (h : AreHypotheses (record { statements = st; index = own }) hids)
    (each : (labels letters : List (List ℕ)) → IsCompressed tokens labels letters
    → AreFor st own ids labels)
    (says : OfProof st id (λ index s. SaySteps st index s tokens steps))
  where
    module _ (index : ℕ) (s : Sentence) (proof : IsProofNumber st id index s) where
      here : own ≡ index
      here = one_index st id own index t s number proof.numbered

      there : AreHypotheses (record { statements = st; index = index }) hids
      there = subst (λ k. AreHypotheses (record { statements = st; index = k }) hids) here h

      for_labels : (labels letters : List (List ℕ)) → IsCompressed tokens labels letters
          → AreFor st index ids labels
      for_labels labels letters c =
          subst (λ k. AreFor st k ids labels) here (each labels letters c)

      spare_here : (labels letters : List (List ℕ)) → IsCompressed tokens labels letters → (j : ℕ)
          → IsOld hids ids j → IsSpareLabel (take index st) s labels j
      spare_here labels letters c =
          spare_of_old st index s hids ids labels all proof.numbered.there there
          (for_labels labels letters c)

      old_here_of : (labels letters : List (List ℕ)) → IsCompressed tokens labels letters
          → (j : ℕ) → IsSpareLabel (take index st) s labels j → IsOld hids ids j
      old_here_of labels letters c =
          old_of_spare st index s hids ids labels all proof.numbered.there there
          (for_labels labels letters c)

    pub strict_all : AreSteps st id steps → AllNew hids ids → AreMarksStrict st steps
        → OfProof st id (λ index s. IsStrict (take index st) s tokens)
    strict_all made new marks index s proof =
        let said = says index s proof in
        let usable = usable_names st id steps index s said.1 made proof.numbered said.3 in
        record {
          listed = λ labels letters c. strict_list (take index st) s labels
              (λ j spare. new j (old_here_of index s proof labels letters c j spare));
          marked = λ others c. subst (MarkAssertions (take index st))
              (moves_once (take index st) s tokens said.1 others said.2 (inr c))
              (strict_marks st index steps said.1 all said.3 usable marks);
        }

    -- a compressed one that isn't strict: the first label that is spare, or the first loose mark
    pub loose_label : BeginsList tokens → (k : ℕ) → IsFirstOld hids ids k
        → OfProof st id (λ index s. IsLooseBy (take index st) s tokens (loose.Label k))
    loose_label begins k (old, first) index s proof = elim ((says index s proof).2) [
      | inl n ↦ absurd (n.0 begins)
      | inr c ↦ (
        c.listed,
        c.letters,
        c.parts,
        spare_here index s proof c.listed c.letters c.parts k old,
        λ earlier less spare. first earlier less
            (old_here_of index s proof c.listed c.letters c.parts earlier spare),
      )
    ]

    pub loose_mark : AreSteps st id steps → BeginsList tokens → AllNew hids ids → (k : ℕ)
        → IsFirstLoose st steps k
        → OfProof st id (λ index s. IsLooseBy (take index st) s tokens (loose.Mark k))
    loose_mark made begins new k first index s proof =
        let said = says index s proof in
        let usable = usable_names st id steps index s said.1 made proof.numbered said.3 in
        elim (said.2) [
          | inl n ↦ absurd (n.0 begins)
          | inr c ↦ (
            c.listed,
            c.letters,
            c.parts,
            (λ any spare. new any
                (old_here_of index s proof c.listed c.letters c.parts any spare)),
            said.1,
            c,
            loose_marks st index steps said.1 all said.3 usable k first,
          )
        ]

-- what keeps from the strict form does
pub never_strict : (before : List Sentence) (s : Sentence) (tokens : List (List ℕ)) (it : Loose)
    → IsLooseBy before s tokens it → ¬ (IsStrict before s tokens)
never_strict before s tokens (loose.Label k) (labels, letters, c, spare, first) strict =
    loose_list before s labels k spare (strict.listed labels letters c)
never_strict before s tokens (loose.Mark k)
    (labels, letters, c, none, moves, said, (earlier, later, is, long, marks, ends)) strict =
    ends (strict.marked moves said earlier later is)
