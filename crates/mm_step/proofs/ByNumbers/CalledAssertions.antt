-- The assertions among labels, by their numbers, and the numbers that are picked.
use Rattle.std.proofs.Common.{◌≡◌, ℕ, zero, suc, List, [], ◌∷◌, ◌++◌, slice_get, Contains, Some}
use Rattle.std.proofs.Common.{◌⊎◌, inl, inr, ⊎_elim, ◌↔◌, sym, ap, subst, ◌∙◌, ◌≤◌, arith, ◌<◌}
use Rattle.std.proofs.Common.{length, refl, get_or, Less, nat_cmp, ◌+◌, Bool}
use Rattle.std.proofs.Common.{false, IsTrue}
use Rattle.std.specs.List.{AllByRecursion, AllZip}
use Rattle.std.proofs.lemmas.Option.{same_Some, none-some, slice_get_within, slice_get-get_or}
use Rattle.std.proofs.lemmas.Option.{slice_get-map}
use Rattle.std.proofs.lemmas.List.Elements.{Contains-append_left}
use Rattle.std.proofs.lemmas.List.Elements.{Contains-push}
use Rattle.std.proofs.lemmas.List.Elements.{Contains-push_cases}
use Rattle.mm_base.proofs.Lists.{all_at, zip_left, zip_right}
use Rattle.mm_frame.specs.Sentence.{Sentence, IsAssertion, IsHypothesis}
use Rattle.mm_step.specs.Moves.{Move, name}
use Rattle.std.proofs.lemmas.List.{length-map, get_or-map, map-append}
use Rattle.mm_frame.specs.Numbers.{labelled_sentences, IsNumbered, IsAssertionNumber}
use Rattle.mm_frame.proofs.Names.LabelNumbers.{numbered_get}
use Rattle.mm_step.proofs.ProofSteps.OneStep.{not_both_kinds}
use Rattle.std.specs.List.Sorted.{IsStrictlySortedBy}
use Rattle.std.proofs.lemmas.Bool.Decides.{nat_tests}
use Rattle.mm_frame.specs.declared.number.LabelId.{LabelId}
use Rattle.mm_frame.specs.declared.number.LabelKind.{LabelKind}
use Rattle.mm_frame.specs.Taken.{kind_behind}
use Rattle.mm_step.specs.Plain.{ids_in, label_ids}
use Rattle.mm_step.specs.Mirror.CodeSteps.{MayBeUsed}
use Rattle.mm_step.specs.Mirror.CodeRun.{DoRise, MayBeMade, AreMarked, AreNamedNumbers}
use Rattle.mm_frame.specs.declared.signature.Signature.{Signature}
use Rattle.mm_frame.specs.FrameIndex.{AreHypotheses, HaveTypings, ArePairs}
use Rattle.mm_frame.specs.Pieces.{variables_of, AreItsPieces, HavePatterns, HaveIndices}
use Rattle.mm_step.specs.Mirror.CodeVerify.{pairs_in}
use Rattle.mm_step.specs.Mirror.CodeApply.{IsEarlierSignature, IsCallOf, IsOfAssertion, MayBeCalled}
use Rattle.mm_step.specs.declared.call.Call.{Call}
use Rattle.std.proofs.lemmas.Bool.{false≢true, cases_lt}
use Rattle.mm_frame.specs.declared.number.LabelKind.TheVariants as label_kinds
use Rattle.mm_step.specs.declared.call.Call.TheVariants as call_kinds

-- ==== the assertions among labels, by their numbers

-- ---- what the kind of a label says

pub assertion_kind : (st : List Sentence) (index id : ℕ) (r : LabelKind) → (label : List ℕ) × MayBeUsed st index label id
    → ((s : Sentence) → slice_get (labelled_sentences st) id ≡ Some s → s.kind ≡ kind_behind r) → (r ≡ label_kinds.Axiom) ⊎ (r ≡ label_kinds.Proof) → IsAssertionNumber st id
assertion_kind st index id r used kind is =
    let m = used.1 in
    let told = kind m.s (numbered_get st id m.at m.s m.numbered) in
    (m.at, m.s, m.numbered, ⊎_elim (λ e. inl (told ∙ ap kind_behind e)) (λ e. inr (told ∙ ap kind_behind e)) is)

only_assertions : (r : LabelKind) → IsAssertion (kind_behind r) → (r ≡ label_kinds.Axiom → ⊥) → (r ≡ label_kinds.Proof → ⊥) → ⊥
only_assertions label_kinds.Axiom k a p = a refl
only_assertions label_kinds.Proof k a p = p refl
only_assertions r (inl e) a p = absurd cc
only_assertions r (inr e) a p = absurd cc

pub no_assertion : (st : List Sentence) (id : ℕ) (r : LabelKind) → ((s : Sentence) → slice_get (labelled_sentences st) id ≡ Some s → s.kind ≡ kind_behind r)
    → (r ≡ label_kinds.Axiom → ⊥) → (r ≡ label_kinds.Proof → ⊥) → IsAssertionNumber st id → ⊥
no_assertion st id r kind a p h =
    only_assertions r (subst IsAssertion (kind h.1 (numbered_get st id h.0 h.1 h.2)) h.3) a p

pub ruleset kind_steps = (assertion_kind, no_assertion)

pub listed_at : (xs : List LabelId) (i : ℕ) (d : LabelId) → i < length xs → Contains (ids_in xs) (get_or xs i d).0
listed_at xs i d less = (
  i,
  omega (arith, length-map xs (λ (x : LabelId). x.0)),
  get_or-map (λ (x : LabelId). x.0) xs i d (get_or xs i d).0 less,
)

-- ---- in order, each once

contains_number_at : (xs : List LabelId) (x : LabelId) (k : ℕ) → k < length xs → get_or xs k x ≡ x → Contains (ids_in xs) x.0
contains_number_at xs x k l e = rw e at (listed_at xs k x l)

contains_id_at : (xs : List LabelId) (n k : ℕ) → k < length (ids_in xs) → get_or (ids_in xs) k n ≡ n → Contains xs (record { 0 = n })
contains_id_at xs n k l e =
    let made : ℕ → LabelId = λ m. record { 0 = m } in
    let within : k < length xs = omega (arith, length-map xs (λ (y : LabelId). y.0)) in
    (k, within, ap made (sym (get_or-map (λ (y : LabelId). y.0) xs k (made n) n within) ∙ e))

each_above : (x : LabelId) (xs : List LabelId) (i b : ℕ) → AllByRecursion (λ (y : LabelId). nat_cmp x.0 y.0 ≡ Less) xs → slice_get (ids_in xs) i ≡ Some b → x.0 < b
each_above x [] i b all e = absurd (none-some b e)
each_above x (y ∷ xs) zero b all e = let less = all.0 in let same : y.0 ≡ b = same_Some y.0 b e in subst (λ k. x.0 < k) same (grind (arith, nat_tests))
each_above x (y ∷ xs) (suc i) b all e = each_above x xs i b all.1 e

-- sorted numbers rise
pub numbers_rise : (xs : List LabelId) → IsStrictlySortedBy (λ x y. nat_cmp x.0 y.0) xs → DoRise (ids_in xs)
unfolding IsStrictlySortedBy
numbers_rise [] h i j a b less p q = absurd (none-some a p)
numbers_rise (x ∷ xs) h i zero a b less p q = absurd (omega arith)
numbers_rise (x ∷ xs) h zero (suc j) a b less p q = subst (λ k. k < b) (same_Some x.0 a p) (each_above x xs j b h.0 q)
numbers_rise (x ∷ xs) h (suc i) (suc j) a b less p q = numbers_rise xs h.1 i j a b (omega arith) p q

-- the same labels have the same numbers
pub same_numbers : (ids sorted : List LabelId) → ((x : LabelId) → Contains ids x → Contains sorted x) → ((x : LabelId) → Contains sorted x → Contains ids x)
    → (n : ℕ) → Contains (ids_in sorted) n ↔ Contains (ids_in ids) n
same_numbers ids sorted keeps only n = (number_kept sorted ids n only, number_kept ids sorted n keeps)
  where
    number_kept : (xs ys : List LabelId) (n : ℕ) → ((x : LabelId) → Contains xs x → Contains ys x) → Contains (ids_in xs) n → Contains (ids_in ys) n
    number_kept xs ys n kept h =
        let c = kept (record { 0 = n }) (contains_id_at xs n h.0 h.1 h.2) in contains_number_at ys (record { 0 = n }) c.0 c.1 c.2

-- ==== what a label of a proof stands for, from what its frame answers

pub signature_of : (own st : List Sentence) (index id at : ℕ) (s t : Sentence) (signature : Signature) → own ≡ st → IsNumbered st id at s → IsAssertion s.kind → at < index
    → AreHypotheses (record { statements = own; index = at }) (label_ids signature.hypotheses.now) → HaveTypings own signature.hypotheses.now
    → ArePairs (record { statements = own; index = at }) (pairs_in signature.pairs.now) → HaveIndices (variables_of signature.hypotheses.now) signature.pairs.now
    → slice_get own at ≡ Some t → AreItsPieces own (variables_of signature.hypotheses.now) t signature.conclusion.now
    → HavePatterns own (variables_of signature.hypotheses.now) signature.pieces.now signature.hypotheses.now → IsEarlierSignature st index id signature
signature_of own st index id at s t signature same numbered kind before hypotheses typed pairs indexed there concluded patterned =
    let vs = variables_of signature.hypotheses.now in
    let is : t ≡ s = same_Some t s (sym there ∙ subst (λ (l : List Sentence). slice_get l at ≡ Some s) (sym same) numbered.there) in
    record {
      at = at;
      s = s;
      numbered = numbered;
      kind = kind;
      before = before;
      hypotheses = subst (λ (l : List Sentence). AreHypotheses (record { statements = l; index = at }) (label_ids signature.hypotheses.now)) same hypotheses;
      typed = subst (λ (l : List Sentence). HaveTypings l signature.hypotheses.now) same typed;
      pairs = subst (λ (l : List Sentence). ArePairs (record { statements = l; index = at }) (pairs_in signature.pairs.now)) same pairs;
      indexed = indexed;
      concluded = subst (λ (l : List Sentence). AreItsPieces l vs s signature.conclusion.now) same (subst (λ (g : Sentence). AreItsPieces own vs g signature.conclusion.now) is concluded);
      patterned = subst (λ (l : List Sentence). HavePatterns l vs signature.pieces.now signature.hypotheses.now) same patterned;
    }

-- ---- whether it is an assertion

pub called_assertion : (st : List Sentence) (at id : ℕ) (call : Call) → IsCallOf st at id call → IsOfAssertion call → IsAssertionNumber st id
called_assertion st at id (call_kinds.Hypothesis symbols) of is = absurd is
called_assertion st at id (call_kinds.Assertion signature) of is = (of.at, of.s, of.numbered, of.kind)

pub assertion_called : (st : List Sentence) (at id : ℕ) (call : Call) → IsCallOf st at id call → IsAssertionNumber st id → IsOfAssertion call
assertion_called st at id (call_kinds.Hypothesis symbols) of h =
    let used = of.1 in
    let same : used.s ≡ h.1 = same_Some used.s h.1 (sym (numbered_get st id used.at used.s used.numbered) ∙ numbered_get st id h.0 h.1 h.2) in
    not_both_kinds h.1.kind (subst (λ (s : Sentence). IsHypothesis s.kind) same of.2) h.3
assertion_called st at id (call_kinds.Assertion signature) of h = tt

-- ---- marks

pub marked_none : (entries : List ℕ) (marks : List Bool) → ((index : ℕ) → get_or marks index false ≡ false) → AreMarked entries [] marks
marked_none entries marks unset = record {
  named = λ index t. absurd (false≢true (sym (unset index) ∙ t));
  marked = λ i id e. absurd (none-some (name id) e);
}

pub none_more : (marks : List Bool) → ((index : ℕ) → get_or marks index false ≡ false) → (index : ℕ) → get_or (marks ++ false ∷ []) index false ≡ false
none_more [] unset zero = refl
none_more [] unset (suc index) = refl
none_more (m ∷ marks) unset zero = unset 0
none_more (m ∷ marks) unset (suc index) = none_more marks (λ k. unset (suc k)) index

pub ruleset mark_steps = (marked_none, none_more)

-- ---- those of the first entries at whose indices something holds

abbrev pub AreFirst : (ℕ → Type 0) → List LabelId → ℕ → List LabelId → Type 0
AreFirst P entries count ids =
    (n : ℕ) → (Contains (ids_in ids) n → (index : ℕ) × (slice_get (ids_in entries) index ≡ Some n) × P index)
    × ((index : ℕ) → index < count → slice_get (ids_in entries) index ≡ Some n → P index → Contains (ids_in ids) n)

-- it is marked, and stands for an assertion
abbrev pub IsCalledAt : List Call → List Bool → ℕ → Type 0
IsCalledAt calls marks index = IsTrue (get_or marks index false) × (call : Call) × (slice_get calls index ≡ Some call) × IsOfAssertion call

pub entry_at : (entries : List LabelId) (index : ℕ) (d : LabelId) → index < length entries → slice_get (ids_in entries) index ≡ Some (get_or entries index d).0
entry_at entries index d less = rw (slice_get-map, slice_get-get_or entries index d less)

pub first_none : (P : ℕ → Type 0) (entries : List LabelId) → AreFirst P entries 0 []
first_none P entries n = ((λ c. absurd (let less : c.0 < 0 = c.1 in omega arith)), λ index less e t. absurd (omega arith))

pub first_more : (P : ℕ → Type 0) (entries : List LabelId) (at : ℕ) (d : LabelId) (ids : List LabelId) → at < length entries → P at
    → AreFirst P entries at ids → AreFirst P entries (at + 1) (ids ++ get_or entries at d ∷ [])
first_more P entries at d ids less holds old n =
    let id = get_or entries at d in
    let more = map-append (λ (i : LabelId). i.0) ids (id ∷ []) in (
      λ h. ⊎_elim
          (λ c. (old n).0 c)
          (λ same. (at, entry_at entries at d less ∙ ap Some same, holds))
          (Contains-push_cases (ids_in ids) id.0 n (rw more at h)),
      λ index before e t. rw more (elim (cases_lt index at) [
        | inl prefix ↦ Contains-append_left (ids_in ids) (id.0 ∷ []) n ((old n).1 index prefix e t)
        | inr last ↦
            let here : at ≡ index = omega (arith, last, before) in
            let there = sym (entry_at entries at d less) ∙ ap (slice_get (ids_in entries)) here in
            subst (Contains (ids_in ids ++ id.0 ∷ [])) (same_Some id.0 n (there ∙ e))
            (Contains-push (ids_in ids) id.0)
      ]),
    )

pub first_skipped : (P : ℕ → Type 0) (entries : List LabelId) (at : ℕ) (ids : List LabelId) → (P at → ⊥) → AreFirst P entries at ids → AreFirst P entries (at + 1) ids
first_skipped P entries at ids not old n = (
  (old n).0,
  λ index before e t. ⊎_elim
      (λ prefix. (old n).1 index prefix e t)
      (λ last. let here : index ≡ at = omega (arith, last, before) in absurd (not (rw here at t)))
      (cases_lt index at),
)

-- what is said of the call there
pub called_there : (calls : List Call) (marks : List Bool) (index : ℕ) (d : Call) → index < length calls → IsTrue (get_or marks index false) × IsOfAssertion (get_or calls index d)
    → IsCalledAt calls marks index
called_there calls marks index d less (marked, is) = (marked, get_or calls index d, slice_get-get_or calls index d less, is)

pub there_called : (calls : List Call) (marks : List Bool) (index : ℕ) (d : Call) → index < length calls → IsCalledAt calls marks index
    → IsTrue (get_or marks index false) × IsOfAssertion (get_or calls index d)
there_called calls marks index d less (marked, call, there, is) =
    (marked, subst IsOfAssertion (same_Some call (get_or calls index d) (sym there ∙ slice_get-get_or calls index d less)) is)

-- an entry is before the end
pub entry_within : (entries : List LabelId) (index n : ℕ) → slice_get (ids_in entries) index ≡ Some n → index < length entries
entry_within entries index n e = omega (arith, slice_get_within (ids_in entries) index n e, length-map entries (λ (i : LabelId). i.0))

-- where each call is that of its entry, these are the assertions that the moves name
pub called_all : (st : List Sentence) (at : ℕ) (entries : List LabelId) (calls : List Call) (marks : List Bool) (count : ℕ) (ids : List LabelId) (moves : List (Move ℕ)) → length entries ≤ count
    → AreFirst (IsCalledAt calls marks) entries count ids → AllZip (MayBeCalled st at) (ids_in entries) calls → AllByRecursion (MayBeMade st at) moves → AreMarked (ids_in entries) moves marks
    → AreNamedNumbers st moves (ids_in ids)
called_all st at entries calls marks count ids moves past all each made marked n = (
  λ c.
      let o = (all n).0 c in
      let m = marked.named o.0 o.2.0 in
      let call = zip_right (MayBeCalled st at) (ids_in entries) calls o.0 o.2.1 each o.2.2 in
      let same : call.0 ≡ n = same_Some call.0 n (sym call.1 ∙ o.1) in
      let there = m.3 ∙ ap (λ k. Some (name k)) (same_Some m.1 n (sym m.2 ∙ o.1)) in
      let used = all_at (MayBeMade st at) moves m.0 (name n) made there in (
        (m.0, there),
        called_assertion st at n o.2.1 (subst (λ k. MayBeCalled st at k o.2.1) same call.2 used.0 used.1) o.2.3,
      ),
  λ h.
      let o = marked.marked h.0.0 n h.0.1 in
      let call = zip_left (MayBeCalled st at) (ids_in entries) calls o.0 n each o.1 in
      let used = all_at (MayBeMade st at) moves h.0.0 (name n) made h.0.1 in
      (all n).1 o.0 (omega (arith, entry_within entries o.0 n o.1, past)) o.1 (o.2, call.0, call.1, assertion_called st at n call.0 (call.2 used.0 used.1) h.1),
)
