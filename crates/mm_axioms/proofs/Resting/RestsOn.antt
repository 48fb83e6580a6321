-- What a theorem rests on: it is marked proof after proof from the last one down, and one report
-- tells it.
use Rattle.std.proofs.Common.{◌≡◌, ◌↔◌, ℕ, zero, suc, ◌+◌, ◌<◌, ◌≤◌, List, [], ◌∷◌, ◌++◌, take}
use Rattle.std.proofs.Common.{length, get_or, set, replicate, slice_get, Contains, Bool}
use Rattle.std.proofs.Common.{true, false, Some, ◌⊎◌, inl, inr, refl, sym, ap, subst, ◌∙◌, arith}
use Rattle.std.proofs.lemmas.List.{get_or-set_same, get_or-set_other, get_or-replicate}
use Rattle.std.proofs.lemmas.List.{length-replicate, length-set}
use Rattle.std.proofs.lemmas.List.Elements.{Contains-append_left}
use Rattle.std.proofs.lemmas.Bool.{cases_eq}
use Rattle.std.proofs.lemmas.Option.{slice_get_within}
use Rattle.mm_frame.proofs.Names.NameNumbers.{get_mapped}
use Rattle.mm_frame.specs.declared.number.LabelId.{LabelId}
use Rattle.mm_base.proofs.Lists.{at_from_contains, contains_from_at}
use Rattle.mm_step.specs.Plain.{ids_in}
use Rattle.mm_rules.specs.Conclusion.{ProofUses}
use Rattle.mm_rules.specs.Rests.{AreInOrder, RestsOn, IsNumberWhere, IsNamed, Uses}
use Rattle.mm_rules.specs.Mirror.Marks.{IsMarked, UsedIn, AreBackward}
use Rattle.mm_rules.proofs.Numbers.{holds_last, holds_cases}
use Rattle.mm_rules.proofs.OrderedNumbers.{among_more, in_order_once}
use Rattle.mm_base.specs.declared.statement.Kind.TheVariants.{Axiom}
use Rattle.mm_base.specs.Statement.{PlainStatement}
use Rattle.mm_frame.specs.Sentence.{sentence_of}
use Rattle.mm_frame.specs.Rules.{AllMeant}
use Rattle.mm_frame.specs.Numbers.{labelled_sentences}
use Rattle.mm_frame.proofs.Rules.ObeyedRules.{one_label}
use Rattle.mm_rules.specs.Verdict.{sentences, is_proof, is_unproved}
use Rattle.mm_verdict.specs.Laws.{OneReport}
use Rattle.mm_verdict.proofs.Verdicts.StatementByStatement.{all_meant}

-- ==== the marks of what a theorem rests on, proof after proof from the last one down

-- ---- marks of some numbers

-- these numbers were marked, and no others
pub record IsMarkedBy (old new : List Bool) (numbers : List ℕ) : Type 0 where
  pub same : length new ≡ length old
  pub kept : (n : ℕ) → IsMarked old n → IsMarked new n
  pub marked : (n : ℕ) → Contains numbers n → IsMarked new n
  pub only : (n : ℕ) → IsMarked new n → IsMarked old n ⊎ Contains numbers n

-- a list with the same numbers is as good
pub marked_as : (old new : List Bool) (ns ms : List ℕ) → ((n : ℕ) → Contains ns n ↔ Contains ms n) → IsMarkedBy old new ns → IsMarkedBy old new ms
marked_as old new ns ms same h = record {
  same = h.same;
  kept = h.kept;
  marked = λ n k. h.marked n ((same n).1 k);
  only = λ n k. elim (h.only n k) [ inl before ↦ inl before | inr among ↦ inr ((same n).0 among) ];
}

-- a number that is marked is one of a mark
pub marked_within : (marks : List Bool) (n : ℕ) → IsMarked marks n → n < length marks
marked_within [] n h = absurd cc
marked_within (m ∷ marks) zero h = omega arith
marked_within (m ∷ marks) (suc n) h = let rest : n < length marks = marked_within marks n h in omega arith

pub marked_set : (marks : List Bool) (x n : ℕ) → x < length marks → IsMarked marks n ⊎ (n ≡ x) → IsMarked (set marks x true) n
marked_set marks x n less h = elim (cases_eq n x) [
  | inl same ↦ subst (λ (m : ℕ). get_or (set marks x true) m false ≡ true) (sym same) (get_or-set_same marks x true false less)
  | inr other ↦ elim h [
    | inl old ↦ get_or-set_other marks x n true false other ∙ old
    | inr same ↦ absurd (other same)
  ]
]

-- one more number
pub marked_more : (old mid : List Bool) (numbers : List ℕ) (x : ℕ) → IsMarkedBy old mid numbers → x < length mid
    → IsMarkedBy old (set mid x true) (numbers ++ x ∷ [])
marked_more old mid numbers x h less = record {
  same = length-set mid x true ∙ h.same;
  kept = λ n k. marked_set mid x n less (inl (h.kept n k));
  marked = λ n k. elim (holds_cases numbers x n k) [
    | inl before ↦ marked_set mid x n less (inl (h.marked n before))
    | inr last ↦ marked_set mid x n less (inr last)
  ];
  only = λ n k. elim (cases_eq n x) [
    | inl last ↦ inr (rw last (holds_last numbers x))
    | inr other ↦ elim (h.only n (sym (get_or-set_other mid x n true false other) ∙ k)) [
      | inl was ↦ inl was
      | inr among ↦ inr (Contains-append_left numbers (x ∷ []) n among)
    ]
  ];
}

-- ---- marks of what a theorem rests on

-- The proofs from an index on were passed: what is marked is what the theorem rests on, and the set
-- of the marks is closed over the uses of these proofs.
pub record IsMarking (uses : List ProofUses) (theorem left : ℕ) (marks : List Bool) : Type 0 where
  pub long : length marks ≡ theorem
  pub sound : (n : ℕ) → IsMarked marks n → RestsOn (UsedIn uses) theorem n
  pub closed : (i : ℕ) (u : ProofUses) → left ≤ i → slice_get uses i ≡ Some u
      → (u.number ≡ theorem) ⊎ IsMarked marks u.number → (n : ℕ) → Contains u.used n → IsMarked marks n

pub marking_starts : (uses : List ProofUses) (theorem left : ℕ) (marks : List Bool) → left ≡ length uses → marks ≡ replicate theorem false → IsMarking uses theorem left marks
marking_starts uses theorem left marks whole e = subst (λ (ms : List Bool). IsMarking uses theorem left ms) (sym e) (record {
  long = length-replicate theorem false;
  sound = λ n h. absurd (
      let less = marked_within (replicate theorem false) n h in
      let here : n < theorem = omega (arith, less, length-replicate theorem false) in
      let e = get_or-replicate theorem n false false here in cc);
  closed = λ i u within there reached n h. absurd (let less : i < length uses = slice_get_within uses i u there in omega arith);
})

-- the proof at the next index down isn't of what the theorem rests on
pub marking_passes : (uses : List ProofUses) (theorem left next : ℕ) (marks : List Bool) (u : ProofUses) → IsMarking uses theorem left marks → left ≡ suc next
    → slice_get uses next ≡ Some u → ¬ (u.number ≡ theorem) → ¬ (IsMarked marks u.number) → IsMarking uses theorem next marks
marking_passes uses theorem left next marks u h step at other unreached = record {
  long = h.long;
  sound = h.sound;
  closed = λ i v within there reached n k. elim (cases_eq i next) [
    | inl same ↦
        let one : v ≡ u = cc (same, there, at) in
        absurd (elim reached [ inl own ↦ other (sym (ap (λ (w : ProofUses). w.number) one) ∙ own) | inr marked ↦ unreached (subst (λ (w : ProofUses). IsMarked marks w.number) one marked) ])
    | inr apart ↦ h.closed i v (omega arith) there reached n k
  ];
}

-- it is
pub marking_marks : (uses : List ProofUses) (theorem left next : ℕ) (marks new : List Bool) (u : ProofUses) → AreBackward uses → IsMarking uses theorem left marks → left ≡ suc next
    → slice_get uses next ≡ Some u → (u.number ≡ theorem) ⊎ IsMarked marks u.number → IsMarkedBy marks new u.used → IsMarking uses theorem next new
marking_marks uses theorem left next marks new u backward h step at reached more =
    let among : Contains uses u = contains_from_at uses u (next, at) in
    record {
      long = more.same ∙ h.long;
      sound = λ n k. elim (more.only n k) [
        | inl old ↦ h.sound n old
        | inr used ↦ elim reached [
          | inl own ↦ λ set closed. closed.own n (u, among, own, used)
          | inr marked ↦ λ set closed. closed.others u.number n (h.sound u.number marked set closed) (u, among, refl, used)
        ]
      ];
      closed = λ i v within there again n k. elim (cases_eq i next) [
        | inl same ↦
            let one : v ≡ u = cc (same, there, at) in
            more.marked n (subst (λ (w : ProofUses). Contains w.used n) one k)
        | inr apart ↦
            let later : u.number < v.number =
            backward.rising next i u.number v.number (omega arith) (get_mapped (λ (w : ProofUses). w.number) uses next u at) (get_mapped (λ (w : ProofUses). w.number) uses i v there) in
            let before : (v.number ≡ theorem) ⊎ IsMarked marks v.number = elim again [
              | inl own ↦ inl own
              | inr marked ↦ elim (more.only v.number marked) [
                | inl old ↦ inr old
                | inr used ↦ absurd (let less : v.number < u.number = backward.below u v.number among used in omega arith)
              ]
            ] in
            more.kept n (h.closed i v (omega arith) there before n k)
      ];
    }

-- all proofs were passed: what is marked is what the theorem rests on
pub marking_ends : (uses : List ProofUses) (theorem left : ℕ) (marks : List Bool) → IsMarking uses theorem left marks → left ≡ 0
    → (n : ℕ) → IsMarked marks n ↔ RestsOn (UsedIn uses) theorem n
marking_ends uses theorem left marks h end n = (
  h.sound n,
  λ rests. rests (λ m. get_or marks m false) (record {
    own = λ used k. let at = at_from_contains uses k.0 k.1 in
        h.closed at.0 k.0 (omega arith) at.1 (inl k.2) used k.3;
    others = λ id used marked k. let at = at_from_contains uses k.0 k.1 in
        h.closed at.0 k.0 (omega arith) at.1 (inr (subst (λ (m : ℕ). IsMarked marks m) (sym k.2) marked)) used k.3;
  }),
)

pub marked_next : (old mid : List Bool) (xs : List LabelId) (i : ℕ) (x : LabelId) → IsMarkedBy old mid (ids_in (take i xs)) → slice_get xs i ≡ Some x → x.0 < length mid
    → IsMarkedBy old (set mid x.0 true) (ids_in (take (i + 1) xs))
marked_next old mid xs i x h at less =
    subst (λ (ns : List ℕ). IsMarkedBy old (set mid x.0 true) ns) (sym (among_more xs i x at)) (marked_more old mid (ids_in (take i xs)) x.0 h less)

-- ==== a report of what a theorem rests on is one

-- ---- the theorem is one

pub named_once : (statements : List PlainStatement) (label : List ℕ) (a b : ℕ) → AllMeant (sentences statements)
    → IsNamed statements label (λ s. is_proof s ≡ true) a → IsNamed statements label (λ s. is_proof s ≡ true) b → a ≡ b
named_once statements label a b all (p, s, at, both) (q, t, other, two) =
    let same : p ≡ q =
    one_label (sentences statements) label p q (sentence_of s) (sentence_of t) all at.numbered.there other.numbered.there both.0 two.0 in
    sym at.numbered.number ∙ ap (λ (n : ℕ). length (labelled_sentences (take n (sentences statements)))) same ∙ other.numbered.number

pub one_report : OneReport
one_report profile statements label axioms unproved others rest obeyed one other =
    let id : one.id ≡ other.id = named_once statements label one.id other.id (all_meant profile statements obeyed) one.theorem other.theorem in (
      in_order_once _ axioms others
          (subst (λ (n : ℕ). AreInOrder (λ m. IsNumberWhere statements (λ s. s.kind ≡ Axiom) m × RestsOn (Uses statements) n m) axioms) id one.are_axioms)
          other.are_axioms,
      in_order_once _ unproved rest
          (subst (λ (n : ℕ). AreInOrder (λ m. IsNumberWhere statements (λ s. is_unproved s ≡ true) m × RestsOn (Uses statements) n m) unproved) id one.are_unproved)
          other.are_unproved,
    )
