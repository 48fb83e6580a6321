-- What the assertion states that was taken last: its frame is that of its number, and its essential
-- hypotheses are those without a typing. On this file rests the contract of `assertion_at`.
use Rattle.std.proofs.Common.{◌≡◌, ℕ, suc, ◌+◌, ◌<◌, List, [], ◌∷◌, ◌++◌, map, take, length}
use Rattle.std.proofs.Common.{slice_get, filter}
use Rattle.std.proofs.Common.{Bool, true, false, cond, Option, Some, option_map, is_some}
use Rattle.std.proofs.Common.{get_or}
use Rattle.std.proofs.Common.{inl, inr, refl, sym, ap, subst, ◌∙◌, append-nil, arith}
use Rattle.std.specs.Global.{Vec}
use denote.Ref.{Bor}
use Rattle.std.proofs.lemmas.List.{map-append, take_more}
use Rattle.std.proofs.lemmas.Grind.{flat_map-append}
use Rattle.std.proofs.lemmas.List.Elements.{filter-append}
use Rattle.std.proofs.lemmas.Option.{slice_get-get_or, slice_get_within}
use Rattle.mm_base.specs.declared.statement.Kind.{Kind}
use Rattle.mm_base.specs.declared.statement.Kind.TheVariants as kinds
use Rattle.mm_base.specs.Token.{PlainToken}
use Rattle.mm_base.specs.Statement.{PlainStatement, HasLabel}
use Rattle.mm_base.proofs.Lists.{one_there, take_next}
use Rattle.mm_frame.specs.declared.answer.Taken.{Taken}
use Rattle.mm_frame.specs.declared.answer.Taken.TheVariants as taken
use Rattle.mm_frame.specs.declared.hypothesis.Hypothesis.{Hypothesis}
use Rattle.mm_frame.specs.declared.number.LabelId.{LabelId}
use Rattle.mm_frame.specs.declared.number.Sym.{Sym}
use Rattle.mm_frame.specs.Frame.{AreMandatory}
use Rattle.mm_frame.specs.FrameIndex.{FrameIndex, AreHypotheses, HaveTypings}
use Rattle.mm_frame.specs.Numbers.{IsNumbered, labelled_sentences}
use Rattle.mm_frame.specs.Sentence.{Sentence, sentence_of, IsAssertion, is_essential}
use Rattle.mm_frame.specs.Taken.{TakenAs, next_id}
use Rattle.mm_frame.proofs.Frames.EssentialHypotheses.{hypothesis_there, essential_kind}
use Rattle.mm_frame.proofs.Names.LabelNumbers.{numbered_get, numbered_last, numbered_unique}
use Rattle.mm_step.specs.Stores.{numbers_in}
use Rattle.mm_rules.specs.Answer.{labels_at}
use Rattle.mm_rules.proofs.Judgements.JudgedProofs.{prefix_of}
use Rattle.mm_code.specs.Layout.{texts}
use Rattle.mm_find.specs.Plain.{expressions_in}
use Rattle.mm_find.specs.Mirror.Walk.{IsLast, IsTakenLast}

-- ---- what was taken last

-- an assertion, with the number of the label after those before
asserted : (before : List Sentence) (kind : Kind) (t : Taken) (id : LabelId) → TakenAs before kind t
    → t ≡ taken.Assertion id → IsAssertion kind × (id ≡ next_id before)
asserted before kinds.Opening t id is same = absurd cc
asserted before kinds.Closing t id is same = absurd cc
asserted before kinds.Constants t id is same = absurd cc
asserted before kinds.Variables t id is same = absurd cc
asserted before kinds.Distinct t id is same = absurd cc
asserted before kinds.Floating t id is same = absurd cc
asserted before kinds.Essential t id is same = absurd cc
asserted before kinds.Axiom t id is same = (inl refl, cc)
asserted before kinds.Provable t id is same = (inr refl, cc)

-- what was taken as something else asserts nothing
pub asserts_nothing : (before : List Sentence) (kind : Kind) (t : Taken) → TakenAs before kind t
    → ((id : LabelId) → t ≡ taken.Assertion id → ⊥) → ¬ (IsAssertion kind)
asserts_nothing before kinds.Axiom t is other asserts = other (next_id before) is
asserts_nothing before kinds.Provable t is other asserts = other (next_id before) is
asserts_nothing before kind t is other (inl asserts) = absurd cc
asserts_nothing before kind t is other (inr asserts) = absurd cc

-- an assertion has a label
labelled : (kind : Kind) (label : Option PlainToken) → HasLabel kind label → IsAssertion kind
    → (l : List ℕ) × (option_map (λ t. t.text) label ≡ Some l)
labelled kinds.Axiom label (l, is, formed) asserts =
    (l.text, ap (λ (o : Option PlainToken). option_map (λ t. t.text) o) is)
labelled kinds.Provable label (l, is, formed) asserts =
    (l.text, ap (λ (o : Option PlainToken). option_map (λ t. t.text) o) is)
labelled kind label has (inl asserts) = absurd cc
labelled kind label has (inr asserts) = absurd cc

pub last_asserted : (statements : List Sentence) (t : Taken) (id : LabelId) (before : List Sentence)
    (s : PlainStatement) → IsTakenLast statements t before s → t ≡ taken.Assertion id
    → IsLast statements id.0 before (sentence_of s)
last_asserted statements t id before s last same =
    let (asserts, number) = asserted before s.kind t id last.kind same in
    record {
      whole = last.whole;
      number = ap (λ (i : LabelId). i.0) number;
      label = labelled s.kind s.label last.formed.label asserts;
      asserts = asserts;
    }

-- ---- its number

module _ (st : List Sentence) (id : ℕ) (before : List Sentence) (s : Sentence)
    (last : IsLast st id before s) where
  named : is_some s.label ≡ true
  named = ap (λ (o : Option (List ℕ)). is_some o) last.label.1

  pub last_numbered : IsNumbered st id (length before) s
  last_numbered =
      rw (last.whole, last.number) (numbered_last before s named)

  pub last_there : slice_get (labelled_sentences st) id ≡ Some s
  last_there = numbered_get st id (length before) s last_numbered

  pub last_within : id < length (labelled_sentences st)
  last_within = slice_get_within (labelled_sentences st) id s last_there

  -- the hypotheses of its frame
  pub last_framed : (f : FrameIndex) (ids : List ℕ) → f.statements ≡ st
      → ((t : Sentence) × IsNumbered st id f.index t × IsAssertion t.kind) → AreHypotheses f ids
      → (hypotheses : List Sentence) × AreMandatory before s hypotheses
      × (map (slice_get (labelled_sentences st)) ids ≡ map Some hypotheses)
  last_framed f ids is (t, other, asserts) are_hypotheses =
      let at : f.index ≡ length before =
      (numbered_unique st id f.index (length before) t s other last_numbered).0 in
      let frame : FrameIndex = record { statements = st; index = length before } in
      let same : f ≡ frame =
      ap (λ (ss : List Sentence). let g : FrameIndex = record { statements = ss; index = f.index }
      in g) is
      ∙ ap (λ (n : ℕ). let g : FrameIndex = record { statements = st; index = n } in g) at in
      let are : AreHypotheses frame ids = subst (λ (g : FrameIndex). AreHypotheses g ids) same
      are_hypotheses in
      let one : are.assertion ≡ s =
      one_there st (length before) are.assertion s are.there last_numbered.there in
      let front : take (length before) st ≡ before = prefix_of st before s last.whole in
      (are.hypotheses, rw (one, front) at are.mandatory, are.numbered)

-- ---- its essential hypotheses

-- one hypothesis more
abbrev pub stated_expressions : List Sentence → List (List (List ℕ))
stated_expressions stated = map (λ h. h.symbols) (filter (λ h. is_essential h.kind) stated)

next_expressions : (stated : List Sentence) (i : ℕ) (s : Sentence) (own : List Sentence)
    → slice_get stated i ≡ Some s → cond (is_essential s.kind) (s ∷ []) [] ≡ own
    → stated_expressions (take (i + 1) stated) ≡ stated_expressions (take i stated) ++ map
    (λ h. h.symbols) own
next_expressions stated i s own there is =
    let one : suc i ≡ i + 1 = omega arith in
    let next : take (i + 1) stated ≡ take i stated ++ s ∷ [] =
    subst (λ (n : ℕ). take n stated ≡ take i stated ++ s ∷ []) one (take_next stated i s there) in
    ap stated_expressions next
    ∙ ap (map (λ (h : Sentence). h.symbols)) (filter-append (λ (h : Sentence). is_essential h.kind)
    (take i stated) (s ∷ []))
    ∙ map-append (λ (h : Sentence). h.symbols) (filter (λ h. is_essential h.kind) (take i stated)) _
    ∙ ap (λ (o : List Sentence). stated_expressions (take i stated) ++ map
    (λ (h : Sentence). h.symbols) o) is

essential_next : (stated : List Sentence) (i : ℕ) (s : Sentence) → slice_get stated i ≡ Some s
    → is_essential s.kind ≡ true
    → stated_expressions (take (i + 1) stated) ≡ stated_expressions
    (take i stated) ++ s.symbols ∷ []
essential_next stated i s there is =
    next_expressions stated i s (s ∷ []) there (ap (λ (b : Bool). cond b (s ∷ []) []) is)

other_next : (stated : List Sentence) (i : ℕ) (s : Sentence) → slice_get stated i ≡ Some s
    → is_essential s.kind ≡ false → stated_expressions (take (i + 1) stated) ≡ stated_expressions
    (take i stated)
other_next stated i s there is =
    next_expressions stated i s [] there (ap (λ (b : Bool). cond b (s ∷ []) []) is)
    ∙ append-nil (stated_expressions (take i stated))

module _ (st : List Sentence) (hypotheses : List Hypothesis) (stated : List Sentence)
    (typed : HaveTypings st hypotheses)
    (are : map (slice_get (labelled_sentences st)) (map (λ h. h.id.0) hypotheses) ≡ map Some stated)
    (i : ℕ) (d : Hypothesis) (less : i < length hypotheses) where
  -- it has a typing
  pub other_step : (so_far : List (List (List ℕ))) → is_some (get_or hypotheses i d).typing ≡ true
      → so_far ≡ stated_expressions (take i stated) → so_far ≡ stated_expressions
      (take (i + 1) stated)
  other_step so_far is told =
      let (s, at, there) = hypothesis_there (labelled_sentences st) hypotheses stated i d are less
      in
      let kind = (essential_kind st (get_or hypotheses i d) s
      (typed i (get_or hypotheses i d) (slice_get-get_or hypotheses i d less)) there).1 is in
      told ∙ sym (other_next stated i s at kind)

  -- it is essential
  pub essential_step : (lists next : List (Vec (Bor (List ℕ)))) (own : Vec (Bor (List ℕ)))
      → is_some (get_or hypotheses i d).typing ≡ false
      → ((s : Sentence) → slice_get (labelled_sentences st) (get_or hypotheses i d).id.0 ≡ Some s
      → texts own.items ≡ s.symbols)
      → expressions_in lists ≡ stated_expressions (take i stated) → next ≡ lists ++ own ∷ []
      → expressions_in next ≡ stated_expressions (take (i + 1) stated)
  essential_step lists next own is symbols told pushed =
      let (s, at, there) = hypothesis_there (labelled_sentences st) hypotheses stated i d are less
      in
      let kind = (essential_kind st (get_or hypotheses i d) s
      (typed i (get_or hypotheses i d) (slice_get-get_or hypotheses i d less)) there).0 is in
      ap expressions_in pushed
      ∙ map-append (λ (v : Vec (Bor (List ℕ))). texts v.items) lists (own ∷ [])
      ∙ ap (λ (es : List (List (List ℕ))). es ++ texts own.items ∷ []) told
      ∙ ap (λ (e : List (List ℕ)). stated_expressions (take i stated) ++ e ∷ []) (symbols s there)
      ∙ sym (essential_next stated i s at kind)

-- ---- names

pub names_next : (names : List (List ℕ)) (symbols : List Sym) (i : ℕ) (d : Sym)
    (so_far next : List (Bor (List ℕ))) (own : Bor (List ℕ))
    → slice_get names (get_or symbols i d).0 ≡ Some own.now → next ≡ so_far ++ own ∷ []
    → i < length symbols → texts so_far ≡ labels_at names (numbers_in (take i symbols))
    → texts next ≡ labels_at names (numbers_in (take (i + 1) symbols))
names_next names symbols i d so_far next own is pushed less told =
    let later : labels_at names (numbers_in (take (i + 1) symbols))
    ≡ labels_at names (numbers_in (take i symbols)) ++ own.now ∷ [] =
    rw (take_more symbols i d less) (simp (map-append, flat_map-append, is, append-nil)) in
    ap texts pushed ∙ map-append (λ (t : Bor (List ℕ)). t.now) so_far (own ∷ [])
    ∙ ap (λ (es : List (List ℕ)). es ++ own.now ∷ []) told ∙ sym later
