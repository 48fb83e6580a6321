-- What is read under a label's number, in terms of the statements.
use Rattle.std.proofs.Common.{◌≡◌, ◌↔◌, ℕ, ◌+◌, ◌<◌, ◌≤◌, inl, inr, length, take, List, [], ◌∷◌}
use Rattle.std.proofs.Common.{map, Option, Some, None, slice_range, refl, sym, ap, ◌∙◌, subst}
use Rattle.std.proofs.Common.{arith, slice_get}
use Rattle.mm_base.specs.declared.statement.Kind.{Kind}
use Rattle.mm_base.specs.declared.statement.Kind.TheVariants.{Floating, Essential, Axiom, Provable}
use Rattle.mm_base.specs.Token.{IsLabel}
use Rattle.mm_base.specs.MostBytes.{most_bytes}
use Rattle.mm_frame.specs.declared.distinct.DistinctPair.{DistinctPair}
use Rattle.mm_frame.specs.declared.hypothesis.Hypothesis.{Hypothesis}
use Rattle.mm_frame.specs.declared.piece.Piece.{Piece}
use Rattle.mm_frame.specs.declared.tables.Entry.{Entry}
use Rattle.mm_frame.specs.declared.tables.LabelInfo.{LabelInfo}
use Rattle.mm_frame.specs.Sentence.{Sentence, SomeSentence, IsLabelled, IsAssertion}
use Rattle.mm_frame.specs.Form.{HasItsLabel, AllFormed}
use Rattle.mm_frame.specs.Numbers.{labelled_sentences, IsNumbered, IsLabelNumber}
use Rattle.mm_frame.specs.FrameIndex.{AreHypotheses, HaveTypings, ArePairs}
use Rattle.mm_frame.specs.Pieces.{variables_of, AreItsPieces, HavePatterns, HaveIndices}
use Rattle.mm_frame.specs.Pieces.{HaveMandatoryIndices}
use Rattle.mm_frame.specs.Mirror.Layout.{statements_of, AreTables, IsFrameInfo}
use Rattle.mm_frame.specs.declared.tables.Tables.{Tables}
use Rattle.mm_frame.specs.Frame.{AreThose, IsMandatoryAt}
use Rattle.std.proofs.lemmas.List.{length-map, length-take-le}
use Rattle.std.proofs.lemmas.Option.{slice_get_within, same_Some}
use Rattle.mm_base.proofs.Lists.{get_within, same_length}
use Rattle.mm_frame.proofs.Names.NameNumbers.{get_alike}
use Rattle.mm_frame.proofs.Names.LabelNumbers.{numbered_get, numbered_within, numbered_unique}
use Rattle.mm_frame.proofs.Names.LabelNumbers.{numbered_from_get}
use Rattle.mm_frame.proofs.BookLists.SymbolsAndLabels.{labels_counted}
use Rattle.mm_frame.proofs.BookLists.GrownLists.{all_statements, get_sliced}
use Rattle.mm_frame.proofs.Frames.FrameLaws.{at_index}
use Rattle.mm_frame.proofs.Frames.FrameTypings.{kind_at}
use Rattle.mm_frame.specs.declared.part.Part.{Part}
use Rattle.mm_frame.proofs.Rules.SymbolLookups.{label_number}

-- the statement of a label's number
pub labelled_at : {t : Tables} {id : ℕ} {l : List ℕ} → AreTables t
    → slice_get t.labels.names id ≡ Some l
    → (index : ℕ) × (s : Sentence) × IsNumbered (statements_of t) id index s × IsLabelled l s
labelled_at {t} {id} {l} tables at =
    let st = statements_of t in
    let (s, there, same) = get_alike Some (λ (s : Sentence). s.label) t.labels.names
    (labelled_sentences st) id l (sym tables.labels.all) at in
    let (p, numbered) = numbered_from_get st id s there in
    (p, s, numbered, same)

-- something is known of exactly the labels' numbers
pub label_known : (t : Tables) (id : ℕ) → AreTables t
    → (id < length t.named.items) ↔ IsLabelNumber (statements_of t) id
label_known t id tables = (
  (λ within.
      let (info, there) = get_within t.named.items id within in
      let (s, numbered) = tables.labels.each id info there in
      (info.index, s, numbered)),
  (λ (index, s, numbered).
      let below = numbered_within (statements_of t) id index s numbered in
      let counted = labels_counted (statements_of t) _ _ _ tables.labels in
      omega arith),
)

-- a labelled statement's kind is one with a label
pub named_kind : (st : List Sentence) (index : ℕ) (s : Sentence) (l : List ℕ) → AllFormed st → slice_get st index ≡ Some s → IsLabelled l s → HasItsLabel s.kind (Some l)
named_kind st index s l formed there named = subst (λ (o : Option (List ℕ)). HasItsLabel s.kind o) named (formed index s there).label

-- a label that a kind of statement has is a label by its bytes
label_of_kind : (kind : Kind) (l : List ℕ) → HasItsLabel kind (Some l) → IsLabel l
label_of_kind Floating l has = subst IsLabel (sym (same_Some l has.0 has.1)) has.2
label_of_kind Essential l has = subst IsLabel (sym (same_Some l has.0 has.1)) has.2
label_of_kind Axiom l has = subst IsLabel (sym (same_Some l has.0 has.1)) has.2
label_of_kind Provable l has = subst IsLabel (sym (same_Some l has.0 has.1)) has.2
label_of_kind kind l has = absurd cc

-- and so is that of a statement
pub label_named : (st : List Sentence) (l : List ℕ) → AllFormed st → SomeSentence st (IsLabelled l)
    → IsLabel l
label_named st l formed (index, s, there, named) =
    label_of_kind s.kind l (named_kind st index s l formed there named)

-- those of a list are no more
pub those_few : {X : Type 0} (P : ℕ → X → Type 0) (index : ℕ) (xs those : List X) → AreThose P index xs those → length those ≤ length xs
those_few P index [] those are = omega (arith, ap length are)
those_few P index (x ∷ xs) those (inl (is, others, same, are)) = let few = those_few P (index + 1) xs others are in omega (arith, ap length same)
those_few P index (x ∷ xs) those (inr (isnt, are)) = let few = those_few P (index + 1) xs those are in omega arith

-- an assertion has fewer hypotheses than there are statements, and so than there can be bytes
pub few_hypotheses : (t : Tables) (index : ℕ) (hs : List Hypothesis) → AreTables t → AreHypotheses (at_index (statements_of t) index) (map (λ h. h.id.0) hs) → length hs < most_bytes
few_hypotheses t index hs tables are =
    let st = statements_of t in
    let within = slice_get_within st index are.assertion are.there in
    let before = those_few (IsMandatoryAt (take index st) are.assertion) 0 (take index st) are.hypotheses are.mandatory in
    let prefix = length-take-le index st (omega arith) in
    let numbers = same_length (slice_get (labelled_sentences st)) Some _ _ are.numbered in
    let same = length-map hs (λ h. h.id.0) in
    let all = all_statements t in
    omega arith

-- a labelled statement
module _ (t : Tables) (id index : ℕ) (s : Sentence) (tables : AreTables t)
    (numbered : IsNumbered (statements_of t) id index s) where
  -- its label
  pub label_at : (l : List ℕ) × (slice_get t.labels.names id ≡ Some l) × IsLabelled l s
  label_at =
      let (l, at, same) = get_alike (λ (s : Sentence). s.label) Some _
      t.labels.names _ _ tables.labels.all (numbered_get _ _ _ _ numbered) in
      (l, at, sym same)

  -- something is known of it
  pub no_info : None ≡ slice_get t.named.items id → ⊥
  no_info none =
      let (info, there) = get_within t.named.items id
      ((label_known _ id tables).1 (index, s, numbered)) in
      absurd (let bad : None ≡ Some info = none ∙ there in cc)

  -- what is known of it has its place
  pub same_index : (info : LabelInfo) → Some info ≡ slice_get t.named.items id → info.index ≡ index
  same_index info told =
      let (u, other) = tables.labels.each id info (sym told) in
      (numbered_unique _ _ _ _ _ _ other numbered).0

  -- and its entry has the kind and the symbols that are known of it
  pub info_entry : (info : LabelInfo) → Some info ≡ slice_get t.named.items id
      → (e : Entry) × (slice_get t.log.items index ≡ Some e) × (e.kind ≡ info.kind)
      × (e.symbols ≡ info.symbols)
  info_entry info told =
      let is = tables.labels.entered id info (sym told) in (
        is.entry,
        subst (λ p. slice_get t.log.items p ≡ Some is.entry) (same_index info told) is.there,
        is.kind,
        is.symbols,
      )

  -- so it is known to have its kind, which is one with a label
  pub info_kind : (info : LabelInfo) → Some info ≡ slice_get t.named.items id
      → (l : List ℕ) × (s.kind ≡ info.kind) × HasItsLabel info.kind (Some l)
  info_kind info told =
      let (l, at, named) = label_at in
      let (e, at_entry, kind, symbols) = info_entry info told in
      let same : s.kind ≡ info.kind = kind_at t.symbols.names t.labels.names t.flat.items
      t.log.items index e s at_entry numbered.there ∙ kind in
      let has = named_kind (statements_of t) index s l tables.sound.1 numbered.there named in
      (l, same, subst (λ k. HasItsLabel k (Some l)) same has)

-- a part of a list, as it is read
abbrev pub IsRead : {X : Type 0} → List X → Part → List X → Type 0
IsRead all at part =
    at.start ≤ at.end → at.end ≤ length all → part ≡ slice_range all at.start at.end

-- an assertion, of whose label something is known
module _ (t : Tables) (id index : ℕ) (s : Sentence) (info : LabelInfo) (tables : AreTables t)
    (numbered : IsNumbered (statements_of t) id index s) (asserts : IsAssertion s.kind)
    (told : Some info ≡ slice_get t.named.items id) where
  -- its frame
  frame_there : IsFrameInfo (statements_of t) t.hypotheses.items t.pairs.items t.pieces.items
      (record info { index = index })
  frame_there =
      let same = same_index t id index s tables numbered info told in
      rw same at (tables.frames id info s (sym told) (rw same numbered.there) asserts)

  -- a part of the hypotheses of all assertions
  pub frame_hypotheses : (part : List Hypothesis) → IsRead t.hypotheses.items info.hypotheses part
      → AreHypotheses (at_index (statements_of t) index) (map (λ h. h.id.0) part)
  frame_hypotheses part is =
      let within = frame_there.hypotheses_in in
      rw (is within.ordered within.within) frame_there.are_hypotheses

  pub frame_typings : (part : List Hypothesis) → IsRead t.hypotheses.items info.hypotheses part
      → HaveTypings (statements_of t) part
  frame_typings part is i h there =
      let within = frame_there.hypotheses_in in
      let (j, at) = get_sliced t.hypotheses.items info.hypotheses.start info.hypotheses.end i h
      (rw (is within.ordered within.within) at there) in
      tables.typed j h at

  -- a part of the distinct pairs of all assertions
  pub frame_pairs : (part : List DistinctPair) → IsRead t.pairs.items info.pairs part
      → ArePairs (at_index (statements_of t) index)
      (map (λ pair. (pair.variables.0.0, pair.variables.1.0)) part)
  frame_pairs part is =
      let within = frame_there.pairs_in in
      rw (is within.ordered within.within) frame_there.are_pairs

  -- the indices of their variables are those among a part of the hypotheses
  pub frame_indices : (part : List Hypothesis) (among : List DistinctPair)
      → IsRead t.hypotheses.items info.hypotheses part → IsRead t.pairs.items info.pairs among
      → HaveIndices (variables_of part) among
  frame_indices part among is pairs_are =
      let h = frame_there.hypotheses_in in
      let p = frame_there.pairs_in in
      rw (is h.ordered h.within, pairs_are p.ordered p.within) frame_there.indexed

  -- they are those among the mandatory hypotheses
  pub mandatory_indices : (among : List DistinctPair) → IsRead t.pairs.items info.pairs among
      → HaveMandatoryIndices (at_index (statements_of t) index) among
  mandatory_indices among pairs_are =
      let part = slice_range t.hypotheses.items info.hypotheses.start info.hypotheses.end in (
        part,
        frame_hypotheses part (λ ordered within. refl),
        frame_typings part (λ ordered within. refl),
        frame_indices part among (λ ordered within. refl) pairs_are,
      )

  -- the pieces of the assertion
  pub frame_concluded : (part : List Hypothesis) (conclusion : List Piece)
      → IsRead t.hypotheses.items info.hypotheses part
      → IsRead t.pieces.items info.conclusion conclusion
      → (u : Sentence) × (slice_get (statements_of t) index ≡ Some u)
      × AreItsPieces (statements_of t) (variables_of part) u conclusion
  frame_concluded part conclusion is ends =
      let h = frame_there.hypotheses_in in
      let c = frame_there.conclusion_in in
      rw (is h.ordered h.within, ends c.ordered c.within) frame_there.concluded

  -- the patterns of its `$e`
  pub frame_patterns : (part : List Hypothesis) → IsRead t.hypotheses.items info.hypotheses part
      → HavePatterns (statements_of t) (variables_of part) t.pieces.items part
  frame_patterns part is =
      let within = frame_there.hypotheses_in in
      rw (is within.ordered within.within) frame_there.patterned

pub ruleset label_reads = (labelled_at, label_number)
