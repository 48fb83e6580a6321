-- What stands with the labels of mandatory hypotheses: their typings, by numbers.
use Rattle.std.proofs.Common.{◌≡◌, ◌≢◌, ◌↔◌, ℕ, ◌<◌, ◌⊎◌, inl, inr, length, take, List, [], ◌∷◌}
use Rattle.std.proofs.Common.{Some, None, refl, sym, ap, arith, slice_get, ◌++◌, map, Option, subst}
use Rattle.std.proofs.Common.{◌+◌, true, get_or, is_some, ◌∙◌, option_and_then}
use Rattle.mm_frame.specs.declared.number.Sym.{Sym}
use Rattle.mm_frame.specs.Sentence.{Sentence, IsHypothesis}
use Rattle.mm_frame.specs.Numbers.{symbols_of, IsNumberOf, labelled_sentences, AreNumbers}
use Rattle.std.proofs.lemmas.Bool.{cases_order}
use Rattle.mm_frame.specs.declared.tables.Entry.{Entry}
use Rattle.mm_frame.specs.Frame.{IsDistinct}
use Rattle.mm_frame.specs.Mirror.Stated.{AllStated, HasSpan}
use Rattle.mm_frame.specs.Mirror.Wide.{IsHeld}
use Rattle.mm_frame.specs.declared.wide.WideDistinct.{WideDistinct}
use Rattle.mm_frame.proofs.Frames.FrameLaws.{distinct_other}
use Rattle.mm_frame.proofs.DistinctPairs.StatedPairs.{distinct_stated, span_distinct, held_distinct}
use Rattle.mm_frame.specs.Mirror.Layout.{sentences_by, sentence_by, AreStated, label_by}
use Rattle.mm_frame.specs.Mirror.Layout.{AreLabelInfos, statements_of}
use Rattle.mm_frame.specs.declared.tables.Tables.{Tables}
use Rattle.mm_frame.proofs.BookLists.GrownLists.{sentence_at, entry_at}
use Rattle.mm_frame.specs.Mirror.Separated.{ordered_pair}
use Rattle.mm_frame.proofs.DistinctPairs.AddedPairs.{ordered_less, ordered_more}
use Rattle.mm_base.specs.declared.statement.Kind.TheVariants.{Floating}
use Rattle.mm_frame.specs.declared.hypothesis.Hypothesis.{Hypothesis}
use Rattle.mm_frame.specs.Form.{AllFormed, IsFormedSentence}
use Rattle.mm_frame.specs.FrameIndex.{IsTypingOf, HasTyping, HaveTypings}
use Rattle.mm_frame.specs.Mirror.Gathered.{AreIndices, AreThoseAt}
use Rattle.mm_base.proofs.Lists.{get_within, contains_from_at, append_cases}
use Rattle.mm_frame.proofs.Names.NameNumbers.{symbols_grow, each_pushed}
use Rattle.mm_frame.proofs.Names.LabelNumbers.{labelled_grow, numbered_at, numbered_get}
use Rattle.mm_frame.proofs.Frames.MandatoryHypotheses.{index_named}
use Rattle.std.proofs.lemmas.Option.{slice_get-get_or}
use Rattle.std.proofs.lemmas.List.{take_more, map-append}
use Rattle.mm_frame.specs.declared.number.LabelId.{LabelId}

-- ==== the variables that `$f` type, and their distinct pairs, by numbers

-- the second of two
pub two_parts : (symbols : List (List ℕ)) → length symbols ≡ 2 → (a : List ℕ) × (b : List ℕ) × (symbols ≡ a ∷ b ∷ [])
two_parts (a ∷ b ∷ []) size = (a, b, refl)
two_parts symbols size = absurd (omega arith)

-- a statement's kind is its entry's
pub kind_at : (symbols labels : List (List ℕ)) (flat : List Sym) (log : List Entry) (index : ℕ) (e : Entry) (f : Sentence) → slice_get log index ≡ Some e → slice_get (sentences_by symbols labels flat log) index ≡ Some f → f.kind ≡ e.kind
kind_at symbols labels flat log index e f there said =
    let at = sentence_at symbols labels flat log index e there in
    let same : sentence_by symbols labels flat e ≡ f = cc in
    ap (λ (s : Sentence). s.kind) (sym same)

-- where there is a statement, there is an entry
pub some_entry : (symbols labels : List (List ℕ)) (flat : List Sym) (log : List Entry) (index : ℕ) (f : Sentence) → slice_get (sentences_by symbols labels flat log) index ≡ Some f → slice_get log index ≡ None → ⊥
some_entry symbols labels flat log index f said none =
    let (e, at, says) = entry_at symbols labels flat log index f said in
    absurd (cc)

-- ---- whether two numbers' symbols are distinct, by the pairs that `$d` state

stated_below : (st : List Sentence) (names : List (List ℕ)) (stated : AllStated) (a b q : ℕ)
    (x y : List ℕ) → names ≡ symbols_of st → AreStated st names stated → IsNumberOf st x a
    → IsNumberOf st y b → a < b
    → (HasSpan st stated.pairs (a, b) q ⊎ IsHeld st stated.wide q a b) ↔ IsDistinct (take q st) x y
stated_below st names stated a b q x y all are at_a at_b lt =
    let here_a : slice_get names a ≡ Some x = rw all at_a in
    let here_b : slice_get names b ≡ Some y = rw all at_b in (
      (λ either. elim either [
        | inl has ↦ span_distinct are a b q x y all here_a here_b lt has
        | inr held ↦ held_distinct are.wide a b q x y all here_a here_b (λ same. omega arith) held
      ]),
      (λ distinct. distinct_stated are a b q x y here_a here_b lt distinct),
    )

held_other : (st : List Sentence) (wide : List WideDistinct) (q a b : ℕ) → IsHeld st wide q a b
    → IsHeld st wide q b a
held_other st wide q a b (i, w, there, (before, in_a, in_b, active)) =
    (i, w, there, (before, in_b, in_a, active))

-- two numbers' symbols are a distinct pair where an active `$d` states their pair, or one of many
-- variables holds them
pub stated_tells : (st : List Sentence) (names : List (List ℕ)) (stated : AllStated) (a b q : ℕ)
    (x y : List ℕ) → names ≡ symbols_of st → AreStated st names stated → IsNumberOf st x a
    → IsNumberOf st y b → a ≢ b
    → (HasSpan st stated.pairs (ordered_pair a b) q ⊎ IsHeld st stated.wide q a b)
    ↔ IsDistinct (take q st) x y
stated_tells st names stated a b q x y all are at_a at_b apart = elim (cases_order a b) [
  | inl same ↦ absurd (apart same)
  | inr (inl lt) ↦ rw (ordered_less a b lt) (stated_below _ _ _ a b q x y all are at_a at_b lt)
  | inr (inr gt) ↦
      let tell = stated_below _ _ _ b a q y x all are at_b at_a gt in
      let is = ordered_more a b (omega arith) in (
        (λ either. distinct_other (take q st) y x (tell.0 (elim either [
          | inl has ↦ inl (rw is at has)
          | inr held ↦ inr (held_other st stated.wide q a b held)
        ]))),
        (λ distinct. elim (tell.1 (distinct_other (take q st) x y distinct)) [
          | inl has ↦ inl (rw is has)
          | inr held ↦ inr (held_other st stated.wide q b a held)
        ]),
      )
]

-- ==== what stands with the labels of mandatory hypotheses stays so as statements are added

typing_grow : (st more : List Sentence) (typing : Option (Sym × Sym)) (h : Sentence) → IsTypingOf st typing h → IsTypingOf (st ++ more) typing h
typing_grow st more None h is = is
typing_grow st more (Some typing) h (code, x, types, first, second) =
    (code, x, types, symbols_grow st more typing.0.0 code first, symbols_grow st more typing.1.0 x second)

pub typings_grow : (st more : List Sentence) (hs : List Hypothesis) → HaveTypings st hs → HaveTypings (st ++ more) hs
typings_grow st more hs have i hypothesis there =
    let (h, at, is) = have i hypothesis there in
    (h, labelled_grow st more hypothesis.id.0 h at, typing_grow st more hypothesis.typing h is)

-- with those of one assertion more
pub typings_join : (st : List Sentence) (xs ys : List Hypothesis) → HaveTypings st xs → HaveTypings st ys → HaveTypings st (xs ++ ys)
typings_join st xs ys first second i hypothesis there = elim (append_cases xs ys i hypothesis there) [
  | inl before ↦ first i hypothesis before
  | inr (j, is, after) ↦ second j hypothesis after
]

-- the numbers of the two symbols of a `$f`
two_numbers : (st : List Sentence) (ns : List Sym) (code x : List ℕ) → AreNumbers st (map (λ n. n.0) ns) (code ∷ x ∷ []) → (a : Sym) × (b : Sym) × (ns ≡ a ∷ b ∷ []) × IsNumberOf st code a.0 × IsNumberOf st x b.0
two_numbers st (a ∷ b ∷ []) code x are = (a, b, refl, cc, cc)
two_numbers st ns code x are = absurd cc

pub typing_says : (st : List Sentence) (f : Sentence) (ns : List Sym) → IsFormedSentence f → f.kind ≡ Floating → AreNumbers st (map (λ n. n.0) ns) f.symbols
    → (a : Sym) × (b : Sym) × (ns ≡ a ∷ b ∷ []) × IsTypingOf st (Some (a, b)) f
typing_says st f ns formed kind are =
    let (code, x, parts) = two_parts f.symbols (rw kind at formed.count) in
    let (a, b, is, first, second) = two_numbers st ns code x (subst (AreNumbers st (map (λ n. n.0) ns)) parts are) in
    (a, b, is, (code, x, (kind, parts), first, second))

-- a statement at the index of a mandatory hypothesis is a hypothesis
pub index_hypothesis : (st : List Sentence) (s : Sentence) (indices : List ℕ) (i p : ℕ) (h : Sentence) → AreIndices st s indices → slice_get indices i ≡ Some p → slice_get st p ≡ Some h → IsHypothesis h.kind
index_hypothesis st s indices i p h are there at = elim ((are.exact p h at).1 (contains_from_at indices p (i, there))).1 [
  | inl essential ↦ inr essential
  | inr (code, x, types, mandatory) ↦ inl types.0
]

-- what stands with the label of the statement at such an index
pub typing_at : (st : List Sentence) (s : Sentence) (indices : List ℕ) (i p : ℕ) (new : Hypothesis) → AllFormed st → AreIndices st s indices → slice_get indices i ≡ Some p → new.id.0 ≡ length (labelled_sentences (take p st))
    → ((f : Sentence) → slice_get st p ≡ Some f → IsHypothesis f.kind → IsTypingOf st new.typing f) → HasTyping st new
typing_at st s indices i p new formed are there number says =
    let (h, at) = get_within st p (are.within i p there) in
    let numbered = numbered_get st (length (labelled_sentences (take p st))) p h (numbered_at st p h at (index_named st s indices i p h formed are there at)) in
    (h, subst (λ n. slice_get (labelled_sentences st) n ≡ Some h) (sym number) numbered, says h at (index_hypothesis st s indices i p h are there at))

pub ruleset typing_steps = (kind_at, some_entry, typing_says)

-- ==== the mandatory hypotheses at their indices, by the numbers of their labels

-- an entry that says a labelled statement has a label
entry_labelled : (labels : List (List ℕ)) (label : Option LabelId) → is_some (label_by labels label) ≡ true → (id : LabelId) × (label ≡ Some id)
entry_labelled labels None named = absurd (cc)
entry_labelled labels (Some id) named = (id, refl)

module _ (t : Tables) {s : Sentence} {indices : List ℕ} (i : ℕ)
    (are : AreLabelInfos (statements_of t) t.labels.names t.named.items t.log.items)
    (formed : AllFormed (statements_of t)) (are_indices : AreIndices (statements_of t) s indices) where
  -- the label's number at the index of a mandatory hypothesis
  pub id_at : (p : ℕ) → slice_get indices i ≡ Some p
      → (id : LabelId) × (option_and_then (λ e. e.label) (slice_get t.log.items p) ≡ Some id)
      × (id.0 ≡ length (labelled_sentences (take p (statements_of t))))
  id_at p there =
      let st = statements_of t in
      let (h, at) = get_within st p (are_indices.within i p there) in
      let (e, at_e, says) = entry_at t.symbols.names t.labels.names t.flat.items t.log.items p h at in
      let has : is_some h.label ≡ true = index_named st s indices i p h formed are_indices there at in
      let (id, is) = entry_labelled t.labels.names e.label (ap (λ (u : Sentence). is_some u.label) says ∙ has) in
      (id, ap (option_and_then (λ e. e.label)) at_e ∙ is, sym (are.logged p e id at_e is))

  -- one index more
  pub those_step : (new : Hypothesis) (hs : List Hypothesis) → i < length indices
      → option_and_then (λ e. e.label) (slice_get t.log.items (get_or indices i 0)) ≡ Some new.id
      → ((f : Sentence) → slice_get (statements_of t) (get_or indices i 0) ≡ Some f
      → IsHypothesis f.kind → IsTypingOf (statements_of t) new.typing f)
      → AreThoseAt (statements_of t) (take i indices) hs
      → AreThoseAt (statements_of t) (take (i + 1) indices) (hs ++ new ∷ [])
  those_step new hs lt found says so_far =
      let st = statements_of t in
      let number : ℕ → ℕ = λ p. length (labelled_sentences (take p st)) in
      let p = get_or indices i 0 in
      let there = slice_get-get_or indices i 0 lt in
      let (other, is, value) = id_at p there in
      let same : new.id.0 ≡ number p = let e : other ≡ new.id = cc in ap (λ (j : LabelId). j.0) (sym e) ∙ value in
      record {
        numbers = map-append (λ (h : Hypothesis). h.id.0) hs (new ∷ []) ∙ ap (λ ns. ns ++ new.id.0 ∷ []) so_far.numbers ∙ ap (λ n. map number (take i indices) ++ n ∷ []) same
            ∙ sym (ap (map number) (take_more indices i 0 lt) ∙ map-append number (take i indices) (p ∷ []));
        typed = each_pushed (HasTyping st) hs new so_far.typed (typing_at st s indices i p new formed are_indices there same says);
      }
