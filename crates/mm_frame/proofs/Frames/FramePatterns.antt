-- The patterns of an assertion and of its `$e` are made.
use Rattle.std.proofs.Common.{◌≡◌, ℕ, zero, suc, ◌+◌, ◌<◌, ◌≤◌, inl, inr, false, length, get_or}
use Rattle.std.proofs.Common.{take, set, List, [], ◌∷◌, ◌++◌, map, Option, option_map, Some, sym}
use Rattle.std.proofs.Common.{ap, ◌∙◌, subst, Result, append-nil, append_assoc, arith, slice_get}
use Rattle.std.proofs.Common.{is_none, IfOk}
use Rattle.std.proofs.lemmas.List.{length-map, take_more, map-append, take_all}
use Rattle.std.proofs.lemmas.Option.{slice_get_within, get_or_from_slice_get}
use Rattle.mm_frame.specs.declared.hypothesis.Hypothesis.{Hypothesis}
use Rattle.mm_frame.specs.declared.number.LabelId.{LabelId}
use Rattle.mm_frame.specs.declared.number.Sym.{Sym}
use Rattle.mm_frame.specs.declared.piece.Piece.{Piece}
use Rattle.mm_frame.specs.declared.tables.Entry.{Entry}
use Rattle.mm_frame.specs.declared.part.Part.{Part}
use Rattle.mm_frame.specs.declared.tables.Tables.{Tables}
use Rattle.mm_frame.specs.Sentence.{Sentence}
use Rattle.mm_frame.specs.Numbers.{labelled_sentences, AreNumbers}
use Rattle.mm_frame.specs.FrameIndex.{IsTypingOf, HaveTypings}
use Rattle.mm_frame.specs.Pieces.{variables_of, IsPieceOf, ArePieces, HasPattern}
use Rattle.mm_frame.specs.Mirror.Gathered.{AreRisingIndices}
use Rattle.mm_frame.specs.Mirror.Layout.{statements_of}
use Rattle.mm_frame.specs.Mirror.Naming.{part_after}
use Rattle.mm_frame.specs.Mirror.Patterned.{IsLonger, IsPatternAt, told, AreSameButPatterns}
use Rattle.mm_frame.specs.Mirror.Patterned.{AreMandatoryOf, HaveFirstPatterns, ArePatterned}
use Rattle.mm_base.proofs.Lists.{get_within, get_set_cases, zip_push, zip_mapped, mapped_zip}
use Rattle.mm_base.proofs.Lists.{same_length}
use Rattle.mm_frame.proofs.Names.NameNumbers.{get_mapped, get_alike}
use Rattle.mm_frame.proofs.Names.LabelNumbers.{numbered_at, numbered_get}
use Rattle.mm_frame.proofs.BookLists.GrownLists.{all_statements, longer, added_part}
use Rattle.mm_frame.proofs.Frames.MandatoryHypotheses.{index_named}
use Rattle.mm_frame.proofs.Frames.VariableIndices.{pattern_longer}
use Rattle.std.proofs.lemmas.Result.{IfOk-weaker}
use Rattle.std.proofs.Math.Seq.{map-set_same}

told_agree : {Y : Type 0} (f : LabelId × Option (Sym × Sym) → Y) (old new : List Hypothesis) → AreSameButPatterns old new → map (λ h. f (told h)) new ≡ map (λ h. f (told h)) old
told_agree f old new same = zip_mapped (λ h. f (told h)) (λ h. f (told h)) new old
    (mapped_zip told told _ (λ x y e. ap f e) new old same)

pub ids_same : (old new : List Hypothesis) → AreSameButPatterns old new → map (λ h. h.id.0) new ≡ map (λ h. h.id.0) old
ids_same old new same = told_agree (λ p. p.0.0) old new same

pub variables_same : (old new : List Hypothesis) → AreSameButPatterns old new → variables_of new ≡ variables_of old
variables_same old new same = told_agree (λ p. option_map (λ typing. typing.1.0) p.1) old new same

pub typings_same : (st : List Sentence) (old new : List Hypothesis) → AreSameButPatterns old new → HaveTypings st old → HaveTypings st new
typings_same st old new same have i h there =
    let (g, at, is) = get_alike told told new old i h same there in
    subst (λ (p : LabelId × Option (Sym × Sym)). (e : Sentence) × (slice_get (labelled_sentences st) p.0.0 ≡ Some e) × IsTypingOf st p.1 e) is (have i g at)

-- a rising list has at each index at least its index
rising_least : (indices : List ℕ) → AreRisingIndices indices → (i p : ℕ) → slice_get indices i ≡ Some p → i ≤ p
rising_least indices rise zero p there = omega arith
rising_least indices rise (suc i) p there =
    let lt = slice_get_within indices (suc i) p there in
    let (q, at) = get_within indices i (omega arith) in
    let least = rising_least indices rise i q at in
    let less = rise i (suc i) q p at there (omega arith) in
    omega arith

rising_few : (indices : List ℕ) (n : ℕ) → AreRisingIndices indices → ((i p : ℕ) → slice_get indices i ≡ Some p → p < n) → length indices ≤ n
rising_few [] n rise within = omega arith
rising_few (x ∷ indices) n rise within =
    let (p, at) = get_within (x ∷ indices) (length indices) (omega arith) in
    let least = rising_least (x ∷ indices) rise (length indices) p at in
    let less = within (length indices) p at in
    omega arith

pub same_counted : (old new : List Hypothesis) → AreSameButPatterns old new → length new ≡ length old
same_counted old new same = sym (length-map new told) ∙ ap length same ∙ length-map old told

-- the label of the hypothesis at an index
pub id_same : (st : List Sentence) (indices : List ℕ) (hs : List Hypothesis) (i index : ℕ) (h : Hypothesis) → map (λ h. h.id.0) hs ≡ map (λ p. length (labelled_sentences (take p st))) indices
    → slice_get indices i ≡ Some index → slice_get hs i ≡ Some h → length (labelled_sentences (take index st)) ≡ h.id.0
id_same st indices hs i index h numbers there at =
    let one = get_mapped (λ (k : Hypothesis). k.id.0) hs i h at in
    let two = get_mapped (λ p. length (labelled_sentences (take p st))) indices i index there in
    let three = subst (λ ns. slice_get ns i ≡ Some h.id.0) numbers one in
    let joined : Some (length (labelled_sentences (take index st))) ≡ Some h.id.0 = sym two ∙ three in
    cc

-- one hypothesis more
pub first_step : (st : List Sentence) (old hs : List Hypothesis) (pieces c : List Piece) (i : ℕ) (h : Hypothesis) (part : Part) → HaveFirstPatterns st old hs pieces i → slice_get hs i ≡ Some h
    → HasPattern st (variables_of old) (pieces ++ c) (record h { pattern = part }) → HaveFirstPatterns st old (set hs i (record h { pattern = part })) (pieces ++ c) (i + 1)
first_step st old hs pieces c i h part have at has = record {
  same = map-set_same told hs i (record h { pattern = part }) h
      (ap told (sym (get_or_from_slice_get hs i h h at))) ∙ have.same;
  each = λ j g lt there. elim (get_set_cases hs i j (record h { pattern = part }) g there) [
    | inl (is, same) ↦ subst (HasPattern st (variables_of old) (pieces ++ c)) same has
    | inr (other, kept) ↦ pattern_longer st (variables_of old) pieces c g (have.each j g (omega (arith, other)) kept)
  ];
}

-- all of them
pub first_all : (st : List Sentence) (numbers : List ℕ) (old hs : List Hypothesis) (pieces c : List Piece) (count : ℕ) (part : Part) → HaveFirstPatterns st old hs pieces count → count ≡ length old
    → IsPatternAt (variables_of hs) numbers (pieces ++ c) part → ArePatterned st numbers old hs (pieces ++ c) part
first_all st numbers old hs pieces c count part have all is =
    let size = same_counted old hs have.same in
    record {
      same = have.same;
      concluded = is;
      patterned = λ i h there.
          let lt = slice_get_within hs i h there in
          subst (λ vs. HasPattern st vs (pieces ++ c) h) (sym (variables_same old hs have.same)) (pattern_longer st (variables_of old) pieces c h (have.each i h (omega arith) there));
    }

-- ---- what the code does at each step

pub longer_more : {X : Type 0} (xs ys zs : List X) → IsLonger xs ys → IsLonger ys zs → IsLonger xs zs
longer_more xs ys zs (a, first) (b, second) = (a ++ b, second ∙ ap (λ ws. ws ++ b) first ∙ append_assoc xs a b)

-- one piece more
pub pieces_step : (variables : List (Option ℕ)) (symbols : List Sym) (i : ℕ) (d : Sym) (more : List Piece) (p : Piece) → i < length symbols → ArePieces variables (map (λ n. n.0) (take i symbols)) more
    → IsPieceOf variables (get_or symbols i d).0 p → ArePieces variables (map (λ n. n.0) (take (i + 1) symbols)) (more ++ p ∷ [])
pieces_step variables symbols i d more p lt are is =
    let number : Sym → ℕ = λ n. n.0 in
    let x = get_or symbols i d in
    subst (λ ns. ArePieces variables ns (more ++ p ∷ [])) (sym (ap (map number) (take_more symbols i d lt) ∙ map-append number (take i symbols) (x ∷ [])))
    (zip_push (IsPieceOf variables) (map number (take i symbols)) more x.0 p are is)

pub same_part : (a b c d : ℕ) → a ≡ c → b ≡ d → ◌≡◌ {A = Part} (record { start = a; end = b }) (record { start = c; end = d })
same_part a b c d first second = ap (λ (n : ℕ). let p : Part = record { start = n; end = b } in p) first ∙ ap (λ (n : ℕ). let p : Part = record { start = c; end = n } in p) second

-- the pieces that were added to the end of the list
pub pieces_added : (variables : List (Option ℕ)) (numbers : List ℕ) (old new more : List Piece) (part : Part) → new ≡ old ++ more → ArePieces variables numbers more → part ≡ part_after old more → IsPatternAt variables numbers new part
pieces_added variables numbers old new more part is are at =
    subst (IsPatternAt variables numbers new) (sym at) (subst (λ ps. IsPatternAt variables numbers ps (part_after old more)) (sym is) (record {
      ordered = longer old more;
      within = omega arith;
      says = subst (ArePieces variables numbers) (sym (added_part old more)) are;
    }))

-- a `$f` gets none
pub typed_step : (st : List Sentence) (old hs new : List Hypothesis) (pieces : List Piece) (i : ℕ) (h : Hypothesis) → HaveFirstPatterns st old hs pieces i → slice_get hs i ≡ Some h → is_none h.typing ≡ false
    → new ≡ set hs i (record h { pattern = record { start = 0; end = 0 } }) → HaveFirstPatterns st old new pieces (i + 1)
typed_step st old hs new pieces i h have at typed set_is =
    let none : Part = record { start = 0; end = 0 } in
    rw set_is (rw (append-nil pieces) at
    (first_step _ _ _ _ [] _ h none have at (record { ordered = omega arith; within = omega arith; says = λ untyped. absurd cc })))

module _ {t : Tables} {log : List Entry} {flat : List Sym} {indices : List ℕ}
    {old : List Hypothesis} (of : AreMandatoryOf t log flat indices old) where
  -- there is a hypothesis for each index
  pub hypotheses_counted : length old ≡ length indices
  hypotheses_counted = same_length _ _ old indices of.those.numbers

  -- there are fewer hypotheses than numbers for indices among them
  pub few_hypotheses : length old < 4294967296
  few_hypotheses =
      let all = hypotheses_counted in
      let few = rising_few indices (length (statements_of t)) of.are_indices.rising of.are_indices.within in
      let size = all_statements t in
      omega arith

  -- there is a hypothesis at each index
  pub counted : (hs : List Hypothesis) (i : ℕ) → AreSameButPatterns old hs → i < length indices
      → i < length hs
  counted hs i same lt =
      let all = hypotheses_counted in
      let size = same_counted old hs same in
      omega arith

  -- a pattern of the statement at the index is that of the hypothesis
  pub pattern_has : (numbers : List ℕ) (hs : List Hypothesis) (pieces : List Piece) (i index : ℕ)
      (h : Hypothesis) (part : Part)
      → AreSameButPatterns old hs → slice_get indices i ≡ Some index → slice_get hs i ≡ Some h
      → ((e : Sentence) → slice_get (statements_of t) index ≡ Some e → AreNumbers (statements_of t) numbers e.symbols)
      → IsPatternAt (variables_of old) numbers pieces part
      → HasPattern (statements_of t) (variables_of old) pieces (record h { pattern = part })
  pattern_has numbers hs pieces i index h part same there at says is =
      let st = statements_of t in
      let (e, at_e) = get_within st index (of.are_indices.within i index there) in
      let n = length (labelled_sentences (take index st)) in
      let id : n ≡ h.id.0 = id_same st indices hs i index h (ids_same old hs same ∙ of.those.numbers) there at in
      let numbered = numbered_get st n index e (numbered_at st index e at_e (index_named st of.assertion indices i index e of.tables.sound.1 of.are_indices there at_e)) in
      record {
        ordered = is.ordered;
        within = is.within;
        says = λ untyped. (e, subst (λ k. slice_get (labelled_sentences st) k ≡ Some e) id numbered, (numbers, says e at_e, is.says));
      }

  -- the pattern of a `$e` was added
  pub essential_step : (numbers : List ℕ) (hs new : List Hypothesis) (pieces pieces' : List Piece)
      (i index : ℕ) (h : Hypothesis) (part : Part)
      → HaveFirstPatterns (statements_of t) old hs pieces i → slice_get indices i ≡ Some index
      → slice_get hs i ≡ Some h
      → ((e : Sentence) → slice_get (statements_of t) index ≡ Some e → AreNumbers (statements_of t) numbers e.symbols)
      → (length hs < 4294967296 → IsPatternAt (variables_of hs) numbers pieces' part)
      → IsLonger pieces pieces' → new ≡ set hs i (record h { pattern = part })
      → HaveFirstPatterns (statements_of t) old new pieces' (i + 1)
  essential_step numbers hs new pieces pieces' i index h part have there at says is (c, more) set_is =
      let few = few_hypotheses in
      let size = same_counted old hs have.same in
      let pattern = rw (variables_same old hs have.same) at (is (omega arith)) in
      let has = rw more at (pattern_has numbers hs pieces' i index h part have.same there at says pattern) in
      rw set_is (rw more (first_step _ _ _ _ c _ h part have at has))

  -- the patterns of the `$e` were added, and then that of the assertion
  pub all_step : {E : Type 0} (numbers : List ℕ) (hs shown : List Hypothesis)
      (pieces pieces' : List Piece)
      → HaveFirstPatterns (statements_of t) old hs pieces (length indices) → shown ≡ hs
      → IsLonger pieces pieces' → (result : Result Part E)
      → (length shown < 4294967296 → IfOk result (IsPatternAt (variables_of shown) numbers pieces'))
      → IfOk result (ArePatterned (statements_of t) numbers old hs pieces')
  all_step numbers hs shown pieces pieces' have is (c, more) result pattern =
      let few = few_hypotheses in
      let size = same_counted old hs have.same in
      let shown_size = ap length is in
      let all = hypotheses_counted in
      IfOk-weaker result _ _ (λ part at. rw more
      (first_all _ _ _ _ _ c _ _ have (sym all) (rw (← more) (rw is at (at)))))
      (pattern (omega arith))

pub ruleset pattern_steps = (take_all, pieces_step, pieces_added, same_part)
