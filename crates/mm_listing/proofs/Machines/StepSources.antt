-- What a step by a tag stands for, and what a step uses, by names and by numbers.
use Rattle.std.proofs.Common.{◌≡◌, ℕ, suc, ◌+◌, ◌-◌, ◌<◌, ◌≤◌, List, [], ◌∷◌, ◌++◌, length, take}
use Rattle.std.proofs.Common.{drop, get_or, slice_get, slice_index_or, Option, Some, None, Bool}
use Rattle.std.proofs.Common.{true, false, Contains, All, ◌↔◌, inl, inr, refl, sym, ap, subst, ◌∙◌}
use Rattle.std.proofs.Common.{arith}
use Rattle.std.specs.List.{AllZip}
use Rattle.std.proofs.lemmas.Bool.{cases_lt, false≢true}
use Rattle.std.proofs.lemmas.Option.{same_Some, slice_get_within, slice_get-get_or, slice_get-map}
use Rattle.std.proofs.lemmas.Option.{get_or_from_slice_get}
use Rattle.std.proofs.lemmas.List.{nil_from_length, length-drop, length-append, take-append-le}
use Rattle.std.proofs.lemmas.List.{take-append-drop, map-append}
use Rattle.mm_base.specs.declared.statement.Kind.TheVariants.{Floating, Essential}
use Rattle.mm_base.proofs.Lists.{at_from_contains, get_kept, get_take, get_within, split_at}
use Rattle.mm_base.proofs.Lists.{zip_weaker}
use Rattle.mm_frame.specs.Sentence.{Sentence}
use Rattle.mm_frame.specs.Frame.{AreThose}
use Rattle.mm_frame.specs.FrameIndex.{IsTypingOf}
use Rattle.mm_frame.specs.Rules.{AllMeant}
use Rattle.mm_frame.specs.declared.hypothesis.Hypothesis.{Hypothesis}
use Rattle.mm_frame.specs.declared.number.Sym.{Sym}
use Rattle.mm_step.specs.declared.call.Call.{Call}
use Rattle.mm_step.specs.declared.call.Call.TheVariants as calls
use Rattle.mm_step.specs.Substitution.{Expression}
use Rattle.mm_step.specs.Tree.{Trees, none, tree, roots, DeriveAll, AnyExpression, Names}
use Rattle.mm_step.specs.Moves.{Move, name, again, mark, is_step, steps_in, Makes}
use Rattle.mm_step.specs.Proof.{Passed}
use Rattle.mm_step.specs.Steps.{IsNumberedMove}
use Rattle.mm_listing.specs.Listing.{StandsAfter}
use Rattle.mm_listing.specs.Halted.{LeaveEntries, AreOrigins}
use Rattle.mm_listing.specs.Uses.{StandsFor, AreSources, AreRoots, IsAsked, IsUsing}
use Rattle.mm_step.specs.Mirror.CodeApply.{IsCallOf}
use Rattle.mm_listing.specs.Mirror.StepUses.{sources_of, IsAskedOf, IsAmong, AreNoLater, AreEarlier}
use Rattle.mm_step.proofs.ProofSteps.OneStep.{hypothesis_or_assertion, one_names}
use Rattle.mm_step.proofs.ProofSteps.Derivations.{derive_apart, makes_split, makes_once}
use Rattle.mm_step.proofs.ProofSteps.Derivations.{roots_derive, roots-beside}
use Rattle.mm_proof.proofs.ProofVerdicts.VerdictLaws.{derive_any}
use Rattle.mm_proof.proofs.ProofVerdicts.FirstFault.{steps_in-append}
use Rattle.mm_step.proofs.ByNumbers.NumberedSymbols.{hypothesis_at, as_many}
use Rattle.mm_step.proofs.ByNumbers.StepByAssertion.{label_of, names_of, called_of}
use Rattle.mm_listing.proofs.Machines.ListedLines.{old_or_new, one_step}
use Rattle.mm_listing.proofs.Machines.StepOperands.{those_same, sources_long, of_step, of_mark}

-- ==== what steps stand for

-- whatever more steps stand for
still_stands : {X : Type 0} (sources more : List ℕ) (earlier : List (Move X)) (move : Move X)
    (source : ℕ) → StandsFor sources earlier move source
    → StandsFor (sources ++ more) earlier move source
still_stands sources more earlier (name label) source is = is
still_stands sources more earlier (again tag) source is =
    (is.0, is.1, get_kept sources more is.0 source is.2)
still_stands sources more earlier mark source is = absurd is

pub sources_step : {X : Type 0} (moves : List (Move X)) (move : Move X) (sources : List ℕ) (source : ℕ)
    → AreSources moves sources → is_step move ≡ true → StandsFor sources moves move source
    → AreSources (moves ++ move ∷ []) (sources ++ source ∷ [])
sources_step moves move sources source was is new =
    of_step (StandsFor (sources ++ source ∷ [])) moves move sources source
    (record {
      count = was.count;
      each = λ index m s there step at.
          still_stands sources (source ∷ []) (take index moves) m s
          (was.each index m s there step at);
    })
    is (still_stands sources (source ∷ []) moves move source new)

pub sources_mark : {X : Type 0} (moves : List (Move X)) (sources : List ℕ)
    → AreSources moves sources → AreSources (moves ++ mark ∷ []) sources
sources_mark moves sources was = of_mark (StandsFor sources) moves sources was

-- ---- a tag stands after a step

-- moves without a step make nothing
nothing_made : (before : List Sentence) (moves : List (Move (List ℕ))) (row row' : Trees)
    (kept kept' : List Trees) → Makes before moves row kept row' kept' → steps_in moves ≡ 0
    → row' ≡ row
nothing_made before [] row row' kept kept' made steps = made.0
nothing_made before (name label ∷ moves) row row' kept kept' made steps =
    absurd (omega (arith, steps, steps_in-append (name label ∷ []) moves))
nothing_made before (again tag ∷ moves) row row' kept kept' made steps =
    absurd (omega (arith, steps, steps_in-append (again tag ∷ []) moves))
nothing_made before (mark ∷ moves) row row' kept kept' made steps =
    nothing_made before moves made.0 row' made.1 kept' made.3
    (omega (arith, steps, steps_in-append (mark ∷ []) moves)) ∙ made.2.4

-- moves that pass make no mark before any step
pub step_first : (Fits : Expression → Type 0) (before : List Sentence) (moves : List (Move (List ℕ)))
    (stack kept : List Expression) (tag step : ℕ) → Passed Fits before moves stack kept
    → StandsAfter moves tag step → 0 < step
step_first Fits before moves stack kept tag step passed stands = elim (cases_lt 0 step) [
  | inl less ↦ less
  | inr more ↦
      let at : ℕ = step + tag in
      let split = split_at moves at mark stands.0 in
      let s = makes_split before (take at moves) (mark ∷ drop (suc at) moves) none passed.trees []
      passed.shelf
      (subst (λ l. Makes before l none [] passed.trees passed.shelf) split passed.made) in
      let one = s.3.2 in
      let empty : s.0 ≡ none =
      nothing_made before (take at moves) none s.0 [] s.1 s.2 (omega (arith, stands.1, more)) in
      let t : Trees = tree one.1 one.2 none in
      let width : roots s.0 ≡ roots one.0 + 1 = ap roots one.3 ∙ roots-beside one.0 t in
      absurd (omega (arith, width, ap roots empty))
]

-- a tag stands where it stood before a step
pub stands_before : {X : Type 0} (moves : List (Move X)) (move : Move X) (tag step : ℕ)
    → is_step move ≡ true → StandsAfter (moves ++ move ∷ []) tag step → StandsAfter moves tag step
stands_before moves move tag step is stands = elim (old_or_new moves move mark (step + tag)
    stands.0) [
      | inl old ↦ (
        old.1,
        sym (ap steps_in (take-append-le (step + tag) moves (move ∷ [])
            (let l = old.0 in omega arith))) ∙ stands.1,
      )
      | inr new ↦ absurd (false≢true (rw new.1 at is))
    ]

-- the step is one of them
pub stands_within : {X : Type 0} (moves : List (Move X)) (tag step : ℕ) → StandsAfter moves tag step
    → step ≤ steps_in moves
stands_within moves tag step stands =
    let at : ℕ = step + tag in
    omega (
      arith,
      stands.1,
      ap steps_in (sym (take-append-drop at moves)),
      steps_in-append (take at moves) (drop at moves),
    )

-- ==== what a step uses

-- ---- whatever fits

passed_any : (Fits : Expression → Type 0) (before : List Sentence) (moves : List (Move (List ℕ)))
    (stack kept : List Expression) → Passed Fits before moves stack kept
    → Passed AnyExpression before moves stack kept
passed_any Fits before moves stack kept p = record {
  trees = p.trees;
  shelf = p.shelf;
  made = p.made;
  derived = derive_any Fits before p.trees stack p.derived;
  kept_derived = zip_weaker (λ t e. DeriveAll Fits before t (e ∷ []))
      (λ t e. DeriveAll AnyExpression before t (e ∷ []))
      (λ t e d. derive_any Fits before t (e ∷ []) d) p.shelf kept p.kept_derived;
}

leave_any : (Fits : Expression → Type 0) (before : List Sentence) (moves : List (Move (List ℕ)))
    (count : ℕ) → LeaveEntries Fits before moves count
    → LeaveEntries AnyExpression before moves count
leave_any Fits before moves count l = (l.0, l.1, passed_any Fits before moves l.0 l.1 l.2, l.3)

origins_any : (Fits : Expression → Type 0) (before : List Sentence) (moves : List (Move (List ℕ)))
    (stack : List Expression) (origins : List ℕ) → AreOrigins Fits before moves stack origins
    → AreOrigins AnyExpression before moves stack origins
origins_any Fits before moves stack origins was = record {
  count = was.count;
  each = λ index step there.
      let m = was.each index step there in
      record {
        earlier = m.earlier;
        move = m.move;
        later = m.later;
        parts = m.parts;
        step_made = m.step_made;
        number = m.number;
        last = leave_any Fits before (m.earlier ++ m.move ∷ []) (index + 1) m.last;
        since = λ some more split steps.
            let s = m.since some more split steps in
            (s.0, leave_any Fits before (m.earlier ++ m.move ∷ some) s.0 s.1, s.2);
      };
  given = was.given;
}

-- a step that made an entry is one of them
pub origin_among : (Fits : Expression → Type 0) (before : List Sentence) (moves : List (Move (List ℕ)))
    (stack : List Expression) (origins : List ℕ) (index step : ℕ)
    → AreOrigins Fits before moves stack origins → slice_get origins index ≡ Some step
    → IsAmong (steps_in moves) step
origin_among Fits before moves stack origins index step made there =
    let m = made.each index step there in
    let whole = ap steps_in m.parts in
    let parts = steps_in-append m.earlier (m.move ∷ m.later) in
    let one = steps_in-append (m.move ∷ []) m.later in (
      omega (arith, m.number),
      omega (arith, m.number, whole, parts, one, one_step m.move m.step_made),
    )

-- ---- what the entries that a step takes were made by

-- each origin has a source
sources_given : (sources origins : List ℕ)
    → ((index step : ℕ) → slice_get origins index ≡ Some step → IsAmong (length sources) step)
    → AllZip (λ origin operand. slice_get sources (origin - 1) ≡ Some operand) origins
    (sources_of sources origins)
sources_given sources [] among = tt
sources_given sources (origin ∷ origins) among =
    let one = among 0 origin refl in (
      slice_get-get_or sources (origin - 1) 0 (omega (arith, one.0, one.1)),
      sources_given sources origins (λ index step there. among (suc index) step there),
    )

-- those of all entries are the roots
pub roots_made : (Fits : Expression → Type 0) (before : List Sentence)
    (moves : List (Move (List ℕ))) (stack kept : List Expression) (origins sources : List ℕ)
    → Passed Fits before moves stack kept → AreOrigins Fits before moves stack origins
    → AreSources moves sources → AreRoots before moves (sources_of sources origins)
roots_made Fits before moves stack kept origins sources passed made resolved = record {
  stack = stack;
  kept = kept;
  passed = passed_any Fits before moves stack kept passed;
  origins = origins;
  made = origins_any Fits before moves stack origins made;
  sources = sources;
  resolved = resolved;
  given = sources_given sources origins (λ index step there.
      subst (λ k. IsAmong k step) (sym resolved.count)
      (origin_among Fits before moves stack origins index step made there));
}

-- cut at an index
sources_cut : (sources origins : List ℕ) (n : ℕ)
    → sources_of sources origins
    ≡ sources_of sources (take n origins) ++ sources_of sources (drop n origins)
sources_cut sources origins n =
    ap (sources_of sources) (sym (take-append-drop n origins)) ∙ simp map-append

module _ (Fits : Expression → Type 0) (before : List Sentence) (all : AllMeant before)
    (moves : List (Move (List ℕ))) (label : List ℕ) (stack kept stack' kept' : List Expression)
    (origins sources : List ℕ) where
  -- the step by the label uses those of the origins' sources that are asked for
  pub name_using : (essential : Bool) (Asked : ℕ → Type 0) (used : List ℕ)
      → Passed Fits before moves stack kept
      → Passed Fits before (moves ++ name label ∷ []) stack' kept'
      → AreOrigins Fits before moves stack origins → AreSources moves sources
      → ((index : ℕ) (assertion : Sentence) (hypotheses : List Sentence)
      → Names before label index assertion hypotheses → (i : ℕ)
      → Asked i ↔ IsAsked essential hypotheses i)
      → AreThose (λ i operand. Asked i) 0 (sources_of sources (drop (length stack' - 1) origins)) used
      → IsUsing essential before moves (name label) used
  name_using essential Asked used p q made resolved asked those =
      let s = makes_split before moves (name label ∷ []) none q.trees [] q.shelf q.made in
      let same = makes_once before moves none p.trees s.0 [] p.shelf s.1 all p.made s.2 in
      let last = s.3 in
      let one = last.2 in
      let old = derive_apart Fits before one.0 one.1 stack
      (subst (λ t. DeriveAll Fits before t stack) (same.0 ∙ one.2) p.derived) in
      let new = derive_apart Fits before one.0 (tree label one.1 none) stack'
      (subst (λ t. DeriveAll Fits before t stack') (last.3.0 ∙ one.4) q.derived) in
      let d = new.4 in
      let n : ℕ = length stack' - 1 in
      let rest : List ℕ = drop n origins in
      let below : roots one.1 ≡ length old.1 = roots_derive Fits before one.1 old.1 old.4 in
      let left : roots one.0 ≡ length old.0 = roots_derive Fits before one.0 old.0 old.3 in
      let left' : roots one.0 ≡ length new.0 = roots_derive Fits before one.0 new.0 new.3 in
      let top : length new.1 ≡ 1 =
      sym (roots_derive Fits before (tree label one.1 none) new.1 new.4) in
      let deep : length stack' ≡ length new.0 + length new.1 =
      ap length new.2 ∙ length-append new.0 new.1 in
      let was : length stack ≡ length old.0 + length old.1 =
      ap length old.2 ∙ length-append old.0 old.1 in
      let taken : length rest ≡ roots one.1 = omega (
        arith,
        length-drop n origins,
        made.count,
        was,
        deep,
        top,
        left,
        left',
        below,
      ) in
      elim one.3 [
        | inl leaf ↦
            let gone : rest ≡ [] = nil_from_length rest (taken ∙ ap roots leaf.0) in
            inl (
              subst (λ (l : List ℕ). AreThose (λ i operand. Asked i) 0 (sources_of sources l) used)
                  gone those,
              leaf.1,
            )
        | inr named ↦ inr (
          named.0,
          named.1,
          named.2,
          named.3,
          sources_of sources rest,
          (
            sources_of sources (take n origins),
            subst (AreRoots before moves) (sources_cut sources origins n)
                (roots_made Fits before moves stack kept origins sources p made resolved),
            sources_long sources rest ∙ taken ∙ named.4,
          ),
          those_same (λ i operand. Asked i) (λ i operand. IsAsked essential named.2 i)
              (λ i operand. asked named.0 named.1 named.2 named.3 i) 0 (sources_of sources rest)
              used those,
        )
      ]

-- ---- by numbers

-- a `$e` has no typing
untyped : (st : List Sentence) (typing : Option (Sym × Sym)) (h : Sentence)
    → IsTypingOf st typing h → h.kind ≡ Essential → typing ≡ None
untyped st None h is essential = refl
untyped st (Some typing) h is essential =
    let both : Floating ≡ Essential = sym is.2.0 ∙ essential in absurd (cc both)

-- what is asked of a call is asked of the hypotheses of the assertion that its label names
pub asked_same : (st : List Sentence) (index id : ℕ) (call : Call) (label : List ℕ)
    → AllMeant (take index st) → IsCallOf st index id call
    → IsNumberedMove st (name id) (name label) → (essential : Bool) (at : ℕ) (a : Sentence)
    (hypotheses : List Sentence) → Names (take index st) label at a hypotheses → (i : ℕ)
    → IsAskedOf essential call i ↔ IsAsked essential hypotheses i
asked_same st index id call label all is move false at a hypotheses names i =
    ((λ any. tt), (λ any. tt))
asked_same st index id (calls.Hypothesis symbols) label all is move true at a hypotheses names i =
    let used = is.1 in
    let before = take index st in
    let named = label_of st id used.at used.s label used.numbered move in
    let there = get_take st index used.at used.before ∙ used.numbered.there in (
      (λ none. absurd none),
      (λ some. absurd (hypothesis_or_assertion before used.at at used.s a label all there
          names.there named names.named is.2 names.kind)),
    )
asked_same st index id (calls.Assertion signature) label all is move true at a hypotheses names i =
    let xs = signature.hypotheses.now in
    let called = called_of st index id signature is in
    let hs = is.hypotheses.hypotheses in
    let own : Names (take index st) label is.at called.s hs =
    names_of st index id is.at _ hs label called move in
    let same : hypotheses ≡ hs =
    one_names (take index st) label at is.at a called.s hypotheses hs all names own in
    let long : length hs ≡ length xs = as_many st xs hs called.known in (
      (λ h.
          let less = slice_get_within xs i h.0 h.1 in
          let read : get_or xs i h.0 ≡ h.0 = get_or_from_slice_get xs i h.0 h.0 h.1 in
          let g = hypothesis_at st xs hs i h.0 is.typed called.known less in (
            g.0,
            ap (λ (l : List Sentence). slice_get l i) same ∙ g.1,
            subst (λ o. IsTypingOf st o g.0) (ap (λ (x : Hypothesis). x.typing) read ∙ h.2) g.3,
          )),
      (λ h.
          let there : slice_get hs i ≡ Some h.0 =
          ap (λ (l : List Sentence). slice_get l i) (sym same) ∙ h.1 in
          let less : i < length xs = omega (arith, long, slice_get_within hs i h.0 there) in
          let x = get_within xs i less in
          let read : get_or xs i x.0 ≡ x.0 = get_or_from_slice_get xs i x.0 x.0 x.1 in
          let g = hypothesis_at st xs hs i x.0 is.typed called.known less in
          let own_one : g.0 ≡ h.0 = same_Some g.0 h.0 (sym g.1 ∙ there) in (
            x.0,
            x.1,
            untyped st x.0.typing h.0
                (subst (λ (s : Sentence). IsTypingOf st x.0.typing s) own_one
                (subst (λ (y : Hypothesis). IsTypingOf st y.typing g.0) read g.3))
                h.2,
          )),
    )

-- sources of origins that are among the first steps are too
pub sources_among : (sources origins : List ℕ) (source : ℕ) → AreNoLater sources
    → All (IsAmong (length sources)) origins → Contains (sources_of sources origins) source
    → IsAmong (length sources) source
sources_among sources origins source no_later among is =
    let f : ℕ → ℕ = λ origin. slice_index_or sources (origin - 1) 0 in
    let at = at_from_contains (sources_of sources origins) source is in
    let long = sources_long sources origins in
    let within : at.0 < length origins =
    omega (arith, long, slice_get_within (sources_of sources origins) at.0 source at.1) in
    let m = get_within origins at.0 within in
    let one = subst (IsAmong (length sources)) (get_or_from_slice_get origins at.0 m.0 0 m.1)
    (among at.0 0 within) in
    let inside : m.0 - 1 < length sources = omega (arith, one.0, one.1) in
    let mapped : slice_get (sources_of sources origins) at.0 ≡ Some (f m.0) =
    rw (slice_get-map, m.1) refl in
    let same : f m.0 ≡ source = same_Some (f m.0) source (sym mapped ∙ at.1) in
    let s = no_later (m.0 - 1) source
    (slice_get-get_or sources (m.0 - 1) 0 inside ∙ ap (λ k. Some k) same) in
    (s.0, omega (arith, s.1, one.0, one.1))

-- rows of steps, and one more of earlier ones
pub rows_more : (rows : List (List ℕ)) (row : List ℕ) → AreEarlier rows
    → ((used : ℕ) → Contains row used → IsAmong (length rows) used)
    → AreEarlier (rows ++ row ∷ [])
rows_more rows row was among index r used there is = elim (old_or_new rows row r index there) [
  | inl old ↦ was index r used old.1 is
  | inr new ↦ subst (λ k. IsAmong k used) (sym new.0)
      (among used (subst (λ (l : List ℕ). Contains l used) (sym new.1) is))
]

-- one source more
pub no_later_more : (sources : List ℕ) (source : ℕ) → AreNoLater sources
    → IsAmong (length sources + 1) source → AreNoLater (sources ++ source ∷ [])
no_later_more sources source was among index s there = elim (old_or_new sources source s index
    there) [
      | inl old ↦ was index s old.1
      | inr new ↦ subst (λ k. IsAmong (k + 1) s) (sym new.0)
          (subst (IsAmong (length sources + 1)) new.1 among)
    ]
