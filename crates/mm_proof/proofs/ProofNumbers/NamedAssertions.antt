-- The numbers of what follows a first symbol, and the assertion that a lesser number names.
use Rattle.std.proofs.Common.{◌≡◌, ℕ, ◌<◌, ◌≤◌, List, [], ◌∷◌, length, take, drop}
use Rattle.std.proofs.Common.{get_or, slice_get, slice_range, Option, Some, None, refl, sym, ap}
use Rattle.std.proofs.Common.{subst, ◌∙◌, arith, option_map}
use Rattle.std.specs.List.{AllByRecursion, AllZip}
use Rattle.std.proofs.lemmas.Option.{same_Some, slice_get-map, slice_get-get_or, slice_get_within}
use Rattle.std.proofs.lemmas.Option.{get_or_from_slice_get}
use Rattle.std.proofs.lemmas.List.{get_or-map, length-map, drop-map}
use Rattle.mm_base.proofs.Lists.{get_from_take, same_length}
use Rattle.mm_frame.specs.declared.number.Sym.{Sym}
use Rattle.mm_frame.specs.declared.piece.Piece.{Piece}
use Rattle.mm_frame.specs.declared.hypothesis.Hypothesis.{Hypothesis}
use Rattle.mm_frame.specs.Sentence.{Sentence, IsAssertion, IsLabelled, Types}
use Rattle.mm_frame.specs.Frame.{AreMandatory}
use Rattle.mm_frame.specs.Rules.{AllMeant}
use Rattle.mm_frame.specs.Numbers.{symbols_of, labelled_sentences, AreNumbers, IsNumbered}
use Rattle.mm_frame.specs.Numbers.{IsNumberOf, IsAssertionNumber}
use Rattle.mm_frame.proofs.Names.LabelNumbers.{numbered_from_get, numbered_get}
use Rattle.mm_frame.specs.FrameIndex.{FrameIndex, IsTypingOf, AreHypotheses, HaveTypings}
use Rattle.mm_frame.specs.Pieces.{variables_of, HavePatterns, AreItsPieces}
use Rattle.mm_frame.specs.Laws.{OneNumber}
use Rattle.mm_frame.proofs.Rules.ObeyedRules.{allmeant_prefix}
use Rattle.mm_frame.proofs.Frames.VariableIndices.{variables_counted}
use Rattle.mm_step.specs.Plain.{label_ids}
use Rattle.mm_step.specs.Substitution.{instance_of}
use Rattle.mm_step.specs.Moves.{name}
use Rattle.mm_step.specs.Steps.{IsNumberedMove}
use Rattle.mm_step.specs.Tree.{Names}
use Rattle.mm_step.specs.Proof.{MeetsHypotheses}
use Rattle.mm_proof.specs.Asked.{AsksFor}
use Rattle.mm_step.specs.Stores.{numbers_in, entries_in, all_said_by}
use Rattle.mm_step.specs.Mirror.CodeVerify.{name_at, names_at, all_names_at, AreBelow, Replaces}
use Rattle.mm_step.specs.Mirror.CodeVerify.{value_of, replaced_in}
use Rattle.mm_step.specs.Mirror.CodeAsked.{asked_numbers}
use Rattle.mm_step.proofs.ProofSteps.OneStep.{agree, one_names, one_labelled, one_label}
use Rattle.mm_step.proofs.ProofSteps.Derivations.{typing_entry, code_kept}
use Rattle.mm_step.proofs.ProofSteps.Replacements.{meets_of, replaced_by}
use Rattle.mm_step.proofs.ByNumbers.NumberedSymbols.{named_is, name_is, below_is, pattern_says}
use Rattle.mm_step.proofs.ByNumbers.NumberedSymbols.{replaced_named, replaced_below, replaces_by}
use Rattle.mm_step.proofs.ByNumbers.NumberedSymbols.{typed_variables, hypothesis_at}
use Rattle.mm_step.proofs.ByNumbers.NumberedSymbols.{all_rest, within_at, as_many}
use Rattle.mm_step.proofs.ByNumbers.StepByAssertion.{names_of, label_of}
use Rattle.mm_proof.proofs.ProofNumbers.NumberedLabels.{numbers_order}
use Rattle.mm_proof.proofs.ProofNumbers.NumbersNamed.{numbers_named}
use denote.Ref.{Bor}

-- ==== by numbers

-- what the pattern of a `$e` says
pub pattern_asked : (st : List Sentence) (vs : List (Option ℕ)) (es : List (List ℕ)) (number : ℕ)
    (pieces part : List Piece) (xs : List Hypothesis) (d h : Hypothesis)
    → HavePatterns st vs pieces xs
    → slice_get xs number ≡ Some h → (get_or xs number d).typing ≡ None
    → ((get_or xs number d).pattern.start ≤ (get_or xs number d).pattern.end
    → (get_or xs number d).pattern.end ≤ length pieces
    → part ≡ slice_range pieces (get_or xs number d).pattern.start (get_or xs number d).pattern.end)
    → all_said_by es part ≡ asked_numbers es number
    (slice_range pieces h.pattern.start h.pattern.end) h.typing
pattern_asked st vs es number pieces part xs d h have there none is =
    let has = have number h there in
    let same = get_or_from_slice_get xs number h d there in
    let untyped : h.typing ≡ None = ap (λ (x : Hypothesis). x.typing) (sym same) ∙ none in
    let said : part ≡ slice_range pieces h.pattern.start h.pattern.end =
    (rw same at is) has.ordered has.within in
    rw untyped (ap (all_said_by es) said)

-- the type code of a `$f`, and what follows that of its entry
pub typing_asked : (entries : List (Bor (List Sym))) (number : ℕ) (pattern : List Piece)
    (xs : List Hypothesis) (d h : Hypothesis) (e : Bor (List Sym)) (code x : Sym)
    → number < length entries
    → slice_get xs number ≡ Some h → (get_or xs number d).typing ≡ Some (code, x)
    → code.0 ∷ drop 1 (numbers_in (get_or entries number e).now) ≡ asked_numbers
    (entries_in entries) number pattern h.typing
typing_asked entries number pattern xs d h e code x less there is =
    let same = get_or_from_slice_get xs number h d there in
    let typed : h.typing ≡ Some (code, x) = ap (λ (y : Hypothesis). y.typing) (sym same) ∙ is in
    rw typed (ap (λ l. code.0 ∷ drop 1 l)
    (sym (get_or-map (λ (y : Bor (List Sym)). numbers_in y.now) entries number e [] less)))

-- ==== by names

-- the names of expressions by their numbers
all_named : (st : List Sentence) (es : List (List ℕ)) (given : List (List (List ℕ)))
    → AllZip (AreNumbers st) es given → all_names_at st es ≡ given
all_named st [] [] are = refl
all_named st (e ∷ es) (g ∷ given) are =
    let first : names_at st e ≡ g = named_is st e g are.0 in
    let others : all_names_at st es ≡ given = all_named st es given are.1 in
    cc
all_named st es given are = absurd are

all_below : (st : List Sentence) (es : List (List ℕ)) (given : List (List (List ℕ)))
    → AllZip (AreNumbers st) es given → AllByRecursion (AreBelow st) es
all_below st [] [] are = tt
all_below st (e ∷ es) (g ∷ given) are = (below_is st e g are.0, all_below st es given are.1)
all_below st es given are = absurd are

-- the numbers of what follows the first symbol
pub rest_numbers : (st : List Sentence) (ns : List ℕ) (xs : List (List ℕ)) → AreNumbers st ns xs
    → AreNumbers st (drop 1 ns) (drop 1 xs)
rest_numbers st [] [] are = are
rest_numbers st (n ∷ ns) (x ∷ xs) are = cc
rest_numbers st ns xs are = absurd cc

-- the hypotheses of a frame of these statements
pub hypotheses_at : (frame : FrameIndex) (st : List Sentence) (ids : List ℕ) → frame.statements ≡ st
    → AreHypotheses frame ids → AreHypotheses (record { statements = st; index = frame.index }) ids
hypotheses_at frame st ids is are = subst
    (λ s. let f : FrameIndex = record { statements = s; index = frame.index } in AreHypotheses f ids)
    is are

-- the label of an assertion before the index has this number: it is that of an assertion
pub assertion_number : (st : List Sentence) (index id at : ℕ) (label : List ℕ) (a : Sentence)
    (hs : List Sentence) → AllMeant st → IsNumberedMove st (name id) (name label)
    → Names (take index st) label at a hs → IsAssertionNumber st id
assertion_number st index id at label a hs all move names =
    let n = numbered_from_get st id move.0 move.2 in
    let found = get_from_take st index at a names.there in
    let same = one_labelled st n.0 at move.0 a label all n.1.there found.1
    (label_of st id n.0 move.0 label n.1 move) names.named in
    (n.0, move.0, n.1, subst (λ (s : Sentence). IsAssertion s.kind) (sym same) names.kind)

-- an assertion with a lesser number than a `$p` may be taken by its proof: its label names it and
-- its hypotheses
pub named_by_number : (st : List Sentence) (id own at other index : ℕ) (a b t : Sentence)
    (label : List ℕ) (ids : List ℕ)
    → IsNumbered st id other b → IsLabelled label b → IsNumbered st id at a → IsAssertion a.kind
    → IsNumbered st own index t → id < own
    → (are : AreHypotheses (record { statements = st; index = at }) ids)
    → IsNumberedMove st (name id) (name label) × Names (take index st) label at a are.hypotheses
    × (length are.hypotheses ≡ length ids)
named_by_number st id own at other
    index a b t label ids found named numbered kind own_numbered less are =
    let move : IsNumberedMove st (name id) (name label) =
    (b, label, numbered_get st id other b found, named, refl) in (
      move,
      names_of st index id at ids are.hypotheses label (record {
        s = a;
        numbered = numbered;
        kind = kind;
        before = numbers_order st id own at index a t numbered own_numbered less;
        mandatory = subst (λ (t : Sentence). AreMandatory (take at st) t are.hypotheses)
            (same_Some are.assertion a (sym are.there ∙ numbered.there)) are.mandatory;
        known = are.numbered;
      }) move,
      sym (same_length _ Some ids are.hypotheses are.numbered),
    )

module _ (st : List Sentence) (index : ℕ) (all : AllMeant st) (id at : ℕ) (a : Sentence)
    (numbered : IsNumbered st id at a) (kind : IsAssertion a.kind) (xs : List Hypothesis)
    (are : AreHypotheses (record { statements = st; index = at }) (label_ids xs)) (label : List ℕ)
    (move : IsNumberedMove st (name id) (name label)) where
  -- the hypotheses of the assertion with the number are those that the label names
  pub its_names : (other : ℕ) (b : Sentence) (hs : List Sentence)
      → Names (take index st) label other b hs
      → Names (take index st) label at a are.hypotheses
  its_names other b hs names =
      let found = get_from_take st index other b names.there in
      let same : at ≡ other = one_label st at other a b label all numbered.there found.1
      (label_of st id at a label numbered move) names.named in
      names_of st index id at (label_ids xs) are.hypotheses label (record {
        s = a;
        numbered = numbered;
        kind = kind;
        before = (let less : other < index = found.0 in omega arith);
        mandatory = subst (λ (t : Sentence). AreMandatory (take at st) t are.hypotheses)
            (same_Some are.assertion a (sym are.there ∙ numbered.there)) are.mandatory;
        known = are.numbered;
      }) move

  pub same_hypotheses : (other : ℕ) (b : Sentence) (hs : List Sentence)
      → Names (take index st) label other b hs
      → hs ≡ are.hypotheses
  same_hypotheses other b hs names =
      one_names (take index st) label other at b a hs are.hypotheses
      (allmeant_prefix st index all) names (its_names other b hs names)

  -- they are as many
  pub as_many_named : (other : ℕ) (b : Sentence) (hs : List Sentence)
      → Names (take index st) label other b hs
      → length hs ≡ length xs
  as_many_named other b hs names =
      ap length (same_hypotheses other b hs names) ∙ as_many st xs are.hypotheses are.numbered

  module _ (one : OneNumber) (typed : HaveTypings st xs) (pieces : List Piece)
      (patterned : HavePatterns st (variables_of xs) pieces xs) (es : List (List ℕ))
      (stack given : List (List (List ℕ))) (zip : AllZip (AreNumbers st) es given)
      (m : MeetsHypotheses (take index st) stack label) (entries : m.entries ≡ given) where
    pub hypotheses_are : m.hypotheses ≡ are.hypotheses
    hypotheses_are = same_hypotheses m.index m.assertion m.hypotheses m.names

    pub entries_are : m.entries ≡ all_names_at st es
    entries_are = entries ∙ sym (all_named st es given zip)

    -- what the step replaces is what the entries give
    pub replaces : Replaces st m.σ (variables_of xs) es
    replaces n below =
        let prefix = allmeant_prefix st index all in
        let names = its_names m.index m.assertion m.hypotheses m.names in
        let other = meets_of (take index st) stack label at a are.hypotheses m.rest m.entries
        prefix names m.split (m.paired ∙ ap length hypotheses_are) in
        let same = (agree (take index st) stack label prefix m other).replacement (name_at st n) in
        same ∙ ap (λ l. replaced_by are.hypotheses l (name_at st n)) entries_are
        ∙ replaces_by one st (variables_of xs) are.hypotheses es
        (typed_variables st xs are.hypotheses typed are.numbered) n below

    pub size : length (variables_of xs) ≡ length es
    size = variables_counted xs ∙ sym (as_many st xs are.hypotheses are.numbered)
        ∙ sym (ap length hypotheses_are)
        ∙ sym m.paired ∙ ap length entries_are ∙ length-map es (names_at st)

    pub pattern_named : (g : Sentence) (part : List Piece) → AreItsPieces st (variables_of xs) g part
        → AreNumbers st (all_said_by es part) (instance_of m.σ g.symbols)
    pattern_named g part its =
        let vs = variables_of xs in
        let ns = its.0 in
        let said = pattern_says vs es ns part size its.2 in
        let below = below_is st ns g.symbols its.1 in
        let named = replaced_named st m.σ vs es ns replaces below
        ∙ ap (instance_of m.σ) (named_is st ns g.symbols its.1) in
        rw said (subst (AreNumbers st (replaced_in (value_of vs es) ns)) named
        (numbers_named st _ (replaced_below st vs es ns (all_below st es given zip) below)))

    pub typing_named : (g : Sentence) (number : ℕ) (code x : List ℕ) (c : ℕ)
        → slice_get are.hypotheses number ≡ Some g → number < length es
        → Types code x g → IsNumberOf st code c
        → AreNumbers st (c ∷ drop 1 (get_or es number [])) (instance_of m.σ g.symbols)
    typing_named g number code x c there less types numbered =
        let e = get_or es number [] in
        let held : slice_get m.hypotheses number ≡ Some g = rw hypotheses_are there in
        let entry : slice_get m.entries number ≡ Some (names_at st e) =
        rw entries_are (slice_get-map (names_at st) es number
        ∙ ap (option_map (names_at st)) (slice_get-get_or es number [] less)) in
        let kept = code_kept (take index st) label m.index m.assertion m.hypotheses m.σ number g
        code x (allmeant_prefix st index all) m.names m.on held types in
        let value = m.replaced number g (names_at st e) code x held entry types in
        let made : instance_of m.σ g.symbols ≡ code ∷ drop 1 (names_at st e) =
        ap (instance_of m.σ) types.1 ∙ typing_entry m.σ code x (drop 1 (names_at st e)) kept
        value in
        let below : AreBelow st (c ∷ drop 1 e) = (
          slice_get_within (symbols_of st) c code numbered,
          all_rest _ e (within_at (AreBelow st) es number [] (all_below st es given zip) less),
        ) in
        let named : names_at st (c ∷ drop 1 e) ≡ code ∷ drop 1 (names_at st e) =
        cc (name_is st c code numbered, drop-map (name_at st) 1 e) in
        subst (AreNumbers st (c ∷ drop 1 e)) (named ∙ sym made)
        (numbers_named st (c ∷ drop 1 e) below)

    pub asked_named : (number : ℕ) (h : Hypothesis) → slice_get xs number ≡ Some h
        → number < length es
        → (e : List (List ℕ)) × AreNumbers st
        (asked_numbers es number (slice_range pieces h.pattern.start h.pattern.end) h.typing) e
        × AsksFor (take index st) stack label number e
    asked_named number h there less =
        let at_xs = hypothesis_at st xs are.hypotheses number h typed are.numbered
        (slice_get_within xs number h there) in
        let same = get_or_from_slice_get xs number h h there in
        let g = at_xs.0 in
        let held : slice_get m.hypotheses number ≡ Some g = rw hypotheses_are at_xs.1 in
        let labelled : slice_get (labelled_sentences st) h.id.0 ≡ Some g = rw same at at_xs.2 in
        let typing : IsTypingOf st h.typing g = rw same at at_xs.3 in (
          instance_of m.σ g.symbols,
          go g at_xs.1 labelled h.typing refl typing,
          (m, g, held, refl),
        )
      where
        go : (g : Sentence) → slice_get are.hypotheses number ≡ Some g
            → slice_get (labelled_sentences st) h.id.0 ≡ Some g
            → (typing : Option (Sym × Sym)) → h.typing ≡ typing → IsTypingOf st typing g
            → AreNumbers st (asked_numbers es number
            (slice_range pieces h.pattern.start h.pattern.end) typing) (instance_of m.σ
            g.symbols)
        go g held labelled None is typing =
            let says = (patterned number h there).says is in
            pattern_named g _ (subst (λ (t : Sentence). AreItsPieces st (variables_of xs) t
            (slice_range pieces h.pattern.start h.pattern.end))
            (same_Some says.0 g (sym says.1 ∙ labelled)) says.2)
        go g held labelled (Some t) is (code, x, types, first, second) =
            typing_named g number code x t.0.0 held less types first
