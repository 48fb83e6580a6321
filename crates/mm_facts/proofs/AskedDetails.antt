-- What the hypotheses of an assertion ask, one after the other, and the entries that there are.
use Rattle.std.proofs.Common.{◌≡◌, ℕ, zero, suc, ◌+◌, ◌<◌, List, [], ◌∷◌, ◌++◌, length, take, drop, map}
use Rattle.std.proofs.Common.{get_or, slice_get, Bool, true, false, Option, Some, refl, ap, sym, subst, ◌∙◌, unwrap_or}
use Rattle.std.proofs.Common.{append_assoc, arith, ◌⊎◌, inl, inr, length-append}
use Rattle.std.specs.Prelude.{◌==◌}
use Rattle.std.specs.List.{AllZip}
use Rattle.std.proofs.Math.Seq.{drop-append_seam}
use Rattle.std.proofs.lemmas.Bool.Decides.{nat_tests}
use Rattle.std.proofs.lemmas.Grind.{flat_map-append}
use Rattle.std.proofs.lemmas.Option.{same_Some}
use Rattle.mm_base.proofs.Lists.{get_kept, get_pushed, pushed_cases}
use Rattle.std.proofs.lemmas.List.{map-append}
use Rattle.mm_frame.specs.Sentence.{Sentence, IsLabelled}
use Rattle.mm_frame.specs.Numbers.{symbols_of, AreNumbers}
use Rattle.mm_step.specs.declared.fault.ProofRule.TheVariants.{P9, P10}
use Rattle.mm_listing.specs.declared.halt.Halt.{Halt}
use Rattle.mm_step.specs.Substitution.{Expression}
use Rattle.mm_step.specs.Moves.{Move, name}
use Rattle.mm_step.specs.Proof.{MeetsHypotheses}
use Rattle.mm_listing.specs.Halted.{HaltsProof, TellsEntry}
use Rattle.mm_proof.specs.Asked.{AsksFor}
use Rattle.mm_step.proofs.ByNumbers.NumberedSymbols.{drop_get}
use Rattle.mm_rules.specs.Answer.{labels_at}
use Rattle.mm_facts.specs.Explained.{Detail, detail_text, details_text, hypothesis_asks}
use Rattle.mm_facts.specs.Explained.{is_unmet}
use Rattle.mm_facts.specs.Mirror.Explaining.{AskedSoFar, AskedFacts, TurnFacts, is_told}
use Rattle.mm_rules.proofs.Numbers.{names_at}
use Rattle.mm_facts.proofs.HaltDetails.{StepLeft, step_left, broken_step, frame_names}
use Rattle.mm_facts.specs.Mirror.Explaining.{IsHaltOf}
use Rattle.mm_frame.specs.declared.hypothesis.Hypothesis.{Hypothesis}
use Rattle.mm_frame.specs.declared.number.LabelId.{LabelId}
use Rattle.mm_frame.specs.declared.number.Sym.{Sym}
use Rattle.mm_frame.specs.Sentence.{IsAssertion}
use Rattle.mm_frame.specs.Rules.{AllMeant}
use Rattle.mm_frame.specs.Numbers.{IsNumbered}
use Rattle.mm_frame.specs.FrameIndex.{FrameIndex, AreHypotheses}
use Rattle.mm_frame.proofs.Rules.ObeyedRules.{allmeant_prefix}
use Rattle.mm_listing.specs.declared.halt.HaltAt.TheVariants as at
use Rattle.mm_step.specs.Mirror.CodeVerify.{AreHypothesesOf}
use Rattle.mm_step.specs.Stores.{entries_in, numbers_in}
use Rattle.mm_step.specs.Steps.{IsNumberedMove}
use Rattle.mm_step.proofs.ProofSteps.OneStep.{one_names, agree, same_substituted}
use Rattle.mm_step.specs.Substitution.{instance_of}
use Rattle.mm_facts.proofs.DetailTexts.{all_same}
use Rattle.mm_facts.proofs.StepPlaces.{zip_from}
use Rattle.mm_base.proofs.Lists.{get_within}
use Rattle.std.specs.Prelude.{filter, not}
use Rattle.std.proofs.lemmas.List.Elements.{filter-append}
use Rattle.mm_step.proofs.ByNumbers.NumberedSymbols.{as_many}
use Rattle.mm_step.specs.Steps.{IsProofNumber}
use Rattle.mm_proof.specs.Parsed.{OfProof}
use Rattle.mm_frame.proofs.Names.LabelNumbers.{numbered_unique}
use Rattle.mm_facts.specs.Explained.{AreAsked}
use Rattle.std.proofs.lemmas.Option.{slice_get_within}
use denote.Ref.{Bor}

-- the step meets its hypotheses
pub asked_meets : (limit : ℕ) (st before : List Sentence) (s : Sentence) (prefix : Bool)
    (moves : List (Move (List ℕ))) (halt : Halt) (h : HaltsProof limit st before s prefix moves halt)
    (id : ℕ) (step : StepLeft st h.there.left id) → (halt.rule ≡ Some P9) ⊎ (halt.rule ≡ Some P10)
    → MeetsHypotheses before h.there.stack step.label
asked_meets limit st before s prefix moves halt h id step (inl is) =
    (broken_step limit st before s prefix moves halt h id step P9 is).0
asked_meets limit st before s prefix moves halt h id step (inr is) =
    (broken_step limit st before s prefix moves halt h id step P10 is).0

-- the stack is what lies below the entries, and as many entries as hypotheses
pub stack_parts : (before : List Sentence) (stack : List Expression) (label : List ℕ)
    (m : MeetsHypotheses before stack label) → length stack ≡ length m.rest + length m.hypotheses
stack_parts before stack label m =
    let whole : length stack ≡ length (m.rest ++ m.entries) = ap length m.split in
    let paired = m.paired in
    omega (arith, length-append m.rest m.entries)

-- the entries from the first of the hypotheses on
pub entries_zip : (limit : ℕ) (st before : List Sentence) (s : Sentence) (prefix : Bool)
    (moves : List (Move (List ℕ))) (halt : Halt) (h : HaltsProof limit st before s prefix moves halt)
    (label : List ℕ) (m : MeetsHypotheses before h.there.stack label) (base : ℕ) (es : List (List ℕ))
    → base ≡ length m.rest → base + length es ≡ length halt.origins.items
    → ((k : ℕ) (numbers : List ℕ) → slice_get es k ≡ Some numbers → TellsEntry halt (base + k) numbers)
    → AllZip (AreNumbers st) es m.entries
entries_zip limit st before s prefix moves halt h label m base es is count tells =
    let lower : drop base h.there.stack ≡ m.entries =
    ap (λ (n : ℕ). drop n h.there.stack) is ∙ ap (λ (all : List Expression). drop (length m.rest) all) m.split
    ∙ drop-append_seam m.rest m.entries in
    let whole = stack_parts before h.there.stack label m in
    let paired = m.paired in
    let origins : length halt.origins.items ≡ length h.there.stack = ap length h.same_origins ∙ h.there.made.count in
    zip_from (AreNumbers st) es m.entries (omega arith) (λ k numbers there.
    let entry = tells k numbers there limit st before s prefix moves h in
    (entry.0, ap (λ (all : List Expression). slice_get all k) (sym lower) ∙ drop_get h.there.stack base k ∙ entry.1, entry.2))

-- one hypothesis more
pub one_asked : (st before : List Sentence) (stack : List Expression) (steps : List (List ℕ))
    (label : List ℕ) (m : MeetsHypotheses before stack label) (k : ℕ) (old o₁ o₂ : List ℕ)
    (hypothesis : Sentence) (text step : List ℕ) (given e : Expression)
    (asked_numbers given_numbers : List ℕ) (unmet : Bool)
    → AskedSoFar unmet before stack steps label m k old o₁
    → slice_get m.hypotheses k ≡ Some hypothesis → IsLabelled text hypothesis
    → slice_get steps (length m.rest + k) ≡ Some step → slice_get m.entries k ≡ Some given
    → AsksFor before stack label k e → AreNumbers st asked_numbers e → AreNumbers st given_numbers given
    → o₂ ≡ o₁ ++ details_text (filter (is_told unmet) (hypothesis_asks text
    (labels_at (symbols_of st) asked_numbers) step (labels_at (symbols_of st) given_numbers) ∷
    []))
    → AskedSoFar unmet before stack steps label m (k + 1) old o₂
one_asked st before stack steps label m k old o₁ o₂ hypothesis text step given e asked_numbers
    given_numbers unmet so_far there labelled origin entry asks are_asked are_given told =
    let d : Detail = hypothesis_asks (unwrap_or hypothesis.label []) e step given in
    let asked_named : labels_at (symbols_of st) asked_numbers ≡ e = names_at (symbols_of st) asked_numbers e are_asked in
    let given_named : labels_at (symbols_of st) given_numbers ≡ given = names_at (symbols_of st) given_numbers given are_given in
    let its : text ≡ unwrap_or hypothesis.label [] = ap (λ (o : Option (List ℕ)). unwrap_or o []) (sym labelled) in
    let those : List Detail → List ℕ = λ ds. details_text (filter (is_told unmet) ds) in
    let one : List ℕ → Expression → Expression → List ℕ = λ l f g. o₁ ++ those (hypothesis_asks l f
    step g ∷ []) in
    let whole : those (so_far.details ++ d ∷ []) ≡ those so_far.details ++ those (d ∷ []) =
    ap (λ ds. details_text ds) (filter-append (is_told unmet) so_far.details (d ∷ []))
    ∙ flat_map-append detail_text (filter (is_told unmet) so_far.details) (filter (is_told unmet)
    (d ∷ [])) in
    let counted = so_far.counted in
    record {
      details = so_far.details ++ d ∷ [];
      told = told ∙ ap (λ (f : Expression). one text f (labels_at (symbols_of st) given_numbers))
          asked_named
          ∙ ap (λ (f : Expression). one text e f) given_named
          ∙ ap (λ (l : List ℕ). one l e given) its
          ∙ ap (λ (o : List ℕ). o ++ those (d ∷ [])) so_far.told
          ∙ append_assoc old (those so_far.details) (those (d ∷ []))
          ∙ ap (λ (o : List ℕ). old ++ o) (sym whole);
      counted = (let own : length (d ∷ []) ≡ 1 = refl in omega (arith, length-append so_far.details (d ∷ [])));
      each = λ i h f n less at_h at_f at_n. go i (i == k) refl h f n less at_h at_f at_n;
    }
  where
    last : Detail
    last = hypothesis_asks (unwrap_or hypothesis.label []) e step given

    own : (i : ℕ) → k ≡ i → (h : Sentence) (f : Expression) (n : List ℕ)
        → slice_get m.hypotheses i ≡ Some h → slice_get m.entries i ≡ Some f
        → slice_get steps (length m.rest + i) ≡ Some n
        → (asked : Expression) × AsksFor before stack label i asked
        × (slice_get (so_far.details ++ last ∷ []) i ≡ Some (hypothesis_asks (unwrap_or h.label []) asked n f))
    own i is h f n at_h at_f at_n =
        let same_h : hypothesis ≡ h = same_Some hypothesis h (sym there ∙ ap (slice_get m.hypotheses) is ∙ at_h) in
        let same_f : given ≡ f = same_Some given f (sym entry ∙ ap (slice_get m.entries) is ∙ at_f) in
        let same_n : step ≡ n = same_Some step n (sym origin ∙ ap (λ (j : ℕ). slice_get steps (length m.rest + j)) is ∙ at_n) in
        let place : i ≡ length so_far.details = sym is ∙ sym so_far.counted in (
          e,
          subst (λ (j : ℕ). AsksFor before stack label j e) is asks,
          ap (slice_get (so_far.details ++ last ∷ [])) place ∙ get_pushed so_far.details last
              ∙ ap (λ (g : Sentence). Some (hypothesis_asks (unwrap_or g.label []) e step given)) same_h
              ∙ ap (λ (g : Expression). Some (hypothesis_asks (unwrap_or h.label []) e step g)) same_f
              ∙ ap (λ (j : List ℕ). Some (hypothesis_asks (unwrap_or h.label []) e j f)) same_n,
        )

    go : (i : ℕ) (b : Bool) → (i == k) ≡ b → (h : Sentence) (f : Expression) (n : List ℕ) → i < k + 1
        → slice_get m.hypotheses i ≡ Some h → slice_get m.entries i ≡ Some f
        → slice_get steps (length m.rest + i) ≡ Some n
        → (asked : Expression) × AsksFor before stack label i asked
        × (slice_get (so_far.details ++ last ∷ []) i ≡ Some (hypothesis_asks (unwrap_or h.label []) asked n f))
    go i true is h f n less at_h at_f at_n =
        own i (let same : k ≡ i = grind (arith, nat_tests) in same) h f n at_h at_f at_n
    go i false is h f n less at_h at_f at_n =
        let found = so_far.each i h f n (grind (arith, nat_tests)) at_h at_f at_n in
        (found.0, found.1, get_kept so_far.details (last ∷ []) i _ found.2)

-- ---- the step and its frame

-- the step that is left meets its hypotheses
pub record MetHalt (limit : ℕ) (st : List Sentence) (id : ℕ) (halt : Halt) (label : ℕ)
    (own : IsHaltOf limit st id halt) : Type 0 where
  pub step : StepLeft st own.halts.there.left label
  pub m : MeetsHypotheses (take own.index st) own.halts.there.stack step.label

pub met_halt : (limit : ℕ) (st : List Sentence) (id : ℕ) (halt : Halt) (label : LabelId)
    (own : IsHaltOf limit st id halt) → halt.at ≡ at.Label label
    → (halt.rule ≡ Some P9) ⊎ (halt.rule ≡ Some P10) → MetHalt limit st id halt label.0 own
met_halt limit st id halt label own place rule =
    let step = step_left st own.halts.there.left halt.at label place own.halts.place in
    record {
      step = step;
      m = asked_meets limit st (take own.index st) own.s own.prefix own.moves halt own.halts label.0 step rule;
    }

-- how many there are of each, and whose numbers the hypotheses have
pub record Sizes (st before : List Sentence) (halt : Halt) (stack : List Expression) (label : List ℕ)
    (m : MeetsHypotheses before stack label) (xs : List Hypothesis) : Type 0 where
  pub numbered : AreHypothesesOf st (map (λ h. h.id.0) xs) m.hypotheses
  pub hypotheses : length m.hypotheses ≡ length xs
  pub entries : length m.entries ≡ length xs
  pub origins : length halt.origins.items ≡ length m.rest + length xs

pub sizes : (limit : ℕ) (st : List Sentence) (index : ℕ) (s : Sentence) (prefix : Bool)
    (moves : List (Move (List ℕ))) (halt : Halt)
    (h : HaltsProof limit st (take index st) s prefix moves halt) → AllMeant st → (id : ℕ)
    (frame : FrameIndex) → frame.statements ≡ st
    → (a : Sentence) → IsNumbered st id frame.index a → IsAssertion a.kind → (xs : List Hypothesis)
    → AreHypotheses frame (map (λ h. h.id.0) xs) → (label : List ℕ)
    → IsNumberedMove st (name id) (name label)
    → (m : MeetsHypotheses (take index st) h.there.stack label)
    → Sizes st (take index st) halt h.there.stack label m xs
sizes limit st index s prefix moves halt h all id frame same a numbered kind xs ids label move m =
    let at = frame.index in
    let frame_is : frame ≡ record { statements = st; index = at } =
    ap (λ ss. let f : FrameIndex = record { statements = ss; index = at } in f) same in
    let are = subst (λ f. AreHypotheses f (map (λ h. h.id.0) xs)) frame_is ids in
    let names = frame_names st index all id at a numbered kind (map (λ h. h.id.0) xs) are label move m.index m.assertion m.hypotheses m.names in
    let its : m.hypotheses ≡ are.hypotheses =
    one_names (take index st) label m.index at m.assertion a m.hypotheses are.hypotheses (allmeant_prefix st index all) m.names names in
    let own : AreHypothesesOf st (map (λ h. h.id.0) xs) m.hypotheses =
    subst (AreHypothesesOf st (map (λ h. h.id.0) xs)) (sym its) are.numbered in
    let many : length m.hypotheses ≡ length xs = as_many st xs m.hypotheses own in
    let whole = stack_parts (take index st) h.there.stack label m in
    let origins : length halt.origins.items ≡ length h.there.stack = ap length h.same_origins ∙ h.there.made.count in
    record {
      numbered = own;
      hypotheses = many;
      entries = m.paired ∙ many;
      origins = omega arith;
    }

-- the entry at an index, by its numbers
pub get_entry : (es : List (Bor (List Sym))) (k : ℕ) (d : Bor (List Sym)) → k < length es
    → d ≡ get_or es k d → slice_get (entries_in es) k ≡ Some (numbers_in d.now)
get_entry [] k d less is = absurd (omega arith)
get_entry (e ∷ es) zero d less is = ap (λ (b : Bor (List Sym)). Some (numbers_in b.now)) (sym is)
get_entry (e ∷ es) (suc k) d less is = get_entry es k d (omega arith) is

pub count_entries : (es : List (Bor (List Sym))) → length (entries_in es) ≡ length es
count_entries [] = refl
count_entries (e ∷ es) = ap suc (count_entries es)

-- one entry more
pub entry_pushed : (halt : Halt) (base index : ℕ) (es new : List (Bor (List Sym))) (e : Bor (List Sym))
    → new ≡ es ++ e ∷ [] → base + length es ≡ index
    → ((k : ℕ) (numbers : List ℕ) → slice_get (entries_in es) k ≡ Some numbers → TellsEntry halt (base + k) numbers)
    → TellsEntry halt index (numbers_in e.now)
    → (base + length new ≡ index + 1)
    × ((k : ℕ) (numbers : List ℕ) → slice_get (entries_in new) k ≡ Some numbers → TellsEntry halt (base + k) numbers)
entry_pushed halt base index es new e is count before last = (
  (let grown : length new ≡ length (es ++ e ∷ []) = ap length is in
      let own : length (e ∷ []) ≡ 1 = refl in omega (arith, length-append es (e ∷ []))),
  λ k numbers there.
      let here : slice_get (entries_in es ++ numbers_in e.now ∷ []) k ≡ Some numbers =
      ap (λ (all : List (List ℕ)). slice_get all k) (sym (ap entries_in is ∙ map-append (λ (b : Bor (List Sym)). numbers_in b.now) es (e ∷ []))) ∙ there in
      let many = count_entries es in
      elim (pushed_cases (entries_in es) (numbers_in e.now) k numbers here) [
        | inl old ↦ before k numbers old
        | inr own ↦
            let place : base + k ≡ index = (let own_place : k ≡ length (entries_in es) = own.0 in omega arith) in
            subst (λ (ns : List ℕ). TellsEntry halt (base + k) ns) own.1 (subst (λ (n : ℕ). TellsEntry halt n (numbers_in e.now)) (sym place) last)
      ],
)

-- ---- all of them

pub so_far_all : (unmet : Bool) (before : List Sentence) (stack : List Expression) (steps : List (List ℕ)) (label : List ℕ)
    (m : MeetsHypotheses before stack label) (k : ℕ) (old new : List ℕ)
    → (so_far : AskedSoFar unmet before stack steps label m k old new) → length m.hypotheses ≡ k
    → AreAsked before stack steps label so_far.details
so_far_all unmet before stack steps label m k old new so_far count = record {
  met = m;
  count = so_far.counted ∙ sym count;
  each = λ i h f n at_h at_f at_n.
      so_far.each i h f n (let within = slice_get_within m.hypotheses i h at_h in omega arith) at_h at_f at_n;
}

-- a hypothesis asks one thing only
asked_once : (before : List Sentence) (stack : List Expression) (label : List ℕ) → AllMeant before
    → (i : ℕ) (e f : Expression) → AsksFor before stack label i e → AsksFor before stack label i f
    → e ≡ f
asked_once before stack label all i e f (m, h, at, is) (n, g, there, made) =
    let z = agree before stack label all m n in
    let same : h ≡ g = same_Some h g (sym at ∙ ap (λ (hs : List Sentence). slice_get hs i)
    z.hypotheses ∙ there) in
    is ∙ ap (λ (s : Sentence). instance_of m.σ s.symbols) same
    ∙ same_substituted m.σ n.σ g.symbols z.replacement ∙ sym made

-- and so these facts are the same
asked_details_once : (before : List Sentence) (stack : List Expression) (steps : List (List ℕ)) (label :
    List ℕ)
    → AllMeant before → length steps ≡ length stack → (ds es : List Detail)
    → AreAsked before stack steps label ds → AreAsked before stack steps label es → ds ≡ es
asked_details_once before stack steps label all count ds es a b =
    let z = agree before stack label all a.met b.met in
    let many = a.count in
    let paired = a.met.paired in
    let whole = stack_parts before stack label a.met in
    all_same ds es (a.count ∙ ap length z.hypotheses ∙ sym b.count) (λ i less.
    let h = get_within a.met.hypotheses i (omega arith) in
    let f = get_within a.met.entries i (omega arith) in
    let n = get_within steps (length a.met.rest + i) (omega arith) in
    let x = a.each i h.0 f.0 n.0 h.1 f.1 n.1 in
    let y = b.each i h.0 f.0 n.0 (ap (λ (hs : List Sentence). slice_get hs i) (sym z.hypotheses) ∙
    h.1)
    (ap (λ (fs : List Expression). slice_get fs i) (sym z.entries) ∙ f.1)
    (ap (λ (r : List Expression). slice_get steps (length r + i)) (sym z.rest) ∙ n.1) in
    x.2 ∙ ap (λ (e : Expression). Some (hypothesis_asks (unwrap_or h.0.label []) e n.0 f.0))
    (asked_once before stack label all i x.0 y.0 x.1 y.1) ∙ sym y.2)

-- those of the hypotheses that aren't met, and then the others
pub turn_told : (before : List Sentence) (s : Sentence) (stack kept : List Expression) (steps : List (List ℕ))
    (left : List (Move (List ℕ))) → AllMeant before → length steps ≡ length stack
    → (first second : List Detail) (old o₁ o₂ : List ℕ)
    → AskedFacts true before s stack kept steps left first → o₁ ≡ old ++ details_text first
    → AskedFacts false before s stack kept steps left second → o₂ ≡ o₁ ++ details_text second
    → (details : List Detail) × TurnFacts before s stack kept steps left details
    × (o₂ ≡ old ++ details_text details)
turn_told before s stack kept steps left all count first second old o₁ o₂ (
  label,
  more,
  is,
  ds,
  asked,
  told,
) h₁ (label', more', is', es, asked', told') h₂ =
    let both : name label' ∷ more' ≡ name label ∷ more = sym is' ∙ is in
    let named : label' ≡ label = cc in
    let same : es ≡ ds =
    asked_details_once before stack steps label all count es ds (subst (λ (l : List ℕ). AreAsked
    before stack steps l es) named asked') asked in
    let others : second ≡ filter (λ d. not (is_unmet d)) ds = told' ∙ ap (λ (xs : List Detail).
    filter (λ d. not (is_unmet d)) xs) same in (
      first ++ second,
      (
        label,
        more,
        is,
        (
          ds,
          asked,
          ap (λ (xs : List Detail). xs ++ second) told ∙ ap (λ (xs : List
              Detail). filter is_unmet ds ++ xs) others,
        ),
      ),
      h₂ ∙ ap (λ (o : List ℕ). o ++ details_text second) h₁
          ∙ append_assoc old (details_text first) (details_text second)
          ∙ ap (λ (o : List ℕ). old ++ o) (sym (flat_map-append detail_text first second)),
    )

-- what holds of the `$p` at its own index holds of it
pub of_own : (st : List Sentence) (id index : ℕ) (s : Sentence) → IsProofNumber st id index s
    → (P : ℕ → Sentence → Type 0) → P index s → OfProof st id P
of_own st id index s proof P holds other t number =
    let same = numbered_unique st id index other s t proof.numbered number.numbered in
    subst (λ (n : ℕ). P n t) same.0 (subst (λ (u : Sentence). P index u) same.1 holds)
