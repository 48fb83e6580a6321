-- Where the moves of a proof stop: what is found there by numbers is so by names.
use Rattle.std.proofs.Common.{◌≡◌, ℕ, suc, ◌-◌, ◌<◌, List, [], ◌∷◌, length, take, drop}
use Rattle.std.proofs.Common.{slice_get, Some, None, Option, Bool, true, false, inl, inr}
use Rattle.std.proofs.Common.{refl, sym, ap, subst, ◌∙◌, arith, append-nil, option_map}
use Rattle.std.specs.List.{AllByRecursion, AllZip}
use Rattle.std.proofs.lemmas.Option.{slice_get_within, slice_get-map, same_Some}
use Rattle.std.proofs.lemmas.List.{length-take-le, length-map, take-map}
use Rattle.std.proofs.lemmas.Slice.Zip.{AllZip-long}
use Rattle.mm_base.proofs.Lists.{split_at, all_at, all_there, all_weaker, get_from_take, zip_left}
use Rattle.mm_base.proofs.Lists.{zip_take}
use Rattle.mm_code.specs.declared.code.Code.{Code}
use Rattle.mm_frame.specs.Sentence.{Sentence}
use Rattle.mm_frame.specs.Rules.{AllMeant}
use Rattle.mm_frame.specs.Numbers.{AreNumbers, symbols_of}
use Rattle.mm_frame.specs.FrameIndex.{AreItsSymbols}
use Rattle.mm_frame.specs.Laws.{OneNumber}
use Rattle.mm_frame.proofs.Rules.ObeyedRules.{allmeant_prefix}
use Rattle.mm_step.specs.declared.fault.ProofRule.{ProofRule}
use Rattle.mm_listing.specs.declared.halt.Halt.{Halt}
use Rattle.mm_listing.specs.declared.halt.HaltAt.{HaltAt}
use Rattle.mm_listing.specs.declared.halt.HaltAt.TheVariants as at
use Rattle.mm_step.specs.Moves.{Move, name, again, mark}
use Rattle.mm_step.specs.Proof.{IsWithin, FirstAtMove, Passed}
use Rattle.mm_step.specs.Steps.{IsNumberedMove, AreNumberedMoves, AreSteps}
use Rattle.mm_listing.specs.Halted.{StopsWith, StandsAtHalt, HaltsProof, TellsEntry}
use Rattle.mm_proof.specs.Mirror.CodeSteps.{code_move, code_moves}
use Rattle.mm_step.specs.Mirror.CodeVerify.{all_names_at, names_at, AreBelow, AreStackEntries}
use Rattle.mm_step.specs.Mirror.CodeVerify.{IsSymbol}
use Rattle.mm_step.specs.Mirror.CodeRun.{MayBeMade, HasRun}
use Rattle.mm_step.specs.Mirror.Sites.{ProofSite, IsSite}
use Rattle.mm_listing.specs.Mirror.StackOrigins.{AreOriginsAt, BreaksAfter}
use Rattle.mm_listing.specs.Mirror.CodeHalts.{StandsBy, IsEndRule, HaltsMoves}
use Rattle.mm_step.proofs.ByNumbers.OneIndex.{one_index}
use Rattle.mm_proof.proofs.ProofVerdicts.PassedMoves.{passed_once, no_fault_within}
use Rattle.mm_proof.proofs.ProofNumbers.NumbersNamed.{numbers_named}
use Rattle.mm_proof.proofs.ProofVerdicts.JudgedMoves.{steps_made, same_steps, its_symbols, end_broken}

-- ---- the moves before the place

-- the statements before the `$p` break no rule of meaning
pub meant_before : (site : ProofSite) → IsSite site → AllMeant (take site.index site.statements)
meant_before site own = allmeant_prefix site.statements site.index own.sound.0

-- all moves may be made at the index, and those before the place too
pub made_before : (site : ProofSite) (xs : List (Move ℕ)) → IsSite site
    → AreSteps site.statements site.number xs
    → AllByRecursion (MayBeMade site.statements site.index) xs
made_before site xs own steps =
    steps_made site.statements site.number xs site.index own.s own.sound.0 steps own.proof.numbered

module _ (ids : List ℕ) (said : List Code) (n : ℕ) where
  -- the moves before it, as codes
  front_is : take n (code_moves ids said) ≡ code_moves ids (take n said)
  front_is = take-map (code_move ids) n said

  pub front_made : (site : ProofSite) → IsSite site
      → AreSteps site.statements site.number (code_moves ids said)
      → AllByRecursion (MayBeMade site.statements site.index) (code_moves ids (take n said))
  front_made site own steps =
      let P = MayBeMade site.statements site.index in
      let xs = code_moves ids said in
      let each = made_before site xs own steps in
      subst (AllByRecursion P) front_is
      (all_there P (take n xs) (λ k x there. all_at P xs k x each (get_from_take xs n k x there).1))

  pub front_named : (site : ProofSite)
      → AreSteps site.statements site.number (code_moves ids said)
      → (names : List (Move (List ℕ)))
      × AreNumberedMoves site.statements (code_moves ids (take n said)) names
  front_named site steps =
      let st = site.statements in
      let front =
      zip_take (IsNumberedMove st) (code_moves ids said) steps.moves n steps.numbered in (
        take n steps.moves,
        subst (λ l. AreNumberedMoves st l (take n steps.moves)) front_is front,
      )

  -- the place is that of a code
  pub place_there : (site : ProofSite) (rule : ProofRule)
      → BreaksAfter site (code_moves ids said) rule n → n < length said
  place_there site rule broken =
      let within = slice_get_within (code_moves ids said) n broken.move broken.there in
      omega (arith, within, length-map said (code_move ids))

-- ---- what passed has no fault

-- of moves that passed as far as the first fault none before breaks a rule
no_earlier : (site : ProofSite) (xs : List (Move ℕ)) (rule rule' : ProofRule)
    (passed passed' : ℕ) → IsSite site → AreSteps site.statements site.number xs
    → BreaksAfter site xs rule passed → BreaksAfter site (take passed xs) rule' passed' → ⊥
no_earlier site xs rule rule' passed passed' own steps first other =
    let st = site.statements in
    let before : List Sentence = take site.index st in
    let names = take passed steps.moves in
    let numbered = zip_take (IsNumberedMove st) xs steps.moves passed steps.numbered in
    let here = zip_left (IsNumberedMove st) (take passed xs) names passed' other.move numbered
    other.there in
    let front = zip_take (IsNumberedMove st) (take passed xs) names passed' numbered in
    let split = split_at names passed' here.0 here.1 in
    no_fault_within (IsWithin site.limit) before (take passed' names) here.0
    (drop (suc passed') names) (all_names_at st other.broken.stack)
    (all_names_at st other.broken.kept) (all_names_at st first.broken.stack)
    (all_names_at st first.broken.kept) rule' (meant_before site own)
    (subst (λ l. Passed (IsWithin site.limit) before l (all_names_at st first.broken.stack)
    (all_names_at st first.broken.kept)) split (first.broken.run.passed names numbered))
    (other.broken.run.passed (take passed' names) front)
    (other.broken.first here.0 here.2)

-- ---- the place

-- what stands there by numbers does by names
stands : (st : List Sentence) (x : Move ℕ) (halted : HaltAt) (move : Move (List ℕ))
    (later : List (Move (List ℕ))) → StandsBy x halted → IsNumberedMove st x move
    → StandsAtHalt st (move ∷ later) halted
stands st (name id) (at.Label label) move later is n =
    rw n.4 (n.0, n.1, rw is n.2, n.3, refl)
stands st (again tag) (at.Tag halted) move later is n = rw n is
stands st mark at.Mark move later is n = rw n tt
stands st x halted move later is n = absurd is

-- ---- the entries

-- they are the numbers of their names
entries_numbered : (st before : List Sentence) (stack : List (List ℕ))
    → AreStackEntries st before stack → AllZip (AreNumbers st) stack (all_names_at st stack)
entries_numbered st before [] entries = tt
entries_numbered st before (e ∷ stack) entries = (
  numbers_named st e
      (all_weaker (IsSymbol st before) (λ k. k < length (symbols_of st)) (λ k i. i.below) e
      entries.0),
  entries_numbered st before stack entries.1,
)

-- ---- a move that breaks a rule

-- those before the place, as codes
pub no_earlier_code : (ids : List ℕ) (said : List Code) (n : ℕ) (site : ProofSite)
    (rule rule' : ProofRule) (passed : ℕ) → IsSite site
    → AreSteps site.statements site.number (code_moves ids said)
    → BreaksAfter site (code_moves ids said) rule n
    → BreaksAfter site (code_moves ids (take n said)) rule' passed → ⊥
no_earlier_code ids said n site rule rule' passed own steps first other =
    no_earlier site (code_moves ids said) rule rule' n passed own steps first
    (subst (λ l. BreaksAfter site l rule' passed) (sym (take-map (code_move ids) n said)) other)

module _ (site : ProofSite) (xs : List (Move ℕ)) (stack kept : List (List ℕ)) (count : ℕ)
    (halt : Halt) (own : IsSite site) where
  halts_move : (rule : ProofRule) → (broken : BreaksAfter site xs rule halt.passed)
      → HasRun site.limit site.statements site.index (take halt.passed xs) stack kept count
      → halt.steps ≡ count → halt.entries ≡ stack
      → AreOriginsAt site.limit site.statements site.index (take halt.passed xs) stack
      halt.origins.items
      → StandsBy broken.move halt.at → halt.rule ≡ Some rule
      → (prefix : Bool) → HaltsMoves site.limit site.statements site.number prefix xs halt
  halts_move rule broken run steps entries origins place is prefix index s names proof numbered =
      let st = site.statements in
      let n : ℕ = halt.passed in
      let here : site.index ≡ index =
      one_index st site.number site.index index own.s s own.proof.numbered proof.numbered in
      let before : List Sentence = take site.index st in
      let move = zip_left (IsNumberedMove st) xs names n broken.move numbered broken.there in
      let front = zip_take (IsNumberedMove st) xs names n numbered in
      let earlier = take n names in
      let later = drop (suc n) names in
      let passed = run.passed earlier front in
      let one = passed_once (IsWithin site.limit) (IsWithin site.limit) before earlier
      (all_names_at st broken.broken.stack) (all_names_at st stack)
      (all_names_at st broken.broken.kept) (all_names_at st kept) (meant_before site own)
      (broken.broken.run.passed earlier front) passed in
      let fault : FirstAtMove (IsWithin site.limit) rule before (all_names_at st stack)
      (all_names_at st kept) move.0 =
      subst (λ k. FirstAtMove (IsWithin site.limit) rule before (all_names_at st stack) k move.0)
      one.1
      (subst (λ e. FirstAtMove (IsWithin site.limit) rule before e
      (all_names_at st broken.broken.kept) move.0) one.0 (broken.broken.first move.0 move.2)) in
      let within = slice_get_within names n move.0 move.1 in
      subst (λ i. HaltsProof site.limit st (take i st) s prefix names halt) here (record {
        there = record {
          earlier = earlier;
          left = move.0 ∷ later;
          parts = split_at names n move.0 move.1;
          stack = all_names_at st stack;
          kept = all_names_at st kept;
          passed = passed;
          origins = halt.origins.items;
          made = origins earlier front;
          stops = subst (λ r. StopsWith (IsWithin site.limit) before s prefix
              (all_names_at st stack) (all_names_at st kept) (move.0 ∷ later) r) (sym is) fault;
        };
        count = sym (length-take-le n names (omega (arith, within)));
        steps = steps ∙ run.count ∙ same_steps st (take n xs) earlier front;
        same_origins = refl;
        entries = rw entries (entries_numbered st before stack run.entries);
        place = stands st broken.move halt.at move.0 later place move.2;
      })

  -- ---- the end

  -- what stands at the end, by names
  stops_end : (s : Sentence) (numbers : List ℕ) (prefix : Bool) (rule : Option ProofRule)
      → OneNumber → names_at site.statements numbers ≡ s.symbols → AreBelow site.statements numbers
      → AreStackEntries site.statements (take site.index site.statements) stack
      → IsEndRule prefix rule stack numbers
      → StopsWith (IsWithin site.limit) (take site.index site.statements) s prefix
      (all_names_at site.statements stack) (all_names_at site.statements kept) [] rule
  stops_end s numbers true None one symbols below entries is = inl refl
  stops_end s numbers true (Some rule) one symbols below entries is = absurd cc
  stops_end s numbers false None one symbols below entries is =
      inr (ap (all_names_at site.statements) is ∙ ap (λ e. e ∷ []) symbols)
  stops_end s numbers false (Some rule) one symbols below entries is =
      let st = site.statements in
      (refl, end_broken st site.index s stack numbers rule one symbols below entries is)

  pub halts_end : (numbers : List ℕ) (prefix : Bool) → OneNumber
      → AreItsSymbols (record { statements = site.statements; index = site.index }) numbers
      → HasRun site.limit site.statements site.index xs stack kept count
      → halt.steps ≡ count → halt.entries ≡ stack
      → AreOriginsAt site.limit site.statements site.index xs stack halt.origins.items
      → IsEndRule prefix halt.rule stack numbers → halt.at ≡ at.End → halt.passed ≡ length xs
      → HaltsMoves site.limit site.statements site.number prefix xs halt
  halts_end numbers prefix one symbols run steps entries origins end place passed index s names
      proof numbered =
      let st = site.statements in
      let here : site.index ≡ index =
      one_index st site.number site.index index own.s s own.proof.numbered proof.numbered in
      let expression =
      its_symbols st site.index index s numbers here proof.numbered.there symbols in
      subst (λ i. HaltsProof site.limit st (take i st) s prefix names halt) here (record {
        there = record {
          earlier = names;
          left = [];
          parts = sym (append-nil names);
          stack = all_names_at st stack;
          kept = all_names_at st kept;
          passed = run.passed names numbered;
          origins = halt.origins.items;
          made = origins names numbered;
          stops = stops_end s numbers prefix halt.rule one expression.0 expression.1 run.entries
              end;
        };
        count = passed ∙ sym (AllZip-long (IsNumberedMove st) xs names numbered);
        steps = steps ∙ run.count ∙ same_steps st xs names numbered;
        same_origins = refl;
        entries = rw entries
            (entries_numbered st (take site.index st) stack run.entries);
        place = place;
      })

-- a code that breaks a rule
pub halts_code : (site : ProofSite) (ids : List ℕ) (said : List Code) (code : Code)
    (stack kept : List (List ℕ)) (count : ℕ) (halt : Halt) (rule : ProofRule) → IsSite site
    → BreaksAfter site (code_moves ids said) rule halt.passed
    → HasRun site.limit site.statements site.index (code_moves ids (take halt.passed said)) stack
    kept count
    → halt.steps ≡ count → halt.entries ≡ stack
    → AreOriginsAt site.limit site.statements site.index (code_moves ids (take halt.passed said))
    stack halt.origins.items
    → slice_get said halt.passed ≡ Some code → StandsBy (code_move ids code) halt.at
    → halt.rule ≡ Some rule
    → (prefix : Bool)
    → HaltsMoves site.limit site.statements site.number prefix (code_moves ids said) halt
halts_code site ids said code stack kept count halt rule own broken run steps entries origins there
    place is =
    let n : ℕ = halt.passed in
    let f = code_move ids in
    let xs = code_moves ids said in
    let front = sym (take-map f n said) in
    let move : f code ≡ broken.move =
    same_Some (f code) broken.move
    (sym (slice_get-map f said n ∙ ap (option_map f) there) ∙ broken.there) in
    halts_move site xs stack kept count halt own rule broken
    (subst (λ l. HasRun site.limit site.statements site.index l stack kept count) front run)
    steps entries
    (subst (λ l. AreOriginsAt site.limit site.statements site.index l stack halt.origins.items) front
    origins)
    (subst (λ m. StandsBy m halt.at) move place) is

-- ---- the entries that are left

-- as many as steps that made them
pub origins_count : (limit : ℕ) (st : List Sentence) (index : ℕ) (xs : List (Move ℕ))
    (stack : List (List ℕ)) (origins : List ℕ) → AreOriginsAt limit st index xs stack origins
    → (names : List (Move (List ℕ))) × AreNumberedMoves st xs names → length stack ≡ length origins
origins_count limit st index xs stack origins made names =
    sym ((made names.0 names.1).count ∙ length-map stack (names_at st))

-- its numbers tell an entry
pub entry_told : (halt : Halt) (index : ℕ) (numbers : List ℕ)
    → slice_get halt.entries index ≡ Some numbers → TellsEntry halt index numbers
entry_told halt index numbers there limit statements before s prefix moves h =
    zip_left (AreNumbers statements) halt.entries h.there.stack index numbers h.entries there
