-- Where the steps that made the entries of a stack are found: their moves, their names and their
-- places.
use Rattle.std.proofs.Common.{◌≡◌, ℕ, zero, suc, ◌+◌, ◌-◌, ◌<◌, ◌≤◌, List, [], ◌∷◌, ◌++◌, length, take}
use Rattle.std.proofs.Common.{slice_get, Option, Some, None, Bool, true, false, refl, sym, ap, subst, ◌∙◌}
use Rattle.std.proofs.Common.{arith, append_assoc, cond}
use Rattle.std.specs.List.{AllZip}
use Rattle.std.proofs.lemmas.Slice.Zip.{AllZip-long}
use Rattle.std.proofs.Math.Seq.{take-append_seam}
use Rattle.std.proofs.lemmas.List.{length-append, length-map, map-append}
use Rattle.std.specs.Global.{Vec}
use Rattle.std.specs.Prelude.{map}
use Rattle.std.proofs.lemmas.List.Sums.{sum_by-cons}
use Rattle.std.proofs.lemmas.Option.{same_Some, none-some, slice_get_within}
use Rattle.std.proofs.lemmas.Bool.Decides.{nat_tests}
use Rattle.std.specs.Prelude.{◌==◌}
use Rattle.mm_base.proofs.Lists.{get_within, get_kept, get_pushed, zip_right, zip_take}
use Rattle.mm_base.specs.Token.{PlainToken}
use Rattle.mm_text.specs.Files.{PlainFile}
use Rattle.mm_code.specs.declared.code.Code.{Code}
use Rattle.mm_code.specs.declared.code.Code.TheVariants as codes
use Rattle.mm_frame.specs.Sentence.{Sentence}
use Rattle.mm_step.specs.Moves.{Move, mark, is_step, steps_in}
use Rattle.mm_step.specs.Profiles.{limit_of}
use Rattle.mm_step.specs.Proof.{IsWithin}
use Rattle.mm_step.specs.Plain.{ids_in}
use Rattle.mm_step.specs.Steps.{IsNumberedMove, AreNumberedMoves, AreSteps, IsProofNumber}
use Rattle.mm_frame.specs.declared.number.LabelId.{LabelId}
use Rattle.mm_proof.specs.CheckedPrefix.{Pass}
use Rattle.mm_proof.specs.ReadSteps.{ReadSteps}
use Rattle.mm_proof.specs.Verified.{OfMoves}
use Rattle.mm_proof.specs.Mirror.CodeSteps.{code_move, code_moves, move_by, moves_of}
use Rattle.mm_proof.proofs.ProofVerdicts.FirstFault.{steps_in-append}
use Rattle.mm_proof.proofs.ProofVerdicts.JudgedMoves.{same_kind, same_steps}
use Rattle.mm_listing.specs.declared.halt.Halt.{Halt}
use Rattle.mm_listing.specs.declared.lines.Line.{Line}
use Rattle.mm_listing.specs.Halted.{HaltsProof}
use Rattle.mm_listing.specs.Listing.{StepName, IsCalled, IsNameOf, AreLinesWith}
use Rattle.mm_facts.specs.Mirror.Explaining.{step_indices_from}
use Rattle.mm_facts.specs.StepTexts.{TellsMove, IsStepText}

-- ---- the moves before the place where they stop

-- they are so many first ones
pub first_are : (limit : ℕ) (st before : List Sentence) (s : Sentence) (prefix : Bool)
    (moves : List (Move (List ℕ))) (halt : Halt) (h : HaltsProof limit st before s prefix moves halt)
    → take halt.passed moves ≡ h.there.earlier
first_are limit st before s prefix moves halt h =
    ap (λ (n : ℕ). take n moves) h.count
    ∙ ap (λ (ms : List (Move (List ℕ))). take (length h.there.earlier) ms) h.there.parts
    ∙ take-append_seam h.there.earlier h.there.left

-- they pass
pub first_pass : (st : List Sentence) (id : ℕ) (steps : ReadSteps) (halt : Halt)
    → OfMoves st id steps.moves (λ index s moves.
    HaltsProof (limit_of steps.profile) st (take index st) s steps.prefix moves halt)
    → OfMoves st id steps.moves (λ index s moves.
    Pass (IsWithin (limit_of steps.profile)) (take index st) (take halt.passed moves))
first_pass st id steps halt halted index s moves proof numbered =
    let Fits : List (List ℕ) → Type 0 = IsWithin (limit_of steps.profile) in
    let h = halted index s moves proof numbered in
    let same = first_are (limit_of steps.profile) st (take index st) s steps.prefix moves halt h in
    subst (λ (ms : List (Move (List ℕ))). Pass Fits (take index st) ms) (sym same)
    (h.there.stack, h.there.kept, h.there.passed)

-- there are as many
pub first_within : (st : List Sentence) (id : ℕ) (steps : ReadSteps) (halt : Halt)
    → AreSteps st id steps.moves
    → OfMoves st id steps.moves (λ index s moves.
    HaltsProof (limit_of steps.profile) st (take index st) s steps.prefix moves halt)
    → halt.passed ≤ length steps.moves
first_within st id steps halt usable halted =
    let u = usable in
    let h = halted u.index u.s u.moves u.proof u.numbered in
    let long = AllZip-long (IsNumberedMove st) steps.moves u.moves u.numbered in
    omega (
      arith,
      h.count,
      long,
      ap length h.there.parts,
      length-append h.there.earlier h.there.left,
    )

-- ---- the index of the move of each step

count_first : {X : Type 0} (move : Move X) (moves : List (Move X))
    → steps_in (move ∷ moves) ≡ cond (is_step move) 1 0 + steps_in moves
count_first {X} move moves = sum_by-cons (λ (m : Move X). cond (is_step m) 1 0) move moves

-- a number is that of a step
number_steps : (o : Option ℕ) (tag : ℕ) → is_step (move_by o tag) ≡ true
number_steps None tag = refl
number_steps (Some id) tag = refl

index_there : (ids : List ℕ) (said : List Code) (from k : ℕ) (m : Move ℕ)
    → slice_get (code_moves ids said) k ≡ Some m → is_step m ≡ true
    → slice_get (step_indices_from from said) (steps_in (take k (code_moves ids said)))
    ≡ Some (from + k)
index_there ids [] from k m there step = absurd (none-some m there)
index_there ids (codes.Number n ∷ said) from zero m there step = ap Some (omega arith)
index_there ids (codes.Tag ∷ said) from zero m there step =
    absurd (let same : mark ≡ m = same_Some mark m there in cc)
index_there ids (codes.Number n ∷ said) from (suc k) m there step =
    let rest = index_there ids said (from + 1) k m there step in
    let one : Move ℕ = code_move ids (codes.Number n) in
    let count : steps_in (one ∷ take k (code_moves ids said))
    ≡ suc (steps_in (take k (code_moves ids said))) =
    count_first one (take k (code_moves ids said))
    ∙ ap (λ (b : Bool). cond b 1 0 + steps_in (take k (code_moves ids said)))
    (number_steps (slice_get ids (n - 1)) ((n - 1) - length ids))
    ∙ omega arith in
    let next : from + 1 + k ≡ from + suc k = omega arith in
    ap (slice_get (step_indices_from from (codes.Number n ∷ said))) count ∙ rest ∙ ap Some next
index_there ids (codes.Tag ∷ said) from (suc k) m there step =
    let rest = index_there ids said (from + 1) k m there step in
    let one : Move ℕ = mark in
    let count : steps_in (one ∷ take k (code_moves ids said))
    ≡ steps_in (take k (code_moves ids said)) =
    count_first one (take k (code_moves ids said)) ∙ omega arith in
    let next : from + 1 + k ≡ from + suc k = omega arith in
    ap (slice_get (step_indices_from from (codes.Tag ∷ said))) count ∙ rest ∙ ap Some next

-- ---- the step that made an entry

-- its move, its name, and the line and the index that are kept for its number
pub record FoundStep (st : List Sentence) (moves : List (Move (List ℕ))) (lines : List Line)
    (indices : List ℕ) (number : ℕ) : Type 0 where
  pub earlier : List (Move (List ℕ))
  pub move : Move (List ℕ)
  pub later : List (Move (List ℕ))
  pub parts : moves ≡ earlier ++ move ∷ later
  pub step_made : is_step move ≡ true
  pub count : number ≡ steps_in earlier + 1
  pub called : StepName
  pub named : IsCalled earlier move called
  pub line : Line
  pub line_there : slice_get lines (number - 1) ≡ Some line
  pub own : IsNameOf st line.name called
  pub index_is : slice_get indices (number - 1) ≡ Some (length earlier)

pub found_step : (limit : ℕ) (st before : List Sentence) (s : Sentence) (prefix : Bool)
    (moves : List (Move (List ℕ))) (halt : Halt) (h : HaltsProof limit st before s prefix moves halt)
    (ids : List ℕ) (said : List Code) → AreNumberedMoves st (code_moves ids said) moves
    → (lines : List Line)
    → AreLinesWith st before (take halt.passed moves) (λ index. false) lines
    → (k number : ℕ) → slice_get halt.origins.items k ≡ Some number
    → FoundStep st moves lines (step_indices_from 0 said) number
found_step limit st before s prefix moves halt h ids said numbered lines listed k number there =
    let all : List (Move (List ℕ)) = h.there.earlier in
    let same = first_are limit st before s prefix moves halt h in
    let (steps, are, told) =
    subst (λ (ms : List (Move (List ℕ))). AreLinesWith st before ms (λ index. false) lines) same
    listed in
    let made = h.there.made.each k number
    (subst (λ (ns : List ℕ). slice_get ns k ≡ Some number) h.same_origins there) in
    let count : number ≡ steps_in made.earlier + 1 = made.number in
    let before_it : number - 1 ≡ steps_in made.earlier = omega arith in
    let own_first : take (length made.earlier) all ≡ made.earlier =
    ap (λ (ms : List (Move (List ℕ))). take (length made.earlier) ms) made.parts
    ∙ take-append_seam made.earlier (made.move ∷ made.later) in
    let at_all : slice_get all (length made.earlier) ≡ Some made.move =
    ap (λ (ms : List (Move (List ℕ))). slice_get ms (length made.earlier)) made.parts
    ∙ first_behind made.earlier made.move made.later in
    let whole : moves ≡ made.earlier ++ made.move ∷ (made.later ++ h.there.left) =
    h.there.parts ∙ ap (λ (ms : List (Move (List ℕ))). ms ++ h.there.left) made.parts
    ∙ append_assoc made.earlier (made.move ∷ made.later) h.there.left in
    let first : take (length made.earlier) moves ≡ made.earlier =
    ap (λ (ms : List (Move (List ℕ))). take (length made.earlier) ms) whole
    ∙ take-append_seam made.earlier (made.move ∷ (made.later ++ h.there.left)) in
    let at_moves : slice_get moves (length made.earlier) ≡ Some made.move =
    ap (λ (ms : List (Move (List ℕ))). slice_get ms (length made.earlier)) whole
    ∙ first_behind made.earlier made.move (made.later ++ h.there.left) in
    let more : steps_in all ≡ steps_in made.earlier + steps_in (made.move ∷ made.later) =
    ap steps_in made.parts ∙ steps_in-append made.earlier (made.move ∷ made.later) in
    let one : steps_in (made.move ∷ made.later) ≡ 1 + steps_in made.later =
    count_first made.move made.later
    ∙ ap (λ (b : Bool). cond b 1 0 + steps_in made.later) made.step_made in
    let many = are.count in
    let as_many = told.count in
    let step = get_within steps (number - 1) (omega arith) in
    let line = get_within lines (number - 1) (omega arith) in
    let place : steps_in (take (length made.earlier) all) ≡ number - 1 =
    ap steps_in own_first ∙ sym before_it in
    let is = are.each (length made.earlier) made.move step.0 at_all made.step_made
    (ap (slice_get steps) place ∙ step.1) in
    let numbered_move = zip_right (IsNumberedMove st) (code_moves ids said) moves
    (length made.earlier) made.move numbered at_moves in
    let kind : is_step numbered_move.0 ≡ true =
    same_kind st numbered_move.0 made.move numbered_move.2 ∙ made.step_made in
    let as_counted : steps_in (take (length made.earlier) (code_moves ids said)) ≡ number - 1 =
    same_steps st (take (length made.earlier) (code_moves ids said))
    (take (length made.earlier) moves)
    (zip_take (IsNumberedMove st) (code_moves ids said) moves (length made.earlier) numbered)
    ∙ ap steps_in first ∙ sym before_it in
    record {
      earlier = made.earlier;
      move = made.move;
      later = made.later ++ h.there.left;
      parts = whole;
      step_made = made.step_made;
      count = count;
      called = step.0.called;
      named = subst (λ (ms : List (Move (List ℕ))). IsCalled ms made.move step.0.called) own_first
          is.called;
      line = line.0;
      line_there = line.1;
      own = (told.each (number - 1) line.0 step.0 line.1 step.1).0;
      index_is = ap (slice_get (step_indices_from 0 said)) (sym as_counted)
          ∙ index_there ids said 0 (length made.earlier) numbered_move.0 numbered_move.1 kind
          ∙ ap Some (omega arith);
    }
  where
    first_behind : {A : Type 0} (xs : List A) (x : A) (ys : List A)
        → slice_get (xs ++ x ∷ ys) (length xs) ≡ Some x
    first_behind [] x ys = refl
    first_behind (z ∷ xs) x ys = first_behind xs x ys

-- ---- texts

-- what tells the step that was found
pub found_told : {st : List Sentence} {moves : List (Move (List ℕ))} {lines : List Line}
    {indices : List ℕ} {number : ℕ} (files : List PlainFile) (tokens : List PlainToken)
    (f : FoundStep st moves lines indices number) (line : Line) (index : ℕ) (text : List ℕ)
    → slice_get lines (number - 1) ≡ Some line → slice_get indices (number - 1) ≡ Some index
    → ((called : StepName) → IsNameOf st line.name called
    → TellsMove files tokens index number called text)
    → IsStepText files tokens moves number text
found_told {st} {moves} {lines} {indices} {number} files tokens f line index text at_line at_index tells =
    let same : f.line ≡ line = same_Some f.line line (sym f.line_there ∙ at_line) in
    let here : index ≡ length f.earlier = same_Some index (length f.earlier) (sym at_index ∙ f.index_is) in
    record {
      earlier = f.earlier;
      move = f.move;
      later = f.later;
      parts = f.parts;
      step_made = f.step_made;
      count = f.count;
      called = f.called;
      named = f.named;
      told = subst (λ (n : ℕ). TellsMove files tokens n number f.called text) here
          (tells f.called (subst (λ (l : Line). IsNameOf st l.name f.called) same f.own));
    }

-- its number is one of these, and its move is one of those
pub found_within : {st : List Sentence} {moves : List (Move (List ℕ))} {lines : List Line}
    {indices : List ℕ} {number : ℕ} (f : FoundStep st moves lines indices number)
    → (1 ≤ number) × (number - 1 < length lines) × (number - 1 < length indices)
    × (length f.earlier < length moves)
found_within {st} {moves} {lines} {indices} {number} f =
    let count = f.count in (
      omega arith,
      slice_get_within lines (number - 1) f.line f.line_there,
      slice_get_within indices (number - 1) (length f.earlier) f.index_is,
      omega (arith, ap length f.parts, length-append f.earlier (f.move ∷ f.later)),
    )

-- it is one of those that are kept
pub found_index : {st : List Sentence} {moves : List (Move (List ℕ))} {lines : List Line}
    {indices : List ℕ} {number : ℕ} (f : FoundStep st moves lines indices number) (index : ℕ)
    → slice_get indices (number - 1) ≡ Some index → index < length moves
found_index {st} {moves} {lines} {indices} {number} f index there =
    let here : index ≡ length f.earlier = same_Some index (length f.earlier) (sym there ∙ f.index_is) in
    let inside = found_within f in
    omega (arith, inside.3)

-- ---- all of them

-- what holds at each index
pub zip_from : {X Y : Type 0} (R : X → Y → Type 0) (xs : List X) (ys : List Y) → length xs ≡ length ys
    → ((k : ℕ) (x : X) → slice_get xs k ≡ Some x → (y : Y) × (slice_get ys k ≡ Some y) × R x y)
    → AllZip R xs ys
zip_from R [] [] count each = tt
zip_from R [] (y ∷ ys) count each = absurd (omega arith)
zip_from R (x ∷ xs) [] count each = absurd (omega arith)
zip_from {X} {Y} R (x ∷ xs) (y ∷ ys) count each =
    let first = each 0 x refl in
    let same : first.0 ≡ y = same_Some first.0 y (sym first.1) in
    (subst (R x) same first.2, zip_from R xs ys (omega arith) (λ k z there. each (suc k) z there))

-- the steps of so many entries are told
abbrev pub ToldSoFar : List PlainFile → List PlainToken → (moves : List (Move (List ℕ)))
    → (origins : List ℕ) → (texts : List (List ℕ)) → (count : ℕ) → Type 0
ToldSoFar files tokens moves origins texts count =
    (k number : ℕ) → k < count → slice_get origins k ≡ Some number
    → (text : List ℕ) × (slice_get texts k ≡ Some text)
    × IsStepText files tokens moves number text

-- one more
pub told_more : (files : List PlainFile) (tokens : List PlainToken) (moves : List (Move (List ℕ)))
    (origins : List ℕ) (texts : List (List ℕ)) (count : ℕ) (text : List ℕ) (number : ℕ)
    → length texts ≡ count → slice_get origins count ≡ Some number
    → IsStepText files tokens moves number text
    → ToldSoFar files tokens moves origins texts count
    → ToldSoFar files tokens moves origins (texts ++ text ∷ []) (count + 1)
told_more files tokens moves origins texts count text number long there is before k n less at =
    go (k == count) refl
  where
    go : (b : Bool) → (k == count) ≡ b
        → (t : List ℕ) × (slice_get (texts ++ text ∷ []) k ≡ Some t)
        × IsStepText files tokens moves n t
    go true e =
        let here : k ≡ count = grind (arith, nat_tests) in
        let same : number ≡ n = same_Some number n (sym there ∙ ap (slice_get origins) (sym here) ∙ at) in (
          text,
          ap (slice_get (texts ++ text ∷ [])) (here ∙ sym long) ∙ get_pushed texts text,
          subst (λ (m : ℕ). IsStepText files tokens moves m text) same is,
        )
    go false e =
        let old = before k n (grind (arith, nat_tests)) at in
        (old.0, get_kept texts (text ∷ []) k old.0 old.1, old.2)

-- one text more
pub one_text_more : {st : List Sentence} {moves : List (Move (List ℕ))} {lines : List Line}
    {indices : List ℕ} {number : ℕ} (files : List PlainFile) (tokens : List PlainToken)
    (f : FoundStep st moves lines indices number) (origins : List ℕ) (old new : List (Vec ℕ))
    (entry : ℕ) (line : Line) (index : ℕ) (text : Vec ℕ)
    → slice_get lines (number - 1) ≡ Some line → slice_get indices (number - 1) ≡ Some index
    → ((called : StepName) → IsNameOf st line.name called
    → TellsMove files tokens index number called text.items)
    → new ≡ old ++ text ∷ [] → length old ≡ entry → slice_get origins entry ≡ Some number
    → ToldSoFar files tokens moves origins (map (λ t. t.items) old) entry
    → ToldSoFar files tokens moves origins (map (λ t. t.items) new) (entry + 1)
one_text_more {st} {moves} {lines} {indices} {number} files tokens f origins old new entry line index
    text at_line at_index tells is count there before =
    subst (λ (ts : List (List ℕ)). ToldSoFar files tokens moves origins ts (entry + 1))
    (sym (ap (map (λ t. t.items)) is ∙ map-append (λ t. t.items) old (text ∷ [])))
    (told_more files tokens moves origins (map (λ t. t.items) old) entry text.items number
    (length-map old (λ t. t.items) ∙ count) there
    (found_told files tokens f line index text.items at_line at_index tells) before)

pub all_told : (files : List PlainFile) (tokens : List PlainToken) (moves : List (Move (List ℕ)))
    (origins : List ℕ) (texts : List (List ℕ)) (count : ℕ) → length texts ≡ count
    → length origins ≡ count → ToldSoFar files tokens moves origins texts count
    → AllZip (IsStepText files tokens moves) origins texts
all_told files tokens moves origins texts count long as_long told =
    zip_from (IsStepText files tokens moves) origins texts (as_long ∙ sym long) (λ k number there.
    told k number (let within = slice_get_within origins k number there in omega arith) there)

-- ---- of the `$p` with a number

-- the step that made an entry is found by the lines and the indices
pub found_of : (st : List Sentence) (id : ℕ) (steps : ReadSteps) (halt : Halt)
    → OfMoves st id steps.moves (λ index s moves.
    HaltsProof (limit_of steps.profile) st (take index st) s steps.prefix moves halt)
    → (entries : List LabelId) (said : List Code) → steps.moves ≡ moves_of entries said
    → (lines : List Line)
    → OfMoves st id steps.moves (λ index s moves.
    AreLinesWith st (take index st) (take halt.passed moves) (λ index. false) lines)
    → (indices : List ℕ) → indices ≡ step_indices_from 0 said
    → (index : ℕ) (s : Sentence) (moves : List (Move (List ℕ))) → IsProofNumber st id index s
    → AreNumberedMoves st steps.moves moves
    → (k number : ℕ) → slice_get halt.origins.items k ≡ Some number
    → FoundStep st moves lines indices number
found_of st id steps halt halted entries said view lines listed indices are index s moves proof
    numbered k number there =
    subst (λ (ns : List ℕ). FoundStep st moves lines ns number) (sym are)
    (found_step (limit_of steps.profile) st (take index st) s steps.prefix moves halt
    (halted index s moves proof numbered) (ids_in entries) said
    (subst (λ (xs : List (Move ℕ)). AreNumberedMoves st xs moves) view numbered)
    lines (listed index s moves proof numbered) k number there)
