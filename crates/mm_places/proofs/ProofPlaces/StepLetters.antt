-- The steps of a proof with their letters: what is listed code after code is each step that the
-- tokens say. The clause of `letters_of_steps` rests on it.
use Rattle.std.proofs.Common.{◌≡◌, ℕ, zero, suc, ◌+◌, ◌-◌, ◌<◌, inl, inr, List, [], ◌∷◌, ◌++◌, length}
use Rattle.std.proofs.Common.{Contains, map, take, drop, get_or, slice_get, Some, cond, Bool}
use Rattle.std.proofs.Common.{flat_map, refl, sym, ap, subst, ◌∙◌, arith, append_assoc}
use Rattle.std.specs.Prelude.{count_by}
use Rattle.std.specs.List.{AllZip, before_first, position_or_len}
use Rattle.std.proofs.lemmas.List.{drop_more, length-append, length-map}
use Rattle.std.proofs.lemmas.List.Sums.{sum_by-cons}
use Rattle.std.proofs.lemmas.Option.{same_Some, none-some, slice_get_within}
use Rattle.std.proofs.lemmas.Slice.Zip.{AllZip-long}
use Rattle.mm_base.proofs.Lists.{pushed_cases}
use Rattle.mm_code.specs.declared.code.Code.{Code}
use Rattle.mm_code.specs.declared.code.Code.TheVariants.{Number, Tag}
use Rattle.mm_code.specs.Letters.{Letters, SpellsCodes}
use Rattle.mm_code.proofs.OneSpelling.{one_reading_only}
use Rattle.mm_frame.specs.Sentence.{Sentence}
use Rattle.mm_step.specs.Moves.{Move, name, is_step, steps_in}
use Rattle.mm_proof.specs.Tokens.{IsNormal, IsCompressed, Says, SayMoves}
use Rattle.mm_proof.specs.Tokens.{opening_token, closing_token}
use Rattle.mm_proof.proofs.ProofTokens.SaidMoves.{normal_or_compressed, compressed_once}
use Rattle.mm_places.specs.declared.letters.StepLetters.{StepLetters}
use Rattle.mm_places.specs.StepLetters.{is_number, SpellStep, HasLetters, AreStepLetters}
use Rattle.mm_places.proofs.ProofPlaces.WholePlaces.{never_endless}
use Rattle.mm_places.specs.Mirror.CodeLetters.{AddsStep, AreLabelSteps, AreStepsFrom}

-- ---- one code more

-- the step of a number is added
pub adds_number : (said : List Code) (index : ℕ) (d : Code) (value end : ℕ) (own : List Code)
    (step : StepLetters) (old new : List StepLetters) → index < length said
    → get_or said index d ≡ Number value
    → end ≡ index + 1 + position_or_len is_number (drop (index + 1) said)
    → own ≡ take (end - index) (drop index said) → step.index ≡ index
    → SpellsCodes step.letters.items own → new ≡ old ++ step ∷ []
    → AddsStep index (drop index said) old new
adds_number said index d value end own step old new less is stops cut at spelled more =
    let rest : List Code = drop (index + 1) said in
    let here : drop index said ≡ Number value ∷ rest =
    drop_more said index d less ∙ ap (λ (c : Code). c ∷ rest) is in
    let long : end - index ≡ suc (position_or_len is_number rest) = omega arith in
    let whole : own ≡ Number value ∷ before_first is_number rest =
    cut ∙ ap (λ (n : ℕ). take n (drop index said)) long
    ∙ ap (take (suc (position_or_len is_number rest))) here in
    subst (λ (cs : List Code). AddsStep index cs old new) (sym here)
    (step, more, at, subst (SpellsCodes step.letters.items) whole spelled)

-- a tag adds none
pub adds_none : (said : List Code) (index : ℕ) (d : Code) (steps : List StepLetters)
    → index < length said → get_or said index d ≡ Tag → AddsStep index (drop index said) steps steps
adds_none said index d steps less is =
    subst (λ (cs : List Code). AddsStep index cs steps steps)
    (sym (drop_more said index d less ∙ ap (λ (c : Code). c ∷ drop (index + 1) said) is)) refl

-- what goes on behind the first of the codes goes on from there
more : (index : ℕ) (code : Code) (later : List Code) (old new rest : List StepLetters)
    (Are : List StepLetters → Type 0) → AddsStep index (code ∷ later) old new
    → ((steps : List StepLetters) → AreStepsFrom index (code ∷ later) steps → Are (old ++ steps))
    → AreStepsFrom (index + 1) later rest → Are (new ++ rest)
more index (Number value) later old new rest Are (step, is, at, spelled) before these =
    subst Are
    (sym (ap (λ (l : List StepLetters). l ++ rest) is ∙ append_assoc old (step ∷ []) rest))
    (before (step ∷ rest) (step, rest, refl, at, spelled, these))
more index Tag later old new rest Are is before these =
    subst Are (ap (λ (l : List StepLetters). l ++ rest) (sym is)) (before rest these)

-- the steps so far and those of the codes that are left are all
abbrev pub GoOn : (said : List Code) → (index : ℕ) → (steps : List StepLetters) → Type 0
GoOn said index steps =
    (rest : List StepLetters) → AreStepsFrom index (drop index said) rest
    → AreStepsFrom 0 said (steps ++ rest)

pub one_code_more : (said : List Code) (index : ℕ) (old new : List StepLetters)
    → index < length said → AddsStep index (drop index said) old new → GoOn said index old
    → GoOn said (index + 1) new
one_code_more said index old new less adds before rest these =
    let code : Code = get_or said index Tag in
    let later : List Code = drop (index + 1) said in
    let here : drop index said ≡ code ∷ later = drop_more said index Tag less in
    more index code later old new rest (AreStepsFrom 0 said)
    (subst (λ (cs : List Code). AddsStep index cs old new) here adds)
    (λ steps are. before steps
    (subst (λ (cs : List Code). AreStepsFrom index cs steps) (sym here) are))
    these

-- ---- all codes

-- the step at a place of the list is that of a code
record Found (index : ℕ) (said : List Code) (n : ℕ) (step : StepLetters) : Type 0 where
  earlier : List Code
  value : ℕ
  later : List Code
  parts : said ≡ earlier ++ Number value ∷ later
  count : n ≡ count_by is_number earlier
  stands : step.index ≡ index + length earlier
  spelled : SpellsCodes step.letters.items (Number value ∷ before_first is_number later)

one_more : (code : Code) (codes : List Code)
    → count_by is_number (code ∷ codes) ≡ cond (is_number code) 1 0 + count_by is_number codes
one_more code codes = sum_by-cons (λ (c : Code). cond (is_number c) 1 0) code codes

found : (index : ℕ) (said : List Code) (steps : List StepLetters) → AreStepsFrom index said steps
    → (n : ℕ) (step : StepLetters) → slice_get steps n ≡ Some step → Found index said n step
found index [] steps none n step there =
    absurd (none-some step (ap (λ (l : List StepLetters). slice_get l n) (sym none) ∙ there))
found index (Number value ∷ later) steps (first, rest, is, at, spelled, these) zero step there =
    let same : first ≡ step =
    same_Some first step (ap (λ (l : List StepLetters). slice_get l 0) (sym is) ∙ there) in
    record {
      earlier = [];
      value = value;
      later = later;
      parts = refl;
      count = refl;
      stands = ap (λ (s : StepLetters). s.index) (sym same) ∙ at ∙ omega arith;
      spelled = subst (λ (s : StepLetters).
          SpellsCodes s.letters.items (Number value ∷ before_first is_number later)) same spelled;
    }
found index (Number value ∷ later) steps (first, rest, is, at, spelled, these) (suc n) step there =
    let f = found (index + 1) later rest these n step
    (ap (λ (l : List StepLetters). slice_get l (suc n)) (sym is) ∙ there) in
    record {
      earlier = Number value ∷ f.earlier;
      value = f.value;
      later = f.later;
      parts = ap (λ (cs : List Code). Number value ∷ cs) f.parts;
      count = omega (arith, f.count, one_more (Number value) f.earlier);
      stands = omega (arith, f.stands);
      spelled = f.spelled;
    }
found index (Tag ∷ later) steps these n step there =
    let f = found (index + 1) later steps these n step there in
    record {
      earlier = Tag ∷ f.earlier;
      value = f.value;
      later = f.later;
      parts = ap (λ (cs : List Code). Tag ∷ cs) f.parts;
      count = omega (arith, f.count, one_more Tag f.earlier);
      stands = omega (arith, f.stands);
      spelled = f.spelled;
    }

-- there are as many steps as numbers
as_many : (index : ℕ) (said : List Code) (steps : List StepLetters) → AreStepsFrom index said steps
    → length steps ≡ count_by is_number said
as_many index [] steps none = ap length none
as_many index (Number value ∷ later) steps (first, rest, is, at, spelled, these) =
    omega (arith, ap length is, as_many (index + 1) later rest these, one_more (Number value) later)
as_many index (Tag ∷ later) steps these =
    omega (arith, as_many (index + 1) later steps these, one_more Tag later)

-- a number is that of a step
same_kind : (labels : List (List ℕ)) (code : Code) (move : Move (List ℕ)) → Says labels code move
    → is_number code ≡ is_step move
same_kind labels (Number number) move (index, is, inl (label, there, named)) =
    ap is_step (sym named)
same_kind labels (Number number) move (index, is, inr (tag, past, repeats)) =
    ap is_step (sym repeats)
same_kind labels Tag move is = ap is_step (sym is)

step_more : (move : Move (List ℕ)) (moves : List (Move (List ℕ)))
    → steps_in (move ∷ moves) ≡ cond (is_step move) 1 0 + steps_in moves
step_more move moves = sum_by-cons (λ (m : Move (List ℕ)). cond (is_step m) 1 0) move moves

-- the codes have as many numbers as the moves that they say have steps
same_count : (labels : List (List ℕ)) (said : List Code) (moves : List (Move (List ℕ)))
    → AllZip (Says labels) said moves → count_by is_number said ≡ steps_in moves
same_count labels [] [] each = refl
same_count labels [] (move ∷ moves) each = absurd each
same_count labels (code ∷ said) [] each = absurd each
same_count labels (code ∷ said) (move ∷ moves) each =
    let kind : ◌≡◌ {A = ℕ} (cond (is_number code) 1 0) (cond (is_step move) 1 0) =
    ap (λ (b : Bool). cond b 1 0) (same_kind labels code move each.0) in
    omega (
      arith,
      one_more code said,
      step_more move moves,
      kind,
      same_count labels said moves each.1,
    )

-- ---- of a compressed proof

-- its codes are those of whatever moves it says
one_row : (tokens labels pieces : List (List ℕ)) (said : List Code)
    → IsCompressed tokens labels pieces → Letters (flat_map (λ piece. piece) pieces) said
    → (before : List Sentence) (s : Sentence) (moves : List (Move (List ℕ)))
    → SayMoves before s tokens moves
    → (names : List (List ℕ)) × AllZip (Says names) said moves
one_row tokens labels pieces said parts coded before s moves (inl (normal, is)) =
    absurd (normal_or_compressed tokens labels pieces normal parts)
one_row tokens labels pieces said parts coded before s moves (inr says) =
    let same = compressed_once tokens labels says.listed pieces says.letters parts says.parts in
    let codes : said ≡ says.codes =
    one_reading_only (flat_map (λ piece. piece) says.letters) said says.codes
    (subst (λ (ps : List (List ℕ)). Letters (flat_map (λ piece. piece) ps) said) same.1 coded)
    says.coded in (
      says.labels ++ says.listed,
      subst (λ (cs : List Code). AllZip (Says (says.labels ++ says.listed)) cs moves) (sym codes)
          says.each,
    )

-- so its letters say codes
pub said_codes : (rest labels pieces : List (List ℕ))
    → IsCompressed (opening_token ∷ rest) labels pieces
    → (before : List Sentence) (s : Sentence) (moves : List (Move (List ℕ)))
    → SayMoves before s (opening_token ∷ rest) moves
    → (said : List Code) × Letters (flat_map (λ piece. piece) pieces) said
said_codes rest labels pieces parts before s moves (inl (normal, is)) = absurd (normal refl)
said_codes rest labels pieces parts before s moves (inr says) =
    let same = compressed_once (opening_token ∷ rest) labels says.listed pieces says.letters parts
    says.parts in (
      says.codes,
      subst (λ (ps : List (List ℕ)). Letters (flat_map (λ piece. piece) ps) says.codes)
          (sym same.1) says.coded,
    )

-- what has a list without an end says none
pub endless_moves : (rest : List (List ℕ)) → ¬ (Contains rest closing_token)
    → (before : List Sentence) (s : Sentence) (moves : List (Move (List ℕ)))
    → SayMoves before s (opening_token ∷ rest) moves → ⊥
endless_moves rest endless before s moves (inl (normal, is)) = normal refl
endless_moves rest endless before s moves (inr says) =
    never_endless (opening_token ∷ rest) rest says.listed refl endless
    (inr (says.letters, says.parts))

pub code_letters : (tokens labels pieces : List (List ℕ)) (said : List Code)
    → IsCompressed tokens labels pieces → Letters (flat_map (λ piece. piece) pieces) said
    → (steps : List StepLetters) → AreStepsFrom 0 said steps → AreStepLetters tokens steps
code_letters tokens labels pieces said parts coded steps are = record {
  each = λ n step there.
      let f = found 0 said steps are n step there in
      let spell : SpellStep said (n + 1) step.index step.letters.items = record {
        earlier = f.earlier;
        value = f.value;
        later = f.later;
        parts = f.parts;
        count = ap (λ (k : ℕ). k + 1) f.count;
        stands = f.stands ∙ omega arith;
        spelled = f.spelled;
      } in
      inr (labels, pieces, parts, said, coded, spell);
  count = λ before s moves says.
      let row = one_row tokens labels pieces said parts coded before s moves says in
      as_many 0 said steps are ∙ same_count row.0 said moves row.1;
}

-- ---- of a normal proof

all_steps : (tokens : List (List ℕ)) → steps_in (map name tokens) ≡ length tokens
all_steps [] = refl
all_steps (t ∷ tokens) = omega (arith, step_more (name t) (map name tokens), all_steps tokens)

-- one label more
pub one_label_more : (count : ℕ) (old new : List StepLetters) (step : StepLetters)
    → AreLabelSteps count old → new ≡ old ++ step ∷ [] → step.index ≡ count
    → step.letters.items ≡ [] → AreLabelSteps (count + 1) new
one_label_more count old new step are is at none = record {
  many = ap length is ∙ length-append old (step ∷ []) ∙ ap (λ (n : ℕ). n + 1) are.many;
  each = λ n other there.
      elim (pushed_cases old step n other
      (ap (λ (l : List StepLetters). slice_get l n) (sym is) ∙ there)) [
        | inl before ↦ are.each n other before
        | inr (place, same) ↦ (
          ap (λ (s : StepLetters). s.index) (sym same) ∙ at ∙ sym (place ∙ are.many),
          ap (λ (s : StepLetters). s.letters.items) (sym same) ∙ none,
        )
      ];
}

pub label_letters : (tokens : List (List ℕ)) (steps : List StepLetters) → IsNormal tokens
    → AreLabelSteps (length tokens) steps → AreStepLetters tokens steps
label_letters tokens steps normal are = record {
  each = λ n step there.
      let own = are.each n step there in
      let less = slice_get_within steps n step there in
      inl (
        normal,
        ap (λ (k : ℕ). k + 1) (sym own.0),
        omega (arith, own.0, less, are.many),
        own.1,
      );
  count = λ before s moves says. many before s moves says;
}
  where
    many : (before : List Sentence) (s : Sentence) (moves : List (Move (List ℕ)))
        → SayMoves before s tokens moves → length steps ≡ steps_in moves
    many before s moves (inl (plain, is)) =
        are.many ∙ sym (all_steps tokens) ∙ ap steps_in (sym is)
    many before s moves (inr says) =
        absurd (normal_or_compressed tokens says.listed says.letters normal says.parts)

-- ---- the move of a step

-- it is one of those that the tokens say
pub letters_within : (tokens : List (List ℕ)) (number index : ℕ) (letters : List ℕ)
    → HasLetters tokens number index letters
    → (before : List Sentence) (s : Sentence) (moves : List (Move (List ℕ)))
    → SayMoves before s tokens moves → index < length moves
letters_within tokens number index letters (inl (normal, is, less, none)) before s moves
    (inl (plain, all)) =
    omega (arith, less, ap length all, length-map tokens name)
letters_within tokens number index letters (inl (normal, is, less, none)) before s moves
    (inr says) =
    absurd (normal_or_compressed tokens says.listed says.letters normal says.parts)
letters_within tokens number index letters (inr (labels, pieces, parts, said, coded, spell)) before
    s moves says =
    let row = one_row tokens labels pieces said parts coded before s moves says in
    let long = AllZip-long (Says row.0) said moves row.1 in
    omega (
      arith,
      spell.stands,
      long,
      ap length spell.parts,
      length-append spell.earlier (Number spell.value ∷ spell.later),
    )
