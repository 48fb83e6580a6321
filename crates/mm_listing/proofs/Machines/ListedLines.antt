-- The lines of a lister: one for each step, by numbers and by names.
use Rattle.std.proofs.Common.{◌≡◌, ℕ, suc, ◌+◌, ◌<◌, List, [], ◌∷◌, ◌++◌, length, take, drop}
use Rattle.std.proofs.Common.{slice_get, Some, true, ◌⊎◌, inl, inr, refl, sym, ap, subst, ◌∙◌}
use Rattle.std.proofs.Common.{arith, ⊎_elim, ◌-◌, Bool}
use Rattle.std.proofs.lemmas.Bool.{false≢true}
use Rattle.std.proofs.lemmas.Option.{slice_get_within}
use Rattle.std.proofs.lemmas.List.{take-append-le, take_at, length-append, length-map}
use Rattle.mm_base.proofs.Lists.{split_at, get_kept, pushed_cases, zip_left, zip_front}
use Rattle.mm_base.proofs.Lists.{all_at, all_weaker, get_pushed}
use Rattle.mm_frame.specs.Sentence.{Sentence}
use Rattle.mm_step.specs.Tree.{none, tree, beside, roots, DeriveAll}
use Rattle.mm_step.specs.Moves.{Move, name, again, mark, is_step, steps_in, Makes}
use Rattle.mm_step.specs.Proof.{Passed, IsWithin}
use Rattle.mm_listing.specs.Listing.{ListedStep, StandsAfter, MakeLast, IsListed, AreListed, StepName}
use Rattle.mm_listing.specs.Listing.{IsCalled, IsNameOf}
use Rattle.mm_step.proofs.ProofSteps.Derivations.{derive_halves, single_derives, makes_split}
use Rattle.mm_step.proofs.ProofSteps.Derivations.{roots-beside, roots_derive}
use Rattle.mm_proof.proofs.ProofVerdicts.VerdictLaws.{derive_any}
use Rattle.mm_proof.proofs.ProofVerdicts.FirstFault.{steps_in-append}
use Rattle.std.proofs.lemmas.Slice.Zip.{AllZip-long}
use Rattle.mm_frame.specs.Numbers.{symbols_of}
use Rattle.mm_listing.specs.declared.lines.Line.{Line}
use Rattle.mm_step.specs.Steps.{IsNumberedMove, AreNumberedMoves}
use Rattle.mm_step.specs.Mirror.CodeVerify.{IsSymbol, AreDeclaredSymbols, AreBelow, names_at}
use Rattle.mm_step.specs.Mirror.CodeVerify.{all_names_at}
use Rattle.mm_step.specs.Mirror.CodeRun.{HasRun}
use Rattle.mm_listing.specs.Mirror.CodeLines.{AreLinesAt, AreTagsFor, HasListed, expresses}
use Rattle.mm_listing.specs.Mirror.CodeLines.{IsLastWhere}
use Rattle.mm_listing.specs.declared.lines.Expressed.{Expressed}
use Rattle.mm_proof.specs.Mirror.Judges.{HasJudged}
use Rattle.mm_proof.specs.declared.judge.Judge.{Judge}
use Rattle.mm_listing.specs.declared.lines.Lister.{Lister}
use Rattle.mm_proof.proofs.ProofVerdicts.JudgedMoves.{last_split, same_steps, same_kind}
use Rattle.mm_step.proofs.ByNumbers.NamedEntries.{named_push}
use Rattle.mm_proof.proofs.ProofNumbers.NumbersNamed.{numbers_named}
use Rattle.mm_listing.proofs.Machines.ToldLines.{none_told, one_more_told, last_told}

-- ==== one move more in a listing

-- ---- a list with one element more

-- an element is an old one or the new one
pub old_or_new : {X : Type 0} (xs : List X) (x y : X) (i : ℕ) → slice_get (xs ++ x ∷ []) i ≡ Some y
    → ((i < length xs) × (slice_get xs i ≡ Some y)) ⊎ ((i ≡ length xs) × (x ≡ y))
old_or_new xs x y i e =
    ⊎_elim (λ there. inl (slice_get_within xs i y there, there)) inr (pushed_cases xs x i y e)

-- ---- steps

-- one step is one
pub one_step : {X : Type 0} (move : Move X) → is_step move ≡ true → steps_in (move ∷ []) ≡ 1
one_step mark is = absurd (false≢true is)
one_step move is = refl

-- a step is counted among the moves, and not among those before it
step_before : (moves : List (Move (List ℕ))) (i : ℕ) (move : Move (List ℕ)) → slice_get moves i ≡ Some move → is_step move ≡ true
    → steps_in (take i moves) < steps_in moves
step_before moves i move there is =
    let rest = drop (suc i) moves in
    let whole = ap steps_in (split_at moves i move there) in
    let parts = steps_in-append (take i moves) (move ∷ rest) in
    omega (arith, whole, parts, steps_in-append (move ∷ []) rest, one_step move is)

-- ---- tags

-- a tag stands where it stood, whatever comes
stands_later : {X : Type 0} (moves more : List (Move X)) (tag step : ℕ) → StandsAfter moves tag step → StandsAfter (moves ++ more) tag step
stands_later {X} moves more tag step s =
    let within : step + tag < length moves = slice_get_within moves (step + tag) mark s.0 in
    (get_kept moves more (step + tag) mark s.0, ap steps_in (take-append-le (step + tag) moves more (omega arith)) ∙ s.1)

-- ---- what is listed

-- a step more
listed_step : (before : List Sentence) (moves : List (Move (List ℕ))) (move : Move (List ℕ)) (steps : List ListedStep) (step : ListedStep) → AreListed before moves steps
    → is_step move ≡ true → IsListed before moves move step → AreListed before (moves ++ move ∷ []) (steps ++ step ∷ [])
listed_step before moves move steps step listed is new = record {
  count =
      let more = steps_in-append moves (move ∷ []) in
      omega (arith, listed.count, length-append steps (step ∷ []), more, one_step move is);
  each = λ index m s there is_one is. ⊎_elim
      (λ old.
      let prefix = take-append-le index moves (move ∷ []) (let l = old.0 in omega arith) in
      let less = step_before moves index m old.1 is_one in
      rw prefix (elim (old_or_new steps step s (steps_in (take index moves)) (rw prefix at is)) [
        | inl h ↦ listed.each index m s old.1 is_one h.1
        | inr h ↦ absurd (omega (arith, h.0, less, listed.count))
      ]))
      (λ last.
      let prefix = take_at moves (move ∷ []) index (sym last.0) in
      rw (prefix, ← last.1) (elim (old_or_new steps step s (steps_in moves) (rw prefix at is)) [
        | inl h ↦ absurd (omega (arith, h.0, listed.count))
        | inr h ↦ rw (← h.1) new
      ]))
      (old_or_new moves move m index there);
}

-- a mark more
listed_mark : (before : List Sentence) (moves : List (Move (List ℕ))) (steps : List ListedStep) → AreListed before moves steps → AreListed before (moves ++ mark ∷ []) steps
listed_mark before moves steps listed = record {
  count = omega (arith, listed.count, steps_in-append moves (mark ∷ []));
  each = λ index m s there is_one is. ⊎_elim
      (λ old.
      let prefix = take-append-le index moves (mark ∷ []) (let l = old.0 in omega arith) in
      rw prefix (listed.each index m s old.1 is_one (rw prefix at is)))
      (λ new. absurd (false≢true (rw (← new.1) at is_one)))
      (old_or_new moves mark m index there);
}

-- ---- what moves that passed leave

-- the last expression is derived by the last tree
last_made : (Fits : List (List ℕ) → Type 0) (before : List Sentence) (moves : List (Move (List ℕ))) (rest kept : List (List (List ℕ))) (e : List (List ℕ))
    → Passed Fits before moves (rest ++ e ∷ []) kept → MakeLast before moves e
last_made Fits before moves rest kept e passed =
    let h = derive_halves Fits before passed.trees rest (e ∷ []) passed.derived in
    let one = single_derives Fits before h.right e h.derive_right in
    record {
      rest = h.left;
      label = one.0;
      below = one.1;
      kept = passed.shelf;
      made = subst (λ t. Makes before moves none [] t passed.shelf) (h.parts ∙ ap (beside h.left) one.2) passed.made;
      derived = derive_any Fits before (tree one.0 one.1 none) (e ∷ []) (subst (λ u. DeriveAll Fits before u (e ∷ [])) one.2 h.derive_right);
    }

-- a step by a label leaves something
name_leaves : (Fits : List (List ℕ) → Type 0) (before : List Sentence) (moves : List (Move (List ℕ))) (label : List ℕ) (stack kept : List (List (List ℕ)))
    → Passed Fits before (moves ++ name label ∷ []) stack kept → 0 < length stack
name_leaves Fits before moves label stack kept passed =
    let s = makes_split before moves (name label ∷ []) none passed.trees [] passed.shelf passed.made in
    let last = s.3 in
    let row : passed.trees ≡ beside last.2.0 (tree label last.2.1 none) = last.3.0 ∙ last.2.4 in
    let width : roots passed.trees ≡ roots last.2.0 + 1 = ap roots row ∙ roots-beside last.2.0 (tree label last.2.1 none) in
    let deep : roots passed.trees ≡ length stack = roots_derive Fits before passed.trees stack passed.derived in
    omega arith

-- a step by a tag does too, and the tag is that of something kept
again_leaves : (Fits : List (List ℕ) → Type 0) (before : List Sentence)
    (moves : List (Move (List ℕ))) (tag : ℕ) (stack kept : List (List (List ℕ)))
    → Passed Fits before (moves ++ again tag ∷ []) stack kept
    → (tag < length kept) × (0 < length stack)
again_leaves Fits before moves tag stack kept passed =
    let shelf = passed.shelf in
    let s = makes_split before moves (again tag ∷ []) none passed.trees [] shelf passed.made in
    let last = s.3 in
    let t = last.2.0 in
    let there : slice_get shelf tag ≡ Some t =
    subst (λ l. slice_get l tag ≡ Some t) (sym (last.3.1 ∙ last.2.3)) last.2.1 in
    let found = zip_left (λ t e. DeriveAll Fits before t (e ∷ [])) shelf kept tag t
    passed.kept_derived there in
    let one : roots t ≡ 1 = roots_derive Fits before t (found.0 ∷ []) found.2 in
    let width = ap roots (last.3.0 ∙ last.2.2) ∙ roots-beside s.0 t in
    let deep = roots_derive Fits before passed.trees stack passed.derived in
    (slice_get_within kept tag found.0 found.1, omega (arith, one, width, deep))

-- ---- tags

tags_later : (st : List Sentence) (prefix : List (Move ℕ)) (x : Move ℕ) (tags : List ℕ) → AreTagsFor st prefix tags → AreTagsFor st (prefix ++ x ∷ []) tags
tags_later st prefix x tags are moves numbered tag step there =
    let h = zip_front (IsNumberedMove st) prefix x moves numbered in
    subst (λ l. StandsAfter l tag step) (sym h.2) (stands_later h.0 (h.1 ∷ []) tag step (are h.0 h.3 tag step there))

-- one tag more
tags_more : (st : List Sentence) (prefix : List (Move ℕ)) (tags : List ℕ) (new : ℕ) → new ≡ steps_in prefix → new + length tags ≡ length prefix
    → AreTagsFor st prefix tags → AreTagsFor st (prefix ++ mark ∷ []) (tags ++ new ∷ [])
tags_more st prefix tags new count all are moves numbered tag step there =
    let h = zip_front (IsNumberedMove st) prefix mark moves numbered in
    subst (λ l. StandsAfter l tag step) (sym h.2) (elim (old_or_new tags new step tag there) [
      | inl old ↦ stands_later h.0 (h.1 ∷ []) tag step (are h.0 h.3 tag step old.1)
      | inr last ↦
          let same : steps_in h.0 ≡ step = sym (same_steps st prefix h.0 h.3) ∙ sym count ∙ last.1 in
          let long : length h.0 ≡ length prefix = AllZip-long (IsNumberedMove st) prefix h.0 h.3 in
          let number : step + tag ≡ length h.0 = (let a = last.0 in let b = last.1 in omega arith) in
          rw h.4 (
            rw number (get_pushed h.0 mark),
            ap steps_in (take_at h.0 (mark ∷ []) (step + tag) (sym number)) ∙ same,
          )
    ])

-- ---- lines

-- nothing is listed
lines_none : (st : List Sentence) (expressed : ℕ → Bool) (index : ℕ)
    → AreLinesAt st expressed index [] []
lines_none st expressed index [] numbered = (
  [],
  record { count = refl; each = λ index move step there is at. absurd cc },
  none_told st expressed,
)
lines_none st expressed index (m ∷ moves) numbered = absurd numbered

-- a step more, which is called so
line_more : (limit : ℕ) (st : List Sentence) (expressed : ℕ → Bool) (index : ℕ)
    (prefix : List (Move ℕ)) (x : Move ℕ) (stack kept : List (List ℕ)) (count : ℕ)
    (lines : List Line) (line : Line)
    → HasRun limit st index (prefix ++ x ∷ []) stack kept count → 0 < length stack
    → IsLastWhere (expressed (length lines)) stack line.expression.items → is_step x ≡ true
    → ((moves : List (Move (List ℕ))) (move : Move (List ℕ)) → AreNumberedMoves st prefix moves → IsNumberedMove st x move
    → (called : StepName) × IsNameOf st line.name called × IsCalled moves move called)
    → AreLinesAt st expressed index prefix lines
    → AreLinesAt st expressed index (prefix ++ x ∷ []) (lines ++ line ∷ [])
line_more limit st expressed index prefix x stack kept count lines line run some last is calls old
    moves numbered =
    let before : List Sentence = take index st in
    let h = zip_front (IsNumberedMove st) prefix x moves numbered in
    let parts = last_split stack some in
    let e : List ℕ = parts.1 in
    let made : MakeLast before moves (names_at st e) = last_made (IsWithin limit) before moves (all_names_at st parts.0) (all_names_at st kept) (names_at st e)
    (rw (parts.2, named_push st parts.0 parts.1) at (run.passed moves numbered)) in
    let entry : AreDeclaredSymbols st before e = all_at (AreDeclaredSymbols st before) stack (length stack - 1) e run.entries parts.3 in
    let below : AreBelow st e = all_weaker (IsSymbol st before) (λ k. k < length (symbols_of st)) (λ k i. i.below) e entry in
    let call = calls h.0 h.1 h.3 h.4 in
    let new : ListedStep = record { called = call.0; expression = names_at st e } in
    let was = old h.0 h.3 in (
      was.0 ++ new ∷ [],
      subst (λ l. AreListed before l (was.0 ++ new ∷ [])) (sym h.2)
          (listed_step before h.0 h.1 was.0 new was.1 (sym (same_kind st x h.1 h.4) ∙ is)
          (record { called = call.2; pushed = subst (λ l. MakeLast before l (names_at st e)) h.2 made })),
      one_more_told st expressed lines was.0 line new was.2
          (last_told st (expressed (length lines)) stack line new e parts.3 last call.1
          (numbers_named st e below)),
    )

-- a mark more
line_mark : (st : List Sentence) (expressed : ℕ → Bool) (index : ℕ) (prefix : List (Move ℕ))
    (lines : List Line) → AreLinesAt st expressed index prefix lines
    → AreLinesAt st expressed index (prefix ++ mark ∷ []) lines
line_mark st expressed index prefix lines old moves numbered =
    let h = zip_front (IsNumberedMove st) prefix mark moves numbered in
    let was = old h.0 h.3 in
    (was.0, subst (λ l. AreListed (take index st) l was.0) (sym (h.2 ∙ ap (λ m. h.0 ++ m ∷ []) h.4)) (listed_mark (take index st) h.0 was.0 was.1), was.2)

-- ---- a lister

module _ {S : Type 0} (stack kept : S → List (List ℕ)) where
  -- before any move
  pub lists_none : (first : Lister S) → HasJudged stack kept first.judge first.judge []
      → first.lines.now.items ≡ [] → first.tags.now.items ≡ [] → HasListed stack kept first first []
  lists_none first judged lines tags = record {
    same_lines = refl;
    same_choice = refl;
    judged = judged;
    listed = rw lines (lines_none first.judge.table.now.site.statements
        (expresses first.expressed) first.judge.table.now.site.index);
    stand = rw tags (λ moves numbered tag step there. absurd cc);
    count = (let a = judged.run.count in omega (arith, ap length lines, a));
    marks = (let a = judged.all in omega (arith, ap length tags, a));
  }

  -- a step
  pub lists_step : (first old new : Lister S) (prefix : List (Move ℕ)) (x : Move ℕ) (line : Line)
      → HasListed stack kept first old prefix
      → HasJudged stack kept first.judge new.judge (prefix ++ x ∷ []) → is_step x ≡ true
      → new.lines.ghost_name ≡ old.lines.ghost_name
      → new.lines.now.items ≡ old.lines.now.items ++ line ∷ []
      → new.tags.now.items ≡ old.tags.now.items → new.expressed ≡ old.expressed
      → 0 < length (stack new.judge.store.now)
      → IsLastWhere (expresses old.expressed (length old.lines.now.items))
      (stack new.judge.store.now) line.expression.items
      → (let st = first.judge.table.now.site.statements in (moves : List (Move (List ℕ))) (move : Move (List ℕ)) → AreNumberedMoves st prefix moves → IsNumberedMove st x move → (called : StepName) × IsNameOf st line.name called × IsCalled moves move called)
      → HasListed stack kept first new (prefix ++ x ∷ [])
  lists_step first old new prefix x line was judged is same lines tags choice some last calls =
      let site = first.judge.table.now.site in
      let now = judged.run.count in
      let before = was.judged.run.count in
      let one = steps_in-append prefix (x ∷ []) in
      let step = one_step x is in
      record {
        same_lines = same ∙ was.same_lines;
        same_choice = choice ∙ was.same_choice;
        judged = judged;
        listed = rw lines (line_more site.limit site.statements (expresses first.expressed)
            site.index prefix x _ _ _ _ line judged.run some
            (subst (λ (e : Expressed). IsLastWhere (expresses e (length old.lines.now.items))
            (stack new.judge.store.now) line.expression.items) was.same_choice last)
            is calls was.listed);
        stand = rw tags (tags_later site.statements prefix x old.tags.now.items was.stand);
        count = omega (
          arith,
          ap length lines,
          length-append old.lines.now.items (line ∷ []),
          was.count,
          now,
          before,
          one,
          step,
        );
        marks = omega (
          arith,
          ap length tags,
          was.marks,
          now,
          before,
          one,
          step,
          judged.all,
          was.judged.all,
          length-append prefix (x ∷ []),
        );
      }

  -- a mark
  pub lists_mark : (first old new : Lister S) (prefix : List (Move ℕ)) (number : ℕ)
      → HasListed stack kept first old prefix
      → HasJudged stack kept first.judge new.judge (prefix ++ mark ∷ [])
      → new.lines.ghost_name ≡ old.lines.ghost_name → new.lines.now.items ≡ old.lines.now.items
      → new.tags.now.items ≡ old.tags.now.items ++ number ∷ [] → number ≡ length old.lines.now.items
      → new.expressed ≡ old.expressed → HasListed stack kept first new (prefix ++ mark ∷ [])
  lists_mark first old new prefix number was judged same lines tags is choice =
      let site = first.judge.table.now.site in
      let one = steps_in-append prefix (mark ∷ []) in
      let now = judged.run.count in
      let before = was.judged.run.count in
      record {
        same_lines = same ∙ was.same_lines;
        same_choice = choice ∙ was.same_choice;
        judged = judged;
        listed = rw lines (line_mark site.statements (expresses first.expressed) site.index prefix
            _ was.listed);
        stand = rw tags (tags_more site.statements prefix old.tags.now.items number
            (is ∙ was.count ∙ before)
            (omega (arith, is, was.count, was.marks, was.judged.all)) was.stand);
        count = omega (arith, ap length lines, was.count, now, before, one);
        marks = omega (
          arith,
          ap length tags,
          length-append old.tags.now.items (number ∷ []),
          was.marks,
          now,
          before,
          one,
          judged.all,
          was.judged.all,
          length-append prefix (mark ∷ []),
        );
      }

  -- all moves have run, each step with a line
  pub listed_run : (first now : Lister S) (prefix : List (Move ℕ))
      → HasListed stack kept first now prefix
      → let site = first.judge.table.now.site in HasRun site.limit site.statements site.index prefix (stack now.judge.store.now) (kept now.judge.store.now) (length now.lines.now.items)
  listed_run first now prefix listed = rw listed.count listed.judged.run

  -- ---- what a step leaves

  -- a step by a label leaves something
  pub name_stands : (first now : Judge S) (prefix : List (Move ℕ)) (id : ℕ)
      → HasJudged stack kept first now (prefix ++ name id ∷ [])
      → (names : List (Move (List ℕ))) × AreNumberedMoves first.table.now.site.statements (prefix ++ name id ∷ []) names
      → 0 < length (stack now.store.now)
  name_stands first now prefix id judged named =
      let site = first.table.now.site in
      let st = site.statements in
      let h = zip_front (IsNumberedMove st) prefix (name id) named.0 named.1 in
      let deep = name_leaves (IsWithin site.limit) (take site.index st) h.0 h.4.1
      (all_names_at st (stack now.store.now)) (all_names_at st (kept now.store.now))
      (subst (λ l. Passed (IsWithin site.limit) (take site.index st) l _ _)
      (h.2 ∙ ap (λ m. h.0 ++ m ∷ []) h.4.4) (judged.run.passed named.0 named.1)) in
      omega (arith, deep, length-map (stack now.store.now) (names_at st))

  -- a step by a tag does too, and the tag is known
  pub tag_stands : (first old : Lister S) (now : Judge S) (prefix : List (Move ℕ)) (tag : ℕ)
      → HasListed stack kept first old prefix
      → HasJudged stack kept first.judge now (prefix ++ again tag ∷ [])
      → (names : List (Move (List ℕ))) × AreNumberedMoves first.judge.table.now.site.statements (prefix ++ again tag ∷ []) names
      → (tag < length old.tags.now.items) × (0 < length (stack now.store.now))
  tag_stands first old now prefix tag was judged named =
      let site = first.judge.table.now.site in
      let st = site.statements in
      let h = zip_front (IsNumberedMove st) prefix (again tag) named.0 named.1 in
      let left = again_leaves (IsWithin site.limit) (take site.index st) h.0 tag
      (all_names_at st (stack now.store.now)) (all_names_at st (kept now.store.now))
      (subst (λ l. Passed (IsWithin site.limit) (take site.index st) l _ _)
      (h.2 ∙ ap (λ m. h.0 ++ m ∷ []) h.4) (judged.run.passed named.0 named.1)) in
      let within = length-map (kept now.store.now) (names_at st) in
      let one = steps_in-append prefix (again tag ∷ []) in
      let long = length-append prefix (again tag ∷ []) in
      let before = was.judged.run.count in (
        omega (
          arith,
          left.0,
          within,
          was.marks,
          judged.tags,
          one,
          long,
          was.judged.all,
          judged.all,
          judged.run.count,
          before,
        ),
        omega (arith, left.1, length-map (stack now.store.now) (names_at st)),
      )
