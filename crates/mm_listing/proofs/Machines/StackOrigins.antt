-- The steps that made the entries of the stack, by names and by numbers, and what a tracker keeps
-- of them.
use Rattle.std.proofs.Common.{◌≡◌, ℕ, ◌+◌, ◌-◌, ◌<◌, ◌≤◌, List, [], ◌∷◌, ◌++◌, length, take}
use Rattle.std.proofs.Common.{slice_get, Some, true, ◌⊎◌, inl, inr, refl, sym, ap, subst, ◌∙◌}
use Rattle.std.proofs.Common.{arith, ⊎_elim, append-nil, append_assoc}
use Rattle.std.proofs.lemmas.Bool.{false≢true}
use Rattle.std.proofs.lemmas.Option.{slice_get_within}
use Rattle.std.proofs.lemmas.List.{take-append-le, take_at, length-append, length-map}
use Rattle.std.proofs.lemmas.List.{length-take-le}
use Rattle.mm_base.proofs.Lists.{get_kept, get_before, get_from_take, get_pushed, last_cut}
use Rattle.mm_base.proofs.Lists.{zip_left, zip_front}
use Rattle.mm_frame.specs.Sentence.{Sentence}
use Rattle.mm_frame.specs.Rules.{AllMeant}
use Rattle.mm_step.specs.declared.fault.ProofRule.{ProofRule}
use Rattle.mm_step.specs.declared.fault.ProofFault.{ProofFault}
use Rattle.mm_step.specs.declared.fault.ProofFault.TheVariants as faults
use Rattle.mm_listing.specs.declared.origins.Stop.{Stop}
use Rattle.mm_listing.specs.declared.origins.Stop.TheVariants as stops
use Rattle.mm_listing.specs.declared.origins.Tracker.{Tracker}
use Rattle.mm_proof.specs.Answer.{OnRule}
use Rattle.mm_step.specs.Substitution.{Expression}
use Rattle.mm_step.specs.Tree.{Trees, none, tree, beside, spelling, DeriveAll, AnyExpression}
use Rattle.mm_step.specs.Moves.{Move, name, again, mark, is_step, steps_in}
use Rattle.mm_step.specs.Proof.{Passed, IsWithin}
use Rattle.mm_step.specs.Steps.{IsNumberedMove, AreNumberedMoves}
use Rattle.mm_listing.specs.Listing.{ListedStep, MakeLast, AreListed}
use Rattle.mm_listing.specs.Halted.{IsMadeBy, AreOrigins}
use Rattle.mm_step.specs.Mirror.CodeVerify.{names_at, all_names_at}
use Rattle.mm_step.specs.Mirror.CodeRun.{HasRun}
use Rattle.mm_proof.specs.declared.judge.Judge.{Judge}
use Rattle.mm_proof.specs.Mirror.Judges.{HasJudged, BreaksRun}
use Rattle.mm_step.specs.Mirror.Sites.{ProofSite}
use Rattle.mm_listing.specs.Mirror.StackOrigins.{stop_after, StopsAfter, BreaksAfter, AreOriginsAt}
use Rattle.mm_listing.specs.Mirror.StackOrigins.{HasTracked}
use Rattle.mm_step.proofs.ProofSteps.Derivations.{derive_apart, derived_once, makes_split}
use Rattle.mm_step.proofs.ProofSteps.Derivations.{makes_once}
use Rattle.mm_proof.proofs.ProofVerdicts.PassedMoves.{passed_once}
use Rattle.mm_proof.proofs.ProofVerdicts.FirstFault.{steps_in-append}
use Rattle.mm_proof.proofs.ProofVerdicts.JudgedMoves.{last_split, same_steps, same_kind}
use Rattle.mm_listing.proofs.Machines.ListedLines.{one_step, old_or_new}

-- ==== by names

-- ---- lists

-- the beginning of a list with one element more is all of it, or one of the list
all_or_front : {X : Type 0} (xs some more : List X) (x : X) → xs ++ x ∷ [] ≡ some ++ more
    → (some ≡ xs ++ x ∷ []) ⊎ ((rest : List X) × (xs ≡ some ++ rest))
all_or_front xs some [] x same = inl (sym (same ∙ append-nil some))
all_or_front xs some (y ∷ more) x same = elim (last_cut xs x some y more same) [
  | inl cut ↦ inr (y ∷ cut.0, cut.1)
  | inr end ↦ inr ([], sym end.0 ∙ sym (append-nil some))
]

-- ---- a step keeps what it doesn't take

-- The stack before a step has what it keeps and what it takes, and the one after it has what it
-- keeps and one entry more.
pub record Keeps (stack stack' : List Expression) : Type 0 where
  pub common : List Expression
  pub taken : List Expression
  pub e : Expression
  pub was : stack ≡ common ++ taken
  pub now : stack' ≡ common ++ e ∷ []

module _ (Fits : Expression → Type 0) (before : List Sentence) (all : AllMeant before) where
  pub step_keeps : (moves : List (Move (List ℕ))) (move : Move (List ℕ))
      (stack kept stack' kept' : List Expression) → is_step move ≡ true
      → Passed Fits before moves stack kept
      → Passed Fits before (moves ++ move ∷ []) stack' kept' → Keeps stack stack'
  step_keeps moves (name label) stack kept stack' kept' is p q =
      let s = makes_split before moves (name label ∷ []) none q.trees [] q.shelf q.made in
      let same = makes_once before moves none p.trees s.0 [] p.shelf s.1 all p.made s.2 in
      let last = s.3 in
      let one = last.2 in
      let old = derive_apart Fits before one.0 one.1 stack
      (subst (λ t. DeriveAll Fits before t stack) (same.0 ∙ one.2) p.derived) in
      let new = derive_apart Fits before one.0 (tree label one.1 none) stack'
      (subst (λ t. DeriveAll Fits before t stack') (last.3.0 ∙ one.4) q.derived) in
      let d = new.4 in
      let commons : old.0 ≡ new.0 =
      derived_once Fits Fits before one.0 one.0 old.0 new.0 all old.3 new.3 refl in
      record {
        common = new.0;
        taken = old.1;
        e = d.0;
        was = old.2 ∙ ap (λ l. l ++ old.1) commons;
        now = new.2 ∙ ap (λ l. new.0 ++ l) (d.2 ∙ ap (λ l. d.0 ∷ l) d.5);
      }
  step_keeps moves (again tag) stack kept stack' kept' is p q =
      let s = makes_split before moves (again tag ∷ []) none q.trees [] q.shelf q.made in
      let same = makes_once before moves none p.trees s.0 [] p.shelf s.1 all p.made s.2 in
      let last = s.3 in
      let t = last.2.0 in
      let there : slice_get q.shelf tag ≡ Some t =
      subst (λ l. slice_get l tag ≡ Some t) (sym (last.3.1 ∙ last.2.3)) last.2.1 in
      let found = zip_left (λ t e. DeriveAll Fits before t (e ∷ [])) q.shelf kept' tag t
      q.kept_derived there in
      let new = derive_apart Fits before s.0 t stack'
      (subst (λ t. DeriveAll Fits before t stack') (last.3.0 ∙ last.2.2) q.derived) in
      let commons : stack ≡ new.0 =
      derived_once Fits Fits before p.trees s.0 stack new.0 all p.derived new.3
      (ap spelling same.0) in
      let one : new.1 ≡ found.0 ∷ [] =
      derived_once Fits Fits before t t new.1 (found.0 ∷ []) all new.4 found.2 refl in
      record {
        common = new.0;
        taken = [];
        e = found.0;
        was = commons ∙ sym (append-nil new.0);
        now = new.2 ∙ ap (λ l. new.0 ++ l) one;
      }
  step_keeps moves mark stack kept stack' kept' is p q = absurd (false≢true is)

  -- a mark leaves the stack as it is
  pub mark_keeps : (moves : List (Move (List ℕ))) (stack kept stack' kept' : List Expression)
      → Passed Fits before moves stack kept
      → Passed Fits before (moves ++ mark ∷ []) stack' kept' → stack ≡ stack'
  mark_keeps moves stack kept stack' kept' p q =
      let s = makes_split before moves (mark ∷ []) none q.trees [] q.shelf q.made in
      let same = makes_once before moves none p.trees s.0 [] p.shelf s.1 all p.made s.2 in
      let last = s.3 in
      let row : p.trees ≡ q.trees = same.0 ∙ sym last.2.4 ∙ sym last.3.0 in
      derived_once Fits Fits before p.trees q.trees stack stack' all p.derived q.derived
      (ap spelling row)

  -- what the last tree derives is the last entry
  pub last_is : (moves : List (Move (List ℕ))) (stack kept : List Expression) (e : Expression)
      → Passed Fits before moves stack kept → MakeLast before moves e
      → (rest : List Expression) × (stack ≡ rest ++ e ∷ [])
  last_is moves stack kept e p l =
      let t : Trees = tree l.label l.below none in
      let row = (makes_once before moves none p.trees (beside l.rest t) [] p.shelf l.kept all
      p.made l.made).0 in
      let parts = derive_apart Fits before l.rest t stack
      (subst (λ u. DeriveAll Fits before u stack) row p.derived) in
      let one : parts.1 ≡ e ∷ [] =
      derived_once Fits AnyExpression before t t parts.1 (e ∷ []) all parts.4 l.derived refl in
      (parts.0, parts.2 ∙ ap (λ l. parts.0 ++ l) one)

  -- ---- one move more

  -- An entry that a step made is its still after one move more, where that leaves more entries if
  -- a step has been made since.
  made_later : (moves : List (Move (List ℕ))) (x : Move (List ℕ))
      (stack' kept' : List Expression) (index step : ℕ)
      → Passed Fits before (moves ++ x ∷ []) stack' kept'
      → (m : IsMadeBy Fits before moves index step)
      → (0 < steps_in (m.later ++ x ∷ []) → index + 1 < length stack')
      → IsMadeBy Fits before (moves ++ x ∷ []) index step
  made_later moves x stack' kept' index step passed m deep =
      let parts : moves ++ x ∷ [] ≡ m.earlier ++ m.move ∷ (m.later ++ x ∷ []) =
      ap (λ l. l ++ x ∷ []) m.parts ∙ append_assoc m.earlier (m.move ∷ m.later) (x ∷ []) in
      record {
        earlier = m.earlier;
        move = m.move;
        later = m.later ++ x ∷ [];
        parts = parts;
        step_made = m.step_made;
        number = m.number;
        last = m.last;
        since = λ some more split steps. ⊎_elim
            (λ whole.
            let here = parts ∙ ap (λ l. m.earlier ++ m.move ∷ l) (sym whole) in (
              length stack',
              (
                stack',
                kept',
                subst (λ l. Passed Fits before l stack' kept') here passed,
                refl,
              ),
              deep (subst (λ l. 0 < steps_in l) whole steps),
            ))
            (λ front. m.since some front.0 front.1 steps)
            (all_or_front m.later some more x split);
      }

  -- ---- listings

  -- of the listing of moves, those of the moves before the last
  listed_before : (moves : List (Move (List ℕ))) (x : Move (List ℕ)) (steps : List ListedStep)
      → AreListed before (moves ++ x ∷ []) steps
      → AreListed before moves (take (steps_in moves) steps)
  listed_before moves x steps listed = record {
    count = length-take-le (steps_in moves) steps
        (omega (arith, listed.count, steps_in-append moves (x ∷ [])));
    each = λ index move step there is at.
        let less : index < length moves = slice_get_within moves index move there in
        let prefix = take-append-le index moves (x ∷ []) (omega arith) in
        rw prefix at (listed.each index move step (get_kept moves (x ∷ []) index move there) is
        (rw prefix (get_from_take steps (steps_in moves) (steps_in (take index moves)) step at).1));
  }

  -- ---- the origins after one move more

  -- a step
  pub origins_step : (moves : List (Move (List ℕ))) (x : Move (List ℕ))
      (stack kept stack' kept' : List Expression) (origins : List ℕ) → is_step x ≡ true
      → Passed Fits before moves stack kept → Passed Fits before (moves ++ x ∷ []) stack' kept'
      → AreOrigins Fits before moves stack origins
      → AreOrigins Fits before (moves ++ x ∷ []) stack'
      (take (length stack' - 1) origins ++ (steps_in moves + 1) ∷ [])
  origins_step moves x stack kept stack' kept' origins is p q was =
      let k = step_keeps moves x stack kept stack' kept' is p q in
      let n : ℕ = length k.common in
      let new : ℕ = steps_in moves + 1 in
      let deep : length stack' ≡ n + 1 =
      omega (arith, ap length k.now, length-append k.common (k.e ∷ [])) in
      let within : n ≤ length origins =
      omega (arith, was.count, ap length k.was, length-append k.common k.taken) in
      let long : length (take n origins) ≡ n = length-take-le n origins within in
      let cut : length stack' - 1 ≡ n = omega arith in
      rw cut (record {
        count = omega (arith, length-append (take n origins) (new ∷ []));
        each = λ index step there. ⊎_elim
            (λ old.
            let h = get_from_take origins n index step old.1 in
            made_later moves x stack' kept' index step q (was.each index step h.1)
            (λ later. let less = h.0 in omega arith))
            (λ last. record {
              earlier = moves;
              move = x;
              later = [];
              parts = refl;
              step_made = is;
              number = sym last.1;
              last = (stack', kept', q, (let at = last.0 in omega arith));
              since = λ some more split steps.
                  absurd (no_steps some more split steps);
            })
            (old_or_new (take n origins) new step index there);
        given = λ steps listed index step there. ⊎_elim
            (λ old.
            let h = get_from_take origins n index step old.1 in
            let less = h.0 in
            let l = was.given (take (steps_in moves) steps) (listed_before moves x steps listed)
            index step h.1 in
            let e = l.0.expression in
            let kept_there : slice_get k.common index ≡ Some e =
            get_before k.common k.taken index e less
            (subst (λ s. slice_get s index ≡ Some e) k.was l.2) in (
              l.0,
              (get_from_take steps (steps_in moves) (step - 1) l.0 l.1).1,
              subst (λ s. slice_get s index ≡ Some e) (sym k.now)
                  (get_kept k.common (k.e ∷ []) index e kept_there),
            ))
            (λ last.
            let many = listed.count in
            let one = one_step x is in
            let all_steps = steps_in-append moves (x ∷ []) in
            let s = last_split steps (omega arith) in
            let l : ListedStep = s.1 in
            let number : length steps - 1 ≡ steps_in moves = omega arith in
            let own : step - 1 ≡ steps_in moves = (let b = last.1 in omega arith) in
            let there_listed : slice_get steps (steps_in moves) ≡ Some l =
            subst (λ i. slice_get steps i ≡ Some l) number s.3 in
            let prefix = take_at moves (x ∷ []) (length moves) refl in
            let made : MakeLast before (moves ++ x ∷ []) l.expression =
            (rw prefix at (listed.each (length moves) x l (get_pushed moves x) is
            (rw prefix there_listed))).pushed in
            let end = last_is (moves ++ x ∷ []) stack' kept' l.expression q made in
            let here : index ≡ length end.0 = (let a = last.0 in omega (
              arith,
              ap length end.1,
              length-append end.0 (l.expression ∷ []),
            )) in (
              l,
              subst (λ i. slice_get steps i ≡ Some l) (sym own) there_listed,
              rw (end.1, here) (get_pushed end.0 l.expression),
            ))
            (old_or_new (take n origins) new step index there);
      })
    where
      no_steps : (some more : List (Move (List ℕ))) → [] ≡ some ++ more → 0 < steps_in some → ⊥
      no_steps [] more split steps = omega arith
      no_steps (m ∷ some) more split steps = absurd cc

  -- a mark
  pub origins_mark : (moves : List (Move (List ℕ))) (stack kept stack' kept' : List Expression)
      (origins : List ℕ) → Passed Fits before moves stack kept
      → Passed Fits before (moves ++ mark ∷ []) stack' kept'
      → AreOrigins Fits before moves stack origins
      → AreOrigins Fits before (moves ++ mark ∷ []) stack' origins
  origins_mark moves stack kept stack' kept' origins p q was =
      let same = mark_keeps moves stack kept stack' kept' p q in
      let deep : length stack ≡ length stack' = ap length same in
      record {
        count = was.count ∙ deep;
        each = λ index step there.
            let m = was.each index step there in
            made_later moves mark stack' kept' index step q m (λ later.
            let s = m.since m.later [] (sym (append-nil m.later))
            (omega (arith, later, steps_in-append m.later (mark ∷ []))) in
            let left = s.1 in
            let one = (passed_once Fits Fits before moves left.0 stack left.1 kept all
            (subst (λ l. Passed Fits before l left.0 left.1) (sym m.parts) left.2) p).0 in
            omega (arith, left.3, s.2, ap length one));
        given = λ steps listed index step there.
            let l = was.given (take (steps_in moves) steps) (listed_before moves mark steps listed)
            index step there in (
              l.0,
              (get_from_take steps (steps_in moves) (step - 1) l.0 l.1).1,
              subst (λ s. slice_get s index ≡ Some l.0.expression) same l.2,
            );
      }

-- nothing was made
origins_none : (Fits : Expression → Type 0) (before : List Sentence) → AreOrigins Fits before [] [] []
origins_none Fits before = record {
  count = refl;
  each = λ index step there. absurd cc;
  given = λ steps listed index step there. absurd cc;
}

-- ==== by numbers

-- nothing was made
pub origins_at_none : (limit : ℕ) (st : List Sentence) (index : ℕ) → AreOriginsAt limit st index [] []
    []
origins_at_none limit st index [] numbered = origins_none (IsWithin limit) (take index st)
origins_at_none limit st index (m ∷ moves) numbered = absurd numbered

module _ (limit : ℕ) (st : List Sentence) (index : ℕ) (prefix : List (Move ℕ))
    (stack kept stack' kept' : List (List ℕ)) (count count' : ℕ) (origins : List ℕ)
    (all : AllMeant (take index st)) (was : HasRun limit st index prefix stack kept count)
    (made : AreOriginsAt limit st index prefix stack origins) where
  -- a step more
  pub origins_at_step : (x : Move ℕ) → is_step x ≡ true
      → HasRun limit st index (prefix ++ x ∷ []) stack' kept' count'
      → AreOriginsAt limit st index (prefix ++ x ∷ []) stack'
      (take (length stack' - 1) origins ++ count' ∷ [])
  origins_at_step x is now moves numbered =
      let before : List Sentence = take index st in
      let names : List Expression = all_names_at st stack' in
      let h = zip_front (IsNumberedMove st) prefix x moves numbered in
      let kind : is_step h.1 ≡ true = sym (same_kind st x h.1 h.4) ∙ is in
      let passed = subst
      (λ l. Passed (IsWithin limit) before l names (all_names_at st kept')) h.2
      (now.passed moves numbered) in
      let m = origins_step (IsWithin limit) before all h.0 h.1 (all_names_at st stack)
      (all_names_at st kept) names (all_names_at st kept') origins kind (was.passed h.0 h.3) passed
      (made h.0 h.3) in
      let number : steps_in h.0 + 1 ≡ count' =
      omega (
        arith,
        now.count,
        steps_in-append prefix (x ∷ []),
        one_step x is,
        same_steps st prefix h.0 h.3,
      ) in
      let long = length-map stack' (names_at st) in
      let one = subst (λ n. AreOrigins (IsWithin limit) before (h.0 ++ h.1 ∷ []) names
      (take (n - 1) origins ++ (steps_in h.0 + 1) ∷ [])) long m in
      let two = subst (λ k. AreOrigins (IsWithin limit) before (h.0 ++ h.1 ∷ []) names
      (take (length stack' - 1) origins ++ k ∷ [])) number one in
      subst (λ l. AreOrigins (IsWithin limit) before l names
      (take (length stack' - 1) origins ++ count' ∷ [])) (sym h.2) two

  -- a mark more
  pub origins_at_mark : HasRun limit st index (prefix ++ mark ∷ []) stack' kept' count'
      → AreOriginsAt limit st index (prefix ++ mark ∷ []) stack' origins
  origins_at_mark now moves numbered =
      let before : List Sentence = take index st in
      let names : List Expression = all_names_at st stack' in
      let h = zip_front (IsNumberedMove st) prefix mark moves numbered in
      let split : moves ≡ h.0 ++ mark ∷ [] = h.2 ∙ ap (λ m. h.0 ++ m ∷ []) h.4 in
      let passed = subst
      (λ l. Passed (IsWithin limit) before l names (all_names_at st kept')) split
      (now.passed moves numbered) in
      subst (λ l. AreOrigins (IsWithin limit) before l names origins) (sym split)
      (origins_mark (IsWithin limit) before all h.0 (all_names_at st stack) (all_names_at st kept)
      names (all_names_at st kept') origins (was.passed h.0 h.3) passed (made h.0 h.3))

  -- a step leaves something, and keeps no more entries than there are origins
  pub leaves_last : (x : Move ℕ) → is_step x ≡ true
      → HasRun limit st index (prefix ++ x ∷ []) stack' kept' count'
      → (names : List (Move (List ℕ))) → AreNumberedMoves st (prefix ++ x ∷ []) names
      → (0 < length stack') × (length stack' - 1 ≤ length origins)
  leaves_last x is now moves numbered =
      let before : List Sentence = take index st in
      let names : List Expression = all_names_at st stack' in
      let h = zip_front (IsNumberedMove st) prefix x moves numbered in
      let kind : is_step h.1 ≡ true = sym (same_kind st x h.1 h.4) ∙ is in
      let passed = subst
      (λ l. Passed (IsWithin limit) before l names (all_names_at st kept')) h.2
      (now.passed moves numbered) in
      let k = step_keeps (IsWithin limit) before all h.0 h.1 (all_names_at st stack)
      (all_names_at st kept) names (all_names_at st kept') kind (was.passed h.0 h.3) passed in
      let long = length-map stack' (names_at st) in
      let deep : length stack' ≡ length k.common + 1 =
      omega (arith, long, ap length k.now, length-append k.common (k.e ∷ [])) in
      let held = (made h.0 h.3).count in
      let less : length k.common ≤ length origins =
      omega (arith, held, ap length k.was, length-append k.common k.taken) in
      (omega (arith, deep), omega (arith, deep, less))

-- ==== a tracker

module _ {S : Type 0} (stack kept : S → List (List ℕ)) (first : Tracker S) where
  -- before any move
  pub tracks_none : HasJudged stack kept first.judge first.judge []
      → stack first.judge.store.now ≡ [] → first.origins.now.items ≡ []
      → HasTracked stack kept first first []
  tracks_none judged empty origins =
      let site = first.judge.table.now.site in
      record {
        same_origins = refl;
        judged = judged;
        made = rw (empty, origins) (origins_at_none site.limit site.statements site.index);
      }

  module _ (old : Tracker S) (prefix : List (Move ℕ))
      (all : let site = first.judge.table.now.site in
      AllMeant (take site.index site.statements))
      (was : HasTracked stack kept first old prefix) where
    -- a step
    pub tracks_step : (new : Tracker S) (x : Move ℕ) → is_step x ≡ true
        → HasJudged stack kept first.judge new.judge (prefix ++ x ∷ [])
        → new.origins.ghost_name ≡ old.origins.ghost_name
        → new.origins.now.items
        ≡ take (length (stack new.judge.store.now) - 1) old.origins.now.items
        ++ new.judge.steps ∷ []
        → HasTracked stack kept first new (prefix ++ x ∷ [])
    tracks_step new x is judged same origins =
        let site = first.judge.table.now.site in
        record {
          same_origins = same ∙ was.same_origins;
          judged = judged;
          made = rw origins (origins_at_step site.limit site.statements site.index prefix _ _ _ _ _ _
              old.origins.now.items all was.judged.run was.made x is judged.run);
        }

    -- a mark
    pub tracks_mark : (new : Tracker S)
        → HasJudged stack kept first.judge new.judge (prefix ++ mark ∷ [])
        → new.origins ≡ old.origins → HasTracked stack kept first new (prefix ++ mark ∷ [])
    tracks_mark new judged same =
        let site = first.judge.table.now.site in
        record {
          same_origins = rw same was.same_origins;
          judged = judged;
          made = rw same (origins_at_mark site.limit site.statements site.index prefix _ _ _ _ _ _
              old.origins.now.items all was.judged.run was.made judged.run);
        }

    -- what a step leaves
    pub origin_stands : (now : Judge S) (x : Move ℕ) → is_step x ≡ true
        → HasJudged stack kept first.judge now (prefix ++ x ∷ [])
        → (names : List (Move (List ℕ)))
        × AreNumberedMoves first.judge.table.now.site.statements (prefix ++ x ∷ []) names
        → (0 < length (stack now.store.now))
        × (length (stack now.store.now) - 1 ≤ length old.origins.now.items)
    origin_stands now x is judged named =
        let site = first.judge.table.now.site in
        leaves_last site.limit site.statements site.index prefix _ _ _ _ _ _ old.origins.now.items
        all was.judged.run was.made x is judged.run named.0 named.1

-- all moves have run
pub tracked_run : {S : Type 0} (stack kept : S → List (List ℕ)) (first now : Tracker S)
    (prefix : List (Move ℕ)) → HasTracked stack kept first now prefix
    → let site = first.judge.table.now.site in
    HasRun site.limit site.statements site.index prefix (stack now.judge.store.now)
    (kept now.judge.store.now) now.judge.steps
tracked_run stack kept first now prefix tracked = tracked.judged.run

-- the same steps made the same entries
pub same_origins : (limit : ℕ) (st : List Sentence) (index : ℕ) (prefix : List (Move ℕ))
    (stack stack' : List (List ℕ)) (origins origins' : List ℕ)
    → AreOriginsAt limit st index prefix stack origins → stack ≡ stack' → origins ≡ origins'
    → AreOriginsAt limit st index prefix stack' origins'
same_origins limit st index prefix stack stack' origins origins' made entries steps moves numbered =
    let are = AreOrigins (IsWithin limit) (take index st) moves in
    subst (are (all_names_at st stack')) steps
    (subst (λ e. are (all_names_at st e) origins) entries (made moves numbered))

-- where a move has a fault after these, it stops there
pub stopped_after : (site : ProofSite) (prefix : List (Move ℕ)) (move : Move ℕ) (fault : ProofFault)
    (passed : ℕ) → passed ≡ length prefix → OnRule fault (BreaksRun site prefix move)
    → StopsAfter site prefix move (stop_after fault passed)
stopped_after site prefix move (faults.Rule rule step) passed count broken = (count, step, broken)
stopped_after site prefix move faults.Memory passed count broken = tt

-- where a machine has stopped so, that many moves passed
pub stopped_at : (site : ProofSite) (moves : List (Move ℕ)) (index : ℕ) (move : Move ℕ)
    (stop : Stop) (rule : ProofRule) (passed : ℕ) → slice_get moves index ≡ Some move
    → StopsAfter site (take index moves) move stop → stop ≡ stops.Rule rule passed
    → BreaksAfter site moves rule passed
stopped_at site moves index move stop rule passed there known is =
    let told = subst (StopsAfter site (take index moves) move) is known in
    let within : index < length moves = slice_get_within moves index move there in
    let same : index ≡ passed =
    sym (told.0 ∙ length-take-le index moves (omega arith)) in
    record {
      move = move;
      there = subst (λ i. slice_get moves i ≡ Some move) same there;
      step = told.1;
      broken = subst (λ i. BreaksRun site (take i moves) move rule told.1) same told.2;
    }
