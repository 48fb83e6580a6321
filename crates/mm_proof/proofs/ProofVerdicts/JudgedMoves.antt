-- The moves of a proof, one after the other: what a judge finds, what is left at the end, and the
-- verdict.
use Rattle.std.proofs.Common.{◌≡◌, ℕ, zero, suc, ◌+◌, ◌<◌, ◌-◌, List, [], ◌∷◌, ◌++◌, length, Result}
use Rattle.std.proofs.Common.{Err, take, drop, slice_get, Some, cond, refl, sym, ap, subst, ◌∙◌}
use Rattle.std.proofs.Common.{arith, Contains, ◌↔◌, inl, inr, IsErrAnd}
use Rattle.std.proofs.lemmas.Result.{err_from_is_err_and}
use Rattle.std.proofs.lemmas.List.{length-append, length-map}
use Rattle.mm_base.proofs.Lists.{all_push, all_at, all_back, zip_left, zip_front, split_at}
use Rattle.mm_base.proofs.Lists.{zip_take, all_weaker, get_from_take, zip_each}
use Rattle.mm_frame.specs.Sentence.{Sentence, IsHypothesis, IsAssertion, IsLabelled}
use Rattle.mm_step.specs.declared.fault.ProofFault.{ProofFault}
use Rattle.mm_step.specs.declared.fault.ProofRule.{ProofRule}
use Rattle.mm_step.specs.Moves.{Move, name, again, mark, is_step, steps_in}
use Rattle.mm_step.specs.Proof.{IsWithin, Passed, FirstAtMove}
use Rattle.mm_proof.specs.Proof.{IsMoveFault, Prove, BreaksEnd}
use Rattle.mm_proof.specs.Proof.{IsMovesFault}
use Rattle.mm_step.specs.Steps.{IsNumberedMove, AreNumberedMoves, IsUsable, IsUsableMove, AreSteps}
use Rattle.mm_step.specs.Mirror.CodeVerify.{AreDeclaredSymbols, AreStackEntries, names_at}
use Rattle.mm_step.specs.Mirror.CodeVerify.{all_names_at, IsSymbol, AreBelow}
use Rattle.mm_step.specs.Mirror.CodeRun.{CarriesOn, StopsAt, HasRun, AreMarked, MayBeMade}
use Rattle.mm_step.specs.Mirror.CodeRun.{AreNamedNumbers, DoRise, EndsWrong}
use Rattle.mm_proof.specs.Mirror.Builders.{AreFirst}
use Rattle.mm_step.specs.Mirror.Sites.{ProofSite}
use Rattle.mm_proof.specs.Mirror.Judges.{HasJudged, BreaksRun}
use Rattle.mm_proof.specs.declared.judge.Judge.{Judge}
use Rattle.mm_proof.specs.Answer.{OnRule}
use Rattle.mm_proof.proofs.ProofVerdicts.PassedMoves.{passed_none, passed_again, passed_mark}
use Rattle.mm_proof.proofs.ProofVerdicts.PassedMoves.{prove_at_end}
use Rattle.mm_proof.proofs.ProofVerdicts.FirstFault.{steps_in-append, end_fault}
use Rattle.std.specs.List.{AllByRecursion}
use Rattle.std.proofs.lemmas.Option.{same_Some}
use Rattle.mm_frame.specs.Rules.{AllMeant}
use Rattle.mm_frame.specs.Numbers.{symbols_of, labelled_sentences, IsNumbered}
use Rattle.mm_frame.specs.FrameIndex.{AreItsSymbols}
use Rattle.mm_frame.specs.Laws.{OneNumber}
use Rattle.mm_frame.proofs.Names.LabelNumbers.{numbered_from_get}
use Rattle.mm_step.specs.declared.fault.ProofFault.TheVariants.{Rule, Memory}
use Rattle.mm_step.specs.Tree.{tree, none}
use Rattle.mm_step.specs.Profiles.{limit_of}
use Rattle.mm_proof.specs.ReadSteps.{ReadSteps}
use Rattle.mm_code.specs.declared.code.Code.{Code}
use Rattle.mm_frame.specs.declared.number.LabelId.{LabelId}
use Rattle.mm_step.specs.Mirror.CodeSteps.{MayBeUsed}
use Rattle.mm_proof.specs.Mirror.CodeSteps.{moves_of}
use Rattle.mm_proof.specs.Verified.{ProvesUsingNumbers, ProvesUsing, OfMoves}
use Rattle.mm_step.proofs.ProofSteps.OneStep.{one_label}
use Rattle.mm_step.proofs.ByNumbers.NumberedSymbols.{named_is, below_is, named_once}
use Rattle.mm_step.proofs.ByNumbers.OneIndex.{one_index}
use Rattle.mm_proof.proofs.ProofNumbers.NumberedLabels.{one_move}
use Rattle.mm_proof.proofs.ProofNumbers.UsedAssertions.{used_numbers}
use Rattle.mm_step.proofs.ProofSteps.Derivations.{zip_once}
use Rattle.mm_step.specs.declared.fault.ProofFault.TheVariants as faults
use Rattle.mm_proof.specs.CheckedPrefix.{Pass}
use Rattle.mm_step.proofs.ByNumbers.NamedEntries.{named_push}

-- ==== the moves of a proof, one after the other

-- ---- moves by numbers and by names

-- moves up to an index, with the one there
pub first_up_to : (moves : List (Move ℕ)) (i : ℕ) (x : Move ℕ) → slice_get moves i ≡ Some x
    → AreFirst (take i moves ++ x ∷ []) moves
first_up_to [] i x there = absurd cc
first_up_to (m ∷ moves) zero x there = cc
first_up_to (m ∷ moves) (suc i) x there = ap (λ l. m ∷ l) (first_up_to moves i x there)

pub same_kind : (st : List Sentence) (x : Move ℕ) (move : Move (List ℕ)) → IsNumberedMove st x move → is_step x ≡ is_step move
same_kind st (name id) move n = sym (ap (λ (m : Move (List ℕ)). is_step m) n.4)
same_kind st (again tag) move n = sym (ap (λ (m : Move (List ℕ)). is_step m) n)
same_kind st mark move n = sym (ap (λ (m : Move (List ℕ)). is_step m) n)

-- numbered moves have as many steps as those by names
pub same_steps : (st : List Sentence) (xs : List (Move ℕ)) (moves : List (Move (List ℕ))) → AreNumberedMoves st xs moves → steps_in xs ≡ steps_in moves
same_steps st [] [] z = refl
same_steps st (x ∷ xs) (m ∷ moves) z =
    steps_in-append (x ∷ []) xs ∙ ap (λ b. 0 + cond b 1 0 + steps_in xs) (same_kind st x m z.0)
    ∙ ap (λ n. steps_in (m ∷ []) + n) (same_steps st xs moves z.1) ∙ sym (steps_in-append (m ∷ []) moves)
same_steps st xs moves z = absurd z

-- ---- one move more

-- no moves, and an empty store
run_none : (limit : ℕ) (st : List Sentence) (index : ℕ) (stack kept : List (List ℕ)) → stack ≡ [] → kept ≡ [] → HasRun limit st index [] stack kept 0
run_none limit st index stack kept empty none_kept = rw (empty, none_kept) (record {
  count = refl;
  passed = λ moves numbered. nothing moves numbered;
  entries = tt;
  kept_entries = tt;
})
  where
    nothing : (moves : List (Move (List ℕ))) → AreNumberedMoves st [] moves → Passed (IsWithin limit) (take index st) moves [] []
    nothing [] z = passed_none (IsWithin limit) (take index st)
    nothing (m ∷ moves) z = absurd z

-- a move that carries on what passed
run_more : (limit : ℕ) (st : List Sentence) (index : ℕ) (prefix : List (Move ℕ)) (x : Move ℕ) (stack kept stack' kept' : List (List ℕ)) (steps steps' : ℕ) → HasRun limit st index prefix stack kept steps
    → ((move : Move (List ℕ)) (moves : List (Move (List ℕ))) → IsNumberedMove st x move
    → Passed (IsWithin limit) (take index st) moves (all_names_at st stack) (all_names_at st kept)
    → Passed (IsWithin limit) (take index st) (moves ++ move ∷ []) (all_names_at st stack') (all_names_at st kept'))
    → AreStackEntries st (take index st) stack' → AreStackEntries st (take index st) kept' → steps' ≡ steps + steps_in (x ∷ [])
    → HasRun limit st index (prefix ++ x ∷ []) stack' kept' steps'
run_more limit st index prefix x stack kept stack' kept' steps steps' run carried entries kept_entries count = record {
  count = count ∙ ap (λ n. n + steps_in (x ∷ [])) run.count ∙ sym (steps_in-append prefix (x ∷ []));
  passed = λ moves numbered.
      let h = zip_front (IsNumberedMove st) prefix x moves numbered in
      subst (λ l. Passed (IsWithin limit) (take index st) l (all_names_at st stack') (all_names_at st kept')) (sym h.2) (carried h.1 h.0 h.4 (run.passed h.0 h.3));
  entries = entries;
  kept_entries = kept_entries;
}

-- a step by a label
pub run_name : (limit : ℕ) (st : List Sentence) (index : ℕ) (prefix : List (Move ℕ)) (id : ℕ) (stack kept stack' : List (List ℕ)) (steps : ℕ) → HasRun limit st index prefix stack kept steps
    → CarriesOn limit st index id stack stack' → AreStackEntries st (take index st) stack' → HasRun limit st index (prefix ++ name id ∷ []) stack' kept (steps + 1)
run_name limit st index prefix id stack kept stack' steps run carries entries =
    run_more limit st index prefix (name id) stack kept stack' kept steps (steps + 1) run
    (λ move moves n passed. rw n.4
    (carries n.1 moves (all_names_at st kept) (n.0, n.1, n.2, n.3, refl) passed))
    entries run.kept_entries refl

pub named_there : (st : List Sentence) (entries : List (List ℕ)) (i : ℕ) (e : List ℕ)
    → slice_get entries i ≡ Some e
    → slice_get (all_names_at st entries) i ≡ Some (names_at st e)
named_there st [] i e there = absurd cc
named_there st (x ∷ entries) zero e there = let same : x ≡ e = cc in ap (λ (l : List ℕ). Some (names_at st l)) same
named_there st (x ∷ entries) (suc i) e there = named_there st entries i e there

-- a step by a tag
pub run_again : (limit : ℕ) (st : List Sentence) (index : ℕ) (prefix : List (Move ℕ)) (tag : ℕ) (stack kept stack' : List (List ℕ)) (steps : ℕ) (e : List ℕ) → HasRun limit st index prefix stack kept steps
    → slice_get kept tag ≡ Some e → stack' ≡ stack ++ e ∷ [] → HasRun limit st index (prefix ++ again tag ∷ []) stack' kept (steps + 1)
run_again limit st index prefix tag stack kept stack' steps e run there is =
    run_more limit st index prefix (again tag) stack kept stack' kept steps (steps + 1) run
    (λ move moves n passed. rw (n, is, named_push st stack e)
    (passed_again (IsWithin limit) (take index st) moves (all_names_at st stack) (all_names_at st kept) tag (names_at st e) passed (named_there st kept tag e there)))
    (rw is (all_push (AreDeclaredSymbols st (take index st)) stack e run.entries (all_at (AreDeclaredSymbols st (take index st)) kept tag e run.kept_entries there)))
    run.kept_entries refl

-- a mark
pub run_mark : (limit : ℕ) (st : List Sentence) (index : ℕ) (prefix : List (Move ℕ)) (stack kept stack' kept' : List (List ℕ)) (steps : ℕ) (rest : List (List ℕ)) (e : List ℕ) → HasRun limit st index prefix stack kept steps
    → stack ≡ rest ++ e ∷ [] → stack' ≡ stack → kept' ≡ kept ++ e ∷ [] → HasRun limit st index (prefix ++ mark ∷ []) stack' kept' steps
run_mark limit st index prefix stack kept stack' kept' steps rest e run split same is =
    run_more limit st index prefix mark stack kept stack' kept' steps steps run
    (λ move moves n passed. rw (n, same, is, split, named_push st rest e, named_push st kept e)
    (passed_mark (IsWithin limit) (take index st) moves (all_names_at st rest) (all_names_at st kept) (names_at st e)
    (subst (λ l. Passed (IsWithin limit) (take index st) moves l (all_names_at st kept)) (ap (all_names_at st) split ∙ named_push st rest e) passed)))
    (rw same run.entries)
    (rw is (all_push (AreDeclaredSymbols st (take index st)) kept e run.kept_entries
    (all_back (AreDeclaredSymbols st (take index st)) rest (e ∷ []) (rw split at run.entries)).0))
    (omega arith)

-- ---- a move that breaks a rule

pub run_fault : (limit : ℕ) (st : List Sentence) (index : ℕ) (xs : List (Move ℕ)) (i : ℕ) (x : Move ℕ) (stack kept : List (List ℕ)) (steps : ℕ) (rule : ProofRule) (at : ℕ)
    → slice_get xs i ≡ Some x → HasRun limit st index (take i xs) stack kept steps
    → ((move : Move (List ℕ)) → IsNumberedMove st x move → FirstAtMove (IsWithin limit) rule (take index st) (all_names_at st stack) (all_names_at st kept) move)
    → at ≡ steps + 1 → (names : List (Move (List ℕ))) → AreNumberedMoves st xs names → IsMoveFault (IsWithin limit) (take index st) names rule at
run_fault limit st index xs i x stack kept steps rule at there run first number names numbered =
    let here = zip_left (IsNumberedMove st) xs names i x numbered there in
    let prefix = zip_take (IsNumberedMove st) xs names i numbered in
    record {
      earlier = take i names;
      move = here.0;
      later = drop (suc i) names;
      parts = split_at names i here.0 here.1;
      number = number ∙ ap (λ n. n + 1) (run.count ∙ same_steps st (take i xs) (take i names) prefix);
      stack = all_names_at st stack;
      kept = all_names_at st kept;
      passed = run.passed (take i names) prefix;
      fault = first here.0 here.2;
    }

-- a step by a label
pub stops_first : (limit : ℕ) (st : List Sentence) (index id : ℕ) (stack kept : List (List ℕ)) (rule : ProofRule) → StopsAt limit st index id stack rule
    → (move : Move (List ℕ)) → IsNumberedMove st (name id) move → FirstAtMove (IsWithin limit) rule (take index st) (all_names_at st stack) (all_names_at st kept) move
stops_first limit st index id stack kept rule stops move n =
    rw n.4 (stops n.1 (all_names_at st kept) (n.0, n.1, n.2, n.3, refl))

-- a fault that is handed on is the one of the call
pub refused : {X F : Type 0} (r : Result X F) (e f : F) → IsErrAnd r (λ x. x ≡ e) → r ≡ Err f
    → e ≡ f
refused {X} {F} r e f from is =
    let p = err_from_is_err_and r from in
    let same : ◌≡◌ {A = Result X F} (Err p.0) (Err f) = sym p.1 ∙ is in sym p.2 ∙ cc

-- ---- a judge

module _ {S : Type 0} (stack kept : S → List (List ℕ)) (first : Judge S) where
  -- before any move
  pub judged_none : stack first.store.now ≡ [] → kept first.store.now ≡ [] → first.steps ≡ 0
      → first.kept ≡ 0 → length first.marks.now.items ≡ length first.table.now.ids
      → AreMarked first.table.now.ids [] first.marks.now.items → HasJudged stack kept first first []
  judged_none empty none_kept steps tags long marked = record {
    same_store = refl;
    same_marks = refl;
    same_table = refl;
    run = let site = first.table.now.site in
        rw steps (run_none site.limit site.statements site.index _ _ empty none_kept);
    tags = tags ∙ sym (ap length none_kept);
    long = long;
    marked = marked;
    all = omega (arith, steps, tags);
  }

  -- one move more
  pub judged_more : (old new : Judge S) (prefix : List (Move ℕ)) (x : Move ℕ)
      → HasJudged stack kept first old prefix → new.store.ghost_name ≡ old.store.ghost_name
      → new.marks.ghost_name ≡ old.marks.ghost_name → new.table ≡ old.table
      → (let site = first.table.now.site in HasRun site.limit site.statements site.index (prefix ++ x ∷ []) (stack new.store.now) (kept new.store.now) new.steps)
      → new.kept ≡ length (kept new.store.now)
      → length new.marks.now.items ≡ length first.table.now.ids
      → AreMarked first.table.now.ids (prefix ++ x ∷ []) new.marks.now.items
      → new.steps + new.kept ≡ old.steps + old.kept + 1
      → HasJudged stack kept first new (prefix ++ x ∷ [])
  judged_more old new prefix x was store marks table run tags long marked all = record {
    same_store = store ∙ was.same_store;
    same_marks = marks ∙ was.same_marks;
    same_table = table ∙ was.same_table;
    run = run;
    tags = tags;
    long = long;
    marked = marked;
    all = omega (arith, was.all, all, length-append prefix (x ∷ []));
  }

-- where a move breaks a rule after those that ran, that is the first fault of the moves
pub stopped_fault : (site : ProofSite) (xs : List (Move ℕ)) (index : ℕ) (move : Move ℕ)
    (fault : ProofFault) → slice_get xs index ≡ Some move
    → OnRule fault (BreaksRun site (take index xs) move)
    → (rule : ProofRule) (at : ℕ) → fault ≡ faults.Rule rule at
    → (names : List (Move (List ℕ))) → AreNumberedMoves site.statements xs names
    → IsMoveFault (IsWithin site.limit) (take site.index site.statements) names rule at
stopped_fault site xs index move fault there known rule at is names numbered =
    let b = subst (λ e. OnRule e (BreaksRun site (take index xs) move)) is known in
    run_fault site.limit site.statements site.index xs index move b.stack b.kept b.steps rule at
    there b.run b.first b.number names numbered

-- ---- lists

-- the last of a list, and what stands before it
pub last_split : {X : Type 0} (xs : List X) → 0 < length xs → (rest : List X) × (e : X) × (xs ≡ rest ++ e ∷ []) × (slice_get xs (length xs - 1) ≡ Some e)
last_split [] less = absurd (omega arith)
last_split (x ∷ []) less = ([], x, refl, refl)
last_split (x ∷ y ∷ xs) less =
    let h = last_split (y ∷ xs) (omega arith) in
    let there : slice_get (y ∷ xs) (length xs) ≡ Some h.1 = subst (λ k. slice_get (y ∷ xs) k ≡ Some h.1) (omega arith) h.3 in
    (x ∷ h.0, h.1, ap (λ l. x ∷ l) h.2, subst (λ k. slice_get (x ∷ y ∷ xs) k ≡ Some h.1) (let e : suc (length xs) ≡ length (x ∷ y ∷ xs) - 1 = omega arith in e) there)

-- ==== what the moves of a proof leave at the end, and the verdict

-- ---- the moves of the statement with a number

-- each of the moves may be made at the index
pub usable_names : (st : List Sentence) (id : ℕ) (xs : List (Move ℕ)) (index : ℕ) (s : Sentence) (names : List (Move (List ℕ))) → AreSteps st id xs → IsNumbered st id index s
    → AreNumberedMoves st xs names → AllByRecursion (IsUsableMove (take index st)) names
usable_names st id xs index s names a n numbered =
    let here : a.index ≡ index = one_index st id a.index index a.s s a.proof.numbered n in
    let same : a.moves ≡ names = zip_once (IsNumberedMove st) (IsNumberedMove st) xs a.moves names (one_move st) a.numbered numbered in
    subst (λ p. AllByRecursion (IsUsableMove (take p st)) names) here (subst (λ l. AllByRecursion (IsUsableMove (take a.index st)) l) same a.usable)

module _ (st : List Sentence) (index id : ℕ) (s : Sentence) (label : List ℕ) where
  -- the statement with a number and a label is the one that has the label before the index
  labelled_there : (at : ℕ) (t : Sentence) → AllMeant st
      → slice_get (labelled_sentences st) id ≡ Some s → IsLabelled label s
      → slice_get (take index st) at ≡ Some t → IsLabelled label t
      → (t ≡ s) × IsNumbered st id at s × (at < index)
  labelled_there at t all there is found named =
      let p = numbered_from_get st id s there in
      let f = get_from_take st index at t found in
      let one : at ≡ p.0 = one_label st at p.0 t s label all f.1 p.1.there named is in
      let same = same_Some t s (sym f.1 ∙ ap (slice_get st) one ∙ p.1.there) in
      (same, subst (λ k. IsNumbered st id k s) (sym one) p.1, f.0)

  may_be_used : AllMeant st → slice_get (labelled_sentences st) id ≡ Some s → IsLabelled label s
      → IsUsable (take index st) label → MayBeUsed st index label id
  may_be_used all there is (inl h) =
      let u = labelled_there h.0 h.1 all there is h.2 h.4.0 in
      let kind = subst (λ (x : Sentence). IsHypothesis x.kind) u.0 h.4.1 in
      record { at = h.0; s = s; numbered = u.1; named = is; before = u.2; kind = inl (kind, h.3) }
  may_be_used all there is (inr b) =
      let u = labelled_there b.0 b.1 all there is b.2 b.3.0 in
      let kind = subst (λ (x : Sentence). IsAssertion x.kind) u.0 b.3.1 in
      record { at = b.0; s = s; numbered = u.1; named = is; before = u.2; kind = inr kind }

move_made : (st : List Sentence) (index : ℕ) (x : Move ℕ) (move : Move (List ℕ)) → AllMeant st → IsNumberedMove st x move → IsUsableMove (take index st) move → MayBeMade st index x
move_made st index (name id) move all n u =
    (n.1, may_be_used st index id n.0 n.1 all n.2 n.3 (subst (IsUsableMove (take index st)) n.4 u))
move_made st index x move all n u = tt

pub steps_made : (st : List Sentence) (id : ℕ) (xs : List (Move ℕ)) (index : ℕ) (s : Sentence) → AllMeant st → AreSteps st id xs → IsNumbered st id index s
    → AllByRecursion (MayBeMade st index) xs
steps_made st id xs index s all a n =
    zip_each (IsNumberedMove st) (MayBeMade st index) (IsUsableMove (take index st))
    (λ x move. move_made st index x move all) xs a.moves a.numbered
    (usable_names st id xs index s a.moves a n a.numbered)

-- ---- the verdict

pub its_symbols : (st : List Sentence) (own index : ℕ) (s : Sentence) (numbers : List ℕ) → own ≡ index → slice_get st index ≡ Some s
    → AreItsSymbols (record { statements = st; index = own }) numbers → (names_at st numbers ≡ s.symbols) × AreBelow st numbers
its_symbols st own index s numbers here there i =
    let same : i.assertion ≡ s = same_Some i.assertion s (sym i.there ∙ ap (slice_get st) here ∙ there) in
    (named_is st numbers i.assertion.symbols i.numbered ∙ ap (λ (x : Sentence). x.symbols) same, below_is st numbers i.assertion.symbols i.numbered)

-- the moves have run, and left the statement's expression
pub proved_end : (limit : ℕ) (st : List Sentence) (id own : ℕ) (t : Sentence) (xs : List (Move ℕ)) (stack kept : List (List ℕ)) (count : ℕ) (numbers : List ℕ)
    → IsNumbered st id own t → AreItsSymbols (record { statements = st; index = own }) numbers → HasRun limit st own xs stack kept count → stack ≡ numbers ∷ []
    → OfMoves st id xs (λ index s names. Prove (IsWithin limit) (take index st) s names)
proved_end limit st id own t xs stack kept count numbers n symbols run is index s names proof numbered =
    let here : own ≡ index = one_index st id own index t s n proof.numbered in
    let moved = subst (λ p. HasRun limit st p xs stack kept count) here run in
    let expression = (its_symbols st own index s numbers here proof.numbered.there symbols).0 in
    let passed = rw (is, expression) at (moved.passed names numbered) in
    prove_at_end (IsWithin limit) (take index st) s names (all_names_at st kept) passed

-- what is proved, with the assertions that the moves name
pub proved_with : (limit : ℕ) (st : List Sentence) (id : ℕ) (xs : List (Move ℕ)) (used : List ℕ) → AllMeant st → AreSteps st id xs → AreNamedNumbers st xs used
    → OfMoves st id xs (λ index s names. Prove (IsWithin limit) (take index st) s names)
    → OfMoves st id xs (λ index s names. ProvesUsingNumbers limit st index s names used)
proved_with limit st id xs used all a named_so proved index s names proof numbered =
    let p = proved index s names proof numbered in
    let uses = used_numbers st index xs names (tree p.label p.below none) p.kept all numbered (usable_names st id xs index s names a proof.numbered numbered) p.made in
    (p, λ k. ((λ h. (uses k).1 ((named_so k).0 h)), λ h. (named_so k).1 ((uses k).0 h)))

-- what they left is something else, by names too
pub end_broken : (st : List Sentence) (index : ℕ) (s : Sentence) (stack : List (List ℕ))
    (numbers : List ℕ) (rule : ProofRule) → OneNumber → names_at st numbers ≡ s.symbols
    → AreBelow st numbers → AreStackEntries st (take index st) stack → EndsWrong rule stack numbers
    → BreaksEnd rule (all_names_at st stack) s.symbols
end_broken st index s stack numbers rule one symbols_are below entries (inl w) =
    rw w.0 (λ e. w.1 (sym (length-map stack (names_at st)) ∙ e))
end_broken st index s stack numbers rule one symbols_are below entries (inr w) =
    let entry = (subst (AreStackEntries st (take index st)) w.2 entries).0 in
    let entry_below = all_weaker (IsSymbol st (take index st)) (λ k. k < length (symbols_of st))
    (λ k i. i.below) w.1 entry in
    rw w.0 (
      names_at st w.1,
      ap (all_names_at st) w.2,
      λ same. w.3 (named_once one st w.1 numbers entry_below below (same ∙ sym symbols_are)),
    )

-- they have run, and left something else
pub wrong_end : (limit : ℕ) (st : List Sentence) (id own : ℕ) (t : Sentence) (xs : List (Move ℕ)) (stack kept : List (List ℕ)) (count : ℕ) (numbers : List ℕ) (rule : ProofRule) (at : ℕ) → OneNumber
    → IsNumbered st id own t → AreItsSymbols (record { statements = st; index = own }) numbers → HasRun limit st own xs stack kept count → (at ≡ count + 1) × EndsWrong rule stack numbers
    → OfMoves st id xs (λ index s names. IsMovesFault (IsWithin limit) (take index st) s names rule at)
wrong_end limit st id own t xs stack kept count numbers rule at one n symbols run wrong index s names proof numbered =
    let here : own ≡ index = one_index st id own index t s n proof.numbered in
    let moved = subst (λ p. HasRun limit st p xs stack kept count) here run in
    let expression = its_symbols st own index s numbers here proof.numbered.there symbols in
    end_fault (IsWithin limit) (take index st) s names (all_names_at st stack) (all_names_at st kept) rule at (moved.passed names numbered)
    (end_broken st index s stack numbers rule one expression.0 expression.1 moved.entries wrong.1)
    (wrong.0 ∙ ap (λ k. k + 1) (moved.count ∙ same_steps st xs names numbered))

-- they pass
pub has_passed : (limit : ℕ) (st : List Sentence) (id own : ℕ) (t : Sentence) (xs : List (Move ℕ))
    (stack kept : List (List ℕ)) (count : ℕ) → IsNumbered st id own t
    → HasRun limit st own xs stack kept count
    → OfMoves st id xs (λ index s names. Pass (IsWithin limit) (take index st) names)
has_passed limit st id own t xs stack kept count n run index s names proof numbered =
    let here : own ≡ index = one_index st id own index t s n proof.numbered in
    subst (λ p. Pass (IsWithin limit) (take p st) names) here
    (all_names_at st stack, all_names_at st kept, run.passed names numbered)

-- a move breaks a rule
module _ (limit : ℕ) (st : List Sentence) (id own : ℕ) (t : Sentence) (xs : List (Move ℕ))
    (rule : ProofRule) (at : ℕ) (n : IsNumbered st id own t)
    (fault : (names : List (Move (List ℕ))) → AreNumberedMoves st xs names
    → IsMoveFault (IsWithin limit) (take own st) names rule at) where
  pub has_stopped :
      OfMoves st id xs (λ index s names. IsMoveFault (IsWithin limit) (take index st) names rule at)
  has_stopped index s names proof numbered =
      let here : own ≡ index = one_index st id own index t s n proof.numbered in
      subst (λ p. IsMoveFault (IsWithin limit) (take p st) names rule at) here
      (fault names numbered)

  pub wrong_move : OfMoves st id xs
      (λ index s names. IsMovesFault (IsWithin limit) (take index st) s names rule at)
  wrong_move index s names proof numbered = inl (has_stopped index s names proof numbered)

pub on_rule_from : (e : ProofFault) (P : ProofRule → ℕ → Type 0) → ((rule : ProofRule) (step : ℕ) → e ≡ Rule rule step → P rule step) → OnRule e P
on_rule_from (Rule rule step) P f = f rule step refl
on_rule_from Memory P f = tt

-- ---- one entry

pub only_entry : {X : Type 0} (xs : List X) (x : X) → length xs ≡ 1 → slice_get xs 0 ≡ Some x → xs ≡ x ∷ []
only_entry (y ∷ []) x l e = ap (λ z. z ∷ []) (same_Some y x e)
only_entry xs x l e = absurd (omega arith)

pub same_fault : {X : Type 0} (a b : ProofRule) (m n : ℕ) → ◌≡◌ {A = Result X ProofFault} (Err (Rule a m)) (Err (Rule b n)) → (b ≡ a) × (n ≡ m)
same_fault {X} a b m n e =
    let same : Rule a m ≡ Rule b n = cc in (cc, cc)

-- the moves and the limit of steps are those of what is seen of them
pub seen_moves : {a b : ReadSteps} → a ≡ b → b.moves ≡ a.moves
seen_moves same = sym (ap (λ (v : ReadSteps). v.moves) same)

pub seen_limit : {a b : ReadSteps} → a ≡ b → limit_of a.profile ≡ limit_of b.profile
seen_limit same = ap (λ (v : ReadSteps). limit_of v.profile) same

-- the moves of the lists are those of the proof
pub held_moves : (xs : List (Move ℕ)) (entries held : List LabelId) (codes said : List Code) → entries ≡ held → codes ≡ said → xs ≡ moves_of held said → xs ≡ moves_of entries codes
held_moves xs entries held codes said same_entries same_codes view = rw (same_entries, same_codes) view

-- what is proved, with the assertions of the tree each once, in order
pub proved_in_order : (limit : ℕ) (st : List Sentence) (id : ℕ) (xs : List (Move ℕ)) (ids used : List ℕ) → DoRise used → ((k : ℕ) → Contains used k ↔ Contains ids k)
    → OfMoves st id xs (λ index s names. ProvesUsingNumbers limit st index s names ids) → OfMoves st id xs (λ index s names. ProvesUsing limit st index s names used)
proved_in_order limit st id xs ids used rising same proved index s names proof numbered =
    let p = proved index s names proof numbered in
    (p.0, record { rising = rising; each = λ k. ((λ h. (p.1 k).0 ((same k).0 h)), λ h. (same k).1 ((p.1 k).1 h)) })
