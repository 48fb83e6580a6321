-- The moves of a proof, one after the other, where a `$d` for each of the missing pairs is put
-- behind the statements before it: what the seeker of `lacking` has found, and what is told by names.
use Rattle.std.proofs.Common.{◌≡◌, ℕ, ◌+◌, ◌<◌, ◌≤◌, List, [], ◌∷◌, ◌++◌, length, map, take}
use Rattle.std.proofs.Common.{slice_get}
use Rattle.std.proofs.Common.{Contains, Some, Bool, true, false, not, MatchBool, inl, inr, ⊎_elim}
use Rattle.std.proofs.Common.{refl}
use Rattle.std.proofs.Common.{sym, ap, subst, ◌∙◌, arith, append_assoc, append-nil}
use Rattle.std.proofs.lemmas.Bool.{false≢true}
use Rattle.std.proofs.lemmas.List.{length-append, length-map}
use Rattle.mm_base.proofs.Lists.{all_push, all_at, all_back, zip_front}
use Rattle.mm_frame.specs.Sentence.{Sentence}
use Rattle.mm_frame.specs.Rules.{AllMeant}
use Rattle.mm_frame.proofs.Rules.ObeyedRules.{allmeant_prefix}
use Rattle.mm_frame.proofs.Frames.FrameLaws.{distinct_other}
use Rattle.mm_frame.specs.Numbers.{AreNumbers, IsNumbered, IsNumberOf}
use Rattle.mm_frame.specs.Laws.{OneNumber}
use Rattle.mm_frame.specs.declared.number.Sym.{Sym}
use Rattle.mm_step.specs.declared.fault.ProofRule.TheVariants.{P6, P7}
use Rattle.mm_step.specs.Substitution.{Symbol, Expression}
use Rattle.mm_step.specs.Moves.{Move, name, again, mark}
use Rattle.mm_step.specs.Proof.{IsWithin, Passed}
use Rattle.mm_step.specs.Steps.{IsNumberedMove, AreNumberedMoves}
use Rattle.mm_proof.specs.Verified.{OfMoves}
use Rattle.mm_distinct.specs.Lacking.{with_pairs, StopsElsewhere, PassElsewhere, AskDisjoint, AreLacking}
use Rattle.mm_step.specs.Mirror.CodeVerify.{name_at, names_at, all_names_at, AreDeclaredSymbols}
use Rattle.mm_step.specs.Mirror.CodeVerify.{AreStackEntries}
use Rattle.mm_proof.specs.Asked.{IsUnstated}
use Rattle.mm_step.specs.Mirror.CodeAsked.{number_pairs, ArePutInOrder}
use Rattle.mm_step.specs.Mirror.Sites.{ProofSite}
use Rattle.mm_distinct.specs.Mirror.CodeLacking.{Cover, StepsWith, RunsWith}
use Rattle.mm_distinct.specs.Mirror.CodeLacking.{StoppedWith, AreFound, HasSought, IsLackingPair}
use Rattle.mm_distinct.specs.Mirror.CodeLacking.{AreLackingNumbers, AreLackingInOrder}
use Rattle.mm_distinct.specs.declared.lacking.Seeker.{Seeker}
use Rattle.mm_proof.proofs.ProofVerdicts.PassedMoves.{passed_none, passed_again, passed_mark}
use Rattle.mm_proof.proofs.ProofVerdicts.FirstFault.{only_P6, only_P7}
use Rattle.mm_step.proofs.ByNumbers.OneIndex.{one_index}
use Rattle.mm_distinct.proofs.AskedByNumbers.ListedVariables.{names_of, name_pairs, pairs_named}
use Rattle.mm_step.proofs.ByNumbers.VariablesOfLists.{mapped_contains, contains_mapped}
use Rattle.mm_distinct.proofs.AskedByNumbers.ListedVariables.{variable_below}
use Rattle.mm_distinct.proofs.AskedByNumbers.NamedVariables.{missing_other, found_put, unstated_named}
use Rattle.mm_distinct.proofs.AskedByNumbers.NamedVariables.{pairs_in_order}
use Rattle.mm_step.proofs.ByNumbers.NamedEntries.{named_push}
use Rattle.mm_proof.proofs.ProofVerdicts.JudgedMoves.{named_there}
use Rattle.mm_distinct.proofs.LackingPairs.WithPairs.{some_added, breaks_fall}
use Rattle.mm_distinct.proofs.LackingPairs.PastedPairs.{lacking_meant}

-- ==== one move more behind the moves

module _ (Fits : Expression → Type 0) (before : List Sentence) (moves : List (Move (List ℕ)))
  where
    -- what is asked of two is asked of them in the other order
    pub asked_other : (u v : Symbol) → AskDisjoint Fits before moves u v
        → AskDisjoint Fits before moves v u
    asked_other u v a =
        let (m, x, y, e, f, pair, at_x, at_y, (in_e, in_f)) = a.asked in
        record {
          earlier = a.earlier;
          label = a.label;
          later = a.later;
          parts = a.parts;
          stack = a.stack;
          kept = a.kept;
          passed = a.passed;
          unbroken = a.unbroken;
          asked = (
            m,
            y,
            x,
            f,
            e,
            (distinct_other (take m.index before) x y pair.0, pair.2, pair.1),
            at_y,
            at_x,
            (in_f, in_e),
          );
        }

module _ (Fits : Expression → Type 0) (before : List Sentence) (moves : List (Move (List ℕ)))
    (x : Move (List ℕ)) where
  asked_longer : (u v : Symbol) → AskDisjoint Fits before moves u v
      → AskDisjoint Fits before (moves ++ x ∷ []) u v
  asked_longer u v a = record {
    earlier = a.earlier;
    label = a.label;
    later = a.later ++ x ∷ [];
    parts = ap (λ l. l ++ x ∷ []) a.parts ∙ append_assoc a.earlier (name a.label ∷ a.later)
        (x ∷ []);
    stack = a.stack;
    kept = a.kept;
    passed = a.passed;
    unbroken = a.unbroken;
    asked = a.asked;
  }

  still_stops : (stack kept : List Expression) (left : List (Move (List ℕ))) → 0 < length left
      → StopsElsewhere Fits before stack kept left → StopsElsewhere Fits before stack kept
      (left ++ x ∷ [])
  still_stops stack kept [] some stops = absurd (omega arith)
  still_stops stack kept (m ∷ left) some stops = stops

  stopped_longer : (p : PassElsewhere Fits before moves) → 0 < length p.left
      → (q : PassElsewhere Fits before (moves ++ x ∷ [])) × (0 < length q.left)
  stopped_longer p some = (
    record {
      earlier = p.earlier;
      left = p.left ++ x ∷ [];
      parts = ap (λ l. l ++ x ∷ []) p.parts ∙ append_assoc p.earlier p.left (x ∷ []);
      stack = p.stack;
      kept = p.kept;
      passed = p.passed;
      stops = still_stops p.stack p.kept p.left some p.stops;
    },
    omega (arith, some, length-append p.left (x ∷ [])),
  )

module _ (site : ProofSite) (prefix : List (Move ℕ)) where
  -- no moves
  runs_none : (lacking : List (ℕ × ℕ)) (stack kept : List (List ℕ)) → stack ≡ [] → kept ≡ []
      → prefix ≡ []
      → RunsWith site lacking prefix stack kept
  runs_none lacking stack kept empty none_kept none = rw (empty, none_kept, none) (record {
    passed = λ pairs cover moves numbered. nothing pairs moves numbered;
    entries = tt;
    kept_entries = tt;
  })
    where
      nothing : (pairs : List (Symbol × Symbol)) (moves : List (Move (List ℕ)))
          → AreNumberedMoves site.statements [] moves
          → Passed (IsWithin site.limit) (with_pairs (take site.index site.statements) pairs) moves
          [] []
      nothing pairs [] z =
          passed_none (IsWithin site.limit) (with_pairs (take site.index site.statements) pairs)
      nothing pairs (m ∷ moves) z = absurd z

  module _ (x : Move ℕ) (lacking : List (ℕ × ℕ)) where
    -- nothing was found
    found_longer : AreFound site lacking prefix → AreFound site lacking (prefix ++ x ∷ [])
    found_longer found = record {
      variables = found.variables;
      asked = λ p has pairs cover moves numbered.
          let h = zip_front (IsNumberedMove site.statements) prefix x moves numbered in
          let before : List Sentence = with_pairs (take site.index site.statements) pairs in
          subst (λ l. AskDisjoint (IsWithin site.limit) before l (name_at site.statements p.0)
          (name_at site.statements p.1)) (sym h.2)
          (asked_longer (IsWithin site.limit) before h.0 h.1 _ _ (found.asked p has pairs cover h.0
          h.3));
    }

    -- the moves stopped before
    ended_longer : StoppedWith site lacking prefix → StoppedWith site lacking (prefix ++ x ∷ [])
    ended_longer ended pairs cover moves numbered =
        let h = zip_front (IsNumberedMove site.statements) prefix x moves numbered in
        let before : List Sentence = with_pairs (take site.index site.statements) pairs in
        let was = ended pairs cover h.0 h.3 in
        subst (λ l. (p : PassElsewhere (IsWithin site.limit) before l) × (0 < length p.left))
        (sym h.2)
        (stopped_longer (IsWithin site.limit) before h.0 h.1 was.0 was.1)

    module _ (lacking' : List (ℕ × ℕ)) (longer : (p : ℕ × ℕ) → Contains lacking p
        → Contains lacking' p)
        (stack kept : List (List ℕ)) (run : RunsWith site lacking prefix stack kept) where
      -- the move carries on what passed
      runs_more : (stack' kept' : List (List ℕ))
          → ((pairs : List (Symbol × Symbol)) → Cover site.statements lacking' pairs
          → (move : Move (List ℕ)) (moves : List (Move (List ℕ)))
          → IsNumberedMove site.statements x move
          → Passed (IsWithin site.limit) (with_pairs (take site.index site.statements) pairs) moves
          (all_names_at site.statements stack) (all_names_at site.statements kept)
          → Passed (IsWithin site.limit) (with_pairs (take site.index site.statements) pairs)
          (moves ++ move ∷ []) (all_names_at site.statements stack')
          (all_names_at site.statements kept'))
          → AreStackEntries site.statements (take site.index site.statements) stack'
          → AreStackEntries site.statements (take site.index site.statements) kept'
          → RunsWith site lacking' (prefix ++ x ∷ []) stack' kept'
      runs_more stack' kept' carried entries kept_entries = record {
        passed = λ pairs cover moves numbered.
            let h = zip_front (IsNumberedMove site.statements) prefix x moves numbered in
            subst (λ l. Passed (IsWithin site.limit) (with_pairs (take site.index site.statements)
            pairs) l (all_names_at site.statements stack') (all_names_at site.statements kept'))
            (sym h.2)
            (carried pairs cover h.1 h.0 h.4 (run.passed pairs (λ p c. cover p (longer p c)) h.0
            h.3));
        entries = entries;
        kept_entries = kept_entries;
      }

      -- the move breaks another rule
      ends_now :
          ((pairs : List (Symbol × Symbol)) → Cover site.statements lacking' pairs
          → (move : Move (List ℕ)) → IsNumberedMove site.statements x move
          → StopsElsewhere (IsWithin site.limit) (with_pairs (take site.index site.statements)
          pairs) (all_names_at site.statements stack) (all_names_at site.statements kept)
          (move ∷ []))
          → StoppedWith site lacking' (prefix ++ x ∷ [])
      ends_now stops pairs cover moves numbered =
          let h = zip_front (IsNumberedMove site.statements) prefix x moves numbered in (
            record {
              earlier = h.0;
              left = h.1 ∷ [];
              parts = h.2;
              stack = all_names_at site.statements stack;
              kept = all_names_at site.statements kept;
              passed = run.passed pairs (λ p c. cover p (longer p c)) h.0 h.3;
              stops = stops pairs cover h.1 h.4;
            },
            omega arith,
          )

  -- ---- a step by a label

  module _ (id : ℕ) (lacking lacking' : List (ℕ × ℕ)) (stack kept stack' : List (List ℕ))
      (made : Bool)
      (run : RunsWith site lacking prefix stack kept)
      (does : StepsWith site.limit site.statements site.index id lacking lacking' stack stack' made)
    where
      found_name : AreFound site lacking prefix → AreFound site lacking' (prefix ++ name id ∷ [])
      found_name found = record {
        variables = λ p has. ⊎_elim (found.variables p) (λ n. n.0) (does.asked p has);
        asked = λ p has pairs cover moves numbered.
            let st = site.statements in
            let before : List Sentence = take site.index st in
            let cover' : Cover st lacking pairs = λ q c. cover q (does.kept q c) in
            let h = zip_front (IsNumberedMove st) prefix (name id) moves numbered in
            let n = h.4 in
            elim (does.asked p has) [
              | inl old ↦
                  subst (λ l. AskDisjoint (IsWithin site.limit) (with_pairs before pairs) l
                  (name_at st p.0) (name_at st p.1)) (sym h.2)
                  (asked_longer (IsWithin site.limit) (with_pairs before pairs) h.0 h.1 _ _
                  (found.asked p old pairs cover' h.0 h.3))
              | inr (lacks, asks) ↦ record {
                earlier = h.0;
                label = n.1;
                later = [];
                parts = h.2 ∙ ap (λ m. h.0 ++ m ∷ []) n.4;
                stack = all_names_at st stack;
                kept = all_names_at st kept;
                passed = run.passed pairs cover' h.0 h.3;
                unbroken = λ other less b. (asks n.1 (n.0, n.1, n.2, n.3, refl)).unbroken other less
                    (breaks_fall before pairs (all_names_at st stack) n.1 (IsWithin site.limit) other
                    b);
                asked = some_added before pairs (all_names_at st stack) n.1 _ _ (λ e f so. so)
                    (asks n.1 (n.0, n.1, n.2, n.3, refl)).asked;
              }
            ];
      }

      runs_name : made ≡ true → RunsWith site lacking' (prefix ++ name id ∷ []) stack' kept
      runs_name all =
          let carries = rw all at does.outcome in
          runs_more (name id) lacking lacking' does.kept stack kept run stack' kept
          (λ pairs cover move moves n passed. rw n.4
          (carries pairs cover n.1 moves (all_names_at site.statements kept)
          (n.0, n.1, n.2, n.3, refl) passed))
          does.entries run.kept_entries

      ends_name : made ≡ false → StoppedWith site lacking' (prefix ++ name id ∷ [])
      ends_name none =
          let stops = rw none at does.outcome in
          ends_now (name id) lacking lacking' does.kept stack kept run
          (λ pairs cover move n. rw n.4
          (stops pairs cover n.1 (all_names_at site.statements kept) (n.0, n.1, n.2, n.3, refl)))

  -- ---- a step by a tag, and a mark

  module _ (lacking : List (ℕ × ℕ)) (stack kept : List (List ℕ))
      (run : RunsWith site lacking prefix stack kept) where
    runs_again : (tag : ℕ) (e : List ℕ) (stack' : List (List ℕ)) → slice_get kept tag ≡ Some e
        → stack' ≡ stack ++ e ∷ [] → RunsWith site lacking (prefix ++ again tag ∷ []) stack' kept
    runs_again tag e stack' there is =
        let st = site.statements in
        let before : List Sentence = take site.index st in
        runs_more (again tag) lacking lacking (λ p c. c) stack kept run stack' kept
        (λ pairs cover move moves n passed. rw (n, is, named_push st stack e)
        (passed_again (IsWithin site.limit) (with_pairs before pairs) moves (all_names_at st stack)
        (all_names_at st kept) tag (names_at st e) passed
        (named_there st kept tag e there)))
        (rw is (all_push (AreDeclaredSymbols st before) stack e run.entries
        (all_at (AreDeclaredSymbols st before) kept tag e run.kept_entries there)))
        run.kept_entries

    ends_again : (tag : ℕ) → length kept ≤ tag → StoppedWith site lacking (prefix ++ again tag ∷ [])
    ends_again tag over =
        let st = site.statements in
        let size = length-map kept (names_at st) in
        ends_now (again tag) lacking lacking (λ p c. c) stack kept run
        (λ pairs cover move n. rw n (
          P6,
          λ e. absurd cc,
          record {
            broken = (refl, omega (arith, over, size));
            first = only_P6 (IsWithin site.limit) (with_pairs (take site.index st) pairs)
                (all_names_at st stack) (all_names_at st kept) tag;
          },
        ))

    runs_mark : (rest : List (List ℕ)) (e : List ℕ) (stack' kept' : List (List ℕ))
        → stack ≡ rest ++ e ∷ [] → stack' ≡ stack
        → kept' ≡ kept ++ e ∷ [] → RunsWith site lacking (prefix ++ mark ∷ []) stack' kept'
    runs_mark rest e stack' kept' split same is =
        let st = site.statements in
        let before : List Sentence = take site.index st in
        runs_more mark lacking lacking (λ p c. c) stack kept run stack' kept'
        (λ pairs cover move moves n passed. rw (
          n,
          same,
          is,
          split,
          named_push st rest e,
          named_push
              st kept e,
        )
        (passed_mark (IsWithin site.limit) (with_pairs before pairs) moves (all_names_at st rest)
        (all_names_at st kept) (names_at st e)
        (subst (λ l. Passed (IsWithin site.limit) (with_pairs before pairs) moves l
        (all_names_at st kept)) (ap (all_names_at st) split ∙ named_push st rest e) passed)))
        (rw same run.entries)
        (rw is (all_push (AreDeclaredSymbols st before) kept e run.kept_entries
        (all_back (AreDeclaredSymbols st before) rest (e ∷ []) (rw split at run.entries)).0))

    ends_mark : stack ≡ [] → StoppedWith site lacking (prefix ++ mark ∷ [])
    ends_mark empty =
        let st = site.statements in
        ends_now mark lacking lacking (λ p c. c) stack kept run
        (λ pairs cover move n. rw n (
          P7,
          λ e. absurd cc,
          record {
            broken = (refl, ap (all_names_at st) empty);
            first = only_P7 (IsWithin site.limit) (with_pairs (take site.index st) pairs)
                (all_names_at st stack) (all_names_at st kept);
          },
        ))

-- ==== the seeker

module _ {S : Type 0} (stack kept : S → List (List ℕ)) (first : Seeker S) where
  -- before any move
  pub sought_none : stack first.store.now ≡ [] → kept first.store.now ≡ []
      → first.lacking.now.items ≡ []
      → first.kept ≡ 0 → first.stopped ≡ false → HasSought stack kept first first []
  sought_none empty none_kept none tags going =
      let nothing : number_pairs first.lacking.now.items ≡ [] = ap number_pairs none in
      record {
        same_store = refl;
        same_lacking = refl;
        same_table = refl;
        found = rw nothing (record {
          variables = λ p has. absurd (let l : has.0 < 0 = has.1 in omega arith);
          asked = λ p has pairs cover moves numbered. absurd (let l : has.0 < 0 = has.1 in
              omega arith);
        });
        goes = λ still. runs_none first.table.now.site [] _ _ _ empty none_kept refl;
        tags = λ still. tags ∙ sym (ap length none_kept);
        ended = λ stopped. absurd (false≢true (sym going ∙ stopped));
        few = omega (arith, tags);
      }

  module _ (old : Seeker S) (prefix : List (Move ℕ)) (was : HasSought stack kept first old prefix)
    where
      -- a move that is passed over
      pub sought_over : (x : Move ℕ) → old.stopped ≡ true → HasSought stack kept first old
          (prefix ++ x ∷ [])
      sought_over x stopped = record {
        same_store = was.same_store;
        same_lacking = was.same_lacking;
        same_table = was.same_table;
        found = found_longer first.table.now.site prefix x _ was.found;
        goes = λ still. absurd (false≢true (sym still ∙ stopped));
        tags = λ still. absurd (false≢true (sym still ∙ stopped));
        ended = λ is. ended_longer first.table.now.site prefix x _ (was.ended is);
        few = omega (arith, was.few, length-append prefix (x ∷ []));
      }

      module _ (new : Seeker S) (going : old.stopped ≡ false) (made : Bool)
          (stops : new.stopped ≡ not made)
          (same_store : new.store.ghost_name ≡ old.store.ghost_name)
          (same_lacking : new.lacking.ghost_name ≡ old.lacking.ghost_name)
          (same_table : new.table ≡ old.table) where
        still : new.stopped ≡ false → made ≡ true
        still is = go made (sym stops ∙ is)
          where
            go : (b : Bool) → not b ≡ false → b ≡ true
            go true e = refl
            go false e = absurd (false≢true (sym e))

        halted : new.stopped ≡ true → made ≡ false
        halted is = go made (sym stops ∙ is)
          where
            go : (b : Bool) → not b ≡ true → b ≡ false
            go true e = absurd (false≢true e)
            go false e = refl

        pub sought_name : (id : ℕ) → (let site = first.table.now.site in
            StepsWith site.limit site.statements site.index id (number_pairs old.lacking.now.items)
            (number_pairs new.lacking.now.items) (stack old.store.now) (stack new.store.now) made)
            → kept new.store.now ≡ kept old.store.now → new.kept ≡ old.kept
            → HasSought stack kept first new (prefix ++ name id ∷ [])
        sought_name id does same_kept same_tags =
            let site = first.table.now.site in
            let run = was.goes going in
            record {
              same_store = same_store ∙ was.same_store;
              same_lacking = same_lacking ∙ was.same_lacking;
              same_table = same_table ∙ was.same_table;
              found = found_name site prefix id _ _ _ _ _ made run does was.found;
              goes = λ is.
                  rw same_kept (runs_name site prefix id _ _ _ _ _ made run does (still is));
              tags = λ is. same_tags ∙ was.tags going ∙ sym (ap length same_kept);
              ended = λ is. ends_name site prefix id _ _ _ _ _ made run does (halted is);
              few = omega (arith, was.few, same_tags, length-append prefix (name id ∷ []));
            }

        module _ (same_items : new.lacking.now.items ≡ old.lacking.now.items) where
          pub sought_again : (tag : ℕ) → MatchBool made
              ((e : List ℕ) × (slice_get (kept old.store.now) tag ≡ Some e)
              × (stack new.store.now ≡ stack old.store.now ++ e ∷ []))
              (length (kept old.store.now) ≤ tag)
              → kept new.store.now ≡ kept old.store.now → new.kept ≡ old.kept
              → HasSought stack kept first new (prefix ++ again tag ∷ [])
          sought_again tag does same_kept same_tags =
              let site = first.table.now.site in
              let run = was.goes going in
              record {
                same_store = same_store ∙ was.same_store;
                same_lacking = same_lacking ∙ was.same_lacking;
                same_table = same_table ∙ was.same_table;
                found = rw same_items (found_longer site prefix (again tag) _ was.found);
                goes = λ is.
                    let d = rw (still is) at does in
                    rw (same_items, same_kept) (runs_again site prefix _ _ _ run tag d.0 _ d.1 d.2);
                tags = λ is. same_tags ∙ was.tags going ∙ sym (ap length same_kept);
                ended = λ is.
                    let d = rw (halted is) at does in
                    rw same_items (ends_again site prefix _ _ _ run tag d);
                few = omega (arith, was.few, same_tags, length-append prefix (again tag ∷ []));
              }

          pub sought_mark : MatchBool made
              ((rest : List (List ℕ)) × (e : List ℕ) × (stack old.store.now ≡ rest ++ e ∷ [])
              × (kept new.store.now ≡ kept old.store.now ++ e ∷ []))
              (stack old.store.now ≡ [])
              → stack new.store.now ≡ stack old.store.now → new.kept ≡ old.kept + 1
              → HasSought stack kept first new (prefix ++ mark ∷ [])
          sought_mark does same_stack more_tags =
              let site = first.table.now.site in
              let run = was.goes going in
              record {
                same_store = same_store ∙ was.same_store;
                same_lacking = same_lacking ∙ was.same_lacking;
                same_table = same_table ∙ was.same_table;
                found = rw same_items (found_longer site prefix mark _ was.found);
                goes = λ is.
                    let d = rw (still is) at does in
                    rw same_items (runs_mark site prefix _ _ _ run d.0 d.1 _ _ d.2 same_stack d.3);
                tags = λ is.
                    let d = rw (still is) at does in
                    omega (
                      arith,
                      more_tags,
                      was.tags going,
                      ap length d.3,
                      length-append
                          (kept old.store.now) (d.1 ∷ []),
                    );
                ended = λ is.
                    let d = rw (halted is) at does in
                    rw same_items (ends_mark site prefix _ _ _ run d);
                few = omega (arith, was.few, more_tags, length-append prefix (mark ∷ []));
              }

  -- what it has found at the end
  pub sought_all : (now : Seeker S) (steps : List (Move ℕ)) → HasSought stack kept first now steps
      → AreLackingNumbers first.table.now.site (number_pairs now.lacking.now.items) steps
  sought_all now steps was =
      (was.found, λ pairs cover moves numbered. go now.stopped refl pairs cover moves numbered)
    where
      go : (b : Bool) → now.stopped ≡ b → (pairs : List (Symbol × Symbol))
          → Cover first.table.now.site.statements (number_pairs now.lacking.now.items) pairs
          → (moves : List (Move (List ℕ))) → AreNumberedMoves first.table.now.site.statements steps
          moves
          → PassElsewhere (IsWithin first.table.now.site.limit) (with_pairs
          (take first.table.now.site.index first.table.now.site.statements) pairs) moves
      go true is pairs cover moves numbered = (was.ended is pairs cover moves numbered).0
      go false is pairs cover moves numbered =
          let run = was.goes is in
          record {
            earlier = moves;
            left = [];
            parts = sym (append-nil moves);
            stack = _;
            kept = _;
            passed = run.passed pairs cover moves numbered;
            stops = tt;
          }

-- ==== by names

module _ (one : OneNumber) (site : ProofSite) (moves : List (Move (List ℕ)))
    (steps : List (Move ℕ)) (found pairs : List (ℕ × ℕ)) (all : AllMeant site.statements)
    (are : AreLackingNumbers site found steps) (ordered : ArePutInOrder found pairs)
    (numbered : AreNumberedMoves site.statements steps moves) where
  abbrev before : List Sentence
  before = take site.index site.statements

  abbrev names : List (Symbol × Symbol)
  names = name_pairs site.statements pairs

  cover : Cover site.statements found names
  cover p c = ⊎_elim
      (λ h. inl (contains_mapped (names_of site.statements) pairs p h))
      (λ h. inr (contains_mapped (names_of site.statements) pairs (p.1, p.0) h))
      ((ordered.same p).1 (inl c))

  -- what is known of a pair
  abbrev IsAsked : ℕ × ℕ → Type 0
  IsAsked p =
      IsLackingPair site.statements site.index p
      × AskDisjoint (IsWithin site.limit) (with_pairs before names) moves
      (name_at site.statements p.0) (name_at site.statements p.1)

  asked_found : (p : ℕ × ℕ) → Contains found p → IsAsked p × IsAsked (p.1, p.0)
  asked_found p c =
      let v = are.0.variables p c in
      let asks = are.0.asked p c names cover moves numbered in (
        (v, asks),
        (
          record {
            missing = missing_other site.statements site.index p.0 p.1 v.missing;
            first = v.second;
            second = v.first;
          },
          asked_other (IsWithin site.limit) (with_pairs before names) moves
              (name_at site.statements p.0) (name_at site.statements p.1) asks,
        ),
      )

  pub asked_put : (p : ℕ × ℕ) → Contains pairs p → IsAsked p
  asked_put p c = found_put found pairs ordered IsAsked asked_found p c

  needed : (p : Symbol × Symbol) → Contains names p → IsUnstated before p
      × AskDisjoint (IsWithin site.limit) (with_pairs before names) moves p.0 p.1
  needed p has =
      let q = mapped_contains (names_of site.statements) pairs p has in
      let h = asked_put q.0 q.1 in
      subst (λ (r : Symbol × Symbol). IsUnstated before r
      × AskDisjoint (IsWithin site.limit) (with_pairs before names) moves r.0 r.1) q.2 (
        unstated_named one site.statements site.index q.0.0 q.0.1 h.0.missing h.0.first h.0.second
            (ordered.in_order.turned q.0 q.1),
        h.1,
      )

  differs : (p : Symbol × Symbol) → IsUnstated before p → p.0 ≡ p.1 → ⊥
  differs p is same =
      let (m, n, at_m, at_n, less) = is.earlier in
      let e = (one before [] p.0).1 m n at_m
      (subst (λ u. IsNumberOf before u n) (sym same) at_n) in
      omega (arith, less, e)

  pub lacks : AreLacking (IsWithin site.limit) before moves names
  lacks = record {
    meant = lacking_meant before (allmeant_prefix site.statements site.index all)
        (IsWithin site.limit) moves names
        (λ p has.
        let h = needed p has in (h.0.first, h.0.second, differs p h.0, h.1));
    enough = are.1 names cover moves numbered;
    needed = needed;
    in_order = pairs_in_order one site.statements site.index pairs (λ p c.
        let h = asked_put p c in (
          (h.0.first, variable_below site.statements p.0 h.0.missing.first),
          (h.0.second, variable_below site.statements p.1 h.0.missing.second),
        )) ordered.in_order;
  }

pub lacking_named : OneNumber → (site : ProofSite) (t : Sentence) (steps : List (Move ℕ))
    (pairs : List (Sym × Sym)) → AllMeant site.statements
    → IsNumbered site.statements site.number site.index t
    → AreLackingInOrder site (number_pairs pairs) steps
    → OfMoves site.statements site.number steps (λ index s moves. (names : List (Symbol × Symbol))
    × AreNumbers site.statements (map (λ p. p.0.0) pairs) (map (λ p. p.0) names)
    × AreNumbers site.statements (map (λ p. p.1.0) pairs) (map (λ p. p.1) names)
    × AreLacking (IsWithin site.limit) (take index site.statements) moves names)
lacking_named one site t steps pairs all n (found, are, ordered) index s moves proof numbered =
    let st = site.statements in
    let told = number_pairs pairs in
    let here : site.index ≡ index = one_index st site.number site.index index t s n
    proof.numbered in
    let numbers = pairs_named st site.index pairs
    (λ p c. (asked_put one site moves steps found told all are ordered numbered p c).0.missing) in (
      name_pairs st told,
      numbers.0,
      numbers.1,
      subst (λ i. AreLacking (IsWithin site.limit) (take i st) moves (name_pairs st told)) here
          (lacks one site moves steps found told all are ordered numbered),
    )
