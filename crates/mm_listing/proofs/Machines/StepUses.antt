-- What a linker keeps of the steps that each step uses.
use Rattle.std.proofs.Common.{◌≡◌, ℕ, ◌+◌, ◌-◌, ◌<◌, ◌≤◌, List, [], ◌∷◌, ◌++◌, length, take, drop}
use Rattle.std.proofs.Common.{get_or, slice_get, Some, Bool, true, false, not, ◌||◌, Contains, All}
use Rattle.std.proofs.Common.{◌↔◌, refl, sym}
use Rattle.std.proofs.Common.{ap, subst, ◌∙◌, arith, Vec}
use Rattle.std.proofs.lemmas.Option.{slice_get-get_or, none-some}
use Rattle.std.proofs.lemmas.List.Elements.{Contains-get_or}
use Rattle.std.proofs.lemmas.List.{map-append, length-map, length-append, take-map}
use Rattle.mm_base.proofs.Lists.{zip_front, zip_push, zip_take}
use Rattle.mm_frame.specs.Sentence.{Sentence}
use Rattle.mm_frame.specs.Frame.{AreThose}
use Rattle.mm_step.specs.declared.call.Call.{Call}
use Rattle.mm_listing.specs.declared.lines.Lister.{Lister}
use Rattle.mm_listing.specs.declared.uses.Linker.{Linker}
use Rattle.mm_step.specs.Tree.{Names}
use Rattle.mm_step.specs.Moves.{Move, name, again, mark, is_step, steps_in}
use Rattle.mm_step.specs.Proof.{Passed, IsWithin}
use Rattle.mm_step.specs.Steps.{IsNumberedMove, AreNumberedMoves}
use Rattle.mm_listing.specs.Listing.{StandsAfter}
use Rattle.mm_listing.specs.Uses.{AreOfSteps, StandsFor, AreRoots, AreLinked, IsAsked, IsUsing}
use Rattle.mm_listing.specs.Uses.{rows_of}
use Rattle.mm_step.specs.Mirror.CodeApply.{IsCallOf}
use Rattle.mm_step.specs.Mirror.CodeRun.{HasRun}
use Rattle.mm_step.specs.Mirror.CodeVerify.{names_at, all_names_at}
use Rattle.mm_listing.specs.Mirror.CodeLines.{AreLinesAt, HasListed}
use Rattle.mm_listing.specs.declared.lines.Line.{Line}
use Rattle.mm_step.specs.Mirror.Sites.{ProofSite, IsSite}
use Rattle.mm_code.specs.declared.code.Code.{Code}
use Rattle.mm_proof.specs.Mirror.CodeSteps.{code_move, code_moves}
use Rattle.mm_proof.specs.Verified.{OfMoves}
use Rattle.mm_step.proofs.ByNumbers.OneIndex.{one_index}
use Rattle.mm_listing.proofs.Machines.ToldLines.{lines_unless}
use Rattle.mm_listing.specs.Mirror.StepUses.{sources_of, IsAskedOf, IsAmong, AreNoLater, AreSourcesAt}
use Rattle.mm_listing.specs.Mirror.StepUses.{AreUsesAt, HasLinked, MayBeLinked}
use Rattle.mm_listing.specs.Mirror.StackOrigins.{AreOriginsAt}
use Rattle.mm_proof.proofs.ProofVerdicts.FirstFault.{steps_in-append}
use Rattle.mm_step.proofs.ByNumbers.NumberedSymbols.{drop_get}
use Rattle.mm_proof.proofs.ProofVerdicts.JudgedMoves.{same_steps, same_kind}
use Rattle.mm_listing.proofs.Machines.ListedLines.{tag_stands}
use Rattle.mm_listing.proofs.Machines.StackOrigins.{origins_at_none, origins_at_step, origins_at_mark}
use Rattle.mm_listing.proofs.Machines.StackOrigins.{leaves_last}
use Rattle.mm_listing.proofs.Machines.StepOperands.{those_within, of_none, of_step, of_mark}
use Rattle.mm_listing.proofs.Machines.StepSources.{sources_step, sources_mark, step_first}
use Rattle.mm_listing.proofs.Machines.StepSources.{stands_before, stands_within, origin_among}
use Rattle.mm_listing.proofs.Machines.StepSources.{name_using, asked_same, sources_among, rows_more}
use Rattle.mm_listing.proofs.Machines.StepSources.{no_later_more, roots_made}

-- ==== a linker

-- nothing is told of no moves, whatever they stand for
at_none : (st : List Sentence) {Y : Type 0}
    (Told : List (Move (List ℕ)) → Move (List ℕ) → Y → Type 0) (moves : List (Move (List ℕ)))
    → AreNumberedMoves st [] moves → AreOfSteps Told moves []
at_none st Told [] numbered = of_none Told
at_none st Told (m ∷ moves) numbered = absurd numbered

module _ {S : Type 0} (stack kept : S → List (List ℕ)) (first : Linker S) where
  -- before any move
  pub links_none : HasListed stack kept first.lister first.lister []
      → stack first.lister.judge.store.now ≡ [] → first.origins.now.items ≡ []
      → first.sources.now.items ≡ [] → first.uses.now.items ≡ [] → HasLinked stack kept first first
      []
  links_none listed empty_stack origins sources uses =
      let site = first.lister.judge.table.now.site in
      let st = site.statements in
      record {
        same_origins = refl;
        same_sources = refl;
        same_uses = refl;
        same_choice = refl;
        listed = listed;
        made = rw (empty_stack, origins) (origins_at_none site.limit st site.index);
        resolved = rw sources (λ moves numbered. at_none st (StandsFor []) moves numbered);
        no_later = rw sources (λ index source there. absurd (none-some source there));
        used = rw uses (λ moves numbered.
            at_none st (IsUsing first.essential (take site.index st)) moves numbered);
        earlier = rw uses (λ index row used there is. absurd (none-some row there));
      }

  module _ (old : Linker S) (prefix : List (Move ℕ)) (x : Move ℕ)
      (was : HasLinked stack kept first old prefix)
      (allowed : MayBeLinked first.lister.judge.table.now.site prefix x) where
    -- as many sources as steps
    sources_count : length old.sources.now.items ≡ steps_in prefix
    sources_count =
        let st = first.lister.judge.table.now.site.statements in
        let h = zip_front (IsNumberedMove st) prefix x allowed.0.1.0 allowed.0.1.1 in
        (was.resolved h.0 h.3).count ∙ sym (same_steps st prefix h.0 h.3)

    -- and rows
    rows_count : length (rows_of old.uses.now.items) ≡ steps_in prefix
    rows_count =
        let st = first.lister.judge.table.now.site.statements in
        let h = zip_front (IsNumberedMove st) prefix x allowed.0.1.0 allowed.0.1.1 in
        (was.used h.0 h.3).count ∙ sym (same_steps st prefix h.0 h.3)

    -- the origins are among the steps
    pub origins_among : (at : ℕ)
        → All (IsAmong (length old.sources.now.items)) (drop at old.origins.now.items)
    origins_among at k d less =
        let site = first.lister.judge.table.now.site in
        let st = site.statements in
        let origins = old.origins.now.items in
        let h = zip_front (IsNumberedMove st) prefix x allowed.0.1.0 allowed.0.1.1 in
        let one = get_or (drop at origins) k d in
        let there = sym (drop_get origins at k) ∙ slice_get-get_or (drop at origins) k d less in
        subst (λ n. IsAmong n one) (sym (was.resolved h.0 h.3).count)
        (origin_among (IsWithin site.limit) (take site.index st) h.0 _ origins (at + k) one
        (was.made h.0 h.3) there)

    -- what a step leaves
    pub linker_left : (now : Lister S) → is_step x ≡ true
        → HasListed stack kept first.lister now (prefix ++ x ∷ [])
        → (0 < length (stack now.judge.store.now))
        × (length (stack now.judge.store.now) - 1 ≤ length old.origins.now.items)
    linker_left now is listed =
        let site = first.lister.judge.table.now.site in
        leaves_last site.limit site.statements site.index prefix _ _ _ _ _ _ old.origins.now.items
        allowed.1 was.listed.judged.run was.made x is listed.judged.run allowed.0.1.0 allowed.0.1.1

    -- a step that stands for this, and uses this
    links_step : (new : Linker S) (source : ℕ) (row : List ℕ) → is_step x ≡ true
        → HasListed stack kept first.lister new.lister (prefix ++ x ∷ [])
        → new.origins.ghost_name ≡ old.origins.ghost_name
        → new.sources.ghost_name ≡ old.sources.ghost_name
        → new.uses.ghost_name ≡ old.uses.ghost_name → new.essential ≡ old.essential
        → new.origins.now.items
        ≡ take (length (stack new.lister.judge.store.now) - 1) old.origins.now.items
        ++ new.lister.judge.steps ∷ []
        → new.sources.now.items ≡ old.sources.now.items ++ source ∷ []
        → rows_of new.uses.now.items ≡ rows_of old.uses.now.items ++ row ∷ []
        → ((earlier : List (Move (List ℕ))) (move : Move (List ℕ))
        → AreNumberedMoves first.lister.judge.table.now.site.statements prefix earlier
        → IsNumberedMove first.lister.judge.table.now.site.statements x move
        → AreNumberedMoves first.lister.judge.table.now.site.statements (prefix ++ x ∷ [])
        (earlier ++ move ∷ [])
        → StandsFor old.sources.now.items earlier move source
        × IsUsing first.essential
        (take first.lister.judge.table.now.site.index
        first.lister.judge.table.now.site.statements) earlier move row)
        → IsAmong (steps_in prefix + 1) source
        → ((used : ℕ) → Contains row used → IsAmong (steps_in prefix) used)
        → HasLinked stack kept first new (prefix ++ x ∷ [])
    links_step new source row is listed origins_lent sources_lent uses_lent choice origins sources
        uses told later earlier =
        let site = first.lister.judge.table.now.site in
        let st = site.statements in
        let before = take site.index st in
        record {
          same_origins = origins_lent ∙ was.same_origins;
          same_sources = sources_lent ∙ was.same_sources;
          same_uses = uses_lent ∙ was.same_uses;
          same_choice = choice ∙ was.same_choice;
          listed = listed;
          made = rw origins (origins_at_step site.limit st site.index prefix _ _ _ _ _ _
              old.origins.now.items allowed.1 was.listed.judged.run was.made x is listed.judged.run);
          resolved = λ moves numbered.
              let h = zip_front (IsNumberedMove st) prefix x moves numbered in
              let kind : is_step h.1 ≡ true = sym (same_kind st x h.1 h.4) ∙ is in
              let own = subst (AreNumberedMoves st (prefix ++ x ∷ [])) h.2 numbered in
              rw (h.2, sources) (sources_step h.0 h.1 old.sources.now.items source
              (was.resolved h.0 h.3) kind (told h.0 h.1 h.3 h.4 own).0);
          no_later = rw sources (no_later_more old.sources.now.items source was.no_later
              (subst (λ n. IsAmong (n + 1) source) (sym sources_count) later));
          used = λ moves numbered.
              let h = zip_front (IsNumberedMove st) prefix x moves numbered in
              let kind : is_step h.1 ≡ true = sym (same_kind st x h.1 h.4) ∙ is in
              let own = subst (AreNumberedMoves st (prefix ++ x ∷ [])) h.2 numbered in
              rw (h.2, uses) (of_step (IsUsing first.essential before) h.0 h.1
              (rows_of old.uses.now.items) row (was.used h.0 h.3) kind
              (told h.0 h.1 h.3 h.4 own).1);
          earlier = rw uses (rows_more (rows_of old.uses.now.items) row was.earlier (λ used in_row.
              subst (λ n. IsAmong n used) (sym rows_count) (earlier used in_row)));
        }

  module _ (old : Linker S) (prefix : List (Move ℕ)) (was : HasLinked stack kept first old prefix)
    where
      -- a step by a label
      pub links_name : (new : Linker S) (id : ℕ) (call : Call) (row : List ℕ)
          → MayBeLinked first.lister.judge.table.now.site prefix (name id)
          → HasListed stack kept first.lister new.lister (prefix ++ name id ∷ [])
          → new.origins.ghost_name ≡ old.origins.ghost_name
          → new.sources.ghost_name ≡ old.sources.ghost_name
          → new.uses.ghost_name ≡ old.uses.ghost_name → new.essential ≡ old.essential
          → new.origins.now.items
          ≡ take (length (stack new.lister.judge.store.now) - 1) old.origins.now.items
          ++ new.lister.judge.steps ∷ []
          → new.sources.now.items ≡ old.sources.now.items ++ new.lister.judge.steps ∷ []
          → rows_of new.uses.now.items ≡ rows_of old.uses.now.items ++ row ∷ []
          → IsCallOf first.lister.judge.table.now.site.statements
          first.lister.judge.table.now.site.index id call
          → AreThose (λ i operand. IsAskedOf old.essential call i) 0
          (sources_of old.sources.now.items
          (drop (length (stack new.lister.judge.store.now) - 1) old.origins.now.items)) row
          → HasLinked stack kept first new (prefix ++ name id ∷ [])
      links_name new id call row allowed listed origins_lent sources_lent uses_lent choice origins
          sources uses call_is those =
          let site = first.lister.judge.table.now.site in
          let st = site.statements in
          let before = take site.index st in
          let x : Move ℕ = name id in
          let entries = stack new.lister.judge.store.now in
          let base : ℕ = length entries - 1 in
          let taken = drop base old.origins.now.items in
          let among = origins_among old prefix x was allowed base in
          let count = sources_count old prefix x was allowed in
          let now : new.lister.judge.steps ≡ steps_in prefix + 1 = listed.judged.run.count
          ∙ steps_in-append prefix (x ∷ []) in
          links_step old prefix x was allowed new new.lister.judge.steps row refl listed origins_lent
          sources_lent uses_lent choice origins sources uses
          (λ earlier move numbered one own.
          let label : List ℕ = one.1 in
          let named : move ≡ name label = one.4 in
          let number : IsNumberedMove st (name id) (name label) =
          (one.0, one.1, one.2, one.3, refl) in
          let p = was.listed.judged.run.passed earlier numbered in
          let q = subst (λ m. Passed (IsWithin site.limit) before (earlier ++ m ∷ [])
          (all_names_at st entries) (all_names_at st (kept new.lister.judge.store.now))) named
          (listed.judged.run.passed (earlier ++ move ∷ []) own) in
          let long : length (all_names_at st entries) ≡ length entries =
          length-map entries (names_at st) in
          rw named (
            now ∙ ap (λ n. n + 1) (same_steps st prefix earlier numbered),
            name_using (IsWithin site.limit) before allowed.1 earlier label _ _ _ _
                old.origins.now.items old.sources.now.items first.essential
                (IsAskedOf old.essential call) row p q (was.made earlier numbered)
                (was.resolved earlier numbered)
                (subst (λ (b : Bool). (at : ℕ) (a : Sentence) (hypotheses : List Sentence)
                → Names before label at a hypotheses → (i : ℕ)
                → IsAskedOf old.essential call i ↔ IsAsked b hypotheses i) was.same_choice
                (asked_same st site.index id call label allowed.1 call_is number old.essential))
                (subst (λ n. AreThose (λ i operand. IsAskedOf old.essential call i) 0
                (sources_of old.sources.now.items (drop (n - 1) old.origins.now.items)) row)
                (sym long) those),
          ))
          (omega (arith, now), omega (arith, now))
          (λ used in_row. subst (λ n. IsAmong n used) count
          (sources_among old.sources.now.items taken used was.no_later among
          (those_within (λ i operand. IsAskedOf old.essential call i) 0
          (sources_of old.sources.now.items taken) row used those in_row)))

      -- what is known of the step that the tag of a step stands after
      pub tag_after : (now : Lister S) (tag after : ℕ)
          → MayBeLinked first.lister.judge.table.now.site prefix (again tag)
          → HasListed stack kept first.lister now (prefix ++ again tag ∷ [])
          → slice_get now.tags.now.items tag ≡ Some after
          → (0 < after) × (after ≤ length old.sources.now.items)
          × ((earlier : List (Move (List ℕ)))
          → AreNumberedMoves first.lister.judge.table.now.site.statements prefix earlier
          → StandsAfter earlier tag after)
      tag_after now tag after allowed listed there =
          let site = first.lister.judge.table.now.site in
          let st = site.statements in
          let before = take site.index st in
          let stands : (earlier : List (Move (List ℕ))) → AreNumberedMoves st prefix earlier
          → StandsAfter earlier tag after = λ earlier numbered.
          stands_before earlier (again tag) tag after refl (listed.stand (earlier ++ again tag ∷ [])
          (zip_push (IsNumberedMove st) prefix earlier (again tag) (again tag) numbered refl) tag
          after
          there) in
          let h = zip_front (IsNumberedMove st) prefix (again tag) allowed.0.1.0 allowed.0.1.1 in
          let own = stands h.0 h.3 in (
            step_first (IsWithin site.limit) before h.0 _ _ tag after
                (was.listed.judged.run.passed h.0 h.3) own,
            omega (
              arith,
              stands_within h.0 tag after own,
              (was.resolved h.0 h.3).count,
            ),
            stands,
          )

      -- a step by a tag
      pub links_again : (new : Linker S) (tag after source : ℕ)
          → MayBeLinked first.lister.judge.table.now.site prefix (again tag)
          → HasListed stack kept first.lister new.lister (prefix ++ again tag ∷ [])
          → new.origins.ghost_name ≡ old.origins.ghost_name
          → new.sources.ghost_name ≡ old.sources.ghost_name
          → new.uses.ghost_name ≡ old.uses.ghost_name → new.essential ≡ old.essential
          → new.origins.now.items
          ≡ take (length (stack new.lister.judge.store.now) - 1) old.origins.now.items
          ++ new.lister.judge.steps ∷ []
          → new.sources.now.items ≡ old.sources.now.items ++ source ∷ []
          → rows_of new.uses.now.items ≡ rows_of old.uses.now.items ++ [] ∷ []
          → slice_get new.lister.tags.now.items tag ≡ Some after
          → slice_get old.sources.now.items (after - 1) ≡ Some source
          → HasLinked stack kept first new (prefix ++ again tag ∷ [])
      links_again new tag after source allowed listed origins_lent sources_lent uses_lent choice origins
          sources uses there read =
          let st = first.lister.judge.table.now.site.statements in
          let x : Move ℕ = again tag in
          let known = tag_after new.lister tag after allowed listed there in
          let count = sources_count old prefix x was allowed in
          let next : after ≡ after - 1 + 1 = omega (arith, known.0) in
          let s = was.no_later (after - 1) source read in
          links_step old prefix x was allowed new source [] refl listed origins_lent sources_lent
          uses_lent choice origins sources uses
          (λ earlier move numbered one own.
          rw one (
            (after - 1, subst (StandsAfter earlier tag) next (known.2 earlier numbered), read),
            refl,
          ))
          (s.0, omega (arith, s.1, known.0, known.1, count))
          (λ used none. absurd (omega (arith, none.1)))

      -- a mark
      pub links_mark : (new : Linker S)
          → HasListed stack kept first.lister new.lister (prefix ++ mark ∷ [])
          → MayBeLinked first.lister.judge.table.now.site prefix mark
          → new.origins ≡ old.origins → new.sources ≡ old.sources → new.uses ≡ old.uses
          → new.essential ≡ old.essential → HasLinked stack kept first new (prefix ++ mark ∷ [])
      links_mark new listed allowed origins sources uses choice =
          let site = first.lister.judge.table.now.site in
          let st = site.statements in
          let before = take site.index st in
          record {
            same_origins = rw origins was.same_origins;
            same_sources = rw sources was.same_sources;
            same_uses = rw uses was.same_uses;
            same_choice = choice ∙ was.same_choice;
            listed = listed;
            made = rw origins (origins_at_mark site.limit st site.index prefix _ _ _ _ _ _
                old.origins.now.items allowed.1 was.listed.judged.run was.made listed.judged.run);
            resolved = rw sources (λ moves numbered.
                let h = zip_front (IsNumberedMove st) prefix mark moves numbered in
                rw (h.2, h.4) (sources_mark h.0 old.sources.now.items (was.resolved h.0 h.3)));
            no_later = rw sources was.no_later;
            used = rw uses (λ moves numbered.
                let h = zip_front (IsNumberedMove st) prefix mark moves numbered in
                rw (h.2, h.4) (of_mark (IsUsing first.essential before) h.0
                (rows_of old.uses.now.items) (was.used h.0 h.3)));
            earlier = rw uses was.earlier;
          }

-- what the tag of a step is known by
pub tag_known : {S : Type 0} (stack kept : S → List (List ℕ)) (first old : Linker S)
    (prefix : List (Move ℕ)) (now : Lister S) (tag : ℕ) → HasLinked stack kept first old prefix
    → MayBeLinked first.lister.judge.table.now.site prefix (again tag)
    → HasListed stack kept first.lister now (prefix ++ again tag ∷ [])
    → tag < length now.tags.now.items
tag_known stack kept first old prefix now tag was allowed listed =
    let t = tag_stands stack kept first.lister old.lister now.judge prefix tag was.listed
    listed.judged allowed.0.1 in
    omega (
      arith,
      t.0,
      was.listed.marks,
      listed.marks,
      was.listed.judged.all,
      listed.judged.all,
      was.listed.judged.run.count,
      listed.judged.run.count,
      steps_in-append prefix (again tag ∷ []),
      length-append prefix (again tag ∷ []),
    )

-- one row more
pub rows_pushed : {Z : Type 0} (lists new : List (Vec ℕ Z)) (list : Vec ℕ Z)
    → new ≡ lists ++ list ∷ [] → rows_of new ≡ rows_of lists ++ list.items ∷ []
rows_pushed lists new list is = rw is (simp map-append)

-- ==== at the end

module _ (limit : ℕ) (st : List Sentence) (index : ℕ) (prefix : List (Move ℕ))
    (sources : List ℕ) (resolved : AreSourcesAt st prefix sources)
    (named : (names : List (Move (List ℕ))) × AreNumberedMoves st prefix names) where
  -- the steps that made the entries are among those that stand for others
  pub made_among : (stack : List (List ℕ)) (origins : List ℕ)
      → AreOriginsAt limit st index prefix stack origins → All (IsAmong (length sources)) origins
  made_among stack origins made k d less =
      let origin = get_or origins k d in
      subst (λ n. IsAmong n origin) (sym (resolved named.0 named.1).count)
      (origin_among (IsWithin limit) (take index st) named.0 _ origins k origin
      (made named.0 named.1) (slice_get-get_or origins k d less))

  -- as many rows as sources
  pub rows_long : (essential : Bool) (rows : List (List ℕ)) → AreUsesAt essential st index prefix
      rows
      → length rows ≡ length sources
  rows_long essential rows used =
      (used named.0 named.1).count ∙ sym (resolved named.0 named.1).count

-- what the steps that made the entries stand for are the roots
pub roots_at : (limit : ℕ) (st : List Sentence) (index : ℕ) (prefix : List (Move ℕ))
    (stack kept : List (List ℕ)) (count : ℕ) (origins sources : List ℕ)
    → HasRun limit st index prefix stack kept count
    → AreOriginsAt limit st index prefix stack origins → AreSourcesAt st prefix sources
    → (moves : List (Move (List ℕ))) → AreNumberedMoves st prefix moves
    → AreRoots (take index st) moves (sources_of sources origins)
roots_at limit st index prefix stack kept count origins sources run made resolved moves numbered =
    roots_made (IsWithin limit) (take index st) moves (all_names_at st stack)
    (all_names_at st kept) origins sources (run.passed moves numbered) (made moves numbered)
    (resolved moves numbered)

-- they are among the steps
pub roots_among : (sources origins : List ℕ) → AreNoLater sources
    → All (IsAmong (length sources)) origins
    → All (IsAmong (length sources)) (sources_of sources origins)
roots_among sources origins no_later among k d less =
    let roots = sources_of sources origins in
    sources_among sources origins (get_or roots k d) no_later among
    (Contains-get_or roots k d less)

-- ==== of first moves

-- what is linked of their numbers is of their names
pub front_linked : (site : ProofSite) (ids : List ℕ) (said : List Code) (n : ℕ) → IsSite site
    → (essential : Bool) (stack kept : List (List ℕ)) (count : ℕ) (lines : List Line)
    (rows : List (List ℕ)) (origins sources : List ℕ)
    → HasRun site.limit site.statements site.index (code_moves ids (take n said)) stack kept count
    → AreLinesAt site.statements (λ step. not essential || get_or [] step false) site.index
    (code_moves ids (take n said)) lines
    → AreOriginsAt site.limit site.statements site.index (code_moves ids (take n said)) stack
    origins
    → AreSourcesAt site.statements (code_moves ids (take n said)) sources
    → AreUsesAt essential site.statements site.index (code_moves ids (take n said)) rows
    → OfMoves site.statements site.number (code_moves ids said) (λ index s moves.
    AreLinked essential site.statements (take index site.statements) (take n moves) lines rows
    (sources_of sources origins))
front_linked site ids said n own essential stack kept count lines rows origins sources run listed made
    resolved used index s moves proof numbered =
    let st = site.statements in
    let names = take n moves in
    let front = subst (λ (l : List (Move ℕ)). AreNumberedMoves st l names)
    (take-map (code_move ids) n said)
    (zip_take (IsNumberedMove st) (code_moves ids said) moves n numbered) in
    let here : site.index ≡ index =
    one_index st site.number site.index index own.s s own.proof.numbered proof.numbered in
    subst (λ i. AreLinked essential st (take i st) names lines rows (sources_of sources origins))
    here (
      lines_unless essential st (take site.index st) names lines (listed names front),
      used names front,
      roots_at site.limit st site.index (code_moves ids (take n said)) stack kept count origins
          sources run made resolved names front,
    )
