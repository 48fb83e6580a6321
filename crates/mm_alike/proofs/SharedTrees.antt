-- What is told of the trees of two proofs: by their steps, where they are written alike, and else
-- by the steps of their fully shared proofs. On this file rest the contracts of `trees`.
use Rattle.std.proofs.Common.{◌≡◌, ◌↔◌, ℕ, zero, suc, ◌+◌, ◌-◌, List, [], ◌∷◌, ◌++◌, map, take}
use Rattle.std.proofs.Common.{length, slice_get, Some, None, Bool, true, inl, inr, refl, sym, ap}
use Rattle.std.proofs.Common.{subst, ◌∙◌, arith, get_or, ◌<◌}
use Rattle.std.specs.List.{AllZip}
use Rattle.std.proofs.lemmas.List.{length-map, map-append, take_more}
use Rattle.std.proofs.lemmas.Option.{slice_get-get_or, slice_get_past}
use Rattle.std.proofs.lemmas.Slice.Zip.{AllZip-long}
use Rattle.mm_base.proofs.Lists.{one_there, zip_append, zip_left, zip_push, zip_right}
use Rattle.mm_code.specs.declared.code.Code.{Code}
use Rattle.mm_code.specs.declared.code.Code.TheVariants as codes
use Rattle.mm_frame.specs.declared.hypothesis.Hypothesis.{Hypothesis}
use Rattle.mm_frame.specs.declared.number.LabelId.{LabelId}
use Rattle.mm_frame.specs.Frame.{AreMandatory}
use Rattle.mm_frame.specs.Numbers.{labelled_sentences}
use Rattle.mm_frame.specs.Rules.{AllMeant}
use Rattle.mm_frame.specs.Sentence.{Sentence}
use Rattle.mm_frame.proofs.Frames.FrameLaws.{mandatory_unique}
use Rattle.mm_frame.proofs.Names.LabelNumbers.{numbered_unique}
use Rattle.mm_frame.proofs.Names.NameNumbers.{get_mapped}
use Rattle.mm_frame.proofs.Rules.ObeyedRules.{allmeant_prefix}
use Rattle.mm_step.specs.Moves.{Move, name, again}
use Rattle.mm_step.specs.Plain.{ids_in, label_ids}
use Rattle.mm_step.specs.Steps.{IsNumberedMove, AreNumberedMoves, IsProofNumber}
use Rattle.mm_step.specs.Tree.{Trees, none, tree, TreesFit}
use Rattle.mm_forms.specs.BigSubtrees.{IsBig}
use Rattle.mm_forms.specs.OneTree.{MakeOneTree, MakeTree}
use Rattle.mm_forms.specs.Packing.{ArePacked}
use Rattle.mm_forms.specs.Sharing.{ShareThose}
use Rattle.mm_forms.specs.Spelled.{AreLabelsOf, IsNumberOfLabel}
use Rattle.mm_proof.specs.Mirror.CodeSteps.{code_move, entry_move, move_by, moves_of}
use Rattle.mm_proof.specs.ReadSteps.{ReadSteps}
use Rattle.mm_proof.specs.Tokens.{Says}
use Rattle.mm_proof.specs.Verified.{OfMoves}
use Rattle.mm_verdict.specs.Mirror.Theorems.{AreProvedSteps}
use Rattle.mm_alike.specs.Mirror.Steps.{AreSameEntries, AreSameMoves, IsSameMove, IsSameStep}
use Rattle.mm_alike.specs.Mirror.Steps.{ShareTree, TellsOneTree}
use Rattle.mm_alike.proofs.ComparedFrames.{HasHypotheses}
use Rattle.mm_alike.proofs.TreesOfBoth.{made_fits, made_in_both, make_in_both, names_in_both}
use Rattle.mm_alike.proofs.TreesOfBoth.{numbers_in_both, shared_in_both, tree_in_both}

-- ---- the same codes over the same entries

module _ (old new : List Sentence) where
  entry_alike : (es os : List LabelId) (index tag : ℕ) → AreSameEntries old new es os
      → IsSameMove old new (move_by (slice_get (ids_in es) index) tag)
      (move_by (slice_get (ids_in os) index) tag)
  entry_alike [] [] index tag same = refl
  entry_alike (e ∷ es) (o ∷ os) zero tag same = same.0
  entry_alike (e ∷ es) (o ∷ os) (suc index) tag same = entry_alike es os index tag same.1
  entry_alike es os index tag same = absurd same

  code_alike : (es os : List LabelId) (c : Code) → AreSameEntries old new es os
      → IsSameMove old new (code_move (ids_in es) c) (code_move (ids_in os) c)
  code_alike es os codes.Tag same = tt
  code_alike es os (codes.Number n) same =
      let long : length (ids_in es) ≡ length (ids_in os) =
      length-map es (λ (i : LabelId). i.0)
      ∙ sym (AllZip-long (λ (e o : LabelId). IsSameStep old new e.0 o.0) es os same)
      ∙ sym (length-map os (λ (i : LabelId). i.0)) in
      subst (λ (k : ℕ). IsSameMove old new (entry_move (ids_in es) (n - 1))
      (move_by (slice_get (ids_in os) (n - 1)) (n - 1 - k))) long
      (entry_alike es os (n - 1) (n - 1 - length (ids_in es)) same)

  pub codes_alike : (es os : List LabelId) (cs : List Code) → AreSameEntries old new es os
      → AreSameMoves old new (moves_of es cs) (moves_of os cs)
  codes_alike es os [] same = tt
  codes_alike es os (c ∷ cs) same = (code_alike es os c same, codes_alike es os cs same)

-- ---- one more of two lists

-- one entry more
pub entries_more : (old new : List Sentence) (es os : List LabelId) (i : ℕ) (d : LabelId)
    → i < length es → i < length os → AreSameEntries old new (take i es) (take i os)
    → IsSameStep old new (get_or es i d).0 (get_or os i d).0
    → AreSameEntries old new (take (i + 1) es) (take (i + 1) os)
entries_more old new es os i d less within same next =
    rw (take_more es i d less, take_more os i d within)
    (zip_push (λ (e o : LabelId). IsSameStep old new e.0 o.0) (take i es) (take i os)
    (get_or es i d) (get_or os i d) same next)

module _ (old new : List Sentence) (es os : List LabelId) (cs ds : List Code) (i : ℕ) (d : Code)
    (less : i < length cs) (within : i < length ds) where
  longer : (ids : List ℕ) (xs : List Code) → i < length xs
      → map (code_move ids) (take (i + 1) xs)
      ≡ map (code_move ids) (take i xs) ++ code_move ids (get_or xs i d) ∷ []
  longer ids xs short =
      ap (map (code_move ids)) (take_more xs i d short)
      ∙ map-append (code_move ids) (take i xs) (get_or xs i d ∷ [])

  -- one code more
  pub codes_more : AreSameMoves old new (moves_of es (take i cs)) (moves_of os (take i ds))
      → IsSameMove old new (code_move (ids_in es) (get_or cs i d))
      (code_move (ids_in os) (get_or ds i d))
      → AreSameMoves old new (moves_of es (take (i + 1) cs)) (moves_of os (take (i + 1) ds))
  codes_more same next =
      rw (longer (ids_in es) cs less, longer (ids_in os) ds within)
      (zip_push (IsSameMove old new) (moves_of es (take i cs)) (moves_of os (take i ds))
      (code_move (ids_in es) (get_or cs i d)) (code_move (ids_in os) (get_or ds i d)) same next)

  -- one that says another move tells the lists apart
  pub codes_apart : ¬ (IsSameMove old new (code_move (ids_in es) (get_or cs i d))
      (code_move (ids_in os) (get_or ds i d)))
      → ¬ (AreSameMoves old new (moves_of es cs) (moves_of os ds))
  codes_apart other same =
      let mine = get_mapped (code_move (ids_in es)) cs i (get_or cs i d)
      (slice_get-get_or cs i d less) in
      let theirs = get_mapped (code_move (ids_in os)) ds i (get_or ds i d)
      (slice_get-get_or ds i d within) in
      let (y, at, is) = zip_left (IsSameMove old new) (moves_of es cs) (moves_of os ds) i
      (code_move (ids_in es) (get_or cs i d)) same mine in
      other (subst (λ (z : Move ℕ). IsSameMove old new (code_move (ids_in es) (get_or cs i d)) z)
      (one_there (moves_of os ds) i y (code_move (ids_in os) (get_or ds i d)) at theirs) is)

-- lists of other lengths are apart
pub lengths_apart : (old new : List Sentence) (es os : List LabelId) (cs ds : List Code)
    → ¬ (length cs ≡ length ds) → ¬ (AreSameMoves old new (moves_of es cs) (moves_of os ds))
lengths_apart old new es os cs ds other same =
    other (sym (length-map cs (code_move (ids_in es)))
    ∙ sym (AllZip-long (IsSameMove old new) (moves_of es cs) (moves_of os ds) same)
    ∙ length-map ds (code_move (ids_in os)))

-- ---- the moves of a packed proof

module _ (st : List Sentence) where
  hypotheses_named : (ids : List ℕ) (hs : List Sentence) (labels : List (List ℕ))
      → map (slice_get (labelled_sentences st)) ids ≡ map (λ (t : Sentence). Some t) hs
      → map (λ (h : Sentence). h.label) hs ≡ map Some labels
      → AllZip (λ id label. IsNumberOfLabel st id label) ids labels
  hypotheses_named [] [] [] are labelled = tt
  hypotheses_named (i ∷ ids) (h ∷ hs) (l ∷ labels) are labelled =
      let first : slice_get (labelled_sentences st) i ≡ Some h = cc in
      let name : h.label ≡ Some l = cc in
      let others : map (slice_get (labelled_sentences st)) ids
      ≡ map (λ (t : Sentence). Some t) hs = cc in
      let more : map (λ (t : Sentence). t.label) hs ≡ map Some labels = cc in
      (record { s = h; there = first; named = name }, hypotheses_named ids hs labels others more)
  hypotheses_named [] [] (l ∷ labels) are labelled = absurd (cc)
  hypotheses_named (i ∷ ids) (h ∷ hs) [] are labelled = absurd (cc)
  hypotheses_named _ _ _ are labelled = absurd (cc)

  listed_named : (ids : List LabelId) (listed : List (List ℕ)) → AreLabelsOf st ids listed
      → AllZip (λ id label. IsNumberOfLabel st id label) (ids_in ids) listed
  listed_named [] [] z = tt
  listed_named (i ∷ ids) (l ∷ listed) z = (z.0, listed_named ids listed z.1)
  listed_named ids listed z = absurd z

  -- what no entry has a number for
  past_entries : (ids : List ℕ) (index tag : ℕ) → index ≡ length ids + tag
      → entry_move ids index ≡ again tag
  past_entries ids index tag is =
      let none : slice_get ids index ≡ None = slice_get_past ids index (omega arith) in
      ap (λ o. move_by o (index - length ids)) none
      ∙ ap again (omega arith)

  code_numbered : (ids : List ℕ) (labels : List (List ℕ)) (c : Code) (m : Move (List ℕ))
      → AllZip (λ id label. IsNumberOfLabel st id label) ids labels → Says labels c m
      → IsNumberedMove st (code_move ids c) m
  code_numbered ids labels codes.Tag m named says = says
  code_numbered ids labels (codes.Number n) m named (index, is, inl (label, there, made)) =
      let at = zip_right (λ id label. IsNumberOfLabel st id label) ids labels index label named
      there in
      let same : n - 1 ≡ index = omega (arith, is) in
      let move : entry_move ids (n - 1) ≡ name at.0 =
      ap (entry_move ids) same ∙ ap (λ o. move_by o (index - length ids)) at.1 in
      subst (λ (x : Move ℕ). IsNumberedMove st x m) (sym move)
      (at.2.s, label, at.2.there, at.2.named, made)
  code_numbered ids labels (codes.Number n) m named (index, is, inr (tag, past, made)) =
      let long = AllZip-long (λ id label. IsNumberOfLabel st id label) ids labels named in
      let same : n - 1 ≡ index = omega (arith, is) in
      let move : entry_move ids (n - 1) ≡ again tag =
      ap (entry_move ids) same ∙ past_entries ids index tag (omega (arith, past, long)) in
      subst (λ (x : Move ℕ). IsNumberedMove st x m) (sym move) made

  codes_numbered : (ids : List ℕ) (labels : List (List ℕ)) (cs : List Code)
      (ms : List (Move (List ℕ))) → AllZip (λ id label. IsNumberOfLabel st id label) ids labels
      → AllZip (Says labels) cs ms → AreNumberedMoves st (map (code_move ids) cs) ms
  codes_numbered ids labels [] [] named says = tt
  codes_numbered ids labels (c ∷ cs) (m ∷ ms) named says =
      (code_numbered ids labels c m named says.0, codes_numbered ids labels cs ms named says.1)
  codes_numbered ids labels cs ms named says = absurd says

  -- they are numbered by the hypotheses and the listed labels
  pub packed_moves : (id index : ℕ) (s : Sentence) (t : Trees) (hs : List Hypothesis)
      (listed entries : List LabelId) (cs : List Code) → HasHypotheses st id hs
      → IsProofNumber st id index s → ids_in entries ≡ label_ids hs ++ ids_in listed
      → ArePacked st index s t listed cs
      → (others : List (Move (List ℕ))) × AreNumberedMoves st (moves_of entries cs) others
      × ShareThose IsBig (take index st) t others
  packed_moves id index s t hs listed entries cs has number are (labels, named, p) =
      let (at, same) = numbered_unique st id has.index index has.s s has.numbered number.numbered in
      let mandatory : AreMandatory (take index st) s has.stated =
      subst (λ (k : ℕ). AreMandatory (take k st) s has.stated) at
      (subst (λ (u : Sentence). AreMandatory (take has.index st) u has.stated) same
      has.mandatory) in
      let one : has.stated ≡ p.says.hypotheses =
      mandatory_unique (take index st) s has.stated p.says.hypotheses mandatory
      p.says.mandatory in
      let own = hypotheses_named (label_ids hs) has.stated p.says.labels has.are
      (ap (map (λ (h : Sentence). h.label)) one ∙ p.says.labelled) in
      let all = zip_append (λ id label. IsNumberOfLabel st id label) (label_ids hs) p.says.labels
      (ids_in listed) labels own (listed_named listed labels named) in
      let numbered = codes_numbered (label_ids hs ++ ids_in listed) (p.says.labels ++ labels) cs
      p.moves all p.says.each in (
        p.moves,
        subst (λ (ids : List ℕ). AreNumberedMoves st (map (code_move ids) cs) p.moves) (sym are)
            numbered,
        p.shared,
      )

-- steps that prove make one tree
pub steps_make_one : (st : List Sentence) (id : ℕ) (steps : ReadSteps) → AreProvedSteps st id steps
    → OfMoves st id steps.moves (λ index s moves. MakeOneTree (take index st) moves)
steps_make_one st id steps proved index s moves number numbered =
    let p = proved index s moves number numbered in
    (p.label, p.below, record { kept = p.kept; made = p.made })

-- ---- what is told

module _ (old new : List Sentence) (one other : ℕ) (steps other_steps : ReadSteps)
    (meant : AllMeant old) (meant_too : AllMeant new) (proved : AreProvedSteps old one steps)
    (proved_too : AreProvedSteps new other other_steps) where
  -- the same moves make one tree
  pub written_told : AreSameMoves old new steps.moves other_steps.moves
      → TellsOneTree old new one other steps.moves other_steps.moves true
  written_told same i s names j t other_names number numbered number' numbered' =
      let p = proved i s names number numbered in
      let q = proved_too j t other_names number' numbered' in
      let (equal, wide) = names_in_both old new i j meant meant_too steps.moves other_steps.moves
      names other_names same numbered numbered' in
      let here : MakeTree (take i old) names p.label p.below =
      record { kept = p.kept; made = p.made } in
      let there : MakeTree (take j new) other_names q.label q.below =
      record { kept = q.kept; made = q.made } in
      let moved : MakeTree (take j new) names q.label q.below =
      subst (λ (ms : List (Move (List ℕ))). MakeTree (take j new) ms q.label q.below) (sym equal)
      there in
      let trees : tree p.label p.below none ≡ tree q.label q.below none =
      made_in_both (take i old) (take j new) names none (tree p.label p.below none)
      (tree q.label q.below none) [] p.kept moved.kept wide p.made moved.made in (
        (λ told. make_in_both (take i old) (take j new) names other_names p.label q.label p.below
            q.below trees here there),
        (λ both. refl),
      )

  -- the fully shared ones tell whether they do
  pub shared_told : (shared other_shared : List (Move ℕ)) (b : Bool)
      → ShareTree old one steps.moves shared → ShareTree new other other_steps.moves other_shared
      → (b ≡ true) ↔ AreSameMoves old new shared other_shared
      → TellsOneTree old new one other steps.moves other_steps.moves b
  shared_told shared other_shared b share share' told i s names j t other_names number numbered
      number' numbered' =
      let p = proved i s names number numbered in
      let q = proved_too j t other_names number' numbered' in
      let here : MakeTree (take i old) names p.label p.below =
      record { kept = p.kept; made = p.made } in
      let there : MakeTree (take j new) other_names q.label q.below =
      record { kept = q.kept; made = q.made } in
      let mine = share i s names number numbered p.label p.below here in
      let theirs = share' j t other_names number' numbered' q.label q.below there in
      let a : Trees = tree p.label p.below none in
      let z : Trees = tree q.label q.below none in (
        (λ is.
            let (equal, wide) = names_in_both old new i j meant meant_too shared other_shared mine.0
            theirs.0 (told.0 is) mine.1 theirs.1 in
            let moved : ShareThose IsBig (take j new) z mine.0 =
            subst (λ (ms : List (Move (List ℕ))). ShareThose IsBig (take j new) z ms) (sym equal)
            theirs.2 in
            make_in_both (take i old) (take j new) names other_names p.label q.label p.below q.below
            (made_in_both (take i old) (take j new) mine.0 none a z [] mine.2.kept moved.kept wide
            mine.2.made moved.made) here there),
        (λ both.
            let (label, below, first, second) = both in
            let same : a ≡ z =
            tree_in_both (take i old) names p.label label p.below below
            (allmeant_prefix old i meant) here first
            ∙ sym (tree_in_both (take j new) other_names q.label label q.below below
            (allmeant_prefix new j meant_too) there second) in
            let moved : ShareThose IsBig (take j new) a theirs.0 =
            subst (λ (u : Trees). ShareThose IsBig (take j new) u theirs.0) (sym same) theirs.2 in
            let fits = subst (TreesFit (take j new)) (sym same)
            (made_fits (take j new) other_names q.label q.below there) in
            let (equal, stand) = shared_in_both (take i old) (take j new) a mine.0 theirs.0 fits
            mine.2 moved in
            told.1 (numbers_in_both old new i j meant meant_too shared other_shared mine.0 mine.1
            (subst (λ (ms : List (Move (List ℕ))). AreNumberedMoves new other_shared ms)
            (sym equal) theirs.1) stand)),
      )
