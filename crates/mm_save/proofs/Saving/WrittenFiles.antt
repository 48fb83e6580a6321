-- A file on its way to being written anew: statement by statement, from the first span on.
use Rattle.std.proofs.Common.{◌≡◌, ℕ, ◌≤◌, List, [], ◌∷◌, ◌++◌, take, length}
use Rattle.std.proofs.Common.{refl, ap, ◌∙◌, arith, append_assoc, append-nil}
use Rattle.std.proofs.Common.{◌<◌, Option, Some, None, true, option_map}
use Rattle.std.proofs.Common.{inl, inr, ◌⊎◌, false, slice_get, subst}
use Rattle.std.proofs.lemmas.List.{take-append-le}
use Rattle.std.proofs.lemmas.List.{length-map, map-append}
use Rattle.mm_save.specs.AllSaved.{Replacement, IsReplacement, is_theorem_of}
use Rattle.mm_save.specs.AllSaved.{theorems_of, IsAllSaved, IsFirstTooLong, IsSavingAllFault}
use Rattle.mm_save.specs.Mirror.AllSaving.{IsTheoremAmong}
use Rattle.mm_save.specs.Mirror.AllSaving.{IsTheoremFault, replacement, IsAllWritten}
use Rattle.mm_save.specs.Mirror.AllSaving.{PutsProof, KeepsLabel, IsWhole, IsFinishFault}
use Rattle.mm_save.specs.Mirror.AllSaving.{AreReplacedSoFar, IsSoFar, IsWrittenSoFar, HasWritten}
use Rattle.mm_base.specs.declared.statement.Kind.TheVariants.{Provable}
use Rattle.mm_base.specs.Statement.{PlainStatement, HasForm}
use Rattle.mm_frame.specs.Sentence.{Sentence, sentence_of, IsLabelled}
use Rattle.mm_step.specs.declared.profile.Profile.TheVariants.{Lenient}
use Rattle.mm_proof.specs.ReadSteps.{ReadSteps}
use Rattle.mm_step.specs.Tree.{spelling, Trees, none, tree}
use Rattle.mm_verdict.specs.declared.form.Form.{Form}
use Rattle.mm_rules.specs.declared.ask.AskFault.{AskFault}
use Rattle.mm_rules.specs.Verdict.{proof_of, AreAccepted, PlainRefusal, sentences}
use Rattle.mm_render.specs.Forms.{most_labels, HasProofTree}
use Rattle.mm_rules.specs.Rests.{IsAt}
use Rattle.mm_render.specs.Saved.{IsSpanText, within_span, FitsSaved}
use Rattle.mm_verdict.specs.Saved.{total_with}
use Rattle.mm_verdict.specs.Mirror.Theorems.{IsProofOf, SayStepsOf, AreProvedSteps, AreStepsOf}
use Rattle.mm_render.specs.Mirror.Rewriting.{IsSpanTextOf, IsTextFault}
use Rattle.mm_verdict.proofs.Questions.AskedTheorems.{map-take}
use Rattle.mm_render.proofs.ToldProofs.ToldTrees.{tree_told}
use Rattle.mm_verdict.proofs.Verdicts.AcceptedStatements.{proof_stands, proof_fits}
use Rattle.mm_save.proofs.Saving.FileSpans.{replaced_by, theorem_there, theorems_parted}
use Rattle.mm_save.proofs.Saving.FileSpans.{theorems_passed, first_too_long}
use Rattle.mm_verdict.proofs.Questions.FewLabels.{some_label}
use Rattle.mm_rules.proofs.Judgements.JudgedProofs.{labelled_said, last_number}
use Rattle.std.proofs.lemmas.Bool.{cases_lt, false_from_ne_true}
use Rattle.std.proofs.lemmas.List.Elements.{filter-append}
use Rattle.std.proofs.lemmas.Option.{slice_get_within}
use Rattle.std.specs.List.{AllZip}
use Rattle.mm_text.specs.Files.{PlainFile}
use Rattle.mm_base.specs.MostBytes.{most_bytes}
use Rattle.mm_base.proofs.Lists.{get_kept, get_parted, unmapped, zip_weaker}
use Rattle.mm_frame.specs.declared.number.LabelId.{LabelId}
use Rattle.mm_step.specs.declared.profile.Profile.{Profile}
use Rattle.mm_verdict.specs.declared.form.Form.TheVariants.{Normal}
use Rattle.mm_rules.specs.declared.judge.Judged.TheVariants.{Theorem}
use Rattle.mm_save.specs.declared.save_all.NewFile.{NewFile}
use Rattle.mm_rules.specs.declared.progress.Progress.{Progress}
use Rattle.mm_verdict.specs.Mirror.Visits.{HasVisited}
use Rattle.mm_rules.specs.Mirror.Visits.{IsMet}
use Rattle.mm_verdict.proofs.Verdicts.StatementByStatement.{one_more}
use Rattle.mm_verdict.specs.declared.form.Form.TheVariants as form
use Rattle.mm_render.specs.declared.save_fault.SaveFault.TheVariants as fault
use Rattle.mm_save.proofs.Saving.FilesUnderWay.{follows_next, replaced_next, stands_next}
use Rattle.mm_save.proofs.Saving.FilesUnderWay.{rewrite_fault, rewritten, way_next, way_past}

-- ==== what is told of a theorem whose proof is written anew

-- ---- its label

pub label_there : (s : PlainStatement) → HasForm s → s.kind ≡ Provable
    → (label : List ℕ) × IsLabelled label (sentence_of s)
label_there s formed provable =
    some_label (option_map (λ t. t.text) s.label)
    (labelled_said s.kind s.label formed.label provable)

-- ---- its proof

pub proof_among : (told : List Sentence) (s : PlainStatement) (id : ℕ)
    (tokens : List (List ℕ)) (t : IsTheoremAmong told id s) → tokens ≡ proof_of s
    → IsProofOf Lenient told id tokens
proof_among told s id tokens t texts =
    let at : IsAt t.statements id t.index s =
    record { there = t.there; numbered = rw t.same at t.number.numbered } in
    rw (texts, t.same)
    (proof_stands Lenient t.statements id t.index s t.obeyed at t.complete)

abbrev steps_among : (told : List Sentence) (s : PlainStatement) (label : List ℕ)
    (id : ℕ) (steps : ReadSteps) (t : IsTheoremAmong told id s)
    → IsLabelled label (sentence_of s) → SayStepsOf told id (proof_of s) steps.moves
    → AreStepsOf t.statements label id steps.moves
steps_among told s label id steps t named said =
    let own = rw t.same at t.number in
    let here = rw t.same at said in
    let moves = here t.index (sentence_of s) own in
    record {
      index = t.index;
      s = s;
      there = t.there;
      named = named;
      complete = t.complete;
      number = own;
      moves = moves.0;
      told = rw map-take moves.1;
      numbered = moves.2;
    }

-- written in a form, in place of the old bytes
pub theorem_replaced : (form : Form) (told : List Sentence)
    (s : PlainStatement) (label : List ℕ) (id : ℕ) (steps : ReadSteps) (old put bytes : List ℕ)
    (t : IsTheoremAmong told id s) → IsLabelled label (sentence_of s)
    → SayStepsOf told id (proof_of s) steps.moves → AreProvedSteps told id steps
    → IsSpanTextOf form told id steps.moves old put → old ≡ within_span bytes s.span
    → IsReplacement form bytes t.statements s (replacement s put)
theorem_replaced form told s label id steps old put bytes t named said proved laid stands =
    let (root, below, has, written) =
    tree_told told t.statements label id steps t.same
    (steps_among told s label id steps t named said) proved
    (λ before u trees. IsSpanText form before u trees old put) laid in
    replaced_by form bytes has (subst (λ (o : List ℕ). IsSpanText form
    (sentences (take t.index t.statements)) (sentence_of s) (tree root below none) o put) stands
    written) refl

-- why it isn't written

pub theorem_fault : (f : Form) (told : List Sentence) (s : PlainStatement) (id : ℕ)
    (steps : ReadSteps) (why : AskFault)
    → SayStepsOf told id (proof_of s) steps.moves → AreProvedSteps told id steps
    → IsTextFault f told id steps.moves why → IsTheoremFault f told id s why
theorem_fault form.Packed told s id steps why said proved memory =
    rw memory refl
theorem_fault form.Small told s id steps why said proved memory =
    rw memory refl
theorem_fault form.Normal told s id steps why said proved (inl memory) =
    rw memory refl
theorem_fault form.Normal told s id steps why said proved (inr (is, long)) =
    rw is (λ label named. (
      refl,
      λ t.
          let (root, below, has, over) =
          tree_told told t.statements label id steps t.same
          (steps_among told s label id steps t named said) proved
          (λ before u trees. most_labels < length (spelling trees)) long in
          (t.index, root, below, has, over),
    ))

-- ==== a file on its way to being written anew, statement by statement

-- ---- more statements

module _ (statements more : List PlainStatement) where
  -- a proof keeps its tree when more statements come
  tree_kept : {label : List ℕ} {index : ℕ} {s : PlainStatement} {root : List ℕ} {below : Trees}
      → HasProofTree statements label index s root below
      → HasProofTree (statements ++ more) label index s root below
      × (take index (statements ++ more) ≡ take index statements)
  tree_kept {index = index} {s = s} proof =
      let within = slice_get_within statements index s proof.there in
      let prefix = take-append-le index statements more (omega (arith, within)) in (
        record {
          there = get_kept statements more index s proof.there;
          named = proof.named;
          complete = proof.complete;
          moves = proof.moves;
          told = rw prefix proof.told;
          made = rw prefix proof.made;
        },
        prefix,
      )

  -- so it is written anew as before
  all_kept : (form : Form) (bytes : List ℕ) (theorems : List PlainStatement)
      (news : List Replacement) → AllZip (IsReplacement form bytes statements) theorems news
      → AllZip (IsReplacement form bytes (statements ++ more)) theorems news
  all_kept form bytes =
      zip_weaker (IsReplacement form bytes statements)
      (IsReplacement form bytes (statements ++ more))
      (λ s new r. let (proof, prefix) = tree_kept r.proof in
      replaced_by form bytes proof (rw prefix r.laid) r.span)

  -- the first theorem whose normal proof is too long stays the first one
  long_kept : (number : ℕ) (label : List ℕ) → IsFirstTooLong statements number label
      → IsFirstTooLong (statements ++ more) number label
  long_kept number label first =
      let later : List PlainStatement = theorems_of number more in
      let split = filter-append (is_theorem_of number) statements more
      ∙ ap (λ (ss : List PlainStatement). ss ++ later) first.split
      ∙ append_assoc first.before (first.s ∷ first.after) later in
      first_too_long (statements ++ more) number label first.before first.s (first.after ++ later)
      first.bytes first.news split (all_kept Normal first.bytes first.before first.news first.fit)
      (first.index, first.root, first.below, (tree_kept first.proof).0, first.long)

-- ---- one statement more

-- one that isn't a theorem of the file; or there is one that is too long
passed_so : (taken : List PlainStatement) (s : PlainStatement) (file : NewFile)
    (kept : Option (List ℕ)) → ((kept ≡ None) → is_theorem_of file.number s ≡ false)
    → IsSoFar taken file kept → IsSoFar (taken ++ s ∷ []) file kept
passed_so taken s file (Some label) other (normal, first) =
    (normal, long_kept taken (s ∷ []) file.number label first)
passed_so taken s file None other h = record {
  replaced = h.replaced;
  each = rw (theorems_passed file.number taken s (other refl))
      (all_kept taken (s ∷ []) file.form file.source.now (theorems_of file.number taken)
      h.replaced h.each);
  bytes = h.bytes;
  up_to = h.up_to;
  put = h.put;
}

-- the same, with what it was at first
pub passed_by : (profile : Profile) (files : List PlainFile) (first file : NewFile)
    (taken : List PlainStatement) (listed : List PlainRefusal) (s : PlainStatement)
    → ¬ ((file.too_long ≡ None) × (is_theorem_of file.number s ≡ true))
    → HasWritten profile files first file taken listed
    → HasWritten profile files first file (taken ++ s ∷ []) (listed ++ [])
passed_by profile files first file taken listed s unwanted w = record {
  lenient = w.lenient;
  none = append-nil listed ∙ w.none;
  so_far = record {
    way = way_past files taken (s ∷ []) file w.so_far.way;
    so_far = passed_so taken s file (option_map (λ l. l.now) file.too_long)
        (λ short. false_from_ne_true (is_theorem_of file.number s) (λ is.
        unwanted (unmapped (λ l. l.now) file.too_long short, is))) w.so_far.so_far;
  };
  number = w.number;
  form = w.form;
}

-- where no proof is too long, those so far are replaced
replaced_so_far : (files : List PlainFile) (taken : List PlainStatement) (file : NewFile)
    → IsWrittenSoFar files taken file → file.too_long ≡ None
    → AreReplacedSoFar (IsReplacement file.form file.source.now taken) taken file
replaced_so_far files taken file w short =
    subst (λ (o : Option (List ℕ)). IsSoFar taken file o)
    (ap (option_map (λ l. l.now)) short) w.so_far

module _ {files : List PlainFile} {told : List Sentence} {id : LabelId}
    {listed : List PlainRefusal} (taken : List PlainStatement) (s : PlainStatement)
    (met : IsMet Lenient files taken listed told s (Theorem id)) (none : listed ≡ []) where
  -- a theorem
  abbrev pub theorem_met : HasForm s → IsTheoremAmong told id.0 s
  theorem_met formed = record {
    statements = taken ++ s ∷ [];
    same = met.same;
    obeyed = one_more Lenient taken s (met.obeyed none) met.came.2;
    index = length taken;
    there = get_parted taken [] s;
    number = rw (length-map taken sentence_of) at (last_number told id.0 s formed met.came.1
        (sentences taken) (met.same ∙ map-append sentence_of taken (s ∷ [])));
    complete = met.came.0;
    room = proof_fits files (taken ++ s ∷ met.left.statements) met.left.ending (length taken) s
        met.readable met.reads (get_parted taken met.left.statements s);
  }

  module _ {file : NewFile} (w : IsWrittenSoFar files taken file)
      (home : s.first.file ≡ file.number) where
    is : is_theorem_of file.number s ≡ true
    is = theorem_there file.number s met.came.0 home

    -- it stands in the file
    pub span_stands : (s.span.0 ≤ s.span.1) × (s.span.1 ≤ length file.source.now)
    span_stands =
        stands_next files taken s met.left.statements met.left.ending file met.reads
        met.came.1.provable home w.way

    -- behind what was taken
    pub span_follows : file.taken ≤ s.span.0
    span_follows =
        follows_next files taken s met.left.statements met.left.ending file met.reads
        met.came.1.provable home w.way

    -- its proof was put
    written_anew : (next : NewFile) → file.too_long ≡ None
        → HasForm s → PutsProof told id.0 file s next
        → IsWrittenSoFar files (taken ++ s ∷ []) next
    written_anew next short formed put =
        let more : List PlainStatement = taken ++ s ∷ [] in
        let old = replaced_so_far files taken file w short in
        let same = put.puts.same in
        let May : PlainStatement → Replacement → Type 0 =
        IsReplacement next.form next.source.now more in
        let so_far = replaced_next May taken s file next put.text is old.replaced
        (rw (same.form, same.source)
        (all_kept taken (s ∷ []) file.form file.source.now _ _ old.each)) old.bytes old.up_to
        old.put put.puts (rw (same.form, same.source) (put.anew (theorem_met formed))) in
        record {
          way = way_next files taken s met.left.statements met.left.ending file met.reads
              met.came.1.provable home w.way next put.text put.puts;
          so_far = rw (ap (option_map (λ l. l.now)) (put.puts.long ∙ short)) so_far;
        }

    -- its normal proof is too long
    label_kept : (next : NewFile) → file.too_long ≡ None
        → HasForm s → KeepsLabel told id.0 file s next
        → IsWrittenSoFar files (taken ++ s ∷ []) next
    label_kept next short formed kept =
        let more : List PlainStatement = taken ++ s ∷ [] in
        let old = replaced_so_far files taken file w short in
        let same = kept.same in
        let (normal, long) = kept.long in
        let (index, root, below, proof, over) = long (theorem_met formed) in
        let first = first_too_long more file.number kept.label (theorems_of file.number taken) s []
        file.source.now old.replaced (theorems_parted file.number taken s [] is)
        (simp normal at (all_kept taken (s ∷ []) file.form file.source.now _ old.replaced old.each))
        (index, root, below, proof, over) in
        let past = way_past files taken (s ∷ []) file w.way in
        record {
          way = record {
            own = past.own;
            handed = ap (slice_get files) same.number ∙ past.handed;
            source = same.source ∙ past.source;
            limit = rw (same.number, same.most) past.limit;
            within = omega (arith, past.within, kept.taken, ap length same.source);
            last = rw (same.number, kept.taken) past.last;
          };
          so_far = rw kept.kept (same.form ∙ normal, rw same.number first);
        }

    -- either was
    pub written_on : (first next : NewFile) → file.too_long ≡ None → HasForm s
        → (file.number ≡ first.number) → (file.form ≡ first.form)
        → PutsProof told id.0 file s next ⊎ KeepsLabel told id.0 file s next
        → HasWritten Lenient files first next (taken ++ s ∷ []) (listed ++ [])
    written_on first next short formed number form (inl put) = record {
      lenient = refl;
      none = append-nil listed ∙ none;
      so_far = written_anew next short formed put;
      number = put.puts.same.number ∙ number;
      form = put.puts.same.form ∙ form;
    }
    written_on first next short formed number form (inr kept) = record {
      lenient = refl;
      none = append-nil listed ∙ none;
      so_far = label_kept next short formed kept;
      number = kept.same.number ∙ number;
      form = kept.same.form ∙ form;
    }

-- ---- the end

-- all statements were seen, and none is at fault
pub all_written : (files : List PlainFile) (first file : NewFile) (p : Progress)
    → HasVisited HasWritten Lenient files first file p → IsAllWritten files first file
all_written files first file p visited =
    let none = visited.seen.none in
    let (end, same) = visited.clean none in
    (visited.statements, rw same at end.accepted, rw none at visited.seen)

-- some normal proof is too long
pub long_fault : (form : Form) (files : List PlainFile) (number : ℕ) (first file : NewFile)
    (label : List ℕ) → first.form ≡ form → first.number ≡ number
    → option_map (λ l. l.now) file.too_long ≡ Some label → IsAllWritten files first file
    → (form ≡ Normal) × (statements : List PlainStatement) × AreAccepted Lenient files statements
    × IsFirstTooLong statements number label
long_fault form files number first file label same home long (statements, accepted, all) =
    let (normal, too_long) = rw long at all.so_far.so_far in
    rw (← (all.form ∙ same), ← (all.number ∙ home)) (normal, statements, accepted, too_long)

-- each theorem is replaced by its proof in the form of the file
abbrev InForm : NewFile → List PlainStatement → (own : List ℕ) → PlainStatement → Replacement
    → Type 0
InForm file statements own = IsReplacement file.form own statements

-- what is saved of the files with the number
abbrev pub SavesAll : Form → List PlainFile → (number : ℕ) → (bytes : List ℕ) → Type 0
SavesAll form files number bytes =
    (statements : List PlainStatement) × AreAccepted Lenient files statements
    × IsAllSaved form files statements number bytes × FitsSaved files number bytes

pub all_saved : (form : Form) (files : List PlainFile) (number : ℕ) (first file : NewFile)
    (bytes : List ℕ) → first.form ≡ form → first.number ≡ number → file.too_long ≡ None
    → IsAllWritten files first file → IsWhole file bytes → length bytes ≤ file.most
    → SavesAll form files number bytes
all_saved form files number first file bytes same home short (statements, accepted, all) whole
    few =
    let w = all.so_far in
    let h = replaced_so_far files statements file w short in
    rw (← (all.form ∙ same), ← (all.number ∙ home)) (
      statements,
      accepted,
      rewritten files statements file (InForm file statements) w.way h bytes (whole h.bytes h.put),
      elim (cases_lt most_bytes (total_with files file.number bytes)) [
        | inl over ↦ absurd (omega (arith, few, (w.way.limit bytes).1 over))
        | inr within ↦ within
      ],
    )

-- or why they aren't
pub finish_fault : (form : Form) (files : List PlainFile) (number : ℕ) (first file : NewFile)
    (why : AskFault) → first.form ≡ form → first.number ≡ number → file.too_long ≡ None
    → IsAllWritten files first file → IsFinishFault file why
    → IsSavingAllFault form files number (fault.Ask why)
finish_fault form files number first file why same home short (statements, accepted, all) ended =
    rw (← (all.form ∙ same), ← (all.number ∙ home)) (
      statements,
      accepted,
      rewrite_fault files statements file (InForm file statements) all.so_far.way
          (replaced_so_far files statements file all.so_far short) why ended,
    )
