-- Two versions as they are read, and what is told of them. Begin with `diff_over`.
use Rattle.std.proofs.Common.{◌≡◌, ℕ, ◌≤◌, List, length, map, take}
use Rattle.std.proofs.Common.{None, inl, inr, refl, sym, subst, ◌∙◌, arith}
use Rattle.std.specs.List.{AllZip}
use Rattle.mm_base.specs.MostBytes.{most_bytes}
use Rattle.mm_base.specs.Statement.{PlainStatement}
use Rattle.mm_text.specs.Alike.{AreAlike, statement_on}
use Rattle.mm_text.specs.Files.{PlainFile, total_bytes}
use Rattle.mm_text.specs.Included.{AlikeFilesLeaveOutTheSame}
use Rattle.mm_text.specs.LineNumbers.{feeds_in}
use Rattle.mm_text.specs.Reading.{Reads}
use Rattle.mm_text.proofs.Alike.AlikeItems.{alike_files_are_read_alike}
use Rattle.mm_frame.proofs.Names.NameNumbers.{get_alike}
use Rattle.mm_step.specs.declared.fault.ProofRule.TheVariants.{L1}
use Rattle.mm_step.specs.declared.profile.Profile.{Profile}
use Rattle.mm_step.specs.declared.profile.Profile.TheVariants.{Lenient}
use Rattle.mm_rules.specs.Verdict.{HasVerdict, Incomplete, Load, Refused, Verdict, Yes}
use Rattle.mm_rules.specs.Verdict.{proofs_of, sentences}
use Rattle.mm_rules.specs.declared.rule.Rule.{Rule}
use Rattle.mm_rules.specs.declared.rule.Rule.TheVariants as rules
use Rattle.mm_verdict.specs.Reply.{refusal_status, status_of, text_of}
use Rattle.mm_verdict.proofs.Verdicts.AcceptedStatements.{same_reading}
use Rattle.mm_verdict.proofs.FileBytes.StatementsInFiles.{alike_at, tree_carried, Carries}
use Rattle.mm_diff.specs.Laws.{HaveSameTrees}
use Rattle.mm_diff.specs.Reply.{AreRefused, HaveYes, IsDiffReply, IsRefusal, IsReplyBeside}
use Rattle.mm_diff.proofs.DiffLaws.{tells_carried}
use Rattle.mm_check.specs.Alike.{AlikeFilesHaveOneReply}
use Rattle.mm_check.specs.Reply.{IsReply}
use Rattle.mm_verdict.proofs.AlikeVerdicts.{same_proof, same_sentence, same_sentences}
use Rattle.mm_serve.proofs.FilesRead.{alike_files, fewer_bytes, files_noted_over, same_files}
use Rattle.mm_serve.specs.Answer.{Outcome}
use Rattle.mm_serve.specs.Folder.{IsFileFault, KnownFile}
use Rattle.mm_serve.specs.Notes.{AreNotesOn}
use Rattle.mm_serve.specs.ReadFiles.{IsReadAs}
use Rattle.mm_serve.specs.Versions.{AreNotesOnBoth, AreTaken, IsDiffReplyOver, IsVersionFault}
use Rattle.mm_serve.specs.declared.files.Comments.{Comments}
use Rattle.mm_serve.specs.declared.files.Comments.TheVariants.{Kept, LeftOut}
use Rattle.mm_serve.specs.declared.files.FileFault.{FileFault}
use Rattle.mm_serve.specs.declared.files.FileFault.TheVariants.{CannotRead, Memory, TooLong}

-- ==== why not all files were read

module _ (holds : List ℕ → KnownFile) (may_fail : List ℕ → Type 0) (old new : List (List ℕ))
    (max : ℕ) where
  -- An old one wasn't.
  pub old_fault : (fault : FileFault) → IsFileFault holds may_fail old max fault
      → IsVersionFault holds may_fail old new max fault
  old_fault (CannotRead name) why = inl why
  old_fault TooLong why = inl why
  old_fault Memory why = tt

  -- The old ones were, and a new one wasn't.
  pub new_fault : (before : List PlainFile) → AreTaken holds old max before → (fault : FileFault)
      → IsFileFault holds may_fail new max fault → IsVersionFault holds may_fail old new max fault
  new_fault before taken (CannotRead name) why = inr (before, taken, why)
  new_fault before taken TooLong why = inr (before, taken, why)
  new_fault before taken Memory why = tt

-- ==== what is told of files that show the same

-- ---- files that don't get yes

-- the status of a refusal isn't 0
refused_not_done : (rule : Rule) → refusal_status rule ≡ 0 → ⊥
refused_not_done (rules.Proof L1) is = absurd (omega arith)
refused_not_done rule is = absurd (omega arith)

not_done : (verdict : Verdict) → IsRefusal verdict → status_of verdict ≡ 0 → ⊥
not_done (Load rule) refusal is = absurd (omega arith)
not_done (Refused refused) refusal is = refused_not_done refused.rule is
not_done (Incomplete labels) refusal is = absurd (omega arith)
not_done (Yes count proofs) refusal is = absurd refusal

-- a verdict of another status is a refusal
refuses : (verdict : Verdict) → (status_of verdict ≡ 0 → ⊥) → IsRefusal verdict
refuses (Load rule) other = tt
refuses (Refused refused) other = tt
refuses (Incomplete labels) other = tt
refuses (Yes count proofs) other = absurd (other refl)

-- Statements that differ in positions alone say the same, and their proofs spell the same trees.
carries_alike : (h k : ℕ → ℕ → ℕ) (ss us : List PlainStatement)
    → map (statement_on h) ss ≡ map (statement_on k) us → Carries ss us
carries_alike h k ss us is = record {
  told = same_sentences h k ss us is;
  at = λ index s there.
      let (t, at, same) = get_alike (statement_on h) (statement_on k) ss us index s is there in (
        t,
        at,
        alike_at (sentences (take index ss)) s t (same_sentence h k s t (sym same))
            (same_proof h k s t (sym same)),
      );
}

trees_alike : (h k : ℕ → ℕ → ℕ) (ss us : List PlainStatement)
    → map (statement_on h) ss ≡ map (statement_on k) us → HaveSameTrees ss us
trees_alike h k ss us is = record {
  said = same_sentences h k ss us is;
  trees = λ id index t. (
    tree_carried ss us id index t (carries_alike h k ss us is),
    tree_carried us ss id index t (carries_alike k h us ss (sym is)),
  );
}

module _ (law : AlikeFilesHaveOneReply) (profile : Profile) (files others : List PlainFile)
    (alike : AllZip AreAlike files others) (small : total_bytes files ≤ most_bytes)
    (short : total_bytes others ≤ most_bytes) where
  -- Others that show the same get the same reply.
  refused_alike : (text : List ℕ) (status : ℕ) → AreRefused profile files text status
      → AreRefused profile others text status
  refused_alike text status refused =
      let reply : IsReply profile files text status = record {
        verdict = refused.verdict;
        holds = refused.holds;
        said = refused.said;
        ends = refused.ends;
      } in
      let other = law profile files others alike small short text status reply in
      record {
        verdict = other.verdict;
        holds = other.holds;
        refuses = refuses other.verdict
            (λ is. not_done refused.verdict refused.refuses (sym refused.ends ∙ other.ends ∙ is));
        said = other.said;
        ends = other.ends;
      }

  -- ---- files that do

  -- others of whose verdict the status is 0 get yes
  yes_of : (statements : List PlainStatement) → Reads files statements None → (verdict : Verdict)
      → HasVerdict profile others verdict → status_of verdict ≡ 0
      → (same : List PlainStatement) × HaveYes profile others same
      × HaveSameTrees statements same
  yes_of statements reads (Load rule) holds is = absurd (omega arith)
  yes_of statements reads (Refused refused) holds is =
      absurd (refused_not_done refused.rule is)
  yes_of statements reads (Incomplete labels) holds is = absurd (omega arith)
  yes_of statements reads (Yes count proofs) (same, accepted, proved, counted, proofs_counted) is =
      let read = alike_files_are_read_alike files others alike statements None reads in
      let one = (same_reading others read.same same read.end None read.reads accepted.reads).0 in (
        same,
        (accepted, proved),
        subst (λ (ss : List PlainStatement). HaveSameTrees statements ss) one
            (trees_alike (feeds_in files) (feeds_in others) statements read.same read.spelled),
      )

  -- Others that show the same get yes too, and their statements say the same, with the same trees.
  yes_alike : (statements : List PlainStatement) → HaveYes profile files statements
      → (same : List PlainStatement) × HaveYes profile others same
      × HaveSameTrees statements same
  yes_alike statements (accepted, proved) =
      let verdict : Verdict = Yes (length statements) (proofs_of statements) in
      let reply : IsReply profile files (text_of files verdict) 0 = record {
        verdict = verdict;
        holds = (statements, accepted, proved, refl, refl);
        said = refl;
        ends = refl;
      } in
      let other = law profile files others alike small short (text_of files verdict) 0 reply in
      yes_of statements accepted.reads other.verdict other.holds (sym other.ends)

-- ---- the reply

module _ (law : AlikeFilesHaveOneReply) (profile : Profile) (old olds new news : List PlainFile)
    (alike : AllZip AreAlike old olds) (small : total_bytes old ≤ most_bytes)
    (short : total_bytes olds ≤ most_bytes) (alike_too : AllZip AreAlike new news)
    (small_too : total_bytes new ≤ most_bytes) (short_too : total_bytes news ≤ most_bytes)
    (text : List ℕ) (status : ℕ) where
  beside_alike : (before befores : List PlainStatement) → HaveSameTrees before befores
      → IsReplyBeside profile before new text status
      → IsReplyBeside profile befores news text status
  beside_alike before befores own (inl refused) =
      inl (refused_alike law profile new news alike_too small_too short_too text status refused)
  beside_alike before befores own (inr (after, whole, tells)) =
      let (same, got, says) =
      yes_alike law profile new news alike_too small_too short_too after whole in
      inr (same, got, tells_carried before befores after same text status own says tells)

  -- Of versions that show the same, the same is told.
  diff_alike : IsDiffReply profile old new text status → IsDiffReply profile olds news text status
  diff_alike (inl refused) =
      inl (refused_alike law profile old olds alike small short text status refused)
  diff_alike (inr (before, whole, beside)) =
      let (same, got, says) = yes_alike law profile old olds alike small short before whole in
      inr (same, got, beside_alike before same says beside)

-- ==== what is told of files as they were read is told of the whole ones

module _ (comments : Comments) (max : ℕ) (only : comments ≡ LeftOut → max ≤ most_bytes) where
  -- The reply.
  pub diff_over : AlikeFilesHaveOneReply → (olds news old new : List PlainFile)
      → AllZip (IsReadAs comments) olds old → AllZip (IsReadAs comments) news new
      → total_bytes olds ≤ max → total_bytes news ≤ max → (text : List ℕ) (status : ℕ)
      → IsDiffReply Lenient old new text status → IsDiffReply Lenient olds news text status
  diff_over law olds news old new all more within few text status reply =
      by comments refl
    where
      by : (c : Comments) → comments ≡ c → IsDiffReply Lenient olds news text status
      by Kept is =
          subst (λ l. IsDiffReply Lenient l news text status) (same_files olds old (rw is at all))
          (subst (λ l. IsDiffReply Lenient old l text status) (same_files news new (rw is at more))
          reply)
      by LeftOut is =
          let most = only is in
          let all' = rw is at all in
          let more' = rw is at more in
          let fewer = fewer_bytes olds old all' in
          let fewer_too = fewer_bytes news new more' in
          diff_alike law Lenient old olds new news (alike_files olds old all')
          (omega (arith, fewer, within, most)) (omega (arith, within, most))
          (alike_files news new more') (omega (arith, fewer_too, few, most))
          (omega (arith, few, most)) text status reply

  -- The notes on the files of one version.
  noted_over : AlikeFilesLeaveOutTheSame → (wholes files : List PlainFile)
      → AllZip (IsReadAs comments) wholes files → total_bytes wholes ≤ max → (notes : List ℕ)
      → AreNotesOn files notes → AreNotesOn wholes notes
  noted_over law wholes files all within notes noted = by comments refl
    where
      by : (c : Comments) → comments ≡ c → AreNotesOn wholes notes
      by Kept is =
          subst (λ l. AreNotesOn l notes) (same_files wholes files (rw is at all)) noted
      by LeftOut is =
          let most = only is in
          files_noted_over law wholes files (rw is at all) (omega (arith, within, most)) notes noted

  -- The notes on those of both.
  pub both_noted_over : AlikeFilesLeaveOutTheSame → (olds news old new : List PlainFile)
      → AllZip (IsReadAs comments) olds old → AllZip (IsReadAs comments) news new
      → total_bytes olds ≤ max → total_bytes news ≤ max → (notes : List ℕ)
      → AreNotesOnBoth old new notes → AreNotesOnBoth olds news notes
  both_noted_over law olds news old new all more within few notes
      (first, second, one, other, is) = (
        first,
        second,
        noted_over law olds old all within first one,
        noted_over law news new more few second other,
        is,
      )

-- All that is told.
pub diff_told : (holds : List ℕ → KnownFile) (before after : List (List ℕ))
    → AlikeFilesHaveOneReply → AlikeFilesLeaveOutTheSame → (comments : Comments) (max : ℕ)
    → (comments ≡ LeftOut → max ≤ most_bytes) → (old new : List PlainFile)
    → ((olds news : List PlainFile) × AreTaken holds before max olds
    × AreTaken holds after max news × AllZip (IsReadAs comments) olds old
    × AllZip (IsReadAs comments) news new)
    → (text : List ℕ) (outcome : Outcome) → IsDiffReply Lenient old new text outcome.status
    → AreNotesOnBoth old new outcome.notes
    → IsDiffReplyOver holds before after max text outcome
diff_told holds before after law noting comments max only old new
    (olds, news, taken, taken_too, reads, reads_too) text outcome reply notes =
    inl (
      olds,
      news,
      taken,
      taken_too,
      diff_over comments max only law olds news old new reads reads_too taken.1 taken_too.1 text
          outcome.status reply,
      both_noted_over comments max only noting olds news old new reads reads_too taken.1
          taken_too.1 outcome.notes notes,
    )
