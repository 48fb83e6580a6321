-- The reply: of files that don't get yes, and of files that do. On this file rest the contracts of
-- `reply`.
use Rattle.std.proofs.Common.{◌≡◌, ◌<◌, ℕ, List, [], ◌∷◌, None, Ok, Err}
use Rattle.std.proofs.Common.{IfSome, inr, length, refl, subst, sym}
use Rattle.std.specs.List.{AllByRecursion}
use Rattle.mm_base.specs.Statement.{PlainStatement}
use Rattle.mm_base.proofs.Lists.{all_within}
use Rattle.mm_frame.specs.Sentence.{Sentence}
use Rattle.mm_frame.proofs.Names.LabelNumbers.{numbered_within}
use Rattle.mm_text.specs.Files.{PlainFile}
use Rattle.mm_text.specs.Reading.{Reads}
use Rattle.mm_step.specs.declared.profile.Profile.{Profile}
use Rattle.mm_rules.specs.Answer.{IsVerdict, KeepsUses, plain_refusal, verdict_of_answer}
use Rattle.mm_rules.specs.Answer.{verdict_of_conclusion, verdict_where_incomplete}
use Rattle.mm_rules.proofs.Numbers.{count_labelled}
use Rattle.mm_rules.specs.Conclusion.{Conclusion, labels_in}
use Rattle.mm_rules.specs.Rests.{AreInOrder}
use Rattle.mm_rules.specs.declared.fault.CheckFault.{CheckFault}
use Rattle.mm_rules.specs.declared.fault.CheckFault.TheVariants as check
use Rattle.mm_rules.specs.Verdict.{HasVerdict, Load, Refused, sentences}
use Rattle.mm_verdict.specs.Reply.{Tells, status_of}
use Rattle.mm_verdict.proofs.Verdicts.AcceptedStatements.{KeptWell, read_statements}
use Rattle.mm_verdict.proofs.Verdicts.StatementByStatement.{all_meant}
use Rattle.mm_alike.specs.declared.database.Database.{Database}
use Rattle.mm_diff.specs.Diff.{AreRenamed, AreTold, IsMissing, IsMoved}
use Rattle.mm_alike.specs.Alike.{IsAssertionNamed, IsChanged}
use Rattle.mm_diff.specs.Diff.{IsRenamed, PlainChanges, changes_status, changes_text}
use Rattle.mm_diff.specs.Reply.{AreRefused, HaveYes, IsRefusal, IsReplyBeside, IsDiffReply}
use Rattle.mm_alike.specs.Mirror.Databases.{AreReproved}
use Rattle.mm_diff.specs.Mirror.Outcomes.{AreChangesIn, TellsChangesIn}
use Rattle.mm_diff.specs.Mirror.Changes.{AreWithin}
use Rattle.mm_diff.specs.Mirror.Depends.{TellsFurther, TellsLess}
use Rattle.mm_diff.specs.Mirror.Outcomes.{IsOfFiles}
use Rattle.mm_diff.proofs.ToldDependences.{further_told, further_within, less_told, less_within}

-- ---- files that don't get yes

-- something is at fault
pub refused_told : (profile : Profile) (files : List PlainFile) (fault : CheckFault) (text : List ℕ)
    (status : ℕ) → IsVerdict profile files (Err fault) → Tells files (Err fault) text
    → IfSome (verdict_of_answer (Err fault)) (λ verdict. status ≡ status_of verdict)
    → AreRefused profile files text status
refused_told profile files (check.Load rule) text status holds told ends = record {
  verdict = Load rule;
  holds = holds (Load rule) refl;
  refuses = tt;
  said = told;
  ends = ends;
}
refused_told profile files (check.Refused refusal) text status holds told ends = record {
  verdict = Refused (plain_refusal refusal);
  holds = holds (Refused (plain_refusal refusal)) refl;
  refuses = tt;
  said = told;
  ends = ends;
}
refused_told profile files check.Memory text status holds told ends = absurd told

some_incomplete : (c : Conclusion) (numbers : List ℕ) → ¬ (numbers ≡ [])
    → IsRefusal (verdict_where_incomplete c numbers)
some_incomplete c [] some = absurd (some refl)
some_incomplete c (n ∷ numbers) some = tt

-- a proof is incomplete
pub incomplete_told : (profile : Profile) (files : List PlainFile) (c : Conclusion)
    (text : List ℕ) (status : ℕ) → ¬ (c.incomplete ≡ []) → IsVerdict profile files (Ok c)
    → Tells files (Ok c) text → status ≡ status_of (verdict_of_conclusion c)
    → AreRefused profile files text status
incomplete_told profile files c text status some holds told ends = record {
  verdict = verdict_of_conclusion c;
  holds = holds (verdict_of_conclusion c) refl;
  refuses = some_incomplete c c.incomplete some;
  said = told;
  ends = ends;
}

-- ---- files that do

yes_by : (profile : Profile) (files : List PlainFile) (c : Conclusion) (numbers : List ℕ)
    → numbers ≡ [] → HasVerdict profile files (verdict_where_incomplete c numbers)
    → (statements : List PlainStatement) × HaveYes profile files statements
yes_by profile files c [] is told = (told.0, (told.1, told.2))
yes_by profile files c (n ∷ numbers) is told = absurd (cc)

-- the statements of the files, which say what is kept of them
pub yes_told : (profile : Profile) (files : List PlainFile) (c : Conclusion) → c.incomplete ≡ []
    → IsVerdict profile files (Ok c) → KeepsUses files c
    → (statements : List PlainStatement) × HaveYes profile files statements
    × (c.sentences ≡ sentences statements)
yes_told profile files c none holds keeps =
    let (statements, (accepted, proved)) =
    yes_by profile files c c.incomplete none (holds (verdict_of_conclusion c) refl) in
    (statements, (accepted, proved), (keeps statements None accepted.reads).sentences)

-- what changed is told of the statements of the new files
pub told_beside : (profile : Profile) (c : Conclusion) (new : List PlainFile)
    (database : Database) (text : List ℕ) (status : ℕ) → IsOfFiles profile new database
    → TellsChangesIn c database.checked text status → (before : List PlainStatement)
    → Reads c.files before None → IsReplyBeside profile before new text status
told_beside profile c new database text status of tells before reads =
    inr (
      of.statements,
      of.yes,
      tells before of.statements reads
          (subst (λ (fs : List PlainFile). Reads fs of.statements None) (sym of.kept)
          of.yes.0.reads),
    )

-- and of those of the old ones
pub told_of_both : (profile : Profile) (old new : List PlainFile) (database : Database)
    (text : List ℕ) (status : ℕ) → IsOfFiles profile old database
    → ((before : List PlainStatement) → Reads database.checked.files before None
    → IsReplyBeside profile before new text status) → IsDiffReply profile old new text status
told_of_both profile old new database text status of beside =
    inr (
      of.statements,
      of.yes,
      beside of.statements
          (subst (λ (fs : List PlainFile). Reads fs of.statements None) (sym of.kept)
          of.yes.0.reads),
    )

-- ---- what changed

-- what is reproved is told of two databases
pub reproved_within : (c d : Conclusion) (ids : List ℕ) → KeptWell c → KeptWell d
    → AreReproved c d ids → AllByRecursion (λ n. n < length (labels_in c.sentences)) ids
reproved_within c d ids well well_too are =
    let order = are well.origin.statements well_too.origin.statements
    well.origin.accepted.reads well_too.origin.accepted.reads in
    let st : List Sentence = sentences well.origin.statements in
    subst (λ (ss : List Sentence). AllByRecursion (λ n. n < length (labels_in ss)) ids)
    (sym well.origin.sentences)
    (all_within (λ n. n < length (labels_in st)) ids (λ n h.
    let named = ((order.each n).0 h).1 in
    subst (λ (k : ℕ). n < k) (count_labelled (λ (u : Sentence). u.label) st)
    (numbered_within st n named.0 named.1 named.2)))

-- numbers of assertions are those of labels
named_within : (c : Conclusion) (P : ℕ → Type 0) (ids : List ℕ) → AreInOrder P ids
    → ((n : ℕ) → P n → (label : List ℕ) × IsAssertionNamed c.sentences label n)
    → AllByRecursion (λ n. n < length (labels_in c.sentences)) ids
named_within c P ids order asserts =
    all_within (λ n. n < length (labels_in c.sentences)) ids (λ n h.
    let (label, named) = asserts n ((order.each n).0 h) in
    let (index, s, numbered, stands, is) = named in
    subst (λ (k : ℕ). n < k) (count_labelled (λ (u : Sentence). u.label) c.sentences)
    (numbered_within c.sentences n index s numbered))

-- what holds of each of a list holds of it otherwise
all_weaker : {X : Type 0} (P Q : X → Type 0) (xs : List X) → ((x : X) → P x → Q x)
    → AllByRecursion P xs → AllByRecursion Q xs
all_weaker P Q [] weaker all = tt
all_weaker P Q (x ∷ xs) weaker all = (weaker x all.0, all_weaker P Q xs weaker all.1)

-- so are those of pairs
renamed_within : (c d : Conclusion) (pairs : List (ℕ × ℕ))
    → AreRenamed c.sentences d.sentences pairs
    → AllByRecursion (λ p. (p.0 < length (labels_in c.sentences))
    × (p.1 < length (labels_in d.sentences))) pairs
renamed_within c d pairs are =
    all_weaker (λ p. IsRenamed c.sentences d.sentences p.0 p.1)
    (λ p. (p.0 < length (labels_in c.sentences)) × (p.1 < length (labels_in d.sentences))) pairs
    (λ p both.
    let (label, (index, s, numbered, named, asserts), alone) = both.1.0 in
    let (name, (place, t, at, stands, is), lonely) = both.0.0 in (
      subst (λ (k : ℕ). p.0 < k) (count_labelled (λ (u : Sentence). u.label) c.sentences)
          (numbered_within c.sentences p.0 index s numbered),
      subst (λ (k : ℕ). p.1 < k) (count_labelled (λ (u : Sentence). u.label) d.sentences)
          (numbered_within d.sentences p.1 place t at),
    )) are.each

-- what is known of changes by what is kept of two databases
pub record AreKeptChanges (c d : Conclusion) (changes : PlainChanges) : Type 0 where
  pub are_gone : AreInOrder (IsMissing c.sentences d.sentences) changes.gone
  pub are_added : AreInOrder (IsMissing d.sentences c.sentences) changes.added
  pub are_changed : AreInOrder (IsChanged d.sentences c.sentences) changes.changed
  pub are_reproved : AreReproved d c changes.reproved
  pub are_renamed : AreRenamed c.sentences d.sentences changes.renamed
  pub are_moved : AreInOrder (IsMoved c.sentences d.sentences) changes.moved
  pub are_further : AreTold (TellsFurther c d) changes.further
  pub are_less : AreTold (TellsLess c d) changes.less

-- all changes
pub changes_told : (c d : Conclusion) (changes : PlainChanges) → KeptWell c → KeptWell d
    → AreKeptChanges c d changes → AreChangesIn c d changes
changes_told c d changes well well_too kept before after reads reads_too =
    let own = read_statements c before well.origin reads in
    let own_too = read_statements d after well_too.origin reads_too in
    let here = own.kept.sentences in
    let there = own_too.kept.sentences in
    let meant = all_meant c.profile before own.accepted.obeyed in
    let meant_too = all_meant d.profile after own_too.accepted.obeyed in
    record {
      are_gone = rw (here, there) at kept.are_gone;
      are_added = rw (here, there) at kept.are_added;
      are_changed = rw (here, there) at kept.are_changed;
      are_reproved = kept.are_reproved after before reads_too reads;
      are_renamed = rw (here, there) at kept.are_renamed;
      are_moved = rw (here, there) at kept.are_moved;
      are_further =
          further_told c d before after own.kept own_too.kept meant meant_too changes.further
          kept.are_further;
      are_less =
          less_told c d before after own.kept own_too.kept meant meant_too changes.less
          kept.are_less;
    }

-- their numbers are those of labels
pub changes_within : (c d : Conclusion) (changes : PlainChanges) → KeptWell c → KeptWell d
    → AreKeptChanges c d changes
    → AreWithin (labels_in c.sentences) (labels_in d.sentences) changes
changes_within c d changes well well_too kept = record {
  gone =
      named_within c (IsMissing c.sentences d.sentences) changes.gone kept.are_gone
      (λ n missing. (missing.0.0, missing.0.1));
  added =
      named_within d (IsMissing d.sentences c.sentences) changes.added kept.are_added
      (λ n missing. (missing.0.0, missing.0.1));
  changed =
      named_within d (IsChanged d.sentences c.sentences) changes.changed kept.are_changed
      (λ n (label, named, m, there, apart). (label, named));
  reproved = reproved_within d c changes.reproved well_too well kept.are_reproved;
  renamed = renamed_within c d changes.renamed kept.are_renamed;
  moved =
      named_within d (IsMoved c.sentences d.sentences) changes.moved kept.are_moved
      (λ n moved. let (place, label, named, former, there, was) = moved.places in (label, named));
  further = further_within c d changes.further kept.are_further;
  less = less_within c d changes.less kept.are_less;
}

-- the text and the status of them
pub reply_told : (c d : Conclusion) (changes : PlainChanges) (text : List ℕ) (status : ℕ)
    → KeptWell c → KeptWell d → AreChangesIn c d changes
    → text ≡ changes_text (labels_in c.sentences) (labels_in d.sentences) changes
    → status ≡ changes_status changes → TellsChangesIn c d text status
reply_told c d changes text status well well_too are said ends before after reads reads_too =
    let here = (read_statements c before well.origin reads).kept.sentences in
    let there = (read_statements d after well_too.origin reads_too).kept.sentences in
    record {
      changes = changes;
      are = are before after reads reads_too;
      said = rw (here, there) at said;
      ends = ends;
    }
