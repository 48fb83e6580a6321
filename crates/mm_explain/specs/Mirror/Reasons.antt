-- What the code knows of the faults that it has explained. This file mirrors the code, and is cited
-- by private contracts alone.
use Rattle.std.specs.Prelude.{◌≡◌, ℕ, ◌<◌, ◌≤◌, List, [], ◌∷◌, ◌++◌, map, take, length}
use Rattle.std.specs.Global.{Vec}
use Rattle.std.specs.Prelude.{Bool, true, Option}
use Rattle.std.specs.List.{AllZip, AllByRecursion}
use Rattle.mm_base.specs.Statement.{PlainStatement}
use Rattle.mm_text.specs.Files.{PlainFile, plain_file}
use Rattle.mm_text.specs.Reading.{PlainFault, Reads}
use Rattle.mm_frame.specs.Sentence.{Sentence}
use Rattle.mm_step.specs.declared.profile.Profile.{Profile}
use Rattle.mm_rules.specs.declared.fault.Refusal.{Refusal}
use Rattle.mm_explain.specs.declared.why.Reasons.{Reasons}
use Rattle.mm_explain.specs.declared.why.Unaccepted.{Unaccepted}
use Rattle.mm_explain.specs.declared.why.Unaccepted.TheVariants as why
use Rattle.mm_rules.specs.Verdict.{PlainRefusal, CanBeRead, HasVerdict, Load, sentences}
use Rattle.mm_verdict.specs.Faults.{HaveFaults}
use Rattle.mm_rules.specs.Faults.{IsProofRefusal}
use Rattle.mm_rules.specs.Answer.{plain_refusal}
use Rattle.mm_verdict.specs.Reply.{refusal_status}
use Rattle.mm_rules.specs.Status.{number_of}
use Rattle.mm_explain.specs.Mirror.Outlined.{IsKeptOutline}
use Rattle.mm_explain.specs.Why.{IsExplanation, IsLastExplanation, TellsFaults, TellsProofs}
use Rattle.mm_groups.specs.Shared.{AreLabelsAt, Labels}
use Rattle.mm_groups.specs.Mirror.Kept.{HasShared}
use Rattle.mm_groups.specs.declared.shared.Shared.{Shared}
use Rattle.mm_verdict.specs.Why.{is_of_proofs}

-- The statement was told last, and this is its refusal for the fault of its proof.
pub record IsRefusedLast (profile : Profile) (files : List PlainFile) (told : List Sentence)
    (s : PlainStatement) (refusal : PlainRefusal) : Type 0 where
  pub before : List PlainStatement
  pub after : List PlainStatement
  pub ending : Option PlainFault
  pub readable : CanBeRead files
  pub reads : Reads files (before ++ s ∷ after) ending
  pub same : told ≡ sentences (before ++ s ∷ [])
  pub refused : IsProofRefusal profile files before s refusal

-- how many explanations are kept: only in the end is it known what all refusals share
abbrev pub most_kept : ℕ
most_kept = 10

-- These are the explanations of the first of these refusals, all of which are of proofs.
pub record AreExplained (profile : Profile) (source : Bool) (files : List PlainFile)
    (refusals : List PlainRefusal) (explanations : List (List ℕ)) : Type 0 where
  pub proofs : AllByRecursion (λ r. is_of_proofs r.rule ≡ true) refusals
  pub each : AllZip (IsExplanation profile source files) (take most_kept refusals) explanations

-- what their proofs share is kept
pub record AreNoted (files : List PlainFile) (refusals : List PlainRefusal)
    (shared : Shared) : Type 0 where
  pub each : List Labels
  pub are : AllZip (AreLabelsAt files) refusals each
  pub has : HasShared each shared

-- the texts
abbrev pub texts_in : List (Vec ℕ) → List (List ℕ)
texts_in explanations = map (λ t. t.items) explanations

-- the refusals listed are those kept, what they share is kept, and they are explained
pub record HasExplained (profile : Profile) (files : List PlainFile) (first now : Reasons)
    (taken : List PlainStatement) (listed : List PlainRefusal) : Type 0 where
  pub same_profile : now.profile ≡ profile
  pub same_source : now.source ≡ first.source
  pub same_files : map plain_file now.files.now ≡ files
  pub kept : map plain_refusal now.refusals.items ≡ listed
  pub noted : AreNoted files listed now.shared
  pub explained : AreExplained profile first.source files listed (texts_in now.explanations.items)
  pub outline : IsKeptOutline files now.outline

-- The refusal is explained, with the others, unless enough are.
pub record Explains (old : Reasons) (refusal : PlainRefusal) (new : Reasons) : Type 0 where
  pub few : length old.refusals.items < most_kept
      → (text : List ℕ)
      × IsExplanation old.profile old.source (map plain_file old.files.now) refusal text
      × (texts_in new.explanations.items ≡ texts_in old.explanations.items ++ text ∷ [])
  pub many : most_kept ≤ length old.refusals.items → new.explanations ≡ old.explanations

-- The refusal of a proof is kept with the others, and so is what they share, and it is explained
-- unless enough are.
pub record Notes (old : Reasons) (refusal : Refusal) (new : Reasons) : Type 0 where
  pub same_profile : new.profile ≡ old.profile
  pub same_source : new.source ≡ old.source
  pub same_files : new.files ≡ old.files
  pub kept : new.refusals.items ≡ old.refusals.items ++ refusal ∷ []
  pub noted :
      (listed : List PlainRefusal) → AreNoted (map plain_file old.files.now) listed old.shared
      → AreNoted (map plain_file old.files.now) (listed ++ plain_refusal refusal ∷ []) new.shared
  pub explains : Explains old (plain_refusal refusal) new
  pub outline : IsKeptOutline (map plain_file old.files.now) new.outline

-- the last fault is explained, and then those of proofs are told
pub record TellsLast (profile : Profile) (source : Bool) (files : List PlainFile)
    (listed : List PlainRefusal) (last : PlainRefusal) (text : List ℕ) : Type 0 where
  pub explanation : List ℕ
  pub explains : IsLastExplanation source files last explanation
  pub proofs : List ℕ
  pub told : TellsProofs profile source files listed proofs
  pub said : text ≡ explanation ++ proofs

-- Why the files aren't accepted: they can't be taken; or this tells all faults, with the status of
-- the first; or memory ran out.
abbrev pub TellsWhy : Profile → (source : Bool) → List PlainFile → Unaccepted → Type 0
TellsWhy profile source files (why.Load rule) = HasVerdict profile files (Load rule)
TellsWhy profile source files (why.Refused text status) =
    (first : PlainRefusal) × (others : List PlainRefusal)
    × HaveFaults profile files (first ∷ others)
    × TellsFaults profile source files (first ∷ others) text.items
    × (number_of status ≡ refusal_status first.rule)
TellsWhy profile source files why.Memory = Unit {0}
