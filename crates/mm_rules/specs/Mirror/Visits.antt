-- What is known of a visitor on the way through a database. This file mirrors the code, and is
-- cited by private contracts alone.
use Rattle.std.specs.Prelude.{◌≡◌, List, [], ◌∷◌, ◌++◌, true, false}
use Rattle.mm_base.specs.Statement.{PlainStatement}
use Rattle.mm_text.specs.Files.{PlainFile}
use Rattle.mm_text.specs.Reading.{Reads}
use Rattle.mm_text.specs.Remaining.{Remaining}
use Rattle.mm_frame.specs.Sentence.{Sentence}
use Rattle.mm_step.specs.declared.profile.Profile.{Profile}
use Rattle.mm_rules.specs.declared.fault.Stop.{Stop}
use Rattle.mm_rules.specs.declared.fault.Stop.TheVariants as stop
use Rattle.mm_rules.specs.declared.judge.Judged.{Judged}
use Rattle.mm_rules.specs.declared.judge.Judged.TheVariants.{Theorem, Other, Faulty}
use Rattle.mm_rules.specs.Verdict.{PlainRefusal, AllObey, CanBeRead, Obeys}
use Rattle.mm_rules.specs.Verdict.{is_proof, sentences}
use Rattle.mm_rules.specs.Answer.{plain_refusal}
use Rattle.mm_rules.specs.Faults.{IsProofRefusal}
use Rattle.mm_rules.specs.Mirror.Judged.{IsLastProof}

-- what a visitor is after these statements of the files, of which these refusals are listed, since
-- a first state
abbrev pub Seeing : Type 0 → Type 1
Seeing V =
    Profile → List PlainFile → (first now : V) → List PlainStatement → List PlainRefusal → Type 0

-- ---- one statement

-- The statement came to this, after those before it: a theorem with this number, or another
-- statement, which obeys the rules; or this is the refusal for the fault of its proof. This is what
-- all of them say.
abbrev pub ComesTo : Profile → List PlainFile → (before : List PlainStatement) → List Sentence
    → PlainStatement → Judged → Type 0
ComesTo profile files before told s (Theorem id) =
    (is_proof s ≡ true) × IsLastProof told id.0 s × Obeys profile (sentences before) s
ComesTo profile files before told s Other =
    (is_proof s ≡ false) × Obeys profile (sentences before) s
ComesTo profile files before told s (Faulty refusal) =
    IsProofRefusal profile files before s (plain_refusal refusal)

-- the refusal of a statement that came to this, if there is one
abbrev pub refusals_in : Judged → List PlainRefusal
refusals_in (Theorem id) = []
refusals_in Other = []
refusals_in (Faulty refusal) = plain_refusal refusal ∷ []

-- The statement comes next in the files after these, and came to this; and this is what all of them
-- say. Where none of those before it is listed, they obey the rules.
pub record IsMet (profile : Profile) (files : List PlainFile) (taken : List PlainStatement)
    (listed : List PlainRefusal) (told : List Sentence) (s : PlainStatement)
    (judged : Judged) : Type 0 where
  pub readable : CanBeRead files
  pub left : Remaining
  pub reads : Reads files (taken ++ s ∷ left.statements) left.ending
  pub obeyed : listed ≡ [] → AllObey profile taken
  pub same : told ≡ sentences (taken ++ s ∷ [])
  pub came : ComesTo profile files taken told s judged

-- it is met next by a visitor that has seen these
pub record IsSeenNext {V : Type 0} (has_seen : Seeing V) (now : V) (told : List Sentence)
    (s : PlainStatement) (judged : Judged) : Type 0 where
  pub profile : Profile
  pub files : List PlainFile
  pub first : V
  pub taken : List PlainStatement
  pub listed : List PlainRefusal
  pub met : IsMet profile files taken listed told s judged
  pub seen : has_seen profile files first now taken listed

-- the statement takes the visitor from the one state to the other, wherever it is met
abbrev pub Sees : {V : Type 0} → Seeing V → (old : V) → List Sentence → PlainStatement → Judged
    → (new : V) → Type 0
Sees {V} has_seen old told s judged new =
    (profile : Profile) (files : List PlainFile) (first : V) (taken : List PlainStatement)
    (listed : List PlainRefusal) → IsMet profile files taken listed told s judged
    → has_seen profile files first old taken listed
    → has_seen profile files first new (taken ++ s ∷ []) (listed ++ refusals_in judged)

-- the visitor stops at the statement, if it may, for the fault of its proof, and is as it was; or
-- memory ran out
abbrev pub StopsAt : {V : Type 0} → (may_stop : Type 0) → (old : V) → Judged → (new : V) → Stop
    → Type 0
StopsAt may_stop old judged new (stop.Refused refusal) =
    may_stop × (judged ≡ Faulty refusal) × (new ≡ old)
StopsAt may_stop old judged new stop.Memory = Unit {0}
