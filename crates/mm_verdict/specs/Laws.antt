-- Laws of verdicts over files, and of reports.
use Rattle.std.specs.Prelude.{◌≡◌, ◌⊎◌, ℕ, List}
use Rattle.mm_base.specs.Statement.{PlainStatement}
use Rattle.mm_text.specs.Files.{PlainFile}
use Rattle.mm_step.specs.declared.fault.ProofRule.TheVariants.{P15, L1}
use Rattle.mm_step.specs.declared.profile.Profile.{Profile}
use Rattle.mm_step.specs.declared.profile.Profile.TheVariants.{Strict, Lenient}
use Rattle.mm_rules.specs.declared.rule.Rule.{Rule}
use Rattle.mm_rules.specs.declared.rule.Rule.TheVariants as rules
use Rattle.mm_rules.specs.Verdict.{PlainRefusal, Verdict, Refused, Yes, HasVerdict, AllObey}
use Rattle.mm_rules.specs.Rests.{IsReport}

-- verdicts that hold of the same files are one
abbrev pub OneVerdict : Type 0
OneVerdict =
    (profile : Profile) (files : List PlainFile) (v w : Verdict)
    → HasVerdict profile files v → HasVerdict profile files w → v ≡ w

-- some verdict holds of any files
abbrev pub SomeVerdict : Type 0
SomeVerdict =
    (profile : Profile) (files : List PlainFile) → (v : Verdict) × HasVerdict profile files v

-- the verdict in the profile is that a statement breaks this rule
abbrev pub IsRefusedBy : Profile → List PlainFile → Rule → Type 0
IsRefusedBy profile files rule =
    (refusal : PlainRefusal) × HasVerdict profile files (Refused refusal) × (refusal.rule ≡ rule)

-- Where one profile says yes, so does the other, or it names what is its own: the strict profile the
-- form of a proof, the lenient one the length of an expression.
abbrev pub BetweenProfiles : Type 0
BetweenProfiles =
    (files : List PlainFile) (statements proofs : ℕ)
    → (HasVerdict Strict files (Yes statements proofs)
    → HasVerdict Lenient files (Yes statements proofs) ⊎ IsRefusedBy Lenient files (rules.Proof L1))
    × (HasVerdict Lenient files (Yes statements proofs)
    → HasVerdict Strict files (Yes statements proofs) ⊎ IsRefusedBy Strict files (rules.Proof P15))

-- reports of what a theorem rests on are one
abbrev pub OneReport : Type 0
OneReport =
    (profile : Profile) (statements : List PlainStatement) (label : List ℕ)
    (axioms unproved others rest : List ℕ)
    → AllObey profile statements
    → IsReport statements label axioms unproved → IsReport statements label others rest
    → (axioms ≡ others) × (unproved ≡ rest)
