-- What is told of a handed text as a proof of the theorem, and a test of each of its tokens.
use Rattle.std.proofs.Common.{◌≡◌, ℕ, Bool, List}
use Rattle.std.proofs.Common.{take, sym, subst}
use Rattle.std.proofs.Common.{◌↔◌, ◌⊎◌, IsTrue, inl, inr}
use Rattle.std.proofs.Common.{refl}
use Rattle.mm_code.specs.Words.{tokens_in}
use Rattle.mm_render.specs.Mirror.Comparisons.{FailsAs, IsUnproved, IsTextRefused}
use Rattle.mm_render.specs.Mirror.Comparisons.{IsComparedWith}
use Rattle.mm_base.specs.Statement.{PlainStatement}
use Rattle.mm_frame.specs.Sentence.{Sentence, sentence_of}
use Rattle.mm_step.specs.declared.fault.ProofRule.{ProofRule}
use Rattle.mm_step.specs.declared.fault.ProofFault.{ProofFault}
use Rattle.mm_step.specs.declared.profile.Profile.{Profile}
use Rattle.mm_step.specs.Profiles.{limit_of}
use Rattle.mm_step.specs.Moves.{Move}
use Rattle.mm_forms.specs.OneTree.{MakeSameTree}
use Rattle.mm_step.specs.Steps.{AreNumberedMoves}
use Rattle.mm_proof.specs.ReadSteps.{ReadSteps}
use Rattle.mm_proof.specs.Parsed.{OfProof}
use Rattle.mm_proof.specs.Verified.{OfMoves, FailsWith}
use Rattle.mm_step.specs.Proof.{IsWithin}
use Rattle.mm_proof.specs.Proof.{Prove}
use Rattle.mm_proof.specs.Strict.{HasFormOf}
use Rattle.mm_proof.specs.UnderProfile.{IsProvedUnder}
use Rattle.mm_rules.specs.declared.ask.AskFault.{AskFault}
use Rattle.mm_rules.specs.Verdict.{sentences}
use Rattle.mm_rules.specs.Rests.{IsAskFault}
use Rattle.mm_rules.specs.Compared.{IsProofText, text_fault, IsSameFault}
use Rattle.mm_render.specs.Compared.{IsCompared}
use Rattle.mm_render.specs.Mirror.Theorems.{SayWholeSteps}
use Rattle.mm_verdict.specs.Mirror.Theorems.{AreProvedSteps, AreStepsOf}
use Rattle.mm_verdict.proofs.Questions.AskedTheorems.{map-take, of_theorem}
use Rattle.mm_step.specs.declared.fault.ProofFault.TheVariants as proof_faults
use Rattle.mm_rules.specs.declared.ask.AskFault.TheVariants as ask
use Rattle.mm_rules.specs.declared.rule.Rule.TheVariants as rules

-- ==== what is told of a handed text is told of it as a proof of the theorem

-- the tokens have the form that the profile demands of a proof of the `$p` with this number
abbrev pub HaveForm : Profile → List Sentence → (id : ℕ) → (tokens : List (List ℕ)) → Type 0
HaveForm profile st id tokens =
    OfProof st id (λ index s. HasFormOf profile (take index st) s tokens)

-- ---- a fault of the handed proof

pub fails_as : (e : ProofFault) (P : ProofRule → ℕ → Type 0) → ((rule : ProofRule) (step : ℕ) → e ≡ proof_faults.Rule rule step → P rule step)
    → (text_fault e ≡ ask.Memory) ⊎ ((rule : ProofRule) × (step : ℕ) × (text_fault e ≡ ask.Text (rules.Proof rule) step) × P rule step)
fails_as (proof_faults.Rule rule step) P tells = inr (rule, step, refl, tells rule step refl)
fails_as proof_faults.Memory P tells = inl refl

-- where the moves fail, the tokens do
pub unproved_of : (profile : Profile) (st : List Sentence) (id : ℕ) (tokens : List (List ℕ))
    (steps : ReadSteps) (fault : AskFault) → steps.profile ≡ profile
    → SayWholeSteps st id tokens steps.moves → HaveForm profile st id tokens
    → FailsAs st id steps fault → IsUnproved profile st id tokens fault
unproved_of profile st id tokens steps fault under said form (inl memory) = inl memory
unproved_of profile st id tokens steps fault under said form (inr (rule, step, is, fails)) =
    inr (
      rule,
      step,
      is,
      λ index s number.
          let told = said index s number in
          let fault : FailsWith (limit_of profile) st index s told.1 rule step =
          rw under at (fails index s told.1 number told.3) in
          inr (told.0, form index s number, told.1, told.2, fault),
    )

-- ---- a fault of the handed text

pub text_refused : (profile : Profile) (st : List Sentence) (id : ℕ) (text : List ℕ)
    (fault : AskFault) → IsProofText text → IsUnproved profile st id (tokens_in text) fault
    → IsTextRefused profile st id text fault
text_refused profile st id text fault legal (inl memory) = inl memory
text_refused profile st id text fault legal (inr (rule, step, is, fails)) =
    inr (
      rules.Proof rule,
      step,
      is,
      λ index s number.
          inr (legal, rule, refl, fails index s number),
    )

-- ---- the comparison

pub compared_with : (profile : Profile) (st : List Sentence) (id : ℕ) (own : List (Move ℕ))
    (steps : ReadSteps) (text : List ℕ) (same : Bool) → IsProofText text
    → steps.profile ≡ profile → SayWholeSteps st id (tokens_in text) steps.moves
    → HaveForm profile st id (tokens_in text) → AreProvedSteps st id steps
    → OfMoves st id own (λ index s moves. (others : List (Move (List ℕ)))
    → AreNumberedMoves st steps.moves others
    → IsTrue same ↔ MakeSameTree (take index st) moves others)
    → IsComparedWith profile st id own text same
compared_with profile st id own steps text same legal under said form proved told = (
  legal,
  λ index s moves number numbered.
      let says = said index s number in
      let proves : Prove (IsWithin (limit_of profile)) (take index st) s says.1 =
      rw under at (proved index s says.1 number says.3) in (
        (
          form index s number,
          record { whole = says.0; moves = says.1; said = says.2; proves = proves },
        ),
        told index s moves number numbered says.1 says.3,
      ),
)

-- ---- told of the theorem

pub compared_of : (profile : Profile) (ss : List Sentence) (statements : List PlainStatement)
    (label : List ℕ) (id : ℕ) (steps : List (Move ℕ)) (text : List ℕ) (same : Bool)
    → ss ≡ sentences statements → AreStepsOf statements label id steps
    → IsComparedWith profile ss id steps text same → IsCompared profile statements label text same
compared_of profile ss statements label id steps text same is r compared =
    let told = of_theorem ss statements label id steps
    (λ before s moves. (p : IsProvedUnder profile before s (tokens_in text))
    × (IsTrue same ↔ MakeSameTree before moves p.1.moves)) is r compared.1 in
    record {
      index = r.index;
      s = r.s;
      theorem = record { there = r.there; named = r.named; complete = r.complete };
      moves = r.moves;
      told = r.told;
      legal = compared.0;
      proved = told.0;
      answer = told.1;
    }

pub same_fault : (profile : Profile) (ss : List Sentence) (statements : List PlainStatement)
    (label : List ℕ) (id : ℕ) (steps : List (Move ℕ)) (text : List ℕ) (fault : AskFault)
    → ss ≡ sentences statements → AreStepsOf statements label id steps
    → IsTextRefused profile ss id text fault → IsSameFault profile statements label text fault
same_fault profile ss statements label id steps text fault is r (inl memory) =
    subst (IsSameFault profile statements label text) (sym memory) tt
same_fault profile ss statements label id steps text fault is r (inr (rule, step, told, refused)) =
    let here = rw is at refused in
    let broken =
    rw (← map-take r.index statements) at (here r.index (sentence_of r.s) r.number) in
    subst (IsSameFault profile statements label text) (sym told)
    (r.index, r.s, record { there = r.there; named = r.named; complete = r.complete }, broken)

pub asked_fault : (profile : Profile) (statements : List PlainStatement) (label text : List ℕ)
    (fault : AskFault) → IsAskFault statements label fault
    → IsSameFault profile statements label text fault
asked_fault profile statements label text (ask.Text rule step) h = absurd h
asked_fault profile statements label text _ h = h
