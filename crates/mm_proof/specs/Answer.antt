-- What an answer says.
use Rattle.std.specs.Prelude.{◌≡◌, ℕ, Result, Err, ◌⊎◌}
use Rattle.mm_step.specs.declared.fault.ProofRule.{ProofRule}
use Rattle.mm_step.specs.declared.fault.ProofFault.{ProofFault}
use Rattle.mm_step.specs.declared.fault.ProofFault.TheVariants.{Rule, Memory}

-- this holds of the fault's rule and step; where memory was refused nothing is said
abbrev pub OnRule : ProofFault → (ProofRule → ℕ → Type 0) → Type 0
OnRule (Rule rule step) P = P rule step
OnRule Memory P = Unit {0}

-- the answer is this one, unless memory was refused
abbrev pub IsUnlessMemory : {X : Type 0} → Result X ProofFault → Result X ProofFault → Type 0
IsUnlessMemory result answer = (result ≡ answer) ⊎ (result ≡ Err Memory)
