-- The printed codes of the rules.
use Rattle.std.specs.Prelude.{ℕ, List, codes}
use Rattle.mm_text.specs.RuleCodes.{load_code, text_code}
use Rattle.mm_frame.specs.RuleCodes.{meaning_code}
use Rattle.mm_step.specs.RuleCodes.{proof_code}
use Rattle.mm_rules.specs.declared.rule.AskRule.{AskRule}
use Rattle.mm_rules.specs.declared.rule.AskRule.TheVariants.{A1, A2, A3, L2}
use Rattle.mm_rules.specs.declared.rule.Rule.{Rule}
use Rattle.mm_rules.specs.declared.rule.Rule.TheVariants.{Load, Text, Meaning, Proof, Ask}

abbrev pub ask_code : AskRule → List ℕ
ask_code A1 = codes "A1"
ask_code A2 = codes "A2"
ask_code A3 = codes "A3"
ask_code L2 = codes "L2"

abbrev pub code_of : Rule → List ℕ
code_of (Load rule) = load_code rule
code_of (Text rule) = text_code rule
code_of (Meaning rule) = meaning_code rule
code_of (Proof rule) = proof_code rule
code_of (Ask rule) = ask_code rule
