-- Why the files aren't accepted: all their faults, each with what explains it. The explanations are
-- this project's own.
use Rattle.std.specs.Prelude.{Bool, true, false}
use Rattle.mm_rules.specs.declared.rule.Rule.{Rule}
use Rattle.mm_rules.specs.declared.rule.Rule.TheVariants as rules

-- whether the rule is one of proofs; any other ends the run
abbrev pub is_of_proofs : Rule → Bool
is_of_proofs (rules.Proof broken) = true
is_of_proofs rule = false
