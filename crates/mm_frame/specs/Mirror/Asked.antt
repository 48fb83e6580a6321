-- The rules that are asked of a statement. This file mirrors the code, and is cited by private
-- contracts alone.
use Rattle.std.specs.Prelude.{List, [], ◌∷◌}
use Rattle.mm_base.specs.declared.statement.Kind.{Kind}
use Rattle.mm_base.specs.declared.statement.Kind.TheVariants.{Constants, Variables, Distinct}
use Rattle.mm_base.specs.declared.statement.Kind.TheVariants.{Floating, Essential, Axiom, Provable}
use Rattle.mm_base.specs.declared.statement.Kind.TheVariants.{Opening, Closing}
use Rattle.mm_frame.specs.declared.rule.MeaningRule.{MeaningRule}
use Rattle.mm_frame.specs.declared.rule.MeaningRule.TheVariants.{M1, M2, M3, M4, M5, M6, M7, M8, M9}
use Rattle.mm_frame.specs.declared.rule.MeaningRule.TheVariants.{M10, M11, M12, M13, M14, M15}

-- the rules that a statement of the kind may break, in the order in which the rules are judged
abbrev pub rules_of : Kind → List MeaningRule
rules_of Constants = M1 ∷ M2 ∷ M4 ∷ M5 ∷ M6 ∷ []
rules_of Variables = M3 ∷ M4 ∷ M5 ∷ M6 ∷ []
rules_of Distinct = M5 ∷ M6 ∷ M7 ∷ M8 ∷ M9 ∷ []
rules_of Floating = M5 ∷ M6 ∷ M7 ∷ M10 ∷ M11 ∷ M12 ∷ M13 ∷ []
rules_of Essential = M5 ∷ M6 ∷ M7 ∷ M14 ∷ M15 ∷ []
rules_of Axiom = M5 ∷ M6 ∷ M7 ∷ M14 ∷ M15 ∷ []
rules_of Provable = M5 ∷ M6 ∷ M7 ∷ M14 ∷ M15 ∷ []
rules_of Opening = M5 ∷ M6 ∷ []
rules_of Closing = M5 ∷ M6 ∷ []
