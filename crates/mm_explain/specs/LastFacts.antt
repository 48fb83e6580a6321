-- The facts that explain the fault that ends the run: the fault of the text, or the rule of meaning
-- that a statement breaks. They are this project's own.
use Rattle.std.specs.Prelude.{ℕ, List, Bool}
use Rattle.mm_text.specs.Files.{PlainFile}
use Rattle.mm_rules.specs.declared.rule.Rule.{Rule}
use Rattle.mm_rules.specs.declared.rule.Rule.TheVariants as rules
use Rattle.mm_rules.specs.Verdict.{PlainRefusal}
use Rattle.mm_facts.specs.Explained.{Detail}
use Rattle.mm_explain.specs.MeaningFacts.{AreMeaningFacts}
use Rattle.mm_explain.specs.TextFacts.{AreTextFacts}

-- The facts that explain the refusal for the fault that ends the run, in order, with a line of the
-- files if it is asked for, and the position that is told, by the rule. No rule of another kind ends
-- the run.
abbrev pub AreFactsBy : (source : Bool) → Rule → List PlainFile → PlainRefusal → (at : ℕ)
    → List Detail → Type 0
AreFactsBy source (rules.Text broken) files refusal at details =
    AreTextFacts source files refusal at details
AreFactsBy source (rules.Meaning broken) files refusal at details =
    AreMeaningFacts source files refusal at details
AreFactsBy source rule files refusal at details = ⊥

-- those by its own rule
abbrev pub AreLastFacts : (source : Bool) → List PlainFile → PlainRefusal → (at : ℕ)
    → List Detail → Type 0
AreLastFacts source files refusal at details =
    AreFactsBy source refusal.rule files refusal at details
