-- A few words for each rule: what is wrong where it is broken. The words are this project's own.
use Rattle.std.specs.Prelude.{ℕ, List, codes}
use Rattle.mm_text.specs.declared.fault.LoadRule.{LoadRule}
use Rattle.mm_text.specs.declared.fault.LoadRule.TheVariants.{F1, F2, F3}
use Rattle.mm_text.specs.declared.fault.TextRule.{TextRule}
use Rattle.mm_text.specs.declared.fault.TextRule.TheVariants.{X1, X2, X3, X4, X5, X6, X7, X8, X9}
use Rattle.mm_text.specs.declared.fault.TextRule.TheVariants.{S1, S2, S3, S4, S5, S6, S7}
use Rattle.mm_frame.specs.declared.rule.MeaningRule.{MeaningRule}
use Rattle.mm_frame.specs.declared.rule.MeaningRule.TheVariants.{M1, M2, M3, M4, M5, M6, M7, M8, M9}
use Rattle.mm_frame.specs.declared.rule.MeaningRule.TheVariants.{M10, M11, M12, M13, M14, M15}
use Rattle.mm_step.specs.declared.fault.ProofRule.{ProofRule}
use Rattle.mm_step.specs.declared.fault.ProofRule.TheVariants.{P1, P2, P3, P4, P5, P6, P7, P8, P9}
use Rattle.mm_step.specs.declared.fault.ProofRule.TheVariants.{P10, P11, P12, P13, P14, P15, L1}
use Rattle.mm_rules.specs.declared.rule.AskRule.{AskRule}
use Rattle.mm_rules.specs.declared.rule.AskRule.TheVariants.{A1, A2, A3, L2}
use Rattle.mm_rules.specs.declared.rule.Rule.{Rule}
use Rattle.mm_rules.specs.declared.rule.Rule.TheVariants.{Load, Text, Meaning, Proof, Ask}

abbrev pub load_words : LoadRule → List ℕ
load_words F1 = codes "no file was handed in"
load_words F2 = codes "two handed names are equal"
load_words F3 = codes "the files hold more than 1,073,741,824 bytes"

abbrev pub text_words : TextRule → List ℕ
text_words X1 = codes "a token holds a byte outside 0x21 to 0x7E"
text_words X2 = codes "a comment isn't closed in its file"
text_words X3 = codes "a token in a comment holds $( or $)"
text_words X4 = codes "$) stands outside a comment, or $] outside an inclusion"
text_words X5 = codes "an inclusion isn't of the form $[ NAME $]"
text_words X6 = codes "$[ stands in a block or in a statement"
text_words X7 = codes "the included file wasn't handed in"
text_words X8 = codes "a statement isn't ended in its file"
text_words X9 = codes "a token with $ is no keyword"
text_words S1 = codes "the keyword begins no statement"
text_words S2 = codes "a label holds a byte that no label may hold"
text_words S3 = codes "no $f, $e, $a or $p follows the label"
text_words S4 = codes "the keyword can't stand in this place"
text_words S5 = codes "a statement has too few symbols, or a $f has a third one"
text_words S6 = codes "$} stands where no block is open"
text_words S7 = codes "a block isn't closed in the top file"

abbrev pub meaning_words : MeaningRule → List ℕ
meaning_words M1 = codes "a $c stands in a block"
meaning_words M2 = codes "a symbol of a $c was declared before, or stands twice in it"
meaning_words M3 = codes "a symbol of a $v is active or a constant, or stands twice in it"
meaning_words M4 = codes "a declared symbol is an earlier label"
meaning_words M5 = codes "the label is an earlier label"
meaning_words M6 = codes "the label is a declared symbol"
meaning_words M7 = codes "a symbol isn't active"
meaning_words M8 = codes "a member of a $d is a constant"
meaning_words M9 = codes "a member stands twice in a $d"
meaning_words M10 = codes "the type code of a $f is a variable"
meaning_words M11 = codes "the second symbol of a $f is a constant"
meaning_words M12 = codes "the variable of a $f has an active $f"
meaning_words M13 = codes "an earlier $f gave the variable another type code"
meaning_words M14 = codes "the first symbol is a variable"
meaning_words M15 = codes "a variable has no active $f"

abbrev pub proof_words : ProofRule → List ℕ
proof_words P1 = codes "the ( of a compressed proof isn't closed"
proof_words P2 = codes "no earlier statement has the label"
proof_words P3 = codes "a hypothesis isn't active"
proof_words P4 = codes "a byte of the letters isn't one of A to Z"
proof_words P5 = codes "a number in the letters isn't ended"
proof_words P6 = codes "a number exceeds those of hypotheses, listed labels and tags"
proof_words P7 = codes "a Z comes before any step"
proof_words P8 = codes "the stack has fewer entries than the step takes"
proof_words P9 = codes "an entry has another type than its hypothesis asks"
proof_words P10 = codes "an entry isn't what its hypothesis asks"
proof_words P11 = codes "what replaces distinct variables shares a variable"
proof_words P12 = codes "variables aren't stated to be distinct"
proof_words P13 = codes "the proof doesn't leave exactly one entry"
proof_words P14 = codes "the proof proves something else than is stated"
proof_words P15 = codes "the list or a Z isn't as the strict profile demands"
proof_words L1 = codes "an expression is too long"

abbrev pub ask_words : AskRule → List ℕ
ask_words A1 = codes "no statement has the label"
ask_words A2 = codes "the label isn't that of a theorem"
ask_words A3 = codes "the proof is incomplete"
ask_words L2 = codes "the normal proof has too many labels"

-- what is wrong where the rule is broken
abbrev pub meaning_of : Rule → List ℕ
meaning_of (Load rule) = load_words rule
meaning_of (Text rule) = text_words rule
meaning_of (Meaning rule) = meaning_words rule
meaning_of (Proof rule) = proof_words rule
meaning_of (Ask rule) = ask_words rule
