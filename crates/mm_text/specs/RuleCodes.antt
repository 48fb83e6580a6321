-- The printed codes of the rules of files and of the text.
use Rattle.std.specs.Prelude.{ℕ, List, codes}
use Rattle.mm_text.specs.declared.fault.LoadRule.{LoadRule}
use Rattle.mm_text.specs.declared.fault.LoadRule.TheVariants.{F1, F2, F3}
use Rattle.mm_text.specs.declared.fault.TextRule.{TextRule}
use Rattle.mm_text.specs.declared.fault.TextRule.TheVariants.{X1, X2, X3, X4, X5, X6, X7, X8, X9}
use Rattle.mm_text.specs.declared.fault.TextRule.TheVariants.{S1, S2, S3, S4, S5, S6, S7}

abbrev pub load_code : LoadRule → List ℕ
load_code F1 = codes "F1"
load_code F2 = codes "F2"
load_code F3 = codes "F3"

abbrev pub text_code : TextRule → List ℕ
text_code X1 = codes "X1"
text_code X2 = codes "X2"
text_code X3 = codes "X3"
text_code X4 = codes "X4"
text_code X5 = codes "X5"
text_code X6 = codes "X6"
text_code X7 = codes "X7"
text_code X8 = codes "X8"
text_code X9 = codes "X9"
text_code S1 = codes "S1"
text_code S2 = codes "S2"
text_code S3 = codes "S3"
text_code S4 = codes "S4"
text_code S5 = codes "S5"
text_code S6 = codes "S6"
text_code S7 = codes "S7"
