-- The printed codes of the rules of meaning.
use Rattle.std.specs.Prelude.{ℕ, List, codes}
use Rattle.mm_frame.specs.declared.rule.MeaningRule.{MeaningRule}
use Rattle.mm_frame.specs.declared.rule.MeaningRule.TheVariants.{M1, M2, M3, M4, M5, M6, M7, M8, M9}
use Rattle.mm_frame.specs.declared.rule.MeaningRule.TheVariants.{M10, M11, M12, M13, M14, M15}

abbrev pub meaning_code : MeaningRule → List ℕ
meaning_code M1 = codes "M1"
meaning_code M2 = codes "M2"
meaning_code M3 = codes "M3"
meaning_code M4 = codes "M4"
meaning_code M5 = codes "M5"
meaning_code M6 = codes "M6"
meaning_code M7 = codes "M7"
meaning_code M8 = codes "M8"
meaning_code M9 = codes "M9"
meaning_code M10 = codes "M10"
meaning_code M11 = codes "M11"
meaning_code M12 = codes "M12"
meaning_code M13 = codes "M13"
meaning_code M14 = codes "M14"
meaning_code M15 = codes "M15"
