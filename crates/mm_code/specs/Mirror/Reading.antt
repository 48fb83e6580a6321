-- A mirror of the code that reads letters, one byte after the other, so that each function has one
-- exact clause. Private contracts cite it. The public ones speak of `Letters`, and lemmas join the
-- two.
use Rattle.std.specs.Prelude.{◌≡◌, ℕ, ◌+◌, ◌-◌, ◌*◌, List, [], ◌∷◌, ◌++◌, Result, Ok, Err, nat_lt}
use Rattle.std.specs.Prelude.{◌==◌, if◌then◌else◌, min, take}
use Rattle.std.specs.List.{list_all}
use Rattle.std.specs.Char.{is_ascii_uppercase}
use Rattle.mm_code.specs.declared.code.Code.{Code}
use Rattle.mm_code.specs.declared.code.Code.TheVariants.{Number, Tag}
use Rattle.mm_code.specs.declared.code.CodeRule.{CodeRule}
use Rattle.mm_code.specs.declared.code.CodeRule.TheVariants.{P4, P5}
use Rattle.mm_code.specs.declared.code.CodeFault.{CodeFault}
use Rattle.mm_code.specs.declared.code.CodeFault.TheVariants.{Rule, Memory}
use Rattle.mm_code.specs.Letters.{largest}

-- what is read behind codes that are read already
abbrev pub with_prefix : List Code → Result (List Code) CodeRule → Result (List Code) CodeRule
with_prefix prefix (Ok codes) = Ok (prefix ++ codes)
with_prefix prefix (Err rule) = Err rule

-- the rule broken by a cut number, behind which these bytes stand
unfoldable pub rule_behind : List ℕ → CodeRule
rule_behind bytes = if list_all is_ascii_uppercase bytes then P5 else P4

-- the leading value with one more leading digit, and the number that a last digit ends, up to the
-- largest
abbrev pub leading_after : ℕ → ℕ → ℕ
leading_after value byte = min (5 * value + (byte - 84)) largest

abbrev pub number_after : ℕ → ℕ → ℕ
number_after value byte = min (20 * value + (byte - 64)) largest

-- the largest leading value behind which no letter reaches the largest number, or less
abbrev pub calm_value : ℕ
calm_value = 134217728

-- the codes of these bytes behind leading digits of this value, where 0 says that there are none
unfoldable pub reading : ℕ → List ℕ → Result (List Code) CodeRule
reading value [] = if value == 0 then Ok [] else Err P5
reading value (byte ∷ bytes) =
    if nat_lt byte 65 then Err P4
    else (if nat_lt byte 85 then with_prefix (Number (number_after value byte)
    ∷ []) (reading 0 bytes)
    else (if nat_lt byte 90 then reading (leading_after value byte) bytes
    else (if byte == 90 then (if value == 0 then with_prefix (Tag ∷ []) (reading 0 bytes)
    else Err (rule_behind bytes))
    else Err P4)))

-- A fault that is met before the bytes `rest` stands for what the reading answers, whatever memory
-- does.
abbrev pub FaultOf : CodeFault → List ℕ → Result (List Code) CodeRule → Type 0
FaultOf Memory rest read = Unit {0}
FaultOf (Rule P4) rest read = read ≡ Err P4
FaultOf (Rule P5) rest read = read ≡ Err (rule_behind rest)

-- What a part of the letters gave, a leading value or a fault, goes on to what the whole reading
-- answers.
abbrev pub ReadsOn : List Code → Result ℕ CodeFault → List ℕ → Result (List Code) CodeRule → Type 0
ReadsOn codes (Ok value) rest read = with_prefix codes (reading value rest) ≡ read
ReadsOn codes (Err fault) rest read = FaultOf fault rest read

-- The same, where the codes so far fill slots up to an index, which is answered beside the leading
-- value.
abbrev pub PutsOn : List Code → Result (ℕ × ℕ) CodeFault → List ℕ → Result (List Code) CodeRule
    → Type 0
PutsOn slots (Ok next) rest read = with_prefix (take next.0 slots) (reading next.1 rest) ≡ read
PutsOn slots (Err fault) rest read = FaultOf fault rest read
