-- One step of `reading`, for each kind of byte; how a byte is read, to split a proof on.
use Rattle.std.proofs.Common.{◌≡◌, ℕ, ◌+◌, ◌-◌, ◌<◌, ◌≤◌, Bool, true, false, cond, ◌&&◌, List, []}
use Rattle.std.proofs.Common.{◌∷◌, ◌++◌, length, get_or, set, take, drop, Bor, Result, Ok, Err}
use Rattle.std.proofs.Common.{refl, sym, ap, append_assoc, arith, ◌⊎◌, inl, inr, lt-ltb, le-ltb}
use Rattle.std.proofs.Common.{eq-eqb, ne_eqb, flat_map}
use Rattle.std.proofs.lemmas.List.{take_more_set, take-set, take_rest, drop_more}
use Rattle.std.proofs.lemmas.List.Folds.{list_all-append}
use Rattle.std.specs.List.{list_all}
use Rattle.std.specs.Char.{is_ascii_uppercase}
use Rattle.mm_code.specs.declared.code.Code.{Code}
use Rattle.mm_code.specs.declared.code.Code.TheVariants.{Number, Tag}
use Rattle.mm_code.specs.declared.code.CodeRule.{CodeRule}
use Rattle.mm_code.specs.declared.code.CodeRule.TheVariants.{P4, P5}
use Rattle.mm_code.specs.declared.code.CodeFault.{CodeFault}
use Rattle.mm_code.specs.declared.code.CodeFault.TheVariants.{Rule, Memory}
use Rattle.mm_code.specs.Letters.{Answers, IsLetter, IsLeadingLetter, tag_letter}
use Rattle.mm_code.specs.Mirror.Reading.{with_prefix, reading, rule_behind, leading_after}
use Rattle.mm_code.specs.Mirror.Reading.{number_after, FaultOf}

-- ==== one step of `reading`, for each kind of byte

with_prefix-with_prefix : (a b : List Code) (read : Result (List Code) CodeRule) → with_prefix a (with_prefix b read) ≡ with_prefix (a ++ b) read
with_prefix-with_prefix a b (Ok codes) = ap Ok (sym (append_assoc a b codes))
with_prefix-with_prefix a b (Err rule) = refl

pub read_below : (value byte : ℕ) (bytes : List ℕ) → byte < 65 → reading value (byte ∷ bytes) ≡ Err P4
unfolding reading
read_below value byte bytes h = rw (lt-ltb byte 65 h) refl

pub read_above : (value byte : ℕ) (bytes : List ℕ) → 90 < byte → reading value (byte ∷ bytes) ≡ Err P4
unfolding reading
read_above value byte bytes h =
    rw (le-ltb byte 65 (omega arith), le-ltb byte 85 (omega arith), le-ltb byte 90 (omega arith), ne_eqb byte 90 (λ e. omega arith)) refl

pub read_last : (value byte : ℕ) (bytes : List ℕ) → 65 ≤ byte → byte < 85 → reading value (byte ∷ bytes) ≡ with_prefix (Number (number_after value byte) ∷ []) (reading 0 bytes)
unfolding reading
read_last value byte bytes low high = rw (le-ltb byte 65 low, lt-ltb byte 85 high) refl

pub read_leading : (value byte : ℕ) (bytes : List ℕ) → 85 ≤ byte → byte < 90 → reading value (byte ∷ bytes) ≡ reading (leading_after value byte) bytes
unfolding reading
read_leading value byte bytes low high = rw (le-ltb byte 65 (omega arith), le-ltb byte 85 low, lt-ltb byte 90 high) refl

pub read_tag : (value byte : ℕ) (bytes : List ℕ) → byte ≡ 90 → value ≡ 0 → reading value (byte ∷ bytes) ≡ with_prefix (Tag ∷ []) (reading 0 bytes)
unfolding reading
read_tag value byte bytes is h =
    rw (le-ltb byte 65 (omega arith), le-ltb byte 85 (omega arith), le-ltb byte 90 (omega arith), eq-eqb byte 90 is, eq-eqb value 0 h) refl

pub read_cut_by_tag : (value byte : ℕ) (bytes : List ℕ) → byte ≡ 90 → 0 < value → reading value (byte ∷ bytes) ≡ Err (rule_behind bytes)
unfolding reading
read_cut_by_tag value byte bytes is h =
    rw (le-ltb byte 65 (omega arith), le-ltb byte 85 (omega arith), le-ltb byte 90 (omega arith), eq-eqb byte 90 is, ne_eqb value 0 (λ e. omega arith)) refl

pub read_end : (value : ℕ) → value ≡ 0 → reading value [] ≡ Ok []
unfolding reading
read_end value h = rw (eq-eqb value 0 h) refl

pub read_cut_by_end : (value : ℕ) → 0 < value → reading value [] ≡ Err P5
unfolding reading
read_cut_by_end value h = rw (ne_eqb value 0 (λ e. omega arith)) refl

-- `grind` takes these by their names.
pub ruleset reading_steps = (read_below, read_above, read_cut_by_tag, read_leading)

-- The same where the codes so far fill slots up to an index, and a code is put there.
pub put_last : (slots : List Code) (index next value byte number : ℕ) (rest : List ℕ) → index < length slots → next ≡ index + 1 → 65 ≤ byte → byte < 85 → number ≡ number_after value byte
    → with_prefix (take next (set slots index (Number number))) (reading 0 rest) ≡ with_prefix (take index slots) (reading value (byte ∷ rest))
put_last slots index next value byte number rest lt on low high is =
    rw (on, take_more_set slots index (Number number) lt, is, read_last value byte rest low high)
    (sym (with_prefix-with_prefix (take index slots) (Number _ ∷ []) (reading 0 rest)))

pub put_tag : (slots : List Code) (index value byte : ℕ) (rest : List ℕ) → index < length slots → byte ≡ 90 → value ≡ 0
    → with_prefix (take (index + 1) (set slots index Tag)) (reading 0 rest) ≡ with_prefix (take index slots) (reading value (byte ∷ rest))
put_tag slots index value byte rest lt is none =
    rw (take_more_set slots index Tag lt, read_tag value byte rest is none)
    (sym (with_prefix-with_prefix (take index slots) (Tag ∷ []) (reading 0 rest)))

-- A leading digit leaves the codes before the index, whatever is put there.
pub put_leading : (slots : List Code) (index next value byte longer : ℕ) (code : Code) (rest : List ℕ) → next ≡ index → 85 ≤ byte → byte < 90 → longer ≡ leading_after value byte
    → with_prefix (take next (set slots index code)) (reading longer rest) ≡ with_prefix (take index slots) (reading value (byte ∷ rest))
put_leading slots index next value byte longer code rest on low high is =
    rw (on, take-set slots index code, is, read_leading value byte rest low high)

-- ---- a fault, with more bytes

cut_cases : (all : Bool) (rest : List ℕ) (read : Result (List Code) CodeRule)
    → read ≡ Err (cond (all && list_all is_ascii_uppercase rest) P5 P4)
    → FaultOf (Rule (cond all P5 P4)) rest read
unfolding rule_behind
cut_cases true rest read e = e
cut_cases false rest read e = e

-- the fault of a cut number, once more bytes are looked at
pub cut_goes_on : (bytes rest : List ℕ) (rule : CodeRule) (read : Result (List Code) CodeRule) → rule ≡ rule_behind bytes → read ≡ Err (rule_behind (bytes ++ rest)) → FaultOf (Rule rule) rest read
unfolding rule_behind
cut_goes_on bytes rest rule read is h = rw is (cut_cases _ rest read (rw list_all-append at h))

-- ---- the end of the letters

-- a fault with nothing behind it is the answer
fault_answers : (fault : CodeFault) (read : Result (List Code) CodeRule) → FaultOf fault [] read → Answers (Err fault) read
unfolding rule_behind
fault_answers Memory read h = tt
fault_answers (Rule P4) read h = h
fault_answers (Rule P5) read h = h

-- a fault in the token at i is the answer once the tokens behind it are looked at
pub fault_ends : (fault found : CodeFault) (codes : List Code) (value : ℕ) (tokens : List (Bor (List ℕ))) (i : ℕ) (d : Bor (List ℕ)) (read : Result (List Code) CodeRule) → i < length tokens
    → ((rest : List ℕ) → FaultOf fault rest (with_prefix codes (reading value ((get_or tokens i d).now ++ rest))))
    → ((r : Result (List Code) CodeRule) → FaultOf fault (flat_map (λ token. token.now) (take (length tokens - (i + 1)) (drop (i + 1) tokens))) r → FaultOf found [] r)
    → with_prefix codes (reading value (flat_map (λ token. token.now) (drop i tokens))) ≡ read → Answers (Err found) read
fault_ends fault found codes value tokens i d read lt here behind so_far =
    let after = flat_map (λ token. token.now) (drop (i + 1) tokens) in
    fault_answers found read
    (rw (← so_far, drop_more tokens i d lt) (behind _ (rw take_rest (here after))))

-- ==== how a byte is read, to split a proof on

-- the byte ends this code behind leading digits of this value
abbrev pub EndsCode : ℕ → ℕ → Code → Type 0
EndsCode value byte (Number number) =
    (65 ≤ byte) × (byte < 85) × (number ≡ number_after value byte)
EndsCode value byte Tag = (byte ≡ tag_letter) × (value ≡ 0)

-- what is read from the byte on, behind these leading digits
pub data Step (value byte : ℕ) (bytes : List ℕ) (read : Result (List Code) CodeRule) : Type 0 where
  not_letter : ¬ (IsLetter byte) → read ≡ Err P4 → Step value byte bytes read
  ends : (code : Code) → IsLetter byte → EndsCode value byte code
      → read ≡ with_prefix (code ∷ []) (reading 0 bytes) → Step value byte bytes read
  leading : IsLeadingLetter byte → read ≡ reading (leading_after value byte) bytes
      → Step value byte bytes read
  cut_off : byte ≡ tag_letter → 0 < value → read ≡ Err (rule_behind bytes)
      → Step value byte bytes read

kinds : (value byte : ℕ) → (byte < 65) ⊎ (90 < byte) ⊎ ((65 ≤ byte) × (byte < 85))
    ⊎ ((85 ≤ byte) × (byte < 90)) ⊎ ((byte ≡ 90) × (value ≡ 0)) ⊎ ((byte ≡ 90) × (0 < value))
kinds value byte = grind arith

pub step : (value byte : ℕ) (bytes : List ℕ) → Step value byte bytes (reading value (byte ∷ bytes))
step value byte bytes = elim (kinds value byte) [
  | inl low ↦ not_letter (λ is. omega (arith, is.0)) (read_below value byte bytes low)
  | inr (inl high) ↦ not_letter (λ is. omega (arith, is.1)) (read_above value byte bytes high)
  | inr (inr (inl (from, to))) ↦
      ends (Number _) (from, omega arith) (from, to, refl) (read_last value byte bytes from to)
  | inr (inr (inr (inl (from, to)))) ↦
      leading (from, omega arith) (read_leading value byte bytes from to)
  | inr (inr (inr (inr (inl (is, none))))) ↦
      ends Tag (omega arith, omega arith) (is, none) (read_tag value byte bytes is none)
  | inr (inr (inr (inr (inr (is, some))))) ↦
      cut_off is some (read_cut_by_tag value byte bytes is some)
]

-- a reading behind a prefix is of the same kind as the reading
pub with_prefix-ok : (prefix codes : List Code) (read : Result (List Code) CodeRule) → with_prefix prefix read ≡ Ok codes → (rest : List Code) × (read ≡ Ok rest) × (codes ≡ prefix ++ rest)
with_prefix-ok prefix codes (Ok rest) e = (rest, refl, cc)
with_prefix-ok prefix codes (Err rule) e = absurd cc

pub with_prefix-err : (prefix : List Code) (rule : CodeRule) (read : Result (List Code) CodeRule) → with_prefix prefix read ≡ Err rule → read ≡ Err rule
with_prefix-err prefix rule (Ok rest) e = absurd cc
with_prefix-err prefix rule (Err other) e = cc
