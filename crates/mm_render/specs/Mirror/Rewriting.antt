-- What the code knows on its way to a file with a proof written anew. This file mirrors the code,
-- and is cited by private contracts alone.
use Rattle.std.specs.Prelude.{◌≡◌, ℕ, ◌<◌, ◌≤◌, List, take, length, slice_get, Some, ◌⊎◌}
use Rattle.mm_base.specs.MostBytes.{most_bytes}
use Rattle.mm_text.specs.Files.{PlainFile}
use Rattle.mm_text.specs.Replaced.{with_span}
use Rattle.mm_frame.specs.Sentence.{Sentence}
use Rattle.mm_step.specs.Moves.{Move}
use Rattle.mm_step.specs.Tree.{spelling}
use Rattle.mm_proof.specs.Verified.{OfMoves}
use Rattle.mm_forms.specs.Packing.{OfTree}
use Rattle.mm_verdict.specs.declared.form.Form.{Form}
use Rattle.mm_verdict.specs.declared.form.Form.TheVariants.{Normal, Packed, Small}
use Rattle.mm_rules.specs.declared.ask.AskFault.{AskFault}
use Rattle.mm_rules.specs.declared.ask.AskFault.TheVariants.{Rule, F3, Memory}
use Rattle.mm_rules.specs.declared.rule.AskRule.TheVariants.{L2}
use Rattle.mm_render.specs.Forms.{most_labels}
use Rattle.mm_render.specs.Saved.{IsSpanText, within_span}
use Rattle.mm_verdict.specs.Saved.{total_with}

-- these bytes are put in place of the old ones of the proof of the theorem with this number
abbrev pub IsSpanTextOf : Form → List Sentence → (id : ℕ) → List (Move ℕ) → (old put : List ℕ)
    → Type 0
IsSpanTextOf form statements id steps old put =
    OfMoves statements id steps (λ index s moves. OfTree (take index statements) moves
    (λ trees. IsSpanText form (take index statements) s trees old put))

-- its normal proof has more labels than are written
abbrev pub IsTooLong : List Sentence → (id : ℕ) → List (Move ℕ) → Type 0
IsTooLong statements id steps =
    OfMoves statements id steps (λ index s moves. OfTree (take index statements) moves
    (λ trees. most_labels < length (spelling trees)))

-- why it has no text in this form
abbrev pub IsTextFault : Form → List Sentence → (id : ℕ) → List (Move ℕ) → AskFault → Type 0
IsTextFault Normal statements id steps fault =
    (fault ≡ Memory) ⊎ ((fault ≡ Rule L2) × IsTooLong statements id steps)
IsTextFault Packed statements id steps fault = fault ≡ Memory
IsTextFault Small statements id steps fault = fault ≡ Memory

-- there is a file with the number, and the span is one of its bytes
abbrev pub HoldsSpan : List PlainFile → (number : ℕ) → (span : ℕ × ℕ) → Type 0
HoldsSpan files number span =
    (file : PlainFile) × (slice_get files number ≡ Some file) × (span.0 ≤ span.1)
    × (span.1 ≤ length file.bytes)

-- the bytes are those of the span in the file with the number
abbrev pub StandIn : List PlainFile → (number : ℕ) → (span : ℕ × ℕ) → (bytes : List ℕ) → Type 0
StandIn files number span bytes =
    (file : PlainFile) × (slice_get files number ≡ Some file)
    × (bytes ≡ within_span file.bytes span)

-- the bytes are those of the file with the number, with the text in place of the span
abbrev pub IsPutIn : List PlainFile → (number : ℕ) → (span : ℕ × ℕ) → (text bytes : List ℕ) → Type 0
IsPutIn files number span text bytes =
    (file : PlainFile) × (slice_get files number ≡ Some file)
    × (bytes ≡ with_span file.bytes span text)

-- why they aren't given: lack of memory, or the files would have too many bytes
abbrev pub IsPutFault : List PlainFile → (number : ℕ) → (span : ℕ × ℕ) → (text : List ℕ) → AskFault
    → Type 0
IsPutFault files number span text fault =
    (fault ≡ Memory)
    ⊎ ((fault ≡ F3) × (bytes : List ℕ) × IsPutIn files number span text bytes
    × (most_bytes < total_with files number bytes))
