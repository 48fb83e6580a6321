-- What the code knows on its way to the theorem with a label, and of what it finds there. This file
-- mirrors the code, and is cited by private contracts alone.
use Rattle.std.specs.Prelude.{◌≡◌, ℕ, ◌<◌, ◌≤◌, List, length, Some}
use Rattle.mm_base.specs.MostBytes.{most_bytes}
use Rattle.mm_text.specs.Shown.{broken_at}
use Rattle.mm_rules.specs.ProofText.{broken_in}
use Rattle.mm_verdict.specs.declared.text.Unhanded.{Unhanded}
use Rattle.mm_verdict.specs.declared.text.Unhanded.TheVariants.{Size, Wrong, Memory}

-- ---- tokens

-- the text is too long; or this is what it breaks, and where; or a growth was refused
abbrev pub IsUnhanded : List ℕ → Unhanded → Type 0
IsUnhanded text Size = most_bytes < length text
IsUnhanded text (Wrong wrong) =
    (length text ≤ most_bytes) × (broken_in text ≡ Some (broken_at wrong))
IsUnhanded text Memory = Unit {0}
