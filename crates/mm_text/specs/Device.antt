-- What a clause reads of a `Counted` device: the value inside, how many of its calls failed, and
-- which calls count as failed.
use Rattle.std.specs.Prelude.{◌≡◌, ℕ, ◌<◌, ◌≤◌, List, length, take, Option, Result, MatchResult, ⊤}
use Rattle.std.specs.Io.KnownBytes.{Appends, Consumes}
use Rattle.mm_text.specs.declared.counted.Counted.{Counted}

-- how many calls of the device have failed since it was wrapped
abbrev pub faults_of : {T : Type 0} → Counted T → ℕ
faults_of device = device.faults

-- the reader or writer inside, as `into_inner` gives it back
abbrev pub inner_of : {T : Type 0} → Counted T → T
inner_of device = device.inner

-- `write(bytes)` failed: it answered an error, or took none of a piece that has bytes
abbrev pub IsFailedWrite : {E : Type 0} → Result ℕ E → List ℕ → Type 0
IsFailedWrite result bytes = MatchResult result (λ taken. (taken ≡ 0) × (0 < length bytes)) (λ _. ⊤)

-- known bytes stay at the front and grow by a beginning of `bytes` that leaves at least one of them
-- out
abbrev pub AppendsBeginning : Option (List ℕ) → Option (List ℕ) → List ℕ → Type 0
AppendsBeginning old new bytes =
    (taken : ℕ) × (taken < length bytes) × Appends old new (take taken bytes)

-- At most max bytes came from the reader.
abbrev pub CameWithin : Option (List ℕ) → Option (List ℕ) → ℕ → Type 0
CameWithin old new max = (came : List ℕ) × (length came ≤ max) × Consumes old new came

-- At least one byte came from the reader, and at most max.
abbrev pub CameSome : Option (List ℕ) → Option (List ℕ) → ℕ → Type 0
CameSome old new max =
    (came : List ℕ) × (0 < length came) × (length came ≤ max) × Consumes old new came

-- More than max bytes came from the reader.
abbrev pub CameOver : Option (List ℕ) → Option (List ℕ) → ℕ → Type 0
CameOver old new max = (came : List ℕ) × (max < length came) × Consumes old new came
