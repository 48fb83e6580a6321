-- The handed files, and the rules that they break as a whole.
use Rattle.std.specs.Prelude.{◌≡◌, ◌≢◌, ℕ, ◌<◌, List, [], length, sum_by, slice_get, Some}
use Rattle.mm_base.specs.declared.file.File.{File}
use Rattle.mm_text.specs.declared.fault.LoadRule.{LoadRule}
use Rattle.mm_text.specs.declared.fault.LoadRule.TheVariants.{F1, F2, F3}
use Rattle.mm_base.specs.MostBytes.{most_bytes}

-- a file without where it lies in memory
pub record PlainFile : Type 0 where
  pub name : List ℕ
  pub bytes : List ℕ

abbrev pub plain_file : File → PlainFile
plain_file f = record { name = f.name.now; bytes = f.bytes.now }

-- how many bytes the files hold in all
abbrev pub total_bytes : List PlainFile → ℕ
total_bytes files = sum_by (λ f. length f.bytes) files

-- two of the files have one name
pub record HasTwins (files : List PlainFile) : Type 0 where
  pub i : ℕ
  pub j : ℕ
  pub one : PlainFile
  pub other : PlainFile
  pub apart : i < j
  pub at_i : slice_get files i ≡ Some one
  pub at_j : slice_get files j ≡ Some other
  pub same : one.name ≡ other.name

-- the rule that the handed files break as a whole, the first one of F1, F2, F3
abbrev pub BreaksLoad : List PlainFile → LoadRule → Type 0
BreaksLoad files F1 = files ≡ []
BreaksLoad files F2 = (files ≢ []) × HasTwins files
BreaksLoad files F3 = (files ≢ []) × ¬ (HasTwins files) × (most_bytes < total_bytes files)
