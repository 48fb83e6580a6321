-- What is kept of a database in which nothing is at fault.
use Rattle.std.specs.Prelude.{ℕ, List, map}
use Rattle.std.specs.List.{flat_map}
use Rattle.std.specs.Option.{option_to_list}
use Rattle.mm_text.specs.Files.{PlainFile}
use Rattle.mm_frame.specs.Sentence.{Sentence}
use Rattle.mm_step.specs.declared.profile.Profile.{Profile}

-- the number of a `$p` with a complete proof, and those of the assertions in its tree
pub record ProofUses : Type 0 where
  pub number : ℕ
  pub used : List ℕ

-- The profile that it obeys; the files that hold it; how many statements it has, and how many of its `$p` are proved; the
-- numbers of the incomplete `$p`, and the labels of all labelled statements, both in database
-- order; what its statements say, and what its complete proofs use. The number of a label is its
-- index among the labels.
pub record Conclusion : Type 0 where
  pub profile : Profile
  pub files : List PlainFile
  pub statements : ℕ
  pub proofs : ℕ
  pub incomplete : List ℕ
  pub labels : List (List ℕ)
  pub sentences : List Sentence
  pub uses : List ProofUses

-- the labels of the labelled statements
abbrev pub labels_in : List Sentence → List (List ℕ)
labels_in statements = flat_map (λ s. option_to_list s.label) statements

-- the numbers of the proofs
abbrev pub numbers_of : List ProofUses → List ℕ
numbers_of uses = map (λ u. u.number) uses
