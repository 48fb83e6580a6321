-- The pages of the help.
use Rattle.std.specs.Prelude.{Bool, List, ℕ, ◌++◌, ◌||◌, codes, nat_eq}
use Rattle.std.specs.List.{starts_with}
use Rattle.clap.specs.Words.{Text}

-- the text begins with how the command with this name is used
abbrev pub is_page_of : (command : Text) → (text : List ℕ) → Bool
is_page_of command text =
    starts_with nat_eq text (codes "Usage: mm " ++ command ++ codes " ")
    || starts_with nat_eq text (codes "Usage: mm " ++ command ++ codes "\n")
