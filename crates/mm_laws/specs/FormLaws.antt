-- The law of packed proofs: their texts tell whether proofs are the same.
use Rattle.std.specs.Prelude.{◌≡◌, ◌↔◌, ℕ, List, take}
use Rattle.mm_base.specs.Statement.{PlainStatement}
use Rattle.mm_text.specs.Files.{PlainFile}
use Rattle.mm_frame.specs.Sentence.{Sentence}
use Rattle.mm_step.specs.Tree.{Trees, none, tree}
use Rattle.mm_step.specs.Moves.{Move}
use Rattle.mm_forms.specs.OneTree.{MakeTree, MakeSameTree}
use Rattle.mm_step.specs.declared.profile.Profile.{Profile}
use Rattle.mm_rules.specs.Verdict.{AreAccepted, sentences}
use Rattle.mm_render.specs.Forms.{IsPackedText}

-- In files in which nothing is at fault, two lists of moves after the statements before an index,
-- as proofs of one statement, make the same tree exactly if the texts of the packed proofs of their
-- trees are equal.
abbrev pub PackedTextsTell : Type 0
PackedTextsTell =
    (profile : Profile) (files : List PlainFile) (statements : List PlainStatement) (index : ℕ)
    (s : Sentence)
    (moves others : List (Move (List ℕ))) (l m : List ℕ) (a b : Trees) (text other : List ℕ)
    → AreAccepted profile files statements
    → MakeTree (sentences (take index statements)) moves l a
    → MakeTree (sentences (take index statements)) others m b
    → IsPackedText (sentences (take index statements)) s (tree l a none) text
    → IsPackedText (sentences (take index statements)) s (tree m b none) other
    → MakeSameTree (sentences (take index statements)) moves others ↔ (text ≡ other)
