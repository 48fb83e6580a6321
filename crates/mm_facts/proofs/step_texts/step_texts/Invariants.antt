-- The steps of the entries so far are told, whatever names the moves stand for.
use Rattle.std.proofs.Common.{◌≡◌, ℕ, List, length, map}
use Rattle.mm_base.specs.Token.{plain_token}
use Rattle.mm_text.specs.Files.{plain_file}
use Rattle.mm_frame.specs.Sentence.{Sentence}
use Rattle.mm_step.specs.Moves.{Move}
use Rattle.mm_step.specs.Steps.{IsProofNumber, AreNumberedMoves}
use Rattle.mm_facts.proofs.StepPlaces.{ToldSoFar}
use Rattle.mm_facts.proofs.step_texts.step_texts.Given as goal

abbrev pub invariant-loop-entry : goal.invariant-loop-entry
invariant-loop-entry l = record {
  same : l.counted ≡ map plain_file l.fn.files;
  count : length l.texts.items ≡ l.entry;
  told : (index : ℕ) (s : Sentence) (moves : List (Move (List ℕ)))
      → IsProofNumber l.book.statements l.fn.id.0 index s
      → AreNumberedMoves l.book.statements l.steps.moves moves
      → ToldSoFar (map plain_file l.fn.files) (map plain_token l.tokens) moves l.halt.origins.items
      (map (λ t. t.items) l.texts.items) l.entry;
}
