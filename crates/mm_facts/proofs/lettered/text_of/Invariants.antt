-- The lines so far tell the steps so far, whatever steps they are.
use Rattle.std.proofs.Common.{◌≡◌, List, map}
use Rattle.std.specs.List.{AllZip}
use Rattle.mm_base.specs.Token.{plain_token}
use Rattle.mm_text.specs.Files.{plain_file}
use Rattle.mm_listing.specs.Listing.{ListedStep, TellsStep}
use Rattle.mm_facts.specs.Mirror.Lettered.{TellFirst}
use Rattle.mm_facts.proofs.lettered.text_of.Given as goal

abbrev pub invariant-loop-at : goal.invariant-loop-at
invariant-loop-at l = record {
  same : l.counted ≡ map plain_file l.fn.files;
  told : (told : List ListedStep) → AllZip (TellsStep l.book.statements) l.lines told
      → TellFirst (map plain_file l.fn.files) (map plain_token l.tokens) told l.at l.out.items;
}
