-- By its label, or as one that is renamed.
use Rattle.std.proofs.Common.{inl, map, refl}
use Rattle.mm_diff.specs.Mirror.Changes.{plain_renaming}
use Rattle.mm_alike.proofs.DifferingNumbers.{named_by}
use Rattle.mm_diff.proofs.OneAssertions.{no_twin, twin_renamed}
use Rattle.mm_diff.proofs.twins.twin_of.Goals as goal

pub returns-in-Some-clause-some : goal.returns-in-Some-clause-some
returns-in-Some-clause-some c =
    inl (
      c.label.result.now,
      named_by c.args.book.now.statements c.label.result.now c.args.id.0 c.requires.id
          (λ s at. c.label.ensures s at),
      c.in-Some.ensures.some,
    )

pub returns-in-None-clause-some : goal.returns-in-None-clause-some
returns-in-None-clause-some c =
    twin_renamed c.args.book.now.statements c.args.other.now.statements
    (map plain_renaming c.args.renamed.now) c.args.id.0 c.requires.renamed c.renamed_from.result
    c.renamed_from.ensures.some

pub returns-in-None-clause-none : goal.returns-in-None-clause-none
returns-in-None-clause-none c = λ none.
    no_twin c.args.book.now.statements c.args.other.now.statements
    (map plain_renaming c.args.renamed.now) c.args.id.0 c.requires.renamed c.label.result.now
    (named_by c.args.book.now.statements c.label.result.now c.args.id.0 c.requires.id
    (λ s at. c.label.ensures s at)) (λ n there. c.in-None.ensures.none refl n there)
    (c.renamed_from.ensures.none none)
