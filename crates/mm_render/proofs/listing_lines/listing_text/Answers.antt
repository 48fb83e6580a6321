-- The lines tell the steps of the listing.
use Rattle.std.proofs.Common.{List, subst, sym}
use Rattle.std.specs.List.{AllZip}
use Rattle.mm_listing.specs.declared.lines.Line.{Line}
use Rattle.mm_listing.specs.Listing.{TellsStep}
use Rattle.mm_render.proofs.listing_lines.listing_text.Goals as goal

pub text_of-requires : goal.text_of-requires
text_of-requires c =
    let a = c.requires.0 in
    let told = c.in_ok-lines.ensures.listed a.index a.s a.moves a.proof a.numbered in
    (told.0, subst (λ (lines : List Line). AllZip (TellsStep c.args.book.now.statements) lines told.0) (sym c.deref.ensures.value) told.2)

pub returns-clause-text : goal.returns-clause-text
returns-clause-text c = λ index s moves number numbered.
    let told = c.in_ok-lines.ensures.listed index s moves number numbered in (
      told.0,
      told.1,
      c.in_ok-text_of.ensures told.0
          (subst (λ (lines : List Line). AllZip (TellsStep c.args.book.now.statements) lines told.0) (sym c.deref.ensures.value) told.2),
    )
