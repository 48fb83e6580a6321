-- What is told is told of the last statement.
use Rattle.std.proofs.Common.{List, ℕ, ◌++◌, ◌∙◌, ap, map}
use Rattle.mm_text.specs.Files.{plain_file}
use Rattle.mm_base.specs.Statement.{plain_statement}
use Rattle.mm_rules.specs.Places.{place_text}
use Rattle.mm_render.proofs.ToldProofs.ToldStatements.{tells_last}
use Rattle.mm_render.proofs.asked_texts.statement_text.Goals as goal

pub returns : goal.returns
returns c = λ before label book numbered named.
    let files = map plain_file c.args.files.now in
    tells_last files before (plain_statement c.args.statement.now) label c.args.book.now.statements
    c.args.id.0 c.push_place.new.out.items c.push.new.self.items c.push_told.new.out.items book
    numbered named
    (c.in_ok-push_place.ensures
    ∙ ap (λ (o : List ℕ). o ++ place_text files c.place_of.result) c.new-out.ensures.items
    ∙ ap (λ p. place_text files p) c.place_of.ensures)
    c.in_ok-push.ensures.items c.in_ok-push_told.ensures
