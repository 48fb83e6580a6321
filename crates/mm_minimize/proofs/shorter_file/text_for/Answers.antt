-- The small proof of the shorter tree is put, or the old bytes.
use Rattle.std.proofs.lemmas.Result.{IfOk-weaker}
use Rattle.mm_base.specs.Statement.{plain_statement}
use Rattle.mm_minimize.proofs.ShorterTheorems.ShortenedFiles.{found_stands, may_be_written}
use Rattle.mm_minimize.proofs.shorter_file.text_for.Goals as goal

pub text_of_found-requires : goal.text_of_found-requires
text_of_found-requires g c = record {
  may = may_be_written c.args.shortening.now.checked.now c.args.id.0
      (plain_statement c.args.statement.now) c.in_ok-found.found c.in_ok-found.ensures.shorter;
}

pub returns-clause-may : goal.returns-clause-may
returns-clause-may g c =
    IfOk-weaker c.text_of_found.result _ _
    (λ put text bytes stands. found_stands c.args.shortening.now.checked.now c.args.duplicates
    c.args.id.0 (plain_statement c.args.statement.now) c.in_ok-found.found c.args.old.now put.items
    bytes c.requires.formed c.requires.theorem.complete c.in_ok-found.ensures.shorter text stands)
    c.text_of_found.ensures.text
