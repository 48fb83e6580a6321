use Rattle.mm_text.proofs.Reader.SpelledStatements.{beginnings_begin_statements}
use Rattle.mm_text.proofs.laws.beginnings_begin_statements.Goals as goal

pub returns : goal.returns
returns c = beginnings_begin_statements
