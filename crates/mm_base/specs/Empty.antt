-- Statements with empty lists.
use Rattle.std.specs.Prelude.{[], None}
use Rattle.mm_base.specs.declared.statement.Kind.TheVariants.{Constants}
use Rattle.mm_base.specs.Statement.{PlainStatement}

-- the statement that is handed in to be read into
abbrev pub no_statement : PlainStatement
no_statement = record {
  kind = Constants;
  first = record { text = []; file = 0; at = 0 };
  label = None;
  symbols = [];
  proof = [];
  span = (0, 0);
}

-- a statement with its lists emptied
abbrev pub without_tokens : PlainStatement → PlainStatement
without_tokens s = record s { symbols = []; proof = [] }
