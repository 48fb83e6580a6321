-- A statement that is begun: its keyword is read, and none of its symbols.
use Rattle.std.specs.Prelude.{[]}
use Rattle.std.specs.Prelude.{Option}
use Rattle.mm_base.specs.declared.statement.Kind.{Kind}
use Rattle.mm_base.specs.Token.{PlainToken}
use Rattle.mm_base.specs.Statement.{PlainStatement}

-- a statement with no symbols yet
abbrev pub bare_statement : Kind → PlainToken → Option PlainToken → PlainStatement
bare_statement kind first label =
    record { kind = kind; first = first; label = label; symbols = []; proof = []; span = (0, 0) }
