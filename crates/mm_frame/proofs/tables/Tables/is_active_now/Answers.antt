use Rattle.std.proofs.Common.{◌≡◌, length, arith}
use Rattle.mm_frame.specs.Mirror.Layout.{statements_of}
use Rattle.mm_frame.proofs.Rules.SymbolLookups.{at_end}
use Rattle.mm_frame.proofs.tables.Tables.is_active_now.Goals as goal
use Rattle.mm_frame.proofs.BookLists.GrownLists.{few_statements, all_statements}

pub returns : goal.returns
returns c =
    let t = c.args.self.now in
    let all : c.len.result ≡ length (statements_of t) = omega (arith, all_statements t) in
    at_end (statements_of t) c.args.index c.len.result c.is_active.result all c.requires.index
    (c.is_active.ensures _ c.requires.tables.scopes (few_statements t c.requires.tables))
