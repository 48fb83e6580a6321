use Rattle.std.proofs.Common.{rules, ◌≡◌, length, refl, sym, ap, ◌∙◌, subst, arith}
use Rattle.std.proofs.lemmas.List.{length-map}
use Rattle.mm_base.specs.Token.{plain_token}
use Rattle.mm_base.specs.Statement.{plain_statement}
use Rattle.mm_frame.specs.Mirror.Declaring.{TakesSymbols}
use Rattle.mm_frame.proofs.BookLists.GrownLists.{on_err, same_tables}
use Rattle.mm_frame.proofs.Rules.RepeatedSymbols.{texts, texts_of}
use Rattle.mm_frame.proofs.BookLists.Declarations.{declares, symbols_fit}
use Rattle.mm_frame.proofs.tables.Tables.declare_all.Goals as goal

pub make_room-requires : goal.make_room-requires
make_room-requires c =
    let statement = plain_statement c.args.statement.now in
    let fit = symbols_fit c.args.self.now statement c.args.bytes c.requires.tables c.requires.formed c.requires.counted c.requires.room in
    let len : c.len.result ≡ length c.args.statement.now.symbols.items = search rules in
    let size = length-map c.args.statement.now.symbols.items plain_token in
    omega arith

pub returns-in_err-make_room-clause-err : goal.returns-in_err-make_room-clause-err
returns-in_err-make_room-clause-err c = on_err _ (same_tables _ _ c.requires.tables c.make_room.ensures.same)

pub declare_each-requires-clause-tables : goal.declare_each-requires-clause-tables
declare_each-requires-clause-tables c = (same_tables _ _ c.requires.tables c.make_room.ensures.same).tables

pub returns-clause-ok : goal.returns-clause-ok
returns-clause-ok c = (
  refl,
  declares c.args.self.now c.make_room.new.self c.declare_each.new.self c.enter.new.self (plain_statement c.args.statement.now) c.len-start.result c.args.bytes
      c.requires.tables c.make_room.ensures.same c.requires.meant c.requires.formed c.requires.kind c.requires.counted c.requires.room
      (subst (TakesSymbols c.make_room.new.self c.declare_each.new.self c.args.statement.now.kind) (ap texts_of c.deref.ensures.value ∙ sym (texts c.args.statement.now.symbols.items)) c.declare_each.ensures)
      (search rules) c.enter.ensures,
)
