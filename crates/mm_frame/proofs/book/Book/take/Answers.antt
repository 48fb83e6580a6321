use Rattle.std.proofs.Common.{arith}
use Rattle.std.proofs.lemmas.List.{length-map}
use Rattle.mm_base.specs.Token.{plain_token}
use Rattle.mm_frame.proofs.BookLists.Declarations.{bytes_enough}
use Rattle.mm_frame.proofs.book.Book.take.Goals as goal

pub first_broken-requires-clause-few : goal.first_broken-requires-clause-few
first_broken-requires-clause-few c =
    let enough = bytes_enough _ c.requires.formed in
    let size = length-map c.args.statement.now.symbols.items plain_token in
    omega arith
