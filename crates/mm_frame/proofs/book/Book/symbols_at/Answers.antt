-- No statement stands behind the last.
use Rattle.std.proofs.Common.{◌≡◌, ap, length, sym, ◌∙◌, arith}
use Rattle.std.proofs.lemmas.Option.{slice_get_within}
use Rattle.mm_frame.specs.Database.{Database}
use Rattle.mm_frame.specs.Mirror.Layout.{statements_of}
use Rattle.mm_frame.proofs.BookLists.GrownLists.{all_statements}
use Rattle.mm_frame.proofs.book.Book.symbols_at.Goals as goal

pub returns-else-index-len : goal.returns-else-index-len
returns-else-index-len c s there =
    let t = c.self.inside.tables in
    let st = c.args.self.now.statements in
    let is : statements_of t ≡ st = ap (λ (b : Database). b.statements) c.self.view_is in
    let less = slice_get_within st c.args.index s there in
    let size : c.len.result ≡ length st =
    c.len.ensures ∙ t.log.ok.0 ∙ sym (all_statements t) ∙ ap length is in
    absurd (omega (arith, less, size, c.if-index-len.false))
