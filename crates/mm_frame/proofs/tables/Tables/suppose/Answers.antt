use Rattle.std.proofs.Common.{◌≡◌, refl, ap, ◌∙◌, length, arith, ◌++◌, ◌∷◌, []}
use Rattle.mm_frame.specs.declared.answer.Taken.TheVariants.{Hypothesis}
use Rattle.mm_frame.proofs.BookLists.GrownLists.{on_err, same_tables}
use Rattle.mm_frame.proofs.BookLists.LabelledStatements.{few_labels, next_number, before_same}
use Rattle.mm_frame.proofs.BookLists.LabelledStatements.{supposed}
use Rattle.mm_frame.proofs.tables.Tables.suppose.Goals as goal

pub returns-in_err-reserve-clause-err : goal.returns-in_err-reserve-clause-err
returns-in_err-reserve-clause-err c = on_err c.from_residual.result (same_tables _ _ c.requires.tables c.reserve.ensures.same)

pub name-id-requires-clause-labels : goal.name-id-requires-clause-labels
name-id-requires-clause-labels c = rw c.reserve.ensures.same.labels (few_labels c.args.self.now c.args.bytes c.requires.tables c.requires.room)

pub returns-clause-ok : goal.returns-clause-ok
returns-clause-ok c =
    let t = c.args.self.now in
    let same = c.reserve.ensures.same in
    let index : c.len.result ≡ length t.log.items = let size = ap length same.log in omega arith in
    let b = before_same _ _ same in (
      ap Hypothesis (next_number _ c.name-id.result c.requires.tables (c.name-id.ensures.id ∙ ap length same.labels)),
      λ s kind label numbered meant formed.
          supposed {u = record c.reserve.new.self { essentials = c.put.new.list }} c.requires.tables
          (search b) c.name-id.ensures.named c.name-id.ensures.id
          (record { kinds = kind; label = label; numbered = numbered; meant = meant; formed = formed })
          c.requires.enough c.requires.room refl same.infos
          (c.put.ensures ∙ ap (λ ys. ys ++ c.len.result ∷ []) same.essentials
          ∙ ap (λ n. t.essentials.items ++ n ∷ []) index),
    )
