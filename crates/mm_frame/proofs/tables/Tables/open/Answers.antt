use Rattle.std.proofs.Common.{refl, ◌∙◌, arith}
use Rattle.mm_frame.proofs.BookLists.UnlabelledStatements.{adds_block, open_grows}
use Rattle.mm_frame.proofs.tables.Tables.open.Goals as goal
use Rattle.mm_frame.proofs.BookLists.GrownLists.{on_err, same_tables}

pub returns-in_err-reserve-clause-err : goal.returns-in_err-reserve-clause-err
returns-in_err-reserve-clause-err c = on_err _ (same_tables _ _ c.requires.tables c.reserve.ensures.same)

pub returns-clause-ok : goal.returns-clause-ok
returns-clause-ok c = (
  refl,
  λ s is unlabelled bare meant formed. open_grows c.requires.tables
      (adds_block _ _ _ _ _ _ c.reserve.ensures.same c.enter.ensures (omega arith))
      (record { kind = is; label = unlabelled; numbered = rw bare refl; meant = meant; formed = formed })
      c.requires.some c.requires.room refl (c.enter.ensures.stated ∙ c.reserve.ensures.same.stated)
      (c.enter.ensures.essentials ∙ c.reserve.ensures.same.essentials),
)
