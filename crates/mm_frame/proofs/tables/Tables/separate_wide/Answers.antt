use Rattle.std.proofs.Common.{◌++◌, [], ◌∷◌, ap, sym, ◌∙◌, subst, refl}
use Rattle.mm_frame.specs.Mirror.Layout.{AreStated, statements_of}
use Rattle.mm_frame.specs.Mirror.Stated.{AllStated}
use Rattle.mm_frame.proofs.BookLists.GrownLists.{on_err, same_tables, same_but}
use Rattle.mm_frame.proofs.BookLists.UnlabelledStatements.{has_room, distinct_grows, adds_distinct}
use Rattle.mm_frame.proofs.tables.Tables.separate_wide.Goals as goal
use Rattle.mm_frame.proofs.DistinctPairs.StatedPairs.{stated_wide}

pub returns-in_err-reserve-clause-err : goal.returns-in_err-reserve-clause-err
returns-in_err-reserve-clause-err c = on_err _
    (same_tables _ _ c.requires.tables c.reserve.ensures.same)

pub returns-in_err-widen-clause-err : goal.returns-in_err-widen-clause-err
returns-in_err-widen-clause-err c =
    on_err _ (same_tables _ _ c.requires.tables
    (same_but _ _ _ c.reserve.ensures.same c.in_err-widen.ensures.err))

pub enter_members-requires-clause-room : goal.enter_members-requires-clause-room
enter_members-requires-clause-room c = has_room _ _ _ c.in_ok-reserve.ensures.room

pub returns-clause-ok : goal.returns-clause-ok
returns-clause-ok c = (
  c.enter_members.ensures.taken,
  λ s kind label numbers meant formed.
      let t = c.args.self.now in
      let w = c.in_ok-wide.wide in
      let e = c.enter_members.ensures.entered in
      let same = c.reserve.ensures.same in
      let stated = e.stated ∙ c.in_ok-widen.ensures.ok
      ∙ ap (λ (x : AllStated). record { pairs = x.pairs; wide = x.wide ++ w ∷ [] }) same.stated in
      distinct_grows c.requires.tables (adds_distinct _ _ _ _ _ _ same e)
      (record { kind = kind; label = label; numbered = numbers; meant = meant; formed = formed })
      c.requires.enough c.requires.room refl (e.essentials ∙ same.essentials)
      (subst (AreStated ((statements_of t) ++ s ∷ []) t.symbols.names) (sym stated)
      (stated_wide _ s _ _ _ c.requires.tables.infos.all kind numbers _ c.requires.tables.stated
      c.in_ok-wide.ensures)),
)
