use Rattle.std.proofs.Common.{◌≡◌, ◌++◌, [], ◌∷◌, length, map, ap, sym, ◌∙◌, subst, refl}
use Rattle.mm_frame.specs.Mirror.Layout.{AreStated, statements_of}
use Rattle.mm_frame.specs.Mirror.Separated.{stated_at}
use Rattle.mm_frame.proofs.BookLists.GrownLists.{on_err, same_tables, same_but, all_statements}
use Rattle.mm_frame.proofs.BookLists.UnlabelledStatements.{has_room, distinct_grows, adds_distinct}
use Rattle.mm_frame.proofs.tables.Tables.separate_pairs.Goals as goal
use Rattle.mm_frame.proofs.DistinctPairs.StatedPairs.{stated_push}
use Rattle.mm_frame.proofs.DistinctPairs.AddedPairs.{new_from_paired}

pub returns-in_err-reserve-clause-err : goal.returns-in_err-reserve-clause-err
returns-in_err-reserve-clause-err c = on_err _
    (same_tables _ _ c.requires.tables c.reserve.ensures.same)

pub returns-in_err-reserve-2-clause-err : goal.returns-in_err-reserve-2-clause-err
returns-in_err-reserve-2-clause-err c =
    on_err _ (same_tables _ _ c.requires.tables
    (same_but _ _ _ c.reserve.ensures.same c.reserve-2.ensures.stated))

pub enter_members-requires-clause-room : goal.enter_members-requires-clause-room
enter_members-requires-clause-room c = has_room _ _ _ c.in_ok-reserve.ensures.room

pub returns-clause-ok : goal.returns-clause-ok
returns-clause-ok c = (
  c.enter_members.ensures.taken,
  λ s kind label numbers meant formed.
      let t = c.args.self.now in
      let st = statements_of t in
      let u = c.reserve.new.self in
      let before = t.distinct.stated in
      let e = c.enter_members.ensures.entered in
      let same = c.reserve.ensures.same in
      let index : c.len-index.result ≡ length st =
      c.len-index.ensures ∙ u.log.ok.0 ∙ ap length same.log ∙ sym (all_statements t) in
      let stated : c.enter_members.new.self.distinct.stated ≡ record {
        pairs = before.pairs ++ map (stated_at (length st)) c.in_ok-pairs.pairs.items;
        wide = before.wide;
      } = e.stated ∙ c.state.ensures
      ∙ rw (c.reserve-2.ensures.stated, same.stated, c.deref.ensures.value, index) refl in
      distinct_grows c.requires.tables (adds_distinct _ _ _ _ _ _ same e)
      (record { kind = kind; label = label; numbered = numbers; meant = meant; formed = formed })
      c.requires.enough c.requires.room refl (e.essentials ∙ same.essentials)
      (subst (AreStated (st ++ s ∷ []) t.symbols.names) (sym stated)
      (stated_push _ _ _ _ _ c.requires.tables.infos.all
      c.requires.tables.stated kind (new_from_paired _ s t.symbols.names _ _
      c.requires.tables.infos.all kind meant numbers c.in_ok-pairs.ensures))),
)
