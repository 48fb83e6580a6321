use Rattle.std.proofs.Common.{refl, sym, ap, ◌∙◌, ◌≡◌, length, [], Some, None, arith, slice_get, subst}
use Rattle.mm_base.specs.declared.statement.Kind.TheVariants.{Floating}
use Rattle.mm_frame.specs.declared.answer.Taken.TheVariants.{Hypothesis}
use Rattle.mm_frame.proofs.BookLists.GrownLists.{on_err, same_tables}
use Rattle.mm_frame.proofs.BookLists.LabelledStatements.{IsWritten, few_labels, next_number}
use Rattle.mm_frame.proofs.BookLists.LabelledStatements.{before_same, typed, noted, known_info}
use Rattle.mm_frame.proofs.BookLists.LabelledStatements.{Before}
use Rattle.mm_frame.proofs.tables.Tables.give_type.Goals as goal
use Rattle.mm_frame.proofs.tables.Tables.give_type.Goals.{in-Some, in-None}
use Rattle.mm_frame.proofs.Frames.FrameTypings.{typing_says}
use Rattle.mm_frame.specs.Mirror.Layout.{statements_of}

pub returns-in_err-reserve-clause-err : goal.returns-in_err-reserve-clause-err
returns-in_err-reserve-clause-err c = on_err c.from_residual.result (same_tables _ _ c.requires.tables c.reserve.ensures.same)

pub name-id-requires-clause-labels : goal.name-id-requires-clause-labels
name-id-requires-clause-labels c =
    let t = c.args.self.now in
    let labels : c.match-at.self.labels.names ≡ t.labels.names = elim c.match-at.branch [
      | in-Some w ↦ rw w.self-is c.reserve.ensures.same.labels
      | in-None w ↦ rw w.self-is c.reserve.ensures.same.labels
    ] in
    rw labels (few_labels c.args.self.now c.args.bytes c.requires.tables c.requires.room)

pub returns-clause-ok : goal.returns-clause-ok
returns-clause-ok c =
    let t = c.args.self.now in
    let same = c.reserve.ensures.same in
    let labels : c.match-at.self.labels.names ≡ t.labels.names = elim c.match-at.branch [
      | in-Some w ↦ rw w.self-is c.reserve.ensures.same.labels
      | in-None w ↦ rw w.self-is c.reserve.ensures.same.labels
    ] in
    let b = before_same t c.reserve.new.self same in (
      ap Hypothesis (next_number t c.name-id.result c.requires.tables (c.name-id.ensures.id ∙ ap length labels)),
      λ s kind label numbered meant formed.
          let is : IsWritten t s Floating c.args.label.now c.args.numbers.now = record { kinds = kind; label = label; numbered = numbered; meant = meant; formed = formed } in
          let (one, n, are, (code, x, types, at_code, at_x)) = typing_says (statements_of t) s
          c.args.numbers.now formed kind numbered in
          let named : slice_get t.symbols.names n.0 ≡ Some x = subst
          (λ names. slice_get names n.0 ≡ Some x) (sym c.requires.tables.infos.all) at_x in
          let second : slice_get c.args.numbers.now 1 ≡ Some n = ap (λ ns. slice_get ns 1) are in
          let (info, there) = known_info t n x c.requires.tables named in
          elim c.match-at.branch [
            | in-Some w ↦
                let found : Some w.in-Some.variable ≡ Some n = sym w.in-Some.is ∙ c.at.ensures ∙ second in
                let is_second : w.in-Some.variable ≡ n = cc in
                let index : w.len.result ≡ length t.log.items = let size = ap length same.log in omega arith in
                typed c.requires.tables (subst (λ u. Before t u [] [] []) (sym w.self-is) (search b))
                c.name-id.ensures.named c.name-id.ensures.id is c.requires.enough c.requires.room
                code x n info refl types.1 named there
                (rw w.self-is (noted c.reserve.new.self.infos.items t.infos.items w.note_floating.new.infos.items w.in-Some.variable n info w.len.result (length t.log.items)
                same.infos is_second index there w.note_floating.ensures))
                (rw w.self-is same.essentials)
            | in-None w ↦ absurd (let found : None ≡ Some n = sym w.in-None.is ∙ c.at.ensures ∙ second in cc)
          ],
    )
