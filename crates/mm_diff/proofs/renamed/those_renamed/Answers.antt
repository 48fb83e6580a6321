-- One more number, which is taken or passed over.
use Rattle.std.proofs.Common.{List, get_or, map, refl}
use Rattle.std.proofs.lemmas.Option.{slice_get-get_or}
use Rattle.mm_base.proofs.Lists.{contains_from_at}
use Rattle.mm_frame.specs.declared.number.LabelId.{LabelId}
use Rattle.mm_frame.proofs.Names.NameNumbers.{get_mapped}
use Rattle.mm_diff.specs.Mirror.Changes.{plain_renaming}
use Rattle.mm_diff.proofs.RenamedLabels.{alone_asserts, renamed_more, renamed_passed, renamed_told}
use Rattle.mm_diff.proofs.renamed.those_renamed.Goals as goal
use Rattle.mm_diff.proofs.renamed.those_renamed.Goals.{in-Some+in_ok-push, in_default}

pub renamed_as-requires-clause-id : goal.renamed_as-requires-clause-id
renamed_as-requires-clause-id c =
    let alone : List LabelId = c.args.alone.now in
    let x : LabelId = get_or alone c.loop-id.id-index (record { 0 = 0 }) in
    let at = slice_get-get_or alone c.loop-id.id-index (record { 0 = 0 }) c.loop-id-test.true in
    alone_asserts c.args.book.now.statements c.args.other.now.statements x.0
    ((c.requires.alone.each x.0).0 (contains_from_at (map (λ (l : LabelId). l.0) alone) x.0
    (c.loop-id.id-index, get_mapped (λ (l : LabelId). l.0) alone c.loop-id.id-index x at)))

pub loop-id-preserved : goal.loop-id-preserved
loop-id-preserved c =
    let new = c.args.book.now.statements in
    let old = c.args.other.now.statements in
    let alone : List LabelId = c.args.alone.now in
    let x : LabelId = get_or alone c.loop-id.id-index (record { 0 = 0 }) in
    let at = slice_get-get_or alone c.loop-id.id-index (record { 0 = 0 }) c.loop-id-test.true in
    elim c.match-branch-2.branch [
      | in-Some+in_ok-push w ↦
          renamed_more old new alone c.loop-id.those.items c.match-branch-2.those.items
          c.loop-id.id-index x c.requires.alone.rising at c.loop-id.invariant w.in-Some.named
          (rw w.in-Some.is at c.in_ok-named.ensures.some)
          (rw w.those-is w.in_ok-push.ensures.items)
      | in_default w ↦
          rw w.those-is (renamed_passed old new alone c.loop-id.those.items c.loop-id.those.items
          c.loop-id.id-index x c.requires.alone.rising at c.loop-id.invariant
          (c.in_ok-named.ensures.none w.in_default.is) refl)
    ]

pub returns : goal.returns
returns c =
    renamed_told c.args.other.now.statements c.args.book.now.statements c.args.alone.now
    (map plain_renaming c.loop-id.those.items) c.loop-id.id-index c.requires.alone
    c.loop-id-test.false c.loop-id.invariant
