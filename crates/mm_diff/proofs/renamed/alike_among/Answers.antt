-- One more number, which is taken or passed over.
use Rattle.std.proofs.Common.{◌∙◌, ℕ, List, get_or, map, sym}
use Rattle.std.proofs.lemmas.Bool.{false≢true}
use Rattle.std.proofs.lemmas.Option.{slice_get-get_or}
use Rattle.mm_base.proofs.Lists.{contains_from_at}
use Rattle.mm_frame.specs.declared.number.LabelId.{LabelId}
use Rattle.mm_frame.proofs.Names.NameNumbers.{get_mapped}
use Rattle.mm_rules.proofs.OrderedNumbers.{among_taken, among_passed}
use Rattle.mm_alike.specs.Alike.{AreAlike}
use Rattle.mm_diff.proofs.RenamedLabels.{all_passed, alone_asserts}
use Rattle.mm_diff.proofs.renamed.alike_among.Goals as goal
use Rattle.mm_diff.proofs.renamed.alike_among.Goals.{then-are_alike+in_ok-push, else-are_alike}

pub are_alike-requires-clause-other : goal.are_alike-requires-clause-other
are_alike-requires-clause-other c =
    let those : List LabelId = c.args.those.now in
    let x : LabelId = get_or those c.loop-one.one-index (record { 0 = 0 }) in
    let at = slice_get-get_or those c.loop-one.one-index (record { 0 = 0 }) c.loop-one-test.true in
    alone_asserts c.args.other.now.statements c.args.book.now.statements x.0
    ((c.requires.those.each x.0).0 (contains_from_at (map (λ (l : LabelId). l.0) those) x.0
    (c.loop-one.one-index, get_mapped (λ (l : LabelId). l.0) those c.loop-one.one-index x at)))

pub loop-one-preserved : goal.loop-one-preserved
loop-one-preserved c =
    let those : List LabelId = c.args.those.now in
    let x : LabelId = get_or those c.loop-one.one-index (record { 0 = 0 }) in
    let at = slice_get-get_or those c.loop-one.one-index (record { 0 = 0 }) c.loop-one-test.true in
    let M : ℕ → Type 0 =
    AreAlike c.args.book.now.statements c.args.other.now.statements c.args.id.0 in
    elim c.if-are_alike.branch [
      | then-are_alike+in_ok-push w ↦
          among_taken M those c.loop-one.alike.items c.if-are_alike.alike.items
          c.loop-one.one-index x c.requires.those.rising at c.loop-one.invariant
          (c.are_alike.ensures.0 w.if-are_alike.true) (rw w.alike-is w.in_ok-push.ensures.items)
      | else-are_alike w ↦
          rw w.alike-is (among_passed M those c.loop-one.alike.items c.loop-one.one-index x at
          c.loop-one.invariant
          (λ h. false≢true (sym w.if-are_alike.false ∙ c.are_alike.ensures.1 h)))
    ]

pub returns : goal.returns
returns c =
    all_passed (AreAlike c.args.book.now.statements c.args.other.now.statements c.args.id.0)
    c.args.those.now (map (λ (l : LabelId). l.0) c.loop-one.alike.items) c.loop-one.one-index
    c.loop-one-test.false c.loop-one.invariant
