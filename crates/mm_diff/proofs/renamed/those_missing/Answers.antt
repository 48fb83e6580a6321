-- One more number, which is taken or passed over.
use Rattle.std.proofs.Common.{ℕ, List, get_or, map}
use Rattle.std.proofs.lemmas.Option.{slice_get-get_or}
use Rattle.mm_base.proofs.Lists.{contains_from_at}
use Rattle.mm_frame.specs.declared.number.LabelId.{LabelId}
use Rattle.mm_frame.proofs.Names.NameNumbers.{get_mapped}
use Rattle.mm_rules.proofs.OrderedNumbers.{among_taken, among_passed}
use Rattle.mm_diff.specs.Diff.{IsMissing, IsRenamed}
use Rattle.mm_alike.specs.Alike.{IsAlone}
use Rattle.mm_diff.proofs.RenamedLabels.{all_passed, alone_asserts, among_order, told_none, told_some}
use Rattle.mm_diff.proofs.renamed.those_missing.Goals as goal
use Rattle.mm_diff.proofs.renamed.those_missing.Goals.{then-is_none+in_ok-push, else-is_none}

pub renamed_as-requires-clause-id : goal.renamed_as-requires-clause-id
renamed_as-requires-clause-id c =
    let alone : List LabelId = c.args.alone.now in
    let x : LabelId = get_or alone c.loop-id.id-index (record { 0 = 0 }) in
    let at = slice_get-get_or alone c.loop-id.id-index (record { 0 = 0 }) c.loop-id-test.true in
    alone_asserts c.args.book.now.statements c.args.other.now.statements x.0
    ((c.requires.alone.each x.0).0 (contains_from_at (map (λ (l : LabelId). l.0) alone) x.0
    (c.loop-id.id-index, get_mapped (λ (l : LabelId). l.0) alone c.loop-id.id-index x at)))

pub loop-id-preserved : goal.loop-id-preserved
loop-id-preserved c =
    let st = c.args.book.now.statements in
    let others = c.args.other.now.statements in
    let alone : List LabelId = c.args.alone.now in
    let x : LabelId = get_or alone c.loop-id.id-index (record { 0 = 0 }) in
    let at = slice_get-get_or alone c.loop-id.id-index (record { 0 = 0 }) c.loop-id-test.true in
    let M : ℕ → Type 0 = λ n. (m : ℕ) → ¬ (IsRenamed st others n m) in
    elim c.if-is_none.branch [
      | then-is_none+in_ok-push w ↦
          among_taken M alone c.loop-id.missing.items c.if-is_none.missing.items c.loop-id.id-index x
          c.requires.alone.rising at c.loop-id.invariant
          (c.in_ok-named.ensures.none (told_none c.in_ok-named.named c.is_none.result
          c.is_none.ensures w.if-is_none.true))
          (rw w.missing-is w.in_ok-push.ensures.items)
      | else-is_none w ↦
          rw w.missing-is (among_passed M alone c.loop-id.missing.items c.loop-id.id-index x at
          c.loop-id.invariant
          (λ none. told_some (λ n. IsRenamed st others x.0 n.0) c.in_ok-named.named c.is_none.result
          c.is_none.ensures w.if-is_none.false c.in_ok-named.ensures.some (λ n. none n.0)))
    ]

pub returns : goal.returns
returns c =
    let st = c.args.book.now.statements in
    let others = c.args.other.now.statements in
    let M : ℕ → Type 0 = λ n. (m : ℕ) → ¬ (IsRenamed st others n m) in
    let missing : List ℕ = map (λ (l : LabelId). l.0) c.loop-id.missing.items in
    among_order (IsAlone st others) M (IsMissing st others)
    (map (λ (l : LabelId). l.0) c.args.alone.now) missing c.requires.alone
    (all_passed M c.args.alone.now missing c.loop-id.id-index c.loop-id-test.false
    c.loop-id.invariant)
    (λ n. ((λ h. h), (λ h. h)))
