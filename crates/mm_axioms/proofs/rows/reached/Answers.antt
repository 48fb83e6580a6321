-- One more word was looked at.
use Rattle.std.proofs.Common.{◌≤◌, ◌+◌, List, ℕ, map, take, length, get_or, sym, subst}
use Rattle.std.proofs.lemmas.List.{take_all}
use Rattle.std.proofs.lemmas.List.Elements.{Contains-get_or}
use Rattle.std.proofs.lemmas.Option.{slice_get-get_or}
use Rattle.mm_frame.specs.declared.number.LabelId.{LabelId}
use Rattle.mm_rules.specs.Rests.{AreInOrder}
use Rattle.mm_axioms.specs.declared.bits.SetWord.{SetWord}
use Rattle.mm_axioms.specs.Mirror.Rows.{row_in}
use Rattle.mm_axioms.proofs.Resting.RowNumbers.{ReachedIn, reached_word}
use Rattle.mm_axioms.proofs.rows.reached.Goals as goal

pub push_told-requires-clause-narrow : goal.push_told-requires-clause-narrow
push_told-requires-clause-narrow c =
    let row : List SetWord = c.row-word-items.result.now in
    let zero : SetWord = record { index = 0; bits = 0 } in
    (c.row-word-items.ensures.words.narrow (get_or row c.loop-word.word-index zero)
    (Contains-get_or row c.loop-word.word-index zero c.loop-word-test.true)).0

pub loop-word-preserved : goal.loop-word-preserved
loop-word-preserved c =
    let row : List SetWord = c.row-word-items.result.now in
    let zero : SetWord = record { index = 0; bits = 0 } in
    let k : ℕ = c.loop-word.word-index in
    let ids : List ℕ = map (λ (l : LabelId). l.0) c.args.numbers.now in
    let e = c.row-word-items.ensures.row in
    subst (λ (r : List SetWord). AreInOrder (ReachedIn ids (take (k + 1) r))
    (map (λ (l : LabelId). l.0) c.push_told.new.out.items)) e
    (reached_word c.args.numbers.now row k (get_or row k zero) c.loop-word.reached.items
    c.push_told.new.out.items c.row-word-items.ensures.words
    (slice_get-get_or row k zero c.loop-word-test.true)
    (subst (λ (r : List SetWord). AreInOrder (ReachedIn ids (take k r))
    (map (λ (l : LabelId). l.0) c.loop-word.reached.items)) (sym e) c.loop-word.invariant)
    c.in_ok-push_told.ensures)

pub returns : goal.returns
returns c =
    let row : List SetWord = row_in c.args.rows.now c.args.theorem.0 in
    let k : ℕ = c.loop-word.word-index in
    let all : length row ≤ k = subst (λ (r : List SetWord). length r ≤ k)
    c.row-word-items.ensures.row c.loop-word-test.false in
    subst (λ (r : List SetWord). AreInOrder
    (ReachedIn (map (λ (l : LabelId). l.0) c.args.numbers.now) r)
    (map (λ (l : LabelId). l.0) c.loop-word.reached.items))
    (take_all k row all) c.loop-word.invariant
