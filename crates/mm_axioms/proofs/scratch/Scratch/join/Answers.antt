-- One more word was put in.
use Rattle.std.proofs.Common.{◌<◌, ℕ, List, get_or, subst, sym}
use Rattle.std.proofs.lemmas.List.Elements.{Contains-get_or}
use Rattle.std.proofs.lemmas.Option.{slice_get-get_or}
use Rattle.mm_axioms.specs.declared.bits.SetWord.{SetWord}
use Rattle.mm_axioms.proofs.ScratchWords.{joined_none, joined_more}
use Rattle.mm_axioms.proofs.scratch.Scratch.join.Goals as goal

pub loop-word-init : goal.loop-word-init
loop-word-init c = joined_none c.args.self.now c.args.row.now

pub put-requires : goal.put-requires
put-requires c =
    let row : List SetWord = c.args.row.now in
    let zero : SetWord = record { index = 0; bits = 0 } in
    subst (λ (n : ℕ). (get_or row c.loop-word.word-index zero).index < n)
    (sym c.loop-word.invariant.0)
    (c.requires (get_or row c.loop-word.word-index zero)
    (Contains-get_or row c.loop-word.word-index zero c.loop-word-test.true))

pub loop-word-preserved : goal.loop-word-preserved
loop-word-preserved c =
    let row : List SetWord = c.args.row.now in
    let zero : SetWord = record { index = 0; bits = 0 } in
    let k : ℕ = c.loop-word.word-index in
    joined_more c.args.self.now c.loop-word.self c.put.new.self row k (get_or row k zero)
    c.loop-word.invariant
    (slice_get-get_or row k zero c.loop-word-test.true)
    (subst (λ (n : ℕ). (get_or row k zero).index < n) (sym c.loop-word.invariant.0)
    (c.requires (get_or row k zero) (Contains-get_or row k zero c.loop-word-test.true)))
    c.put.ensures
