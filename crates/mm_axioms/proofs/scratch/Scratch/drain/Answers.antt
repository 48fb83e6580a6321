-- One more word was taken out, or a block was passed.
use Rattle.std.proofs.Common.{Bool, false, ◌/◌, ◌≤◌, ◌<◌, refl, ◌∙◌, ◌++◌, ◌∷◌, [], ℕ, List, length}
use Rattle.std.proofs.Common.{replicate, ap, subst, arith}
use Rattle.mm_axioms.specs.Mirror.Bits.{IsRow, words_from}
use Rattle.mm_axioms.proofs.ScratchWords.{drained_one, drained_block, drained_words, drained_zero}
use Rattle.mm_axioms.proofs.ScratchWords.{all_zero, noted_zero, row_of_words, any_default}
use Rattle.mm_axioms.proofs.scratch.Scratch.drain.Goals as goal

pub loop-at-preserved-then-index : goal.loop-at-preserved-then-index
loop-at-preserved-then-index c =
    let now : List ℕ = c.loop-at.self-inside.words.items in
    let at : ℕ = c.loop-at.at in
    let less : at < length now =
    (let l = c.len.ensures in let t = c.loop-at-test.true in omega arith) in (
      drained_one c.args.self.now now _ c.args.out.now.items c.loop-at.out.items
          c.push_word.new.out.items at c.loop-at.invariant.0 less refl
          (c.in_ok-push_word.ensures
          ∙ ap (λ (b : ℕ). c.loop-at.out.items ++ words_from at (b ∷ []))
          (c.index-then-index.ensures ∙ any_default now at _ 0 less)),
      noted_zero now c.loop-at.self-inside.touched.items at c.loop-at.invariant.1 less,
    )

pub loop-at-preserved : goal.loop-at-preserved
loop-at-preserved c =
    let touched : List Bool = c.loop-at.self-inside.touched.items in
    let less : c.loop-at.at / 64 < length touched =
    (let l = c.len.ensures in let t = c.loop-at-test.true in let w = c.loop-at.invariant.1.wide in
    omega arith) in (
      drained_block c.args.self.now c.loop-at.self-inside.words.items
          c.loop-at.self-inside.touched.items c.args.out.now.items c.loop-at.out.items c.loop-at.at
          c.loop-at.invariant.0 c.loop-at.invariant.1
          (λ on. absurd
          (let e = c.index.ensures ∙ any_default touched (c.loop-at.at / 64) _ false less
          ∙ on in let f = c.if-index.false in cc)),
      c.loop-at.invariant.1,
    )

pub returns-clause-row : goal.returns-clause-row
returns-clause-row c =
    subst (λ (ws : List ℕ). IsRow (words_from 0 ws)) c.self.view_is
    (row_of_words c.self.inside.words.items c.self.invariant.narrow c.self.invariant.bits)

pub returns-clause-words : goal.returns-clause-words
returns-clause-words c =
    let all : length c.loop-at.self-inside.words.items ≤ c.loop-at.at =
    (let l = c.len.ensures in let t = c.loop-at-test.false in omega arith) in
    drained_words c.args.self.now c.loop-at.self-inside.words.items c.args.out.now.items
    c.loop-at.out.items c.loop-at.at c.loop-at.invariant.0 all

pub returns-clause-emptied : goal.returns-clause-emptied
returns-clause-emptied c =
    let now : List ℕ = c.loop-at.self-inside.words.items in
    let all : length now ≤ c.loop-at.at =
    (let l = c.len.ensures in let t = c.loop-at-test.false in omega arith) in
    all_zero now (drained_zero c.args.self.now now c.args.out.now.items c.loop-at.out.items
    c.loop-at.at c.loop-at.invariant.0 all)
    ∙ ap (λ (n : ℕ). replicate n 0) c.loop-at.invariant.0.same
