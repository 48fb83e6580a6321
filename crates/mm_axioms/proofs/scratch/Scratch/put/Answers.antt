-- The block of the word is marked.
use Rattle.std.proofs.Common.{◌<◌, ◌^◌, ℕ, length, subst, sym, arith, ◌∙◌}
use Rattle.std.proofs.lemmas.Nat.{or_lt}
use Rattle.mm_axioms.proofs.ScratchWords.{noted_put, any_default}
use Rattle.mm_axioms.proofs.scratch.Scratch.put.Goals as goal

pub invariant_of-self : goal.invariant_of-self
invariant_of-self c =
    let less : c.args.word.index < length c.self.inside.words.items = rw c.self.view_is
    c.requires in
    let old : c.index_mut.result.now < 2 ^ 64 =
    subst (λ (n : ℕ). n < 2 ^ 64)
    (sym (c.index_mut.ensures.value
    ∙ any_default c.self.inside.words.items c.args.word.index _ 0 less))
    (c.self.invariant.bits c.args.word.index) in
    noted_put c.self.inside.words.items c.self.inside.touched.items c.args.word.index _
    c.self.invariant less
    (or_lt 64 c.index_mut.result.now c.args.word.bits old (omega arith))
