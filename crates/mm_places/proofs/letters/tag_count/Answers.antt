-- The first number stands behind those that are tags.
use Rattle.std.proofs.Common.{◌∙◌, sym, length, arith}
use Rattle.std.proofs.lemmas.List.Sums.{position_or_len_is}
use Rattle.mm_code.specs.declared.code.Code.TheVariants.{Number}
use Rattle.mm_places.specs.StepLetters.{is_number}
use Rattle.mm_places.proofs.letters.tag_count.Goals as goal

pub returns-clause-first : goal.returns-clause-first
returns-clause-first c =
    sym (position_or_len_is is_number c.args.codes.now (length c.args.codes.now) (Number 0)
    (omega arith)
    (λ k less. c.loop-index.invariant k (omega (arith, less, c.loop-index-test.false)))
    (λ less. absurd (omega (arith, less))))

pub returns-then-is_number-clause-first : goal.returns-then-is_number-clause-first
returns-then-is_number-clause-first c =
    sym (position_or_len_is is_number c.args.codes.now c.loop-index.index (Number 0)
    (omega (arith, c.loop-index-test.true)) c.loop-index.invariant
    (λ less. sym c.is_number.ensures ∙ c.if-is_number.true))
