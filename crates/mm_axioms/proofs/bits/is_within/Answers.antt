-- One more word was looked at.
use Rattle.std.proofs.Common.{◌≡◌, ◌+◌, ℕ, List, length, get_or, Some, slice_get, subst, sym, ◌∙◌}
use Rattle.std.proofs.Common.{arith, eq-eqb}
use Rattle.std.proofs.lemmas.Bool.{eqb-true}
use Rattle.std.proofs.lemmas.Option.{slice_get-get_or, same_Some, slice_get_within}
use Rattle.mm_axioms.specs.declared.bits.SetWord.{SetWord}
use Rattle.mm_axioms.specs.Mirror.Bits.{IsPartOf}
use Rattle.mm_axioms.proofs.WordSets.{IsFound, found_one, found_no_more, found_all}
use Rattle.mm_axioms.proofs.bits.is_within.Goals as goal
use Rattle.mm_axioms.proofs.bits.is_within.Goals.{then-found-row+then-is_part_of, else-found-row}
use Rattle.mm_axioms.proofs.bits.is_within.Goals.{else-found-row-via-then-found-row+else-is_part_of}
use Rattle.mm_axioms.proofs.bits.is_within.Goals.{else-found-row-via-else-found-row}

pub loop-other-preserved : goal.loop-other-preserved
loop-other-preserved c =
    let row : List SetWord = c.args.row.now in
    let others : List SetWord = c.args.others.now in
    let zero : SetWord = record { index = 0; bits = 0 } in
    let k : ℕ = c.loop-other.other-index in
    let found : ℕ = c.loop-other.found in
    let v : SetWord = get_or others k zero in
    let there : slice_get others k ≡ Some v = slice_get-get_or others k zero
    c.loop-other-test.true in
    elim c.if-found-row.branch [
      | then-found-row+then-is_part_of w ↦
          subst (λ (n : ℕ). IsFound row others n (k + 1)) (sym w.found-is)
          (found_one row others found k (get_or row found zero) v c.requires.row c.requires.others
          c.loop-other.invariant
          (slice_get-get_or row found zero w.if-found-row.true) there
          (w.is_part_of.ensures.0 w.if-is_part_of.true))
      | else-found-row w ↦ subst (λ (n : ℕ). IsFound row others n (k + 1)) (sym w.found-is)
          (elim w.else-found-row.branch [
            | else-found-row-via-then-found-row+else-is_part_of u ↦
                found_no_more row others found k v c.loop-other.invariant there
                (λ x at part. absurd (let t = u.is_part_of.ensures.1
                (subst (λ (y : SetWord). IsPartOf y v)
                (same_Some x (get_or row found zero)
                (sym at ∙ slice_get-get_or row found zero u.if-found-row.true)) part) in let f =
                u.if-is_part_of.false in cc))
            | else-found-row-via-else-found-row u ↦
                found_no_more row others found k v c.loop-other.invariant there
                (λ x at part. absurd (let less = slice_get_within row found x at in
                let more = u.if-found-row.false in omega arith))
          ])
    ]

pub returns : goal.returns
returns c =
    let row : List SetWord = c.args.row.now in
    let both = found_all row c.args.others.now c.loop-other.found c.loop-other.other-index
    c.requires.row c.requires.others c.loop-other.invariant c.loop-other-test.false in (
      (λ t. both.0 (eqb-true c.loop-other.found (length row) t)),
      λ h. eq-eqb c.loop-other.found (length row) (both.1 h),
    )
