use Rattle.std.proofs.Common.{◌≡◌, ◌+◌, ◌-◌, sym, ◌∙◌, arith, inl, inr}
use Rattle.std.proofs.lemmas.Bool.{cases_lt, both_ways}
use Rattle.mm_text.proofs.SaidBefore.{spaced-ink, spaced-blank, spaced-other}
use Rattle.mm_text.proofs.remarks.behind_said.Goals as goal
use Rattle.mm_text.proofs.remarks.behind_said.Goals.{then-is_blank-2-via-then-is_blank-2, then-is_blank-2-via-else-is_blank-2+then-text-at, else-is_blank-via-then-is_blank+else-byte-eq32, else-is_blank-via-else-is_blank}

-- a run of white space says one space
pub returns-then-byte-eq32 : goal.returns-then-byte-eq32
returns-then-byte-eq32 c =
    let text = c.args.text.now in
    let at = c.args.at in
    let end = c.skip_space.result in
    let from = c.skip_space.ensures.not_before in
    let here = sym c.is_space-is_blank.ensures ∙ c.if-is_blank.true in
    elim (cases_lt at end) [
      | inl lt ↦
          let said = spaced-blank (end - (at + 1)) text at end (omega arith) c.skip_space.ensures.within
          c.skip_space.ensures.space c.skip_space.ensures.stops in
          (lt, c.skip_space.ensures.within, rw c.if-byte-eq32.true said)
      | inr ge ↦
          let same : end ≡ at = omega arith in
          absurd (both_ways _ (c.skip_space.ensures.stops (omega arith)) (rw same here))
    ]

-- another byte is said
pub returns-then-is_blank-2 : goal.returns-then-is_blank-2
returns-then-is_blank-2 c = λ said same.
    let text = c.args.text.now in
    let at = c.args.at in
    elim c.then-is_blank-2.branch [
      | then-is_blank-2-via-then-is_blank-2 w ↦
          let here = sym c.is_space-is_blank.ensures ∙ w.if-is_blank-2.true in
          elim c.else-is_blank.branch [
            | else-is_blank-via-then-is_blank+else-byte-eq32 v ↦
                spaced-other text said at c.args.byte c.requires here v.if-byte-eq32.false same
            | else-is_blank-via-else-is_blank v ↦
                absurd (both_ways _ v.if-is_blank.false w.if-is_blank-2.true)
          ]
      | then-is_blank-2-via-else-is_blank-2+then-text-at w ↦
          let ink = sym c.is_space-is_blank.ensures ∙ w.if-is_blank-2.false in
          let first = sym (spaced-ink text at c.requires ink) ∙ same in
          w.if-text-at.true (cc)
    ]

-- the byte itself is said
pub returns : goal.returns
returns c =
    let ink = sym c.is_space-is_blank.ensures ∙ c.if-is_blank-2.false in
    let said = spaced-ink c.args.text.now c.args.at c.requires ink in
    (omega arith, omega arith, rw (← c.if-text-at.false) said)
