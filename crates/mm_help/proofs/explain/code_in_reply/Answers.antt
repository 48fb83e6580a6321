-- The first word says where the code stands.
use Rattle.std.proofs.Common.{◌≡◌, true, false, ap, sym, ◌∙◌, slice_get, arith}
use Rattle.std.specs.Option.{option_copied}
use Rattle.mm_help.proofs.AskedCodes.{incomplete_told, last_told, looked_up, none_told}
use Rattle.mm_help.proofs.AskedCodes.{tells_last, tells_second}
use Rattle.mm_help.proofs.explain.code_in_reply.Goals as goal
use Rattle.mm_help.proofs.explain.code_in_reply.Goals.{then-eq-via-then-eq}
use Rattle.mm_help.proofs.explain.code_in_reply.Goals.{then-eq-via-else-eq+then-eq-2}

pub returns-then-eq : goal.returns-then-eq
returns-then-eq c =
    let words = c.args.words.now in
    let tells : tells_last c.in-Some.first.now.now ≡ true =
    elim c.then-eq.branch [
      | then-eq-via-then-eq w ↦ let is = c.eq.ensures in let yes = w.if-eq.true in grind arith
      | then-eq-via-else-eq+then-eq-2 w ↦
          let one = c.eq.ensures in
          let other = w.eq-else-eq.ensures in
          let no = w.if-eq.false in
          let yes = w.if-eq-2.true in
          grind arith
    ] in
    ap option_copied
    (c.copied.ensures ∙ looked_up words c.saturating_sub.result c.get.result c.get.ensures.lookup)
    ∙ ap (λ i. option_copied (slice_get words i)) c.saturating_sub.ensures
    ∙ last_told words c.in-Some.first.now (sym c.in-Some.ensures.value) tells

pub returns-then-eq-6 : goal.returns-then-eq-6
returns-then-eq-6 c =
    let last : tells_last c.in-Some.first.now.now ≡ false =
    let one = sym c.eq.ensures ∙ c.if-eq.false in
    let two = sym c.eq-else-eq.ensures ∙ c.if-eq-2.false in grind arith in
    let second : tells_second c.in-Some.first.now.now ≡ false =
    let one = sym c.eq-2.ensures ∙ c.if-eq-3.false in
    let two = sym c.eq-else-eq-3.ensures ∙ c.if-eq-4.false in
    let three = sym c.eq-else-eq-4.ensures ∙ c.if-eq-5.false in grind arith in
    sym (incomplete_told c.args.words.now c.in-Some.first.now (sym c.in-Some.ensures.value) last
    second (sym c.eq-3.ensures ∙ c.if-eq-6.true))

pub returns : goal.returns
returns c =
    let last : tells_last c.in-Some.first.now.now ≡ false =
    let one = sym c.eq.ensures ∙ c.if-eq.false in
    let two = sym c.eq-else-eq.ensures ∙ c.if-eq-2.false in grind arith in
    let second : tells_second c.in-Some.first.now.now ≡ false =
    let one = sym c.eq-2.ensures ∙ c.if-eq-3.false in
    let two = sym c.eq-else-eq-3.ensures ∙ c.if-eq-4.false in
    let three = sym c.eq-else-eq-4.ensures ∙ c.if-eq-5.false in grind arith in
    sym (none_told c.args.words.now c.in-Some.first.now (sym c.in-Some.ensures.value) last second
    (sym c.eq-3.ensures ∙ c.if-eq-6.false))
