-- A line is begun where there is no room, and then takes as many letters as it has room for.
use Rattle.std.proofs.Common.{◌≡◌, ◌<◌, ◌++◌, length, map, ap, ◌∙◌, arith}
use Rattle.std.proofs.Common.{refl, take-append-drop}
use Rattle.std.proofs.lemmas.Bool.Decides.{nat_tests}
use Rattle.mm_code.specs.SmallLayout.{letter}
use Rattle.mm_code.specs.Mirror.SmallLines.{small_rest}
use Rattle.mm_code.proofs.SmallLines.{line_begun, letters_put}
use Rattle.mm_code.proofs.small_layout.add_further_letters.Goals.{then-left-eq0+in_ok-left}
use Rattle.mm_code.proofs.small_layout.add_further_letters.Goals.{else-left-eq0}
use Rattle.mm_code.proofs.small_layout.add_further_letters.Goals as goal

pub loop-rest-preserved : goal.loop-rest-preserved
loop-rest-preserved c more =
    let indent = c.args.indent in
    let rest = c.loop-rest.rest.now in
    let open_text = c.if-left-eq0.text.items in
    let left = c.if-left-eq0.left in
    let some : 0 < length rest = grind (arith, nat_tests) in
    let begun : open_text ++ small_rest indent left (map letter rest ++ more)
    ≡ c.loop-rest.text.items ++ small_rest indent c.loop-rest.left (map letter rest ++ more) =
    elim c.if-left-eq0.branch [
      | then-left-eq0+in_ok-left w ↦
          let is : open_text ≡ w.begin_line.new.text.items = ap (λ t. t.items) w.text-is in
          line_begun indent c.loop-rest.left left c.loop-rest.text.items open_text rest more
          c.requires some (omega (arith, w.if-left-eq0.true))
          (w.left-is ∙ w.in_ok-left.ensures.room) (is ∙ w.in_ok-left.ensures.text)
      | else-left-eq0 w ↦ rw (w.text-is, w.left-is) refl
    ] in
    let front = c.split_at.result.0.now in
    let back = c.split_at.result.1.now in
    let whole : front ++ back ≡ rest =
    rw (c.split_at.ensures.front, c.split_at.ensures.back) (take-append-drop _ rest) in
    letters_put indent left open_text c.extend_from_slice.new.self.items front back rest more whole
    (omega (arith, c.split_at.ensures.front_len, c.min.ensures))
    c.in_ok-extend_from_slice.ensures.items
    ∙ begun ∙ c.loop-rest.invariant more
