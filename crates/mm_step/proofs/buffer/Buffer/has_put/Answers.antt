use Rattle.std.proofs.Common.{◌≡◌, take, length, ap, ◌∙◌, arith}
use Rattle.std.proofs.lemmas.List.{length-take, with_items_is}
use Rattle.mm_step.proofs.StoreRanges.{put_within}
use Rattle.mm_step.proofs.buffer.Buffer.has_put.Goals as goal

pub returns-in-Some : goal.returns-in-Some
returns-in-Some c =
    let room = c.self.inside.room.items in
    let used = c.self.inside.used in
    let size : length c.args.self.now ≡ used = omega (arith, ap length c.self.view_is, length-take used room, c.self.invariant) in
    let long : length c.put_pieces.new.room ≡ c.self.inside.room.len = omega (arith, c.put_pieces.ensures.long, c.deref_mut.ensures.len) in
    let said = rw (c.deref_mut.ensures.value, c.self.view_is) at c.in-Some.ensures.said in (
      put_within used c.in-Some.end c.args.limit c.args.self.now c.put_pieces.new.room said.0 _ size c.in-Some.ensures.within said.1 said.2
          (omega (arith, c.if-end-self.true)),
      said.0,
      ap (take c.in-Some.end) (with_items_is c.self.inside.room c.put_pieces.new.room long) ∙ said.1,
      said.2,
    )
