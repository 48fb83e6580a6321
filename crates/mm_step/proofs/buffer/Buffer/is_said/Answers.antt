use Rattle.std.proofs.Common.{◌≡◌, length, ap, arith}
use Rattle.std.proofs.lemmas.List.{length-take, with_items_is}
use Rattle.mm_step.proofs.StoreRanges.{said-there}
use Rattle.mm_step.proofs.buffer.Buffer.is_said.Goals as goal

pub returns-clause-said : goal.returns-clause-said
returns-clause-said c =
    let room = c.self.inside.room.items in
    let used = c.self.inside.used in
    let size : length c.args.self.now ≡ used =
    omega (arith, ap length c.self.view_is, length-take used room, c.self.invariant) in
    let long : length c.put_pieces.new.room ≡ c.self.inside.room.len =
    omega (arith, c.put_pieces.ensures.long, c.deref_mut.ensures.len) in
    let items = with_items_is c.self.inside.room c.put_pieces.new.room long in
    let said = rw (c.deref_mut.ensures.value, c.self.view_is) at c.in_ok-end.ensures.said in
    let stays = rw (c.deref_mut.ensures.value, c.self.view_is) at c.put_pieces.ensures.prefix in
    let told = rw (c.deref.ensures.value, c.deref-2.ensures.value, items) at c.is_same.ensures in
    said-there used c.in_ok-end.end c.args.entry.start c.args.entry.end c.args.self.now
    c.put_pieces.new.room said.0 _ c.is_same.result
    size c.requires.part.order (omega (arith, size, c.requires.part.within))
    c.in_ok-end.ensures.order stays said.1 said.2 told
