use Rattle.std.proofs.Common.{◌≡◌, ◌+◌, ◌-◌, ◌++◌, take, drop, length, sym, ap, ◌∙◌, arith}
use Rattle.std.proofs.lemmas.List.{length-take, length-drop, take-take}
use Rattle.std.proofs.lemmas.List.Edits.{take-paste}
use Rattle.std.proofs.Math.Seq.{paste}
use Rattle.mm_step.proofs.StoreRanges.{cut-before}
use Rattle.mm_step.proofs.buffer.Buffer.move_down.Goals as goal

pub returns : goal.returns
returns c =
    let room = c.self.inside.room.items in
    let used = c.self.inside.used in
    let start = c.args.start in
    let to = c.args.to in
    let more = used - start in
    let size : length c.args.self.now ≡ used = omega (arith, ap length c.self.view_is, length-take used room, c.self.invariant) in
    let count : used - (start - to) ≡ to + more = omega (arith, c.requires.order, c.requires.within, size) in
    let prefix : take to room ≡ take to c.args.self.now =
    sym (take-take to used room (omega (arith, c.requires.order, c.requires.within, size))) ∙ ap (take to) c.self.view_is in
    let behind : take more (drop start room) ≡ drop start c.args.self.now =
    sym (cut-before used start room (omega (arith, c.requires.within, size))) ∙ ap (drop start) c.self.view_is in
    ap (take (used - (start - to))) c.copy_within.ensures.items
    ∙ ap (λ k. take k (paste room to (drop start room) more)) count
    ∙ take-paste room to (drop start room) more (omega (arith, c.requires.order, c.requires.within, size, c.self.invariant)) (omega (arith, length-drop start room, c.self.invariant))
    ∙ ap (λ l. l ++ take more (drop start room)) prefix
    ∙ ap (λ l. take to c.args.self.now ++ l) behind
