use Rattle.std.proofs.Common.{◌≡◌, ◌<◌, ap, ◌∙◌, length, arith, [], ◌∷◌, ◌++◌, if◌then◌else◌}
use Rattle.std.specs.Vec.{vec_len, vec_capacity}
use Rattle.mm_frame.specs.declared.pairs.Span.{Span}
use Rattle.mm_frame.specs.Mirror.Stated.{newest_of}
use Rattle.mm_frame.proofs.DistinctPairs.AddedPairs.{linked_push}
use Rattle.mm_frame.proofs.pairs.Pairs.add.Goals as goal

pub invariant_of-self : goal.invariant_of-self
invariant_of-self c =
    let spans = c.self.inside.spans.items in
    let before = newest_of c.self.inside.near.items c.self.inside.newest in
    let after = newest_of c.note_newest.new.near.items c.note_newest.new.far in
    let room = ap (λ t. t.room) c.self.view_is in
    let space : vec_len c.self.inside.spans < vec_capacity c.self.inside.spans = omega arith in
    let s : Span = record { pair = c.args.pair; index = c.args.index; older = c.newest_of-older.result } in
    let pushed : c.push.new.self.items ≡ spans ++ s ∷ [] =
    c.push.ensures.items ∙ ap (λ b. if b then (spans ++ s ∷ []) else spans) (c.push.ensures.succeeds space) in
    let older : c.newest_of-older.result ≡ before c.args.pair =
    c.newest_of-older.ensures ∙ ap (λ near. newest_of near c.self.inside.newest c.args.pair) c.deref.ensures.value in
    let number : c.len-number.result ≡ length spans = c.len-number.ensures ∙ c.self.inside.spans.ok.0 in
    let values = rw number at c.note_newest.ensures.noted in
    rw pushed (rw older (linked_push _ _ after c.args.pair c.args.index c.self.invariant values))
