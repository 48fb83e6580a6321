use Rattle.std.proofs.Common.{◌≡◌, ◌-◌, ◌++◌, length, ap, ◌∙◌, arith, slice_range}
use Rattle.mm_step.proofs.StoreRanges.{put-behind}
use Rattle.mm_step.proofs.said.put_part_behind.Goals as goal

pub returns-clause-put : goal.returns-clause-put
returns-clause-put c =
    let prefix = c.split_at_mut-prefix.result.0.now in
    let part : c.copy_from_slice.new.self ≡ slice_range prefix c.args.start c.args.end = c.copy_from_slice.ensures.after in
    let long = c.split_at_mut-prefix.ensures.front_len in
    let size : length c.copy_from_slice.new.self ≡ c.args.end - c.args.start = omega (arith, c.copy_from_slice.ensures.len, ap length part, c.requires.within, c.requires.order, long) in
    put-behind prefix c.copy_from_slice.new.self c.split_at_mut-into.result.1.now _ (omega (arith, size, long))
    ∙ ap (λ l. prefix ++ l) part
    ∙ ap (λ l. l ++ slice_range l c.args.start c.args.end) c.split_at_mut-prefix.ensures.front
