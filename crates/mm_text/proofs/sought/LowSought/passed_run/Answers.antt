use Rattle.std.proofs.Common.{nat_lt, leb, cond, refl, arith}
use Rattle.std.proofs.lemmas.Simd.{length-chunk, splat_is_map}
use lib.Lanes.{chunk}
use Rattle.mm_text.proofs.Tokens.ManyBytes.{joined, itself, run_in}
use Rattle.mm_text.proofs.sought.LowSought.passed_run.Goals as goal

pub returns : goal.returns
returns c =
    let v = chunk c.args.at 16 c.args.bytes.now in
    let long = length-chunk c.args.at 16 c.args.bytes.now c.requires in
    run_in (nat_lt 36) c.args.bytes.now c.args.at 16 _ _ c.requires (omega arith) c.type_inv.bytes c.first_set.ensures _
    (joined (λ a b. cond (leb a b) 255 0) _ _ v (itself v) (splat_is_map v 16 36 long)) refl
