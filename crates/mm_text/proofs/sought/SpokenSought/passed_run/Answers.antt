use Rattle.std.proofs.Common.{ℕ, leb, cond, refl, arith}
use Rattle.std.proofs.lemmas.Simd.{zip2_splat, length-chunk, splat_is_map}
use lib.Lanes.{chunk}
use Rattle.mm_text.specs.Mirror.Stripped.{is_spoken}
use Rattle.mm_text.proofs.Tokens.ManyBytes.{joined, run_in}
use Rattle.mm_text.proofs.sought.SpokenSought.passed_run.Goals as goal

pub returns : goal.returns
returns c =
    let v = chunk c.args.at 64 c.args.bytes.now in
    let long = length-chunk c.args.at 64 c.args.bytes.now c.requires in
    run_in is_spoken c.args.bytes.now c.args.at 64 _ _ c.requires (omega arith) c.type_inv.bytes c.first_set.ensures _
    (joined _ _ _ v
    (joined (λ a b. cond (leb a b) 255 0) _ _ v (splat_is_map v 64 95 long)
    (zip2_splat {Y = ℕ} _ v 64 32 long)) (zip2_splat {Y = ℕ} _ v 64 36 long)) refl
