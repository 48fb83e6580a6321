use Rattle.std.proofs.Common.{◌≡◌, ◌<◌, ◌≤◌, length, refl, ap, arith, lt-ltb, le-ltb}
use Rattle.mm_frame.specs.Mirror.NameKey.{ends_of, hashed}
use Rattle.mm_frame.proofs.name.NameHash.hash.Goals as goal

pub returns-then-self-gt-MOST_IN_ENDS : goal.returns-then-self-gt-MOST_IN_ENDS
unfolding hashed
returns-then-self-gt-MOST_IN_ENDS g c =
    let long : 16 < length c.self.inside.bytes.now = let f = c.if-self-gt-MOST_IN_ENDS.true in omega arith in
    rw (← c.self.view_is, lt-ltb 16 (length c.self.inside.bytes.now) long) c.write.ensures

pub returns-else-self-gt-MOST_IN_ENDS : goal.returns-else-self-gt-MOST_IN_ENDS
unfolding hashed
returns-else-self-gt-MOST_IN_ENDS g c =
    let prefix : c.self.inside.prefix ≡ (ends_of c.self.inside.bytes.now).0 = ap (λ p. p.0) c.self.invariant.ends in
    let back : c.self.inside.back ≡ (ends_of c.self.inside.bytes.now).1 = ap (λ p. p.1) c.self.invariant.ends in
    let short : length c.self.inside.bytes.now ≤ 16 = omega arith in
    rw (← c.self.view_is, le-ltb 16 (length c.self.inside.bytes.now) short, ← prefix, ← back, c.write_u64-else-self-gt-MOST_IN_ENDS.ensures, c.write_u64.ensures) refl
