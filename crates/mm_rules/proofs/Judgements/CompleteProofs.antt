-- Whether a `$p` has a complete proof.
use Rattle.std.proofs.Common.{◌≡◌, true}
use Rattle.std.proofs.Common.{false, refl}
use Rattle.mm_base.specs.Statement.{PlainStatement}
use Rattle.mm_rules.specs.Verdict.{proof_of, is_proof}
use Rattle.mm_rules.specs.Verdict.{is_unproved}
use Rattle.mm_base.specs.declared.statement.Kind.TheVariants.{Provable}
use Rattle.mm_proof.specs.Tokens.{is_incomplete}

-- a `$p` whose proof isn't incomplete has a complete one
pub proof_there : (s : PlainStatement) → s.kind ≡ Provable → is_incomplete (proof_of s) ≡ false → is_proof s ≡ true
proof_there s provable complete = rw (provable, complete) refl

-- one whose proof is incomplete is unproved
pub unproved_there : (s : PlainStatement) → s.kind ≡ Provable → is_incomplete (proof_of s) ≡ true
    → is_unproved s ≡ true
unproved_there s provable open_one = rw (provable, open_one) refl
