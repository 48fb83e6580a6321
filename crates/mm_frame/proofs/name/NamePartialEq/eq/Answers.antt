use Rattle.std.proofs.Common.{◌≡◌, ℕ, refl, sym, ◌∙◌}
use Rattle.std.proofs.lemmas.Slice.Eq.{bytes_eq-Decides}
use Rattle.mm_frame.specs.Mirror.NameKey.{ends_of}
use Rattle.mm_frame.proofs.Names.NameTables.{told_by_key}
use Rattle.mm_frame.proofs.name.NamePartialEq.eq.Goals as goal

pub returns-then-count-le-MOST_IN_ENDS : goal.returns-then-count-le-MOST_IN_ENDS
returns-then-count-le-MOST_IN_ENDS c =
    let a = c.self.inside.bytes.now in
    let b = c.other.inside.bytes.now in
    let pair : ◌≡◌ {A = ℕ × ℕ} (c.self.inside.prefix, c.self.inside.back) (c.other.inside.prefix, c.other.inside.back) = rw (c.if-self-other.false, c.if-self-other-2.false) refl in
    let ends : ends_of a ≡ ends_of b = sym c.self.invariant.ends ∙ pair ∙ c.other.invariant.ends in
    let same : a ≡ b = told_by_key a b c.self.invariant.bytes_of c.other.invariant.bytes_of c.if-count-other.false c.if-count-ge-FEWEST_WITH_ENDS.true c.if-count-le-MOST_IN_ENDS.true ends in
    rw (← c.self.view_is, ← c.other.view_is) (sym ((bytes_eq-Decides a b).1 same))
