-- An assertion that is no axiom is a `$p`.
use Rattle.std.proofs.Common.{ap, sym, inl, inr}
use Rattle.mm_base.specs.Statement.{keyword_of}
use Rattle.mm_find.proofs.line.keyword.Goals as goal

pub returns-in_default : goal.returns-in_default
returns-in_default c = elim c.requires [
  | inl axiom_kind ↦ absurd (c.in_default.not-Axiom axiom_kind)
  | inr provable ↦ ap keyword_of (sym provable)
]
