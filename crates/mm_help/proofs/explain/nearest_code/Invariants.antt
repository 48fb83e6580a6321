use denote.Text.{Utf8}
use denote.Shadow.{shadow}
use Rattle.mm_help.proofs.explain.nearest_code.Given as goal

-- The nearest code so far is a text.
abbrev pub invariant-loop-rule : goal.invariant-loop-rule
invariant-loop-rule l = shadow (Utf8 l.nearest)
