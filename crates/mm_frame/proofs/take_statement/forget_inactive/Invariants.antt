use Rattle.std.proofs.Common.{◌≡◌, ℕ, ◌+◌, ◌<◌, ◌≤◌, List, length, Some, slice_get}
use Rattle.mm_frame.specs.Sentence.{Sentence}
use Rattle.mm_frame.specs.Mirror.ScopesOf.{HaveScopes}
use Rattle.mm_frame.specs.declared.scopes.TheConstants.{NEVER}
use Rattle.mm_frame.proofs.Blocks.ScopeStack.{AreDropped}
use Rattle.mm_frame.proofs.take_statement.forget_inactive.Given as goal

abbrev pub invariant-loop : goal.invariant-loop
invariant-loop l = record {
  sized : length l.indices.items + l.counter ≡ length l.initial.indices.items;
  within : (i p : ℕ) → slice_get l.indices.items i ≡ Some p → p < l.at;
  dropped : (statements : List Sentence) → HaveScopes statements l.scopes
      → length statements ≤ NEVER
      → AreDropped statements l.initial.indices.items l.indices.items;
}
