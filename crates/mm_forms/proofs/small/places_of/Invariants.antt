use Rattle.std.proofs.Common.{◌≡◌, ◌<◌, ℕ, length, slice_get, Some}
use Rattle.mm_forms.proofs.SmallProofs.UseLoops.{ArePlacesSo}
use Rattle.mm_forms.proofs.small.places_of.Given as goal

abbrev pub invariant-loop-place : goal.invariant-loop-place
invariant-loop-place l = record {
  long : length l.places.items ≡ length l.order;
  within : (i place : ℕ) → slice_get l.places.items i ≡ Some place → place < length l.order;
  placed : ArePlacesSo l.place l.order l.places.items;
}
