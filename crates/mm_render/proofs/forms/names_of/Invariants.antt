-- The names so far are the labels so far.
use Rattle.std.proofs.Common.{◌≡◌, ℕ, List, take}
use Rattle.mm_code.specs.Layout.{texts}
use Rattle.mm_forms.specs.Spelled.{AreLabelsOf}
use Rattle.mm_render.proofs.forms.names_of.Given as goal

abbrev pub invariant-loop-id : goal.invariant-loop-id
invariant-loop-id l = (labels : List (List ℕ)) → AreLabelsOf l.fn.book.statements l.ids labels → texts l.names.items ≡ take l.id-index labels
