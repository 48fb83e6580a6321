-- By whether they are sought by their shape.
use Rattle.std.proofs.Common.{refl}
use Rattle.mm_words.proofs.find_request.are_fit.Goals as goal

pub returns-then-shape : goal.returns-then-shape
returns-then-shape c = rw c.if-shape.true c.are_gapless.ensures

pub returns-else-shape : goal.returns-else-shape
returns-else-shape c = rw c.if-shape.false ((λ t. tt), (λ t. refl))
