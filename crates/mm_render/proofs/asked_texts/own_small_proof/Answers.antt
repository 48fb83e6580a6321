-- The book says what the statements say.
use Rattle.std.proofs.Common.{ap}
use Rattle.mm_rules.specs.Conclusion.{Conclusion}
use Rattle.mm_render.proofs.asked_texts.own_small_proof.Goals as goal

pub own_proof-requires : goal.own_proof-requires
own_proof-requires c =
    rw (ap (λ (v : Conclusion). v.sentences) c.checked.view_is) c.requires
