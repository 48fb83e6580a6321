-- The text is given, or it is said that it has too many labels.
use Rattle.std.proofs.Common.{inl, inr, refl}
use Rattle.std.proofs.lemmas.Result.{IfOk-weaker}
use Rattle.mm_check.proofs.known_normal.beginning_reply.Goals as goal

pub returns-in-Ok : goal.returns-in-Ok
returns-in-Ok c = λ index s moves proof numbered.
    inl (c.in-Ok.ensures.text index s moves proof numbered, refl)

pub returns-in-Err : goal.returns-in-Err
returns-in-Err c =
    IfOk-weaker c.ask_reply.result _ _
    (λ reply asked index s moves proof numbered. elim c.in-Err.ensures.fault [
      | inl memory ↦ absurd (rw memory at asked)
      | inr long ↦ inr (long.1 index s moves proof numbered, rw long.0 at asked)
    ])
    c.ask_reply.ensures
