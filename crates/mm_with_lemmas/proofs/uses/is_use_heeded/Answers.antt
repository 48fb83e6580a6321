-- It was used, or it wasn't there and may be.
use Rattle.std.proofs.Common.{ap, inl, inr, refl}
use Rattle.mm_rules.specs.Conclusion.{Conclusion}
use Rattle.mm_with_lemmas.proofs.HeededUses.{was_used}
use Rattle.mm_with_lemmas.proofs.uses.is_use_heeded.Goals as goal

pub returns-in-Some : goal.returns-in-Some
returns-in-Some c = λ t.
    let is_old = ap (λ (v : Conclusion). v.sentences) c.old.view_is in
    let is_new = ap (λ (v : Conclusion). v.sentences) c.new.view_is in
    inl (was_used c.args.old.now c.args.new.now c.args.theorem.0 c.args.used.0 c.in-Some.id.0
    c.args.stamp c.args.marks.now c.requires.stamped
    (rw (is_old, is_new) at c.in-Some.ensures.some) (c.has_stamp.ensures t))

pub returns-in-None : goal.returns-in-None
returns-in-None c = λ t.
    let is_old = ap (λ (v : Conclusion). v.sentences) c.old.view_is in
    let is_new = ap (λ (v : Conclusion). v.sentences) c.new.view_is in
    inr (
      inr (rw (is_new, is_old) at (c.in-None.ensures.none refl)),
      c.may_newly_use.ensures t c.args.new.now.files c.requires.said,
    )
