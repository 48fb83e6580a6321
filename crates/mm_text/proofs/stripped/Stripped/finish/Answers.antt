use Rattle.std.proofs.Common.{[], length, ap, sym, ◌∙◌, append-nil, arith}
use Rattle.mm_text.specs.Alike.{shows}
use Rattle.mm_text.proofs.stripped.Stripped.finish.Goals as goal

pub returns-clause-same : goal.returns-clause-same
returns-clause-same c = λ bytes stripped. (
  λ file. sym (ap (shows file) (append-nil bytes)) ∙ stripped.same file [] ∙ ap (shows file) (append-nil _) ∙ sym (ap (shows file) c.in_ok-keep_held.ensures.kept),
  omega (arith, stripped.short, ap length c.in_ok-keep_held.ensures.kept),
)
