use Rattle.std.proofs.Common.{◌+◌, ◌∙◌, ap, sym, refl}
use Rattle.std.proofs.lemmas.List.{length-append}
use Rattle.mm_forms.proofs.SmallProofs.UseLoops.{unused_more}
use Rattle.mm_forms.proofs.small.unused.Goals as goal

pub loop-index-preserved : goal.loop-index-preserved
loop-index-preserved c =
    let old = c.loop-index.invariant in
    rw c.in_ok-push.ensures.items (record {
      many = length-append c.loop-index.uses.items _ ∙ ap (λ n. n + 1) old.many;
      none = λ own. unused_more own c.loop-index.uses.items _ (old.none own) (sym old.many) refl;
    })
