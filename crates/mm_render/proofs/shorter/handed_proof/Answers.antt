-- What `verify` accepts is proved, and its assertions are those of its tree.
use Rattle.std.proofs.Common.{◌≡◌, false}
use Rattle.mm_render.proofs.shorter.handed_proof.Goals as goal

pub returns-in-Ok : goal.returns-in-Ok
returns-in-Ok c =
    let whole : c.in-Some.steps.prefix ≡ false = rw c.in-Some.is at c.in_ok-steps.ensures.whole in
    let under : c.in-Some.steps.profile ≡ c.args.profile = rw c.in-Some.is at c.in_ok-steps.ensures.profile in
    let proved = c.in-Ok.ensures.proved whole in
    record {
      usable = rw c.in-Some.is at c.in_ok-steps.ensures.usable;
      proved = λ index s moves number numbered. (proved index s moves number numbered).0;
      whole = whole;
      uses = rw under at proved;
    }
