-- What is written is the text of the reply, or a beginning of it.
use Rattle.std.proofs.Common.{ℕ, List, subst}
use Rattle.std.specs.Io.KnownBytes.{Appends}
use Rattle.mm_text.specs.Device.{inner_of, AppendsBeginning}
use Rattle.mm_rules.specs.Status.{number_of}
use Rattle.mm_check.proofs.command.run.Goals as goal

pub returns-in-Ok-clause-reply : goal.returns-in-Ok-clause-reply
returns-in-Ok-clause-reply g c =
    let Written : List ℕ → Type 0 = λ text.
    Appends (g.W.Write.contents (inner_of c.args.out.now)) (g.W.Write.contents (inner_of c.write_all.new.self)) text in
    (c.in_ok-reply.reply.text.items, c.in_ok-reply.ensures, subst Written c.deref.ensures.value c.in-Ok.ensures.all)

pub returns-clause-device : goal.returns-clause-device
returns-clause-device g c = λ failed.
    let Written : List ℕ → Type 0 = λ text.
    AppendsBeginning (g.W.Write.contents (inner_of c.args.out.now)) (g.W.Write.contents (inner_of c.write_all.new.self)) text in
    (c.in_ok-reply.reply.text.items, number_of c.in_ok-reply.reply.status, c.in_ok-reply.ensures, subst Written c.deref.ensures.value c.in-Err.ensures.beginning)
