-- What is put may stand there.
use Rattle.std.proofs.Common.{refl}
use Rattle.mm_minimize.proofs.shorter_file.write_theorem.Goals as goal

pub returns-clause-puts : goal.returns-clause-puts
returns-clause-puts g c = record {
  text = c.in_ok-text.text.items;
  puts = rw c.deref.ensures.value at c.in_ok-put.ensures;
  may = c.in_ok-text.ensures.may c.args.file.now.source.now refl;
}
