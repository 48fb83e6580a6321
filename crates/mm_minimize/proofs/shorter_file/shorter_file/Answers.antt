-- What was written is the file with shorter proofs.
use Rattle.std.proofs.lemmas.Result.{IfOk-weaker}
use Rattle.mm_verdict.proofs.Questions.AskedTheorems.{why}
use Rattle.mm_minimize.proofs.ShorterTheorems.ShortenedFiles.{all_shortened, shortened_fault}
use Rattle.mm_minimize.proofs.shorter_file.shorter_file.Goals as goal

pub returns-in-Ok-clause-shortened : goal.returns-in-Ok-clause-shortened
returns-in-Ok-clause-shortened g c =
    IfOk-weaker c.finish.result _ _
    (λ new whole statements reads. all_shortened c.args.shortening.now.checked.now
    c.args.wanted.duplicates c.args.wanted.number c.write_all.new.file c.in-Ok.ensures.written
    statements reads new.items whole)
    c.finish.ensures.whole

pub returns-in-Ok-clause-fault : goal.returns-in-Ok-clause-fault
returns-in-Ok-clause-fault g c =
    why c.finish.result _ _
    (λ fault is statements reads. shortened_fault c.args.shortening.now.checked.now
    c.args.wanted.duplicates c.args.wanted.number c.write_all.new.file c.in-Ok.ensures.written
    statements reads fault is)
    c.finish.ensures.fault
