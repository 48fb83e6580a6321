-- The theorem is read again, and its file is that of the database.
use Rattle.std.proofs.lemmas.Result.{IfOk-weaker}
use Rattle.mm_render.proofs.SavedProofs.FileTotals.{holds_span}
use Rattle.mm_minimize.proofs.ShorterTheorems.ShortenedFiles.{compared_written, one_shortened}
use Rattle.mm_minimize.proofs.minimize.minimized_whole.Goals as goal

pub compare-requires-clause-theorem : goal.compare-requires-clause-theorem
compare-requires-clause-theorem g c =
    rw c.in_ok-shortening.ensures.database c.in_ok-theorem.ensures.theorem

pub file_with_found-requires-clause-there : goal.file_with_found-requires-clause-there
file_with_found-requires-clause-there g c = λ statements reads.
    let r = (c.in_ok-theorem.ensures.read statements reads).1 in
    let home = c.in_ok-theorem.ensures.home statements reads r.s (r.index, r.there, r.named) in
    holds_span c.args.checked.now.files statements r.index r.s c.in_ok-theorem.theorem.file
    c.in_ok-theorem.theorem.span reads r.there r.complete home.0 home.1

pub file_with_found-requires-clause-may : goal.file_with_found-requires-clause-may
file_with_found-requires-clause-may g c =
    compared_written c.args.checked.now c.in_ok-theorem.theorem c.in_ok-found.found
    (rw c.in_ok-shortening.ensures.database at c.in_ok-found.ensures.compared)

pub returns-clause-shortened : goal.returns-clause-shortened
returns-clause-shortened g c =
    IfOk-weaker c.file_with_found.result _ _
    (λ new made statements reads.
    let read = c.in_ok-theorem.ensures.read statements reads in
    one_shortened c.args.checked.now statements c.args.label.now c.in_ok-theorem.theorem reads
    read.0 read.1 c.in_ok-theorem.ensures.theorem.1 c.in_ok-found.found new.items
    (c.in_ok-theorem.ensures.home statements reads)
    (rw c.in_ok-shortening.ensures.database at c.in_ok-found.ensures.compared) made)
    c.file_with_found.ensures.put
