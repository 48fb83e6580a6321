-- The next theorem is written if it stands in the file.
use Rattle.std.proofs.Common.{◌++◌, ◌∷◌, [], sym, ◌∙◌, arith}
use Rattle.mm_base.specs.Statement.{plain_statement}
use Rattle.mm_verdict.proofs.Questions.TheoremsAgain.{at_in}
use Rattle.mm_minimize.proofs.ShorterTheorems.ComparedAgain.{fewer_left}
use Rattle.mm_minimize.proofs.ShorterTheorems.ShortenedFiles.{next_elsewhere, next_follows, next_put}
use Rattle.mm_minimize.proofs.ShorterTheorems.ShortenedFiles.{next_stands, shortened_past}
use Rattle.mm_minimize.proofs.shorter_file.write_all.Goals as goal
use Rattle.mm_minimize.proofs.shorter_file.write_all.Goals.{else-reading-wanted}
use Rattle.mm_minimize.proofs.shorter_file.write_all.Goals.{then-reading-wanted+in_ok-write_theorem}

pub write_theorem-requires-clause-theorem : goal.write_theorem-requires-clause-theorem
write_theorem-requires-clause-theorem g c =
    let inv = c.loop-reading.invariant in
    let goes = rw c.in-Some.is at (c.in_ok-id.ensures.next inv.taken inv.read) in
    at_in c.args.shortening.now.checked.now.files (inv.taken ++ goes.0) c.in-Some.id.0
    c.next_theorem.new.self goes.2

pub write_theorem-requires-clause-formed : goal.write_theorem-requires-clause-formed
write_theorem-requires-clause-formed g c =
    let inv = c.loop-reading.invariant in
    let goes = rw c.in-Some.is at (c.in_ok-id.ensures.next inv.taken inv.read) in
    goes.2.formed

pub write_theorem-requires-clause-after : goal.write_theorem-requires-clause-after
write_theorem-requires-clause-after g c =
    let inv = c.loop-reading.invariant in
    let goes = rw c.in-Some.is at (c.in_ok-id.ensures.next inv.taken inv.read) in
    next_follows c.args.shortening.now.checked.now c.args.wanted.duplicates inv.taken
    c.loop-reading.file c.next_theorem.new.self c.in-Some.id goes inv.written
    (c.if-reading-wanted.true ∙ sym inv.home)

pub write_theorem-requires-clause-order : goal.write_theorem-requires-clause-order
write_theorem-requires-clause-order g c =
    let inv = c.loop-reading.invariant in
    let goes = rw c.in-Some.is at (c.in_ok-id.ensures.next inv.taken inv.read) in
    (next_stands c.args.shortening.now.checked.now c.args.wanted.duplicates inv.taken
    c.loop-reading.file c.next_theorem.new.self c.in-Some.id goes inv.written
    (c.if-reading-wanted.true ∙ sym inv.home)).0

pub write_theorem-requires-clause-within : goal.write_theorem-requires-clause-within
write_theorem-requires-clause-within g c =
    let inv = c.loop-reading.invariant in
    let goes = rw c.in-Some.is at (c.in_ok-id.ensures.next inv.taken inv.read) in
    (next_stands c.args.shortening.now.checked.now c.args.wanted.duplicates inv.taken
    c.loop-reading.file c.next_theorem.new.self c.in-Some.id goes inv.written
    (c.if-reading-wanted.true ∙ sym inv.home)).1

pub loop-reading-smaller : goal.loop-reading-smaller
loop-reading-smaller g c =
    let inv = c.loop-reading.invariant in
    let goes = rw c.in-Some.is at (c.in_ok-id.ensures.next inv.taken inv.read) in
    let less = fewer_left c.args.shortening.now.checked.now.files inv.taken goes.0 c.in-Some.id.0
    c.loop-reading.reading c.next_theorem.new.self inv.read goes.2 in omega (arith, less)

pub loop-reading-preserved : goal.loop-reading-preserved
loop-reading-preserved g c =
    let inv = c.loop-reading.invariant in
    let goes = rw c.in-Some.is at (c.in_ok-id.ensures.next inv.taken inv.read) in
    record {
      taken = (inv.taken ++ goes.0) ++ plain_statement c.next_theorem.new.self.statement ∷ [];
      read = goes.2.read;
      written = elim c.if-reading-wanted.branch [
        | then-reading-wanted+in_ok-write_theorem w ↦
            rw w.file-is (next_put c.args.shortening.now.checked.now c.args.wanted.duplicates
            inv.taken c.loop-reading.file c.next_theorem.new.self c.in-Some.id goes inv.written
            (w.if-reading-wanted.true ∙ sym inv.home) w.write_theorem.new.file
            w.in_ok-write_theorem.ensures.puts)
        | else-reading-wanted w ↦
            rw w.file-is (next_elsewhere c.args.shortening.now.checked.now
            c.args.wanted.duplicates inv.taken c.loop-reading.file c.next_theorem.new.self
            c.in-Some.id goes inv.written
            (λ same. let other = w.if-reading-wanted.false in let own = inv.home in
            absurd (omega (arith, same, other, own))))
      ];
      home = elim c.if-reading-wanted.branch [
        | then-reading-wanted+in_ok-write_theorem w ↦
            rw w.file-is (w.in_ok-write_theorem.ensures.puts.puts.same.number ∙ inv.home)
        | else-reading-wanted w ↦ rw w.file-is inv.home
      ];
      whole = λ before. (elim c.if-reading-wanted.branch [
        | then-reading-wanted+in_ok-write_theorem w ↦
            rw w.search-is (w.in_ok-write_theorem.ensures.whole (inv.whole before))
        | else-reading-wanted w ↦ rw w.search-is (inv.whole before)
      ]);
    }

pub returns-clause-written : goal.returns-clause-written
returns-clause-written g c =
    let inv = c.loop-reading.invariant in
    let goes = rw c.in_default.is at (c.in_ok-id.ensures.next inv.taken inv.read) in
    record {
      statements = inv.taken ++ goes.0;
      reads = goes.2;
      so_far = shortened_past c.args.shortening.now.checked.now c.args.wanted.duplicates inv.taken
          goes.0 c.loop-reading.file goes.1 inv.written;
      home = inv.home;
    }
