-- The lemma goes on.
use Rattle.std.proofs.Common.{map}
use Rattle.mm_base.specs.Statement.{plain_statement}
use Rattle.mm_text.specs.Files.{plain_file}
use Rattle.mm_with_lemmas.specs.Mirror.Editing.{put_statements}
use Rattle.mm_with_lemmas.proofs.WalkedParts.{walked_put}
use Rattle.mm_with_lemmas.proofs.walk.Walk.put_in.Goals as goal

pub returns-clause-over : goal.returns-clause-over
returns-clause-over c = λ t statements taken next walked.
    walked_put (map plain_file c.args.sides.now.files.now)
    (map plain_file c.args.sides.now.anew.now) statements (put_statements c.args.sides.now.put.now)
    taken c.args.self.now.left.statements c.args.self.now.place c.in-Some.place
    (plain_statement c.args.statement.now)
    (c.in_ok-is_strict_if_proved.ensures c.if-not-branch.false taken next) walked
    c.in-Some.ensures
