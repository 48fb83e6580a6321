-- It is the next one of the old statements, and may stand there.
use Rattle.std.proofs.Common.{List, map, subst}
use Rattle.std.proofs.lemmas.Result.{IfOk-weaker}
use Rattle.mm_base.specs.Statement.{PlainStatement, plain_statement}
use Rattle.mm_text.specs.Files.{PlainFile, plain_file}
use Rattle.mm_with_lemmas.specs.Mirror.Editing.{put_statements}
use Rattle.mm_with_lemmas.specs.Mirror.Walking.{IsWalked}
use Rattle.mm_with_lemmas.proofs.WalkedParts.{walked_kept}
use Rattle.mm_with_lemmas.proofs.walk.Walk.keep.Goals as goal

pub returns-clause-over : goal.returns-clause-over
returns-clause-over c =
    let files : List PlainFile = map plain_file c.args.sides.now.files.now in
    let anew : List PlainFile = map plain_file c.args.sides.now.anew.now in
    let put : List PlainStatement = put_statements c.args.sides.now.put.now in
    let read = rw c.if-not-branch.false at c.in_ok-more.ensures.on in
    IfOk-weaker c.may_read.result _ _
    (λ may h t statements taken next walked. walked_kept files anew statements put taken
    c.more.new.self.statements c.args.self.now.place c.in-Some.place
    (plain_statement c.more.new.into) (plain_statement c.args.statement.now)
    (subst (λ (ls : List PlainStatement). IsWalked files anew statements put taken ls
    c.args.self.now.place) read.0 walked) c.in-Some.ensures
    (h t taken next, c.is_comment_kept.ensures c.if-not-is_comment_kept.false))
    c.may_read.ensures
