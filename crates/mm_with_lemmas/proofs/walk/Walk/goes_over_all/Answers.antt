-- Over one more statement.
use Rattle.std.proofs.Common.{◌++◌, List, map, refl, ap, ◌∙◌}
use Rattle.std.proofs.lemmas.Result.{IfOk-weaker}
use Rattle.mm_base.specs.Statement.{PlainStatement, plain_statement}
use Rattle.mm_text.specs.Files.{plain_file}
use Rattle.mm_with_lemmas.specs.Mirror.Editing.{put_statements}
use Rattle.mm_with_lemmas.proofs.WalkedReadings.{few_with, next_told, on_begun, on_end, on_next}
use Rattle.mm_with_lemmas.proofs.walk.Walk.goes_over_all.Goals as goal

pub loop-statement-init : goal.loop-statement-init
loop-statement-init c =
    on_begun (map plain_file c.args.sides.now.files.now)
    (map plain_file c.args.sides.now.anew.now) c.args.self.now.left.statements
    (put_statements c.args.sides.now.put.now) c.args.statements.now.statements
    c.args.self.now.left c.args.self.now refl c.requires.begun

pub go_over-requires : goal.go_over-requires
go_over-requires c =
    let inv = c.loop-statement.invariant in
    let read = rw c.if-branch.true at c.in_ok-more.ensures.on in
    let formed = c.in_ok-more.ensures.formed (rw c.if-branch.true refl) in (
      inv.taken,
      next_told c.args.sides.now.book.now.statements c.args.statements.now.statements
          c.requires.told inv.taken c.more.new.self.statements (plain_statement c.more.new.into)
          c.loop-statement.self.labelled
          (inv.whole ∙ ap (λ (ss : List PlainStatement). inv.taken ++ ss) read.0) inv.count formed,
    )

pub count-requires : goal.count-requires
count-requires c =
    let inv = c.loop-statement.invariant in
    let read = rw c.if-branch.true at c.in_ok-more.ensures.on in
    few_with c.args.sides.now.book.now.statements c.args.statements.now.statements
    c.requires.told inv.taken c.more.new.self.statements (plain_statement c.more.new.into)
    c.go_over.new.self.labelled
    (inv.whole ∙ ap (λ (ss : List PlainStatement). inv.taken ++ ss) read.0)
    (c.in_ok-go_over.ensures.count ∙ inv.count)

pub loop-statement-preserved : goal.loop-statement-preserved
loop-statement-preserved c =
    let read = rw c.if-branch.true at c.in_ok-more.ensures.on in
    let formed = c.in_ok-more.ensures.formed (rw c.if-branch.true refl) in
    on_next (map plain_file c.args.sides.now.files.now)
    (map plain_file c.args.sides.now.anew.now) c.args.self.now.left.statements
    (put_statements c.args.sides.now.put.now) c.args.statements.now.statements
    c.args.sides.now.book.now.statements (plain_statement c.more.new.into)
    c.loop-statement.statements.statements c.more.new.self.statements c.loop-statement.self
    c.go_over.new.self c.count.new.self c.requires.told formed read.0 c.loop-statement.invariant
    (c.in_ok-go_over.ensures.over c.if-not-branch.false) c.in_ok-go_over.ensures.count
    c.count.ensures.count c.count.ensures.left c.count.ensures.place

pub returns : goal.returns
returns c =
    let read = rw c.if-branch.false at c.in_ok-more.ensures.on in
    IfOk-weaker c.is_over.result _ _
    (λ over h t. on_end (map plain_file c.args.sides.now.files.now)
    (map plain_file c.args.sides.now.anew.now)
    c.args.self.now.left.statements (put_statements c.args.sides.now.put.now)
    c.args.statements.now.statements c.loop-statement.self c.loop-statement.statements.statements
    c.loop-statement.invariant read.0 (h t))
    c.is_over.ensures
