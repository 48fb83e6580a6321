-- One more change, whose text has a file of its own.
use Rattle.std.proofs.Common.{List, ap, subst, arith}
use Rattle.std.proofs.lemmas.List.{take_all}
use Rattle.mm_base.proofs.Lists.{same_length}
use Rattle.mm_text.specs.Files.{plain_file}
use Rattle.mm_with_lemmas.specs.declared.change.Change.{Change}
use Rattle.mm_with_lemmas.specs.Mirror.Editing.{ArePut, lone_file, put_statements}
use Rattle.mm_with_lemmas.proofs.LoneTexts.{put_none, put_with, same_at}
use Rattle.mm_with_lemmas.proofs.lone.push_changes.Goals as goal

pub loop-index-init : goal.loop-index-init
loop-index-init c =
    put_none (put_statements c.args.put.now.items) (ap put_statements c.requires.none)

pub bounds-files-index : goal.bounds-files-index
bounds-files-index c =
    omega (
      arith,
      same_length plain_file lone_file c.args.files.now c.args.changes.now
          c.requires.files,
    )

pub push_change-requires : goal.push_change-requires
push_change-requires c =
    same_at plain_file lone_file c.args.files.now c.args.changes.now c.loop-index.index _ _
    c.requires.files c.loop-index-test.true

pub loop-index-preserved : goal.loop-index-preserved
loop-index-preserved c =
    put_with c.args.changes.now c.loop-index.index _ (put_statements c.loop-index.put.items)
    (put_statements c.push_change.new.put.items) c.loop-index-test.true c.loop-index.invariant
    (c.in_ok-push_change.ensures c.if-not-branch.false)

pub returns : goal.returns
returns c = λ t.
    subst (λ (cs : List Change). ArePut cs (put_statements c.loop-index.put.items))
    (take_all c.loop-index.index c.args.changes.now c.loop-index-test.false)
    c.loop-index.invariant
