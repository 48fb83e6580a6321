-- More statements were put then.
use Rattle.std.proofs.Common.{arith}
use Rattle.std.proofs.lemmas.Bool.{ltb-true}
use Rattle.std.proofs.lemmas.List.{length-map}
use Rattle.mm_base.specs.Statement.{plain_statement}
use Rattle.mm_text.specs.Files.{plain_file}
use Rattle.mm_with_lemmas.specs.declared.lone.Put.{Put}
use Rattle.mm_with_lemmas.specs.Mirror.Editing.{put_statements}
use Rattle.mm_with_lemmas.proofs.LoneTexts.{some_lone}
use Rattle.mm_with_lemmas.proofs.lone.push_some.Goals as goal

pub returns : goal.returns
returns c = λ t.
    let more = ltb-true _ _ t in
    some_lone (plain_file c.args.file.now) (put_statements c.args.put.now.items)
    (put_statements c.push_lone.new.put.items) (c.in_ok-push_lone.ensures c.if-not-branch.false)
    (omega (
      arith,
      more,
      length-map c.args.put.now.items (λ (p : Put). plain_statement p.statement),
      length-map c.push_lone.new.put.items (λ (p : Put). plain_statement p.statement),
    ))
