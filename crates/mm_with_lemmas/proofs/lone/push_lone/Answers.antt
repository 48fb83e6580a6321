-- What is left of the text at first is what it reads as.
use Rattle.std.proofs.Common.{List, map, subst}
use Rattle.std.proofs.lemmas.Result.{IfOk-weaker}
use Rattle.mm_base.specs.declared.file.File.{File}
use Rattle.mm_text.specs.Files.{plain_file}
use Rattle.mm_text.specs.Remaining.{IsUnread}
use Rattle.mm_with_lemmas.specs.Mirror.Editing.{put_statements}
use Rattle.mm_with_lemmas.proofs.LoneTexts.{read_alone}
use Rattle.mm_with_lemmas.proofs.lone.push_lone.Goals as goal

pub returns-in-Ok : goal.returns-in-Ok
returns-in-Ok c =
    IfOk-weaker c.push_rest.result _ _
    (λ whole h t. read_alone (plain_file c.args.file.now) c.in-Ok.statements
    (put_statements c.args.put.now.items) (put_statements c.push_rest.new.put.items)
    (subst (λ (fs : List File). IsUnread (map plain_file fs) c.in-Ok.statements)
    c.from_ref.ensures.value c.in-Ok.ensures.1) (h t))
    c.push_rest.ensures
