-- By what is put in.
use Rattle.std.proofs.Common.{List, sym, subst}
use Rattle.std.proofs.lemmas.Result.{IfOk-weaker}
use Rattle.mm_base.specs.Statement.{PlainStatement}
use Rattle.mm_with_lemmas.specs.declared.lone.Put.{Put}
use Rattle.mm_with_lemmas.specs.Mirror.Editing.{ArePut, put_statements}
use Rattle.mm_with_lemmas.proofs.holds.are_parts_with.Goals as goal

pub returns-in-Some : goal.returns-in-Some
returns-in-Some c =
    let put : List PlainStatement = put_statements c.deref.result.now in
    let found = rw c.in-Some.is at c.in_ok-put.ensures in
    let are = subst (λ (ps : List Put). ArePut c.args.changes.now (put_statements ps))
    (sym c.deref.ensures.value) found in
    IfOk-weaker c.are_parts-are.result _ _
    (λ all h t statements others reads reads_too. (put, are, h t statements others reads reads_too))
    c.are_parts-are.ensures
