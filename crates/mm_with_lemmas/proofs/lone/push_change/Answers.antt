-- A proof puts nothing in, and lemmas what their text reads as.
use Rattle.std.proofs.Common.{sym, subst}
use Rattle.std.proofs.lemmas.Result.{IfOk-weaker}
use Rattle.mm_text.specs.Files.{plain_file}
use Rattle.mm_with_lemmas.specs.declared.change.Change.{Change}
use Rattle.mm_with_lemmas.specs.Mirror.Editing.{PutsIn, put_statements}
use Rattle.mm_with_lemmas.proofs.LoneTexts.{lemmas_put, proof_puts}
use Rattle.mm_with_lemmas.proofs.lone.push_change.Goals as goal

pub returns-in-Proof : goal.returns-in-Proof
returns-in-Proof c = λ t.
    proof_puts c.args.change.now (put_statements c.args.put.now.items)
    (subst (λ (x : Change). ¬ (PutsIn x)) (sym c.in-Proof.is) (λ (none : ⊥). none))

pub returns-in-Lemmas : goal.returns-in-Lemmas
returns-in-Lemmas c =
    IfOk-weaker c.push_some.result _ _
    (λ whole h t. lemmas_put c.args.change.now (plain_file c.args.file.now)
    (put_statements c.args.put.now.items) (put_statements c.push_some.new.put.items)
    (subst PutsIn (sym c.in-Lemmas.is) tt) c.requires (h t))
    c.push_some.ensures
