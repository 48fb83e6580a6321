-- What is told is told of what is wanted.
use Rattle.std.proofs.Common.{map, subst, sym}
use Rattle.std.proofs.lemmas.Result.{IfOk-weaker}
use Rattle.mm_text.specs.Files.{plain_file}
use Rattle.mm_rules.specs.Status.{number_of}
use Rattle.mm_serve.specs.Noted.{IsNotedOutcome, request_in}
use Rattle.mm_serve.specs.declared.noted.Wanted.{Wanted}
use Rattle.mm_serve.proofs.noted.noted.Goals as goal

pub returns-in-Mend-clause-told : goal.returns-in-Mend-clause-told
returns-in-Mend-clause-told g c =
    IfOk-weaker c.noted_mends.result _ _
    (λ told is. subst (λ (w : Wanted). IsNotedOutcome (request_in w) (map plain_file c.args.files.now)
    told.reply.text.items (record {
      status = number_of told.reply.status;
      notes = told.notes.items;
    })) (sym c.in-Mend.is) (rw c.as_bytes.ensures.value at is))
    c.noted_mends.ensures

pub returns-in-LemmaFile-clause-told : goal.returns-in-LemmaFile-clause-told
returns-in-LemmaFile-clause-told g c =
    IfOk-weaker c.noted_lemmas.result _ _
    (λ told is. subst (λ (w : Wanted). IsNotedOutcome (request_in w) (map plain_file c.args.files.now)
    told.reply.text.items (record {
      status = number_of told.reply.status;
      notes = told.notes.items;
    })) (sym c.in-LemmaFile.is) is)
    c.noted_lemmas.ensures.told
