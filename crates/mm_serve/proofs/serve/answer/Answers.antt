-- The words are answered by the request that they make.
use Rattle.std.proofs.Common.{Some, inl, inr, refl, ap}
use Rattle.std.proofs.lemmas.Result.{IfErr-weaker, IfOk-weaker}
use Rattle.mm_serve.specs.Answer.{quiet}
use Rattle.mm_serve.proofs.AnsweredWords.{answers_text, asks_explained, asks_run, explained}
use Rattle.mm_serve.proofs.AnsweredWords.{helped, stops_answer, stops_command, stops_help}
use Rattle.mm_serve.proofs.AnsweredWords.{stops_refused, stops_text, stops_unexplained}
use Rattle.mm_serve.proofs.AnsweredWords.{stops_noted, stops_versions}
use Rattle.mm_words.specs.declared.request.Request.TheVariants as requests
use Rattle.mm_words.proofs.AskedWords.{named_by_words}
use Rattle.mm_words.proofs.AskedWords.{texts_in}
use Rattle.mm_serve.proofs.serve.answer.Goals as goal

pub returns-in-Help-clause-answers : goal.returns-in-Help-clause-answers
returns-in-Help-clause-answers g c =
    answers_text g.O.Write.contents (g.F.Folder.holds c.args.folder.now) c.args.texts.now _
    (texts_in c.args.words.now) c.reply.result c.as_bytes.result.now (quiet 0) _ _
    c.reply.ensures.outcome c.reply.ensures.all
    (helped _ c.args.texts.now _ (texts_in c.args.words.now) _ c.in-Help.topic _ _
    c.in_ok-topic.ensures.request c.in-Help.is c.in_ok-text-in-Help.ensures.text
    c.as_bytes.ensures.value)

pub returns-in-Help-clause-stops : goal.returns-in-Help-clause-stops
returns-in-Help-clause-stops g c =
    stops_answer g.O.Write.contents (g.F.Folder.holds c.args.folder.now)
    (g.F.Folder.may_fail c.args.folder.now) c.args.texts.now _
    (texts_in c.args.words.now) c.reply.result c.as_bytes.result.now (quiet 0) _ _
    c.reply.ensures.stop c.reply.ensures.beginning
    (helped _ c.args.texts.now _ (texts_in c.args.words.now) _ c.in-Help.topic _ _
    c.in_ok-topic.ensures.request c.in-Help.is c.in_ok-text-in-Help.ensures.text
    c.as_bytes.ensures.value)

pub returns-in-Version-clause-answers : goal.returns-in-Version-clause-answers
returns-in-Version-clause-answers g c =
    let asked = rw c.in-Version.is at c.in_ok-topic.ensures.request in
    answers_text g.O.Write.contents (g.F.Folder.holds c.args.folder.now) c.args.texts.now _
    (texts_in c.args.words.now) c.reply-in-Version.result c.as_bytes-in-Version.result.now
    (quiet 0) _ _ c.reply-in-Version.ensures.outcome c.reply-in-Version.ensures.all
    (inr (inl (asked, c.as_bytes-in-Version.ensures.value, refl)))

pub returns-in-Version-clause-stops : goal.returns-in-Version-clause-stops
returns-in-Version-clause-stops g c =
    let asked = rw c.in-Version.is at c.in_ok-topic.ensures.request in
    stops_answer g.O.Write.contents (g.F.Folder.holds c.args.folder.now)
    (g.F.Folder.may_fail c.args.folder.now) c.args.texts.now _
    (texts_in c.args.words.now) c.reply-in-Version.result c.as_bytes-in-Version.result.now
    (quiet 0) _ _ c.reply-in-Version.ensures.stop c.reply-in-Version.ensures.beginning
    (inr (inl (asked, c.as_bytes-in-Version.ensures.value, refl)))

pub returns-in-Explain-clause-answers : goal.returns-in-Explain-clause-answers
returns-in-Explain-clause-answers g c =
    answers_text g.O.Write.contents (g.F.Folder.holds c.args.folder.now) c.args.texts.now _
    (texts_in c.args.words.now) c.reply-in-Explain.result c.as_bytes-in-Explain.result.now
    (quiet 0) _ _ c.reply-in-Explain.ensures.outcome c.reply-in-Explain.ensures.all
    (explained _ c.args.texts.now _ (texts_in c.args.words.now) _ c.in-Explain.asked
    c.deref.result.now _ _ c.in_ok-topic.ensures.request c.in-Explain.is c.deref.ensures.value
    c.in_ok-text-in-Explain.ensures.text c.as_bytes-in-Explain.ensures.value)

pub returns-in-Explain-clause-stops : goal.returns-in-Explain-clause-stops
returns-in-Explain-clause-stops g c =
    stops_answer g.O.Write.contents (g.F.Folder.holds c.args.folder.now)
    (g.F.Folder.may_fail c.args.folder.now) c.args.texts.now _
    (texts_in c.args.words.now) c.reply-in-Explain.result c.as_bytes-in-Explain.result.now
    (quiet 0) _ _ c.reply-in-Explain.ensures.stop c.reply-in-Explain.ensures.beginning
    (explained _ c.args.texts.now _ (texts_in c.args.words.now) _ c.in-Explain.asked
    c.deref.result.now _ _ c.in_ok-topic.ensures.request c.in-Explain.is c.deref.ensures.value
    c.in_ok-text-in-Explain.ensures.text c.as_bytes-in-Explain.ensures.value)

pub returns-in_err-text-in-Help-clause-stops : goal.returns-in_err-text-in-Help-clause-stops
returns-in_err-text-in-Help-clause-stops g c =
    let asked = rw c.in-Help.is at c.in_ok-topic.ensures.request in
    stops_help g.O.Write.contents (g.F.Folder.holds c.args.folder.now)
    (g.F.Folder.may_fail c.args.folder.now) c.args.texts.now _
    (texts_in c.args.words.now) _ c.from_residual-in_err-text-in-Help.result
    c.in_err-text-in-Help.field-0.0 c.args.out.now asked
    c.in_err-text-in-Help.ensures.unknown c.from_residual-in_err-text-in-Help.ensures.1

pub returns-in_err-topic-clause-stops : goal.returns-in_err-topic-clause-stops
returns-in_err-topic-clause-stops g c =
    stops_refused g.O.Write.contents (g.F.Folder.holds c.args.folder.now)
    (g.F.Folder.may_fail c.args.folder.now) c.args.texts.now _
    (texts_in c.args.words.now) c.from_residual.result c.in_err-topic.field-0.0 c.args.out.now
    c.in_err-topic.ensures.fault c.from_residual.ensures.1

pub returns-in_err-text-in-Explain-clause-stops :
    goal.returns-in_err-text-in-Explain-clause-stops
returns-in_err-text-in-Explain-clause-stops g c =
    let asked = asks_explained (texts_in c.args.words.now) _ c.in-Explain.asked c.deref.result.now
    c.in_ok-topic.ensures.request c.in-Explain.is c.deref.ensures.value in
    stops_unexplained g.O.Write.contents (g.F.Folder.holds c.args.folder.now)
    (g.F.Folder.may_fail c.args.folder.now) c.args.texts.now _
    (texts_in c.args.words.now) _ c.from_residual-in_err-text-in-Explain.result
    c.in_err-text-in-Explain.field-0.0 c.args.out.now asked
    c.in_err-text-in-Explain.ensures.unknown c.from_residual-in_err-text-in-Explain.ensures.1

pub run_over-requires-clause-named : goal.run_over-requires-clause-named
run_over-requires-clause-named g c =
    named_by_words (texts_in c.args.words.now) c.in-Run.command _
    (asks_run (texts_in c.args.words.now) _ _ c.in-Run.names c.deref-in-Run.result.now
    c.in_ok-topic.ensures.request c.in-Run.is c.deref-in-Run.ensures.value)

pub returns-in-Ok-clause-answers : goal.returns-in-Ok-clause-answers
returns-in-Ok-clause-answers g c =
    let asked = asks_run (texts_in c.args.words.now) _ _ c.in-Run.names c.deref-in-Run.result.now
    c.in_ok-topic.ensures.request c.in-Run.is c.deref-in-Run.ensures.value in
    let (text, reply, taken) = c.in-Ok.ensures.replies in
    (text, inr (inr (inr (inl (c.in-Run.command, _, asked, reply)))), taken)

pub returns-in-Run-clause-stops : goal.returns-in-Run-clause-stops
returns-in-Run-clause-stops g c =
    stops_command g.O.Write.contents (g.F.Folder.holds c.args.folder.now)
    (g.F.Folder.may_fail c.args.folder.now) c.args.texts.now _
    (texts_in c.args.words.now) c.in-Run.command _
    c.asked_label.result c.in-Err.stop c.labelled.result _ _
    (asks_run (texts_in c.args.words.now) _ _ c.in-Run.names c.deref-in-Run.result.now
    c.in_ok-topic.ensures.request c.in-Run.is c.deref-in-Run.ensures.value)
    c.asked_label.ensures c.labelled.ensures c.in-Err.ensures.stops

pub find_over-requires-clause-asked : goal.find_over-requires-clause-asked
find_over-requires-clause-asked g c =
    (texts_in c.args.words.now, rw c.in-Find.is at c.in_ok-topic.ensures.request)

pub returns-in-Find-clause-answers : goal.returns-in-Find-clause-answers
returns-in-Find-clause-answers g c =
    let asked = rw c.in-Find.is at c.in_ok-topic.ensures.request in
    IfOk-weaker c.find_over.result _ _
    (λ answer told.
    let (text, command, asks, reply, taken) = told (texts_in c.args.words.now) asked in
    (text, inr (inr (inr (inl (command, _, asks, reply)))), taken))
    c.find_over.ensures.replies

pub returns-in-Find-clause-stops : goal.returns-in-Find-clause-stops
returns-in-Find-clause-stops g c =
    let asked = rw c.in-Find.is at c.in_ok-topic.ensures.request in
    IfErr-weaker c.find_over.result _ _
    (λ stop told. told c.args.texts.now (texts_in c.args.words.now) asked)
    c.find_over.ensures.stops

pub returns-in-Ok-text_over-clause-answers : goal.returns-in-Ok-text_over-clause-answers
returns-in-Ok-text_over-clause-answers g c =
    let asked = rw c.in-Text.is at c.in_ok-topic.ensures.request in
    let (text, reply, taken) = c.in-Ok-text_over.ensures.replies in
    (text, inr (inr (inr (inr (inl (_, _, _, _, asked, reply))))), taken)

pub returns-in-Diff-clause-answers : goal.returns-in-Diff-clause-answers
returns-in-Diff-clause-answers g c =
    let asked = rw c.in-Diff.is at c.in_ok-topic.ensures.request in
    IfOk-weaker c.diff_over.result _ _
    (λ answer told.
    let (text, reply, taken) = told in
    (text, inr (inr (inr (inr (inr (inl (_, _, asked, reply)))))), taken))
    c.diff_over.ensures.replies

pub returns-in-Diff-clause-stops : goal.returns-in-Diff-clause-stops
returns-in-Diff-clause-stops g c =
    let asked = rw c.in-Diff.is at c.in_ok-topic.ensures.request in
    IfErr-weaker c.diff_over.result _ _
    (λ stop told. stops_versions g.O.Write.contents (g.F.Folder.holds c.args.folder.now)
    (g.F.Folder.may_fail c.args.folder.now) c.args.texts.now _ (texts_in c.args.words.now) _ _ stop
    _ _ asked told)
    c.diff_over.ensures.stops

pub returns-in-Mend-clause-answers : goal.returns-in-Mend-clause-answers
returns-in-Mend-clause-answers g c =
    let request = requests.Mend c.in-Mend.asked in
    let asked = rw c.in-Mend.is at c.in_ok-topic.ensures.request in
    IfOk-weaker c.noted_over.result _ _
    (λ answer told.
    let (text, reply, taken) = told in
    (text, inr (inr (inr (inr (inr (inr (request, asked, reply)))))), taken))
    c.noted_over.ensures.replies

pub returns-in-Mend-clause-stops : goal.returns-in-Mend-clause-stops
returns-in-Mend-clause-stops g c =
    let asked = rw c.in-Mend.is at c.in_ok-topic.ensures.request in
    IfErr-weaker c.noted_over.result _ _
    (λ stop told. stops_noted g.O.Write.contents (g.F.Folder.holds c.args.folder.now)
    (g.F.Folder.may_fail c.args.folder.now) c.args.texts.now _ (texts_in c.args.words.now)
    (requests.Mend c.in-Mend.asked) stop _ _ asked told)
    c.noted_over.ensures.stops

pub returns-in-LemmaFile-clause-answers : goal.returns-in-LemmaFile-clause-answers
returns-in-LemmaFile-clause-answers g c =
    let request = requests.LemmaFile c.in-LemmaFile.asked in
    let asked = rw c.in-LemmaFile.is at c.in_ok-topic.ensures.request in
    IfOk-weaker c.noted_over-in-LemmaFile.result _ _
    (λ answer told.
    let (text, reply, taken) = told in
    (text, inr (inr (inr (inr (inr (inr (request, asked, reply)))))), taken))
    c.noted_over-in-LemmaFile.ensures.replies

pub returns-in-LemmaFile-clause-stops : goal.returns-in-LemmaFile-clause-stops
returns-in-LemmaFile-clause-stops g c =
    let asked = rw c.in-LemmaFile.is at c.in_ok-topic.ensures.request in
    IfErr-weaker c.noted_over-in-LemmaFile.result _ _
    (λ stop told. stops_noted g.O.Write.contents (g.F.Folder.holds c.args.folder.now)
    (g.F.Folder.may_fail c.args.folder.now) c.args.texts.now _ (texts_in c.args.words.now)
    (requests.LemmaFile c.in-LemmaFile.asked) stop _ _ asked told)
    c.noted_over-in-LemmaFile.ensures.stops

pub returns-clause-stops : goal.returns-clause-stops
returns-clause-stops g c =
    let asked = rw c.in-Text.is at c.in_ok-topic.ensures.request in
    stops_text g.O.Write.contents (g.F.Folder.holds c.args.folder.now)
    (g.F.Folder.may_fail c.args.folder.now) c.args.texts.now _
    (texts_in c.args.words.now) c.in-Text.asked.question c.in-Text.asked.label.now
    c.in-Text.asked.proof.now _
    (Some c.as_bytes-in-Err-text_over.result) c.in-Err-text_over.stop
    c.labelled-in-Err-text_over.result _ _ asked
    (ap Some c.as_bytes-in-Err-text_over.ensures.value)
    c.labelled-in-Err-text_over.ensures c.in-Err-text_over.ensures.stops
