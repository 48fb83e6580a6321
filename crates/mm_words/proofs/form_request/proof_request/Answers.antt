-- The words ask for what the matches of their command say.
use Rattle.std.proofs.Common.{List, map, ◌∙◌}
use Rattle.clap.specs.Words.{Row, found_of, rows_of}
use Rattle.mm_words.proofs.AskedWords.{all_asked, all_refused, form_asked}
use Rattle.mm_words.proofs.form_request.proof_request.Goals as goal

pub returns-then-is_given-clause-request : goal.returns-then-is_given-clause-request
returns-then-is_given-clause-request c =
    all_asked (rows_of (found_of c.args.matches.now)) c.args.form c.is_given-whole.result
    c.is_given.result c.asked_word-word.result.now c.is_given-whole.ensures c.is_given.ensures
    c.if-is_given.true c.asked_word-word.ensures c.in_ok-names.names c.all_request.result
    c.in_ok-names.ensures c.all_request.ensures.request

pub returns-then-is_given-clause-fault : goal.returns-then-is_given-clause-fault
returns-then-is_given-clause-fault c =
    all_refused (rows_of (found_of c.args.matches.now)) c.args.form c.is_given-whole.result
    c.is_given.result c.asked_word-word.result.now c.is_given-whole.ensures c.is_given.ensures
    c.if-is_given.true c.asked_word-word.ensures (map (λ n. n.now) c.in_ok-names.names.items)
    c.all_request.result c.in_ok-names.ensures c.all_request.ensures.fault

pub returns-clause-request : goal.returns-clause-request
returns-clause-request c = λ words commands for_all.
    let rows : List Row = rows_of (found_of c.args.matches.now) in
    let label = c.as_bytes-label.ensures.value ∙ c.asked_word-word.ensures in
    form_asked words c.args.form rows c.is_given-whole.result c.is_given.result c.as_bytes-label.result.now
    (map (λ n. n.now) c.in_ok-names.names.items) commands for_all c.is_given-whole.ensures
    c.is_given.ensures c.if-is_given.false label c.in_ok-names.ensures
