-- The numbers are those of files, and their names those of the files that weren't included.
use Rattle.std.proofs.Common.{◌∙◌, ap, map, get_or, rules}
use Rattle.std.proofs.lemmas.List.{map-append, take_all}
use Rattle.mm_text.specs.Files.{plain_file}
use Rattle.mm_rules.specs.Places.{name_of}
use Rattle.mm_serve.proofs.FilesRead.{name_at, name_more, names_told, number_within}
use Rattle.mm_serve.proofs.notes.names_left_out.Goals as goal

pub bounds-files-number : goal.bounds-files-number
bounds-files-number c =
    number_within c.args.files.now _ c.deref-number-items.result.now
    c.deref-number-items.ensures.value c.in_ok-numbers.ensures.whole c.in_ok-numbers.ensures.broken
    c.loop-number.number-index 0 c.loop-number-test.true

pub offset_bounds-files-number : goal.offset_bounds-files-number
offset_bounds-files-number c =
    let within = number_within c.args.files.now _ c.deref-number-items.result.now
    c.deref-number-items.ensures.value c.in_ok-numbers.ensures.whole c.in_ok-numbers.ensures.broken
    c.loop-number.number-index 0 c.loop-number-test.true in
    search (rules, within)

pub loop-number-preserved : goal.loop-number-preserved
loop-number-preserved c =
    let numbers = c.deref-number-items.result.now in
    let index = c.loop-number.number-index in
    let within = number_within c.args.files.now _ numbers
    c.deref-number-items.ensures.value c.in_ok-numbers.ensures.whole c.in_ok-numbers.ensures.broken
    index 0 c.loop-number-test.true in
    ap (map (λ name. name.now)) c.in_ok-push.ensures.items
    ∙ map-append (λ name. name.now) c.loop-number.names.items _
    ∙ name_more (map plain_file c.args.files.now) _ numbers index 0 _ c.loop-number-test.true
    c.loop-number.invariant (name_at c.args.files.now (get_or numbers index 0) _ within)

pub returns : goal.returns
returns c =
    let numbers = c.deref-number-items.result.now in
    let files = map plain_file c.args.files.now in
    names_told files _ numbers _
    c.deref-number-items.ensures.value c.in_ok-numbers.ensures.whole c.in_ok-numbers.ensures.broken
    (c.loop-number.invariant
    ∙ ap (map (name_of files))
    (take_all c.loop-number.number-index numbers c.loop-number-test.false))
