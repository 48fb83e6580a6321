-- The words were answered, or standard error was told why not.
use Rattle.std.proofs.Common.{map, rules}
use Rattle.mm_serve.specs.Answer.{outcome_of}
use Rattle.mm_serve.proofs.AnsweredWords.{ends_answered}
use Rattle.mm_serve.proofs.serve.serve_words.Goals as goal

pub returns-in-Ok-clause-ends : goal.returns-in-Ok-clause-ends
returns-in-Ok-clause-ends g c =
    ends_answered g.O.Write.contents g.E.Write.contents (g.F.Folder.holds c.args.folder.now) (g.F.Folder.may_fail c.args.folder.now)
    c.args.texts.now _ (map (λ word. word.now) c.args.words.now) (outcome_of c.in-Ok.answer)
    c.number.result c.notes.result.now c.args.out.now c.answer.new.out c.args.err.now
    c.tell_notes.new.err c.number.ensures c.notes.ensures c.tell_notes.ensures
    c.in-Ok.ensures.answers

pub returns-in-Err-clause-ends : goal.returns-in-Err-clause-ends
returns-in-Err-clause-ends g c = search rules
