-- Of a `$f` its type is noted; another statement gives none.
use Rattle.std.proofs.Common.{List, ap, map, sym}
use Rattle.mm_base.specs.Token.{PlainToken, plain_token}
use Rattle.mm_base.specs.declared.token.Token.{Token}
use Rattle.std.proofs.lemmas.Result.{on_ok_weaker}
use Rattle.mm_frame.specs.Sentence.{sentence_in}
use Rattle.mm_find.proofs.TypeTables.{types_kept}
use Rattle.mm_find.proofs.types.Types.note.Goals as goal

pub returns-in-Floating : goal.returns-in-Floating
returns-in-Floating c =
    on_ok_weaker c.note_typing.result
    (λ told before are meant.
    told before (sentence_in c.args.statement.now) are meant c.in-Floating.is
    (ap (λ (ts : List Token). map (λ (t : PlainToken). t.text) (map plain_token ts))
    (sym c.deref.ensures.value)))
    c.note_typing.ensures

pub returns-in_default : goal.returns-in_default
returns-in_default c before are meant =
    types_kept before (sentence_in c.args.statement.now) _ are
    (λ code x types. c.in_default.not-Floating types.0)
