use Rattle.std.proofs.Common.{rules}
use Rattle.mm_frame.specs.Sentence.{SomeSentence, Types}
use Rattle.mm_frame.specs.Mirror.Layout.{statements_of}
use Rattle.mm_frame.proofs.Rules.SymbolLookups.{latest_code_says, code_match, untyped, known_latest}
use Rattle.mm_frame.proofs.lookups.latest_code.Goals as goal

pub returns-in-Some-at : goal.returns-in-Some-at
returns-in-Some-at c =
    let st = statements_of c.args.tables.now in
    let x = c.args.variable.now in
    let latest = known_latest st x c.in-Some.info _
    (rw c.in-Some.is at c.symbol_info.ensures) c.in-Some-floating.is in
    code_match (λ text. text.now) _ (λ code. SomeSentence st (Types code x)) c.name.result
    (latest_code_says st _ c.symbols_at.result.now x _ c.in-Some-at.code _ c.requires.infos.all
    latest c.symbols_at.ensures (search rules) c.name.ensures)

pub returns-in-None : goal.returns-in-None
returns-in-None c = untyped _ _ c.requires.sound.0 (rw c.in-None.is at c.symbol_info.ensures)
