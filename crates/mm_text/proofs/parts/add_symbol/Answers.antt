use Rattle.std.proofs.Common.{◌≡◌, map, length, refl, sym, ap, ◌∙◌, arith}
use Rattle.std.proofs.lemmas.List.{map_push, length-map}
use Rattle.mm_base.specs.Token.{plain_token}
use Rattle.mm_base.specs.Statement.{plain_statement}
use Rattle.mm_text.specs.Mirror.Reader.{InBody, More, is_full}
use Rattle.mm_text.proofs.Reader.OneToken.{step_symbol, step_too_many}
use Rattle.mm_text.proofs.parts.add_symbol.Goals as goal

pub returns-then-is_full : goal.returns-then-is_full
returns-then-is_full c =
    let s = plain_statement c.args.into.now in
    let count : length s.symbols ≡ c.len.result = length-map _ _ ∙ omega arith in
    let full = ap (is_full s.kind) count ∙ sym c.is_full.ensures ∙ c.if-is_full.true in
    rw c.fault.ensures (step_too_many s (plain_token c.args.token) c.requires.word full, refl)

pub returns : goal.returns
returns c =
    let s = plain_statement c.args.into.now in
    let t = plain_token c.args.token in
    let count : length s.symbols ≡ c.len.result = length-map _ _ ∙ omega arith in
    let pushed = ap (map plain_token) c.in_ok-push.ensures.items ∙ map_push plain_token _ _ in
    step_symbol s t c.requires.word (ap (is_full s.kind) count ∙ sym c.is_full.ensures ∙ c.if-is_full.false)
    ∙ ap (λ symbols. More (InBody (record s { symbols = symbols }))) (sym pushed)
