use Rattle.std.proofs.Common.{rules, ℕ, List, take, subst, sym, arith}
use Rattle.std.proofs.lemmas.List.{take-map, take_all, length-map}
use Rattle.mm_base.specs.declared.token.Token.{Token}
use Rattle.mm_frame.proofs.Names.NameNumbers.{StandOnce, once_with_name}
use Rattle.mm_frame.proofs.Rules.RepeatedSymbols.{found_again, new_name, texts_of}
use Rattle.mm_frame.proofs.broken.has_repeats_among_few.Goals as goal

pub returns-then-is_some : goal.returns-then-is_some
returns-then-is_some c = (
  (λ t. found_again c.args.symbols.now c.loop-at.at _ (texts_of (take c.loop-at.at c.args.symbols.now)) c.index_among.result c.is_some.result c.loop-at-test.true
      (sym (take-map (λ (o : Token). o.text.now) c.loop-at.at c.args.symbols.now)) (search rules) c.if-is_some.true c.index_among.ensures),
  (λ twice. search rules),
)

pub loop-at-preserved : goal.loop-at-preserved
loop-at-preserved c =
    let prefix = take-map (λ (o : Token). o.text.now) c.loop-at.at c.args.symbols.now in
    subst (λ (xs : List (List ℕ)). StandOnce xs)
    (new_name c.args.symbols.now c.loop-at.at _ (texts_of (take c.loop-at.at c.args.symbols.now)) c.index_among.result c.is_some.result c.loop-at-test.true
    (sym prefix) (search rules) c.if-is_some.false c.index_among.ensures)
    (once_with_name _ _ (subst (λ (xs : List (List ℕ)). StandOnce xs) prefix c.loop-at.invariant))

pub returns : goal.returns
returns c = (
  (λ t. search rules),
  (λ twice.
      let texts = texts_of c.args.symbols.now in
      let all = take_all c.loop-at.at texts (omega (arith, length-map c.args.symbols.now (λ (o : Token). o.text.now), c.loop-at-test.false)) in
      let same = subst (λ (xs : List (List ℕ)). StandOnce xs) all c.loop-at.invariant twice.1.i twice.1.j twice.0 twice.1.at_i twice.1.at_j in
      absurd (omega (arith, twice.1.apart, same))),
)
