-- The first label that is to blame stands at its token.
use Rattle.std.proofs.Common.{refl}
use Rattle.mm_step.specs.Plain.{token_texts}
use Rattle.mm_places.proofs.ProofPlaces.WholePlaces.{some_blamed}
use Rattle.mm_places.proofs.whole_places.label_index.Goals as goal

pub labels_of-base-requires : goal.labels_of-base-requires
labels_of-base-requires c = (c.requires.blamed.0, c.requires.blamed.1)

pub unreachable-requires : goal.unreachable-requires
unreachable-requires c =
    some_blamed c.args.blame c.args.book.now.statements c.args.own.now.index
    (token_texts c.args.tokens.now) c.labels_of-base.result.0
    (token_texts c.labels_of-base.result.1.now) c.labels_of-base.ensures c.requires.blamed
    c.in-None.ensures

pub returns : goal.returns
returns c =
    let found = c.in-Some.ensures in
    record {
      from = c.labels_of-base.result.0;
      labels = token_texts c.labels_of-base.result.1.now;
      are = c.labels_of-base.ensures;
      index = c.in-Some.index;
      stands = refl;
      label = found.0;
      there = found.1;
      so = found.2;
      first = found.3;
    }
