-- It is the next one that was put, and goes on with a lemma.
use Rattle.std.proofs.Common.{sym, refl}
use Rattle.std.proofs.lemmas.Bool.Decides.{Decides-ltb}
use Rattle.mm_base.specs.Statement.{plain_statement}
use Rattle.mm_with_lemmas.proofs.LoneTexts.{put_at}
use Rattle.mm_with_lemmas.proofs.lemma.Place.behind_put.Goals as goal

pub returns : goal.returns
returns c = record {
  next = plain_statement c.in_ok-next.next.now.statement;
  there = put_at c.args.put.now c.args.self.put c.in_ok-next.next.now
      ((Decides-ltb c.args.self.put _).0 (sym c.in_ok-next.ensures.lookup.0))
      c.in_ok-next.ensures.lookup.1;
  same = c.are_the_same.ensures c.if-not-are_the_same.false;
  count = refl;
  depth = c.in_ok-depth.ensures;
  outside = c.in_ok-stage.ensures.outside;
  grown = c.in_ok-stage.ensures.grown;
}
