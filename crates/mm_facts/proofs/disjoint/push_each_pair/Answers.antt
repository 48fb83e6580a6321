-- One pair more.
use Rattle.std.proofs.Common.{take, subst, arith}
use Rattle.std.proofs.lemmas.List.{take_all}
use Rattle.mm_step.specs.Stores.{entries_in}
use Rattle.mm_frame.specs.declared.distinct.DistinctPair.{DistinctPair}
use Rattle.std.proofs.Common.{List}
use Rattle.mm_facts.specs.Mirror.Explaining.{AddsPairs}
use Rattle.mm_facts.proofs.DisjointDetails.{pairs_told}
use Rattle.mm_facts.proofs.disjoint.push_each_pair.Goals as goal

pub loop-pair-preserved : goal.loop-pair-preserved
loop-pair-preserved c = λ index s proof given zip declared σ replaced.
    let st = c.args.book.now.statements in
    pairs_told st (take index st) c.args.rule σ given c.args.pairs.now c.loop-pair.pair-index _
    c.args.out.now.items c.loop-pair.out.items c.push_disjoint_pair.new.out.items c.loop-pair-test.true replaced
    (λ those. c.loop-pair.invariant index s proof given zip declared σ those)
    (λ first second. c.in_ok-push_disjoint_pair.ensures index s proof given zip declared σ first second)

pub returns : goal.returns
returns c =
    subst (λ (ps : List DistinctPair). AddsPairs c.args.book.now.statements c.args.id.0 c.args.rule (entries_in c.args.entries.now) ps
    c.args.out.now.items c.loop-pair.out.items)
    (take_all c.loop-pair.pair-index c.args.pairs.now (let end = c.loop-pair-test.false in omega arith)) c.loop-pair.invariant
