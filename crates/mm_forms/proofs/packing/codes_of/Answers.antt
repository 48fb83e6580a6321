use Rattle.std.proofs.Common.{arith}
use Rattle.std.proofs.lemmas.List.{take_all}
use Rattle.mm_forms.proofs.PackedProofs.PackingLoops.{one_there, encoded_next, repeated_tagged}
use Rattle.mm_forms.proofs.PackedProofs.PackingLoops.{tagged_next, tagged_few, tagged_step}
use Rattle.mm_forms.proofs.packing.codes_of.Goals as goal

pub encode-requires-clause-numbers : goal.encode-requires-clause-numbers
encode-requires-clause-numbers c =
    let few = tagged_few c.args.repeated.now c.loop-one.kept c.loop-one.invariant.among in
    let all = c.requires.numbers in omega (arith, few, all)

pub encode-requires-clause-known : goal.encode-requires-clause-known
encode-requires-clause-known c t is =
    c.requires.known t (one_there c.args.steps.now c.loop-one.one-index _ _ c.loop-one-test.true is)

pub encode-requires-clause-made : goal.encode-requires-clause-made
encode-requires-clause-made c t is =
    repeated_tagged c.args.repeated.now c.loop-one.kept c.args.steps.now c.loop-one.one-index _ t c.loop-one-test.true c.requires.made c.requires.each c.loop-one.invariant.tagged is

pub loop-one-preserved : goal.loop-one-preserved
loop-one-preserved c =
    record {
      said = encoded_next c.args.labels.now c.args.repeated.now c.args.steps.now
          c.loop-one.one-index _ c.loop-one.codes.items c.encode.new.codes.items c.loop-one.kept c.encode.new.kept
          c.loop-one-test.true c.loop-one.invariant.said c.in_ok-encode.ensures.said;
      among = tagged_step c.args.labels.now c.args.repeated.now c.loop-one.kept _ _
          c.encode.new.kept c.in_ok-encode.ensures.said.2 c.loop-one.invariant.among;
      tagged = tagged_next c.args.labels.now c.args.repeated.now c.args.steps.now c.loop-one.one-index _ c.in_ok-encode.ensures.said.0 c.loop-one.kept c.encode.new.kept
          c.loop-one-test.true c.loop-one.invariant.tagged c.in_ok-encode.ensures.said.2;
      spelled = c.in_ok-encode.ensures.spelled c.loop-one.invariant.spelled;
      exact = c.in_ok-encode.ensures.exact c.loop-one.invariant.exact;
    }

pub returns-clause-said : goal.returns-clause-said
returns-clause-said c = (
  c.loop-one.kept,
  rw (take_all _ c.args.steps.now c.loop-one-test.false) at c.loop-one.invariant.said,
)
