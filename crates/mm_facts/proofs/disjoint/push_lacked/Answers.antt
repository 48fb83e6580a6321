-- Each pair has its names at its index.
use Rattle.std.proofs.Common.{ap, ◌∙◌, arith, ◌++◌, List, map}
use Rattle.std.proofs.lemmas.List.{take_all}
use Rattle.std.proofs.lemmas.Option.{slice_get_within}
use Rattle.mm_frame.specs.Numbers.{symbols_of}
use Rattle.mm_step.specs.Substitution.{Symbol}
use Rattle.mm_facts.specs.Explained.{details_text, step_lacks}
use Rattle.mm_facts.proofs.LackingDetails.{pair_there, as_many_pairs, lacking_told}
use Rattle.mm_facts.proofs.disjoint.push_lacked.Goals as goal

pub name-requires : goal.name-requires
name-requires c =
    let st = c.args.book.now.statements in
    let p = pair_there st c.args.pairs.now c.requires.0 c.loop-pair.pair-index _ c.requires.1 c.loop-pair-test.true in
    slice_get_within (symbols_of st) _ p.0.0 p.2

pub name-requires-in-loop-pair : goal.name-requires-in-loop-pair
name-requires-in-loop-pair c =
    let st = c.args.book.now.statements in
    let p = pair_there st c.args.pairs.now c.requires.0 c.loop-pair.pair-index _ c.requires.1 c.loop-pair-test.true in
    slice_get_within (symbols_of st) _ p.0.1 p.3

pub loop-pair-preserved : goal.loop-pair-preserved
loop-pair-preserved c = λ named are.
    let st = c.args.book.now.statements in
    let p = pair_there st c.args.pairs.now named c.loop-pair.pair-index _ are c.loop-pair-test.true in
    lacking_told step_lacks st named c.loop-pair.pair-index p.0 _ _ c.name.result.now c.name-in-loop-pair.result.now
    c.args.out.now.items c.loop-pair.out.items c.push_step_lacks.new.out.items p.1 p.2 p.3 c.name.ensures c.name-in-loop-pair.ensures
    (c.loop-pair.invariant named are) c.in_ok-push_step_lacks.ensures

pub returns : goal.returns
returns c = λ named are.
    let many = as_many_pairs c.args.book.now.statements c.args.pairs.now named are in
    let all = c.loop-pair-test.false in
    c.loop-pair.invariant named are
    ∙ ap (λ (ps : List (Symbol × Symbol)). c.args.out.now.items ++ details_text (map (λ p. step_lacks p.0 p.1) ps)) (take_all c.loop-pair.pair-index named (omega arith))
