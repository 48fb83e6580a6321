use Rattle.std.proofs.Common.{◌<◌, sym, subst}
use Rattle.mm_frame.specs.Mirror.Patterned.{AreNoted}
use Rattle.mm_frame.proofs.Frames.FramePatterns.{all_step, variables_same, few_hypotheses}
use Rattle.mm_frame.proofs.pattern.push_all.Goals as goal

pub push_pattern-requires-clause-few : goal.push_pattern-requires-clause-few
push_pattern-requires-clause-few c =
    let (t, of) = c.requires.mandatory in
    let few = few_hypotheses of in
    rw c.deref.ensures.value (subst (λ n. n < 4294967296) (sym c.push_patterns.ensures.count) few)

pub push_pattern-requires-clause-noted : goal.push_pattern-requires-clause-noted
push_pattern-requires-clause-noted c =
    let (t, of) = c.requires.mandatory in
    let have = c.in_ok-push_patterns.ensures.patterned t of in
    rw c.deref.ensures.value
    (subst (AreNoted c.args.noted.now.indices.items) (sym (variables_same c.args.hypotheses.now.items c.push_patterns.new.hypotheses.items have.same)) c.requires.noted)

pub returns-clause-patterned : goal.returns-clause-patterned
returns-clause-patterned c t of =
    let have = c.in_ok-push_patterns.ensures.patterned t of in
    all_step of _ c.push_patterns.new.hypotheses.items c.deref.result.now
    c.push_patterns.new.pieces.items c.push_pattern.new.pieces.items have c.deref.ensures.value
    c.push_pattern.ensures.longer c.push_pattern.result (λ few. c.push_pattern.ensures.part)
