-- The theorem isn't marked, and its steps are handed to the search.
use Rattle.std.proofs.Common.{ap}
use Rattle.mm_frame.proofs.Names.LabelNumbers.{numbered_within}
use Rattle.mm_rules.specs.Conclusion.{Conclusion}
use Rattle.mm_minimize.proofs.shortening.Shortening.found.Goals as goal

pub is_settled-requires-clause-within : goal.is_settled-requires-clause-within
is_settled-requires-clause-within g c =
    numbered_within c.args.self.now.checked.now.sentences c.args.theorem.now.id.0
    c.requires.theorem.0.index c.requires.theorem.0.s c.requires.theorem.0.proof.numbered

pub shorter-requires-clause-unmarked : goal.shorter-requires-clause-unmarked
shorter-requires-clause-unmarked g c = λ statements index s reads at marked.
    absurd (let set = (c.is_settled.ensures statements index s reads at).1 marked in
    let unset = c.if-is_settled.false in cc)

pub candidate-requires-clause-proved : goal.candidate-requires-clause-proved
candidate-requires-clause-proved g c =
    rw (ap (λ (v : Conclusion). v.sentences) c.checked.view_is) c.requires.theorem.1
