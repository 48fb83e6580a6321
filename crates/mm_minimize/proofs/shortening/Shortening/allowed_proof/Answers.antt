-- The steps use numbers of labels.
use Rattle.std.proofs.Common.{◌≡◌, ◌<◌, ℕ, List, length, sym, ap, subst}
use Rattle.std.specs.List.{AllByRecursion}
use Rattle.mm_base.proofs.Lists.{all_within}
use Rattle.mm_frame.specs.Numbers.{labelled_sentences}
use Rattle.mm_frame.proofs.Names.LabelNumbers.{numbered_within}
use Rattle.mm_rules.specs.Conclusion.{Conclusion}
use Rattle.mm_render.specs.Mirror.Shortening.{AreHanded}
use Rattle.mm_minimize.proofs.ShorterTheorems.ShorterProofs.{used_within}
use Rattle.mm_minimize.proofs.shortening.Shortening.allowed_proof.Goals as goal

pub are_allowed-requires-clause-theorem : goal.are_allowed-requires-clause-theorem
are_allowed-requires-clause-theorem c =
    numbered_within c.args.self.now.checked.now.sentences c.args.id.0 c.requires.proof.0
    c.requires.proof.1 c.requires.proof.2.numbered

pub are_allowed-requires-clause-used : goal.are_allowed-requires-clause-used
are_allowed-requires-clause-used c =
    let now : Conclusion = c.args.self.now.checked.now in
    let under : c.checked.inside.profile ≡ now.profile = ap (λ (v : Conclusion). v.profile) c.checked.view_is in
    let told : c.checked.inside.book.statements ≡ now.sentences = ap (λ (v : Conclusion). v.sentences) c.checked.view_is in
    let handed : AreHanded c.checked.inside.profile c.checked.inside.book.statements c.args.id.0 c.in-Some.handed.steps c.in-Some.handed.used =
    rw c.in-Some.is at c.in_ok-handed.ensures in
    let proof : AreHanded now.profile now.sentences c.args.id.0 c.in-Some.handed.steps c.in-Some.handed.used =
    rw (under, told) at handed in
    subst (λ (ns : List ℕ). AllByRecursion (λ n. n < length (labelled_sentences now.sentences)) ns)
    (sym c.ids.ensures)
    (all_within (λ n. n < length (labelled_sentences now.sentences)) c.in-Some.handed.used
    (used_within now.profile now.sentences c.args.id.0 c.in-Some.handed.steps c.in-Some.handed.used proof))
