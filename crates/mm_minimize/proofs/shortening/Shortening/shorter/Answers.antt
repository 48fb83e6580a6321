-- What is told of the steps is told of the theorem.
use Rattle.std.proofs.Common.{◌≡◌, ◌<◌, ℕ, List, length, map, sym, ap, subst}
use Rattle.std.specs.List.{AllByRecursion}
use Rattle.mm_base.proofs.Lists.{all_within}
use Rattle.mm_frame.specs.Numbers.{labelled_sentences}
use Rattle.mm_frame.specs.Sentence.{Sentence}
use Rattle.mm_frame.specs.declared.number.LabelId.{LabelId}
use Rattle.mm_frame.proofs.Names.LabelNumbers.{numbered_within}
use Rattle.mm_rules.specs.Conclusion.{Conclusion}
use Rattle.mm_minimize.specs.Mirror.Shortening.{IsAllowedProof}
use Rattle.mm_verdict.proofs.Verdicts.AcceptedStatements.{AreOf, read_statements, KeptWell}
use Rattle.mm_minimize.proofs.ShorterTheorems.ShorterProofs.{found, used_within}
use Rattle.mm_minimize.proofs.shortening.Shortening.shorter.Goals as goal

pub own_proof-requires : goal.own_proof-requires
own_proof-requires c =
    let now : Conclusion = c.args.self.now.checked.now in
    let allowed : IsAllowedProof now c.args.theorem.now.id.0 c.in-Some.handed = rw c.in-Some.is at c.in_ok-handed.ensures in
    rw (ap (λ (v : Conclusion). v.sentences) c.checked.view_is)
    (allowed.proof.usable, allowed.proof.proved, allowed.proof.whole)

pub is_by_one_alone-is_duplicate-requires-clause-theorem : goal.is_by_one_alone-is_duplicate-requires-clause-theorem
is_by_one_alone-is_duplicate-requires-clause-theorem c =
    let now : Conclusion = c.args.self.now.checked.now in
    let told : c.checked.inside.book.statements ≡ now.sentences = ap (λ (v : Conclusion). v.sentences) c.checked.view_is in
    subst (λ (ss : List Sentence). c.args.theorem.now.id.0 < length (labelled_sentences ss)) (sym told)
    (numbered_within now.sentences c.args.theorem.now.id.0 c.requires.theorem.0.index c.requires.theorem.0.s
    c.requires.theorem.0.proof.numbered)

pub is_by_one_alone-is_duplicate-requires-clause-used : goal.is_by_one_alone-is_duplicate-requires-clause-used
is_by_one_alone-is_duplicate-requires-clause-used c =
    let now : Conclusion = c.args.self.now.checked.now in
    let told : c.checked.inside.book.statements ≡ now.sentences = ap (λ (v : Conclusion). v.sentences) c.checked.view_is in
    let allowed : IsAllowedProof now c.args.theorem.now.id.0 c.in-Some.handed = rw c.in-Some.is at c.in_ok-handed.ensures in
    let ids : List ℕ = map (λ (l : LabelId). l.0) c.ids.result.now in
    subst (λ (ss : List Sentence). AllByRecursion (λ n. n < length (labelled_sentences ss)) ids) (sym told)
    (subst (λ (ns : List ℕ). AllByRecursion (λ n. n < length (labelled_sentences now.sentences)) ns)
    (sym c.ids.ensures)
    (all_within (λ n. n < length (labelled_sentences now.sentences)) c.in-Some.handed.used
    (used_within now.profile now.sentences c.args.theorem.now.id.0 c.in-Some.handed.steps c.in-Some.handed.used allowed.proof)))

pub returns-clause-found : goal.returns-clause-found
returns-clause-found c = λ label statements reads r.
    let now : Conclusion = c.args.self.now.checked.now in
    let well : KeptWell now = subst KeptWell c.checked.view_is c.checked.invariant in
    let told : c.checked.inside.book.statements ≡ now.sentences = ap (λ (v : Conclusion). v.sentences) c.checked.view_is in
    let allowed : IsAllowedProof now c.args.theorem.now.id.0 c.in-Some.handed = rw c.in-Some.is at c.in_ok-handed.ensures in
    let of : AreOf now statements = read_statements now statements well.origin reads in
    let size = c.is_shorter.ensures.0 c.if-not-is_shorter.false in
    found now.profile now.files statements now.sentences label c.args.theorem.now c.args.own.now _
    of.kept.sentences reads r c.requires.theorem.1 c.requires.own allowed.proof
    (rw told at c.in_ok-proof.ensures)
    (rw (told, c.ids.ensures) at c.is_by_one_alone-is_duplicate.ensures)
    allowed.allowed c.requires.unmarked size.0 size.1
