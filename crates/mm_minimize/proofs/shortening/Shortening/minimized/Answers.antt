-- The theorem's own small text, or a shorter one.
use Rattle.std.proofs.Common.{◌≡◌, ap, subst}
use Rattle.mm_rules.specs.Conclusion.{Conclusion}
use Rattle.mm_verdict.proofs.Verdicts.AcceptedStatements.{AreOf, read_statements, KeptWell}
use Rattle.mm_minimize.proofs.ShorterTheorems.ShorterProofs.{small_of, minimized_found}
use Rattle.mm_minimize.proofs.shortening.Shortening.minimized.Goals as goal

pub own_proof-requires : goal.own_proof-requires
own_proof-requires g c =
    rw (ap (λ (v : Conclusion). v.sentences) c.checked.view_is) c.requires.theorem

pub returns-clause-text : goal.returns-clause-text
returns-clause-text g c = λ label statements reads r.
    let now : Conclusion = c.args.self.now.checked.now in
    let well : KeptWell now = subst KeptWell c.checked.view_is c.checked.invariant in
    let told : c.checked.inside.book.statements ≡ now.sentences = ap (λ (v : Conclusion). v.sentences) c.checked.view_is in
    let of : AreOf now statements = read_statements now statements well.origin reads in
    let small = small_of statements now.sentences label c.args.theorem.now c.in_ok-own.own of.kept.sentences r c.requires.theorem.1 (rw told at c.in_ok-own.ensures) in
    minimized_found now.profile now.files statements label c.args.theorem.now c.in_ok-own.own
    c.in_ok-found.found c.shortest.result.text.items reads r small c.in_ok-found.ensures.found
    c.shortest.ensures.text
