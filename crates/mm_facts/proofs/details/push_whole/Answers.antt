-- The pairs that the moves lack have names.
use Rattle.std.proofs.Common.{refl, sym, subst, take, List}
use Rattle.std.proofs.lemmas.Result.{on_ok_weaker}
use Rattle.mm_frame.specs.declared.number.Sym.{Sym}
use Rattle.mm_step.specs.declared.fault.ProofRule.{ProofRule}
use Rattle.mm_step.specs.Profiles.{limit_of}
use Rattle.mm_facts.specs.Explained.{AreWholeDetails, pairs_lacking}
use Rattle.mm_facts.specs.Mirror.Explaining.{AreNamedPairs}
use Rattle.mm_facts.proofs.details.push_whole.Goals as goal

pub push_pairs-requires : goal.push_pairs-requires
push_pairs-requires c =
    let st = c.args.book.now.statements in
    let r = c.requires in
    let found = c.in_ok-lacking_pairs-in-P12.ensures r.index r.s r.moves r.proof r.numbered in
    (found.0, subst (λ (ps : List (Sym × Sym)). AreNamedPairs st ps found.0) (sym c.deref.ensures.value) (found.1, found.2))

pub returns-in_ok-lacking_pairs-in-P12 : goal.returns-in_ok-lacking_pairs-in-P12
returns-in_ok-lacking_pairs-in-P12 c =
    let st = c.args.book.now.statements in
    on_ok_weaker c.push_pairs.result
    (λ told index s moves number numbered.
    let found = c.in_ok-lacking_pairs-in-P12.ensures index s moves number numbered in
    let named = subst (λ (ps : List (Sym × Sym)). AreNamedPairs st ps found.0) (sym c.deref.ensures.value) (found.1, found.2) in (
      pairs_lacking found.0,
      subst (λ (r : ProofRule). AreWholeDetails (limit_of c.args.steps.now.profile) (take index st) moves r (pairs_lacking found.0)) (sym c.in-P12.is)
          (found.0, found.3, refl),
      told found.0 named,
    ))
    c.push_pairs.ensures
