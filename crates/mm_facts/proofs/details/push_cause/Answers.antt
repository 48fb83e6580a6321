-- The moves stop at the first fault, and its facts are told.
use Rattle.std.proofs.Common.{Some, ◌++◌, Bor, List, ℕ, take, inl, inr, refl, subst, sym}
use Rattle.std.specs.List.{AllZip}
use Rattle.mm_code.specs.Layout.{texts}
use Rattle.mm_code.specs.Words.{texts_of}
use Rattle.std.proofs.lemmas.Result.{on_ok_weaker}
use Rattle.mm_proof.specs.Tokens.{is_incomplete}
use Rattle.mm_step.specs.declared.profile.Profile.{Profile}
use Rattle.mm_step.specs.Profiles.{limit_of}
use Rattle.mm_facts.specs.Explained.{AreListed, AreWholeDetails}
use Rattle.mm_facts.specs.StepTexts.{IsStepText}
use Rattle.mm_facts.specs.Mirror.Explaining.{TellsSteps, told_steps}
use Rattle.mm_facts.proofs.LackingDetails.{both_told}
use Rattle.mm_facts.proofs.TokenHalts.{tokens_halt, token_caused, moves_caused, halt_caused}
use Rattle.mm_facts.proofs.TokenHalts.{fault_caused, is_halt_of}
use Rattle.mm_facts.proofs.details.push_cause.Goals as goal

pub push_halt-requires-clause-sound : goal.push_halt-requires-clause-sound
push_halt-requires-clause-sound c = c.requires.cause.2.sound

pub push_halt-requires-clause-halt : goal.push_halt-requires-clause-halt
push_halt-requires-clause-halt c =
    let p = c.requires.proof in is_halt_of c.in-Moves.is c.requires.cause.2 p.0 p.1 p.2

pub push_halt-requires-clause-broken : goal.push_halt-requires-clause-broken
push_halt-requires-clause-broken c =
    let p = c.requires.proof in (fault_caused c.in-Moves.is c.requires.cause.2 p.0 p.1 p.2).0

pub push_whole-requires : goal.push_whole-requires
push_whole-requires c = (moves_caused c.in-Moves.is c.requires.cause.2).1.usable

pub returns-in-Token : goal.returns-in-Token
returns-in-Token c =
    on_ok_weaker c.push_at_token.result
    (λ told files tokens step r named index s proof.
    let caused = token_caused c.in-Token.is r in
    let facts = told index s proof in (
      facts.0,
      inl (
        caused.0,
        _,
        _,
        _,
        caused.1 index s proof,
        caused.2,
        texts c.deref.result.now,
        subst (λ (ls : List (Bor (List ℕ))). AreListed (texts_of tokens) (texts ls))
            (sym c.deref.ensures.value) caused.4,
        facts.1,
      ),
      facts.2,
    ))
    c.push_at_token.ensures

pub returns-in_ok-push_halt-in-Moves : goal.returns-in_ok-push_halt-in-Moves
returns-in_ok-push_halt-in-Moves c =
    let st = c.args.book.now.statements in
    on_ok_weaker c.push_whole.result
    (λ added files tokens step r named index s proof.
    let moved = moves_caused c.in-Moves.is r in
    let found = halt_caused c.in-Moves.is r index s proof in
    let fault = fault_caused c.in-Moves.is r index s proof in
    let facts = c.in_ok-push_halt-in-Moves.ensures index s (is_incomplete (texts_of tokens)) found.moves proof
    found.halts in
    let whole = added index s found.moves proof (moved.1.said index s proof).3 in (
      facts.0 ++ whole.0,
      inr (
        tokens_halt c.args.profile st (take index st) s (texts_of tokens) c.in-Moves.stop.halt
            (Some c.args.rule) fault.0 found,
        fault.1,
        told_steps c.in-Moves.stop,
        subst
            (λ (ns : List ℕ). AllZip (IsStepText files tokens found.moves) ns
            (told_steps c.in-Moves.stop))
            found.halts.same_origins
            (subst (TellsSteps files tokens st c.args.id.0) c.in-Moves.is named index s found.moves
            proof (moved.1.said index s proof).3),
        facts.0,
        whole.0,
        facts.1,
        subst
            (λ (p : Profile). AreWholeDetails (limit_of p) (take index st) found.moves c.args.rule
            whole.0)
            moved.1.under whole.1,
        refl,
      ),
      both_told facts.0 whole.0 c.args.out.now.items c.push_halt.new.out.items
          c.push_whole.new.out.items facts.2 whole.2,
    ))
    c.push_whole.ensures
