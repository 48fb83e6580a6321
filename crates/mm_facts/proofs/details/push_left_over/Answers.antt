-- The moves of the known prefix stop by no rule, and what they leave is told.
use Rattle.std.proofs.Common.{None, List, ℕ, map, take, ◌≡◌, ◌++◌, ◌∷◌, [], unwrap_or, refl, subst}
use Rattle.std.specs.List.{AllZip}
use Rattle.mm_base.specs.Token.{PlainToken, plain_token}
use Rattle.mm_text.specs.Files.{plain_file}
use Rattle.mm_facts.specs.StepTexts.{IsStepText}
use Rattle.mm_facts.specs.Mirror.Explaining.{told_steps}
use Rattle.mm_rules.proofs.Judgements.JudgedProofs.{texts_of}
use Rattle.std.proofs.lemmas.Result.{on_ok_weaker}
use Rattle.mm_step.specs.Plain.{token_texts}
use Rattle.mm_frame.specs.Numbers.{symbols_of}
use Rattle.mm_frame.proofs.Rules.ObeyedRules.{allformed_prefix, allmeant_prefix}
use Rattle.mm_step.specs.Profiles.{limit_of}
use Rattle.mm_facts.specs.Explained.{entries_given, hypothesis_stated, TokensHalt}
use Rattle.mm_facts.proofs.HaltDetails.{left_told}
use Rattle.mm_frame.proofs.Names.LabelNumbers.{numbered_get}
use Rattle.mm_step.specs.Stores.{numbers_in}
use Rattle.mm_proof.specs.Tokens.{is_incomplete}
use Rattle.mm_rules.proofs.Numbers.{numbers_within}
use Rattle.mm_facts.proofs.TokenHalts.{allowed_whole, found_halt, found_none, tokens_halt}
use Rattle.mm_facts.proofs.details.push_left_over.Goals as goal

pub steps_of-requires-clause-whole : goal.steps_of-requires-clause-whole
steps_of-requires-clause-whole c = λ index s proof.
    allowed_whole c.args.profile (take index c.args.book.now.statements) s (token_texts c.args.tokens.now) c.requires.incomplete (c.requires.allowed index s proof)

pub push_entries-requires : goal.push_entries-requires
push_entries-requires c =
    let st = c.args.book.now.statements in
    let tokens = token_texts c.args.tokens.now in
    let p = c.requires.proof in
    let found = found_halt c.args.profile st c.args.id.0 tokens c.in_ok-steps.steps c.in_ok-stop.stop.halt c.in_ok-steps.ensures c.in_ok-stop.ensures.halted p.0 p.1 p.2 in (
      limit_of c.args.profile,
      record {
        index = p.0;
        s = p.1;
        proof = p.2;
        prefix = is_incomplete tokens;
        moves = found.moves;
        halts = found.halts;
      },
    )

pub push_stated-requires : goal.push_stated-requires
push_stated-requires c =
    let p = c.requires.proof in
    numbers_within (symbols_of c.args.book.now.statements) (numbers_in c.expression.result.now) p.1.symbols
    (c.expression.ensures p.1 (numbered_get c.args.book.now.statements c.args.id.0 p.0 p.1 p.2.numbered))

pub returns : goal.returns
returns c =
    let st = c.args.book.now.statements in
    let tokens = token_texts c.args.tokens.now in
    let placed : List PlainToken = map plain_token c.args.tokens.now in
    let sound = c.frame-own.ensures.sound in
    on_ok_weaker c.push_stated.result
    (λ told index s proof.
    let found = found_halt c.args.profile st c.args.id.0 tokens c.in_ok-steps.steps c.in_ok-stop.stop.halt c.in_ok-steps.ensures c.in_ok-stop.ensures.halted index s proof in
    let none = found_none c.args.profile st (take index st) s tokens c.in_ok-stop.stop.halt (allmeant_prefix st index sound.0) (allformed_prefix st index sound.1)
    c.requires.incomplete (c.requires.allowed index s proof) found in
    let entries = c.in_ok-push_entries.ensures (limit_of c.args.profile) index s (is_incomplete tokens) found.moves proof found.halts in
    let given = entries_given (told_steps c.in_ok-stop.stop) found.halts.there.stack in
    let there = numbered_get st c.args.id.0 index s proof.numbered in (
      given ++ hypothesis_stated (unwrap_or s.label []) s.symbols ∷ [],
      subst (λ (ts : List (List ℕ)). (h : TokensHalt c.args.profile (take index st) s ts None)
          × (steps : List (List ℕ))
          × AllZip (IsStepText (map plain_file c.args.files.now) placed h.moves) h.halts.origins steps
          × (given ++ hypothesis_stated (unwrap_or s.label []) s.symbols ∷ []
          ≡ entries_given steps h.halts.stack ++ hypothesis_stated (unwrap_or s.label []) s.symbols ∷ []))
          (texts_of c.args.tokens.now) (
            tokens_halt c.args.profile st (take index st) s tokens c.in_ok-stop.stop.halt None none found,
            told_steps c.in_ok-stop.stop,
            subst (λ (ns : List ℕ). AllZip (IsStepText (map plain_file c.args.files.now) placed found.moves) ns (told_steps c.in_ok-stop.stop))
                found.halts.same_origins
                (c.in_ok-stop.ensures.told index s found.moves proof (c.in_ok-steps.ensures.said index s proof).3),
            refl,
          ),
      left_told st s given entries.0 c.label.result.now (numbers_in c.expression.result.now) c.args.out.now.items c.push_entries.new.out.items
          c.push_stated.new.out.items entries.1 (c.label.ensures s there) (c.expression.ensures s there) entries.2 told,
    ))
    c.push_stated.ensures
