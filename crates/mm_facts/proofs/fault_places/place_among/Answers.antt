-- The place where the moves stop, and else that of the token.
use Rattle.std.proofs.Common.{inl, take, List, ℕ, map, subst}
use Rattle.mm_base.specs.Token.{plain_token}
use Rattle.mm_places.specs.WholePlaces.{IsWholePlace}
use Rattle.mm_facts.specs.Explained.{judged_tokens}
use Rattle.mm_step.specs.Plain.{token_texts}
use Rattle.mm_proof.specs.Tokens.{is_incomplete}
use Rattle.mm_step.specs.Profiles.{limit_of}
use Rattle.mm_facts.proofs.TokenHalts.{token_caused, halt_caused, stops_in}
use Rattle.mm_facts.proofs.FaultPlaces.{place_caused, token_fits}
use Rattle.mm_rules.proofs.Judgements.JudgedProofs.{texts_of}
use Rattle.mm_facts.proofs.fault_places.place_among.Goals as goal

pub stop_place-requires-clause-halt : goal.stop_place-requires-clause-halt
stop_place-requires-clause-halt c =
    let (profile, st, id, index, s, rule, step, number, r) = c.requires.cause in
    stops_in c.in-Moves.is r index s number

pub position_of-requires : goal.position_of-requires
position_of-requires c =
    let (profile, st, id, index, s, rule, step, number, r) = c.requires.cause in
    let caused = token_caused c.in-Token.is r in
    let fits = token_fits c.args.tokens.now c.in-Token.index c.in-Token.byte _ c.requires.room
    caused.2 caused.3 in
    record { token = fits.0; byte = fits.1 }

pub returns-in-Token : goal.returns-in-Token
returns-in-Token c = λ profile st id index s rule step number r.
    let caused = token_caused c.in-Token.is r in
    inl (
      caused.0,
      _,
      _,
      subst
          (λ (ts : List (List ℕ)). IsWholePlace (take index st) s (judged_tokens ts) rule
          c.in-Token.index c.in-Token.byte)
          (texts_of c.args.tokens.now) (caused.1 index s number),
      c.position_of.ensures,
    )

pub returns-in-Moves : goal.returns-in-Moves
returns-in-Moves c = λ profile st id index s rule step number r.
    let found = halt_caused c.in-Moves.is r index s number in
    place_caused c.in-Moves.is r index s number (map plain_token c.args.tokens.now)
    (texts_of c.args.tokens.now) c.args.end c.stop_place.result
    (c.stop_place.ensures (limit_of profile) st (take index st) s
    (is_incomplete (token_texts c.args.tokens.now)) found.moves found.halts)
