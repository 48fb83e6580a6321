-- Where the block begins, or where the name was met last.
use Rattle.std.proofs.Common.{List, [], ◌∷◌, map, sym, ap, subst, append-nil}
use Rattle.std.proofs.lemmas.Result.{on_ok_weaker}
use Rattle.mm_text.specs.Files.{PlainFile, plain_file}
use Rattle.mm_base.specs.Token.{plain_token}
use Rattle.mm_frame.specs.declared.rule.MeaningRule.{MeaningRule}
use Rattle.mm_facts.specs.Explained.{Detail}
use Rattle.mm_explain.specs.MeaningFacts.{AreEarlierFacts, met_facts}
use Rattle.mm_explain.specs.Source.{opened_block}
use Rattle.mm_facts.specs.MeaningFacts.{met_as}
use Rattle.mm_rules.specs.Places.{token_place}
use Rattle.mm_explain.specs.Mirror.SemanticErrors.{IsBroken}
use Rattle.mm_explain.proofs.Collisions.{block_there, of_names}
use Rattle.mm_facts.proofs.HaltDetails.{one_told}
use Rattle.mm_explain.proofs.InnermostBlocks.{block_open}
use Rattle.mm_explain.proofs.conflict.push_earlier.Goals as goal

pub innermost_before-requires-clause-opened : goal.innermost_before-requires-clause-opened
innermost_before-requires-clause-opened c =
    block_open (map plain_file c.args.files.now) c.args.error.now.before
    (subst
    (λ (r : MeaningRule). IsBroken (map plain_file c.args.files.now) c.args.error.now.before r)
    c.in-M1.is c.requires.known)

pub returns-in_ok-block-in-M1 : goal.returns-in_ok-block-in-M1
returns-in_ok-block-in-M1 c =
    let files : List PlainFile = map plain_file c.args.files.now in
    let t = plain_token c.in_ok-block-in-M1.block in
    let details : List Detail = opened_block c.args.source files t ∷ [] in
    on_ok_weaker c.push_open_block.result (λ text. (
      details,
      (λ site. subst
          (λ (r : MeaningRule). AreEarlierFacts c.args.source files r site.before site.s c.args.error.now.index details)
          (sym c.in-M1.is)
          (block_there c.args.source files site.before site.s c.args.error.now.index t
          (c.in_ok-block-in-M1.ensures site))),
      one_told c.args.out.now.items c.push_open_block.new.out.items
          (opened_block c.args.source files t) text,
    )) c.push_open_block.ensures

pub returns-in-Some : goal.returns-in-Some
returns-in-Some c =
    let files : List PlainFile = map plain_file c.args.files.now in
    let rule : MeaningRule = c.args.error.now.rule in
    on_ok_weaker c.push_met.result (λ text. (
      met_as rule (token_place files (plain_token c.in-Some.token)) ∷ [],
      (λ site. of_names c.args.source files rule site.before site.s c.args.error.now.index _ c.in_default.not-M1
          (ap (met_facts files rule) (rw c.in-Some.is at (c.in_ok-token-in_default.ensures site)))),
      one_told c.args.out.now.items c.push_met.new.out.items
          (met_as rule (token_place files (plain_token c.in-Some.token))) text,
    )) c.push_met.ensures

pub returns-in-None : goal.returns-in-None
returns-in-None c =
    let files : List PlainFile = map plain_file c.args.files.now in
    let rule : MeaningRule = c.args.error.now.rule in (
      [],
      (λ site. of_names c.args.source files rule site.before site.s c.args.error.now.index [] c.in_default.not-M1
          (ap (met_facts files rule) (rw c.in-None.is at (c.in_ok-token-in_default.ensures site)))),
      sym (append-nil c.args.out.now.items),
    )
