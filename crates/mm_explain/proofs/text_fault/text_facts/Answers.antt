-- The token, and then where what it stands in began.
use Rattle.std.proofs.Common.{map}
use Rattle.mm_text.specs.Files.{plain_file}
use Rattle.mm_rules.specs.Answer.{plain_refusal}
use Rattle.mm_explain.proofs.LastFaults.{text_told}
use Rattle.mm_explain.proofs.text_fault.text_facts.Goals as goal

pub returns : goal.returns
returns c =
    let r = c.requires in
    text_told c.args.source (map plain_file c.args.files.now) (plain_refusal c.args.refusal.now)
    r.statements r.fault r.reads r.refused c.bytes_of-bytes.result.now c.token_from-token.result.now
    c.new-out.result.items c.push_token.new.out.items c.push_missing.new.out.items
    c.push_origins.new.out.items c.rule_in.result c.rule_in.ensures
    c.bytes_of-bytes.ensures c.token_from-token.ensures c.new-out.ensures.items
    c.in_ok-push_token.ensures c.in_ok-push_missing.ensures
    (c.in_ok-push_origins.ensures r.statements r.fault r.reads r.refused)
