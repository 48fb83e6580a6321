-- Where what the fault stands in began, by its rule.
use Rattle.std.proofs.Common.{map, sym, ap, ◌∙◌}
use Rattle.std.specs.Prelude.{option_map}
use Rattle.mm_base.specs.Token.{plain_token}
use Rattle.mm_text.specs.Files.{plain_file}
use Rattle.mm_rules.specs.declared.rule.Rule.TheVariants as rules
use Rattle.mm_rules.specs.Answer.{plain_refusal}
use Rattle.mm_explain.proofs.LastFaults.{begin_told, block_told, opened_told}
use Rattle.mm_explain.proofs.text_fault.push_origins.Goals as goal

pub begin_before-requires : goal.begin_before-requires
begin_before-requires c = c.requires.readable

pub returns-in_ok-closed-in-S6 : goal.returns-in_ok-closed-in-S6
returns-in_ok-closed-in-S6 c =
    block_told c.args.source (map plain_file c.args.files.now) (plain_refusal c.args.refusal.now)
    c.args.out.now.items c.push_block.new.out.items c.push_block.result
    (option_map plain_token c.in_ok-closed-in-S6.closed)
    (sym c.rule_in.ensures ∙ ap rules.Text c.in-S6.is)
    c.in_ok-closed-in-S6.ensures
    c.push_block.ensures

pub returns-in_ok-begin-in_default : goal.returns-in_ok-begin-in_default
returns-in_ok-begin-in_default c =
    begin_told c.args.source (map plain_file c.args.files.now) (plain_refusal c.args.refusal.now)
    c.args.out.now.items c.push_begin-in_default.new.out.items c.push_begin-in_default.result
    c.in_ok-begin-in_default.begin
    (λ is. let same = c.rule_in.ensures ∙ is in absurd (c.in_default.not-S6 cc))
    (λ is. let same = c.rule_in.ensures ∙ is in absurd (c.in_default.not-X6 cc))
    c.in_ok-begin-in_default.ensures
    c.push_begin-in_default.ensures

pub open_block-requires : goal.open_block-requires
open_block-requires c = c.requires.readable

pub returns-in_ok-block-in-X6 : goal.returns-in_ok-block-in-X6
returns-in_ok-block-in-X6 c =
    opened_told c.args.source (map plain_file c.args.files.now) (plain_refusal c.args.refusal.now)
    c.args.out.now.items c.push_opened.new.out.items c.push_opened.result
    c.in_ok-begin-in-X6.begin c.in_ok-block-in-X6.block c.push_begin.new.out.items
    (sym c.rule_in.ensures ∙ ap rules.Text c.in-X6.is)
    c.in_ok-begin-in-X6.ensures c.in_ok-block-in-X6.ensures c.in_ok-push_begin-in-X6.ensures
    c.push_opened.ensures
