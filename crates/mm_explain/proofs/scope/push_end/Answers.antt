-- One fact, or none.
use Rattle.std.proofs.Common.{map, sym, append-nil}
use Rattle.std.proofs.lemmas.Result.{on_ok_weaker}
use Rattle.mm_base.specs.Token.{plain_token}
use Rattle.mm_text.specs.Files.{plain_file}
use Rattle.mm_facts.specs.Explained.{block_ended_at}
use Rattle.mm_rules.specs.Places.{token_place}
use Rattle.mm_facts.proofs.HaltDetails.{one_told}
use Rattle.mm_explain.proofs.scope.push_end.Goals as goal

pub returns-in-Some : goal.returns-in-Some
returns-in-Some c =
    let fact = block_ended_at (token_place (map plain_file c.args.files.now)
    (plain_token c.in-Some.token)) in
    rw c.in-Some.is
    (on_ok_weaker c.push_block_end.result
    (one_told c.args.out.now.items c.push_block_end.new.out.items fact) c.push_block_end.ensures)

pub returns-in-None : goal.returns-in-None
returns-in-None c = rw c.in-None.is (sym (append-nil c.args.out.now.items))
