use Rattle.std.proofs.Common.{sym, ◌∙◌}
use Rattle.mm_frame.proofs.tables.Tables.new_wide.Goals as goal
use Rattle.mm_frame.proofs.BookLists.GrownLists.{all_statements}

pub returns : goal.returns
returns c = record {
  index = c.len.ensures ∙ c.args.self.now.log.ok.0 ∙ sym (all_statements c.args.self.now);
  among = c.in_ok-numbers.ensures.among;
  sorted = c.in_ok-numbers.ensures.sorted;
  older = c.active_wide.ensures.within;
  latest = c.active_wide.ensures.latest;
  passed = c.active_wide.ensures.passed;
}
