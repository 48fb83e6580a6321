use Rattle.mm_frame.proofs.Names.LabelNumbers.{numbered_get}
use Rattle.mm_frame.proofs.frame.Frame.expression.Goals as goal

pub returns : goal.returns
returns c =
    let (s, numbered, is) = c.self.invariant in
    rw (← c.self.view_is) record {
      assertion = s;
      there = numbered.there;
      numbered = c.expression.ensures s (numbered_get _ _ _ _ numbered);
    }
