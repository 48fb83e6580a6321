-- What is said of the theorem is whether it is marked.
use Rattle.mm_minimize.proofs.shortening.Shortening.is_settled.Goals as goal

pub returns : goal.returns
returns c = λ statements index s reads at.
    let said = c.remark-remark.ensures statements index s reads at in
    said.settled
