-- By the sentence and the proof.
use Rattle.mm_base.specs.Statement.{plain_statement}
use Rattle.mm_with_lemmas.proofs.SaidAlike.{same_said}
use Rattle.mm_with_lemmas.proofs.said.are_the_same.Goals as goal

pub returns : goal.returns
returns c = λ t.
    same_said (plain_statement c.args.statement.now) (plain_statement c.args.other.now)
    (c.say_the_same.ensures c.if-not-say_the_same.false) (c.have_one_proof.ensures t)
