use Rattle.std.proofs.Common.{inl, inr}
use Rattle.mm_base.specs.Token.{plain_token}
use Rattle.mm_text.specs.Mirror.Steps.{plain_scope}
use Rattle.mm_text.proofs.Reader.OneToken.{answers_wrong, answers_inclusion, answers_end}
use Rattle.mm_text.proofs.Reader.OneToken.{answers_nothing}
use Rattle.mm_text.proofs.parts.token_within.Goals as goal

pub returns-in-Wrong : goal.returns-in-Wrong
returns-in-Wrong c part begun named =
    answers_wrong (plain_scope c.args.scope.now) part c.args.cursor.now (plain_token c.in-Token.token) c.in-Wrong.rule c.args.label _
    (rw c.in-Wrong.is at (rw c.in-Token.is at c.next.ensures)).first named c.fault.ensures

pub returns-in-Keyword : goal.returns-in-Keyword
returns-in-Keyword c =
    let taken = rw c.in-Keyword.is at (rw c.in-Token.is at c.next.ensures) in
    record { first = taken.first; text = taken.text; at = taken.at }

pub returns-in-Word : goal.returns-in-Word
returns-in-Word c =
    let taken = rw c.in-Word.is at (rw c.in-Token.is at c.next.ensures) in
    record { first = taken.first; text = taken.text; at = taken.at }

pub returns-in-Inclusion : goal.returns-in-Inclusion
returns-in-Inclusion c part begun named =
    answers_inclusion (plain_scope c.args.scope.now) part c.args.cursor.now c.next.new.self (plain_token c.in-Inclusion.token) (plain_token c.args.first) c.args.label _
    (rw c.in-Inclusion.is at c.next.ensures) begun named c.fault-in-Inclusion.ensures

pub returns-in-End : goal.returns-in-End
returns-in-End c part begun named =
    elim c.in-End.is [
      | inl e ↦ answers_end (plain_scope c.args.scope.now) part c.args.cursor.now c.next.new.self e.0 (plain_token c.args.first) c.args.label _
          (rw e.1 at c.next.ensures) begun named c.fault-in-End.ensures
      | inr e ↦ answers_nothing (plain_scope c.args.scope.now) part c.args.cursor.now (plain_token c.args.first) c.args.label _
          (rw e at c.next.ensures).0 begun named c.fault-in-End.ensures
    ]
