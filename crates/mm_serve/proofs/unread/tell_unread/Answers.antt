-- The lines are written one after the other.
use Rattle.std.proofs.Common.{List, ℕ, ◌++◌, codes, option_map}
use Rattle.mm_serve.specs.Ending.{input_line, order_line}
use Rattle.mm_serve.proofs.AnsweredWords.{all_both, beginning_both, breaks_before, breaks_both}
use Rattle.mm_serve.proofs.AnsweredWords.{on_failure, takes_both}
use Rattle.mm_serve.proofs.unread.tell_unread.Goals as goal

-- the first of the lines
abbrev line_on : List ℕ → List ℕ
line_on name = codes "mm: cannot read " ++ name ++ codes "\n"

pub returns-in_err-say_all-clause-beginning : goal.returns-in_err-say_all-clause-beginning
returns-in_err-say_all-clause-beginning g c =
    let name : List ℕ = c.args.name.now in
    on_failure c.from_residual.result
    (breaks_before g.E.Write.contents (line_on name ++ input_line name)
    (order_line name (option_map (λ l. l.now) c.args.label)) _ _
    (breaks_before g.E.Write.contents (line_on name) (input_line name) _ _
    c.in_err-say_all.ensures.beginning))

pub returns-in_err-say_text-clause-beginning : goal.returns-in_err-say_text-clause-beginning
returns-in_err-say_text-clause-beginning g c =
    let name : List ℕ = c.args.name.now in
    on_failure c.from_residual-in_err-say_text.result
    (breaks_before g.E.Write.contents (line_on name ++ input_line name)
    (order_line name (option_map (λ l. l.now) c.args.label)) _ _
    (breaks_both g.E.Write.contents (line_on name) (input_line name) _ c.say_all.new.err _
    c.in_ok-say_all.ensures.all
    (rw c.input_hint.ensures at c.in_err-say_text.ensures.beginning)))

pub returns-clause-all : goal.returns-clause-all
returns-clause-all g c =
    let name : List ℕ = c.args.name.now in
    all_both g.E.Write.contents (line_on name ++ input_line name)
    (order_line name (option_map (λ l. l.now) c.args.label)) c.tell_order.result _
    c.say_text.new.err _
    (takes_both g.E.Write.contents (line_on name) (input_line name) _ c.say_all.new.err _
    c.in_ok-say_all.ensures.all (rw c.input_hint.ensures at c.in_ok-say_text.ensures.all))
    c.tell_order.ensures.all

pub returns-clause-beginning : goal.returns-clause-beginning
returns-clause-beginning g c =
    let name : List ℕ = c.args.name.now in
    beginning_both g.E.Write.contents (line_on name ++ input_line name)
    (order_line name (option_map (λ l. l.now) c.args.label)) c.tell_order.result _
    c.say_text.new.err _
    (takes_both g.E.Write.contents (line_on name) (input_line name) _ c.say_all.new.err _
    c.in_ok-say_all.ensures.all (rw c.input_hint.ensures at c.in_ok-say_text.ensures.all))
    c.tell_order.ensures.beginning
