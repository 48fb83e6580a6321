-- The line on the order of the words is written in parts.
use Rattle.std.proofs.Common.{◌≡◌, List, ℕ, ◌++◌, Bor, Option, Some, Bool, true, codes, option_map}
use Rattle.mm_serve.specs.Ending.{looks_like_file, order_line}
use Rattle.mm_serve.proofs.AnsweredWords.{beginning_both, breaks_before, breaks_both, on_failure}
use Rattle.mm_serve.proofs.AnsweredWords.{all_both, takes_both}
use Rattle.mm_serve.proofs.unread.tell_order.Goals as goal

-- its first part
abbrev begin_of : List ℕ → List ℕ
begin_of label = codes "mm: " ++ label ++ codes " was taken for the label, and "

abbrev end_of_line : List ℕ
end_of_line = codes " for a file: the label comes first\n"

-- Where the label looks like a file's name, that is the line.
order_is : (name : List ℕ) (label : Option (Bor (List ℕ))) (given : Bor (List ℕ)) (looks : Bool)
    → label ≡ Some given → looks ≡ looks_like_file given.now → looks ≡ true
    → order_line name (option_map (λ l. l.now) label) ≡ begin_of given.now ++ name ++ end_of_line
order_is name label given looks is same looked = rw (is, ← same, looked)

pub returns-in_err-say_all-in-Some-clause-beginning :
    goal.returns-in_err-say_all-in-Some-clause-beginning
returns-in_err-say_all-in-Some-clause-beginning g c =
    let first : List ℕ = begin_of c.in-Some.label.now in
    on_failure c.from_residual.result (rw
    (order_is c.args.name.now _ _ _ c.in-Some.is c.is_file_name.ensures c.if-is_file_name.true)
    (breaks_before g.E.Write.contents (first ++ c.args.name.now) end_of_line _ _
    (breaks_before g.E.Write.contents first c.args.name.now _ _
    c.in_err-say_all-in-Some.ensures.beginning)))

pub returns-in_err-say_text-in-Some-clause-beginning :
    goal.returns-in_err-say_text-in-Some-clause-beginning
returns-in_err-say_text-in-Some-clause-beginning g c =
    let first : List ℕ = begin_of c.in-Some.label.now in
    on_failure c.from_residual-in_err-say_text-in-Some.result (rw
    (order_is c.args.name.now _ _ _ c.in-Some.is c.is_file_name.ensures c.if-is_file_name.true)
    (breaks_before g.E.Write.contents (first ++ c.args.name.now) end_of_line _ _
    (breaks_both g.E.Write.contents first c.args.name.now _ c.say_all.new.err _
    c.in_ok-say_all-in-Some.ensures.all c.in_err-say_text-in-Some.ensures.beginning)))

pub returns-in_ok-say_text-in-Some-clause-all : goal.returns-in_ok-say_text-in-Some-clause-all
returns-in_ok-say_text-in-Some-clause-all g c =
    let first : List ℕ = begin_of c.in-Some.label.now in
    rw (order_is c.args.name.now _ _ _ c.in-Some.is c.is_file_name.ensures c.if-is_file_name.true)
    (all_both g.E.Write.contents (first ++ c.args.name.now) end_of_line
    c.say_text-in-Some.result _ c.say_text.new.err _
    (takes_both g.E.Write.contents first c.args.name.now _ c.say_all.new.err _
    c.in_ok-say_all-in-Some.ensures.all c.in_ok-say_text-in-Some.ensures.all)
    c.say_text-in-Some.ensures.all)

pub returns-in_ok-say_text-in-Some-clause-beginning :
    goal.returns-in_ok-say_text-in-Some-clause-beginning
returns-in_ok-say_text-in-Some-clause-beginning g c =
    let first : List ℕ = begin_of c.in-Some.label.now in
    rw (order_is c.args.name.now _ _ _ c.in-Some.is c.is_file_name.ensures c.if-is_file_name.true)
    (beginning_both g.E.Write.contents (first ++ c.args.name.now) end_of_line
    c.say_text-in-Some.result _ c.say_text.new.err _
    (takes_both g.E.Write.contents first c.args.name.now _ c.say_all.new.err _
    c.in_ok-say_all-in-Some.ensures.all c.in_ok-say_text-in-Some.ensures.all)
    c.say_text-in-Some.ensures.beginning)
