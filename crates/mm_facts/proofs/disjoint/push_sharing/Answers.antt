-- The pair is told where some variable is shared.
use Rattle.std.proofs.Common.{◌≡◌, ◌∷◌, [], sym, subst, ◌∙◌, List, length, append-nil, arith, vec_len, rules}
use Rattle.std.proofs.lemmas.Result.{on_ok_weaker}
use Rattle.std.proofs.Common.{◌<◌}
use Rattle.std.specs.List.{AllByRecursion}
use Rattle.mm_frame.specs.Numbers.{symbols_of, AreNumbers}
use Rattle.mm_step.specs.Mirror.CodeVerify.{name_at}
use Rattle.mm_step.specs.Stores.{numbers_in}
use Rattle.mm_facts.specs.Explained.{Detail, pair_asked, shared_by_both}
use Rattle.mm_rules.proofs.Numbers.{numbers_within}
use Rattle.mm_facts.proofs.DetailTexts.{count_numbers}
use Rattle.mm_facts.proofs.DisjointDetails.{none_in, some_in, told_none, told_some, number_count, pair_told, shared_told}
use Rattle.mm_facts.proofs.disjoint.push_sharing.Goals as goal

pub returns-then-is_empty : goal.returns-then-is_empty
returns-then-is_empty c = λ index s proof x y are_x are_y in_x in_y.
    let st = c.args.book.now.statements in
    let items = c.in_ok-shared.shared.items in
    let found = c.in_ok-shared.ensures.shared index s proof x y are_x are_y in_x in
    let long : vec_len c.in_ok-shared.shared ≡ length items = search rules in
    let none : length items ≡ 0 = sym long ∙ none_in (vec_len c.in_ok-shared.shared) c.if-is_empty.ensures in
    let many = count_numbers items in
    let count = number_count st (numbers_in items) found.0 found.1 in
    let told = told_none found.0 (pair_asked (name_at st c.args.variables.0.0) (name_at st c.args.variables.1.0) x y ∷ shared_by_both found.0 ∷ []) (omega arith) in
    ([], (found.0, found.2, sym told), sym (append-nil c.args.out.now.items))

pub push_pair-requires-clause-first : goal.push_pair-requires-clause-first
push_pair-requires-clause-first c =
    let r = c.requires.first in
    numbers_within (symbols_of c.args.book.now.statements) (numbers_in c.args.e.now) r.3 r.4

pub push_pair-requires-clause-second : goal.push_pair-requires-clause-second
push_pair-requires-clause-second c =
    let r = c.requires.second in
    numbers_within (symbols_of c.args.book.now.statements) (numbers_in c.args.f.now) r.3 r.4

pub push_shared-requires : goal.push_shared-requires
push_shared-requires c =
    let st = c.args.book.now.statements in
    let r = c.requires.first in
    let q = c.requires.second in
    let found = c.in_ok-shared.ensures.shared r.0 r.1 r.2 r.3 q.3 r.4 q.4 r.5 in
    subst (λ ls. AllByRecursion (λ n. n < length (symbols_of st)) (numbers_in ls)) (sym c.deref.ensures.value)
    (numbers_within (symbols_of st) (numbers_in c.in_ok-shared.shared.items) found.0 found.1)

pub returns : goal.returns
returns c =
    let st = c.args.book.now.statements in
    let items = c.in_ok-shared.shared.items in
    on_ok_weaker c.push_shared.result
    (λ added index s proof x y are_x are_y in_x in_y.
    let found = c.in_ok-shared.ensures.shared index s proof x y are_x are_y in_x in
    let many = count_numbers items in
    let count = number_count st (numbers_in items) found.0 found.1 in
    let d : Detail = pair_asked (name_at st c.args.variables.0.0) (name_at st c.args.variables.1.0) x y in
    let ds : List Detail = d ∷ shared_by_both found.0 ∷ [] in
    let told = told_some found.0 ds (let long : vec_len c.in_ok-shared.shared ≡ length items = search rules in λ none. some_in (vec_len c.in_ok-shared.shared) c.if-is_empty.ensures (omega arith)) in
    let are = subst (λ ls. AreNumbers st (numbers_in ls) found.0) (sym c.deref.ensures.value) found.1 in (
      ds,
      (found.0, found.2, sym told),
      shared_told st (numbers_in c.deref.result.now) found.0 d c.args.out.now.items c.push_pair.new.out.items c.push_shared.new.out.items are
          (pair_told st c.name.result.now c.name-2.result.now c.args.variables.0.0 c.args.variables.1.0 (numbers_in c.args.e.now) (numbers_in c.args.f.now) x y
          c.args.out.now.items c.push_pair.new.out.items c.name.ensures c.name-2.ensures are_x are_y c.in_ok-push_pair.ensures) added,
    ))
    c.push_shared.ensures
