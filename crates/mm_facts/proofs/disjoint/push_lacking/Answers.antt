-- The pair is told where some pair is missing, and behind it each that is.
use Rattle.std.proofs.Common.{◌≡◌, ◌∷◌, [], sym, subst, ◌∙◌, List, length, map, take, append-nil, arith, vec_len, rules}
use Rattle.std.proofs.lemmas.Result.{on_ok_weaker}
use Rattle.mm_frame.specs.Numbers.{symbols_of}
use Rattle.mm_frame.specs.declared.number.Sym.{Sym}
use Rattle.mm_proof.specs.Asked.{AreDeclared}
use Rattle.mm_step.specs.Mirror.CodeVerify.{name_at}
use Rattle.mm_step.specs.Stores.{numbers_in}
use Rattle.mm_step.specs.Substitution.{Symbol}
use Rattle.mm_facts.specs.Explained.{Detail, pair_asked, step_lacks}
use Rattle.mm_facts.specs.Mirror.Explaining.{AreNamedPairs}
use Rattle.mm_facts.proofs.AskedDetails.{of_own}
use Rattle.mm_rules.proofs.Numbers.{numbers_within}
use Rattle.mm_facts.proofs.HaltDetails.{one_told}
use Rattle.mm_facts.proofs.LackingDetails.{as_many_pairs, both_told}
use Rattle.mm_facts.proofs.DisjointDetails.{none_in, some_in, told_none, told_some, pair_told}
use Rattle.mm_facts.proofs.disjoint.push_lacking.Goals as goal

pub returns-then-is_empty : goal.returns-then-is_empty
returns-then-is_empty c = λ index s proof x y are_x are_y in_x in_y.
    let st = c.args.book.now.statements in
    let items = c.in_ok-missing.missing.items in
    let found = c.in_ok-missing.ensures.missing index s proof x y are_x are_y in_x in_y in
    let long : vec_len c.in_ok-missing.missing ≡ length items = search rules in
    let none : length items ≡ 0 = sym long ∙ none_in (vec_len c.in_ok-missing.missing) c.if-is_empty.ensures in
    let count = as_many_pairs st items found.0 (found.1, found.2) in
    let lacked : List Detail = map (λ (p : Symbol × Symbol). step_lacks p.0 p.1) found.0 in
    let told = told_none found.0 (pair_asked (name_at st c.args.variables.0.0) (name_at st c.args.variables.1.0) x y ∷ lacked) (omega arith) in
    ([], (found.0, found.3, sym told), sym (append-nil c.args.out.now.items))

pub push_pair-requires-clause-first : goal.push_pair-requires-clause-first
push_pair-requires-clause-first c =
    let r = c.requires.first in
    numbers_within (symbols_of c.args.book.now.statements) (numbers_in c.args.e.now) r.3 r.4

pub push_pair-requires-clause-second : goal.push_pair-requires-clause-second
push_pair-requires-clause-second c =
    let r = c.requires.second in
    numbers_within (symbols_of c.args.book.now.statements) (numbers_in c.args.f.now) r.3 r.4

pub push_lacked-requires : goal.push_lacked-requires
push_lacked-requires c =
    let st = c.args.book.now.statements in
    let r = c.requires.first in
    let q = c.requires.second in
    let declared = of_own st c.args.id.0 q.0 q.1 q.2 (λ i s. AreDeclared (take i st) q.3) q.5 r.0 r.1 r.2 in
    let found = c.in_ok-missing.ensures.missing r.0 r.1 r.2 r.3 q.3 r.4 q.4 r.5 declared in
    (found.0, subst (λ (ps : List (Sym × Sym)). AreNamedPairs st ps found.0) (sym c.deref.ensures.value) (found.1, found.2))

pub returns : goal.returns
returns c =
    let st = c.args.book.now.statements in
    let items = c.in_ok-missing.missing.items in
    on_ok_weaker c.push_lacked.result
    (λ added index s proof x y are_x are_y in_x in_y.
    let found = c.in_ok-missing.ensures.missing index s proof x y are_x are_y in_x in_y in
    let count = as_many_pairs st items found.0 (found.1, found.2) in
    let named = subst (λ (ps : List (Sym × Sym)). AreNamedPairs st ps found.0) (sym c.deref.ensures.value) (found.1, found.2) in
    let d : Detail = pair_asked (name_at st c.args.variables.0.0) (name_at st c.args.variables.1.0) x y in
    let lacked : List Detail = map (λ (p : Symbol × Symbol). step_lacks p.0 p.1) found.0 in
    let told = told_some found.0 (d ∷ lacked) (let long : vec_len c.in_ok-missing.missing ≡ length items = search rules in λ none. some_in (vec_len c.in_ok-missing.missing) c.if-is_empty.ensures (omega arith)) in (
      d ∷ lacked,
      (found.0, found.3, sym told),
      both_told (d ∷ []) lacked c.args.out.now.items c.push_pair.new.out.items c.push_lacked.new.out.items
          (one_told c.args.out.now.items c.push_pair.new.out.items d
          (pair_told st c.name.result.now c.name-2.result.now c.args.variables.0.0 c.args.variables.1.0 (numbers_in c.args.e.now) (numbers_in c.args.f.now) x y
          c.args.out.now.items c.push_pair.new.out.items c.name.ensures c.name-2.ensures are_x are_y c.in_ok-push_pair.ensures))
          (added found.0 named),
    ))
    c.push_lacked.ensures
