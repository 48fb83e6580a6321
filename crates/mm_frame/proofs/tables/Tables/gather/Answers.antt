use Rattle.std.proofs.Common.{◌≡◌, ◌+◌, ◌++◌, [], ◌∷◌, length, get_or, ap, sym, subst, ◌∙◌, arith}
use Rattle.std.proofs.lemmas.Option.{slice_get-get_or}
use Rattle.mm_frame.specs.declared.number.Sym.{Sym}
use Rattle.mm_frame.specs.Mirror.Layout.{statements_of}
use Rattle.mm_frame.specs.Mirror.Separated.{ArePaired}
use Rattle.mm_frame.proofs.DistinctPairs.AddedPairs.{is_old, is_fresh, paired_pass, paired_push}
use Rattle.mm_frame.proofs.DistinctPairs.AddedPairs.{paired_row}
use Rattle.mm_frame.proofs.tables.Tables.gather.Goals as goal
use Rattle.mm_frame.proofs.tables.Tables.gather.Goals.{then-not-is_distinct+in_ok-push, else-not-is_distinct}
use Rattle.mm_frame.proofs.BookLists.GrownLists.{all_statements}

pub loop-j-preserved : goal.loop-j-preserved
loop-j-preserved c =
    let t = c.args.self.now in
    let st = statements_of t in
    let members = c.args.members.now in
    let i = c.args.i in
    let j = c.loop-j.j in
    let so_far = c.loop-j.pairs.items in
    let a : Sym = get_or members j (record { 0 = 0 }) in
    let b : Sym = get_or members i (record { 0 = 0 }) in
    let at_j = slice_get-get_or members j (record { 0 = 0 }) (omega arith) in
    let at_i = slice_get-get_or members i (record { 0 = 0 }) c.requires.within in
    let all : c.len.result ≡ length st = c.len.ensures ∙ t.log.ok.0 ∙ sym (all_statements t) in
    elim c.if-not-is_distinct.branch [
      | then-not-is_distinct+in_ok-push w ↦
          let fresh = is_fresh st b.0 a.0 c.len.result c.is_distinct.result all c.is_distinct.ensures w.if-not-is_distinct.true in
          let pushed = ap (λ p. p.items) w.pairs-is ∙ w.in_ok-push.ensures.items ∙ ap (λ p. so_far ++ p ∷ []) w.in_order.ensures in
          subst (ArePaired st members i (j + 1)) (sym pushed) (paired_push at_j at_i
          c.loop-j.invariant c.loop-j-test.true fresh)
      | else-not-is_distinct w ↦
          let old = is_old st b.0 a.0 c.len.result c.is_distinct.result all c.is_distinct.ensures w.if-not-is_distinct.false in
          let same = ap (λ p. p.items) w.pairs-is in
          subst (ArePaired st members i (j + 1)) (sym same) (paired_pass at_j at_i
          c.loop-j.invariant old)
    ]

pub returns : goal.returns
returns c =
    let end : c.loop-j.j ≡ c.args.i = omega (arith, c.loop-j.auto.j-end) in
    paired_row _ _ _ _ (rw end at c.loop-j.invariant)

pub is_distinct-requires-clause-within : goal.is_distinct-requires-clause-within
is_distinct-requires-clause-within c = omega (arith, all_statements c.args.self.now)
