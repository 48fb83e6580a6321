-- One label more is the best, or not.
use Rattle.std.proofs.Common.{◌≡◌, ◌+◌, ◌-◌, ℕ, List, [], get_or, take, sym, subst, arith}
use denote.Ref.{Bor}
use Rattle.std.proofs.lemmas.List.{map_more, take_all}
use Rattle.mm_code.specs.Layout.{texts}
use Rattle.mm_groups.specs.Shared.{IsRarest}
use Rattle.mm_groups.proofs.RarestLabels.{IsBest, best_in_end, best_more, best_of_none, best_same}
use Rattle.mm_groups.proofs.RarestLabels.{listed_at}
use Rattle.mm_groups.proofs.rarest.most_left.Goals as goal

pub loop-label-init : goal.loop-label-init
loop-label-init c = λ limit count has. best_of_none limit count

pub loop-label-preserved-then-own-most : goal.loop-label-preserved-then-own-most
loop-label-preserved-then-own-most c = λ limit count has.
    let labels = c.args.labels.now in
    let i = c.loop-label.label-index in
    subst (λ (ls : List (List ℕ)). IsBest limit count ls c.loop-label.best c.loop-label.most)
    (sym (map_more (λ (l : Bor (List ℕ)). l.now) labels i _ c.loop-label-test.true))
    (best_same limit count (texts (take i labels)) _ _
    (c.left_of-own.ensures _ (has (record { ref_ptr = (0, 0); now = _ }) (listed_at labels i _ c.loop-label-test.true))) c.loop-label.best
    c.loop-label.most (omega (arith, c.if-own-most.true)) (c.loop-label.invariant limit count has))

pub loop-label-preserved : goal.loop-label-preserved
loop-label-preserved c = λ limit count has.
    let labels = c.args.labels.now in
    let i = c.loop-label.label-index in
    let none : Bor (List ℕ) = record { ref_ptr = (0, 0); now = [] } in
    let own : List ℕ = (get_or labels i none).now in
    let key : Bor (List ℕ) = record { ref_ptr = (0, 0); now = own } in
    let is : c.left_of-own.result ≡ limit - count own =
    c.left_of-own.ensures _ (has key (listed_at labels i none c.loop-label-test.true)) in
    let rarest : IsRarest limit count (texts (take (i + 1) labels)) own =
    subst (λ (ls : List (List ℕ)). IsRarest limit count ls own)
    (sym (map_more (λ (l : Bor (List ℕ)). l.now) labels i none c.loop-label-test.true))
    (best_more limit count (texts (take i labels)) own c.left_of-own.result is c.loop-label.best
    c.loop-label.most (omega (arith, c.if-own-most.false)) (c.loop-label.invariant limit count has))
    in (is, rarest)

pub returns : goal.returns
returns c = λ limit count has.
    best_in_end limit count (texts c.args.labels.now) c.loop-label.best c.loop-label.most
    (subst (λ (ls : List (Bor (List ℕ))). IsBest limit count (texts ls) c.loop-label.best
    c.loop-label.most)
    (take_all c.loop-label.label-index c.args.labels.now c.loop-label-test.false)
    (c.loop-label.invariant limit count has))
