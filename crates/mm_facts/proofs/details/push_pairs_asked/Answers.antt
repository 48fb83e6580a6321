-- The step meets its hypotheses, and each member of a mandatory pair is replaced by an entry.
use Rattle.std.proofs.Common.{◌≡◌, ◌+◌, ◌-◌, ◌<◌, ℕ, length, take, arith, rules, refl, sym, subst}
use Rattle.std.proofs.Common.{ap, vec_len, slice_get, Some}
use Rattle.std.specs.List.{AllZip}
use Rattle.std.proofs.lemmas.Result.{on_ok_weaker}
use Rattle.mm_frame.specs.Numbers.{AreNumbers, symbols_of}
use Rattle.mm_frame.specs.declared.distinct.DistinctPair.{DistinctPair}
use Rattle.mm_step.specs.Stores.{entries_in}
use Rattle.mm_proof.proofs.ProofNumbers.NamedAssertions.{assertion_number}
use Rattle.mm_rules.specs.Mirror.Explaining.{named_pairs}
use Rattle.mm_base.proofs.Lists.{contains_from_at}
use Rattle.mm_distinct.proofs.TurnedPairs.{holds_ordered}
use Rattle.mm_facts.specs.Mirror.Explaining.{IsPairWithin, ReplacesBy}
use Rattle.mm_facts.proofs.OrderedPairs.{mandatory_ordered, turned_named, order_named}
use Rattle.std.specs.List.{flat_map}
use Rattle.mm_facts.proofs.HaltDetails.{step_left}
use Rattle.mm_facts.proofs.AskedDetails.{sizes, count_entries}
use Rattle.mm_facts.proofs.PairsAsked.{apart_meets, apart_step}
use Rattle.mm_facts.proofs.details.push_pairs_asked.Goals as goal

pub frame-frame-requires : goal.frame-frame-requires
frame-frame-requires c =
    let st = c.args.book.now.statements in
    let own = c.requires.halt.1 in
    let step = step_left st own.halts.there.left c.args.stop.now.halt.at c.args.label c.requires.place own.halts.place in
    let m = apart_meets c.requires.halt.0 st (take own.index st) own.s own.prefix own.moves c.args.stop.now.halt own.halts c.args.label.0 step c.args.rule c.requires.broken c.requires.apart in
    assertion_number st own.index c.args.label.0 m.index step.label m.assertion m.hypotheses
    c.requires.sound.0 step.numbered m.names

pub overflow_sub-base : goal.overflow_sub-base
overflow_sub-base c =
    let st = c.args.book.now.statements in
    let own = c.requires.halt.1 in
    let step = step_left st own.halts.there.left c.args.stop.now.halt.at c.args.label c.requires.place own.halts.place in
    let m = apart_meets c.requires.halt.0 st (take own.index st) own.s own.prefix own.moves c.args.stop.now.halt own.halts c.args.label.0 step c.args.rule c.requires.broken c.requires.apart in
    let z = sizes c.requires.halt.0 st own.index own.s own.prefix own.moves c.args.stop.now.halt own.halts c.requires.sound.0
    c.args.label.0 c.frame-frame.result c.frame-frame.ensures.book c.frame-frame.ensures.index.0 c.frame-frame.ensures.index.1 c.frame-frame.ensures.index.2
    c.hypotheses.result.now c.hypotheses.ensures.ids step.label step.numbered m in
    let long : vec_len c.args.stop.now.halt.origins ≡ length c.args.stop.now.halt.origins.items = search rules in
    let origins = z.origins in
    omega (arith, c.len.ensures)

pub push_disjoint_pairs-requires-clause-entries : goal.push_disjoint_pairs-requires-clause-entries
push_disjoint_pairs-requires-clause-entries c =
    let st = c.args.book.now.statements in
    let own = c.requires.halt.1 in
    let step = step_left st own.halts.there.left c.args.stop.now.halt.at c.args.label c.requires.place own.halts.place in
    let m = apart_meets c.requires.halt.0 st (take own.index st) own.s own.prefix own.moves c.args.stop.now.halt own.halts c.args.label.0 step c.args.rule c.requires.broken c.requires.apart in
    let z = sizes c.requires.halt.0 st own.index own.s own.prefix own.moves c.args.stop.now.halt own.halts c.requires.sound.0
    c.args.label.0 c.frame-frame.result c.frame-frame.ensures.book c.frame-frame.ensures.index.0 c.frame-frame.ensures.index.1 c.frame-frame.ensures.index.2
    c.hypotheses.result.now c.hypotheses.ensures.ids step.label step.numbered m in
    let long : vec_len c.args.stop.now.halt.origins ≡ length c.args.stop.now.halt.origins.items = search rules in
    let origins = z.origins in
    let es = c.in_ok-entries.entries.items in
    let base : ℕ = c.len.result - length c.hypotheses.result.now in
    let many = count_entries es in
    let sum : base + length c.hypotheses.result.now ≡ length c.args.stop.now.halt.origins.items = omega (arith, c.len.ensures) in
    let count : base + length (entries_in es) ≡ length c.args.stop.now.halt.origins.items = omega (arith, c.in_ok-entries.ensures.count) in
    let scene = apart_step c.requires.halt.0 st own.index own.s own.prefix own.moves c.args.stop.now.halt own.halts c.requires.sound.0 c.args.label.0 c.frame-frame.result
    c.frame-frame.ensures.book c.frame-frame.ensures.index.0 c.frame-frame.ensures.index.1 c.frame-frame.ensures.index.2
    c.hypotheses.result.now c.hypotheses.ensures.ids c.pairs.result.now c.pairs.ensures.variables c.pairs.ensures.indices
    step.label step.numbered m base sum (entries_in es) count c.in_ok-entries.ensures.entries in (
      own.index,
      own.s,
      own.proof,
      m.entries,
      subst (λ ls. AllZip (AreNumbers st) (entries_in ls) m.entries) (sym c.deref.ensures.value) scene.zip,
      scene.declared,
    )

pub push_disjoint_pairs-requires-clause-pairs : goal.push_disjoint_pairs-requires-clause-pairs
push_disjoint_pairs-requires-clause-pairs c = λ i p there.
    let st = c.args.book.now.statements in
    let own = c.requires.halt.1 in
    let step = step_left st own.halts.there.left c.args.stop.now.halt.at c.args.label c.requires.place own.halts.place in
    let m = apart_meets c.requires.halt.0 st (take own.index st) own.s own.prefix own.moves c.args.stop.now.halt own.halts c.args.label.0 step c.args.rule c.requires.broken c.requires.apart in
    let z = sizes c.requires.halt.0 st own.index own.s own.prefix own.moves c.args.stop.now.halt own.halts c.requires.sound.0
    c.args.label.0 c.frame-frame.result c.frame-frame.ensures.book c.frame-frame.ensures.index.0 c.frame-frame.ensures.index.1 c.frame-frame.ensures.index.2
    c.hypotheses.result.now c.hypotheses.ensures.ids step.label step.numbered m in
    let long : vec_len c.args.stop.now.halt.origins ≡ length c.args.stop.now.halt.origins.items = search rules in
    let origins = z.origins in
    let es = c.in_ok-entries.entries.items in
    let base : ℕ = c.len.result - length c.hypotheses.result.now in
    let many = count_entries es in
    let sum : base + length c.hypotheses.result.now ≡ length c.args.stop.now.halt.origins.items = omega (arith, c.len.ensures) in
    let count : base + length (entries_in es) ≡ length c.args.stop.now.halt.origins.items = omega (arith, c.in_ok-entries.ensures.count) in
    let scene = apart_step c.requires.halt.0 st own.index own.s own.prefix own.moves c.args.stop.now.halt own.halts c.requires.sound.0 c.args.label.0 c.frame-frame.result
    c.frame-frame.ensures.book c.frame-frame.ensures.index.0 c.frame-frame.ensures.index.1 c.frame-frame.ensures.index.2
    c.hypotheses.result.now c.hypotheses.ensures.ids c.pairs.result.now c.pairs.ensures.variables c.pairs.ensures.indices
    step.label step.numbered m base sum (entries_in es) count c.in_ok-entries.ensures.entries in
    let lent : length c.deref.result.now ≡ length es = ap length c.deref.ensures.value in
    let size : length c.hypotheses.result.now ≡ length c.deref.result.now = omega arith in
    subst (λ (n : ℕ). IsPairWithin st n p) size (scene.within i p there)

pub push_disjoint_pairs-requires-clause-different : goal.push_disjoint_pairs-requires-clause-different
push_disjoint_pairs-requires-clause-different c = c.pairs.ensures.variables.once

pub returns : goal.returns
returns c =
    on_ok_weaker c.push_disjoint_pairs.result
    (λ added limit index s prefix moves number h.
    let st = c.args.book.now.statements in
    let step = step_left st h.there.left c.args.stop.now.halt.at c.args.label c.requires.place h.place in
    let m = apart_meets limit st (take index st) s prefix moves c.args.stop.now.halt h c.args.label.0 step c.args.rule c.requires.broken c.requires.apart in
    let z = sizes limit st index s prefix moves c.args.stop.now.halt h c.requires.sound.0
    c.args.label.0 c.frame-frame.result c.frame-frame.ensures.book c.frame-frame.ensures.index.0 c.frame-frame.ensures.index.1 c.frame-frame.ensures.index.2
    c.hypotheses.result.now c.hypotheses.ensures.ids step.label step.numbered m in
    let long : vec_len c.args.stop.now.halt.origins ≡ length c.args.stop.now.halt.origins.items = search rules in
    let origins = z.origins in
    let es = c.in_ok-entries.entries.items in
    let base : ℕ = c.len.result - length c.hypotheses.result.now in
    let many = count_entries es in
    let sum : base + length c.hypotheses.result.now ≡ length c.args.stop.now.halt.origins.items = omega (arith, c.len.ensures) in
    let count : base + length (entries_in es) ≡ length c.args.stop.now.halt.origins.items = omega (arith, c.in_ok-entries.ensures.count) in
    let scene = apart_step limit st index s prefix moves c.args.stop.now.halt h c.requires.sound.0 c.args.label.0 c.frame-frame.result
    c.frame-frame.ensures.book c.frame-frame.ensures.index.0 c.frame-frame.ensures.index.1 c.frame-frame.ensures.index.2
    c.hypotheses.result.now c.hypotheses.ensures.ids c.pairs.result.now c.pairs.ensures.variables c.pairs.ensures.indices
    step.label step.numbered m base sum (entries_in es) count c.in_ok-entries.ensures.entries in
    let zip = subst (λ ls. AllZip (AreNumbers st) (entries_in ls) m.entries) (sym c.deref.ensures.value) scene.zip in
    let ordered = added.0 in
    let symbols : (i : ℕ) (p : DistinctPair) → slice_get c.pairs.result.now i ≡ Some p
    → (p.variables.0.0 < length (symbols_of st)) × (p.variables.1.0 < length (symbols_of st)) =
    λ i p there. let w = scene.within i p there in (w.x, w.y) in
    let replaced : (i : ℕ) (p : DistinctPair) → slice_get ordered i ≡ Some p
    → ReplacesBy st m.σ m.entries p.variables.0.0 p.indices.0
    × ReplacesBy st m.σ m.entries p.variables.1.0 p.indices.1 = λ i p there.
    holds_ordered c.pairs.result.now ordered added.1
    (λ q. ReplacesBy st m.σ m.entries q.variables.0.0 q.indices.0
    × ReplacesBy st m.σ m.entries q.variables.1.0 q.indices.1)
    (λ j q at. let r = scene.replaced j q at in (r, (r.1, r.0))) p
    (contains_from_at ordered p (i, there)) in
    let told = added.2 index s number m.entries zip scene.declared m.σ replaced in (
      flat_map (λ own. own) told.0,
      (
        step.label,
        step.more,
        step.first,
        record {
          met = m;
          pairs = named_pairs st ordered;
          mandatory = mandatory_ordered st index m.index m.assertion c.pairs.result.now ordered
              added.1 scene.mandatory symbols;
          turned = turned_named st index m.index m.assertion c.pairs.result.now ordered
              added.1 scene.mandatory symbols;
          in_order = order_named st index m.index m.assertion c.pairs.result.now ordered
              added.1 scene.mandatory symbols;
          told = told.0;
          each = told.1;
          all = refl;
        },
      ),
      told.2,
    ))
    c.push_disjoint_pairs.ensures
