-- The step meets its hypotheses, which are those of its frame, and has an entry for each.
use Rattle.std.proofs.Common.{◌≡◌, ◌<◌, ◌≤◌, ◌+◌, ◌-◌, ℕ, Some, length, slice_get, take}
use Rattle.std.proofs.Common.{arith, rules, refl, sym, subst, ap, vec_len, inr}
use Rattle.std.specs.Prelude.{filter}
use Rattle.std.specs.List.{AllZip, AllByRecursion}
use Rattle.mm_base.proofs.Lists.{zip_left}
use Rattle.mm_frame.specs.Numbers.{symbols_of, AreNumbers}
use Rattle.mm_step.specs.Stores.{entries_in, numbers_in}
use Rattle.mm_proof.proofs.ProofNumbers.NamedAssertions.{assertion_number}
use Rattle.mm_rules.proofs.Numbers.{numbers_within}
use Rattle.mm_facts.specs.Mirror.Explaining.{is_told, told_steps}
use Rattle.mm_facts.proofs.HaltDetails.{step_left, hypothesis_there, step_there}
use Rattle.mm_facts.proofs.AskedDetails.{one_asked, entries_zip, asked_meets, met_halt, sizes, get_entry, count_entries, of_own, so_far_all}
use Rattle.mm_facts.proofs.details.push_asked.Goals as goal

pub frame-requires : goal.frame-requires
frame-requires c =
    let own = c.requires.halt.1 in
    let met = met_halt c.requires.halt.0 c.args.book.now.statements c.args.id.0 c.args.stop.now.halt
    c.args.label own c.requires.place (inr c.requires.rule) in
    assertion_number c.args.book.now.statements own.index c.args.label.0 met.m.index met.step.label met.m.assertion met.m.hypotheses
    c.requires.sound.0 met.step.numbered met.m.names

pub overflow_sub-base : goal.overflow_sub-base
overflow_sub-base c =
    let own = c.requires.halt.1 in
    let met = met_halt c.requires.halt.0 c.args.book.now.statements c.args.id.0 c.args.stop.now.halt
    c.args.label own c.requires.place (inr c.requires.rule) in
    let z = sizes c.requires.halt.0 c.args.book.now.statements own.index own.s own.prefix own.moves c.args.stop.now.halt own.halts c.requires.sound.0
    c.args.label.0 c.frame.result c.frame.ensures.book c.frame.ensures.index.0 c.frame.ensures.index.1 c.frame.ensures.index.2
    c.hypotheses-hypotheses.result.now c.hypotheses-hypotheses.ensures.ids met.step.label met.step.numbered met.m in
    let long : vec_len c.args.stop.now.halt.origins ≡ length c.args.stop.now.halt.origins.items = search rules in
    let origins = z.origins in
    omega (arith, c.len.ensures)

pub asked_by-requires-clause-step : goal.asked_by-requires-clause-step
asked_by-requires-clause-step c =
    let own = c.requires.halt.1 in
    let met = met_halt c.requires.halt.0 c.args.book.now.statements c.args.id.0 c.args.stop.now.halt
    c.args.label own c.requires.place (inr c.requires.rule) in
    let z = sizes c.requires.halt.0 c.args.book.now.statements own.index own.s own.prefix own.moves c.args.stop.now.halt own.halts c.requires.sound.0
    c.args.label.0 c.frame.result c.frame.ensures.book c.frame.ensures.index.0 c.frame.ensures.index.1 c.frame.ensures.index.2
    c.hypotheses-hypotheses.result.now c.hypotheses-hypotheses.ensures.ids met.step.label met.step.numbered met.m in
    let long : vec_len c.args.stop.now.halt.origins ≡ length c.args.stop.now.halt.origins.items = search rules in
    let origins = z.origins in
    let many = z.hypotheses in
    let lent : length c.deref.result.now ≡ length c.in_ok-entries.entries.items = ap length c.deref.ensures.value in
    let count : length met.m.hypotheses ≡ length c.deref.result.now = omega (arith, c.len.ensures, c.in_ok-entries.ensures.count) in
    of_own c.args.book.now.statements c.args.id.0 own.index own.s own.proof _
    (met.step.label, met.step.numbered, met.m.index, met.m.assertion, met.m.hypotheses, met.m.names, count)

pub asked_by-requires-clause-number : goal.asked_by-requires-clause-number
asked_by-requires-clause-number c =
    let own = c.requires.halt.1 in
    let met = met_halt c.requires.halt.0 c.args.book.now.statements c.args.id.0 c.args.stop.now.halt
    c.args.label own c.requires.place (inr c.requires.rule) in
    let z = sizes c.requires.halt.0 c.args.book.now.statements own.index own.s own.prefix own.moves c.args.stop.now.halt own.halts c.requires.sound.0
    c.args.label.0 c.frame.result c.frame.ensures.book c.frame.ensures.index.0 c.frame.ensures.index.1 c.frame.ensures.index.2
    c.hypotheses-hypotheses.result.now c.hypotheses-hypotheses.ensures.ids met.step.label met.step.numbered met.m in
    let long : vec_len c.args.stop.now.halt.origins ≡ length c.args.stop.now.halt.origins.items = search rules in
    let origins = z.origins in
    let lent : length c.deref.result.now ≡ length c.in_ok-entries.entries.items = ap length c.deref.ensures.value in
    omega (arith, c.len.ensures, c.in_ok-entries.ensures.count)

pub index-requires : goal.index-requires
index-requires c =
    let own = c.requires.halt.1 in
    let met = met_halt c.requires.halt.0 c.args.book.now.statements c.args.id.0 c.args.stop.now.halt
    c.args.label own c.requires.place (inr c.requires.rule) in
    let z = sizes c.requires.halt.0 c.args.book.now.statements own.index own.s own.prefix own.moves c.args.stop.now.halt own.halts c.requires.sound.0
    c.args.label.0 c.frame.result c.frame.ensures.book c.frame.ensures.index.0 c.frame.ensures.index.1 c.frame.ensures.index.2
    c.hypotheses-hypotheses.result.now c.hypotheses-hypotheses.ensures.ids met.step.label met.step.numbered met.m in
    let long : vec_len c.args.stop.now.halt.origins ≡ length c.args.stop.now.halt.origins.items = search rules in
    let origins = z.origins in
    let test : c.loop-index.index < length c.hypotheses-hypotheses.result.now = c.loop-index-test.true in
    let full : vec_len c.args.stop.now.texts ≡ length c.args.stop.now.texts.items = search rules in
    let each = c.args.stop.now.each in
    omega (arith, c.len.ensures)

pub index-requires-in-loop-index : goal.index-requires-in-loop-index
index-requires-in-loop-index c =
    let st = c.args.book.now.statements in
    let own = c.requires.halt.1 in
    let met = met_halt c.requires.halt.0 st c.args.id.0 c.args.stop.now.halt c.args.label own
    c.requires.place (inr c.requires.rule) in
    let index = own.index in
    let h = own.halts in
    let m = met.m in
    let z = sizes c.requires.halt.0 st index own.s own.prefix own.moves c.args.stop.now.halt h c.requires.sound.0
    c.args.label.0 c.frame.result c.frame.ensures.book c.frame.ensures.index.0 c.frame.ensures.index.1 c.frame.ensures.index.2
    c.hypotheses-hypotheses.result.now c.hypotheses-hypotheses.ensures.ids met.step.label met.step.numbered m in
    let long : vec_len c.args.stop.now.halt.origins ≡ length c.args.stop.now.halt.origins.items = search rules in
    let origins = z.origins in
    let full : vec_len c.in_ok-entries.entries ≡ length c.in_ok-entries.entries.items = search rules in
    let test : c.loop-index.index < length c.hypotheses-hypotheses.result.now = c.loop-index-test.true in
    omega (arith, c.len.ensures, c.in_ok-entries.ensures.count)

pub push_asks_where-requires-clause-asked : goal.push_asks_where-requires-clause-asked
push_asks_where-requires-clause-asked c =
    let st = c.args.book.now.statements in
    let own = c.requires.halt.1 in
    let met = met_halt c.requires.halt.0 st c.args.id.0 c.args.stop.now.halt c.args.label own
    c.requires.place (inr c.requires.rule) in
    let index = own.index in
    let h = own.halts in
    let m = met.m in
    let z = sizes c.requires.halt.0 st index own.s own.prefix own.moves c.args.stop.now.halt h c.requires.sound.0
    c.args.label.0 c.frame.result c.frame.ensures.book c.frame.ensures.index.0 c.frame.ensures.index.1 c.frame.ensures.index.2
    c.hypotheses-hypotheses.result.now c.hypotheses-hypotheses.ensures.ids met.step.label met.step.numbered m in
    let long : vec_len c.args.stop.now.halt.origins ≡ length c.args.stop.now.halt.origins.items = search rules in
    let origins = z.origins in
    let es = c.in_ok-entries.entries.items in
    let base : ℕ = c.len.result - length c.hypotheses-hypotheses.result.now in
    let base_is : base ≡ length m.rest = omega (arith, c.len.ensures) in
    let many = count_entries es in
    let count : base + length (entries_in es) ≡ length c.args.stop.now.halt.origins.items = omega (arith, c.in_ok-entries.ensures.count) in
    let zip : AllZip (AreNumbers st) (entries_in es) m.entries =
    entries_zip c.requires.halt.0 st (take index st) own.s own.prefix own.moves c.args.stop.now.halt h met.step.label m base (entries_in es)
    base_is count c.in_ok-entries.ensures.entries in
    let lent : AllZip (AreNumbers st) (entries_in c.deref.result.now) m.entries =
    subst (λ ls. AllZip (AreNumbers st) (entries_in ls) m.entries) (sym c.deref.ensures.value) zip in
    let told = c.in_ok-asked.ensures.asked index own.s own.proof met.step.label met.step.numbered h.there.stack m.entries lent m refl in
    subst (λ ls. AllByRecursion (λ n. n < length (symbols_of st)) (numbers_in ls)) (sym c.deref-in-loop-index.ensures.value)
    (numbers_within (symbols_of st) (numbers_in c.in_ok-asked.asked.items) told.0 told.1)

pub push_asks_where-requires-clause-given : goal.push_asks_where-requires-clause-given
push_asks_where-requires-clause-given c =
    let st = c.args.book.now.statements in
    let own = c.requires.halt.1 in
    let met = met_halt c.requires.halt.0 st c.args.id.0 c.args.stop.now.halt c.args.label own
    c.requires.place (inr c.requires.rule) in
    let index = own.index in
    let h = own.halts in
    let m = met.m in
    let z = sizes c.requires.halt.0 st index own.s own.prefix own.moves c.args.stop.now.halt h c.requires.sound.0
    c.args.label.0 c.frame.result c.frame.ensures.book c.frame.ensures.index.0 c.frame.ensures.index.1 c.frame.ensures.index.2
    c.hypotheses-hypotheses.result.now c.hypotheses-hypotheses.ensures.ids met.step.label met.step.numbered m in
    let long : vec_len c.args.stop.now.halt.origins ≡ length c.args.stop.now.halt.origins.items = search rules in
    let origins = z.origins in
    let es = c.in_ok-entries.entries.items in
    let base : ℕ = c.len.result - length c.hypotheses-hypotheses.result.now in
    let base_is : base ≡ length m.rest = omega (arith, c.len.ensures) in
    let many = count_entries es in
    let count : base + length (entries_in es) ≡ length c.args.stop.now.halt.origins.items = omega (arith, c.in_ok-entries.ensures.count) in
    let zip : AllZip (AreNumbers st) (entries_in es) m.entries =
    entries_zip c.requires.halt.0 st (take index st) own.s own.prefix own.moves c.args.stop.now.halt h met.step.label m base (entries_in es)
    base_is count c.in_ok-entries.ensures.entries in
    let size : length es ≡ length c.hypotheses-hypotheses.result.now = omega (arith, c.in_ok-entries.ensures.count, c.len.ensures) in
    let test : c.loop-index.index < length c.hypotheses-hypotheses.result.now = c.loop-index-test.true in
    let got = get_entry es c.loop-index.index c.index-in-loop-index.result.now (omega arith) c.index-in-loop-index.ensures in
    let given = zip_left (AreNumbers st) (entries_in es) m.entries c.loop-index.index (numbers_in c.index-in-loop-index.result.now.now) zip got in
    numbers_within (symbols_of st) (numbers_in c.index-in-loop-index.result.now.now) given.0 given.2

pub loop-index-preserved : goal.loop-index-preserved
loop-index-preserved c = λ limit index s prefix moves label number h move m.
    let st = c.args.book.now.statements in
    let z = sizes limit st index s prefix moves c.args.stop.now.halt h c.requires.sound.0
    c.args.label.0 c.frame.result c.frame.ensures.book c.frame.ensures.index.0 c.frame.ensures.index.1 c.frame.ensures.index.2
    c.hypotheses-hypotheses.result.now c.hypotheses-hypotheses.ensures.ids label move m in
    let long : vec_len c.args.stop.now.halt.origins ≡ length c.args.stop.now.halt.origins.items = search rules in
    let origins = z.origins in
    let es = c.in_ok-entries.entries.items in
    let base : ℕ = c.len.result - length c.hypotheses-hypotheses.result.now in
    let base_is : base ≡ length m.rest = omega (arith, c.len.ensures) in
    let many = count_entries es in
    let count : base + length (entries_in es) ≡ length c.args.stop.now.halt.origins.items = omega (arith, c.in_ok-entries.ensures.count) in
    let zip : AllZip (AreNumbers st) (entries_in es) m.entries =
    entries_zip limit st (take index st) s prefix moves c.args.stop.now.halt h label m base (entries_in es)
    base_is count c.in_ok-entries.ensures.entries in
    let lent : AllZip (AreNumbers st) (entries_in c.deref.result.now) m.entries =
    subst (λ ls. AllZip (AreNumbers st) (entries_in ls) m.entries) (sym c.deref.ensures.value) zip in
    let told = c.in_ok-asked.ensures.asked index s number label move h.there.stack m.entries lent m refl in
    let size : length es ≡ length c.hypotheses-hypotheses.result.now = omega (arith, c.in_ok-entries.ensures.count, c.len.ensures) in
    let test : c.loop-index.index < length c.hypotheses-hypotheses.result.now = c.loop-index-test.true in
    let got = get_entry es c.loop-index.index c.index-in-loop-index.result.now (omega arith) c.index-in-loop-index.ensures in
    let given = zip_left (AreNumbers st) (entries_in es) m.entries c.loop-index.index (numbers_in c.index-in-loop-index.result.now.now) zip got in
    let k = c.loop-index.index in
    let text = c.deref-in-loop-index-2.result.now in
    let its : slice_get (told_steps c.args.stop.now) (length m.rest + k) ≡ Some text =
    subst (λ (n : ℕ). slice_get (told_steps c.args.stop.now) (n + k) ≡ Some text) base_is
    (step_there c.args.stop.now (base + k) c.index.result.now text (omega arith) c.index.ensures
    c.deref-in-loop-index-2.ensures.value) in
    let hypothesis = hypothesis_there st c.hypotheses-hypotheses.result.now m.hypotheses k _ z.numbered test in
    one_asked st (take index st) h.there.stack (told_steps c.args.stop.now) label m k c.args.out.now.items
    c.loop-index.out.items c.push_asks_where.new.out.items
    hypothesis.0 c.label-name.result.now text given.0 told.0 (numbers_in c.deref-in-loop-index.result.now)
    (numbers_in c.index-in-loop-index.result.now.now) c.args.unmet (c.loop-index.invariant limit
    index s prefix moves label number h move m)
    hypothesis.1 (c.label-name.ensures hypothesis.0 hypothesis.2) its given.1 told.2
    (subst (λ ls. AreNumbers st (numbers_in ls) told.0) (sym c.deref-in-loop-index.ensures.value)
    told.1) given.2 c.in_ok-push_asks_where.ensures

pub returns : goal.returns
returns c = λ limit index s prefix moves number h.
    let st = c.args.book.now.statements in
    let step = step_left st h.there.left c.args.stop.now.halt.at c.args.label c.requires.place h.place in
    let m = asked_meets limit st (take index st) s prefix moves c.args.stop.now.halt h c.args.label.0
    step (inr c.requires.rule) in
    let z = sizes limit st index s prefix moves c.args.stop.now.halt h c.requires.sound.0 c.args.label.0 c.frame.result c.frame.ensures.book
    c.frame.ensures.index.0 c.frame.ensures.index.1 c.frame.ensures.index.2 c.hypotheses-hypotheses.result.now
    c.hypotheses-hypotheses.ensures.ids step.label step.numbered m in
    let so_far = c.loop-index.invariant limit index s prefix moves step.label number h step.numbered m in
    let many = z.hypotheses in
    let end = c.loop-index-test.false in
    let past : c.loop-index.index ≤ length c.hypotheses-hypotheses.result.now = c.loop-index.auto.index-end in
    let count : length m.hypotheses ≡ c.loop-index.index = omega arith in (
      filter (is_told c.args.unmet) so_far.details,
      (
        step.label,
        step.more,
        step.first,
        so_far.details,
        so_far_all c.args.unmet (take index st) h.there.stack (told_steps c.args.stop.now) step.label m
            c.loop-index.index c.args.out.now.items
            c.loop-index.out.items so_far count,
        refl,
      ),
      so_far.told,
    )
