-- The step meets its hypotheses, of which one has an entry of another type.
use Rattle.std.proofs.Common.{◌≡◌, ◌<◌, ◌+◌, ◌-◌, ℕ, List, Some, length, slice_get, take, arith}
use Rattle.std.proofs.Common.{rules, sym, subst, ap, ◌∙◌, vec_len, inl}
use Rattle.std.specs.List.{AllByRecursion}
use Rattle.std.proofs.lemmas.Option.{slice_get_within}
use Rattle.std.proofs.lemmas.Result.{on_ok_weaker}
use Rattle.mm_frame.specs.Numbers.{symbols_of, AreNumbers}
use Rattle.mm_step.specs.Stores.{entries_in, numbers_in}
use Rattle.mm_step.specs.declared.fault.ProofRule.TheVariants.{P9}
use Rattle.mm_proof.proofs.ProofNumbers.NamedAssertions.{assertion_number}
use Rattle.mm_rules.proofs.Numbers.{numbers_within}
use Rattle.mm_facts.specs.Explained.{type_codes}
use Rattle.mm_facts.proofs.HaltDetails.{step_left, broken_step, step_there}
use Rattle.mm_facts.proofs.AskedDetails.{met_halt, sizes, get_entry, count_entries, asked_meets}
use Rattle.mm_facts.specs.Mirror.Explaining.{IsFirstOfOtherCode, HaveOwnCodes, told_steps}
use Rattle.mm_frame.specs.declared.number.Sym.{Sym}
use Rattle.mm_base.proofs.Lists.{zip_left}
use Rattle.mm_step.proofs.ByNumbers.NumberedSymbols.{no_hypothesis}
use Rattle.std.specs.List.{flat_map}
use Rattle.std.proofs.Common.{map}
use denote.Ref.{Bor}
use Rattle.mm_facts.proofs.WrongTypes.{type_scene, wrong_type, types_told, some_wrong, codes_named}
use Rattle.mm_facts.proofs.details.push_types_asked.Goals as goal

pub frame-requires : goal.frame-requires
frame-requires c =
    let own = c.requires.halt.1 in
    let met = met_halt c.requires.halt.0 c.args.book.now.statements c.args.id.0 c.args.stop.now.halt
    c.args.label own c.requires.place (inl c.requires.rule) in
    assertion_number c.args.book.now.statements own.index c.args.label.0 met.m.index met.step.label
    met.m.assertion met.m.hypotheses
    c.requires.sound.0 met.step.numbered met.m.names

pub overflow_sub-base : goal.overflow_sub-base
overflow_sub-base c =
    let own = c.requires.halt.1 in
    let met = met_halt c.requires.halt.0 c.args.book.now.statements c.args.id.0 c.args.stop.now.halt
    c.args.label own c.requires.place (inl c.requires.rule) in
    let z = sizes c.requires.halt.0 c.args.book.now.statements own.index own.s own.prefix own.moves
    c.args.stop.now.halt own.halts c.requires.sound.0
    c.args.label.0 c.frame.result c.frame.ensures.book c.frame.ensures.index.0
    c.frame.ensures.index.1 c.frame.ensures.index.2
    c.hypotheses-hypotheses.result.now c.hypotheses-hypotheses.ensures.ids met.step.label
    met.step.numbered met.m in
    let long : vec_len c.args.stop.now.halt.origins ≡ length c.args.stop.now.halt.origins.items = search
    rules in
    let origins = z.origins in
    omega (arith, c.len.ensures)

pub first_of_other_type-requires : goal.first_of_other_type-requires
first_of_other_type-requires c =
    let st = c.args.book.now.statements in
    let own = c.requires.halt.1 in
    let met = met_halt c.requires.halt.0 st c.args.id.0 c.args.stop.now.halt c.args.label own
    c.requires.place (inl c.requires.rule) in
    let z = sizes c.requires.halt.0 st own.index own.s own.prefix own.moves c.args.stop.now.halt
    own.halts c.requires.sound.0
    c.args.label.0 c.frame.result c.frame.ensures.book c.frame.ensures.index.0
    c.frame.ensures.index.1 c.frame.ensures.index.2
    c.hypotheses-hypotheses.result.now c.hypotheses-hypotheses.ensures.ids met.step.label
    met.step.numbered met.m in
    let long : vec_len c.args.stop.now.halt.origins ≡ length c.args.stop.now.halt.origins.items = search
    rules in
    let origins = z.origins in
    let lent : length c.deref.result.now ≡ length c.in_ok-entries.entries.items = ap length
    c.deref.ensures.value in
    omega (arith, c.len.ensures, c.in_ok-entries.ensures.count)

pub offset_bounds-hypotheses-index : goal.offset_bounds-hypotheses-index
offset_bounds-hypotheses-index c =
    let found = subst (λ (ls : List (Bor (List Sym))). IsFirstOfOtherCode
    c.hypotheses-hypotheses.result.now (entries_in ls) c.in-Some.index c.in-Some.code)
    c.deref.ensures.value c.in-Some.ensures in
    let inside : c.in-Some.index < length c.hypotheses-hypotheses.result.now =
    slice_get_within c.hypotheses-hypotheses.result.now c.in-Some.index found.hypothesis found.its
    in
    omega (arith, c.hypotheses-hypotheses.ensures.few)

pub bounds-hypotheses-index : goal.bounds-hypotheses-index
bounds-hypotheses-index c =
    let found = subst (λ (ls : List (Bor (List Sym))). IsFirstOfOtherCode
    c.hypotheses-hypotheses.result.now (entries_in ls) c.in-Some.index c.in-Some.code)
    c.deref.ensures.value c.in-Some.ensures in
    let inside : c.in-Some.index < length c.hypotheses-hypotheses.result.now =
    slice_get_within c.hypotheses-hypotheses.result.now c.in-Some.index found.hypothesis found.its
    in
    inside

pub overflow_add-base : goal.overflow_add-base
overflow_add-base c =
    let st = c.args.book.now.statements in
    let own = c.requires.halt.1 in
    let met = met_halt c.requires.halt.0 st c.args.id.0 c.args.stop.now.halt c.args.label own
    c.requires.place (inl c.requires.rule) in
    let z = sizes c.requires.halt.0 st own.index own.s own.prefix own.moves c.args.stop.now.halt
    own.halts c.requires.sound.0
    c.args.label.0 c.frame.result c.frame.ensures.book c.frame.ensures.index.0
    c.frame.ensures.index.1 c.frame.ensures.index.2
    c.hypotheses-hypotheses.result.now c.hypotheses-hypotheses.ensures.ids met.step.label
    met.step.numbered met.m in
    let long : vec_len c.args.stop.now.halt.origins ≡ length c.args.stop.now.halt.origins.items = search
    rules in
    let origins = z.origins in
    let found = subst (λ (ls : List (Bor (List Sym))). IsFirstOfOtherCode
    c.hypotheses-hypotheses.result.now (entries_in ls) c.in-Some.index c.in-Some.code)
    c.deref.ensures.value c.in-Some.ensures in
    let inside : c.in-Some.index < length c.hypotheses-hypotheses.result.now =
    slice_get_within c.hypotheses-hypotheses.result.now c.in-Some.index found.hypothesis found.its
    in
    omega (arith, c.len.ensures, c.hypotheses-hypotheses.ensures.few)

pub index-step-requires : goal.index-step-requires
index-step-requires c =
    let st = c.args.book.now.statements in
    let own = c.requires.halt.1 in
    let met = met_halt c.requires.halt.0 st c.args.id.0 c.args.stop.now.halt c.args.label own
    c.requires.place (inl c.requires.rule) in
    let z = sizes c.requires.halt.0 st own.index own.s own.prefix own.moves c.args.stop.now.halt
    own.halts c.requires.sound.0
    c.args.label.0 c.frame.result c.frame.ensures.book c.frame.ensures.index.0
    c.frame.ensures.index.1 c.frame.ensures.index.2
    c.hypotheses-hypotheses.result.now c.hypotheses-hypotheses.ensures.ids met.step.label
    met.step.numbered met.m in
    let long : vec_len c.args.stop.now.halt.origins ≡ length c.args.stop.now.halt.origins.items = search
    rules in
    let origins = z.origins in
    let found = subst (λ (ls : List (Bor (List Sym))). IsFirstOfOtherCode
    c.hypotheses-hypotheses.result.now (entries_in ls) c.in-Some.index c.in-Some.code)
    c.deref.ensures.value c.in-Some.ensures in
    let inside : c.in-Some.index < length c.hypotheses-hypotheses.result.now =
    slice_get_within c.hypotheses-hypotheses.result.now c.in-Some.index found.hypothesis found.its
    in
    let full : vec_len c.args.stop.now.texts ≡ length c.args.stop.now.texts.items = search rules in
    let each = c.args.stop.now.each in
    omega (arith, c.len.ensures)

pub name-requires : goal.name-requires
name-requires c =
    let st = c.args.book.now.statements in
    let own = c.requires.halt.1 in
    let met = met_halt c.requires.halt.0 st c.args.id.0 c.args.stop.now.halt c.args.label own
    c.requires.place (inl c.requires.rule) in
    let z = sizes c.requires.halt.0 st own.index own.s own.prefix own.moves c.args.stop.now.halt
    own.halts c.requires.sound.0
    c.args.label.0 c.frame.result c.frame.ensures.book c.frame.ensures.index.0
    c.frame.ensures.index.1 c.frame.ensures.index.2
    c.hypotheses-hypotheses.result.now c.hypotheses-hypotheses.ensures.ids met.step.label
    met.step.numbered met.m in
    let long : vec_len c.args.stop.now.halt.origins ≡ length c.args.stop.now.halt.origins.items = search
    rules in
    let origins = z.origins in
    let es = c.in_ok-entries.entries.items in
    let base : ℕ = c.len.result - length c.hypotheses-hypotheses.result.now in
    let sum : base + length c.hypotheses-hypotheses.result.now ≡ length
    c.args.stop.now.halt.origins.items = omega (arith, c.len.ensures) in
    let many = count_entries es in
    let count : base + length (entries_in es) ≡ length c.args.stop.now.halt.origins.items = omega
    (arith, c.in_ok-entries.ensures.count) in
    let scene = type_scene c.requires.halt.0 st own.index own.s own.prefix own.moves
    c.args.stop.now.halt own.halts c.requires.sound.0 c.args.label.0 c.frame.result
    c.frame.ensures.book c.frame.ensures.index.0 c.frame.ensures.index.1 c.frame.ensures.index.2
    c.hypotheses-hypotheses.result.now
    c.hypotheses-hypotheses.ensures.ids c.hypotheses-hypotheses.ensures.typed met.step.label
    met.step.numbered met.m base sum (entries_in es) count
    c.in_ok-entries.ensures.entries in
    let found = subst (λ (ls : List (Bor (List Sym))). IsFirstOfOtherCode
    c.hypotheses-hypotheses.result.now (entries_in ls) c.in-Some.index c.in-Some.code)
    c.deref.ensures.value c.in-Some.ensures in
    let inside : c.in-Some.index < length c.hypotheses-hypotheses.result.now =
    slice_get_within c.hypotheses-hypotheses.result.now c.in-Some.index found.hypothesis found.its
    in
    let w = wrong_type st c.hypotheses-hypotheses.result.now met.m.hypotheses (entries_in es)
    met.m.entries scene.typed scene.numbered scene.zip
    c.in-Some.index c.in-Some.code no_hypothesis found in
    slice_get_within (symbols_of st) c.in-Some.code.0 w.type.code w.type.number

pub index-requires : goal.index-requires
index-requires c =
    let st = c.args.book.now.statements in
    let own = c.requires.halt.1 in
    let met = met_halt c.requires.halt.0 st c.args.id.0 c.args.stop.now.halt c.args.label own
    c.requires.place (inl c.requires.rule) in
    let z = sizes c.requires.halt.0 st own.index own.s own.prefix own.moves c.args.stop.now.halt
    own.halts c.requires.sound.0
    c.args.label.0 c.frame.result c.frame.ensures.book c.frame.ensures.index.0
    c.frame.ensures.index.1 c.frame.ensures.index.2
    c.hypotheses-hypotheses.result.now c.hypotheses-hypotheses.ensures.ids met.step.label
    met.step.numbered met.m in
    let long : vec_len c.args.stop.now.halt.origins ≡ length c.args.stop.now.halt.origins.items = search
    rules in
    let origins = z.origins in
    let found = subst (λ (ls : List (Bor (List Sym))). IsFirstOfOtherCode
    c.hypotheses-hypotheses.result.now (entries_in ls) c.in-Some.index c.in-Some.code)
    c.deref.ensures.value c.in-Some.ensures in
    let inside : c.in-Some.index < length c.hypotheses-hypotheses.result.now =
    slice_get_within c.hypotheses-hypotheses.result.now c.in-Some.index found.hypothesis found.its
    in
    let full : vec_len c.in_ok-entries.entries ≡ length c.in_ok-entries.entries.items = search
    rules in
    omega (arith, c.len.ensures, c.in_ok-entries.ensures.count)

pub push_type_asked-requires : goal.push_type_asked-requires
push_type_asked-requires c =
    let st = c.args.book.now.statements in
    let own = c.requires.halt.1 in
    let met = met_halt c.requires.halt.0 st c.args.id.0 c.args.stop.now.halt c.args.label own
    c.requires.place (inl c.requires.rule) in
    let z = sizes c.requires.halt.0 st own.index own.s own.prefix own.moves c.args.stop.now.halt
    own.halts c.requires.sound.0
    c.args.label.0 c.frame.result c.frame.ensures.book c.frame.ensures.index.0
    c.frame.ensures.index.1 c.frame.ensures.index.2
    c.hypotheses-hypotheses.result.now c.hypotheses-hypotheses.ensures.ids met.step.label
    met.step.numbered met.m in
    let long : vec_len c.args.stop.now.halt.origins ≡ length c.args.stop.now.halt.origins.items = search
    rules in
    let origins = z.origins in
    let es = c.in_ok-entries.entries.items in
    let base : ℕ = c.len.result - length c.hypotheses-hypotheses.result.now in
    let sum : base + length c.hypotheses-hypotheses.result.now ≡ length
    c.args.stop.now.halt.origins.items = omega (arith, c.len.ensures) in
    let many = count_entries es in
    let count : base + length (entries_in es) ≡ length c.args.stop.now.halt.origins.items = omega
    (arith, c.in_ok-entries.ensures.count) in
    let scene = type_scene c.requires.halt.0 st own.index own.s own.prefix own.moves
    c.args.stop.now.halt own.halts c.requires.sound.0 c.args.label.0 c.frame.result
    c.frame.ensures.book c.frame.ensures.index.0 c.frame.ensures.index.1 c.frame.ensures.index.2
    c.hypotheses-hypotheses.result.now
    c.hypotheses-hypotheses.ensures.ids c.hypotheses-hypotheses.ensures.typed met.step.label
    met.step.numbered met.m base sum (entries_in es) count
    c.in_ok-entries.ensures.entries in
    let found = subst (λ (ls : List (Bor (List Sym))). IsFirstOfOtherCode
    c.hypotheses-hypotheses.result.now (entries_in ls) c.in-Some.index c.in-Some.code)
    c.deref.ensures.value c.in-Some.ensures in
    let inside : c.in-Some.index < length c.hypotheses-hypotheses.result.now =
    slice_get_within c.hypotheses-hypotheses.result.now c.in-Some.index found.hypothesis found.its
    in
    let size : length es ≡ length c.hypotheses-hypotheses.result.now = omega (
      arith,
      c.in_ok-entries.ensures.count,
      c.len.ensures,
    ) in
    let got = get_entry es c.in-Some.index c.index.result.now (omega arith) c.index.ensures in
    let given = zip_left (AreNumbers st) (entries_in es) met.m.entries c.in-Some.index (numbers_in
    c.index.result.now.now) scene.zip got in
    numbers_within (symbols_of st) (numbers_in c.index.result.now.now) given.0 given.2

pub push_types-requires-clause-taken : goal.push_types-requires-clause-taken
push_types-requires-clause-taken c =
    let st = c.args.book.now.statements in
    let own = c.requires.halt.1 in
    let met = met_halt c.requires.halt.0 st c.args.id.0 c.args.stop.now.halt c.args.label own
    c.requires.place (inl c.requires.rule) in
    let z = sizes c.requires.halt.0 st own.index own.s own.prefix own.moves c.args.stop.now.halt
    own.halts c.requires.sound.0
    c.args.label.0 c.frame.result c.frame.ensures.book c.frame.ensures.index.0
    c.frame.ensures.index.1 c.frame.ensures.index.2
    c.hypotheses-hypotheses.result.now c.hypotheses-hypotheses.ensures.ids met.step.label
    met.step.numbered met.m in
    let long : vec_len c.args.stop.now.halt.origins ≡ length c.args.stop.now.halt.origins.items = search
    rules in
    let origins = z.origins in
    let are = c.in_ok-taken-in-Some.ensures met.m.hypotheses z.numbered in
    subst (λ ls. AllByRecursion (λ n. n < length (symbols_of st)) (numbers_in ls)) (sym
    c.deref-in-Some-2.ensures.value)
    (numbers_within (symbols_of st) (numbers_in c.in_ok-taken-in-Some.taken.items) _ are)

pub push_types-requires-clause-given : goal.push_types-requires-clause-given
push_types-requires-clause-given c =
    let st = c.args.book.now.statements in
    let own = c.requires.halt.1 in
    let met = met_halt c.requires.halt.0 st c.args.id.0 c.args.stop.now.halt c.args.label own
    c.requires.place (inl c.requires.rule) in
    let z = sizes c.requires.halt.0 st own.index own.s own.prefix own.moves c.args.stop.now.halt
    own.halts c.requires.sound.0
    c.args.label.0 c.frame.result c.frame.ensures.book c.frame.ensures.index.0
    c.frame.ensures.index.1 c.frame.ensures.index.2
    c.hypotheses-hypotheses.result.now c.hypotheses-hypotheses.ensures.ids met.step.label
    met.step.numbered met.m in
    let long : vec_len c.args.stop.now.halt.origins ≡ length c.args.stop.now.halt.origins.items = search
    rules in
    let origins = z.origins in
    let es = c.in_ok-entries.entries.items in
    let base : ℕ = c.len.result - length c.hypotheses-hypotheses.result.now in
    let sum : base + length c.hypotheses-hypotheses.result.now ≡ length
    c.args.stop.now.halt.origins.items = omega (arith, c.len.ensures) in
    let many = count_entries es in
    let count : base + length (entries_in es) ≡ length c.args.stop.now.halt.origins.items = omega
    (arith, c.in_ok-entries.ensures.count) in
    let scene = type_scene c.requires.halt.0 st own.index own.s own.prefix own.moves
    c.args.stop.now.halt own.halts c.requires.sound.0 c.args.label.0 c.frame.result
    c.frame.ensures.book c.frame.ensures.index.0 c.frame.ensures.index.1 c.frame.ensures.index.2
    c.hypotheses-hypotheses.result.now
    c.hypotheses-hypotheses.ensures.ids c.hypotheses-hypotheses.ensures.typed met.step.label
    met.step.numbered met.m base sum (entries_in es) count
    c.in_ok-entries.ensures.entries in
    let told = codes_named st (entries_in es) met.m.entries scene.zip in
    let same = c.in_ok-codes_given-in-Some.ensures ∙ ap (λ ls. flat_map (take 1) (entries_in ls))
    c.deref-in-Some-3.ensures.value in
    subst (λ ls. AllByRecursion (λ n. n < length (symbols_of st)) (numbers_in ls)) (sym
    c.deref-in-Some-4.ensures.value)
    (subst (λ (ns : List ℕ). AllByRecursion (λ n. n < length (symbols_of st)) ns) (sym same)
    (numbers_within (symbols_of st) (flat_map (take 1) (entries_in es)) _ told))

pub unreachable-requires : goal.unreachable-requires
unreachable-requires c =
    let st = c.args.book.now.statements in
    let own = c.requires.halt.1 in
    let step = step_left st own.halts.there.left c.args.stop.now.halt.at c.args.label c.requires.place
    own.halts.place in
    let broken = broken_step c.requires.halt.0 st (take own.index st) own.s own.prefix own.moves
    c.args.stop.now.halt own.halts c.args.label.0 step P9 c.requires.rule in
    let m = broken.0 in
    let z = sizes c.requires.halt.0 st own.index own.s own.prefix own.moves c.args.stop.now.halt
    own.halts c.requires.sound.0
    c.args.label.0 c.frame.result c.frame.ensures.book c.frame.ensures.index.0
    c.frame.ensures.index.1 c.frame.ensures.index.2
    c.hypotheses-hypotheses.result.now c.hypotheses-hypotheses.ensures.ids step.label step.numbered
    m in
    let long : vec_len c.args.stop.now.halt.origins ≡ length c.args.stop.now.halt.origins.items = search
    rules in
    let origins = z.origins in
    let es = c.in_ok-entries.entries.items in
    let base : ℕ = c.len.result - length c.hypotheses-hypotheses.result.now in
    let sum : base + length c.hypotheses-hypotheses.result.now ≡ length
    c.args.stop.now.halt.origins.items = omega (arith, c.len.ensures) in
    let many = count_entries es in
    let count : base + length (entries_in es) ≡ length c.args.stop.now.halt.origins.items = omega
    (arith, c.in_ok-entries.ensures.count) in
    let scene = type_scene c.requires.halt.0 st own.index own.s own.prefix own.moves
    c.args.stop.now.halt own.halts c.requires.sound.0 c.args.label.0 c.frame.result
    c.frame.ensures.book c.frame.ensures.index.0 c.frame.ensures.index.1 c.frame.ensures.index.2
    c.hypotheses-hypotheses.result.now
    c.hypotheses-hypotheses.ensures.ids c.hypotheses-hypotheses.ensures.typed step.label
    step.numbered m base sum (entries_in es) count
    c.in_ok-entries.ensures.entries in
    some_wrong st (take own.index st) own.halts.there.stack step.label c.requires.halt.0 broken
    c.hypotheses-hypotheses.result.now (entries_in es)
    scene.typed scene.numbered scene.zip
    (subst (λ (ls : List (Bor (List Sym))). HaveOwnCodes c.hypotheses-hypotheses.result.now
    (entries_in ls) (length c.hypotheses-hypotheses.result.now))
    c.deref.ensures.value c.in-None.ensures)

pub returns : goal.returns
returns c =
    on_ok_weaker c.push_types.result
    (λ told limit index s prefix moves number h.
    let st = c.args.book.now.statements in
    let step = step_left st h.there.left c.args.stop.now.halt.at c.args.label c.requires.place h.place in
    let m = asked_meets limit st (take index st) s prefix moves c.args.stop.now.halt h c.args.label.0
    step (inl c.requires.rule) in
    let z = sizes limit st index s prefix moves c.args.stop.now.halt h c.requires.sound.0
    c.args.label.0 c.frame.result c.frame.ensures.book c.frame.ensures.index.0
    c.frame.ensures.index.1 c.frame.ensures.index.2
    c.hypotheses-hypotheses.result.now c.hypotheses-hypotheses.ensures.ids step.label step.numbered
    m in
    let long : vec_len c.args.stop.now.halt.origins ≡ length c.args.stop.now.halt.origins.items = search
    rules in
    let origins = z.origins in
    let es = c.in_ok-entries.entries.items in
    let base : ℕ = c.len.result - length c.hypotheses-hypotheses.result.now in
    let sum : base + length c.hypotheses-hypotheses.result.now ≡ length
    c.args.stop.now.halt.origins.items = omega (arith, c.len.ensures) in
    let many = count_entries es in
    let count : base + length (entries_in es) ≡ length c.args.stop.now.halt.origins.items = omega
    (arith, c.in_ok-entries.ensures.count) in
    let scene = type_scene limit st index s prefix moves c.args.stop.now.halt h c.requires.sound.0
    c.args.label.0 c.frame.result
    c.frame.ensures.book c.frame.ensures.index.0 c.frame.ensures.index.1 c.frame.ensures.index.2
    c.hypotheses-hypotheses.result.now
    c.hypotheses-hypotheses.ensures.ids c.hypotheses-hypotheses.ensures.typed step.label
    step.numbered m base sum (entries_in es) count
    c.in_ok-entries.ensures.entries in
    let found = subst (λ (ls : List (Bor (List Sym))). IsFirstOfOtherCode
    c.hypotheses-hypotheses.result.now (entries_in ls) c.in-Some.index c.in-Some.code)
    c.deref.ensures.value c.in-Some.ensures in
    let inside : c.in-Some.index < length c.hypotheses-hypotheses.result.now =
    slice_get_within c.hypotheses-hypotheses.result.now c.in-Some.index found.hypothesis found.its
    in
    let w = wrong_type st c.hypotheses-hypotheses.result.now m.hypotheses (entries_in es) m.entries
    scene.typed scene.numbered scene.zip
    c.in-Some.index c.in-Some.code _ found in
    let size : length es ≡ length c.hypotheses-hypotheses.result.now = omega (
      arith,
      c.in_ok-entries.ensures.count,
      c.len.ensures,
    ) in
    let got = get_entry es c.in-Some.index c.index.result.now (omega arith) c.index.ensures in
    let k = c.in-Some.index in
    let text = c.deref-in-Some.result.now in
    let its : slice_get (told_steps c.args.stop.now) (length m.rest + k) ≡ Some text =
    subst (λ (n : ℕ). slice_get (told_steps c.args.stop.now) (n + k) ≡ Some text) scene.rest
    (step_there c.args.stop.now (base + k) c.index-step.result.now text (omega arith)
    c.index-step.ensures c.deref-in-Some.ensures.value) in
    let taken = subst (λ ls. AreNumbers st (numbers_in ls) (type_codes (map (λ h. h.symbols)
    m.hypotheses))) (sym c.deref-in-Some-2.ensures.value)
    (c.in_ok-taken-in-Some.ensures m.hypotheses scene.numbered) in
    let same = c.in_ok-codes_given-in-Some.ensures ∙ ap (λ ls. flat_map (take 1) (entries_in ls))
    c.deref-in-Some-3.ensures.value in
    let given = subst (λ ls. AreNumbers st (numbers_in ls) (type_codes m.entries)) (sym
    c.deref-in-Some-4.ensures.value)
    (subst (λ (ns : List ℕ). AreNumbers st ns (type_codes m.entries)) (sym same) (codes_named st
    (entries_in es) m.entries scene.zip)) in
    let all = types_told st (take index st) h.there.stack (told_steps c.args.stop.now) step.label m
    c.hypotheses-hypotheses.result.now (entries_in es)
    scene.typed scene.numbered scene.zip k c.in-Some.code _ found w text
    c.label-asking.result.now c.name.result.now
    (numbers_in c.index.result.now.now) (numbers_in c.deref-in-Some-2.result.now) (numbers_in
    c.deref-in-Some-4.result.now)
    c.args.out.now.items c.push_type_asked.new.out.items c.push_types.new.out.items its
    (c.label-asking.ensures w.hypothesis w.labelled) c.name.ensures got taken given
    c.in_ok-push_type_asked-in-Some.ensures told in
    (all.0, (step.label, step.more, step.first, all.1), all.2))
    c.push_types.ensures
