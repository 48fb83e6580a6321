use Rattle.std.proofs.Common.{◌≡◌, ◌<◌, ◌≤◌, ◌+◌, List, [], ◌∷◌, ℕ, inl, inr, length, length-append, sym, ◌∙◌, arith, ap}
use Rattle.mm_frame.specs.Numbers.{with_name}
use Rattle.indexmap.specs.IndexSet.{spare}
use Rattle.mm_frame.proofs.Names.NameNumbers.{holds_if_ok, with_name_cases}
use Rattle.mm_frame.proofs.name_table.Names.add.Goals as goal

length_with_name : (names : List (List ℕ)) (name : List ℕ) → length (with_name names name) ≤ length names + 1
length_with_name names name = elim (with_name_cases names name) [
  | inl (found, same) ↦ let e = ap length same in omega arith
  | inr (absent, longer) ↦ let e = ap length longer ∙ length-append names (name ∷ []) in omega arith
]

pub invariant_of-self : goal.invariant_of-self
invariant_of-self c =
    let room : spare c.self.inside.table ≡ c.args.self.now.room = ap (λ t. t.room) c.self.view_is in
    let names : c.self.inside.table.keys ≡ c.args.self.now.names = ap (λ t. t.names) c.self.view_is in
    let keys : c.insert.new.self.keys ≡ with_name c.self.inside.table.keys c.new.result = holds_if_ok c.insert.result _ (c.insert.ensures.succeeds (omega arith)) c.insert.ensures.keys in
    let all : c.insert.new.self.keys ≡ with_name c.self.inside.table.keys c.args.name.now = keys ∙ ap (with_name c.self.inside.table.keys) c.new.ensures in
    let long = ap length all in
    let more = length_with_name c.self.inside.table.keys c.args.name.now in
    let few : length c.self.inside.table.keys + 1 < 4294967296 = rw names (c.requires.few) in
    (omega arith, rw all (c.note_byte.ensures _ c.self.invariant.1 (sym c.len-number.ensures.len)))
