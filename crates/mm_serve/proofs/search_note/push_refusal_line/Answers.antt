-- The line is made of two parts.
use Rattle.std.proofs.Common.{◌≡◌, ℕ, List, ◌++◌, Result, Ok, Err, OnOk, is_ok, if◌then◌else◌}
use Rattle.std.proofs.Common.{append_assoc}
use Rattle.mm_serve.proofs.search_note.push_refusal_line.Goals as goal

-- what was put at the end in two parts
two_parts : {T E : Type 0} (r : Result T E) (old first new a b : List ℕ) → first ≡ old ++ a
    → new ≡ (if is_ok r then first ++ b else first) → OnOk r (new ≡ old ++ (a ++ b))
two_parts (Ok v) old first new a b one two = rw (two, one) (simp append_assoc)
two_parts (Err e) old first new a b one two = tt

pub returns : goal.returns
returns c =
    two_parts c.extend_from_slice-2.result c.args.notes.now.items c.extend_from_slice.new.self.items
    _ _ _ c.in_ok-extend_from_slice.ensures.items c.extend_from_slice-2.ensures.items
