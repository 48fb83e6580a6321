-- A space is stepped over, and another byte ends them.
use Rattle.std.proofs.Common.{◌≡◌, ℕ, suc, ◌+◌, List, ◌∷◌, drop, get_or, Bool, true}
use Rattle.std.proofs.Common.{false, ◌==◌, cond, eq-eqb, ap, arith}
use Rattle.std.proofs.Math.ListN.{drop_of_length-le}
use Rattle.std.proofs.lemmas.Bool.{ne_eqb}
use Rattle.std.proofs.lemmas.List.{drop_more}
use Rattle.mm_render.specs.Saved.{spaces}
use Rattle.mm_render.proofs.forms.spaces_before.Goals as goal

first_is : (byte : ℕ) (bytes : List ℕ) (b : Bool) → (byte == 32) ≡ b
    → spaces (byte ∷ bytes) ≡ cond b (suc (spaces bytes)) 0
first_is byte bytes b is = ap (λ (c : Bool). cond c (suc (spaces bytes)) 0) is

pub loop-at-preserved : goal.loop-at-preserved
loop-at-preserved c =
    let bytes : List ℕ = c.args.bytes.now in
    let at : ℕ = c.loop-at.at in
    let more = drop_more bytes at 0 c.loop-at-test.true in
    let one = first_is (get_or bytes at 0) (drop (at + 1) bytes) true
    (eq-eqb (get_or bytes at 0) 32 c.if-bytes-at-ne32.false) in
    omega (arith, c.loop-at.invariant, ap spaces more, one)

pub returns-then-bytes-at-ne32 : goal.returns-then-bytes-at-ne32
returns-then-bytes-at-ne32 c =
    let bytes : List ℕ = c.args.bytes.now in
    let at : ℕ = c.loop-at.at in
    let more = drop_more bytes at 0 c.loop-at-test.true in
    let one = first_is (get_or bytes at 0) (drop (at + 1) bytes) false
    (ne_eqb (get_or bytes at 0) 32 c.if-bytes-at-ne32.true) in
    omega (arith, c.loop-at.invariant, ap spaces more, one)

pub returns : goal.returns
returns c =
    let none = drop_of_length-le c.args.bytes.now {i = c.loop-at.at} c.loop-at-test.false in
    omega (arith, c.loop-at.invariant, ap spaces none, c.loop-at-test.false)
