use Rattle.std.proofs.Common.{arith, ◌≡◌, ℕ, ◌+◌, ◌-◌, ◌/◌, ◌%◌, ◌≤◌, List, [], ◌∷◌, ◌++◌, map}
use Rattle.std.proofs.Common.{append_assoc}
use Rattle.mm_code.specs.declared.code.Code.TheVariants.{Number}
use Rattle.mm_code.specs.Letters.{last_letter, leading_letter}
use Rattle.mm_code.specs.Mirror.Writing.{AppendsLeading, AppendsCode}
use Rattle.mm_code.proofs.OneSpelling.{HasLeading, spelling-of}
use Rattle.mm_code.proofs.letters.push_number.Goals as goal

-- the last digit's letter
number-written : (old between new : List ℕ) (number rest byte : ℕ)
    → AppendsLeading old between rest → new ≡ between ++ byte ∷ [] → rest ≡ (number - 1) / 20
    → byte ≡ 65 + (number - 1) % 20 → 1 ≤ number → AppendsCode old new (Number number)
number-written old between new number rest byte had is quotient letter positive =
    let leading : HasLeading rest =
    record { digits = had.digits; ok = had.are_leading; is = had.is_worth } in
    let digit = (number - 1) % 20 + 1 in
    let same : byte ≡ last_letter digit = omega arith in
    record {
      piece = map leading_letter had.digits ++ last_letter digit ∷ [];
      says = spelling-of number rest leading quotient positive;
      text = rw (is, had.text, same) (append_assoc old _ _);
    }

pub returns : goal.returns
returns c =
    number-written c.args.text.now.items c.push_leading.new.text.items c.push.new.self.items c.args.number _ _ c.in_ok-push_leading.ensures c.in_ok-push.ensures.items (omega arith) (omega arith) (omega arith)
