use Rattle.std.proofs.Common.{arith, ◌≡◌, ℕ, ◌+◌, ◌-◌, ◌/◌, ◌%◌, ◌<◌, List, [], ◌∷◌, ◌++◌}
use Rattle.std.proofs.Common.{append_assoc}
use Rattle.std.proofs.lemmas.List.{map-append}
use Rattle.mm_code.specs.Letters.{leading_letter}
use Rattle.mm_code.specs.Mirror.Writing.{AppendsLeading}
use Rattle.mm_code.proofs.OneSpelling.{HasLeading, leading-push}
use Rattle.mm_code.proofs.letters.+push_leading.Goals as goal

-- one more leading digit's letter
leading-written : (old between new : List ℕ) (value rest byte : ℕ)
    → AppendsLeading old between rest → new ≡ between ++ byte ∷ [] → rest ≡ (value - 1) / 5
    → byte ≡ 85 + (value - 1) % 5 → 0 < value → AppendsLeading old new value
leading-written old between new value rest byte had is quotient letter positive =
    let had_digits : HasLeading rest =
    record { digits = had.digits; ok = had.are_leading; is = had.is_worth } in
    let grown = leading-push value rest had_digits quotient positive in
    let same : byte ≡ leading_letter ((value - 1) % 5 + 1) = omega arith in
    record {
      digits = grown.digits;
      are_leading = grown.ok;
      is_worth = grown.is;
      text = rw (is, had.text, same, map-append) (append_assoc old _ _);
    }

pub returns-in_ok-push : goal.returns-in_ok-push
returns-in_ok-push t c =
    leading-written c.args.text.now.items c.push_leading.new.text.items c.push.new.self.items c.args.value _ _ c.in_ok-push_leading.ensures c.in_ok-push.ensures.items (omega arith) (omega arith) (omega arith)
