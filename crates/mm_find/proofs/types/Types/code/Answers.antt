-- The code is that which is found.
use Rattle.std.proofs.Common.{List, ℕ, ap, sym, ◌∙◌, option_map}
use Rattle.std.specs.Option.{option_copied}
use denote.Ref.{Bor}
use Rattle.mm_find.proofs.types.Types.code.Goals as goal

pub returns-in-Some : goal.returns-in-Some
returns-in-Some c =
    ap (option_map (λ (code : Bor (List ℕ)). code.now))
    (sym (ap option_copied c.in-Some.is) ∙ c.get.ensures.value)

pub returns-in-None : goal.returns-in-None
returns-in-None c =
    ap (option_map (λ (code : Bor (List ℕ)). code.now))
    (sym (ap option_copied c.in-None.is) ∙ c.get.ensures.value)
