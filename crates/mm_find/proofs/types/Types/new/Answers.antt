-- No statement gives a type, and nothing is found.
use Rattle.std.proofs.Common.{List, ℕ, ap, option_map}
use Rattle.std.specs.Map.{lookup}
use Rattle.std.specs.Str.{bytes_eq}
use denote.Ref.{Bor}
use Rattle.mm_find.specs.declared.types.Name.{Name}
use Rattle.mm_find.proofs.TypeTables.{no_types}
use Rattle.mm_find.proofs.types.Types.new.Goals as goal

pub returns : goal.returns
returns c =
    no_types _
    (λ (x : List ℕ). ap (λ (entries : List (Name × Bor (List ℕ))).
    option_map (λ (code : Bor (List ℕ)). code.now)
    (lookup (λ (name : Name). bytes_eq x name.0.now) entries)) c.with_hasher.ensures.empty)
