-- What `mm help` prints.
use Rattle.std.specs.Prelude.{◌≡◌, ◌≢◌, ℕ, List, Option, Some, None, Contains}
use Rattle.std.specs.List.{AllByRecursion}
use Rattle.clap.specs.Words.{Text}
use Rattle.mm_help.specs.declared.pages.Page.{Page}
use Rattle.mm_help.specs.declared.texts.Texts.{Texts}
use Rattle.mm_words.specs.declared.stop.Stop.{Stop}
use Rattle.mm_words.specs.declared.stop.Stop.TheVariants.{Usage, Memory}

-- This is the page of the command with the asked name; where none is asked for, the whole help.
abbrev pub IsHelp : Texts → (topic : Option Text) → List ℕ → Type 0
IsHelp texts None text = text ≡ texts.help.now
IsHelp texts (Some name) text =
    (page : Page) × Contains texts.pages.now page × (page.command.now ≡ name)
    × (text ≡ page.text.now)

-- No command has the asked name.
abbrev pub IsUnknownCommand : Texts → (topic : Option Text) → Type 0
IsUnknownCommand texts None = ⊥
IsUnknownCommand texts (Some name) =
    AllByRecursion (λ page. page.command.now ≢ name) texts.pages.now

-- why there is no help
abbrev pub IsHelpFault : Texts → (topic : Option Text) → Stop → Type 0
IsHelpFault texts topic (Usage text) = IsUnknownCommand texts topic
IsHelpFault texts topic Memory = Unit {0}
IsHelpFault texts topic other = ⊥
