-- The tokens of a pattern, and patterns, one after the other. On this file rests the contract of
-- `are_fit`.
use Rattle.std.proofs.Common.{◌↔◌, List, [], ℕ, ◌+◌, ◌<◌, ◌≤◌, length, drop, get_or, map, subst}
use Rattle.std.specs.List.{AllByRecursion}
use denote.Ref.{Bor}
use Rattle.std.proofs.lemmas.List.{drop_all, drop_more}
use Rattle.clap.specs.Words.{Text}

module _ (R : Text → Type 0) (words : List (Bor Text)) (i : ℕ) (P : Type 0) where
  abbrev all_left : Type 0
  all_left = P ↔ AllByRecursion R (map (λ word. word.now) (drop i words))

  module _ (d : Bor Text) (less : i < length words) where
    parted : all_left → P ↔ (R (get_or words i d).now
        × AllByRecursion R (map (λ word. word.now) (drop (i + 1) words)))
    parted all =
        subst (λ (ws : List (Bor Text)). P ↔ AllByRecursion R (map (λ word. word.now) ws))
        (drop_more words i d less) all

    pub word_met : R (get_or words i d).now → all_left
        → P ↔ AllByRecursion R (map (λ word. word.now) (drop (i + 1) words))
    word_met so all =
        let split = parted all in ((λ p. (split.0 p).1), (λ later. split.1 (so, later)))

    pub word_unmet : ¬ (R (get_or words i d).now) → all_left → ¬ P
    word_unmet lacks all p = lacks ((parted all).0 p).0

  pub words_met : length words ≤ i → all_left → P
  words_met end all =
      let none : P ↔ AllByRecursion R [] =
      subst (λ (ws : List (Bor Text)). P ↔ AllByRecursion R (map (λ word. word.now) ws))
      (drop_all i words end) all in
      none.1 tt
