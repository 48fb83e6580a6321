-- What the proofs share of which note was taken. The contracts of `shared.rt` and `line.rt` rest on
-- it.
use Rattle.std.proofs.Common.{◌≡◌, ℕ, ◌-◌, ◌*◌, List, [], ◌∷◌, ◌++◌, map, length, filter}
use Rattle.std.proofs.Common.{slice_get, Option, Some, option_map, Bool, true, false}
use Rattle.std.proofs.Common.{refl, sym, ap, subst, ◌∙◌, append_assoc}
use denote.Ref.{Bor}
use Rattle.std.specs.List.{list_any}
use Rattle.std.proofs.lemmas.List.{length-map, map-append}
use Rattle.std.proofs.lemmas.Option.{slice_get-map}
use Rattle.mm_base.specs.Statement.{PlainStatement}
use Rattle.mm_text.specs.Files.{PlainFile}
use Rattle.mm_text.specs.Reading.{PlainFault, Reads}
use Rattle.mm_text.proofs.Reader.WholeReadings.{each_has_one_reading}
use Rattle.mm_code.specs.Layout.{texts}
use Rattle.mm_rules.specs.Answer.{plain_refusal}
use Rattle.mm_rules.specs.declared.fault.Refusal.{Refusal}
use Rattle.mm_groups.specs.Shared.{IsRarestIn, Labels, TellsNamed, is_in, is_of_label, last_in}
use Rattle.mm_groups.specs.Shared.{line_of_named, named_line, shared_in, times}
use Rattle.mm_groups.specs.Mirror.Kept.{some_labels}
use Rattle.mm_groups.proofs.CommonLabels.{shared_alone, shared_more}

-- the last one, by its text
pub last_text : (labels : List (Bor (List ℕ))) (last : Option (Bor (List ℕ)))
    → last ≡ slice_get labels (length labels - 1)
    → last_in (texts labels) ≡ option_map (λ l. l.now) last
last_text labels last is =
    ap (λ (n : ℕ). slice_get (texts labels) (n - 1)) (length-map labels (λ (l : Bor (List ℕ)). l.now))
    ∙ slice_get-map (λ (l : Bor (List ℕ)). l.now) labels (length labels - 1)
    ∙ ap (option_map (λ (l : Bor (List ℕ)). l.now)) (sym is)

-- ---- lines, part by part

pub five_parts : (out a b c d e o₁ o₂ o₃ o₄ o₅ : List ℕ)
    → o₁ ≡ out ++ a → o₂ ≡ o₁ ++ b → o₃ ≡ o₂ ++ c → o₄ ≡ o₃ ++ d → o₅ ≡ o₄ ++ e
    → o₅ ≡ out ++ (a ++ b ++ c ++ d ++ e)
five_parts out a b c d e o₁ o₂ o₃ o₄ o₅ h₁ h₂ h₃ h₄ h₅ =
    rw (h₅, h₄, h₃, h₂, h₁) (simp append_assoc)

-- ---- one more proof

-- the first
pub first_shared : (part : Labels → List (List ℕ)) (each : List Labels) (labels : Labels)
    → false ≡ some_labels each → part labels ≡ shared_in (map part (each ++ labels ∷ []))
first_shared part [] labels none = sym (shared_alone (part labels))
first_shared part (one ∷ others) labels none = absurd cc

-- another one
pub more_shared : (part : Labels → List (List ℕ)) (each : List Labels) (labels : Labels)
    (old new : List (List ℕ)) → true ≡ some_labels each → old ≡ shared_in (map part each)
    → new ≡ filter (is_in (part labels)) old → new ≡ shared_in (map part (each ++ labels ∷ []))
more_shared part [] labels old new some so_far is = absurd cc
more_shared part (one ∷ others) labels old new some so_far is =
    is ∙ ap (filter (is_in (part labels))) so_far
    ∙ sym (shared_more (part one) (map part others) (part labels))
    ∙ ap (λ (ls : List (List (List ℕ))). shared_in (part one ∷ ls))
    (sym (map-append part others (labels ∷ [])))

-- there is one then
pub some_more : (each : List Labels) (labels : Labels) → some_labels (each ++ labels ∷ []) ≡ true
some_more [] labels = refl
some_more (one ∷ others) labels = refl

-- ---- the line of what is named

module _ (refusals : List Refusal) (count : ℕ) (many : count ≡ length refusals) where
  counted : count ≡ length (map plain_refusal refusals)
  counted = many ∙ sym (length-map refusals plain_refusal)

  -- with the count of the refusals
  pub line_told : (own : Bor (List ℕ)) (line : List ℕ) (is_own : Bool)
      → is_own ≡ list_any (is_of_label own.now) (map plain_refusal refusals)
      → line ≡ named_line count own.now is_own
      → line ≡ line_of_named (map plain_refusal refusals) (Some own.now)
  line_told own line is_own is said =
      said ∙ ap (λ (n : ℕ). named_line n own.now is_own) counted
      ∙ ap (named_line (length (map plain_refusal refusals)) own.now) is

pub named_told : (files : List PlainFile) (refusals : List Refusal) (names : List (List ℕ))
    (count : ℕ) → count ≡ length refusals → (label : Option (Bor (List ℕ)))
    → ((statements : List PlainStatement) (ending : Option PlainFault)
    → Reads files statements ending
    → IsRarestIn (2 * count) (times statements) names (option_map (λ l. l.now) label))
    → (line : List ℕ)
    → line ≡ line_of_named (map plain_refusal refusals) (option_map (λ l. l.now) label)
    → TellsNamed files (map plain_refusal refusals) names line
named_told files refusals names count many label rarest line said =
    let one = each_has_one_reading files in record {
      statements = one.statements;
      ending = one.ending;
      reads = one.reads;
      label = option_map (λ (l : Bor (List ℕ)). l.now) label;
      rarest = subst (λ (n : ℕ). IsRarestIn (2 * n) (times one.statements) names
          (option_map (λ (l : Bor (List ℕ)). l.now) label)) (counted refusals count many)
          (rarest one.statements one.ending one.reads);
      said = said;
    }
