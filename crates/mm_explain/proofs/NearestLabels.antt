-- The nearest labels of files: those of one more statement are offered.
use Rattle.std.proofs.Common.{◌≡◌, List, ℕ, [], ◌∷◌, ◌++◌, Some, None, refl, ap, sym, subst}
use Rattle.std.proofs.Common.{◌∙◌, option_map, append-nil}
use Rattle.std.proofs.lemmas.Grind.{flat_map-append}
use Rattle.std.specs.Option.{option_to_list}
use Rattle.mm_base.specs.Token.{PlainToken}
use Rattle.mm_base.specs.Statement.{PlainStatement}
use Rattle.mm_code.specs.Layout.{texts}
use Rattle.mm_rules.specs.Verdict.{labels_of, label_of}
use Rattle.mm_near.specs.Near.{AreNearest, AreNearestBelow}
use Rattle.mm_near.proofs.Offers.{nearest_told}
use Rattle.mm_near.specs.declared.nearest.Nearest.{Nearest}
use Rattle.mm_explain.specs.Mirror.Offered.{HasOffered}

-- nothing was offered yet
pub offered_none : (first : Nearest) → HasOffered first first []
offered_none first = record { wanted = refl; listed = refl; nearest = λ begun. begun }

module _ (first now : Nearest) (passed : List PlainStatement) (s : PlainStatement)
    (has : HasOffered first now passed) where
  labels_more : labels_of (passed ++ s ∷ []) ≡ labels_of passed ++ label_of s
  labels_more = flat_map-append label_of passed (s ∷ []) ∙ ap (λ ls. labels_of passed ++ ls) (append-nil (label_of s))

  -- a statement without a label is passed over
  pub offered_past : option_map (λ (t : PlainToken). t.text) s.label ≡ None
      → HasOffered first now (passed ++ s ∷ [])
  offered_past none = record {
    wanted = has.wanted;
    listed = has.listed;
    nearest = λ begun.
        subst (λ (ls : List (List ℕ)). AreNearestBelow first.wanted.now (texts first.listed.now) ls
        now.limit (texts now.found.items))
        (sym (labels_more ∙ ap (λ o. labels_of passed ++ option_to_list o) none
        ∙ append-nil (labels_of passed)))
        (has.nearest begun);
  }

  -- the label of another is offered
  pub offered_on : (next : Nearest) (label : List ℕ)
      → option_map (λ (t : PlainToken). t.text) s.label ≡ Some label
      → next.wanted ≡ now.wanted → next.listed ≡ now.listed
      → ((names : List (List ℕ))
      → AreNearestBelow now.wanted.now (texts now.listed.now) names now.limit
      (texts now.found.items)
      → AreNearestBelow now.wanted.now (texts now.listed.now) (names ++ label ∷ []) next.limit
      (texts next.found.items))
      → HasOffered first next (passed ++ s ∷ [])
  offered_on next label is wanted listed offered = record {
    wanted = wanted ∙ has.wanted;
    listed = listed ∙ has.listed;
    nearest = λ begun.
        subst (λ (ls : List (List ℕ)). AreNearestBelow first.wanted.now (texts first.listed.now) ls
        next.limit (texts next.found.items))
        (sym (labels_more ∙ ap (λ o. labels_of passed ++ option_to_list o) is))
        (rw (has.wanted, has.listed) at (offered (labels_of passed)
        (rw (has.wanted, has.listed) (has.nearest begun))));
  }

-- all labels were offered
pub all_offered : (first now : Nearest) (passed statements : List PlainStatement) (label : List ℕ)
    → first.wanted.now ≡ label → texts first.listed.now ≡ [] → passed ≡ statements
    → HasOffered first now passed
    → AreNearestBelow label [] [] first.limit (texts first.found.items)
    → AreNearest label [] (labels_of statements) (texts now.found.items)
all_offered first now passed statements label wanted listed all has begun =
    nearest_told label [] (labels_of statements) now.limit (texts now.found.items)
    (rw (wanted, listed, all) at (has.nearest (rw (wanted, listed) begun)))
