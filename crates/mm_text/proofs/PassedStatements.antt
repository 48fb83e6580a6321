-- Statements that are handed over as they are read: those so far and those left are all.
use Rattle.std.proofs.Common.{◌≡◌, ℕ, ◌+◌, ◌<◌, ◌≤◌, length, take, List, [], ◌∷◌, ◌++◌, true}
use Rattle.std.proofs.Common.{refl, sym, ap, subst, ◌∙◌, arith, append_assoc, append-nil, Option}
use Rattle.std.proofs.Common.{length-append, take_all, take_at}
use Rattle.mm_base.specs.Statement.{PlainStatement, HasForm}
use Rattle.mm_text.specs.Files.{PlainFile, BreaksLoad}
use Rattle.mm_text.specs.Reading.{PlainFault, Reads}
use Rattle.mm_text.specs.Remaining.{IsUnread, ReadsOn, Remaining}
use Rattle.mm_text.specs.Passing.{Passed, Passes, PassesNext}
use Rattle.mm_text.specs.declared.fault.LoadRule.{LoadRule}
use Rattle.mm_text.proofs.Reader.WholeReadings.{bytes_kept, each_has_one_reading, readings_few}

-- so many of the statements were handed over, and the others are left
pub record HandsOver {V : Type 0} (has_passed : Passed V) (all : List PlainStatement)
    (count : ℕ) (first now : V) (left : Remaining) : Type 0 where
  pub so_far : List PlainStatement
  pub whole : all ≡ so_far ++ left.statements
  pub counted : length so_far ≡ count
  pub passed : has_passed first now so_far

module _ {V : Type 0} (has_passed : Passed V) (all : List PlainStatement) (first : V) where
  -- none yet
  pub none_over : (left : Remaining) → all ≡ left.statements → has_passed first first []
      → HandsOver has_passed all 0 first first left
  none_over left whole begun =
      record { so_far = []; whole = whole; counted = refl; passed = begun }

  -- one more is next
  pub next_over : (n : ℕ) (now : V) (left : Remaining) (s : PlainStatement)
      → HandsOver has_passed all n first now left → n < 18446744073709551615 → HasForm s
      → PassesNext has_passed now s
  next_over n now left s over few formed = record {
    first = first;
    passed = over.so_far;
    so_far = over.passed;
    few = omega (arith, over.counted);
    formed = formed;
  }

  pub one_over : (n : ℕ) (now next : V) (old new : Remaining) (s : PlainStatement)
      → HandsOver has_passed all n first now old → ReadsOn old true s new
      → Passes has_passed now s next → HandsOver has_passed all (n + 1) first next new
  one_over n now next old new s over on passes = record {
    so_far = over.so_far ++ s ∷ [];
    whole = over.whole ∙ ap (λ ss. over.so_far ++ ss) on.0
        ∙ sym (append_assoc over.so_far (s ∷ []) new.statements);
    counted = length-append over.so_far (s ∷ [])
        ∙ ap (λ k. k + 1) over.counted;
    passed = passes first over.so_far over.passed;
  }

  -- so many
  pub many_over : (count n : ℕ) (now : V) (left : Remaining)
      → HandsOver has_passed all n first now left → n ≡ count
      → has_passed first now (take count all)
  many_over count n now left over is =
      subst (λ (ss : List PlainStatement). has_passed first now ss)
      (sym (ap (take count) over.whole
      ∙ take_at over.so_far left.statements count (over.counted ∙ is))) over.passed

  -- all that there are
  pub all_over : (count n : ℕ) (now : V) (left : Remaining)
      → HandsOver has_passed all n first now left → n ≤ count → left.statements ≡ []
      → has_passed first now (take count all)
  all_over count n now left over few none =
      let whole : all ≡ over.so_far =
      over.whole ∙ ap (λ ss. over.so_far ++ ss) none ∙ append-nil over.so_far in
      subst (λ (ss : List PlainStatement). has_passed first now ss)
      (sym (ap (take count) whole ∙ take_all count over.so_far (omega (arith, over.counted))))
      over.passed

-- a new reader has the one reading of its files left
pub left_unread : (files : List PlainFile) (left : Remaining) (statements : List PlainStatement)
    (ending : Option PlainFault) → IsUnread files left → Reads files statements ending
    → left.statements ≡ statements
left_unread files left statements ending unread reads =
    let only = (each_has_one_reading files).only in
    (only left.statements left.ending unread.reads).0 ∙ sym (only statements ending reads).0

-- so many are all
pub all_taken : (files : List PlainFile) (statements : List PlainStatement)
    (ending : Option PlainFault) → ((rule : LoadRule) → ¬ (BreaksLoad files rule))
    → Reads files statements ending → take 18446744073709551615 statements ≡ statements
all_taken files statements ending none reads =
    take_all 18446744073709551615 statements
    (omega (arith, readings_few files statements ending reads, bytes_kept files none))
