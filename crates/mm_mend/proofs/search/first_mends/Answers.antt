-- One more change is tried.
use Rattle.std.proofs.Common.{◌≡◌, ◌<◌, ◌∙◌, ℕ, List, length, take, drop, arith, sym, subst, ap}
use Rattle.std.proofs.Common.{take-append-drop, length-append}
use Rattle.std.proofs.lemmas.Bool.{false≢true}
use Rattle.std.proofs.lemmas.List.{take_all, take_more}
use Rattle.mm_frame.specs.Sentence.{Sentence}
use Rattle.mm_step.specs.Plain.{token_texts}
use Rattle.mm_mend.specs.Mend.{AreFirst, IsMend, most_told}
use Rattle.mm_mend.specs.declared.change.Change.{Change}
use Rattle.mm_mend.proofs.FirstMends.{first_full, first_more, first_other}
use Rattle.mm_mend.proofs.search.first_mends.Goals as goal
use Rattle.mm_mend.proofs.search.first_mends.Goals.{then-branch+in_ok-push, else-branch}

pub loop-change-init : goal.loop-change-init
loop-change-init c = (
  omega (arith, ap (λ (l : List Change). length l) c.new-found.ensures.items),
  λ index s number. c.new-found.ensures.items,
)

pub returns-then-is_full : goal.returns-then-is_full
returns-then-is_full c = λ index s number.
    let st : List Sentence = c.args.book.now.statements in
    let changes : List Change = c.args.changes.now in
    let i = c.loop-change.change-index in
    let P : Change → Type 0 =
    IsMend (take index st) s (token_texts c.args.tokens.now) c.args.text.now in
    let full = ap (λ (l : List Change). length l) (sym c.deref.ensures.value)
    ∙ c.is_full.ensures.0 c.if-is_full.true in
    subst (λ (cs : List Change). AreFirst P most_told cs c.loop-change.found.items)
    (take-append-drop i changes)
    (first_full P most_told (take i changes) (drop i changes) c.loop-change.found.items
    (c.loop-change.invariant.1 index s number) full)

pub loop-change-preserved : goal.loop-change-preserved
loop-change-preserved c =
    let st : List Sentence = c.args.book.now.statements in
    let tokens : List (List ℕ) = token_texts c.args.tokens.now in
    let changes : List Change = c.args.changes.now in
    let i = c.loop-change.change-index in
    let more = take_more changes i _ c.loop-change-test.true in
    let found : List Change = c.loop-change.found.items in
    let other : length found ≡ most_told → ⊥ =
    λ e. false≢true (sym c.if-is_full.false
    ∙ c.is_full.ensures.1 (ap (λ (l : List Change). length l) c.deref.ensures.value ∙ e)) in
    let less : length found < most_told = omega (arith, c.loop-change.invariant.0, other) in
    elim c.if-branch.branch [
      | then-branch+in_ok-push w ↦ (
        rw (w.found-is, w.in_ok-push.ensures.items, length-append) (omega (arith, less)),
        λ index s number.
            let P : Change → Type 0 = IsMend (take index st) s tokens c.args.text.now in
            rw (w.found-is, w.in_ok-push.ensures.items, more)
            (first_more P most_told (take i changes) _ found less
            (c.loop-change.invariant.1 index s number)
            ((c.in_ok-is_mend.ensures index s number).0 w.if-branch.true)),
      )
      | else-branch w ↦ (
        rw w.found-is c.loop-change.invariant.0,
        λ index s number.
            let P : Change → Type 0 = IsMend (take index st) s tokens c.args.text.now in
            rw (w.found-is, more)
            (first_other P most_told (take i changes) _ found
            (c.loop-change.invariant.1 index s number)
            (λ h. false≢true (sym w.if-branch.false
            ∙ (c.in_ok-is_mend.ensures index s number).1 h))),
      )
    ]

pub returns : goal.returns
returns c = λ index s number.
    let st : List Sentence = c.args.book.now.statements in
    let changes : List Change = c.args.changes.now in
    subst
    (λ (cs : List Change). AreFirst (IsMend (take index st) s (token_texts c.args.tokens.now)
    c.args.text.now) most_told cs c.loop-change.found.items)
    (take_all c.loop-change.change-index changes c.loop-change-test.false)
    (c.loop-change.invariant.1 index s number)
