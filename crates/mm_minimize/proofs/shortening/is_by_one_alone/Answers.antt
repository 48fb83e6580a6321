-- One more assertion has the type code, or another one.
use Rattle.std.proofs.Common.{◌≡◌, ◌+◌, ◌<◌, ℕ, List, take, length, get_or, Bool, true, false, sym, subst}
use Rattle.std.proofs.lemmas.List.{take_all}
use Rattle.std.proofs.lemmas.Option.{slice_get-get_or}
use Rattle.mm_frame.specs.Numbers.{labelled_sentences}
use Rattle.mm_frame.specs.declared.number.LabelId.{LabelId}
use Rattle.mm_frame.proofs.Names.NameNumbers.{get_mapped}
use Rattle.mm_base.proofs.Lists.{all_at}
use Rattle.mm_step.specs.Plain.{ids_in}
use Rattle.mm_minimize.specs.Mirror.Shortening.{HaveOneCode}
use Rattle.mm_minimize.proofs.ShorterTheorems.LoneUses.{IsOneSoFar, one_first, one_passed, one_second, one_all}
use Rattle.mm_minimize.proofs.shortening.is_by_one_alone.Goals as goal
use Rattle.mm_minimize.proofs.shortening.is_by_one_alone.Goals.{then-have_one_code+else-some, else-have_one_code}

pub loop-id-preserved : goal.loop-id-preserved
loop-id-preserved c =
    let P : ℕ → Type 0 = HaveOneCode c.args.book.now.statements c.args.theorem.0 in
    let used : List LabelId = c.args.used.now in
    let k : ℕ = c.loop-id.id-index in
    let x : LabelId = get_or used k (record { 0 = 0 }) in
    let at = slice_get-get_or used k (record { 0 = 0 }) c.loop-id-test.true in
    elim c.if-have_one_code.branch [
      | then-have_one_code+else-some w ↦
          subst (λ (b : Bool). IsOneSoFar P b (ids_in (take (k + 1) used))) (sym w.some-is)
          (one_first P used k x at
          (subst (λ (b : Bool). IsOneSoFar P b (ids_in (take k used))) w.if-some.false c.loop-id.invariant)
          (c.have_one_code.ensures.0 w.if-have_one_code.true))
      | else-have_one_code w ↦
          subst (λ (b : Bool). IsOneSoFar P b (ids_in (take (k + 1) used))) (sym w.some-is)
          (one_passed P c.loop-id.some used k x at c.loop-id.invariant
          (λ h. absurd (let t = c.have_one_code.ensures.1 h in let f = w.if-have_one_code.false in cc)))
    ]

pub have_one_code-requires-clause-other : goal.have_one_code-requires-clause-other
have_one_code-requires-clause-other c =
    let used : List LabelId = c.args.used.now in
    let k : ℕ = c.loop-id.id-index in
    let x : LabelId = get_or used k (record { 0 = 0 }) in
    let at = slice_get-get_or used k (record { 0 = 0 }) c.loop-id-test.true in
    all_at (λ n. n < length (labelled_sentences c.args.book.now.statements)) (ids_in used) k x.0
    c.requires.used (get_mapped (λ (l : LabelId). l.0) used k x at)

pub returns-then-some : goal.returns-then-some
returns-then-some c =
    let P : ℕ → Type 0 = HaveOneCode c.args.book.now.statements c.args.theorem.0 in
    let used : List LabelId = c.args.used.now in
    let k : ℕ = c.loop-id.id-index in
    let x : LabelId = get_or used k (record { 0 = 0 }) in
    let at = slice_get-get_or used k (record { 0 = 0 }) c.loop-id-test.true in (
      (λ t. absurd (let f : false ≡ true = t in cc)),
      λ one. absurd (one_second P used k x c.requires.rising at
          (subst (λ (b : Bool). IsOneSoFar P b (ids_in (take k used))) c.if-some.true c.loop-id.invariant)
          (c.have_one_code.ensures.0 c.if-have_one_code.true) one),
    )

pub returns : goal.returns
returns c =
    let P : ℕ → Type 0 = HaveOneCode c.args.book.now.statements c.args.theorem.0 in
    one_all P c.loop-id.some (ids_in c.args.used.now)
    (subst (λ (xs : List LabelId). IsOneSoFar P c.loop-id.some (ids_in xs))
    (take_all c.loop-id.id-index c.args.used.now c.loop-id-test.false) c.loop-id.invariant)
