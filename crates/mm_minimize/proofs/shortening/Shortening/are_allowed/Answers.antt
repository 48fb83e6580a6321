-- One more assertion may be used.
use Rattle.std.proofs.Common.{◌<◌, ℕ, List, map, length, get_or, Contains, subst}
use Rattle.std.proofs.lemmas.List.{take_all}
use Rattle.std.proofs.lemmas.Option.{slice_get-get_or}
use Rattle.mm_frame.specs.Numbers.{labelled_sentences}
use Rattle.mm_frame.specs.declared.number.LabelId.{LabelId}
use Rattle.mm_frame.proofs.Names.NameNumbers.{get_mapped}
use Rattle.mm_base.proofs.Lists.{all_at}
use Rattle.mm_minimize.specs.Mirror.Shortening.{IsAllowedIn}
use Rattle.mm_minimize.proofs.ShorterTheorems.ShorterProofs.{all_more}
use Rattle.mm_minimize.proofs.shortening.Shortening.are_allowed.Goals as goal

pub is_allowed-requires-clause-used : goal.is_allowed-requires-clause-used
is_allowed-requires-clause-used c =
    let used : List LabelId = c.args.used.now in
    let k : ℕ = c.loop-id.id-index in
    let x : LabelId = get_or used k (record { 0 = 0 }) in
    let at = slice_get-get_or used k (record { 0 = 0 }) c.loop-id-test.true in
    all_at (λ n. n < length (labelled_sentences c.args.self.now.checked.now.sentences)) (map (λ (l : LabelId). l.0) used) k x.0
    c.requires.used (get_mapped (λ (l : LabelId). l.0) used k x at)

pub loop-id-preserved : goal.loop-id-preserved
loop-id-preserved c =
    let used : List LabelId = c.args.used.now in
    let k : ℕ = c.loop-id.id-index in
    let x : LabelId = get_or used k (record { 0 = 0 }) in
    let at = slice_get-get_or used k (record { 0 = 0 }) c.loop-id-test.true in
    all_more (λ n. IsAllowedIn c.args.self.now.checked.now.files c.args.theorem.0 n) used k x at c.loop-id.invariant
    (c.is_allowed.ensures c.if-not-is_allowed.false)

pub returns : goal.returns
returns c = λ _.
    subst (λ (xs : List LabelId). (n : ℕ) → Contains (map (λ (l : LabelId). l.0) xs) n
    → IsAllowedIn c.args.self.now.checked.now.files c.args.theorem.0 n)
    (take_all c.loop-id.id-index c.args.used.now c.loop-id-test.false) c.loop-id.invariant
