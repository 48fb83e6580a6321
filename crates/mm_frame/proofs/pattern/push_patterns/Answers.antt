use Rattle.std.proofs.Common.{◌≡◌, Some, length, set, refl, sym, ap, ◌∙◌, subst, arith, [], append-nil}
use Rattle.std.specs.List.{slice_get}
use Rattle.mm_frame.specs.declared.part.Part.{Part}
use Rattle.mm_frame.specs.Mirror.Patterned.{HaveFirstPatterns, AreNoted}
use Rattle.std.proofs.lemmas.Option.{slice_get-get_or}
use Rattle.mm_frame.specs.Mirror.Layout.{statements_of}
use Rattle.mm_frame.proofs.BookLists.GrownLists.{all_statements}
use Rattle.mm_base.proofs.Lists.{get_within}
use Rattle.mm_frame.proofs.Frames.FramePatterns.{longer_more, counted, essential_step, typed_step}
use Rattle.mm_frame.proofs.Frames.FramePatterns.{variables_same, few_hypotheses}
use Rattle.mm_frame.proofs.pattern.push_patterns.Goals as goal
use Rattle.mm_frame.proofs.pattern.push_patterns.Goals.{then-is_essential+in_ok-pattern, else-is_essential}

pub loop-i-init : goal.loop-i-init
loop-i-init c = record {
  longer = ([], sym (append-nil c.args.pieces.now.items));
  count = refl;
  patterned = λ t of. record { same = refl; each = λ i h lt at. absurd (omega arith) };
}

pub loop-i-preserved : goal.loop-i-preserved
loop-i-preserved c =
    let hs = c.loop-i.hypotheses.items in
    let i = c.loop-i.i in
    let so_far = c.loop-i.invariant.longer in
    elim c.if-is_essential.branch [
      | then-is_essential+in_ok-pattern w ↦ record {
        longer = rw w.pieces-is (longer_more _ _ _ so_far w.push_pattern.ensures.longer);
        count = c.set_pattern.ensures.count ∙ c.loop-i.invariant.count;
        patterned = λ t of.
            let have = c.loop-i.invariant.patterned t of in
            let there = slice_get-get_or c.args.indices.now i 0 c.loop-i-test.true in
            let (h, at) = get_within hs i (counted of hs i have.same c.loop-i-test.true) in
            let part = rw w.deref-then-is_essential.ensures.value at w.in_ok-pattern.ensures.part in
            rw w.pieces-is (essential_step of _ _ c.set_pattern.new.hypotheses.items _
            w.push_pattern.new.pieces.items _ _ h w.in_ok-pattern.pattern have there at
            (λ e at_e. w.symbols_in.ensures t e of.tables of.log_is of.flat_is at_e)
            (λ few. part) w.push_pattern.ensures.longer
            (c.set_pattern.ensures.noted h at ∙ ap (λ (part : Part). set hs i (record h { pattern = part })) w.pattern-is));
      }
      | else-is_essential w ↦ record {
        longer = rw w.pieces-is so_far;
        count = c.set_pattern.ensures.count ∙ c.loop-i.invariant.count;
        patterned = λ t of.
            let have = c.loop-i.invariant.patterned t of in
            let (h, at) = get_within hs i (counted of hs i have.same c.loop-i-test.true) in
            let seen : slice_get c.deref.result.now i ≡ Some h = ap (λ ks. slice_get ks i) c.deref.ensures.value ∙ at in
            rw w.pieces-is (typed_step _ _ _ c.set_pattern.new.hypotheses.items _ _ h have at (sym (c.is_essential.ensures h seen) ∙ w.if-is_essential.false)
            (c.set_pattern.ensures.noted h at ∙ ap (λ (part : Part). set hs i (record h { pattern = part })) w.pattern-is));
      }
    ]

pub returns-clause-patterned : goal.returns-clause-patterned
returns-clause-patterned c t of =
    let all : c.loop-i.i ≡ length c.args.indices.now = omega (arith, c.loop-i.auto.i-end, c.loop-i-test.false) in
    subst (HaveFirstPatterns (statements_of t) c.args.hypotheses.now.items c.loop-i.hypotheses.items c.loop-i.pieces.items) all (c.loop-i.invariant.patterned t of)

pub is_essential-requires : goal.is_essential-requires
is_essential-requires c =
    let (t, of) = c.requires.mandatory in
    let have = c.loop-i.invariant.patterned t of in
    rw c.deref.ensures.value (counted of _ _ have.same c.loop-i-test.true)

pub symbols_in-requires : goal.symbols_in-requires
symbols_in-requires c =
    let (t, of) = c.requires.mandatory in
    let there = slice_get-get_or c.args.indices.now c.loop-i.i 0 c.loop-i-test.true in
    let within = of.are_indices.within c.loop-i.i _ there in
    let all = all_statements t in
    omega (arith, ap length of.log_is)

pub push_pattern-requires-clause-few : goal.push_pattern-requires-clause-few
push_pattern-requires-clause-few c =
    let (t, of) = c.requires.mandatory in
    let few = few_hypotheses of in
    rw c.deref-then-is_essential.ensures.value (omega (arith, c.loop-i.invariant.count))

pub push_pattern-requires-clause-noted : goal.push_pattern-requires-clause-noted
push_pattern-requires-clause-noted c =
    let (t, of) = c.requires.mandatory in
    let have = c.loop-i.invariant.patterned t of in
    rw c.deref-then-is_essential.ensures.value
    (subst (AreNoted c.args.noted.now.indices.items) (sym (variables_same c.args.hypotheses.now.items c.loop-i.hypotheses.items have.same)) c.requires.noted)

pub set_pattern-requires : goal.set_pattern-requires
set_pattern-requires c =
    let (t, of) = c.requires.mandatory in
    counted of _ _ (c.loop-i.invariant.patterned t of).same c.loop-i-test.true
