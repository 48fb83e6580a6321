use Rattle.std.proofs.Common.{map, sym, ◌∙◌, refl, arith}
use Rattle.std.proofs.lemmas.Bool.{not-true, not-false}
use Rattle.std.proofs.lemmas.List.{take_all, length-map}
use Rattle.mm_text.specs.declared.names.Name.{Name}
use Rattle.mm_text.proofs.Inclusions.OpenFiles.{kept_more, apart_with, twins_found, no_twins}
use Rattle.mm_text.proofs.Inclusions.OpenFiles.{plain_names}
use Rattle.mm_text.proofs.names.Names.of.Goals as goal

pub loop-file-preserved : goal.loop-file-preserved
loop-file-preserved c =
    let files = c.args.files.now in
    let keys = c.loop-file.numbers.keys in
    let n = c.loop-file.file-index in
    let none = not-true _ (sym c.in_ok-is_new.ensures.added ∙ c.if-not-is_new.false) in
    record {
      kept = kept_more (λ (k : Name). k.0.now) keys files n _ c.loop-file-test.true c.loop-file.invariant.kept _ refl _ _ c.in_ok-is_new.ensures.keys none;
      apart = apart_with (λ (k : Name). k.0.now) keys files n _ c.loop-file-test.true c.loop-file.invariant.kept c.loop-file.invariant.apart none;
    }

pub returns-then-not-is_new : goal.returns-then-not-is_new
returns-then-not-is_new c =
    let some = not-false _ (sym c.in_ok-is_new.ensures.added ∙ c.if-not-is_new.true) in
    (refl, twins_found (λ (k : Name). k.0.now) c.loop-file.numbers.keys c.args.files.now c.loop-file.file-index _ c.loop-file-test.true c.loop-file.invariant.kept some)

pub returns : goal.returns
returns c =
    let files = c.args.files.now in (
      c.loop-file.invariant.kept
          ∙ take_all c.loop-file.file-index (map (λ f. f.name.now) files) (omega (arith, length-map files (λ f. f.name.now)))
          ∙ sym (plain_names files),
      no_twins files c.loop-file.file-index c.loop-file-test.false c.loop-file.invariant.apart,
    )
