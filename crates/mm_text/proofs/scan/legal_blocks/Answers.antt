use Rattle.std.proofs.Common.{◌≡◌, ◌+◌, ◌≤◌, length, sym, ◌∙◌, ⊎_elim, true, arith}
use Rattle.std.specs.Prelude.{slice_range}
use Rattle.std.specs.List.{list_all}
use Rattle.std.proofs.str.Laws.{order}
use Rattle.mm_text.specs.Mirror.Position.{is_legal}
use Rattle.mm_text.proofs.Tokens.ManyBytes.{legal_in}
use Rattle.mm_text.proofs.scan.legal_blocks.Goals as goal

-- another block
pub loop-end-preserved : goal.loop-end-preserved
loop-end-preserved c =
    let bytes = c.args.bytes.now in
    let end = c.loop-end.end in
    let within : end + 1024 ≤ length bytes = omega arith in
    let all : list_all is_legal (slice_range bytes end (end + 1024)) ≡ true = sym c.is_legal_block.ensures ∙ c.if-not-is_legal_block.false in (
      omega (arith, c.loop-end.invariant.0),
      record {
        within = within;
        prefix = λ k high. ⊎_elim (λ before. c.loop-end.invariant.1.prefix k before) (λ from. legal_in bytes end (end + 1024) k within from high all) (order k end);
      },
    )
