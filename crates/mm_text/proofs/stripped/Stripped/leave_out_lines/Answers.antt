use Rattle.std.proofs.Common.{◌<◌, length, arith}
use Rattle.mm_text.proofs.Alike.StrippedFiles.{lines_end, lines_more}
use Rattle.mm_text.proofs.stripped.Stripped.leave_out_lines.Goals as goal

pub returns-then-end-piece-clause-stripped : goal.returns-then-end-piece-clause-stripped
returns-then-end-piece-clause-stripped c = λ bytes stripped.
    let (from, within, (last, is), so_far) = c.loop-self.invariant in
    lines_end bytes c.loop-self.self.kept.items c.pass.new.self.kept.items c.args.piece.now c.loop-self.self.state c.pass.new.self.state c.args.start c.loop-self.at c.first_sought-end.result last
    from c.first_sought-end.ensures.from c.first_sought-end.ensures.within c.first_sought-end.ensures.passed is c.pass.ensures.kept (c.pass.ensures.state last is) (so_far bytes stripped)

pub loop-self-preserved : goal.loop-self-preserved
loop-self-preserved c =
    let (from, within, (last, is), so_far) = c.loop-self.invariant in
    let end = c.first_sought-end.result in
    let inside : end < length c.args.piece.now = omega (arith, c.first_sought-end.ensures.within, c.if-end-piece.false) in (
      omega (arith, from, c.first_sought-end.ensures.from),
      omega (arith, inside),
      (10, c.in_ok-leave_out.ensures.state),
      λ bytes stripped.
          lines_more bytes c.loop-self.self.kept.items c.leave_out.new.self.kept.items c.args.piece.now c.loop-self.self.state c.leave_out.new.self.state c.args.start c.loop-self.at end last
          from c.first_sought-end.ensures.from inside c.first_sought-end.ensures.passed c.if-piece-end-ne10.false is c.in_ok-leave_out.ensures.kept c.in_ok-leave_out.ensures.state (so_far bytes stripped),
    )
