-- The bytes are told, and the notes on them.
use Rattle.std.proofs.Common.{inl, ap}
use Rattle.mm_rules.specs.Answer.{verdict_of_conclusion}
use Rattle.mm_rules.specs.Conclusion.{Conclusion}
use Rattle.mm_with_lemmas.proofs.reply.told_file.Goals as goal

pub returns-in-Ok : goal.returns-in-Ok
returns-in-Ok c = λ statements reads has.
    let files = ap (λ (v : Conclusion). v.files) c.checked.view_is in
    inl (record {
      holds = c.requires statements reads;
      verdict = verdict_of_conclusion c.args.checked.now;
      judged = has;
      ends = c.conclusion_status.ensures;
      cut = c.args.is_cut;
      noted = rw (c.deref.ensures.value, c.bytes_of.ensures, files) at c.in-Ok.ensures;
    })
