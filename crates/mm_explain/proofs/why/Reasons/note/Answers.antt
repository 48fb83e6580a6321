-- The refusal is explained, what it shares is noted, and then it is kept.
use Rattle.std.proofs.Common.{◌++◌, ◌∷◌, [], List, ap, map, subst, sym, ◌∙◌}
use Rattle.std.proofs.lemmas.Result.{on_ok_weaker}
use Rattle.mm_base.specs.Statement.{PlainStatement, plain_statement}
use Rattle.mm_text.specs.Files.{PlainFile, plain_file}
use Rattle.mm_rules.specs.Answer.{plain_refusal}
use Rattle.mm_rules.specs.Verdict.{PlainRefusal, sentences}
use Rattle.mm_explain.specs.Mirror.Outlined.{IsKeptOutline}
use Rattle.mm_explain.specs.Mirror.Reasons.{AreNoted}
use Rattle.mm_explain.proofs.Explanations.{explained_before, noted_more, told_parts}
use Rattle.mm_explain.proofs.why.Reasons.note.Goals as goal

pub note-requires : goal.note-requires
note-requires c =
    let r = c.requires.refused in
    (sentences r.before, told_parts r, c.last_number-id.ensures (sentences r.before) (told_parts r))

pub returns : goal.returns
returns c =
    let old = c.args.self.now in
    let files : List PlainFile = map plain_file old.files.now in
    let s : PlainStatement = plain_statement c.args.statement.now in
    let r = c.requires.refused in
    let told = c.in_ok-explain.ensures in
    let put = c.keep.ensures in
    let shared = c.in_ok-note.ensures (sentences r.before) (told_parts r)
    (c.last_number-id.ensures (sentences r.before) (told_parts r)) in
    let place = ap (λ (p : PlainRefusal). p.statement) r.refused.refused in
    on_ok_weaker c.keep.result
    (λ kept. record {
      same_profile = put.profile ∙ told.profile;
      same_source = put.source ∙ told.source;
      same_files = put.files ∙ told.files;
      kept = kept ∙ ap (λ v. v.items ++ c.args.refusal ∷ []) told.kept;
      noted = subst
          (λ now. (listed : List PlainRefusal) → AreNoted files listed old.shared
          → AreNoted files (listed ++ plain_refusal c.args.refusal ∷ []) now)
          (sym put.shared)
          (noted_more files (plain_refusal c.args.refusal) r.before s r.after r.ending old.shared
          c.note.new.self r.reads place (rw told.shared at shared));
      explains = explained_before old c.explain.new.self c.keep.new.self
          (plain_refusal c.args.refusal) told.explains put.explanations;
      outline = subst (IsKeptOutline files) (sym put.outline) told.outline;
    })
    put.kept
