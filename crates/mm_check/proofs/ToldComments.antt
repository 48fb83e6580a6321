-- A statement that is told begins in its file, and what is found right before it there is its comment.
use Rattle.std.proofs.Common.{◌≡◌, ℕ, ◌+◌, ◌<◌, List, ◌∷◌, ◌++◌, length, map, get_or}
use Rattle.std.proofs.Common.{slice_get, Some, ap, subst, ◌∙◌, inl, codes}
use Rattle.std.specs.Prelude.{slice_range}
use Rattle.mm_base.specs.declared.file.File.{File}
use Rattle.mm_base.specs.Statement.{PlainStatement, plain_statement}
use Rattle.mm_base.proofs.Lists.{get_parted}
use Rattle.mm_text.specs.Files.{PlainFile, plain_file}
use Rattle.mm_text.specs.Remarks.{IsCommentBefore}
use Rattle.mm_explain.specs.declared.statement_at.Stated.{Stated}
use Rattle.mm_explain.specs.Mirror.Stated.{HasStated}
use Rattle.mm_minimize.proofs.ShorterTheorems.StatementRemarks.{begins_within, home_is}
use Rattle.mm_check.specs.Reply.{IsCommentText}

-- the statement that was found begins in a file
pub begins_there : (files : List PlainFile) (label : List ℕ) (r : Stated)
    → HasStated files label r
    → (f : PlainFile) × (slice_get files (plain_statement r.statement).first.file ≡ Some f)
    × ((plain_statement r.statement).first.at < length f.bytes)
begins_there files label r has =
    let s : PlainStatement = plain_statement r.statement in
    begins_within files (has.before ++ s ∷ has.at.after) has.at.ending (length has.before) s
    has.at.reads (get_parted has.before has.at.after s)

-- what is found in its file is told
pub comment_told : (files : List File) (s : PlainStatement) (d : File) (file : PlainFile)
    → slice_get (map plain_file files) s.first.file ≡ Some file
    → (text : List ℕ) (start stop : ℕ)
    → IsCommentBefore (get_or files s.first.file d).bytes.now s.first.at start stop
    → text ≡ slice_range (get_or files s.first.file d).bytes.now start (stop + 2) ++ codes "\n"
    → IsCommentText (map plain_file files) s text
comment_told files s d file there text start stop found said =
    let home = home_is files s d file there in
    inl (
      start,
      stop,
      subst (λ (bs : List ℕ). IsCommentBefore bs s.first.at start stop) home found,
      said ∙ ap (λ (bs : List ℕ). slice_range bs start (stop + 2) ++ codes "\n") home,
    )
