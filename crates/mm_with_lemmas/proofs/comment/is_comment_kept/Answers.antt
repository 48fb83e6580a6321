-- By the bytes of both files.
use Rattle.std.proofs.Common.{◌↔◌, ℕ, List, map, subst}
use Rattle.mm_base.specs.Statement.{PlainStatement, plain_statement}
use Rattle.mm_text.specs.Files.{plain_file}
use Rattle.mm_render.specs.Shorter.{home_bytes}
use Rattle.mm_with_lemmas.specs.WithLemmas.{IsOwnCommentAt}
use Rattle.mm_with_lemmas.proofs.comment.is_comment_kept.Goals as goal

pub returns : goal.returns
returns c = λ t labelled text.
    let old : PlainStatement = plain_statement c.args.old.now in
    let new : PlainStatement = plain_statement c.args.new.now in
    subst (λ (bs : List ℕ). IsOwnCommentAt bs old.first.at text
    ↔ IsOwnCommentAt (home_bytes (map plain_file c.args.anew.now) new) new.first.at text)
    c.in-Some.ensures.home
    (subst (λ (bs : List ℕ). IsOwnCommentAt c.in-Some.bytes.now old.first.at text
    ↔ IsOwnCommentAt bs new.first.at text) c.in-Some-home_of.ensures.home
    (c.have_one_comment.ensures t text))
