use Rattle.std.proofs.Common.{None, refl, sym, ap, ◌∙◌}
use Rattle.mm_base.specs.Token.{plain_token}
use Rattle.mm_text.specs.Mirror.Reader.{Between, InBody, reading_of}
use Rattle.mm_text.specs.Mirror.Steps.{plain_scope}
use Rattle.mm_text.proofs.Reader.OneToken.{start_by, start_keyword, gives_same, gives_faulty}
use Rattle.mm_text.proofs.Reader.OneToken.{same_more}
use Rattle.mm_text.proofs.parts.from_keyword.Goals as goal

pub returns-in-Some : goal.returns-in-Some
returns-in-Some c =
    let t = plain_token c.args.first in
    let begins = sym c.bare_kind.ensures ∙ c.in-Some.is in
    gives_same _ _ _ _ _ _
    (same_more _ Between _ _ c.args.cursor.now t refl
    (start_keyword t c.args.keyword c.requires.sign c.requires.symbols ∙ ap (start_by t) begins)
    ∙ ap (λ s. reading_of (plain_scope c.args.scope.now) (InBody s) c.args.cursor.now)
    (sym c.begin.ensures))
    c.body.ensures

pub returns-in-None : goal.returns-in-None
returns-in-None c =
    let t = plain_token c.args.first in
    let begins = sym c.bare_kind.ensures ∙ c.in-None.is in
    gives_faulty _ Between _ _ c.args.cursor.now t _ None _ _ _ refl refl
    (start_keyword t c.args.keyword c.requires.sign c.requires.symbols ∙ ap (start_by t) begins)
    refl c.fault.ensures
