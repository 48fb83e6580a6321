-- One statement more is kept in brief, and its first token where it has a label.
use Rattle.std.proofs.Common.{◌∷◌, [], ◌++◌, List, map, ap, sym, ◌∙◌, refl, append-nil}
use Rattle.std.proofs.lemmas.List.{map-append}
use Rattle.mm_base.specs.Statement.{PlainStatement, plain_statement}
use Rattle.mm_base.specs.Token.{PlainToken, plain_token}
use Rattle.mm_base.proofs.Lists.{zip_push}
use Rattle.mm_explain.specs.Mirror.Outlined.{IsBrief, firsts_of}
use Rattle.mm_explain.proofs.OwnHypotheses.{first_of_labelled, first_of_unlabelled, firsts_append}
use Rattle.mm_explain.proofs.outline.OutlinePassing.pass.Goals as goal

pub returns-in_ok-push-in-Some : goal.returns-in_ok-push-in-Some
returns-in_ok-push-in-Some c = λ first passed has.
    let s : PlainStatement = plain_statement c.args.statement.now in
    record {
      files = has.files;
      is = record {
        briefs = rw c.in_ok-push.ensures.items (zip_push IsBrief passed
            c.args.self.now.briefs.items s _ has.is.briefs
            (record { kind = refl; first = refl; label = refl }));
        firsts = ap (map plain_token) c.in_ok-push-in-Some.ensures.items
            ∙ map-append plain_token c.args.self.now.firsts.items
            (c.args.statement.now.first ∷ [])
            ∙ ap (λ (l : List PlainToken). l ++ s.first ∷ []) has.is.firsts
            ∙ ap (λ (l : List PlainToken). firsts_of passed ++ l)
            (sym (first_of_labelled s (rw c.in-Some.is refl)))
            ∙ sym (firsts_append passed (s ∷ []));
      };
    }

pub returns-in-None : goal.returns-in-None
returns-in-None c = λ first passed has.
    let s : PlainStatement = plain_statement c.args.statement.now in
    record {
      files = has.files;
      is = record {
        briefs = rw c.in_ok-push.ensures.items (zip_push IsBrief passed
            c.args.self.now.briefs.items s _ has.is.briefs
            (record { kind = refl; first = refl; label = refl }));
        firsts = has.is.firsts
            ∙ sym (firsts_append passed (s ∷ [])
            ∙ ap (λ (l : List PlainToken). firsts_of passed ++ l)
            (first_of_unlabelled s (rw c.in-None.is refl))
            ∙ append-nil (firsts_of passed));
      };
    }
