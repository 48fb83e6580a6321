-- The prefix is the word that is given, or the usual one.
use Rattle.std.proofs.Common.{◌≡◌, ◌∙◌, codes, subst, sym, unwrap_or}
use Rattle.std.proofs.lemmas.Bool.{false≢true}
use Rattle.mm_words.specs.Words.{IsPrefix}
use Rattle.mm_words.proofs.LemmaWishes.{now_behind, now_in}
use Rattle.mm_words.proofs.lemma_file_request.prefix_of.Goals as goal

pub returns-then-is_prefix-clause-same : goal.returns-then-is_prefix-clause-same
returns-then-is_prefix-clause-same c = rw c.unwrap_or-prefix.ensures (now_behind c.args.given _)

pub returns-clause-fault : goal.returns-clause-fault
returns-clause-fault c = λ fit.
    let same : unwrap_or (now_in c.args.given) (codes "lem") ≡ c.unwrap_or-prefix.result.now =
    rw c.unwrap_or-prefix.ensures (now_behind c.args.given _) in
    false≢true (sym c.if-is_prefix.false ∙ c.is_prefix.ensures.1
    (rw c.as_bytes.ensures.value (subst IsPrefix same fit)))
