-- A lemma that can be told is listed, and any other is passed over.
use Rattle.std.proofs.Common.{◌++◌, ◌∷◌, [], List, arith, subst, sym}
use Rattle.mm_text.specs.Files.{PlainFile}
use Rattle.mm_lemmas.specs.declared.listing.Listing.{Listing}
use Rattle.mm_lemmas.specs.Mirror.Listing.{IsListedSoFar, line_of}
use Rattle.mm_lemmas.proofs.LemmaLines.{listed_more}
use Rattle.mm_lemmas.proofs.listing.list_each.Goals.{in-Some+in_ok-push-in-Some+in_ok-push-in-Some-2, in-None+in_ok-push-in-None}
use Rattle.mm_lemmas.proofs.listing.list_each.Goals as goal

pub loop-lemma-preserved : goal.loop-lemma-preserved
loop-lemma-preserved c =
    let so_far = c.loop-lemma.invariant in
    let files : List PlainFile = c.args.checked.now.files in
    let less = c.if-before-most.false in
    elim c.match-branch-2.branch [
      | in-Some+in_ok-push-in-Some+in_ok-push-in-Some-2 w ↦ (
        so_far.0 ++ line_of w.in-Some.told ∷ [],
        subst (λ (l : Listing). IsListedSoFar c.args.most c.args.least files
            (so_far.0 ++ line_of w.in-Some.told ∷ []) l) (sym w.list-is)
            (listed_more c.args.most c.args.least files so_far.0 (line_of w.in-Some.told)
            c.loop-lemma.list w.push.new.self so_far.1 (omega (arith, less))
            w.in_ok-push-in-Some.ensures
            (λ statements reads. let told = rw w.in-Some.is at c.in_ok-told.ensures in record {
              saves = told.0;
              upper = (told.1 statements reads).upper;
              lower = (told.1 statements reads).lower;
              known = (told.1 statements reads).known;
            })),
      )
      | in-None+in_ok-push-in-None w ↦ (
        so_far.0,
        subst (λ (l : Listing). IsListedSoFar c.args.most c.args.least files so_far.0 l)
            (sym w.list-is) so_far.1,
      )
    ]
