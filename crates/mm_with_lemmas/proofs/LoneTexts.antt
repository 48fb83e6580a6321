-- The texts that are put in, each read by itself, and the statements that they hold.
use Rattle.std.proofs.Common.{◌≡◌, ℕ, ◌+◌, ◌<◌, List, [], ◌∷◌, ◌++◌, map, length, take, get_or}
use Rattle.std.proofs.Common.{Option, None, true, false, refl, sym, ap, subst, ◌∙◌, arith}
use Rattle.std.proofs.Common.{append_assoc, append-nil, slice_get, Some, length-append}
use Rattle.std.specs.Prelude.{Ok}
use Rattle.std.specs.List.{flat_map}
use Rattle.std.proofs.lemmas.List.{get_or-map, map-append}
use Rattle.std.proofs.lemmas.List.Concat.{flat_map-append}
use Rattle.mm_base.specs.Statement.{PlainStatement, plain_statement}
use Rattle.mm_base.proofs.Lists.{same_length, zip_push}
use Rattle.mm_frame.proofs.Names.NameNumbers.{get_mapped}
use Rattle.mm_proof.proofs.ProofNumbers.MoreLabels.{one_more}
use Rattle.std.proofs.lemmas.Option.{slice_get_read}
use Rattle.mm_text.specs.Files.{PlainFile}
use Rattle.mm_text.specs.Reading.{PlainFault, Reads}
use Rattle.mm_text.specs.Remaining.{Gives, IsUnread, Remaining}
use Rattle.mm_with_lemmas.specs.WithLemmas.{Edit}
use Rattle.mm_with_lemmas.specs.declared.change.Change.{Change}
use Rattle.mm_with_lemmas.specs.declared.change.Change.TheVariants.{Proof, Lemmas}
use Rattle.mm_with_lemmas.specs.declared.lone.Put.{Put}
use Rattle.mm_with_lemmas.specs.Mirror.Editing.{ArePut, HasPushed, IsEditOf, PutsIn, PutsLone}
use Rattle.mm_with_lemmas.specs.Mirror.Editing.{PutsMore, lone_file, place_of, put_statements}

-- ---- lists of which functions are the same

pub same_at : {A B C : Type 0} (f : A → C) (g : B → C) (xs : List A) (ys : List B) (i : ℕ) (d : A)
    (e : B) → map f xs ≡ map g ys → i < length ys → f (get_or xs i d) ≡ g (get_or ys i e)
same_at f g xs ys i d e is within =
    let count : length xs ≡ length ys = same_length f g xs ys is in
    sym (get_or-map f xs i d (f d) (omega arith)) ∙ ap (λ zs. get_or zs i (f d)) is
    ∙ get_or-map g ys i e (f d) within

-- ---- the statements of one text

pub pushed_none : (left : Remaining) (before : List PlainStatement)
    → HasPushed left left before before
pushed_none left before = record {
  pushed = [];
  whole = refl;
  all = sym (append-nil before);
  ending = refl;
}

-- one more
pub pushed_on : (first old new : Remaining) (before : List PlainStatement) (put more : List Put)
    (p : Put) → HasPushed first old before (put_statements put)
    → Gives old (Ok true) new (plain_statement p.statement) → more ≡ put ++ p ∷ []
    → HasPushed first new before (put_statements more)
pushed_on first old new before put more p h gives is =
    let s : PlainStatement = plain_statement p.statement in
    record {
      pushed = h.pushed ++ s ∷ [];
      whole = h.whole ∙ ap (λ (ss : List PlainStatement). h.pushed ++ ss) gives.2
          ∙ sym (append_assoc h.pushed (s ∷ []) new.statements);
      all = ap put_statements is ∙ map-append (λ (q : Put). plain_statement q.statement) put (p ∷ [])
          ∙ ap (λ (ss : List PlainStatement). ss ++ s ∷ []) h.all
          ∙ append_assoc before h.pushed (s ∷ []);
      ending = ap (λ (r : Remaining). r.ending) gives.3 ∙ h.ending;
    }

-- all of them, where no fault ends them
pub pushed_all : (first old new : Remaining) (before put : List PlainStatement) (s : PlainStatement)
    → HasPushed first old before put → Gives old (Ok false) new s
    → (first.ending ≡ None) × (put ≡ before ++ first.statements)
pushed_all first old new before put s h gives = (
  sym h.ending ∙ gives.2,
  h.all ∙ ap (λ (ss : List PlainStatement). before ++ ss)
      (sym (append-nil h.pushed) ∙ ap (λ (ss : List PlainStatement). h.pushed ++ ss) (sym gives.1)
      ∙ sym h.whole),
)

-- the text reads as these
pub read_alone : (file : PlainFile) (left : Remaining) (before put : List PlainStatement)
    → IsUnread (file ∷ []) left → (left.ending ≡ None) × (put ≡ before ++ left.statements)
    → (lemmas : List PlainStatement) × Reads (file ∷ []) lemmas None × (put ≡ before ++ lemmas)
read_alone file left before put unread (ending, all) = (
  left.statements,
  subst (λ (o : Option PlainFault). Reads (file ∷ []) left.statements o) ending unread.reads,
  all,
)

-- it holds some where there are more of them then
pub some_lone : (file : PlainFile) (before put : List PlainStatement)
    → (lemmas : List PlainStatement) × Reads (file ∷ []) lemmas None × (put ≡ before ++ lemmas)
    → length before < length put → PutsLone file before put
some_lone file before put (lemmas, reads, all) more = (
  lemmas,
  reads,
  λ none. absurd (let count = ap (λ (ss : List PlainStatement). length ss) all in
      let joined = length-append before lemmas in
      let empty = ap (λ (ss : List PlainStatement). length ss) none in
      omega (arith, count, joined, empty, more)),
  all,
)

-- ---- the statements of all texts

-- a proof puts nothing in
pub proof_puts : (change : Change) (put : List PlainStatement) → ¬ (PutsIn change)
    → PutsMore change put put
proof_puts (Proof span text) put none = (
  record { place = place_of (Proof span text); lemmas = [] },
  (refl, refl),
  sym (append-nil put),
)
proof_puts (Lemmas at text) put none = absurd (none tt)

-- and lemmas what their text reads as, if it holds some
pub lemmas_put : (change : Change) (file : PlainFile) (before put : List PlainStatement)
    → PutsIn change → file ≡ lone_file change → PutsLone file before put
    → PutsMore change before put
lemmas_put (Proof span text) file before put some is h = absurd some
lemmas_put (Lemmas at text) file before put some is (lemmas, reads, holds, all) = (
  record { place = place_of (Lemmas at text); lemmas = lemmas },
  (refl, subst (λ (f : PlainFile). Reads (f ∷ []) lemmas None) is reads, holds),
  all,
)

pub put_none : (put : List PlainStatement) → put ≡ [] → ArePut [] put
put_none put none = ([], tt, none)

-- one more change
pub put_on : (done : List Change) (change : Change) (before put : List PlainStatement)
    → ArePut done before → PutsMore change before put → ArePut (done ++ change ∷ []) put
put_on done change before put (edits, each, all) (edit, is, more) = (
  edits ++ edit ∷ [],
  zip_push IsEditOf done edits change edit each is,
  more ∙ ap (λ (ss : List PlainStatement). ss ++ edit.lemmas) all
      ∙ sym (flat_map-append (λ (e : Edit). e.lemmas) edits (edit ∷ [])
      ∙ ap (λ (ss : List PlainStatement). flat_map (λ (e : Edit). e.lemmas) edits ++ ss)
      (append-nil edit.lemmas)),
)

-- the statement at an index
pub put_at : (put : List Put) (i : ℕ) (p : Put) → i < length put → p ≡ get_or put i p
    → slice_get (put_statements put) i ≡ Some (plain_statement p.statement)
put_at put i p less is =
    get_mapped (λ (q : Put). plain_statement q.statement) put i p
    (slice_get_read put (length put) i p refl less is)

-- the change at an index
pub put_with : (changes : List Change) (i : ℕ) (d : Change) (before put : List PlainStatement)
    → i < length changes → ArePut (take i changes) before → PutsMore (get_or changes i d) before put
    → ArePut (take (i + 1) changes) put
put_with changes i d before put less h more =
    let x : Change = get_or changes i d in
    subst (λ (cs : List Change). ArePut cs put) (sym (one_more changes i d x less refl))
    (put_on (take i changes) x before put h more)
