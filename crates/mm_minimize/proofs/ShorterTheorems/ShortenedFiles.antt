-- A file on its way to having shorter proofs: theorem by theorem, from the first span on.
use Rattle.std.proofs.Common.{◌≡◌, ℕ, ◌≤◌, List, [], ◌∷◌, ◌++◌, take, length, slice_get}
use Rattle.std.proofs.Common.{Bool, true, false, cond, ◌&&◌, ◌==◌, Option, Some, None}
use Rattle.std.specs.Prelude.{IfSome}
use Rattle.std.proofs.Common.{◌⊎◌, inl, inr, refl, sym, ap, subst, ◌∙◌}
use Rattle.std.proofs.Common.{append-nil}
use Rattle.std.proofs.lemmas.Bool.{cases_Bool, false_from_ne_true}
use Rattle.std.proofs.lemmas.List.Elements.{filter-append}
use Rattle.std.proofs.lemmas.Option.{same_Some}
use Rattle.mm_base.specs.declared.statement.Kind.TheVariants.{Provable}
use Rattle.mm_base.specs.Statement.{PlainStatement, HasForm, plain_statement}
use Rattle.mm_text.specs.Reading.{Reads}
use Rattle.mm_text.specs.Replaced.{with_span}
use Rattle.mm_frame.specs.declared.number.LabelId.{LabelId}
use Rattle.mm_frame.specs.Sentence.{Sentence, sentence_of}
use Rattle.mm_step.specs.Moves.{Move}
use Rattle.mm_step.specs.Tree.{Trees}
use Rattle.mm_rules.specs.declared.ask.AskFault.{AskFault}
use Rattle.mm_render.specs.declared.forms.OwnProof.{OwnProof}
use Rattle.mm_verdict.specs.declared.theorem.Theorem.{Theorem}
use Rattle.mm_verdict.specs.Mirror.Rewriting.{IsHomeOf}
use Rattle.mm_verdict.specs.Mirror.Theorems.{AreProvedSteps, AreStepsOf}
use Rattle.mm_render.specs.Forms.{IsSmallOf}
use Rattle.mm_minimize.specs.declared.proof_pair.Compared.{Compared}
use Rattle.mm_minimize.specs.declared.shortening.Shorter.{Shorter}
use Rattle.mm_verdict.specs.declared.form.Form.TheVariants.{Small}
use Rattle.mm_save.specs.declared.save_all.NewFile.{NewFile}
use Rattle.mm_verdict.specs.declared.theorems.Rereading.{Rereading}
use Rattle.mm_save.specs.AllSaved.{Replacement, is_theorem_of, theorems_of}
use Rattle.mm_minimize.specs.AllShorter.{IsAllShortened, IsAllShorterFault, IsOneShortened}
use Rattle.mm_minimize.specs.AllShorter.{IsPutShorter, IsShortened}
use Rattle.mm_rules.specs.Conclusion.{Conclusion}
use Rattle.mm_render.specs.Saved.{IsSpanText, within_span}
use Rattle.mm_rules.specs.Verdict.{is_proof, sentences}
use Rattle.mm_save.specs.Mirror.AllSaving.{AreReplacedSoFar, IsFinishFault, IsTakenSoFar, IsWhole}
use Rattle.mm_minimize.specs.Mirror.AllShortening.{AreCompared, IsAllShortenedIn, IsFileOfFound}
use Rattle.mm_minimize.specs.Mirror.AllShortening.{IsShortenedSoFar, IsShorterFor, IsTextOfFound}
use Rattle.mm_minimize.specs.Mirror.AllShortening.{IsWanted, MayBeWritten}
use Rattle.mm_minimize.specs.Mirror.AllShortening.{MayStandIn, PutsShorter}
use Rattle.mm_verdict.specs.Mirror.Rereading.{AreNoTheorems, GoesTo}
use Rattle.mm_render.specs.Mirror.Rewriting.{IsSpanTextOf}
use Rattle.mm_render.specs.Mirror.Shortening.{AreHanded}
use Rattle.mm_minimize.specs.Mirror.Shortening.{IsFound, MakeTreeOf}
use Rattle.mm_minimize.proofs.ShorterTheorems.ShorterProofs.{small_of}
use Rattle.mm_verdict.proofs.Questions.AskedTheorems.{map-take}
use Rattle.mm_verdict.proofs.Questions.TheoremsAgain.{at_reads}
use Rattle.mm_save.proofs.Saving.FileSpans.{theorem_there, theorems_passed}
use Rattle.mm_save.proofs.Saving.FileSpans.{theorem_home}
use Rattle.mm_verdict.proofs.FileBytes.StatementsInFiles.{provable_proof}
use Rattle.mm_save.proofs.Saving.WrittenFiles.{label_there}
use Rattle.mm_verdict.proofs.Verdicts.AcceptedStatements.{same_reading}
use Rattle.mm_minimize.specs.Mirror.AllShortening.{MayReplace}
use Rattle.mm_save.proofs.Saving.FilesUnderWay.{follows_next, replaced_next, stands_next}
use Rattle.mm_save.proofs.Saving.FilesUnderWay.{rewrite_fault, rewritten, way_next, way_past}
use Rattle.mm_base.proofs.Lists.{zip_weaker}

-- ==== what may stand in place of a theorem's proof

-- what is put for the steps is what is put for their tree
put_for_tree : (statements : List PlainStatement) (told : List Sentence) (id index : ℕ) (s : Sentence)
    (steps : List (Move ℕ)) (t : Trees) (old put : List ℕ) → told ≡ sentences statements
    → MakeTreeOf (sentences statements) id index s steps t
    → IsSpanTextOf Small told id steps old put
    → IsSpanText Small (sentences (take index statements)) s t old put
put_for_tree statements told id index s steps t old put same made holds =
    let here = subst (λ (ss : List Sentence). IsSpanTextOf Small ss id steps old put) same holds in
    subst (λ (ss : List Sentence). IsSpanText Small ss s t old put) (sym (map-take index statements))
    (subst (λ (u : Trees). IsSpanText Small (take index (sentences statements)) s u old put)
    (sym made.whole)
    (here index s made.moves made.number made.numbered made.label made.below made.made))

-- the small proof of a shorter tree is put
put_shorter : (c : Conclusion) (duplicates : Bool) (statements : List PlainStatement)
    (label : List ℕ) (theorem : Theorem) (own : OwnProof) (new : Shorter) (old put : List ℕ)
    → c.sentences ≡ sentences statements → IsSmallOf statements label own.text.items
    → IsFound c.profile c.files statements label theorem own new
    → new.theorem.id.0 ≡ theorem.id.0 → (duplicates ≡ true) ⊎ (new.is_duplicate ≡ false)
    → IsSpanTextOf Small c.sentences new.theorem.id.0 new.theorem.steps.moves old put
    → IsPutShorter c.profile duplicates c.files statements label old put
put_shorter c duplicates statements label theorem own new old put told small f same chosen laid =
    record {
      own = own.text.items;
      is_own = small;
      t = f.t;
      text = new.proof.text.items;
      shorter = f.shorter;
      chosen = elim chosen [
        | inl all ↦ inl all
        | inr other ↦ inr (λ alone. let told = f.alone.1 alone in absurd cc)
      ];
      laid = put_for_tree statements c.sentences f.shorter.id f.shorter.index
          (sentence_of f.shorter.s) new.theorem.steps.moves f.t old put told f.made
          (subst (λ (n : ℕ). IsSpanTextOf Small c.sentences n new.theorem.steps.moves old put)
          (same ∙ sym f.number) laid);
    }

-- the shorter proof
pub stands_shorter : (c : Conclusion) (duplicates : Bool) (id : ℕ) (s : PlainStatement)
    (both : Compared) (old put bytes : List ℕ) → HasForm s → is_proof s ≡ true
    → IsShorterFor c id s both
    → (duplicates ≡ true) ⊎ (both.new.is_duplicate ≡ false)
    → IsSpanTextOf Small c.sentences both.new.theorem.id.0 both.new.theorem.steps.moves old put
    → old ≡ within_span bytes s.span → MayStandIn c duplicates bytes s put
stands_shorter c duplicates id s both old put bytes formed complete h chosen laid stands statements
    reads =
    let provable = provable_proof s complete in
    let (label, named) = label_there s formed provable in
    let f = h.found label named statements reads in
    let put_there = put_shorter c duplicates statements label h.old both.own both.new old put
    (h.told statements reads) (h.own_text label named statements reads) f (h.number ∙ sym h.same)
    chosen laid in (
      refl,
      inr (
        label,
        named,
        subst (λ (o : List ℕ). IsPutShorter c.profile duplicates c.files statements label o put)
            stands put_there,
      ),
    )

-- a shorter proof is wanted, or it isn't
wanted_cases : (duplicates : Bool) (new : Shorter)
    → IsWanted duplicates new ⊎ ¬ (IsWanted duplicates new)
wanted_cases true new = inl (inl refl)
wanted_cases false new = elim (cases_Bool new.is_duplicate) [
  | inl alone ↦ inr (λ wanted. elim wanted [
    | inl all ↦ absurd cc
    | inr other ↦ absurd cc
  ])
  | inr other ↦ inl (inr other)
]

-- it is one of its theorem
pub may_be_written : (c : Conclusion) (id : ℕ) (s : PlainStatement) (found : Option Compared)
    → IfSome found (IsShorterFor c id s) → IfSome found (MayBeWritten c)
may_be_written c id s None h = tt
may_be_written c id s (Some both) h =
    let handed = subst (λ (n : ℕ). AreHanded c.profile c.sentences n both.new.theorem.steps both.new.used)
    (sym h.number) h.handed in (handed.usable, handed.proved, handed.whole)

-- what was found, or the old bytes
pub found_stands : (c : Conclusion) (duplicates : Bool) (id : ℕ) (s : PlainStatement)
    (found : Option Compared) (old put bytes : List ℕ) → HasForm s → is_proof s ≡ true
    → IfSome found (IsShorterFor c id s) → IsTextOfFound c duplicates found old put
    → old ≡ within_span bytes s.span → MayStandIn c duplicates bytes s put
found_stands c duplicates id s None old put bytes formed complete h text stands statements reads =
    (refl, inl (text ∙ stands))
found_stands c duplicates id s (Some both) old put bytes formed complete h text stands statements
    reads =
    elim (wanted_cases duplicates both.new) [
      | inl wanted ↦
          stands_shorter c duplicates id s both old put bytes formed complete h wanted
          (text.0 wanted) stands statements reads
      | inr unwanted ↦ (refl, inl (text.1 unwanted ∙ stands))
    ]

-- ==== the file of one theorem

-- a shorter proof of the theorem may be written
pub compared_written : (c : Conclusion) (theorem : Theorem) (found : Option Compared)
    → IfSome found (AreCompared c theorem) → IfSome found (MayBeWritten c)
compared_written c theorem None h = tt
compared_written c theorem (Some both) h =
    let handed = subst (λ (n : ℕ). AreHanded c.profile c.sentences n both.new.theorem.steps
    both.new.used) (sym h.anew.number) h.anew.handed in
    (handed.usable, handed.proved, handed.whole)

module _ (c : Conclusion) (statements : List PlainStatement) (label : List ℕ) (theorem : Theorem)
    (reads : Reads c.files statements None) (same : c.sentences ≡ sentences statements)
    (r : AreStepsOf statements label theorem.id.0 theorem.steps.moves)
    (proved : AreProvedSteps c.sentences theorem.id.0 theorem.steps) where
  -- the old bytes stay, or it is put
  put_or_kept : (found : Option Compared) (old put : List ℕ) → IfSome found (AreCompared c theorem)
      → IsTextOfFound c true found old put
      → (put ≡ old) ⊎ IsPutShorter c.profile true c.files statements label old put
  put_or_kept None old put h text = inl text
  put_or_kept (Some both) old put h text =
      inr (put_shorter c true statements label theorem both.own both.new old put same
      (small_of statements c.sentences label theorem both.own same r proved h.own)
      (h.found label statements reads r) h.anew.number (inl refl) (text.0 (inl refl)))

  -- and so is the file
  pub one_shortened : (found : Option Compared) (bytes : List ℕ)
      → IsHomeOf statements label theorem.file theorem.span
      → IfSome found (AreCompared c theorem) → IsFileOfFound c theorem found bytes
      → IsOneShortened c.profile c.files statements label bytes
  one_shortened found bytes home h (old, put, stood, text, new) =
      let at = home r.s (r.index, r.there, r.named) in
      let file : stood.0 ≡ new.0 = same_Some stood.0 new.0 (sym stood.1 ∙ new.1) in
      let place : old ≡ within_span new.0.bytes r.s.span =
      stood.2 ∙ (λ i. within_span (file i).bytes (at.1 i)) in
      record {
        index = r.index;
        s = r.s;
        there = r.there;
        named = r.named;
        complete = r.complete;
        file = new.0;
        handed = ap (slice_get c.files) (sym at.0) ∙ new.1;
        new = record { span = r.s.span; text = put };
        shortened = (
          refl,
          elim (put_or_kept found old put h text) [
            | inl kept ↦ inl (kept ∙ place)
            | inr shorter ↦ inr (
              label,
              r.named,
              subst (λ (o : List ℕ). IsPutShorter c.profile true c.files statements label o put)
                  place shorter,
            )
          ],
        );
        whole = new.2 ∙ ap (λ (p : ℕ × ℕ). with_span new.0.bytes p put) at.1;
      }

-- ==== the file, theorem by theorem

-- ---- statements that are no theorems of the file

none_among : (number : ℕ) (between : List PlainStatement) → AreNoTheorems between
    → theorems_of number between ≡ []
none_among number [] bare = refl
none_among number (s ∷ between) bare =
    let no : is_theorem_of number s ≡ false =
    ap (λ (b : Bool). b && (s.first.file == number)) bare.0 in
    ap (λ (b : Bool). cond b (s ∷ theorems_of number between) (theorems_of number between)) no
    ∙ none_among number between bare.1

same_theorems : (c : Conclusion) (duplicates : Bool) (taken more : List PlainStatement)
    (file : NewFile)
    → theorems_of file.number (taken ++ more) ≡ theorems_of file.number taken
    → IsShortenedSoFar c duplicates taken file → IsShortenedSoFar c duplicates (taken ++ more) file
same_theorems c duplicates taken more file same w =
    let h = w.so_far in
    record {
      way = way_past c.files taken more file w.way;
      so_far = record {
        replaced = h.replaced;
        each = rw same h.each;
        bytes = h.bytes;
        up_to = h.up_to;
        put = h.put;
      };
    }

pub shortened_past : (c : Conclusion) (duplicates : Bool) (taken between : List PlainStatement)
    (file : NewFile) → AreNoTheorems between → IsShortenedSoFar c duplicates taken file
    → IsShortenedSoFar c duplicates (taken ++ between) file
shortened_past c duplicates taken between file bare w =
    same_theorems c duplicates taken between file
    (filter-append (is_theorem_of file.number) taken between
    ∙ ap (λ (ss : List PlainStatement). theorems_of file.number taken ++ ss)
    (none_among file.number between bare)
    ∙ append-nil (theorems_of file.number taken)) w

-- ---- the theorem that is met next

module _ (c : Conclusion) (duplicates : Bool) (taken : List PlainStatement) (file : NewFile)
    (reading : Rereading) (id : LabelId) (goes : GoesTo c.files taken (Some id) reading)
    (w : IsShortenedSoFar c duplicates taken file) where
  abbrev met : List PlainStatement
  met = taken ++ goes.0

  abbrev own : PlainStatement
  own = plain_statement reading.statement

  past : IsShortenedSoFar c duplicates met file
  past = shortened_past c duplicates taken goes.0 file goes.1 w

  met_reads : Reads c.files (met ++ own ∷ reading.statements.statements) None
  met_reads = at_reads c.files met id.0 reading goes.2

  provable : own.kind ≡ Provable
  provable = provable_proof own goes.2.complete

  pub next_stands : own.first.file ≡ file.number
      → (own.span.0 ≤ own.span.1) × (own.span.1 ≤ length file.source.now)
  next_stands home =
      stands_next c.files met own reading.statements.statements None file met_reads provable home
      past.way

  pub next_follows : own.first.file ≡ file.number → file.taken ≤ own.span.0
  next_follows home =
      follows_next c.files met own reading.statements.statements None file met_reads provable home
      past.way

  -- what may stand in its place was put
  pub next_put : own.first.file ≡ file.number → (next : NewFile)
      → PutsShorter c duplicates own file next
      → IsShortenedSoFar c duplicates (met ++ own ∷ []) next
  next_put home next put =
      let h = past.so_far in
      record {
        way = way_next c.files met own reading.statements.statements None file met_reads provable
            home past.way next put.text put.puts;
        so_far = replaced_next (MayReplace c duplicates next.source.now) met own file next put.text
            (theorem_there file.number own goes.2.complete home) h.replaced
            (rw put.puts.same.source h.each) h.bytes h.up_to h.put put.puts
            (rw put.puts.same.source put.may);
      }

  pub next_elsewhere : ¬ (own.first.file ≡ file.number)
      → IsShortenedSoFar c duplicates (met ++ own ∷ []) file
  next_elsewhere other =
      same_theorems c duplicates met (own ∷ []) file
      (theorems_passed file.number met own (false_from_ne_true (is_theorem_of file.number own)
      (λ is. other (theorem_home file.number own is)))) past

-- ---- the end

module _ (c : Conclusion) (duplicates : Bool) (number : ℕ) (file : NewFile)
    (all : IsAllShortenedIn c duplicates number file) (statements : List PlainStatement)
    (reads : Reads c.files statements None) where
  abbrev Shortened : (own : List ℕ) → PlainStatement → Replacement → Type 0
  Shortened = IsShortened c.profile duplicates c.files statements

  way : IsTakenSoFar c.files statements file
  way =
      rw (same_reading c.files all.statements statements None None all.reads reads).0 at
      all.so_far.way

  so_far : AreReplacedSoFar (Shortened file.source.now) statements file
  so_far =
      let h = rw (same_reading c.files all.statements statements None None all.reads reads).0 at
      all.so_far.so_far in
      record {
        replaced = h.replaced;
        each = zip_weaker (MayReplace c duplicates file.source.now) (Shortened file.source.now)
            (λ s new may. may statements reads) (theorems_of file.number statements) h.replaced
            h.each;
        bytes = h.bytes;
        up_to = h.up_to;
        put = h.put;
      }

  -- the bytes are those of the file with shorter proofs
  pub all_shortened : (bytes : List ℕ) → IsWhole file bytes
      → IsAllShortened c.profile duplicates c.files statements number bytes
  all_shortened bytes whole =
      rw (← all.home) (rewritten c.files statements file Shortened way so_far bytes
      (whole so_far.bytes so_far.put))

  -- or why there are none
  pub shortened_fault : (why : AskFault) → IsFinishFault file why
      → IsAllShorterFault c.profile duplicates c.files statements number why
  shortened_fault why fault =
      rw (← all.home) (rewrite_fault c.files statements file Shortened way so_far why fault)
