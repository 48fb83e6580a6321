-- Readings of whole files: there is one, the reader computes it, its statements are formed by the
-- grammar and stand in the files, and after each token a fault or the end of a file comes.
use Rattle.std.proofs.Common.{◌≡◌, ℕ, ◌+◌, ◌≤◌, length, List, [], ◌∷◌, ◌++◌, sym, ap, subst, ◌∙◌}
use Rattle.std.proofs.Common.{Option, Some, None, IfSome, append_assoc, arith, Bool, true, false}
use Rattle.std.proofs.Common.{not, replicate, count_by, ◌≢◌, ◌<◌, refl, sum_by}
use Rattle.std.specs.List.{AllByRecursion}
use Rattle.std.proofs.lemmas.Bool.{cond_both, cond-true, cond-false}
use Rattle.std.proofs.lemmas.List.Sums.{sum_by-append, sum_by-cons}
use Rattle.mm_base.specs.declared.statement.Kind.{Kind}
use Rattle.mm_base.specs.declared.statement.Kind.TheVariants.{Provable, Opening, Closing, Floating}
use Rattle.mm_base.specs.declared.statement.Kind.TheVariants.{Essential, Axiom}
use Rattle.mm_base.specs.Token.{PlainToken, is_label, IsLabel, tokens_from}
use Rattle.mm_base.specs.Statement.{PlainStatement, label_in, Spells, SpellsAll, IsTail, bytes_in}
use Rattle.mm_base.specs.Statement.{IsHead, IsLabelledHead, HasLabel, HasForm}
use Rattle.mm_text.specs.Items.{Item, plain_tokens, items, Plain, Wrong, End, Shown}
use Rattle.mm_text.specs.Items.{without_comments, Spot, Outside, Piece, Met, pieces, pieces_of}
use Rattle.mm_text.specs.Items.{put_before, put_in}
use Rattle.mm_text.specs.Reading.{PlainFault, ReadsAs, Reads, IsSliceOf, IsInPlace}
use Rattle.mm_text.specs.Files.{PlainFile, total_bytes, HasTwins, BreaksLoad}
use Rattle.mm_base.specs.MostBytes.{most_bytes}
use Rattle.mm_text.specs.Laws.{EachHasOneReading}
use Rattle.mm_base.specs.Blocks.{AreBalanced}
use Rattle.mm_text.specs.declared.fault.LoadRule.{LoadRule}
use Rattle.mm_text.specs.declared.fault.LoadRule.TheVariants.{F1, F2, F3}
use Rattle.mm_text.specs.declared.statements.State.{State}
use Rattle.mm_text.specs.declared.statements.State.TheVariants.{Reading}
use Rattle.mm_text.specs.Mirror.Reader.{PlainReading, PlainScope, Between, outermost, reading_of}
use Rattle.mm_text.specs.Remaining.{IsUnread}
use Rattle.mm_text.specs.Mirror.ReaderState.{remaining_in, AreFew, AreFormedInPlace}
use Rattle.mm_text.proofs.Reader.OneReading.{plain_tokens-append, ComesToStop, AreSettled}
use Rattle.mm_text.proofs.Reader.OneReading.{items_read, reads_reading}
use Rattle.mm_base.proofs.Lists.{all_prefix, all_back}
use Rattle.mm_text.proofs.Inclusions.ItemTokens.{HoldsByte, items_in_place, items_some}
use Rattle.mm_text.proofs.Inclusions.ItemTokens.{items_signed}
use Rattle.mm_text.proofs.Inclusions.EachOnce.{tokens_fit}
use Rattle.mm_text.proofs.Inclusions.OpenFiles.{in_range, count_named, count_top}
use Rattle.mm_text.proofs.Tokens.StepByStep.{pieces_by, put_before_by, put_in_by}

-- ==== what holds of all tokens of a reading holds of those of its statements

if_label : (P : PlainToken → Type 0) (tokens : List PlainToken) → AllByRecursion P tokens → IfSome (label_in tokens) P
if_label P [] h = tt
if_label P (t ∷ tokens) h = cond_both (is_label t.text) _ _ (λ (o : Option PlainToken). IfSome o P) (λ _. h.0) (λ _. tt)

proof_of_tail : (P : PlainToken → Type 0) (s : PlainStatement) (kind : Kind) (tail : List PlainToken) → IsTail s kind tail → AllByRecursion P tail → AllByRecursion P s.proof
proof_of_tail P s Provable tail k h =
    all_prefix P s.proof (k.stop ∷ []) (subst (AllByRecursion P) k.tokens h).1
proof_of_tail P s Opening tail k h = subst (AllByRecursion P) (sym k.1) tt
proof_of_tail P s Closing tail k h = subst (AllByRecursion P) (sym k.1) tt
proof_of_tail P s _ tail k h = subst (AllByRecursion P) (sym k.proof) tt

-- each token of a statement is so
pub record AreAll (P : PlainToken → Type 0) (s : PlainStatement) : Type 0 where
  pub first : P s.first
  pub label : IfSome s.label P
  pub symbols : AllByRecursion P s.symbols
  pub proof : AllByRecursion P s.proof

all_of_statement : (P : PlainToken → Type 0) (tokens : List PlainToken) (s : PlainStatement) → Spells tokens s → AllByRecursion P tokens → AreAll P s
all_of_statement P tokens s h all =
    let parts = subst (AllByRecursion P) h.whole all in
    let prefix = all_prefix P (h.head ++ s.symbols) h.tail parts in
    let head = all_prefix P h.head s.symbols prefix in
    record {
      first = (subst (AllByRecursion P) h.first.1 head).0;
      label = subst (λ (o : Option PlainToken). IfSome o P) (sym h.label) (if_label P h.head head);
      symbols = all_back P h.head s.symbols prefix;
      proof = proof_of_tail P s s.kind h.tail h.ends (all_back P (h.head ++ s.symbols) h.tail parts);
    }

-- what follows for each of the statements
each_statement : (P : PlainToken → Type 0) (Q : PlainStatement → Type 0) → ((tokens : List PlainToken) (s : PlainStatement) → Spells tokens s → AllByRecursion P tokens → Q s)
    → (tokens : List PlainToken) (statements : List PlainStatement) → SpellsAll tokens statements → AllByRecursion P tokens → AllByRecursion Q statements
each_statement P Q f tokens [] h all = tt
each_statement P Q f tokens (s ∷ statements) h all =
    let parts = subst (AllByRecursion P) h.2 all in
    (f h.0 s h.3 (all_prefix P h.0 h.1 parts), each_statement P Q f h.1 statements h.4 (all_back P h.0 h.1 parts))

-- the tokens of a reading's statements are a prefix of the items' tokens
pub record SpellsPrefix (its : List Item) (statements : List PlainStatement) : Type 0 where
  pub finished : List PlainToken
  pub rest : List PlainToken
  pub whole : plain_tokens its ≡ finished ++ rest
  pub spelled : SpellsAll finished statements

reading_prefix : (its : List Item) (statements : List PlainStatement) (ending : Option PlainFault) → ReadsAs its statements ending → SpellsPrefix its statements
reading_prefix its statements None v = record { finished = v.finished; rest = []; whole = v.whole; spelled = v.spelled }
reading_prefix its statements (Some fault) r = record {
  finished = r.5.finished;
  rest = r.3 ++ plain_tokens (r.1 ∷ r.2);
  whole = ap plain_tokens r.4 ∙ plain_tokens-append r.0 (r.1 ∷ r.2) ∙ ap (λ (x : List PlainToken). x ++ plain_tokens (r.1 ∷ r.2)) r.5.whole ∙ append_assoc r.5.finished r.3 (plain_tokens (r.1 ∷ r.2));
  spelled = r.5.spelled;
}

each_read : (P : PlainToken → Type 0) (Q : PlainStatement → Type 0) → ((tokens : List PlainToken) (s : PlainStatement) → Spells tokens s → AllByRecursion P tokens → Q s)
    → (its : List Item) (statements : List PlainStatement) → SpellsPrefix its statements → AllByRecursion P (plain_tokens its) → AllByRecursion Q statements
each_read P Q f its statements prefix all = each_statement P Q f prefix.finished statements
    prefix.spelled (all_prefix P prefix.finished prefix.rest (subst (AllByRecursion P) prefix.whole all))

-- ---- bytes

-- how many bytes tokens have
abbrev pub text_bytes : List PlainToken → ℕ
text_bytes tokens = sum_by (λ t. length t.text) tokens

bytes-append : (a b : List PlainToken) → text_bytes (a ++ b) ≡ text_bytes a + text_bytes b
bytes-append a b = sum_by-append _ a b

tail_bytes : (s : PlainStatement) (kind : Kind) (tail : List PlainToken) → IsTail s kind tail → text_bytes s.proof ≤ text_bytes tail
tail_bytes s Provable tail k = omega (arith, ap text_bytes k.tokens, bytes-append (k.equals ∷ []) (s.proof ++ k.stop ∷ []), bytes-append s.proof (k.stop ∷ []))
tail_bytes s Opening tail k = omega (arith, ap text_bytes k.1)
tail_bytes s Closing tail k = omega (arith, ap text_bytes k.1)
tail_bytes s _ tail k = omega (arith, ap text_bytes k.proof)

-- the tokens that a statement counts are among those that spell it
statement_bytes : (tokens : List PlainToken) (s : PlainStatement) → Spells tokens s → bytes_in s ≤ text_bytes tokens
statement_bytes tokens s h =
    let head : text_bytes h.head ≡ text_bytes (s.first ∷ h.first.0) = ap text_bytes h.first.1 in
    let first = sum_by-cons (λ (u : PlainToken). length u.text) s.first h.first.0 in
    let tail = tail_bytes s s.kind h.tail h.ends in
    let stated = bytes-append h.head s.symbols in
    omega (arith, ap text_bytes h.whole, bytes-append (h.head ++ s.symbols) h.tail)

statements_bytes : (tokens : List PlainToken) (statements : List PlainStatement) → SpellsAll tokens statements → sum_by bytes_in statements ≤ text_bytes tokens
statements_bytes tokens [] h = omega arith
statements_bytes tokens (s ∷ statements) h =
    let one = statement_bytes h.0 s h.3 in
    let rest = statements_bytes h.1 statements h.4 in
    omega (arith, ap text_bytes h.2, bytes-append h.0 h.1, sum_by-cons bytes_in s statements, one, rest)

-- ==== the statements that are read are formed by the grammar, stand in the files, and hold no more
-- bytes than they do

labelled_label : (kind : Kind) (head : List PlainToken) (label : Option PlainToken) → IsLabelledHead kind head → label ≡ label_in head → (l : PlainToken) × (label ≡ Some l) × IsLabel l.text
labelled_label kind head label h e = (h.label, e ∙ ap label_in h.tokens ∙ cond-true (is_label h.label.text) _ _ h.named, h.named)

head_label : (kind : Kind) (head : List PlainToken) (label : Option PlainToken) → IsHead kind head → label ≡ label_in head → HasLabel kind label
head_label Floating head label h e = labelled_label Floating head label h e
head_label Essential head label h e = labelled_label Essential head label h e
head_label Axiom head label h e = labelled_label Axiom head label h e
head_label Provable head label h e = labelled_label Provable head label h e
head_label kind head label h e = e ∙ ap label_in h.tokens ∙ cond-false (is_label h.keyword.text) _ _ (ap is_label h.sign)

pub readings_are_formed_in_place : (files : List PlainFile) (statements : List PlainStatement)
    (ending : Option PlainFault) → Reads files statements ending
    → AreFormedInPlace files statements
readings_are_formed_in_place files statements ending r =
    let prefix = reading_prefix (items files) statements ending r in
    record {
      formed = each_read HoldsByte HasForm (λ tokens s h all.
          let each = all_of_statement HoldsByte tokens s h all in
          record { count = h.count; label = head_label s.kind h.head s.label h.begins h.label; first = each.first; symbols = each.symbols; proof = each.proof })
          (items files) statements prefix (items_some files);
      in_place = each_read (IsSliceOf files) (IsInPlace files) (λ tokens s h all.
          let r = all_of_statement (IsSliceOf files) tokens s h all in
          record { first = r.first; label = r.label; symbols = r.symbols; proof = r.proof })
          (items files) statements prefix (items_in_place files);
    }

-- no `$}` of a reading lacks its `${`
pub readings_are_balanced : (files : List PlainFile) (statements : List PlainStatement)
    (ending : Option PlainFault) → Reads files statements ending → AreBalanced statements
readings_are_balanced files statements None v = v.balanced
readings_are_balanced files statements (Some fault) r = r.5.balanced

-- no byte of a file is read twice
pub readings_fit : (files : List PlainFile) (statements : List PlainStatement)
    (ending : Option PlainFault) → Reads files statements ending
    → sum_by bytes_in statements ≤ total_bytes files
readings_fit files statements ending r =
    let prefix = reading_prefix (items files) statements ending r in
    omega (arith, statements_bytes prefix.finished statements prefix.spelled, ap text_bytes prefix.whole, bytes-append prefix.finished prefix.rest, tokens_fit files)

-- each statement holds a byte, so they are no more than the bytes of the files
formed_few : (statements : List PlainStatement) → AllByRecursion HasForm statements → length statements ≤ sum_by bytes_in statements
formed_few [] h = omega arith
formed_few (s ∷ statements) h =
    omega (arith, sum_by-cons bytes_in s statements, formed_few statements h.1, h.0.first)

pub readings_few : (files : List PlainFile) (statements : List PlainStatement) (ending : Option PlainFault) → Reads files statements ending → length statements ≤ total_bytes files
readings_few files statements ending r =
    let formed = (readings_are_formed_in_place files statements ending r).formed in
    omega (arith, formed_few statements formed, readings_fit files statements ending r)

-- ==== after each token among the items of files a fault or the end of a file comes

-- ---- pieces

abbrev StopsSoon : List Piece → Type 0
StopsSoon [] = ⊥
StopsSoon (Met (Wrong rule t) ∷ rest) = Unit {0}
StopsSoon (Met (End n) ∷ rest) = Unit {0}
StopsSoon (piece ∷ rest) = StopsSoon rest

abbrev AllStop : List Piece → Type 0
AllStop [] = Unit {0}
AllStop (Met (Plain t) ∷ rest) = StopsSoon rest × AllStop rest
AllStop (piece ∷ rest) = AllStop rest

stops-append : (a b : List Piece) → StopsSoon a → StopsSoon (a ++ b)
stops-append [] b h = absurd h
stops-append (Met (Wrong rule t) ∷ a) b h = tt
stops-append (Met (End n) ∷ a) b h = tt
stops-append (piece ∷ a) b h = stops-append a b h

all_stop-append : (a b : List Piece) → AllStop a → AllStop b → AllStop (a ++ b)
all_stop-append [] b h k = k
all_stop-append (Met (Plain t) ∷ a) b h k = (stops-append a b h.0, all_stop-append a b h.1 k)
all_stop-append (piece ∷ a) b h k = all_stop-append a b h k

-- pieces that stop, each token of which does
abbrev AreStopped : List Piece → Type 0
AreStopped ps = StopsSoon ps × AllStop ps

pieces_stop : (file : ℕ) (spot : Spot) (shown : List Shown) → AreStopped (pieces file spot shown)
pieces_stop file spot shown =
    pieces_by file (λ rest ps. AreStopped ps) (tt, tt) (λ rest rule t. (tt, tt))
    (λ t rest ps h. (h.0, h)) (λ t rest ps h. h) (λ t rest ps h. h) (λ t _ _ _ h. h) spot shown

put_before_stops : (files : List PlainFile) (n : ℕ) (rest : List Piece)
    → (StopsSoon rest → StopsSoon (put_before files n rest))
    × (AllStop rest → AllStop (put_before files n rest))
put_before_stops files n rest =
    put_before_by (λ ps. (StopsSoon rest → StopsSoon ps) × (AllStop rest → AllStop ps)) files n rest
    (λ h. h, λ h. h) (λ f _.
    let so = pieces_stop n Outside (without_comments None (tokens_from n 0 f.bytes)) in
    (λ h. stops-append (pieces_of n f) rest so.0, λ h. all_stop-append (pieces_of n f) rest so.1 h))

-- ---- items

put_in_settles : (files : List PlainFile) (left : ℕ) (named : List Bool) (ps : List Piece)
    → count_by not named ≤ left → AllStop ps → AreSettled (put_in files left named ps)
put_in_settles files left named ps le all = (put_in_by files (λ room flags qs its.
    count_by not flags ≤ room → (StopsSoon qs → ComesToStop its) × (AllStop qs → AreSettled its))
    (λ room flags few. (λ h. absurd h, λ h. tt)) (λ room flags p qs rule t few. (λ h. tt, λ h. tt))
    (λ room flags t qs its inner few.
    ((inner few).0, λ h. ((inner few).0 h.0, (inner few).1 h.1)))
    (λ room flags t qs its inner. inner)
    (λ room flags file qs its inner few. (λ h. tt, (inner few).1))
    (λ room flags name qs its inner. inner)
    (λ flags name n qs new few.
    absurd (omega (arith, count_named flags n (in_range flags n new) new, few)))
    (λ room flags name n qs its new inner few.
    let so = inner (omega (arith, count_named flags n (in_range flags n new) new, few)) in
    let (soon, all) = put_before_stops files n qs in (λ h. so.0 (soon h), λ h. so.1 (all h)))
    left named ps le).1 all

items_settled : (files : List PlainFile) → AreSettled (items files)
items_settled [] = tt
items_settled (top ∷ others) =
    put_in_settles (top ∷ others) (length others) (true ∷ replicate (length others) false) (pieces_of 0 top) (omega (arith, count_top (length others))) (pieces_stop 0 Outside (without_comments None (tokens_from 0 0 top.bytes))).1

-- ==== what holds of a reader of files: what it computes is their one reading, and what is left is
-- part of it

-- the reading of files from the start
abbrev pub files_reading : List PlainFile → PlainReading
files_reading files = reading_of outermost Between (items files)

pub reading_reads : (files : List PlainFile) → Reads files (files_reading files).statements (files_reading files).ending
reading_reads files = items_read (items files) (items_signed files) (items_settled files)

-- each list of files has one reading
pub each_has_one_reading : EachHasOneReading
each_has_one_reading files = record {
  statements = (files_reading files).statements;
  ending = (files_reading files).ending;
  reads = reading_reads files;
  only = λ others end r. let e = sym (reads_reading (items files) others end r) in (ap (λ (x : PlainReading). x.statements) e, ap (λ (x : PlainReading). x.ending) e);
}

-- ---- the state of a reader

-- what holds of what is left to give in a state
pub record IsKept (files : List PlainFile) (state : State) (scope : PlainScope) (its : List Item) : Type 0 where
  pub formed_in_place : AreFormedInPlace files (remaining_in state files (reading_of scope Between its)).statements
  pub few : AreFew state scope.count (length (remaining_in state files (reading_of scope Between its)).statements)

-- a reader of files from the start
pub kept_from_start : (files : List PlainFile) (scope : PlainScope) (its : List Item)
    → its ≡ items files → scope ≡ outermost → total_bytes files ≤ most_bytes
    → IsKept files Reading scope its
kept_from_start files scope its is first le =
    let statements : (reading_of scope Between its).statements ≡ (files_reading files).statements = λ i. (reading_of (first i) Between (is i)).statements in
    let few = readings_few files _ _ (reading_reads files) in
    let formed = readings_are_formed_in_place files _ _ (reading_reads files) in
    record {
      formed_in_place = subst (AreFormedInPlace files) (sym statements) formed;
      few = omega (arith, ap (length {A = PlainStatement}) statements, ap (λ (x : PlainScope). x.count) first, few, le);
    }

-- and it is unread
pub unread_from_start : (files : List PlainFile) (scope : PlainScope) (its : List Item) → its ≡ items files → scope ≡ outermost → IsUnread files (remaining_in Reading files (reading_of scope Between its))
unread_from_start files scope its is first =
    let same : reading_of scope Between its ≡ files_reading files = λ i. reading_of (first i) Between (is i) in
    rw same (record {
      same = refl;
      reads = reading_reads files;
      balanced = readings_are_balanced files _ _ (reading_reads files);
      fits = readings_fit files _ _ (reading_reads files);
      refused = refl;
      told = refl;
    })

-- files that break no rule as a whole hold no more bytes than they may
pub bytes_kept : (files : List PlainFile) → ((rule : LoadRule) → ¬ (BreaksLoad files rule))
    → total_bytes files ≤ most_bytes
bytes_kept files none =
    let some : files ≢ [] = none F1 in
    let apart : ¬ (HasTwins files) = λ twins. none F2 (some, twins) in
    let few : ¬ (most_bytes < total_bytes files) = λ many. none F3 (some, apart, many) in
    omega (arith, few)

-- `grind` takes these by their names.
pub ruleset start_steps = (kept_from_start, unread_from_start, bytes_kept)
