-- The reading of items in which a statement has another proof.
use Rattle.std.proofs.Common.{◌≢◌, ◌≡◌, ℕ, ◌+◌, List, [], ◌∷◌, ◌++◌, map, refl, sym, ap, ◌∙◌, subst}
use Rattle.std.proofs.Common.{codes, Option, Some, None, inl, append_assoc, append-nil, length}
use Rattle.std.proofs.Common.{length-append, arith}
use Rattle.std.specs.List.{AllZip}
use Rattle.std.proofs.lemmas.List.{map-append, append_cancel_left}
use Rattle.mm_base.specs.declared.statement.Kind.{Kind}
use Rattle.mm_base.specs.declared.statement.Kind.TheVariants.{Provable, Opening, Closing}
use Rattle.mm_base.specs.Token.{PlainToken}
use Rattle.mm_text.specs.Files.{PlainFile}
use Rattle.mm_base.specs.Statement.{PlainStatement, AreSymbols, IsTail, EndsInProof, Spells}
use Rattle.mm_base.specs.Statement.{SpellsAll, IsHead}
use Rattle.mm_text.specs.Items.{Item, Plain, Wrong, Inclusion, End, plain_tokens, HoldNoFault}
use Rattle.mm_text.specs.Items.{items}
use Rattle.mm_base.specs.Blocks.{AreBalanced}
use Rattle.mm_text.specs.Reading.{PlainFault, Viable, IsBeginning, ReadsAs, Reads}
use Rattle.mm_text.specs.Alike.{statement_on, fault_on, item_on}
use Rattle.mm_text.specs.Mirror.Reader.{Part, Between, InProof, PlainScope, outermost, PlainReading}
use Rattle.mm_text.specs.Mirror.Reader.{with_statement, scope_after_statement, reading_of}
use Rattle.mm_text.proofs.Reader.OneReading.{plain_tokens-append, clean_behind, with_statements}
use Rattle.mm_text.proofs.Reader.OneReading.{prefix_reading, reads_reading}
use Rattle.mm_text.proofs.Reader.SpelledStatements.{beginnings_begin_statements, runs_parts}
use Rattle.mm_text.proofs.Reader.SpelledStatements.{spelled_run, whole_run, begun}
use Rattle.mm_text.proofs.Reader.Unfinished.{Describes, IsPartProof, beginning_of_part}
use Rattle.mm_text.proofs.Reader.Unfinished.{part_of_beginning}
use Rattle.mm_text.proofs.Reader.OneToken.{read_more, read_whole, step_proof_token, step_ends_proof}
use Rattle.mm_text.proofs.Reader.OpenBlocks.{scope_of, balanced_prefix}
use Rattle.mm_text.proofs.Reader.WholeReadings.{files_reading, reading_reads}
use Rattle.mm_text.proofs.Alike.AlikeReadings.{reading_on, same_read, plain_tokens_alike}
use Rattle.mm_text.specs.Replaced.{placeless}
use Rattle.mm_text.proofs.Alike.AlikeItems.{SameItem}
use Rattle.mm_base.proofs.Lists.{cons_parts, nil_append, one_parting, same_length, unmapped}
use Rattle.mm_base.proofs.Lists.{zip_mapped}
use Rattle.mm_text.specs.declared.class.Keyword.TheVariants as keyword

-- no position matters
abbrev pub nowhere : ℕ → ℕ → ℕ
nowhere file at = 0

-- ---- the parts of tokens and items

-- the tokens of statements, of one after them, and of those after that
pub record Parts (tokens : List PlainToken) (before : List PlainStatement) (s : PlainStatement) (after : List PlainStatement) : Type 0 where
  pub prefix : List PlainToken
  pub own : List PlainToken
  pub back : List PlainToken
  pub whole : tokens ≡ prefix ++ (own ++ back)
  pub earlier : SpellsAll prefix before
  pub here : Spells own s
  pub later : SpellsAll back after

pub parts_of : (tokens : List PlainToken) (before : List PlainStatement) (s : PlainStatement) (after : List PlainStatement) → SpellsAll tokens (before ++ s ∷ after) → Parts tokens before s after
parts_of tokens [] s after h = record { prefix = []; own = h.0; back = h.1; whole = h.2; earlier = refl; here = h.3; later = h.4 }
parts_of tokens (b ∷ before) s after h =
    let p = parts_of h.1 before s after h.4 in
    record {
      prefix = h.0 ++ p.prefix;
      own = p.own;
      back = p.back;
      whole = h.2 ∙ ap (λ (l : List PlainToken). h.0 ++ l) p.whole ∙ sym (append_assoc h.0 p.prefix (p.own ++ p.back));
      earlier = (h.0, p.prefix, refl, h.3, p.earlier);
      here = p.here;
      later = p.later;
    }

-- ---- statements that differ in positions alone have as many tokens

pub parts_long : (s t : PlainStatement) → placeless s ≡ placeless t
    → (length s.symbols ≡ length t.symbols) × (length s.proof ≡ length t.proof)
parts_long s t same = (
  same_length _ _ s.symbols t.symbols (ap (λ (x : PlainStatement). x.symbols) same),
  same_length _ _ s.proof t.proof (ap (λ (x : PlainStatement). x.proof) same),
)

heads_long : (kind : Kind) (a b : List PlainToken) → IsHead kind a → IsHead kind b
    → length a ≡ length b
heads_long Provable a b h k = rw (h.tokens, k.tokens) refl
heads_long _ a b h k = rw (h.tokens, k.tokens) refl

tails_long : (s t : PlainStatement) (kind : Kind) (a b : List PlainToken)
    → length s.proof ≡ length t.proof → IsTail s kind a → IsTail t kind b → length a ≡ length b
tails_long s t Provable a b long h k =
    let one = length-append s.proof (h.stop ∷ []) in
    let other = length-append t.proof (k.stop ∷ []) in
    rw (h.tokens, k.tokens) (omega (arith, long, one, other))
tails_long s t Opening a b long h k = rw (h.0, k.0) refl
tails_long s t Closing a b long h k = rw (h.0, k.0) refl
tails_long s t _ a b long h k = rw (h.tokens, k.tokens) refl

pub spelled_long : (a b : List PlainToken) (s t : PlainStatement) → placeless s ≡ placeless t
    → Spells a s → Spells b t → length a ≡ length b
spelled_long a b s t same h k =
    let (symbols, proofs) = parts_long s t same in
    let kind = ap (λ (x : PlainStatement). x.kind) same in
    let begins = subst (λ (x : Kind). IsHead x h.head) kind h.begins in
    let ends = subst (λ (x : Kind). IsTail s x h.tail) kind h.ends in
    let head = heads_long t.kind h.head k.head begins k.begins in
    let tail = tails_long s t t.kind h.tail k.tail proofs ends k.ends in
    simp (h.whole, k.whole, length-append, head, tail, symbols)

all_long : (a b : List PlainToken) (xs ys : List PlainStatement) → map placeless xs ≡ map placeless ys
    → SpellsAll a xs → SpellsAll b ys → length a ≡ length b
all_long a b [] [] same h k = rw (h, k) refl
all_long a b (x ∷ xs) (y ∷ ys) same h k =
    let (first, rest) = cons_parts (placeless x) (placeless y) _ _ same in
    let one = spelled_long h.0 k.0 x y first h.3 k.3 in
    let others = all_long h.1 k.1 xs ys rest h.4 k.4 in
    simp (h.2, k.2, length-append, one, others)
all_long a b _ _ same h k = absurd cc

-- ---- tokens among items

-- a token among those of items is one of them
pub record TokenAt (its : List Item) (before : List PlainToken) (t : PlainToken) (after : List PlainToken) : Type 0 where
  pub prefix : List Item
  pub back : List Item
  pub whole : its ≡ prefix ++ Plain t ∷ back
  pub first : plain_tokens prefix ≡ before
  pub last : plain_tokens back ≡ after

token_at : (its : List Item) (before : List PlainToken) (t : PlainToken) (after : List PlainToken) → plain_tokens its ≡ before ++ t ∷ after → TokenAt its before t after
token_at [] before t after e = absurd (nil_append before t after e)
token_at (Plain u ∷ its) [] t after e =
    record { prefix = []; back = its; whole = cc; first = refl; last = cc }
token_at (Plain u ∷ its) (b ∷ before) t after e =
    let p = token_at its before t after cc in
    record { prefix = Plain u ∷ p.prefix; back = p.back; whole = ap (λ (l : List Item). Plain u ∷ l) p.whole; first = cc (p.first); last = p.last }
token_at (item ∷ its) before t after e =
    let p = token_at its before t after e in
    record { prefix = item ∷ p.prefix; back = p.back; whole = ap (λ (l : List Item). item ∷ l) p.whole; first = p.first; last = p.last }

-- ---- prefixes of a viable prefix

clean_prefix : (a b : List Item) → HoldNoFault (a ++ b) → HoldNoFault a
clean_prefix [] b h = tt
clean_prefix (Wrong rule t ∷ a) b h = h
clean_prefix (item ∷ a) b h = clean_prefix a b h

-- a prefix of viable items whose tokens are statements and a beginning of one is viable
viable_prefix : (its prefix rest : List Item) (all before : List PlainStatement)
    (begun finished left : List PlainToken) → Viable its all begun
    → its ≡ prefix ++ rest → plain_tokens prefix ≡ finished ++ left → SpellsAll finished before
    → IsBeginning left → AreBalanced before → Viable prefix before left
viable_prefix its prefix rest all before begun finished left v cut told said begins paired = record {
  clean = clean_prefix prefix rest (subst HoldNoFault cut v.clean);
  finished = finished;
  whole = told;
  spelled = said;
  begun = begins;
  balanced = paired;
  included = λ pre post t e. v.included pre (post ++ rest) t (longer pre post (Inclusion t) e);
  ended = λ pre post file e. v.ended pre (post ++ rest) file (longer pre post (End file) e);
  top_ended = λ pre post e. v.top_ended pre (post ++ rest) (longer pre post (End 0) e);
}
  where
    longer : (pre post : List Item) (item : Item) → prefix ≡ pre ++ item ∷ post
        → its ≡ pre ++ item ∷ (post ++ rest)
    longer pre post item e = cc (append_assoc pre (item ∷ post) rest)

-- a prefix of the items that reads as these statements, with none begun after them
pub record WholePrefix (its : List Item) (statements : List PlainStatement) : Type 0 where
  pub prefix : List Item
  pub rest : List Item
  pub cut : its ≡ prefix ++ rest
  pub viable : Viable prefix statements []

-- all of the items
abbrev pub without_rest : (its : List Item) (statements : List PlainStatement)
    → Viable its statements [] → WholePrefix its statements
without_rest its statements v = record {
  prefix = its;
  rest = [];
  cut = sym (append-nil its);
  viable = v;
}

-- those up to what is begun
finished_prefix : (its : List Item) (statements : List PlainStatement)
    (unfinished : List PlainToken) → Viable its statements unfinished → WholePrefix its statements
finished_prefix its statements [] v = without_rest its statements v
finished_prefix its statements (t ∷ unfinished) v =
    let p = token_at its v.finished t unfinished v.whole in
    record {
      prefix = p.prefix;
      rest = Plain t ∷ p.back;
      cut = p.whole;
      viable = viable_prefix its p.prefix _ statements _ _ v.finished [] v p.whole
          (rw append-nil p.first) v.spelled (inl refl) v.balanced;
    }

-- the statements of a reading are those of a prefix of its items
pub reads_prefix : (its : List Item) (statements : List PlainStatement)
    (ending : Option PlainFault) → ReadsAs its statements ending → WholePrefix its statements
reads_prefix its statements None v = without_rest its statements v
reads_prefix its statements (Some fault) (prefix, item, rest, unfinished, cut, v, _) =
    let f = finished_prefix prefix statements unfinished v in
    record {
      prefix = f.prefix;
      rest = f.rest ++ item ∷ rest;
      cut = cc (f.cut, append_assoc f.prefix f.rest (item ∷ rest));
      viable = f.viable;
    }

-- ---- the tokens of a statement

-- a beginning of a statement after statements is no whole statement
unfinished_not_whole : (prefix unfinished tokens : List PlainToken) (before earlier : List PlainStatement) → SpellsAll prefix before → IsBeginning unfinished → unfinished ≢ [] → tokens ≡ prefix ++ unfinished → ¬ (SpellsAll tokens earlier)
unfinished_not_whole prefix unfinished tokens before earlier h b some e all =
    let (part, described) = part_of_beginning unfinished b in
    let same : Between ≡ part = (runs_parts earlier before Between part (sym (whole_run tokens earlier all) ∙ spelled_run tokens prefix unfinished before part e h described)).1 in
    some (subst (λ (p : Part). Describes p unfinished) (sym same) described)

-- so a token comes next, and nothing else
next_token : (its : List Item) (statements : List PlainStatement) (v : Viable its statements []) (prefix back : List Item) (t : PlainToken) (rest : List PlainToken) → its ≡ prefix ++ back
    → ((earlier : List PlainStatement) → ¬ (SpellsAll (plain_tokens prefix) earlier)) → plain_tokens back ≡ t ∷ rest → (more : List Item) × (back ≡ Plain t ∷ more) × (plain_tokens more ≡ rest)
next_token its statements v prefix [] t rest e never is = absurd (nil_append [] t rest is)
next_token its statements v prefix (Plain u ∷ back) t rest e never is = (back, cc, cc)
next_token its statements v prefix (Wrong rule u ∷ back) t rest e never is = absurd (clean_behind prefix rule u back (subst HoldNoFault e v.clean))
next_token its statements v prefix (Inclusion u ∷ back) t rest e never is =
    absurd (never _ (v.included prefix back u e).spelled)
next_token its statements v prefix (End file ∷ back) t rest e never is =
    absurd (never _ (v.ended prefix back file e).1)

-- the tokens of a statement follow each other
statement_follows : (its : List Item) (statements before : List PlainStatement) (v : Viable its statements []) (prefix own : List PlainToken) (s : PlainStatement) → SpellsAll prefix before → Spells own s
    → (begun rest : List PlainToken) (past back : List Item) (after : List PlainToken) → own ≡ begun ++ rest → begun ≢ [] → its ≡ past ++ back → plain_tokens past ≡ prefix ++ begun → plain_tokens back ≡ rest ++ after
    → (more : List Item) × (back ≡ map Plain rest ++ more) × (plain_tokens more ≡ after)
statement_follows its statements before v prefix own s earlier h begun [] past back after whole some
    e done left = (back, refl, left)
statement_follows its statements before v prefix own s earlier h begun (t ∷ rest) past back after whole some e done left =
    let beginning : IsBeginning begun = (beginnings_begin_statements begun).1
    (record { more = t ∷ rest; some = λ none. cc; statement = s; spelled = rw whole at h }) in
    let (more, one, others) = next_token its statements v past back t (rest ++ after) e (λ all. unfinished_not_whole prefix begun (plain_tokens past) before all earlier beginning some done) left in
    let (last, split, none) = statement_follows its statements before v prefix own s earlier h
    (begun ++ t ∷ []) rest (past ++ Plain t ∷ []) more after (rw append_assoc whole)
    (λ e. nil_append begun t [] (sym e)) (cc (one, append_assoc past (Plain t ∷ []) more))
    (rw (plain_tokens-append, done) (append_assoc prefix begun (t ∷ []))) others in
    (last, cc (one, split), none)

-- so they stand together among the items
pub own_stands : (its : List Item) (statements before : List PlainStatement) (s : PlainStatement)
    (after : List PlainStatement) → Viable its statements []
    → (p : Parts (plain_tokens its) before s after)
    → (prefix : List Item) × (back : List Item) × (its ≡ prefix ++ (map Plain p.own ++ back))
    × (plain_tokens prefix ≡ p.prefix) × (plain_tokens back ≡ p.back)
own_stands its statements before s after v p =
    let others : List PlainToken = (p.here.first.0 ++ s.symbols) ++ p.here.tail in
    let own : p.own ≡ s.first ∷ others = rw p.here.first.1 at p.here.whole in
    let t = token_at its p.prefix s.first (others ++ p.back) (rw own at p.whole) in
    let (more, split, left) = statement_follows its statements before v p.prefix p.own s p.earlier
    p.here (s.first ∷ []) others (t.prefix ++ Plain s.first ∷ []) t.back p.back own (λ none. cc)
    (cc (t.whole, append_assoc t.prefix (Plain s.first ∷ []) t.back))
    (cc (t.first, plain_tokens-append t.prefix (Plain s.first ∷ []))) t.last in
    let run = ap (λ (l : List PlainToken). map Plain l ++ more) own in
    (t.prefix, more, cc (t.whole, split, run), t.first, left)

-- ---- where the proof stands

-- where the proof of a statement stands among the items
pub record ProofAt (its : List Item) (before : List PlainStatement) (s : PlainStatement) (after : List PlainStatement) : Type 0 where
  pub parts : Parts (plain_tokens its) before s after
  pub kind : s.kind ≡ Provable
  pub ends : EndsInProof s parts.here.tail
  pub prefix : List Item
  pub back : List Item
  pub whole : its ≡ prefix ++ (map Plain (ends.equals ∷ (s.proof ++ ends.stop ∷ [])) ++ back)
  pub done : plain_tokens prefix ≡ parts.prefix ++ (parts.here.head ++ s.symbols)
  pub left : plain_tokens back ≡ parts.back

all_plain : (tokens : List PlainToken) → plain_tokens (map Plain tokens) ≡ tokens
all_plain [] = refl
all_plain (t ∷ tokens) = ap (λ (l : List PlainToken). t ∷ l) (all_plain tokens)

pub proof_at : (its : List Item) (before : List PlainStatement) (s : PlainStatement) (after : List PlainStatement) → Viable its (before ++ s ∷ after) [] → s.kind ≡ Provable → ProofAt its before s after
proof_at its before s after v p =
    let parts = parts_of (plain_tokens its) before s after (subst (λ (l : List PlainToken). SpellsAll l (before ++ s ∷ after)) (sym (v.whole ∙ append-nil v.finished)) v.spelled) in
    let h = parts.here in
    let k : EndsInProof s h.tail = subst (λ (x : Kind). IsTail s x h.tail) p h.ends in
    let stated : List PlainToken = h.head ++ s.symbols in
    let end : List PlainToken = k.equals ∷ (s.proof ++ k.stop ∷ []) in
    let own : parts.own ≡ stated ++ end = cc (h.whole, k.tokens) in
    let (prefix, back, whole, first, left) = own_stands its _ before s after v parts in
    record {
      parts = parts;
      kind = p;
      ends = k;
      prefix = prefix ++ map Plain stated;
      back = back;
      whole = cc (
        whole,
        own,
        map-append Plain stated end,
        append_assoc (map Plain stated) (map Plain end) back,
        append_assoc prefix (map Plain stated) (map Plain end ++ back),
      );
      done = plain_tokens-append prefix (map Plain stated) ∙ (λ i. first i ++ all_plain stated i);
      left = left;
    }

-- ---- the reader goes through a proof

proof_reading : (scope : PlainScope) (y : PlainStatement) (proof : List PlainToken) (stop : PlainToken) (rest : List Item) → AreSymbols proof → stop.text ≡ codes "$."
    → reading_of scope (InProof y) (map Plain (proof ++ stop ∷ []) ++ rest) ≡ with_statement (record y { proof = y.proof ++ proof; span = (y.span.0, stop.at) }) (reading_of (scope_after_statement scope) Between rest)
proof_reading scope y [] stop rest h sign =
    read_whole scope (InProof y) stop rest (record y { span = (y.span.0, stop.at) })
    (step_ends_proof y stop keyword.Stop sign refl)
    ∙ ap (λ (l : List PlainToken). with_statement (record y { proof = l; span = (y.span.0, stop.at) }) (reading_of (scope_after_statement scope) Between rest)) (sym (append-nil y.proof))
proof_reading scope y (t ∷ proof) stop rest h sign =
    let more : PlainStatement = record y { proof = y.proof ++ t ∷ [] } in
    read_more scope (InProof y) t (map Plain (proof ++ stop ∷ []) ++ rest) (InProof more) (step_proof_token y t h.0)
    ∙ proof_reading scope more proof stop rest h.1 sign
    ∙ ap (λ (l : List PlainToken). with_statement (record y { proof = l; span = (y.span.0, stop.at) }) (reading_of (scope_after_statement scope) Between rest)) (append_assoc y.proof (t ∷ []) proof)

statements_read : (before : List PlainStatement) (r : PlainReading) → with_statements before r ≡ record { statements = before ++ r.statements; ending = r.ending }
statements_read [] r = refl
statements_read (s ∷ before) r = ap (with_statement s) (statements_read before r)

module _ (its : List Item) (before : List PlainStatement) (s : PlainStatement) (after : List PlainStatement) (v : Viable its (before ++ s ∷ after) []) (a : ProofAt its before s after) where
  abbrev stated : List PlainToken
  stated = a.parts.here.head ++ s.symbols

  abbrev proving : PlainStatement
  proving = record s { proof = []; span = (a.ends.equals.at + 2, 0) }

  abbrev until : List Item
  until = a.prefix ++ Plain a.ends.equals ∷ []

  cut : its ≡ until ++ (map Plain (s.proof ++ a.ends.stop ∷ []) ++ a.back)
  cut = a.whole ∙ sym (append_assoc a.prefix (Plain a.ends.equals ∷ []) (map Plain (s.proof ++ a.ends.stop ∷ []) ++ a.back))

  begun_here : IsPartProof proving (stated ++ a.ends.equals ∷ [])
  begun_here = begun a.parts.own s a.parts.here a.ends [] a.kind tt

  -- the items up to the `$=` are a viable prefix
  until_viable : Viable until before (stated ++ a.ends.equals ∷ [])
  until_viable =
      viable_prefix its until (map Plain (s.proof ++ a.ends.stop ∷ []) ++ a.back)
      (before ++ s ∷ after) before [] a.parts.prefix (stated ++ a.ends.equals ∷ []) v cut
      (plain_tokens-append a.prefix (Plain a.ends.equals ∷ [])
      ∙ ap (λ (l : List PlainToken). l ++ a.ends.equals ∷ []) a.done
      ∙ append_assoc a.parts.prefix stated (a.ends.equals ∷ [])) a.parts.earlier
      (beginning_of_part (InProof proving) (stated ++ a.ends.equals ∷ []) begun_here)
      (balanced_prefix before (s ∷ after) v.balanced)

  -- what is read with any proof in place of the own, and any items after it
  any_proof : (proof : List PlainToken) (stop : PlainToken) (rest : List Item) → AreSymbols proof → stop.text ≡ codes "$."
      → reading_of outermost Between (a.prefix ++ (map Plain (a.ends.equals ∷ (proof ++ stop ∷ [])) ++ rest))
      ≡ with_statements before (with_statement (record s { proof = proof; span = (a.ends.equals.at + 2, stop.at) }) (reading_of (scope_after_statement (scope_of before)) Between rest))
  any_proof proof stop rest h sign =
      ap (reading_of outermost Between) (sym (append_assoc a.prefix (Plain a.ends.equals ∷ []) (map Plain (proof ++ stop ∷ []) ++ rest)))
      ∙ prefix_reading until (map Plain (proof ++ stop ∷ []) ++ rest) before
      (stated ++ a.ends.equals ∷ []) (InProof proving) until_viable begun_here
      ∙ ap (with_statements before) (proof_reading (scope_of before) proving proof stop rest h sign)

  -- what is read after the proof
  after_read : reading_of (scope_after_statement (scope_of before)) Between a.back
      ≡ record { statements = after; ending = None }
  after_read =
      let r : PlainReading = reading_of (scope_after_statement (scope_of before)) Between a.back in
      let t : PlainStatement = record s { span = (a.ends.equals.at + 2, a.ends.stop.at) } in
      let both = sym (statements_read before (with_statement t r))
      ∙ sym (any_proof s.proof a.ends.stop a.back a.ends.proof a.ends.end)
      ∙ ap (reading_of outermost Between) (sym a.whole)
      ∙ reads_reading its (before ++ s ∷ after) None v in
      let once : t ∷ r.statements ≡ s ∷ after = append_cancel_left before _ _
      (ap (λ (x : PlainReading). x.statements) both) in
      let is : r.statements ≡ after = cc once in
      λ i. record { statements = is i; ending = (both i).ending }

  -- the tokens after the proof spell what is read after it
  rest_spelled : (mixed prefix rest : List Item) (o : PlainStatement) (later : List PlainStatement)
      → mixed ≡ prefix ++ rest → AllZip (SameItem nowhere nowhere) a.back rest
      → map placeless after ≡ map placeless later → Viable mixed (before ++ o ∷ later) []
      → SpellsAll (plain_tokens rest) later
  rest_spelled mixed prefix rest o later e z same w =
      let spelled : SpellsAll (plain_tokens mixed) (before ++ o ∷ later) =
      rw (w.whole, append-nil) w.spelled in
      let q = parts_of (plain_tokens mixed) before o later spelled in
      let whole : (q.prefix ++ q.own) ++ q.back ≡ plain_tokens prefix ++ plain_tokens rest =
      append_assoc q.prefix q.own q.back ∙ sym q.whole ∙ ap plain_tokens e
      ∙ plain_tokens-append prefix rest in
      let alike = plain_tokens_alike nowhere nowhere a.back rest
      (zip_mapped (item_on nowhere) (item_on nowhere) a.back rest z) in
      let long : length q.back ≡ length (plain_tokens rest) =
      all_long q.back a.parts.back later after (sym same) q.later a.parts.later
      ∙ ap (length {A = PlainToken}) (sym a.left) ∙ same_length _ _ _ _ alike in
      rw (one_parting _ q.back _ (plain_tokens rest) whole long).1 at q.later

  -- files with these items read so
  pub read_so : (others : List PlainFile) (proof : List PlainToken) (stop : PlainToken)
      (rest : List Item) → AreSymbols proof → stop.text ≡ codes "$."
      → AllZip (SameItem nowhere nowhere) a.back rest
      → items others ≡ a.prefix ++ (map Plain (a.ends.equals ∷ (proof ++ stop ∷ [])) ++ rest)
      → (later : List PlainStatement) × Reads others (before ++ record s { proof = proof; span = (a.ends.equals.at + 2, stop.at) } ∷ later) None
      × SpellsAll (plain_tokens rest) later
      × (map (statement_on nowhere) after ≡ map (statement_on nowhere) later)
  read_so others proof stop rest symbols sign z e =
      let r : PlainReading = reading_of (scope_after_statement (scope_of before)) Between rest in
      let o : PlainStatement = record s { proof = proof; span = (a.ends.equals.at + 2, stop.at) } in
      let same = ap (reading_on nowhere) (sym after_read)
      ∙ same_read nowhere nowhere a.back rest z _ _ Between Between refl refl in
      let none : r.ending ≡ None = unmapped (fault_on nowhere) r.ending
      (sym (ap (λ (x : PlainReading). x.ending) same)) in
      let found : files_reading others ≡ record {
        statements = before ++ o ∷ r.statements;
        ending = None;
      } =
      ap (reading_of outermost Between) e ∙ any_proof proof stop rest symbols sign
      ∙ statements_read before (with_statement o r)
      ∙ (λ i. record { statements = before ++ o ∷ r.statements; ending = none i }) in
      let read : Reads others (before ++ o ∷ r.statements) None = rw found at (reading_reads others)
      in
      let placed = ap (λ (x : PlainReading). x.statements) same in
      let own : List Item = map Plain (a.ends.equals ∷ (proof ++ stop ∷ [])) in
      let told = rest_spelled (items others) (a.prefix ++ own) rest o r.statements
      (e ∙ sym (append_assoc a.prefix own rest)) z placed read in (r.statements, read, told, placed)
