-- The facts that explain a fault of a rule of meaning, joined from what was read again.
use Rattle.std.proofs.Common.{◌≡◌, ◌≢◌, ℕ, ◌+◌, List, [], ◌∷◌, length, Bool, Option}
use Rattle.std.proofs.Common.{option_map, refl, sym, ap, subst, ◌∙◌, arith}
use Rattle.std.specs.List.{flat_map}
use Rattle.std.specs.Option.{option_or}
use Rattle.mm_base.specs.declared.token.Token.{Token}
use Rattle.mm_base.specs.Blocks.{IsInnermost}
use Rattle.mm_text.specs.Files.{PlainFile}
use Rattle.mm_base.specs.Statement.{PlainStatement, plain_statement}
use Rattle.mm_base.specs.Token.{PlainToken, plain_token}
use Rattle.mm_frame.specs.declared.rule.MeaningRule.{MeaningRule}
use Rattle.mm_frame.specs.declared.rule.MeaningRule.TheVariants.{M1}
use Rattle.mm_frame.specs.Breaking.{BreaksAt}
use Rattle.mm_frame.specs.Sentence.{sentence_of}
use Rattle.mm_explain.specs.declared.semantic_error.SemanticError.{SemanticError}
use Rattle.mm_rules.specs.declared.rule.Rule.TheVariants as rules
use Rattle.mm_facts.specs.Explained.{Detail, token_at_fault}
use Rattle.mm_explain.specs.MeaningFacts.{AreEarlierFacts, AreMeaningFacts, token_at}
use Rattle.mm_explain.specs.Source.{opened_block}
use Rattle.mm_explain.specs.MeaningFacts.{last_looked_at, last_met, looked_at, looked_at_within}
use Rattle.mm_explain.specs.MeaningFacts.{met_facts}
use Rattle.mm_explain.specs.Mirror.SemanticErrors.{IsSemanticError, IsBroken, IsStopped, Site}
use Rattle.mm_rules.specs.Verdict.{PlainRefusal, sentences}
use Rattle.mm_explain.proofs.NamesMet.{met-append}

-- ---- where the files are refused

module _ {files : List PlainFile} {refusal : PlainRefusal} (stop : IsStopped files refusal) where
  same_rule : (rule : MeaningRule) → refusal.rule ≡ rules.Meaning rule → stop.refused.rule ≡ rule
  same_rule rule is =
      let own : refusal.rule ≡ rules.Meaning stop.refused.rule =
      ap (λ (r : PlainRefusal). r.rule) stop.refused.refused in
      cc

  pub stopped_at : (count : ℕ) → count + 1 ≡ refusal.statement → length stop.before ≡ count
  stopped_at count is =
      let own = ap (λ (r : PlainRefusal). r.statement) stop.refused.refused in omega arith

  -- the site
  abbrev pub stop_site : (count : ℕ) → count + 1 ≡ refusal.statement → Site files count
  stop_site count is = record {
    before = stop.before;
    s = stop.s;
    after = stop.after;
    ending = stop.ending;
    reads = stop.reads;
    counted = stopped_at count is;
  }

  -- a statement stands there
  pub stop_count : (n : ℕ) → n ≡ refusal.statement → (length stop.before + 1 ≡ n)
  stop_count n is =
      let own = ap (λ (r : PlainRefusal). r.statement) stop.refused.refused in omega arith

  pub stop_broken : (count : ℕ) (rule : MeaningRule) → count + 1 ≡ refusal.statement
      → refusal.rule ≡ rules.Meaning rule → IsBroken files count rule
  stop_broken count rule counted is = record {
    site = stop_site count counted;
    meant = stop.meant;
    broken = rw (same_rule rule is) at stop.refused.broken;
  }

  -- what is known of the error explains the refusal
  pub facts_told : (source : Bool) (error : SemanticError) (token : PlainToken) (earlier : List Detail)
      → IsSemanticError files error → error.before + 1 ≡ refusal.statement
      → refusal.rule ≡ rules.Meaning error.rule
      → token ≡ token_at (plain_statement error.statement) error.index
      → ((site : Site files error.before)
      → AreEarlierFacts source files error.rule site.before site.s error.index earlier)
      → AreMeaningFacts source files refusal token.at (token_at_fault token.text ∷ earlier)
  facts_told source error token earlier known counted is at_fault met =
      let site : Site files error.before = stop_site error.before counted in
      let rule : error.rule ≡ stop.refused.rule = sym (same_rule error.rule is) in
      let here : token ≡ token_at stop.s error.index =
      at_fault ∙ ap (λ (s : PlainStatement). token_at s error.index) (known.statement site) in
      record {
        before = stop.before;
        s = stop.s;
        after = stop.after;
        ending = stop.ending;
        reads = stop.reads;
        refused = stop.refused;
        index = error.index;
        breaks = subst (λ (r : MeaningRule). BreaksAt r (sentences stop.before) (sentence_of stop.s) error.index) rule (known.breaks site);
        place = ap (λ (t : PlainToken). t.at) here;
        earlier = earlier;
        met = subst (λ (r : MeaningRule). AreEarlierFacts source files r stop.before stop.s error.index earlier) rule (met site);
        told = ap (λ (t : PlainToken). token_at_fault t.text ∷ earlier) here;
      }

-- ---- facts on what came before

-- what isn't of blocks is of names
pub of_names : (source : Bool) (files : List PlainFile) (rule : MeaningRule)
    (before : List PlainStatement) (s : PlainStatement) (index : Option ℕ) (details : List Detail) → rule ≢ M1
    → details ≡ met_facts files rule (last_looked_at rule before s index (token_at s index).text)
    → AreEarlierFacts source files rule before s index details
of_names source files M1 before s index details not_m1 is = absurd (not_m1 refl)
of_names source files rule before s index details not_m1 is = is

-- where the statement itself has the name, it was met last there
pub met_there : (rule : MeaningRule) (before : List PlainStatement) (s : PlainStatement)
    (index : Option ℕ) (name : List ℕ) (own : Option Token) (earlier : Option PlainToken)
    → option_map plain_token own ≡ last_met name (looked_at_within rule s index)
    → earlier ≡ last_met name (flat_map (looked_at rule) before)
    → option_or (option_map plain_token own) earlier ≡ last_looked_at rule before s index name
met_there rule before s index name own earlier here there =
    ap (λ (o : Option PlainToken). option_or o earlier) here
    ∙ ap (option_or (last_met name (looked_at_within rule s index))) there
    ∙ sym (met-append name (flat_map (looked_at rule) before) (looked_at_within rule s index))

-- the block at the position is opened there
pub block_there : (source : Bool) (files : List PlainFile) (before : List PlainStatement)
    (s : PlainStatement) (index : Option ℕ) (t : PlainToken)
    → (outer : List PlainStatement) × (opening : PlainStatement) × IsInnermost before outer opening
    × (t.file ≡ opening.first.file) × (t.at ≡ opening.first.at)
    → AreEarlierFacts source files M1 before s index (opened_block source files t ∷ [])
block_there source files before s index t (outer, opening, inner, file, at) =
    (outer, opening, inner, rw (file, at) refl)

-- where the name of the token at fault was met last, by what was found of it
pub met_for : (files : List PlainFile) (error : SemanticError) (token : Token) (own : Option Token)
    (earlier : Option PlainToken) → IsSemanticError files error
    → plain_token token ≡ token_at (plain_statement error.statement) error.index
    → option_map plain_token own
    ≡ last_met token.text.now
    (looked_at_within error.rule (plain_statement error.statement) error.index)
    → (site : Site files error.before)
    → earlier ≡ last_met token.text.now (flat_map (looked_at error.rule) site.before)
    → option_or (option_map plain_token own) earlier
    ≡ last_looked_at error.rule site.before site.s error.index (token_at site.s error.index).text
met_for files error token own earlier known at_fault here site there =
    let same : plain_statement error.statement ≡ site.s = known.statement site in
    let text : token.text.now ≡ (token_at site.s error.index).text =
    ap (λ (t : PlainToken). t.text) (at_fault ∙ ap (λ (s : PlainStatement). token_at s error.index) same) in
    met_there error.rule site.before site.s error.index (token_at site.s error.index).text own earlier
    (rw (text, same) at here) (rw text at there)
