-- The reply to `mm find`, and to `mm statement --all`, which asks for no pattern: its text and its
-- status, which are this project's own.
use Rattle.std.specs.Prelude.{◌≡◌, ◌⊎◌, ℕ, List, map, Bool, true, false}
use Rattle.mm_text.specs.declared.fault.LoadRule.{LoadRule}
use Rattle.mm_text.specs.Files.{PlainFile, BreaksLoad}
use Rattle.mm_code.specs.Words.{tokens_in}
use Rattle.mm_rules.specs.declared.rule.Rule.TheVariants as rules
use Rattle.mm_rules.specs.Verdict.{PlainRefusal, Load, Refused}
use Rattle.mm_verdict.specs.Reply.{refusal_status, status_of, text_of}
use Rattle.mm_find.specs.declared.query.Matching.TheVariants.{Shapes, Variants}
use Rattle.mm_find.specs.Found.{PlainQuery, IsListOf, IsRefusedUnproved}
use Rattle.mm_find.specs.Shape.{shape_of}

-- what these patterns ask for: each is a text, cut into tokens at its white space; by its shape a
-- variant of it is asked for
abbrev pub query_for : (patterns : List (List ℕ)) → (whole shape hypotheses : Bool) → PlainQuery
query_for patterns whole true hypotheses = record {
  patterns = map tokens_in patterns;
  matching = Variants whole;
  hypotheses = hypotheses;
}
query_for patterns whole false hypotheses = record {
  patterns = map (λ p. shape_of whole (tokens_in p)) patterns;
  matching = Shapes;
  hypotheses = hypotheses;
}

-- The reply is the list, with status 0, also where nothing is found; or it tells why the files
-- can't be taken; or the first fault of the text or of meaning.
abbrev pub IsFindReply : PlainQuery → List PlainFile → (text : List ℕ) → (status : ℕ) → Type 0
IsFindReply query files text status =
    (IsListOf query files text × (status ≡ 0))
    ⊎ (((broken : LoadRule) × BreaksLoad files broken
    × (text ≡ text_of files (Load (rules.Load broken)))
    × (status ≡ status_of (Load (rules.Load broken))))
    ⊎ ((refusal : PlainRefusal) × IsRefusedUnproved files refusal
    × (text ≡ text_of files (Refused refusal)) × (status ≡ refusal_status refusal.rule)))
