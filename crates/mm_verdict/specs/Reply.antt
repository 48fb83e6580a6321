-- The reply to a command: its text and its status, which are this project's own.
use Rattle.std.specs.Prelude.{◌≡◌, ℕ, List, [], ◌∷◌, ◌++◌, length}
use Rattle.std.specs.Prelude.{unwrap_or, Result, MatchOption, codes, decimal}
use Rattle.std.specs.List.{flat_map}
use Rattle.mm_text.specs.declared.fault.LoadRule.TheVariants.{F3}
use Rattle.mm_text.specs.Files.{PlainFile}
use Rattle.mm_step.specs.declared.fault.ProofRule.TheVariants.{L1}
use Rattle.mm_rules.specs.declared.rule.Rule.{Rule}
use Rattle.mm_rules.specs.declared.rule.Rule.TheVariants as rules
use Rattle.mm_rules.specs.declared.rule.AskRule.{AskRule}
use Rattle.mm_rules.specs.declared.rule.AskRule.TheVariants.{A1, A2, A3, L2}
use Rattle.mm_rules.specs.RuleCodes.{ask_code, code_of}
use Rattle.mm_rules.specs.declared.fault.CheckFault.{CheckFault}
use Rattle.mm_rules.specs.Conclusion.{Conclusion}
use Rattle.mm_rules.specs.Answer.{verdict_of_answer}
use Rattle.mm_rules.specs.declared.ask.AskFault.{AskFault}
use Rattle.mm_rules.specs.declared.ask.AskFault.TheVariants as ask
use Rattle.mm_rules.specs.Verdict.{PlainRefusal, Verdict, Load, Refused, Incomplete, Yes}
use Rattle.mm_rules.specs.Places.{name_of}

-- A line of a refusal begins with `limit` for a limit that was passed, else with `no`.
abbrev pub refusal_word : Rule → List ℕ
refusal_word (rules.Proof L1) = codes "limit"
refusal_word rule = codes "no"

-- a line: a word, then a space and a word for each of the others, and a line feed
abbrev pub line_with : List ℕ → List (List ℕ) → List ℕ
line_with word [] = word ++ codes "\n"
line_with word (other ∷ others) = word ++ codes " " ++ line_with other others

-- a line for each label
abbrev pub lines_of : List (List ℕ) → List ℕ
lines_of labels = flat_map (λ label. label ++ codes "\n") labels

-- the text of a verdict
abbrev pub text_of : List PlainFile → Verdict → List ℕ
text_of files (Load rule) = line_with (codes "load") (code_of rule ∷ [])
text_of files (Refused r) =
    line_with (refusal_word r.rule)
    (name_of files r.file ∷ decimal r.line ∷ unwrap_or r.label (codes "-") ∷ code_of r.rule
    ∷ decimal r.step ∷ [])
text_of files (Incomplete labels) =
    line_with (codes "incomplete") (decimal (length labels) ∷ []) ++ lines_of labels
text_of files (Yes statements proofs) =
    line_with (codes "yes")
    (decimal statements ∷ codes "statements" ∷ decimal proofs ∷ codes "proofs" ∷ [])

-- the status of a refusal: 4 for a limit that was passed, else 1
abbrev pub refusal_status : Rule → ℕ
refusal_status (rules.Proof L1) = 4
refusal_status rule = 1

-- the status of a verdict
abbrev pub status_of : Verdict → ℕ
status_of (Load rule) = 4
status_of (Refused r) = refusal_status r.rule
status_of (Incomplete labels) = 3
status_of (Yes statements proofs) = 0

-- The text is that of the verdict that the answer tells.
abbrev pub Tells : List PlainFile → Result Conclusion CheckFault → List ℕ → Type 0
Tells files answer text =
    MatchOption (verdict_of_answer answer) ⊥ (λ verdict. text ≡ text_of files verdict)

-- a line for each refusal
abbrev pub refusals_text : List PlainFile → List PlainRefusal → List ℕ
refusals_text files refusals = flat_map (λ r. text_of files (Refused r)) refusals

-- the status where a question has no answer: 3 where a proof is incomplete, 4 where a limit was
-- passed, else 1
abbrev pub ask_status : AskRule → ℕ
ask_status A1 = 1
ask_status A2 = 1
ask_status A3 = 3
ask_status L2 = 4

-- the status where a proof's text that is handed in is refused: 3 where it is incomplete, 4 where a
-- limit was passed, else 1
abbrev pub text_status : Rule → ℕ
text_status (rules.Ask A3) = 3
text_status (rules.Proof L1) = 4
text_status (rules.Load F3) = 4
text_status rule = 1

-- the text and the status where a question about a label has no answer, or a file with this name in
-- the place of the label isn't written anew
abbrev pub IsAskReply : AskFault → List ℕ → List ℕ → ℕ → Type 0
IsAskReply (ask.Rule rule) label text status =
    (text ≡ line_with (codes "ask") (ask_code rule ∷ label ∷ [])) × (status ≡ ask_status rule)
IsAskReply (ask.Text rule step) label text status =
    (text ≡ line_with (codes "text") (code_of rule ∷ decimal step ∷ [])) × (status ≡ text_status rule)
IsAskReply ask.F3 label text status =
    (text ≡ line_with (codes "ask") (codes "F3" ∷ label ∷ [])) × (status ≡ 4)
IsAskReply ask.Memory label text status = ⊥
