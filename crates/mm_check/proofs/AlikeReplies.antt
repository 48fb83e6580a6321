-- Files that show the same have the same reply.
use Rattle.std.proofs.Common.{◌≡◌, ℕ, List, [], ◌∷◌}
use Rattle.std.proofs.Common.{decimal, codes}
use Rattle.std.proofs.Common.{unwrap_or, refl, sym, ap, ◌∙◌}
use Rattle.std.specs.List.{AllZip}
use Rattle.mm_text.specs.Files.{PlainFile}
use Rattle.mm_text.specs.Alike.{AreAlike}
use Rattle.mm_text.specs.Alike.{AlikeFilesAreReadAlike}
use Rattle.mm_rules.specs.Verdict.{Verdict, Load, Refused, Incomplete, Yes}
use Rattle.mm_verdict.specs.Reply.{text_of, status_of, line_with, refusal_word}
use Rattle.mm_rules.specs.RuleCodes.{code_of}
use Rattle.mm_check.specs.Alike.{AlikeFilesHaveOneReply}
use Rattle.mm_verdict.proofs.AlikeVerdicts.{name_alike, verdict_alike, verdict_without_at}

-- the text of a verdict tells no more of the files than their names
pub text_alike : (files others : List PlainFile) → AllZip AreAlike files others → (verdict : Verdict) → text_of files verdict ≡ text_of others verdict
text_alike files others alike (Load rule) = refl
text_alike files others alike (Refused r) =
    ap (λ (name : List ℕ). line_with (refusal_word r.rule) (name ∷ decimal r.line ∷ unwrap_or r.label (codes "-") ∷ code_of r.rule ∷ decimal r.step ∷ []))
    (name_alike files others alike r.file)
text_alike files others alike (Incomplete labels) = refl
text_alike files others alike (Yes statements proofs) = refl

-- nor the position of a refusal, and so it is with the status
text_without_at : (files : List PlainFile) (verdict : Verdict) → text_of files verdict ≡ text_of files (verdict_without_at verdict)
text_without_at files (Load rule) = refl
text_without_at files (Refused r) = refl
text_without_at files (Incomplete labels) = refl
text_without_at files (Yes statements proofs) = refl

status_without_at : (verdict : Verdict) → status_of verdict ≡ status_of (verdict_without_at verdict)
status_without_at (Load rule) = refl
status_without_at (Refused r) = refl
status_without_at (Incomplete labels) = refl
status_without_at (Yes statements proofs) = refl

pub alike_files_have_one_reply : AlikeFilesAreReadAlike → AlikeFilesHaveOneReply
alike_files_have_one_reply law profile files others alike small short text status reply =
    let (other, holds, same) = verdict_alike profile law files others alike small short reply.verdict reply.holds in
    record {
      verdict = other;
      holds = holds;
      said = reply.said ∙ text_alike files others alike reply.verdict
          ∙ text_without_at others reply.verdict ∙ ap (text_of others) same
          ∙ sym (text_without_at others other);
      ends = reply.ends ∙ status_without_at reply.verdict ∙ ap status_of same
          ∙ sym (status_without_at other);
    }
