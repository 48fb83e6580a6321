-- A file with other bytes, by which the database is accepted and holds lemmas, has them put in.
use Rattle.std.proofs.Common.{◌≡◌, ◌⊎◌, ℕ, ◌<◌, ◌≤◌, List, map, length, get_or, Option, None, Some}
use Rattle.std.proofs.Common.{Bor, slice_get, sym, ap, subst, ◌∙◌, arith}
use Rattle.std.specs.Prelude.{slice_set}
use Rattle.std.specs.List.{flat_map}
use Rattle.std.proofs.Math.ListN.{set}
use Rattle.std.proofs.Math.Seq.{map-set}
use Rattle.std.proofs.lemmas.List.{length-map}
use Rattle.std.proofs.lemmas.Option.{slice_get_past, slice_get-get_or}
use Rattle.mm_base.specs.Statement.{PlainStatement}
use Rattle.mm_base.specs.declared.file.File.{File}
use Rattle.mm_text.specs.Files.{PlainFile, plain_file}
use Rattle.mm_text.specs.Reading.{Reads}
use Rattle.mm_text.specs.Replaced.{with_bytes}
use Rattle.mm_step.specs.declared.profile.Profile.TheVariants.{Lenient}
use Rattle.mm_frame.proofs.Names.NameNumbers.{get_mapped}
use Rattle.mm_rules.specs.Verdict.{AreAccepted}
use Rattle.mm_verdict.proofs.FileBytes.StatementsInFiles.{with_bytes_is}
use Rattle.mm_with_lemmas.specs.WithLemmas.{AreRemarksKept, IsThere, IsWithLemmas, MayStand}
use Rattle.mm_with_lemmas.specs.WithLemmas.{MayUseNamed, RestsOnNamed, UseLemmasAlone, UsesNamed}
use Rattle.mm_with_lemmas.specs.WithLemmas.{new_of}
use Rattle.mm_with_lemmas.specs.Mirror.Walking.{HoldsLemmas}

-- ---- the files

-- past the last one nothing changes
pub with_none : (files : List File) (number : ℕ) (bytes : List ℕ) → length files ≤ number
    → map plain_file files ≡ with_bytes (map plain_file files) number bytes
with_none files number bytes past =
    let plain : List PlainFile = map plain_file files in
    let none : slice_get plain number ≡ None =
    slice_get_past plain number (omega (arith, length-map files plain_file)) in
    sym (ap (λ (o : Option PlainFile). elim o [
      | None ↦ plain
      | Some f ↦ slice_set plain number (record f { bytes = bytes })
    ]) none)

-- one of them has other bytes
pub with_one : (files : List File) (number : ℕ) (d : File) (bytes : Bor (List ℕ))
    → number < length files
    → map plain_file (set files number
    (record { name = (get_or files number d).name; bytes = bytes }))
    ≡ with_bytes (map plain_file files) number bytes.now
with_one files number d bytes less =
    let old : File = get_or files number d in
    map-set plain_file files number (record { name = old.name; bytes = bytes })
    ∙ sym (with_bytes_is (map plain_file files) number (plain_file old) bytes.now
    (get_mapped plain_file files number old (slice_get-get_or files number d less)))

-- ---- the whole

pub whole_lemmas : (files anew : List PlainFile) (number : ℕ) (bytes : List ℕ)
    (statements others : List PlainStatement) → anew ≡ with_bytes files number bytes
    → AreAccepted Lenient (with_bytes files number bytes) others
    → (Reads anew others None → (file : PlainFile) × (slice_get files number ≡ Some file)
    × HoldsLemmas files anew statements others number file.bytes bytes)
    → (Reads anew others None → UseLemmasAlone statements others)
    → (Reads anew others None → (label used : List ℕ) → UsesNamed others label used
    → UsesNamed statements label used ⊎ MayUseNamed anew others label used)
    → (Reads anew others None → AreRemarksKept files anew statements others)
    → (Reads anew others None → (label basis : List ℕ) → IsThere statements label
    → RestsOnNamed others label basis → RestsOnNamed statements label basis)
    → IsWithLemmas Lenient files statements number bytes
whole_lemmas files anew number bytes statements others same accepted holds by_lemmas allowed
    remarked founded =
    let reads : Reads anew others None =
    subst (λ (fs : List PlainFile). Reads fs others None) (sym same) accepted.reads in
    let (file, handed, held) = holds reads in
    record {
      file = file;
      handed = handed;
      others = others;
      accepted = accepted;
      parts = held.parts;
      old = held.old;
      new = held.new;
      each = λ before after part split.
          subst (λ (fs : List PlainFile). MayStand files fs (flat_map new_of before) part) same
          (held.each before after part split);
      by_lemmas = by_lemmas reads;
      allowed = λ label used uses.
          subst (λ (fs : List PlainFile). UsesNamed statements label used
          ⊎ MayUseNamed fs others label used) same (allowed reads label used uses);
      remarked =
          subst (λ (fs : List PlainFile). AreRemarksKept files fs statements others) same
          (remarked reads);
      founded = founded reads;
      edited = held.edited;
      no_longer = held.no_longer;
    }
