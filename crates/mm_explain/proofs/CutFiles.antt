-- The files, one of them up to a position alone: how they are made, and that they can be read where
-- the whole ones can. `text_fault.rt` rests on it.
use Rattle.std.proofs.Common.{◌≡◌, ℕ, ◌<◌, ◌≤◌, List, map, take, length, get_or, slice_get}
use Rattle.std.proofs.Common.{slice_set, Option, Some, None, refl, sym, ap, subst, ◌∙◌, arith}
use Rattle.std.proofs.lemmas.List.{length-take, length-map, map-set}
use Rattle.std.proofs.lemmas.Option.{slice_get_past}
use Rattle.mm_base.specs.declared.file.File.{File}
use Rattle.mm_text.specs.Files.{PlainFile, plain_file, total_bytes}
use Rattle.mm_text.proofs.Inclusions.OpenFiles.{file_there}
use Rattle.mm_text.proofs.Reader.WholeReadings.{bytes_kept}
use Rattle.mm_rules.specs.Places.{bytes_of}
use Rattle.mm_explain.specs.TextFacts.{files_up_to}
use Rattle.mm_rules.specs.Verdict.{CanBeRead}
use Rattle.mm_verdict.proofs.FileBytes.StatementsInFiles.{readable_anew, replaced_at, with_bytes_is}

-- the file that is cut has its own bytes
own_bytes : (files : List PlainFile) (file : ℕ) (f : PlainFile) → slice_get files file ≡ Some f
    → bytes_of files file ≡ f.bytes
own_bytes files file f there = rw there refl

-- with the shorter one in its place
pub cut_there : (files : List PlainFile) (file at : ℕ) (f : PlainFile)
    → slice_get files file ≡ Some f
    → files_up_to files file at ≡ slice_set files file (record f { bytes = take at f.bytes })
cut_there files file at f there =
    with_bytes_is files file f (take at (bytes_of files file)) there
    ∙ ap (λ (b : List ℕ). slice_set files file (record f { bytes = take at b }))
    (own_bytes files file f there)

-- they have no more bytes
fewer_bytes : (files : List PlainFile) (file at : ℕ) (f : PlainFile)
    → slice_get files file ≡ Some f → total_bytes (files_up_to files file at) ≤ total_bytes files
fewer_bytes files file at f there =
    let cut : PlainFile = record f { bytes = take at f.bytes } in
    let put = replaced_at files file f cut there in
    let less = length-take at f.bytes in
    let same = ap total_bytes (cut_there files file at f there) in
    omega (arith, put, less, same)

-- without such a file nothing is cut
uncut : (files : List PlainFile) (file at : ℕ) → slice_get files file ≡ None
    → files_up_to files file at ≡ files
uncut files file at none =
    ap (λ (o : Option PlainFile). elim o [
      | None ↦ files
      | Some f ↦ slice_set files file (record f { bytes = take at (bytes_of files file) })
    ])
    none

-- so they can be read as well
pub readable_up_to : (files : List PlainFile) (file at : ℕ) → CanBeRead files
    → CanBeRead (files_up_to files file at)
readable_up_to files file at readable = go (slice_get files file) refl
  where
    go : (o : Option PlainFile) → slice_get files file ≡ o → CanBeRead (files_up_to files file at)
    go None is =
        subst (λ (fs : List PlainFile). CanBeRead fs) (sym (uncut files file at is)) readable
    go (Some f) is =
        readable_anew files file f (take at (bytes_of files file)) is
        (omega (arith, fewer_bytes files file at f is, bytes_kept files readable)) readable

-- how they are made
pub cut_made : (files : List File) (file at : ℕ) (whole cut : File) → file < length files
    → whole ≡ get_or files file whole → cut.name.now ≡ whole.name.now
    → cut.bytes.now ≡ take at whole.bytes.now
    → map plain_file (slice_set files file cut) ≡ files_up_to (map plain_file files) file at
cut_made files file at whole cut within one name bytes =
    let there : slice_get (map plain_file files) file ≡ Some (plain_file whole) =
    file_there files file whole within ∙ ap (λ (f : File). Some (plain_file f)) (sym one) in
    let same : plain_file cut
    ≡ record (plain_file whole) { bytes = take at (plain_file whole).bytes } = cc in
    map-set plain_file files file cut
    ∙ ap (λ (g : PlainFile). slice_set (map plain_file files) file g) same
    ∙ sym (cut_there (map plain_file files) file at (plain_file whole) there)

-- past the last one nothing is made
pub none_cut : (files : List File) (file at : ℕ) → length files ≤ file
    → map plain_file files ≡ files_up_to (map plain_file files) file at
none_cut files file at past =
    sym (uncut (map plain_file files) file at (slice_get_past (map plain_file files) file
    (omega (arith, past, length-map files plain_file))))
