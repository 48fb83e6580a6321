-- The two parts come one after the other.
use Rattle.std.proofs.Common.{ℕ, slice_range, refl}
use Rattle.mm_save.proofs.Saving.FilesUnderWay.{put_twice}
use Rattle.mm_save.proofs.save_all.NewFile.put.Goals as goal

pub returns : goal.returns
returns c =
    let most : ℕ = c.args.self.now.most in
    let kept = slice_range c.args.self.now.source.now c.args.self.now.taken c.args.span.0 in
    record {
      same = record { number = refl; form = refl; source = refl; most = refl };
      long = refl;
      taken = refl;
      put = put_twice most kept c.args.text.now c.args.self.now.bytes.items
          c.append.new.bytes.items c.append-2.new.bytes.items c.in_ok-append.ensures
          c.in_ok-append-2.ensures;
    }
