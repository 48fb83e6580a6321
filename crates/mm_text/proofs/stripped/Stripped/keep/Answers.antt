use Rattle.std.proofs.Common.{◌∷◌, []}
use Rattle.mm_text.proofs.Alike.StrippedFiles.{kept_so}
use Rattle.mm_text.proofs.stripped.Stripped.keep.Goals as goal

pub returns : goal.returns
returns c = λ bytes stripped.
    kept_so bytes c.args.self.now.kept.items c.push.new.self.items (c.args.byte ∷ []) c.args.self.now.state c.after-self.result
    c.requires c.after-self.ensures.none c.in_ok-push.ensures.items (c.after-self.ensures.at c.args.self.now.kept.items) stripped
