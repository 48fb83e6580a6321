-- What is put is what is put for the theorem, or the label is kept.
use Rattle.std.proofs.Common.{inl, refl}
use Rattle.std.proofs.lemmas.Result.{on_ok_weaker}
use Rattle.mm_save.proofs.save_all.NewFile.write.Goals as goal

pub returns-in-Ok : goal.returns-in-Ok
returns-in-Ok c =
    on_ok_weaker c.put.result
    (λ puts.
    let p = rw c.deref.ensures.value at puts in
    let same = p.same in
    inl (record {
      text = c.in-Ok.text.items;
      puts = record {
        same = record {
          number = same.number;
          form = same.form;
          source = same.source;
          most = same.most;
        };
        long = p.long;
        taken = p.taken;
        put = p.put;
      };
      anew = λ theorem. c.in-Ok.ensures.text c.args.self.now.source.now theorem refl;
    }))
    c.put.ensures
