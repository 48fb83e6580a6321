-- Nothing of the file was taken, and nothing put.
use Rattle.std.proofs.Common.{rules, [], inl, refl}
use Rattle.mm_text.proofs.Inclusions.OpenFiles.{file_there}
use Rattle.mm_save.proofs.save_all.new_file.Goals as goal

pub returns-clause-begun : goal.returns-clause-begun
returns-clause-begun c = λ fits. record {
  way = record {
    own = _;
    handed = file_there c.args.files.now c.args.number _ c.requires;
    source = refl;
    limit = c.most_for.ensures fits;
    within = search rules;
    last = inl refl;
  };
  so_far = record {
    replaced = [];
    each = search rules;
    bytes = [];
    up_to = λ more. refl;
    put = search rules;
  };
}
