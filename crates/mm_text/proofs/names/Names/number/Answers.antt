use Rattle.std.proofs.Common.{ap, ◌∙◌}
use Rattle.mm_text.specs.declared.names.Name.{Name}
use Rattle.mm_base.specs.Spelling.{spells}
use Rattle.mm_text.specs.Mirror.Names.{number_among}
use Rattle.mm_text.proofs.Inclusions.OpenFiles.{position-names}
use Rattle.mm_text.proofs.names.Names.number.Goals as goal

pub returns : goal.returns
returns c =
    c.get_index_of.ensures.index
    ∙ position-names (λ (n : Name). n.0.now) (spells c.args.name.now) c.self.inside.numbers.keys
    ∙ ap (λ names. number_among names c.args.name.now) c.self.view_is
