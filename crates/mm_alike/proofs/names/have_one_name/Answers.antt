-- By the bytes of the names.
use Rattle.mm_alike.proofs.ComparedNames.{one_name}
use Rattle.mm_alike.proofs.names.have_one_name.Goals as goal

pub returns : goal.returns
returns c =
    one_name _ _ c.name.result.now c.name-2.result.now c.eq.result c.name.ensures
    c.name-2.ensures c.eq.ensures
