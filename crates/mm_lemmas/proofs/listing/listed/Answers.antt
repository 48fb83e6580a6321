-- At first no line is listed.
use Rattle.mm_lemmas.proofs.listing.listed.Goals as goal

pub list_each-requires : goal.list_each-requires
list_each-requires c =
    c.no_lines-list.ensures c.args.checked.now.files c.args.most c.args.least
