-- At first no line is listed.
use Rattle.mm_lemmas.proofs.listing.lines_of.Goals as goal

pub list_each-lines-requires : goal.list_each-lines-requires
list_each-lines-requires c =
    c.no_lines-list.ensures c.args.checked.now.files c.args.most c.args.least
