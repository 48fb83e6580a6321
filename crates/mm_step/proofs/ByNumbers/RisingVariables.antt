-- Lists of variables whose numbers rise.
use Rattle.std.specs.Ordering.{nat_cmp}
use Rattle.std.specs.declared.cmp.Ordering.{Ordering}
use Rattle.mm_frame.specs.declared.number.Sym.{Sym}

-- the order of symbols, by their numbers
abbrev pub by_number : Sym → Sym → Ordering
by_number x y = nat_cmp x.0 y.0
