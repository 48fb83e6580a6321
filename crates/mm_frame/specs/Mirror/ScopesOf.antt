-- What the code's scopes hold. This file mirrors the code, and is cited by private contracts alone.
use Rattle.std.specs.Prelude.{◌≡◌, ◌<◌, List, length, vec_len, vec_capacity}
use Rattle.mm_frame.specs.declared.scopes.Scopes.{Scopes}
use Rattle.mm_frame.specs.declared.scopes.TheConstants.{NEVER}
use Rattle.mm_base.specs.declared.statement.Kind.{Kind}
use Rattle.mm_base.specs.declared.statement.Kind.TheVariants.{Closing}
use Rattle.mm_frame.specs.Sentence.{Sentence}
use Rattle.mm_frame.specs.Active.{open_marks, close_marks}
use Rattle.mm_frame.specs.Mirror.Scopes.{AreScopes}

-- the scopes are those of these statements
abbrev pub HaveScopes : List Sentence → Scopes → Type 0
HaveScopes statements s = AreScopes NEVER statements s.blocks.items s.ends.items s.open.items

-- the scopes are those of some statements, which a statement of the kind can follow: a `$}` needs an
-- open block
abbrev pub CanTake : Kind → Scopes → Type 0
CanTake kind s = (statements : List Sentence) × HaveScopes statements s
    × (kind ≡ Closing → close_marks statements < open_marks statements)

-- there is room for one statement more
pub record HasRoom (s : Scopes) : Type 0 where
  pub blocks : vec_len s.blocks < vec_capacity s.blocks
  pub ends : vec_len s.ends < vec_capacity s.ends
  pub open_blocks : vec_len s.open < vec_capacity s.open
  pub few_statements : length s.blocks.items < 4294967296
  pub few_blocks : length s.ends.items < 4294967296

-- the same lists
pub record HaveSameLists (s t : Scopes) : Type 0 where
  pub blocks : t.blocks.items ≡ s.blocks.items
  pub ends : t.ends.items ≡ s.ends.items
  pub open_blocks : t.open.items ≡ s.open.items
