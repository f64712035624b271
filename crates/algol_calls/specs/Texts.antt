-- When the texts of the blocks are as worlds want them: each name is seen from where it stands, and each call fits.
use Rattle.std.specs.Prelude.{◌≡◌, ℕ, ◌<◌, [], length}
use Rattle.algol_tree.specs.Blocks.{block_numbered, around}
use Rattle.algol_tree.specs.Plain.{PProgram}
use Rattle.algol_tree.specs.Scopes.{Scopes, scopes_of}
use Rattle.algol_meaning.specs.Statements.{items_of}
use Rattle.algol_paths.specs.Laws.{ItemsKeepToText}
use Rattle.algol_calls.specs.Fits.{ItemsFit, CallsFitInTexts}

-- The items of each block keep to its text.
abbrev pub KeepToTexts : Scopes → Type 0
KeepToTexts sc = (j : ℕ) → j < length sc.blocks → ItemsKeepToText sc j (items_of (block_numbered sc.blocks j))

-- .. and each of their calls names a procedure and has an actual that fits for each parameter.
pub record AreTexts (sc : Scopes) : Type 0 where
  pub keep : KeepToTexts sc
  pub fit : CallsFitInTexts sc

-- The outer block comes first, nothing is around it, it has no parameters, its items keep to its text, and their calls fit.
pub record HasOuterBlock (sc : Scopes) : Type 0 where
  pub known : 0 < length sc.blocks
  pub outermost : around sc.blocks 0 ≡ []
  pub parameterless : (block_numbered sc.blocks 0).parameters ≡ []
  pub text : ItemsKeepToText sc 0 (items_of (block_numbered sc.blocks 0))
  pub fit : ItemsFit sc (items_of (block_numbered sc.blocks 0))

-- So they are in a program.
pub record HasTexts (p : PProgram) : Type 0 where
  pub texts : AreTexts (scopes_of p)
  pub outer : HasOuterBlock (scopes_of p)
