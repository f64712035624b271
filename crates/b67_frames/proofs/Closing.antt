-- What is asked of the closing of a frame's arrays: the rows that its cells describe are closed, and those of all other arrays stay.
use Rattle.std.proofs.Common.{◌≡◌, ℕ, List, [], ◌∷◌}
use Rattle.b67_frames.proofs.Prelude.{Scopes, leave, Part, World, Word, Rows, Image, with_rows, arrays_closed, Change, changed, Layout, ArraysAre, Framed}

-- what the closing of the rows that these cells describe leaves, in an image of a world
pub record IsClosed (sc : Scopes) (w : World) (lay : Layout) (img : Image) (i : ℕ) (cells : List Word) : Type 0 where
  pub rows : Rows
  pub changes : (p : ℕ) (next : Change) → changed p (arrays_closed cells next) img ≡ changed p next (with_rows img rows)
  pub are : ArraysAre sc (leave w (i ∷ [])) lay rows

abbrev pub FramesClose : Type 0
FramesClose =
    (sc : Scopes) (w : World) (lay : Layout) (img : Image) → ArraysAre sc w lay img.rows →
    (p i : ℕ) (outer : List Part) (at : ℕ) (mark control : Word) (cells : List Word) → Framed sc w lay p i outer at mark control cells → IsClosed sc w lay img i cells
