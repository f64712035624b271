-- How many arrays an instance has made, and when it has made all of them.
use Rattle.std.proofs.Common.{◌≡◌, refl, sym, ap, ◌∙◌, ℕ, suc, ◌+◌, List, [], ◌∷◌, length, arith, length-append}
use Rattle.b67_frames.proofs.Prelude.{block_numbered, Scopes, NamedCell, Instance, Part, World, instance_at, or_no_instance, Made, Word, simple_cells, made_of, Allotted, Layout, AreMade, IsComplete, Framed}
use Rattle.b67_frames.proofs.Zeros.{cells_length}

-- there are as many cells, rows and descriptors as arrays
pub record AsMany (ds : List Made) (cells : List NamedCell) (rows : List Allotted) (words : List Word) : Type 0 where
  pub cells_many : length cells ≡ length ds
  pub rows_many : length rows ≡ length ds
  pub words_many : length words ≡ length ds

pub made_many : (ds : List Made) (cells : List NamedCell) (rows : List Allotted) (words : List Word) → AreMade ds cells rows words → AsMany ds cells rows words
made_many [] [] [] [] made = record { cells_many = refl; rows_many = refl; words_many = refl }
made_many [] [] [] (w ∷ words) made = absurd made
made_many [] [] (a ∷ rows) words made = absurd made
made_many [] (c ∷ cells) rows words made = absurd made
made_many (d ∷ ds) [] rows words made = absurd made
made_many (d ∷ ds) (c ∷ cells) [] words made = absurd made
made_many (d ∷ ds) (c ∷ cells) (a ∷ rows) [] made = absurd made
made_many (d ∷ ds) (c ∷ cells) (a ∷ rows) (w ∷ words) made =
    let m : AsMany ds cells rows words = made_many ds cells rows words made.1 in
    record { cells_many = ap suc m.cells_many; rows_many = ap suc m.rows_many; words_many = ap suc m.words_many }

-- an instance with nothing to make is complete
pub complete_of : (sc : Scopes) (w : World) (lay : Layout) (p i : ℕ) (outer : List Part) (at : ℕ) (mark control : Word) (cells : List Word) (f : Framed sc w lay p i outer at mark control cells) → f.later ≡ [] →
    IsComplete sc w lay i
complete_of sc w lay p i outer at marked control cells f none =
    let here : instance_at w i ≡ f.instance = ap or_no_instance f.is in
    let m : AsMany f.declared f.arrays (lay.rows i) f.descriptors = made_many f.declared f.arrays (lay.rows i) f.descriptors f.made in
    ap (λ (x : Instance). length x.cells) here
    ∙ omega (
      arith,
      ap length f.has,
      length-append f.simple f.arrays,
      cells_length (simple_cells sc (block_numbered sc.blocks f.instance.block)) f.simple f.values f.simple_are,
      m.cells_many,
      ap length f.order,
      length-append f.declared f.later,
      ap length none,
    )
    ∙ ap (λ (x : Instance). length (simple_cells sc (block_numbered sc.blocks x.block)) + length (made_of (block_numbered sc.blocks x.block).decls)) (sym here)
