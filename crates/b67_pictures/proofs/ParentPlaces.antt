-- The frame of an instance that stands, from which another instance is entered: it lies in whatever stack, as low as stacks are, and its display can be rebuilt.
use Rattle.std.proofs.Common.{◌≡◌, sym, ap, ◌∙◌, subst, ℕ, ◌<◌, ◌≤◌, length, arith}
use Rattle.b67_pictures.proofs.Prelude.{PProgram, Scopes, scopes_of, Instance, World, numbered_small, IsOk, IsStanding, IsWholeInstance, Place, Code, stack_limit, place, Image, most_processes, Texts, some_same, Linked, OwnCells, HasCells, framed_cells, Layout, Found, found_laid, two_below, find, PicturesBy}
use Rattle.b67_frames.proofs.Linked.{linked}
use Rattle.b67_scenes.proofs.Finding.{entered_of}
use Rattle.b67_scenes.proofs.Worlds.{placed_of}

module _ (tree : PProgram) (code : Code) (texts : Texts) (w : World) (lay : Layout) (img : Image) (by : PicturesBy tree code texts w lay img) (ok : IsOk (scopes_of tree) IsWholeInstance w) (i : ℕ) (st : IsStanding w i) where
  abbrev sc : Scopes
  sc = scopes_of tree

  abbrev FoundThere : Type 0
  FoundThere = Found tree code texts w lay img i

  pub standing_linked : Linked (scopes_of tree) w lay img.stacks i
  standing_linked = linked sc w lay img.stacks (placed_of tree code texts w lay img by ok) (entered_of tree code texts w lay img by ok) i st

  -- its cells are those of its block
  pub standing_cells : HasCells (scopes_of tree) w lay i
  standing_cells = cells_there (find tree code texts w lay img by ok i st)
    where
      cells_there : FoundThere → HasCells sc w lay i
      cells_there f =
          let x : Instance = f.lies.owned.framed.instance in
          (x, subst (λ (j : ℕ). OwnCells sc w lay j x) f.lies.instance_is (framed_cells sc w lay f.lies.owned.framed))

  module _ (l : Linked (scopes_of tree) w lay img.stacks i) where
    pub found_linked : (f : Found tree code texts w lay img i) → l.at ≡ place f.number (length f.lies.frame.lower)
    found_linked f = some_same (sym l.laid ∙ found_laid tree code texts w lay img i f)

    pub linked_few : (l.at).stack ≤ most_processes
    linked_few = few_there (find tree code texts w lay img by ok i st)
      where
        few_there : FoundThere → (l.at).stack ≤ most_processes
        few_there f = omega (arith, ap (λ (g : Place). g.stack) (found_linked f), numbered_small w.processes f.number f.process f.is, by.few)

    pub linked_low : (l.at).at < stack_limit
    linked_low = low_there (find tree code texts w lay img by ok i st)
      where
        low_there : FoundThere → (l.at).at < stack_limit
        low_there f = omega (arith, ap (λ (g : Place). g.at) (found_linked f), two_below tree code texts w lay img i f, f.small)
