-- Where a process finds an element whose descriptor lies on its stack: in an array of an instance in reach.
use Rattle.std.proofs.Common.{◌≡◌, sym, ap, ◌∙◌, subst, ℕ, ◌≤◌, List, [], ◌∷◌, Some, true, false, arith}
use Rattle.b67_scenes.proofs.Prelude.{PProgram, Scopes, scopes_of, Kind, Reference, Bounds, ArrayCell, World, Word, Descriptor, Code, Texts, OneSized, one_sized, TwoSized, two_sized, Lies, OwnArray, known_array, framed_cells, Allotted, Layout, AreSized, HasArray, IsArrayOf, ElementIsIn, IsInReach}
use Rattle.b67_table.specs.Arrays.{as_indexed}
use Rattle.b67_frames.specs.Arrays.{IsElement}
use Rattle.b67_frames.proofs.ElementRows.{element_copy_read}
use Rattle.b67_scenes.proofs.Finding.{Found, find}
use Rattle.b67_scenes.proofs.Led.{reached_stands}
use Rattle.b67_scenes.proofs.Scene.{Actor}

-- the place of an element in its row is a number that a descriptor can hold
place_few : (sc : Scopes) (w : World) (lay : Layout) (bs : List Bounds) (ks : List ℕ) (index at : ℕ) → AreSized bs → ElementIsIn sc w lay bs ks index at → at ≤ 1048576
place_few sc w lay [] ks index at sized within = absurd within
place_few sc w lay (b ∷ []) [] index at sized within = absurd within
place_few sc w lay (b ∷ []) (k ∷ []) index at sized within = let one : OneSized b = one_sized b sized in omega (arith, one.few, within.1, within.2)
place_few sc w lay (b ∷ []) (k ∷ l ∷ ks) index at sized within = absurd within
place_few sc w lay (b ∷ c ∷ []) [] index at sized within = absurd within
place_few sc w lay (b ∷ c ∷ []) (j ∷ []) index at sized within = absurd within
place_few sc w lay (b ∷ c ∷ []) (j ∷ k ∷ []) index at sized within = let two : TwoSized b c = two_sized b c sized in omega (arith, two.second.few, within.1, within.3)
place_few sc w lay (b ∷ c ∷ []) (j ∷ k ∷ l ∷ ks) index at sized within = absurd within
place_few sc w lay (b ∷ c ∷ d ∷ bs) ks index at sized within = absurd within

-- the descriptor of an element, so far in the row of this number
abbrev pub at_element : ℕ → ℕ → Descriptor
at_element at n = record { presence = true; copy = true; indexed = true; mother = false; length = at; address = n }

module _ (tree : PProgram) (code : Code) (texts : Texts) (actor : Actor tree code texts) where
  open actor use {w, lay, img, part, outer, s}

  module _ (r : Reference) (ks : List ℕ) (kind : Kind) (word : Word) (e : IsElement (scopes_of tree) w lay (IsInReach w (part ∷ outer)) r ks kind word) where
    abbrev sc : Scopes
    sc = scopes_of tree

    -- The instance of its array is in reach, and has that array. The word is read as the descriptor of the element.
    pub record ElementHome : Type 0 where
      pub lies : Found tree code texts w lay img r.instance
      pub home_is : r.instance ≡ lies.lies.part.instance
      pub of : IsArrayOf sc w lay lies.lies.part.instance r.name e.declared e.cell e.allotted
      pub has : HasArray sc w lay lies.lies.part.instance of.number e.declared e.cell e.allotted
      pub reads : as_indexed word ≡ Some (at_element e.at e.number)

    module _ (f : Found tree code texts w lay img r.instance) where
      abbrev l : Lies tree code texts w lay f.number (f.part ∷ f.outer) r.instance f.settled
      l = f.lies

      abbrev i : ℕ
      i = l.part.instance

      here_is : r.instance ≡ i
      here_is = sym l.instance_is

      of_here : IsArrayOf sc w lay i r.name e.declared e.cell e.allotted
      of_here = subst (λ (j : ℕ). IsArrayOf sc w lay j r.name e.declared e.cell e.allotted) here_is e.array

      abbrev Known_there : Type 0
      Known_there =
          (found : OwnArray sc w lay i l.owned.framed.instance (framed_cells sc w lay l.owned.framed) r.name of_here.number e.declared) × (found.cell ≡ e.cell) × (found.allotted ≡ e.allotted)

      known_there : Known_there
      known_there = known_array sc w lay i l.owned.framed.instance (framed_cells sc w lay l.owned.framed) r.name e.declared e.cell e.allotted of_here

      home_there : ElementHome
      home_there =
          record {
            lies = f;
            home_is = here_is;
            of = of_here;
            has =
                subst (λ (rows : Allotted). HasArray sc w lay i of_here.number e.declared e.cell rows) known_there.2
                (subst (λ (c : ArrayCell). HasArray sc w lay i of_here.number e.declared c known_there.0.allotted) known_there.1 known_there.0.has);
            reads =
                ap as_indexed e.word_is
                ∙ element_copy_read sc w lay e.at e.number
                (place_few sc w lay e.cell.bounds ks e.index e.at (subst (λ (c : ArrayCell). AreSized c.bounds) known_there.1 known_there.0.sized) e.within) e.few;
          }

    pub element_home : ElementHome
    element_home = home_there (find tree code texts w lay img s.by s.ok r.instance (reached_stands tree code texts actor r.instance e.own))
