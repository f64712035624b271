-- The name of a declared array that is given to a procedure leads to the cell of an array, which its instance has made.
use Rattle.std.proofs.Common.{◌≡◌, ◌⊎◌, inl, inr, sym, ap, ◌∙◌, ℕ, zero, suc, ◌+◌, ◌≤◌, List, [], ◌∷◌, Some, true, false, arith}
use Rattle.b67_frames.proofs.Prelude.{block_numbered, PProgram, Scopes, use_of, is_variable, is_formal, Named, Given, valued, refers, names, Instance, Part, World, instance_at, or_no_instance, ancestor, DeclaredArray, an_array, Shape, shape_of, Made, BlockIsSeen, IsSeenAround, IsStanding, Word, Couple, cell_word, ShapeAgrees, simple_cells, made_base, found_from, IsDeclaredArray, made_of, made_from, FoundMade, some_same, InReferred, Layout, named_from, ReferenceLeadsTo, Names, an_array_named, an_event_named, a_variable_named, IsNamed, IsComplete, ArePlaced}
use Rattle.algol_tree.specs.Scopes.{scopes_of}
use Rattle.algol_meaning.specs.Rest.{passed}
use Rattle.b67_templates.specs.Cells.{IsMadeThere}
use Rattle.b67_frames.proofs.OwnCells.{OwnCells, HasCells, OwnArray, none_later, all_made, own_array}
use Rattle.b67_frames.proofs.StaticParents.{IsParent, parents}

-- a name that is seen, where all is made that its block declares, or as one in a bound
abbrev pub IsSeenMade : PProgram → World → Layout → Part → Named → Type 0
IsSeenMade tree w lay part n =
    BlockIsSeen (scopes_of tree) ((instance_at w part.instance).block) n
    × (IsComplete (scopes_of tree) w lay part.instance ⊎ IsSeenAround (scopes_of tree) ((instance_at w part.instance).block) n)

-- each of those that are given is so
pub both_seen : (tree : PProgram) (w : World) (lay : Layout) (part : Part) (gs : List Given) → InReferred (BlockIsSeen (scopes_of tree) ((instance_at w part.instance).block)) gs →
    IsComplete (scopes_of tree) w lay part.instance ⊎ InReferred (IsSeenAround (scopes_of tree) ((instance_at w part.instance).block)) gs → InReferred (IsSeenMade tree w lay part) gs
both_seen tree w lay part gs seen (inl none) = none_made gs seen
  where
    none_made : (xs : List Given) → InReferred (BlockIsSeen (scopes_of tree) ((instance_at w part.instance).block)) xs → InReferred (IsSeenMade tree w lay part) xs
    none_made [] is = tt
    none_made (refers n ∷ xs) is = ((is.0, inl none), none_made xs is.1)
    none_made (valued v ∷ xs) is = none_made xs is
    none_made (passed c ∷ xs) is = none_made xs is
    none_made (names e ∷ xs) is = none_made xs is
both_seen tree w lay part gs seen (inr around_it) = all_around gs seen around_it
  where
    all_around : (xs : List Given) → InReferred (BlockIsSeen (scopes_of tree) ((instance_at w part.instance).block)) xs → InReferred (IsSeenAround (scopes_of tree) ((instance_at w part.instance).block)) xs →
        InReferred (IsSeenMade tree w lay part) xs
    all_around [] is more = tt
    all_around (refers n ∷ xs) is more = ((is.0, inr more.0), all_around xs is.1 more.1)
    all_around (valued v ∷ xs) is more = all_around xs is more
    all_around (passed c ∷ xs) is more = all_around xs is more
    all_around (names e ∷ xs) is more = all_around xs is more

-- so far up all arrays are made
pub up_complete : (sc : Scopes) (w : World) (lay : Layout) (i k : ℕ) → IsComplete sc w lay i ⊎ (1 ≤ k) → (1 ≤ k → IsComplete sc w lay (ancestor w k i)) → IsComplete sc w lay (ancestor w k i)
up_complete sc w lay i zero (inl whole) further = whole
up_complete sc w lay i zero (inr far) further = absurd (omega (arith, far))
up_complete sc w lay i (suc k) made further = further (omega arith)

-- The name of what a block makes, by whatever couple it is named: the couple's index is that of its number there.
pub made_index : (sc : Scopes) (w : World) (lay : Layout) (level at base : ℕ) (n : Named) (made : Made) (c couple : Couple) (m : IsMadeThere sc level n made c) → is_variable ((use_of sc n).sort) ≡ false →
    base ≡ (use_of sc n).block → Names sc w lay at n couple → couple.index ≡ made_base sc (block_numbered sc.blocks base) + m.number
made_index sc w lay level at base n made c couple m constant same (an_array_named other is) =
    omega (arith, is.made.index_is, ap (λ (y : FoundMade). y.number) (some_same (sym is.made.there ∙ m.there)), ap (λ (j : ℕ). made_base sc (block_numbered sc.blocks j)) same)
made_index sc w lay level at base n made c couple m constant same (an_event_named is) =
    omega (arith, is.made.index_is, ap (λ (y : FoundMade). y.number) (some_same (sym is.made.there ∙ m.there)), ap (λ (j : ℕ). made_base sc (block_numbered sc.blocks j)) same)
made_index sc w lay level at base n made c couple m constant same (a_variable_named kind is) = absurd (let clash : false ≡ true = sym constant ∙ is.variable in cc)

-- The part's instance stands. Instances that stand are placed, and have their cells.
module _ (tree : PProgram) (w : World) (lay : Layout) (placed : ArePlaced (scopes_of tree) w lay) (each : (j : ℕ) → IsStanding w j → HasCells (scopes_of tree) w lay j)
    (part : Part) (st : IsStanding w part.instance) (Stand : ℕ → Type 0) where
  abbrev sc : Scopes
  sc = scopes_of tree

  abbrev block : ℕ
  block = (instance_at w part.instance).block

  -- A name of an array, and the word that it has there.
  pub record NamesArray : Type 0 where
    pub level : ℕ
    pub name : Named
    pub seen : IsSeenMade tree w lay part name
    pub shape : Shape
    pub declared : DeclaredArray
    pub couple : Couple
    pub is_declared : IsDeclaredArray sc level name declared couple
    pub agrees : ShapeAgrees shape (shape_of declared)
    pub word : Word
    pub named : IsNamed sc w lay Stand part.instance name word

  module _ (names_it : NamesArray) where
    open names_it use {level, name as n, seen, shape, declared as d, couple as c, is_declared as v, agrees, word as x, named as h}

    abbrev up : ℕ
    up = (use_of sc n).up

    abbrev home : ℕ
    home = ancestor w up part.instance

    -- the name of an array in a bound is one of a block around
    in_bound : (1 ≤ up) ⊎ (is_variable ((use_of sc n).sort) ≡ true) ⊎ (is_formal ((use_of sc n).sort) ≡ true) → 1 ≤ up
    in_bound (inl far) = far
    in_bound (inr (inl is)) = absurd (let clash : false ≡ true = sym (ap is_variable v.sort_is) ∙ is in cc)
    in_bound (inr (inr is)) = absurd (let clash : false ≡ true = sym (ap is_formal v.sort_is) ∙ is in cc)

    far_or_made : IsComplete sc w lay part.instance ⊎ IsSeenAround sc block n → IsComplete sc w lay part.instance ⊎ (1 ≤ up)
    far_or_made (inl whole) = inl whole
    far_or_made (inr around_it) = inr (in_bound around_it.1)

    parent : IsParent sc w lay part.instance up ((use_of sc n).block)
    parent = parents sc w lay placed part.instance st up ((use_of sc n).block) seen.0

    complete : IsComplete sc w lay home
    complete = up_complete sc w lay part.instance up (far_or_made seen.1) parent.complete

    module _ (here : Instance) (own : OwnCells sc w lay home here) where
      instance_here : instance_at w home ≡ here
      instance_here = ap or_no_instance own.is

      block_here : here.block ≡ (use_of sc n).block
      block_here = sym (ap (λ (y : Instance). y.block) instance_here) ∙ parent.block

      there : made_from 0 (made_of (block_numbered sc.blocks here.block).decls) n.name ≡ Some (record { number = v.made.number; made = an_array d })
      there = ap (λ (j : ℕ). made_from 0 (made_of (block_numbered sc.blocks j).decls) n.name) block_here ∙ v.made.there

      found : OwnArray sc w lay home here own n.name v.made.number d
      found =
          own_array sc w lay home here own n.name v.made.number d there
          (all_made sc w lay home here own n.name v.made.number d there (none_later sc w lay home here own complete))
          (ap (λ (j : ℕ). found_from 0 (simple_cells sc (block_numbered sc.blocks j)) n.name) block_here ∙ v.made.apart)

      same_block : (instance_at w home).block ≡ (use_of sc n).block
      same_block = ap (λ (y : Instance). y.block) instance_here ∙ block_here

      index_is : h.couple.index ≡ made_base sc (block_numbered sc.blocks ((instance_at w home).block)) + v.made.number
      index_is = made_index sc w lay level h.level ((instance_at w home).block) n (an_array d) c h.couple v.made (ap is_variable v.sort_is) same_block h.names

      leads_there : ReferenceLeadsTo sc w lay Stand shape (named_from sc w lay part.instance n) x
      leads_there =
          record {
            own = h.own;
            declared = d;
            agrees = agrees;
            cell = found.cell;
            allotted = found.allotted;
            array = record {
              number = v.made.number;
              found = ap (λ (y : Instance). made_from 0 (made_of (block_numbered sc.blocks y.block).decls) n.name) instance_here ∙ there;
              is = found.of.is;
              allotted = found.has.allotted;
            };
            frame = h.frame;
            laid = h.laid;
            word_is = h.word_is ∙ ap (λ (k : ℕ). cell_word (record { frame = h.frame; index = k })) index_is;
          }

    pub named_leads : ReferenceLeadsTo (scopes_of tree) w lay Stand shape (named_from (scopes_of tree) w lay part.instance n) x
    named_leads = let c = each home parent.stands in leads_there c.0 c.1
