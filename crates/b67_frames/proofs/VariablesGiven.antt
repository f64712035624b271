-- The name of a variable that is given to a parameter by name leads to the cell of that variable.
use Rattle.std.proofs.Common.{◌≡◌, sym, ap, ◌∙◌, ℕ, ◌+◌, true, false, arith}
use Rattle.b67_frames.proofs.Prelude.{block_numbered, PProgram, Scopes, use_of, is_variable, Kind, Named, Part, World, instance_at, BlockIsSeen, IsStanding, Word, Couple, cell_word, Found, found_from, simple_cells, IsVariable, some_same, Layout, named_from, LeadsToVariable, Names, an_array_named, an_event_named, a_variable_named, IsNamed, ArePlaced}
use Rattle.algol_tree.specs.Scopes.{scopes_of}
use Rattle.b67_frames.proofs.StaticParents.{IsParent, parents}

-- A name of a variable, and the word that it has there.
pub record NamesVariable (tree : PProgram) (w : World) (lay : Layout) (part : Part) (Stand : ℕ → Type 0) : Type 0 where
  pub level : ℕ
  pub name : Named
  pub seen : BlockIsSeen (scopes_of tree) ((instance_at w part.instance).block) name
  pub kind : Kind
  pub couple : Couple
  pub is_variable : IsVariable (scopes_of tree) level name kind couple
  pub word : Word
  pub named : IsNamed (scopes_of tree) w lay Stand part.instance name word

module _ (tree : PProgram) (w : World) (lay : Layout) (placed : ArePlaced (scopes_of tree) w lay) (part : Part) (st : IsStanding w part.instance) (Stand : ℕ → Type 0) (names_it : NamesVariable tree w lay part Stand) where
  open names_it use {name as n, seen, kind, is_variable as v, word as x, named as h}

  abbrev sc : Scopes
  sc = scopes_of tree

  abbrev up : ℕ
  up = (use_of sc n).up

  index_is : h.couple.index ≡ 2 + v.found.number
  index_is = by_name h.names
    where
      by_name : Names sc w lay h.level n h.couple → h.couple.index ≡ 2 + v.found.number
      by_name (a_variable_named other is) = omega (arith, is.index_is, ap (λ (y : Found). y.number) (some_same (sym is.there ∙ v.there)))
      by_name (an_event_named is) = absurd (let clash : false ≡ true = sym (ap is_variable is.sort_is) ∙ v.variable in cc)
      by_name (an_array_named declared is) = absurd (let clash : false ≡ true = sym (ap is_variable is.sort_is) ∙ v.variable in cc)

  parent : IsParent sc w lay part.instance up ((use_of sc n).block)
  parent = parents sc w lay placed part.instance st up ((use_of sc n).block) seen

  pub variable_leads : LeadsToVariable (scopes_of tree) w lay Stand kind (named_from (scopes_of tree) w lay part.instance n) x
  variable_leads =
      record {
        own = h.own;
        found = v.found;
        there = ap (λ (j : ℕ). found_from 0 (simple_cells sc (block_numbered sc.blocks j)) n.name) parent.block ∙ v.there;
        wanted_is = v.wanted_is;
        frame = h.frame;
        laid = h.laid;
        word_is = h.word_is ∙ ap (λ (k : ℕ). cell_word (record { frame = h.frame; index = k })) index_is;
      }
