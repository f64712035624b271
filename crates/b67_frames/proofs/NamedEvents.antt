-- The name of a declared event that is given to a procedure leads to the cell of an event, which its instance has made.
use Rattle.std.proofs.Common.{◌≡◌, ◌⊎◌, inl, inr, sym, ap, ◌∙◌, ℕ, ◌+◌, ◌≤◌, Some, true, false}
use Rattle.b67_frames.proofs.Prelude.{block_numbered, PProgram, Scopes, use_of, is_variable, is_formal, Named, Instance, Part, World, instance_at, or_no_instance, ancestor, cell_in, an_event, IsSeenAround, IsStanding, Word, Couple, cell_word, simple_cells, made_base, found_from, IsDeclaredEvent, made_of, made_from, Layout, named_from, LeadsToEvent, IsNamed, IsComplete, ArePlaced}
use Rattle.algol_tree.specs.Scopes.{scopes_of}
use Rattle.b67_frames.proofs.NamedArrays.{IsSeenMade, up_complete, made_index}
use Rattle.b67_frames.proofs.OwnCells.{OwnCells, HasCells, none_later}
use Rattle.b67_frames.proofs.OwnEvents.{OwnEvent, own_event}
use Rattle.b67_frames.proofs.StaticParents.{IsParent, parents}

-- an event that a block declares is no variable and no parameter, so its name in a bound is one of a block around
pub far_event : (sc : Scopes) (level : ℕ) (n : Named) (c : Couple) → IsDeclaredEvent sc level n c → (1 ≤ (use_of sc n).up) ⊎ (is_variable ((use_of sc n).sort) ≡ true) ⊎ (is_formal ((use_of sc n).sort) ≡ true) → 1 ≤ (use_of sc n).up
far_event sc level n c v (inl far) = far
far_event sc level n c v (inr (inl is)) = absurd (let clash : false ≡ true = sym (ap is_variable v.sort_is) ∙ is in cc)
far_event sc level n c v (inr (inr is)) = absurd (let clash : false ≡ true = sym (ap is_formal v.sort_is) ∙ is in cc)

-- A name of an event, and the word that it has there.
pub record NamesEvent (tree : PProgram) (w : World) (lay : Layout) (part : Part) (Stand : ℕ → Type 0) : Type 0 where
  pub level : ℕ
  pub name : Named
  pub seen : IsSeenMade tree w lay part name
  pub couple : Couple
  pub is_declared : IsDeclaredEvent (scopes_of tree) level name couple
  pub word : Word
  pub named : IsNamed (scopes_of tree) w lay Stand part.instance name word

module _ (tree : PProgram) (w : World) (lay : Layout) (placed : ArePlaced (scopes_of tree) w lay) (each : (j : ℕ) → IsStanding w j → HasCells (scopes_of tree) w lay j) (part : Part) (st : IsStanding w part.instance)
    (Stand : ℕ → Type 0) (names_it : NamesEvent tree w lay part Stand) where
  open names_it use {level, name as n, seen, couple as c, is_declared as v, word as x, named as h}

  abbrev sc : Scopes
  sc = scopes_of tree

  abbrev up : ℕ
  up = (use_of sc n).up

  abbrev home : ℕ
  home = ancestor w up part.instance

  far_or_made : IsComplete sc w lay part.instance ⊎ IsSeenAround sc ((instance_at w part.instance).block) n → IsComplete sc w lay part.instance ⊎ (1 ≤ up)
  far_or_made (inl whole) = inl whole
  far_or_made (inr around_it) = inr (far_event sc level n c v around_it.1)

  parent : IsParent sc w lay part.instance up ((use_of sc n).block)
  parent = parents sc w lay placed part.instance st up ((use_of sc n).block) seen.0

  complete : IsComplete sc w lay home
  complete = up_complete sc w lay part.instance up (far_or_made seen.1) parent.complete

  module _ (here : Instance) (own : OwnCells sc w lay home here) where
    instance_here : instance_at w home ≡ here
    instance_here = ap or_no_instance own.is

    block_here : here.block ≡ (use_of sc n).block
    block_here = sym (ap (λ (y : Instance). y.block) instance_here) ∙ parent.block

    there : made_from 0 (made_of (block_numbered sc.blocks here.block).decls) n.name ≡ Some (record { number = v.made.number; made = an_event n.name })
    there = ap (λ (j : ℕ). made_from 0 (made_of (block_numbered sc.blocks j).decls) n.name) block_here ∙ v.made.there

    found : OwnEvent sc w lay home here own n.name v.made.number
    found =
        own_event sc w lay home here own n.name v.made.number there (none_later sc w lay home here own complete)
        (ap (λ (j : ℕ). found_from 0 (simple_cells sc (block_numbered sc.blocks j)) n.name) block_here ∙ v.made.apart)

    index_is : h.couple.index ≡ made_base sc (block_numbered sc.blocks ((instance_at w home).block)) + v.made.number
    index_is =
        made_index sc w lay level h.level ((instance_at w home).block) n (an_event n.name) c h.couple v.made (ap is_variable v.sort_is)
        (ap (λ (y : Instance). y.block) instance_here ∙ block_here) h.names

    leads_there : LeadsToEvent sc w lay Stand (named_from sc w lay part.instance n) x
    leads_there =
        record {
          own = h.own;
          made = record {
            number = v.made.number;
            found = ap (λ (y : Instance). made_from 0 (made_of (block_numbered sc.blocks y.block).decls) n.name) instance_here ∙ there;
            cell = found.cell;
            is = ap (λ (y : Instance). cell_in y.cells n.name) instance_here ∙ found.means;
          };
          frame = h.frame;
          laid = h.laid;
          word_is = h.word_is ∙ ap (λ (k : ℕ). cell_word (record { frame = h.frame; index = k })) index_is;
        }

  pub event_leads : LeadsToEvent (scopes_of tree) w lay Stand (named_from (scopes_of tree) w lay part.instance n) x
  event_leads = let c = each home parent.stands in leads_there c.0 c.1
