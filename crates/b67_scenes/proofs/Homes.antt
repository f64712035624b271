-- Where a process finds a variable: in the frame of its instance or of a static parent of that.
use Rattle.std.proofs.Common.{◌≡◌, ap, ◌∙◌, ℕ, ◌+◌, List, ◌∷◌, length, Some, Ok, arith}
use Rattle.b67_scenes.proofs.Prelude.{block_numbered, PProgram, Scopes, scopes_of, use_of, Kind, Named, Reference, instance_at, ancestor, BlockIsSeen, Couple, Operator, Placed, Code, word_at, place, display_at, operator_at, Found, found_from, simple_cells, IsVariable, Has, Texts, Slot, Core, Known, CoreAt, IsParent, IsInReach}
use Rattle.b67_segment.specs.Fetching.{fetched}
use Rattle.b67_segment.proofs.Among.{fetched_spelled}
use Rattle.b67_scenes.proofs.Led.{named_parent, named_reached, named_shown}
use Rattle.b67_scenes.proofs.Scene.{Actor}
use Rattle.b67_scenes.proofs.Staying.{names_in}
use Rattle.b67_scenes.proofs.VariableHomes.{VariableHome, variable_home}

-- the operator that stands where a core stands
pub operator_there : (sc : Scopes) (known : List Known) (code : Code) (ps : List Placed) (level pc : ℕ) (slots : List Slot) (core : Core) (op : Operator) (next : ℕ) → CoreAt sc known code ps level pc slots core →
    Has ps level pc op next → operator_at code core.registers ≡ Ok (op, next)
operator_there sc known code ps level pc slots core op next at has =
    ap (λ (n : ℕ). fetched code (record { segment = core.registers.segment; place = n }) core.registers.ll) at.place_is
    ∙ ap (λ (l : ℕ). fetched code (record { segment = core.registers.segment; place = pc }) l) at.level_is
    ∙ fetched_spelled code core.registers.segment at.there at.spells has

module _ (tree : PProgram) (code : Code) (texts : Texts) (actor : Actor tree code texts) where
  open actor use {w, lay, img, part, outer, core}

  abbrev sc : Scopes
  sc = scopes_of tree

  -- the instance that holds what a name means there
  abbrev pub home_at : Named → ℕ
  home_at n = ancestor w ((use_of sc n).up) part.instance

  abbrev pub named_at : Named → Reference
  named_at n = record { instance = home_at n; name = n.name }

  -- what a name means there: its instance, the frame of which the display names, and the cell in it
  pub record Home (n : Named) (kind : Kind) (couple : Couple) : Type 0 where
    pub parent : IsParent sc w lay part.instance ((use_of sc n).up) ((use_of sc n).block)
    pub reached : IsInReach w (part ∷ outer) (home_at n)
    pub found : Found
    pub at : VariableHome tree code texts actor (named_at n) kind found
    pub index : couple.index ≡ 2 + at.number
    pub lies : word_at img.stacks (place at.seen_there.found.number (length at.seen_there.found.lies.frame.lower + couple.index)) ≡ Some at.word
    pub shown : display_at core.registers couple.level ≡ Some (place at.seen_there.found.number (length at.seen_there.found.lies.frame.lower))

  module _ (n : Named) (kind : Kind) (couple : Couple) (is_seen : BlockIsSeen sc ((instance_at w part.instance).block) n) (v : IsVariable sc (names_in tree w part) n kind couple) where
    parent : IsParent sc w lay part.instance ((use_of sc n).up) ((use_of sc n).block)
    parent = named_parent tree code texts actor n is_seen

    there : found_from 0 (simple_cells sc (block_numbered sc.blocks ((instance_at w (home_at n)).block))) n.name ≡ Some v.found
    there = ap (λ (k : ℕ). found_from 0 (simple_cells sc (block_numbered sc.blocks k)) n.name) parent.block ∙ v.there

    home_there : VariableHome tree code texts actor (named_at n) kind v.found → Home n kind couple
    home_there h =
        let index_is : couple.index ≡ 2 + h.number = omega (arith, v.index_is, h.number_is) in
        record {
          parent = parent;
          reached = named_reached tree code texts actor n is_seen;
          found = v.found;
          at = h;
          index = index_is;
          lies = ap (λ (k : ℕ). word_at img.stacks (place h.seen_there.found.number (length h.seen_there.found.lies.frame.lower + k))) index_is ∙ h.word_lies;
          shown = named_shown tree code texts actor n is_seen couple.level v.level_is h.seen_there;
        }

    pub home : Home n kind couple
    home =
        home_there (variable_home tree code texts actor (named_at n) kind v.found there v.wanted_is (named_reached tree code texts actor n is_seen))
