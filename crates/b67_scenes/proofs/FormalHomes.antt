-- Where a process finds the cell of a parameter that stands for an array: in a frame that its display names. It leads to the array's cell.
use Rattle.std.proofs.Common.{◌≡◌, sym, ap, ◌∙◌, ℕ, ◌∷◌, Some, refl}
use Rattle.b67_scenes.proofs.Prelude.{PProgram, Scopes, scopes_of, Named, Reference, Cell, reference, instance_at, cell_at, BlockIsSeen, Place, as_sirw, Couple, Code, cell_word, IsFormalArray, AreNested, Texts, some_same, Denotes, named_from, IsInReach}
use Rattle.algol_paths.specs.Arrays.{Shape}
use Rattle.b67_templates.specs.Cells as wants
use Rattle.b67_frames.specs.Arrays.{ReferenceLeadsTo}
use Rattle.b67_scenes.proofs.ArrayPlaces.{array_index, ArrayPlace, array_place, place_read}
use Rattle.b67_scenes.proofs.Scene.{Actor}
use Rattle.b67_scenes.proofs.Staying.{names_in}
use Rattle.b67_scenes.proofs.CellHomes.{CellHome, cell_home}
use Rattle.b67_scenes.proofs.Led.{IsLed}

-- ---- the parameter's cell

module _ (tree : PProgram) (code : Code) (texts : Texts) (nested : AreNested (scopes_of tree)) (actor : Actor tree code texts) where
  open actor use {w, lay, part, outer}

  abbrev sc : Scopes
  sc = scopes_of tree

  abbrev level : ℕ
  level = names_in tree w part

  -- what a name means there, where it is no reference
  abbrev named : Named → Reference
  named n = named_from sc w lay part.instance n

  -- Its cell has a reference to an array; the word of the cell, which the couple names, refers to the array's descriptor.
  pub record FormalHome (n : Named) (shape : Shape) (couple : Couple) : Type 0 where
    pub r : Reference
    pub cell_is : cell_at w (named n) ≡ reference r
    pub home : CellHome tree code texts nested actor n (wants.array shape) couple
    pub leads : ReferenceLeadsTo sc w lay (IsInReach w (part ∷ outer)) shape r home.word
    pub led : IsLed tree code texts actor r
    pub target : ArrayPlace tree code texts actor r.instance r.name leads.declared leads.cell leads.allotted leads.array
    pub reads : as_sirw home.word
        ≡ Some (record { stack = target.at.stack; displacement = target.at.at; index = array_index tree code texts actor r.instance leads.array.number })

  module _ (n : Named) (shape : Shape) (couple : Couple) (is_seen : BlockIsSeen sc ((instance_at w part.instance).block) n) (v : IsFormalArray sc level n shape couple) where
    h : CellHome tree code texts nested actor n (wants.array shape) couple
    h = cell_home tree code texts nested actor (record {
      name = n;
      wanted = wants.array shape;
      couple = couple;
      found = v.found;
      refers = tt;
      is_seen = is_seen;
      named_there = v.there;
      wanted_is = v.wanted_is;
      level_is = v.level_is;
      index_is = v.index_is;
    })

    module _ (r : Reference) (same : h.cell ≡ reference r) (leads : ReferenceLeadsTo sc w lay (IsInReach w (part ∷ outer)) shape r h.word) where
      led : IsLed tree code texts actor r
      led = h.leads r same

      abbrev IsTarget : Type 0
      IsTarget = ArrayPlace tree code texts actor r.instance r.name leads.declared leads.cell leads.allotted leads.array

      target : IsTarget
      target = array_place tree code texts actor nested r.instance r.name led leads.declared leads.cell leads.allotted leads.array

      abbrev far_away : ℕ
      far_away = array_index tree code texts actor r.instance leads.array.number

      frame_is : leads.frame ≡ target.at
      frame_is = some_same (sym leads.laid ∙ target.laid)

      home_there : FormalHome n shape couple
      home_there =
          record {
            r = r;
            cell_is = h.cell_is ∙ same;
            home = h;
            leads = leads;
            led = led;
            target = target;
            reads =
                ap as_sirw leads.word_is
                ∙ ap (λ (f : Place). as_sirw (cell_word (record { frame = f; index = far_away }))) frame_is
                ∙ place_read tree code texts actor nested r.instance r.name leads.declared leads.cell leads.allotted leads.array target;
          }

    pub formal_home : FormalHome n shape couple
    formal_home = by_cell h.cell refl h.denotes
      where
        by_cell : (c : Cell) → h.cell ≡ c → Denotes sc w lay (IsInReach w (part ∷ outer)) (wants.array shape) c h.word → FormalHome n shape couple
        by_cell (reference r) is leads = home_there r is leads
        by_cell _ is leads = absurd leads
