-- The cells of several events whose references lie on an intrinsic: in the world and in the image.
use Rattle.std.proofs.Common.{◌≡◌, inl, inr, refl, sym, ap, ◌∙◌, ℕ, List, [], ◌∷◌, ◌++◌, Option, true, arith, append_assoc, length-append}
use Rattle.b67_scenes.proofs.Prelude.{map, reverse, PProgram, Scopes, scopes_of, Named, ask, Reference, World, followed, IsStanding, Word, Registers, Couple, Code, one_event, Event, Image, cell_place, AreNested, Texts, Slot, Known, SlotsAre, IsAsked, Top, top_slot, reference_read, AreFound, named_from, ListIs}
use Rattle.std.specs.Prelude.{is_some}
use Rattle.b67_events.specs.Events.{is_open}
use Rattle.b67_table.specs.declared.Cell.{Cell as MachineCell}
use Rattle.b67_templates.specs.Cells.{AreEvents}
use Rattle.b67_standing.specs.Stepping.{reference}
use Rattle.b67_standing.specs.Standing.{references}
use Rattle.b67_table.specs.PrivateRows as rows
use Rattle.b67_faithful.proofs.Sources.{reverse_cons}
use Rattle.b67_rows.proofs.AskedElements.{IsNamed}
use Rattle.b67_scenes.proofs.Calling.{Lying}
use Rattle.b67_scenes.proofs.EventHomes.{IsNearWay, cell_there, EventHome, event_home, has_there}
use Rattle.b67_scenes.proofs.Led.{reached_stands}
use Rattle.b67_scenes.proofs.Scene.{Actor}
use Rattle.b67_scenes.proofs.Staying.{names_in}

-- each of these instances stands
abbrev pub AllStanding : World → List Reference → Type 0
AllStanding w [] = Unit {0}
AllStanding w (r ∷ rs) = IsStanding w r.instance × AllStanding w rs

-- the cells on the way to each of these events are near
abbrev pub AreNearWays : (p : ℕ) (img : Image) (r : Registers) (ws : List Word) (cs : List MachineCell) → AreFound img p r ws cs → Type 0
AreNearWays p img r [] [] found = Unit {0}
AreNearWays p img r [] (c ∷ cs) found = ⊥
AreNearWays p img r (w ∷ ws) [] found = ⊥
AreNearWays p img r (w ∷ ws) (c ∷ cs) found = IsNearWay p img r found.0 × AreNearWays p img r ws cs found.2

-- ---- the words

module _ (sc : Scopes) (known : List Known) (level home base : ℕ) where
  -- the words of references, in the order of their pushing
  pub record Referred (cs : List Couple) (below : List Slot) (all : List Word) : Type 0 where
    pub lying : Lying sc known level home base (references cs below) below all
    pub words_are : lying.arguments ≡ reverse (map rows.reference cs)

  pub referred : (cs : List Couple) (below : List Slot) (all : List Word) → SlotsAre sc known level home base (references cs below) all → Referred cs below all
  referred [] below all are = record { lying = record { arguments = []; others = all; is = refl; are = are; mark_is = refl; many = omega arith }; words_are = refl }
  referred (c ∷ cs) below all are =
      let g : Referred cs (reference c ∷ below) all = referred cs (reference c ∷ below) all are in
      let t : Top sc known level home base (reference c) below g.lying.others = top_slot sc known level home base (reference c ∷ below) (reference c) below g.lying.others g.lying.are refl in
      record {
        lying = record {
          arguments = g.lying.arguments ++ t.word ∷ [];
          others = t.words_below;
          is = g.lying.is ∙ ap (λ (ws : List Word). g.lying.arguments ++ ws) t.is ∙ sym (append_assoc g.lying.arguments (t.word ∷ []) t.words_below);
          are = t.are;
          mark_is = g.lying.mark_is;
          many = omega (arith, g.lying.many, length-append g.lying.arguments (t.word ∷ []));
        };
        words_are = ap (λ (ws : List Word). ws ++ t.word ∷ []) g.words_are ∙ ap (λ (x : Word). reverse (map rows.reference cs) ++ x ∷ []) t.slot_is ∙ sym (reverse_cons (rows.reference c) (map rows.reference cs));
      }

-- ---- the cells

module _ (tree : PProgram) (code : Code) (texts : Texts) (nested : AreNested (scopes_of tree)) (actor : Actor tree code texts) where
  open actor use {w, lay, img, p, part, core, s}

  abbrev sc : Scopes
  sc = scopes_of tree

  -- the events to which these names lead
  abbrev pub all_targets : List Named → List Reference
  all_targets ns = map (λ (n : Named). followed w (named_from (scopes_of tree) w lay part.instance n)) ns

  pub record OnSeveral (ns : List Named) (cs : List Couple) : Type 0 where
    pub cells : List MachineCell
    pub reach : AreFound img p core.registers (map rows.reference cs) cells
    pub list_is : ListIs (scopes_of tree) w lay (map (λ (n : Named). followed w (named_from (scopes_of tree) w lay part.instance n)) ns) (map cell_place cells)
    pub near : AreNearWays p img core.registers (map rows.reference cs) cells reach
    pub stand : AllStanding w (map (λ (n : Named). followed w (named_from (scopes_of tree) w lay part.instance n)) ns)

  one_open : (n : Named) (c : Couple) (h : EventHome tree code texts nested actor (followed w (named_from sc w lay part.instance n)) c) →
      is_open (cell_place (cell_there tree code texts nested actor h.lies h.number)) img.events ≡ true
  one_open n c h =
      one_event.found (cell_place (cell_there tree code texts nested actor h.lies h.number)) img.events
      ∙ ap (λ (x : Option Event). is_some x)
      (s.by.events.are_open h.lies.found.lies.part.instance h.number h.found.cell _
      (has_there tree code texts nested actor h.lies (followed w (named_from sc w lay part.instance n)).name h.number h.found))

  pub on_several : (ns : List Named) (cs : List Couple) → ((n : Named) → IsNamed ns n → IsAsked (ask part.rest) n) → AreEvents (scopes_of tree) (names_in tree w part) ns cs → OnSeveral ns cs
  on_several [] [] asked events = record { cells = []; reach = tt; list_is = tt; near = tt; stand = tt }
  on_several [] (c ∷ cs) asked events = absurd events
  on_several (n ∷ ns) [] asked events = absurd events
  on_several (n ∷ ns) (c ∷ cs) asked events =
      let h : EventHome tree code texts nested actor (followed w (named_from sc w lay part.instance n)) c =
      event_home tree code texts nested actor n c (asked n (inl refl)) events.0 in
      let rest : OnSeveral ns cs = on_several ns cs (λ m is. asked m (inr is)) events.1 in
      record {
        cells = cell_there tree code texts nested actor h.lies h.number ∷ rest.cells;
        reach = (h.reaches (rows.reference c) (reference_read c h.fits.0 h.fits.1), one_open n c h, rest.reach);
        list_is = (h.lies_at, rest.list_is);
        near = (h.near (rows.reference c) (reference_read c h.fits.0 h.fits.1), rest.near);
        stand = (reached_stands tree code texts actor (followed w (named_from sc w lay part.instance n)).instance h.own, rest.stand);
      }
