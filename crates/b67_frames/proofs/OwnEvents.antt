-- The events that an instance has made: their cells, and their words among those of its frame.
use Rattle.std.proofs.Common.{◌≡◌, sym, ap, ◌∙◌, ℕ, ◌+◌, ◌<◌, List, [], ◌++◌, length, Some, None, arith, append-nil}
use Rattle.b67_list.proofs.Lists.{get_front}
use Rattle.b67_frames.proofs.Prelude.{slice_get, slice_set, EventState, block_numbered, Scopes, Cell, event, NamedCell, Instance, World, instance_at, or_no_instance, cell_in, cells_with, Made, an_event, Word, event_word, Pcw, simple_cells, found_from, made_of, made_from, control_words, get_behind, Layout}
use Rattle.b67_frames.specs.Arrays.{IsEventOf}
use Rattle.b67_frames.proofs.ControlWords.{as_many_controls}
use Rattle.b67_frames.proofs.MadeArrays.{as_many_values, IsPast, past_unfound, past_events, low_made, same_cell, FoundThere, found_there, made_low}
use Rattle.b67_frames.proofs.OwnCells.{OwnCells}
use Rattle.b67_frames.proofs.Zeros.{cells_length}

module _ (sc : Scopes) (w : World) (lay : Layout) where
  -- an event that it has made, by its number among what its block declares
  pub record OwnEvent (i : ℕ) (x : Instance) (own : OwnCells sc w lay i x) (name : List ℕ) (number : ℕ) : Type 0 where
    pub cell : EventState
    pub lies : slice_get own.descriptors number ≡ Some (event_word (record {}))
    pub there : slice_get own.arrays number ≡ Some (record { name = name; cell = event cell })
    pub changed : (c : Cell) → cells_with own.arrays name c ≡ slice_set own.arrays number (record { name = name; cell = c })
    pub behind : (more : List NamedCell) → cell_in (own.simple ++ more) name ≡ cell_in more name
    pub changed_behind : (c : Cell) → cells_with x.cells name c ≡ own.simple ++ cells_with own.arrays name c
    pub means : cell_in x.cells name ≡ event cell
    pub declares : slice_get (made_of (block_numbered sc.blocks x.block).decls) number ≡ Some (an_event name)
    pub has : slice_get x.cells (length (simple_cells sc (block_numbered sc.blocks x.block)) + number) ≡ Some (record { name = name; cell = event cell })

  made_here : (i : ℕ) (x : Instance) (own : OwnCells sc w lay i x) (name : List ℕ) (number : ℕ) → made_from 0 (made_of (block_numbered sc.blocks x.block).decls) name ≡ Some (record { number = number; made = an_event name }) →
      number < length own.declared → IsPast own.simple name → OwnEvent i x own name number
  made_here i x own name number there low past =
      record {
        cell = m.so.cell;
        lies = at_number own.descriptors m.word m.word_lies ∙ ap (λ (u : Word). Some u) m.so.word_is;
        there = at_number own.arrays m.c m.lies ∙ ap (λ (c : NamedCell). Some c) is_cell;
        changed = λ c.
            m.changed c
            ∙ ap (λ (n : List ℕ). slice_set own.arrays m.far (record { name = n; cell = c })) m.so.named
            ∙ ap (λ (n : ℕ). slice_set own.arrays n (record { name = name; cell = c })) (sym far_is);
        behind = past.found;
        changed_behind = λ c. ap (λ (cells : List NamedCell). cells_with cells name c) own.has ∙ past.changed own.arrays c;
        means = ap (λ (cells : List NamedCell). cell_in cells name) own.has ∙ past.found own.arrays ∙ m.is ∙ m.so.is;
        declares =
            ap (λ (ds : List Made). slice_get ds number) own.order
            ∙ get_front own.declared own.later number (an_event name) (at_number own.declared (an_event name) m.declared_lies);
        has =
            ap (λ (cells : List NamedCell). slice_get cells (length (simple_cells sc (block_numbered sc.blocks x.block)) + number)) own.has
            ∙ get_behind own.simple own.arrays number (length (simple_cells sc (block_numbered sc.blocks x.block)) + number)
            (ap (λ (n : ℕ). n + number) (sym (cells_length (simple_cells sc (block_numbered sc.blocks x.block)) own.simple own.values own.simple_are)))
            ∙ at_number own.arrays m.c m.lies
            ∙ ap (λ (c : NamedCell). Some c) is_cell;
      }
    where
      m : FoundThere 0 own.declared own.arrays (lay.rows i) own.descriptors name number (an_event name)
      m =
          found_there 0 own.declared own.later own.arrays (lay.rows i) own.descriptors name number (an_event name) own.made
          (ap (λ (ds : List Made). made_from 0 ds name) (sym own.order) ∙ there) (omega (arith, low))

      far_is : number ≡ m.far
      far_is = omega (arith, m.number_is)

      is_cell : m.c ≡ record { name = name; cell = event m.so.cell }
      is_cell = same_cell m.c name (event m.so.cell) m.so.named m.so.is

      at_number : {A : Type 0} (xs : List A) (y : A) → slice_get xs m.far ≡ Some y → slice_get xs number ≡ Some y
      at_number xs y e = ap (λ (n : ℕ). slice_get xs n) far_is ∙ e

  module _ (i : ℕ) (x : Instance) (own : OwnCells sc w lay i x) (name : List ℕ) where
    here : instance_at w i ≡ x
    here = ap or_no_instance own.is

    -- a name that means an event, where all is made
    pub own_event : (number : ℕ) → made_from 0 (made_of (block_numbered sc.blocks x.block).decls) name ≡ Some (record { number = number; made = an_event name }) → own.later ≡ [] →
        found_from 0 (simple_cells sc (block_numbered sc.blocks x.block)) name ≡ None → OwnEvent i x own name number
    own_event number there none apart =
        made_here i x own name number there low (past_unfound (simple_cells sc (block_numbered sc.blocks x.block)) own.simple own.values 0 name own.simple_are apart)
      where
        low : number < length own.declared
        low =
            omega (
              arith,
              low_made 0 own.declared name number (an_event name)
                  (ap (λ (ds : List Made). made_from 0 ds name) (sym (own.order ∙ ap (λ (ds : List Made). own.declared ++ ds) none ∙ append-nil own.declared)) ∙ there),
            )

    -- the same of what is known to be an event of the instance
    pub known_event : (of : IsEventOf sc w lay i name) → OwnEvent i x own name of.number
    known_event of = made_here i x own name of.number there low past
      where
        is_event : cell_in (own.simple ++ own.arrays) name ≡ event of.cell
        is_event = ap (λ (cells : List NamedCell). cell_in cells name) (sym own.has) ∙ ap (λ (y : Instance). cell_in y.cells name) (sym here) ∙ of.is

        past : IsPast own.simple name
        past = past_events (simple_cells sc (block_numbered sc.blocks x.block)) own.simple own.values own.arrays name of.cell own.simple_are is_event

        there : made_from 0 (made_of (block_numbered sc.blocks x.block).decls) name ≡ Some (record { number = of.number; made = an_event name })
        there = ap (λ (y : Instance). made_from 0 (made_of (block_numbered sc.blocks y.block).decls) name) (sym here) ∙ of.found

        low : of.number < length own.declared
        low =
            omega (
              arith,
              made_low 0 own.declared own.later own.arrays (lay.rows i) own.descriptors name of.number (an_event name) (event of.cell) (λ (e : cell_in [] name ≡ event of.cell). cc) own.made
                  (sym (past.found own.arrays) ∙ is_event) (ap (λ (ds : List Made). made_from 0 ds name) (sym own.order) ∙ there),
            )

    -- its word lies after the control words
    pub event_lies : (number : ℕ) (found : OwnEvent i x own name number) (pcws : List Pcw) →
        slice_get (own.values ++ (control_words pcws ++ own.descriptors)) (length (simple_cells sc (block_numbered sc.blocks x.block)) + length pcws + number) ≡ Some (event_word (record {}))
    event_lies number found pcws =
        get_behind own.values (control_words pcws ++ own.descriptors) (length pcws + number) (length (simple_cells sc (block_numbered sc.blocks x.block)) + length pcws + number)
        (omega (arith, as_many_values (simple_cells sc (block_numbered sc.blocks x.block)) own.simple own.values own.simple_are))
        ∙ get_behind (control_words pcws) own.descriptors number (length pcws + number) (ap (λ (n : ℕ). n + number) (sym (as_many_controls pcws)))
        ∙ found.lies
