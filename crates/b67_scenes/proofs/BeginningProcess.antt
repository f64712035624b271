-- A process that begins with the instance of a procedure lives: its frame lies at the bottom of its stack, and private operators lead from the
-- procedure's first place to what the block has to do.
use Rattle.std.proofs.Common.{◌≡◌, refl, sym, ap, ◌∙◌, subst, ℕ, ◌+◌, ◌*◌, ◌<◌, ◌≤◌, ◌^◌, List, [], ◌∷◌, ◌++◌, length, Option, Some, None, true, false, arith, append_assoc, append-nil, length-append}
use Rattle.b67_list.proofs.Lists.{length_map}
use Rattle.b67_scenes.proofs.Prelude.{replicate, slice_get, numbered, Block, block_numbered, level_of, PProgram, Scopes, scopes_of, some_depends, fresh_cells, settle_items, items_of, Cell, Instance, Part, Process, World, instance_at, or_no_instance, ancestor, KeepsToText, segment_of, IsStanding, Word, Place, as_mscw_mscw_word, as_rcw_rcw_word, pcw_word, place_at, Pcw, Rcw, Registers, Placed, Spells, Code, Segment, place, Image, entered_mark, base_control, at_or, parameter_cells, zero_cells, simple_cells, actuals_of, made_of, in_routine, yields_of, code_at, LiesNested, IsText, Texts, context_of, ComesTo, Core, IsCore, HasCore, CoreAt, control_words, CoreBegins, BlocksBegin, tokens_around, part_weight, weight, shown, shown_top, block_keeps, block_makes, block_few, routines_long, controls_many, LeadAll, lead_there, fresh_are, fresh_lead, simple_many, as_many_values, zero_word, cells_length, Allotted, Layout, AreMade, block_controls, controls_count, most_around, CellsAre, IsChained, home_of, Framed, RoutinesStand, ItemsStand, Frame, of_own, CriticalIs, TaskIs, Living, none_yet}
use Rattle.algol_meaning.specs.Instances as instances
use Rattle.algol_meaning.specs.World.{started}
use Rattle.b67_table.specs.declared.Cell.{Cell as MachineCell}
use Rattle.b67_table.specs.Starting.{place_of}
use Rattle.b67_templates.specs.Code.{CellsAt}
use Rattle.b67_templates.specs.Fragments.{FragmentGoes}
use Rattle.b67_rows.proofs.Begun.{core_of}
use Rattle.b67_rows.proofs.StartRow.{begins_with, first_stack, begins_is}
use Rattle.b67_frames.proofs.Linked.{shown_chained}
use Rattle.b67_scenes.proofs.Ancestors.{AreLaid}
use Rattle.b67_scenes.proofs.Landing.{living_of}
use Rattle.b67_scenes.proofs.Paths.{CanClimb}
use Rattle.b67_scenes.proofs.Stage.{weight_of}
use Rattle.b67_scenes.proofs.Staying.{level_in, names_in}
use Rattle.b67_scenes.proofs.TheLaws.{TheLaws}

-- A process is new in a world and its image, in which its first block is to begin.
pub record NewProcess (tree : PProgram) : Type 0 where
  pub w : World
  pub lay : Layout
  pub img : Image
  pub climb : CanClimb (scopes_of tree) w
  pub all_laid : AreLaid w lay
  pub p : ℕ
  pub number : ℕ
  pub block : ℕ
  pub parent : ℕ
  pub given : List Cell
  pub new : Process
  pub home : Place
  pub critical : Place
  pub more : List Place
  pub cell : Option MachineCell
  pub parameters : List Word

module _ (tree : PProgram) (code : Code) (texts : Texts) (nested : LiesNested tree) (laws : TheLaws) (begins_so : BlocksBegin) (fresh : NewProcess tree) where
  open fresh use {w, lay, img, climb, all_laid, p, number as n, block as j, parent, given, new, home, critical, more, cell, parameters}
  open laws use {fragments, keeps, order}

  abbrev sc : Scopes
  sc = scopes_of tree

  abbrev b : Block
  b = block_numbered sc.blocks j

  abbrev level : ℕ
  level = level_of b

  abbrev ps : List Placed
  ps = texts.placed (segment_of sc.blocks j)

  -- its instance, its part, and its core
  abbrev pub made : Instance
  made = record { block = j; parent = parent; process = p; cells = fresh_cells (block_numbered (scopes_of tree).blocks j) given; left = false }

  abbrev pub inner : Part
  inner = record { instance = n; purpose = started; rest = settle_items (scopes_of tree) (items_of (block_numbered (scopes_of tree).blocks j)) }

  abbrev pub begun_code : Pcw
  begun_code = code_at (segment_of (scopes_of tree).blocks j) 0 (level_of (block_numbered (scopes_of tree).blocks j))

  abbrev pub first : Core
  first = core_of (begins_with p begun_code home cell parameters more critical) (first_stack begun_code home parameters)

  -- the code of the block: its cells, and what it has to do, for which its segment has the room
  pub record HasCode : Type 0 where
    pub segment : Segment
    pub there : slice_get code.segments (segment_of (scopes_of tree).blocks j) ≡ Some segment
    pub spells : Spells (texts.placed (segment_of (scopes_of tree).blocks j)) segment
    pub ready : ℕ
    pub start : ℕ
    pub ats : List ℕ
    pub routines : RoutinesStand tree code texts j ats
    pub items : ItemsStand tree code texts j
    pub over : FragmentGoes (texts.placed (segment_of (scopes_of tree).blocks j)) (level_of (block_numbered (scopes_of tree).blocks j)) 0 ready
    pub cells_at : CellsAt (scopes_of tree) (context_of code texts (scopes_of tree) j) (texts.placed (segment_of (scopes_of tree).blocks j)) (level_of (block_numbered (scopes_of tree).blocks j))
        (length (zero_cells (block_numbered (scopes_of tree).blocks j))) (block_controls (scopes_of tree) j ats) ready start
    pub comes : ComesTo (scopes_of tree) (context_of code texts (scopes_of tree) j) (texts.placed (segment_of (scopes_of tree).blocks j)) (level_of (block_numbered (scopes_of tree).blocks j)) (most_around tree j)
        (settle_items (scopes_of tree) (items_of (block_numbered (scopes_of tree).blocks j))) start []
    pub small : controls_count (scopes_of tree) j ≤ 4 * tokens_around tree j

  -- The process, its instance and its core are there. The words of its parameters are those of values, and lead to what stands; its frame is linked to
  -- that of the parent, from which links lead down these frames; and nobody depends on it yet.
  pub record Begun : Type 0 where
    pub at : numbered w.processes p ≡ Some new
    pub todo : new.todo ≡ inner ∷ []
    pub is : numbered w.instances n ≡ Some made
    pub laid : numbered lay.places n ≡ Some (place p 0)
    pub rows : lay.rows n ≡ []
    pub has : HasCore img p first
    pub known : j < length (scopes_of tree).blocks
    pub untyped : (block_numbered (scopes_of tree).blocks j).result ≡ None
    pub cells : CellsAre (parameter_cells (scopes_of tree) (block_numbered (scopes_of tree).blocks j)) (instances.parameter_cells (block_numbered (scopes_of tree).blocks j).parameters given) parameters
    pub lead : LeadAll (scopes_of tree) w lay (IsStanding w) (parameter_cells (scopes_of tree) (block_numbered (scopes_of tree).blocks j))
        (instances.parameter_cells (block_numbered (scopes_of tree).blocks j).parameters given) parameters
    pub home_is : home_of (scopes_of tree) w lay parent ≡ Some home
    pub home_fits : (home.stack < 2 ^ 10) × (home.at < 2 ^ 16)
    pub level_is : level_of (block_numbered (scopes_of tree).blocks j) ≡ length more + 2
    pub each : (up : ℕ) → up < length more → slice_get more up ≡ numbered lay.places (ancestor w up parent)
    pub critical_is : CriticalIs lay new.critical (Some critical)
    pub task_is : TaskIs (scopes_of tree) w lay new.task (place_of cell)
    pub free : some_depends w.processes n ≡ false

  module _ (h : HasCode) (e : Begun) where
    is_text : IsText sc j
    is_text = nested.nested.each j e.known

    -- ---- the cells

    abbrev many : ℕ
    many = length (zero_cells b)

    abbrev controls : List Pcw
    controls = block_controls sc j h.ats

    abbrev zeros : List Word
    zeros = replicate many zero_word

    abbrev cells : List Word
    cells = (parameters ++ zeros) ++ control_words controls

    taken_many : length parameters ≡ length (parameter_cells sc b)
    taken_many = as_many_values (parameter_cells sc b) (instances.parameter_cells b.parameters given) parameters e.cells

    all_many : length (simple_cells sc b) ≡ length parameters + many
    all_many = omega (arith, simple_many sc b, taken_many)

    each_has_place : length h.ats ≡ length (actuals_of sc b)
    each_has_place = routines_long sc (context_of code texts sc j) ps (level + 1) (actuals_of sc b) h.ats h.routines.0

    controls_are_many : length controls ≡ controls_count sc j
    controls_are_many = controls_many sc j h.ats each_has_place

    few_cells : length parameters + (many + length controls) ≤ 400
    few_cells = omega (arith, all_many, controls_are_many, block_few sc nested.nested j e.known)

    cells_are : CellsAre (simple_cells sc b) (fresh_cells b given) (parameters ++ zeros)
    cells_are = fresh_are sc b given parameters e.cells

    cells_lead : LeadAll sc w lay (IsStanding w) (simple_cells sc b) (fresh_cells b given) (parameters ++ zeros)
    cells_lead = fresh_lead sc w lay (IsStanding w) b given parameters e.lead

    cells_long : length cells ≡ length parameters + (many + length controls)
    cells_long =
        omega (
          arith,
          length-append (parameters ++ zeros) (control_words controls),
          as_many_values (simple_cells sc b) (fresh_cells b given) (parameters ++ zeros) cells_are,
          all_many,
          length_map (λ (pcw : Pcw). pcw_word pcw) controls,
        )

    -- ---- the core in its frame

    abbrev mark : Word
    mark = entered_mark home 0

    abbrev control : Word
    control = base_control level

    abbrev bound : ℕ
    bound = 2 + length parameters + (many + length controls) + most_around tree j

    first_is : IsCore first
    first_is = begins_is p begun_code home cell parameters more critical e.level_is

    shown_here : place_at (shown (place p 0) more) level ≡ Some (place p 0)
    shown_here = ap (place_at (shown (place p 0) more)) e.level_is ∙ shown_top (place p 0) more

    at_first : CoreAt sc [] code ps level 0 [] first
    at_first =
        record {
          segment = h.segment;
          there = h.there;
          spells = h.spells;
          level_is = refl;
          place_is = omega arith;
          is = first_is;
          mark_is = sym (ap at_or shown_here);
          words_are = tt;
        }

    g : CoreBegins sc [] code ps level bound many controls h.start first
    g =
        begins_so sc [] (context_of code texts sc j) code ps level bound many controls 0 h.ready h.start first h.over h.cells_at at_first
        (omega (arith, few_cells)) (omega arith)

    -- ---- its frame

    block_in : (instance_at w n).block ≡ j
    block_in = ap (λ (o : Option Instance). (or_no_instance o).block) e.is

    abbrev back : Rcw
    back = record { segment = 0; psr = 0; pir = 0; caller_level = 0; caller_cells = 0; own_level = level }

    level_low : level ≤ 31
    level_low = is_text.low

    abbrev framed : Framed sc w lay p n [] 0 mark control cells
    framed =
        record {
          instance = made;
          is = e.is;
          own = refl;
          known = e.known;
          laid = e.laid;
          stands = refl;
          simple = fresh_cells b given;
          values = parameters ++ zeros;
          simple_are = cells_are;
          formals = lead_there sc w lay (IsStanding w) (simple_cells sc b) (fresh_cells b given) (parameters ++ zeros) cells_lead;
          ats = h.ats;
          each_has_place = each_has_place;
          arrays = [];
          declared = [];
          later = made_of b.decls;
          order = refl;
          descriptors = [];
          made = subst (λ (as' : List Allotted). AreMade [] [] as' []) (sym e.rows) tt;
          has = sym (append-nil (fresh_cells b given));
          cells_is = ap (λ (ws : List Word). (parameters ++ zeros) ++ ws) (sym (append-nil (control_words controls)));
          home = home;
          linked = e.home_is;
          df = 0;
          mark_is = as_mscw_mscw_word (record { entered = true; stack = home.stack; displacement = home.at; df = 0 }) (e.home_fits.0, (e.home_fits.1, (omega arith, tt)));
          back = back;
          control_is = as_rcw_rcw_word back (omega arith, (omega arith, (omega arith, (omega arith, (omega arith, (omega (arith, level_low), tt))))));
          level_is = refl;
        }

    abbrev frame_in : Frame tree code texts w lay p inner [] g.core.below
    frame_in =
        record {
          lower = [];
          mark = mark;
          control = control;
          cells = cells;
          words_are = g.below ∙ ap (λ (ws : List Word). mark ∷ control ∷ ws) (sym (append_assoc parameters zeros (control_words controls)));
          instance = framed.instance;
          is = framed.is;
          known = framed.known;
          home = framed.home;
          df = framed.df;
          mark_is = framed.mark_is;
          back = framed.back;
          control_is = framed.control_is;
          level_is = framed.level_is;
          gives = yields_of b.result;
          text = subst (λ (k : ℕ). KeepsToText sc k inner.rest) (sym block_in) (block_keeps sc j keeps is_text);
          shape = of_own (record { owns = refl; framed = framed; routines = h.routines; items = h.items; making = sym (block_makes sc j order is_text) }) refl;
        }

    -- ---- it goes on

    cells_in : length ((instance_at w n).cells) ≡ length parameters + many
    cells_in =
        ap (λ (o : Option Instance). length ((or_no_instance o).cells)) e.is
        ∙ cells_length (simple_cells sc b) (fresh_cells b given) (parameters ++ zeros) cells_are
        ∙ all_many

    inner_weight : part_weight tree w inner ≡ 8 + (length parameters + many) + 4 * tokens_around tree j
    inner_weight =
        ap (λ (k : ℕ). 8 + k + 4 * tokens_around tree ((instance_at w n).block)) cells_in
        ∙ ap (λ (k : ℕ). 8 + (length parameters + many) + 4 * tokens_around tree k) block_in

    light : bound + 3 ≤ weight tree w p
    light = omega (arith, weight_of tree w p new (inner ∷ []) e.at e.todo, inner_weight, h.small, controls_are_many)

    each_now : (up : ℕ) → up < length more → slice_get more up ≡ numbered lay.places (ancestor w up ((instance_at w n).parent))
    each_now up under = e.each up under ∙ ap (λ (o : Option Instance). numbered lay.places (ancestor w up ((or_no_instance o).parent))) (sym e.is)

    names_is : names_in tree w inner ≡ level
    names_is = ap (λ (k : ℕ). level_of (block_numbered sc.blocks k)) block_in

    pub begun_lives : Living tree code texts w lay img p new
    begun_lives =
        living_of tree code texts w lay img climb all_laid fragments p new inner [] bound first g.core (record {
          todo = e.todo;
          has = e.has;
          critical = e.critical_is;
          task = e.task_is;
          sees = refl;
          small = omega (arith, few_cells);
          begun = g.count;
          begins = g.steps;
          frame = frame_in;
          around = (refl, ap yields_of e.untyped);
          counted = ap (λ (r : Registers). r.cells) g.registers ∙ sym cells_long;
          chained = subst (λ (d : List (Option Place)). IsChained sc w lay n (names_in tree w inner) d) (sym (ap (λ (r : Registers). r.display) g.registers))
              (shown_chained sc w lay n (names_in tree w inner) (place p 0) more e.laid (names_is ∙ e.level_is) each_now);
          top = ap (λ (r : Registers). place_at r.display (level_in tree w inner)) g.registers ∙ ap (place_at (shown (place p 0) more)) names_is ∙ shown_here;
          segment_is = ap (λ (r : Registers). r.segment) g.registers ∙ ap (segment_of sc.blocks) (sym block_in);
          pc = h.start;
          slots = [];
          known = [];
          known_are = tt;
          at = subst (λ (k : ℕ). CoreAt sc [] code (texts.placed (segment_of sc.blocks k)) (level_of (block_numbered sc.blocks k)) h.start [] g.core) (sym block_in) g.at;
          held = omega arith;
          comes = subst (λ (k : ℕ). ComesTo sc (in_routine (yields_of b.result) (context_of code texts sc k)) (texts.placed (segment_of sc.blocks k)) (level_of (block_numbered sc.blocks k)) (most_around tree k) inner.rest h.start []) (sym block_in) h.comes;
          reaches = none_yet 0 refl e.laid (omega arith) e.free;
          room = subst (λ (k : ℕ). length g.core.below + most_around tree k ≤ bound) (sym block_in) (omega (arith, ap length frame_in.words_are, cells_long));
          light = light;
        })
