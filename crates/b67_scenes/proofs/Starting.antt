-- The first image pictures the first world.
use Rattle.std.proofs.Common.{◌≡◌, inl, refl, sym, ap, ◌∙◌, subst, ℕ, zero, suc, ◌+◌, ◌-◌, ◌*◌, ◌<◌, ◌≤◌, List, [], ◌∷◌, ◌++◌, length, Some, None, true, false, arith, length-append, append-nil}
use Rattle.b67_list.proofs.Lists.{get_within}
use Rattle.b67_list.proofs.Numbers.{none_some}
use Rattle.b67_scenes.proofs.Prelude.{length-map, map, replicate, not, if◌then◌else◌, slice_get, numbered, EventState, Block, block_numbered, number_at, around, level_of, PProgram, Scopes, scopes_of, Parameter, same_name, list_in, fresh_cells, items_of, settle_items, ArrayCell, event, Instance, Part, Process, World, able, process_at, DeclaredArray, procedures_before, segment_of, IsOk, IsStanding, IsWholeInstance, Word, Place, as_mscw_mscw_word, as_rcw_rcw_word, pcw_word, place_at, Pcw, Rcw, Registers, OUTER_LEVEL, Placed, Spells, Code, Segment, list_of, place, woken_number, base_control, Simple, parameter_cells, simple_cells, zero_cells, actuals_of, made_of, yields_of, AreTold, AreNested, Texts, context_of, ComesTo, Core, IsCore, HasCore, CoreAt, control_words, CoreBegins, BlocksBegin, some_same, tokens_around, weight, block_keeps, block_makes, block_few, routines_long, controls_many, facts_of, LeadAll, lead_there, fresh_are, fresh_lead, simple_many, zero_word, cells_length, Allotted, Layout, HasArray, ArraysAre, HasEvent, EventsAre, block_controls, controls_count, most_around, CellsAre, IsChained, Framed, of_own, Pictured, living, none_yet, ListIs}
use Rattle.std.proofs.lemmas.List.{length-replicate}
use Rattle.algol_tree.specs.declared.token.Spot.{Spot}
use Rattle.algol_meaning.specs.World as worlds
use Rattle.algol_meaning.specs.Run.{start}
use Rattle.algol_meaning.specs.Arrays.{size_of_cells}
use Rattle.algol_paths.specs.Segments.{segment_among}
use Rattle.b67_table.specs.Beginning.{base_mark, base_frame, first_registers, first_image}
use Rattle.b67_templates.specs.Cells.{parameters_around}
use Rattle.b67_templates.specs.Depths.{decls_depth, stmts_depth}
use Rattle.b67_templates.specs.Programs.{BodyAt, ProgramAt}
use Rattle.b67_templates.proofs.Few.{actuals_are_few}
use Rattle.b67_standing.specs.Laws.{BlocksStart}
use Rattle.b67_templates.specs.Names.{HasNames}
use Rattle.b67_frames.proofs.ControlWords.{controls_fit}
use Rattle.b67_frames.specs.Arrays.{rows_of_cells}
use Rattle.b67_frames.proofs.ArraysKept.{no_elements, no_rows}
use Rattle.b67_frames.proofs.Segmenting.{block_small}
use Rattle.b67_frames.proofs.FreshCells.{none_are, none_lead}
use Rattle.b67_scenes.specs.Pictures.{Pictures}
use Rattle.b67_scenes.proofs.Ancestors.{all_laid}
use Rattle.b67_scenes.proofs.Landing.{Landed, living_of}
use Rattle.b67_scenes.proofs.Paths.{can_climb}
use Rattle.b67_scenes.proofs.TheLaws.{TheLaws}

abbrev pub first_core : Core
first_core = record { below = base_frame; words = []; registers = first_registers }

first_is : IsCore first_core
first_is = record { bottom = refl; top = refl }

-- the control word of a base frame at the outer block's level
abbrev outer_control : Rcw
outer_control = record { segment = 0; psr = 0; pir = 0; caller_level = 0; caller_cells = 0; own_level = OUTER_LEVEL }

-- a list that is not empty has a first
first_there : (segments : List Segment) → 0 < length segments → (s : Segment) × (slice_get segments 0 ≡ Some s)
first_there [] h = absurd (omega (arith, h))
first_there (s ∷ segments) h = (s, refl)

module _ (tree : PProgram) (code : Code) (names : HasNames tree) (nested : AreNested (scopes_of tree)) (stands : ProgramAt code tree) (laws : TheLaws) (begin : BlocksBegin) (starts : BlocksStart)
    (ok : IsOk (scopes_of tree) IsWholeInstance (start (scopes_of tree))) where
  open laws use {fragments, keeps, order}

  abbrev sc : Scopes
  sc = scopes_of tree

  abbrev texts : Texts
  texts = stands.texts

  abbrev block : Block
  block = block_numbered sc.blocks 0

  abbrev level : ℕ
  level = level_of block

  abbrev text : List Placed
  text = texts.placed (segment_of sc.blocks 0)

  -- its cells: values and control words
  abbrev many : ℕ
  many = length (zero_cells block)

  body : BodyAt sc (context_of code texts sc 0) text level block 0
  body = stands.bodies 0 nested.some (inl refl)

  abbrev controls : List Pcw
  controls = block_controls sc 0 body.ats

  abbrev cells : List Word
  cells = replicate many zero_word ++ control_words controls

  abbrev most : ℕ
  most = most_around tree 0

  abbrev bound : ℕ
  bound = 2 + (many + length controls) + most

  outer : level ≡ OUTER_LEVEL
  outer = ap (λ (o : List Spot). length o + 2) nested.outer

  -- the program's segment is the first
  segment_first : segment_of sc.blocks 0 ≡ 0
  segment_first =
      ap (λ (n : List ℕ). if not (same_name n []) then procedures_before sc.blocks 0 + 1 else segment_among sc.blocks (around sc.blocks 0)) nested.nameless
      ∙ ap (λ (o : List Spot). segment_among sc.blocks (map (number_at sc.blocks) o)) nested.outer

  segment : (s : Segment) × (slice_get code.segments 0 ≡ Some s)
  segment = first_there code.segments (omega (arith, stands.many))

  -- the outermost block has no parameters
  no_cells : parameter_cells sc block ≡ []
  no_cells = ap (λ (o : List Spot). parameters_around sc.blocks o block.spot) nested.outer

  plain : block.parameters ≡ []
  plain = none_told block.parameters (subst (λ (ss : List Simple). AreTold block.parameters ss) no_cells (nested.each 0 nested.some).parameters.told)
    where
      none_told : (ps : List Parameter) → AreTold ps [] → ps ≡ []
      none_told [] told = refl
      none_told (p ∷ ps) told = absurd told

  all_many : length (simple_cells sc block) ≡ many
  all_many = omega (arith, simple_many sc block, ap length no_cells)

  each_has_place : length body.ats ≡ length (actuals_of sc block)
  each_has_place = routines_long sc (context_of code texts sc 0) text (level + 1) (actuals_of sc block) body.ats body.routines

  many_controls : length controls ≡ controls_count sc 0
  many_controls = controls_many sc 0 body.ats each_has_place

  at_first : CoreAt sc [] code text level 0 [] first_core
  at_first =
      record {
        segment = segment.0;
        there = segment.1;
        spells = subst (λ (k : ℕ). Spells (texts.placed k) segment.0) (sym segment_first) (stands.spells 0 segment.0 segment.1);
        level_is = sym outer;
        place_is = refl;
        is = first_is;
        mark_is = refl;
        words_are = tt;
      }

  begun : CoreBegins sc [] code text level bound many controls body.start first_core
  begun =
      begin sc [] (context_of code texts sc 0) code text level bound many controls 0 body.begin body.start first_core body.over body.cells at_first
      (omega (arith, block_few sc nested 0 nested.some, all_many, many_controls)) (omega arith)

  small : decls_depth block.decls + stmts_depth block.stmts + controls_count sc 0 + 1 ≤ 4 * tokens_around tree 0
  small = omega (arith, block_small tree names 0 nested.some (inl refl), actuals_are_few sc block)

  comes : ComesTo sc (context_of code texts sc 0) text level most (settle_items sc (items_of block)) body.start []
  comes = starts sc (context_of code texts sc 0) text level most block body.start body.items (omega (arith, small)) (omega (arith, small))

  abbrev first_part : Part
  first_part = record { instance = 1; purpose = worlds.block; rest = settle_items sc (items_of block) }

  abbrev first_process : Process
  first_process = record { todo = first_part ∷ []; critical = None; task = None; state = able; woken = 0 }

  abbrev first_instance : Instance
  first_instance = record { block = 0; parent = 0; process = 1; cells = fresh_cells block []; left = false }

  -- no array is made yet
  abbrev first_lay : Layout
  first_lay = record { places = place 1 0 ∷ []; rows = λ i. [] }

  abbrev w : World
  w = start sc

  named_so : (up : ℕ) → up + OUTER_LEVEL ≤ level → up ≡ 0
  named_so up low = omega (arith, low, outer)

  chained : IsChained sc w first_lay 1 level first_registers.display
  unfolding start
  chained zero low = ap (λ (l : ℕ). place_at first_registers.display (l - 0)) outer
  chained (suc up) low = absurd (omega (arith, named_so (suc up) low))

  first_top : place_at first_registers.display level ≡ Some (place 1 0)
  first_top = ap (place_at first_registers.display) outer

  zeros : CellsAre (simple_cells sc block) (fresh_cells block []) (replicate many zero_word)
  zeros = fresh_are sc block [] [] (none_are sc block no_cells plain)

  -- no parameter is an array
  zeros_lead : LeadAll sc w first_lay (IsStanding w) (simple_cells sc block) (fresh_cells block []) (replicate many zero_word)
  zeros_lead = fresh_lead sc w first_lay (IsStanding w) block [] [] (none_lead sc w first_lay (IsStanding w) block no_cells plain)

  abbrev framed : Framed sc w first_lay 1 1 [] 0 base_mark (base_control OUTER_LEVEL) cells
  unfolding start
  framed =
      record {
        instance = first_instance;
        is = refl;
        own = refl;
        known = nested.some;
        laid = refl;
        stands = refl;
        simple = fresh_cells block [];
        values = replicate many zero_word;
        simple_are = zeros;
        formals = lead_there sc w first_lay (IsStanding w) (simple_cells sc block) (fresh_cells block []) (replicate many zero_word) zeros_lead;
        ats = body.ats;
        each_has_place = each_has_place;
        arrays = [];
        declared = [];
        later = made_of block.decls;
        order = refl;
        descriptors = [];
        made = tt;
        has = sym (append-nil (fresh_cells block []));
        cells_is = ap (λ (ws : List Word). replicate many zero_word ++ ws) (sym (append-nil (control_words controls)));
        home = place 0 0;
        linked = refl;
        df = 0;
        mark_is = as_mscw_mscw_word (record { entered = true; stack = 0; displacement = 0; df = 0 }) (omega arith);
        back = outer_control;
        control_is = as_rcw_rcw_word outer_control (omega arith);
        level_is = sym outer;
      }

  first_has : HasCore first_image 1 first_core
  unfolding first_image
  first_has = record { live = refl; registers = refl; own = refl; stack = refl; is = first_is }

  weight_is : weight tree w 1 ≡ 8 + length (fresh_cells block []) + 4 * tokens_around tree 0 + 0
  unfolding start
  weight_is = refl

  many_cells : length (fresh_cells block []) ≡ many
  many_cells = cells_length (simple_cells sc block) (fresh_cells block []) (replicate many zero_word) zeros ∙ all_many

  length_cells : length cells ≡ many + length controls
  length_cells =
      length-append (replicate many zero_word) (control_words controls)
      ∙ ap (λ (n : ℕ). n + length (control_words controls)) (length-replicate many zero_word)
      ∙ ap (λ (n : ℕ). many + n) (length-map controls (λ (pcw : Pcw). pcw_word pcw))

  landed : Landed tree code texts w first_lay first_image 1 first_process first_part [] bound first_core begun.core
  unfolding start
  landed =
      record {
        todo = refl;
        has = first_has;
        critical = refl;
        task = refl;
        sees = refl;
        small = omega arith;
        begun = begun.count;
        begins = begun.steps;
        frame = record {
          lower = [];
          mark = base_mark;
          control = base_control OUTER_LEVEL;
          cells = cells;
          words_are = begun.below;
          instance = framed.instance;
          is = framed.is;
          known = framed.known;
          home = framed.home;
          df = framed.df;
          mark_is = framed.mark_is;
          back = framed.back;
          control_is = framed.control_is;
          level_is = framed.level_is;
          gives = yields_of block.result;
          text = block_keeps sc 0 keeps (nested.each 0 nested.some);
          shape = of_own (record {
            owns = refl;
            framed = framed;
            routines = (body.routines, controls_fit text level controls body.cells.0 body.cells.1 body.cells.3);
            items = (body.start, body.items);
            making = sym (block_makes sc 0 order (nested.each 0 nested.some));
          }) refl;
        };
        around = (refl, ap yields_of nested.untyped);
        counted = omega (arith, ap (λ (r : Registers). r.cells) begun.registers, length_cells);
        chained = subst (λ d. IsChained sc w first_lay 1 level d) (sym (ap (λ (r : Registers). r.display) begun.registers)) chained;
        top = ap (λ (r : Registers). place_at r.display level) begun.registers ∙ first_top;
        segment_is = ap (λ (r : Registers). r.segment) begun.registers ∙ sym segment_first;
        pc = body.start;
        slots = [];
        known = [];
        known_are = tt;
        at = begun.at;
        held = omega arith;
        comes = comes;
        reaches = none_yet 0 refl refl (omega arith) refl;
        room = omega (arith, ap length begun.below, length_cells);
        light = omega (arith, weight_is, many_cells, many_controls, small);
      }

  only_process : (p : ℕ) (q : Process) → numbered w.processes p ≡ Some q → Pictured tree code texts w first_lay first_image p q
  unfolding start first_image
  only_process zero q e = none_some e
  only_process (suc zero) q e =
      subst (λ (x : Process). Pictured tree code texts w first_lay first_image 1 x) (some_same e)
      (living refl tt (living_of tree code texts w first_lay first_image (can_climb sc w ok) (all_laid w first_lay (facts_of sc w ok) refl) fragments 1 first_process first_part [] bound first_core begun.core landed))
  only_process (suc (suc k)) q e = none_some e

  no_array : (i number : ℕ) (declared : DeclaredArray) (cell : ArrayCell) (a : Allotted) → HasArray sc w first_lay i number declared cell a → ⊥
  no_array i number declared cell a h = none_some h.allotted

  only_instance : (i : ℕ) (x : Instance) → numbered w.instances i ≡ Some x → first_instance ≡ x
  unfolding start
  only_instance zero x e = none_some e
  only_instance (suc zero) x e = some_same e
  only_instance (suc (suc k)) x e = none_some e

  -- no row is open
  first_arrays : ArraysAre sc w first_lay []
  unfolding start
  first_arrays =
      record {
        held = λ i number declared cell a h. absurd (no_array i number declared cell a h);
        apart = λ i j number other k l n h o. absurd (no_array i number h.declared h.cell h.allotted h.array);
        counted = omega (arith, no_elements (simple_cells sc block) (fresh_cells block []) (replicate many zero_word) zeros);
        opened = omega (arith, no_rows (simple_cells sc block) (fresh_cells block []) (replicate many zero_word) zeros);
        few = λ i x there stands. subst (λ (y : Instance). rows_of_cells y.cells ≤ 2 * size_of_cells y.cells) (only_instance i x there)
            (omega (arith, no_rows (simple_cells sc block) (fresh_cells block []) (replicate many zero_word) zeros));
      }

  -- no event is open
  first_events : EventsAre sc w first_lay []
  first_events = record { are_open = λ i number e at h. absurd (no_event i number e at h); apart = λ i j number other e f at h o. absurd (no_event i number e at h) }
    where
      no_event : (i number : ℕ) (e : EventState) (at : Place) → HasEvent sc w first_lay i number e at → ⊥
      no_event i number e at h =
          let low = get_within h.instance.cells (length (simple_cells sc (block_numbered sc.blocks h.instance.block)) + number) (record { name = h.name; cell = event e }) h.has in
          let many : length h.instance.cells ≡ length (simple_cells sc (block_numbered sc.blocks h.instance.block)) =
          subst (λ (x : Instance). length x.cells ≡ length (simple_cells sc (block_numbered sc.blocks x.block))) (only_instance i h.instance h.is)
          (cells_length (simple_cells sc block) (fresh_cells block []) (replicate many zero_word) zeros) in
          omega (arith, low, many)

  -- nobody waits
  first_number : (p : ℕ) → woken_number first_image.numbers p ≡ (process_at w p).woken
  unfolding start first_image
  first_number zero = refl
  first_number (suc zero) = refl
  first_number (suc (suc k)) = refl

  first_list : (p : ℕ) → ListIs sc w first_lay (list_in ((process_at w p).state)) (list_of p first_image.lists)
  unfolding start first_image
  first_list zero = tt
  first_list (suc zero) = tt
  first_list (suc (suc k)) = tt

  pub first_pictured : Pictures tree code texts (start (scopes_of tree)) first_image
  unfolding start first_image
  first_pictured = (
    first_lay,
    record {
      laid = refl;
      arrays = first_arrays;
      events = first_events;
      waits = record { numbers = refl; woken = first_number; lists = first_list; awaiting = λ p there listed. absurd listed };
      output = refl;
      fault = refl;
      started = refl;
      counted = refl;
      few = omega arith;
      states = refl;
      system = refl;
      each = only_process;
    },
  )
