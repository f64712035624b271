-- A procedure is entered.
use Rattle.std.proofs.Common.{◌≡◌, ◌⊎◌, inl, inr, refl, sym, ap, ◌∙◌, ℕ, ◌+◌, ◌*◌, ◌≤◌, ◌<◌, List, ◌∷◌, length, Some, None, true, false, arith}
use Rattle.b67_list.proofs.Lists.{get_within, length_map}
use Rattle.b67_pictures.proofs.Prelude.{Block, block_numbered, level_of, PProgram, PBody, Scopes, scopes_of, use_of, Sort, is_variable, is_formal, Kind, Named, Ask, enters, choice_of, given_cells, Given, block_of_sort, Cell, instance_at, ancestor, DeclaredArray, Shape, shape_of, BlockIsSeen, IsSeenAround, IsInner, is_procedure, segment_of, IsStanding, Word, as_sirw_other, as_pcw_pcw_word, kind_of_pcw_word, as_irw, as_sirw, pcw_word, Pcw, Couple, Code, frame, actuals_are_few, Simple, parameter_cells, parameter_wants, procedures, ShapeAgrees, IsVariable, IsDeclaredArray, IsDeclaredEvent, IsProcedure, yields_of, Context, decls_depth, stmts_depth, code_at, LiesNested, AreParameters, Texts, context_of, BodyAt, ProgramAt, BlocksStart, reference, mark, SlotIs, BlocksBegin, IsShortSegment, tokens_around, InReferred, enters_seen, AreFit, are_fit, fit_many, ActualsAre, makes, unmade, reference_read, controls_fit, AreGivenCells, given_are, simple_many, IsSeenMade, both_seen, up_complete, named_leads, event_leads, HasCells, variable_leads, named_from, ReferenceLeadsTo, LeadsToEvent, LeadsToVariable, IsNamed, IsInReach, ArePlaced, block_controls, controls_count, most_around, IsComplete, Calls, part_there, scene_placed, made_or_around, AbleActor, actor_of, choice_is, text_in, level_in, context_in, most_in, names_in, TheLaws, Does, ActualsLead}
use Rattle.algol_meaning.specs.Rest.{entered}
use Rattle.algol_meaning.specs.World.{procedure}
use Rattle.algol_meaning.specs.Choice.{entered_procedure}
use Rattle.b67_standing.specs.Standing.{CallsAt}
use Rattle.b67_rows.proofs.AskedEntries.{InEntry, entered_in_bound}
use Rattle.b67_rows.proofs.EnterProcedureRow.{procedure_leads, procedure_calls}
use Rattle.b67_pictures.proofs.ParentPlaces.{standing_cells, linked_few, linked_low}
use Rattle.b67_frames.proofs.Segmenting.{needs}
use Rattle.b67_pictures.proofs.CalledProcedure.{CalledProcedure, called_procedure}
use Rattle.b67_pictures.proofs.FrameEntering.{AreCells, Body, GoesOnBehind, entering}
use Rattle.b67_pictures.proofs.Head.{Head}

-- what makes the arrays of a procedure, and its statements, with the control words of those that it declares, need no more words than its
-- segment has room for
abbrev pub HasRoomFor : PProgram → Type 0
HasRoomFor tree =
    (j : ℕ) → j < length (scopes_of tree).blocks → (j ≡ 0) ⊎ (is_procedure (block_numbered (scopes_of tree).blocks j) ≡ true) →
    needs (block_numbered (scopes_of tree).blocks j) ≤ 4 * tokens_around tree j

module _ (tree : PProgram) (code : Code) (program : ProgramAt code tree) (nested : LiesNested tree) (short : IsShortSegment tree code) (small : HasRoomFor tree) (laws : TheLaws) (begins_so : BlocksBegin) (starts : BlocksStart)
    (actor : AbleActor tree code program.texts) where
  open actor use {w, lay, img, p, q, part, outer, core, s}

  module _ (n : Named) (gs : List Given) (head : Head tree code program.texts actor (enters n gs)) where
    open head use {asks, action as a, waits, returns}

    abbrev sc : Scopes
    sc = scopes_of tree

    abbrev texts : Texts
    texts = program.texts

    abbrev level : ℕ
    level = level_in tree w part

    abbrev names : ℕ
    names = names_in tree w part

    abbrev context : Context
    context = context_in tree code texts w part s.stands.frame.gives

    abbrev block : ℕ
    block = (instance_at w part.instance).block

    abbrev callee : ℕ
    callee = a.0

    abbrev at : CallsAt sc (context_in tree code texts w part s.stands.frame.gives) (text_in tree texts w part) level (most_in tree w part) n gs callee s.stands.pc a.1 s.stands.slots a.2
    at = a.3

    abbrev couple : Couple
    couple = at.couple

    abbrev named : IsProcedure sc names n callee couple
    named = at.procedure

    -- ---- the instance that holds the procedure

    abbrev up : ℕ
    up = (use_of sc n).up

    abbrev u : ℕ
    u = (use_of sc n).block

    abbrev h : ℕ
    h = ancestor w up part.instance

    -- the procedure is seen, and so are the arrays that are given to it
    all_seen : InEntry (BlockIsSeen sc block) n gs
    all_seen = enters_seen (BlockIsSeen sc block) n gs (IsInner sc block) (IsSeenAround sc block) (λ m (seen : IsSeenAround sc block m). seen.0) part.rest asks s.stands.frame.text

    seen_there : BlockIsSeen sc block n
    seen_there = all_seen.0

    -- all is made there, or they are around
    in_bound : IsComplete sc w lay part.instance ⊎ InEntry (IsSeenAround sc block) n gs
    in_bound =
        made_or_around tree code texts (actor_of s)
        (entered_in_bound (BlockIsSeen sc block) n gs (IsInner sc block) (IsSeenAround sc block) part.rest asks s.stands.frame.text)
        (λ text. enters_seen (IsSeenAround sc block) n gs (λ (b : PBody). ⊥) (IsSeenAround sc block) (λ m (seen : IsSeenAround sc block m). seen) part.rest asks text)

    arrays_seen : InReferred (IsSeenMade tree w lay part) gs
    arrays_seen = both_seen tree w lay part gs all_seen.1 (given_in_bound in_bound)
      where
        given_in_bound : IsComplete sc w lay part.instance ⊎ InEntry (IsSeenAround sc block) n gs → IsComplete sc w lay part.instance ⊎ InReferred (IsSeenAround sc block) gs
        given_in_bound (inl whole) = inl whole
        given_in_bound (inr around_it) = inr around_it.1

    -- ---- the procedure

    called : CalledProcedure tree code program nested (actor_of s) n callee couple named seen_there
    called = called_procedure tree code program nested (actor_of s) n callee couple named seen_there

    open called use {parent, in_reach, linked, u_known, known, around_is, is_own, fits, segment_there, entry_lies, shown, level_low}

    -- It has made all its arrays: no bound of an array calls a procedure of its own block.
    complete : IsComplete sc w lay h
    complete = up_complete sc w lay part.instance up (by_text in_bound) parent.complete
      where
        by_text : IsComplete sc w lay part.instance ⊎ InEntry (IsSeenAround sc block) n gs → IsComplete sc w lay part.instance ⊎ (1 ≤ up)
        by_text (inl whole) = inl whole
        by_text (inr around_it) = far around_it.0.1
          where
            far : (1 ≤ up) ⊎ (is_variable ((use_of sc n).sort) ≡ true) ⊎ (is_formal ((use_of sc n).sort) ≡ true) → IsComplete sc w lay part.instance ⊎ (1 ≤ up)
            far (inl more) = inr more
            far (inr (inl variable)) = absurd (let clash : false ≡ true = sym (ap is_variable named.sort_is) ∙ variable in cc)
            far (inr (inr formal)) = absurd (let clash : false ≡ true = sym (ap is_formal named.sort_is) ∙ formal in cc)

    abbrev b : Block
    b = block_numbered sc.blocks callee

    abbrev c : Pcw
    c = code_at (segment_of sc.blocks callee) 0 (level_of b)

    -- ---- its reference

    abbrev IsReference : Word → Type 0
    IsReference y = SlotIs sc s.stands.held level (frame core.registers) (length core.below) (mark ∷ a.2) (reference couple) y

    reads : (y : Word) → IsReference y → as_irw y ≡ Some (record { level = couple.level; index = couple.index })
    reads y is =
        ap as_irw is
        ∙ reference_read couple (omega (arith, named.level_is, level_low))
        (omega (arith, named.index_is, get_within (procedures (block_numbered sc.blocks u).decls) named.number named.declared named.there, (nested.nested.each u u_known).few))

    no_sirw : as_sirw (pcw_word c) ≡ None
    no_sirw = as_sirw_other (pcw_word c) (λ k. let other = sym (kind_of_pcw_word c fits) ∙ k in cc)

    -- ---- what is given

    parameters : AreParameters sc b
    parameters = (nested.nested.each callee known).parameters

    fit : AreFit sc context (parameter_wants sc callee) gs
    fit = are_fit sc context (parameter_wants sc callee) gs at.fit

    given_many : length gs ≡ length (parameter_cells sc b)
    given_many = fit_many sc context fit ∙ length_map (λ (c : Simple). c.wanted) (parameter_cells sc b)

    abbrev calls : Calls tree code texts nested short (actor_of s) (parameter_wants sc callee) gs (reference couple) a.1 a.2 h callee 0
    calls =
        record {
          lies = at.lies;
          fit = fit;
          given_few = omega (arith, given_many, simple_many sc b, (nested.nested.each callee known).few);
          marks = refl;
          stands = at.stands;
          in_reach = in_reach;
          complete = complete;
          known = known;
          around_is = around_is;
          linked = linked;
          few = linked_few tree code texts w lay img s.by s.ok h parent.stands linked;
          low = linked_low tree code texts w lay img s.by s.ok h parent.stands linked;
          segment = segment_there.0;
          there = segment_there.1;
          spells = program.spells (segment_of sc.blocks callee) segment_there.0 segment_there.1;
          leads = λ m y is. procedure_leads code img core a.1 y m c linked.at couple.level couple.index (reads y is) (pcw_word c) shown entry_lies no_sirw (as_pcw_pcw_word c fits);
          calls = λ y is. procedure_calls code img core a.1 y (record { entered = false; stack = 0; displacement = 0; df = 0 }) c linked.at couple.level couple.index (reads y is)
              (pcw_word c) shown entry_lies no_sirw (as_pcw_pcw_word c fits);
        }

    -- ---- its code

    code_there : BodyAt sc (context_of code texts sc callee) (texts.placed (segment_of sc.blocks callee)) (level_of b) b 0
    code_there = program.bodies callee known (inr is_own)

    room : decls_depth b.decls + stmts_depth b.stmts + controls_count sc callee + 1 ≤ 4 * tokens_around tree callee
    room = omega (arith, small callee known (inr is_own), actuals_are_few sc b)

    abbrev procedure_body : Body tree code texts nested short laws begins_so actor callee 0
    procedure_body =
        record {
          ready = code_there.begin;
          start = code_there.start;
          ats = code_there.ats;
          routines = (
            code_there.routines,
            controls_fit (texts.placed (segment_of sc.blocks callee)) (level_of b) (block_controls sc callee code_there.ats) code_there.cells.0 code_there.cells.1 code_there.cells.3,
          );
          items = (code_there.start, code_there.items);
          over = code_there.over;
          cells_at = code_there.cells;
          comes = starts sc (context_of code texts sc callee) (texts.placed (segment_of sc.blocks callee)) (level_of b) (most_around tree callee) b code_there.start code_there.items (omega (arith, room)) (omega (arith, room));
          small = omega (arith, room);
        }

    abbrev behind : GoesOnBehind tree code texts nested short laws begins_so actor a.1 a.2 callee
    behind = record { unmade = unmade part.rest (ap makes asks); waits = waits a.1 a.2 (yields_of b.result) (refl, refl, refl); returns = returns a.1 a.2 (yields_of b.result) (refl, refl, refl) }

    abbrev AreCellsThere : List Cell → List Word → Type 0
    AreCellsThere given ws = AreCells tree code texts nested short laws begins_so actor callee given ws

    abbrev Reached : ℕ → Type 0
    Reached = IsInReach w (part ∷ outer)

    here_stands : IsStanding w part.instance
    here_stands = part_there tree code texts (actor_of s)

    placed : ArePlaced sc w lay
    placed = scene_placed tree code texts (actor_of s)

    each : (j : ℕ) → IsStanding w j → HasCells sc w lay j
    each j st = standing_cells tree code texts w lay img s.by s.ok j st

    arrays_lead : (m : Named) → IsSeenMade tree w lay part m → (shape : Shape) (d : DeclaredArray) (y : Couple) → IsDeclaredArray sc names m d y → ShapeAgrees shape (shape_of d) → (x : Word) → IsNamed sc w lay Reached part.instance m x →
        ReferenceLeadsTo sc w lay Reached shape (named_from sc w lay part.instance m) x
    arrays_lead m seen shape d y v agrees x h = named_leads tree w lay placed each part here_stands Reached (record {
      level = names;
      name = m;
      seen = seen;
      shape = shape;
      declared = d;
      couple = y;
      is_declared = v;
      agrees = agrees;
      word = x;
      named = h;
    })

    variables_lead : (m : Named) → IsSeenMade tree w lay part m → (kind : Kind) (y : Couple) → IsVariable sc names m kind y → (x : Word) → IsNamed sc w lay Reached part.instance m x →
        LeadsToVariable sc w lay Reached kind (named_from sc w lay part.instance m) x
    variables_lead m seen kind y v x h = variable_leads tree w lay placed part here_stands Reached (record { level = names; name = m; seen = seen.0; kind = kind; couple = y; is_variable = v; word = x; named = h })

    events_lead : (m : Named) → IsSeenMade tree w lay part m → (y : Couple) → IsDeclaredEvent sc names m y → (x : Word) → IsNamed sc w lay Reached part.instance m x →
        LeadsToEvent sc w lay Reached (named_from sc w lay part.instance m) x
    events_lead m seen y v x h = event_leads tree w lay placed each part here_stands Reached (record { level = names; name = m; seen = seen; couple = y; is_declared = v; word = x; named = h })

    abbrev leading : ActualsLead sc context w lay part Reached (IsSeenMade tree w lay part)
    leading = record {
      known = s.stands.held;
      are = s.stands.held_are;
      leads = arrays_lead;
      leads_event = events_lead;
      leads_variable = variables_lead;
    }

    -- the cells of its parameters
    cells_there : (ws : List Word) → ActualsAre sc s.stands.held level (frame core.registers) (length core.below) (parameter_wants sc callee) gs ws → AreCellsThere (given_cells sc w p q part outer gs) ws
    cells_there ws are =
        let g : AreGivenCells sc context w lay p q part outer level (frame core.registers) (length core.below) Reached (IsSeenMade tree w lay part) leading
        (parameter_cells sc b) b.parameters gs ws =
        given_are sc context w lay p q part outer level (frame core.registers) (length core.below) Reached (IsSeenMade tree w lay part) leading fit
        (parameter_cells sc b) b.parameters parameters.told refl arrays_seen ws are in
        record { cells = g.cells; lead = g.lead }

    pub entering_procedure : Does tree code texts w img p
    entering_procedure =
        entering tree code texts nested short laws begins_so actor (record {
          called = record { wanted = parameter_wants sc callee; gs = gs; slot = reference couple; next = a.1; waiting = a.2; parent = h; block = callee; begin = 0; calls = calls };
          purpose = procedure;
          owns = refl;
          body = procedure_body;
          behind = behind;
          given = given_cells sc w p q part outer gs;
          fit = cells_there;
        })
        (choice_is sc w p q part outer s.at s.todo
        ∙ ap (λ (k : Ask). choice_of sc w p q part outer k) asks
        ∙ ap (λ (x : Sort). entered_procedure sc w p q part outer (block_of_sort x) h (given_cells sc w p q part outer gs)) named.sort_is)
