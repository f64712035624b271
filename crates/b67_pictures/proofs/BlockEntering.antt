-- A block of a statement is entered.
use Rattle.std.proofs.Common.{◌≡◌, refl, sym, ap, ◌∙◌, subst, ℕ, ◌+◌, ◌-◌, ◌*◌, ◌≤◌, List, [], ◌∷◌, ◌++◌, length, Option, Some, None, Bool, false, not, arith, Ok}
use Rattle.b67_pictures.proofs.Prelude.{if◌then◌else◌, slice_get, Block, block_numbered, number_at, around, level_of, PProgram, PDecls, PStmts, Scopes, scopes_of, same_name, Spot, Kind, Ask, enters_block, resume, choice_of, is_evaluation, Answer, settle_items, items_of, Cell, instance_at, BlockIsSeen, IsSeenAround, IsInner, segment_of, IsStanding, Word, Place, irw_laws, as_sirw_other, as_pcw_pcw_word, kind_of_pcw_word, as_irw, as_sirw, as_pcw, Pcw, Placed, Spells, Code, place, look_seen, frame, display_at, cell_of, level_below, actuals_are_few, parameter_cells, result_cells_of, variables, zero_cells, procedures, actuals_of, CellsAt, Yields, yields_of, Context, decls_depth, stmts_depth, Has, code_at, LiesNested, Texts, context_of, Gives, pushed, ComesTo, control, mark, SlotIs, BlocksBegin, some_same, IsShortSegment, tokens_around, none_wanted, ActualsAre, most_is, makes, unmade, complete_of, controls_fit, Linked, level_around, owned_frame, asks_as_own, runs_at, IsInReach, block_controls, controls_count, most_around, IsComplete, Owned, run_level, Calls, part_there, shown_frame, AbleActor, actor_of, choice_is, text_in, level_in, context_in, most_in, names_in, TheLaws, Does}
use Rattle.algol_tree.specs.Plain.{body}
use Rattle.algol_meaning.specs.Rest.{Item, entered}
use Rattle.algol_meaning.specs.World.{block}
use Rattle.algol_meaning.specs.Statements.{decls_items, items}
use Rattle.algol_paths.specs.Segments.{segment_among, segment_tokens}
use Rattle.b67_control.specs.Kind as kind
use Rattle.b67_ops.specs.declared.Operator.TheVariants as ops
use Rattle.b67_ops.specs.declared.PlainKind.TheVariants as kinds
use Rattle.b67_templates.specs.Arguments.{arguments_in_decls, arguments_in_stmts}
use Rattle.b67_templates.specs.Cells.{Actual, actuals_in_block}
use Rattle.b67_templates.specs.Code.{RoutinesAt, DeclsAt, StmtsAt, KAt, in_block, control_pcws}
use Rattle.b67_templates.specs.Contexts as yielding
use Rattle.b67_templates.specs.Fragments.{stop}
use Rattle.b67_standing.specs.Laws.{InnerBlocksStart, InnerBlocksFollow}
use Rattle.b67_standing.specs.Standing.{EntersAt}
use Rattle.b67_rows.proofs.AskedEntries.{blocks_seen, block_unmade}
use Rattle.b67_letters.specs.Letters.{called_by}
use Rattle.b67_rows.proofs.EnterBlockRow.{block_leads, block_calls}
use Rattle.b67_rows.proofs.EntryRow.{Leads}
use Rattle.b67_rows.proofs.Growing.{plain_items}
use Rattle.b67_rows.proofs.Segmented.{inner_segment}
use Rattle.b67_frames.proofs.FreshCells.{none_given, none_are, none_lead}
use Rattle.b67_pictures.proofs.FrameEntering.{AreCells, Body, GoesOnBehind, entering}
use Rattle.b67_scenes.proofs.Paths.{part_in_reach}
use Rattle.b67_pictures.proofs.ParentPlaces.{standing_linked, linked_few, linked_low}
use Rattle.b67_pictures.proofs.Head.{Head}

module _ (tree : PProgram) (code : Code) (texts : Texts) (nested : LiesNested tree) (short : IsShortSegment tree code) (laws : TheLaws) (begins_so : BlocksBegin) (starts : InnerBlocksStart) (follow : InnerBlocksFollow)
    (actor : AbleActor tree code texts) where
  open actor use {w, lay, img, p, q, part, outer, core, s}

  module _ (spot : Spot) (ds : PDecls) (ss : PStmts) (head : Head tree code texts actor (enters_block (body spot ds ss))) where
    open head use {asks, action as a, waits, returns}

    abbrev sc : Scopes
    sc = scopes_of tree

    abbrev level : ℕ
    level = level_in tree w part

    abbrev around_block : ℕ
    around_block = (instance_at w part.instance).block

    abbrev j : ℕ
    j = number_at sc.blocks spot

    abbrev b : Block
    b = block_numbered sc.blocks j

    abbrev at : EntersAt sc (context_in tree code texts w part s.stands.frame.gives) (text_in tree texts w part) level (most_in tree w part) spot ds ss s.stands.pc a.0 s.stands.slots a.1
    at = a.2

    is_inner : IsInner sc around_block (body spot ds ss)
    is_inner = blocks_seen (BlockIsSeen sc around_block) (IsInner sc around_block) (IsSeenAround sc around_block) (body spot ds ss) part.rest asks s.stands.frame.text

    -- the part has its frame's instance for its own
    owns : is_evaluation part.purpose ≡ false
    owns = asks_as_own tree code texts w lay p part outer core.below s.stands.frame (enters_block (body spot ds ss)) asks (λ e. e)

    abbrev own_frame : Owned tree code texts w lay p part outer (length s.stands.frame.lower) s.stands.frame.mark s.stands.frame.control s.stands.frame.cells
    own_frame = owned_frame tree code texts w lay p part outer core.below s.stands.frame owns

    own_level : run_level (is_evaluation part.purpose) (names_in tree w part) ≡ names_in tree w part
    own_level = sym (runs_at part (names_in tree w part) owns)

    level_new : level_of b ≡ level + 1
    level_new = omega (arith, own_level, level_around sc.blocks j, ap length is_inner.around_is, level_around sc.blocks around_block)

    same_segment : segment_of sc.blocks j ≡ segment_of sc.blocks around_block
    same_segment =
        inner_segment sc.blocks j (around sc.blocks j) (ap (λ (name : List ℕ). not (same_name name [])) is_inner.nameless)
        ∙ ap (segment_among sc.blocks) is_inner.around_is

    -- what stands in the text around stands in that of the block
    in_text : (X : Context → List Placed → ℕ → Type 0) → X (in_block j (context_in tree code texts w part s.stands.frame.gives)) (text_in tree texts w part) (level + 1) → X (context_of code texts sc j) (texts.placed (segment_of sc.blocks j)) (level_of b)
    in_text X x =
        let own : ℕ → ℕ → Yields → Context = λ k l y. record { formats = code.formats; segment = k; block = j; level = l; yields = y; labels = texts.labels } in
        let names : ℕ = names_in tree w part in
        let here : X (in_block j (context_in tree code texts w part s.stands.frame.gives)) (text_in tree texts w part) (names + 1) =
        subst (λ (l : ℕ). X (in_block j (context_in tree code texts w part s.stands.frame.gives)) (text_in tree texts w part) (l + 1)) (own_level) x in
        let further : level_of b ≡ names + 1 = omega (arith, level_new, own_level) in
        subst (λ (k : ℕ). X (own k (level_of b) (yields_of b.result)) (texts.placed k) (level_of b)) (sym same_segment)
        (subst (λ (y : Yields). X (own (segment_of sc.blocks around_block) (level_of b) y) (text_in tree texts w part) (level_of b)) (ap yields_of (sym is_inner.result))
        (subst (λ (l : ℕ). X (own (segment_of sc.blocks around_block) l yielding.nothing) (text_in tree texts w part) l) (sym further) here))

    -- ---- the entry

    abbrev c : Pcw
    c = code_at (segment_of sc.blocks around_block) at.begin (level + 1)

    c_is : c ≡ code_at (segment_of sc.blocks j) at.begin (level_of b)
    c_is = ap (λ (k : ℕ). code_at k at.begin (level + 1)) (sym same_segment) ∙ ap (code_at (segment_of sc.blocks j) at.begin) (sym level_new)

    here_stands : IsStanding w part.instance
    here_stands = part_there tree code texts (actor_of s)

    linked : Linked sc w lay img.stacks part.instance
    linked = standing_linked tree code texts w lay img s.by s.ok part.instance here_stands

    home_is : linked.at ≡ place p (length s.stands.frame.lower)
    home_is = some_same (sym linked.laid ∙ own_frame.framed.laid)

    home_there : level_below core.registers (level + 1) ≡ Some linked.at
    home_there =
        let less : level + 1 - 1 ≡ core.registers.ll = omega (arith, s.stands.there.level_is) in
        ap (λ (t : Bool). if t then display_at core.registers (level + 1 - 1) else None) (most_is 1 (level + 1) (omega arith))
        ∙ ap (λ (n : ℕ). display_at core.registers n) less
        ∙ shown_frame tree code texts (actor_of s)
        ∙ ap (λ (g : Place). Some g) (sym home_is)

    abbrev HasControl : Word → Type 0
    HasControl x = SlotIs sc s.stands.held level (frame core.registers) (length core.below) (mark ∷ a.1) (control c) x

    no_irw : (x : Word) → HasControl x → as_irw x ≡ None
    no_irw x is = irw_laws.other x (λ k. let other = sym (ap kind.kind_of is ∙ kind_of_pcw_word c at.fits) ∙ k in cc)

    no_sirw : (x : Word) → HasControl x → as_sirw x ≡ None
    no_sirw x is = as_sirw_other x (λ k. let other = sym (ap kind.kind_of is ∙ kind_of_pcw_word c at.fits) ∙ k in cc)

    -- no arrays are still to be made
    complete : IsComplete sc w lay part.instance
    complete =
        complete_of sc w lay p part.instance outer (length s.stands.frame.lower) s.stands.frame.mark s.stands.frame.control s.stands.frame.cells own_frame.framed
        (own_frame.making ∙ block_unmade (body spot ds ss) part.rest asks)

    abbrev calls : Calls tree code texts nested short (actor_of s) [] [] (control c) a.0 a.1 part.instance j at.begin
    calls =
        record {
          lies = at.lies;
          fit = none_wanted;
          given_few = omega arith;
          marks = refl;
          stands = at.stands;
          in_reach = part_in_reach tree code texts w lay p part outer core.below s.stands.frame;
          complete = complete;
          known = is_inner.known;
          around_is = is_inner.around_is;
          linked = linked;
          few = linked_few tree code texts w lay img s.by s.ok part.instance here_stands linked;
          low = linked_low tree code texts w lay img s.by s.ok part.instance here_stands linked;
          segment = s.stands.there.segment;
          there = ap (λ (k : ℕ). slice_get code.segments k) (same_segment ∙ sym s.stands.segment_is) ∙ s.stands.there.there;
          spells = subst (λ (k : ℕ). Spells (texts.placed k) s.stands.there.segment) (sym same_segment) s.stands.there.spells;
          leads = λ m x is. subst (λ (y : Pcw). Leads code img core a.0 x m y linked.at) c_is
              (block_leads code img core a.0 x m c linked.at (no_irw x is) (no_sirw x is) (ap as_pcw is ∙ as_pcw_pcw_word c at.fits) home_there);
          calls = λ x is. subst (λ (y : Pcw). look_seen img.stacks (called_by x (cell_of core.registers x)) ≡ Ok y) c_is
              (block_calls code img core a.0 x (record { entered = false; stack = 0; displacement = 0; df = 0 }) c linked.at (no_irw x is) (no_sirw x is) (ap as_pcw is ∙ as_pcw_pcw_word c at.fits));
        }

    -- ---- its code

    zeros_many : length (variables ds) ≡ length (zero_cells b)
    zeros_many =
        ap (λ (x : PDecls). length (variables x)) (sym is_inner.decls_are)
        ∙ ap (λ (o : Option Kind). length (result_cells_of o b.name ++ variables b.decls)) (sym is_inner.result)

    -- its actuals are those that stand in these declarations and these statements
    actuals_are : actuals_in_block sc ds ss ≡ actuals_of sc b
    actuals_are = ap (λ (x : PDecls). actuals_in_block sc x ss) (sym is_inner.decls_are) ∙ ap (λ (x : PStmts). actuals_in_block sc b.decls x) (sym is_inner.stmts_are)

    room : controls_count sc j + decls_depth ds + stmts_depth ss ≤ 4 * tokens_around tree j
    room =
        omega (
          arith,
          at.shallow,
          ap (λ (x : PDecls). length (procedures x)) is_inner.decls_are,
          ap (λ (x : PDecls). arguments_in_decls x) is_inner.decls_are,
          ap (λ (x : PStmts). arguments_in_stmts x) is_inner.stmts_are,
          actuals_are_few sc b,
          ap (λ (k : ℕ). segment_tokens tree k) same_segment,
        )

    abbrev begun : ℕ
    begun = at.code.1

    abbrev declared : ℕ
    declared = at.code.2

    abbrev end : ℕ
    end = at.code.3

    -- the cells, with the code of the actuals at these places
    abbrev CellsThere : Context → List Placed → ℕ → ℕ → PDecls → List Actual → Type 0
    CellsThere x ps l many declarations actuals = CellsAt sc x ps l many (control_pcws sc x.segment l declarations actuals at.code.0) at.begin begun

    cells_there : CellsThere (context_of code texts sc j) (texts.placed (segment_of sc.blocks j)) (level_of b) (length (zero_cells b)) b.decls (actuals_of sc b)
    cells_there =
        subst (λ (n : ℕ). CellsThere (context_of code texts sc j) (texts.placed (segment_of sc.blocks j)) (level_of b) n b.decls (actuals_of sc b)) zeros_many
        (subst (λ (x : PDecls). CellsThere (context_of code texts sc j) (texts.placed (segment_of sc.blocks j)) (level_of b) (length (variables ds)) x (actuals_of sc b)) (sym is_inner.decls_are)
        (subst (λ (as' : List Actual). CellsThere (context_of code texts sc j) (texts.placed (segment_of sc.blocks j)) (level_of b) (length (variables ds)) ds as') actuals_are
        (in_text (λ x ps l. CellsThere x ps l (length (variables ds)) ds (actuals_in_block sc ds ss)) at.code.6)))

    -- its declarations, its statements and its end, and what it has to do
    declarations_there : DeclsAt sc (context_of code texts sc j) (texts.placed (segment_of sc.blocks j)) (level_of b) ds begun declared
    declarations_there = in_text (λ x ps l. DeclsAt sc x ps l ds begun declared) at.code.7

    statements_there : StmtsAt sc (context_of code texts sc j) (texts.placed (segment_of sc.blocks j)) (level_of b) ss declared end end
    statements_there = in_text (λ x ps l. StmtsAt sc x ps l ss declared end end) at.code.8

    end_there : Has (texts.placed (segment_of sc.blocks j)) (level_of b) end (ops.Plain kinds.Exit) at.code.4
    end_there = in_text (λ x ps l. Has ps l end (ops.Plain kinds.Exit) at.code.4) at.code.9

    items_are : items_of b ≡ decls_items ds ++ items ss []
    items_are =
        plain_items b is_inner.result
        ∙ ap (λ (x : PDecls). decls_items x ++ items b.stmts []) is_inner.decls_are
        ∙ ap (λ (x : PStmts). decls_items ds ++ items x []) is_inner.stmts_are

    abbrev block_body : Body tree code texts nested short laws begins_so actor j at.begin
    block_body =
        record {
          ready = at.begin;
          start = begun;
          ats = at.code.0;
          routines = (
            subst (λ (as' : List Actual). RoutinesAt sc (context_of code texts sc j) (texts.placed (segment_of sc.blocks j)) (level_of b + 1) as' at.code.0) actuals_are
                (in_text (λ x ps l. RoutinesAt sc x ps (l + 1) (actuals_in_block sc ds ss) at.code.0) at.code.5),
            controls_fit (texts.placed (segment_of sc.blocks j)) (level_of b) (block_controls sc j at.code.0) cells_there.0 cells_there.1 cells_there.3,
          );
          items = (
            begun,
            subst (λ (k : List Item). KAt sc (context_of code texts sc j) (texts.placed (segment_of sc.blocks j)) (level_of b) k begun) (sym items_are)
                (follow sc (context_of code texts sc j) (texts.placed (segment_of sc.blocks j)) (level_of b) ds ss begun declared end at.code.4 declarations_there statements_there
                (ap yields_of is_inner.result) end_there),
          );
          over = stop;
          cells_at = cells_there;
          comes = subst (λ (k : List Item). ComesTo sc (context_of code texts sc j) (texts.placed (segment_of sc.blocks j)) (level_of b) (most_around tree j) (settle_items sc k) begun [])
              (sym items_are)
              (starts sc (context_of code texts sc j) (texts.placed (segment_of sc.blocks j)) (level_of b) (most_around tree j) ds ss begun declared end at.code.4 declarations_there statements_there
              (ap yields_of is_inner.result) end_there (omega (arith, room)));
          small = omega (arith, room);
        }

    abbrev behind : GoesOnBehind tree code texts nested short laws begins_so actor a.0 a.1 j
    behind =
        record {
          unmade = unmade part.rest (ap makes asks);
          waits = waits a.0 a.1 yielding.nothing (refl, refl, refl);
          returns = subst (λ (o : Option Kind). (r : Answer) → Gives (yields_of o) r →
              ComesTo sc (context_in tree code texts w part s.stands.frame.gives) (text_in tree texts w part) level (most_in tree w part) (resume sc (resume sc part.rest entered) r) a.0 (pushed (yields_of o) r a.1)) (sym is_inner.result)
              (λ r given. returns a.0 a.1 yielding.nothing (refl, refl, refl) r given);
        }

    -- nothing is given to it
    no_cells : parameter_cells sc b ≡ []
    no_cells = none_given sc b (nested.nested.each j is_inner.known).parameters is_inner.parameters

    abbrev AreCellsThere : List Cell → List Word → Type 0
    AreCellsThere given ws = AreCells tree code texts nested short laws begins_so actor j given ws

    none_there : (ws : List Word) → ActualsAre sc s.stands.held (level_in tree w part) (frame core.registers) (length core.below) [] [] ws → AreCellsThere [] ws
    none_there [] are = record { cells = none_are sc b no_cells is_inner.parameters; lead = none_lead sc w lay (IsInReach w (part ∷ outer)) b no_cells is_inner.parameters }
    none_there (x ∷ ws) are = absurd are

    pub entering_block : Does tree code texts w img p
    entering_block =
        entering tree code texts nested short laws begins_so actor (record {
          called = record { wanted = []; gs = []; slot = control c; next = a.0; waiting = a.1; parent = part.instance; block = j; begin = at.begin; calls = calls };
          purpose = block;
          owns = refl;
          body = block_body;
          behind = behind;
          given = [];
          fit = none_there;
        })
        (choice_is sc w p q part outer s.at s.todo ∙ ap (λ (k : Ask). choice_of sc w p q part outer k) asks)
