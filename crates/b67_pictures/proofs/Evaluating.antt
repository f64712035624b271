-- Accidental entry: VALC or EVAL enters the code of the actual that a parameter's cell names, and the part waits for its value or its place.
use Rattle.std.proofs.Common.{◌≡◌, refl, sym, ap, ◌∙◌, subst, ℕ, ◌+◌, ◌<◌, ◌≤◌, List, [], ◌∷◌, length, Option, Some, Ok, Bool, true, false, arith}
use Rattle.b67_pictures.proofs.Prelude.{if◌then◌else◌, numbered, NotAVariable, block_numbered, level_of, PProgram, Scopes, scopes_of, Kind, Named, Ask, reads, resolves, located_of, choice_of, read_of, resolved_of, is_subscripted, opens, fails, settle_actual_place, Cell, Instance, name_place, instance_at, or_no_instance, BlockIsSeen, segment_of, Word, Place, as_pcw_pcw_word, as_sirw, as_pcw, pcw_word, Irw, Pcw, Couple, Code, place, frame, irw_or_sirw, cell_of, couple_cell, operator_at, has_place, in_routine, Yields, depth, LiesNested, Texts, context_of, selected, ComesTo, Slot, newest, IsShortSegment, at_operator, place_reached_class, Reaches, reached_through, value_reached_class, action_not_plain, action_is, HaveTexts, makes, unmade, pcw_refers_nothing, most_around, routine_of, Found, operator_there, ActualNamed, AbleActor, Actor, actor_of, choice_is, text_in, level_in, TheLaws, Does}
use Rattle.b67_scenes.proofs.ActualEntries.{Takes}
use Rattle.algol_meaning.specs.Asks.{evaluated_of}
use Rattle.algol_meaning.specs.Settle.{settle}
use Rattle.algol_meaning.specs.World.{name_read}
use Rattle.algol_paths.specs.Texts.{InExpr}
use Rattle.b67_ops.specs.declared.Operator.TheVariants as ops
use Rattle.b67_ops.specs.declared.PlainKind.TheVariants as kinds
use Rattle.b67_table.specs.declared.Cell as cells
use Rattle.b67_table.specs.References.{cell_in}
use Rattle.b67_templates.specs.Contexts.{value, element}
use Rattle.b67_standing.specs.Laws.{RoutinesGiveValues, RoutinesGivePlaces}
use Rattle.b67_rows.proofs.AccidentalRow.{value_entered_raw, value_entered_letter, place_entered_raw, place_entered_letter}
use Rattle.b67_rows.proofs.ActualsSeen.{actual_seen, value_keeps, place_keeps}
use Rattle.b67_frames.proofs.Expressions.{evaluated_is, located_is}
use Rattle.b67_frames.proofs.Segmenting.{ActualsHaveRoom}
use Rattle.b67_scenes.proofs.ActualEntries as entries
use Rattle.b67_scenes.proofs.ActualHomes.{same_place}
use Rattle.b67_pictures.proofs.EvaluationEntering.{Evaluation, Awaits, entering_evaluation}
use Rattle.b67_pictures.proofs.Resolving.{FindsName, finds_name}
use Rattle.b67_pictures.proofs.Head.{Head}

-- what the entry of an actual's code needs of the code of the program: it is short, and stands in its segments; from the start of the code of
-- an actual the machine comes to where it stands for its value and for its place, and has room for that; and a frame may be lent
pub record ActualsAreEntered (tree : PProgram) (code : Code) (texts : Texts) : Type 0 where
  pub short : IsShortSegment tree code
  pub stand : HaveTexts tree code texts
  pub values : RoutinesGiveValues
  pub places : RoutinesGivePlaces
  pub have_room : ActualsHaveRoom tree

-- ---- the actual

module _ (tree : PProgram) (code : Code) (texts : Texts) (nested : LiesNested tree) (actuals : ActualsAreEntered tree code texts) (actor : Actor tree code texts) where
  open actor use {w, lay, img}

  module _ (n : Named) (kind : Kind) (couple : Couple)
      (h : ActualNamed tree code texts nested.nested actor n kind couple) where
    abbrev sc : Scopes
    sc = scopes_of tree

    -- the block in whose text it stands
    abbrev block : ℕ
    block = (instance_at w h.a.instance).block

    abbrev found_there : Found tree code texts w lay img h.a.instance
    found_there = h.actual.seen_there.found

    here : numbered w.instances h.a.instance ≡ Some found_there.lies.owned.framed.instance
    here = ap (numbered w.instances) (sym found_there.lies.instance_is) ∙ found_there.lies.owned.framed.is

    known : block < length sc.blocks
    known = subst (λ (x : Instance). x.block < length sc.blocks) (sym (ap or_no_instance here)) found_there.lies.owned.framed.known

    is_seen : InExpr (BlockIsSeen sc block) h.a.actual
    is_seen = actual_seen sc block (nested.nested.each block known) h.denotes.level h.a.actual kind h.denotes.couple h.denotes.stands

    has_room : depth h.a.actual ≤ most_around tree block
    has_room = actuals.have_room block known h.denotes.stands.number (record { expr = h.a.actual; kind = kind }) h.denotes.stands.there

    -- its control word, which the reference in the parameter's cell reaches
    abbrev pub control : Pcw
    control = routine_of sc block h.a.actual h.actual.at

    abbrev pub from : cells.Cell
    from = record { frame = h.home.at; index = couple.index }

    abbrev pub to : cells.Cell
    to = record { frame = place h.actual.seen_there.found.number (length h.actual.seen_there.found.lies.frame.lower); index = h.denotes.couple.index }

    pub control_reached : Reaches img.stacks from (pcw_word control) to
    control_reached =
        reached_through img.stacks from h.home.word (record { stack = found_there.number; displacement = length found_there.lies.frame.lower; index = h.denotes.couple.index }) (pcw_word control) h.home.lies h.actual.reads
        h.actual.control_lies (pcw_refers_nothing control)

    pub control_read : as_pcw (pcw_word control) ≡ Some control
    control_read = as_pcw_pcw_word control h.actual.fits

    -- it is evaluated for its value, or for its place
    pub value_evaluation : Evaluation tree code texts w h.a.instance h.a.actual h.actual.at name_read (value kind) false (evaluated_of (settle sc h.a.actual))
    value_evaluation =
        record {
          evaluates = refl;
          asked = tt;
          text = value_keeps sc block h.a.actual is_seen;
          expression = evaluated_is (settle sc h.a.actual);
          room = has_room;
          comes = actuals.values sc (context_of code texts sc block) (texts.placed (segment_of sc.blocks block)) (level_of (block_numbered sc.blocks block) + 1) (most_around tree block)
              (record { expr = h.a.actual; kind = kind }) h.actual.at h.actual.code_there has_room;
        }

    pub place_evaluation : has_place h.a.actual ≡ true → Evaluation tree code texts w h.a.instance h.a.actual h.actual.at name_place (element kind) true (located_of (settle_actual_place sc h.a.actual))
    place_evaluation placed =
        record {
          evaluates = refl;
          asked = tt;
          text = place_keeps sc block h.a.actual placed is_seen;
          expression = located_is (settle_actual_place sc h.a.actual);
          room = has_room;
          comes = subst
              (λ (b : Bool). ComesTo sc (in_routine (element kind) (context_of code texts sc block)) (texts.placed (segment_of sc.blocks block)) (level_of (block_numbered sc.blocks block) + 1) (most_around tree block)
              (located_of (settle_actual_place sc h.a.actual)) h.actual.at (selected b true)) (sym placed)
              (actuals.places sc (context_of code texts sc block) (texts.placed (segment_of sc.blocks block)) (level_of (block_numbered sc.blocks block) + 1) (most_around tree block)
              (record { expr = h.a.actual; kind = kind }) h.actual.at h.actual.code_there has_room placed);
        }

-- ---- the entry

module _ (tree : PProgram) (code : Code) (texts : Texts) (nested : LiesNested tree) (actuals : ActualsAreEntered tree code texts) (laws : TheLaws) (actor : AbleActor tree code texts) where
  open actor use {w, img, p, q, part, outer, core, s}

  module _ (n : Named) where
    abbrev IsNamed : Kind → Couple → Type 0
    IsNamed kind couple = ActualNamed tree code texts nested.nested (actor_of s) n kind couple

    abbrev TakesHere : ℕ → List Word → List Word → List Slot → Type 0
    TakesHere next taken more waiting = Takes tree code texts nested actuals.short actuals.stand (actor_of s) next taken more waiting

    abbrev AwaitsHere : ℕ → List Slot → Yields → Type 0
    AwaitsHere next waiting gives = Awaits tree code texts nested actuals.short actuals.stand laws actor next waiting gives

    -- VALC

    module _ (head : Head tree code texts actor (reads n)) (h : IsNamed head.action.0 head.action.2.0) where
      open head use {asks, action as a, waits, returns}

      valc_there : operator_at code core.registers ≡ Ok (ops.Valc a.2.0, a.1)
      valc_there = operator_there (scopes_of tree) s.stands.held code (text_in tree texts w part) (level_in tree w part) s.stands.pc s.stands.slots core (ops.Valc a.2.0) a.1 s.stands.there a.2.2

      none_taken : TakesHere a.1 [] core.words s.stands.slots
      none_taken =
          record {
            parted = refl;
            are = s.stands.there.words_are;
            mark_at = s.stands.there.mark_is;
            returns = entries.can_return tree code texts nested actuals.short actuals.stand (actor_of s) (ops.Valc a.2.0) a.1 a.2.2;
          }

      value_awaited : AwaitsHere a.1 s.stands.slots (value a.0)
      value_awaited =
          record {
            unmade = unmade part.rest (ap makes asks);
            waits = waits a.1 s.stands.slots (value a.0) (refl, refl, refl);
            returns = λ r given. returns a.1 s.stands.slots (value a.0) (refl, refl, refl) r given;
            few = a.3;
          }

      cell_shown : couple_cell core.registers a.2.0.level a.2.0.index ≡ Some (from tree code texts nested actuals (actor_of s) n a.0 a.2.0 h)
      cell_shown = ap (λ (o : Option Place). cell_in o a.2.0.index) h.home.shown

      value_reached : Reaches img.stacks (from tree code texts nested actuals (actor_of s) n a.0 a.2.0 h) (pcw_word (control tree code texts nested actuals (actor_of s) n a.0 a.2.0 h))
          (to tree code texts nested actuals (actor_of s) n a.0 a.2.0 h)
      value_reached = control_reached tree code texts nested actuals (actor_of s) n a.0 a.2.0 h

      abbrev value_entry : entries.ActualEntry tree code texts nested actuals.short actuals.stand (actor_of s)
      value_entry = record {
        next = a.1;
        taken = [];
        more = core.words;
        waiting = s.stands.slots;
        takes = none_taken;
        instance = h.a.instance;
        actual = h.a.actual;
        kind = a.0;
        word = h.home.word;
        denotes = h.denotes;
        home = h.actual;
      }

      pub evaluating_value : Does tree code texts w img p
      evaluating_value =
          let x : Word = pcw_word (control tree code texts nested actuals (actor_of s) n a.0 a.2.0 h) in
          let c : Pcw = control tree code texts nested actuals (actor_of s) n a.0 a.2.0 h in
          let first : cells.Cell = from tree code texts nested actuals (actor_of s) n a.0 a.2.0 h in
          let second : cells.Cell = to tree code texts nested actuals (actor_of s) n a.0 a.2.0 h in
          let read : as_pcw x ≡ Some c = control_read tree code texts nested actuals (actor_of s) n a.0 a.2.0 h in
          let row = entries.evaluates tree code texts nested actuals.short actuals.stand (actor_of s) value_entry in
          entering_evaluation tree code texts nested actuals.short actuals.stand laws actor (record {
            entry = value_entry;
            purpose = name_read;
            gives = value a.0;
            selector = false;
            rest = evaluated_of (settle (scopes_of tree) h.a.actual);
            evaluation = value_evaluation tree code texts nested actuals (actor_of s) n a.0 a.2.0 h;
            behind = value_awaited;
          })
          (action_not_plain code (ops.Valc a.2.0) (at_operator s.has valc_there) (value_reached_class code a.2.0 (at_operator s.has valc_there) first second cell_shown x value_reached))
          (value_entered_raw code a.2.0 (at_operator s.has valc_there) first second cell_shown x value_reached c read refl _ row)
          (choice_is (scopes_of tree) w p q part outer s.at s.todo ∙ ap (λ (k : Ask). choice_of (scopes_of tree) w p q part outer k) asks ∙ ap (λ (k : Cell). read_of (scopes_of tree) w p q part outer k) h.cell_is)
          (λ t. action_is code (ops.Valc a.2.0) (at_operator s.has valc_there) _ t
          ∙ (value_entered_letter code a.2.0 (at_operator s.has valc_there) first second cell_shown x value_reached c read refl _ row))

    -- EVAL, of an actual that is subscripted

    module _ (head : Head tree code texts actor (resolves n)) (h : IsNamed head.action.0 head.action.3.couple) (is : is_subscripted h.a.actual ≡ true) where
      open head use {asks, action as a, waits, returns}

      eval_there : operator_at code core.registers ≡ Ok (ops.Plain kinds.Eval, a.1)
      eval_there = operator_there (scopes_of tree) s.stands.held code (text_in tree texts w part) (level_in tree w part) s.stands.pc s.stands.slots core (ops.Plain kinds.Eval) a.1 s.stands.there a.3.stands

      finds : FindsName tree code texts nested.nested (actor_of s) n asks a.0 a.1 a.2 a.3
      finds = finds_name tree code texts nested.nested (actor_of s) n asks a.0 a.1 a.2 a.3 h.home

      has_a_place : has_place h.a.actual ≡ true
      has_a_place = sym (same_place h.a.actual) ∙ is

      one_taken : TakesHere a.1 (finds.top.word ∷ []) finds.top.words_below a.2
      one_taken =
          record {
            parted = finds.top.is;
            are = finds.top.are;
            mark_at = s.stands.there.mark_is ∙ ap (newest (frame core.registers) (length core.below)) a.3.lies;
            returns = entries.can_return tree code texts nested actuals.short actuals.stand (actor_of s) (ops.Plain kinds.Eval) a.1 a.3.stands;
          }

      place_awaited : AwaitsHere a.1 a.2 (element a.0)
      place_awaited =
          record {
            unmade = unmade part.rest (ap makes asks);
            waits = waits a.1 a.2 (element a.0) (refl, refl, refl);
            returns = λ r given. returns a.1 a.2 (element a.0) (refl, refl, refl) r given;
            few = omega (arith, ap length a.3.lies, s.stands.few);
          }

      name_on_top : cell_of core.registers finds.top.word ≡ Some (from tree code texts nested actuals (actor_of s) n a.0 a.3.couple h)
      name_on_top =
          ap (λ (o : Option Irw). irw_or_sirw core.registers o (as_sirw finds.top.word)) finds.names
          ∙ ap (λ (o : Option Place). cell_in o a.3.couple.index) h.home.shown

      place_reached : Reaches img.stacks (from tree code texts nested actuals (actor_of s) n a.0 a.3.couple h) (pcw_word (control tree code texts nested actuals (actor_of s) n a.0 a.3.couple h))
          (to tree code texts nested actuals (actor_of s) n a.0 a.3.couple h)
      place_reached = control_reached tree code texts nested actuals (actor_of s) n a.0 a.3.couple h

      abbrev place_entry : entries.ActualEntry tree code texts nested actuals.short actuals.stand (actor_of s)
      place_entry = record {
        next = a.1;
        taken = finds.top.word ∷ [];
        more = finds.top.words_below;
        waiting = a.2;
        takes = one_taken;
        instance = h.a.instance;
        actual = h.a.actual;
        kind = a.0;
        word = h.home.word;
        denotes = h.denotes;
        home = h.actual;
      }

      pub evaluating_place : Does tree code texts w img p
      evaluating_place =
          let x : Word = pcw_word (control tree code texts nested actuals (actor_of s) n a.0 a.3.couple h) in
          let c : Pcw = control tree code texts nested actuals (actor_of s) n a.0 a.3.couple h in
          let first : cells.Cell = from tree code texts nested actuals (actor_of s) n a.0 a.3.couple h in
          let second : cells.Cell = to tree code texts nested actuals (actor_of s) n a.0 a.3.couple h in
          let read : as_pcw x ≡ Some c = control_read tree code texts nested actuals (actor_of s) n a.0 a.3.couple h in
          let row =
          entries.evaluates tree code texts nested actuals.short actuals.stand (actor_of s) place_entry in
          entering_evaluation tree code texts nested actuals.short actuals.stand laws actor (record {
            entry = place_entry;
            purpose = name_place;
            gives = element a.0;
            selector = true;
            rest = located_of (settle_actual_place (scopes_of tree) h.a.actual);
            evaluation = place_evaluation tree code texts nested actuals (actor_of s) n a.0 a.3.couple h has_a_place;
            behind = place_awaited;
          })
          (action_not_plain code (ops.Plain kinds.Eval) (at_operator s.has eval_there)
          (place_reached_class code (at_operator s.has eval_there) finds.top.word finds.top.words_below finds.top.is first second name_on_top x place_reached))
          (place_entered_raw code (at_operator s.has eval_there) finds.top.word finds.top.words_below finds.top.is first second name_on_top x place_reached c read has_a_place _ row)
          (choice_is (scopes_of tree) w p q part outer s.at s.todo
          ∙ ap (λ (k : Ask). choice_of (scopes_of tree) w p q part outer k) asks
          ∙ ap (λ (k : Cell). resolved_of (scopes_of tree) w p q part outer n k) h.cell_is
          ∙ ap
          (λ (b : Bool). if b then opens (scopes_of tree) w p q part outer w (record { instance = h.a.instance; purpose = name_place; rest = located_of (settle_actual_place (scopes_of tree) h.a.actual) })
          else fails (scopes_of tree) w p q part outer NotAVariable) is)
          (λ t. action_is code (ops.Plain kinds.Eval) (at_operator s.has eval_there) _ t
          ∙ (place_entered_letter code (at_operator s.has eval_there) finds.top.word finds.top.words_below finds.top.is first second name_on_top x place_reached c read has_a_place _ row))
