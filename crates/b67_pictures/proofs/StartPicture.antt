-- A process that is started has what its starter gives it, and lives.
use Rattle.std.proofs.Common.{◌≡◌, ◌≢◌, inl, inr, refl, sym, ap, ◌∙◌, subst, ℕ, zero, suc, ◌+◌, ◌*◌, ◌≤◌, ◌<◌, List, [], ◌∷◌, ◌++◌, length, Option, Some, false, arith, length-append}
use Rattle.b67_list.proofs.Numbers.{none_some}
use Rattle.b67_pictures.proofs.Prelude.{slice_get, replicate, numbered, set_numbered, Block, block_numbered, level_of, PProgram, Scopes, scopes_of, Named, starts, resume, home, given_cells, task_of, some_depends, own_instances, newest_first, first_on_path, Given, done, Cell, NamedCell, Instance, Process, World, instance_at, or_no_instance, ancestor, segment_of, starts_lie_on_paths, path_first, referred_by_start, IsStanding, IsOnPath, IsWholeInstance, newest_own, skeleton, Word, Place, Pcw, Code, numbered_within, place, Image, place_of, frames_with, named_frames, actuals_are_few, Simple, parameter_cells, zero_cells, decls_depth, stmts_depth, LiesNested, Texts, context_of, BodyAt, ProgramAt, BlocksStart, StartsAt, HasCore, BlocksBegin, length_set_numbered, tokens_around, FirstDown, numbered_last, numbered_before, begins_with, first_stack, rows_there, controls_fit, HasFacts, facts_of, IsStandingOrNone, LeadAll, fresh_are, Remain, denotes_lasts, Linked, all_each, StandOn, zero_word, Layout, block_controls, controls_count, most_around, IsInReach, home_of, AreLaid, all_laid, reached_stands, AbleActor, actor_of, Refers, started_layout, text_in, level_in, context_in, most_in, events_before, task_stays, TheLaws, Living, Does}
use Rattle.algol_meaning.specs.Instances as instances
use Rattle.algol_standing.proofs.Seen.{top_stands}
use Rattle.b67_rows.proofs.Begun.{core_of, begun_has}
use Rattle.b67_rows.proofs.Numbers.{get_within}
use Rattle.b67_rows.proofs.StartRow.{begins_is}
use Rattle.b67_scenes.proofs.BeginningProcess.{HasCode, Begun, begun_lives, NewProcess}
use Rattle.b67_scenes.proofs.StartCalling as calling
use Rattle.b67_pictures.proofs.Alone.{IsAfter, free_still, dependent_but}
use Rattle.b67_pictures.proofs.FrameEntering.{fresh_free}
use Rattle.b67_pictures.proofs.NamedFrames.{frame_small}
use Rattle.b67_pictures.proofs.ProcedureEntering.{HasRoomFor}
use Rattle.b67_pictures.proofs.ProcessStarting as process
use Rattle.b67_pictures.proofs.ProcessStarting.{newest_there, IsBegun, starting_process, RefersSo}
use Rattle.b67_pictures.proofs.StartingFree.{none_depends, all_stand_on}
use Rattle.b67_pictures.proofs.StartThere as given
use Rattle.b67_pictures.proofs.Head.{Head}

module _ (tree : PProgram) (code : Code) (program : ProgramAt code tree) (nested : LiesNested tree) (small : HasRoomFor tree) (laws : TheLaws) (begins_so : BlocksBegin) (starts_so : BlocksStart)
    (actor : AbleActor tree code program.texts) where
  open laws use {keeps}
  open actor use {w, lay, img, p, q, part, outer, s, able_is}

  module _ (n : Named) (gs : List Given) (task : Option Named) (head : Head tree code program.texts actor (starts n gs task)) where
    open head use {asks, action as a}

    abbrev sc : Scopes
    sc = scopes_of tree

    abbrev texts : Texts
    texts = program.texts

    abbrev callee : ℕ
    callee = a.0

    abbrev b : Block
    b = block_numbered sc.blocks callee

    abbrev at : StartsAt sc (context_in tree code texts w part s.stands.frame.gives) (text_in tree texts w part) (level_in tree w part) (most_in tree w part) n gs task callee s.stands.pc a.1 s.stands.slots a.2
    at = a.3

    -- ---- what it refers to

    abbrev parent : ℕ
    parent = home sc w p q part outer n

    abbrev linked : Linked sc w lay img.stacks parent
    linked = given.linked tree code program nested (actor_of s) able_is n gs task asks callee a.1 a.2 at

    abbrev more : List Place
    more = linked.at ∷ linked.more

    abbrev tasked : given.TaskThere tree code program nested (actor_of s) able_is n gs task asks callee a.1 a.2 at task
    tasked = given.task_found tree code program nested (actor_of s) able_is n gs task asks callee a.1 a.2 at

    abbrev words : List Word
    words = calling.parameters tree code texts (actor_of s) n gs task callee a.1 a.2 at

    abbrev refs : List ℕ
    refs = referred_by_start sc w p q part outer n gs task

    abbrev critical : ℕ
    critical = first_on_path w (newest_first 1 w.instances []) p refs

    abbrev critical_there : (g : Place) × (numbered lay.places critical ≡ Some g) × FirstDown img (linked.at ∷ frames_with tasked.cell (named_frames words)) (place p (length s.stands.frame.lower)) g
    critical_there = given.found_critical tree code program nested (actor_of s) able_is n gs task asks callee a.1 a.2 at

    abbrev refers : Refers tree code texts (actor_of s) n gs task callee a.1 a.2 at linked.at more tasked.cell critical_there.0
    refers = given.refers_there tree code program nested (actor_of s) able_is n gs task asks callee a.1 a.2 at

    known : callee < length sc.blocks
    known = given.known tree code program nested (actor_of s) able_is n gs task asks callee a.1 a.2 at

    parent_stands : IsStanding w parent
    parent_stands = (given.parent tree code program nested (actor_of s) able_is n gs task asks callee a.1 a.2 at).stands

    facts : HasFacts w
    facts = facts_of sc w s.ok

    -- ---- its code

    code_there : BodyAt sc (context_of code texts sc callee) (texts.placed (segment_of sc.blocks callee)) (level_of b) b 0
    code_there = program.bodies callee known (inr (given.is_own tree code program nested (actor_of s) able_is n gs task asks callee a.1 a.2 at))

    room : decls_depth b.decls + stmts_depth b.stmts + controls_count sc callee + 1 ≤ 4 * tokens_around tree callee
    room =
        omega (arith, small callee known (inr (given.is_own tree code program nested (actor_of s) able_is n gs task asks callee a.1 a.2 at)), actuals_are_few sc b)

    -- ---- the world after it

    abbrev w' : World
    w' = process.world_after tree code texts laws actor n gs task head

    abbrev new : Process
    new = process.begun_process tree code texts laws actor n gs task head

    abbrev made : Instance
    made = process.made tree code texts laws actor n gs task head

    abbrev q' : Process
    q' = record q { todo = record part { rest = resume sc part.rest done } ∷ outer }

    abbrev lay' : Layout
    lay' = started_layout w lay

    abbrev number : ℕ
    number = length w.processes + 1

    abbrev instance : ℕ
    instance = length w.instances + 1

    abbrev referring : RefersSo tree code texts laws actor n gs task head
    referring = record { home_at = linked.at; more = more; cell = tasked.cell; critical = critical_there.0; refers = refers }

    abbrev after : Image
    after = process.after tree code texts laws actor n gs task head referring

    abbrev given_now : List Cell
    given_now = given_cells sc w p q part outer gs

    critical_path : IsOnPath w (newest_own (part ∷ outer)) critical
    critical_path =
        path_first (skeleton w) s.ok.sound.skeleton_ok refs (newest_own (part ∷ outer)) critical
        (starts_lie_on_paths sc w p q part outer n gs task s.ok s.at s.todo able_is asks).first

    newest : (older : List ℕ) × (own_instances q.todo ≡ newest_own (part ∷ outer) ∷ older)
    newest = newest_there sc w s.ok p q part outer s.at s.todo

    places_stay : (k : ℕ) (f : Place) → numbered lay.places k ≡ Some f → numbered lay'.places k ≡ Some f
    places_stay k f e = numbered_before lay.places (place number 0 ∷ []) k f e

    instances_stay : (k : ℕ) (x : Instance) → numbered w.instances k ≡ Some x → numbered w'.instances k ≡ Some x
    instances_stay k x e = numbered_before w.instances (made ∷ []) k x e

    -- what stood has the parents that it had
    same_there : (k : ℕ) → IsStandingOrNone w k → instance_at w' k ≡ instance_at w k
    same_there k (inl none) = ap (instance_at w') none ∙ ap (instance_at w) (sym none)
    same_there k (inr st) = let x = facts.there k st in ap or_no_instance (instances_stay k x.0 x.1) ∙ sym (ap or_no_instance x.1)

    next_or_none : (k : ℕ) → IsStandingOrNone w k → IsStandingOrNone w ((instance_at w k).parent)
    next_or_none k (inl none) = inl (ap (λ (j : ℕ). (instance_at w j).parent) none)
    next_or_none k (inr st) = facts.parents k st

    ancestors_stay : (up k : ℕ) → IsStandingOrNone w k → ancestor w' up k ≡ ancestor w up k
    ancestors_stay zero k st = refl
    ancestors_stay (suc up) k st =
        ap (λ (j : ℕ). ancestor w' up j) (ap (λ (x : Instance). x.parent) (same_there k st)) ∙ ancestors_stay up ((instance_at w k).parent) (next_or_none k st)

    each_there : (up : ℕ) → up < length more → slice_get more up ≡ numbered lay'.places (ancestor w' up parent)
    each_there up low =
        let g = get_within more up low in
        let before : numbered lay.places (ancestor w up parent) ≡ Some g.0 = sym (all_each sc w lay img.stacks parent linked up (omega (arith, low))) ∙ g.1 in
        g.1 ∙ sym (ap (λ (k : ℕ). numbered lay'.places k) (ancestors_stay up parent (inr parent_stands)) ∙ places_stay (ancestor w up parent) g.0 before)

    home_there : (k : ℕ) → numbered lay.places k ≡ Some linked.at → home_of sc w' lay' k ≡ Some linked.at
    home_there zero e = none_some e
    home_there (suc k) e = places_stay (suc k) linked.at e

    -- nobody depends on it
    free_there : some_depends w'.processes instance ≡ false
    free_there =
        none_depends (set_numbered w.processes p q') new instance critical refl other
        (free_still w.processes (set_numbered w.processes p q') instance (dependent_but w.processes p q q' s.at refl (λ e. e))
        (fresh_free w.processes instance (λ m o c is depends. omega (arith, s.ok.sound.criticals (suc m) c o is depends))))
      where
        other : critical ≢ instance
        other same =
            let x = facts.there critical (facts.on_path (newest_own (part ∷ outer)) critical (top_stands sc IsWholeInstance w s.ok.sound p q part outer s.at s.todo) critical_path) in
            omega (arith, numbered_within w.instances critical x.0 x.1, same)

    module _ (after_it : IsAfter (scopes_of tree) w w' p) where
      on : StandOn sc w w' lay lay'
      on = all_stand_on sc w lay s.ok (record {
        p = p;
        q = q;
        onward = q';
        at = s.at;
        critical_is = refl;
        alive = λ e. e;
        top = newest_own (part ∷ outer);
        older = newest.0;
        own = newest.1;
        made = made;
        new = new;
        critical_in = critical;
        critical = refl;
        path = critical_path;
      }) after_it

      stays : (k : ℕ) → IsInReach w (part ∷ outer) k → IsStanding w' k
      stays k reached =
          let x = facts.there k (reached_stands tree code texts (actor_of s) k reached) in
          after_it.climb.facts.stands k x.0 (instances_stay k x.0 x.1) x.2

      remain : Remain sc w w' lay lay' (IsInReach w (part ∷ outer)) (IsStanding w')
      remain =
          record {
            stays = stays;
            keeps = λ k reached. on.keeps k (reached_stands tree code texts (actor_of s) k reached) (stays k reached);
            places = λ k f reached laid. places_stay k f laid;
          }

      lead_later : (ss : List Simple) (cells : List NamedCell) (ws : List Word) → LeadAll sc w lay (IsInReach w (part ∷ outer)) ss cells ws → LeadAll sc w' lay' (IsStanding w') ss cells ws
      lead_later [] [] [] lead = tt
      lead_later [] [] (x ∷ ws) lead = absurd lead
      lead_later [] (c ∷ cells) ws lead = absurd lead
      lead_later (t ∷ ss) [] ws lead = absurd lead
      lead_later (t ∷ ss) (c ∷ cells) [] lead = absurd lead
      lead_later (t ∷ ss) (c ∷ cells) (x ∷ ws) lead =
          ((λ asked. denotes_lasts sc w w' lay lay' (IsInReach w (part ∷ outer)) (IsStanding w') remain t.wanted c.cell x (lead.0 asked)), lead_later ss cells ws lead.1)

      laid_later : AreLaid w' lay'
      laid_later =
          all_laid w' lay' after_it.climb.facts
          (omega (arith, length-append lay.places (place number 0 ∷ []), length-append w.instances (made ∷ []), s.by.laid))

      abbrev fresh : NewProcess tree
      fresh = record {
        w = w';
        lay = lay';
        img = after;
        climb = after_it.climb;
        all_laid = laid_later;
        p = number;
        number = instance;
        block = callee;
        parent = parent;
        given = given_now;
        new = new;
        home = linked.at;
        critical = critical_there.0;
        more = more;
        cell = tasked.cell;
        parameters = words;
      }

      abbrev CodeThere : Type 0
      CodeThere = HasCode tree code texts nested laws begins_so fresh

      has_code : CodeThere
      has_code =
          let segment = given.segment_there tree code program nested (actor_of s) able_is n gs task asks callee a.1 a.2 at in
          record {
            segment = segment.0;
            there = segment.1;
            spells = program.spells (segment_of sc.blocks callee) segment.0 segment.1;
            ready = code_there.begin;
            start = code_there.start;
            ats = code_there.ats;
            routines = (
              code_there.routines,
              controls_fit (texts.placed (segment_of sc.blocks callee)) (level_of b) (block_controls sc callee code_there.ats) code_there.cells.0 code_there.cells.1 code_there.cells.3,
            );
            items = (code_there.start, code_there.items);
            over = code_there.over;
            cells_at = code_there.cells;
            comes = starts_so sc (context_of code texts sc callee) (texts.placed (segment_of sc.blocks callee)) (level_of b) (most_around tree callee) b code_there.start code_there.items (omega (arith, room)) (omega (arith, room));
            small = omega (arith, room);
          }

      abbrev pcw : Pcw
      pcw = calling.started_code tree code texts (actor_of s) n gs task callee a.1 a.2 at

      abbrev onward : Image
      onward = process.image_onward tree code texts laws actor n gs task head referring

      many : length onward.regs ≡ length onward.states
      many =
          omega (
            arith,
            length_set_numbered img.regs p (process.new tree code texts laws actor n gs task head referring).registers,
            s.by.counted,
            s.by.started,
            s.by.states,
          )

      has_first : HasCore after number (core_of (begins_with number pcw linked.at tasked.cell words more critical_there.0) (first_stack pcw linked.at words))
      has_first =
          subst (λ (k : ℕ). HasCore after k (core_of (begins_with k pcw linked.at tasked.cell words more critical_there.0) (first_stack pcw linked.at words))) (omega (arith, s.by.started))
          (begun_has onward (begins_with (img.started + 1) pcw linked.at tasked.cell words more critical_there.0) (first_stack pcw linked.at words) (omega (arith, s.by.states)) many
          (begins_is (img.started + 1) pcw linked.at tasked.cell words more critical_there.0 refers.level_is))

      abbrev BegunThere : Type 0
      BegunThere = Begun tree code texts nested laws begins_so fresh

      begun : BegunThere
      begun =
          record {
            at = numbered_last (set_numbered w.processes p q') new number (omega (arith, length_set_numbered w.processes p q'));
            todo = refl;
            is = numbered_last w.instances made instance refl;
            laid = numbered_last lay.places (place number 0) instance (omega (arith, s.by.laid));
            rows = rows_there lay.rows instance [] instance refl;
            has = has_first;
            known = known;
            untyped = at.untyped;
            cells = (given.cells_given tree code program nested (actor_of s) able_is n gs task asks callee a.1 a.2 at).cells;
            lead = lead_later (parameter_cells sc b) (instances.parameter_cells b.parameters given_now) words (given.cells_given tree code program nested (actor_of s) able_is n gs task asks callee a.1 a.2 at).lead;
            home_is = home_there parent linked.laid;
            home_fits = frame_small tree code texts nested.nested w lay img s.by s.ok (IsInReach w (part ∷ outer)) (reached_stands tree code texts (actor_of s)) parent parent_stands linked.at linked.laid;
            level_is = refers.level_is;
            each = each_there;
            critical_is = (critical_there.0, refl, places_stay critical critical_there.0 critical_there.1);
            task_is = task_stays sc w w' lay lay' (events_before w w' instances_stay) places_stay (task_of sc w p q part outer task) (place_of tasked.cell) tasked.is;
            free = free_there;
          }

      lives_there : Living tree code texts w' lay' after number new
      lives_there = begun_lives tree code texts nested laws begins_so fresh has_code begun

    -- ---- the action

    abbrev BegunSo : Type 0
    BegunSo = IsBegun tree code texts laws actor n gs task head referring

    is_begun : BegunSo
    is_begun =
        record {
          cell_words = words ++ replicate (length (zero_cells b)) zero_word;
          cells = fresh_are sc b given_now words (given.cells_given tree code program nested (actor_of s) able_is n gs task asks callee a.1 a.2 at).cells;
          lives_so = lives_there;
        }

    pub process_started : Does tree code program.texts w img p
    process_started =
        starting_process tree code texts laws actor n gs task head referring (λ few. is_begun)
