-- Procedures and blocks that are entered, processes that are started, names that are evaluated: calls stay fitting.
use Rattle.std.proofs.Common.{◌≡◌, ◌⊎◌, ℕ, zero, suc, ◌<◌, List, [], ◌∷◌, ◌++◌, length, Option, Some, None, true, false, refl, sym, ap, ◌∙◌, subst}
use Rattle.std.specs.Prelude.{slice_get}
use Rattle.b67_list.specs.Numbered.{numbered}
use Rattle.b67_list.proofs.Numbers.{none_some}
use Rattle.algol_tree.specs.declared.tree.Named.{Named}
use Rattle.algol_tree.specs.Plain as tree
use Rattle.algol_tree.specs.Plain.{PExpr, PBody}
use Rattle.algol_tree.specs.Blocks.{Block, block_numbered, number_at, spot_of}
use Rattle.algol_tree.specs.Sorts.{Sort, Parameter}
use Rattle.algol_tree.specs.Scopes.{Scopes, use_of}
use Rattle.algol_meaning.specs.Value.{Reference, NameCell, Cell}
use Rattle.algol_meaning.specs.Rest.{Given, valued, passed, refers, names, HalfPlace, at, aims, done, entered}
use Rattle.algol_meaning.specs.Settle.{sorts_of, block_of_sort, settle, settle_place, settle_actual_place}
use Rattle.algol_meaning.specs.Statements.{items_of, settle_items}
use Rattle.algol_meaning.specs.World as begins
use Rattle.algol_meaning.specs.World.{Purpose, block, procedure, name_read, name_place, Instance, Part, Process, able, with_process, World}
use Rattle.algol_meaning.specs.Critical.{newest_first, first_on_path, referred_by, referred_by_task}
use Rattle.algol_meaning.specs.Instances.{parameter_cells, result_cells, variable_cells, fresh_cells}
use Rattle.algol_meaning.specs.Asks as asks
use Rattle.algol_meaning.specs.Asks.{Ask, ask, located_of, evaluated_of}
use Rattle.algol_meaning.specs.Choice.{is_subscripted, opens, home, here, given_cell, given_cells, next_process, with_new_instance, new_part, entered_procedure, entered_block, task_of, with_started, starts}
use Rattle.algol_paths.specs.Texts.{InName, InGivens}
use Rattle.algol_calls.specs.Fits.{CallsFitInTexts, CellFits, IsCallee, sorts_wanted, CalledExprFits, GivenFits, GivensFit, TaskFits, AnswerFits}
use Rattle.algol_calls.proofs.Expressions.{HalfPlaceFits, settle_fits, settle_place_fits}
use Rattle.algol_calls.proofs.Statements.{settled_fits}
use Rattle.algol_calls.proofs.Rests.{evaluated_fits, located_fits}
use Rattle.algol_standing.specs.Worlds.{held_in_rest, held_in_givens, IsAmongParts, IsWholeInstance, IsSound}
use Rattle.algol_standing.specs.Fitting.{ParametersFit, parameters_at, IsPlainAt, LeadsRight, InstanceFits, PartFits, ProcessFits, WorldFits}
use Rattle.algol_standing.proofs.Lists.{false_true, get_last}
use Rattle.algol_standing.proofs.Holding.{AreAll, settle_holds, settle_place_holds, PlaceHolds, evaluated_holds, items_hold}
use Rattle.algol_standing.proofs.FitCells.{finds_fresh, parameters_more}
use Rattle.algol_standing.proofs.FitWorlds.{Extends, extends_self, extends_then, all_right, plain_too, instance_too, process_too, new_extends, new_fits}
use Rattle.algol_standing.proofs.FitNames.{Seen, plain_here}
use Rattle.algol_standing.proofs.FitActing.{simple_right, goes_fits, opens_fits}

-- a world with one more process
pub more_process : (sc : Scopes) (w v : World) (y : Process) → WorldFits sc w → ProcessFits sc w y → v.instances ≡ w.instances → v.processes ≡ w.processes ++ y ∷ [] → WorldFits sc v
more_process sc w v y fits h e f =
    record { instances = λ k x g. instance_too sc w v more x (fits.instances k x (ap (λ xs. numbered xs k) (sym e) ∙ g)); processes = λ k z g. each k z (ap (λ qs. numbered qs k) (sym f) ∙ g) }
  where
    more : Extends w v
    more = extends_self w v e

    each : (k : ℕ) (z : Process) → numbered (w.processes ++ y ∷ []) k ≡ Some z → ProcessFits sc v z
    each zero z g = none_some g
    each (suc k) z g = process_too sc w v more z (by (get_last w.processes y k z g))
      where
        by : (slice_get w.processes k ≡ Some z) ⊎ ((k ≡ length w.processes) × (z ≡ y)) → ProcessFits sc w z
        by (◌⊎◌.inl m) = fits.processes (suc k) z m
        by (◌⊎◌.inr m) = subst (λ t. ProcessFits sc w t) (sym m.1) h

module _ (sc : Scopes) (texts : CallsFitInTexts sc) (w : World) (ok : IsSound sc IsWholeInstance w) (fits : WorldFits sc w) (p : ℕ) (q : Process) (part : Part) (outer : List Part)
    (is : numbered w.processes p ≡ Some q) (todo : q.todo ≡ part ∷ outer) where
  abbrev Right : Cell → Type 0
  Right = LeadsRight sc w

  abbrev SeenHere : Named → Type 0
  SeenHere = Seen sc w ok fits p q part outer is todo

  -- ---- what is given

  given_link : (s : Sort) (g : Given) → GivenFits sc s g → CellFits s (given_cell sc w p q part outer g)
  given_link s (valued v) i = λ f. i.1 f
  given_link s (passed c) i = λ f. i.1 f
  given_link s (refers n) i = λ f. tt
  given_link s (names e) i = λ f. i.1 f

  given_parameters : (ps : List Parameter) (gs : List Given) → GivensFit sc gs (sorts_of ps) → ParametersFit ps (parameter_cells ps (given_cells sc w p q part outer gs))
  given_parameters [] gs i = tt
  given_parameters (x ∷ ps) [] i = cc
  given_parameters (x ∷ ps) (g ∷ gs) i = (refl, given_link x.sort g i.0, given_parameters ps gs i.1)

  cells_right : (gs : List Given) (all : List Sort) → GivensFit sc gs all → InGivens SeenHere gs → AreAll Right (held_in_givens gs) → AreAll Right (given_cells sc w p q part outer gs)
  cells_right [] all i s h = tt
  cells_right (g ∷ gs) [] i s h = absurd i
  cells_right (valued v ∷ gs) (x ∷ all) i s h = (tt, cells_right gs all i.1 s h)
  cells_right (passed c ∷ gs) (x ∷ all) i s h = (h.0, cells_right gs all i.1 s h.1)
  cells_right (refers n ∷ gs) (x ∷ all) i s h = (plain_here sc w ok fits p q part outer is todo n s.0 (i.0).0, cells_right gs all i.1 s.1 h)
  cells_right (names e ∷ gs) (x ∷ all) i s h = ((i.0).0, cells_right gs all i.1 s.1 h)

  -- ---- a new instance of block j

  module _ (j parent process : ℕ) (known : j < length sc.blocks) (cells : List Cell) (right : AreAll Right cells)
      (first : ParametersFit (parameters_at sc j) (parameter_cells (parameters_at sc j) cells)) where
    abbrev b : Block
    b = block_numbered sc.blocks j

    abbrev new : Instance
    new = record { block = j; parent = parent; process = process; cells = fresh_cells b cells; left = false }

    abbrev after : World
    after = with_new_instance sc w p q part outer j parent process cells

    instance_fits : InstanceFits sc w new
    instance_fits =
        record {
          parameters = parameters_more b.parameters (parameter_cells b.parameters cells ++ result_cells b.result b.name) (variable_cells b.decls)
              (parameters_more b.parameters (parameter_cells b.parameters cells) (result_cells b.result b.name) first);
          cells = finds_fresh Right (simple_right sc w) b cells right;
        }

    pub after_fits : WorldFits sc after
    after_fits = new_fits sc w fits new after refl refl instance_fits

    pub after_more : Extends w after
    after_more = new_extends sc w fits new after refl refl

    pub new_part_fits : (v : World) (purpose : Purpose) → PartFits sc v (new_part sc w p q part outer j purpose)
    new_part_fits v purpose =
        record {
          rest = settled_fits sc (items_of b) (texts j known);
          holds = all_right sc v (held_in_rest (settle_items sc (items_of b))) (items_hold (LeadsRight sc v) (simple_right sc v) false sc (items_of b)).0;
        }

    pub enters_fits : (x : Ask) → ask part.rest ≡ x → AnswerFits sc x entered → (purpose : Purpose) → WorldFits sc (opens sc w p q part outer after (new_part sc w p q part outer j purpose)).world
    enters_fits x e fit purpose =
        opens_fits sc w ok fits p q part outer is todo x e fit after after_more after_fits (new_part sc w p q part outer j purpose) (new_part_fits after purpose)

  -- ---- by what the head asks for

  module _ (n : Named) (gs : List Given) (callee : IsCallee sc n) (given : GivensFit sc gs (sorts_wanted sc n)) (seen : InGivens SeenHere gs) (held : AreAll Right (held_in_givens gs)) where
    abbrev j : ℕ
    j = block_of_sort ((use_of sc n).sort)

    abbrev cells : List Cell
    cells = given_cells sc w p q part outer gs

    all_are_right : AreAll Right cells
    all_are_right = cells_right gs (sorts_wanted sc n) given seen held

    first_fit : ParametersFit (parameters_at sc j) (parameter_cells (parameters_at sc j) cells)
    first_fit = given_parameters (parameters_at sc j) gs given

    pub procedure_fits : ask part.rest ≡ asks.enters n gs → WorldFits sc (entered_procedure sc w p q part outer j (home sc w p q part outer n) cells).world
    procedure_fits e = enters_fits j (home sc w p q part outer n) p callee.known cells all_are_right first_fit (asks.enters n gs) e tt procedure

    module _ (task : Option Named) (task_fits : TaskFits sc task) (task_seen : InName SeenHere task) (e : ask part.rest ≡ asks.starts n gs task) where
      abbrev next : ℕ
      next = next_process sc w p q part outer

      abbrev with_instance : World
      with_instance = with_new_instance sc w p q part outer j (home sc w p q part outer n) next cells

      abbrev task_is : Option Reference
      task_is = task_of sc w p q part outer task

      abbrev begun : World
      begun = with_started sc w p q part outer with_instance j cells task_is (home sc w p q part outer n)

      abbrev new_process : Process
      new_process =
          record {
            todo = new_part sc w p q part outer j begins.started ∷ [];
            critical = Some (first_on_path w (newest_first 1 w.instances []) p (home sc w p q part outer n ∷ referred_by cells ++ referred_by_task task_is));
            task = task_is;
            state = able;
            woken = 0;
          }

      more : Extends w with_instance
      more = after_more j (home sc w p q part outer n) next callee.known cells all_are_right first_fit

      task_plain : (o : Option Named) → TaskFits sc o → InName SeenHere o → (r : Reference) → task_of sc w p q part outer o ≡ Some r → IsPlainAt sc with_instance r
      task_plain None f s r g = none_some g
      task_plain (Some t) f s r g =
          let same : here sc w p q part outer t ≡ r = cc in
          subst (λ k. IsPlainAt sc with_instance k) same
          (plain_too sc w with_instance more (here sc w p q part outer t) (plain_here sc w ok fits p q part outer is todo t s f))

      begun_fits : WorldFits sc begun
      begun_fits =
          more_process sc with_instance begun new_process (after_fits j (home sc w p q part outer n) next callee.known cells all_are_right first_fit)
          (record { parts = each; task = λ r g. task_plain task task_fits task_seen r g; waits = λ r g. false_true g }) refl refl
        where
          each : (x : Part) → IsAmongParts (new_part sc w p q part outer j begins.started ∷ []) x → PartFits sc with_instance x
          each x (◌⊎◌.inl f) =
              subst (λ z. PartFits sc with_instance z) f
              (new_part_fits j (home sc w p q part outer n) next callee.known cells all_are_right first_fit with_instance begins.started)
          each x (◌⊎◌.inr m) = absurd m

      pub start_fits : WorldFits sc (starts sc w p q part outer j (home sc w p q part outer n) cells task_is).world
      start_fits =
          goes_fits sc w ok fits p q part outer is todo (asks.starts n gs task) e done tt tt tt begun (extends_then w with_instance begun more (extends_self with_instance begun refl)) begun_fits
          q.state (λ r f. f)

  pub block_fits : (x : PBody) → ask part.rest ≡ asks.enters_block x → number_at sc.blocks (spot_of x) < length sc.blocks →
      (block_numbered sc.blocks (number_at sc.blocks (spot_of x))).parameters ≡ [] → WorldFits sc (entered_block sc w p q part outer (number_at sc.blocks (spot_of x))).world
  block_fits x e known none =
      enters_fits (number_at sc.blocks (spot_of x)) part.instance p known [] tt (subst (λ ps. ParametersFit ps (parameter_cells ps [])) (sym none) tt) (asks.enters_block x) e tt block

  -- ---- names

  pub read_fits : (c : NameCell) (n : Named) → ask part.rest ≡ asks.reads n → CalledExprFits sc c.actual →
      WorldFits sc (opens sc w p q part outer w (record { instance = c.instance; purpose = name_read; rest = evaluated_of (settle sc c.actual) })).world
  read_fits c n e f =
      opens_fits sc w ok fits p q part outer is todo (asks.reads n) e tt w (extends_self w w refl) fits (record { instance = c.instance; purpose = name_read; rest = evaluated_of (settle sc c.actual) })
      (record {
        rest = evaluated_fits sc (settle sc c.actual) (settle_fits sc c.actual f);
        holds = all_right sc w (held_in_rest (evaluated_of (settle sc c.actual)))
            (evaluated_holds Right (simple_right sc w) true (settle sc c.actual) (settle_holds Right (simple_right sc w) sc c.actual)).0;
      })

  actual_place_fits : (e : PExpr) → is_subscripted e ≡ true → CalledExprFits sc e → HalfPlaceFits sc (settle_actual_place sc e)
  actual_place_fits (tree.variable (tree.subscripted n (tree.more e es))) f i = settle_place_fits sc n (tree.more e es) i
  actual_place_fits _ f i = false_true f

  located_held : (x : HalfPlace) → PlaceHolds Right (simple_right sc w) x → AreAll Right (held_in_rest (located_of x))
  located_held (at y) i = i
  located_held (aims y) i = i

  actual_place_held : (e : PExpr) → is_subscripted e ≡ true → AreAll Right (held_in_rest (located_of (settle_actual_place sc e)))
  actual_place_held (tree.variable v) f = located_held (settle_place sc v) (settle_place_holds Right (simple_right sc w) sc v)
  actual_place_held _ f = false_true f

  pub place_fits : (c : NameCell) (n : Named) → ask part.rest ≡ asks.resolves n → is_subscripted c.actual ≡ true → CalledExprFits sc c.actual →
      WorldFits sc (opens sc w p q part outer w (record { instance = c.instance; purpose = name_place; rest = located_of (settle_actual_place sc c.actual) })).world
  place_fits c n e s f =
      opens_fits sc w ok fits p q part outer is todo (asks.resolves n) e tt w (extends_self w w refl) fits
      (record { instance = c.instance; purpose = name_place; rest = located_of (settle_actual_place sc c.actual) })
      (record {
        rest = located_fits sc (settle_actual_place sc c.actual) (actual_place_fits c.actual s f);
        holds = all_right sc w (held_in_rest (located_of (settle_actual_place sc c.actual))) (actual_place_held c.actual s);
      })
