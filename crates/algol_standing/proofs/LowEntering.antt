-- Procedures and blocks that are entered, processes that are started, names that are evaluated: nobody comes to more of an instance.
use Rattle.std.proofs.Common.{◌≡◌, ◌⊎◌, ℕ, ◌≤◌, List, [], ◌∷◌, ◌++◌, Option, Some, None, true, false, refl, sym, ◌∙◌, subst, arith}
use Rattle.b67_list.specs.Numbered.{numbered}
use Rattle.b67_list.proofs.Numbers.{none_some}
use Rattle.algol_tree.specs.declared.tree.Named.{Named}
use Rattle.algol_tree.specs.Plain.{PBody}
use Rattle.algol_tree.specs.Blocks.{block_numbered, number_at, spot_of}
use Rattle.algol_tree.specs.Sorts.{Sort, is_variable, is_formal}
use Rattle.algol_tree.specs.Scopes.{Scopes, use_of}
use Rattle.algol_meaning.specs.Value.{Reference, NameCell, Cell, named}
use Rattle.algol_meaning.specs.Rest.{Given, valued, passed, refers, names, done}
use Rattle.algol_meaning.specs.Settle.{block_of_sort, settle, settle_actual_place}
use Rattle.algol_meaning.specs.Statements.{items_of, settle_items}
use Rattle.algol_meaning.specs.World as begins
use Rattle.algol_meaning.specs.World.{Purpose, block, procedure, name_read, name_place, Instance, instance_at, Part, Process, able, World}
use Rattle.algol_meaning.specs.Critical.{is_evaluation, newest_first, first_on_path, referred_by, referred_by_task}
use Rattle.algol_meaning.specs.Instances.{fresh_cells}
use Rattle.algol_meaning.specs.Asks.{located_of, evaluated_of}
use Rattle.algol_meaning.specs.Choice.{is_subscripted, opens, home, here, given_cells, next_process, with_new_instance, new_part, entered_procedure, entered_block, task_of, with_started, starts}
use Rattle.algol_paths.specs.Blocks.{BlockIsSeen, IsSeenAround}
use Rattle.algol_paths.specs.Texts.{InName, InGivens}
use Rattle.algol_paths.proofs.Expressions.{settle_in}
use Rattle.algol_calls.specs.Fits.{NameIsTold, IsCallee, GivenThen, TaskFits}
use Rattle.algol_standing.specs.Worlds.{held_in_rest, held_in_givens, IsNoBlock, IsWholeInstance, IsSound}
use Rattle.algol_standing.specs.Lows.{LeadsLow, InstanceLow}
use Rattle.algol_standing.proofs.Lists.{false_true}
use Rattle.algol_standing.proofs.Holding.{AreAll, settle_holds, evaluated_holds, items_hold}
use Rattle.algol_standing.proofs.Evaluating.{evaluated_text, subscripted_text, subscripted_holds}
use Rattle.algol_standing.proofs.LowWorlds.{fresh_low, Low, plain_low, low_all, GoesLow, LowIf, TaskLow, PartsLow, new_instance_low, new_process_low}
use Rattle.algol_standing.proofs.LowNames.{Near, home_is, Around, leads_here}
use Rattle.algol_standing.proofs.LowActing.{goes_low, opens_low}

-- ---- what is told of the names that are given

abbrev pub AreTold : Scopes → List Given → Type 0
AreTold sc [] = Unit {0}
AreTold sc (refers n ∷ gs) = NameIsTold sc n × AreTold sc gs
AreTold sc (_ ∷ gs) = AreTold sc gs

pub told_of : (sc : Scopes) (F : List Sort → Type 0) (gs : List Given) (all : List Sort) → GivenThen sc F gs all → AreTold sc gs
told_of sc F [] all f = tt
told_of sc F (g ∷ gs) [] f = absurd f
told_of sc F (valued v ∷ gs) (s ∷ all) f = told_of sc F gs all f.1
told_of sc F (passed c ∷ gs) (s ∷ all) f = told_of sc F gs all f.1
told_of sc F (refers n ∷ gs) (s ∷ all) f = ((f.0).0.told, told_of sc F gs all f.1)
told_of sc F (names e ∷ gs) (s ∷ all) f = told_of sc F gs all f.1

task_told : (sc : Scopes) (t : Named) → TaskFits sc (Some t) → NameIsTold sc t
task_told sc t f = f.told

module _ (sc : Scopes) (w : World) (ok : IsSound sc IsWholeInstance w) (p : ℕ) (q : Process) (part : Part) (outer : List Part) (is : numbered w.processes p ≡ Some q)
    (todo : q.todo ≡ part ∷ outer) (b i : ℕ) (X : Type 0) (h : Near sc b i X w part) where
  abbrev Seen : Named → Type 0
  Seen = BlockIsSeen sc ((instance_at w part.instance).block)

  abbrev AroundHere : Named → Type 0
  AroundHere = Around sc w ok p q part outer is todo b i X h

  -- ---- what is given

  pub given_low : (gs : List Given) → InGivens Seen gs → (X → part.instance ≡ i → InGivens (IsSeenAround sc b) gs) → AreTold sc gs → AreAll (Low sc b i X) (held_in_givens gs) →
      AreAll (Low sc b i X) (given_cells sc w p q part outer gs)
  given_low [] s n k l = tt
  given_low (valued v ∷ gs) s n k l = (λ t. tt, given_low gs s n k l)
  given_low (passed c ∷ gs) s n k l = (l.0, given_low gs s n k l.1)
  given_low (refers m ∷ gs) s n k l = (leads_here sc w ok p q part outer is todo b i X h m s.0 (λ t e. (n t e).0) k.0, given_low gs s.1 (λ t e. (n t e).1) k.1 l)
  given_low (names a ∷ gs) s n k l = (λ t e. (n t e).0, given_low gs s.1 (λ t e. (n t e).1) k l)

  -- ---- a new instance of block j

  module _ (j parent process : ℕ) (apart : X → parent ≡ i → ⊥) (cells : List Cell) (cells_low : AreAll (Low sc b i X) cells) where
    abbrev new : Instance
    new = record { block = j; parent = parent; process = process; cells = fresh_cells (block_numbered sc.blocks j) cells; left = false }

    abbrev after : World
    after = with_new_instance sc w p q part outer j parent process cells

    new_low : X → InstanceLow sc b i new
    new_low t = record { childless = apart t; cells = fresh_low sc b i (block_numbered sc.blocks j) cells (low_all sc b i X cells cells_low t) }

    pub after_low : LowIf sc b i X after
    after_low = new_instance_low sc b i X w after new refl refl new_low h.low

    pub new_part_low : (purpose : Purpose) → is_evaluation purpose ≡ false → GoesLow sc b i X (new_part sc w p q part outer j purpose)
    new_part_low purpose owns =
        record {
          low = λ t.
              record {
                holds = low_all sc b i X (held_in_rest (settle_items sc (items_of (block_numbered sc.blocks j))))
                    (items_hold (Low sc b i X) (plain_low sc b i X) false sc (items_of (block_numbered sc.blocks j))).0 t;
                narrow = λ e f. false_true (sym owns ∙ e);
              };
          makes = λ o f m. h.fresh f;
        }

    pub enters_low : (purpose : Purpose) → is_evaluation purpose ≡ false → LowIf sc b i X (opens sc w p q part outer after (new_part sc w p q part outer j purpose)).world
    enters_low purpose owns = opens_low sc w ok p q part outer is todo b i X h after after_low (new_part sc w p q part outer j purpose) (new_part_low purpose owns)

  -- ---- by what the head asks for

  -- the instance in which a procedure is declared is another
  pub callee_apart : (n : Named) → Seen n → AroundHere n → IsCallee sc n → X → home sc w p q part outer n ≡ i → ⊥
  callee_apart n s narrow callee t at = by (narrow t its.0).1
    where
      its : (part.instance ≡ i) × ((use_of sc n).up ≡ 0)
      its = home_is sc w ok p q part outer is todo b i X h n s t at

      by : (1 ≤ (use_of sc n).up) ⊎ ((is_variable ((use_of sc n).sort) ≡ true) ⊎ (is_formal ((use_of sc n).sort) ≡ true)) → ⊥
      by (◌⊎◌.inl g) = let zero_up = its.1 in omega (arith, g, zero_up)
      by (◌⊎◌.inr (◌⊎◌.inl g)) = false_true (sym callee.no_variable ∙ g)
      by (◌⊎◌.inr (◌⊎◌.inr g)) = false_true (sym callee.no_formal ∙ g)

  module _ (n : Named) (gs : List Given) (callee : IsCallee sc n) (seen : Seen n × InGivens Seen gs) (narrow : X → part.instance ≡ i → IsSeenAround sc b n × InGivens (IsSeenAround sc b) gs)
      (told : AreTold sc gs) (held : AreAll (Low sc b i X) (held_in_givens gs)) where
    abbrev j : ℕ
    j = block_of_sort ((use_of sc n).sort)

    abbrev cells : List Cell
    cells = given_cells sc w p q part outer gs

    abbrev parent : ℕ
    parent = home sc w p q part outer n

    all_low_here : AreAll (Low sc b i X) cells
    all_low_here = given_low gs seen.1 (λ t e. (narrow t e).1) told held

    apart_here : X → parent ≡ i → ⊥
    apart_here = callee_apart n seen.0 (λ t e. (narrow t e).0) callee

    pub procedure_low : LowIf sc b i X (entered_procedure sc w p q part outer j parent cells).world
    procedure_low = enters_low j parent p apart_here cells all_low_here procedure refl

    module _ (task : Option Named) (task_fits : TaskFits sc task) (task_seen : InName Seen task) (task_narrow : X → part.instance ≡ i → InName (IsSeenAround sc b) task) where
      abbrev next : ℕ
      next = next_process sc w p q part outer

      abbrev with_instance : World
      with_instance = with_new_instance sc w p q part outer j parent next cells

      abbrev task_is : Option Reference
      task_is = task_of sc w p q part outer task

      abbrev begun : World
      begun = with_started sc w p q part outer with_instance j cells task_is parent

      abbrev new_process : Process
      new_process =
          record {
            todo = new_part sc w p q part outer j begins.started ∷ [];
            critical = Some (first_on_path w (newest_first 1 w.instances []) p (parent ∷ referred_by cells ++ referred_by_task task_is));
            task = task_is;
            state = able;
            woken = 0;
          }

      in_task : (o : Option Named) → TaskFits sc o → InName Seen o → (X → part.instance ≡ i → InName (IsSeenAround sc b) o) → (r : Reference) → task_of sc w p q part outer o ≡ Some r → X →
          LeadsLow sc b i r
      in_task None f s n r g = none_some g
      in_task (Some m) f s n r g =
          let same : here sc w p q part outer m ≡ r = cc in
          λ t. subst (λ k. LeadsLow sc b i k) same (leads_here sc w ok p q part outer is todo b i X h m s n (task_told sc m f) t)

      new_process_task : TaskLow sc b i X new_process
      new_process_task r g = in_task task task_fits task_seen task_narrow r g

      new_process_parts : PartsLow sc b i X new_process.todo
      new_process_parts y (◌⊎◌.inl f) = subst (λ z. GoesLow sc b i X z) f (new_part_low j parent next apart_here cells all_low_here begins.started refl)
      new_process_parts y (◌⊎◌.inr m) = absurd m

      begun_low : LowIf sc b i X begun
      begun_low =
          new_process_low sc b i X with_instance begun new_process refl refl new_process_parts new_process_task (after_low j parent next apart_here cells all_low_here)

      pub start_low : LowIf sc b i X (starts sc w p q part outer j parent cells task_is).world
      start_low = goes_low sc w ok p q part outer is todo b i X h done tt tt begun begun_low q.state

  pub block_low : (x : PBody) → (X → part.instance ≡ i → IsNoBlock x) → LowIf sc b i X (entered_block sc w p q part outer (number_at sc.blocks (spot_of x))).world
  block_low x none = enters_low (number_at sc.blocks (spot_of x)) part.instance p (λ t e. none t e) [] tt block refl

  -- ---- names

  pub read_low : (c : NameCell) → Low sc b i X (named c) →
      LowIf sc b i X (opens sc w p q part outer w (record { instance = c.instance; purpose = name_read; rest = evaluated_of (settle sc c.actual) })).world
  read_low c l =
      opens_low sc w ok p q part outer is todo b i X h w h.low (record { instance = c.instance; purpose = name_read; rest = evaluated_of (settle sc c.actual) })
      (record {
        low = λ t.
            record {
              holds = low_all sc b i X (held_in_rest (evaluated_of (settle sc c.actual)))
                  (evaluated_holds (Low sc b i X) (plain_low sc b i X) true (settle sc c.actual) (settle_holds (Low sc b i X) (plain_low sc b i X) sc c.actual)).0 t;
              narrow = λ e f. evaluated_text (IsSeenAround sc b) IsNoBlock (IsSeenAround sc b) (settle sc c.actual) (settle_in (IsSeenAround sc b) sc c.actual (l t f));
            };
        makes = λ o f m. false_true (sym o);
      })

  pub place_low : (c : NameCell) → is_subscripted c.actual ≡ true → Low sc b i X (named c) →
      LowIf sc b i X (opens sc w p q part outer w (record { instance = c.instance; purpose = name_place; rest = located_of (settle_actual_place sc c.actual) })).world
  place_low c s l =
      opens_low sc w ok p q part outer is todo b i X h w h.low (record { instance = c.instance; purpose = name_place; rest = located_of (settle_actual_place sc c.actual) })
      (record {
        low = λ t.
            record {
              holds = low_all sc b i X (held_in_rest (located_of (settle_actual_place sc c.actual)))
                  (subscripted_holds (Low sc b i X) (plain_low sc b i X) sc c.actual s).0.0 t;
              narrow = λ e f. subscripted_text (IsSeenAround sc b) IsNoBlock (IsSeenAround sc b) sc c.actual s (l t f);
            };
        makes = λ o f m. false_true (sym o);
      })
