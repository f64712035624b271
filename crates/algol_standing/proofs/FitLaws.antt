-- The laws of worlds in which calls fit.
use Rattle.std.proofs.Common.{◌≡◌, ◌⊎◌, ℕ, zero, suc, List, [], ◌∷◌, ◌++◌, Some, None, Bool, true, false, refl, sym, ap, subst}
use Rattle.b67_list.specs.Numbered.{numbered}
use Rattle.b67_list.proofs.Numbers.{none_some}
use Rattle.algol_tree.specs.Blocks.{Block, block_numbered}
use Rattle.algol_tree.specs.Sorts.{Sort}
use Rattle.algol_tree.specs.Scopes.{Scopes}
use Rattle.algol_meaning.specs.Value.{Cell, simple, event, array, named, reference}
use Rattle.algol_meaning.specs.Rest.{Given, valued, passed, refers, names, Rest}
use Rattle.algol_meaning.specs.Statements.{items_of, settle_items}
use Rattle.algol_meaning.specs.World.{block, Instance, Part, Process, able, lives, process_at, World}
use Rattle.algol_meaning.specs.Instances.{parameter_cells, result_cells, variable_cells, fresh_cells}
use Rattle.algol_meaning.specs.Asks as asks
use Rattle.algol_meaning.specs.Asks.{Ask, ask}
use Rattle.algol_meaning.specs.Choice.{choice, choice_in}
use Rattle.algol_meaning.specs.Run.{start, may_go}
use Rattle.algol_calls.specs.Fits.{CallsFitInTexts, IsLink, GivenThen, sorts_wanted, ItemsFit, AskFits}
use Rattle.algol_calls.proofs.Statements.{settled_fits}
use Rattle.algol_standing.specs.Worlds.{held_in_rest, IsAmongParts, HasHead, IsWholeInstance, IsSound}
use Rattle.algol_standing.specs.Fitting.{ParametersFit, LeadsRight, InstanceFits, PartFits, ProcessFits, WorldFits}
use Rattle.algol_standing.proofs.Calls.{IsNoEvent, PassNoEvents, CallFits, HeadFits}
use Rattle.algol_standing.proofs.Lists.{false_true}
use Rattle.algol_standing.proofs.Holding.{items_hold}
use Rattle.algol_standing.proofs.Choosing.{able_by, found, may_go_able}
use Rattle.algol_standing.proofs.FitCells.{finds_fresh, parameters_more}
use Rattle.algol_standing.proofs.FitWorlds.{all_right}
use Rattle.algol_standing.proofs.FitActing.{simple_right, asked}
use Rattle.algol_standing.proofs.FitChoosing.{choice_kept}

-- ---- what is passed on is no event

link_no_event : (b : Bool) (c : Cell) → IsLink b c → IsNoEvent c
link_no_event b (reference r) i e f = cc
link_no_event b (named n) i e f = cc
link_no_event b (simple v) i e f = absurd i
link_no_event b (event d) i e f = absurd i
link_no_event b (array a) i e f = absurd i

passes_none : (sc : Scopes) (X : List Sort → Type 0) (gs : List Given) (all : List Sort) → GivenThen sc X gs all → PassNoEvents gs
passes_none sc X [] all i = tt
passes_none sc X (g ∷ gs) [] i = absurd i
passes_none sc X (valued v ∷ gs) (s ∷ all) i = passes_none sc X gs all i.1
passes_none sc X (passed c ∷ gs) (s ∷ all) i = (link_no_event true c (i.0).0, passes_none sc X gs all i.1)
passes_none sc X (refers n ∷ gs) (s ∷ all) i = passes_none sc X gs all i.1
passes_none sc X (names e ∷ gs) (s ∷ all) i = passes_none sc X gs all i.1

call_fits : (sc : Scopes) (x : Ask) → AskFits sc x → CallFits sc x
call_fits sc (asks.enters n gs) f = (f.0, passes_none sc (λ after. after ≡ []) gs (sorts_wanted sc n) f.1)
call_fits sc (asks.starts n gs task) f = (f.0, passes_none sc (λ after. after ≡ []) gs (sorts_wanted sc n) f.1)
call_fits sc (asks.event_deed x ns) f = f.1
call_fits sc _ f = tt

-- ---- a process that may go

module _ (sc : Scopes) (w : World) (p : ℕ) (ok : IsSound sc IsWholeInstance w) (fits : WorldFits sc w) (goes : may_go w p ≡ true) where
  is : numbered w.processes p ≡ Some (process_at w p)
  is = found (numbered w.processes p) (may_go_able w p goes)

  able_is : (process_at w p).state ≡ able
  able_is = able_by ((process_at w p).state) (may_go_able w p goes)

  head : HasHead ((process_at w p).todo)
  head = (ok.processes p (process_at w p) is).heads (ap lives able_is)

  pub head_fits : HeadFits sc ((process_at w p).todo)
  head_fits =
      subst (λ ps. HeadFits sc ps) (sym head.is)
      (call_fits sc (ask head.part.rest) (asked sc w ok fits p (process_at w p) head.part head.outer is head.is (ask head.part.rest) refl))

  kept : CallsFitInTexts sc → WorldFits sc ((choice_in sc w p (process_at w p) ((process_at w p).todo)).world)
  kept texts =
      subst (λ ps. WorldFits sc ((choice_in sc w p (process_at w p) ps).world)) (sym head.is)
      (choice_kept sc texts w ok fits p (process_at w p) head.part head.outer is head.is able_is (ask head.part.rest) refl)

  pub action_fits : CallsFitInTexts sc → WorldFits sc ((choice sc w p).world)
  unfolding choice
  action_fits texts = kept texts

-- ---- the first world

module _ (sc : Scopes) (text : ItemsFit sc (items_of (block_numbered sc.blocks 0))) (none : (block_numbered sc.blocks 0).parameters ≡ []) where
  abbrev rest : Rest
  rest = settle_items sc (items_of (block_numbered sc.blocks 0))

  abbrev part : Part
  part = record { instance = 1; purpose = block; rest = rest }

  abbrev process : Process
  process = record { todo = part ∷ []; critical = None; task = None; state = able; woken = 0 }

  abbrev b : Block
  b = block_numbered sc.blocks 0

  abbrev instance : Instance
  instance = record { block = 0; parent = 0; process = 1; cells = fresh_cells b []; left = false }

  abbrev first : World
  first = record { instances = instance ∷ []; processes = process ∷ []; output = []; fault = None }

  part_first : PartFits sc first part
  part_first =
      record {
        rest = settled_fits sc (items_of b) text;
        holds = all_right sc first (held_in_rest rest) (items_hold (LeadsRight sc first) (simple_right sc first) false sc (items_of b)).0;
      }

  process_first : ProcessFits sc first process
  process_first = record { parts = parts; task = λ r e. none_some e; waits = λ r e. false_true e }
    where
      parts : (x : Part) → IsAmongParts (part ∷ []) x → PartFits sc first x
      parts x (◌⊎◌.inl e) = subst (λ y. PartFits sc first y) e part_first
      parts x (◌⊎◌.inr n) = absurd n

  instance_first : InstanceFits sc first instance
  instance_first =
      record {
        parameters = parameters_more b.parameters (parameter_cells b.parameters [] ++ result_cells b.result b.name) (variable_cells b.decls)
            (parameters_more b.parameters (parameter_cells b.parameters []) (result_cells b.result b.name)
            (subst (λ ps. ParametersFit ps (parameter_cells ps [])) (sym none) tt));
        cells = finds_fresh (LeadsRight sc first) (simple_right sc first) b [] tt;
      }

  first_fits : WorldFits sc first
  first_fits = record { instances = instances; processes = processes }
    where
      instances : (i : ℕ) (x : Instance) → numbered (instance ∷ []) i ≡ Some x → InstanceFits sc first x
      instances zero x e = none_some e
      instances (suc zero) x e = let same : instance ≡ x = cc in subst (λ y. InstanceFits sc first y) same instance_first
      instances (suc (suc k)) x e = none_some e

      processes : (k : ℕ) (q : Process) → numbered (process ∷ []) k ≡ Some q → ProcessFits sc first q
      processes zero q e = none_some e
      processes (suc zero) q e = let same : process ≡ q = cc in subst (λ y. ProcessFits sc first y) same process_first
      processes (suc (suc k)) q e = none_some e

pub start_fits : (sc : Scopes) → ItemsFit sc (items_of (block_numbered sc.blocks 0)) → (block_numbered sc.blocks 0).parameters ≡ [] → WorldFits sc (start sc)
unfolding start
start_fits sc text none = first_fits sc text none
