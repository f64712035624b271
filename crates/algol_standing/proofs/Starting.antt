-- The Start of a process, by what the head asks for: its stack comes to be, and the starter goes on.
use Rattle.std.proofs.Common.{◌≡◌, ◌⊎◌, ℕ, List, ◌∷◌, Option, Some, sym, subst}
use Rattle.b67_list.specs.Numbered.{numbered}
use Rattle.algol_tree.specs.declared.tree.Named.{Named}
use Rattle.algol_tree.specs.Scopes.{Scopes, use_of}
use Rattle.algol_meaning.specs.Rest.{Given, done}
use Rattle.algol_meaning.specs.Settle.{block_of_sort}
use Rattle.algol_meaning.specs.World.{instance_at, Part, Process, able, World}
use Rattle.algol_meaning.specs.Asks as asks
use Rattle.algol_meaning.specs.Asks.{ask}
use Rattle.algol_meaning.specs.Choice.{home, given_cells, with_new_instance, with_started, next_process, task_of, starts}
use Rattle.algol_paths.specs.Blocks.{BlockIsSeen, IsSeenAround, IsInner}
use Rattle.algol_paths.specs.Texts.{InGivens}
use Rattle.algol_calls.specs.Fits.{IsCallee}
use Rattle.algol_standing.specs.Worlds.{IsNoBlock, IsWholeInstance, IsSound}
use Rattle.algol_calls.specs.Texts.{KeepToTexts}
use Rattle.algol_standing.proofs.Calls.{PassNoEvents}
use Rattle.algol_standing.proofs.Asking.{Sees, Suits}
use Rattle.algol_standing.proofs.Acting.{heads_act}
use Rattle.algol_standing.proofs.Quiet.{same_goes}
use Rattle.algol_standing.proofs.Given.{cells_no_events}
use Rattle.algol_standing.proofs.Calling.{seen_head, narrow_head, held_head, call_path, call_some, call_around, call_whole, call_held}
use Rattle.algol_standing.proofs.Criticals.{task_path}
use Rattle.algol_standing.proofs.Begun.{started_ok, starter_before}

module _ (sc : Scopes) (texts : KeepToTexts sc) (w : World) (ok : IsSound sc IsWholeInstance w) (p : ℕ) (q : Process) (part : Part) (outer : List Part) (is : numbered w.processes p ≡ Some q)
    (todo : q.todo ≡ part ∷ outer) (able_is : q.state ≡ able) (n : Named) (gs : List Given) (task : Option Named) (e : ask part.rest ≡ asks.starts n gs task) (callee : IsCallee sc n)
    (plain : PassNoEvents gs) where
  abbrev j : ℕ
  j = (instance_at w part.instance).block

  seen : Sees (BlockIsSeen sc j) (IsInner sc j) (asks.starts n gs task)
  seen = seen_head sc texts w ok p q part outer is todo able_is (asks.starts n gs task) e

  narrow : IsWholeInstance w part.instance ⊎ (IsSeenAround sc j n × InGivens (IsSeenAround sc j) gs)
  narrow = by (narrow_head sc texts w ok p q part outer is todo able_is (asks.starts n gs task) e)
    where
      by : IsWholeInstance w part.instance ⊎ Sees (IsSeenAround sc j) IsNoBlock (asks.starts n gs task) → IsWholeInstance w part.instance ⊎ (IsSeenAround sc j n × InGivens (IsSeenAround sc j) gs)
      by (◌⊎◌.inl f) = ◌⊎◌.inl f
      by (◌⊎◌.inr f) = ◌⊎◌.inr (f.0, f.1)

  abbrev block_is : ℕ
  block_is = block_of_sort ((use_of sc n).sort)

  abbrev parent : ℕ
  parent = home sc w p q part outer n

  abbrev started : World
  started =
      with_started sc w p q part outer (with_new_instance sc w p q part outer block_is parent (next_process sc w p q part outer) (given_cells sc w p q part outer gs)) block_is
      (given_cells sc w p q part outer gs) (task_of sc w p q part outer task) parent

  started_here : IsSound sc IsWholeInstance started
  started_here =
      started_ok sc texts w ok p q part outer is todo able_is block_is parent (given_cells sc w p q part outer gs) (task_of sc w p q part outer task) callee.known
      (call_around sc texts w ok p q part outer is todo able_is n gs callee plain seen.0 seen.1 narrow) (call_some sc texts w ok p q part outer is todo able_is n gs callee plain seen.0 seen.1 narrow)
      (call_path sc texts w ok p q part outer is todo able_is n gs callee plain seen.0 seen.1 narrow) (call_whole sc texts w ok p q part outer is todo able_is n gs callee plain seen.0 seen.1 narrow)
      (call_held sc texts w ok p q part outer is todo able_is n gs callee plain seen.0 seen.1 narrow (held_head sc texts w ok p q part outer is todo able_is (asks.starts n gs task) e))
      (cells_no_events sc w ok p q part outer is todo gs plain) (task_path sc w ok p q part outer is todo task seen.2)

  is_there : numbered started.processes p ≡ Some q
  is_there =
      starter_before sc texts w ok p q part outer is todo able_is block_is parent (given_cells sc w p q part outer gs) (task_of sc w p q part outer task) callee.known
      (call_around sc texts w ok p q part outer is todo able_is n gs callee plain seen.0 seen.1 narrow) (call_some sc texts w ok p q part outer is todo able_is n gs callee plain seen.0 seen.1 narrow)
      (call_path sc texts w ok p q part outer is todo able_is n gs callee plain seen.0 seen.1 narrow) (call_whole sc texts w ok p q part outer is todo able_is n gs callee plain seen.0 seen.1 narrow)
      (call_held sc texts w ok p q part outer is todo able_is n gs callee plain seen.0 seen.1 narrow (held_head sc texts w ok p q part outer is todo able_is (asks.starts n gs task) e))
      (cells_no_events sc w ok p q part outer is todo gs plain) (task_path sc w ok p q part outer is todo task seen.2)

  pub process_starts : IsSound sc IsWholeInstance (starts sc w p q part outer block_is parent (given_cells sc w p q part outer gs) (task_of sc w p q part outer task)).world
  process_starts = same_goes sc (heads_act sc) started started_here p q part outer is_there todo able_is done tt tt (subst (λ x. Suits x done) (sym e) tt)
