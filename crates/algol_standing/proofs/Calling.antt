-- The Enter of a procedure and of a block, by what the head asks for.
use Rattle.std.proofs.Common.{◌≡◌, ◌⊎◌, ℕ, zero, suc, ◌≤◌, List, [], ◌∷◌, Some, refl, sym, ap, ◌∙◌, subst, arith}
use Rattle.b67_list.specs.Numbered.{numbered}
use Rattle.b67_list.proofs.Numbers.{none_some}
use Rattle.algol_tree.specs.declared.tree.Named.{Named}
use Rattle.algol_tree.specs.Plain.{PBody}
use Rattle.algol_tree.specs.Blocks.{spot_of, number_at, around}
use Rattle.algol_tree.specs.Scopes.{Scopes, use_of}
use Rattle.algol_meaning.specs.Rest.{Given}
use Rattle.algol_meaning.specs.Settle.{block_of_sort}
use Rattle.algol_meaning.specs.World.{block, procedure, instance_at, Part, Process, able, World}
use Rattle.algol_meaning.specs.Asks as asks
use Rattle.algol_meaning.specs.Asks.{Ask, ask}
use Rattle.algol_meaning.specs.Choice.{home, given_cells, entered_procedure, entered_block}
use Rattle.algol_laws.proofs.Standing.{opens_plain}
use Rattle.algol_paths.specs.Blocks.{BlockIsSeen, IsSeenAround, IsInner}
use Rattle.algol_paths.specs.Texts.{InGivens}
use Rattle.algol_calls.specs.Fits.{IsCallee}
use Rattle.algol_standing.specs.Worlds.{held_in_givens, newest_own, skeleton, IsStanding, IsOnPath, IsNoBlock, IsWholeInstance, IsSound}
use Rattle.algol_calls.specs.Texts.{KeepToTexts}
use Rattle.algol_standing.proofs.Calls.{PassNoEvents}
use Rattle.algol_standing.proofs.Standing.{stands_path}
use Rattle.algol_standing.proofs.Holding.{AreAll}
use Rattle.algol_standing.proofs.Seen.{there, ancestors, part_ok, part_path, part_stands, home_path, held_ok, top_stands}
use Rattle.algol_standing.proofs.Asking.{Sees, AskHolds, rest_sees, rest_asks}
use Rattle.algol_standing.proofs.Inside.{Opens}
use Rattle.algol_standing.proofs.Given.{narrow_here, callee_whole, cells_held, cells_no_events, Held}
use Rattle.algol_standing.proofs.Entered.{entered_ok}

module _ (sc : Scopes) (w : World) (ok : IsSound sc IsWholeInstance w) where
  pub some_number : (i : ℕ) → IsStanding w i → 1 ≤ i
  some_number zero st = let x = there sc IsWholeInstance w ok zero st in none_some x.1
  some_number (suc i) st = omega arith

module _ (sc : Scopes) (texts : KeepToTexts sc) (w : World) (ok : IsSound sc IsWholeInstance w) (p : ℕ) (q : Process) (part : Part) (outer : List Part) (is : numbered w.processes p ≡ Some q)
    (todo : q.todo ≡ part ∷ outer) (able_is : q.state ≡ able) where
  abbrev j : ℕ
  j = (instance_at w part.instance).block

  pub seen_head : (x : Ask) → ask part.rest ≡ x → Sees (BlockIsSeen sc j) (IsInner sc j) x
  seen_head x e =
      subst (λ y. Sees (BlockIsSeen sc j) (IsInner sc j) y) e
      (rest_sees (BlockIsSeen sc j) (IsInner sc j) (IsSeenAround sc j) (λ n s. s.0) part.rest (part_ok sc IsWholeInstance w ok p q part outer is todo).text)

  pub narrow_head : (x : Ask) → ask part.rest ≡ x → IsWholeInstance w part.instance ⊎ Sees (IsSeenAround sc j) IsNoBlock x
  narrow_head x e = subst (λ y. IsWholeInstance w part.instance ⊎ Sees (IsSeenAround sc j) IsNoBlock y) e (narrow_here sc w ok p q part outer is todo)

  -- ---- a call

  module _ (n : Named) (gs : List Given) (callee : IsCallee sc n) (plain : PassNoEvents gs) (seen : BlockIsSeen sc j n) (in_text : InGivens (BlockIsSeen sc j) gs)
      (narrow : IsWholeInstance w part.instance ⊎ (IsSeenAround sc j n × InGivens (IsSeenAround sc j) gs)) where
    pub call_path : IsOnPath w (newest_own (part ∷ outer)) (home sc w p q part outer n)
    call_path = home_path sc IsWholeInstance w ok p q part outer is todo n seen

    pub call_some : 1 ≤ home sc w p q part outer n
    call_some =
        some_number sc w ok (home sc w p q part outer n)
        (stands_path (skeleton w) ok.skeleton_ok (newest_own (part ∷ outer)) (home sc w p q part outer n) (top_stands sc IsWholeInstance w ok p q part outer is todo) call_path)

    block_is : (instance_at w (home sc w p q part outer n)).block ≡ (use_of sc n).block
    block_is = (ancestors sc IsWholeInstance w ok ((use_of sc n).up) part.instance ((use_of sc n).block) (part_stands sc IsWholeInstance w ok p q part outer is todo) seen).1

    pub call_around : around sc.blocks (block_of_sort ((use_of sc n).sort))
        ≡ (instance_at w (home sc w p q part outer n)).block ∷ around sc.blocks ((instance_at w (home sc w p q part outer n)).block)
    call_around = callee.around_is ∙ sym (ap (λ b. b ∷ around sc.blocks b) block_is)

    pub call_whole : IsWholeInstance w (home sc w p q part outer n)
    call_whole = callee_whole sc w ok p q part outer is todo n seen callee (by narrow)
      where
        by : IsWholeInstance w part.instance ⊎ (IsSeenAround sc j n × InGivens (IsSeenAround sc j) gs) → IsWholeInstance w part.instance ⊎ IsSeenAround sc j n
        by (◌⊎◌.inl f) = ◌⊎◌.inl f
        by (◌⊎◌.inr f) = ◌⊎◌.inr f.0

    pub call_held : AreAll (Held sc w ok p q part outer is todo) (held_in_givens gs) → AreAll (Held sc w ok p q part outer is todo) (given_cells sc w p q part outer gs)
    call_held held = cells_held sc w ok p q part outer is todo gs in_text (by narrow) held
      where
        by : IsWholeInstance w part.instance ⊎ (IsSeenAround sc j n × InGivens (IsSeenAround sc j) gs) → IsWholeInstance w part.instance ⊎ InGivens (IsSeenAround sc j) gs
        by (◌⊎◌.inl f) = ◌⊎◌.inl f
        by (◌⊎◌.inr f) = ◌⊎◌.inr f.1

  pub held_head : (x : Ask) → ask part.rest ≡ x → AskHolds (Held sc w ok p q part outer is todo) x
  held_head x e =
      subst (λ y. AskHolds (Held sc w ok p q part outer is todo) y) e
      (rest_asks (Held sc w ok p q part outer is todo) part.rest (held_ok sc IsWholeInstance w ok p q part outer is todo))

  pub procedure_enters : (n : Named) (gs : List Given) → ask part.rest ≡ asks.enters n gs → IsCallee sc n → PassNoEvents gs →
      IsSound sc IsWholeInstance (entered_procedure sc w p q part outer (block_of_sort ((use_of sc n).sort)) (home sc w p q part outer n) (given_cells sc w p q part outer gs)).world
  procedure_enters n gs e callee plain =
      let s = seen_head (asks.enters n gs) e in
      let narrow = narrow_head (asks.enters n gs) e in
      entered_ok sc texts w ok p q part outer is todo able_is (block_of_sort ((use_of sc n).sort)) (home sc w p q part outer n) (given_cells sc w p q part outer gs) procedure refl callee.known
      (call_around n gs callee plain s.0 s.1 narrow) (call_some n gs callee plain s.0 s.1 narrow) (call_path n gs callee plain s.0 s.1 narrow)
      (call_whole n gs callee plain s.0 s.1 narrow) (call_held n gs callee plain s.0 s.1 narrow (held_head (asks.enters n gs) e))
      (cells_no_events sc w ok p q part outer is todo gs plain) (subst (λ x. Opens x) (sym e) tt) (ap opens_plain e)

  pub block_enters : (b : PBody) → ask part.rest ≡ asks.enters_block b → IsSound sc IsWholeInstance (entered_block sc w p q part outer (number_at sc.blocks (spot_of b))).world
  block_enters b e =
      let s = seen_head (asks.enters_block b) e in
      entered_ok sc texts w ok p q part outer is todo able_is (number_at sc.blocks (spot_of b)) part.instance [] block refl s.known s.around_is
      (some_number sc w ok part.instance (part_stands sc IsWholeInstance w ok p q part outer is todo)) (part_path sc IsWholeInstance w ok p q part outer is todo)
      (whole_here (narrow_head (asks.enters_block b) e)) tt tt (subst (λ x. Opens x) (sym e) tt) (ap opens_plain e)
    where
      whole_here : IsWholeInstance w part.instance ⊎ Sees (IsSeenAround sc j) IsNoBlock (asks.enters_block b) → IsWholeInstance w part.instance
      whole_here (◌⊎◌.inl f) = f
      whole_here (◌⊎◌.inr f) = absurd f
