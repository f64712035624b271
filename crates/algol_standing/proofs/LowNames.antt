-- What a part names of an instance to which nobody comes: only a simple cell of it.
use Rattle.std.proofs.Common.{◌≡◌, ◌⊎◌, ℕ, zero, suc, ◌+◌, ◌≤◌, List, [], ◌∷◌, length, Some, Bool, true, false, refl, sym, ap, ◌∙◌, subst, arith}
use Rattle.std.specs.Prelude.{slice_get, if◌then◌else◌}
use Rattle.b67_list.specs.Numbered.{numbered}
use Rattle.b67_list.proofs.Numbers.{none_some}
use Rattle.algol_tree.specs.declared.tree.Named.{Named}
use Rattle.algol_tree.specs.Blocks.{block_numbered, around}
use Rattle.algol_tree.specs.Sorts.{is_formal, is_variable, Parameter, same_name}
use Rattle.algol_tree.specs.Scopes.{Scopes, use_of}
use Rattle.algol_meaning.specs.Value.{Reference, Cell, simple, event, array, named, reference}
use Rattle.algol_meaning.specs.World.{Instance, instance_at, ancestor, cell_in, cell_at, by_cell, followed, Part, Process, World}
use Rattle.algol_meaning.specs.Asks.{ask}
use Rattle.algol_meaning.specs.Choice.{home, here}
use Rattle.algol_paths.specs.Blocks.{BlockIsSeen, IsSeenAround}
use Rattle.algol_calls.specs.Fits.{parameter_sort, has_parameter, has_simple, NameIsTold}
use Rattle.algol_calls.proofs.Simple.{parameter_simple}
use Rattle.algol_standing.specs.Worlds.{newest_own, skeleton, IsStanding, PartIsPlaced, outermost, inside, IsNoBlock, IsWholeInstance, IsSound}
use Rattle.algol_standing.specs.Lows.{LeadsLow, CellLow}
use Rattle.algol_standing.proofs.Lists.{false_true}
use Rattle.algol_standing.proofs.Standing.{stands_path}
use Rattle.algol_standing.proofs.Seen.{there, instance_is, parent_path, part_stands, home_path, top_stands}
use Rattle.algol_standing.proofs.Asking.{Sees}
use Rattle.algol_standing.proofs.LowWorlds.{cell_in_low, LowIf}
use Rattle.algol_standing.proofs.Begun.{some_inner}

-- what stands for something else is a parameter
formal_parameter : (ps : List Parameter) (name : List ℕ) → is_formal (parameter_sort ps name) ≡ true → has_parameter ps name ≡ true
formal_parameter [] name e = false_true e
formal_parameter (x ∷ ps) name e = by (same_name x.name name) (λ f. formal_parameter ps name f) e
  where
    by : (t : Bool) → (is_formal (parameter_sort ps name) ≡ true → has_parameter ps name ≡ true) → is_formal (if t then x.sort else parameter_sort ps name) ≡ true →
        (if t then true else has_parameter ps name) ≡ true
    by true f g = refl
    by false f g = f g

-- Nobody comes to more of the instance i before the head of this part acts, where X holds. A head in i sees only what is around its block.
pub record Near (sc : Scopes) (b i : ℕ) (X : Type 0) (w : World) (part : Part) : Type 0 where
  pub low : LowIf sc b i X w
  pub near : X → part.instance ≡ i → Sees (IsSeenAround sc b) IsNoBlock (ask part.rest)
  -- the next instance may be the one
  pub fresh : length w.instances + 1 ≡ i → X

module _ (sc : Scopes) (w : World) (ok : IsSound sc IsWholeInstance w) (p : ℕ) (q : Process) (part : Part) (outer : List Part) (is : numbered w.processes p ≡ Some q)
    (todo : q.todo ≡ part ∷ outer) (b i : ℕ) (X : Type 0) (h : Near sc b i X w part) where
  abbrev j : ℕ
  j = (instance_at w part.instance).block

  up_one : X → (up k c : ℕ) → IsStanding w k → slice_get (around sc.blocks ((instance_at w k).block)) up ≡ Some c →
      ((m : ℕ) → IsStanding w m → (m ≡ i → ⊥) → slice_get ((instance_at w m).block ∷ around sc.blocks ((instance_at w m).block)) up ≡ Some c → ancestor w up m ≡ i → ⊥) →
      ancestor w (suc up) k ≡ i → ⊥
  up_one t up k c st e further =
      let x = there sc IsWholeInstance w ok k st in
      let same : instance_at w k ≡ x.0 = instance_is sc IsWholeInstance w ok k x.0 x.1 in
      by x.0 x.1 same (ok.instances k x.0 x.1).placed (ap (λ (y : Instance). slice_get (around sc.blocks y.block) up) (sym same) ∙ e)
    where
      by : (x : Instance) → numbered w.instances k ≡ Some x → instance_at w k ≡ x → PartIsPlaced sc w x → slice_get (around sc.blocks x.block) up ≡ Some c → ancestor w (suc up) k ≡ i → ⊥
      by x f same (outermost g a) at up_is = none_some (ap (λ js. slice_get js up) (sym a) ∙ at)
      by x f same (inside g a) at up_is =
          let path = parent_path sc IsWholeInstance w ok k x st f g in
          let s = stands_path (skeleton w) ok.skeleton_ok k x.parent st path in
          further x.parent s (h.low.instances k x f ((ok.instances k x f).left.1 st) t).childless (ap (λ js. slice_get js up) (sym a) ∙ at)
          (subst (λ (y : Instance). ancestor w up y.parent ≡ i) same up_is)

  -- no instance up from one that stands is i
  not_above : X → (up k c : ℕ) → IsStanding w k → slice_get (around sc.blocks ((instance_at w k).block)) up ≡ Some c → ancestor w (suc up) k ≡ i → ⊥
  not_above t zero k c st e = up_one t zero k c st e (λ m s other f g. other g)
  not_above t (suc up) k c st e = up_one t (suc up) k c st e (λ m s other f. not_above t up m c s f)

  -- what is named of i, is named by a part in i, of its own block
  pub home_is : (n : Named) → BlockIsSeen sc j n → X → home sc w p q part outer n ≡ i → (part.instance ≡ i) × ((use_of sc n).up ≡ 0)
  home_is n s t = by ((use_of sc n).up) refl s
    where
      by : (up : ℕ) → (use_of sc n).up ≡ up → slice_get (j ∷ around sc.blocks j) up ≡ Some ((use_of sc n).block) → ancestor w up part.instance ≡ i →
          (part.instance ≡ i) × ((use_of sc n).up ≡ 0)
      by zero e f g = (g, e)
      by (suc up) e f g = absurd (not_above t up part.instance ((use_of sc n).block) (part_stands sc IsWholeInstance w ok p q part outer is todo) f g)

  -- a variable or a parameter of the block
  seen_simple : (n : Named) → (use_of sc n).up ≡ 0 → NameIsTold sc n → IsSeenAround sc b n → has_simple (block_numbered sc.blocks b) n.name ≡ true
  seen_simple n zero_up told s = subst (λ k. has_simple (block_numbered sc.blocks k) n.name ≡ true) (sym same) (by s.1)
    where
      same : b ≡ (use_of sc n).block
      same = some_inner (ap (λ u. slice_get (b ∷ around sc.blocks b) u) (sym zero_up) ∙ s.0)

      by : (1 ≤ (use_of sc n).up) ⊎ ((is_variable ((use_of sc n).sort) ≡ true) ⊎ (is_formal ((use_of sc n).sort) ≡ true)) →
          has_simple (block_numbered sc.blocks ((use_of sc n).block)) n.name ≡ true
      by (◌⊎◌.inl g) = absurd (omega (arith, g, zero_up))
      by (◌⊎◌.inr (◌⊎◌.inl g)) = told.variable g
      by (◌⊎◌.inr (◌⊎◌.inr g)) =
          parameter_simple (block_numbered sc.blocks ((use_of sc n).block)) n.name
          (formal_parameter ((block_numbered sc.blocks ((use_of sc n).block)).parameters) n.name (told.formal ∙ g))

  -- in i the name is of what is around
  abbrev pub Around : Named → Type 0
  Around n = X → part.instance ≡ i → IsSeenAround sc b n

  pub leads_here : (n : Named) → BlockIsSeen sc j n → Around n → NameIsTold sc n → X → LeadsLow sc b i (here sc w p q part outer n)
  leads_here n s narrow told t at = let its = home_is n s t at in seen_simple n its.1 told (narrow t its.0)

  -- the cell of a name
  pub cell_here_low : (n : Named) → BlockIsSeen sc j n → X → CellLow sc b i (cell_at w (here sc w p q part outer n))
  cell_here_low n s t =
      let k = home sc w p q part outer n in
      let path = home_path sc IsWholeInstance w ok p q part outer is todo n s in
      let st = stands_path (skeleton w) ok.skeleton_ok (newest_own (part ∷ outer)) k (top_stands sc IsWholeInstance w ok p q part outer is todo) path in
      let x = there sc IsWholeInstance w ok k st in
      subst (λ (y : Instance). CellLow sc b i (cell_in y.cells n.name)) (sym (instance_is sc IsWholeInstance w ok k x.0 x.1))
      (cell_in_low sc b i (x.0).cells n.name (h.low.instances k x.0 x.1 ((ok.instances k x.0 x.1).left.1 st) t).cells)

  followed_by : (c : Cell) (r : Reference) → CellLow sc b i c → LeadsLow sc b i r → LeadsLow sc b i (by_cell c r)
  followed_by (reference s) r m l = m
  followed_by (simple v) r m l = l
  followed_by (event e) r m l = l
  followed_by (array a) r m l = l
  followed_by (named c) r m l = l

  pub followed_low : (n : Named) → BlockIsSeen sc j n → Around n → NameIsTold sc n → X → LeadsLow sc b i (followed w (here sc w p q part outer n))
  followed_low n s narrow told t =
      followed_by (cell_at w (here sc w p q part outer n)) (here sc w p q part outer n) (cell_here_low n s t) (leads_here n s narrow told t)
