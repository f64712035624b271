-- The cells that a call gives: what they refer to lies on the path, and their actuals stand in their texts. And parents that are whole.
use Rattle.std.proofs.Common.{◌≡◌, ◌⊎◌, ℕ, zero, suc, ◌≤◌, List, [], ◌∷◌, Some, Bool, true, false, refl, sym, ap, ◌∙◌, subst, arith}
use Rattle.std.specs.Prelude.{slice_get}
use Rattle.b67_list.specs.Numbered.{numbered}
use Rattle.b67_list.proofs.Numbers.{none_some}
use Rattle.algol_tree.specs.declared.tree.Named.{Named}
use Rattle.algol_tree.specs.Plain.{PExpr}
use Rattle.algol_tree.specs.Blocks.{around}
use Rattle.algol_tree.specs.Sorts.{is_variable, is_formal}
use Rattle.algol_tree.specs.Scopes.{Scopes, use_of}
use Rattle.algol_meaning.specs.Value.{Reference, NameCell, Cell, named, reference}
use Rattle.algol_meaning.specs.Rest.{Given, valued, passed, refers, names}
use Rattle.algol_meaning.specs.World.{Instance, instance_at, ancestor, Part, Process, World}
use Rattle.algol_meaning.specs.Critical.{is_evaluation}
use Rattle.algol_meaning.specs.Asks.{ask}
use Rattle.algol_meaning.specs.Choice.{home, here, given_cells}
use Rattle.algol_paths.specs.Blocks.{BlockIsSeen, IsSeenAround, IsInner}
use Rattle.algol_paths.specs.Texts.{InExpr, InGivens, InRest}
use Rattle.algol_paths.specs.Arrays.{all_to_make}
use Rattle.algol_calls.specs.Fits.{IsCallee}
use Rattle.algol_standing.specs.Skeleton.{IsInSkeleton}
use Rattle.algol_standing.specs.Worlds.{held_in_givens, newest_own, skeleton, IsStanding, IsOnPath, PartIsPlaced, outermost, inside, IsAmongParts, IsNoBlock, IsWholeInstance, KeepsActual, PartOk, IsSound}
use Rattle.algol_standing.proofs.Calls.{IsNoEvent, PassNoEvents}
use Rattle.algol_standing.proofs.Lists.{false_true}
use Rattle.algol_standing.proofs.Standing.{stands_path}
use Rattle.algol_standing.proofs.Holding.{AreAll}
use Rattle.algol_standing.proofs.Seen.{CellOk, there, instance_is, parent_path, part_ok, part_path, part_stands, home_path}
use Rattle.algol_standing.proofs.Asking.{Sees, rest_sees, bound_sees}

module _ (sc : Scopes) (w : World) (ok : IsSound sc IsWholeInstance w) where
  up_one : (up i b : ℕ) → IsStanding w i → slice_get (around sc.blocks ((instance_at w i).block)) up ≡ Some b →
      ((j : ℕ) → IsStanding w j → IsWholeInstance w j → slice_get ((instance_at w j).block ∷ around sc.blocks ((instance_at w j).block)) up ≡ Some b → IsWholeInstance w (ancestor w up j)) →
      IsWholeInstance w (ancestor w (suc up) i)
  up_one up i b st e further =
      let x = there sc IsWholeInstance w ok i st in
      let same : instance_at w i ≡ x.0 = instance_is sc IsWholeInstance w ok i x.0 x.1 in
      by x.0 x.1 same (ok.instances i x.0 x.1).placed (ap (λ (y : Instance). slice_get (around sc.blocks y.block) up) (sym same) ∙ e)
    where
      by : (x : Instance) → numbered w.instances i ≡ Some x → instance_at w i ≡ x → PartIsPlaced sc w x → slice_get (around sc.blocks x.block) up ≡ Some b → IsWholeInstance w (ancestor w (suc up) i)
      by x f same (outermost g a) h = none_some (ap (λ js. slice_get js up) (sym a) ∙ h)
      by x f same (inside g a) h =
          let path = parent_path sc IsWholeInstance w ok i x st f g in
          let s = stands_path (skeleton w) ok.skeleton_ok i x.parent st path in
          subst (λ (y : Instance). IsWholeInstance w (ancestor w up y.parent)) (sym same) (further x.parent s ((ok.instances i x f).whole st g) (ap (λ js. slice_get js up) (sym a) ∙ h))

  -- the parent of an instance that stands is whole, and so is the parent of that
  ancestors_whole : (up i b : ℕ) → IsStanding w i → slice_get (around sc.blocks ((instance_at w i).block)) up ≡ Some b → IsWholeInstance w (ancestor w (suc up) i)
  ancestors_whole zero i b st e = up_one zero i b st e (λ j s h f. h)
  ancestors_whole (suc k) i b st e = up_one (suc k) i b st e (λ j s h f. ancestors_whole k j b s f)

  module _ (p : ℕ) (q : Process) (part : Part) (outer : List Part) (is : numbered w.processes p ≡ Some q) (todo : q.todo ≡ part ∷ outer) where
    abbrev j : ℕ
    j = (instance_at w part.instance).block

    abbrev top : ℕ
    top = newest_own (part ∷ outer)

    abbrev Seen : Named → Type 0
    Seen = BlockIsSeen sc j

    abbrev Around : Named → Type 0
    Around = IsSeenAround sc j

    old : PartOk sc IsWholeInstance w part
    old = part_ok sc IsWholeInstance w ok p q part outer is todo

    -- the part's instance is whole, or the head sees only what is around it
    pub narrow_here : IsWholeInstance w part.instance ⊎ Sees Around IsNoBlock (ask part.rest)
    narrow_here = by (is_evaluation part.purpose) refl
      where
        evaluates : IsWholeInstance w part.instance ⊎ InRest Around IsNoBlock Around part.rest → IsWholeInstance w part.instance ⊎ Sees Around IsNoBlock (ask part.rest)
        evaluates (◌⊎◌.inl f) = ◌⊎◌.inl f
        evaluates (◌⊎◌.inr f) = ◌⊎◌.inr (rest_sees Around IsNoBlock Around (λ n s. s) part.rest f)

        owns : is_evaluation part.purpose ≡ false → (all_to_make part.rest ≡ []) ⊎ Sees Around IsNoBlock (ask part.rest) → IsWholeInstance w part.instance ⊎ Sees Around IsNoBlock (ask part.rest)
        owns o (◌⊎◌.inl m) =
            ◌⊎◌.inl
            (record {
              number = p;
              process = q;
              part = part;
              is = is;
              among = subst (λ ps. IsAmongParts ps part) (sym todo) (◌⊎◌.inl refl);
              owns = o;
              instance_is = refl;
              made = m;
            })
        owns o (◌⊎◌.inr s) = ◌⊎◌.inr s

        by : (b : Bool) → is_evaluation part.purpose ≡ b → IsWholeInstance w part.instance ⊎ Sees Around IsNoBlock (ask part.rest)
        by true e = evaluates (old.narrow e)
        by false e = owns e (bound_sees Seen (IsInner sc j) Around part.rest old.text)

    -- the instance in which a procedure is declared is whole
    pub callee_whole : (n : Named) → Seen n → IsCallee sc n → IsWholeInstance w part.instance ⊎ Around n → IsWholeInstance w (home sc w p q part outer n)
    callee_whole n s c how = by ((use_of sc n).up) refl s
      where
        here_whole : (use_of sc n).up ≡ 0 → IsWholeInstance w part.instance ⊎ Around n → IsWholeInstance w part.instance
        here_whole e (◌⊎◌.inl f) = f
        here_whole e (◌⊎◌.inr f) = which f.1
          where
            which : (1 ≤ (use_of sc n).up) ⊎ ((is_variable ((use_of sc n).sort) ≡ true) ⊎ (is_formal ((use_of sc n).sort) ≡ true)) → IsWholeInstance w part.instance
            which (◌⊎◌.inl h) = absurd (omega (arith, h, e))
            which (◌⊎◌.inr (◌⊎◌.inl h)) = false_true (sym c.no_variable ∙ h)
            which (◌⊎◌.inr (◌⊎◌.inr h)) = false_true (sym c.no_formal ∙ h)

        by : (up : ℕ) → (use_of sc n).up ≡ up → slice_get (j ∷ around sc.blocks j) up ≡ Some ((use_of sc n).block) → IsWholeInstance w (ancestor w up part.instance)
        by zero e f = here_whole e how
        by (suc up) e f = ancestors_whole up part.instance ((use_of sc n).block) (part_stands sc IsWholeInstance w ok p q part outer is todo) f

    -- ---- the cells

    abbrev pub Held : Cell → Type 0
    Held = CellOk sc IsWholeInstance w ok top

    to_there : (r : Reference) → IsOnPath w top r.instance → Held (reference r)
    to_there r l = (by, λ m n. absurd n)
      where
        by : (i : ℕ) → IsInSkeleton (r.instance ∷ []) i → IsOnPath w top i
        by i (◌⊎◌.inl e) = subst (λ k. IsOnPath w top k) e l
        by i (◌⊎◌.inr n) = absurd n

    -- an actual of this part
    actual_here : (e : PExpr) → InExpr Seen e → IsWholeInstance w part.instance ⊎ InExpr Around e → Held (named (record { actual = e; instance = part.instance }))
    actual_here e seen narrow = (by, λ m n. subst (λ (k : NameCell). KeepsActual sc IsWholeInstance w k) n (record { seen = seen; narrow = narrow }))
      where
        by : (i : ℕ) → IsInSkeleton (part.instance ∷ []) i → IsOnPath w top i
        by i (◌⊎◌.inl f) = subst (λ k. IsOnPath w top k) f (part_path sc IsWholeInstance w ok p q part outer is todo)
        by i (◌⊎◌.inr n) = absurd n

    first_narrow : (e : PExpr) (gs : List Given) → IsWholeInstance w part.instance ⊎ InGivens Around (names e ∷ gs) → IsWholeInstance w part.instance ⊎ InExpr Around e
    first_narrow e gs (◌⊎◌.inl f) = ◌⊎◌.inl f
    first_narrow e gs (◌⊎◌.inr f) = ◌⊎◌.inr f.0

    other_narrow : (g : Given) (gs : List Given) → IsWholeInstance w part.instance ⊎ InGivens Around (g ∷ gs) → IsWholeInstance w part.instance ⊎ InGivens Around gs
    other_narrow g gs (◌⊎◌.inl f) = ◌⊎◌.inl f
    other_narrow (valued v) gs (◌⊎◌.inr f) = ◌⊎◌.inr f
    other_narrow (passed c) gs (◌⊎◌.inr f) = ◌⊎◌.inr f
    other_narrow (refers n) gs (◌⊎◌.inr f) = ◌⊎◌.inr f.1
    other_narrow (names e) gs (◌⊎◌.inr f) = ◌⊎◌.inr f.1

    pub cells_held : (gs : List Given) → InGivens Seen gs → IsWholeInstance w part.instance ⊎ InGivens Around gs → AreAll Held (held_in_givens gs) → AreAll Held (given_cells sc w p q part outer gs)
    cells_held [] i narrow held = tt
    cells_held (valued v ∷ gs) i narrow held = ((λ k n. absurd n, λ m n. absurd n), cells_held gs i (other_narrow (valued v) gs narrow) held)
    cells_held (passed c ∷ gs) i narrow held = (held.0, cells_held gs i (other_narrow (passed c) gs narrow) held.1)
    cells_held (refers n ∷ gs) i narrow held =
        (to_there (here sc w p q part outer n) (home_path sc IsWholeInstance w ok p q part outer is todo n i.0), cells_held gs i.1 (other_narrow (refers n) gs narrow) held)
    cells_held (names e ∷ gs) i narrow held = (actual_here e i.0 (first_narrow e gs narrow), cells_held gs i.1 (other_narrow (names e) gs narrow) held)

    pub cells_no_events : (gs : List Given) → PassNoEvents gs → AreAll IsNoEvent (given_cells sc w p q part outer gs)
    cells_no_events [] f = tt
    cells_no_events (valued v ∷ gs) f = (λ e g. cc, cells_no_events gs f)
    cells_no_events (passed c ∷ gs) f = (f.0, cells_no_events gs f.1)
    cells_no_events (refers n ∷ gs) f = (λ e g. cc, cells_no_events gs f)
    cells_no_events (names a ∷ gs) f = (λ e g. cc, cells_no_events gs f)
