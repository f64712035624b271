-- The laws of instances to which nobody comes: an action of another process keeps them so, and so is each instance that has still something to make.
use Rattle.std.proofs.Common.{◌≡◌, ◌⊎◌, ℕ, zero, suc, ◌+◌, ◌≤◌, List, [], ◌∷◌, ◌++◌, length, Option, Some, None, Bool, true, false, refl, sym, ap, ◌∙◌, subst, arith}
use Rattle.std.specs.Prelude.{if◌then◌else◌}
use Rattle.b67_list.specs.Numbered.{numbered}
use Rattle.b67_list.proofs.Numbers.{none_some}
use Rattle.algol_tree.specs.Scopes.{Scopes}
use Rattle.algol_meaning.specs.Value.{Reference, Cell, simple, event, array, named, reference}
use Rattle.algol_meaning.specs.World.{NamedCell, Instance, or_no_instance, instance_at, Part, Process, lives, process_at, World}
use Rattle.algol_meaning.specs.Critical.{is_evaluation, own_instances, referred_in, referred_by}
use Rattle.algol_meaning.specs.Asks.{ask}
use Rattle.algol_meaning.specs.Choice.{choice, choice_in}
use Rattle.algol_meaning.specs.Run.{may_go}
use Rattle.algol_laws.proofs.Choices.{each_keeps}
use Rattle.algol_paths.specs.Blocks.{BlockIsSeen, IsSeenAround, IsInner}
use Rattle.algol_paths.specs.Arrays.{all_to_make}
use Rattle.algol_standing.specs.Skeleton.{IsInSkeleton, Owned}
use Rattle.algol_standing.specs.Worlds.{parent_in, referred_in_cells, home_of, held_in_rest, stack_of, skeleton, IsStanding, IsAmongParts, IsNoBlock, HasHead, IsWholeInstance, IsSound}
use Rattle.algol_standing.specs.Fitting.{WorldFits}
use Rattle.algol_standing.specs.Lows.{CellLow, AllLow, CellsLow, WorldLow, IsLow, IsMaking}
use Rattle.algol_standing.specs.Laws.{OthersKeepLow, MakingIsLow}
use Rattle.algol_calls.specs.Texts.{KeepToTexts}
use Rattle.algol_standing.proofs.Lists.{some_same}
use Rattle.algol_standing.proofs.Standing.{stands_path}
use Rattle.algol_standing.proofs.Pairs.{stack_forth, home_forth}
use Rattle.algol_standing.proofs.Seen.{in_front, in_back, there, parent_among, part_ok}
use Rattle.algol_standing.proofs.Stacks.{numbered_small}
use Rattle.algol_standing.proofs.Fine.{part_stands_in}
use Rattle.algol_standing.proofs.Asking.{Sees, rest_sees, bound_sees}
use Rattle.algol_standing.proofs.Jumping.{own_among}
use Rattle.algol_standing.proofs.PathFirst.{home_process}
use Rattle.algol_standing.proofs.Choosing.{able_by, found, may_go_able}
use Rattle.algol_standing.proofs.LowWorlds.{LowIf}
use Rattle.algol_standing.proofs.LowNames.{Near}
use Rattle.algol_standing.proofs.LowChoosing.{choice_low}

-- ---- what refers to nothing of an instance

module _ (sc : Scopes) (b i : ℕ) where
  apart_low : (c : Cell) → (IsInSkeleton (referred_in c) i → ⊥) → CellLow sc b i c
  apart_low (simple v) f = tt
  apart_low (event e) f = tt
  apart_low (array a) f = tt
  apart_low (named n) f = λ e. absurd (f (◌⊎◌.inl e))
  apart_low (reference r) f = λ e. absurd (f (◌⊎◌.inl e))

  cells_apart : (cells : List NamedCell) → (IsInSkeleton (referred_in_cells cells) i → ⊥) → CellsLow sc b i cells
  cells_apart [] f = tt
  cells_apart (c ∷ cells) f = (
    apart_low c.cell (λ n. f (in_front (referred_in c.cell) (referred_in_cells cells) i n)),
    cells_apart cells (λ n. f (in_back (referred_in c.cell) (referred_in_cells cells) i n)),
  )

  all_apart : (cells : List Cell) → (IsInSkeleton (referred_by cells) i → ⊥) → AllLow sc b i cells
  all_apart [] f = tt
  all_apart (c ∷ cells) f =
      (apart_low c (λ n. f (in_front (referred_in c) (referred_by cells) i n)), all_apart cells (λ n. f (in_back (referred_in c) (referred_by cells) i n)))

  low_is : (X : Type 0) (v : World) → LowIf sc b i X v → X → WorldLow sc b i v
  low_is X v l t =
      record { instances = λ j x e s. l.instances j x e s t; parts = λ k q y e n. (l.parts k q y e n).low t; tasks = λ k q r e f. l.tasks k q r e f t }

module _ (sc : Scopes) (texts : KeepToTexts sc) (w : World) (ok : IsSound sc IsWholeInstance w) (fits : WorldFits sc w) (p : ℕ) (goes : may_go w p ≡ true) where
  abbrev q : Process
  q = process_at w p

  abbrev v : World
  v = (choice sc w p).world

  is : numbered w.processes p ≡ Some q
  is = found (numbered w.processes p) (may_go_able w p goes)

  head : HasHead q.todo
  head = (ok.processes p q is).heads (ap lives (able_by q.state (may_go_able w p goes)))

  abbrev part : Part
  part = head.part

  abbrev outer : List Part
  outer = head.outer

  after_low : (b i : ℕ) (X : Type 0) → Near sc b i X w part → LowIf sc b i X (choice_in sc w p q q.todo).world
  after_low b i X h =
      subst (λ ps. LowIf sc b i X (choice_in sc w p q ps).world) (sym head.is)
      (choice_low sc texts w ok fits p q part outer is head.is b i X h (ask part.rest) refl)

  choice_keeps_low : (b i : ℕ) (X : Type 0) → Near sc b i X w part → LowIf sc b i X v
  unfolding choice
  choice_keeps_low b i X h = after_low b i X h

  -- ---- an instance that is there

  module _ (i : ℕ) (x : Instance) (at_i : numbered w.instances i ≡ Some x) where
    block_same : (instance_at v i).block ≡ (instance_at w i).block
    block_same =
        let y = (each_keeps sc w p).instances i x at_i in
        ap (λ o. (or_no_instance o).block) y.1 ∙ (y.2.grown.block ∙ ap (λ o. (or_no_instance o).block) (sym at_i))

    not_next : length w.instances + 1 ≡ i → ⊥
    not_next e = let small = numbered_small w.instances i x at_i in let at = e in omega (arith, small, at)

    -- the head sees only what is around the block, where it is an evaluation in i
    evaluates_near : WorldLow sc ((instance_at w i).block) i w → is_evaluation part.purpose ≡ true → part.instance ≡ i → Sees (IsSeenAround sc ((instance_at w i).block)) IsNoBlock (ask part.rest)
    evaluates_near low e f =
        let b = (instance_at w i).block in
        rest_sees (IsSeenAround sc b) IsNoBlock (IsSeenAround sc b) (λ n s. s) part.rest
        ((low.parts p q part is (subst (λ ps. IsAmongParts ps part) (sym head.is) (◌⊎◌.inl refl))).narrow e f)

    -- .. or where it is i's own
    owns_in : is_evaluation part.purpose ≡ false → part.instance ≡ i → IsInSkeleton (own_instances q.todo) i
    owns_in o f = subst (λ k. IsInSkeleton (own_instances q.todo) k) f (own_among q.todo part (subst (λ ps. IsAmongParts ps part) (sym head.is) (◌⊎◌.inl refl)) o)

    owner : is_evaluation part.purpose ≡ false → part.instance ≡ i → (instance_at w i).process ≡ p
    owner o f = home_process sc w ok i (record { number = p; stack = stack_of q; is = stack_forth w p q is; inside = owns_in o f })

    -- ---- an action of another process

    others_low : ((instance_at w i).process ≡ p → ⊥) → IsLow sc w i → IsLow sc v i
    others_low other low =
        let b = (instance_at w i).block in
        subst (λ k. WorldLow sc k i v) (sym block_same) (low_is sc b i (Unit {0}) v (choice_keeps_low b i (Unit {0}) near_here) tt)
      where
        near_here : Near sc ((instance_at w i).block) i (Unit {0}) w part
        near_here =
            record {
              low =
                  record {
                    instances = λ k y e s t. low.instances k y e s;
                    parts = λ k z y e n. record { low = λ t. low.parts k z y e n; makes = λ o f m. tt };
                    tasks = λ k z r e f t. low.tasks k z r e f;
                  };
              near = λ t f. by f (is_evaluation part.purpose) refl;
              fresh = λ e. tt;
            }
          where
            by : part.instance ≡ i → (t : Bool) → is_evaluation part.purpose ≡ t → Sees (IsSeenAround sc ((instance_at w i).block)) IsNoBlock (ask part.rest)
            by f true e = evaluates_near low e f
            by f false e = absurd (other (owner e f))

    -- ---- one that has something to make

    module _ (before : IsMaking w i → IsLow sc w i) where
      -- its own part is the one that has
      only_part : is_evaluation part.purpose ≡ false → part.instance ≡ i → IsMaking w i → all_to_make part.rest ≡ [] → ⊥
      only_part o f m made = in_it (subst (λ ps. IsAmongParts ps m.part) head.is (subst (λ (z : Process). IsAmongParts z.todo m.part) same m.among))
        where
          stands : IsStanding w i
          stands =
              record {
                number = m.number;
                stack = stack_of m.process;
                is = stack_forth w m.number m.process m.is;
                inside = subst (λ k. IsInSkeleton (own_instances m.process.todo) k) m.instance_is (own_among m.process.todo m.part m.among m.owns);
              }

          number_is : m.number ≡ p
          number_is = sym (home_process sc w ok i stands) ∙ owner o f

          same : m.process ≡ q
          same = some_same (ap (λ k. numbered w.processes k) (sym number_is) ∙ m.is) is

          ordered : Owned (skeleton w).homes p (own_instances (part ∷ outer))
          ordered = subst (λ ps. Owned (skeleton w).homes p (own_instances ps)) head.is (ok.skeleton_ok.owned p (stack_of q) (stack_forth w p q is))

          first : own_instances (part ∷ outer) ≡ part.instance ∷ own_instances outer
          first = ap (λ t. if t then own_instances outer else part.instance ∷ own_instances outer) o

          in_it : IsAmongParts (part ∷ outer) m.part → ⊥
          in_it (◌⊎◌.inl g) = m.makes (subst (λ (z : Part). all_to_make z.rest ≡ []) g made)
          in_it (◌⊎◌.inr n) =
              let older = (subst (λ xs. Owned (skeleton w).homes p xs) first ordered).3 m.part.instance (own_among outer m.part n m.owns) in
              let at = f in
              let its = m.instance_is in
              omega (arith, older, at, its)

      near_making : Near sc ((instance_at w i).block) i (IsMaking w i) w part
      near_making =
          record {
            low =
                record {
                  instances = λ k y e s t. (before t).instances k y e s;
                  parts = λ k z y e n.
                      record {
                        low = λ t. (before t).parts k z y e n;
                        makes = λ o f m. record { number = k; process = z; part = y; is = e; among = n; owns = o; instance_is = f; makes = m };
                      };
                  tasks = λ k z r e f t. (before t).tasks k z r e f;
                };
            near = λ t f. by t f (is_evaluation part.purpose) refl;
            fresh = λ e. absurd (not_next e);
          }
        where
          owns_near : IsMaking w i → part.instance ≡ i → is_evaluation part.purpose ≡ false →
              (all_to_make part.rest ≡ []) ⊎ Sees (IsSeenAround sc ((instance_at w part.instance).block)) IsNoBlock (ask part.rest) →
              Sees (IsSeenAround sc ((instance_at w i).block)) IsNoBlock (ask part.rest)
          owns_near t f o (◌⊎◌.inl made) = absurd (only_part o f t made)
          owns_near t f o (◌⊎◌.inr s) = subst (λ k. Sees (IsSeenAround sc ((instance_at w k).block)) IsNoBlock (ask part.rest)) f s

          by : IsMaking w i → part.instance ≡ i → (t : Bool) → is_evaluation part.purpose ≡ t → Sees (IsSeenAround sc ((instance_at w i).block)) IsNoBlock (ask part.rest)
          by t f true e = evaluates_near (before t) e f
          by t f false e =
              let j = (instance_at w part.instance).block in
              owns_near t f e (bound_sees (BlockIsSeen sc j) (IsInner sc j) (IsSeenAround sc j) part.rest (part_ok sc IsWholeInstance w ok p q part outer is head.is).text)

      making_after : LowIf sc ((instance_at w i).block) i (IsMaking w i) v
      making_after = choice_keeps_low ((instance_at w i).block) i (IsMaking w i) near_making

      making_low : IsMaking w i → IsLow sc v i
      making_low t = subst (λ k. WorldLow sc k i v) (sym block_same) (low_is sc ((instance_at w i).block) i (IsMaking w i) v making_after t)

      -- what has something to make after an action had so before
      still_low : IsMaking v i → IsLow sc v i
      still_low m = making_low ((making_after.parts m.number m.process m.part m.is m.among).makes m.owns m.instance_is m.makes)

  -- ---- one that comes to be

  module _ (i : ℕ) (some : 1 ≤ i) (none_at : numbered w.instances i ≡ None) where
    not_there : IsStanding w i → ⊥
    not_there st = let x = there sc IsWholeInstance w ok i st in none_some (sym none_at ∙ x.1)

    not_referred : (j : ℕ) (x : Instance) → numbered w.instances j ≡ Some x → x.left ≡ false → IsInSkeleton (home_of x).refs i → ⊥
    not_referred j x e s n =
        let st = (ok.instances j x e).left.0 s in
        not_there (stands_path (skeleton w) ok.skeleton_ok j i st (ok.skeleton_ok.refers j (home_of x) i st (home_forth w j x e) n))

    no_parent : (j : ℕ) (x : Instance) → numbered w.instances j ≡ Some x → x.left ≡ false → x.parent ≡ i → ⊥
    no_parent j x e s f =
        not_referred j x e s (subst (λ k. IsInSkeleton (parent_in x.parent ++ referred_in_cells x.cells) k) f (parent_among sc IsWholeInstance w ok x.parent (referred_in_cells x.cells) (subst (λ k. 1 ≤ k) (sym f) some)))

    not_held : (k : ℕ) (z : Process) (y : Part) → numbered w.processes k ≡ Some z → IsAmongParts z.todo y → IsInSkeleton (y.instance ∷ referred_by (held_in_rest y.rest)) i → ⊥
    not_held k z y e n m = not_there (part_stands_in w ok.skeleton_ok k z y i e n m)

    no_task : (k : ℕ) (z : Process) (r : Reference) → numbered w.processes k ≡ Some z → z.task ≡ Some r → r.instance ≡ i → ⊥
    no_task k z r e f g =
        let its = (fits.processes k z e).task r f in
        none_some (sym none_at ∙ (ap (λ m. numbered w.instances m) (sym g) ∙ its.is))

    near_new : (b : ℕ) → Near sc b i (Unit {0}) w part
    near_new b =
        record {
          low =
              record {
                instances = λ j x e s t.
                    record {
                      childless = no_parent j x e s;
                      cells = cells_apart sc b i x.cells (λ n. not_referred j x e s (in_back (parent_in x.parent) (referred_in_cells x.cells) i n));
                    };
                parts = λ k z y e n.
                    record {
                      low = λ t.
                          record {
                            holds = all_apart sc b i (held_in_rest y.rest) (λ m. not_held k z y e n (◌⊎◌.inr m));
                            narrow = λ o f. absurd (not_held k z y e n (◌⊎◌.inl f));
                          };
                      makes = λ o f m. tt;
                    };
                tasks = λ k z r e f t. λ g. absurd (no_task k z r e f g);
              };
          near = λ t f. absurd (not_held p q part is (subst (λ ps. IsAmongParts ps part) (sym head.is) (◌⊎◌.inl refl)) (◌⊎◌.inl f));
          fresh = λ e. tt;
        }

    new_low : IsLow sc v i
    new_low = low_is sc ((instance_at v i).block) i (Unit {0}) v (choice_keeps_low ((instance_at v i).block) i (Unit {0}) (near_new ((instance_at v i).block))) tt

  -- ---- all that have something to make

  making_stands : (u : World) (i : ℕ) → IsMaking u i → IsStanding u i
  making_stands u i m =
      record {
        number = m.number;
        stack = stack_of m.process;
        is = stack_forth u m.number m.process m.is;
        inside = subst (λ k. IsInSkeleton (own_instances m.process.todo) k) m.instance_is (own_among m.process.todo m.part m.among m.owns);
      }

  pub each_making_low : IsSound sc IsWholeInstance v → ((i : ℕ) → IsMaking w i → IsLow sc w i) → (i : ℕ) → IsMaking v i → IsLow sc v i
  each_making_low after before i m = by (numbered w.instances i) refl
    where
      positive : (k : ℕ) → IsStanding v k → 1 ≤ k
      positive zero st = let x = there sc IsWholeInstance v after zero st in none_some x.1
      positive (suc k) st = omega arith

      by : (o : Option Instance) → numbered w.instances i ≡ o → IsLow sc v i
      by (Some x) e = still_low i x e (before i) m
      by None e = new_low i (positive i (making_stands v i m)) e

  pub others : (i : ℕ) → IsStanding w i → ((instance_at w i).process ≡ p → ⊥) → IsLow sc w i → IsLow sc v i
  others i st other low = let x = there sc IsWholeInstance w ok i st in others_low i x.0 x.1 other low

  pub making : (i : ℕ) → (IsMaking w i → IsLow sc w i) → IsMaking w i → IsLow sc v i
  making i before m = let x = there sc IsWholeInstance w ok i (making_stands w i m) in making_low i x.0 x.1 before m

pub others_keep_low : OthersKeepLow
others_keep_low sc w p i texts ok goes st other low = others sc texts.keep w ok.sound ok.fits p goes i st other low

pub making_is_low : MakingIsLow
making_is_low sc w p i texts ok goes m = making sc texts.keep w ok.sound ok.fits p goes i (ok.low i) m
