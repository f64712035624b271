-- The first world is as worlds are.
use Rattle.std.proofs.Common.{◌≡◌, ◌⊎◌, ℕ, zero, suc, ◌<◌, ◌≤◌, List, [], ◌∷◌, Some, None, true, false, refl, sym, ap, ◌∙◌, subst, arith}
use Rattle.std.specs.Prelude.{slice_get}
use Rattle.b67_list.specs.Numbered.{numbered}
use Rattle.b67_list.proofs.Numbers.{none_some}
use Rattle.algol_tree.specs.Blocks.{block_numbered}
use Rattle.algol_tree.specs.Scopes.{Scopes}
use Rattle.algol_meaning.specs.Value.{event}
use Rattle.b67_deeds.specs.Events.{EventState}
use Rattle.algol_meaning.specs.Rest.{Rest}
use Rattle.algol_meaning.specs.Statements.{items_of, settle_items}
use Rattle.algol_meaning.specs.World.{Instance, instance_at, cell_in, block, Part, Process, able, lives, World}
use Rattle.algol_meaning.specs.Critical.{referred_by}
use Rattle.algol_meaning.specs.Instances.{fresh_cells}
use Rattle.algol_meaning.specs.Asks.{nothing, ask}
use Rattle.algol_meaning.specs.Run.{start}
use Rattle.algol_paths.specs.Blocks.{BlockIsSeen, IsSeenAround, IsInner}
use Rattle.algol_paths.proofs.Statements.{declared_keeps}
use Rattle.algol_standing.specs.Skeleton.{Evaluation, IsEvaluated, Stack, Home, IsInSkeleton, Owned, here, SkeletonOk}
use Rattle.algol_standing.specs.Worlds.{home_of, held_in_rest, held_by, stack_of, skeleton, IsStanding, IsOnPath, IsOwn, IsAmongParts, outermost, IsWholeInstance, PartOk, ProcessOk, InstanceOk, IsSound}
use Rattle.algol_standing.specs.Lows.{LeadsLow, InstanceLow, PartLow, IsLow, IsMaking}
use Rattle.algol_calls.specs.Texts.{HasOuterBlock}
use Rattle.algol_standing.proofs.Holding.{AreAll, items_hold}
use Rattle.algol_standing.proofs.Seen.{evaluated_either}
use Rattle.algol_standing.proofs.Changed.{IsPlain}
use Rattle.algol_standing.proofs.LowWorlds.{fresh_low, Low, plain_low, low_all}
use Rattle.algol_standing.proofs.Fresh.{simple_plain, fresh_refs, fresh_names, fresh_no_event, plain_refs, plain_names}

module _ (sc : Scopes) (o : HasOuterBlock sc) (acts : ask (settle_items sc (items_of (block_numbered sc.blocks 0))) ≡ nothing → ⊥) where
  abbrev rest : Rest
  rest = settle_items sc (items_of (block_numbered sc.blocks 0))

  abbrev part : Part
  part = record { instance = 1; purpose = block; rest = rest }

  abbrev process : Process
  process = record { todo = part ∷ []; critical = None; task = None; state = able; woken = 0 }

  abbrev instance : Instance
  instance = record { block = 0; parent = 0; process = 1; cells = fresh_cells (block_numbered sc.blocks 0) []; left = false }

  abbrev first : World
  first = record { instances = instance ∷ []; processes = process ∷ []; output = []; fault = None }

  held_plain : AreAll IsPlain (held_in_rest rest)
  held_plain = (items_hold IsPlain simple_plain false sc (items_of (block_numbered sc.blocks 0))).0

  abbrev nobody : Stack
  nobody = record { own = []; evaluations = []; critical = None; live = false }

  stacks : (P : ℕ → Stack → Type 0) → P 0 nobody → P 1 (stack_of process) → (k : ℕ) (z : Stack) → slice_get (skeleton first).stacks k ≡ Some z → P k z
  stacks P f g zero z e = let same : nobody ≡ z = cc in subst (λ s. P 0 s) same f
  stacks P f g (suc zero) z e = let same : stack_of process ≡ z = cc in subst (λ s. P 1 s) same g
  stacks P f g (suc (suc k)) z e = none_some e

  processes : (P : ℕ → Process → Type 0) → P 1 process → (k : ℕ) (q : Process) → numbered first.processes k ≡ Some q → P k q
  processes P f zero q e = none_some e
  processes P f (suc zero) q e = let same : process ≡ q = cc in subst (λ s. P 1 s) same f
  processes P f (suc (suc k)) q e = none_some e

  instances : (P : ℕ → Instance → Type 0) → P 1 instance → (k : ℕ) (x : Instance) → numbered first.instances k ≡ Some x → P k x
  instances P f zero x e = none_some e
  instances P f (suc zero) x e = let same : instance ≡ x = cc in subst (λ s. P 1 s) same f
  instances P f (suc (suc k)) x e = none_some e

  stands : IsStanding first 1
  stands = record { number = 1; stack = stack_of process; is = refl; inside = ◌⊎◌.inl refl }

  no_refs : (i : ℕ) (h : Home) (r : ℕ) → slice_get (skeleton first).homes i ≡ Some h → IsInSkeleton h.refs r → ⊥
  no_refs zero h r e n = let same : record { refs = []; process = 0 } ≡ h = cc in subst (λ (g : Home). IsInSkeleton g.refs r) (sym same) n
  no_refs (suc zero) h r e n =
      let same : home_of instance ≡ h = cc in
      fresh_refs (block_numbered sc.blocks 0) [] r (subst (λ (g : Home). IsInSkeleton g.refs r) (sym same) n)
  no_refs (suc (suc k)) h r e n = none_some e

  holds : (e : Evaluation) → IsEvaluated (held_by (part ∷ [])) e → IsInSkeleton (1 ∷ []) e.over × IsOnPath first e.over e.within
  holds e n = by (evaluated_either 1 (1 ∷ referred_by (held_in_rest rest)) [] e n)
    where
      path : e.over ≡ 1 → IsInSkeleton (1 ∷ referred_by (held_in_rest rest)) e.within → IsOnPath first e.over e.within
      path f (◌⊎◌.inl g) = subst (λ i. IsOnPath first e.over i) (f ∙ g) here
      path f (◌⊎◌.inr m) = absurd (plain_refs (held_in_rest rest) e.within held_plain m)

      by : ((e.over ≡ 1) × IsInSkeleton (1 ∷ referred_by (held_in_rest rest)) e.within) ⊎ IsEvaluated [] e → IsInSkeleton (1 ∷ []) e.over × IsOnPath first e.over e.within
      by (◌⊎◌.inl f) = (◌⊎◌.inl (sym f.0), path f.0 f.1)
      by (◌⊎◌.inr m) = absurd m

  true_false : {A : Type 0} → false ≡ true → A
  true_false e = cc

  skeleton_first : SkeletonOk (skeleton first)
  skeleton_first =
      record {
        owned = stacks (λ k z. Owned (skeleton first).homes k z.own) tt (home_of instance, refl, refl, λ b n. absurd n, tt);
        ended = stacks (λ k z. z.live ≡ false → z.own ≡ []) (λ e. refl) (λ e. true_false (sym e));
        known = λ i h r e n. absurd (no_refs i h r e n);
        refers = λ i h r st e n. absurd (no_refs i h r e n);
        evaluates = λ k z e g n. stacks (λ k z. IsEvaluated z.evaluations e → IsInSkeleton z.own e.over × IsOnPath first e.over e.within) (λ m. absurd m) (λ m. holds e m) k z g n;
        holds = λ k z c g. stacks (λ k z. z.live ≡ true → z.critical ≡ Some c → IsStanding first c) (λ e f. true_false e) (λ e f. none_some f) k z g;
      }

  part_first : PartOk sc IsWholeInstance first part
  part_first =
      record {
        text = declared_keeps (BlockIsSeen sc 0) (IsInner sc 0) (IsSeenAround sc 0) sc (items_of (block_numbered sc.blocks 0)) o.text;
        narrow = λ e. true_false e;
        names = λ m n. absurd (plain_names (held_in_rest rest) m held_plain n);
      }

  process_first : ProcessOk sc IsWholeInstance first process
  process_first =
      record {
        parts = parts;
        heads = λ live. record { part = part; outer = []; is = refl; acts = acts; wait = λ x n. absurd n };
        gives = (items_hold IsPlain simple_plain false sc (items_of (block_numbered sc.blocks 0))).1;
        awaited = λ r n. absurd n;
        few = (omega (arith), omega (arith));
      }
    where
      parts : (x : Part) → IsAmongParts (part ∷ []) x → PartOk sc IsWholeInstance first x
      parts x (◌⊎◌.inl e) = subst (λ y. PartOk sc IsWholeInstance first y) e part_first
      parts x (◌⊎◌.inr n) = absurd n

  instance_first : InstanceOk sc IsWholeInstance first 1 instance
  instance_first =
      record {
        left = (λ e. stands, λ st. refl);
        known = o.known;
        placed = outermost refl o.outermost;
        whole = λ st h. absurd (omega (arith, h));
        actuals = λ m st n. absurd (fresh_names (block_numbered sc.blocks 0) [] m n);
      }

  no_event : (i : ℕ) (name : List ℕ) (e : EventState) → cell_in ((instance_at first i).cells) name ≡ event e → ⊥
  no_event zero name e f = cc
  no_event (suc zero) name e f = fresh_no_event (block_numbered sc.blocks 0) [] tt name e f
  no_event (suc (suc k)) name e f = cc

  first_ok : IsSound sc IsWholeInstance first
  first_ok =
      record {
        skeleton_ok = skeleton_first;
        instances = instances (λ i x. InstanceOk sc IsWholeInstance first i x) instance_first;
        processes = processes (λ k q. ProcessOk sc IsWholeInstance first q) process_first;
        older = λ k c q e. processes (λ k q. lives q.state ≡ true → q.critical ≡ Some c → (i : ℕ) → IsOwn q.todo i → c < i) (λ live f. none_some f) k q e;
        first = λ q e. processes (λ k q. (q.critical ≡ None) × (q.task ≡ None)) (refl, refl) 1 q e;
        later = λ k q e. none_some e;
        criticals = λ k c q e. processes (λ k q. q.critical ≡ Some c → c ≤ 1) (λ f. none_some f) k q e;
        earlier = λ k c q e. processes (λ k q. q.critical ≡ Some c → (instance_at first c).process < k) (λ f. none_some f) k q e;
        tasks = λ k c q r e. processes (λ k q. lives q.state ≡ true → q.critical ≡ Some c → q.task ≡ Some r → IsOnPath first c r.instance) (λ live f. none_some f) k q e;
        listed = λ r e st f. absurd (no_event r.instance r.name e f);
      }

  -- its outer block has the only instance
  first_low : (i : ℕ) → IsMaking first i → IsLow sc first i
  first_low i m =
      record {
        instances = λ j x e. instances (λ k y. y.left ≡ false → InstanceLow sc b i y) (λ s. record { childless = other; cells = fresh_low sc b i (block_numbered sc.blocks 0) [] tt }) j x e;
        parts = λ k q y e. processes (λ k z. IsAmongParts z.todo y → PartLow sc b i y) (λ n. in_part y n) k q e;
        tasks = λ k q r e. processes (λ k z. z.task ≡ Some r → LeadsLow sc b i r) (λ f. none_some f) k q e;
      }
    where
      b : ℕ
      b = (instance_at first i).block

      only : (y : Part) → IsAmongParts (part ∷ []) y → y.instance ≡ 1
      only y (◌⊎◌.inl f) = ap (λ (z : Part). z.instance) (sym f)
      only y (◌⊎◌.inr n) = absurd n

      one : i ≡ 1
      one = sym m.instance_is ∙ processes (λ k z. IsAmongParts z.todo m.part → m.part.instance ≡ 1) (λ n. only m.part n) m.number m.process m.is m.among

      other : 0 ≡ i → ⊥
      other f = let at = one in omega (arith, f, at)

      part_low : PartLow sc b i part
      part_low =
          record {
            holds = low_all sc b i (Unit {0}) (held_in_rest rest)
                (items_hold (Low sc b i (Unit {0})) (plain_low sc b i (Unit {0})) false sc (items_of (block_numbered sc.blocks 0))).0 tt;
            narrow = λ e f. true_false e;
          }

      in_part : (y : Part) → IsAmongParts (part ∷ []) y → PartLow sc b i y
      in_part y (◌⊎◌.inl f) = subst (λ z. PartLow sc b i z) f part_low
      in_part y (◌⊎◌.inr n) = absurd n

pub first_world_low : (sc : Scopes) → HasOuterBlock sc → (ask (settle_items sc (items_of (block_numbered sc.blocks 0))) ≡ nothing → ⊥) → (i : ℕ) → IsMaking (start sc) i →
    IsLow sc (start sc) i
unfolding start
first_world_low sc o acts = first_low sc o acts

pub first_world : (sc : Scopes) → HasOuterBlock sc → (ask (settle_items sc (items_of (block_numbered sc.blocks 0))) ≡ nothing → ⊥) → IsSound sc IsWholeInstance (start sc)
unfolding start
first_world sc o acts = first_ok sc o acts
