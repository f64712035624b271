-- Paths stay where each process keeps its stack but for its newest instances, and depends on the instance on which it depended.
use Rattle.std.proofs.Common.{◌≡◌, ◌≢◌, ◌⊎◌, inl, inr, refl, sym, ap, ◌∙◌, subst, ℕ, zero, suc, List, [], ◌∷◌, ◌++◌, Option, Some, false}
use Rattle.b67_list.proofs.Lists.{get_front}
use Rattle.b67_list.proofs.Numbered.{numbered_set}
use Rattle.b67_list.proofs.Numbers.{none_some}
use Rattle.b67_frames.proofs.Prelude.{numbered, set_numbered, own_instances, Process, World, below_in, AllPairs, numbered_forth, IsInSkeleton, here, down, IsStanding, IsOnPath, skeleton, some_same, same_or_not, numbered_other}
use Rattle.algol_standing.specs.Skeleton.{Stack, NextIn, SkeletonNext}
use Rattle.algol_standing.specs.Worlds.{stack_of}
use Rattle.algol_standing.proofs.Pairs.{stack_forth, stack_back}
use Rattle.b67_frames.proofs.Facts.{HasFacts}

-- the process with this number has the instances of the other but for some newer ones, which stand no more, and others in their place
pub record KeepsStack (w' : World) (k : ℕ) (q : Process) : Type 0 where
  pub process : Process
  pub is : numbered w'.processes k ≡ Some process
  pub critical : process.critical ≡ q.critical
  pub newer : List ℕ
  pub others : List ℕ
  pub rest : List ℕ
  pub own : own_instances q.todo ≡ newer ++ rest
  pub own_then : own_instances process.todo ≡ others ++ rest
  pub gone : (i : ℕ) → IsInSkeleton newer i → IsStanding w' i → ⊥

-- with as many instances, with more, and with fewer
pub keeps_all : (w' : World) (k : ℕ) (q q' : Process) → numbered w'.processes k ≡ Some q' → q'.critical ≡ q.critical → own_instances q'.todo ≡ own_instances q.todo → KeepsStack w' k q
keeps_all w' k q q' is critical own =
    record { process = q'; is = is; critical = critical; newer = []; others = []; rest = own_instances q.todo; own = refl; own_then = own; gone = λ i inside st. absurd inside }

pub keeps_more : (w' : World) (k : ℕ) (q q' : Process) (others : List ℕ) → numbered w'.processes k ≡ Some q' → q'.critical ≡ q.critical → own_instances q'.todo ≡ others ++ own_instances q.todo → KeepsStack w' k q
keeps_more w' k q q' others is critical own =
    record { process = q'; is = is; critical = critical; newer = []; others = others; rest = own_instances q.todo; own = refl; own_then = own; gone = λ i inside st. absurd inside }

pub keeps_fewer : (w' : World) (k : ℕ) (q q' : Process) (newer : List ℕ) → numbered w'.processes k ≡ Some q' → q'.critical ≡ q.critical → own_instances q.todo ≡ newer ++ own_instances q'.todo →
    ((i : ℕ) → IsInSkeleton newer i → IsStanding w' i → ⊥) → KeepsStack w' k q
keeps_fewer w' k q q' newer is critical own gone =
    record { process = q'; is = is; critical = critical; newer = newer; others = []; rest = own_instances q'.todo; own = own; own_then = refl; gone = gone }

-- ---- the processes of the world after a change

-- they depend on the same, and have the same instances
abbrev pub AreAlike : Process → Process → Type 0
AreAlike q q' = (q'.critical ≡ q.critical) × (own_instances q'.todo ≡ own_instances q.todo)

-- each of the former has one alike among the latter
abbrev pub HaveAlike : List Process → List Process → Type 0
HaveAlike xs ys = (k : ℕ) (q : Process) → numbered xs k ≡ Some q → (q' : Process) × (numbered ys k ≡ Some q') × AreAlike q q'

pub alike_pairs : (xs ys : List Process) → AllPairs AreAlike xs ys → HaveAlike xs ys
alike_pairs xs ys pairs k q e = numbered_forth AreAlike xs ys k q pairs e

pub alike_self : (xs : List Process) → HaveAlike xs xs
alike_self xs k q e = (q, e, (refl, refl))

-- more may come after them
pub alike_front : (xs more : List Process) → HaveAlike xs (xs ++ more)
alike_front xs more zero q e = none_some e
alike_front xs more (suc k) q e = (q, get_front xs more k q e, (refl, refl))

pub each_alike : (w w' : World) → HaveAlike w.processes w'.processes → (k : ℕ) (q : Process) → numbered w.processes k ≡ Some q → KeepsStack w' k q
each_alike w w' alike k q e = let o = alike k q e in keeps_all w' k q o.0 o.1 (o.2).0 (o.2).1

-- All but process p are alike.
pub each_but : (w w' : World) (p : ℕ) (q q' : Process) (ps : List Process) → numbered w.processes p ≡ Some q → HaveAlike w.processes ps → w'.processes ≡ set_numbered ps p q' →
    (numbered w'.processes p ≡ Some q' → KeepsStack w' p q) → (k : ℕ) (r : Process) → numbered w.processes k ≡ Some r → KeepsStack w' k r
each_but w w' p q q' ps at alike after acted k r e = by_number (same_or_not k p)
  where
    there : (o : Process) (j : ℕ) → numbered (set_numbered ps p q') j ≡ Some o → numbered w'.processes j ≡ Some o
    there o j f = ap (λ (xs : List Process). numbered xs j) after ∙ f

    by_number : (k ≡ p) ⊎ (k ≢ p) → KeepsStack w' k r
    by_number (inl same) =
        let o = alike p q at in
        let acts : q ≡ r = some_same (sym at ∙ ap (λ (j : ℕ). numbered w.processes j) (sym same) ∙ e) in
        subst (λ (j : ℕ). KeepsStack w' j r) (sym same) (subst (λ (x : Process). KeepsStack w' p x) acts (acted (there q' p (numbered_set ps p o.0 q' o.1))))
    by_number (inr other) =
        let o = alike k r e in
        keeps_all w' k r o.0 (there o.0 k (numbered_other ps p k q' (λ (x : p ≡ k). other (sym x)) ∙ o.1)) (o.2).0 (o.2).1

-- ---- paths

-- what lies below an instance that is none of the newer ones
next_rest : (c : Option ℕ) (newer rest : List ℕ) (a b : ℕ) → (IsInSkeleton newer a → ⊥) → NextIn c (newer ++ rest) a b → NextIn c rest a b
next_rest c [] rest a b other n = n
next_rest c (x ∷ []) [] a b other n = absurd (other (inl n.0))
next_rest c (x ∷ []) (y ∷ rest) a b other (inl n) = absurd (other (inl n.0))
next_rest c (x ∷ []) (y ∷ rest) a b other (inr n) = n
next_rest c (x ∷ y ∷ newer) rest a b other (inl n) = absurd (other (inl n.0))
next_rest c (x ∷ y ∷ newer) rest a b other (inr n) = next_rest c (y ∷ newer) rest a b (λ inside. other (inr inside)) n

-- .. lies there below others
next_below : (c : Option ℕ) (others rest : List ℕ) (a b : ℕ) → NextIn c rest a b → NextIn c (others ++ rest) a b
next_below c [] rest a b n = n
next_below c (x ∷ []) [] a b n = absurd n
next_below c (x ∷ []) (y ∷ rest) a b n = inr n
next_below c (x ∷ y ∷ others) rest a b n = inr (next_below c (y ∷ others) rest a b n)

module _ (w w' : World) (before : HasFacts w) (after : HasFacts w') (each : (k : ℕ) (q : Process) → numbered w.processes k ≡ Some q → KeepsStack w' k q) where
  -- from an instance that stands after it the same lies next
  next_then : (a b : ℕ) → IsStanding w' a → SkeletonNext (skeleton w) a b → SkeletonNext (skeleton w') a b
  next_then a b later n = by_stack (stack_back w n.number n.stack n.is)
    where
      by_stack : ((n.stack.own ≡ []) × (n.stack.evaluations ≡ []) × (n.stack.live ≡ false)) ⊎ ((q : Process) × (numbered w.processes n.number ≡ Some q) × (n.stack ≡ stack_of q)) → SkeletonNext (skeleton w') a b
      by_stack (inl none) = absurd (subst (λ (own : List ℕ). IsInSkeleton own a) none.0 (below_in n.stack.critical n.stack.own a b n.next))
      by_stack (inr q) =
          let k : KeepsStack w' n.number q.0 = each n.number q.0 q.1 in
          let next : NextIn (q.0).critical (own_instances (q.0).todo) a b = subst (λ (s : Stack). NextIn s.critical s.own a b) q.2 n.next in
          let rest : NextIn (q.0).critical k.rest a b = next_rest (q.0).critical k.newer k.rest a b (λ inside. k.gone a inside later) (subst (λ (own : List ℕ). NextIn (q.0).critical own a b) k.own next) in
          record {
            number = n.number;
            stack = stack_of k.process;
            is = stack_forth w' n.number k.process k.is;
            next = subst (λ (c : Option ℕ). NextIn c (own_instances k.process.todo) a b) (sym k.critical)
                (subst (λ (own : List ℕ). NextIn (q.0).critical own a b) (sym k.own_then) (next_below (q.0).critical k.others k.rest a b rest));
          }

  -- so the path from it is the same
  pub paths_stay : (a b : ℕ) → IsStanding w a → IsStanding w' a → IsOnPath w a b → IsOnPath w' a b
  paths_stay a b st later here = here
  paths_stay a b st later (down {b = c} n path) =
      let next : SkeletonNext (skeleton w') a c = next_then a c later n in
      down next (paths_stay c b (before.on_path a c st (down n here)) (after.on_path a c later (down next here)) path)
