-- The first instance on a process's path of those that are referred to is the one that the walk down the numbers finds.
use Rattle.std.proofs.Common.{◌≡◌, ◌⊎◌, ℕ, zero, suc, ◌+◌, ◌<◌, ◌≤◌, List, [], ◌∷◌, ◌++◌, length, Option, Some, None, Bool, true, false, refl, sym, ap, ◌∙◌, subst, arith, length-append, append_assoc}
use Rattle.std.specs.Prelude.{slice_get, if◌then◌else◌, ◌==◌, ◌&&◌, ◌||◌, not}
use Rattle.b67_list.specs.Numbered.{numbered}
use Rattle.b67_list.proofs.Lists.{length_map}
use Rattle.b67_list.proofs.Numbers.{none_some, number_itself, same_number}
use Rattle.b67_list.proofs.Truths.{and_both, not_false, not_true_is, or_either, or_left, or_right}
use Rattle.algol_tree.specs.Scopes.{Scopes}
use Rattle.algol_meaning.specs.World.{Instance, or_no_instance, instance_at, Part, Process, or_no_process, process_at, lives, World}
use Rattle.algol_meaning.specs.Critical.{is_this, is_evaluation, own_instances, NumberedInstance, newest_first, process_is_one_of, first_on_path}
use Rattle.algol_standing.specs.Skeleton.{Stack, Home, IsInSkeleton, NextIn, FirstOf, this, further}
use Rattle.algol_standing.specs.Worlds.{home_of, newest_own, stack_of, skeleton, IsStanding, IsOwn, IsWholeInstance, IsSound}
use Rattle.algol_standing.proofs.Lists.{some_same, get_seam, same_or_other}
use Rattle.algol_standing.proofs.Standing.{home_stands, stands_small, lives as stack_lives}
use Rattle.algol_standing.proofs.Shrink.{next_in}
use Rattle.algol_standing.proofs.Firsts.{below_in}
use Rattle.algol_standing.proofs.PathOrder.{and_true, one_of_true, one_of_back, this_true, this_back, lower, between}
use Rattle.algol_standing.proofs.Pairs.{stack_forth, stack_back, home_forth}
use Rattle.algol_standing.proofs.Seen.{there, instance_is}

-- ---- the list of all instances, the newest first

abbrev down_from : World → ℕ → List NumberedInstance
down_from w zero = []
down_from w (suc k) = record { number = suc k; of = instance_at w (suc k) } ∷ down_from w k

newest_down : (w : World) (xs front : List Instance) → w.instances ≡ front ++ xs → newest_first (suc (length front)) xs (down_from w (length front)) ≡ down_from w (length w.instances)
newest_down w [] front e = ap (λ k. down_from w k) all
  where
    all : length front ≡ length w.instances
    all = let f = ap length e in let g = length-append front [] in omega (arith, f, g)
newest_down w (x ∷ xs) front e =
    ap (λ k. newest_first k xs (record { number = suc (length front); of = x } ∷ down_from w (length front))) next_is
    ∙ (ap (λ l. newest_first (suc (length (front ++ x ∷ []))) xs l) here ∙ newest_down w xs (front ++ x ∷ []) (e ∙ sym (append_assoc front (x ∷ []) xs)))
  where
    longer : length (front ++ x ∷ []) ≡ length front + 1
    longer = length-append front (x ∷ [])

    next_is : suc (length front) + 1 ≡ suc (length (front ++ x ∷ []))
    next_is = let f = longer in omega (arith, f)

    number_is : suc (length front) ≡ length (front ++ x ∷ [])
    number_is = let f = longer in omega (arith, f)

    at : instance_at w (suc (length front)) ≡ x
    at = ap (λ zs. or_no_instance (slice_get zs (length front))) e ∙ ap or_no_instance (get_seam front x xs)

    here : record { number = suc (length front); of = x } ∷ down_from w (length front) ≡ down_from w (length (front ++ x ∷ []))
    here = ap (λ z. record { number = suc (length front); of = z } ∷ down_from w (length front)) (sym at) ∙ ap (λ k. down_from w k) number_is

module _ (sc : Scopes) (w : World) (ok : IsSound sc IsWholeInstance w) where
  -- it stands in the stack of the process, or is its critical instance
  abbrev IsOn : Process → ℕ → Type 0
  IsOn q m = IsInSkeleton (own_instances q.todo) m ⊎ (q.critical ≡ Some m)

  on_stands : (p : ℕ) (q : Process) → numbered w.processes p ≡ Some q → lives q.state ≡ true → (m : ℕ) → IsOn q m → IsStanding w m
  on_stands p q is live m (◌⊎◌.inl n) = record { number = p; stack = stack_of q; is = stack_forth w p q is; inside = n }
  on_stands p q is live m (◌⊎◌.inr e) = ok.skeleton_ok.holds p (stack_of q) m (stack_forth w p q is) live e

  -- the test of the walk
  abbrev on_test : ℕ → ℕ → Bool
  on_test p m = (((instance_at w m).process == p) && not (instance_at w m).left) || is_this ((process_at w p).critical) m

  pub home_process : (m : ℕ) (st : IsStanding w m) → (instance_at w m).process ≡ st.number
  home_process m st =
      let h = home_stands (skeleton w) ok.skeleton_ok m st in
      let x = there sc IsWholeInstance w ok m st in
      let same : h.0 ≡ home_of x.0 = some_same h.1 (home_forth w m x.0 x.1) in
      ap (λ (y : Instance). y.process) (instance_is sc IsWholeInstance w ok m x.0 x.1) ∙ (ap (λ (g : Home). g.process) (sym same) ∙ h.2)

  not_left : (m : ℕ) → IsStanding w m → (instance_at w m).left ≡ false
  not_left m st = let x = there sc IsWholeInstance w ok m st in ap (λ (y : Instance). y.left) (instance_is sc IsWholeInstance w ok m x.0 x.1) ∙ (ok.instances m x.0 x.1).left.1 st

  left_stands : (m : ℕ) → (instance_at w m).left ≡ false → IsStanding w m
  left_stands m e = by (numbered w.instances m) refl
    where
      by : (o : Option Instance) → numbered w.instances m ≡ o → IsStanding w m
      by None f = absurd (let g : true ≡ false = sym (ap (λ o. (or_no_instance o).left) f) ∙ e in cc)
      by (Some x) f = (ok.instances m x f).left.0 (sym (ap (λ o. (or_no_instance o).left) f) ∙ e)

  module _ (p : ℕ) (q : Process) (is : numbered w.processes p ≡ Some q) (live : lives q.state ≡ true) where
    at_p : process_at w p ≡ q
    at_p = ap or_no_process is

    on_true : (m : ℕ) → IsOn q m → on_test p m ≡ true
    on_true m (◌⊎◌.inl n) =
        let st : IsStanding w m = record { number = p; stack = stack_of q; is = stack_forth w p q is; inside = n } in
        or_left (((instance_at w m).process == p) && not (instance_at w m).left) (is_this ((process_at w p).critical) m)
        (and_true ((instance_at w m).process == p) (not (instance_at w m).left) (subst (λ k. ((instance_at w m).process == k) ≡ true) (home_process m st) (number_itself ((instance_at w m).process)))
        (not_false ((instance_at w m).left) (not_left m st)))
    on_true m (◌⊎◌.inr e) =
        or_right (((instance_at w m).process == p) && not (instance_at w m).left) (is_this ((process_at w p).critical) m)
        (this_true ((process_at w p).critical) m (ap (λ (z : Process). z.critical) at_p ∙ e))

    on_back : (m : ℕ) → on_test p m ≡ true → IsOn q m
    on_back m e = by (or_either (((instance_at w m).process == p) && not (instance_at w m).left) (is_this ((process_at w p).critical) m) e)
      where
        in_own : (st : IsStanding w m) → st.number ≡ p → IsOn q m
        in_own st f =
            let same : st.stack ≡ stack_of q = some_same st.is (ap (λ k. slice_get (skeleton w).stacks k) f ∙ stack_forth w p q is) in
            ◌⊎◌.inl (subst (λ (z : Stack). IsInSkeleton z.own m) same st.inside)

        by : ((((instance_at w m).process == p) && not (instance_at w m).left) ≡ true) ⊎ (is_this ((process_at w p).critical) m ≡ true) → IsOn q m
        by (◌⊎◌.inl f) =
            let g = and_both ((instance_at w m).process == p) (not (instance_at w m).left) f in
            let st = left_stands m (not_true_is ((instance_at w m).left) g.1) in
            in_own st (sym (home_process m st) ∙ same_number ((instance_at w m).process) p g.0)
        by (◌⊎◌.inr f) = ◌⊎◌.inr (ap (λ (z : Process). z.critical) (sym at_p) ∙ this_back ((process_at w p).critical) m f)

  -- the newest of those that are no newer than k and lie on the path from the top of the process
  record IsTop (k : ℕ) (q : Process) (a : ℕ) : Type 0 where
    low : a ≤ k
    on : IsOn q a
    none : (m : ℕ) → m ≤ k → a < m → IsOn q m → ⊥

  own_older : (p : ℕ) (q : Process) → numbered w.processes p ≡ Some q → lives q.state ≡ true → (d i : ℕ) → q.critical ≡ Some d → IsInSkeleton (own_instances q.todo) i → d < i
  own_older p q is live d i e n = ok.older p d q is live e i (own_of q.todo n)
    where
      own_of : (parts : List Part) → IsInSkeleton (own_instances parts) i → IsOwn parts i
      own_of [] m = absurd m
      own_of (x ∷ parts) m = by (is_evaluation x.purpose) refl m (own_of parts)
        where
          by : (b : Bool) → is_evaluation x.purpose ≡ b → IsInSkeleton (if b then own_instances parts else x.instance ∷ own_instances parts) i → (IsInSkeleton (own_instances parts) i → IsOwn parts i) →
              IsOwn (x ∷ parts) i
          by true f l g = ◌⊎◌.inr (g l)
          by false f (◌⊎◌.inl h) g = ◌⊎◌.inl (f, h)
          by false f (◌⊎◌.inr l) g = ◌⊎◌.inr (g l)

  -- the next one down is the newest below
  next_top : (k p : ℕ) (q : Process) (a b : ℕ) → numbered w.processes p ≡ Some q → lives q.state ≡ true → a ≡ suc k → NextIn q.critical (own_instances q.todo) a b → IsTop k q b
  next_top k p q a b is live e n =
      record {
        low = let h = order.0 in omega (arith, h, e);
        on = on (next_in q.critical (own_instances q.todo) a b n);
        none = λ m h g o. order.1 m o g (let f = h in omega (arith, f, e));
      }
    where
      order : (b < a) × ((m : ℕ) → IsInSkeleton (own_instances q.todo) m ⊎ (q.critical ≡ Some m) → b < m → m < a → ⊥)
      order = between (skeleton w).homes p q.critical (own_instances q.todo) a b (ok.skeleton_ok.owned p (stack_of q) (stack_forth w p q is)) (own_older p q is live) n

      on : IsInSkeleton (own_instances q.todo) b ⊎ (q.critical ≡ Some b) → IsOn q b
      on m = m

  module _ (wanted : List ℕ) where
    -- the walk from further down
    abbrev Again : ℕ → ℕ → Type 0
    Again k d =
        (p : ℕ) (q : Process) (a : ℕ) → numbered w.processes p ≡ Some q → lives q.state ≡ true → IsTop k q a → FirstOf (skeleton w) wanted a d →
        first_on_path w (down_from w k) p wanted ≡ d

    -- the walk is there
    found : (k a d : ℕ) → Again k d → a ≡ suc k → FirstOf (skeleton w) wanted a d →
        (if process_is_one_of wanted (suc k) then suc k else first_on_path w (down_from w k) ((instance_at w (suc k)).process) wanted) ≡ d
    found k a d again e (this n) =
        ap (λ b. if b then suc k else first_on_path w (down_from w k) ((instance_at w (suc k)).process) wanted) (one_of_true wanted (suc k) (subst (λ i. IsInSkeleton wanted i) e n)) ∙ sym e
    found k a d again e (further {b = b} out n g) =
        ap (λ t. if t then suc k else first_on_path w (down_from w k) ((instance_at w (suc k)).process) wanted) (one_of_false (process_is_one_of wanted (suc k)) refl)
        ∙ (ap (λ i. first_on_path w (down_from w k) i wanted) process_is ∙ down (stack_back w n.number n.stack n.is))
      where
        one_of_false : (t : Bool) → process_is_one_of wanted (suc k) ≡ t → process_is_one_of wanted (suc k) ≡ false
        one_of_false true h = absurd (out (subst (λ i. IsInSkeleton wanted i) (sym e) (one_of_back wanted (suc k) h)))
        one_of_false false h = h

        st : IsStanding w a
        st = record { number = n.number; stack = n.stack; is = n.is; inside = below_in n.stack.critical n.stack.own a b n.next }

        process_is : (instance_at w (suc k)).process ≡ n.number
        process_is = ap (λ i. (instance_at w i).process) (sym e) ∙ home_process a st

        lived : (y : Process) → numbered w.processes n.number ≡ Some y → (xs : List ℕ) → own_instances y.todo ≡ xs → IsInSkeleton xs a → lives y.state ≡ true
        lived y h [] i m = absurd m
        lived y h (x ∷ xs) i m = stack_lives (skeleton w) ok.skeleton_ok n.number (stack_of y) x xs (stack_forth w n.number y h) i

        down : ((n.stack.own ≡ []) × (n.stack.evaluations ≡ []) × (n.stack.live ≡ false)) ⊎ ((y : Process) × (numbered w.processes n.number ≡ Some y) × (n.stack ≡ stack_of y)) →
            first_on_path w (down_from w k) n.number wanted ≡ d
        down (◌⊎◌.inl h) = absurd (subst (λ xs. IsInSkeleton xs a) h.0 (below_in n.stack.critical n.stack.own a b n.next))
        down (◌⊎◌.inr h) =
            let next : NextIn (h.0).critical (own_instances (h.0).todo) a b = subst (λ (z : Stack). NextIn z.critical z.own a b) h.2 n.next in
            let lives_on : lives (h.0).state ≡ true = lived h.0 h.1 (own_instances (h.0).todo) refl (below_in (h.0).critical (own_instances (h.0).todo) a b next) in
            again n.number h.0 b h.1 lives_on (next_top k n.number h.0 a b h.1 lives_on e next) g

    walk : (k p : ℕ) (q : Process) (a d : ℕ) → numbered w.processes p ≡ Some q → lives q.state ≡ true → IsTop k q a → FirstOf (skeleton w) wanted a d →
        first_on_path w (down_from w k) p wanted ≡ d
    walk zero p q a d is live top f = absurd (nothing_there (on_stands p q is live a top.on) (let l = top.low in omega (arith, l)))
      where
        nothing_there : IsStanding w a → a ≡ 0 → ⊥
        nothing_there st e = let x = there sc IsWholeInstance w ok a st in none_some (ap (λ i. numbered w.instances i) (sym e) ∙ x.1)
    walk (suc k) p q a d is live top f = by (λ p q a is live top f. walk k p q a d is live top f) (same_or_other a (suc k))
      where
        older : List NumberedInstance
        older = down_from w k

        here : Again k d → a ≡ suc k → first_on_path w (down_from w (suc k)) p wanted ≡ d
        here again e =
            ap
            (λ b. if b then (if process_is_one_of wanted (suc k) then suc k else first_on_path w older ((instance_at w (suc k)).process) wanted) else first_on_path w older p wanted)
            (on_true p q is live (suc k) (subst (λ i. IsOn q i) e top.on))
            ∙ found k a d again e f

        -- .. or goes by
        past : Again k d → (a ≡ suc k → ⊥) → first_on_path w (down_from w (suc k)) p wanted ≡ d
        past again other =
            ap
            (λ b. if b then (if process_is_one_of wanted (suc k) then suc k else first_on_path w older ((instance_at w (suc k)).process) wanted) else first_on_path w older p wanted)
            (off (on_test p (suc k)) refl)
            ∙ again p q a is live (record { low = low; on = top.on; none = λ m h g o. top.none m (let l = h in omega (arith, l)) g o }) f
          where
            low : a ≤ k
            low = let l = top.low in omega (arith, l, other)

            off : (b : Bool) → on_test p (suc k) ≡ b → on_test p (suc k) ≡ false
            off true e = absurd (top.none (suc k) (omega arith) (let l = low in omega (arith, l)) (on_back p q is live (suc k) e))
            off false e = e

        by : Again k d → (a ≡ suc k) ⊎ (a ≡ suc k → ⊥) → first_on_path w (down_from w (suc k)) p wanted ≡ d
        by again (◌⊎◌.inl e) = here again e
        by again (◌⊎◌.inr other) = past again other

    pub first_found : (p : ℕ) (q : Process) (r : List ℕ) (d : ℕ) → numbered w.processes p ≡ Some q → lives q.state ≡ true → own_instances q.todo ≡ newest_own q.todo ∷ r →
        FirstOf (skeleton w) wanted (newest_own q.todo) d → first_on_path w (newest_first 1 w.instances []) p wanted ≡ d
    first_found p q r d is live own f =
        ap (λ l. first_on_path w l p wanted) (newest_down w w.instances [] refl) ∙ walk (length w.instances) p q (newest_own q.todo) d is live top f
      where
        at_top : IsInSkeleton (own_instances q.todo) (newest_own q.todo)
        at_top = subst (λ xs. IsInSkeleton xs (newest_own q.todo)) (sym own) (◌⊎◌.inl refl)

        highest : (m : ℕ) → IsOn q m → m ≤ newest_own q.todo
        highest m (◌⊎◌.inl n) = lower (skeleton w).homes p q.critical (own_instances q.todo) m (ok.skeleton_ok.owned p (stack_of q) (stack_forth w p q is)) n (newest_own q.todo) r own
        highest m (◌⊎◌.inr e) = let h = own_older p q is live m (newest_own q.todo) e at_top in omega (arith, h)

        top : IsTop (length w.instances) q (newest_own q.todo)
        top =
            record {
              low =
                  let h = stands_small (skeleton w) ok.skeleton_ok (newest_own q.todo) (on_stands p q is live (newest_own q.todo) (◌⊎◌.inl at_top)) in
                  let n = length_map home_of w.instances in
                  omega (arith, h, n);
              on = ◌⊎◌.inl at_top;
              none = λ m h g o. let l = highest m o in absurd (omega (arith, g, l));
            }
