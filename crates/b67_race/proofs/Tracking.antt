-- The clocks after one entry more.
use Rattle.std.proofs.Common.{arith, ◌≡◌, ◌⊎◌, inl, inr, refl, sym, ap, ◌∙◌, subst, ℕ, ◌+◌, ◌<◌, ◌≤◌, max, true, List, [], ◌∷◌, length}
use Rattle.b67_race.specs.Entries.{Signal, nothing, sets, goes_by, frees, takes, CellName, Done, touches, IsNumberedEntry}
use Rattle.b67_race.specs.Orders.{Directly, by_process, by_cause, by_liberate, Ordered, UpTo}
use Rattle.b67_race.specs.Clocks.{IsKnown, IsBehind, Tracks, by_signal, clock_joined, ClocksTell}
use Rattle.b67_race.proofs.Entries.{is_least, is_within, is_more, is_old, is_new, same_done}
use Rattle.b67_race.proofs.Stable.{longer, up_more, up_old, last_step, from_step, last_more, last_old}

-- ---- the greater of two clocks

pub above_left : (a b k : ℕ) → k ≤ a → k ≤ max a b
above_left a b k l = omega (arith, l)

pub above_right : (a b k : ℕ) → k ≤ b → k ≤ max a b
above_right a b k l = omega (arith, l)

pub above_either : (a b k : ℕ) → k ≤ max a b → (k ≤ a) ⊎ (k ≤ b)
above_either a b k l = grind (arith, l)

module _ (ds : List Done) (x : Done) where
  -- ---- the entries before the new one

  -- those that its signal adds
  abbrev pub IsBySignal : Signal → ℕ → Type 0
  IsBySignal (goes_by c) k = IsBehind ds (sets c) k
  IsBySignal (takes c) k = IsBehind ds (frees c) k
  IsBySignal s k = ⊥

  pub known_before : (k : ℕ) → IsKnown ds x.process k → Ordered (longer ds x) k (length ds + 1)
  known_before k n =
      let within : n.entry ≤ length ds = is_within ds n.entry n.done n.is in
      from_step (longer ds x) k n.entry (length ds + 1) (up_more ds x k n.entry n.up_to)
      (by_process n.done x (is_more ds (x ∷ []) n.entry n.done n.is) (is_new ds x) (omega (arith, within)) n.touches)

  signalled_before : (s : Signal) (k : ℕ) → x.signal ≡ s → IsBySignal s k → Ordered (longer ds x) k (length ds + 1)
  signalled_before (goes_by c) k e b =
      from_step (longer ds x) k b.entry (length ds + 1) (up_more ds x k b.entry b.up_to)
      (by_cause x c (is_new ds x) e (last_more ds x (sets c) b.entry (length ds + 1) (omega arith) b.last))
  signalled_before (takes c) k e b =
      from_step (longer ds x) k b.entry (length ds + 1) (up_more ds x k b.entry b.up_to)
      (by_liberate x c (is_new ds x) e (last_more ds x (frees c) b.entry (length ds + 1) (omega arith) b.last))
  signalled_before nothing k e b = absurd b
  signalled_before (sets c) k e b = absurd b
  signalled_before (frees c) k e b = absurd b

  -- who is directly before the new entry, by that entry's process or by its signal
  directly_new : (k i : ℕ) → UpTo (longer ds x) k i → Directly (longer ds x) i (length ds + 1) → IsKnown ds x.process k ⊎ IsBySignal x.signal k
  directly_new k i up (by_process d e is_d is_e less t) =
      let same : e ≡ x = same_done (longer ds x) (length ds + 1) e x is_e (is_new ds x) in
      let within : i ≤ length ds = omega (arith, less) in
      inl (record {
        entry = i;
        done = d;
        is = is_old ds (x ∷ []) i d within is_d;
        touches = subst (λ (y : Done). touches d y.process ≡ true) same t;
        up_to = up_old ds x k i within up;
      })
  directly_new k i up (by_cause e c is_e s l) =
      let same : e ≡ x = same_done (longer ds x) (length ds + 1) e x is_e (is_new ds x) in
      let sign : x.signal ≡ goes_by c = ap (λ (y : Done). y.signal) (sym same) ∙ s in
      let less : i < length ds + 1 = l.before in
      let within : i ≤ length ds = omega (arith, less) in
      inr (subst (λ (t : Signal). IsBySignal t k) (sym sign) (record {
        entry = i;
        last = last_old ds x (sets c) i (length ds + 1) (omega arith) l;
        up_to = up_old ds x k i within up;
      }))
  directly_new k i up (by_liberate e c is_e s l) =
      let same : e ≡ x = same_done (longer ds x) (length ds + 1) e x is_e (is_new ds x) in
      let sign : x.signal ≡ takes c = ap (λ (y : Done). y.signal) (sym same) ∙ s in
      let less : i < length ds + 1 = l.before in
      let within : i ≤ length ds = omega (arith, less) in
      inr (subst (λ (t : Signal). IsBySignal t k) (sym sign) (record {
        entry = i;
        last = last_old ds x (frees c) i (length ds + 1) (omega arith) l;
        up_to = up_old ds x k i within up;
      }))

  before_new : (k : ℕ) → Ordered (longer ds x) k (length ds + 1) → IsKnown ds x.process k ⊎ IsBySignal x.signal k
  before_new k o = let b = last_step (longer ds x) k (length ds + 1) o in directly_new k b.entry b.up_to b.directly

  -- ---- the clock before the new entry

  module _ (of_process : ℕ → ℕ → ℕ) (set_by freed_by : CellName → ℕ → ℕ) (t : Tracks ds of_process set_by freed_by) where
    signal_all : (s : Signal) (k : ℕ) (d : Done) → IsNumberedEntry ds k d → IsBySignal s k → k ≤ by_signal s set_by freed_by d.process
    signal_all (goes_by c) k d is b = (t.set c).all k d is b
    signal_all (takes c) k d is b = (t.freed c).all k d is b
    signal_all nothing k d is b = absurd b
    signal_all (sets c) k d is b = absurd b
    signal_all (frees c) k d is b = absurd b

    none_below : {A : Type 0} (k : ℕ) (d : Done) → IsNumberedEntry ds k d → k ≤ 0 → A
    none_below k d is l = let least : 1 ≤ k = is_least ds k d is in absurd (omega (arith, least, l))

    signal_only : (s : Signal) (k : ℕ) (d : Done) → IsNumberedEntry ds k d → k ≤ by_signal s set_by freed_by d.process → IsBySignal s k
    signal_only (goes_by c) k d is l = (t.set c).only k d is l
    signal_only (takes c) k d is l = (t.freed c).only k d is l
    signal_only nothing k d is l = none_below k d is l
    signal_only (sets c) k d is l = none_below k d is l
    signal_only (frees c) k d is l = none_below k d is l

    -- the clock of the process and of its signal tells which entries are ordered before the new one
    pub joined_all : (k : ℕ) (d : Done) → IsNumberedEntry ds k d → Ordered (longer ds x) k (length ds + 1) → k ≤ clock_joined x of_process set_by freed_by d.process
    joined_all k d is o = by (before_new k o)
      where
        by : IsKnown ds x.process k ⊎ IsBySignal x.signal k → k ≤ max (of_process x.process d.process) (by_signal x.signal set_by freed_by d.process)
        by (inl n) = above_left (of_process x.process d.process) (by_signal x.signal set_by freed_by d.process) k ((t.processes x.process).all k d is n)
        by (inr b) = above_right (of_process x.process d.process) (by_signal x.signal set_by freed_by d.process) k (signal_all x.signal k d is b)

    pub joined_only : (k : ℕ) (d : Done) → IsNumberedEntry ds k d → k ≤ clock_joined x of_process set_by freed_by d.process → Ordered (longer ds x) k (length ds + 1)
    joined_only k d is l = by (above_either (of_process x.process d.process) (by_signal x.signal set_by freed_by d.process) k l)
      where
        by : (k ≤ of_process x.process d.process) ⊎ (k ≤ by_signal x.signal set_by freed_by d.process) → Ordered (longer ds x) k (length ds + 1)
        by (inl m) = known_before k ((t.processes x.process).only k d is m)
        by (inr m) = signalled_before x.signal k refl (signal_only x.signal k d is m)

    signal_within : (s : Signal) (q : ℕ) → by_signal s set_by freed_by q ≤ length ds
    signal_within (goes_by c) q = (t.set c).within q
    signal_within (takes c) q = (t.freed c).within q
    signal_within nothing q = omega arith
    signal_within (sets c) q = omega arith
    signal_within (frees c) q = omega arith

    pub joined_within : (q : ℕ) → clock_joined x of_process set_by freed_by q ≤ length ds
    joined_within q =
        let l : of_process x.process q ≤ length ds = (t.processes x.process).within q in
        let m : by_signal x.signal set_by freed_by q ≤ length ds = signal_within x.signal q in
        omega (arith, l, m)

pub clocks_tell : ClocksTell
clocks_tell ds d of_process set_by freed_by t =
    record {
      within = joined_within ds d of_process set_by freed_by t;
      all = joined_all ds d of_process set_by freed_by t;
      only = joined_only ds d of_process set_by freed_by t;
    }
