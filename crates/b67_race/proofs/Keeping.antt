-- The clocks stay clocks when an entry is noted.
use Rattle.std.proofs.Common.{arith, ◌≡◌, ◌⊎◌, inl, inr, refl, sym, ap, ◌∙◌, subst, ℕ, ◌+◌, ◌<◌, ◌≤◌, ◌==◌, ◌||◌, Bool, true, false, List, [], ◌∷◌, length, if◌then◌else◌}
use Rattle.b67_list.proofs.Numbers.{number_itself, number_other, same_number}
use Rattle.b67_list.proofs.Truths.{or_left}
use Rattle.b67_race.specs.Entries.{Signal, sets, frees, CellName, Done, is_this, entry_is_one_of, touches, IsNumberedEntry}
use Rattle.b67_race.specs.Orders.{IsLastSignal, by_process, one, UpTo}
use Rattle.b67_race.specs.Clocks.{IsKnown, IsBehind, ClockTells, Tracks, clock_joined, own_clock, Becomes, process_clock, ClocksStay}
use Rattle.b67_race.proofs.Entries.{is_within, is_more, is_old, is_new, same_done, length_more}
use Rattle.b67_race.proofs.Stable.{longer, ordered_are, up_more, up_old}
use Rattle.b67_race.proofs.Tracking.{above_left, above_right, above_either, known_before, joined_all, joined_only, joined_within}

module _ (ds : List Done) (x : Done) where
  -- the new entry, or an earlier one
  pub new_or_old : (k : ℕ) (d : Done) → IsNumberedEntry (longer ds x) k d → ((k ≡ length ds + 1) × (d ≡ x)) ⊎ ((k ≤ length ds) × IsNumberedEntry ds k d)
  new_or_old k d is = on which
    where
      within : k ≤ length (longer ds x)
      within = is_within (longer ds x) k d is

      len : length (longer ds x) ≡ length ds + 1
      len = length_more ds x

      which : (k ≤ length ds) ⊎ (k ≡ length ds + 1)
      which = grind (arith, within, len)

      on : (k ≤ length ds) ⊎ (k ≡ length ds + 1) → ((k ≡ length ds + 1) × (d ≡ x)) ⊎ ((k ≤ length ds) × IsNumberedEntry ds k d)
      on (inl l) = inr (l, is_old ds (x ∷ []) k d l is)
      on (inr e) = inl (e, same_done (longer ds x) k d x is (subst (λ (n : ℕ). IsNumberedEntry (longer ds x) n x) (sym e) (is_new ds x)))

  module _ (of_process : ℕ → ℕ → ℕ) (set_by freed_by : CellName → ℕ → ℕ) (t : Tracks ds of_process set_by freed_by) where
    -- ---- the clock of the entry's own process tells the entries up to it

    own_at : (q : ℕ) (b : Bool) → (x.process == q) ≡ b → own_clock (length ds + 1) x of_process set_by freed_by q ≡ (if b then length ds + 1 else clock_joined x of_process set_by freed_by q)
    own_at q b e = ap (λ (c : Bool). if c then length ds + 1 else clock_joined x of_process set_by freed_by q) e

    up_all : (k : ℕ) (d : Done) → IsNumberedEntry (longer ds x) k d → UpTo (longer ds x) k (length ds + 1) → k ≤ own_clock (length ds + 1) x of_process set_by freed_by d.process
    up_all k d is up = by (x.process == d.process) refl up
      where
        low : k ≤ length ds + 1
        low = let w : k ≤ length (longer ds x) = is_within (longer ds x) k d is in let l : length (longer ds x) ≡ length ds + 1 = length_more ds x in omega (arith, w, l)

        by : (b : Bool) → (x.process == d.process) ≡ b → UpTo (longer ds x) k (length ds + 1) → k ≤ own_clock (length ds + 1) x of_process set_by freed_by d.process
        by true e u = rw (own_at d.process true e) low
        by false e (inl same) =
            let is_x : IsNumberedEntry (longer ds x) k x = subst (λ (n : ℕ). IsNumberedEntry (longer ds x) n x) (sym same) (is_new ds x) in
            let d_is_x : x ≡ d = same_done (longer ds x) k x d is_x is in
            absurd (number_other x.process d.process e (ap (λ (y : Done). y.process) d_is_x))
        by false e (inr o) =
            let less : k < length ds + 1 = (ordered_are (longer ds x) k (length ds + 1) o).less in
            let is_in : IsNumberedEntry ds k d = is_old ds (x ∷ []) k d (omega (arith, less)) is in
            rw (own_at d.process false e) (joined_all ds x of_process set_by freed_by t k d is_in o)

    up_only : (k : ℕ) (d : Done) → IsNumberedEntry (longer ds x) k d → k ≤ own_clock (length ds + 1) x of_process set_by freed_by d.process → UpTo (longer ds x) k (length ds + 1)
    up_only k d is l = on (new_or_old k d is)
      where
        by : (b : Bool) → (x.process == d.process) ≡ b → k ≤ length ds → IsNumberedEntry ds k d → UpTo (longer ds x) k (length ds + 1)
        by true e within is_in =
            inr (one (by_process d x is (is_new ds x) (omega (arith, within))
            (or_left (d.process == x.process) (is_this d.started x.process || entry_is_one_of d.released x.process)
            (subst (λ (p : ℕ). (d.process == p) ≡ true) (sym (same_number x.process d.process e)) (number_itself d.process)))))
        by false e within is_in =
            let m : k ≤ clock_joined x of_process set_by freed_by d.process = subst (λ (n : ℕ). k ≤ n) (own_at d.process false e) l in
            inr (joined_only ds x of_process set_by freed_by t k d is_in m)

        on : ((k ≡ length ds + 1) × (d ≡ x)) ⊎ ((k ≤ length ds) × IsNumberedEntry ds k d) → UpTo (longer ds x) k (length ds + 1)
        on (inl u) = inl u.0
        on (inr u) = by (x.process == d.process) refl u.0 u.1

    -- ---- the clocks of processes

    known_more : (p k : ℕ) → IsKnown ds p k → IsKnown (longer ds x) p k
    known_more p k n =
        record { entry = n.entry; done = n.done; is = is_more ds (x ∷ []) n.entry n.done n.is; touches = n.touches; up_to = up_more ds x k n.entry n.up_to }

    known_new : (p k : ℕ) → touches x p ≡ true → UpTo (longer ds x) k (length ds + 1) → IsKnown (longer ds x) p k
    known_new p k touched up = record { entry = length ds + 1; done = x; is = is_new ds x; touches = touched; up_to = up }

    -- what is known to a process is up to the new entry, which touches it, or was known to it
    known_either : (p k : ℕ) → IsKnown (longer ds x) p k → ((touches x p ≡ true) × UpTo (longer ds x) k (length ds + 1)) ⊎ IsKnown ds p k
    known_either p k n = on (new_or_old n.entry n.done n.is)
      where
        on : ((n.entry ≡ length ds + 1) × (n.done ≡ x)) ⊎ ((n.entry ≤ length ds) × IsNumberedEntry ds n.entry n.done) → ((touches x p ≡ true) × UpTo (longer ds x) k (length ds + 1)) ⊎ IsKnown ds p k
        on (inl u) = inl (subst (λ (y : Done). touches y p ≡ true) u.1 n.touches, subst (λ (j : ℕ). UpTo (longer ds x) k j) u.0 n.up_to)
        on (inr u) = inr (record { entry = n.entry; done = n.done; is = u.1; touches = n.touches; up_to = up_old ds x k n.entry u.0 n.up_to })

    -- an entry that was known to a process is an earlier one
    known_low : (p k : ℕ) → IsKnown ds p k → k ≤ length ds
    known_low p k n = by n.up_to
      where
        high : n.entry ≤ length ds
        high = is_within ds n.entry n.done n.is

        by : UpTo ds k n.entry → k ≤ length ds
        by (inl same) = omega (arith, same, high)
        by (inr o) = let less : k < n.entry = (ordered_are ds k n.entry o).less in omega (arith, less, high)

    process_all : (p k : ℕ) (d : Done) (own_process touched : Bool) → (x.process == p) ≡ own_process → touches x p ≡ touched → IsNumberedEntry (longer ds x) k d → IsKnown (longer ds x) p k
        → k ≤ process_clock own_process touched (own_clock (length ds + 1) x of_process set_by freed_by) (of_process p) d.process
    process_all p k d own_process touched eo et is n = by own_process touched eo et (known_either p k n)
      where
        older : IsKnown ds p k → k ≤ of_process p d.process
        older m = (t.processes p).all k d (is_old ds (x ∷ []) k d (known_low p k m) is) m

        by : (o u : Bool) → (x.process == p) ≡ o → touches x p ≡ u → ((touches x p ≡ true) × UpTo (longer ds x) k (length ds + 1)) ⊎ IsKnown ds p k
            → k ≤ process_clock o u (own_clock (length ds + 1) x of_process set_by freed_by) (of_process p) d.process
        by true u eo et (inl m) = up_all k d is m.1
        by true u eo et (inr m) =
            let m' : IsKnown ds x.process k = subst (λ (r : ℕ). IsKnown ds r k) (sym (same_number x.process p eo)) m in
            up_all k d is (inr (known_before ds x k m'))
        by false true eo et (inl m) = above_right (of_process p d.process) (own_clock (length ds + 1) x of_process set_by freed_by d.process) k (up_all k d is m.1)
        by false true eo et (inr m) = above_left (of_process p d.process) (own_clock (length ds + 1) x of_process set_by freed_by d.process) k (older m)
        by false false eo et (inl m) = let e : true ≡ false = sym m.0 ∙ et in cc
        by false false eo et (inr m) = older m

    process_only : (p k : ℕ) (d : Done) (own_process touched : Bool) → (x.process == p) ≡ own_process → touches x p ≡ touched → IsNumberedEntry (longer ds x) k d
        → k ≤ process_clock own_process touched (own_clock (length ds + 1) x of_process set_by freed_by) (of_process p) d.process → IsKnown (longer ds x) p k
    process_only p k d true touched eo et is l =
        known_new p k (or_left (x.process == p) (is_this x.started p || entry_is_one_of x.released p) eo) (up_only k d is l)
    process_only p k d false true eo et is l = by (above_either (of_process p d.process) (own_clock (length ds + 1) x of_process set_by freed_by d.process) k l)
      where
        older : k ≤ of_process p d.process → ((k ≡ length ds + 1) × (d ≡ x)) ⊎ ((k ≤ length ds) × IsNumberedEntry ds k d) → IsKnown (longer ds x) p k
        older m (inl u) = known_new p k et (inl u.0)
        older m (inr u) = known_more p k ((t.processes p).only k d u.1 m)

        by : (k ≤ of_process p d.process) ⊎ (k ≤ own_clock (length ds + 1) x of_process set_by freed_by d.process) → IsKnown (longer ds x) p k
        by (inl m) = older m (new_or_old k d is)
        by (inr m) = known_new p k et (up_only k d is m)
    process_only p k d false false eo et is l = on (new_or_old k d is)
      where
        on : ((k ≡ length ds + 1) × (d ≡ x)) ⊎ ((k ≤ length ds) × IsNumberedEntry ds k d) → IsKnown (longer ds x) p k
        on (inl u) = let w : of_process p d.process ≤ length ds = (t.processes p).within d.process in absurd (omega (arith, u.0, w, l))
        on (inr u) = known_more p k ((t.processes p).only k d u.1 l)

    own_within : (q : ℕ) → own_clock (length ds + 1) x of_process set_by freed_by q ≤ length ds + 1
    own_within q = by (x.process == q) refl
      where
        by : (b : Bool) → (x.process == q) ≡ b → own_clock (length ds + 1) x of_process set_by freed_by q ≤ length ds + 1
        by true e = rw (own_at q true e) (omega arith)
        by false e =
            let l : clock_joined x of_process set_by freed_by q ≤ length ds = joined_within ds x of_process set_by freed_by t q in
            rw (own_at q false e) (omega (arith, l))

    process_within : (p q : ℕ) (own_process touched : Bool) → process_clock own_process touched (own_clock (length ds + 1) x of_process set_by freed_by) (of_process p) q ≤ length ds + 1
    process_within p q true touched = own_within q
    process_within p q false true =
        let l : own_clock (length ds + 1) x of_process set_by freed_by q ≤ length ds + 1 = own_within q in
        let m : of_process p q ≤ length ds = (t.processes p).within q in
        omega (arith, l, m)
    process_within p q false false = let m : of_process p q ≤ length ds = (t.processes p).within q in omega (arith, m)

    at_longer : (n : ℕ) → n ≤ length ds + 1 → n ≤ length (longer ds x)
    at_longer n l = let len : length (longer ds x) ≡ length ds + 1 = length_more ds x in omega (arith, l, len)

    process_tells : (clock : ℕ → ℕ) (p : ℕ) → ((q : ℕ) → clock q ≡ process_clock (x.process == p) (touches x p) (own_clock (length ds + 1) x of_process set_by freed_by) (of_process p) q)
        → ClockTells (longer ds x) clock (IsKnown (longer ds x) p)
    process_tells clock p is_clock =
        record {
          within = λ q. at_longer (clock q) (rw (is_clock q) (process_within p q (x.process == p) (touches x p)));
          all = λ k d is n. rw (is_clock d.process) (process_all p k d (x.process == p) (touches x p) refl refl is n);
          only = λ k d is l. process_only p k d (x.process == p) (touches x p) refl refl is (subst (λ (n : ℕ). k ≤ n) (is_clock d.process) l);
        }

    -- ---- the clocks of events

    module _ (s : Signal) where
      last_new : x.signal ≡ s → IsLastSignal (longer ds x) s (length ds + 1) (length (longer ds x) + 1)
      last_new e =
          let len : length (longer ds x) ≡ length ds + 1 = length_more ds x in
          record {
            before = omega (arith, len);
            done = x;
            is = is_new ds x;
            did = e;
            last = λ i d is did less. omega (arith, len, less);
          }

      last_is_new : (j : ℕ) → x.signal ≡ s → IsLastSignal (longer ds x) s j (length (longer ds x) + 1) → j ≡ length ds + 1
      last_is_new j e l =
          let len : length (longer ds x) ≡ length ds + 1 = length_more ds x in
          let least : length ds + 1 ≤ j = l.last (length ds + 1) x (is_new ds x) e (omega (arith, len)) in
          let most : j < length (longer ds x) + 1 = l.before in
          omega (arith, len, least, most)

      behind_more : (k : ℕ) → (x.signal ≡ s → ⊥) → IsBehind ds s k → IsBehind (longer ds x) s k
      behind_more k other b =
          record {
            entry = b.entry;
            last = record {
              before = let l : b.entry < length ds + 1 = b.last.before in let len : length (longer ds x) ≡ length ds + 1 = length_more ds x in omega (arith, len, l);
              done = b.last.done;
              is = is_more ds (x ∷ []) b.entry b.last.done b.last.is;
              did = b.last.did;
              last = λ i d is did less. lower i d did (new_or_old i d is);
            };
            up_to = up_more ds x k b.entry b.up_to;
          }
        where
          lower : (i : ℕ) (d : Done) → d.signal ≡ s → ((i ≡ length ds + 1) × (d ≡ x)) ⊎ ((i ≤ length ds) × IsNumberedEntry ds i d) → i ≤ b.entry
          lower i d did (inl u) = absurd (other (ap (λ (y : Done). y.signal) (sym u.1) ∙ did))
          lower i d did (inr u) = b.last.last i d u.1 did (omega (arith, u.0))

      behind_old : (k : ℕ) → (x.signal ≡ s → ⊥) → IsBehind (longer ds x) s k → IsBehind ds s k
      behind_old k other b = on (new_or_old b.entry b.last.done b.last.is)
        where
          len : length (longer ds x) ≡ length ds + 1
          len = length_more ds x

          on : ((b.entry ≡ length ds + 1) × (b.last.done ≡ x)) ⊎ ((b.entry ≤ length ds) × IsNumberedEntry ds b.entry b.last.done) → IsBehind ds s k
          on (inl u) = absurd (other (ap (λ (y : Done). y.signal) (sym u.1) ∙ b.last.did))
          on (inr u) =
              record {
                entry = b.entry;
                last = record {
                  before = omega (arith, u.0);
                  done = b.last.done;
                  is = u.1;
                  did = b.last.did;
                  last = λ i d is did less. b.last.last i d (is_more ds (x ∷ []) i d is) did (omega (arith, len, less));
                };
                up_to = up_old ds x k b.entry u.0 b.up_to;
              }

      behind_low : (k : ℕ) → IsBehind ds s k → k ≤ length ds
      behind_low k b = by b.up_to
        where
          high : b.entry ≤ length ds
          high = is_within ds b.entry b.last.done b.last.is

          by : UpTo ds k b.entry → k ≤ length ds
          by (inl same) = omega (arith, same, high)
          by (inr o) = let less : k < b.entry = (ordered_are ds k b.entry o).less in omega (arith, less, high)

      event_tells : (old clock : ℕ → ℕ) → ClockTells ds old (IsBehind ds s) → Becomes (x.signal ≡ s) old (own_clock (length ds + 1) x of_process set_by freed_by) clock
          → ClockTells (longer ds x) clock (IsBehind (longer ds x) s)
      event_tells old clock told (inl b) =
          record {
            within = λ q. at_longer (clock q) (rw (b.1 q) (own_within q));
            all = λ k d is n. rw (b.1 d.process) (up_all k d is (subst (λ (j : ℕ). UpTo (longer ds x) k j) (last_is_new n.entry b.0 n.last) n.up_to));
            only = λ k d is l. record {
              entry = length ds + 1;
              last = last_new b.0;
              up_to = up_only k d is (subst (λ (n : ℕ). k ≤ n) (b.1 d.process) l);
            };
          }
      event_tells old clock told (inr b) =
          record {
            within = λ q. at_longer (clock q) (rw (b.1 q) (let w : old q ≤ length ds = told.within q in omega (arith, w)));
            all = λ k d is n. all_of k d is (behind_old k b.0 n);
            only = λ k d is l. only_of k d (subst (λ (n : ℕ). k ≤ n) (b.1 d.process) l) (new_or_old k d is);
          }
        where
          all_of : (k : ℕ) (d : Done) → IsNumberedEntry (longer ds x) k d → IsBehind ds s k → k ≤ clock d.process
          all_of k d is n = rw (b.1 d.process) (told.all k d (is_old ds (x ∷ []) k d (behind_low k n) is) n)

          only_of : (k : ℕ) (d : Done) → k ≤ old d.process → ((k ≡ length ds + 1) × (d ≡ x)) ⊎ ((k ≤ length ds) × IsNumberedEntry ds k d) → IsBehind (longer ds x) s k
          only_of k d l (inl u) = let w : old d.process ≤ length ds = told.within d.process in absurd (omega (arith, u.0, w, l))
          only_of k d l (inr u) = behind_more k b.0 (told.only k d u.1 l)

pub clocks_stay : ClocksStay
clocks_stay ds d of_process set_by freed_by of_process' set_by' freed_by' t n =
    record {
      processes = λ p. process_tells ds d of_process set_by freed_by t (of_process' p) p (n.processes p);
      set = λ c. event_tells ds d of_process set_by freed_by t (sets c) (set_by c) (set_by' c) (t.set c) (n.set c);
      freed = λ c. event_tells ds d of_process set_by freed_by t (frees c) (freed_by c) (freed_by' c) (t.freed c) (n.freed c);
    }
