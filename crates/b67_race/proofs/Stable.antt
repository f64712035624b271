-- What is ordered stays so when an entry is added, and nothing else of the earlier ones is.
use Rattle.std.proofs.Common.{arith, inl, inr, refl, sym, subst, ℕ, ◌+◌, ◌<◌, ◌≤◌, List, [], ◌∷◌, ◌++◌, length}
use Rattle.b67_race.specs.Entries.{Signal, sets, frees, Done, IsNumberedEntry}
use Rattle.b67_race.specs.Orders.{IsLastSignal, Directly, by_process, by_cause, by_liberate, Ordered, one, chain, UpTo}
use Rattle.b67_race.proofs.Entries.{is_within, is_more, is_old}

module _ (ds : List Done) (x : Done) where
  abbrev pub longer : List Done
  longer = ds ++ x ∷ []

  pub last_more : (s : Signal) (k j : ℕ) → j ≤ length ds + 1 → IsLastSignal ds s k j → IsLastSignal longer s k j
  last_more s k j within l =
      record {
        before = l.before;
        done = l.done;
        is = is_more ds (x ∷ []) k l.done l.is;
        did = l.did;
        last = λ i d is did less. l.last i d (is_old ds (x ∷ []) i d (omega (arith, within, less)) is) did less;
      }

  pub last_old : (s : Signal) (k j : ℕ) → j ≤ length ds + 1 → IsLastSignal longer s k j → IsLastSignal ds s k j
  last_old s k j within l =
      let less : k < j = l.before in
      record {
        before = l.before;
        done = l.done;
        is = is_old ds (x ∷ []) k l.done (omega (arith, within, less)) l.is;
        did = l.did;
        last = λ i d is did lower. l.last i d (is_more ds (x ∷ []) i d is) did lower;
      }

  pub directly_more : (k j : ℕ) → Directly ds k j → Directly longer k j
  directly_more k j (by_process d e is_d is_e less t) = by_process d e (is_more ds (x ∷ []) k d is_d) (is_more ds (x ∷ []) j e is_e) less t
  directly_more k j (by_cause e c is_e s l) =
      let within : j ≤ length ds = is_within ds j e is_e in
      by_cause e c (is_more ds (x ∷ []) j e is_e) s (last_more (sets c) k j (omega (arith, within)) l)
  directly_more k j (by_liberate e c is_e s l) =
      let within : j ≤ length ds = is_within ds j e is_e in
      by_liberate e c (is_more ds (x ∷ []) j e is_e) s (last_more (frees c) k j (omega (arith, within)) l)

  pub directly_old : (k j : ℕ) → j ≤ length ds → Directly longer k j → Directly ds k j
  directly_old k j within (by_process d e is_d is_e less t) =
      by_process d e (is_old ds (x ∷ []) k d (omega (arith, within, less)) is_d) (is_old ds (x ∷ []) j e within is_e) less t
  directly_old k j within (by_cause e c is_e s l) =
      by_cause e c (is_old ds (x ∷ []) j e within is_e) s (last_old (sets c) k j (omega (arith, within)) l)
  directly_old k j within (by_liberate e c is_e s l) =
      by_liberate e c (is_old ds (x ∷ []) j e within is_e) s (last_old (frees c) k j (omega (arith, within)) l)

-- who is directly before another is an entry, and the other a later one
pub record AreEntries (ds : List Done) (k j : ℕ) : Type 0 where
  pub less : k < j
  pub first : Done
  pub first_is : IsNumberedEntry ds k first
  pub second : Done
  pub second_is : IsNumberedEntry ds j second

pub directly_are : (ds : List Done) (k j : ℕ) → Directly ds k j → AreEntries ds k j
directly_are ds k j (by_process d e is_d is_e less t) = record { less = less; first = d; first_is = is_d; second = e; second_is = is_e }
directly_are ds k j (by_cause e c is_e s l) = record { less = l.before; first = l.done; first_is = l.is; second = e; second_is = is_e }
directly_are ds k j (by_liberate e c is_e s l) = record { less = l.before; first = l.done; first_is = l.is; second = e; second_is = is_e }

pub ordered_are : (ds : List Done) (k j : ℕ) → Ordered ds k j → AreEntries ds k j
ordered_are ds k j (one o) = directly_are ds k j o
ordered_are ds k j (chain i o d) =
    let low = ordered_are ds k i o in
    let high = directly_are ds i j d in
    let l : k < i = low.less in
    let h : i < j = high.less in
    record { less = omega (arith, l, h); first = low.first; first_is = low.first_is; second = high.second; second_is = high.second_is }

module _ (ds : List Done) (x : Done) where
  pub ordered_more : (k j : ℕ) → Ordered ds k j → Ordered (longer ds x) k j
  ordered_more k j (one o) = one (directly_more ds x k j o)
  ordered_more k j (chain i o d) = chain i (ordered_more k i o) (directly_more ds x i j d)

  pub ordered_old : (k j : ℕ) → j ≤ length ds → Ordered (longer ds x) k j → Ordered ds k j
  ordered_old k j within (one o) = one (directly_old ds x k j within o)
  ordered_old k j within (chain i o d) =
      let less : i < j = (directly_are (longer ds x) i j d).less in
      chain i (ordered_old k i (omega (arith, within, less)) o) (directly_old ds x i j within d)

  pub up_more : (k j : ℕ) → UpTo ds k j → UpTo (longer ds x) k j
  up_more k j (inl same) = inl same
  up_more k j (inr o) = inr (ordered_more k j o)

  pub up_old : (k j : ℕ) → j ≤ length ds → UpTo (longer ds x) k j → UpTo ds k j
  up_old k j within (inl same) = inl same
  up_old k j within (inr o) = inr (ordered_old k j within o)

-- what is ordered before an entry is up to one that is directly before it
pub record Behind (ds : List Done) (k j : ℕ) : Type 0 where
  pub entry : ℕ
  pub directly : Directly ds entry j
  pub up_to : UpTo ds k entry

pub last_step : (ds : List Done) (k j : ℕ) → Ordered ds k j → Behind ds k j
last_step ds k j (one d) = record { entry = k; directly = d; up_to = inl refl }
last_step ds k j (chain i o d) = record { entry = i; directly = d; up_to = inr o }

pub from_step : (ds : List Done) (k i j : ℕ) → UpTo ds k i → Directly ds i j → Ordered ds k j
from_step ds k i j (inl same) d = one (subst (λ (n : ℕ). Directly ds n j) (sym same) d)
from_step ds k i j (inr o) d = chain i o d
