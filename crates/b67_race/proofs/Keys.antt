-- The table of cells by their keys.
use Rattle.std.proofs.Common.{arith, ◌≡◌, inl, inr, refl, sym, ap, ◌∙◌, subst, ℕ, zero, suc, ◌+◌, Bool, true, false, List, [], ◌∷◌, Option, Some, None, if◌then◌else◌, cond}
use Rattle.std.specs.Prelude.{IsSome, Result, Ok, Err, OnOk}
use Rattle.std.specs.declared.cmp.Ordering.{Ordering}
use Rattle.std.specs.declared.cmp.Ordering.TheVariants.{Less, Equal, Greater}
use Rattle.std.specs.Ordering.{nat_cmp, ordering_then, is_eq}
use Rattle.std.specs.Cmp.Lexicographic.{slice_cmp}
use Rattle.std.specs.Cmp.{nat_cmp_is}
use Rattle.std.specs.BTreeMap.{BTreeMap, UpdatesBy, get_by}
use Rattle.std.proofs.lemmas.Map.Lookups.{exact_unsigned, exact_bytes}
use Rattle.b67_race.specs.Entries.{CellName, Signal, sets, frees}
use Rattle.b67_race.specs.Clocks.{Becomes}
use Rattle.b67_race.specs.declared.cells.Key.{Key}
use Rattle.b67_race.specs.declared.cells.Kept.{Kept}
use Rattle.b67_race.specs.Times.{time_of}
use Rattle.b67_race.specs.Timed.{or_empty, event_time}
use Rattle.b67_race.specs.Watching.{none_yet, watched}
use Rattle.b67_race.specs.declared.cells.Past.{Past}
use Rattle.b67_race.specs.Cells.{Standing, quiet, rival_in, standing_after, element_number_of, at_of, cell_at_key, is_cell, cell_order, standing, standing_in}

-- the order of keys
abbrev pub key_order : Key → Key → Ordering
key_order k l = ordering_then (nat_cmp k.instance l.instance) (ordering_then (nat_cmp k.element l.element) (slice_cmp nat_cmp k.name.now l.name.now))

-- a key of a cell
abbrev pub key_of : CellName → Key
key_of c = record { instance = c.instance; element = element_number_of c.at; name = record { ref_ptr = (0, 0); now = c.name } }

number_at : (e : ℕ) → element_number_of (at_of e) ≡ e
number_at zero = refl
number_at (suc k) = omega arith

-- the table after another value at a key
pub put_key : (k : Key) (old new : BTreeMap Key Kept) (w : Option Kept) → UpdatesBy key_order (key_order k) old new w → (c : CellName) →
    standing_in new c ≡ (if is_cell k c then standing w else standing_in old c)
put_key k old new w u c = ap standing (u.0 (key_of c)) ∙ chosen (is_cell k c) w (get_by (cell_order c) old)
  where
    chosen : (b : Bool) (w o : Option Kept) → standing (cond b w o) ≡ (if b then standing w else standing o)
    chosen true w o = refl
    chosen false w o = refl

-- a cell out of the table
pub take_own : (k : Key) (old : BTreeMap Key Kept) (o : Option Kept) → o ≡ get_by (key_order k) old → standing o ≡ standing_in old (cell_at_key k)
take_own k old o e =
    ap standing e ∙ ap (λ (n : ℕ). standing (get_by (λ (l : Key). ordering_then (nat_cmp k.instance l.instance) (ordering_then (nat_cmp n l.element) (slice_cmp nat_cmp k.name.now l.name.now))) old)) (sym (number_at k.element))

pub take_others : (k : Key) (old new : BTreeMap Key Kept) (w : Option Kept) → UpdatesBy key_order (key_order k) old new w → (c : CellName) →
    is_cell k c ≡ false → standing_in new c ≡ standing_in old c
take_others k old new w u c other = put_key k old new w u c ∙ ap (λ (b : Bool). if b then standing w else standing_in old c) other

-- the table after what was lent of it is another
module _ (k : Key) (old new : BTreeMap Key Kept) (x w : Kept) (e : Some x ≡ get_by (key_order k) old)
    (h : IsSome (get_by (key_order k) old) → UpdatesBy key_order (key_order k) old new (Some w)) where
  updated : UpdatesBy key_order (key_order k) old new (Some w)
  updated = h (subst (λ (o : Option Kept). IsSome o) e refl)

  pub lent_own : standing (Some w) ≡ standing_in new (cell_at_key k)
  lent_own = take_own k new (Some w) (sym updated.1)

  pub lent_others : (c : CellName) → is_cell k c ≡ false → standing_in new c ≡ standing_in old c
  lent_others = take_others k old new (Some w) updated

-- a key is that of its cell, and of no other
numbers_same : (n : ℕ) → nat_cmp n n ≡ Equal
numbers_same n = sym (nat_cmp_is n n Equal refl)

names_same : (xs : List ℕ) → slice_cmp nat_cmp xs xs ≡ Equal
names_same [] = refl
names_same (x ∷ xs) = ap (λ (o : Ordering). ordering_then o (slice_cmp nat_cmp xs xs)) (numbers_same x) ∙ names_same xs

pub is_own_cell : (k : Key) → is_cell k (cell_at_key k) ≡ true
is_own_cell k =
    ap (λ (o : Ordering). is_eq (ordering_then o (ordering_then (nat_cmp k.element (element_number_of (at_of k.element))) (slice_cmp nat_cmp k.name.now k.name.now)))) (numbers_same k.instance)
    ∙ ap (λ (n : ℕ). is_eq (ordering_then (nat_cmp k.element n) (slice_cmp nat_cmp k.name.now k.name.now))) (number_at k.element)
    ∙ ap (λ (o : Ordering). is_eq (ordering_then o (slice_cmp nat_cmp k.name.now k.name.now))) (numbers_same k.element)
    ∙ ap is_eq (names_same k.name.now)

first_equal : (o p : Ordering) → is_eq (ordering_then o p) ≡ true → (o ≡ Equal) × (is_eq p ≡ true)
first_equal Less p e = cc
first_equal Equal p e = (refl, e)
first_equal Greater p e = cc

is_equal : (o : Ordering) → is_eq o ≡ true → o ≡ Equal
is_equal Less e = cc
is_equal Equal e = refl
is_equal Greater e = cc

pub at_number : (o : Option ℕ) → at_of (element_number_of o) ≡ o
at_number None = refl
at_number (Some k) = let r : k + 1 ≡ suc k = omega arith in ap at_of r

pub own_cell_is : (k : Key) (c : CellName) → is_cell k c ≡ true → cell_at_key k ≡ c
own_cell_is k c e =
    let a = first_equal (nat_cmp k.instance c.instance) (ordering_then (nat_cmp k.element (element_number_of c.at)) (slice_cmp nat_cmp k.name.now c.name)) e in
    let b = first_equal (nat_cmp k.element (element_number_of c.at)) (slice_cmp nat_cmp k.name.now c.name) a.1 in
    let i : k.instance ≡ c.instance = exact_unsigned k.instance c.instance a.0 in
    let n : k.name.now ≡ c.name = exact_bytes k.name.now c.name (is_equal (slice_cmp nat_cmp k.name.now c.name) b.1) in
    let at : at_of k.element ≡ c.at = ap at_of (exact_unsigned k.element (element_number_of c.at) b.0) ∙ at_number c.at in
    joined i n at
  where
    joined : k.instance ≡ c.instance → k.name.now ≡ c.name → at_of k.element ≡ c.at → cell_at_key k ≡ c
    joined i n at j = record { instance = i j; name = n j; at = at j }

-- ---- an access is noted

-- what holds in any case
pub on_ok : {A E P : Type 0} (r : Result A E) → P → OnOk r P
on_ok (Ok x) p = p
on_ok (Err e) p = tt

-- what was not there is quiet
pub first_rival : (storing : Bool) (clock : ℕ → ℕ) → 0 ≡ rival_in storing clock (quiet none_yet)
first_rival true clock = refl
first_rival false clock = refl

pub first_after : (storing : Bool) (clock : ℕ → ℕ) (now : Past) → quiet (watched storing now none_yet) ≡ standing_after storing clock now (quiet none_yet)
first_after true clock now = refl
first_after false clock now = refl

pub put_own : (k : Key) (old new : BTreeMap Key Kept) (s : Standing) → ((c : CellName) → standing_in new c ≡ (if is_cell k c then s else standing_in old c))
    → standing_in new (cell_at_key k) ≡ s
put_own k old new s h = h (cell_at_key k) ∙ ap (λ (b : Bool). if b then s else standing_in old (cell_at_key k)) (is_own_cell k)

-- ---- clocks of events

-- the clocks after another one at a key
pub put_clock_at : (k : Key) (old new : BTreeMap Key (List ℕ)) (clock : List ℕ) → UpdatesBy key_order (key_order k) old new (Some clock) → (c : CellName) (q : ℕ) →
    event_time new c q ≡ (if is_cell k c then time_of clock q else event_time old c q)
put_clock_at k old new clock u c q = ap (λ (o : Option (List ℕ)). time_of (or_empty o) q) (u.0 (key_of c)) ∙ chosen (is_cell k c) (get_by (cell_order c) old)
  where
    chosen : (b : Bool) (o : Option (List ℕ)) → time_of (or_empty (cond b (Some clock) o)) q ≡ (if b then time_of clock q else time_of (or_empty o) q)
    chosen true o = refl
    chosen false o = refl

-- the clock at a key
pub clock_at : (k : Key) (events : BTreeMap Key (List ℕ)) (o : Option (List ℕ)) → o ≡ get_by (key_order k) events → (q : ℕ) → time_of (or_empty o) q ≡ event_time events (cell_at_key k) q
clock_at k events o e q =
    ap (λ (x : Option (List ℕ)). time_of (or_empty x) q) e
    ∙ ap (λ (n : ℕ). time_of (or_empty (get_by (λ (l : Key). ordering_then (nat_cmp k.instance l.instance) (ordering_then (nat_cmp n l.element) (slice_cmp nat_cmp k.name.now l.name.now))) events)) q) (sym (number_at k.element))

-- the clock of an event becomes the one that is put
pub sets_become : (k : Key) (old new : BTreeMap Key (List ℕ)) (own : List ℕ) → ((c : CellName) (q : ℕ) → event_time new c q ≡ (if is_cell k c then time_of own q else event_time old c q))
    → (Of : CellName → Signal) → ((c d : CellName) → Of c ≡ Of d → c ≡ d) → (c : CellName) → Becomes (Of (cell_at_key k) ≡ Of c) (event_time old c) (time_of own) (event_time new c)
sets_become k old new own h Of same c = by (is_cell k c) refl
  where
    by : (b : Bool) → is_cell k c ≡ b → Becomes (Of (cell_at_key k) ≡ Of c) (event_time old c) (time_of own) (event_time new c)
    by true e = inl (ap Of (own_cell_is k c e), λ q. h c q ∙ ap (λ (b : Bool). if b then time_of own q else event_time old c q) e)
    by false e =
        inr (
          λ f. let g : true ≡ false = sym (is_own_cell k) ∙ ap (λ (d : CellName). is_cell k d) (same (cell_at_key k) c f) ∙ e in cc,
          λ q. h c q ∙ ap (λ (b : Bool). if b then time_of own q else event_time old c q) e,
        )

pub sets_same : (c d : CellName) → sets c ≡ sets d → c ≡ d
sets_same c d e = ap cell_in e
  where
    cell_in : Signal → CellName
    cell_in (sets x) = x
    cell_in _ = c

pub frees_same : (c d : CellName) → frees c ≡ frees d → c ≡ d
frees_same c d e = ap cell_in e
  where
    cell_in : Signal → CellName
    cell_in (frees x) = x
    cell_in _ = c
