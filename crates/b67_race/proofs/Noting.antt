-- An entry is noted.
use Rattle.std.proofs.Common.{arith, ◌≡◌, ◌⊎◌, inl, inr, refl, sym, ap, ◌∙◌, subst, ℕ, zero, suc, ◌+◌, ◌<◌, ◌≤◌, ◌==◌, max, Bool, true, false, List, [], ◌∷◌, ◌++◌, length, map, Some, if◌then◌else◌}
use Rattle.std.specs.BTreeMap.{BTreeMap}
use Rattle.b67_race.specs.Entries.{CellName, Done, sets, frees, touches}
use Rattle.b67_race.specs.Clocks.{Notes, Becomes, clock_joined, own_clock, process_clock}
use Rattle.b67_race.specs.Cells.{cell_at_key, is_cell, rival_in, standing_after, standing_in}
use Rattle.b67_race.specs.Races as races
use Rattle.b67_race.specs.Races.{RaceWalks, RaceFinds, race_by}
use Rattle.b67_race.specs.Noted.{race_of}
use Rattle.b67_race.specs.declared.cells.Key.{Key}
use Rattle.b67_race.specs.declared.cells.Kept.{Kept}
use Rattle.b67_race.specs.declared.cells.Past.{Past}
use Rattle.b67_race.specs.declared.walk.Race.{Race}
use Rattle.b67_race.proofs.Entries.{length_more}
use Rattle.b67_race.proofs.Keys.{is_own_cell, own_cell_is}
use Rattle.b67_race.proofs.Walking.{walks_go_on}

-- ---- accesses

pub map_push : (xs : List Race) (x : Race) → map race_of (xs ++ x ∷ []) ≡ map race_of xs ++ race_of x ∷ []
map_push [] x = refl
map_push (y ∷ xs) x = ap (λ (rs : List races.Race). race_of y ∷ rs) (map_push xs x)

pub some_race : (r j : ℕ) (c : CellName) → 0 < r → race_by r j c ≡ record { first = r; second = j; cell = c } ∷ []
some_race zero j c l = absurd (omega (arith, l))
some_race (suc k) j c l = refl

pub no_race : (r j : ℕ) (c : CellName) → r ≤ 0 → race_by r j c ≡ []
no_race zero j c l = refl
no_race (suc k) j c l = absurd (omega (arith, l))

other_cells : (k : Key) (old new : BTreeMap Key Kept) → ((c : CellName) → is_cell k c ≡ false → standing_in new c ≡ standing_in old c) → (c : CellName)
    → (c ≡ cell_at_key k) ⊎ ((c ≡ cell_at_key k → ⊥) × (standing_in new c ≡ standing_in old c))
other_cells k old new h c = by (is_cell k c) refl
  where
    by : (b : Bool) → is_cell k c ≡ b → (c ≡ cell_at_key k) ⊎ ((c ≡ cell_at_key k → ⊥) × (standing_in new c ≡ standing_in old c))
    by true e = inl (sym (own_cell_is k c e))
    by false e = inr (λ same. let g : true ≡ false = sym (is_own_cell k) ∙ ap (λ (d : CellName). is_cell k d) (sym same) ∙ e in cc, h c e)

pub finds_so :
    (k : Key) (storing : Bool) (clock : ℕ → ℕ) (now : Past) (old new : BTreeMap Key Kept) (r : ℕ) (rs after : List races.Race)
    → r ≡ rival_in storing clock (standing_in old (cell_at_key k)) → standing_in new (cell_at_key k) ≡ standing_after storing clock now (standing_in old (cell_at_key k))
    → ((c : CellName) → is_cell k c ≡ false → standing_in new c ≡ standing_in old c) → after ≡ rs ++ race_by r now.entry (cell_at_key k)
    → RaceFinds now.entry now.process (Some (record { cell = cell_at_key k; storing = storing })) clock (standing_in old) (standing_in new) rs after
finds_so k storing clock now old new r rs after e own others a =
    (own, other_cells k old new others, a ∙ ap (λ (n : ℕ). rs ++ race_by n now.entry (cell_at_key k)) e)

-- ---- clocks

module _ (entry : ℕ) (d : Done) (of_process : ℕ → ℕ → ℕ) (set_by freed_by : CellName → ℕ → ℕ) (of_process' : ℕ → ℕ → ℕ) (set_by' freed_by' : CellName → ℕ → ℕ) where
  pub notes_so :
      (own clock : ℕ → ℕ) → ((q : ℕ) → clock q ≡ clock_joined d of_process set_by freed_by q) → ((q : ℕ) → own q ≡ (if d.process == q then entry else clock q))
      → ((p q : ℕ) → of_process' p q ≡ process_clock (d.process == p) (touches d p) own (of_process p) q)
      → ((c : CellName) → Becomes (d.signal ≡ sets c) (set_by c) own (set_by' c)) → ((c : CellName) → Becomes (d.signal ≡ frees c) (freed_by c) own (freed_by' c))
      → Notes entry d of_process set_by freed_by of_process' set_by' freed_by'
  notes_so own clock h e processes set freed =
      record {
        processes = subst (λ (f : ℕ → ℕ). (p q : ℕ) → of_process' p q ≡ process_clock (d.process == p) (touches d p) f (of_process p) q) same processes;
        set = subst (λ (f : ℕ → ℕ). (c : CellName) → Becomes (d.signal ≡ sets c) (set_by c) f (set_by' c)) same set;
        freed = subst (λ (f : ℕ → ℕ). (c : CellName) → Becomes (d.signal ≡ frees c) (freed_by c) f (freed_by' c)) same freed;
      }
    where
      at : (q : ℕ) → own q ≡ own_clock entry d of_process set_by freed_by q
      at q = e q ∙ ap (λ (n : ℕ). if d.process == q then entry else n) (h q)

      same : own ≡ own_clock entry d of_process set_by freed_by
      same = λ i q. at q i

-- a clock that the entry's own process has is not asked
pub process_same : (own_process touched : Bool) (own old other : ℕ → ℕ) → (own_process ≡ false → (q : ℕ) → old q ≡ other q) → (q : ℕ)
    → process_clock own_process touched own old q ≡ process_clock own_process touched own other q
process_same true touched own old other h q = refl
process_same false true own old other h q = ap (λ (n : ℕ). max n (own q)) (h refl q)
process_same false false own old other h q = h refl q

-- the clocks of events before the entry are those that stood when its clock was taken
pub notes_before : {A B : Type 0} (P : A → B → Type 0) (set set' : A) (freed freed' : B) → set' ≡ set → freed' ≡ freed → P set' freed' → P set freed
notes_before {A = A} {B = B} P set set' freed freed' a b h = subst (λ (s : A). P s freed) a (subst (λ (f : B). P set' f) b h)

-- ---- an entry

pub goes_on_so :
    (ds : List Done) (d : Done) (n : ℕ) (clock : ℕ → ℕ) (of_process : ℕ → ℕ → ℕ) (set_by freed_by : CellName → ℕ → ℕ) (of_process' : ℕ → ℕ → ℕ) (set_by' freed_by' : CellName → ℕ → ℕ)
    (old new : BTreeMap Key Kept) (rs rs' : List races.Race) → n ≡ length ds → RaceWalks ds of_process set_by freed_by (standing_in old) rs
    → ((q : ℕ) → clock q ≡ clock_joined d of_process set_by freed_by q)
    → (((q : ℕ) → clock q ≡ clock_joined d of_process set_by freed_by q) → Notes (n + 1) d of_process set_by freed_by of_process' set_by' freed_by')
    → RaceFinds (n + 1) d.process d.access clock (standing_in old) (standing_in new) rs rs' → RaceWalks (ds ++ d ∷ []) of_process' set_by' freed_by' (standing_in new) rs'
goes_on_so ds d n clock of_process set_by freed_by of_process' set_by' freed_by' old new rs rs' e w h notes finds =
    walks_go_on ds d of_process set_by freed_by of_process' set_by' freed_by' (standing_in old) (standing_in new) rs rs' w
    (subst (λ (m : ℕ). Notes (m + 1) d of_process set_by freed_by of_process' set_by' freed_by') e (notes h))
    (subst (λ (m : ℕ). RaceFinds (m + 1) d.process d.access (clock_joined d of_process set_by freed_by) (standing_in old) (standing_in new) rs rs') e
    (subst (λ (f : ℕ → ℕ). RaceFinds (n + 1) d.process d.access f (standing_in old) (standing_in new) rs rs') same finds))
  where
    same : clock ≡ clock_joined d of_process set_by freed_by
    same = λ i q. h q i

pub entries_so : (ds : List Done) (d : Done) (n : ℕ) → n ≡ length ds → n + 1 ≡ length (ds ++ d ∷ [])
entries_so ds d n e = ap (λ (m : ℕ). m + 1) e ∙ sym (length_more ds d)
