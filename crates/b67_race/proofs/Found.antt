-- The walk as a function finds the races, and there are no other ones.
use Rattle.std.proofs.Common.{arith, ◌≡◌, ◌⊎◌, inl, inr, refl, sym, ap, ◌∙◌, subst, ℕ, zero, suc, ◌+◌, ◌<◌, Bool, true, false, List, [], ◌∷◌, ◌++◌, length, Option, Some, None, if◌then◌else◌, append_assoc, append-nil}
use Rattle.b67_race.specs.Entries.{CellName, Signal, nothing, sets, goes_by, frees, takes, Access, Done, IsNumberedEntry}
use Rattle.b67_race.specs.Clocks.{Becomes, own_clock, clock_joined}
use Rattle.b67_race.specs.Watching.{Covers, Watches, none_yet, rivals}
use Rattle.b67_race.specs.Cells.{Standing, cell_at_key, is_cell, element_number_of, at_of, standing_after}
use Rattle.b67_race.specs.Races.{Race, IsAmongRaces, Rise, RaceWalks, RaceFinds}
use Rattle.b67_race.specs.Found.{same_cell, put_at, Walk, first_walk, set_after, freed_after, cells_after, found_after, walked, walked_from, RacesAreComputed, RacesAreOneList}
use Rattle.b67_race.proofs.Entries.{length_more}
use Rattle.b67_race.proofs.Keys.{key_of, at_number, is_own_cell, own_cell_is, sets_same, frees_same}
use Rattle.b67_race.proofs.Walking.{walks_go_on, walks_find_all}

-- ---- cells

cell_of_key : (c : CellName) → cell_at_key (key_of c) ≡ c
cell_of_key c = joined_at (at_number c.at)
  where
    joined_at : at_of (element_number_of c.at) ≡ c.at → cell_at_key (key_of c) ≡ c
    joined_at e j = record { instance = c.instance; name = c.name; at = e j }

same_is : (c d : CellName) → same_cell c d ≡ true → c ≡ d
same_is c d e = sym (cell_of_key c) ∙ own_cell_is (key_of c) d e

same_own : (c : CellName) → same_cell c c ≡ true
same_own c = ap (is_cell (key_of c)) (sym (cell_of_key c)) ∙ is_own_cell (key_of c)

others_differ : (c d : CellName) → same_cell c d ≡ false → d ≡ c → ⊥
others_differ c d e f = let g : true ≡ false = sym (same_own c) ∙ ap (same_cell c) (sym f) ∙ e in cc

put_here : {A : Type 0} (c : CellName) (x : A) (f : CellName → A) → put_at c x f c ≡ x
put_here c x f = ap (λ (b : Bool). if b then x else f c) (same_own c)

put_other : {A : Type 0} (c d : CellName) (x : A) (f : CellName → A) → same_cell c d ≡ false → put_at c x f d ≡ f d
put_other c d x f e = ap (λ (b : Bool). if b then x else f d) e

-- ---- clocks of events

module _ (own : ℕ → ℕ) (old : CellName → ℕ → ℕ) where
  becomes_at : (Of : CellName → Signal) → ((c d : CellName) → Of c ≡ Of d → c ≡ d) → (c d : CellName) → Becomes (Of c ≡ Of d) (old d) own (put_at c own old d)
  becomes_at Of same c d = by (same_cell c d) refl
    where
      by : (b : Bool) → same_cell c d ≡ b → Becomes (Of c ≡ Of d) (old d) own (put_at c own old d)
      by true e = inl (ap Of (same_is c d e), λ q. ap (λ (b : Bool). (if b then own else old d) q) e)
      by false e = inr (λ f. others_differ c d e (sym (same c d f)), λ q. ap (λ (b : Bool). (if b then own else old d) q) e)

  set_becomes : (s : Signal) (d : CellName) → Becomes (s ≡ sets d) (old d) own (set_after s own old d)
  set_becomes nothing d = inr (λ f. cc, λ q. refl)
  set_becomes (sets c) d = becomes_at sets sets_same c d
  set_becomes (goes_by c) d = inr (λ f. cc, λ q. refl)
  set_becomes (frees c) d = inr (λ f. cc, λ q. refl)
  set_becomes (takes c) d = inr (λ f. cc, λ q. refl)

  freed_becomes : (s : Signal) (d : CellName) → Becomes (s ≡ frees d) (old d) own (freed_after s own old d)
  freed_becomes nothing d = inr (λ f. cc, λ q. refl)
  freed_becomes (sets c) d = inr (λ f. cc, λ q. refl)
  freed_becomes (goes_by c) d = inr (λ f. cc, λ q. refl)
  freed_becomes (frees c) d = becomes_at frees frees_same c d
  freed_becomes (takes c) d = inr (λ f. cc, λ q. refl)

-- ---- one entry more

finds : (n p : ℕ) (o : Option Access) (clock : ℕ → ℕ) (cells : CellName → Standing) (rs : List Race) →
    RaceFinds n p o clock cells (cells_after n p clock o cells) rs (found_after n clock o cells rs)
finds n p None clock cells rs = (λ c. refl, refl)
finds n p (Some a) clock cells rs = (put_here a.cell now cells, λ c. by c (same_cell a.cell c) refl, refl)
  where
    now : Standing
    now = standing_after a.storing clock (record { entry = n; process = p }) (cells a.cell)

    by : (c : CellName) (b : Bool) → same_cell a.cell c ≡ b → (c ≡ a.cell) ⊎ ((c ≡ a.cell → ⊥) × (put_at a.cell now cells c ≡ cells c))
    by c true e = inl (sym (same_is a.cell c e))
    by c false e = inr (others_differ a.cell c e, put_other a.cell c now cells e)

abbrev Goes : List Done → Walk → Type 0
Goes ds s = RaceWalks ds s.of_process s.set_by s.freed_by s.cells s.found

goes_more : (ds : List Done) (d : Done) (s : Walk) → Goes ds s → Goes (ds ++ d ∷ []) (walked (length ds + 1) d s)
goes_more ds d s h =
    let own = own_clock (length ds + 1) d s.of_process s.set_by s.freed_by in
    let clock = clock_joined d s.of_process s.set_by s.freed_by in
    let after = walked (length ds + 1) d s in
    walks_go_on ds d s.of_process s.set_by s.freed_by after.of_process after.set_by after.freed_by s.cells after.cells s.found after.found h
    (record {
      processes = λ p q. refl;
      set = set_becomes own s.set_by d.signal;
      freed = freed_becomes own s.freed_by d.signal;
    })
    (finds (length ds + 1) d.process d.access clock s.cells s.found)

goes_all : (ds es : List Done) (n : ℕ) (s : Walk) → n ≡ length ds + 1 → Goes ds s → Goes (ds ++ es) (walked_from n es s)
goes_all ds [] n s e h = subst (λ (xs : List Done). Goes xs s) (sym (append-nil ds)) h
goes_all ds (d ∷ es) n s e h =
    subst (λ (xs : List Done). Goes xs (walked_from (n + 1) es (walked n d s))) (append_assoc ds (d ∷ []) es)
    (goes_all (ds ++ d ∷ []) es (n + 1) (walked n d s) (ap (λ (k : ℕ). k + 1) (e ∙ sym (length_more ds d)))
    (subst (λ (k : ℕ). Goes (ds ++ d ∷ []) (walked k d s)) (sym e) (goes_more ds d s h)))

-- ---- before the first one

no_entry : {A : Type 0} (k : ℕ) (d : Done) → IsNumberedEntry [] k d → A
no_entry zero d e = absurd (no e)
  where
    no : None ≡ Some d → ⊥
    no f = cc
no_entry (suc k) d e = absurd (no e)
  where
    no : None ≡ Some d → ⊥
    no f = cc

first_watches : (c : CellName) → Watches [] c none_yet
first_watches c = record { quiet = λ i j f. no_entry i f.first f.first_is.is; covers = λ storing. covered storing }
  where
    covered : (storing : Bool) → Covers [] c storing (rivals storing none_yet)
    covered true = record { are = λ y m. absurd m; all = λ i d b t e. no_entry i d t.is }
    covered false = record { are = λ y m. absurd m; all = λ i d b t e. no_entry i d t.is }

first_goes : Goes [] first_walk
first_goes =
    record {
      tracks = record {
        processes = λ p. record { within = λ q. omega arith; all = λ k d is those. no_entry k d is; only = λ k d is l. no_entry k d is };
        set = λ c. record { within = λ q. omega arith; all = λ k d is those. no_entry k d is; only = λ k d is l. no_entry k d is };
        freed = λ c. record { within = λ q. omega arith; all = λ k d is those. no_entry k d is; only = λ k d is l. no_entry k d is };
      };
      stands = λ c. first_watches c;
      only = λ r m. absurd m;
      below = λ r m. absurd m;
      rise = tt;
    }

pub races_are_computed : RacesAreComputed
races_are_computed ds =
    let s = walked_from 1 ds first_walk in
    walks_find_all ds s.of_process s.set_by s.freed_by s.cells s.found (goes_all [] ds 1 first_walk refl first_goes)

-- ---- one list

not_less : (k : ℕ) → k < k → ⊥
not_less k l = omega (arith, l)

one_list : (rs ss : List Race) → Rise rs → Rise ss → ((r : Race) → IsAmongRaces rs r → IsAmongRaces ss r) → ((r : Race) → IsAmongRaces ss r → IsAmongRaces rs r) → rs ≡ ss
one_list [] [] h g there back = refl
one_list [] (s ∷ ss) h g there back = absurd (back s (inl refl))
one_list (r ∷ rs) [] h g there back = absurd (there r (inl refl))
one_list (r ∷ rs) (s ∷ ss) h g there back = ap (λ (x : Race). x ∷ rs) same ∙ ap (λ (xs : List Race). s ∷ xs) (one_list rs ss h.1 g.1 later earlier)
  where
    heads : (s ≡ r) ⊎ IsAmongRaces ss r → (r ≡ s) ⊎ IsAmongRaces rs s → r ≡ s
    heads (inl e) m = sym e
    heads (inr k) (inl e) = e
    heads (inr k) (inr m) = let a : s.second < r.second = g.0 r k in let b : r.second < s.second = h.0 s m in absurd (omega (arith, a, b))

    same : r ≡ s
    same = heads (there r (inl refl)) (back s (inl refl))

    -- what comes after the first is not the first
    later : (x : Race) → IsAmongRaces rs x → IsAmongRaces ss x
    later x m = by (there x (inr m))
      where
        by : (s ≡ x) ⊎ IsAmongRaces ss x → IsAmongRaces ss x
        by (inl e) = absurd (not_less r.second (subst (λ (y : Race). r.second < y.second) (sym (same ∙ e)) (h.0 x m)))
        by (inr k) = k

    earlier : (x : Race) → IsAmongRaces ss x → IsAmongRaces rs x
    earlier x m = by (back x (inr m))
      where
        by : (r ≡ x) ⊎ IsAmongRaces rs x → IsAmongRaces rs x
        by (inl e) = absurd (not_less s.second (subst (λ (y : Race). s.second < y.second) (sym (sym same ∙ e)) (g.0 x m)))
        by (inr k) = k

pub races_are_one_list : RacesAreOneList
races_are_one_list ds rs ss a b =
    one_list rs ss a.rise b.rise
    (λ r m. let is = a.only r m in b.all r.cell r.first r.second is)
    (λ r m. let is = b.only r m in a.all r.cell r.first r.second is)
