-- A walk over entries finds their races.
use Rattle.std.proofs.Common.{arith, ◌≡◌, ◌⊎◌, inl, inr, refl, sym, ap, ◌∙◌, subst, ℕ, zero, suc, ◌+◌, ◌<◌, Bool, List, [], ◌∷◌, ◌++◌, length, Option, Some, None, append-nil}
use Rattle.b67_race.specs.Entries.{CellName, Access, Done}
use Rattle.b67_race.specs.Clocks.{Notes, clock_joined}
use Rattle.b67_race.specs.Racing.{IsRace}
use Rattle.b67_race.specs.Watching.{WatchNext, Elsewhere, rivals, latest, watched}
use Rattle.b67_race.specs.Cells.{Standing, quiet, raced, rival_in, standing_with, standing_after}
use Rattle.b67_race.specs.Races.{Race, IsAmongRaces, AreBelow, Rise, StandsSo, RaceWalks, race_by, RaceFinds, WalksGoOn, WalksFindAll}
use Rattle.b67_race.proofs.Entries.{length_more}
use Rattle.b67_race.proofs.Stable.{longer}
use Rattle.b67_race.proofs.Tracking.{clocks_tell}
use Rattle.b67_race.proofs.Keeping.{clocks_stay}
use Rattle.b67_race.proofs.Watching.{race_of, watches_still, watches_others, race_stays, cells_have_one}

-- ---- lists of races

among_left : (rs ss : List Race) (r : Race) → IsAmongRaces rs r → IsAmongRaces (rs ++ ss) r
among_left [] ss r n = absurd n
among_left (x ∷ rs) ss r (inl e) = inl e
among_left (x ∷ rs) ss r (inr n) = inr (among_left rs ss r n)

among_right : (rs ss : List Race) (r : Race) → IsAmongRaces ss r → IsAmongRaces (rs ++ ss) r
among_right [] ss r n = n
among_right (x ∷ rs) ss r n = inr (among_right rs ss r n)

among_either : (rs ss : List Race) (r : Race) → IsAmongRaces (rs ++ ss) r → IsAmongRaces rs r ⊎ IsAmongRaces ss r
among_either [] ss r n = inr n
among_either (x ∷ rs) ss r (inl e) = inl (inl e)
among_either (x ∷ rs) ss r (inr n) = by (among_either rs ss r n)
  where
    by : IsAmongRaces rs r ⊎ IsAmongRaces ss r → IsAmongRaces (x ∷ rs) r ⊎ IsAmongRaces ss r
    by (inl m) = inl (inr m)
    by (inr m) = inr m

rise_more : (rs : List Race) (r : Race) → Rise rs → AreBelow rs r.second → Rise (rs ++ r ∷ [])
rise_more [] r h b = (λ s n. absurd n, tt)
rise_more (x ∷ rs) r h b = (first, rise_more rs r h.1 (λ s n. b s (inr n)))
  where
    first : (s : Race) → IsAmongRaces (rs ++ r ∷ []) s → x.second < s.second
    first s n = by (among_either rs (r ∷ []) s n)
      where
        by : IsAmongRaces rs s ⊎ IsAmongRaces (r ∷ []) s → x.second < s.second
        by (inl m) = h.0 s m
        by (inr (inl e)) = subst (λ (y : Race). x.second < y.second) e (b x (inl refl))
        by (inr (inr m)) = absurd m

-- ---- one entry more

module _ (ds : List Done) (x : Done) where
  stands_more : (rs ss : List Race) (c : CellName) (s : Standing) → Elsewhere x c → StandsSo ds rs c s → StandsSo (longer ds x) (rs ++ ss) c s
  stands_more rs ss c (quiet w) other h = watches_others ds x c other w h
  stands_more rs ss c raced other h =
      (h.0, h.1, race_stays ds x c h.0 h.1 h.2, among_left rs ss (record { first = h.0; second = h.1; cell = c }) h.3)

  -- the cell that it accesses
  stands_now : (rs : List Race) (c : CellName) (storing : Bool) (clock : ℕ → ℕ) (s : Standing) → WatchNext ds x c storing clock → StandsSo ds rs c s
      → StandsSo (longer ds x) (rs ++ race_by (rival_in storing clock s) (length ds + 1) c) c (standing_after storing clock (record { entry = length ds + 1; process = x.process }) s)
  stands_now rs c storing clock raced n h =
      (h.0, h.1, race_stays ds x c h.0 h.1 h.2, among_left rs [] (record { first = h.0; second = h.1; cell = c }) h.3)
  stands_now rs c storing clock (quiet w) n h = by (latest clock (rivals storing w)) refl
    where
      by : (k : ℕ) → latest clock (rivals storing w) ≡ k
          → StandsSo (longer ds x) (rs ++ race_by (latest clock (rivals storing w)) (length ds + 1) c) c
          (standing_with (latest clock (rivals storing w)) (watched storing (record { entry = length ds + 1; process = x.process }) w))
      by zero e =
          subst (λ (m : ℕ). StandsSo (longer ds x) (rs ++ race_by m (length ds + 1) c) c (standing_with m (watched storing (record { entry = length ds + 1; process = x.process }) w))) (sym e)
          (watches_still ds x c storing clock w h n e)
      by (suc k) e =
          subst (λ (m : ℕ). StandsSo (longer ds x) (rs ++ race_by m (length ds + 1) c) c (standing_with m (watched storing (record { entry = length ds + 1; process = x.process }) w))) (sym e) (
            suc k,
            length ds + 1,
            subst (λ (m : ℕ). IsRace (longer ds x) c m (length ds + 1)) e (race_of ds x c storing clock w h n (λ z. let q : 0 ≡ suc k = sym z ∙ e in absurd (omega (arith, q)))),
            among_right rs (record { first = suc k; second = length ds + 1; cell = c } ∷ []) (record { first = suc k; second = length ds + 1; cell = c }) (inl refl),
          )

  -- the race that it makes is one
  race_now : (rs : List Race) (c : CellName) (storing : Bool) (clock : ℕ → ℕ) (s : Standing) → WatchNext ds x c storing clock → StandsSo ds rs c s → (r : Race)
      → IsAmongRaces (race_by (rival_in storing clock s) (length ds + 1) c) r → IsRace (longer ds x) r.cell r.first r.second × (r.second ≡ length ds + 1)
  race_now rs c storing clock raced n h r m = absurd m
  race_now rs c storing clock (quiet w) n h r m = by (latest clock (rivals storing w)) refl m
    where
      by : (k : ℕ) → latest clock (rivals storing w) ≡ k → IsAmongRaces (race_by (latest clock (rivals storing w)) (length ds + 1) c) r
          → IsRace (longer ds x) r.cell r.first r.second × (r.second ≡ length ds + 1)
      by zero e l = absurd (subst (λ (m : ℕ). IsAmongRaces (race_by m (length ds + 1) c) r) e l)
      by (suc k) e l = on (subst (λ (m : ℕ). IsAmongRaces (race_by m (length ds + 1) c) r) e l)
        where
          is : IsRace (longer ds x) c (suc k) (length ds + 1)
          is = subst (λ (m : ℕ). IsRace (longer ds x) c m (length ds + 1)) e (race_of ds x c storing clock w h n (λ z. let q : 0 ≡ suc k = sym z ∙ e in absurd (omega (arith, q))))

          on : IsAmongRaces (record { first = suc k; second = length ds + 1; cell = c } ∷ []) r → IsRace (longer ds x) r.cell r.first r.second × (r.second ≡ length ds + 1)
          on (inl same) = subst (λ (y : Race). IsRace (longer ds x) y.cell y.first y.second × (y.second ≡ length ds + 1)) same (is, refl)
          on (inr o) = absurd o

  rise_by : (rs : List Race) (k : ℕ) (c : CellName) → Rise rs → AreBelow rs (length ds + 1) → Rise (rs ++ race_by k (length ds + 1) c)
  rise_by rs zero c h b = subst Rise (sym (append-nil rs)) h
  rise_by rs (suc k) c h b = rise_more rs (record { first = suc k; second = length ds + 1; cell = c }) h b

  below_more : (rs : List Race) → AreBelow rs (length ds + 1) → AreBelow rs (length (longer ds x) + 1)
  below_more rs b r m = let l : r.second < length ds + 1 = b r m in let e : length (longer ds x) ≡ length ds + 1 = length_more ds x in omega (arith, l, e)

  module _ (of_process : ℕ → ℕ → ℕ) (set_by freed_by : CellName → ℕ → ℕ) (of_process' : ℕ → ℕ → ℕ) (set_by' freed_by' : CellName → ℕ → ℕ)
      (cells cells' : CellName → Standing) (rs rs' : List Race) (h : RaceWalks ds of_process set_by freed_by cells rs)
      (n : Notes (length ds + 1) x of_process set_by freed_by of_process' set_by' freed_by') where
    goes_none : x.access ≡ None → ((c : CellName) → cells' c ≡ cells c) × (rs' ≡ rs) → RaceWalks (longer ds x) of_process' set_by' freed_by' cells' rs'
    goes_none e f = subst (λ (ss : List Race). RaceWalks (longer ds x) of_process' set_by' freed_by' cells' ss) (sym f.1) (record {
      tracks = clocks_stay ds x of_process set_by freed_by of_process' set_by' freed_by' h.tracks n;
      stands = λ c. subst (λ (s : Standing). StandsSo (longer ds x) rs c s) (sym (f.0 c)) (subst (λ (ss : List Race). StandsSo (longer ds x) ss c (cells c)) (append-nil rs)
          (stands_more rs [] c (cells c) (λ storing a. let q : None ≡ Some (record { cell = c; storing = storing }) = sym e ∙ a in cc) (h.stands c)));
      only = λ r m. race_stays ds x r.cell r.first r.second (h.only r m);
      below = below_more rs h.below;
      rise = h.rise;
    })

    module _ (a : Access) (e : x.access ≡ Some a) (f : RaceFinds (length ds + 1) x.process (Some a) (clock_joined x of_process set_by freed_by) cells cells' rs rs') where
      next : WatchNext ds x a.cell a.storing (clock_joined x of_process set_by freed_by)
      next = (e, clocks_tell ds x of_process set_by freed_by h.tracks)

      elsewhere : (c : CellName) → (c ≡ a.cell → ⊥) → Elsewhere x c
      elsewhere c other storing b =
          let q : Some a ≡ Some (record { cell = c; storing = storing }) = sym e ∙ b in
          other (sym (ap (λ (o : Option Access). cell_in o) q))
        where
          cell_in : Option Access → CellName
          cell_in None = a.cell
          cell_in (Some y) = y.cell

      stands_at : (c : CellName) → (c ≡ a.cell) ⊎ ((c ≡ a.cell → ⊥) × (cells' c ≡ cells c))
          → StandsSo (longer ds x) (rs ++ race_by (rival_in a.storing (clock_joined x of_process set_by freed_by) (cells a.cell)) (length ds + 1) a.cell) c (cells' c)
      stands_at c (inl same) =
          subst (λ (d : CellName). StandsSo (longer ds x) (rs ++ race_by (rival_in a.storing (clock_joined x of_process set_by freed_by) (cells a.cell)) (length ds + 1) a.cell) d (cells' d)) (sym same)
          (subst (λ (s : Standing). StandsSo (longer ds x) (rs ++ race_by (rival_in a.storing (clock_joined x of_process set_by freed_by) (cells a.cell)) (length ds + 1) a.cell) a.cell s) (sym f.0)
          (stands_now rs a.cell a.storing (clock_joined x of_process set_by freed_by) (cells a.cell) next (h.stands a.cell)))
      stands_at c (inr u) =
          subst (λ (s : Standing). StandsSo (longer ds x) (rs ++ race_by (rival_in a.storing (clock_joined x of_process set_by freed_by) (cells a.cell)) (length ds + 1) a.cell) c s) (sym u.1)
          (stands_more rs (race_by (rival_in a.storing (clock_joined x of_process set_by freed_by) (cells a.cell)) (length ds + 1) a.cell) c (cells c) (elsewhere c u.0) (h.stands c))

      is_only : (r : Race) → IsAmongRaces rs r ⊎ IsAmongRaces (race_by (rival_in a.storing (clock_joined x of_process set_by freed_by) (cells a.cell)) (length ds + 1) a.cell) r → IsRace (longer ds x) r.cell r.first r.second
      is_only r (inl m) = race_stays ds x r.cell r.first r.second (h.only r m)
      is_only r (inr m) = (race_now rs a.cell a.storing (clock_joined x of_process set_by freed_by) (cells a.cell) next (h.stands a.cell) r m).0

      is_below : (r : Race) → IsAmongRaces rs r ⊎ IsAmongRaces (race_by (rival_in a.storing (clock_joined x of_process set_by freed_by) (cells a.cell)) (length ds + 1) a.cell) r → r.second < length (longer ds x) + 1
      is_below r (inl m) = below_more rs h.below r m
      is_below r (inr m) =
          let s : r.second ≡ length ds + 1 = (race_now rs a.cell a.storing (clock_joined x of_process set_by freed_by) (cells a.cell) next (h.stands a.cell) r m).1 in
          let l : length (longer ds x) ≡ length ds + 1 = length_more ds x in
          omega (arith, s, l)

      goes_some : ((c : CellName) → (c ≡ a.cell) ⊎ ((c ≡ a.cell → ⊥) × (cells' c ≡ cells c))) → RaceWalks (longer ds x) of_process' set_by' freed_by' cells' rs'
      goes_some others = subst (λ (ss : List Race). RaceWalks (longer ds x) of_process' set_by' freed_by' cells' ss) (sym f.2) (record {
        tracks = clocks_stay ds x of_process set_by freed_by of_process' set_by' freed_by' h.tracks n;
        stands = λ c. stands_at c (others c);
        only = λ r m. is_only r (among_either rs (race_by (rival_in a.storing (clock_joined x of_process set_by freed_by) (cells a.cell)) (length ds + 1) a.cell) r m);
        below = λ r m. is_below r (among_either rs (race_by (rival_in a.storing (clock_joined x of_process set_by freed_by) (cells a.cell)) (length ds + 1) a.cell) r m);
        rise = rise_by rs (rival_in a.storing (clock_joined x of_process set_by freed_by) (cells a.cell)) a.cell h.rise h.below;
      })

pub walks_go_on : WalksGoOn
walks_go_on ds d of_process set_by freed_by of_process' set_by' freed_by' cells cells' rs rs' h n f = by d.access refl f
  where
    by : (o : Option Access) → d.access ≡ o → RaceFinds (length ds + 1) d.process o (clock_joined d of_process set_by freed_by) cells cells' rs rs' → RaceWalks (ds ++ d ∷ []) of_process' set_by' freed_by' cells' rs'
    by None e g = goes_none ds d of_process set_by freed_by of_process' set_by' freed_by' cells cells' rs rs' h n e g
    by (Some a) e g = goes_some ds d of_process set_by freed_by of_process' set_by' freed_by' cells cells' rs rs' h n a e g g.1

pub walks_find_all : WalksFindAll
walks_find_all ds of_process set_by freed_by cells rs h =
    record {
      all = λ c k j r. all_of c k j (cells c) (h.stands c) r;
      only = h.only;
      rise = h.rise;
    }
  where
    all_of : (c : CellName) (k j : ℕ) (s : Standing) → StandsSo ds rs c s → IsRace ds c k j → IsAmongRaces rs (record { first = k; second = j; cell = c })
    all_of c k j (quiet w) q r = absurd (q.quiet k j r.conflict)
    all_of c k j raced q r =
        let same = cells_have_one ds c q.0 q.1 k j q.2 r in
        subst (λ (i : ℕ). IsAmongRaces rs (record { first = i; second = j; cell = c })) same.0
        (subst (λ (l : ℕ). IsAmongRaces rs (record { first = q.0; second = l; cell = c })) same.1 q.3)
