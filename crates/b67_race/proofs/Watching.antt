-- The races of a cell when an entry is added.
use Rattle.std.proofs.Common.{arith, ◌≡◌, ◌≢◌, ◌⊎◌, inl, inr, refl, sym, ap, ◌∙◌, subst, ℕ, ◌+◌, ◌<◌, ◌≤◌, ◌==◌, ◌||◌, Bool, true, false, List, [], ◌∷◌, ◌++◌, length, Option, Some, None}
use Rattle.b67_list.proofs.Numbers.{number_itself}
use Rattle.b67_list.proofs.Truths.{or_left}
use Rattle.b67_race.specs.Entries.{CellName, Access, Done, is_this, entry_is_one_of, IsNumberedEntry}
use Rattle.b67_race.specs.Orders.{Ordered, one, chain, by_process, UpTo}
use Rattle.b67_race.specs.Racing.{Touches, Conflict, IsRace}
use Rattle.b67_race.specs.declared.cells.Past.{Past}
use Rattle.b67_race.specs.Watching.{IsInPast, Watch, rivals, latest, read_noted, watched, IsRival, IsCovered, Covers, Watches, WatchNext, LatestMakeRaces, WatchesStay, Elsewhere, OthersStay, RacesStay, CellsHaveOne}
use Rattle.b67_race.proofs.Entries.{is_least, is_within, is_more, is_old, is_new, same_done}
use Rattle.b67_race.proofs.Stable.{longer, ordered_are, ordered_more, ordered_old, up_more}
use Rattle.b67_race.proofs.Keeping.{new_or_old}
use Rattle.b67_race.proofs.Rivals.{in_left, in_right, in_either, latest_bounds, latest_is, noted_now, noted_is, noted_all}

ordered_on : (ds : List Done) (k i j : ℕ) → Ordered ds k i → Ordered ds i j → Ordered ds k j
ordered_on ds k i j a (one d) = chain i a d
ordered_on ds k i j a (chain m o d) = chain m (ordered_on ds k i m a o) d

up_on : (ds : List Done) (k i j : ℕ) → UpTo ds k i → Ordered ds i j → Ordered ds k j
up_on ds k i j (inl same) o = subst (λ (n : ℕ). Ordered ds n j) (sym same) o
up_on ds k i j (inr a) o = ordered_on ds k i j a o

same_access : (d : Done) (c : CellName) (a b : Bool) → d.access ≡ Some (record { cell = c; storing = a }) → d.access ≡ Some (record { cell = c; storing = b }) → a ≡ b
same_access d c a b p q =
    let r : Some (record { cell = c; storing = a }) ≡ Some (record { cell = c; storing = b }) = sym p ∙ q in
    ap (λ (o : Option Access). flag o) r
  where
    flag : Option Access → Bool
    flag None = false
    flag (Some x) = x.storing

module _ (ds : List Done) (x : Done) where
  touches_more : (c : CellName) (k : ℕ) (d : Done) (b : Bool) → Touches ds c k d b → Touches (longer ds x) c k d b
  touches_more c k d b t = record { is = is_more ds (x ∷ []) k d t.is; access = t.access }

  touches_old : (c : CellName) (k : ℕ) (d : Done) (b : Bool) → k ≤ length ds → Touches (longer ds x) c k d b → Touches ds c k d b
  touches_old c k d b l t = record { is = is_old ds (x ∷ []) k d l t.is; access = t.access }

  conflict_old : (c : CellName) (i j : ℕ) → j ≤ length ds → Conflict (longer ds x) c i j → Conflict ds c i j
  conflict_old c i j l f =
      let less : i < j = f.before in
      record {
        before = f.before;
        first = f.first;
        second = f.second;
        first_stores = f.first_stores;
        second_stores = f.second_stores;
        first_is = touches_old c i f.first f.first_stores (omega (arith, less, l)) f.first_is;
        second_is = touches_old c j f.second f.second_stores l f.second_is;
        processes = f.processes;
        stores = f.stores;
        apart = λ o. f.apart (ordered_more ds x i j o);
      }

  conflict_more : (c : CellName) (i j : ℕ) → Conflict ds c i j → Conflict (longer ds x) c i j
  conflict_more c i j f =
      let within : j ≤ length ds = is_within ds j f.second f.second_is.is in
      record {
        before = f.before;
        first = f.first;
        second = f.second;
        first_stores = f.first_stores;
        second_stores = f.second_stores;
        first_is = touches_more c i f.first f.first_stores f.first_is;
        second_is = touches_more c j f.second f.second_stores f.second_is;
        processes = f.processes;
        stores = f.stores;
        apart = λ o. f.apart (ordered_old ds x i j within o);
      }

  covered_more : (xs : List Past) (i : ℕ) → IsCovered ds xs i → IsCovered (longer ds x) xs i
  covered_more xs i v = record { past = v.past; in_it = v.in_it; up_to = up_more ds x i v.past.entry v.up_to }

  rival_more : (c : CellName) (storing : Bool) (y : Past) → IsRival ds c storing y → IsRival (longer ds x) c storing y
  rival_more c storing y r =
      record { done = r.done; stores = r.stores; is = touches_more c y.entry r.done r.stores r.is; process = r.process; either = r.either }

  -- ---- the next entry accesses the cell

  module _ (c : CellName) (storing : Bool) (clock : ℕ → ℕ) (w : Watch) (h : Watches ds c w) (n : WatchNext ds x c storing clock) where
    is_next : Touches (longer ds x) c (length ds + 1) x storing
    is_next = record { is = is_new ds x; access = n.0 }

    -- an entry of its process
    own_before : (k : ℕ) (d : Done) → IsNumberedEntry ds k d → d.process ≡ x.process → Ordered (longer ds x) k (length ds + 1)
    own_before k d is same =
        let within : k ≤ length ds = is_within ds k d is in
        one (by_process d x (is_more ds (x ∷ []) k d is) (is_new ds x) (omega (arith, within))
        (or_left (d.process == x.process) (is_this d.started x.process || entry_is_one_of d.released x.process)
        (subst (λ (p : ℕ). (d.process == p) ≡ true) same (number_itself d.process))))

    -- an access that its clock does not tell
    apart_of : (y : Past) → IsRival ds c storing y → clock y.process < y.entry → Conflict (longer ds x) c y.entry (length ds + 1)
    apart_of y r less =
        let within : y.entry ≤ length ds = is_within ds y.entry r.done r.is.is in
        record {
          before = omega (arith, within);
          first = r.done;
          second = x;
          first_stores = r.stores;
          second_stores = storing;
          first_is = touches_more c y.entry r.done r.stores r.is;
          second_is = is_next;
          processes = λ same. ordered_no (own_before y.entry r.done r.is.is same);
          stores = r.either;
          apart = ordered_no;
        }
      where
        ordered_no : Ordered (longer ds x) y.entry (length ds + 1) → ⊥
        ordered_no o =
            let l : y.entry ≤ clock r.done.process = n.1.all y.entry r.done r.is.is o in
            let m : y.entry ≤ clock y.process = subst (λ (p : ℕ). y.entry ≤ clock p) r.process l in
            omega (arith, m, less)

    -- one that its clock tells
    told_of : (y : Past) → IsRival ds c storing y → y.entry ≤ clock y.process → Ordered (longer ds x) y.entry (length ds + 1)
    told_of y r l = n.1.only y.entry r.done r.is.is (subst (λ (p : ℕ). y.entry ≤ clock p) (sym r.process) l)

    -- an earlier access with which it may conflict is ordered before it, or is at most the latest of its rivals
    bounded : (i : ℕ) (d : Done) (b : Bool) → Touches ds c i d b → (b ≡ true) ⊎ (storing ≡ true)
        → Ordered (longer ds x) i (length ds + 1) ⊎ (i ≤ latest clock (rivals storing w))
    bounded i d b t e = on (latest_bounds clock (rivals storing w) v.past v.in_it)
      where
        v : IsCovered ds (rivals storing w) i
        v = (h.covers storing).all i d b t e

        low : UpTo ds i v.past.entry → i ≤ v.past.entry
        low (inl same) = omega (arith, same)
        low (inr o) = let less : i < v.past.entry = (ordered_are ds i v.past.entry o).less in omega (arith, less)

        on : (v.past.entry ≤ clock v.past.process) ⊎ (v.past.entry ≤ latest clock (rivals storing w)) → Ordered (longer ds x) i (length ds + 1) ⊎ (i ≤ latest clock (rivals storing w))
        on (inl l) =
            inl (up_on (longer ds x) i v.past.entry (length ds + 1) (up_more ds x i v.past.entry v.up_to) (told_of v.past ((h.covers storing).are v.past v.in_it) l))
        on (inr l) = let m : i ≤ v.past.entry = low v.up_to in inr (omega (arith, l, m))

    conflict_bounded : (i : ℕ) → Conflict (longer ds x) c i (length ds + 1) → i ≤ latest clock (rivals storing w)
    conflict_bounded i f = by (bounded i f.first f.first_stores (touches_old c i f.first f.first_stores (omega (arith, less)) f.first_is) (either f.stores))
      where
        less : i < length ds + 1
        less = f.before

        is_x : f.second ≡ x
        is_x = same_done (longer ds x) (length ds + 1) f.second x f.second_is.is (is_new ds x)

        same : f.second_stores ≡ storing
        same = same_access x c f.second_stores storing (subst (λ (d : Done). d.access ≡ Some (record { cell = c; storing = f.second_stores })) is_x f.second_is.access) n.0

        either : (f.first_stores ≡ true) ⊎ (f.second_stores ≡ true) → (f.first_stores ≡ true) ⊎ (storing ≡ true)
        either (inl e) = inl e
        either (inr e) = inr (sym same ∙ e)

        by : Ordered (longer ds x) i (length ds + 1) ⊎ (i ≤ latest clock (rivals storing w)) → i ≤ latest clock (rivals storing w)
        by (inl o) = absurd (f.apart o)
        by (inr l) = l

    conflict_last : (i j : ℕ) → Conflict (longer ds x) c i j → j ≡ length ds + 1
    conflict_last i j f = by (new_or_old ds x j f.second f.second_is.is)
      where
        by : ((j ≡ length ds + 1) × (f.second ≡ x)) ⊎ ((j ≤ length ds) × IsNumberedEntry ds j f.second) → j ≡ length ds + 1
        by (inl u) = u.0
        by (inr u) = absurd (h.quiet i j (conflict_old c i j u.0 f))

    pub race_of : latest clock (rivals storing w) ≢ 0 → IsRace (longer ds x) c (latest clock (rivals storing w)) (length ds + 1)
    race_of some =
        let u = latest_is clock (rivals storing w) some in
        record {
          conflict = subst (λ (k : ℕ). Conflict (longer ds x) c k (length ds + 1)) u.2 (apart_of u.0 ((h.covers storing).are u.0 u.1) u.3);
          least = λ i j f. let e : j ≡ length ds + 1 = conflict_last i j f in omega (arith, e);
          greatest = λ i f. conflict_bounded i f;
        }

    -- ---- .. and is ordered after its rivals

    module _ (none : latest clock (rivals storing w) ≡ 0) where
      quiet_still : (i j : ℕ) → Conflict (longer ds x) c i j → ⊥
      quiet_still i j f =
          let e : j ≡ length ds + 1 = conflict_last i j f in
          let g : Conflict (longer ds x) c i (length ds + 1) = subst (λ (m : ℕ). Conflict (longer ds x) c i m) e f in
          let l : i ≤ latest clock (rivals storing w) = conflict_bounded i g in
          let least : 1 ≤ i = is_least (longer ds x) i g.first g.first_is.is in
          omega (arith, l, least, none)

      rivals_before : (i : ℕ) (d : Done) (b : Bool) → Touches ds c i d b → (b ≡ true) ⊎ (storing ≡ true) → Ordered (longer ds x) i (length ds + 1)
      rivals_before i d b t e = by (bounded i d b t e)
        where
          by : Ordered (longer ds x) i (length ds + 1) ⊎ (i ≤ latest clock (rivals storing w)) → Ordered (longer ds x) i (length ds + 1)
          by (inl o) = o
          by (inr l) = let least : 1 ≤ i = is_least ds i d t.is in absurd (omega (arith, l, least, none))

      now_rival : (kind : Bool) → (storing ≡ true) ⊎ (kind ≡ true) → IsRival (longer ds x) c kind (record { entry = length ds + 1; process = x.process })
      now_rival kind e = record { done = x; stores = storing; is = is_next; process = refl; either = e }

      -- after a store
      store_covers : (kind : Bool) → storing ≡ true → Covers (longer ds x) c kind (record { entry = length ds + 1; process = x.process } ∷ [])
      store_covers kind stores =
          record {
            are = λ y m. are_of y m;
            all = λ i d b t e. all_of i d b t (new_or_old ds x i d t.is);
          }
        where
          are_of : (y : Past) → IsInPast (record { entry = length ds + 1; process = x.process } ∷ []) y → IsRival (longer ds x) c kind y
          are_of y (inl same) = subst (λ (z : Past). IsRival (longer ds x) c kind z) same (now_rival kind (inl stores))
          are_of y (inr m) = absurd m

          all_of : (i : ℕ) (d : Done) (b : Bool) → Touches (longer ds x) c i d b → ((i ≡ length ds + 1) × (d ≡ x)) ⊎ ((i ≤ length ds) × IsNumberedEntry ds i d)
              → IsCovered (longer ds x) (record { entry = length ds + 1; process = x.process } ∷ []) i
          all_of i d b t (inl u) = record { past = record { entry = length ds + 1; process = x.process }; in_it = inl refl; up_to = inl u.0 }
          all_of i d b t (inr u) =
              record {
                past = record { entry = length ds + 1; process = x.process };
                in_it = inl refl;
                up_to = inr (rivals_before i d b (touches_old c i d b u.0 t) (inr stores));
              }

      -- after a read
      not_stored : storing ≡ false → (d : Done) (b : Bool) → d ≡ x → d.access ≡ Some (record { cell = c; storing = b }) → b ≡ true → ⊥
      not_stored reads d b same a stores =
          let e : b ≡ storing = same_access x c b storing (subst (λ (y : Done). y.access ≡ Some (record { cell = c; storing = b })) same a) n.0 in
          let f : true ≡ false = sym stores ∙ e ∙ reads in
          cc

      read_covers_stores : storing ≡ false → Covers (longer ds x) c false w.stores
      read_covers_stores reads =
          record {
            are = λ y m. rival_more c false y ((h.covers false).are y m);
            all = λ i d b t e. all_of i d b t e (new_or_old ds x i d t.is);
          }
        where
          all_of : (i : ℕ) (d : Done) (b : Bool) → Touches (longer ds x) c i d b → (b ≡ true) ⊎ (false ≡ true) → ((i ≡ length ds + 1) × (d ≡ x)) ⊎ ((i ≤ length ds) × IsNumberedEntry ds i d)
              → IsCovered (longer ds x) w.stores i
          all_of i d b t (inr f) u = cc
          all_of i d b t (inl e) (inl u) = absurd (not_stored reads d b u.1 t.access e)
          all_of i d b t (inl e) (inr u) = covered_more w.stores i ((h.covers false).all i d b (touches_old c i d b u.0 t) (inl e))

      abbrev after_read : List Past
      after_read = w.stores ++ read_noted (record { entry = length ds + 1; process = x.process }) w.reads

      now_in : IsInPast after_read (record { entry = length ds + 1; process = x.process })
      now_in = in_right w.stores (read_noted (record { entry = length ds + 1; process = x.process }) w.reads) (record { entry = length ds + 1; process = x.process })
          (noted_now (record { entry = length ds + 1; process = x.process }) w.reads)

      read_covers : Covers (longer ds x) c true after_read
      read_covers =
          record {
            are = λ y m. are_of y (in_either w.stores (read_noted (record { entry = length ds + 1; process = x.process }) w.reads) y m);
            all = λ i d b t e. all_of i d b t (new_or_old ds x i d t.is);
          }
        where
          are_reads : (y : Past) → (record { entry = length ds + 1; process = x.process } ≡ y) ⊎ IsInPast w.reads y → IsRival (longer ds x) c true y
          are_reads y (inl same) = subst (λ (z : Past). IsRival (longer ds x) c true z) same (now_rival true (inr refl))
          are_reads y (inr m) = rival_more c true y ((h.covers true).are y (in_right w.stores w.reads y m))

          are_of : (y : Past) → IsInPast w.stores y ⊎ IsInPast (read_noted (record { entry = length ds + 1; process = x.process }) w.reads) y → IsRival (longer ds x) c true y
          are_of y (inl m) = rival_more c true y ((h.covers true).are y (in_left w.stores w.reads y m))
          are_of y (inr m) = are_reads y (noted_is (record { entry = length ds + 1; process = x.process }) w.reads y m)

          old_covered : (i : ℕ) (v : IsCovered ds (w.stores ++ w.reads) i) → IsInPast w.stores v.past ⊎ IsInPast w.reads v.past → IsCovered (longer ds x) after_read i
          old_covered i v (inl m) =
              record {
                past = v.past;
                in_it = in_left w.stores (read_noted (record { entry = length ds + 1; process = x.process }) w.reads) v.past m;
                up_to = up_more ds x i v.past.entry v.up_to;
              }
          old_covered i v (inr m) = on (noted_all (record { entry = length ds + 1; process = x.process }) w.reads v.past m)
            where
              rival : IsRival ds c true v.past
              rival = (h.covers true).are v.past v.in_it

              on : (v.past.process ≡ x.process) ⊎ IsInPast (read_noted (record { entry = length ds + 1; process = x.process }) w.reads) v.past → IsCovered (longer ds x) after_read i
              on (inl same) =
                  record {
                    past = record { entry = length ds + 1; process = x.process };
                    in_it = now_in;
                    up_to = inr (up_on (longer ds x) i v.past.entry (length ds + 1) (up_more ds x i v.past.entry v.up_to)
                        (own_before v.past.entry rival.done rival.is.is (rival.process ∙ same)));
                  }
              on (inr k) =
                  record {
                    past = v.past;
                    in_it = in_right w.stores (read_noted (record { entry = length ds + 1; process = x.process }) w.reads) v.past k;
                    up_to = up_more ds x i v.past.entry v.up_to;
                  }

          all_of : (i : ℕ) (d : Done) (b : Bool) → Touches (longer ds x) c i d b → ((i ≡ length ds + 1) × (d ≡ x)) ⊎ ((i ≤ length ds) × IsNumberedEntry ds i d)
              → IsCovered (longer ds x) after_read i
          all_of i d b t (inl u) = record { past = record { entry = length ds + 1; process = x.process }; in_it = now_in; up_to = inl u.0 }
          all_of i d b t (inr u) =
              let v = (h.covers true).all i d b (touches_old c i d b u.0 t) (inr refl) in
              old_covered i v (in_either w.stores w.reads v.past v.in_it)

      covers_still : (s kind : Bool) → storing ≡ s → Covers (longer ds x) c kind (rivals kind (watched s (record { entry = length ds + 1; process = x.process }) w))
      covers_still true true e = store_covers true e
      covers_still true false e = store_covers false e
      covers_still false true e = read_covers
      covers_still false false e = read_covers_stores e

      pub watches_still : Watches (longer ds x) c (watched storing (record { entry = length ds + 1; process = x.process }) w)
      watches_still = record { quiet = quiet_still; covers = λ kind. covers_still storing kind refl }

  -- ---- the next entry does not access the cell

  module _ (c : CellName) (other : Elsewhere x c) where
    touches_before : (k : ℕ) (d : Done) (b : Bool) → Touches (longer ds x) c k d b → k ≤ length ds
    touches_before k d b t = by (new_or_old ds x k d t.is)
      where
        by : ((k ≡ length ds + 1) × (d ≡ x)) ⊎ ((k ≤ length ds) × IsNumberedEntry ds k d) → k ≤ length ds
        by (inl u) = absurd (other b (subst (λ (y : Done). y.access ≡ Some (record { cell = c; storing = b })) u.1 t.access))
        by (inr u) = u.0

    pub watches_others : (w : Watch) → Watches ds c w → Watches (longer ds x) c w
    watches_others w h =
        record {
          quiet = λ i j f. h.quiet i j (conflict_old c i j (touches_before j f.second f.second_stores f.second_is) f);
          covers = λ kind. record {
            are = λ y m. rival_more c kind y ((h.covers kind).are y m);
            all = λ i d b t e. covered_more (rivals kind w) i ((h.covers kind).all i d b (touches_old c i d b (touches_before i d b t) t) e);
          };
        }

  pub race_stays : (c : CellName) (k j : ℕ) → IsRace ds c k j → IsRace (longer ds x) c k j
  race_stays c k j r =
      record {
        conflict = conflict_more c k j r.conflict;
        least = λ i l f. least_of i l f (new_or_old ds x l f.second f.second_is.is);
        greatest = λ i f. r.greatest i (conflict_old c i j (is_within ds j r.conflict.second r.conflict.second_is.is) f);
      }
    where
      least_of : (i l : ℕ) (f : Conflict (longer ds x) c i l) → ((l ≡ length ds + 1) × (f.second ≡ x)) ⊎ ((l ≤ length ds) × IsNumberedEntry ds l f.second) → j ≤ l
      least_of i l f (inl u) = let w : j ≤ length ds = is_within ds j r.conflict.second r.conflict.second_is.is in omega (arith, u.0, w)
      least_of i l f (inr u) = r.least i l (conflict_old c i l u.0 f)

pub latest_make_races : LatestMakeRaces
latest_make_races ds d c storing clock w h n some = race_of ds d c storing clock w h n some

pub watches_stay : WatchesStay
watches_stay ds d c storing clock w h n none = watches_still ds d c storing clock w h n none

pub others_stay : OthersStay
others_stay ds d c w h other = watches_others ds d c other w h

pub races_stay : RacesStay
races_stay ds d c k j r = race_stays ds d c k j r

pub cells_have_one : CellsHaveOne
cells_have_one ds c k j i l r s =
    let a : j ≤ l = r.least i l s.conflict in
    let b : l ≤ j = s.least k j r.conflict in
    let e : j ≡ l = omega (arith, a, b) in
    let g : k ≤ i = s.greatest k (subst (λ (m : ℕ). Conflict ds c k m) e r.conflict) in
    let f : i ≤ k = r.greatest i (subst (λ (m : ℕ). Conflict ds c i m) (sym e) s.conflict) in
    (omega (arith, f, g), e)
