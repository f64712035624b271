-- Events that change, processes that are released and that wait for several: calls stay fitting.
use Rattle.std.proofs.Common.{◌≡◌, ℕ, List, [], ◌∷◌, Option, Some, None, Bool, true, false, refl}
use Rattle.std.specs.Prelude.{if◌then◌else◌}
use Rattle.b67_list.specs.Numbered.{numbered}
use Rattle.b67_deeds.specs.declared.EventTest.TheVariants as test
use Rattle.b67_deeds.specs.Events.{EventState, left_by}
use Rattle.b67_deeds.specs.Deeds.{Deed, tests, deed}
use Rattle.algol_tree.specs.Scopes.{Scopes}
use Rattle.algol_meaning.specs.Value.{Reference, event}
use Rattle.algol_meaning.specs.World.{process_at, set_all_able, World}
use Rattle.algol_meaning.specs.Events.{event_at, change_event, reference_is_among, joined_all, list_in, forgotten, woken_by, withdrawn, all_withdrawn, released}
use Rattle.algol_laws.proofs.Releasing.{able_instances}
use Rattle.algol_standing.specs.Fitting.{IsPlainAt, WorldFits}
use Rattle.algol_standing.proofs.EventCells.{same_self, among_first, among_later}
use Rattle.algol_standing.proofs.FitWorlds.{Extends, extends_self, extends_then, plain_too, process_too, process_fits, its_fits, set_cell_fits, set_cell_extends, able_fits}

module _ (sc : Scopes) where
  -- the world fits, and has the instances that there were
  abbrev pub FitsStill : World → World → Type 0
  FitsStill w v = WorldFits sc v × Extends w v

  abbrev pub ArePlain : World → List Reference → Type 0
  ArePlain w rs = (r : Reference) → reference_is_among rs r ≡ true → IsPlainAt sc w r

  first_plain : (w : World) (r : Reference) (rs : List Reference) → ArePlain w (r ∷ rs) → IsPlainAt sc w r
  first_plain w r rs f = f r (among_first r rs r (same_self r))

  others_plain : (w v : World) (r : Reference) (rs : List Reference) → Extends w v → ArePlain w (r ∷ rs) → ArePlain v rs
  others_plain w v r rs more f s m = plain_too sc w v more s (f s (among_later r rs s m))

  changed_fits : (w : World) (r : Reference) (c : Option (EventState → EventState)) → WorldFits sc w → IsPlainAt sc w r → FitsStill w (change_event w r c)
  changed_fits w r None fits plain = (fits, extends_self w w refl)
  changed_fits w r (Some change) fits plain =
      let e = event (change (event_at w r)) in (set_cell_fits sc w fits r e plain tt, set_cell_extends sc w fits r e plain tt)

  forgotten_fits : (rs : List Reference) (w : World) (p : ℕ) → WorldFits sc w → ArePlain w rs → FitsStill w (forgotten w p rs)
  forgotten_fits [] w p fits plain = (fits, extends_self w w refl)
  forgotten_fits (r ∷ rs) w p fits plain =
      let v = change_event w r (Some (left_by p)) in
      let f = changed_fits w r (Some (left_by p)) fits (first_plain w r rs plain) in
      let g = forgotten_fits rs v p f.0 (others_plain w v r rs f.1 plain) in
      (g.0, extends_then w v (forgotten v p rs) f.1 g.1)

  one_withdrawn : (w : World) (r : Reference) (p : ℕ) → WorldFits sc w → FitsStill w (withdrawn w r p)
  one_withdrawn w r p fits =
      let h = its_fits sc w (numbered w.processes p) p fits refl in
      let v = forgotten w p (list_in (process_at w p).state) in
      let f = forgotten_fits (list_in (process_at w p).state) w p fits h.waits in
      let g = process_too sc w v f.1 (process_at w p) h in (
        process_fits sc v p (record (process_at w p) { woken = woken_by r (process_at w p) }) f.0 (record { parts = g.parts; task = g.task; waits = g.waits }),
        extends_then w v (withdrawn w r p) f.1 (extends_self v (withdrawn w r p) refl),
      )

  withdrawn_fits : (ps : List ℕ) (w : World) (r : Reference) → WorldFits sc w → FitsStill w (all_withdrawn w r ps)
  withdrawn_fits [] w r fits = (fits, extends_self w w refl)
  withdrawn_fits (p ∷ ps) w r fits =
      let f = one_withdrawn w r p fits in
      let g = withdrawn_fits ps (withdrawn w r p) r f.0 in
      (g.0, extends_then w (withdrawn w r p) (all_withdrawn (withdrawn w r p) r ps) f.1 g.1)

  -- a deed
  pub deed_fits : (w : World) (r : Reference) (d : Deed) → WorldFits sc w → IsPlainAt sc w r → FitsStill w (released w r d).world
  deed_fits w r d fits plain =
      let v = change_event w r d.change in
      let u = all_withdrawn v r d.withdraws in
      let f = changed_fits w r d.change fits plain in
      let g = withdrawn_fits d.withdraws v r f.0 in (
        able_fits sc d.frees u g.0,
        extends_then w u (set_all_able u d.frees) (extends_then w v u f.1 g.1) (extends_self u (set_all_able u d.frees) (able_instances u d.frees)),
      )

  -- who waits for several events
  pub joined_fits : (rs seen : List Reference) (w : World) (p : ℕ) → WorldFits sc w → ArePlain w rs → FitsStill w (joined_all w p seen rs)
  joined_fits [] seen w p fits plain = (fits, extends_self w w refl)
  joined_fits (r ∷ rs) seen w p fits plain =
      by (reference_is_among seen r) (joined_fits rs (r ∷ seen) w p fits (others_plain w w r rs (extends_self w w refl) plain))
      (joined_fits rs (r ∷ seen) v p f.0 (others_plain w v r rs f.1 plain))
    where
      v : World
      v = change_event w r (deed (tests test.WaitAny) p (event_at w r)).change

      f : FitsStill w v
      f = changed_fits w r (deed (tests test.WaitAny) p (event_at w r)).change fits (first_plain w r rs plain)

      by : (b : Bool) → FitsStill w (joined_all w p (r ∷ seen) rs) → FitsStill v (joined_all v p (r ∷ seen) rs) →
          FitsStill w (if b then joined_all w p (r ∷ seen) rs else (joined_all v p (r ∷ seen) rs))
      by true g h = g
      by false g h = (h.0, extends_then w v (joined_all v p (r ∷ seen) rs) f.1 h.1)
