-- Along a run nothing that was there is lost.
use Rattle.std.proofs.Common.{◌≡◌, refl, sym, subst, ℕ, List, [], ◌∷◌, Some, None, Bool, true, false}
use Rattle.std.specs.Prelude.{if◌then◌else◌}
use Rattle.std.proofs.lemmas.List.{append-nil}
use Rattle.algol_tree.specs.Scopes.{Scopes}
use Rattle.algol_meaning.specs.Value.{Reference}
use Rattle.algol_meaning.specs.World.{World}
use Rattle.algol_meaning.specs.Choice.{choice}
use Rattle.algol_meaning.specs.Run.{may_go, after_entry, run_from}
use Rattle.algol_laws.specs.Kept.{Freed, WorldKept, freed_by, Grown, EachRunGrows, stored_cells}
use Rattle.algol_laws.proofs.Keeping.{instance_grown, process_grown, lines_after}
use Rattle.algol_laws.proofs.Choices.{each_keeps}

stays : (w : World) → Grown w w
stays w =
    record {
      instances = λ i x e. (x, e, record { block = refl; parent = refl; process = refl; left = λ l. l; cells = λ n c. c });
      processes = λ j q e. (q, e, record { critical = refl; task = refl });
      output = ([], sym (append-nil w.output));
    }

grown_by : (p : ℕ) (rs : Freed) (s : List Reference) (w after : World) → WorldKept p rs s w after → Grown w after
grown_by p rs s w after f =
    record {
      instances = λ i x e. let m = f.instances i x e in (m.0, m.1, m.2.grown);
      processes = λ j q e. let m = f.processes j q e in (m.0, m.1, m.2.grown);
      output = f.output;
    }

grown_after : (a b c : World) → Grown a b → Grown b c → Grown a c
grown_after a b c f g =
    record {
      instances = λ i x e. let m = f.instances i x e in let n = g.instances i m.0 m.1 in (n.0, n.1, instance_grown x m.0 n.0 m.2 n.2);
      processes = λ j q e. let m = f.processes j q e in let n = g.processes j m.0 m.1 in (n.0, n.1, process_grown q m.0 n.0 m.2 n.2);
      output = lines_after a b c f.output g.output;
    }

pub none_left : (sc : Scopes) (h : List ℕ) (after : World) → run_from sc h None ≡ Some after → ⊥
none_left sc [] after e = cc
none_left sc (p ∷ h) after e = cc

pub each_grows : EachRunGrows
unfolding after_entry
each_grows sc [] w after e = let same : w ≡ after = cc in subst (λ (v : World). Grown w v) same (stays w)
each_grows sc (p ∷ h) w after e = by (may_go w p) e (λ f. each_grows sc h ((choice sc w p).world) after f)
  where
    by : (b : Bool) → run_from sc h (if b then Some ((choice sc w p).world) else None) ≡ Some after →
        (run_from sc h (Some ((choice sc w p).world)) ≡ Some after → Grown ((choice sc w p).world) after) → Grown w after
    by true f g =
        grown_after w ((choice sc w p).world) after
        (grown_by p (freed_by sc w p) (stored_cells sc w p) w ((choice sc w p).world) (each_keeps sc w p)) (g f)
    by false f g = absurd (none_left sc h after f)
