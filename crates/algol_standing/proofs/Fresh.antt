-- The cells of a new instance: what they refer to is what they were given.
use Rattle.std.proofs.Common.{◌≡◌, ◌⊎◌, ℕ, zero, suc, List, [], ◌∷◌, ◌++◌, Option, Some, None}
use Rattle.algol_tree.specs.declared.tree.Kind.{Kind}
use Rattle.algol_tree.specs.declared.tree.Named.{Named}
use Rattle.algol_tree.specs.Plain as tree
use Rattle.algol_tree.specs.Plain.{PDecls}
use Rattle.algol_tree.specs.Sorts.{Parameter}
use Rattle.algol_tree.specs.Blocks.{Block}
use Rattle.algol_meaning.specs.Value.{initial_value, Value, NameCell, Cell, simple, event}
use Rattle.b67_deeds.specs.Events.{EventState}
use Rattle.algol_meaning.specs.World.{NamedCell, cell_in}
use Rattle.algol_meaning.specs.Critical.{referred_in, referred_by}
use Rattle.algol_meaning.specs.Instances.{parameter_cells, initial_cells, result_cells, variable_cells, fresh_cells}
use Rattle.algol_standing.specs.Skeleton.{IsInSkeleton}
use Rattle.algol_standing.specs.Worlds.{parent_in, referred_in_cells, IsNameAmong, IsNameHeld}
use Rattle.algol_standing.proofs.Calls.{IsNoEvent}
use Rattle.algol_standing.proofs.Holding.{AreAll}
use Rattle.algol_standing.proofs.Seen.{in_front, in_back, in_either}
use Rattle.algol_standing.proofs.Changed.{IsPlain, ArePlain, refs_more, names_more, AreNoEvents, event_more}

-- ---- plain cells

pub simple_plain : (v : Value) → IsPlain (simple v)
simple_plain v = (λ i n. absurd n, λ m n. absurd n)

pub simple_no_event : (v : Value) → IsNoEvent (simple v)
simple_no_event v e f = cc

-- a plain cell, and no event
abbrev pub AreSimple : List NamedCell → Type 0
AreSimple cells = ArePlain cells × AreNoEvents cells

both_simple : (xs ys : List NamedCell) → AreSimple xs → AreSimple ys → AreSimple (xs ++ ys)
both_simple [] ys m n = n
both_simple (x ∷ xs) ys m n =
    let more = both_simple xs ys (m.0.1, m.1.1) n in
    ((m.0.0, more.0), (m.1.0, more.1))

initial_simple : (kind : Kind) (ns : List Named) → AreSimple (initial_cells kind ns)
initial_simple kind [] = (tt, tt)
initial_simple kind (n ∷ ns) =
    let more = initial_simple kind ns in
    ((simple_plain (initial_value kind), more.0), (simple_no_event (initial_value kind), more.1))

result_simple : (o : Option Kind) (name : List ℕ) → AreSimple (result_cells o name)
result_simple None name = (tt, tt)
result_simple (Some kind) name = ((simple_plain (initial_value kind), tt), (simple_no_event (initial_value kind), tt))

variables_simple : (ds : PDecls) → AreSimple (variable_cells ds)
variables_simple tree.no_decls = (tt, tt)
variables_simple (tree.decls (tree.simple kind ns) ds) = both_simple (initial_cells kind ns) (variable_cells ds) (initial_simple kind ns) (variables_simple ds)
variables_simple (tree.decls _ ds) = variables_simple ds

-- ---- parameters

parameter_refs : (ps : List Parameter) (cells : List Cell) (i : ℕ) → IsInSkeleton (referred_in_cells (parameter_cells ps cells)) i → IsInSkeleton (referred_by cells) i
parameter_refs [] cells i n = absurd n
parameter_refs (p ∷ ps) [] i n = absurd n
parameter_refs (p ∷ ps) (c ∷ cells) i n = by (in_either (referred_in c) (referred_in_cells (parameter_cells ps cells)) i n) (λ m. parameter_refs ps cells i m)
  where
    by : IsInSkeleton (referred_in c) i ⊎ IsInSkeleton (referred_in_cells (parameter_cells ps cells)) i → (IsInSkeleton (referred_in_cells (parameter_cells ps cells)) i → IsInSkeleton (referred_by cells) i) →
        IsInSkeleton (referred_in c ++ referred_by cells) i
    by (◌⊎◌.inl m) f = in_front (referred_in c) (referred_by cells) i m
    by (◌⊎◌.inr m) f = in_back (referred_in c) (referred_by cells) i (f m)

parameter_names : (ps : List Parameter) (cells : List Cell) (m : NameCell) → IsNameAmong (parameter_cells ps cells) m → IsNameHeld cells m
parameter_names [] cells m n = absurd n
parameter_names (p ∷ ps) [] m n = absurd n
parameter_names (p ∷ ps) (c ∷ cells) m (◌⊎◌.inl n) = ◌⊎◌.inl n
parameter_names (p ∷ ps) (c ∷ cells) m (◌⊎◌.inr n) = ◌⊎◌.inr (parameter_names ps cells m n)

parameter_events : (ps : List Parameter) (cells : List Cell) → AreAll IsNoEvent cells → AreNoEvents (parameter_cells ps cells)
parameter_events [] cells f = tt
parameter_events (p ∷ ps) [] f = tt
parameter_events (p ∷ ps) (c ∷ cells) f = (f.0, parameter_events ps cells f.1)

no_events_both : (xs ys : List NamedCell) → AreNoEvents xs → AreNoEvents ys → AreNoEvents (xs ++ ys)
no_events_both [] ys f g = g
no_events_both (x ∷ xs) ys f g = (f.0, no_events_both xs ys f.1 g)

-- ---- all of them

module _ (b : Block) (cells : List Cell) where
  abbrev parameters : List NamedCell
  parameters = parameter_cells b.parameters cells

  abbrev results : List NamedCell
  results = result_cells b.result b.name

  pub fresh_refs : (i : ℕ) → IsInSkeleton (referred_in_cells (fresh_cells b cells)) i → IsInSkeleton (referred_by cells) i
  fresh_refs i n =
      parameter_refs b.parameters cells i
      (refs_more parameters results i (result_simple b.result b.name).0 (refs_more (parameters ++ results) (variable_cells b.decls) i (variables_simple b.decls).0 n))

  pub fresh_names : (m : NameCell) → IsNameAmong (fresh_cells b cells) m → IsNameHeld cells m
  fresh_names m n =
      parameter_names b.parameters cells m
      (names_more parameters results m (result_simple b.result b.name).0 (names_more (parameters ++ results) (variable_cells b.decls) m (variables_simple b.decls).0 n))

  pub fresh_no_event : AreAll IsNoEvent cells → (name : List ℕ) (e : EventState) → cell_in (fresh_cells b cells) name ≡ event e → ⊥
  fresh_no_event f name e g = none (event_more [] (fresh_cells b cells) name e all g)
    where
      all : AreNoEvents (fresh_cells b cells)
      all =
          no_events_both (parameters ++ results) (variable_cells b.decls)
          (no_events_both parameters results (parameter_events b.parameters cells f) (result_simple b.result b.name).1) (variables_simple b.decls).1

      none : cell_in [] name ≡ event e → ⊥
      none h = cc

pub parent_only : (j i : ℕ) → IsInSkeleton (parent_in j) i → j ≡ i
parent_only zero i n = absurd n
parent_only (suc j) i (◌⊎◌.inl e) = e
parent_only (suc j) i (◌⊎◌.inr n) = absurd n

-- ---- what plain cells that are held refer to

pub plain_refs : (cells : List Cell) (i : ℕ) → AreAll IsPlain cells → IsInSkeleton (referred_by cells) i → ⊥
plain_refs [] i f n = n
plain_refs (c ∷ cells) i f n = by (λ m. plain_refs cells i f.1 m) (in_either (referred_in c) (referred_by cells) i n)
  where
    by : (IsInSkeleton (referred_by cells) i → ⊥) → IsInSkeleton (referred_in c) i ⊎ IsInSkeleton (referred_by cells) i → ⊥
    by g (◌⊎◌.inl m) = f.0.0 i m
    by g (◌⊎◌.inr m) = g m

pub plain_names : (cells : List Cell) (m : NameCell) → AreAll IsPlain cells → IsNameHeld cells m → ⊥
plain_names [] m f n = n
plain_names (c ∷ cells) m f (◌⊎◌.inl n) = f.0.1 m n
plain_names (c ∷ cells) m f (◌⊎◌.inr n) = plain_names cells m f.1 n
