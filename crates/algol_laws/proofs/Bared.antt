-- What the changes of a world do to it but for what its cells hold.
use Rattle.std.proofs.Common.{◌≡◌, refl, sym, ap, ◌∙◌, ℕ, zero, suc, ◌+◌, List, [], ◌∷◌, ◌++◌, Option, Some, None, Bool, true, false, map, length}
use Rattle.std.specs.Prelude.{slice_get, slice_set, if◌then◌else◌, ◌&&◌, ◌||◌, ◌==◌, not}
use Rattle.b67_list.specs.Numbered.{numbered, set_numbered}
use Rattle.algol_meaning.specs.Value.{Reference, Cell, event}
use Rattle.b67_deeds.specs.declared.EventTest.TheVariants as test
use Rattle.b67_deeds.specs.Events.{EventState, left_by, joined}
use Rattle.algol_meaning.specs.World.{NamedCell, Instance, no_instance, or_no_instance, instance_at, able, Process, World, ancestor, cell_in, cell_at, cells_with, with_instance, set_cell, add_cells, or_no_process, process_at, set_able, set_all_able}
use Rattle.algol_meaning.specs.Critical.{is_this, process_is_one_of, NumberedInstance, newest_first, first_on_path}
use Rattle.algol_meaning.specs.Instances.{leave}
use Rattle.algol_meaning.specs.Events.{event_at, set_event, change_event, reference_is_among, joined_all, list_in, forgotten, woken_by, withdrawn, all_withdrawn, released}
use Rattle.b67_deeds.specs.Deeds.{tests, Deed, deed}
use Rattle.algol_laws.specs.Reading.{Outline, outline, Bare, bare}

-- ---- outlines

abbrev or_no_outline : Option Outline → Outline
or_no_outline (Some o) = o
or_no_outline None = outline no_instance

outline_got : (xs : List Instance) (k : ℕ) → outline (or_no_instance (slice_get xs k)) ≡ or_no_outline (slice_get (map outline xs) k)
outline_got [] k = refl
outline_got (x ∷ xs) zero = refl
outline_got (x ∷ xs) (suc k) = outline_got xs k

outline_numbered : (xs : List Instance) (i : ℕ) → outline (or_no_instance (numbered xs i)) ≡ or_no_outline (numbered (map outline xs) i)
outline_numbered xs zero = refl
outline_numbered xs (suc k) = outline_got xs k

outlines_put : (xs : List Instance) (k : ℕ) (y : Instance) → map outline (slice_set xs k y) ≡ slice_set (map outline xs) k (outline y)
outlines_put [] k y = refl
outlines_put (x ∷ xs) zero y = refl
outlines_put (x ∷ xs) (suc k) y = ap (λ os. outline x ∷ os) (outlines_put xs k y)

outlines_set : (xs : List Instance) (i : ℕ) (y : Instance) → map outline (set_numbered xs i y) ≡ set_numbered (map outline xs) i (outline y)
outlines_set xs zero y = refl
outlines_set xs (suc k) y = outlines_put xs k y

put_same : (os : List Outline) (k : ℕ) → slice_set os k (or_no_outline (slice_get os k)) ≡ os
put_same [] k = refl
put_same (o ∷ os) zero = refl
put_same (o ∷ os) (suc k) = ap (λ ps. o ∷ ps) (put_same os k)

set_same : (os : List Outline) (i : ℕ) → set_numbered os i (or_no_outline (numbered os i)) ≡ os
set_same os zero = refl
set_same os (suc k) = put_same os k

pub outlines_added : (xs : List Instance) (y : Instance) → map outline (xs ++ y ∷ []) ≡ map outline xs ++ outline y ∷ []
outlines_added [] y = refl
outlines_added (x ∷ xs) y = ap (λ os. outline x ∷ os) (outlines_added xs y)

outlines_counted : (xs : List Instance) → length (map outline xs) ≡ length xs
outlines_counted [] = refl
outlines_counted (x ∷ xs) = ap suc (outlines_counted xs)

pub same_count : (xs ys : List Instance) → map outline ys ≡ map outline xs → length ys ≡ length xs
same_count xs ys e = sym (outlines_counted ys) ∙ ap length e ∙ outlines_counted xs

pub outline_alike : (u v : World) → bare v ≡ bare u → (i : ℕ) → outline (instance_at v i) ≡ outline (instance_at u i)
outline_alike u v e i =
    outline_numbered v.instances i ∙ ap (λ (b : Bare). or_no_outline (numbered b.instances i)) e ∙ sym (outline_numbered u.instances i)

pub ancestor_alike : (u v : World) → bare v ≡ bare u → (up i : ℕ) → ancestor v up i ≡ ancestor u up i
ancestor_alike u v e zero i = refl
ancestor_alike u v e (suc up) i =
    ap (λ j. ancestor v up j) (ap (λ (o : Outline). o.parent) (outline_alike u v e i)) ∙ ancestor_alike u v e up ((instance_at u i).parent)

-- ---- changes

bare_with : (u : World) (i : ℕ) (y : Instance) → outline y ≡ outline (instance_at u i) → bare (with_instance u i y) ≡ bare u
bare_with u i y e =
    ap (λ (os : List Outline). record (bare u) { instances = os })
    (outlines_set u.instances i y ∙ ap (λ o. set_numbered (map outline u.instances) i o) (e ∙ outline_numbered u.instances i) ∙ set_same (map outline u.instances) i)

pub bare_set : (u : World) (r : Reference) (c : Cell) → bare (set_cell u r c) ≡ bare u
bare_set u r c = bare_with u r.instance (record (instance_at u r.instance) { cells = cells_with ((instance_at u r.instance).cells) r.name c }) refl

pub bare_added : (u : World) (i : ℕ) (cells : List NamedCell) → bare (add_cells u i cells) ≡ bare u
bare_added u i cells = bare_with u i (record (instance_at u i) { cells = (instance_at u i).cells ++ cells }) refl

abbrev marked : Bare → ℕ → Bare
marked b i = record b { instances = set_numbered b.instances i (record (or_no_outline (numbered b.instances i)) { left = true }) }

bare_marked : (u : World) (i : ℕ) → bare (with_instance u i (record (instance_at u i) { left = true })) ≡ marked (bare u) i
bare_marked u i =
    ap (λ (os : List Outline). record (bare u) { instances = os })
    (outlines_set u.instances i (record (instance_at u i) { left = true })
    ∙ ap (λ (o : Outline). set_numbered (map outline u.instances) i (record o { left = true })) (outline_numbered u.instances i))

pub leave_alike : (is : List ℕ) (u v : World) → bare v ≡ bare u → bare (leave v is) ≡ bare (leave u is)
leave_alike [] u v e = e
leave_alike (i ∷ is) u v e =
    leave_alike is (with_instance u i (record (instance_at u i) { left = true })) (with_instance v i (record (instance_at v i) { left = true }))
    (bare_marked v i ∙ ap (λ b. marked b i) e ∙ sym (bare_marked u i))

abbrev made_able : Bare → ℕ → Bare
made_able b p = record b { processes = set_numbered b.processes p (record (or_no_process (numbered b.processes p)) { state = able }) }

able_alike : (ps : List ℕ) (u v : World) → bare v ≡ bare u → bare (set_all_able v ps) ≡ bare (set_all_able u ps)
able_alike [] u v e = e
able_alike (p ∷ ps) u v e = able_alike ps (set_able u p) (set_able v p) (ap (λ b. made_able b p) e)

pub event_alike : (u v : World) (r : Reference) (e f : EventState) → bare v ≡ bare u → bare (set_event v r f) ≡ bare (set_event u r e)
event_alike u v r e f h = bare_set v r (event f) ∙ h ∙ sym (bare_set u r (event e))

change_alike : (u v : World) (r : Reference) (c : Option (EventState → EventState)) → bare v ≡ bare u → bare (change_event v r c) ≡ bare (change_event u r c)
change_alike u v r None h = h
change_alike u v r (Some change) h = event_alike u v r (change (event_at u r)) (change (event_at v r)) h

-- ---- who waits for several events

abbrev waiting_in : Bare → ℕ → Process
waiting_in b p = or_no_process (numbered b.processes p)

abbrev put : Bare → ℕ → Process → Bare
put b p q = record b { processes = set_numbered b.processes p q }

abbrev woken_then : Reference → Process → Process
woken_then r q = record q { woken = woken_by r q }

forgotten_alike : (rs : List Reference) (p : ℕ) (u v : World) → bare v ≡ bare u → bare (forgotten v p rs) ≡ bare (forgotten u p rs)
forgotten_alike [] p u v h = h
forgotten_alike (r ∷ rs) p u v h =
    forgotten_alike rs p (change_event u r (Some (left_by p))) (change_event v r (Some (left_by p))) (change_alike u v r (Some (left_by p)) h)

one_withdrawn_alike : (u v : World) (r : Reference) (p : ℕ) → bare v ≡ bare u → bare (withdrawn v r p) ≡ bare (withdrawn u r p)
one_withdrawn_alike u v r p h =
    ap (λ (b : Bare). put (bare (forgotten v p (list_in (waiting_in b p).state))) p (woken_then r (waiting_in b p))) h
    ∙ ap (λ (b : Bare). put b p (woken_then r (process_at u p))) (forgotten_alike (list_in (process_at u p).state) p u v h)

withdrawn_alike : (ps : List ℕ) (u v : World) (r : Reference) → bare v ≡ bare u → bare (all_withdrawn v r ps) ≡ bare (all_withdrawn u r ps)
withdrawn_alike [] u v r h = h
withdrawn_alike (p ∷ ps) u v r h = withdrawn_alike ps (withdrawn u r p) (withdrawn v r p) r (one_withdrawn_alike u v r p h)

pub released_alike : (u v : World) (r : Reference) (d : Deed) → bare v ≡ bare u → bare (released v r d).world ≡ bare (released u r d).world
released_alike u v r d h =
    able_alike d.frees (all_withdrawn (change_event u r d.change) r d.withdraws) (all_withdrawn (change_event v r d.change) r d.withdraws)
    (withdrawn_alike d.withdraws (change_event u r d.change) (change_event v r d.change) r (change_alike u v r d.change h))

-- who joins those who wait changes only what cells hold
pub joined_bare : (u : World) (p : ℕ) (seen rs : List Reference) → bare (joined_all u p seen rs) ≡ bare u
joined_bare u p seen [] = refl
joined_bare u p seen (r ∷ rs) = by (reference_is_among seen r) (joined_bare u p (r ∷ seen) rs) (joined_bare next p (r ∷ seen) rs)
  where
    next : World
    next = change_event u r (deed (tests test.WaitAny) p (event_at u r)).change

    by : (b : Bool) → bare (joined_all u p (r ∷ seen) rs) ≡ bare u → bare (joined_all next p (r ∷ seen) rs) ≡ bare next →
        bare (if b then joined_all u p (r ∷ seen) rs else (joined_all next p (r ∷ seen) rs)) ≡ bare u
    by true f g = f
    by false f g = g ∙ bare_set u r (event (joined p (event_at u r)))

-- ---- cells

cells_put : (xs : List Instance) (k j : ℕ) →
    (or_no_instance (slice_get (slice_set xs k (record (or_no_instance (slice_get xs k)) { left = true })) j)).cells ≡ (or_no_instance (slice_get xs j)).cells
cells_put [] k j = refl
cells_put (x ∷ xs) zero zero = refl
cells_put (x ∷ xs) zero (suc j) = refl
cells_put (x ∷ xs) (suc k) zero = refl
cells_put (x ∷ xs) (suc k) (suc j) = cells_put xs k j

cells_marked : (xs : List Instance) (i j : ℕ) →
    (or_no_instance (numbered (set_numbered xs i (record (or_no_instance (numbered xs i)) { left = true })) j)).cells ≡ (or_no_instance (numbered xs j)).cells
cells_marked xs zero j = refl
cells_marked xs (suc k) zero = refl
cells_marked xs (suc k) (suc j) = cells_put xs k j

-- a cell of an instance that is left holds what it held
pub cell_left : (is : List ℕ) (u : World) (r : Reference) → cell_at (leave u is) r ≡ cell_at u r
cell_left [] u r = refl
cell_left (i ∷ is) u r =
    cell_left is (with_instance u i (record (instance_at u i) { left = true })) r
    ∙ ap (λ (cells : List NamedCell). cell_in cells r.name) (cells_marked u.instances i r.instance)

-- ---- paths

record Outlined : Type 0 where
  number : ℕ
  of : Outline

abbrev outlined : NumberedInstance → Outlined
outlined x = record { number = x.number; of = outline x.of }

abbrev newest_outlined : ℕ → List Outline → List Outlined → List Outlined
newest_outlined next [] older = older
newest_outlined next (o ∷ os) older = newest_outlined (next + 1) os (record { number = next; of = o } ∷ older)

newest_told : (next : ℕ) (xs : List Instance) (older : List NumberedInstance) →
    map outlined (newest_first next xs older) ≡ newest_outlined next (map outline xs) (map outlined older)
newest_told next [] older = refl
newest_told next (x ∷ xs) older = newest_told (next + 1) xs (record { number = next; of = x } ∷ older)

-- the path of a process goes by no cell
abbrev path_outlined : (ℕ → Option ℕ) → List Outlined → ℕ → List ℕ → ℕ
path_outlined critical [] p wanted = 0
path_outlined critical (x ∷ older) p wanted =
    if ((x.of.process == p) && not x.of.left) || is_this (critical p) x.number
    then (if process_is_one_of wanted x.number then x.number else path_outlined critical older x.of.process wanted)
    else path_outlined critical older p wanted

abbrev critical_in : World → ℕ → Option ℕ
critical_in w p = (process_at w p).critical

path_told : (w : World) (xs : List NumberedInstance) (p : ℕ) (wanted : List ℕ) →
    first_on_path w xs p wanted ≡ path_outlined (critical_in w) (map outlined xs) p wanted
path_told w [] p wanted = refl
path_told w (x ∷ older) p wanted =
    ap (λ (n : ℕ). if on then (if one then x.number else n) else first_on_path w older p wanted) (path_told w older x.of.process wanted)
    ∙ ap (λ (n : ℕ). if on then (if one then x.number else path_outlined (critical_in w) (map outlined older) x.of.process wanted) else n) (path_told w older p wanted)
  where
    on : Bool
    on = ((x.of.process == p) && not x.of.left) || is_this ((process_at w p).critical) x.number

    one : Bool
    one = process_is_one_of wanted x.number

pub path_alike : (w : World) (xs : List Instance) → map outline xs ≡ map outline w.instances → (p : ℕ) (wanted : List ℕ) →
    first_on_path (record w { instances = xs }) (newest_first 1 xs []) p wanted ≡ first_on_path w (newest_first 1 w.instances []) p wanted
path_alike w xs same p wanted =
    path_told (record w { instances = xs }) (newest_first 1 xs []) p wanted
    ∙ ap (λ (os : List Outlined). path_outlined (critical_in w) os p wanted)
    (newest_told 1 xs [] ∙ ap (λ (os : List Outline). newest_outlined 1 os []) same ∙ sym (newest_told 1 w.instances []))
    ∙ sym (path_told w (newest_first 1 w.instances []) p wanted)
