-- Waits for several events: what it makes of a world that a process leaves them, and that it joins them.
use Rattle.std.proofs.Common.{◌≡◌, refl, ℕ, zero, suc, ◌+◌, ◌<◌, ◌≤◌, ◌||◌, if◌then◌else◌, Bool, true, false, List, [], ◌∷◌, ◌++◌, length, map, reverse, take, drop, get_or, ap, sym, ◌∙◌, arith, Option, Some, None, option_map}
use Rattle.std.specs.List.{list_any}
use Rattle.std.proofs.lemmas.List.{map-append, reverse-append, take_more, drop_more}
use Rattle.std.proofs.lemmas.List.Sorted.{list_any-IsPermutation, IsPermutation-reverse}
use Rattle.std.proofs.lemmas.Option.{slice_get-map, slice_get_past}
use Rattle.b67_list.specs.Numbered.{numbered, set_numbered}
use Rattle.b67_deeds.specs.Events.{joined, left_by}
use Rattle.algol_meaning.specs.Value.{Reference}
use Rattle.algol_meaning.specs.World.{World, Instance, Process, waits_any, process_at, or_no_process, with_process}
use Rattle.algol_meaning.specs.Events.{same_reference, reference_is_among, first_that, change_event, joined_all, list_in, forgotten, woken_by, withdrawn}
use Rattle.algol_meaning.proofs.Cited.{joined_processes}
use Rattle.algol_cells.specs.SeenCell as seen
use Rattle.algol_cells.specs.declared.cell.Reference as code
use Rattle.algol_instances.specs.SeenInstance.{holding, place_of_number}
use Rattle.algol_instances.proofs.Numbering.{set_none}
use Rattle.algol_world.specs.Going.{standing, waiting_for}

-- ---- leaving

-- who leaves events changes their cells only
pub forgotten_is : (w : World) (p : ℕ) (rs : List Reference) → forgotten w p rs ≡ record w { instances = (forgotten (holding w.instances) p rs).instances }
forgotten_is w p [] = refl
forgotten_is w p (r ∷ rs) = forgotten_is (change_event w r (Some (left_by p))) p rs

-- one event more of a list that is gone through
pub forget_next :
    (p : ℕ) (rs : List code.Reference) (i : ℕ) (r : code.Reference) (is after all : List Instance) → i < length rs → r ≡ get_or rs i r
    → after ≡ (change_event (holding is) (seen.reference r) (Some (left_by p))).instances
    → (forgotten (holding is) p (map seen.reference (drop i rs))).instances ≡ all
    → (forgotten (holding after) p (map seen.reference (drop (i + 1) rs))).instances ≡ all
forget_next p rs i r is after all less at e inv =
    let rest = map seen.reference (drop (i + 1) rs) in
    let left : map seen.reference (drop i rs) ≡ seen.reference r ∷ rest =
    ap (map seen.reference) (drop_more rs i r less) ∙ ap (λ (c : code.Reference). seen.reference c ∷ rest) (sym at) in
    ap (λ (js : List Instance). (forgotten (holding js) p rest).instances) e
    ∙ ap (λ (ss : List Reference). (forgotten (holding is) p ss).instances) (sym left)
    ∙ inv

pub withdrawn_so :
    (w : World) (r : Reference) (n : ℕ) (is : List Instance) (qs : List Process)
    → is ≡ (forgotten (holding w.instances) n (list_in (process_at w n).state)).instances
    → qs ≡ set_numbered w.processes n (record (process_at w n) { woken = woken_by r (process_at w n) })
    → record w { instances = is; processes = qs } ≡ withdrawn w r n
withdrawn_so w r n is qs e f =
    let q = process_at w n in
    ap (λ (js : List Instance). record w { instances = js; processes = qs }) e
    ∙ ap (λ (ps : List Process). record w { instances = (forgotten (holding w.instances) n (list_in q.state)).instances; processes = ps }) f
    ∙ sym (ap (λ (v : World). with_process v n (record q { woken = woken_by r q })) (forgotten_is w n (list_in q.state)))

-- there is no process of that number
pub withdrawn_none : (w : World) (r : Reference) (n : ℕ) → numbered w.processes n ≡ None → w ≡ withdrawn w r n
withdrawn_none w r n e =
    sym
    (ap (λ (o : Option Process). with_process (forgotten w n (list_in (or_no_process o).state)) n (record (or_no_process o) { woken = woken_by r (or_no_process o) })) e
    ∙ ap (λ (qs : List Process). record w { processes = qs }) (set_none w.processes n (record (or_no_process None) { woken = woken_by r (or_no_process None) }) e))

pub no_number : {A : Type 0} (xs : List A) (n : ℕ) → None ≡ place_of_number n → numbered xs n ≡ None
no_number xs zero e = refl
no_number xs (suc k) e = cc

pub numbered_past :
    {A B : Type 0} (xs : List A) (f : A → B) (n k : ℕ) → Some k ≡ place_of_number n → length xs ≤ k → numbered (map f xs) n ≡ None
numbered_past xs f zero k e past = cc
numbered_past xs f (suc j) k e past =
    let same : k ≡ j = cc in
    let more : length xs ≤ j = omega arith in
    slice_get-map f xs j ∙ ap (option_map f) (slice_get_past xs j more)

-- ---- joining

-- it waits where it stands
pub waits_so :
    (w after : World) (p : ℕ) (rs : List Reference) → after ≡ standing (joined_all w p [] rs) p (waits_any rs) → after ≡ waiting_for w p rs
waits_so w after p rs e =
    e ∙ ap (λ (qs : List Process). with_process (joined_all w p [] rs) p (record (or_no_process (numbered qs p)) { state = waits_any rs })) (joined_processes w p [] rs)

-- with one event
abbrev pub joined_one : World → ℕ → List Reference → Reference → World
joined_one w p seen r = if reference_is_among seen r then w else (change_event w r (Some (joined p)))

joined_first : (w : World) (p : ℕ) (seen : List Reference) (r : Reference) (rs : List Reference) → joined_all w p seen (r ∷ rs) ≡ joined_all (joined_one w p seen r) p (r ∷ seen) rs
joined_first w p seen r rs = by (reference_is_among seen r)
  where
    by :
        (b : Bool)
        → (if b then joined_all w p (r ∷ seen) rs else (joined_all (change_event w r (Some (joined p))) p (r ∷ seen) rs))
        ≡ joined_all (if b then w else (change_event w r (Some (joined p)))) p (r ∷ seen) rs
    by true = refl
    by false = refl

among_reverse : (xs : List Reference) (r : Reference) → reference_is_among (reverse xs) r ≡ reference_is_among xs r
among_reverse xs r = sym (list_any-IsPermutation (λ s. same_reference s r) xs (reverse xs) (IsPermutation-reverse xs))

-- one event more of a list that is gone through
pub join_next :
    (w after : World) (p : ℕ) (rs : List code.Reference) (i : ℕ) (r : code.Reference) (all : World) → i < length rs → r ≡ get_or rs i r
    → after ≡ joined_one w p (map seen.reference (take i rs)) (seen.reference r)
    → joined_all w p (reverse (map seen.reference (take i rs))) (map seen.reference (drop i rs)) ≡ all
    → joined_all after p (reverse (map seen.reference (take (i + 1) rs))) (map seen.reference (drop (i + 1) rs)) ≡ all
join_next w after p rs i r all less is e inv =
    let before = map seen.reference (take i rs) in
    let x = seen.reference r in
    let rest = map seen.reference (drop (i + 1) rs) in
    let more : reverse (map seen.reference (take (i + 1) rs)) ≡ x ∷ reverse before =
    ap (λ (cs : List code.Reference). reverse (map seen.reference cs)) (take_more rs i r less)
    ∙ ap (λ (c : code.Reference). reverse (map seen.reference (take i rs ++ c ∷ []))) (sym is)
    ∙ ap reverse (map-append seen.reference (take i rs) (r ∷ []))
    ∙ reverse-append before (x ∷ []) in
    let left : map seen.reference (drop i rs) ≡ x ∷ rest =
    ap (map seen.reference) (drop_more rs i r less) ∙ ap (λ (c : code.Reference). seen.reference c ∷ rest) (sym is) in
    ap (λ (ss : List Reference). joined_all after p ss rest) more
    ∙ ap (λ (v : World). joined_all v p (x ∷ reverse before) rest) e
    ∙ ap (λ (b : Bool). joined_all (if b then w else (change_event w x (Some (joined p)))) p (x ∷ reverse before) rest) (sym (among_reverse before x))
    ∙ sym (joined_first w p (reverse before) x rest)
    ∙ ap (λ (ss : List Reference). joined_all w p (reverse before) ss) (sym left)
    ∙ inv

-- ---- whether one is among some

found : (t : Reference → Bool) (n k : ℕ) (rs : List Reference) → Some k ≡ first_that t n rs → list_any t rs ≡ true
found t n k [] e = cc
found t n k (r ∷ rs) e = by (t r) (found t (n + 1) k rs) e
  where
    by : (b : Bool) → (Some k ≡ first_that t (n + 1) rs → list_any t rs ≡ true) → Some k ≡ (if b then Some n else (first_that t (n + 1) rs)) → (b || list_any t rs) ≡ true
    by true f e = refl
    by false f e = f e

not_found : (t : Reference → Bool) (n : ℕ) (rs : List Reference) → None ≡ first_that t n rs → list_any t rs ≡ false
not_found t n [] e = refl
not_found t n (r ∷ rs) e = by (t r) (not_found t (n + 1) rs) e
  where
    by : (b : Bool) → (None ≡ first_that t (n + 1) rs → list_any t rs ≡ false) → None ≡ (if b then Some n else (first_that t (n + 1) rs)) → (b || list_any t rs) ≡ false
    by true f e = cc
    by false f e = f e

pub stays_joined :
    (w after : World) (r : Reference) (rs : List Reference) (k : ℕ) → Some k ≡ first_that (λ s. same_reference s r) 1 rs → w ≡ (if reference_is_among rs r then w else after)
stays_joined w after r rs k e = ap (λ (b : Bool). if b then w else after) (sym (found (λ s. same_reference s r) 1 k rs e))

pub joins_once :
    (w after : World) (r : Reference) (rs : List Reference) → None ≡ first_that (λ s. same_reference s r) 1 rs → after ≡ (if reference_is_among rs r then w else after)
joins_once w after r rs e = ap (λ (b : Bool). if b then w else after) (sym (not_found (λ s. same_reference s r) 1 rs e))
