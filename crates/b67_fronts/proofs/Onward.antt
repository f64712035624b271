-- From the front of a run onward.
use Rattle.std.proofs.Common.{arith, ◌≡◌, ◌≢◌, refl, sym, ap, subst, ◌∙◌, ◌⊎◌, inl, inr, ℕ, zero, suc, ◌+◌, ◌-◌, ◌<◌, ◌≤◌, true, List, [], ◌∷◌, ◌++◌, length, reverse, replicate, sum, None, append_assoc}
use Rattle.std.proofs.lemmas.List.{reverse-reverse, reverse-append, length-reverse}
use Rattle.std.proofs.lemmas.List.Sums.{sum_by-cons}
use Rattle.b67_segment.specs.declared.code.Code.{Code}
use Rattle.b67_table.specs.Image.{Image}
use Rattle.b67_table.specs.Ending.{image_end, may_act}
use Rattle.b67_table.specs.Runs.{Plains, stay, go, RunEntry, Runs, entry, Tails, TableRun}
use Rattle.b67_table.proofs.Cited.{history_within, no_tails, number_there}
use Rattle.b67_fronts.specs.Fronts.{GoesThrough, tails_next, FrontsGoOn, FrontsAreRuns, RunsGoThroughAlike}
use Rattle.b67_fronts.proofs.One.{SameRuns, runs_same, not_past, no_limit}

-- ---- tails

nowhere : (code : Code) (p n : ℕ) (a b : Image) → n ≡ 0 → Plains code p a n b → a ≡ b
nowhere code p n a b e stay = refl
nowhere code p n a b e (go {n = k} h t rest) = absurd (omega (arith, e))

tails_so : (code : Code) (m k n : ℕ) (a b : Image) → Tails code k a (replicate m 0 ++ n ∷ []) b → Plains code (k + m) a n b
tails_so code zero k n a b (Tails.next {b = x} r rest) =
    let here : k ≡ k + 0 = omega arith in
    subst (λ (j : ℕ). Plains code j a n b) here (subst (λ (z : Image). Plains code k a n z) (no_tails code (k + 1) x b rest) r)
tails_so code (suc m) k n a b (Tails.next {b = x} r rest) =
    let there : k + 1 + m ≡ k + suc m = omega arith in
    subst (λ (j : ℕ). Plains code j a n b) there
    (subst (λ (z : Image). Plains code (k + 1 + m) z n b) (sym (nowhere code k 0 a x refl r)) (tails_so code m (k + 1) n x b rest))

-- ---- the front of a run

record Front (code : Code) (h : List ℕ) (total : ℕ) : Type 0 where
  counts : List ℕ
  image : Image
  runs : Runs code h counts image
  less : sum counts ≤ total

front : (code : Code) (xs h counts : List ℕ) (img : Image) → Runs code (xs ++ h) counts img → Front code h (sum counts)
front code [] h counts img r = record { counts = counts; image = img; runs = r; less = omega arith }
front code (x ∷ xs) h counts img (entry {counts = c} {a = a} {n = n} r e) =
    let f = front code xs h c a r in
    let adds : sum ((n + 1) ∷ c) ≡ (n + 1) + sum c = sum_by-cons (λ (x : ℕ). x) (n + 1) c in
    record { counts = f.counts; image = f.image; runs = f.runs; less = omega (arith, f.less, adds) }

history_of : (h done : List ℕ) → done ≡ reverse h → h ≡ reverse done
history_of h done e = sym (reverse-reverse h) ∙ ap reverse (sym e)

-- the entries from one on
parted : (done left : List ℕ) (p : ℕ) → reverse (done ++ p ∷ left) ≡ reverse left ++ (p ∷ reverse done)
parted done left p =
    reverse-append done (p ∷ left)
    ∙ ap (λ (xs : List ℕ). xs ++ reverse done) (reverse-append (p ∷ []) left)
    ∙ append_assoc (reverse left) (p ∷ []) (reverse done)

-- the run up to the next entry, and that entry
record Next (code : Code) (done : List ℕ) (p budget : ℕ) : Type 0 where
  counts : List ℕ
  before : Image
  runs : Runs code (reverse done) counts before
  plain : ℕ
  after : Image
  its : RunEntry code p before plain after
  within : sum counts + plain < budget

next_of : (code : Code) (done : List ℕ) (p budget total : ℕ) → total ≤ budget → Front code (p ∷ reverse done) total → Next code done p budget
next_of code done p budget total le f = by f.counts f.image f.runs f.less
  where
    by : (counts : List ℕ) (img : Image) → Runs code (p ∷ reverse done) counts img → sum counts ≤ total → Next code done p budget
    by counts img (entry {counts = c} {a = a} {n = n} r e) less =
        let adds : sum ((n + 1) ∷ c) ≡ (n + 1) + sum c = sum_by-cons (λ (x : ℕ). x) (n + 1) c in
        record { counts = c; before = a; runs = r; plain = n; after = img; its = e; within = omega (arith, less, le, adds) }

next_in : (code : Code) (budget : ℕ) (done : List ℕ) (p : ℕ) (left : List ℕ) → GoesThrough code (done ++ p ∷ left) budget → Next code done p budget
next_in code budget done p left g =
    let r = g.run in
    let h : r.history ≡ reverse left ++ (p ∷ reverse done) = history_of r.history (done ++ p ∷ left) r.order ∙ parted done left p in
    next_of code done p budget (sum r.counts) g.within
    (front code (reverse left) (p ∷ reverse done) r.counts r.before_tails (subst (λ (xs : List ℕ). Runs code xs r.counts r.before_tails) h r.runs))

pub fronts_go_on : FrontsGoOn
fronts_go_on code budget done p left tail image g r =
    record {
      may = λ (none : tail ≡ 0).
          subst (λ (z : Image). may_act z p ≡ true) (nowhere code p tail n.before image none tails) n.its.may;
      free = no_limit code p n.before n.its.quiet n.after image n.plain tail n.its.plains n.its.action tails;
      left =
          let le : tail ≤ n.plain = not_past code p n.before n.its.quiet n.after image n.plain tail n.its.plains n.its.action tails in
          omega (arith, le, n.within, ap sum same.counts);
    }
  where
    n : Next code done p budget
    n = next_in code budget done p left g

    same : SameRuns r.before_tails n.before r.counts n.counts
    same =
        runs_same code (reverse done) r.counts n.counts r.before_tails n.before
        (subst (λ (xs : List ℕ). Runs code xs r.counts r.before_tails) (history_of r.history done r.order) r.runs) n.runs

    number : 1 + (p - 1) ≡ p
    number = omega (arith, number_there n.before p n.its.may)

    tails : Plains code p n.before tail image
    tails =
        subst (λ (j : ℕ). Plains code j n.before tail image) number
        (tails_so code (p - 1) 1 tail n.before image (subst (λ (z : Image). Tails code 1 z (tails_next p tail) image) same.image r.after))

front_run : (code : Code) (done : List ℕ) (total : ℕ) → Front code (reverse done) total → (image : Image) × TableRun code done [] image
front_run code done total f =
    (f.image, record { history = reverse done; counts = f.counts; before_tails = f.image; order = sym (reverse-reverse done); runs = f.runs; after = Tails.none })

pub fronts_are_runs : FrontsAreRuns
fronts_are_runs code budget done left g =
    let r = g.run in
    let h : r.history ≡ reverse left ++ reverse done = history_of r.history (done ++ left) r.order ∙ reverse-append done left in
    front_run code done (sum r.counts)
    (front code (reverse left) (reverse done) r.counts r.before_tails (subst (λ (xs : List ℕ). Runs code xs r.counts r.before_tails) h r.runs))

pub alike : RunsGoThroughAlike
alike code budget schedule image g r = (by g.leaves, few)
  where
    q : TableRun code schedule [] g.image
    q = g.run

    history : q.history ≡ r.history
    history = history_of q.history schedule q.order ∙ sym (history_of r.history schedule r.order)

    same : SameRuns q.before_tails r.before_tails q.counts r.counts
    same =
        runs_same code r.history q.counts r.counts q.before_tails r.before_tails
        (subst (λ (xs : List ℕ). Runs code xs q.counts q.before_tails) history q.runs) r.runs

    images : g.image ≡ image
    images = sym (no_tails code 1 q.before_tails g.image q.after) ∙ same.image ∙ no_tails code 1 r.before_tails image r.after

    by : (image_end g.image ≢ None) ⊎ (sum q.counts < budget) → (image_end image ≢ None) ⊎ (sum r.counts < budget)
    by (inl ends) = inl (subst (λ (z : Image). image_end z ≢ None) images ends)
    by (inr less) = inr (subst (λ (xs : List ℕ). sum xs < budget) same.counts less)

    few : length schedule ≤ budget
    few =
        omega (arith, history_within code q.history q.counts q.before_tails q.runs, g.within, ap length (history_of q.history schedule q.order), length-reverse schedule)
