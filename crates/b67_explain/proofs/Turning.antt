-- The entries of a run by one processor are the turns of the source.
use Rattle.std.specs.Prelude.{reverse, if◌then◌else◌, slice_get, take, drop, remove}
use Rattle.std.proofs.Common.{◌≡◌, refl, sym, ap, subst, ◌∙◌, ℕ, suc, ◌+◌, Bool, true, false, List, [], ◌∷◌, ◌++◌, length, Option, Some, None, append_assoc, append-nil, arith}
use Rattle.std.proofs.lemmas.List.{length-reverse}
use Rattle.b67_list.proofs.Lists.{first_same}
use Rattle.algol_tree.specs.Plain.{PProgram}
use Rattle.algol_tree.specs.Scopes.{Scopes, scopes_of}
use Rattle.algol_meaning.specs.World.{World}
use Rattle.algol_meaning.specs.World as world
use Rattle.algol_meaning.specs.Choice.{Choice, choice}
use Rattle.algol_meaning.specs.Run.{start, run, may_go, end_of}
use Rattle.algol_meaning.specs.Turns.{turn_listed, queued, entries_with, turns_from, turns}
use Rattle.b67_segment.specs.declared.code.Code.{Code}
use Rattle.b67_letters.specs.Releases.{releases, operator_starts}
use Rattle.b67_letters.specs.Entries.{all_released, all_started}
use Rattle.b67_table.specs.Ending.{may_act}
use Rattle.b67_table.specs.Image.{Image}
use Rattle.b67_table.specs.Runs.{Runs, begin, entry, TableRun, none}
use Rattle.b67_faithful.specs.Agreement.{WorldAgrees, Shows}
use Rattle.b67_faithful.specs.Correspondence.{released_in, started_in, source_released, source_started}
use Rattle.b67_faithful.specs.Faithful.{Faithful}
use Rattle.b67_faithful.proofs.Sources.{Before, before, entered_back, reverse_cons}
use Rattle.b67_stands.specs.Picked.{Pick, if_started, to_rear, waiting_after, ArePicked}
use Rattle.b67_explain.specs.Turning.{IsByTurns, PickedRunsAreTurns}
use Rattle.b67_explain.proofs.Ending.{may_both}

-- ---- who may go on

-- ---- who goes to the rear

-- the queue of the source, in whatever order it is put together
queued_by : (may : Bool) (waiting released started : List ℕ) (p : ℕ)
    → (if may then waiting ++ released ++ started ++ p ∷ [] else waiting ++ released ++ started)
    ≡ waiting ++ (released ++ started ++ (if may then p ∷ [] else []))
queued_by true waiting released started p =
    append_assoc (waiting ++ released) started (p ∷ []) ∙ append_assoc waiting released (started ++ p ∷ [])
    ∙ ap (λ (xs : List ℕ). waiting ++ xs) (sym (append_assoc released started (p ∷ [])))
queued_by false waiting released started p =
    append_assoc waiting released started ∙ ap (λ (xs : List ℕ). waiting ++ xs) (sym (append-nil (released ++ started)))

listed_same : (o : Option ℕ) → turn_listed o ≡ if_started o
listed_same None = refl
listed_same (Some p) = refl

queued_is : (c : Choice) (w : World) (code : Code) (quiet b : Image) (waiting : List ℕ) (p : ℕ) → c.world ≡ w → c.released ≡ releases code quiet p
    → c.started ≡ operator_starts code quiet p → may_go w p ≡ may_act b p → queued waiting p c ≡ waiting ++ to_rear code quiet p b
queued_is c w code quiet b waiting p e r s m =
    queued_by (may_go c.world p) waiting c.released (turn_listed c.started) p
    ∙ ap (λ (may : Bool). waiting ++ (c.released ++ turn_listed c.started ++ (if may then p ∷ [] else []))) (ap (λ (v : World). may_go v p) e ∙ m)
    ∙ ap (λ (xs : List ℕ). waiting ++ (xs ++ turn_listed c.started ++ (if may_act b p then p ∷ [] else []))) r
    ∙ ap (λ (o : Option ℕ). waiting ++ (releases code quiet p ++ turn_listed o ++ (if may_act b p then p ∷ [] else []))) s
    ∙ ap (λ (xs : List ℕ). waiting ++ (releases code quiet p ++ xs ++ (if may_act b p then p ∷ [] else []))) (listed_same (operator_starts code quiet p))

-- ---- one turn

some_same : (w v : World) → Some w ≡ Some v → w ≡ v
some_same w v e = cc

turn_by : (sc : Scopes) (w : World) (queue : List ℕ) (at : ℕ) (p : ℕ) (o : Option ℕ) (go_on : World → List ℕ → List ℕ) → o ≡ Some p → may_go w p ≡ true
    → entries_with sc w queue at o go_on ≡ p ∷ go_on (choice sc w p).world (queued (remove queue at) p (choice sc w p))
turn_by sc w queue at p o go_on e may =
    let next : at + 1 ≡ suc at = omega arith in
    ap (λ (x : Option ℕ). entries_with sc w queue at x go_on) e
    ∙ ap (λ (b : Bool). if b then p ∷ go_on (choice sc w p).world (queued (take at queue ++ drop (at + 1) queue) p (choice sc w p)) else []) may
    ∙ ap (λ (k : ℕ). p ∷ go_on (choice sc w p).world (queued (take at queue ++ drop k queue) p (choice sc w p))) next

module _ (tree : PProgram) (code : Code) (pick : Pick) (faithful : Faithful tree code) where
  abbrev sc : Scopes
  sc = scopes_of tree

  abbrev table_run : {h counts : List ℕ} {img : Image} → Runs code h counts img → TableRun code (reverse h) [] img
  table_run {h} {counts} {img} runs = record { history = h; counts = counts; before_tails = img; order = refl; runs = runs; after = none }

  -- the turns go on from the world after a run
  turns_on : {h counts : List ℕ} {img : Image} (runs : Runs code h counts img) → ArePicked pick runs → (w : World) → run tree (reverse h) ≡ Some w → (n : ℕ)
      → turns_from (scopes_of tree) pick (length h + n) 0 (start (scopes_of tree)) (1 ∷ [])
      ≡ reverse h ++ turns_from (scopes_of tree) pick n (length h) w (waiting_after pick runs)
  unfolding run
  turns_on begin picked w e n =
      let same : 0 + n ≡ n = omega arith in
      ap (λ (k : ℕ). turns_from (scopes_of tree) pick k 0 (start (scopes_of tree)) (1 ∷ [])) same
      ∙ ap (λ (v : World). turns_from (scopes_of tree) pick n 0 v (1 ∷ [])) (some_same (start (scopes_of tree)) w e)
  turns_on {h} {counts} {img} (entry {h = g} {counts = ns} {a = a} {b = b} {p = p} {n = m} runs entered) picked w e n =
      let was : Before tree g p w = before tree g p w e in
      let back = entered_back (scopes_of tree) was.world w p was.enters in
      let r : TableRun code (reverse (p ∷ g)) [] b = table_run (entry runs entered) in
      let agrees : WorldAgrees tree code (reverse (p ∷ g)) b = faithful.follows.legal (reverse (p ∷ g)) [] b r in
      let same : agrees.world ≡ w = some_same agrees.world w (sym agrees.is ∙ e) in
      let shows : Shows code w b = subst (λ (v : World). Shows code v b) same agrees.shows in
      let released : (choice (scopes_of tree) was.world p).released ≡ releases code entered.quiet p =
      ap (λ (o : Option World). released_in tree o p) (sym was.is)
      ∙ sym (first_same (releases code entered.quiet p) (released_in tree (run tree (reverse g)) p) (all_released runs) (source_released tree g)
      (faithful.follows.released (reverse (p ∷ g)) [] b r)) in
      let started : (choice (scopes_of tree) was.world p).started ≡ operator_starts code entered.quiet p =
      ap (λ (o : Option World). started_in tree o p) (sym was.is)
      ∙ sym (first_same (operator_starts code entered.quiet p) (started_in tree (run tree (reverse g)) p) (all_started runs) (source_started tree g)
      (faithful.follows.started (reverse (p ∷ g)) [] b r)) in
      let at : ℕ = pick (length (waiting_after pick runs)) (length g) in
      let next : turns_from (scopes_of tree) pick (suc n) (length g) was.world (waiting_after pick runs)
      ≡ p ∷ turns_from (scopes_of tree) pick n (length g + 1) w (waiting_after pick (entry runs entered)) =
      turn_by (scopes_of tree) was.world (waiting_after pick runs) (pick (length (waiting_after pick runs)) (length g)) p
      (slice_get (waiting_after pick runs) (pick (length (waiting_after pick runs)) (length g))) (turns_from (scopes_of tree) pick n (length g + 1)) picked.1 back.0
      ∙ ap (λ (v : World). p ∷ turns_from (scopes_of tree) pick n (length g + 1) v
      (queued (remove (waiting_after pick runs) (pick (length (waiting_after pick runs)) (length g))) p (choice (scopes_of tree) was.world p))) back.1
      ∙ ap (λ (q : List ℕ). p ∷ turns_from (scopes_of tree) pick n (length g + 1) w q)
      (queued_is (choice (scopes_of tree) was.world p) w code entered.quiet b (remove (waiting_after pick runs) (pick (length (waiting_after pick runs)) (length g))) p back.1 released started
      (may_both code w b p shows)) in
      let count : length (p ∷ g) + n ≡ length g + suc n = omega arith in
      let last : length g + 1 ≡ length {A = ℕ} (p ∷ g) = omega arith in
      ap (λ (k : ℕ). turns_from (scopes_of tree) pick k 0 (start (scopes_of tree)) (1 ∷ [])) count
      ∙ turns_on runs picked.0 was.world was.is (suc n)
      ∙ ap (λ (xs : List ℕ). reverse g ++ xs) next
      ∙ sym (append_assoc (reverse g) (p ∷ []) (turns_from (scopes_of tree) pick n (length g + 1) w (waiting_after pick (entry runs entered))))
      ∙ ap (λ (xs : List ℕ). xs ++ turns_from (scopes_of tree) pick n (length g + 1) w (waiting_after pick (entry runs entered))) (sym (reverse_cons p g))
      ∙ ap (λ (k : ℕ). reverse (p ∷ g) ++ turns_from (scopes_of tree) pick n k w (waiting_after pick (entry runs entered))) last

  by_turns : (h counts : List ℕ) (img : Image) (runs : Runs code h counts img) → ArePicked pick runs → turns tree pick (length h) ≡ reverse h
  unfolding turns
  by_turns h counts img runs picked =
      let agrees : WorldAgrees tree code (reverse h) img = faithful.follows.legal (reverse h) [] img (table_run runs) in
      let same : length h ≡ length h + 0 = omega arith in
      ap (λ (k : ℕ). turns_from (scopes_of tree) pick k 0 (start (scopes_of tree)) (1 ∷ [])) same
      ∙ turns_on runs picked agrees.world agrees.is 0
      ∙ append-nil (reverse h)

  by_schedule : (schedule tails : List ℕ) (img : Image) (r : TableRun code schedule tails img) → ArePicked pick r.runs → IsByTurns tree pick schedule
  by_schedule schedule tails img r picked =
      ap (turns tree pick) (ap length r.order ∙ length-reverse r.history) ∙ by_turns r.history r.counts r.before_tails r.runs picked ∙ sym r.order

pub picked_runs_are_turns : PickedRunsAreTurns
picked_runs_are_turns tree code pick schedule tails img faithful r picked = by_schedule tree code pick faithful schedule tails img r picked
