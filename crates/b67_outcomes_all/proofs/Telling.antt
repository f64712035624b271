-- From runs of the code to the source.
use Rattle.std.proofs.Common.{◌≡◌, refl, sym, ap, subst, ◌∙◌, ℕ, zero, suc, ◌+◌, ◌-◌, ◌<◌, Bool, true, false, arith, List, [], ◌∷◌, ◌++◌, reverse, Option, Some, None, inl, inr}
use Rattle.std.specs.Prelude.{◌⊎◌, if◌then◌else◌}
use Rattle.std.proofs.lemmas.Option.{same_Some, none-some}
use Rattle.algol_tree.specs.Plain.{PProgram}
use Rattle.algol_tree.specs.Scopes.{Scopes, scopes_of}
use Rattle.algol_meaning.specs.World.{World}
use Rattle.algol_meaning.specs.Choice.{choice}
use Rattle.algol_meaning.specs.Run.{start, run, run_from, after_entry, may_go}
use Rattle.algol_meaning.specs.Run as meaning
use Rattle.b67_segment.specs.declared.code.Code.{Code}
use Rattle.b67_store.specs.Store.{stack_limit}
use Rattle.b67_table.specs.Image.{Image}
use Rattle.b67_table.specs.Ending.{ImageEnd, image_end, may_act}
use Rattle.b67_table.specs.Runs.{Runs, Plains, stay, TableRun, Tails, none, next}
use Rattle.b67_table.proofs.Cited.{no_tails, number_there}
use Rattle.b67_faithful.specs.Weight.{weight}
use Rattle.b67_faithful.specs.Agreement.{end_as}
use Rattle.b67_faithful.specs.Faithful.{Faithful, ComesToLimit}
use Rattle.b67_outcomes.specs.declared.found.Found.{Found}
use Rattle.b67_outcomes.specs.Entering.{HistoryLeadsTo}
use Rattle.b67_outcomes.specs.Finding.{AreAll}
use Rattle.b67_explain.proofs.Ending.{may_both}
use Rattle.b67_outcomes_all.specs.Sources.{KeptAreLegal, KeptTellAll, StopsAreLimits, IsLimitNoted, IsToldIn}

-- ---- worlds within a legal schedule

-- the world after a part of a schedule, in which the next process may go on
record Midway (sc : Scopes) (before : List ℕ) (p : ℕ) (o : Option World) : Type 0 where
  pub world : World
  pub is : run_from sc before o ≡ Some world
  pub goes : may_go world p ≡ true

none_goes : (sc : Scopes) (h : List ℕ) (w : World) (A : Type 0) → run_from sc h None ≡ Some w → A
none_goes sc [] w A e = absurd (none-some w e)
none_goes sc (p ∷ h) w A e = absurd (none-some w e)

entry_goes : (sc : Scopes) (h : List ℕ) (w x : World) (b : Bool) → run_from sc h (if b then Some x else None) ≡ Some w → b ≡ true
entry_goes sc h w x true e = refl
entry_goes sc h w x false e = none_goes sc h w _ e

entry_may : (sc : Scopes) (h : List ℕ) (p : ℕ) (v w : World) → run_from sc h (after_entry sc v p) ≡ Some w → may_go v p ≡ true
unfolding after_entry
entry_may sc h p v w e = entry_goes sc h w ((choice sc v p).world) (may_go v p) e

midway : (sc : Scopes) (before : List ℕ) (p : ℕ) (later : List ℕ) (o : Option World) (w : World) → run_from sc (before ++ p ∷ later) o ≡ Some w
    → Midway sc before p o
midway sc before p later None w e = none_goes sc (before ++ p ∷ later) w _ e
midway sc [] p later (Some v) w e = record { world = v; is = refl; goes = entry_may sc later p v w e }
midway sc (q ∷ before) p later (Some v) w e =
    let m = midway sc before p later (after_entry sc v q) w e in record { world = m.world; is = m.is; goes = m.goes }

-- the process of an entry of a legal schedule may go on in the world before it
next_goes : (tree : PProgram) (before : List ℕ) (p : ℕ) (later : List ℕ) (w u : World) → run tree (before ++ p ∷ later) ≡ Some w → run tree before ≡ Some u
    → may_go u p ≡ true
unfolding run
next_goes tree before p later w u e f =
    let m = midway (scopes_of tree) before p later (Some (start (scopes_of tree))) w e in
    subst (λ (x : World). may_go x p ≡ true) (same_Some m.world u (sym m.is ∙ f)) m.goes

-- ---- worlds and images

-- a history with its run is a run under its schedule
run_of : (code : Code) (history : List ℕ) (img : Image) → HistoryLeadsTo code history img → TableRun code (reverse history) [] img
run_of code history img leads =
    record { history = history; counts = leads.0; before_tails = img; order = refl; runs = leads.1; after = none }

-- ---- the tail of a process that comes to the stack limit

-- so many processes without a tail, and one with this one
abbrev tails_with : ℕ → ℕ → List ℕ
tails_with zero n = n ∷ []
tails_with (suc k) n = 0 ∷ tails_with k n

one_tail : (code : Code) (k from p : ℕ) (a b : Image) (n : ℕ) → from + k ≡ p → Plains code p a n b → Tails code from a (tails_with k n) b
one_tail code zero from p a b n e plains =
    let same : p ≡ from = omega (arith, e) in next (subst (λ (q : ℕ). Plains code q a n b) same plains) none
one_tail code (suc k) from p a b n e plains = next stay (one_tail code k (from + 1) p a b n (omega (arith, e)) plains)

-- ---- all of them

-- the end of an image is that of its world
image_ended : (i : Option ImageEnd) (end : meaning.End) → end_as i ≡ Some end → (e : ImageEnd) × (i ≡ Some e)
image_ended None end x = absurd (none-some end x)
image_ended (Some e) end x = (e, refl)

pub told : (tree : PProgram) (code : Code) (found : Found) → Faithful tree code → AreAll code found → (schedule : List ℕ) (w : World) (end : meaning.End)
    → run tree schedule ≡ Some w → meaning.end_of w ≡ Some end → (img : Image) → TableRun code schedule [] img → IsToldIn code found w
told tree code found f all schedule w end legal ends img t =
    let agrees = f.follows.legal schedule [] img t in
    let same : agrees.world ≡ w = same_Some agrees.world w (sym agrees.is ∙ legal) in
    let shown : meaning.end_of w ≡ end_as (image_end img) = subst (λ (x : World). meaning.end_of x ≡ end_as (image_end img)) same agrees.shows.ends in
    let e = image_ended (image_end img) end (sym shown ∙ ends) in
    let tails = no_tails code 1 t.before_tails img t.after in
    let x = all.ends t.history t.counts img e.0 (subst (λ (y : Image). Runs code t.history t.counts y) tails t.runs) e.1 in
    record {
      image = x.image;
      is_kept = x.kept;
      tells = record {
        output = x.output_is ∙ subst (λ (y : World). img.output ≡ y.output) same agrees.shows.output;
        ends = shown ∙ ap end_as (e.1 ∙ sym x.ends);
      };
    }

-- where a legal schedule comes to the stack limit, the process may act there
pub may_there : (tree : PProgram) (code : Code) → Faithful tree code → (schedule : List ℕ) (w : World) → run tree schedule ≡ Some w → (c : ComesToLimit code schedule)
    → may_act c.image c.next ≡ true
may_there tree code f schedule w e c =
    let agrees = f.follows.legal c.before [] c.image c.run in
    let goes = next_goes tree c.before c.next c.later w agrees.world (subst (λ (h : List ℕ). run tree h ≡ Some w) c.split e) agrees.is in
    sym (may_both code agrees.world c.image c.next agrees.shows) ∙ goes

noted : (tree : PProgram) (code : Code) (found : Found) → Faithful tree code → AreAll code found → (schedule : List ℕ) (w : World) → run tree schedule ≡ Some w
    → ComesToLimit code schedule → IsLimitNoted code found schedule
noted tree code found f all schedule w e c =
    let same = no_tails code 1 c.run.before_tails c.image c.run.after in
    record {
      before = c.before;
      next = c.next;
      later = c.later;
      split = c.split;
      image = c.image;
      run = c.run;
      words = _;
      noted =
          all.stops c.run.history c.run.counts c.image c.quiet c.next (subst (λ (x : Image). Runs code c.run.history c.run.counts x) same c.run.runs)
          (may_there tree code f schedule w e c) (record { count = c.plain; plains = c.plains; at_limit = c.stops });
    }

by_case : (tree : PProgram) (code : Code) (found : Found) → Faithful tree code → AreAll code found → (schedule : List ℕ) (w : World) (end : meaning.End)
    → run tree schedule ≡ Some w → meaning.end_of w ≡ Some end → ((img : Image) × TableRun code schedule [] img) ⊎ ComesToLimit code schedule → IsToldIn code found w ⊎ IsLimitNoted code found schedule
by_case tree code found f all schedule w end e ends (inl x) = inl (told tree code found f all schedule w end e ends x.0 x.1)
by_case tree code found f all schedule w end e ends (inr x) = inr (noted tree code found f all schedule w e x)

pub tells_all : KeptTellAll
tells_all tree code found f all schedule w end e ends = by_case tree code found f all schedule w end e ends (f.follows.whole schedule (w, e))

-- ---- and no other

pub are_legal : KeptAreLegal
are_legal tree code found f led number within =
    let one = led number within in
    let agrees = f.follows.legal (reverse one.history) [] one.image (run_of code one.history one.image one.leads) in
    record {
      history = one.history;
      image = one.image;
      is = one.is;
      leads = one.leads;
      legal = record { world = agrees.world; legal = agrees.is; tells = record { output = agrees.shows.output; ends = agrees.shows.ends } };
    }

pub are_limits : StopsAreLimits
are_limits tree code found f stops k l there =
    let s = stops k l there in
    let agrees = f.follows.legal (reverse s.history) [] s.image (run_of code s.history s.image s.leads) in
    let positive = number_there s.image l.process s.may in
    let tails = tails_with (l.process - 1) s.stops.count in
    let after : Tails code 1 s.image tails s.quiet =
    one_tail code (l.process - 1) 1 l.process s.image s.quiet s.stops.count (omega (arith, positive)) s.stops.plains in
    let tailed : TableRun code (reverse s.history) tails s.quiet =
    record { history = s.history; counts = s.leads.0; before_tails = s.image; order = refl; runs = s.leads.1; after = after } in
    let quiet = f.follows.legal (reverse s.history) tails s.quiet tailed in
    let same : quiet.world ≡ agrees.world = same_Some quiet.world agrees.world (sym quiet.is ∙ agrees.is) in
    record {
      history = s.history;
      is = s.is;
      world = agrees.world;
      legal = agrees.is;
      goes = may_both code agrees.world s.image l.process agrees.shows ∙ s.may;
      heavy = subst (λ (x : World). stack_limit < weight tree x l.process) same (quiet.fits.heavy l.process s.stops.at_limit);
    }
