-- A code whose images picture the worlds of a source follows it.
use Rattle.std.proofs.Common.{append_assoc, inl, inr, ◌≡◌, ℕ, ◌+◌, List, [], ◌∷◌, ◌++◌, length, Option, Some, true, refl, sym, ap, ◌∙◌, subst}
use Rattle.b67_letters.specs.Letters.{letter}
use Rattle.std.specs.Prelude.{◌⊎◌, reverse}
use Rattle.std.proofs.lemmas.List.{reverse-reverse}
use Rattle.algol_tree.specs.Plain.{PProgram}
use Rattle.algol_tree.specs.Scopes.{scopes_of}
use Rattle.algol_meaning.specs.World.{World}
use Rattle.b67_deeds.specs.declared.Letter.{Letter}
use Rattle.algol_meaning.specs.Choice.{choice}
use Rattle.algol_meaning.specs.Run.{start, run, Legal, may_go}
use Rattle.algol_meaning.proofs.Cited.{entry_after}
use Rattle.b67_segment.specs.declared.code.Code.{Code}
use Rattle.b67_table.specs.Image.{Image}
use Rattle.b67_table.specs.Ending.{failed}
use Rattle.b67_table.specs.Outcome.{Outcome}
use Rattle.b67_table.specs.Beginning.{first_image}
use Rattle.b67_table.specs.Runs.{Plains, stay, go, ProcessActs, RunEntry, Runs, begin, entry, Tails, none, next, TableRun}
use Rattle.b67_table.specs.Runs as runs
use Rattle.b67_table.specs.Sound.{Sound}
use Rattle.b67_faithful.specs.Agreement.{WorldAgrees}
use Rattle.b67_letters.specs.Releases.{releases, started_between, started_by, operator_starts}
use Rattle.b67_letters.specs.Entries.{letters, all_released, all_started}
use Rattle.b67_faithful.specs.Correspondence.{action_in, released_in, started_in, source_actions, source_released, source_started}
use Rattle.b67_faithful.specs.Faithful.{ComesToLimit, CodeFollows}
use Rattle.b67_faithful.specs.Simulation.{Simulates, Acted, ProcessComes, acts, stops}
use Rattle.b67_faithful.proofs.Contradictions.{some_same}
use Rattle.b67_faithful.proofs.Sources.{reverse_cons, entered_back, run_later, before}
use Rattle.b67_faithful.proofs.Ways.{may_follow, may_lead}
use Rattle.b67_faithful.proofs.Choices.{none_added, starts_who_is_added}

module _ (tree : PProgram) (code : Code) (Pictures : World → Image → Type 0) (sim : Simulates tree code Pictures) where
  -- plain operators of a process lead through images of one world
  pub through : (w : World) {p : ℕ} {a : Image} {n : ℕ} {b : Image} → Pictures w a → Plains code p a n b → Pictures w b
  through w pic stay = pic
  through w {p} {a} pic (go {b = b} e t l) = through w (sim.plain w a b p pic e t) l

  pub tails_through : (w : World) {p : ℕ} {a : Image} {tails : List ℕ} {b : Image} → Pictures w a → Tails code p a tails b → Pictures w b
  tails_through w pic none = pic
  tails_through w pic (next l after) = tails_through w (through w pic l) after

  -- ---- histories

  pub record Related (h : List ℕ) (img : Image) : Type 0 where
    pub world : World
    pub is : run tree (reverse h) ≡ Some world
    pub pictures : Pictures world img

  pub related : {h counts : List ℕ} {img : Image} → Runs code h counts img → Related h img
  unfolding run
  related begin = record { world = start (scopes_of tree); is = refl; pictures = sim.first }
  related (entry {h} {a = a} {b = b} {p = p} runs e) =
      let so_far = related runs in
      let w = so_far.world in
      let may : may_go w p ≡ true = may_lead code w a (sim.shows w a so_far.pictures) p e.may in
      let quiet : Pictures w e.quiet = through w so_far.pictures e.plains in
      let acted = sim.act w e.quiet b p quiet (may_follow code w e.quiet (sim.shows w e.quiet quiet) p may) e.action in
      record {
        world = (choice (scopes_of tree) w p).world;
        is = run_later tree h p w ((choice (scopes_of tree) w p).world) so_far.is (entry_after (scopes_of tree) w p may);
        pictures = acted.pictures;
      }

  agree : (schedule tails : List ℕ) (img : Image) → TableRun code schedule tails img → WorldAgrees tree code schedule img
  agree schedule tails img r =
      let rel = related r.runs in
      let pic : Pictures rel.world img = tails_through rel.world rel.pictures r.after in
      record { world = rel.world; is = ap (run tree) r.order ∙ rel.is; shows = sim.shows rel.world img pic; fits = sim.fits rel.world img pic }

  -- ---- what the entries do

  -- the entry of a run, and what the source does there
  record Entering (h : List ℕ) (p : ℕ) (quiet b : Image) : Type 0 where
    world : World
    is : run tree (reverse h) ≡ Some world
    quiet_is : Pictures world quiet
    acted : Acted tree code Pictures world p quiet b

  entering : {h counts : List ℕ} {a b : Image} {p n : ℕ} → Runs code h counts a → (e : RunEntry code p a n b) → Entering h p e.quiet b
  entering {a = a} {b = b} {p = p} runs e =
      let so_far = related runs in
      let w = so_far.world in
      let may : may_go w p ≡ true = may_lead code w a (sim.shows w a so_far.pictures) p e.may in
      let quiet : Pictures w e.quiet = through w so_far.pictures e.plains in
      record {
        world = w;
        is = so_far.is;
        quiet_is = quiet;
        acted = sim.act w e.quiet b p quiet (may_follow code w e.quiet (sim.shows w e.quiet quiet) p may) e.action;
      }

  same_actions : {h counts : List ℕ} {img : Image} → (r : Runs code h counts img) → letters r ≡ source_actions tree h
  same_actions begin = refl
  same_actions (entry {h} {p = p} runs e) =
      let x = entering runs e in
      let own : letter code e.quiet p ≡ action_in tree (run tree (reverse h)) p = x.acted.action ∙ sym (ap (λ (o : Option World). action_in tree o p) x.is) in
      ap (λ (o : Option Letter). o ∷ letters runs) own ∙ ap (λ (xs : List (Option Letter)). action_in tree (run tree (reverse h)) p ∷ xs) (same_actions runs)

  same_released : {h counts : List ℕ} {img : Image} → (r : Runs code h counts img) → all_released r ≡ source_released tree h
  same_released begin = refl
  same_released (entry {h} {p = p} runs e) =
      let x = entering runs e in
      let own : releases code e.quiet p ≡ released_in tree (run tree (reverse h)) p = x.acted.released ∙ sym (ap (λ (o : Option World). released_in tree o p) x.is) in
      ap (λ (ps : List ℕ). ps ∷ all_released runs) own ∙ ap (λ (xs : List (List ℕ)). released_in tree (run tree (reverse h)) p ∷ xs) (same_released runs)

  -- the process that an entry starts is the one that is added
  starts_added : (p : ℕ) (quiet b : Image) → ProcessActs code p quiet b → operator_starts code quiet p ≡ started_between quiet.started b.started
  unfolding failed
  starts_added p quiet b (runs.acts np t) = ap (λ (o : Outcome Image). started_by quiet o) t
  starts_added p quiet b (runs.fails kind t) = ap (λ (o : Outcome Image). started_by quiet o) t ∙ none_added quiet.started

  same_started : {h counts : List ℕ} {img : Image} → (r : Runs code h counts img) → all_started r ≡ source_started tree h
  same_started begin = refl
  same_started (entry {h} {b = b} {p = p} runs e) =
      let x = entering runs e in
      let c = choice (scopes_of tree) x.world p in
      let own : operator_starts code e.quiet p ≡ started_in tree (run tree (reverse h)) p =
      starts_added p e.quiet b e.action
      ∙ ap (λ (n : ℕ). started_between n b.started) (sim.shows x.world e.quiet x.quiet_is).started
      ∙ ap (λ (n : ℕ). started_between (length x.world.processes) n) (sim.shows c.world b x.acted.pictures).started
      ∙ sym (starts_who_is_added (scopes_of tree) x.world p)
      ∙ sym (ap (λ (o : Option World). started_in tree o p) x.is) in
      ap (λ (o : Option ℕ). o ∷ all_started runs) own ∙ ap (λ (xs : List (Option ℕ)). started_in tree (run tree (reverse h)) p ∷ xs) (same_started runs)

  -- ---- legal schedules

  data Performed (h : List ℕ) : Type 0 where
    whole : (counts : List ℕ) (img : Image) → Runs code h counts img → Performed h
    limited : ComesToLimit code (reverse h) → Performed h

  longer : (h : List ℕ) (p : ℕ) → ComesToLimit code (reverse h) → ComesToLimit code (reverse (p ∷ h))
  longer h p c =
      record {
        before = c.before;
        next = c.next;
        later = c.later ++ p ∷ [];
        split = reverse_cons p h ∙ ap (λ (s : List ℕ). s ++ p ∷ []) c.split ∙ append_assoc c.before (c.next ∷ c.later) (p ∷ []);
        image = c.image;
        run = c.run;
        plain = c.plain;
        quiet = c.quiet;
        plains = c.plains;
        stops = c.stops;
      }

  run_of : {h counts : List ℕ} {img : Image} → Runs code h counts img → TableRun code (reverse h) [] img
  run_of {h} {counts} {img} runs = record { history = h; counts = counts; before_tails = img; order = refl; runs = runs; after = none }

  performed : (h : List ℕ) (w : World) → run tree (reverse h) ≡ Some w → Performed h
  performed [] w e = whole [] first_image begin
  performed (p ∷ h) w e =
      let last = before tree h p w e in
      go_on (performed h last.world last.is) last.world last.is (entered_back (scopes_of tree) last.world w p last.enters).0
    where
      by_coming : {counts : List ℕ} {img : Image} → Runs code h counts img → (v : World) → Pictures v img → may_go v p ≡ true → ProcessComes tree code Pictures p img → Performed (p ∷ h)
      by_coming {counts} {img} runs v pic may (acts {n} {quiet} {after} l x) =
          whole ((n + 1) ∷ counts) after (entry runs (record { may = may_follow code v img (sim.shows v img pic) p may; quiet = quiet; plains = l; action = x }))
      by_coming {counts} {img} runs v pic may (stops {n} {quiet} l x) =
          limited (record { before = reverse h; next = p; later = []; split = reverse_cons p h; image = img; run = run_of runs; plain = n; quiet = quiet; plains = l; stops = x })

      go_on : Performed h → (v : World) → run tree (reverse h) ≡ Some v → may_go v p ≡ true → Performed (p ∷ h)
      go_on (limited c) v is may = limited (longer h p c)
      go_on (whole counts img runs) v is may =
          let rel = related runs in
          let same : rel.world ≡ v = some_same (sym rel.is ∙ is) in
          let pic : Pictures v img = subst (λ (u : World). Pictures u img) same rel.pictures in
          by_coming runs v pic may (sim.come v img p pic (may_follow code v img (sim.shows v img pic) p may))

  legal_runs : (schedule : List ℕ) → Legal tree schedule → ((image : Image) × TableRun code schedule [] image) ⊎ ComesToLimit code schedule
  legal_runs schedule legal =
      let back : reverse (reverse schedule) ≡ schedule = reverse-reverse schedule in
      by_performed (performed (reverse schedule) legal.0 (ap (run tree) back ∙ legal.1)) back
    where
      by_performed : Performed (reverse schedule) → reverse (reverse schedule) ≡ schedule → ((image : Image) × TableRun code schedule [] image) ⊎ ComesToLimit code schedule
      by_performed (whole counts img runs) back = inl (img, subst (λ (s : List ℕ). TableRun code s [] img) back (run_of runs))
      by_performed (limited c) back = inr (subst (λ (s : List ℕ). ComesToLimit code s) back c)

  -- ---- all of it

  sound : Sound code
  sound = record {
    tagged = λ schedule tails img r ended p able ill.
        let rel = related r.runs in (sim.shows rel.world img (tails_through rel.world rel.pictures r.after)).tagged p ill.0 ended able ill.1;
    apart = λ schedule tails img r p q x regs touches lives private.
        let rel = related r.runs in sim.apart rel.world img (tails_through rel.world rel.pictures r.after) p q x regs touches lives private;
  }

  pub simulations_follow : CodeFollows tree code
  simulations_follow =
      record {
        sound = sound;
        legal = agree;
        actions = λ schedule tails image r. same_actions r.runs;
        released = λ schedule tails image r. same_released r.runs;
        started = λ schedule tails image r. same_started r.runs;
        whole = legal_runs;
      }
