-- START, test by test.
use Rattle.std.specs.Result.{IsErrAnd}
use Rattle.std.proofs.Common.{◌≡◌, ◌≢◌, refl, sym, ap, subst, ◌∙◌, ℕ, zero, suc, ◌+◌, ◌-◌, ◌<◌, ◌≤◌, nat_lt, nat_le, ℤ, pos, negsuc, Bool, true, false, List, [], ◌∷◌, ◌++◌, take, drop, length, slice_get, Option, Some, None, is_some, Result, Ok, Err, cond, arith}
use Rattle.std.proofs.lemmas.Bool.Decides.{nat_tests}
use Rattle.b67_list.specs.Numbered.{numbered}
use Rattle.b67_num.specs.declared.FaultKind.TheVariants.{ProcessLimit}
use Rattle.b67_word.specs.declared.Place.{Place}
use Rattle.b67_word.specs.Word.{Word, as_whole}
use Rattle.b67_control.specs.declared.Mscw.{Mscw}
use Rattle.b67_control.specs.declared.Pcw.{Pcw}
use Rattle.b67_control.specs.declared.Registers.{Registers}
use Rattle.b67_control.specs.Control.{as_pcw}
use Rattle.b67_segment.specs.declared.code.Code.{Code}
use Rattle.b67_store.specs.Store.{Stacks, Rows, stack_at, words_of, words_or, word_at, opened_at}
use Rattle.b67_store.proofs.StoreLaws.{opened_others}
use Rattle.b67_table.specs.declared.Cell.{Cell}
use Rattle.b67_table.specs.declared.Reached.{Reached}
use Rattle.b67_table.specs.declared.InterruptKind.TheVariants.{InvalidOperand}
use Rattle.b67_table.specs.Arguments.{no_such, event_of, if_chained, finished_at}
use Rattle.b67_table.specs.Chains.{place}
use Rattle.b67_table.specs.Effect.{Effect}
use Rattle.b67_table.specs.Image.{Image}
use Rattle.b67_table.specs.Limits.{most_cells, most_processes}
use Rattle.b67_table.specs.Look.{Look, found, stops, at, several, look_seen, valid, ◌>->◌}
use Rattle.b67_table.specs.Outcome.{limited}
use Rattle.b67_table.specs.Private.{frame}
use Rattle.b67_table.specs.Program.{Test, answer, interrupt, fault, ask, asked, see, ◌>>=◌, started, Change, Program, change_start, effect_of}
use Rattle.b67_table.specs.Questions.{told}
use Rattle.b67_table.specs.References.{cell_of, reached}
use Rattle.b67_table.specs.Starting.{Starting, starting, task_in, task_of, if_few, first_display, on_path, frames_with, named_frames, process_begun, first_words, start_process}
use Rattle.b67_table.specs.Table.{stack_length}
use Rattle.b67_table.specs.Writes as writes
use Rattle.b67_table.specs.Writes.{write_made}
use Rattle.b67_linkage.specs.Held.{IsLinked}
use Rattle.b67_reach.specs.declared.Stop.{Stop}
use Rattle.b67_reach.specs.declared.Stop.TheVariants.{Interrupt}
use Rattle.b67_reach.specs.Answers.{whole_outcome, stopped, outcome_answered, looked, IsReady, ProgramActs}
use Rattle.b67_reach.proofs.Looking.{asked_on, asked_then, tells_look, acts_then, acts_stop, stops_test}
use Rattle.b67_intrinsics.specs.Called.{arguments, mark_below, intrinsic_called, IsCalled}
use Rattle.b67_intrinsics.proofs.Calling.{drop_at}
use Rattle.b67_going.specs.declared.processes.Unstarted.TheVariants.{Stopped}
use Rattle.b67_going.specs.declared.starts.Given.{Given}
use Rattle.b67_going.specs.Paths.{some_words}
use Rattle.b67_going.specs.Starts.{procedure_of, given_in, Beginning, beginning, beginning_in, started_first_registers, if_number, Starts, IsCalling}

-- ---- one test after another

module _ (img : Image) where
  pub rebind : {A B C : Type 0} (x : Test A) (f : A → Test C) (g : A → Test B) (k : B → Test C) → ((a : A) → asked img (f a) ≡ asked img (g a >>= k))
      → asked img (x >>= f) ≡ asked img ((x >>= g) >>= k)
  rebind (answer a) f g k h = h a
  rebind (interrupt kind) f g k h = refl
  rebind (fault kind) f g k h = refl
  rebind (ask q more) f g k h = rebind (more (told img q)) f g k h

  pub same_next : {A B : Type 0} (x : Test A) (f g : A → Test B) → ((a : A) → asked img (f a) ≡ asked img (g a)) → asked img (x >>= f) ≡ asked img (x >>= g)
  same_next (answer a) f g h = h a
  same_next (interrupt kind) f g h = refl
  same_next (fault kind) f g h = refl
  same_next (ask q more) f g h = same_next (more (told img q)) f g h

  pub see_then : {A B C : Type 0} (l : Look A) (k : A → Look B) (f : B → Test C) → asked img (see (l >-> k) >>= f) ≡ asked img (see l >>= (λ (a : A). see (k a) >>= f))
  see_then (found a) k f = refl
  see_then (stops kind) k f = refl
  see_then (at p more) k f = see_then (more (word_at img.stacks p)) k f
  see_then (several p n more) k f = see_then (more (take n (drop p.at (words_of img.stacks p.stack)))) k f

  pub stop_on : {A B : Type 0} (t : Test A) (k : A → Test B) (stop : Stop) → whole_outcome (asked img t) ≡ stopped stop → whole_outcome (asked img (t >>= k)) ≡ stopped stop
  stop_on t k stop e = ap whole_outcome (asked_then img t k) ∙ stops_test img (asked img t) k stop e

  pub sees : {A : Type 0} (l : Look A) (st : Stacks) (r : Result A Stop) → img.stacks ≡ st → r ≡ looked (look_seen st l) → whole_outcome (asked img (see l)) ≡ outcome_answered r
  sees l st r s e = (tells_look l st img.rows r e).told img s refl

-- ---- the arguments

part_length : (ws : List Word) (j m : ℕ) → j + m ≤ length ws → length (take m (drop j ws)) ≡ m
part_length [] zero zero h = refl
part_length [] zero (suc m) h = absurd (omega (arith, h))
part_length [] (suc j) m h = absurd (omega (arith, h))
part_length (w ∷ ws) zero zero h = refl
part_length (w ∷ ws) zero (suc m) h = ap suc (part_length ws zero m (omega (arith, h)))
part_length (w ∷ ws) (suc j) m h = part_length ws j m (omega (arith, h))

pub words_are : (ws : List Word) (n k : ℕ) (v w : Word) → 2 ≤ n → slice_get ws k ≡ Some v → slice_get ws (k + 1) ≡ Some w
    → take n (drop k ws) ≡ v ∷ w ∷ take (n - 2) (drop (k + 2) ws)
words_are ws n k v w h e f =
    let n_is : n ≡ suc (suc (n - 2)) = omega (arith, h) in
    let one : k + 1 ≡ suc k = omega arith in
    let two : suc (suc k) ≡ k + 2 = omega arith in
    ap (λ (i : ℕ). take i (drop k ws)) n_is
    ∙ ap (λ (z : List Word). take (suc (suc (n - 2))) z) (drop_at ws k v e)
    ∙ ap (λ (z : List Word). v ∷ take (suc (n - 2)) z) (drop_at ws (suc k) w (sym (ap (λ (i : ℕ). slice_get ws i) one) ∙ f))
    ∙ ap (λ (i : ℕ). v ∷ w ∷ take (n - 2) (drop i ws)) two

-- ---- the task

task_is : (img : Image) (r : Registers) (w : Word) (z : Option ℤ) → (z ≡ Some (pos 0) → ⊥) → asked img (task_in z r w) ≡ asked img (event_of r w >>= (λ (c : Cell). answer (Some c)))
task_is img r w None h = refl
task_is img r w (Some (pos zero)) h = absurd (h refl)
task_is img r w (Some (pos (suc n))) h = refl
task_is img r w (Some (negsuc n)) h = refl

module _ (img : Image) (r : Registers) (w : Word) where
  pub without_task : as_whole w ≡ Some (pos 0) → whole_outcome (asked img (task_of r w)) ≡ outcome_answered {A = Option Cell} (Ok None)
  without_task e = ap (λ (z : Option ℤ). whole_outcome (asked img (task_in z r w))) e

  pub has_task : (c : Cell) → (as_whole w ≡ Some (pos 0) → ⊥) → whole_outcome (asked img (event_of r w)) ≡ outcome_answered (Ok c) → whole_outcome (asked img (task_of r w)) ≡ outcome_answered (Ok (Some c))
  has_task c h e = ap whole_outcome (task_is img r w (as_whole w) h ∙ asked_on img (event_of r w) (λ (c : Cell). answer (Some c)) c e)

  pub no_task : (stop : Stop) → (as_whole w ≡ Some (pos 0) → ⊥) → whole_outcome (asked img (event_of r w)) ≡ outcome_answered {A = Cell} (Err stop)
      → whole_outcome (asked img (task_of r w)) ≡ outcome_answered {A = Option Cell} (Err stop)
  no_task stop h e = ap whole_outcome (task_is img r w (as_whole w) h) ∙ stop_on img (event_of r w) (λ (c : Cell). answer (Some c)) stop e

-- ---- what START is given

pub given_exit : (st : Stacks) (e : Effect Starting) (res : Result Given Stop) (stop : Stop) → IsErrAnd res (λ s. s ≡ stop) → whole_outcome e ≡ stopped stop
    → whole_outcome e ≡ outcome_answered (given_in st res)
given_exit st e (Ok t) stop i h = absurd i
given_exit st e (Err other) stop i h = h ∙ ap (λ (s : Stop). stopped s) (sym i)

module _ (img : Image) (r : Registers) (v w : Word) (ps : List Word) where
  abbrev few_with : Pcw × Place → Option Cell → Test Starting
  few_with p c = if_few ps (answer (record { procedure = p.0; home = p.1; task = c; parameters = ps }))

  abbrev with_procedure : Pcw × Place → Test Starting
  with_procedure p = task_of r w >>= (λ (c : Option Cell). few_with p c)

  in_order : asked img (starting r (v ∷ w ∷ ps)) ≡ asked img (see (procedure_of (cell_of r v)) >>= with_procedure)
  in_order =
      same_next img (see (reached (cell_of r v))) (λ (x : Reached). see (valid (as_pcw x.word)) >>= (λ (pcw : Pcw). with_procedure (pcw, x.cell.frame)))
      (λ (x : Reached). see (valid (as_pcw x.word) >-> (λ (pcw : Pcw). found (pcw, x.cell.frame))) >>= with_procedure)
      (λ (x : Reached). sym (see_then img (valid (as_pcw x.word)) (λ (pcw : Pcw). found (pcw, x.cell.frame)) with_procedure))
      ∙ sym (see_then img (reached (cell_of r v)) (λ (x : Reached). valid (as_pcw x.word) >-> (λ (pcw : Pcw). found (pcw, x.cell.frame))) with_procedure)

  pub no_procedure : (stop : Stop) → whole_outcome (asked img (see (procedure_of (cell_of r v)))) ≡ outcome_answered {A = Pcw × Place} (Err stop)
      → whole_outcome (asked img (starting r (v ∷ w ∷ ps))) ≡ stopped stop
  no_procedure stop e = ap whole_outcome in_order ∙ stop_on img (see (procedure_of (cell_of r v))) with_procedure stop e

  module _ (p : Pcw × Place) (e : whole_outcome (asked img (see (procedure_of (cell_of r v)))) ≡ outcome_answered (Ok p)) where
    after_procedure : asked img (starting r (v ∷ w ∷ ps)) ≡ asked img (with_procedure p)
    after_procedure = in_order ∙ asked_on img (see (procedure_of (cell_of r v))) with_procedure p e

    pub wrong_task : (stop : Stop) → whole_outcome (asked img (task_of r w)) ≡ outcome_answered {A = Option Cell} (Err stop) → whole_outcome (asked img (starting r (v ∷ w ∷ ps))) ≡ stopped stop
    wrong_task stop f = ap whole_outcome after_procedure ∙ stop_on img (task_of r w) (λ (c : Option Cell). few_with p c) stop f

    module _ (c : Option Cell) (f : whole_outcome (asked img (task_of r w)) ≡ outcome_answered (Ok c)) where
      after_task : (b : Bool) → nat_le (length ps) most_cells ≡ b
          → asked img (starting r (v ∷ w ∷ ps)) ≡ asked img (cond b (answer (record { procedure = p.0; home = p.1; task = c; parameters = ps })) no_such)
      after_task b g =
          after_procedure ∙ asked_on img (task_of r w) (λ (c : Option Cell). few_with p c) c f
          ∙ ap (λ (b : Bool). asked img (cond b (answer (record { procedure = p.0; home = p.1; task = c; parameters = ps })) no_such)) g

      pub too_many_given : most_cells < length ps → whole_outcome (asked img (starting r (v ∷ w ∷ ps))) ≡ stopped (Interrupt InvalidOperand)
      too_many_given h = ap whole_outcome (after_task false (grind (arith, nat_tests, h)))

      pub is_given : length ps ≤ most_cells
          → whole_outcome (asked img (starting r (v ∷ w ∷ ps))) ≡ outcome_answered (Ok (record { procedure = p.0; home = p.1; task = c; parameters = ps }))
      is_given h = ap whole_outcome (after_task true (grind (arith, nat_tests, h)))

-- the arguments in an image, and how many parameters there are
pub arguments_are : (img : Image) (st : Stacks) (r : Registers) (v w : Word) → img.stacks ≡ st → r.f + 4 ≤ r.s
    → slice_get (words_of st r.stack) (r.f + 2) ≡ Some v → slice_get (words_of st r.stack) (r.f + 3) ≡ Some w
    → arguments img.stacks r ≡ v ∷ w ∷ some_words st r.stack (r.f + 4) (r.s - (r.f + 4))
arguments_are img st r v w s h e f =
    let three : r.f + 2 + 1 ≡ r.f + 3 = omega arith in
    let four : r.f + 2 + 2 ≡ r.f + 4 = omega arith in
    let rest : r.s - (r.f + 2) - 2 ≡ r.s - (r.f + 4) = omega arith in
    ap (λ (z : Stacks). arguments z r) s
    ∙ words_are (words_of st r.stack) (r.s - (r.f + 2)) (r.f + 2) v w (omega (arith, h)) e (ap (λ (i : ℕ). slice_get (words_of st r.stack) i) three ∙ f)
    ∙ ap (λ (i : ℕ). v ∷ w ∷ take (r.s - (r.f + 2) - 2) (drop i (words_of st r.stack))) four
    ∙ ap (λ (i : ℕ). v ∷ w ∷ take i (drop (r.f + 4) (words_of st r.stack))) rest

pub arguments_count : (st : Stacks) (r : Registers) → r.s ≡ length (words_of st r.stack) → r.f + 2 ≤ r.s → length (arguments st r) ≡ r.s - (r.f + 2)
arguments_count st r e h = part_length (words_of st r.stack) (r.f + 2) (r.s - (r.f + 2)) (omega (arith, h, e))

pub parameters_length : (st : Stacks) (r : Registers) → r.s ≡ length (words_of st r.stack) → r.f + 4 ≤ r.s
    → length (some_words st r.stack (r.f + 4) (r.s - (r.f + 4))) ≡ r.s - (r.f + 4)
parameters_length st r e h = part_length (words_of st r.stack) (r.f + 4) (r.s - (r.f + 4)) (omega (arith, h, e))

-- ---- what a new process begins with

pub beginning_exit : (st : Stacks) (e : Effect Beginning) (res : Result (Given × Registers) Stop) (stop : Stop) → IsErrAnd res (λ s. s ≡ stop) → whole_outcome e ≡ stopped stop
    → whole_outcome e ≡ outcome_answered (beginning_in st res)
beginning_exit st e (Ok t) stop i h = absurd i
beginning_exit st e (Err other) stop i h = h ∙ ap (λ (s : Stop). stopped s) (sym i)

module _ (img : Image) (r : Registers) (m : Mscw) (words : List Word) where
  abbrev with_registers : Starting → ℕ → Test Beginning
  with_registers t n = started_first_registers r n t >>= (λ (q : Registers). answer (record { starting = t; regs = q }))

  abbrev with_mark : Starting → Test Beginning
  with_mark t = see (mark_below r m) >>= (λ (lower : Mscw). started (λ (n : ℕ). with_registers t n))

  pub nothing_given : (stop : Stop) → whole_outcome (asked img (starting r words)) ≡ stopped stop → whole_outcome (asked img (beginning r m words)) ≡ stopped stop
  nothing_given stop e = stop_on img (starting r words) with_mark stop e

  module _ (t : Starting) (e : whole_outcome (asked img (starting r words)) ≡ outcome_answered (Ok t)) where
    pub not_chained : (stop : Stop) → whole_outcome (asked img (see (mark_below r m))) ≡ stopped stop → whole_outcome (asked img (beginning r m words)) ≡ stopped stop
    not_chained stop f =
        ap whole_outcome (asked_on img (starting r words) with_mark t e)
        ∙ stop_on img (see (mark_below r m)) (λ (lower : Mscw). started (λ (n : ℕ). with_registers t n)) stop f

    module _ (lower : Mscw) (n : ℕ) (f : whole_outcome (asked img (see (mark_below r m))) ≡ outcome_answered (Ok lower)) (h : img.started ≡ n) where
      after_mark : asked img (beginning r m words) ≡ asked img (with_registers t n)
      after_mark =
          asked_on img (starting r words) with_mark t e
          ∙ asked_on img (see (mark_below r m)) (λ (lower : Mscw). started (λ (n : ℕ). with_registers t n)) lower f
          ∙ ap (λ (k : ℕ). asked img (with_registers t k)) h

      pub no_registers : (stop : Stop) → whole_outcome (asked img (started_first_registers r n t)) ≡ stopped stop → whole_outcome (asked img (beginning r m words)) ≡ stopped stop
      no_registers stop k =
          ap whole_outcome after_mark ∙ stop_on img (started_first_registers r n t) (λ (q : Registers). answer (record { starting = t; regs = q })) stop k

      pub all_found : (q : Registers) → whole_outcome (asked img (started_first_registers r n t)) ≡ outcome_answered (Ok q)
          → whole_outcome (asked img (beginning r m words)) ≡ outcome_answered (Ok (record { starting = t; regs = q }))
      all_found q k =
          ap whole_outcome (after_mark ∙ asked_on img (started_first_registers r n t) (λ (q : Registers). answer (record { starting = t; regs = q })) q k)

-- ---- the operator

module _ (code : Code) (r : Registers) (next : ℕ) (m : Mscw) (img : Image) where
  abbrev ends : Beginning → Program
  ends b = answer (change_start b.regs (first_words b.starting) (finished_at r m [] next))

  abbrev started_with : Starting → Registers → Program
  started_with t q = answer (change_start q (first_words t) (finished_at r m [] next))

  abbrev path : Starting → Test (Option Place)
  path t = on_path r.stack (t.home ∷ frames_with t.task (named_frames t.parameters)) (place r.stack (frame r))

  if_limit : (t : Starting) (q : Registers) (b : Bool) → asked img (cond b (started_with t q) (fault ProcessLimit)) ≡ asked img (cond b (answer q) (fault ProcessLimit) >>= started_with t)
  if_limit t q true = refl
  if_limit t q false = refl

  abbrev limited_start : Starting → ℕ → List (Option Place) → Option Place → Program
  limited_start t n display c = cond (nat_lt n most_processes) (started_with t (process_begun (n + 1) t display c)) (fault ProcessLimit)

  after_started : (t : Starting) (n : ℕ)
      → asked img (see (first_display (n + 1) t) >>= (λ (display : List (Option Place)). path t >>= (λ (c : Option Place). limited_start t n display c)))
      ≡ asked img ((started_first_registers r n t >>= (λ (q : Registers). answer (record { starting = t; regs = q }))) >>= ends)
  after_started t n =
      rebind img (see (first_display (n + 1) t)) (λ (display : List (Option Place)). path t >>= (λ (c : Option Place). limited_start t n display c))
      (λ (display : List (Option Place)). path t >>= (λ (c : Option Place). if_number n (process_begun (n + 1) t display c))) (started_with t)
      (λ (display : List (Option Place)). rebind img (path t) (λ (c : Option Place). limited_start t n display c)
      (λ (c : Option Place). if_number n (process_begun (n + 1) t display c)) (started_with t)
      (λ (c : Option Place). if_limit t (process_begun (n + 1) t display c) (nat_lt n most_processes)))
      ∙ rebind img (started_first_registers r n t) (started_with t) (λ (q : Registers). answer (record { starting = t; regs = q })) ends (λ (q : Registers). refl)

  start_is : (words : List Word) → asked img (start_process code r next m words) ≡ asked img (beginning r m words >>= ends)
  start_is words =
      rebind img (starting r words)
      (λ (t : Starting). if_chained r m (started (λ (n : ℕ). see (first_display (n + 1) t) >>= (λ (display : List (Option Place)). path t >>= (λ (c : Option Place). limited_start t n display c)))))
      (λ (t : Starting). see (mark_below r m) >>= (λ (lower : Mscw). started (λ (n : ℕ). started_first_registers r n t >>= (λ (q : Registers). answer (record { starting = t; regs = q }))))) ends
      (λ (t : Starting). rebind img (see (mark_below r m))
      (λ (lower : Mscw). started (λ (n : ℕ). see (first_display (n + 1) t) >>= (λ (display : List (Option Place)). path t >>= (λ (c : Option Place). limited_start t n display c))))
      (λ (lower : Mscw). started (λ (n : ℕ). started_first_registers r n t >>= (λ (q : Registers). answer (record { starting = t; regs = q })))) ends
      (λ (lower : Mscw). after_started t img.started))

  module _ (p : ℕ) where
    in_program : (new : Image) (res : Result ℕ Stop) → ProgramActs p (beginning r m (arguments img.stacks r) >>= ends) img new res → ProgramActs p (intrinsic_called start_process code r next m) img new res
    in_program new res x = record {
      outcome = ap (λ (e : Effect Change). limited (stack_length p) (effect_of p img e)) (start_is (arguments img.stacks r)) ∙ x.outcome;
      stays = x.stays;
    }

    pub is_stopped : (stop : Stop) → whole_outcome (asked img (beginning r m (arguments img.stacks r))) ≡ outcome_answered {A = Beginning} (Err stop)
        → Starts p (intrinsic_called start_process code r next m) img img (Err (Stopped stop))
    is_stopped stop e = in_program img (Err stop) (acts_stop p (beginning r m (arguments img.stacks r)) ends stop img img e refl)

    pub is_started : (b : Beginning) (mid new : Image) (n : ℕ) → whole_outcome (asked img (beginning r m (arguments img.stacks r))) ≡ outcome_answered (Ok b)
        → mid ≡ write_made p (writes.start b.regs (first_words b.starting)) img → ProgramActs {A = Unit {0}} p (answer (finished_at r m [] next)) mid new (Ok tt)
        → Starts p (intrinsic_called start_process code r next m) img new (Ok n)
    is_started b mid new n e f x =
        in_program new (Ok n) (acts_then p (beginning r m (arguments img.stacks r)) ends b img new (Ok n) e
        (record { outcome = (subst (λ (i : Image). ProgramActs {A = Unit {0}} p (answer (finished_at r m [] next)) i new (Ok tt)) f x).outcome; stays = tt }))

-- ---- the process that goes on

numbered_more : (xs : List Registers) (x y : Registers) (p : ℕ) → numbered xs p ≡ Some x → numbered (xs ++ y ∷ []) p ≡ Some x
numbered_more xs x y zero e = cc
numbered_more xs x y (suc k) e = go xs k e
  where
    go : (xs : List Registers) (k : ℕ) → slice_get xs k ≡ Some x → slice_get (xs ++ y ∷ []) k ≡ Some x
    go [] zero e = cc
    go [] (suc k) e = cc
    go (z ∷ zs) zero e = e
    go (z ∷ zs) (suc k) e = go zs k e

pub still_there : (xs ys : List Registers) (x y : Registers) (p : ℕ) → numbered xs p ≡ Some x → ys ≡ xs ++ y ∷ [] → numbered ys p ≡ Some x
still_there xs ys x y p e f = ap (λ (zs : List Registers). numbered zs p) f ∙ numbered_more xs x y p e

pub ready : (st : Stacks) (rows : Rows) (r : Registers) → IsLinked st rows r → IsReady st r
ready st rows r x = record { level = x.level; opened = x.opened; size = x.size; room = x.room }

-- a stack that is opened beside the process's own changes nothing for it
pub still_called : (st new : Stacks) (r : Registers) (n : ℕ) (ws : List Word) → IsReady st r → r.f + 2 ≤ r.s → r.stack ≢ n → new ≡ opened_at st n ws → IsCalled new (Some r)
still_called st new r n ws x h k e =
    let same : stack_at new r.stack ≡ stack_at st r.stack = ap (λ (z : Stacks). stack_at z r.stack) e ∙ opened_others st n r.stack ws k in
    (record { level = x.level; opened = ap is_some same ∙ x.opened; size = x.size ∙ sym (ap (λ (o : Option (List Word)). length (words_or o)) same); room = x.room }, h)

pub other_number : (st : Stacks) (r : Registers) (n : ℕ) → IsReady st r → stack_at st n ≡ None → r.stack ≢ n
other_number st r n x free e =
    let no : false ≡ true = sym (ap is_some free) ∙ ap (λ (k : ℕ). is_some (stack_at st k)) (sym e) ∙ x.opened in absurd cc

pub calling : (st : Stacks) (rows : Rows) (o : Option Registers) (r : Registers) → IsCalling st rows o → o ≡ Some r → IsLinked st rows r × (r.f + 2 ≤ r.s)
calling st rows o r x e = subst (IsCalling st rows) e x
