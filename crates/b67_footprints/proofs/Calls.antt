-- The intrinsics that neither make arrays nor start a process keep to what they reach.
use Rattle.std.proofs.Common.{◌≡◌, refl, inl, subst, ℕ, zero, suc, ◌+◌, ◌-◌, ◌*◌, ◌+ℤ◌, ◌≤◌, ℤ, pos, negsuc, List, [], ◌∷◌, Option, Some, None, Bool, true, false, cond, take, drop}
use Rattle.std.specs.Prelude.{◌&&◌, nat_le, nat_eq, nat_lt, length, if◌then◌else◌}
use Rattle.std.proofs.lemmas.Bool.{leb-true}
use Rattle.b67_word.specs.declared.Place.{Place}
use Rattle.b67_word.specs.Word.{Word, operand, truth}
use Rattle.b67_control.specs.declared.Registers.{Registers}
use Rattle.b67_control.specs.declared.Mscw.{Mscw}
use Rattle.b67_control.specs.Control.{as_event, event_word}
use Rattle.b67_ops.specs.declared.Operator.{Operator}
use Rattle.b67_segment.specs.declared.code.Code.{Code}
use Rattle.b67_store.specs.Store.{words_of}
use Rattle.b67_deeds.specs.declared.EventTest.{EventTest}
use Rattle.b67_deeds.specs.Deeds.{EventDeed, tests, answers}
use Rattle.b67_events.specs.Events.{is_open, state_at, first_event_happened}
use Rattle.b67_table.specs.declared.Cell.{Cell}
use Rattle.b67_table.specs.declared.InterruptKind.TheVariants.{InvalidOperand}
use Rattle.b67_table.specs.Image.{Image, woken_number}
use Rattle.b67_table.specs.Limits.{end_of_code, segment_numbers, most_events}
use Rattle.b67_table.specs.Private.{display_at, frame}
use Rattle.b67_table.specs.Chains.{place, chain_broken, mark_at, left_to, rebuilt}
use Rattle.b67_table.specs.Look.{Look, found, ◌>->◌, valid}
use Rattle.b67_table.specs.References.{cell_place, cell_of, reached}
use Rattle.b67_table.specs.Writes.{write_made}
use Rattle.b67_table.specs.Writes as writes
use Rattle.b67_table.specs.Program.{Change, Program, answer, ◌>>=◌, done, registers, cut, event_deed, woken, loads, fault}
use Rattle.b67_table.specs.Arguments.{wholes_in, wholes, argument_number_in, if_open, reached_event_in, event_of, events_of, no_such, if_chained, finished_at, Three, three_in, three}
use Rattle.b67_table.specs.Intrinsics.{case_in, case_place, gone_to_case, select, write, make_event, on_event, tell_event, gone_or_waiting, woken_or_not, wait_for_any}
use Rattle.b67_table.specs.Lines.{line_for}
use Rattle.b67_table.specs.Linkage.{if_not_critical}
use Rattle.b67_table.specs.GoingTo.{Passed, Passing, passing, passed_by, Target, level_in, target_of, frames_left, passed_frames, gone_to, go_to}
use Rattle.b67_footprints.specs.Reaching.{OperatorFollows, NamesCell, OperatorLeadsTo, own, shown}
use Rattle.b67_footprints.specs.Keeping.{ReachesAll, TestKeeps, ChangeKeeps, ProgramKeeps}
use Rattle.b67_footprints.proofs.Lists.{Each, each_take, each_drop}
use Rattle.b67_footprints.proofs.Going.{Any, LookKeeps, look_then, see_then, test_then, look_by, test_by, look_there}
use Rattle.b67_footprints.proofs.References.{IsReached, reached_kept, valid_kept, IsDescribed}
use Rattle.b67_footprints.proofs.Chains.{any_mark_kept, rebuilt_kept, LeadsBelow, left_to_kept}
use Rattle.b67_footprints.proofs.Changes.{Keeps, finished_kept, MayFollow, fewer_now, frame_follows, taken_described}
use Rattle.b67_footprints.proofs.Operators.{not_critical_kept}

-- the levels to which GO TO goes
level_is : (r : Registers) (z : ℤ) (level : ℕ) → level_in r z ≡ Some level → (2 ≤ level) × (level ≤ r.ll)
level_is r (negsuc n) level e = cc
level_is r (pos n) level e = by_tests (nat_le 2 n) (nat_le n r.ll) refl refl e
  where
    by_tests : (a b : Bool) → nat_le 2 n ≡ a → nat_le n r.ll ≡ b → cond (a && b) (Some n) None ≡ Some level → (2 ≤ level) × (level ≤ r.ll)
    by_tests true true i j f =
        let same : n ≡ level = cc in
        (subst (λ (k : ℕ). 2 ≤ k) same (leb-true 2 n i), subst (λ (k : ℕ). k ≤ r.ll) same (leb-true n r.ll j))
    by_tests true false i j f = cc
    by_tests false b i j f = cc

module _ (img : Image) (op : Operator) (r : Registers) (p : ℕ) where
  abbrev E : Change → Type 0
  E change = ChangeKeeps img op r p change img

  -- a mark stands below the one at F
  pub chained_kept : (m : Mscw) (more : Program) → ProgramKeeps img op r p more → ProgramKeeps img op r p (if_chained r m more)
  chained_kept m more k =
      see_then img op r Any E (cond (nat_le m.df r.f) (mark_at (place r.stack (r.f - m.df))) chain_broken) (λ (lower : Mscw). more)
      (look_by img op r Any (nat_le m.df r.f) (mark_at (place r.stack (r.f - m.df))) chain_broken (any_mark_kept img op r (place r.stack (r.f - m.df)) (own refl)) tt)
      (λ lower t. k)

  -- ---- whole numbers

  pub wholes_then : {A : Type 0} (P : A → Type 0) (words : List Word) (f : List ℤ → Look A) → ((zs : List ℤ) → LookKeeps img op r P (f zs))
      → LookKeeps img op r P (wholes words >-> f)
  wholes_then P words f k = look_then img op r (λ (zs : List ℤ). wholes_in words ≡ Some zs) P (wholes words) f (valid_kept img op r (wholes_in words)) (λ zs e. k zs)

  three_in_kept : (zs : List ℤ) → LookKeeps img op r Any (three_in zs)
  three_in_kept [] = tt
  three_in_kept (a ∷ []) = tt
  three_in_kept (a ∷ b ∷ []) = tt
  three_in_kept (a ∷ b ∷ c ∷ []) = tt
  three_in_kept (a ∷ b ∷ c ∷ d ∷ zs) = tt

  three_kept : (words : List Word) → LookKeeps img op r Any (three words)
  three_kept words = wholes_then Any words three_in three_in_kept

  any_valid : {A : Type 0} (o : Option A) → LookKeeps img op r Any (valid o)
  any_valid o = look_there img op r Any InvalidOperand o (λ a e. tt)

  -- ---- events

  -- the words are arguments: the cells that they name are named by the operator
  abbrev pub IsArgument : Word → Type 0
  IsArgument w = (c : Cell) → cell_of r w ≡ Some c → NamesCell img op r c

  if_open_kept : (b : Bool) (c : Cell) → NamesCell img op r c → TestKeeps img op r (NamesCell img op r) (if_open b c)
  if_open_kept true c i = i
  if_open_kept false c i = tt

  pub event_of_kept : OperatorFollows op → (w : Word) → IsArgument w → TestKeeps img op r (NamesCell img op r) (event_of r w)
  event_of_kept follows w i =
      see_then img op r (IsReached img op r) (NamesCell img op r) (reached (cell_of r w)) reached_event_in (reached_kept img op r follows (cell_of r w) i) (λ v k.
      see_then img op r Any (NamesCell img op r) (valid (as_event v.word)) _ (any_valid (as_event v.word)) (λ e t.
      (inl (v.cell, k.names, refl), if_open_kept (is_open (cell_place v.cell) img.events) v.cell k.names)))

  module _ (follows : OperatorFollows op) (code : Code) (next : ℕ) (m : Mscw) where
    end_kept : (words : List Word) (pointer : ℕ) (now : Image) → Keeps img op r p (finished_at r m words pointer) now
    end_kept words pointer now = finished_kept img op r p m words pointer now

    -- ---- SELECT, WRITE

    case_place_kept : (first : ℤ) (o : Option ℕ) → LookKeeps img op r Any (case_place first o)
    case_place_kept first None = tt
    case_place_kept first (Some n) =
        look_then img op r Any Any (valid (argument_number_in (first +ℤ pos (3 * n)) end_of_code)) _ (any_valid (argument_number_in (first +ℤ pos (3 * n)) end_of_code)) (λ to t. tt)

    case_kept : (o : Option ℕ) → ProgramKeeps img op r p (gone_to_case r m o)
    case_kept None = tt
    case_kept (Some to) = end_kept [] to img

    pub select_kept : (words : List Word) → ProgramKeeps img op r p (select code r next m words)
    select_kept words =
        see_then img op r Any E (three words) _ (three_kept words) (λ z t.
        see_then img op r Any E (case_place z.third (case_in z.first z.second)) _ (case_place_kept z.third (case_in z.first z.second)) (λ to u.
        chained_kept m (gone_to_case r m to) (case_kept to)))

    pub write_kept : (words : List Word) → ProgramKeeps img op r p (write code r next m words)
    write_kept words =
        see_then img op r Any E (wholes words >-> (λ (zs : List ℤ). valid (line_for code zs))) _
        (wholes_then Any words (λ (zs : List ℤ). valid (line_for code zs)) (λ zs. any_valid (line_for code zs))) (λ bytes t.
        chained_kept m _ (tt, end_kept [] next (write_made p (writes.line bytes) img)))

    -- ---- events

    pub make_event_kept : (words : List Word) → ProgramKeeps img op r p (make_event code r next m words)
    make_event_kept [] = chained_kept m _ (refl, end_kept (event_word (record {}) ∷ []) next (write_made p (writes.open_event (place r.stack r.f)) img))
    make_event_kept (w ∷ words) = tt

    pub tell_event_kept : (x : EventTest) (words : List Word) → Each IsArgument words → ProgramKeeps img op r p (tell_event x code r next m words)
    tell_event_kept x [] i = tt
    tell_event_kept x (w ∷ []) i =
        test_then img op r (NamesCell img op r) E (event_of r w) _ (event_of_kept follows w i.0) (λ c k.
        chained_kept m _ (
          inl (c, k, refl),
          (
            inl (c, k, refl),
            end_kept (truth (answers x (state_at (cell_place c) img.events)) ∷ []) next (write_made p (writes.event_deed (tests x) (cell_place c)) img),
          ),
        ))
    tell_event_kept x (w ∷ v ∷ words) i = tt

    pub on_event_kept : (x : EventDeed) (words : List Word) → Each IsArgument words → ProgramKeeps img op r p (on_event x code r next m words)
    on_event_kept x [] i = tt
    on_event_kept x (w ∷ []) i =
        test_then img op r (NamesCell img op r) E (event_of r w) _ (event_of_kept follows w i.0) (λ c k.
        chained_kept m (answer (event_deed x (cell_place c) (finished_at r m [] next))) (inl (c, k, refl), end_kept [] next (write_made p (writes.event_deed x (cell_place c)) img)))
    on_event_kept x (w ∷ v ∷ words) i = tt

    -- ---- several events

    events_of_kept : (words : List Word) → Each IsArgument words → TestKeeps img op r (ReachesAll img op r) (events_of r words)
    events_of_kept [] i = tt
    events_of_kept (w ∷ words) i =
        test_then img op r (NamesCell img op r) (ReachesAll img op r) (event_of r w) _ (event_of_kept follows w i.0) (λ c k.
        test_then img op r (ReachesAll img op r) (ReachesAll img op r) (events_of r words) _ (events_of_kept words i.1) (λ places ks. (inl (c, k, refl), ks)))

    waits_kept : (places : List Place) → ReachesAll img op r places → (n : ℕ) → ProgramKeeps img op r p (woken_or_not r next m places n)
    waits_kept places ks (suc n) = (tt, end_kept (operand (pos (suc n)) ∷ []) next (write_made p writes.go_on img))
    waits_kept places ks zero = (ks, by (first_event_happened places img.events))
      where
        by : (o : Option ℕ) → ProgramKeeps img op r p (gone_or_waiting r next m places o)
        by None = (ks, tt)
        by (Some n) = end_kept (operand (pos n) ∷ []) next img

    pub wait_for_any_kept : (words : List Word) → Each IsArgument words → ProgramKeeps img op r p (wait_for_any code r next m words)
    wait_for_any_kept words i = by (nat_le 1 (length words) && nat_le (length words) most_events)
      where
        several : ProgramKeeps img op r p (events_of r words >>= (λ (places : List Place). if_chained r m (woken r.stack (woken_or_not r next m places))))
        several =
            test_then img op r (ReachesAll img op r) E (events_of r words) _ (events_of_kept words i) (λ places ks.
            chained_kept m _ (refl, waits_kept places ks (woken_number img.numbers r.stack)))

        by : (b : Bool) → ProgramKeeps img op r p (if b then (events_of r words >>= (λ (places : List Place). if_chained r m (woken r.stack (woken_or_not r next m places)))) else no_such)
        by true = several
        by false = tt

    -- ---- GO TO

    passing_kept : (steps target : ℕ) (here : Passed) → LookKeeps img op r Any (passing steps r.stack target here)
    passing_kept zero target here = tt
    passing_kept (suc steps) target here =
        look_by img op r Any (nat_eq here.frame target) (found (record { frames = []; cells = here.cells })) _ tt
        (look_by img op r Any (nat_lt here.frame target) chain_broken _ tt
        (look_then img op r (LeadsBelow img op r (place r.stack here.frame)) Any (left_to (place r.stack here.frame)) _
        (left_to_kept img op r (place r.stack here.frame) (own refl)) (λ b i.
        look_then img op r Any Any (passing steps r.stack target (record { frame = b.frame; cells = b.control.caller_cells })) _
        (passing_kept steps target (record { frame = b.frame; cells = b.control.caller_cells })) (λ q t. tt))))

    passed_by_kept : (target : Place) → LookKeeps img op r Any (passed_by r target)
    passed_by_kept target =
        look_by img op r Any (nat_eq target.stack r.stack) (passing (frame r + 1) r.stack target.at (record { frame = frame r; cells = r.cells })) _
        (passing_kept (frame r + 1) target.at (record { frame = frame r; cells = r.cells })) tt

    -- the display leads to the target
    abbrev IsShown : Target → Type 0
    IsShown t = OperatorLeadsTo img op r t.frame

    target_kept : (z : Three) → LookKeeps img op r IsShown (target_of r z)
    target_kept z =
        look_then img op r (λ (level : ℕ). level_in r z.first ≡ Some level) IsShown (valid (level_in r z.first)) _ (valid_kept img op r (level_in r z.first)) (λ level t.
        look_then img op r (λ (f : Place). display_at r level ≡ Some f) IsShown (valid (display_at r level)) _ (valid_kept img op r (display_at r level)) (λ f e.
        look_then img op r Any IsShown (valid (argument_number_in z.second (segment_numbers - 1))) _ (any_valid (argument_number_in z.second (segment_numbers - 1))) (λ segment u.
        look_then img op r Any IsShown (valid (argument_number_in z.third end_of_code)) _ (any_valid (argument_number_in z.third end_of_code)) (λ pointer v. let known = level_is r z.first level t in shown level known.0 known.1 e))))

    frames_follow : (words : List Word) (fs : List Passed) (more : Change) → ((n from : ℕ) → Each (IsDescribed img op r) (take n (drop from words)))
        → MayFollow img op r p more → MayFollow img op r p (frames_left r.stack words fs more)
    frames_follow words [] more i k = k
    frames_follow words (f ∷ fs) more i k =
        frame_follows img op r p f.frame (take f.cells (drop (f.frame + 2) words)) (frames_left r.stack words fs more) (i f.cells (f.frame + 2))
        (frames_follow words fs more i k)

    gone_kept : (t : Target) (q : Passing) (display : List (Option Place)) (words : List Word) → ((n from : ℕ) → Each (IsDescribed img op r) (take n (drop from words)))
        → E (gone_to r t q display words)
    gone_kept t q display words i =
        frames_follow words q.frames (cut r.stack (t.frame.at + 2 + q.cells) (registers _ done)) i (λ now few. (refl, (refl, tt))) img (fewer_now img op r p)

    pub go_to_kept : (words : List Word) → ProgramKeeps img op r p (go_to code r next m words)
    go_to_kept words =
        see_then img op r Any E (three words) _ (three_kept words) (λ z u.
        see_then img op r IsShown E (target_of r z) _ (target_kept z) (λ t i.
        see_then img op r Any E (passed_by r t.frame) _ (passed_by_kept t.frame) (λ q v.
        see_then img op r Any E (rebuilt t.frame t.level) _ (rebuilt_kept img op r t.frame t.level i) (λ display w.
        test_by img op r E (nat_eq t.frame.stack r.stack) (if_not_critical_more t q display) (fault _) (left_kept t q display) tt))))
      where
        if_not_critical_more : Target → Passing → List (Option Place) → Program
        if_not_critical_more t q display =
            if_not_critical r.stack (passed_frames q.frames) (loads (place r.stack 0) r.s (λ (stack : List Word). answer (gone_to r t q display stack)))

        own_taken : (n from : ℕ) → Each (IsDescribed img op r) (take n (drop from (take r.s (drop 0 (words_of img.stacks r.stack)))))
        own_taken n from =
            each_take (IsDescribed img op r) n (drop from (take r.s (drop 0 (words_of img.stacks r.stack))))
            (each_drop (IsDescribed img op r) from (take r.s (drop 0 (words_of img.stacks r.stack))) (taken_described img op r p r.s 0))

        left_kept : (t : Target) (q : Passing) (display : List (Option Place)) → ProgramKeeps img op r p (if_not_critical_more t q display)
        left_kept t q display =
            not_critical_kept img op r p next (passed_frames q.frames) (loads (place r.stack 0) r.s (λ (stack : List Word). answer (gone_to r t q display stack)))
            (refl, gone_kept t q display (take r.s (drop 0 (words_of img.stacks r.stack))) (λ n from. own_taken n from))
