-- EXIT, RETN and GOTO keep an image valid.
use Rattle.std.proofs.Common.{◌≡◌, refl, sym, ap, subst, ◌∙◌, ℕ, zero, suc, ◌+◌, ◌-◌, ◌<◌, ◌≤◌, ◌^◌, ◌&&◌, not, Bool, true, false, ℤ, pos, negsuc, List, [], ◌∷◌, ◌++◌, length, take, drop, All, Some, None, Ok, Err, cond, arith}
use Rattle.std.specs.Prelude.{nat_eq, nat_le, nat_lt}
use Rattle.std.proofs.lemmas.Bool.{leb-true, eqb-true, eq-eqb, and_parts}
use Rattle.std.proofs.lemmas.List.Elements.{All-nil, All-cons}
use Rattle.std.proofs.Math.Seq.{take-length}
use Rattle.b67_list.specs.Numbered.{numbered, set_numbered}
use Rattle.b67_list.proofs.Truths.{not_both}
use Rattle.b67_word.specs.declared.Place.{Place}
use Rattle.b67_word.specs.Word.{Word, IsWord}
use Rattle.b67_control.specs.declared.Registers.{Registers}
use Rattle.b67_control.specs.declared.Mscw.{Mscw}
use Rattle.b67_segment.specs.declared.code.Code.{Code}
use Rattle.b67_store.specs.Store.{Stacks, words_of, with_stack}
use Rattle.b67_store.proofs.Cited.{put_there}
use Rattle.b67_table.specs.declared.Leaving.{Leaving}
use Rattle.b67_table.specs.declared.InterruptKind.TheVariants.{InvalidOperand}
use Rattle.b67_table.specs.Limits.{most_cells, segment_numbers, end_of_code}
use Rattle.b67_table.specs.Private.{at_or, display_at, frame, floor}
use Rattle.b67_table.specs.Look.{look_seen, valid}
use Rattle.b67_table.specs.Chains.{place, left_to, rebuilt}
use Rattle.b67_table.specs.References.{popped}
use Rattle.b67_table.specs.Image.{Image, with_registers, is_able, is_live}
use Rattle.b67_table.specs.Program.{asked, fault, Change, done, cut, registers, end_process, changed, Program}
use Rattle.b67_table.specs.Moves.{pushed}
use Rattle.b67_num.specs.declared.FaultKind.TheVariants.{CriticalBlockExit}
use Rattle.b67_table.specs.Questions.{live_criticals}
use Rattle.b67_table.specs.Linkage.{is_critical, if_not_critical, leaving, registers_left, caused_by, leave_base, leave_other, leave}
use Rattle.b67_table.specs.Arguments.{Three, three, argument_number_in}
use Rattle.b67_table.specs.GoingTo.{Passed, Passing, passing, passed_by, Target, level_in, target_of, frames_left, passed_frames, go_to}
use Rattle.b67_table.specs.Rows.{exit, is_result, return_value}
use Rattle.b67_table.specs.Valid.{IsHeld, IsFrame, IsProcess, IsValid}
use Rattle.b67_table.proofs.Keeping.{Gives}
use Rattle.b67_table.proofs.Finding.{Found, look_then, see_then, gives_by, there_found, found_by, anything_found}
use Rattle.b67_table.proofs.Chained.{IsBelow, left_found, Shows, rebuilt_found}
use Rattle.b67_table.proofs.Referring.{seen_held, popped_found}
use Rattle.b67_table.proofs.OwnValid.{opened, frame_stays}
use Rattle.b67_table.proofs.OwnStep.{Registered, cut_is, lower_valid}
use Rattle.b67_table.proofs.Simple.{Ends, ends_own, moved_valid}
use Rattle.b67_table.proofs.Closing.{same_self, Goes, frame_goes, caused_ends}

-- ---- the pointer only

pub pointed_valid : (code : Code) (i : Image) (p : ℕ) (r : Registers) → IsValid code i → is_live (numbered i.states p) ≡ true → numbered i.regs p ≡ Some r → (place : ℕ)
    → place < 2 ^ 16 → IsValid code (with_registers i p (record r { place = place }))
pointed_valid code i p r v live has place h =
    let own : IsProcess i p r = v.processes p r live has in
    let whole : take r.s (words_of i.stacks p) ++ [] ≡ words_of i.stacks p =
    nothing (take r.s (words_of i.stacks p)) ∙ ap (λ (n : ℕ). take n (words_of i.stacks p)) own.size ∙ take-length (words_of i.stacks p) in
    subst (λ (st : Stacks). IsValid code (record i { stacks = st; regs = set_numbered i.regs p (record r { place = place }) }))
    (ap (λ (ws : List Word). with_stack i.stacks p ws) whole ∙ put_there i.stacks p (words_of i.stacks p) (opened code i p r v live has))
    (moved_valid code i p r v live has r.s [] r.s r.f place (omega arith) own.above (All-nil IsWord) (omega arith) own.mark h own.room)
  where
    nothing : (xs : List Word) → xs ++ [] ≡ xs
    nothing [] = refl
    nothing (x ∷ xs) = ap (λ ys. x ∷ ys) (nothing xs)

module _ (code : Code) (img : Image) (p : ℕ) (r : Registers) (v : IsValid code img) (live : is_live (numbered img.states p) ≡ true)
    (has : numbered img.regs p ≡ Some r) (next : ℕ) (small : next < 2 ^ 16) where
  own : IsProcess img p r
  own = v.processes p r live has

  E : Change → Type 0
  E = Ends code img p

  frame_is : frame r ≡ own.frame
  frame_is = ap at_or own.own

  frame_small : frame r < 2 ^ 16
  frame_small = omega (arith, frame_is, (seen_held code img p r v live has r.ll (place p own.frame) own.own).displacement)

  stack_small : r.stack < 2 ^ 10
  stack_small = omega (arith, ap (λ (n : ℕ). n) own.stack, (seen_held code img p r v live has r.ll (place p own.frame) own.own).stack)

  critical_kept : (stack : ℕ) (frames : List ℕ) (more : Program) → Gives E (asked img more) → Gives E (asked img (if_not_critical stack frames more))
  critical_kept stack frames more k =
      gives_by img E (is_critical stack frames (live_criticals img.states img.regs)) (fault CriticalBlockExit) more (λ b. tt) (λ b. k)

  -- ---- a lower frame of the own stack is gone back to

  module _ (low n : ℕ) (more : List Word) (s : Registers) (f : IsFrame img (place r.stack low)) (below : low + 2 ≤ n) (within : n ≤ r.s)
      (are : All IsWord more) (k : Registered img p n more s) (same_frame : k.frame ≡ low) (e : s.critical ≡ r.critical) where
    back_goes : Goes code img p (cut r.stack n (pushed r.stack more (registers s done)))
    unfolding Goes
    back_goes i vi si =
        let live_i : is_live (numbered i.states p) ≡ true = ap (λ (xs : List _). is_live (numbered xs p)) si.states ∙ live in
        let has_i : numbered i.regs p ≡ Some r = ap (λ (rs : List Registers). numbered rs p) si.regs ∙ has in
        let words_i : words_of i.stacks p ≡ words_of img.stacks p = ap (λ (st : Stacks). words_of st p) si.stacks in
        let own_i : IsProcess i p r = vi.processes p r live_i has_i in
        ends_own code i p r vi live_i has_i (cut r.stack n (pushed r.stack more (registers s done))) (take n (words_of i.stacks p) ++ more) s
        (ap (λ (m : ℕ). changed p (cut m n (pushed m more (registers s done))) i) own.stack ∙ cut_is code i p r vi live_i has_i n more s)
        (λ room. lower_valid code i p r vi live_i has_i n more s (omega (arith, own_i.size, within)) are (record {
          stack = k.stack;
          size = k.size;
          display = k.display;
          frame = k.frame;
          own = k.own;
          above = k.above;
          mark = k.mark;
          cells = k.cells;
          segment = k.segment;
          pointer = k.pointer;
        }) room e (omega (arith, same_frame, below))
        (subst (λ (m : ℕ). IsFrame i (place p m)) (sym same_frame)
        (frame_stays img i (place p low) words_i (subst (λ (m : ℕ). IsFrame img (place m low)) own.stack f))))

  -- ---- leaving

  record IsLeaving (f : Place) (l : Leaving) : Type 0 where
    below : IsBelow img f l.below
    shows : Shows img (place f.stack l.below.frame) l.below.control.caller_level l.display

  leaving_found : (f : Place) → IsHeld f → Found (IsLeaving f) (look_seen img.stacks (leaving f))
  leaving_found f h =
      look_then img.stacks (IsBelow img f) (IsLeaving f) (left_to f) _ (left_found img f) (λ b i.
      look_then img.stacks (Shows img (place f.stack b.frame) b.control.caller_level) (IsLeaving f) (rebuilt (place f.stack b.frame) b.control.caller_level) _
      (rebuilt_found img (place f.stack b.frame) b.control.caller_level i.fits.1.1.1.0
      (record { stack = h.stack; displacement = omega (arith, i.apart, h.displacement) })) (λ d k. record { below = i; shows = k }))

  other_kept : (cells words : List Word) → All IsWord words → Gives E (asked img (leave_other r cells (frame r) words))
  unfolding E Goes
  other_kept cells words are =
      see_then img (IsLeaving (place r.stack (frame r))) E (leaving (place r.stack (frame r))) _
      (leaving_found (place r.stack (frame r)) (record { stack = stack_small; displacement = frame_small })) (λ l i.
      critical_kept r.stack (frame r ∷ []) _ (
      frame_goes code img p r.stack (frame r) cells
      (cut r.stack (frame r) (pushed r.stack words (registers (registers_left r (frame r + length words) (frame r) l) done)))
      (back_goes l.below.frame (frame r) words (registers_left r (frame r + length words) (frame r) l) i.below.frame (omega (arith, i.below.apart)) (omega (arith, own.above)) are
      (record {
        stack = own.stack;
        size = refl;
        display = i.shows.display_is;
        frame = l.below.frame;
        own = i.shows.names ∙ ap (λ (n : ℕ). Some (place n l.below.frame)) own.stack;
        above = omega (arith, ap at_or i.shows.names, i.below.apart);
        mark = omega (arith, i.below.mark, frame_small);
        cells = omega (arith, i.below.fits.1.1.1.1.0);
        segment = i.below.fits.0;
        pointer = omega (arith, i.below.fits.1.0, i.below.fits.1.1.0);
      }) refl refl) img v (same_self img)))

  base_kept : is_able (numbered img.states p) ≡ true → (cells : List Word) → Gives E (asked img (leave_base r cells next))
  unfolding E Goes Ends
  base_kept able cells =
      critical_kept r.stack (0 ∷ []) _ (
      frame_goes code img p r.stack 0 cells (registers (record r { place = next }) (caused_by r.task (end_process r.stack done))) (λ i vi si.
      let live_i : is_live (numbered i.states p) ≡ true = ap (λ (xs : List _). is_live (numbered xs p)) si.states ∙ live in
      let has_i : numbered i.regs p ≡ Some r = ap (λ (rs : List Registers). numbered rs p) si.regs ∙ has in
      caused_ends code (with_registers i p (record r { place = next })) p (pointed_valid code i p r vi live_i has_i next small)
      (ap (λ (xs : List _). is_able (numbered xs p)) si.states ∙ able) r.task r.stack own.stack) img v (same_self img))

  leave_kept : is_able (numbered img.states p) ≡ true → (words : List Word) → All IsWord words → Gives E (asked img (leave r next words))
  leave_kept able words are =
      gives_by img E (nat_eq (frame r) 0) _ _ (λ b. base_kept able _) (λ b. other_kept _ words are)

  pub exit_kept : is_able (numbered img.states p) ≡ true → Gives (Ends code img p) (asked img (exit r next))
  unfolding E
  exit_kept able = leave_kept able [] (All-nil IsWord)

  pub return_kept : is_able (numbered img.states p) ≡ true → Gives (Ends code img p) (asked img (return_value r next))
  unfolding E
  return_kept able =
      see_then img (λ (w : Word). IsWord w × (floor r + 1 ≤ r.s)) E (popped r) _ (popped_found code img p r v live has) (λ x i.
      gives_by img E (is_result x && not (nat_eq (frame r) 0)) _ _ (λ b. leave_kept able (x ∷ []) (All-cons IsWord x [] i.0 (All-nil IsWord))) (λ b. tt))

  -- ---- GOTO

  -- a frame of the own stack with so many cells
  record IsPassed (low cells : ℕ) : Type 0 where
    is : IsFrame img (place r.stack low)
    few : cells ≤ most_cells
    fits : low + 2 + cells ≤ r.s

  AtTarget : ℕ → Passing → Type 0
  AtTarget target q = IsPassed target q.cells

  passing_found : (steps target : ℕ) (here : Passed) → IsPassed here.frame here.cells → Found (AtTarget target) (look_seen img.stacks (passing steps r.stack target here))
  unfolding AtTarget
  passing_found zero target here k = tt
  passing_found (suc steps) target here k =
      found_by img.stacks (AtTarget target) (nat_eq here.frame target) _ _
      (λ b. subst (λ (n : ℕ). IsPassed n here.cells) (eqb-true here.frame target b) k)
      (λ b. found_by img.stacks (AtTarget target) (nat_lt here.frame target) _ _ (λ c. tt) (λ c.
      look_then img.stacks (IsBelow img (place r.stack here.frame)) (AtTarget target) (left_to (place r.stack here.frame)) _ (left_found img (place r.stack here.frame))
      (λ l i. look_then img.stacks (AtTarget target) (AtTarget target) (passing steps r.stack target (record { frame = l.frame; cells = l.control.caller_cells })) _
      (passing_found steps target (record { frame = l.frame; cells = l.control.caller_cells })
      (record { is = i.frame; few = omega (arith, i.fits.1.1.1.1.0); fits = omega (arith, i.apart, k.fits) })) (λ q j. j))))

  ByStack : Place → Passing → Type 0
  ByStack target q = target.stack ≡ r.stack → IsPassed target.at q.cells

  in_stack : (target : Place) (e : _) → Found (AtTarget target.at) e → Found (ByStack target) e
  unfolding AtTarget ByStack
  in_stack target (Ok q) k = λ s. k
  in_stack target (Err kind) k = tt

  passed_found : (target : Place) → Found (ByStack target) (look_seen img.stacks (passed_by r target))
  unfolding ByStack
  passed_found target =
      found_by img.stacks (ByStack target) (nat_eq target.stack r.stack) _ _
      (λ b. in_stack target _ (passing_found (frame r + 1) target.at (record { frame = frame r; cells = r.cells }) (record {
        is = subst (λ (m : ℕ). IsFrame img (place m (frame r))) (sym own.stack) (subst (λ (n : ℕ). IsFrame img (place p n)) (sym frame_is) own.is_frame);
        few = own.cells;
        fits = own.above;
      })))
      (λ b s. absurd (not_eq target.stack r.stack b s))
    where
      not_eq : (a b : ℕ) → nat_eq a b ≡ false → a ≡ b → ⊥
      not_eq a b e i = not_both (nat_eq a b) (eq-eqb a b i) e

  record IsTarget (t : Target) : Type 0 where
    level : t.level < 32
    held : IsHeld t.frame
    segment : t.segment < segment_numbers
    pointer : t.pointer < 2 ^ 16

  pub number_by : (z : ℤ) (most n : ℕ) → argument_number_in z most ≡ Some n → n ≤ most
  number_by (pos k) most n e = by_test (nat_le k most) refl e
    where
      by_test : (b : Bool) → nat_le k most ≡ b → cond b (Some k) None ≡ Some n → n ≤ most
      by_test true i j = let same : k ≡ n = cc in subst (λ (m : ℕ). m ≤ most) same (leb-true k most i)
      by_test false i j = cc
  number_by (negsuc k) most n e = cc

  level_by : (z : ℤ) (n : ℕ) → level_in r z ≡ Some n → n ≤ r.ll
  level_by (pos k) n e = by_test (nat_le 2 k && nat_le k r.ll) refl e
    where
      by_test : (b : Bool) → nat_le 2 k && nat_le k r.ll ≡ b → cond b (Some k) None ≡ Some n → n ≤ r.ll
      by_test true i j =
          let same : k ≡ n = cc in subst (λ (m : ℕ). m ≤ r.ll) same (leb-true k r.ll (and_parts (nat_le 2 k) (nat_le k r.ll) i).1)
      by_test false i j = cc
  level_by (negsuc k) n e = cc

  target_found : (t : Three) → Found IsTarget (look_seen img.stacks (target_of r t))
  target_found t =
      look_then img.stacks (λ (n : ℕ). n ≤ r.ll) IsTarget (valid (level_in r t.first)) _
      (there_found img.stacks (λ (n : ℕ). n ≤ r.ll) InvalidOperand (level_in r t.first) (level_by t.first)) (λ level i.
      look_then img.stacks IsHeld IsTarget (valid (display_at r level)) _
      (there_found img.stacks IsHeld InvalidOperand (display_at r level) (seen_held code img p r v live has level)) (λ f j.
      look_then img.stacks (λ (n : ℕ). n ≤ segment_numbers - 1) IsTarget (valid (argument_number_in t.second (segment_numbers - 1))) _
      (there_found img.stacks (λ (n : ℕ). n ≤ segment_numbers - 1) InvalidOperand (argument_number_in t.second (segment_numbers - 1))
      (number_by t.second (segment_numbers - 1))) (λ segment k.
      look_then img.stacks (λ (n : ℕ). n ≤ end_of_code) IsTarget (valid (argument_number_in t.third end_of_code)) _
      (there_found img.stacks (λ (n : ℕ). n ≤ end_of_code) InvalidOperand (argument_number_in t.third end_of_code) (number_by t.third end_of_code)) (λ pointer l.
      record { level = omega (arith, i, own.display.known); held = j; segment = omega (arith, k); pointer = omega (arith, l) }))))

  frames_go : (words : List Word) (fs : List Passed) (next : Change) → Goes code img p next → Goes code img p (frames_left r.stack words fs next)
  frames_go words [] next k = k
  frames_go words (f ∷ fs) next k = frame_goes code img p r.stack f.frame (take f.cells (drop (f.frame + 2) words)) (frames_left r.stack words fs next) (frames_go words fs next k)

  three_found : (words : List Word) → Found (λ (t : Three). Unit {0}) (look_seen img.stacks (three words))
  three_found words = anything_found (look_seen img.stacks (three words))

  pub go_to_kept : (m : Mscw) (words : List Word) → Gives (Ends code img p) (asked img (go_to code r next m words))
  unfolding E ByStack Goes
  go_to_kept m words =
      see_then img (λ (t : Three). Unit {0}) E (three words) _ (three_found words) (λ z u.
      see_then img IsTarget E (target_of r z) _ (target_found z) (λ t i.
      see_then img (ByStack t.frame) E (passed_by r t.frame) _ (passed_found t.frame) (λ q j.
      see_then img (Shows img t.frame t.level) E (rebuilt t.frame t.level) _ (rebuilt_found img t.frame t.level i.level i.held) (λ display k.
      gives_by img E (nat_eq t.frame.stack r.stack) _ _ (λ b.
      critical_kept r.stack (passed_frames q.frames) _ (
      let same : t.frame.stack ≡ r.stack = eqb-true t.frame.stack r.stack b in
      let x : IsPassed t.frame.at q.cells = j same in
      let new : Registers = record r { s = t.frame.at + 2 + q.cells; f = t.frame.at; ll = t.level; display = display; cells = q.cells; segment = t.segment; place = t.pointer } in
      frames_go _ q.frames (cut r.stack (t.frame.at + 2 + q.cells) (registers new done))
      (back_goes t.frame.at (t.frame.at + 2 + q.cells) [] new x.is (omega arith) x.fits (All-nil IsWord)
      (record {
        stack = own.stack;
        size = omega arith;
        display = k.display_is;
        frame = t.frame.at;
        own = k.names ∙ ap (λ (n : ℕ). Some (place n t.frame.at)) (same ∙ own.stack);
        above = omega (arith, ap at_or k.names);
        mark = i.held.displacement;
        cells = x.few;
        segment = i.segment;
        pointer = i.pointer;
      }) refl refl) img v (same_self img))) (λ b. tt)))))
