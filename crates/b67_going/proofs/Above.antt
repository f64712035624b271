-- What GOTO makes of an image.
use Rattle.std.specs.Result.{IsErrAnd}
use Rattle.std.proofs.Common.{◌≡◌, refl, sym, ap, subst, ◌∙◌, ℕ, ◌+◌, ◌≤◌, Bool, List, [], ◌∷◌, take, length, Option, Some, Result, Ok, Err, cond}
use Rattle.std.specs.Prelude.{nat_le}
use Rattle.std.proofs.lemmas.Bool.{le-leb}
use Rattle.b67_list.specs.Numbered.{numbered}
use Rattle.b67_word.specs.declared.Place.{Place}
use Rattle.b67_word.specs.Word.{Word}
use Rattle.b67_control.specs.declared.Mscw.{Mscw}
use Rattle.b67_control.specs.declared.Registers.{Registers}
use Rattle.b67_events.specs.Events.{Event, closed_from}
use Rattle.b67_segment.specs.declared.code.Code.{Code}
use Rattle.b67_store.specs.Store.{Stacks, Rows, words_of, with_cut, stack_limit}
use Rattle.b67_table.specs.declared.InterruptKind.{InterruptKind}
use Rattle.b67_table.specs.Arguments.{Three, three}
use Rattle.b67_table.specs.Chains.{place}
use Rattle.b67_table.specs.Effect.{Effect}
use Rattle.b67_table.specs.GoingTo.{Passed, Passing, target_of, frames_left, gone_to, go_to}
use Rattle.b67_table.specs.GoingTo as going
use Rattle.b67_table.specs.Image.{Image, with_events}
use Rattle.b67_table.specs.Look.{look_seen}
use Rattle.b67_table.specs.Outcome.{limited, gives, limit}
use Rattle.b67_table.specs.Private.{display_at, at_or}
use Rattle.b67_table.specs.Program.{answer, asked, see, ◌>>=◌, loads, Change, done, changed, cut, registers, close_events, Program, effect_of}
use Rattle.b67_table.specs.Table.{stack_length, length_in}
use Rattle.b67_linkage.specs.Closing.{without_arrays, without_frames, cells_in_frame}
use Rattle.b67_linkage.specs.Entering.{after_look}
use Rattle.b67_linkage.specs.Held.{HeldCore, held}
use Rattle.b67_linkage.specs.Leaving.{Cutting, cutting, cut_down, cuts, frame_at}
use Rattle.b67_linkage.proofs.Closes.{closes_as_the_table}
use Rattle.b67_linkage.proofs.Entered.{outcome_of, within}
use Rattle.b67_reach.specs.declared.Stop.{Stop}
use Rattle.b67_reach.specs.Images.{own_of_image, with_own}
use Rattle.b67_reach.specs.Answers.{looked, ProgramActs}
use Rattle.b67_reach.proofs.Looking.{asked_on}
use Rattle.b67_intrinsics.specs.Called.{arguments, intrinsic_called}
use Rattle.b67_going.specs.declared.targets.Target.{Target}
use Rattle.b67_going.specs.Leaves.{without_events}
use Rattle.b67_going.specs.Targets.{tabled, target_in, named_target, route}
use Rattle.b67_going.proofs.Started.{see_then, sees}

-- ---- frames that are left

frames_are : (p stack : ℕ) (words : List Word) (fs : List Passed) (next : Change) (img : Image)
    → changed p (frames_left stack words fs next) img
    ≡ changed p next (record img { rows = without_frames words fs img.rows; events = without_events stack fs img.events })
frames_are p stack words [] next img = refl
frames_are p stack words (f ∷ fs) next img =
    closes_as_the_table p (cells_in_frame words f.frame f.cells) (close_events stack f.frame (frames_left stack words fs next)) img
    ∙ frames_are p stack words fs next (record img { rows = without_arrays (cells_in_frame words f.frame f.cells) img.rows; events = closed_from stack f.frame img.events })

-- the frame of a level in the process's own stack
own_frame : (r : Registers) (level : ℕ) (f : Place) → display_at r level ≡ Some f → f.stack ≡ r.stack → f ≡ frame_at r level
own_frame r level f e g =
    ap (λ (n : ℕ). place n f.at) g ∙ ap (λ (o : Option Place). place r.stack (at_or o)) (sym e)

module _ (st : Stacks) (rows : Rows) (r : Registers) (t : going.Target) (c : Cutting) where
  abbrev h : HeldCore
  h = held st rows r

  module _ (e : display_at r t.level ≡ Some t.frame) (g : t.frame.stack ≡ r.stack) (f : look_seen st (cutting r t.frame t.level) ≡ Ok c)
      (low : t.frame.at + 2 + c.passing.cells ≤ stack_limit) where
    at_is : t.frame.at ≡ at_or (display_at r t.level)
    at_is = ap at_or (sym e)

    cut_is : outcome_of (cuts h t.level) ≡ gives (cut_down h t.level c)
    cut_is =
        ap (λ (x : Result Cutting InterruptKind). outcome_of (after_look x (cut_down h t.level)))
        (ap (λ (x : Place). look_seen st (cutting r x t.level)) (sym (own_frame r t.level t.frame e g)) ∙ f)
        ∙ within (cut_down h t.level c) (subst (λ (n : ℕ). n + 2 + c.passing.cells ≤ stack_limit) at_is low)

    after_is : (after : HeldCore) → outcome_of (cuts h t.level) ≡ gives after → cut_down h t.level c ≡ after
    after_is after k = let both : gives (cut_down h t.level c) ≡ gives after = sym cut_is ∙ k in cc

    abbrev in_target : HeldCore → Registers
    in_target after = record after.regs { segment = t.segment; place = t.pointer }

    pub changes : (after : HeldCore) (events less : List Event) (p : ℕ) (img : Image) → outcome_of (cuts h t.level) ≡ gives after
        → without_events r.stack c.passing.frames events ≡ less → img.stacks ≡ st → img.rows ≡ rows → img.events ≡ events
        → changed p (gone_to r t c.passing c.display (words_of st r.stack)) img ≡ with_events (with_own (own_of_image after.stacks after.rows (in_target after)) p img) less
    changes after events less p img k l s u v =
        let words = words_of st r.stack in
        let fs = c.passing.frames in
        let end : ℕ → Registers = λ n. record r { s = n + 2 + c.passing.cells; f = n; ll = t.level; display = c.display; cells = c.passing.cells; segment = t.segment; place = t.pointer } in
        let new : Stacks → Rows → List Event → ℕ → Image = λ z y x n. with_events (with_own (own_of_image (with_cut z r.stack (n + 2 + c.passing.cells)) (without_frames words fs y) (end n)) p img) (without_events r.stack fs x) in
        frames_are p r.stack words fs (cut r.stack (t.frame.at + 2 + c.passing.cells) (registers (end t.frame.at) done)) img
        ∙ ap (λ (z : Stacks). new z img.rows img.events t.frame.at) s
        ∙ ap (λ (z : Rows). new st z img.events t.frame.at) u
        ∙ ap (λ (z : List Event). new st rows z t.frame.at) v
        ∙ ap (λ (n : ℕ). new st rows events n) at_is
        ∙ ap (λ (z : HeldCore). with_events (with_own (own_of_image z.stacks z.rows (in_target z)) p img) (without_events r.stack fs events)) (after_is after k)
        ∙ ap (λ (z : List Event). with_events (with_own (own_of_image after.stacks after.rows (in_target after)) p img) z) l

-- ---- the operator

pub target_was : (y : Result going.Target InterruptKind) (t : Target) → Ok t ≡ looked (target_in y) → Ok (tabled t) ≡ looked y
target_was (Ok x) t e = let is : t ≡ record { frame = x.frame; level = x.level; segment = x.segment; pointer = x.pointer } = cc in ap (λ (z : Target). Ok (tabled z)) is
target_was (Err kind) t e = absurd cc

pub acts_exit : {A : Type 0} (p : ℕ) (program : Program) (img : Image) (res : Result A Stop) (stop : Stop) → IsErrAnd res (λ s. s ≡ stop)
    → ProgramActs {A = A} p program img img (Err stop) → ProgramActs p program img img res
acts_exit p program img (Ok a) stop i x = absurd i
acts_exit {A = A} p program img (Err other) stop i x = subst (λ (s : Stop). ProgramActs {A = A} p program img img (Err s)) (sym i) x

taken_whole : (ws : List Word) (n : ℕ) → n ≡ length ws → take n ws ≡ ws
taken_whole ws n e = ap (λ (k : ℕ). take k ws) e ∙ all ws
  where
    all : (ws : List Word) → take (length ws) ws ≡ ws
    all [] = refl
    all (w ∷ ws) = ap (λ (z : List Word). w ∷ z) (all ws)

module _ (code : Code) (r : Registers) (next : ℕ) (m : Mscw) (img : Image) (p : ℕ) where
  abbrev all_left : going.Target → Passing → List (Option Place) → Program
  all_left t q d = loads (place r.stack 0) r.s (λ (stack : List Word). answer (gone_to r t q d stack))

  abbrev on_route : going.Target → Program
  on_route t = route r t (λ (q : Passing) (d : List (Option Place)). all_left t q d)

  abbrev words : List Word
  words = arguments img.stacks r

  as_route : asked img (go_to code r next m words) ≡ asked img (see (named_target r words) >>= on_route)
  as_route = sym (see_then img (three words) (λ (z : Three). target_of r z) on_route)

  by_route : (new : Image) (res : Result (Unit {0}) Stop) → ProgramActs p (see (named_target r words) >>= on_route) img new res → ProgramActs p (intrinsic_called go_to code r next m) img new res
  by_route new res x = record { outcome = ap (λ (e : Effect Change). limited (stack_length p) (effect_of p img e)) as_route ∙ x.outcome; stays = x.stays }

  module _ (t : going.Target) (e : Ok t ≡ looked (look_seen img.stacks (named_target r words))) where
    to_target : asked img (see (named_target r words) >>= on_route) ≡ asked img (on_route t)
    to_target = asked_on img (see (named_target r words)) on_route t (sees img (named_target r words) img.stacks (Ok t) refl e)

    pub way_stops : (stop : Stop) → ProgramActs {A = Unit {0}} p (on_route t) img img (Err stop) → ProgramActs {A = Unit {0}} p (intrinsic_called go_to code r next m) img img (Err stop)
    way_stops stop x =
        by_route img (Err stop) (record { outcome = ap (λ (e : Effect Change). limited (stack_length p) (effect_of p img e)) to_target ∙ x.outcome; stays = x.stays })

    pub goes : (c : Cutting) (new : Image) (q : Registers)
        → ((f : Passing → List (Option Place) → Program) → asked img (route r t f) ≡ asked img (f c.passing c.display))
        → r.s ≡ length (words_of img.stacks r.stack)
        → changed p (gone_to r t c.passing c.display (words_of img.stacks r.stack)) img ≡ new
        → numbered new.regs p ≡ Some q → q.s ≤ stack_limit
        → ProgramActs {A = Unit {0}} p (intrinsic_called go_to code r next m) img new (Ok tt)
    goes c new q on size is there short =
        by_route new (Ok tt) (record {
          outcome = ap (λ (e : Effect Change). limited (stack_length p) (effect_of p img e))
              (to_target ∙ on (λ (q : Passing) (d : List (Option Place)). all_left t q d))
              ∙ ap (λ (ws : List Word). limited (stack_length p) (effect_of p img (asked img (answer (gone_to r t c.passing c.display ws)))))
              (taken_whole (words_of img.stacks r.stack) r.s size)
              ∙ ap (λ (i : Image). cond (nat_le (stack_length p i) stack_limit) (gives i) limit) is
              ∙ ap (λ (o : Option Registers). cond (nat_le (length_in o) stack_limit) (gives new) limit) there
              ∙ ap (λ (b : Bool). cond b (gives new) limit) (le-leb q.s stack_limit short);
          stays = tt;
        })
