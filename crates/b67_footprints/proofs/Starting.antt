-- START keeps to what it reaches.
use Rattle.std.proofs.Common.{◌≡◌, refl, ℕ, zero, suc, ◌+◌, ℤ, pos, negsuc, List, [], ◌∷◌, length, Option, Some, None}
use Rattle.std.specs.Prelude.{nat_le, nat_lt, nat_eq}
use Rattle.b67_word.specs.declared.Place.{Place}
use Rattle.b67_word.specs.Word.{Word, as_whole}
use Rattle.b67_control.specs.declared.Registers.{Registers}
use Rattle.b67_control.specs.declared.Mscw.{Mscw}
use Rattle.b67_control.specs.declared.Pcw.{Pcw}
use Rattle.b67_control.specs.Control.{as_pcw}
use Rattle.b67_ops.specs.declared.Operator.{Operator}
use Rattle.b67_segment.specs.declared.code.Code.{Code}
use Rattle.b67_table.specs.declared.Cell.{Cell}
use Rattle.b67_table.specs.Image.{Image, critical_of}
use Rattle.b67_table.specs.Limits.{most_cells, most_processes}
use Rattle.b67_table.specs.Private.{frame}
use Rattle.b67_table.specs.Chains.{place, chain_broken, frame_below, linked}
use Rattle.b67_table.specs.Look.{valid}
use Rattle.b67_table.specs.References.{cell_of, reached}
use Rattle.b67_table.specs.Writes.{write_made}
use Rattle.b67_table.specs.Writes as writes
use Rattle.b67_table.specs.Program.{Test, Change, answer, fault, critical, ◌>>=◌}
use Rattle.b67_table.specs.Arguments.{event_of}
use Rattle.b67_table.specs.Starting.{task_in, task_of, frames_with, named_frames, is_among, down, or_none, on_path, Starting, if_few, starting, first_display, first_words, process_begun, start_process}
use Rattle.b67_footprints.specs.Reaching.{OperatorFollows, NamesCell, OperatorLeadsTo, own, home, depends}
use Rattle.b67_footprints.specs.Keeping.{TestKeeps, ChangeKeeps, ProgramKeeps}
use Rattle.b67_footprints.proofs.Lists.{Each}
use Rattle.b67_footprints.proofs.Going.{Any, LookKeeps, see_then, test_then, look_by, test_by}
use Rattle.b67_footprints.proofs.References.{IsReached, reached_kept, valid_kept}
use Rattle.b67_footprints.proofs.Chains.{frame_below_kept, linked_kept}
use Rattle.b67_footprints.proofs.Changes.{finished_kept}
use Rattle.b67_footprints.proofs.Calls.{chained_kept, IsArgument, event_of_kept}

module _ (img : Image) (op : Operator) (r : Registers) (p : ℕ) (follows : OperatorFollows op) where
  abbrev E : Change → Type 0
  E change = ChangeKeeps img op r p change img

  -- ---- what it is given

  abbrev task_event : Word → Test (Option Cell)
  task_event w = event_of r w >>= (λ (c : Cell). answer (Some c))

  event_task_kept : (w : Word) → IsArgument img op r p w → TestKeeps img op r Any (task_event w)
  event_task_kept w i = test_then img op r (NamesCell img op r) Any (event_of r w) _ (event_of_kept img op r p follows w i) (λ c k. tt)

  task_kept : (w : Word) → IsArgument img op r p w → (z : Option ℤ) → TestKeeps img op r Any (task_in z r w)
  task_kept w i None = event_task_kept w i
  task_kept w i (Some (pos zero)) = tt
  task_kept w i (Some (pos (suc n))) = event_task_kept w i
  task_kept w i (Some (negsuc n)) = event_task_kept w i

  -- the frame in which the procedure lies
  abbrev IsHome : Starting → Type 0
  IsHome t = OperatorLeadsTo img op r t.home

  few_kept : (parameters : List Word) (t : Starting) → IsHome t → TestKeeps img op r IsHome (if_few parameters (answer t))
  few_kept parameters t i = test_by img op r IsHome (nat_le (length parameters) most_cells) (answer t) _ i tt

  starting_kept : (words : List Word) → Each (IsArgument img op r p) words → TestKeeps img op r IsHome (starting r words)
  starting_kept [] i = tt
  starting_kept (procedure ∷ []) i = tt
  starting_kept (procedure ∷ task ∷ parameters) i =
      see_then img op r (IsReached img op r) IsHome (reached (cell_of r procedure)) _ (reached_kept img op r follows (cell_of r procedure) i.0) (λ v k.
      see_then img op r (λ (pcw : Pcw). as_pcw v.word ≡ Some pcw) IsHome (valid (as_pcw v.word)) _ (valid_kept img op r (as_pcw v.word)) (λ pcw e.
      test_then img op r Any IsHome (task_of r task) _ (task_kept task i.1.0 (as_whole task)) (λ c t.
      few_kept parameters (record { procedure = pcw; home = v.cell.frame; task = c; parameters = parameters }) (home v.cell v.word pcw k.names k.there e))))

  display_kept : (number : ℕ) (t : Starting) → IsHome t → LookKeeps img op r Any (first_display number t)
  display_kept number t i =
      look_by img op r Any t.procedure.intrinsic chain_broken (linked (place number 0) t.home t.procedure.level) tt
      (linked_kept img op r (place number 0) t.home t.procedure.level i)

  -- ---- the path

  down_kept : (steps : ℕ) (frames : List Place) (f : Place) (rest : Test (Option Place)) → OperatorLeadsTo img op r f → TestKeeps img op r Any rest
      → TestKeeps img op r Any (down steps frames f rest)
  down_kept zero frames f rest i k = tt
  down_kept (suc steps) frames f rest i k =
      test_by img op r Any (is_among frames f) (answer (Some f)) _ tt
      (test_by img op r Any (nat_eq f.at 0) rest _ k
      (see_then img op r (OperatorLeadsTo img op r) Any (frame_below f) _ (frame_below_kept img op r f i) (λ lower j. down_kept steps frames lower rest j k)))

  or_none_kept : (o : Option Place) (next : Place → Test (Option Place)) → ((c : Place) → o ≡ Some c → TestKeeps img op r Any (next c))
      → TestKeeps img op r Any (or_none o next)
  or_none_kept None next k = tt
  or_none_kept (Some c) next k = k c refl

  path_kept : (stacks : ℕ) (frames : List Place) (f : Place) → OperatorLeadsTo img op r f → TestKeeps img op r Any (on_path stacks frames f)
  path_kept zero frames f i = tt
  path_kept (suc stacks) frames f i =
      down_kept (f.at + 1) frames f (critical f.stack (λ (c : Option Place). or_none c (λ (lower : Place). on_path stacks frames lower))) i
      (tt, or_none_kept (critical_of img.regs f.stack) (λ (lower : Place). on_path stacks frames lower) (λ c e. path_kept stacks frames c (depends f i e)))

  -- ---- the row

  pub start_kept : (code : Code) (next : ℕ) (m : Mscw) (words : List Word) → Each (IsArgument img op r p) words → ProgramKeeps img op r p (start_process code r next m words)
  start_kept code next m words i =
      test_then img op r IsHome E (starting r words) _ (starting_kept words i) (λ t k.
      chained_kept img op r p m _ (
        tt,
        see_then img op r Any E (first_display (img.started + 1) t) _ (display_kept (img.started + 1) t k) (λ display u.
            test_then img op r Any E (on_path r.stack (t.home ∷ frames_with t.task (named_frames t.parameters)) (place r.stack (frame r))) _
            (path_kept r.stack (t.home ∷ frames_with t.task (named_frames t.parameters)) (place r.stack (frame r)) (own refl)) (λ c v.
            test_by img op r E (nat_lt img.started most_processes) _ (fault _)
            (refl, finished_kept img op r p m [] next (write_made p (writes.start (process_begun (img.started + 1) t display c) (first_words t)) img)) tt)),
      ))
