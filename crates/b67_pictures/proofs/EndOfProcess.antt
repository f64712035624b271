-- The end of a process, whether another one depends on it or not, and whether it has a task or not.
use Rattle.std.proofs.Common.{◌≡◌, refl, sym, subst, Option, Some, None, Bool, true, false}
use Rattle.b67_pictures.proofs.Prelude.{PProgram, scopes_of, leaves, ask, Choice, some_depends, is_evaluation, done, Reference, lives, Place, Code, Texts, ActionAt, ReleasesNone, FramesClose, actor_of, OutmostActor, text_in, level_in, context_in, most_in, IsEventAt, TaskIs, Does}
use Rattle.b67_pictures.proofs.Blocked.{blocked_choice, ending_blocked}
use Rattle.b67_pictures.proofs.Ending.{ending_alone}
use Rattle.b67_pictures.proofs.Releasing.{IsReleased, none_released}
use Rattle.b67_pictures.proofs.TaskEnding.{ending_with_task, end_frees}

module _ (tree : PProgram) (code : Code) (texts : Texts) (closing : FramesClose) (actor : OutmostActor tree code texts) where
  open actor use {w, lay, img, p, q, part, core, s}

  module _ (owns : is_evaluation part.purpose ≡ false)
      (alive : lives q.state ≡ true) (asks : ask part.rest ≡ leaves done)
      (a : ActionAt (scopes_of tree) (context_in tree code texts w part s.stands.frame.gives) (text_in tree texts w part) (level_in tree w part) (most_in tree w part) (leaves done) s.stands.pc s.stands.slots) where
    -- the event of its task, and the register for it
    task_of : (t : Option Reference) → q.task ≡ t → TaskIs (scopes_of tree) w lay t core.registers.task
    task_of t is = subst (λ (o : Option Reference). TaskIs (scopes_of tree) w lay o core.registers.task) is s.task

    blocks : some_depends w.processes part.instance ≡ true → Does tree code texts w img p
    blocks depends = ending_blocked tree code texts actor owns depends asks a

    pub ending : Does tree code texts w img p
    ending = by_case (some_depends w.processes part.instance) refl
      where
        by_task : some_depends w.processes part.instance ≡ false → (t : Option Reference) → q.task ≡ t → Does tree code texts w img p
        by_task free None none = ending_alone tree code texts closing actor owns asks a free none
        by_task free (Some r) has =
            let told : (there : Place) × (core.registers.task ≡ Some there) × IsEventAt (scopes_of tree) w lay r there = task_of (Some r) has in
            ending_with_task tree code texts closing actor (record { owns = owns; alive = alive; free = free; reference = r; has_task = has; task = told.0; tasked = told.1; event_there = told.2; asks = asks; action = a })

        by_case : (b : Bool) → some_depends w.processes part.instance ≡ b → Does tree code texts w img p
        by_case true depends = blocks depends
        by_case false free = by_task free q.task refl

    -- with a task it releases whom the source does
    pub ending_frees : (r : Reference) → q.task ≡ Some r → IsReleased tree code w img p
    ending_frees r has = by_case (some_depends w.processes part.instance) refl
      where
        by_case : (b : Bool) → some_depends w.processes part.instance ≡ b → IsReleased tree code w img p
        by_case true depends =
            none_released tree code texts w img p core.registers s.has.registers q.task (λ none. task_of None none)
            (subst (λ (c : Choice). ReleasesNone q.task c) (sym (blocked_choice tree code texts (actor_of s) owns depends done asks)) (record { none = refl; calm = refl; idle = tt })) (blocks depends)
        by_case false free =
            let told : (there : Place) × (core.registers.task ≡ Some there) × IsEventAt (scopes_of tree) w lay r there = task_of (Some r) has in
            λ no_limit. end_frees tree code texts closing actor (record { owns = owns; alive = alive; free = free; reference = r; has_task = has; task = told.0; tasked = told.1; event_there = told.2; asks = asks; action = a })
