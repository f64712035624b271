-- A block or a procedure is left.
use Rattle.std.proofs.Common.{◌≡◌, refl, sym, subst, List, [], ◌∷◌, ◌++◌, ap, ◌∙◌, length, Option, Some, None, Bool, false, Ok, true}
use Rattle.b67_pictures.proofs.Prelude.{reverse, numbered, PProgram, scopes_of, leaves, ask, is_evaluation, some_depends, done, value, Value, lives, Word, Place, Code, is_critical, frame, live_criticals, is_result, operator_at, Below, Yields, Texts, ActionAt, Gives, operand, at_operator, Leaves, operand_given, return_raw, return_class, return_action, action_not_plain, Top, top_slot, HaveTexts, value_tag, FramesClose, AreKnown, IsInReach, Waits, operator_there, actor_of, InnerActor, text_in, level_in, context_in, most_in, TheLaws, StateIs, Does, leaves_here}
use Rattle.b67_ops.specs.declared.Operator.TheVariants as ops
use Rattle.b67_ops.specs.declared.PlainKind.TheVariants as kinds
use Rattle.b67_rows.proofs.LeaveRow.{leave_raw, exit_blocked, leave_class, leave_action}
use Rattle.b67_rows.proofs.ReturnRow.{return_blocked}
use Rattle.b67_pictures.proofs.FrameLeaving.{e, leaving_frame}
use Rattle.b67_pictures.proofs.LeavingWords.{IsGiven, nothing_given, value_given, known_given, b, display}
use Rattle.b67_pictures.proofs.Blocked.{critical_frame, leaving_blocked}

module _ (tree : PProgram) (code : Code) (texts : Texts) (stand : HaveTexts tree code texts) (laws : TheLaws) (closing : FramesClose) (actor : InnerActor tree code texts) where
  open actor use {w, lay, img, p, q, part, next, parts, core, s}

  module _ (able_is : lives q.state ≡ true) (able_p : StateIs (scopes_of tree) w lay q.state (numbered img.states p)) (owns : is_evaluation part.purpose ≡ false) where
    abbrev around : Waits tree code texts w lay p next parts s.stands.frame.lower s.stands.frame.mark s.stands.frame.control s.stands.frame.gives
    around = s.around.0

    abbrev below : Below
    below = b tree code texts actor

    abbrev shown : List (Option Place)
    shown = display tree code texts actor

    abbrev leaves_it : Leaves img core around.below around.words s.stands.frame.mark s.stands.frame.control s.stands.frame.cells below shown
    leaves_it = e tree code texts stand laws closing actor able_is able_p owns

    -- its frame is critical where a process depends on its instance
    critical_there : is_critical core.registers.stack (length (around.below ++ reverse around.words) ∷ []) (live_criticals img.states img.regs) ≡ some_depends w.processes part.instance
    critical_there =
        ap (λ (ws : List Word). is_critical core.registers.stack (length ws ∷ []) (live_criticals img.states img.regs)) (sym around.lower_is)
        ∙ critical_frame tree code texts (actor_of s) owns

    -- with nothing: EXIT
    module _ (asks : ask part.rest ≡ leaves done)
        (a : ActionAt (scopes_of tree) (context_in tree code texts w part s.stands.frame.gives) (text_in tree texts w part) (level_in tree w part) (most_in tree w part) (leaves done) s.stands.pc s.stands.slots) where
      exits : operator_at code core.registers ≡ Ok (ops.Plain kinds.Exit, a.0)
      exits = operator_there (scopes_of tree) s.stands.held code (text_in tree texts w part) (level_in tree w part) s.stands.pc s.stands.slots core (ops.Plain kinds.Exit) a.0 s.stands.there a.2

      -- a process depends on its instance: it is not left
      blocked : some_depends w.processes part.instance ≡ true → Does tree code texts w img p
      blocked depends =
          leaving_blocked tree code texts (actor_of s) owns depends done asks (ops.Plain kinds.Exit) a.0 exits
          (exit_blocked code img p core s.has a.0 (leaves_here leaves_it) exits (critical_there ∙ depends))

      -- or none does
      passes : some_depends w.processes part.instance ≡ false → Does tree code texts w img p
      passes free =
          leaving_frame tree code texts stand laws closing actor able_is able_p owns (record {
            answer = done;
            given = None;
            is_given = subst (λ (o : Yields). IsGiven o done None) (sym a.1) nothing_given;
            gives_it = subst (λ (o : Yields). Gives o done) (sym a.1) tt;
            known_there = subst (λ (o : Yields). AreKnown (scopes_of tree) w lay (IsInReach w (next ∷ parts)) next.instance (known_given o done None)) (sym a.1) tt;
          }) a.0 free asks
          (leave_raw code img p core s.has a.0 (leaves_here leaves_it) exits (critical_there ∙ free))
          (action_not_plain code (ops.Plain kinds.Exit) (at_operator s.has exits)
          (leave_class code img p core s.has a.0 (leaves_here leaves_it) exits))
          (leave_action code img p core s.has a.0 (leaves_here leaves_it) exits)

      pub leaving : Does tree code texts w img p
      leaving = by_case (some_depends w.processes part.instance) refl
        where
          by_case : (b : Bool) → some_depends w.processes part.instance ≡ b → Does tree code texts w img p
          by_case true depends = blocked depends
          by_case false free = passes free

    -- with a value: RETN
    module _ (v : Value) (asks : ask part.rest ≡ leaves (value v))
        (a : ActionAt (scopes_of tree) (context_in tree code texts w part s.stands.frame.gives) (text_in tree texts w part) (level_in tree w part) (most_in tree w part) (leaves (value v)) s.stands.pc s.stands.slots) where
      returns : operator_at code core.registers ≡ Ok (ops.Plain kinds.Retn, a.1)
      returns = operator_there (scopes_of tree) s.stands.held code (text_in tree texts w part) (level_in tree w part) s.stands.pc s.stands.slots core (ops.Plain kinds.Retn) a.1 s.stands.there a.4

      on_top : Top (scopes_of tree) s.stands.held (level_in tree w part) (frame core.registers) (length core.below) (operand v) [] core.words
      on_top = top_slot (scopes_of tree) s.stands.held (level_in tree w part) (frame core.registers) (length core.below) s.stands.slots (operand v) [] core.words s.stands.there.words_are a.5

      on_top_given : is_result on_top.word ≡ true
      on_top_given = operand_given on_top.word (value_tag v on_top.word on_top.slot_is)

      -- a process depends on its instance: it is not left
      blocked_with : some_depends w.processes part.instance ≡ true → Does tree code texts w img p
      blocked_with depends =
          leaving_blocked tree code texts (actor_of s) owns depends (value v) asks (ops.Plain kinds.Retn) a.1 returns
          (return_blocked code (at_operator s.has returns) (leaves_here leaves_it) on_top.word on_top.words_below on_top.is on_top_given (critical_there ∙ depends))

      -- or none does
      passes_with : some_depends w.processes part.instance ≡ false → Does tree code texts w img p
      passes_with free =
          leaving_frame tree code texts stand laws closing actor able_is able_p owns (record {
            answer = value v;
            given = Some on_top.word;
            is_given = subst (λ (o : Yields). IsGiven o (value v) (Some on_top.word)) (sym a.2) (value_given a.0 v on_top.word on_top.slot_is);
            gives_it = subst (λ (o : Yields). Gives o (value v)) (sym a.2) a.3;
            known_there = subst (λ (o : Yields). AreKnown (scopes_of tree) w lay (IsInReach w (next ∷ parts)) next.instance (known_given o (value v) (Some on_top.word))) (sym a.2) tt;
          }) a.1 free asks
          (return_raw code (at_operator s.has returns) (leaves_here leaves_it) on_top.word on_top.words_below on_top.is on_top_given (critical_there ∙ free))
          (action_not_plain code (ops.Plain kinds.Retn) (at_operator s.has returns)
          (return_class code (at_operator s.has returns) (leaves_here leaves_it) on_top.word on_top.words_below on_top.is on_top_given))
          (return_action code (at_operator s.has returns) (leaves_here leaves_it) on_top.word on_top.words_below on_top.is on_top_given)

      pub leaving_with : Does tree code texts w img p
      leaving_with = by_case (some_depends w.processes part.instance) refl
        where
          by_case : (b : Bool) → some_depends w.processes part.instance ≡ b → Does tree code texts w img p
          by_case true depends = blocked_with depends
          by_case false free = passes_with free
