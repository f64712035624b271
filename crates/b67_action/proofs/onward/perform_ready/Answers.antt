use Rattle.std.specs.Prelude.{IfSome}
use Rattle.std.proofs.Common.{◌≡◌, refl, sym, ap, subst, ◌∙◌, [], List, Some}
use Rattle.b67_list.specs.Numbered.{numbered}
use Rattle.b67_control.specs.declared.Registers.{Registers}
use Rattle.b67_store.specs.Store.{Stacks, Rows}
use Rattle.b67_table.specs.Rows.{enter, exit, return_value}
use Rattle.b67_operators.specs.Leaves.{program_in}
use Rattle.b67_operators.proofs.AtOnce.{well}
use Rattle.b67_private.specs.declared.operators.Row.{Row}
use Rattle.b67_private.specs.declared.operators.Row.TheVariants as ready
use Rattle.b67_deeds.specs.declared.Letter.{Letter}
use Rattle.b67_deeds.specs.declared.Letter.TheVariants as letters
use Rattle.b67_private.specs.Actions.{words_program}
use Rattle.b67_private.specs.Lettered.{words_letter, row_letter}
use Rattle.b67_reach.specs.Images.{image_of}
use Rattle.b67_action.specs.Among.{with_all}
use Rattle.b67_action.specs.Onward.{GoesBy, action_of}
use Rattle.b67_action.proofs.Coming.{comes_by, acts_ok}
use Rattle.b67_action.proofs.Gone.{enters_nobody}
use Rattle.b67_action.proofs.Lettering.{enters_letter}
use Rattle.b67_action.proofs.Went.{went_so, none_went, ok_so, ok_is, none_ok, on_err, some_map, each_some}
use Rattle.b67_action.proofs.onward.perform_ready.Goals as goal

pub returns-in-Words-clause-goes : goal.returns-in-Words-clause-goes
returns-in-Words-clause-goes g c =
    let code = c.args.parts.now.code in
    let p = c.args.process in
    let regs = numbered c.args.parts.now.regs.items p in
    let img = image_of (g.C.Core.stacks c.args.core.now) (g.C.Core.rows c.args.core.now) c.args.kernel.now c.args.parts.now in
    let new = with_all (g.C.Core.stacks c.perform_words.new.core) (g.C.Core.rows c.perform_words.new.core) c.perform_words.new.all.items img in
    let program = program_in (words_program c.in-Words.kind) regs c.args.next in
    ok_so c.perform_words.result c.ok.result c.ok.ensures.value (λ l. GoesBy (action_of c.args.row) code c.args.next p regs img new)
    (λ l e. subst (λ (q : Row). GoesBy (action_of q) code c.args.next p regs img new) (sym c.in-Words.is)
    ((λ op. comes_by p program img new well (acts_ok p program img new c.perform_words.result l e (c.perform_words.ensures.acts img refl refl refl))), refl))

pub returns-in-Words-clause-letter : goal.returns-in-Words-clause-letter
returns-in-Words-clause-letter g c =
    let st = g.C.Core.stacks c.args.core.now in
    let regs = numbered c.args.parts.now.regs.items c.args.process in
    let img = image_of st (g.C.Core.rows c.args.core.now) c.args.kernel.now c.args.parts.now in
    ok_so c.perform_words.result c.ok.result c.ok.ensures.value (λ (l : Letter). IfSome regs (λ r. row_letter c.args.row img r ≡ Some l))
    (λ l e. subst (λ (q : Row). IfSome regs (λ r. row_letter q img r ≡ Some l)) (sym c.in-Words.is)
    (ok_is (λ (k : Letter). IfSome regs (λ r. words_letter c.in-Words.kind st r ≡ Some k)) c.perform_words.result l e c.perform_words.ensures.letter))

pub returns-in-Words-clause-stays : goal.returns-in-Words-clause-stays
returns-in-Words-clause-stays g c = λ none.
    let img = image_of (g.C.Core.stacks c.args.core.now) (g.C.Core.rows c.args.core.now) c.args.kernel.now c.args.parts.now in
    on_err c.perform_words.result (none_ok c.perform_words.result c.ok.result c.ok.ensures.value none) (c.perform_words.ensures.acts img refl refl refl).stays

pub returns-in-Enter-clause-goes : goal.returns-in-Enter-clause-goes
returns-in-Enter-clause-goes g c =
    let code = c.args.parts.now.code in
    let p = c.args.process in
    let regs = numbered c.args.parts.now.regs.items p in
    let img = image_of (g.C.Core.stacks c.args.core.now) (g.C.Core.rows c.args.core.now) c.args.kernel.now c.args.parts.now in
    let new = with_all (g.C.Core.stacks c.enter_in-went.new.core) (g.C.Core.rows c.enter_in-went.new.core) c.enter_in-went.new.all.items img in
    went_so c.enter_in-went.result letters.Enter (λ l. GoesBy (action_of c.args.row) code c.args.next p regs img new) c.if_went.result c.if_went.ensures
    (λ done. subst (λ (q : Row). GoesBy (action_of q) code c.args.next p regs img new) (sym c.in-Enter.is)
    ((λ op. comes_by p (program_in (enter code) regs c.args.next) img new well (c.enter_in-went.ensures.entered done code img refl refl refl)), enters_nobody img regs (c.enter_in-went.ensures.calls done)))

pub returns-in-Enter-clause-letter : goal.returns-in-Enter-clause-letter
returns-in-Enter-clause-letter g c =
    let regs = numbered c.args.parts.now.regs.items c.args.process in
    let img = image_of (g.C.Core.stacks c.args.core.now) (g.C.Core.rows c.args.core.now) c.args.kernel.now c.args.parts.now in
    went_so c.enter_in-went.result letters.Enter (λ (l : Letter). IfSome regs (λ r. row_letter c.args.row img r ≡ Some l)) c.if_went.result c.if_went.ensures
    (λ done. subst (λ (q : Row). IfSome regs (λ r. row_letter q img r ≡ Some letters.Enter)) (sym c.in-Enter.is) (enters_letter img regs (c.enter_in-went.ensures.calls done)))

pub returns-in-Enter-clause-stays : goal.returns-in-Enter-clause-stays
returns-in-Enter-clause-stays g c = λ none.
    let st = g.C.Core.stacks c.args.core.now in
    let rows = g.C.Core.rows c.args.core.now in
    let img = image_of st rows c.args.kernel.now c.args.parts.now in
    let more = g.C.Core.rows c.enter_in-went.new.core in
    let all = c.enter_in-went.new.all.items in
    let same = c.enter_in-went.ensures.stays (none_went c.enter_in-went.result letters.Enter c.if_went.result c.if_went.ensures none) in
    ap (λ (z : Stacks). with_all z more all img) same.0 ∙ ap (λ (z : Rows). with_all st z all img) same.1 ∙ ap (λ (z : List Registers). with_all st rows z img) same.2

pub returns-in-Exit-clause-goes : goal.returns-in-Exit-clause-goes
returns-in-Exit-clause-goes g c =
    let code = c.args.parts.now.code in
    let p = c.args.process in
    let regs = numbered c.args.parts.now.regs.items p in
    let img = image_of (g.C.Core.stacks c.args.core.now) (g.C.Core.rows c.args.core.now) c.args.kernel.now c.args.parts.now in
    let new = image_of (g.C.Core.stacks c.exit_at_once.new.core) (g.C.Core.rows c.exit_at_once.new.core) c.exit_at_once.new.kernel c.exit_at_once.new.parts in
    went_so c.exit_at_once.result letters.Leave (λ l. GoesBy (action_of c.args.row) code c.args.next p regs img new) c.if_went-in-Exit.result c.if_went-in-Exit.ensures
    (λ done. subst (λ (q : Row). GoesBy (action_of q) code c.args.next p regs img new) (sym c.in-Exit.is)
    ((λ op. comes_by p (program_in exit regs c.args.next) img new well (c.exit_at_once.ensures.left done c.args.next)), sym (c.exit_at_once.ensures.nobody done [])))

pub returns-in-Exit-clause-letter : goal.returns-in-Exit-clause-letter
returns-in-Exit-clause-letter g c =
    let regs = numbered c.args.parts.now.regs.items c.args.process in
    let img = image_of (g.C.Core.stacks c.args.core.now) (g.C.Core.rows c.args.core.now) c.args.kernel.now c.args.parts.now in
    went_so c.exit_at_once.result letters.Leave (λ (l : Letter). IfSome regs (λ r. row_letter c.args.row img r ≡ Some l)) c.if_went-in-Exit.result c.if_went-in-Exit.ensures
    (λ done. subst (λ (q : Row). IfSome regs (λ r. row_letter q img r ≡ Some letters.Leave)) (sym c.in-Exit.is)
    (some_map _ (λ r. row_letter ready.Exit img r ≡ Some letters.Leave) regs (λ r. ap (λ (l : Letter). Some l)) (c.exit_at_once.ensures.letter done)))

pub returns-in-Exit-clause-stays : goal.returns-in-Exit-clause-stays
returns-in-Exit-clause-stays g c = λ none. c.exit_at_once.ensures.stays (none_went c.exit_at_once.result letters.Leave c.if_went-in-Exit.result c.if_went-in-Exit.ensures none)

pub returns-in-ReturnValue-clause-goes : goal.returns-in-ReturnValue-clause-goes
returns-in-ReturnValue-clause-goes g c =
    let code = c.args.parts.now.code in
    let p = c.args.process in
    let regs = numbered c.args.parts.now.regs.items p in
    let img = image_of (g.C.Core.stacks c.args.core.now) (g.C.Core.rows c.args.core.now) c.args.kernel.now c.args.parts.now in
    let new = image_of (g.C.Core.stacks c.return_at_once-went.new.core) (g.C.Core.rows c.return_at_once-went.new.core) c.return_at_once-went.new.kernel c.return_at_once-went.new.parts in
    went_so c.return_at_once-went.result letters.Leave (λ l. GoesBy (action_of c.args.row) code c.args.next p regs img new) c.if_went-in-ReturnValue.result c.if_went-in-ReturnValue.ensures
    (λ done. subst (λ (q : Row). GoesBy (action_of q) code c.args.next p regs img new) (sym c.in-ReturnValue.is)
    ((λ op. comes_by p (program_in return_value regs c.args.next) img new well (c.return_at_once-went.ensures.left done c.args.next)), refl))

pub returns-in-ReturnValue-clause-letter : goal.returns-in-ReturnValue-clause-letter
returns-in-ReturnValue-clause-letter g c =
    let regs = numbered c.args.parts.now.regs.items c.args.process in
    let img = image_of (g.C.Core.stacks c.args.core.now) (g.C.Core.rows c.args.core.now) c.args.kernel.now c.args.parts.now in
    went_so c.return_at_once-went.result letters.Leave (λ (l : Letter). IfSome regs (λ r. row_letter c.args.row img r ≡ Some l)) c.if_went-in-ReturnValue.result c.if_went-in-ReturnValue.ensures
    (λ done. subst (λ (q : Row). IfSome regs (λ r. row_letter q img r ≡ Some letters.Leave)) (sym c.in-ReturnValue.is)
    (each_some regs (λ r. row_letter ready.ReturnValue img r ≡ Some letters.Leave) (λ r. refl)))

pub returns-in-ReturnValue-clause-stays : goal.returns-in-ReturnValue-clause-stays
returns-in-ReturnValue-clause-stays g c = λ none. c.return_at_once-went.ensures.stays (none_went c.return_at_once-went.result letters.Leave c.if_went-in-ReturnValue.result c.if_went-in-ReturnValue.ensures none)
