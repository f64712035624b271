use Rattle.std.proofs.Common.{◌≡◌, sym, ap, subst, ◌∙◌, Some, Ok}
use Rattle.b67_segment.specs.Decoded.{found}
use Rattle.b67_store.specs.Store.{with_cut}
use Rattle.b67_table.specs.Privacy.{RegistersStay}
use Rattle.b67_linkage.specs.Held.{IsLinked}
use Rattle.b67_private.specs.declared.operators.Row.{Row}
use Rattle.b67_private.specs.declared.operators.Row.TheVariants as rows
use Rattle.b67_deeds.specs.declared.Letter.{Letter}
use Rattle.b67_private.specs.Actions.{words_program}
use Rattle.b67_private.specs.Lettered.{words_letter}
use Rattle.b67_private.specs.Prepared.{IsRowOf}
use Rattle.b67_reach.specs.Answers.{ProgramPerforms}
use Rattle.b67_reach.specs.Images.{Own, own_of_image as own, with_own}
use Rattle.b67_action.specs.Reaching.{own_of, IsOpen}
use Rattle.b67_action.specs.Running.{ActionGoesOn}
use Rattle.b67_action.proofs.Gone.{row_stands}
use Rattle.b67_action.proofs.InStore.{linked, goes_on, in_again}
use Rattle.b67_action.proofs.Open.{open_linked, own_whole, own_cut_twice}
use Rattle.b67_action.proofs.Ready.{some_is}
use Rattle.b67_action.proofs.Remaining.{gone_keeps, same_keeps}
use Rattle.b67_action.proofs.Went.{of_named, named_or}
use Rattle.b67_action.proofs.reaching.reach.Goals as goal

pub reach_by_cut-done-requires-clause-linked : goal.reach_by_cut-done-requires-clause-linked
reach_by_cut-done-requires-clause-linked g c =
    let st = g.C.Core.stacks c.args.core.now in
    let rows = g.C.Core.rows c.args.core.now in
    let r = c.args.regs.now in
    subst (λ (o : Own). IsLinked o.stacks o.rows o.regs) (sym (c.reach_at_once.ensures.none c.in_default-reach_at_once.is))
    (linked c.args.code.now c.requires.stands.0 c.requires.stands.1 (with_cut st r.stack r.s) rows r c.requires.stands.2)

pub reach_by_cut-done-requires-clause-held : goal.reach_by_cut-done-requires-clause-held
reach_by_cut-done-requires-clause-held g c =
    let r = c.args.regs.now in
    let o = found c.args.code.now r.segment r.ll r.place in
    let is_row = some_is (λ r'. IsRowOf r.place o r') c.row_at.result (c.in-Some.row, c.in-Some.next) c.in-Some.is (c.row_at.ensures c.args.code.now r.segment r.ll c.requires.table) in
    (row_stands r.place o (rows.Words c.in-Words.kind) c.in-Some.next (subst (λ (w : Row). IsRowOf r.place o (w, c.in-Some.next)) c.in-Words.is is_row)).held

pub returns-in-Some-reach_at_once-clause-went : goal.returns-in-Some-reach_at_once-clause-went
returns-in-Some-reach_at_once-clause-went g c = λ img p h.
    let code = c.args.code.now in
    let r = c.args.regs.now in
    let st = g.C.Core.stacks c.args.core.now in
    let rows' = g.C.Core.rows c.args.core.now in
    let o = found code r.segment r.ll r.place in
    let is_row = some_is (λ r'. IsRowOf r.place o r') c.row_at.result (c.in-Some.row, c.in-Some.next) c.in-Some.is (c.row_at.ensures code r.segment r.ll c.requires.table) in
    let stands = row_stands r.place o (rows.Words c.in-Words.kind) c.in-Some.next (subst (λ (w : Row). IsRowOf r.place o (w, c.in-Some.next)) c.in-Words.is is_row) in
    goes_on code img p (with_cut st r.stack r.s) rows' r h
    (own_of (g.C.Core.stacks c.reach_at_once.new.core) (g.C.Core.rows c.reach_at_once.new.core) c.reach_at_once.new.regs) stands.op c.in-Some.next c.in-Words.kind stands.here stands.is
    c.counted.ensures.few c.in-Some-reach_at_once.ensures.done c.in-Some-reach_at_once.letter stands.letter c.in-Some-reach_at_once.ensures.letter

pub returns-clause-went : goal.returns-clause-went
returns-clause-went g c =
    of_named _ c.reach_by_cut-done.result (λ named e img p h.
    let code = c.args.code.now in
    let r = c.args.regs.now in
    let st = g.C.Core.stacks c.args.core.now in
    let rows' = g.C.Core.rows c.args.core.now in
    let o = found code r.segment r.ll r.place in
    let is_row = some_is (λ r'. IsRowOf r.place o r') c.row_at.result (c.in-Some.row, c.in-Some.next) c.in-Some.is (c.row_at.ensures code r.segment r.ll c.requires.table) in
    let stands = row_stands r.place o (rows.Words c.in-Words.kind) c.in-Some.next (subst (λ (w : Row). IsRowOf r.place o (w, c.in-Some.next)) c.in-Words.is is_row) in
    let more = g.C.Core.stacks c.reach_by_cut-done.new.core in
    let others = g.C.Core.rows c.reach_by_cut-done.new.core in
    let q = c.reach_by_cut-done.new.regs in
    let new = own more others q in
    let same = c.reach_at_once.ensures.none c.in_default-reach_at_once.is in
    let goes = goes_on code img p (with_cut st r.stack r.s) rows' r h new stands.op c.in-Some.next c.in-Words.kind stands.here stands.is c.counted-2.ensures.few
    (subst (λ (x : Own). ProgramPerforms {A = Unit {0}} (words_program c.in-Words.kind x.regs c.in-Some.next) x new (Ok (tt {0}))) same
    (some_is (λ (l : Letter). ProgramPerforms {A = Unit {0}} (words_program c.in-Words.kind c.reach_at_once.new.regs c.in-Some.next) (own_of (g.C.Core.stacks c.reach_at_once.new.core) (g.C.Core.rows c.reach_at_once.new.core) c.reach_at_once.new.regs) new (Ok (tt {0}))) c.reach_by_cut-done.result named e c.reach_by_cut-done.ensures.done))
    named stands.letter
    (subst (λ (x : Own). words_letter c.in-Words.kind x.stacks x.regs ≡ Some named) same
    (some_is (λ (l : Letter). words_letter c.in-Words.kind (with_cut (g.C.Core.stacks c.reach_at_once.new.core) c.reach_at_once.new.regs.stack c.reach_at_once.new.regs.s) c.reach_at_once.new.regs ≡ Some l)
    c.reach_by_cut-done.result named e c.reach_by_cut-done.ensures.letter)) in
    let l = linked code (with_own new p img) p more others q (in_again code img p (with_cut st r.stack r.s) rows' r h new goes.gone.valid) in
    subst (λ (x : Own). ActionGoesOn code p named img (with_own x p img)) (sym (own_whole more others q l)) goes)

pub returns-clause-none : goal.returns-clause-none
returns-clause-none g c = λ none.
    let r = c.args.regs.now in
    own_cut_twice (g.C.Core.stacks c.args.core.now) (g.C.Core.rows c.args.core.now) r c.requires.open (g.C.Core.stacks c.reach_by_cut-done.new.core) (g.C.Core.rows c.reach_by_cut-done.new.core)
    c.reach_by_cut-done.new.regs (c.reach_by_cut-done.ensures.none none ∙ c.reach_at_once.ensures.none c.in_default-reach_at_once.is)

pub returns-clause-open : goal.returns-clause-open
returns-clause-open g c =
    let img = c.requires.stands.0 in
    let p = c.requires.stands.1 in
    let h = c.requires.stands.2 in
    let code = c.args.code.now in
    let r = c.args.regs.now in
    let st = g.C.Core.stacks c.args.core.now in
    let rows' = g.C.Core.rows c.args.core.now in
    let o = found code r.segment r.ll r.place in
    let is_row = some_is (λ r'. IsRowOf r.place o r') c.row_at.result (c.in-Some.row, c.in-Some.next) c.in-Some.is (c.row_at.ensures code r.segment r.ll c.requires.table) in
    let stands = row_stands r.place o (rows.Words c.in-Words.kind) c.in-Some.next (subst (λ (w : Row). IsRowOf r.place o (w, c.in-Some.next)) c.in-Words.is is_row) in
    let more = g.C.Core.stacks c.reach_by_cut-done.new.core in
    let others = g.C.Core.rows c.reach_by_cut-done.new.core in
    let q = c.reach_by_cut-done.new.regs in
    let new = own more others q in
    let same = c.reach_at_once.ensures.none c.in_default-reach_at_once.is in
    named_or {P = IsOpen more q} c.reach_by_cut-done.result
    (λ named e.
    let goes = goes_on code img p (with_cut st r.stack r.s) rows' r h new stands.op c.in-Some.next c.in-Words.kind stands.here stands.is c.counted-2.ensures.few
    (subst (λ (x : Own). ProgramPerforms {A = Unit {0}} (words_program c.in-Words.kind x.regs c.in-Some.next) x new (Ok (tt {0}))) same
    (some_is (λ (l : Letter). ProgramPerforms {A = Unit {0}} (words_program c.in-Words.kind c.reach_at_once.new.regs c.in-Some.next) (own_of (g.C.Core.stacks c.reach_at_once.new.core) (g.C.Core.rows c.reach_at_once.new.core) c.reach_at_once.new.regs) new (Ok (tt {0}))) c.reach_by_cut-done.result named e c.reach_by_cut-done.ensures.done))
    named stands.letter
    (subst (λ (x : Own). words_letter c.in-Words.kind x.stacks x.regs ≡ Some named) same
    (some_is (λ (l : Letter). words_letter c.in-Words.kind (with_cut (g.C.Core.stacks c.reach_at_once.new.core) c.reach_at_once.new.regs.stack c.reach_at_once.new.regs.s) c.reach_at_once.new.regs ≡ Some l)
    c.reach_by_cut-done.result named e c.reach_by_cut-done.ensures.letter)) in
    open_linked more others q (linked code (with_own new p img) p more others q (in_again code img p (with_cut st r.stack r.s) rows' r h new goes.gone.valid)))
    (λ none.
    open_linked more others q
    (subst (λ (x : Own). IsLinked x.stacks x.rows x.regs) (sym (c.reach_by_cut-done.ensures.none none ∙ same))
    (linked code img p (with_cut st r.stack r.s) rows' r h)))

pub returns-clause-keeps : goal.returns-clause-keeps
returns-clause-keeps g c =
    let h = c.requires.stands.2 in
    let r = c.args.regs.now in
    let more = g.C.Core.stacks c.reach_by_cut-done.new.core in
    let others = g.C.Core.rows c.reach_by_cut-done.new.core in
    let q = c.reach_by_cut-done.new.regs in
    let new = own more others q in
    let same = c.reach_at_once.ensures.none c.in_default-reach_at_once.is in
    named_or {P = RegistersStay r q} c.reach_by_cut-done.result
    (λ named e.
    gone_keeps r c.in-Some.next c.in-Words.kind (with_cut (g.C.Core.stacks c.args.core.now) r.stack r.s) (g.C.Core.rows c.args.core.now) new c.requires.stands.1 c.requires.stands.0
    (sym c.if-enters.ensures) h.stacks_are h.rows_are h.has
    (subst (λ (x : Own). ProgramPerforms {A = Unit {0}} (words_program c.in-Words.kind x.regs c.in-Some.next) x new (Ok (tt {0}))) same
    (some_is (λ (l : Letter). ProgramPerforms {A = Unit {0}} (words_program c.in-Words.kind c.reach_at_once.new.regs c.in-Some.next) (own_of (g.C.Core.stacks c.reach_at_once.new.core) (g.C.Core.rows c.reach_at_once.new.core) c.reach_at_once.new.regs) new (Ok (tt {0}))) c.reach_by_cut-done.result named e c.reach_by_cut-done.ensures.done)))
    (λ none. same_keeps r q (ap (λ (x : Own). x.regs) (c.reach_by_cut-done.ensures.none none ∙ same)))
