use Rattle.std.specs.Prelude.{is_ok}
use Rattle.std.proofs.Common.{◌≡◌, sym, ap, subst, ◌∙◌, Some, Ok}
use Rattle.b67_store.specs.Store.{Stacks, Rows, with_cut}
use Rattle.b67_linkage.specs.Held.{IsLinked}
use Rattle.b67_private.specs.Actions.{words_program}
use Rattle.b67_private.specs.Lettered.{words_letter}
use Rattle.b67_reach.specs.Answers.{ProgramPerforms}
use Rattle.b67_reach.specs.Images.{Own, own_of_image}
use Rattle.b67_action.proofs.InStore.{performed, unmoved}
use Rattle.b67_action.proofs.Went.{ok_so, ok_is, none_ok}
use Rattle.b67_action.proofs.reaching.reach_by_cut.Goals as goal

pub perform-requires-clause-linked : goal.perform-requires-clause-linked
perform-requires-clause-linked g c =
    subst (λ (z : Stacks). IsLinked z (g.C.Core.rows c.cut_words.new.core) c.args.regs.now) (sym c.cut_words.ensures.stacks)
    (subst (λ (z : Rows). IsLinked (with_cut (g.C.Core.stacks c.args.core.now) c.args.regs.now.stack c.args.regs.now.s) z c.args.regs.now) (sym c.cut_words.ensures.rows) c.requires.linked)

pub returns-clause-done : goal.returns-clause-done
returns-clause-done g c =
    let r = c.args.regs.now in
    let same =
    ap (λ (z : Stacks). own_of_image z (g.C.Core.rows c.cut_words.new.core) r) c.cut_words.ensures.stacks
    ∙ ap (λ (z : Rows). own_of_image (with_cut (g.C.Core.stacks c.args.core.now) r.stack r.s) z r) c.cut_words.ensures.rows in
    let new = own_of_image (g.C.Core.stacks c.perform.new.core) (g.C.Core.rows c.perform.new.core) c.perform.new.regs in
    ok_so c.perform.result c.ok.result c.ok.ensures.value
    (λ l. ProgramPerforms {A = Unit {0}} (words_program c.args.kind r c.args.next) (own_of_image (with_cut (g.C.Core.stacks c.args.core.now) r.stack r.s) (g.C.Core.rows c.args.core.now) r) new (Ok (tt {0})))
    (λ l e. subst (λ (o : Own). ProgramPerforms {A = Unit {0}} (words_program c.args.kind r c.args.next) o new (Ok (tt {0}))) same
    (performed (words_program c.args.kind r c.args.next) (own_of_image (g.C.Core.stacks c.cut_words.new.core) (g.C.Core.rows c.cut_words.new.core) r) new c.perform.result
    (ap is_ok e) c.perform.ensures.performs))

pub returns-clause-letter : goal.returns-clause-letter
returns-clause-letter g c =
    let r = c.args.regs.now in
    ok_so c.perform.result c.ok.result c.ok.ensures.value (λ l. words_letter c.args.kind (with_cut (g.C.Core.stacks c.args.core.now) r.stack r.s) r ≡ Some l)
    (λ l e. ap (λ (z : Stacks). words_letter c.args.kind z r) (sym c.cut_words.ensures.stacks)
    ∙ ok_is (λ k. words_letter c.args.kind (g.C.Core.stacks c.cut_words.new.core) r ≡ Some k) c.perform.result l e c.perform.ensures.letter)

pub returns-clause-none : goal.returns-clause-none
returns-clause-none g c = λ none.
    let r = c.args.regs.now in
    let same =
    ap (λ (z : Stacks). own_of_image z (g.C.Core.rows c.cut_words.new.core) r) c.cut_words.ensures.stacks
    ∙ ap (λ (z : Rows). own_of_image (with_cut (g.C.Core.stacks c.args.core.now) r.stack r.s) z r) c.cut_words.ensures.rows in
    unmoved (words_program c.args.kind r c.args.next) (own_of_image (g.C.Core.stacks c.cut_words.new.core) (g.C.Core.rows c.cut_words.new.core) r)
    (own_of_image (g.C.Core.stacks c.perform.new.core) (g.C.Core.rows c.perform.new.core) c.perform.new.regs) c.perform.result (none_ok c.perform.result c.ok.result c.ok.ensures.value none)
    c.perform.ensures.performs
    ∙ same
