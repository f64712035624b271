use Rattle.std.proofs.Common.{subst, ◌∙◌}
use Rattle.b67_store.specs.Store.{with_cut}
use Rattle.b67_table.specs.Image.{Image}
use Rattle.b67_table.proofs.Cited.{keeps_both}
use Rattle.b67_reach.specs.Images.{with_own}
use Rattle.b67_action.specs.Reaching.{own_of}
use Rattle.b67_action.specs.Running.{HasCome, HasRun}
use Rattle.b67_action.proofs.InStore.{in_again, own_twice}
use Rattle.b67_action.proofs.Open.{one_loan_less}
use Rattle.b67_action.proofs.Runs.{come_none}
use Rattle.b67_action.proofs.reaching.run_here.Goals as goal

pub run_lent-lent-requires-clause-stands : goal.run_lent-lent-requires-clause-stands
run_lent-lent-requires-clause-stands g c =
    let img = c.requires.stands.0 in
    let p = c.requires.stands.1 in
    (img, img, p, c.requires.stands.2, come_none c.args.code.now p img c.args.letters.now c.requires.stands.2.valid)

pub lending-init : goal.lending-init
lending-init g c = record {
  come = λ img p h. c.run_lent-lent.ensures.come img img p h (come_none c.args.code.now p img c.args.letters.now h.valid);
  ran = λ no img p h. c.run_lent-lent.ensures.ran no img img p h (come_none c.args.code.now p img c.args.letters.now h.valid);
  is_open = c.run_lent-lent.ensures.is_open;
  «open» = c.run_lent-lent.ensures.«open»;
  size = c.run_lent-lent.ensures.size;
  entries = c.run_lent-lent.ensures.entries;
  counted = c.run_lent-lent.ensures.counted;
  most = c.run_lent-lent.ensures.most;
  keeps = c.run_lent-lent.ensures.keeps;
}

pub run_lent-next-requires-clause-stands : goal.run_lent-next-requires-clause-stands
run_lent-next-requires-clause-stands g c =
    let code = c.args.code.now in
    let img = c.requires.stands.0 in
    let p = c.requires.stands.1 in
    let h = c.requires.stands.2 in
    let x = own_of (g.C.Core.stacks c.lending.core) (g.C.Core.rows c.lending.core) c.lending.regs in
    let come = c.lending.invariant.come img p h in (
      img,
      with_own x p img,
      p,
      in_again code img p (with_cut (g.C.Core.stacks c.args.core.now) c.args.regs.now.stack c.args.regs.now.s) (g.C.Core.rows c.args.core.now) c.args.regs.now h x come.valid,
      come,
    )

pub run_lent-next-requires-clause-is_open : goal.run_lent-next-requires-clause-is_open
run_lent-next-requires-clause-is_open g c = c.lending.invariant.is_open c.lending-test.true

pub lending-preserved : goal.lending-preserved
lending-preserved g c =
    let code = c.args.code.now in
    let st = with_cut (g.C.Core.stacks c.args.core.now) c.args.regs.now.stack c.args.regs.now.s in
    let rows = g.C.Core.rows c.args.core.now in
    let r = c.args.regs.now in
    let x = own_of (g.C.Core.stacks c.lending.core) (g.C.Core.rows c.lending.core) c.lending.regs in
    let z = own_of (g.C.Core.stacks c.run_lent-next.new.core) (g.C.Core.rows c.run_lent-next.new.core) c.run_lent-next.new.regs in
    let ran = c.run_lent-next.result.ran in
    let letters = c.run_lent-next.new.letters in
    record {
      come = λ img p h.
          let come = c.lending.invariant.come img p h in
          subst (λ (i : Image). HasCome code p img ran letters i) (own_twice img p x z)
          (c.run_lent-next.ensures.come img (with_own x p img) p (in_again code img p st rows r h x come.valid) come);
      ran = λ no img p h.
          let come = c.lending.invariant.come img p h in
          subst (λ (i : Image). HasRun code p c.args.most img ran letters i) (own_twice img p x z)
          (c.run_lent-next.ensures.ran no img (with_own x p img) p (in_again code img p st rows r h x come.valid) come);
      is_open = c.run_lent-next.ensures.is_open;
      «open» = c.run_lent-next.ensures.«open»;
      size = c.run_lent-next.ensures.size ∙ c.lending.invariant.size;
      entries = c.run_lent-next.ensures.entries;
      counted = c.run_lent-next.ensures.counted;
      most = c.run_lent-next.ensures.most;
      keeps = keeps_both r x.regs z.regs c.lending.invariant.keeps c.run_lent-next.ensures.keeps;
    }

pub lending-smaller : goal.lending-smaller
lending-smaller g c =
    one_loan_less c.lending.lent.short c.run_lent-next.result.short c.lending.regs.s c.run_lent-next.new.regs.s c.lending-test.true c.run_lent-next.ensures.longer
    c.run_lent-next.ensures.«open».room

pub returns-clause-ran : goal.returns-clause-ran
returns-clause-ran g c = c.lending.invariant.ran c.lending-test.false
