use Rattle.std.proofs.Common.{◌≡◌, ◌<◌, ◌≤◌, sym, subst, ◌∙◌, ◌+◌, ◌-◌, ◌++◌, length, take, drop, set, arith}
use Rattle.std.proofs.lemmas.List.{length-drop, length-set, take_more_set}
use Rattle.b67_table.specs.Image.{Image}
use Rattle.b67_table.proofs.Cited.{keeps_both}
use Rattle.b67_store.specs.Store.{with_cut}
use Rattle.b67_reach.specs.Images.{Own, with_own}
use Rattle.b67_action.specs.declared.running.Ran.{Ran}
use Rattle.b67_action.specs.Reaching.{own_of}
use Rattle.b67_action.specs.Running.{HasRun}
use Rattle.b67_action.proofs.InStore.{in_again, own_twice}
use Rattle.b67_action.proofs.Runs.{run_last, run_then, rest_size, whole_again, noted_then}
use Rattle.b67_action.proofs.reaching.run_open.Goals as goal

pub running-init : goal.running-init
running-init g c = record {
  ran = c.run_here-ran.ensures.ran;
  «open» = c.run_here-ran.ensures.«open»;
  size = c.run_here-ran.ensures.size;
  entries = c.run_here-ran.ensures.entries;
  counted = c.run_here-ran.ensures.counted;
  most = c.run_here-ran.ensures.most;
  keeps = c.run_here-ran.ensures.keeps;
}

pub reach-requires-clause-stands : goal.reach-requires-clause-stands
reach-requires-clause-stands g c =
    let code = c.args.code.now in
    let img = c.requires.stands.0 in
    let p = c.requires.stands.1 in
    let x = own_of (g.C.Core.stacks c.running.core) (g.C.Core.rows c.running.core) c.running.regs in (
      with_own x p img,
      p,
      in_again code img p (with_cut (g.C.Core.stacks c.args.core.now) c.args.regs.now.stack c.args.regs.now.s) (g.C.Core.rows c.args.core.now) c.args.regs.now c.requires.stands.2 x (c.running.invariant.ran img p c.requires.stands.2).valid,
    )

pub returns-in_default-clause-ran : goal.returns-in_default-clause-ran
returns-in_default-clause-ran g c = λ img p h.
    subst (λ (x : Own). HasRun c.args.code.now p c.args.most img c.running.ran c.running.letters (with_own x p img)) (sym (c.reach.ensures.none c.in_default.is))
    (c.running.invariant.ran img p h)

-- the letter of the action is the last that can be noted
pub returns-then-ran-letters-clause-ran : goal.returns-then-ran-letters-clause-ran
returns-then-ran-letters-clause-ran g c = λ img p h.
    let code = c.args.code.now in
    let st = with_cut (g.C.Core.stacks c.args.core.now) c.args.regs.now.stack c.args.regs.now.s in
    let rows = g.C.Core.rows c.args.core.now in
    let x = own_of (g.C.Core.stacks c.running.core) (g.C.Core.rows c.running.core) c.running.regs in
    let y = own_of (g.C.Core.stacks c.reach.new.core) (g.C.Core.rows c.reach.new.core) c.reach.new.regs in
    let old = c.running.ran in
    let letter = c.in-Some.letter in
    let first = c.running.letters in
    let noted = set first old.entries letter in
    let less : old.entries < length first = omega (arith, c.running-test.true) in
    let ran : Ran = record { entries = old.entries + 1; operators = old.operators + (old.plain + 1); plain = 0 } in
    let a = with_own x p img in
    let ha = in_again code img p st rows c.args.regs.now h x (c.running.invariant.ran img p h).valid in
    subst (λ (i : Image). HasRun code p c.args.most img ran noted i) (own_twice img p x y)
    (run_last code p img c.args.most old first noted letter a (with_own y p a) (c.running.invariant.ran img p h) (c.in-Some.ensures.went a p ha) c.if-ran-letters.true
    (take_more_set first old.entries letter less))

pub run_here-more-requires-clause-stands : goal.run_here-more-requires-clause-stands
run_here-more-requires-clause-stands g c =
    let code = c.args.code.now in
    let img = c.requires.stands.0 in
    let p = c.requires.stands.1 in
    let x = own_of (g.C.Core.stacks c.running.core) (g.C.Core.rows c.running.core) c.running.regs in
    let y = own_of (g.C.Core.stacks c.reach.new.core) (g.C.Core.rows c.reach.new.core) c.reach.new.regs in
    let hx = in_again code img p (with_cut (g.C.Core.stacks c.args.core.now) c.args.regs.now.stack c.args.regs.now.s) (g.C.Core.rows c.args.core.now) c.args.regs.now c.requires.stands.2 x (c.running.invariant.ran img p c.requires.stands.2).valid in (
      with_own y p (with_own x p img),
      p,
      in_again code (with_own x p img) p x.stacks x.rows x.regs hx y (c.in-Some.ensures.went (with_own x p img) p hx).gone.valid,
    )

pub running-preserved : goal.running-preserved
running-preserved g c =
    let code = c.args.code.now in
    let st = with_cut (g.C.Core.stacks c.args.core.now) c.args.regs.now.stack c.args.regs.now.s in
    let rows = g.C.Core.rows c.args.core.now in
    let r = c.args.regs.now in
    let x = own_of (g.C.Core.stacks c.running.core) (g.C.Core.rows c.running.core) c.running.regs in
    let y = own_of (g.C.Core.stacks c.reach.new.core) (g.C.Core.rows c.reach.new.core) c.reach.new.regs in
    let z = own_of (g.C.Core.stacks c.run_here-more.new.core) (g.C.Core.rows c.run_here-more.new.core) c.run_here-more.new.regs in
    let more = c.run_here-more.result in
    let old = c.running.ran in
    let second = c.run_here-more.new.letters in
    let letter = c.in-Some.letter in
    let first = c.running.letters in
    let noted = set first old.entries letter in
    let less : old.entries < length first = omega (arith, c.running-test.true) in
    let within : old.entries + 1 ≤ length noted = omega (arith, less, length-set first old.entries letter) in
    let rest = rest_size noted second (old.entries + 1) within c.run_here-more.ensures.size in
    let post = drop (length noted - (old.entries + 1)) (drop (old.entries + 1) noted) in
    let all = take (old.entries + 1) noted ++ (second ++ post) in
    let empty : length post ≡ 0 =
    omega (arith, within, length-drop (length noted - (old.entries + 1)) (drop (old.entries + 1) noted), length-drop (old.entries + 1) noted) in
    let whole : length all ≡ length noted = whole_again noted second post (old.entries + 1) within rest empty in
    let few : old.entries + 1 + more.entries ≤ length all = omega (arith, c.run_here-more.ensures.entries, rest, whole) in
    let ran : Ran = record { entries = old.entries + 1 + more.entries; operators = old.operators + (old.plain + 1) + more.operators; plain = more.plain } in
    record {
      ran = λ img p h.
          let a = with_own x p img in
          let b = with_own y p a in
          let ha = in_again code img p st rows r h x (c.running.invariant.ran img p h).valid in
          let went = c.in-Some.ensures.went a p ha in
          let hb = in_again code a p x.stacks x.rows x.regs ha y went.gone.valid in
          subst (λ (i : Image). HasRun code p c.args.most img ran all i) (own_twice a p y z ∙ own_twice img p x z)
          (run_then code p img c.args.most old more first second all letter a b (with_own z p b) (c.running.invariant.ran img p h) went (c.run_here-more.ensures.ran b p hb)
          few (omega (arith, rest, within, c.if-ran-letters.false)) (omega (arith, rest, whole)) (noted_then first second post old.entries more.entries letter less c.run_here-more.ensures.entries));
      «open» = c.run_here-more.ensures.«open»;
      size = whole ∙ length-set first old.entries letter ∙ c.running.invariant.size;
      entries = few;
      counted = omega (arith, c.running.invariant.counted, c.run_here-more.ensures.counted);
      most = omega (arith, c.run_here-more.ensures.most, c.running-test.true);
      keeps = keeps_both r y.regs z.regs (keeps_both r x.regs y.regs c.running.invariant.keeps c.reach.ensures.keeps) c.run_here-more.ensures.keeps;
    }

pub returns-else-ran-most-clause-ran : goal.returns-else-ran-most-clause-ran
returns-else-ran-most-clause-ran g c = c.running.invariant.ran

pub returns-after-running-clause-ran : goal.returns-after-running-clause-ran
returns-after-running-clause-ran g c = c.running.invariant.ran
