use Rattle.std.proofs.Common.{◌≡◌, sym, ap, subst, ◌∙◌, ℕ, Bool, nat_lt, ◌+◌, ◌-◌, ◌<◌, length, Some, Ok, Err, arith}
use Rattle.b67_control.specs.declared.Registers.{Registers}
use Rattle.b67_store.specs.Store.{stack_limit}
use Rattle.b67_table.specs.Look.{look_seen}
use Rattle.b67_table.specs.Linkage.{entering, selected}
use Rattle.b67_reach.specs.Images.{own_of_image}
use Rattle.b67_reach.specs.Answers.{looked}
use Rattle.b67_operators.proofs.Accidents.{full_stops, full_limit}
use Rattle.b67_operators.proofs.entering.full.Goals as goal

pub returns-in_err-_found : goal.returns-in_err-_found
returns-in_err-_found g c =
    let st = g.C.Core.stacks c.args.core.now in
    let rows = g.C.Core.rows c.args.core.now in
    let none_taken : c.args.regs.now.s - 0 ≡ c.args.regs.now.s = omega arith in
    let test : nat_lt c.from.result c.args.regs.now.s ≡ nat_lt c.args.regs.now.f (c.args.regs.now.s - 0) =
    ap (λ (n : ℕ). nat_lt n c.args.regs.now.s) c.from.ensures ∙ ap (λ (n : ℕ). nat_lt c.args.regs.now.f n) (sym none_taken) in
    full_stops (own_of_image st rows c.args.regs.now) c.args.next 0 c.args.pcw.now c.args.home c.args.selector c.from_residual.result
    (own_of_image st rows c.entering_after.new.regs) 65535 c.in_err-_found.field-0.0 (ap (λ (q : Registers). own_of_image st rows q) c.entering_after.ensures.same)
    (subst (λ (b : Bool). Err c.in_err-_found.field-0.0 ≡ looked (look_seen st (entering c.args.regs.now c.args.next b 65535 c.args.pcw.now (Some c.args.home)))) test
    c.in_err-_found.ensures.value) c.from_residual.ensures.1

pub returns : goal.returns
returns g c =
    let st = g.C.Core.stacks c.args.core.now in
    let rows = g.C.Core.rows c.args.core.now in
    let none_taken : c.args.regs.now.s - 0 ≡ c.args.regs.now.s = omega arith in
    let test : nat_lt c.from.result c.args.regs.now.s ≡ nat_lt c.args.regs.now.f (c.args.regs.now.s - 0) =
    ap (λ (n : ℕ). nat_lt n c.args.regs.now.s) c.from.ensures ∙ ap (λ (n : ℕ). nat_lt c.args.regs.now.f n) (sym none_taken) in
    let long : stack_limit < c.args.regs.now.s - 0 + 2 + length (selected c.args.pcw.now.names c.args.selector) = omega (arith, c.requires.full) in
    full_limit (own_of_image st rows c.args.regs.now) c.args.next 0 c.args.pcw.now c.args.home c.args.selector (Ok tt)
    (own_of_image st rows c.entering_after.new.regs) 65535 c.in_ok-_found._found (ap (λ (q : Registers). own_of_image st rows q) c.entering_after.ensures.same)
    (subst (λ (b : Bool). Ok c.in_ok-_found._found ≡ looked (look_seen st (entering c.args.regs.now c.args.next b 65535 c.args.pcw.now (Some c.args.home)))) test
    c.in_ok-_found.ensures.value) long
