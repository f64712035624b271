-- Where nobody waits and the run goes on, some process is out.
use Rattle.std.specs.Prelude.{slice_get}
use Rattle.std.proofs.Common.{◌≡◌, refl, ap, ℕ, zero, suc, ◌≤◌, true, List, [], ◌∷◌, None, arith}
use Rattle.b67_segment.specs.declared.code.Code.{Code}
use Rattle.b67_table.specs.declared.ProcessState.{ProcessState}
use Rattle.b67_table.specs.declared.ProcessState.TheVariants as states
use Rattle.b67_table.specs.Ending.{some_able}
use Rattle.b67_table.specs.Image.{is_able}
use Rattle.b67_action.specs.Able.{number_times, one_if, able_in}
use Rattle.b67_machine.proofs.Ends as machine
use Rattle.b67_joining.proofs.Able.{one_able}
use Rattle.b67_stands.specs.Running.{Running, answer_of}
use Rattle.b67_stands.specs.Placing.{some_holder, holder_of, IsOut}
use Rattle.b67_stands.specs.Stands.{Stands}
use Rattle.b67_stands.proofs.Ends.{goes_on}

able_at : (ss : List ProcessState) → some_able ss ≡ true → (k : ℕ) × (is_able (slice_get ss k) ≡ true)
able_at [] e = cc
able_at (states.Able ∷ ss) e = (0, refl)
able_at (states.WaitsFor at ∷ ss) e = let r = able_at ss e in (suc r.0, r.1)
able_at (states.WaitsAny ∷ ss) e = let r = able_at ss e in (suc r.0, r.1)
able_at (states.Procures at ∷ ss) e = let r = able_at ss e in (suc r.0, r.1)
able_at (states.Ended ∷ ss) e = let r = able_at ss e in (suc r.0, r.1)

out_by : (n : ℕ) → some_holder n ≡ 1 → 1 ≤ n
out_by zero e = cc
out_by (suc n) e = omega arith

pub some_out : (code : Code) (budget : ℕ) (s : Running) → Stands code budget s → answer_of budget s ≡ None → s.waiting ≡ [] → (p : ℕ) × IsOut s.out p
some_out code budget s stands going nobody =
    let goes = goes_on budget s going in
    let end = (machine.goes_on s.machine goes.end).end in
    let some = able_at s.machine.image.states (one_able s.machine.image end (omega (arith, stands.valid.states, stands.valid.some))) in
    let able : one_if (able_in s.machine.image (suc some.0)) ≡ 1 = ap one_if some.1 in
    let waits : number_times (suc some.0) s.waiting ≡ 0 = ap (number_times (suc some.0)) nobody in
    (suc some.0, out_by (holder_of s.out (suc some.0)) (omega (arith, stands.placed going (suc some.0), able, waits)))
