-- Chains of marks down a stack, step by step.
use Rattle.std.proofs.Common.{◌≡◌, refl, sym, ap, ◌∙◌, ℕ, zero, suc, ◌+◌, ◌-◌, ◌<◌, ◌≤◌, Bool, true, false, List, Option, Some, None, Result, Ok, Err, cond, arith}
use Rattle.std.specs.Prelude.{nat_lt, nat_le, nat_eq, ◌&&◌, if◌then◌else◌}
use Rattle.std.proofs.lemmas.Bool.{le-leb, lt-leb, cond-true, cond-false, and_from, and_left, and_right}
use Rattle.b67_word.specs.declared.Place.{Place}
use Rattle.b67_control.specs.declared.Mscw.{Mscw}
use Rattle.b67_control.specs.declared.Rcw.{Rcw}
use Rattle.b67_store.specs.Store.{Stacks}
use Rattle.b67_table.specs.declared.Below.{Below}
use Rattle.b67_table.specs.declared.InterruptKind.{InterruptKind}
use Rattle.b67_table.specs.declared.InterruptKind.TheVariants.{BrokenChain}
use Rattle.b67_table.specs.Look.{Look, found, stops, look_seen, ◌>->◌}
use Rattle.b67_table.specs.Chains.{place, below, chain_broken, mark_at, control_at, entered_from, entered_below, left_to, if_apart}
use Rattle.b67_table.specs.declared.Leaving.{Leaving}
use Rattle.b67_table.specs.Chains.{rebuilt}
use Rattle.b67_table.specs.Linkage.{leaving}
use Rattle.b67_display.proofs.Linking.{after, seen_then}

abbrev pub next_down : Stacks → ℕ → ℕ → ℕ → Mscw → Result ℕ InterruptKind
next_down st stack n here m = look_seen st (if m.entered then found here else below here m.df (λ (lower : ℕ). entered_from n stack lower))

one_step : (st : Stacks) (stack n here : ℕ) (m : Mscw) → look_seen st (mark_at (place stack here)) ≡ Ok m → m.entered ≡ false
    → look_seen st (entered_from (suc n) stack here) ≡ look_seen st (below here m.df (λ (lower : ℕ). entered_from n stack lower))
one_step st stack n here m e f =
    seen_then st (mark_at (place stack here)) (λ (k : Mscw). if k.entered then found here else below here k.df (λ (lower : ℕ). entered_from n stack lower))
    ∙ ap (λ (x : Result Mscw InterruptKind). after x (next_down st stack n here)) e
    ∙ ap (λ (b : Bool). look_seen st (cond b (found here) (below here m.df (λ (lower : ℕ). entered_from n stack lower)))) f

pub entered_step : (st : Stacks) (stack steps here : ℕ) (m : Mscw) → 0 < steps → look_seen st (mark_at (place stack here)) ≡ Ok m → m.entered ≡ false
    → look_seen st (entered_from steps stack here) ≡ look_seen st (below here m.df (λ (lower : ℕ). entered_from (steps - 1) stack lower))
entered_step st stack steps here m h e f =
    let j_is : steps ≡ suc (steps - 1) = omega (arith, h) in
    ap (λ (j : ℕ). look_seen st (entered_from j stack here)) j_is ∙ one_step st stack (steps - 1) here m e f

pub goes_down : (st : Stacks) (here df : ℕ) (next : ℕ → Look ℕ) → 1 ≤ df → df ≤ here → look_seen st (below here df next) ≡ look_seen st (next (here - df))
goes_down st here df next low high =
    ap (λ (b : Bool). look_seen st (cond b (next (here - df)) chain_broken)) (and_from (nat_le 1 df) (nat_le df here) (le-leb 1 df low) (le-leb df here high))

pub stands_still : (st : Stacks) (here df : ℕ) (next : ℕ → Look ℕ) → df ≡ 0 → look_seen st (below here df next) ≡ Err BrokenChain
stands_still st here df next e =
    ap (λ (b : Bool). look_seen st (cond b (next (here - df)) chain_broken)) (and_left (nat_le 1 df) (nat_le df here) (lt-leb 1 df (rw e (omega arith))))

pub goes_out : (st : Stacks) (here df : ℕ) (next : ℕ → Look ℕ) → here < df → look_seen st (below here df next) ≡ Err BrokenChain
goes_out st here df next h =
    ap (λ (b : Bool). look_seen st (cond b (next (here - df)) chain_broken)) (and_right (nat_le 1 df) (nat_le df here) (lt-leb df here h))

-- ---- what a frame is left to

abbrev pub apart : Stacks → Place → Mscw → Rcw → ℕ → Rcw → Result Below InterruptKind
apart st f m c lower unused = look_seen st (if_apart f.at (record { mark = f.at - m.df; frame = lower; control = c }))

abbrev pub above_lower : Stacks → Place → Mscw → Rcw → ℕ → Result Below InterruptKind
above_lower st f m c lower = after (look_seen st (control_at (place f.stack lower))) (apart st f m c lower)

abbrev lower_look : Place → Mscw → Rcw → ℕ → Look Below
lower_look f m c lower = control_at (place f.stack lower) >-> (λ (unused : Rcw). if_apart f.at (record { mark = f.at - m.df; frame = lower; control = c }))

abbrev from_control : Place → Mscw → Rcw → Look Below
from_control f m c = (if nat_le m.df f.at then entered_below f.stack (f.at - m.df) else chain_broken) >-> lower_look f m c

abbrev from_mark : Place → Mscw → Look Below
from_mark f m = control_at f >-> (λ (c : Rcw). from_control f m c)

abbrev lower_seen : Stacks → Place → Mscw → Rcw → Result ℕ InterruptKind → Result Below InterruptKind
lower_seen st f m c r = after r (λ (lower : ℕ). look_seen st (lower_look f m c lower))

pub left_from : (st : Stacks) (f : Place) (m : Mscw) (c : Rcw) → look_seen st (mark_at f) ≡ Ok m → look_seen st (control_at f) ≡ Ok c → m.df ≤ f.at
    → look_seen st (left_to f) ≡ lower_seen st f m c (look_seen st (entered_below f.stack (f.at - m.df)))
left_from st f m c marked controlled low =
    seen_then st (mark_at f) (λ (k : Mscw). from_mark f k)
    ∙ ap (λ (x : Result Mscw InterruptKind). after x (λ (k : Mscw). look_seen st (from_mark f k))) marked
    ∙ seen_then st (control_at f) (λ (k : Rcw). from_control f m k)
    ∙ ap (λ (x : Result Rcw InterruptKind). after x (λ (k : Rcw). look_seen st (from_control f m k))) controlled
    ∙ seen_then st (if nat_le m.df f.at then entered_below f.stack (f.at - m.df) else chain_broken) (λ (lower : ℕ). lower_look f m c lower)
    ∙ ap (λ (b : Bool). lower_seen st f m c (look_seen st (cond b (entered_below f.stack (f.at - m.df)) chain_broken))) (le-leb m.df f.at low)

-- nothing entered is below
pub left_nowhere : (st : Stacks) (f : Place) (m : Mscw) (c : Rcw) (kind : InterruptKind) → look_seen st (mark_at f) ≡ Ok m → look_seen st (control_at f) ≡ Ok c → m.df ≤ f.at
    → look_seen st (entered_below f.stack (f.at - m.df)) ≡ Err kind → look_seen st (left_to f) ≡ Err kind
left_nowhere st f m c kind marked controlled low e =
    left_from st f m c marked controlled low ∙ ap (λ (r : Result ℕ InterruptKind). lower_seen st f m c r) e

-- an entered mark is below
pub left_lower : (st : Stacks) (f : Place) (m : Mscw) (c : Rcw) (lower : ℕ) → look_seen st (mark_at f) ≡ Ok m → look_seen st (control_at f) ≡ Ok c → m.df ≤ f.at
    → look_seen st (entered_below f.stack (f.at - m.df)) ≡ Ok lower → look_seen st (left_to f) ≡ above_lower st f m c lower
left_lower st f m c lower marked controlled low e =
    left_from st f m c marked controlled low ∙ ap (λ (r : Result ℕ InterruptKind). lower_seen st f m c r) e
    ∙ seen_then st (control_at (place f.stack lower)) (λ (unused : Rcw). if_apart f.at (record { mark = f.at - m.df; frame = lower; control = c }))

pub is_apart : (st : Stacks) (left : ℕ) (b : Below) → b.frame + 2 + b.control.caller_cells ≤ left → look_seen st (if_apart left b) ≡ Ok b
is_apart st left b h = ap (λ (t : Bool). look_seen st (cond t (found b) chain_broken)) (le-leb (b.frame + 2 + b.control.caller_cells) left h)

pub is_not_apart : (st : Stacks) (left : ℕ) (b : Below) → left < b.frame + 2 + b.control.caller_cells → look_seen st (if_apart left b) ≡ Err BrokenChain
is_not_apart st left b h = ap (λ (t : Bool). look_seen st (cond t (found b) chain_broken)) (lt-leb (b.frame + 2 + b.control.caller_cells) left h)

-- ---- what leaving finds

abbrev to_display : Place → Below → Look Leaving
to_display f b = rebuilt (place f.stack b.frame) b.control.caller_level >-> (λ (display : List (Option Place)). found (record { below = b; display = display }))

abbrev pub with_display : Below → Result (List (Option Place)) InterruptKind → Result Leaving InterruptKind
with_display b r = after r (λ (display : List (Option Place)). Ok (record { below = b; display = display }))

pub leaving_nowhere : (st : Stacks) (f : Place) (kind : InterruptKind) → look_seen st (left_to f) ≡ Err kind → look_seen st (leaving f) ≡ Err kind
leaving_nowhere st f kind e =
    seen_then st (left_to f) (λ (b : Below). to_display f b) ∙ ap (λ (r : Result Below InterruptKind). after r (λ (b : Below). look_seen st (to_display f b))) e

pub leaving_below : (st : Stacks) (f : Place) (b : Below) → look_seen st (left_to f) ≡ Ok b
    → look_seen st (leaving f) ≡ with_display b (look_seen st (rebuilt (place f.stack b.frame) b.control.caller_level))
leaving_below st f b e =
    seen_then st (left_to f) (λ (k : Below). to_display f k) ∙ ap (λ (r : Result Below InterruptKind). after r (λ (k : Below). look_seen st (to_display f k))) e
    ∙ seen_then st (rebuilt (place f.stack b.frame) b.control.caller_level) (λ (display : List (Option Place)). found (record { below = b; display = display }))
