use Rattle.std.proofs.Common.{◌≡◌, ◌∙◌, true, false, ap, sym, arith, rules}
use Rattle.b67_store.specs.Store.{opened_at, exceeds}
use Rattle.b67_flat.specs.Spans.{place_for, span_opened as opened}
use Rattle.b67_flat.specs.Flat.{bare_rows}
use Rattle.b67_flat.proofs.Opened.{exceeds_seen, least_seen, least_unheld, long_rows, placed_below, placed_within, reclosed, row_placed}
use Rattle.b67_flat.proofs.flat_core.FlatCoreCore.open_row.Goals as goal

pub returns-then-exceeds-clause-fault : goal.returns-then-exceeds-clause-fault
returns-then-exceeds-clause-fault c =
    let over : exceeds (bare_rows c.self.inside.rows) c.args.length c.args.counted ≡ true = search rules in
    rw (← c.self.view_is) (sym (exceeds_seen c.self.inside.words.items c.self.inside.spans c.self.inside.rows c.self.invariant.0 c.self.invariant.1 c.args.length c.args.counted) ∙ over)

pub returns-in_default-clause-fault : goal.returns-in_default-clause-fault
returns-in_default-clause-fault c =
    let fits : exceeds (bare_rows c.self.inside.rows) c.args.length c.args.counted ≡ false = search rules in
    rw (← c.self.view_is) (sym (exceeds_seen c.self.inside.words.items c.self.inside.spans c.self.inside.rows c.self.invariant.0 c.self.invariant.1 c.args.length c.args.counted) ∙ fits)

pub returns-in_default-open_span-clause-fault : goal.returns-in_default-open_span-clause-fault
returns-in_default-open_span-clause-fault c =
    let fits : exceeds (bare_rows c.self.inside.rows) c.args.length c.args.counted ≡ false = search rules in
    rw (← c.self.view_is) (sym (exceeds_seen c.self.inside.words.items c.self.inside.spans c.self.inside.rows c.self.invariant.0 c.self.invariant.1 c.args.length c.args.counted) ∙ fits)

pub returns-in_default-open_span-clause-unchanged : goal.returns-in_default-open_span-clause-unchanged
returns-in_default-open_span-clause-unchanged c =
    rw (c.in_default-open_span.ensures.words.1, ← c.self.view_is) (long_rows c.self.inside.words.items c.self.inside.spans c.self.inside.rows c.self.invariant.0 c.self.invariant.1 c.in_default-open_span.ensures.words.0)

pub zero-requires : goal.zero-requires
zero-requires c =
    let spans : c.open_span.new.spans ≡ opened c.args.length c.in-Some.number c.self.inside.spans = search rules in
    let place : c.in-Ok.place ≡ place_for c.args.length c.self.inside.spans = search rules in
    omega (arith, placed_within c.open_span.new.words.items c.args.length c.in-Some.number c.self.inside.spans c.open_span.new.spans c.in-Ok.place spans place c.in-Ok.ensures.memory, c.open_span.new.words.ok)

pub invariant_of-self-in-Ok-open : goal.invariant_of-self-in-Ok-open
invariant_of-self-in-Ok-open c =
    let spans : c.open_span.new.spans ≡ opened c.args.length c.in-Some.number c.self.inside.spans = search rules in
    let place : c.in-Ok.place ≡ place_for c.args.length c.self.inside.spans = search rules in
    let free = least_unheld c.self.inside.rows c.in-Some.number c.in-Some.ensures.0 in
    let now = row_placed c.self.inside.words.items c.open_span.new.words.items c.zero.new.words.items c.self.inside.spans c.open_span.new.spans c.self.inside.rows c.in-Some.number c.in-Ok.ensures.words.0 (record { place = c.in-Ok.place; length = c.args.length; counted = c.args.counted }) c.self.invariant.0 c.self.invariant.1 free c.in-Ok.ensures.words.1 spans place c.zero.ensures c.in-Ok.ensures.memory in
    let same : c.in-Ok-open.opened ≡ c.in-Some.number = c.in-Ok-open.ensures.number.0 ∙ sym c.in-Some.ensures.0 in
    let table : c.open.new.self ≡ opened_at c.self.inside.rows c.in-Some.number (record { place = c.in-Ok.place; length = c.args.length; counted = c.args.counted }) = c.in-Ok-open.ensures.rows ∙ ap (λ n. opened_at c.self.inside.rows n (record { place = c.in-Ok.place; length = c.args.length; counted = c.args.counted })) same in
    rw table (now.memory_now, now.are_now)

pub close-requires : goal.close-requires
close-requires c =
    let spans : c.open_span.new.spans ≡ opened c.args.length c.in-Some.number c.self.inside.spans = search rules in
    let place : c.in-Ok.place ≡ place_for c.args.length c.self.inside.spans = search rules in
    placed_below c.args.length c.in-Some.number c.self.inside.spans c.open_span.new.spans c.in-Ok.place spans place c.in-Ok.ensures.memory.0

pub invariant_of-self-in_default-open : goal.invariant_of-self-in_default-open
invariant_of-self-in_default-open c =
    let spans : c.open_span.new.spans ≡ opened c.args.length c.in-Some.number c.self.inside.spans = search rules in
    let place : c.in-Ok.place ≡ place_for c.args.length c.self.inside.spans = search rules in
    let free = least_unheld c.self.inside.rows c.in-Some.number c.in-Some.ensures.0 in
    let now = row_placed c.self.inside.words.items c.open_span.new.words.items c.zero.new.words.items c.self.inside.spans c.open_span.new.spans c.self.inside.rows c.in-Some.number c.in-Ok.ensures.words.0 (record { place = c.in-Ok.place; length = c.args.length; counted = c.args.counted }) c.self.invariant.0 c.self.invariant.1 free c.in-Ok.ensures.words.1 spans place c.zero.ensures c.in-Ok.ensures.memory in
    let kept : c.open.new.self ≡ c.self.inside.rows = search rules in
    let back : c.close.new.self ≡ c.self.inside.spans = c.close.ensures ∙ reclosed c.args.length c.in-Some.number c.self.inside.spans c.open_span.new.spans c.in-Ok.place spans place c.self.invariant.0.0 in
    rw (back, kept) (now.memory_still, c.self.invariant.1)

pub returns-in_default-open-clause-fault : goal.returns-in_default-open-clause-fault
returns-in_default-open-clause-fault c =
    let fits : exceeds (bare_rows c.self.inside.rows) c.args.length c.args.counted ≡ false = search rules in
    rw (← c.self.view_is) (sym (exceeds_seen c.self.inside.words.items c.self.inside.spans c.self.inside.rows c.self.invariant.0 c.self.invariant.1 c.args.length c.args.counted) ∙ fits)

pub returns-in_default-open-clause-unchanged : goal.returns-in_default-open-clause-unchanged
returns-in_default-open-clause-unchanged c =
    let spans : c.open_span.new.spans ≡ opened c.args.length c.in-Some.number c.self.inside.spans = search rules in
    let place : c.in-Ok.place ≡ place_for c.args.length c.self.inside.spans = search rules in
    let free = least_unheld c.self.inside.rows c.in-Some.number c.in-Some.ensures.0 in
    let now = row_placed c.self.inside.words.items c.open_span.new.words.items c.zero.new.words.items c.self.inside.spans c.open_span.new.spans c.self.inside.rows c.in-Some.number c.in-Ok.ensures.words.0 (record { place = c.in-Ok.place; length = c.args.length; counted = c.args.counted }) c.self.invariant.0 c.self.invariant.1 free c.in-Ok.ensures.words.1 spans place c.zero.ensures c.in-Ok.ensures.memory in
    let kept : c.open.new.self ≡ c.self.inside.rows = search rules in
    rw (kept, ← c.self.view_is) now.rows_still

pub returns-in_default-open-clause-kept : goal.returns-in_default-open-clause-kept
returns-in_default-open-clause-kept c =
    let spans : c.open_span.new.spans ≡ opened c.args.length c.in-Some.number c.self.inside.spans = search rules in
    let place : c.in-Ok.place ≡ place_for c.args.length c.self.inside.spans = search rules in
    rw (← c.self.view_is) (c.close.ensures ∙ reclosed c.args.length c.in-Some.number c.self.inside.spans c.open_span.new.spans c.in-Ok.place spans place c.self.invariant.0.0)

pub returns-clause-number : goal.returns-clause-number
returns-clause-number c =
    rw (← c.self.view_is) (least_seen c.self.inside.words.items c.self.inside.rows c.in-Ok-open.opened c.in-Ok-open.ensures.number.0, c.in-Ok-open.ensures.number.1)

pub returns-clause-room : goal.returns-clause-room
returns-clause-room c =
    let fits : exceeds (bare_rows c.self.inside.rows) c.args.length c.args.counted ≡ false = search rules in
    rw (← c.self.view_is) (sym (exceeds_seen c.self.inside.words.items c.self.inside.spans c.self.inside.rows c.self.invariant.0 c.self.invariant.1 c.args.length c.args.counted) ∙ fits)

pub returns-clause-rows : goal.returns-clause-rows
returns-clause-rows c =
    let spans : c.open_span.new.spans ≡ opened c.args.length c.in-Some.number c.self.inside.spans = search rules in
    let place : c.in-Ok.place ≡ place_for c.args.length c.self.inside.spans = search rules in
    let free = least_unheld c.self.inside.rows c.in-Some.number c.in-Some.ensures.0 in
    let now = row_placed c.self.inside.words.items c.open_span.new.words.items c.zero.new.words.items c.self.inside.spans c.open_span.new.spans c.self.inside.rows c.in-Some.number c.in-Ok.ensures.words.0 (record { place = c.in-Ok.place; length = c.args.length; counted = c.args.counted }) c.self.invariant.0 c.self.invariant.1 free c.in-Ok.ensures.words.1 spans place c.zero.ensures c.in-Ok.ensures.memory in
    let same : c.in-Ok-open.opened ≡ c.in-Some.number = c.in-Ok-open.ensures.number.0 ∙ sym c.in-Some.ensures.0 in
    let table : c.open.new.self ≡ opened_at c.self.inside.rows c.in-Some.number (record { place = c.in-Ok.place; length = c.args.length; counted = c.args.counted }) = c.in-Ok-open.ensures.rows ∙ ap (λ n. opened_at c.self.inside.rows n (record { place = c.in-Ok.place; length = c.args.length; counted = c.args.counted })) same in
    rw (table, same, ← c.self.view_is) now.rows_now
