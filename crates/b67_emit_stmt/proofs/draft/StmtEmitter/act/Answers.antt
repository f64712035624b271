use Rattle.std.proofs.Common.{List, [], ◌∷◌, arith, length, ap, subst}
use Rattle.std.proofs.lemmas.Result.{on_ok_weaker}
use Rattle.algol_tree.specs.declared.tree.EventName.{EventName}
use Rattle.b67_ops.specs.declared.intrinsic.Intrinsic.{Intrinsic}
use Rattle.b67_segment.specs.Operators.{size}
use Rattle.b67_segment.specs.Building.{level_set}
use Rattle.b67_templates.specs.Emitting.{Emitted}
use Rattle.b67_emitter.specs.Values.{EventsEmitted}
use Rattle.b67_emit_stmt.specs.Places.{OnEventsAt, context_in}
use Rattle.b67_emit_stmt.proofs.draft.StmtEmitter.act.Goals as goal

pub append_on_events-requires-clause-code : goal.append_on_events-requires-clause-code
append_on_events-requires-clause-code g c =
    let sc = c.requires.fits.0 in
    rw c.from_ref.ensures.value (record { scopes = sc.scopes; own = level_set c.args.out.now; outer = omega arith; fits = (c.requires.fits.1, tt) })

pub append_on_events-requires-clause-room : goal.append_on_events-requires-clause-room
append_on_events-requires-clause-room g c = omega (arith, ap length c.from_ref.ensures.value, c.requires.room)

pub returns-clause-code : goal.returns-clause-code
returns-clause-code g c =
    let a = c.args.out.now in
    let b = c.append_on_events.new.out in
    let e = c.args.e.now in
    on_ok_weaker c.append_on_events.result
    (λ h sc later fit.
    let I : Intrinsic → Type 0 = λ i. Emitted a b (λ qs. OnEventsAt sc later qs (level_set a) i (e.name ∷ []) (size a.operators) (size b.operators)) in
    let E : List EventName → Type 0 = λ es. EventsEmitted c.args.self.now.known.now.names.now (level_set a) a b c.intrinsic_for.result es in
    let one : E (e ∷ []) = subst E c.from_ref.ensures.value h in
    subst I c.intrinsic_for.ensures (one.code sc.scopes (context_in sc later (level_set a)) (fit, tt)))
    c.append_on_events.ensures.code

pub returns-clause-size : goal.returns-clause-size
returns-clause-size g c =
    on_ok_weaker c.append_on_events.result (λ wide. omega (arith, ap length c.from_ref.ensures.value, wide)) c.append_on_events.ensures.size
