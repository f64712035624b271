use Rattle.std.proofs.Common.{◌≡◌, ◌∙◌, ℕ, List, length, refl, sym, ap, subst, arith}
use Rattle.std.proofs.lemmas.Result.{on_ok_weaker}
use Rattle.algol_tree.specs.declared.tree.Pair.{Pair}
use Rattle.algol_tree.specs.Image.{pairs}
use Rattle.b67_segment.specs.Operators.{size}
use Rattle.b67_segment.specs.Building.{level_set}
use Rattle.b67_templates.specs.Code.{AreDimensions}
use Rattle.b67_templates.specs.Emitting.{Emitted}
use Rattle.b67_emit_stmt.specs.Lengths.{arrays_syllables}
use Rattle.b67_emit_stmt.specs.Fits.{BoundsFit}
use Rattle.b67_emit_stmt.specs.Places.{ArraysAt}
use Rattle.b67_emit_stmt.proofs.Made.{arrays_fit, arrays_many, arrays_room, arrays_there, events_there, makes_not, none_room, none_there, tasks_there}
use Rattle.b67_emit_stmt.proofs.draft.StmtEmitter.make.Goals as goal

pub alike-requires : goal.alike-requires
alike-requires g c =
    let s = c.args.self.now.known.now in
    let a = c.args.out.now in
    let d = c.args.d.now in
    let w = c.in-Arrays in
    let sc = c.requires.fits.0 in
    let fit = arrays_fit d w.field-0 w.ns w.pairs w.is sc s (level_set a) c.requires.fits.1 in
    let many : c.len.result ≡ length w.ns = omega (arith, c.len.ensures, c.items.result.now.ok.0, ap length c.items.ensures) in
    let are : c.deref.result.now ≡ w.pairs = c.deref.ensures.value ∙ c.items-in-Arrays.ensures in
    let D : List Pair → Type 0 = λ l. AreDimensions (pairs l) in
    let F : List Pair → Type 0 = λ l. BoundsFit sc s (level_set a) (pairs l) in
    record {
      set = c.requires.set;
      near = c.requires.near;
      some = omega (arith, many, fit.2);
      few = omega (arith, many, arrays_many d w.field-0 w.ns w.pairs w.is, c.requires.few);
      dimensions = subst D (sym are) fit.0;
      fits = (sc, subst F (sym are) fit.1);
      room = omega (arith, ap (λ (l : List Pair). arrays_syllables s (pairs l)) are, arrays_room d w.field-0 w.ns w.pairs w.is s, c.requires.room);
    }

pub returns-in-Arrays-clause-code : goal.returns-in-Arrays-clause-code
returns-in-Arrays-clause-code g c =
    let s = c.args.self.now.known.now in
    let a = c.args.out.now in
    let x = c.alike.new.out in
    let d = c.args.d.now in
    let w = c.in-Arrays in
    let many : c.len.result ≡ length w.ns = omega (arith, c.len.ensures, c.items.result.now.ok.0, ap length c.items.ensures) in
    let are : c.deref.result.now ≡ w.pairs = c.deref.ensures.value ∙ c.items-in-Arrays.ensures in
    on_ok_weaker c.alike.result
    (λ code sc later fit.
    let F : List Pair → Type 0 = λ l. BoundsFit sc s (level_set a) (pairs l) in
    let A : ℕ → List Pair → Type 0 = λ n l. Emitted a x (λ qs. ArraysAt sc later qs (level_set a) n (pairs l) (size a.operators) (size x.operators)) in
    let there = code sc later (subst F (sym are) (arrays_fit d w.field-0 w.ns w.pairs w.is sc s (level_set a) fit).1) in
    arrays_there d w.field-0 w.ns w.pairs w.is sc later (level_set a) a x (subst (A (length w.ns)) are (subst (λ n. A n c.deref.result.now) many there)))
    c.alike.ensures.code

pub returns-in-Events-clause-code : goal.returns-in-Events-clause-code
returns-in-Events-clause-code g c =
    let a = c.args.out.now in
    let x = c.append_events.new.out in
    let ns = c.in-Events.ns in
    let many : c.len-in-Events.result ≡ length ns = omega (arith, c.len-in-Events.ensures, c.items-in-Events.result.now.ok.0, ap length c.items-in-Events.ensures) in
    on_ok_weaker c.append_events.result
    (λ code sc later fit. events_there c.args.d.now ns sc later (level_set a) a x (code sc later ns (sym many)) c.in-Events.is)
    c.append_events.ensures.code

pub returns-in-Tasks-clause-code : goal.returns-in-Tasks-clause-code
returns-in-Tasks-clause-code g c =
    let a = c.args.out.now in
    let x = c.append_events-in-Tasks.new.out in
    let ns = c.in-Tasks.ns in
    let many : c.len-in-Tasks.result ≡ length ns = omega (arith, c.len-in-Tasks.ensures, c.items-in-Tasks.result.now.ok.0, ap length c.items-in-Tasks.ensures) in
    on_ok_weaker c.append_events-in-Tasks.result
    (λ code sc later fit. tasks_there c.args.d.now ns sc later (level_set a) a x (code sc later ns (sym many)) c.in-Tasks.is)
    c.append_events-in-Tasks.ensures.code

pub returns-in_default : goal.returns-in_default
returns-in_default g c =
    let d = c.args.d.now in
    let w = c.in_default in
    let none = makes_not d w.not-Arrays w.not-Events w.not-Tasks in
    record {
      code = λ sc later fit. none_there d none sc later (level_set c.args.out.now) c.args.out.now;
      level = refl;
      size = omega (arith, none_room c.args.self.now.known.now d none);
    }
