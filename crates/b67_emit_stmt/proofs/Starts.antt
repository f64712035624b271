-- PROCESS: its start, the actuals, the entry.
use Rattle.std.proofs.Common.{◌≡◌, ℕ, ◌+◌, ◌≤◌, refl, sym, subst, arith}
use Rattle.std.specs.Prelude.{IsSome, Option, Some}
use Rattle.algol_tree.specs.declared.tree.Named.{Named}
use Rattle.algol_tree.specs.Blocks.{block_numbered}
use Rattle.algol_tree.specs.Plain as tree
use Rattle.algol_tree.specs.Plain.{PCall, PExprs}
use Rattle.algol_tree.specs.Scopes.{use_of}
use Rattle.algol_meaning.specs.Settle.{sorts_of}
use Rattle.b67_ops.specs.declared.Couple.{Couple}
use Rattle.b67_ops.specs.declared.Operator.TheVariants as ops
use Rattle.b67_ops.specs.declared.PlainKind.TheVariants as kinds
use Rattle.b67_ops.specs.declared.intrinsic.Intrinsic.TheVariants.{Start}
use Rattle.b67_ops.specs.Spelling.{CoupleIsSeen}
use Rattle.b67_segment.specs.Operators.{Placed, size}
use Rattle.b67_segment.specs.Building.{Built}
use Rattle.b67_templates.specs.Cells.{IsProcedure, parameter_wants}
use Rattle.b67_templates.specs.Code.{ActualsAt}
use Rattle.b67_templates.specs.Emitting.{Emitted}
use Rattle.b67_templates.specs.Events.{TaskAt}
use Rattle.b67_templates.specs.Fragments.{Has, IntrinsicAt}
use Rattle.b67_emitter.specs.Values.{couples, filled_syllables, AreNear, HasCall, HasTask}
use Rattle.b67_emitter.proofs.Composing.{then, weaker}
use Rattle.b67_emitter.proofs.Seen.{some, seen_up}
use Rattle.b67_emit_stmt.specs.declared.draft.Known.{Known}
use Rattle.b67_emit_stmt.specs.Fits.{StartFits}
use Rattle.b67_emit_stmt.specs.Lengths.{expr_syllables}
use Rattle.b67_emit_stmt.specs.Places.{Later, Place, StartAt, context_in}

-- the actuals and the entry are shorter than the call by what a call begins with
pub filled_less : (s : Known) (c : PCall) (n : Named) (es : PExprs) → c ≡ tree.called n es → filled_syllables s.names.now c + 11 ≡ expr_syllables s (tree.call c)
filled_less s c n es is =
    let L : PCall → Type 0 = λ x. filled_syllables s.names.now x + 11 ≡ expr_syllables s (tree.call x) in
    let own : L (tree.called n es) = omega arith in
    subst L (sym is) own

module _ (s : Known) (sc : Place) (level : ℕ) (n : Named) (es : PExprs) (task : Option Named) (fit : StartFits sc s level n es task) where
  pub started_known : IsSome (couples s.names.now n.spot)
  started_known = some (couples s.names.now n.spot) (fit.1).couple (fit.1).known_is

  pub started_seen : (c : Couple) → AreNear s.names.now → couples s.names.now n.spot ≡ Some c → CoupleIsSeen level c
  started_seen c near is =
      let same : (fit.1).couple ≡ c = cc ((fit.1).known_is, is) in
      let I : Couple → Type 0 = λ d. CoupleIsSeen level d in
      subst I same (seen_up level (fit.1).couple (use_of sc.scopes n).up (near.own n.spot (fit.1).couple (fit.1).known_is) (fit.1).procedure.level_is)

  pub actuals_have : (l : ℕ) (c : PCall) → l ≡ level → c ≡ tree.called n es → HasCall s.names.now l c
  actuals_have l c same is = record {
    scopes = sc.scopes;
    own = level;
    block = sc.block;
    name = n;
    actuals = es;
    callee = fit.0;
    call_is = is;
    outer = omega (arith, same);
    procedure = fit.1;
    fits = fit.2;
  }

  pub task_has : (l : ℕ) → l ≡ level → HasTask s.names.now l task
  task_has l same = record { scopes = sc.scopes; own = level; outer = omega (arith, same); fits = fit.4 }

  pub start_part : (later : Later) (couple : Couple) (a b d e f : Built) → couples s.names.now n.spot ≡ Some couple →
      Emitted a b (λ qs. IntrinsicAt qs level Start (size a.operators) (size b.operators)) →
      Emitted b d (λ qs. Has qs level (size b.operators) (ops.Namc couple) (size d.operators)) →
      Emitted d e (λ qs. TaskAt sc.scopes (context_in sc later level) qs level task (size d.operators) (size e.operators)) →
      Emitted e f (λ qs. (filled : ℕ) × ActualsAt sc.scopes (context_in sc later level) qs level (sorts_of ((block_numbered sc.scopes.blocks fit.0).parameters))
      (parameter_wants sc.scopes fit.0) es (size e.operators) filled × Has qs level filled (ops.Plain kinds.Entr) (size f.operators)) →
      Emitted a f (λ qs. StartAt sc later qs level n es task (size a.operators) (size f.operators))
  start_part later couple a b d e f known h i j k =
      let same : (fit.1).couple ≡ couple = cc ((fit.1).known_is, known) in
      let P : Couple → Type 0 = λ x. IsProcedure sc.scopes level n fit.0 x in
      let procedure : P couple = subst P same (fit.1).procedure in
      weaker (λ qs. StartAt sc later qs level n es task (size a.operators) (size f.operators)) (then (then (then h i) j) k)
      (λ qs p. (
        fit.0,
        size e.operators,
        p.1.0,
        record {
          couple = couple;
          procedure = procedure;
          untyped = fit.3;
          named = size b.operators;
          referred = size d.operators;
          intrinsic = p.0.0.0;
          reference = p.0.0.1;
          tasked = p.0.1;
        },
        p.1.1,
        p.1.2,
      ))
