-- What is given for a parameter by name: a variable, another such parameter, or an actual that has a cell.
use Rattle.std.proofs.Common.{◌≡◌, ℕ, ◌+◌, ◌<◌, ◌≤◌, Bool, true, false, if◌then◌else◌, List, [], ◌∷◌, map, Option, Some, is_some, inl, inr, refl, sym, ap, ◌∙◌, subst, arith}
use Rattle.std.specs.Prelude.{IsSome}
use Rattle.algol_tree.specs.declared.TheConstants.{MOST_BLOCK_CELLS}
use Rattle.algol_tree.specs.declared.tree.Kind.{Kind}
use Rattle.algol_tree.specs.declared.tree.Named.{Named}
use Rattle.algol_tree.specs.Cells.{first_spot}
use Rattle.algol_tree.specs.Plain as tree
use Rattle.algol_tree.specs.Plain.{PExpr}
use Rattle.algol_tree.specs.Scopes.{Scopes, use_of}
use Rattle.algol_tree.specs.Sorts.{procedure_in}
use Rattle.algol_tree.proofs.Trees.{formal_no_procedure, variable_no_procedure}
use Rattle.algol_meaning.specs.Statements.{alone}
use Rattle.b67_ops.specs.declared.Couple.{Couple}
use Rattle.b67_ops.specs.declared.Operator.TheVariants as ops
use Rattle.b67_ops.specs.Spelling.{CoupleIsSeen}
use Rattle.b67_segment.specs.Operators.{size}
use Rattle.b67_segment.specs.Building.{Built}
use Rattle.b67_templates.specs.Contexts.{Context}
use Rattle.b67_templates.specs.Cells as cells
use Rattle.b67_templates.specs.Cells.{Actual, Wanted, IsRead, of_variable, of_formal, IsOwnActual, parameter_wants}
use Rattle.b67_templates.specs.Code as codes
use Rattle.b67_templates.specs.Code.{NameActualAt}
use Rattle.b67_templates.specs.Fragments.{Has}
use Rattle.b67_templates.specs.Emitting.{Emitted}
use Rattle.b67_templates.specs.Fitting as fitting
use Rattle.b67_templates.specs.Fitting.{Meant, a_procedure, wanted_by_name, ExprFits, NameActualFits}
use Rattle.b67_emitter.specs.declared.meanings.Given.{Given}
use Rattle.b67_emitter.specs.declared.names.Names.{Names}
use Rattle.b67_emitter.specs.Values.{couples, meant, actuals, meanings, given_as, given_alone, given, AreNear}
use Rattle.b67_emitter.proofs.Composing.{then, weaker}
use Rattle.b67_emit_expr.specs.Passing.{reaching, ActualFits, HasActual, ActualEmitted, ActualAt}
use Rattle.b67_emitter.proofs.Seen.{some, seen_up, seen_further}

-- ---- an actual that has a cell is no variable or parameter by itself

read_no_procedure : (scopes : Scopes) (level : ℕ) (n : Named) (kind : Kind) (c : Couple) → IsRead scopes level n kind c → is_some (procedure_in ((use_of scopes n).sort)) ≡ false
read_no_procedure scopes level n kind c (of_variable v) = variable_no_procedure ((use_of scopes n).sort) v.variable
read_no_procedure scopes level n kind c (of_formal v) = formal_no_procedure ((use_of scopes n).sort) v.sort_is

no_cell : (procedure : Bool) (a : Actual) → procedure ≡ false → (if procedure then a ∷ [] else []) ≡ a ∷ [] → ⊥
no_cell true a off is = let clash : true ≡ false = off in cc
no_cell false a off is = let clash : [] ≡ a ∷ [] = is in cc

-- ---- what is found

module _ (s : Names) (scopes : Scopes) (level block : ℕ) (kind : Kind) where
  procedure_alone : (n : Named) (c : Couple) → IsOwnActual scopes block level (alone n) kind c → ExprFits scopes (meanings s) level block kind (alone n) →
      (modes : List Bool) × (meant s n.spot ≡ a_procedure modes)
  procedure_alone n c own (inl ((d, known, v), none), unknown, plain) =
      absurd (no_cell (is_some (procedure_in ((use_of scopes n).sort))) (record { expr = alone n; kind = kind }) (read_no_procedure scopes level n kind d v) own.own)
  procedure_alone n c own (inr (callee, p, alone_is, is), unknown, plain) = (map wanted_by_name (parameter_wants scopes callee), p.modes)

  cell_given : (e : PExpr) (c : Couple) → IsOwnActual scopes block level e kind c → ExprFits scopes (meanings s) level block kind e → given s e ≡ given_as false (actuals s (first_spot e))
  cell_given (tree.variable (tree.subscripted n tree.none)) c own fits =
      let procedure = procedure_alone n c own fits in ap (λ (m : Meant). given_alone m (couples s n.spot) (actuals s n.spot)) procedure.1
  cell_given e c own fits = refl

  alone_given : (e : PExpr) (n : Named) (m : Meant) → e ≡ alone n → meant s n.spot ≡ m → given s e ≡ given_alone m (couples s n.spot) (actuals s n.spot)
  alone_given e n m is meant_is = ap (λ (x : PExpr). given s x) is ∙ ap (λ (y : Meant). given_alone y (couples s n.spot) (actuals s n.spot)) meant_is

  given_there : (loads : Bool) (o : Option Couple) (c : Couple) → o ≡ Some c → given_as loads o ≡ Some (record { couple = c; loads = loads })
  given_there loads o c is = ap (λ (x : Option Couple). given_as loads x) is

  variable_given : (e : PExpr) (n : Named) (c : Couple) → e ≡ alone n → meant s n.spot ≡ fitting.a_variable → couples s n.spot ≡ Some c →
      given s e ≡ Some (record { couple = c; loads = false })
  variable_given e n c is meant_is known = alone_given e n fitting.a_variable is meant_is ∙ given_there false (couples s n.spot) c known

  name_given : (e : PExpr) (n : Named) (c : Couple) → e ≡ alone n → meant s n.spot ≡ fitting.a_name → couples s n.spot ≡ Some c →
      given s e ≡ Some (record { couple = c; loads = true })
  name_given e n c is meant_is known = alone_given e n fitting.a_name is meant_is ∙ given_there true (couples s n.spot) c known

  actual_given : (e : PExpr) (c : Couple) → actuals s (first_spot e) ≡ Some c → IsOwnActual scopes block level e kind c → ExprFits scopes (meanings s) level block kind e →
      given s e ≡ Some (record { couple = c; loads = false })
  actual_given e c known own fits = cell_given e c own fits ∙ given_there false (actuals s (first_spot e)) c known

  pub known_given : (e : PExpr) → NameActualFits scopes (meanings s) level block kind e → ExprFits scopes (meanings s) level block kind e → IsSome (given s e)
  known_given e (fitting.refers_to n c is meant_is known v outer) fits = some (given s e) (record { couple = c; loads = false }) (variable_given e n c is meant_is known)
  known_given e (fitting.passes_on n c is meant_is known v) fits = some (given s e) (record { couple = c; loads = true }) (name_given e n c is meant_is known)
  known_given e (fitting.names c known own) fits = some (given s e) (record { couple = c; loads = false }) (actual_given e c known own fits)

  seen_as : (e : PExpr) (g : Given) (c : Couple) (loads : Bool) → given s e ≡ Some g → given s e ≡ Some (record { couple = c; loads = loads }) → (further : ℕ) → level ≤ further →
      c.index < 2 + MOST_BLOCK_CELLS → CoupleIsSeen level c → CoupleIsSeen further g.couple
  seen_as e g c loads is found further outer close seen =
      let same : record { couple = c; loads = loads } ≡ g = cc (is, found) in
      let I : Given → Type 0 = λ x. CoupleIsSeen further x.couple in
      subst I same (seen_further further level c outer close seen)

  pub seen_given : (e : PExpr) (g : Given) (further : ℕ) → level ≤ further → AreNear s → given s e ≡ Some g → NameActualFits scopes (meanings s) level block kind e →
      ExprFits scopes (meanings s) level block kind e → CoupleIsSeen further g.couple
  seen_given e g further outer near is (fitting.refers_to n c alone_is meant_is known v there) fits =
      seen_as e g c false is (variable_given e n c alone_is meant_is known) further outer (near.own n.spot c known) (seen_up level c (use_of scopes n).up (near.own n.spot c known) v.level_is)
  seen_given e g further outer near is (fitting.passes_on n c alone_is meant_is known v) fits =
      seen_as e g c true is (name_given e n c alone_is meant_is known) further outer (near.own n.spot c known) (seen_up level c (use_of scopes n).up (near.own n.spot c known) v.level_is)
  seen_given e g further outer near is (fitting.names c known own) fits =
      seen_as e g c false is (actual_given e c known own fits) further outer (near.actual (first_spot e) c known) (seen_up level c 0 (near.actual (first_spot e) c known) (omega (arith, own.level_is)))

-- ---- its code

module _ (s : Names) (scopes : Scopes) (context : Context) (level : ℕ) (kind : Kind) (e : PExpr) (g : Given) (is : given s e ≡ Some g) (a b d : Built)
    (named : Emitted a b (λ qs. Has qs level (size a.operators) (ops.Namc g.couple) (size b.operators)))
    (reached : Emitted b d (λ qs. Has qs level (size b.operators) (ops.Plain (reaching g.loads)) (size d.operators))) where
  at_given : (c : Couple) (loads : Bool) → given s e ≡ Some (record { couple = c; loads = loads }) →
      Emitted a d (λ qs. (m : ℕ) × Has qs level (size a.operators) (ops.Namc c) m × Has qs level m (ops.Plain (reaching loads)) (size d.operators))
  at_given c loads found =
      let same : g ≡ record { couple = c; loads = loads } = cc (is, found) in
      let G : Given → Type 0 = λ x. Emitted a d (λ qs. (m : ℕ) × Has qs level (size a.operators) (ops.Namc x.couple) m × Has qs level m (ops.Plain (reaching x.loads)) (size d.operators)) in
      subst G same
      (weaker (λ qs. (m : ℕ) × Has qs level (size a.operators) (ops.Namc g.couple) m × Has qs level m (ops.Plain (reaching g.loads)) (size d.operators))
      ((then) named reached) (λ qs p. (size b.operators, p.0, p.1)))

  pub name_form : NameActualFits scopes (meanings s) context.level context.block kind e → ExprFits scopes (meanings s) context.level context.block kind e →
      Emitted a d (λ qs. NameActualAt scopes context qs level kind e (size a.operators) (size d.operators))
  name_form (fitting.refers_to n c alone_is meant_is known v outer) fits =
      weaker (λ qs. NameActualAt scopes context qs level kind e (size a.operators) (size d.operators))
      (at_given c false (variable_given s scopes context.level context.block kind e n c alone_is meant_is known)) (λ qs p. codes.refers_to n c p.0 alone_is v outer p.1 p.2)
  name_form (fitting.passes_on n c alone_is meant_is known v) fits =
      weaker (λ qs. NameActualAt scopes context qs level kind e (size a.operators) (size d.operators))
      (at_given c true (name_given s scopes context.level context.block kind e n c alone_is meant_is known)) (λ qs p. codes.passes_on n c p.0 alone_is v p.1 p.2)
  name_form (fitting.names c known own) fits =
      weaker (λ qs. NameActualAt scopes context qs level kind e (size a.operators) (size d.operators))
      (at_given c false (actual_given s scopes context.level context.block kind e c known own fits)) (λ qs p. codes.names c p.0 own p.1 p.2)

-- ---- what is wanted by name

-- it is given by name, of a kind
named_fits : (s : Names) (scopes : Scopes) (level block : ℕ) (wanted : Wanted) (e : PExpr) → wanted_by_name wanted ≡ true → ActualFits s scopes level block wanted e →
    (kind : Kind) × (wanted ≡ cells.by_name kind) × NameActualFits scopes (meanings s) level block kind e × ExprFits scopes (meanings s) level block kind e
named_fits s scopes level block (cells.by_name kind) e on fits = (kind, refl, fits.0, fits.1)
named_fits s scopes level block (cells.value kind) e on fits = absurd (let clash : false ≡ true = on in cc)
named_fits s scopes level block (cells.array shape) e on fits = absurd (let clash : false ≡ true = on in cc)
named_fits s scopes level block cells.event e on fits = absurd (let clash : false ≡ true = on in cc)
named_fits s scopes level block cells.other e on fits = absurd fits

module _ (s : Names) (level : ℕ) (e : PExpr) (h : HasActual s level true e) where
  pub known_named : IsSome (given s e)
  known_named = let own = named_fits s h.scopes h.own h.block h.wanted e h.mode h.fits in known_given s h.scopes h.own h.block own.0 e own.2 own.3

  pub seen_named : (g : Given) → AreNear s → given s e ≡ Some g → CoupleIsSeen level g.couple
  seen_named g near is =
      let own = named_fits s h.scopes h.own h.block h.wanted e h.mode h.fits in
      seen_given s h.scopes h.own h.block own.0 e g level h.outer near is own.2 own.3

pub named_form : (s : Names) (level : ℕ) (e : PExpr) (g : Given) → given s e ≡ Some g → (a b d : Built) →
    Emitted a b (λ qs. Has qs level (size a.operators) (ops.Namc g.couple) (size b.operators)) →
    Emitted b d (λ qs. Has qs level (size b.operators) (ops.Plain (reaching g.loads)) (size d.operators)) → ActualEmitted s level a d true e
named_form s level e g is a b d named reached = record {
  code = λ scopes context wanted mode fits.
      let own = named_fits s scopes context.level context.block wanted e mode fits in
      let W : Wanted → Type 0 = λ w. Emitted a d (λ qs. ActualAt scopes context qs level w e (size a.operators) (size d.operators)) in
      subst W (sym own.1) (name_form s scopes context level own.0 e g is a b d named reached own.2 own.3);
}
