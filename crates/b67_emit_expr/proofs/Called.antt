-- A call whose actuals are appended one after another.
use Rattle.std.proofs.Common.{◌≡◌, ℕ, ◌+◌, ◌<◌, Bool, List, [], ◌∷◌, length, drop, map, get_or, Some, sym, ap, ◌∙◌, subst}
use Rattle.std.proofs.lemmas.List.{drop_more}
use Rattle.std.specs.Prelude.{IsSome, slice_get}
use Rattle.algol_tree.specs.declared.tree.Call.{Call}
use Rattle.algol_tree.specs.declared.tree.Expr.{Expr}
use Rattle.algol_tree.specs.declared.tree.Named.{Named}
use Rattle.algol_tree.specs.Blocks.{block_numbered}
use Rattle.algol_tree.specs.Counts.{expr_tokens, exprs_tokens}
use Rattle.algol_tree.specs.Image.{expr, exprs, call}
use Rattle.algol_tree.specs.Plain as tree
use Rattle.algol_tree.specs.Plain.{PCall, PExprs}
use Rattle.algol_tree.specs.Sorts.{Sort}
use Rattle.algol_tree.specs.Scopes.{Scopes}
use Rattle.algol_tree.proofs.Images.{call_is}
use Rattle.algol_meaning.specs.Settle.{sorts_of}
use Rattle.b67_ops.specs.declared.Couple.{Couple}
use Rattle.b67_ops.specs.declared.Operator.TheVariants as ops
use Rattle.b67_ops.specs.declared.PlainKind.TheVariants as kinds
use Rattle.b67_ops.specs.Spelling.{CoupleIsSeen}
use Rattle.b67_segment.specs.Operators.{size}
use Rattle.b67_segment.specs.Building.{Built, level_set}
use Rattle.b67_templates.specs.Contexts.{Context}
use Rattle.b67_templates.specs.Cells.{Wanted, parameter_wants, IsProcedure}
use Rattle.b67_templates.specs.Code.{BegunAt, ActualsAt}
use Rattle.b67_templates.specs.Fragments.{Has}
use Rattle.b67_templates.specs.Emitting.{Emitted}
use Rattle.b67_templates.specs.Fitting.{Told, wanted_by_name, ProcedureFits, ActualsFit}
use Rattle.b67_templates.specs.Paying.{modes_of, if_known, mode_at, given_syllables, inline, inline_given}
use Rattle.b67_emitter.specs.declared.names.Names.{Names}
use Rattle.b67_emitter.specs.Values.{couples, meant, meanings, AreNear, HasCall, CallEmitted, FilledEmitted, filled_syllables}
use Rattle.b67_emitter.proofs.Appends.{same_level}
use Rattle.b67_emitter.proofs.Composing.{then, weaker}
use Rattle.b67_emitter.proofs.Seen.{seen_further}
use Rattle.b67_emit_expr.specs.Passing.{HasActual, ActualEmitted}
use Rattle.b67_emit_expr.proofs.Couples.{known_procedure, seen_procedure}
use Rattle.b67_emit_expr.proofs.Calls.{call_filled}
use Rattle.b67_emit_expr.proofs.Actuals.{Left, all_left, none_left, next_has, next_left}
use Rattle.b67_emit_expr.proofs.Listed.{nowhere}
use Rattle.b67_emit_expr.proofs.Modes.{own_modes, next_given}

-- the name and the actuals of a call are its own
module _ (c : Call) (n : Named) (es : PExprs) (is : call c ≡ tree.called n es) where
  own_name : n ≡ c.name
  own_name = let same : tree.called n es ≡ tree.called c.name (exprs c.actuals) = sym is ∙ call_is c in cc same

  own_actuals : es ≡ exprs c.actuals
  own_actuals = let same : tree.called n es ≡ tree.called c.name (exprs c.actuals) = sym is ∙ call_is c in cc same

-- ---- the procedure

module _ (s : Names) (level : ℕ) (c : Call) (h : HasCall s level (call c)) where
  own_procedure : ProcedureFits h.scopes (meanings s) h.own c.name h.callee
  own_procedure =
      let P : Named → Type 0 = λ n. ProcedureFits h.scopes (meanings s) h.own n h.callee in
      subst P (own_name c h.name h.actuals h.call_is) h.procedure

  pub known_call : IsSome (couples s c.name.spot)
  known_call = known_procedure s h.own h.scopes c.name h.callee own_procedure

  pub seen_call : (couple : Couple) → AreNear s → couples s c.name.spot ≡ Some couple → CoupleIsSeen level couple
  seen_call couple near is =
      seen_further level h.own couple h.outer (near.own c.name.spot couple is) (seen_procedure s h.own h.scopes c.name h.callee couple near is own_procedure)

  pub actuals_fit : ActualsFit h.scopes (meanings s) h.own h.block (sorts_of ((block_numbered h.scopes.blocks h.callee).parameters)) (parameter_wants h.scopes h.callee) (exprs c.actuals)
  actuals_fit =
      let F : PExprs → Type 0 = λ es. ActualsFit h.scopes (meanings s) h.own h.block (sorts_of ((block_numbered h.scopes.blocks h.callee).parameters)) (parameter_wants h.scopes h.callee) es in
      subst F (own_actuals c h.name h.actuals h.call_is) h.fits

  pub own_wanted : own_modes s c.name ≡ map wanted_by_name (parameter_wants h.scopes h.callee)
  own_wanted = ap modes_of own_procedure.modes

-- .. also where another builder has that level
pub call_on : (s : Names) (l m : ℕ) (c : PCall) → m ≡ l → HasCall s l c → HasCall s m c
call_on s l m c same h = let H : ℕ → Type 0 = λ x. HasCall s x c in subst H (sym same) h

-- how many syllables a call has
pub call_syllables : (s : Names) (c : Call) → inline (meanings s) (tree.call (call c)) ≡ 12 + inline_given (meanings s) (own_modes s c.name) (exprs c.actuals)
call_syllables s c = ap (λ (p : PCall). inline (meanings s) (tree.call p)) (call_is c)

-- .. those of the beginning, and those of the actuals and the entry
pub rest_syllables : (s : Names) (c : Call) → filled_syllables s (call c) ≡ inline_given (meanings s) (own_modes s c.name) (exprs c.actuals) + 1
rest_syllables s c = ap (λ (p : PCall). filled_syllables s p) (call_is c)

-- ---- the actuals

-- From the first builder to the second these actuals were appended but for those left, whatever parameters they fit of which these are by name
-- or not: those from a number on are left.
abbrev pub LeftOf : Names → ℕ → Built → Built → List Bool → ℕ → List Expr → List Expr → Type 0
LeftOf s level a b modes i xs left =
    (scopes : Scopes) (context : Context) (sorts : List Sort) (wanted : List Wanted) → modes ≡ map wanted_by_name wanted →
    ActualsFit scopes (meanings s) context.level context.block sorts wanted (exprs xs) → Left s scopes context level a b sorts wanted (exprs xs) (exprs left) (drop i modes)

-- the actuals from a place on
pub next_is : (xs : List Expr) (i : ℕ) (x : Expr) → i < length xs → x ≡ get_or xs i x → drop i xs ≡ x ∷ drop (i + 1) xs
next_is xs i x h e = drop_more xs i x h ∙ ap (λ (y : Expr). y ∷ drop (i + 1) xs) (sym e)

pub next_tokens : (xs : List Expr) (i : ℕ) (x : Expr) → i < length xs → x ≡ get_or xs i x →
    exprs_tokens (exprs (drop i xs)) ≡ 1 + expr_tokens (expr x) + exprs_tokens (exprs (drop (i + 1) xs))
next_tokens xs i x h e = ap (λ (l : List Expr). exprs_tokens (exprs l)) (next_is xs i x h e)

pub next_syllables : (told : Told) (modes : List Bool) (xs : List Expr) (i : ℕ) (x : Expr) → i < length xs → x ≡ get_or xs i x →
    inline_given told (drop i modes) (exprs (drop i xs)) ≡ given_syllables (if_known (slice_get modes i)) (inline told (expr x)) + inline_given told (drop (i + 1) modes) (exprs (drop (i + 1) xs))
next_syllables told modes xs i x h e =
    ap (λ (l : List Expr). inline_given told (drop i modes) (exprs l)) (next_is xs i x h e) ∙ next_given told modes i (expr x) (exprs (drop (i + 1) xs))

module _ (s : Names) (level : ℕ) (a b : Built) (xs : List Expr) where
  pub begin_left : (modes : List Bool) → LeftOf s level a a modes 0 xs xs
  begin_left modes scopes context sorts wanted are fit = all_left s scopes context level a sorts wanted (exprs xs) modes are fit

  pub next_wanted : (c : Call) (i : ℕ) (x : Expr) (left more : List Expr) → xs ≡ c.actuals → left ≡ x ∷ more → HasCall s level (call c) →
      LeftOf s level a b (own_modes s c.name) i xs left → HasActual s level (mode_at (meant s c.name.spot) i) (expr x)
  next_wanted c i x left more whole is h l =
      let sorts = sorts_of ((block_numbered h.scopes.blocks h.callee).parameters) in
      let wanted = parameter_wants h.scopes h.callee in
      let modes = own_modes s c.name in
      let F : List Expr → Type 0 = λ ys. ActualsFit h.scopes (meanings s) h.own h.block sorts wanted (exprs ys) in
      let L : List Expr → Type 0 = λ ys. Left s h.scopes (nowhere h.own h.block) level a b sorts wanted (exprs xs) (exprs ys) (drop i modes) in
      next_has s h.scopes (nowhere h.own h.block) level a sorts wanted (exprs xs) b modes i (expr x) (exprs more) h.outer
      (subst L is (l h.scopes (nowhere h.own h.block) sorts wanted (own_wanted s level c h) (subst F (sym whole) (actuals_fit s level c h))))

  pub next_one : (d : Built) (modes : List Bool) (i : ℕ) (x : Expr) (left more : List Expr) → left ≡ x ∷ more → ActualEmitted s level b d (if_known (slice_get modes i)) (expr x) →
      LeftOf s level a b modes i xs left → LeftOf s level a d modes (i + 1) xs more
  next_one d modes i x left more is actual l scopes context sorts wanted are fit =
      let L : List Expr → Type 0 = λ ys. Left s scopes context level a b sorts wanted (exprs xs) (exprs ys) (drop i modes) in
      next_left s scopes context level a sorts wanted (exprs xs) b d modes i (expr x) (exprs more) actual (subst L is (l scopes context sorts wanted are fit))

-- ---- the whole

module _ (s : Names) (level : ℕ) (b d e : Built) (c : Call) (i : ℕ) (xs left : List Expr) (whole : xs ≡ c.actuals) (done : left ≡ [])
    (same : d.level ≡ b.level) (is_level : level ≡ level_set b) (filled : LeftOf s level b d (own_modes s c.name) i xs left)
    (enter : Emitted d e (λ qs. Has qs (level_set d) (size d.operators) (ops.Plain kinds.Entr) (size e.operators))) where
  own_left : LeftOf s level b d (own_modes s c.name) i c.actuals []
  own_left =
      let X : List Expr → Type 0 = λ ys. LeftOf s level b d (own_modes s c.name) i ys left in
      let L : List Expr → Type 0 = λ ys. LeftOf s level b d (own_modes s c.name) i c.actuals ys in
      subst L done (subst X whole filled)

  own_filled : (scopes : Scopes) (context : Context) (sorts : List Sort) (wanted : List Wanted) → own_modes s c.name ≡ map wanted_by_name wanted →
      ActualsFit scopes (meanings s) context.level context.block sorts wanted (exprs c.actuals) →
      Emitted b e (λ qs. (m : ℕ) × ActualsAt scopes context qs level sorts wanted (exprs c.actuals) (size b.operators) m × Has qs level m (ops.Plain kinds.Entr) (size e.operators))
  own_filled scopes context sorts wanted are fit =
      let E : ℕ → Type 0 = λ l. Emitted d e (λ qs. Has qs l (size d.operators) (ops.Plain kinds.Entr) (size e.operators)) in
      weaker (λ qs. (m : ℕ) × ActualsAt scopes context qs level sorts wanted (exprs c.actuals) (size b.operators) m × Has qs level m (ops.Plain kinds.Entr) (size e.operators))
      (then (none_left s scopes context level b sorts wanted (exprs c.actuals) d (drop i (own_modes s c.name)) (own_left scopes context sorts wanted are fit))
      (subst E (same_level b d same ∙ sym is_level) enter))
      (λ qs p. (size d.operators, p.0, p.1))

  pub filled_form : FilledEmitted s level b e (call c)
  filled_form = record {
    code = λ scopes context n es callee is p fit.
        let sorts = sorts_of ((block_numbered scopes.blocks callee).parameters) in
        let wanted = parameter_wants scopes callee in
        let P : Named → Type 0 = λ m. ProcedureFits scopes (meanings s) context.level m callee in
        let F : PExprs → Type 0 = λ xs. ActualsFit scopes (meanings s) context.level context.block sorts wanted xs in
        let E : PExprs → Type 0 = λ xs. Emitted b e (λ qs. (m : ℕ) × ActualsAt scopes context qs level sorts wanted xs (size b.operators) m
        × Has qs level m (ops.Plain kinds.Entr) (size e.operators)) in
        let given = own_actuals c n es is in
        let fits : ProcedureFits scopes (meanings s) context.level c.name callee = subst P (own_name c n es is) p in
        subst E (sym given) (own_filled scopes context sorts wanted (ap modes_of fits.modes) (subst F given fit));
  }

-- a call: its beginning, and after it the actuals and the entry
pub called_form : (s : Names) (a b e : Built) (c : Call) (couple : Couple) → couples s c.name.spot ≡ Some couple → b.level ≡ a.level →
    ((scopes : Scopes) (context : Context) (n : Named) (callee : ℕ) → IsProcedure scopes context.level n callee couple →
    Emitted a b (λ qs. BegunAt scopes context qs (level_set a) n callee (size a.operators) (size b.operators))) →
    FilledEmitted s (level_set b) b e (call c) → CallEmitted s (level_set a) a e (call c)
called_form s a b e c couple known level begun filled = record {
  code = λ scopes context n es callee is p fit.
      let sorts = sorts_of ((block_numbered scopes.blocks callee).parameters) in
      let wanted = parameter_wants scopes callee in
      let same : p.couple ≡ couple = cc (own_name c n es is, p.known_is, known) in
      let P : Couple → Type 0 = λ x. IsProcedure scopes context.level n callee x in
      let L : ℕ → Type 0 = λ l. Emitted b e (λ qs. (m : ℕ) × ActualsAt scopes context qs l sorts wanted es (size b.operators) m
      × Has qs l m (ops.Plain kinds.Entr) (size e.operators)) in
      call_filled scopes context n callee a b e (λ qs. ActualsAt scopes context qs (level_set a) sorts wanted es)
      (begun scopes context n callee (subst P same p.procedure)) (subst L (same_level a b level) (filled.code scopes context n es callee is p fit));
}
