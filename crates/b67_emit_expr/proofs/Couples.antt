-- What fits at a level, and names whose couples can stand there.
use Rattle.std.proofs.Common.{◌≡◌, ℕ, ◌+◌, ◌<◌, Option, Some, None, inl, inr, sym, subst}
use Rattle.std.specs.Prelude.{IsSome}
use Rattle.algol_tree.specs.declared.TheConstants.{MOST_BLOCK_CELLS}
use Rattle.algol_tree.specs.declared.token.Spot.{Spot}
use Rattle.algol_tree.specs.declared.tree.Kind.{Kind}
use Rattle.algol_tree.specs.declared.tree.Kind.TheVariants as types
use Rattle.algol_tree.specs.declared.tree.Named.{Named}
use Rattle.algol_tree.specs.declared.tree.Op.{Op}
use Rattle.algol_tree.specs.Plain as tree
use Rattle.algol_tree.specs.Plain.{PExpr}
use Rattle.algol_tree.specs.Types.{taken_by}
use Rattle.algol_tree.specs.Scopes.{Scopes, use_of}
use Rattle.algol_paths.specs.Arrays.{Shape}
use Rattle.b67_ops.specs.declared.Couple.{Couple}
use Rattle.b67_ops.specs.Spelling.{CoupleIsSeen}
use Rattle.b67_templates.specs.Cells.{IsRead, of_variable, of_formal, IsArray, declared, formal}
use Rattle.b67_templates.specs.Fitting as fitting
use Rattle.b67_templates.specs.Fitting.{couple_on_left, PlaceFits, ProcedureFits, ArrayFits}
use Rattle.b67_emitter.specs.declared.names.Names.{Names}
use Rattle.b67_emitter.specs.Values.{couples, results, lefts, meanings, AreNear, HasCode}
use Rattle.b67_emitter.proofs.Seen.{some, seen_up, seen_further}
use Rattle.b67_emit_expr.specs.Naming.{NameMeans, NameHasCode}

-- ---- expressions

pub code_on : (s : Names) (l m : ℕ) (e : PExpr) → m ≡ l → HasCode s l e → HasCode s m e
code_on s l m e same h = let H : ℕ → Type 0 = λ n. HasCode s n e in subst H (sym same) h

module _ (s : Names) (level : ℕ) where
  -- the first of two operands
  pub first_code : (op : Op) (x y : PExpr) → HasCode s level (tree.two op x y) → HasCode s level x
  first_code op x y h = record { scopes = h.scopes; own = h.own; block = h.block; kind = taken_by op; outer = h.outer; fits = h.fits.1 }

  -- the second of two operands
  pub second_code : (op : Op) (x y : PExpr) → HasCode s level (tree.two op x y) → HasCode s level y
  second_code op x y h = record { scopes = h.scopes; own = h.own; block = h.block; kind = taken_by op; outer = h.outer; fits = h.fits.2 }

  -- what stands in parentheses or behind a sign
  pub paren_code : (x : PExpr) (spot : Spot) → HasCode s level (tree.paren x spot) → HasCode s level x
  paren_code x spot h = record { scopes = h.scopes; own = h.own; block = h.block; kind = h.kind; outer = h.outer; fits = h.fits }

  pub plus_code : (x : PExpr) (spot : Spot) → HasCode s level (tree.plus x spot) → HasCode s level x
  plus_code x spot h = record { scopes = h.scopes; own = h.own; block = h.block; kind = types.Number; outer = h.outer; fits = h.fits.1 }

  pub neg_code : (x : PExpr) (spot : Spot) → HasCode s level (tree.neg x spot) → HasCode s level x
  neg_code x spot h = record { scopes = h.scopes; own = h.own; block = h.block; kind = types.Number; outer = h.outer; fits = h.fits.1 }

  pub not_code : (x : PExpr) (spot : Spot) → HasCode s level (tree.not x spot) → HasCode s level x
  not_code x spot h = record { scopes = h.scopes; own = h.own; block = h.block; kind = types.Truth; outer = h.outer; fits = h.fits.1 }

  -- the parts of a conditional expression
  module _ (p x y : PExpr) (spot : Spot) (h : HasCode s level (tree.if p x y spot)) where
    pub condition_code : HasCode s level p
    condition_code = record { scopes = h.scopes; own = h.own; block = h.block; kind = types.Truth; outer = h.outer; fits = h.fits.0 }

    pub then_code : HasCode s level x
    then_code = record { scopes = h.scopes; own = h.own; block = h.block; kind = h.kind; outer = h.outer; fits = h.fits.1 }

    pub else_code : HasCode s level y
    else_code = record { scopes = h.scopes; own = h.own; block = h.block; kind = h.kind; outer = h.outer; fits = h.fits.2 }

  -- ---- names

  pub known_procedure : (scopes : Scopes) (n : Named) (callee : ℕ) → ProcedureFits scopes (meanings s) level n callee → IsSome (couples s n.spot)
  known_procedure scopes n callee p = some (couples s n.spot) p.couple p.known_is

  pub seen_procedure : (scopes : Scopes) (n : Named) (callee : ℕ) (c : Couple) → AreNear s → couples s n.spot ≡ Some c →
      ProcedureFits scopes (meanings s) level n callee → CoupleIsSeen level c
  seen_procedure scopes n callee c near is p =
      let same : p.couple ≡ c = cc (p.known_is, is) in
      let I : Couple → Type 0 = λ d. CoupleIsSeen level d in
      subst I same (seen_up level p.couple (use_of scopes n).up (near.own n.spot p.couple p.known_is) p.procedure.level_is)

  -- the couple of an array is of a level that many up, whichever way its name stands for it
  level_up : (scopes : Scopes) (n : Named) (shape : Shape) (c : Couple) → IsArray scopes level n shape c → c.level + (use_of scopes n).up ≡ level
  level_up scopes n shape c (declared d is r) = r.made.level_is
  level_up scopes n shape c (formal r) = r.level_is

  pub known_array : (scopes : Scopes) (n : Named) (shape : Shape) → ArrayFits scopes (meanings s) level n shape → IsSome (couples s n.spot)
  known_array scopes n shape f = some (couples s n.spot) f.couple f.known_is

  pub seen_array : (scopes : Scopes) (n : Named) (shape : Shape) (c : Couple) → AreNear s → couples s n.spot ≡ Some c →
      ArrayFits scopes (meanings s) level n shape → CoupleIsSeen level c
  seen_array scopes n shape c near is f =
      let same : f.couple ≡ c = cc (f.known_is, is) in
      let I : Couple → Type 0 = λ d. CoupleIsSeen level d in
      subst I same (seen_up level f.couple (use_of scopes n).up (near.own n.spot f.couple f.known_is) (level_up scopes n shape f.couple f.array))

  -- .. of what is read, too
  read_up : (scopes : Scopes) (k : Kind) (n : Named) (c : Couple) → IsRead scopes level n k c → c.level + (use_of scopes n).up ≡ level
  read_up scopes k n c (of_variable v) = v.level_is
  read_up scopes k n c (of_formal v) = v.level_is

  name_known : (scopes : Scopes) (kind : Kind) (n : Named) → NameMeans s scopes level kind n → IsSome (couples s n.spot)
  name_known scopes kind n (inl ((c, is, v), none)) = some (couples s n.spot) c is
  name_known scopes kind n (inr (callee, p, none, is)) = known_procedure scopes n callee p

  name_seen : (scopes : Scopes) (kind : Kind) (n : Named) (c : Couple) → AreNear s → couples s n.spot ≡ Some c → NameMeans s scopes level kind n → CoupleIsSeen level c
  name_seen scopes kind n c near is (inl ((d, known, v), none)) =
      let same : d ≡ c = cc (known, is) in
      let I : Couple → Type 0 = λ x. CoupleIsSeen level x in
      subst I same (seen_up level d (use_of scopes n).up (near.own n.spot d known) (read_up scopes kind n d v))
  name_seen scopes kind n c near is (inr (callee, p, none, typed)) = seen_procedure scopes n callee c near is p

  -- the couple of a name on the left is that of its own cell or of a result
  pub left_near : (own result : Option Couple) (c : Couple) → ((d : Couple) → own ≡ Some d → d.index < 2 + MOST_BLOCK_CELLS) →
      ((d : Couple) → result ≡ Some d → d.index < 2 + MOST_BLOCK_CELLS) → couple_on_left result own ≡ Some c → c.index < 2 + MOST_BLOCK_CELLS
  left_near own None c near near' is = near c is
  left_near own (Some d) c near near' is = near' c is

  seen_left : (n : Named) (c d : Couple) (up : ℕ) → AreNear s → lefts s n.spot ≡ Some c → lefts s n.spot ≡ Some d → d.level + up ≡ level → CoupleIsSeen level c
  seen_left n c d up near is known at =
      let same : d ≡ c = cc (known, is) in
      let I : Couple → Type 0 = λ x. CoupleIsSeen level x in
      subst I same (seen_up level d up (left_near (couples s n.spot) (results s n.spot) d (near.own n.spot) (near.result n.spot) known) at)

  pub known_place : (scopes : Scopes) (kind : Kind) (n : Named) → PlaceFits scopes (meanings s) level kind n → IsSome (lefts s n.spot)
  known_place scopes kind n (fitting.own (d, known, v) off) = some (lefts s n.spot) d known
  known_place scopes kind n (fitting.resolved d known on v) = some (lefts s n.spot) d known

  pub seen_place : (scopes : Scopes) (kind : Kind) (n : Named) (c : Couple) → AreNear s → lefts s n.spot ≡ Some c → PlaceFits scopes (meanings s) level kind n → CoupleIsSeen level c
  seen_place scopes kind n c near is (fitting.own (d, known, v) off) = seen_left n c d (use_of scopes n).up near is known v.level_is
  seen_place scopes kind n c near is (fitting.resolved d known on v) = seen_left n c d (use_of scopes n).up near is known v.level_is

module _ (s : Names) (level : ℕ) where
  pub known_name : (n : Named) → NameHasCode s level n → IsSome (couples s n.spot)
  known_name n h = name_known s h.own h.scopes h.kind n h.fits

  pub seen_name : (n : Named) (c : Couple) → AreNear s → couples s n.spot ≡ Some c → NameHasCode s level n → CoupleIsSeen level c
  seen_name n c near is h = seen_further level h.own c h.outer (near.own n.spot c is) (name_seen s h.own h.scopes h.kind n c near is h.fits)
