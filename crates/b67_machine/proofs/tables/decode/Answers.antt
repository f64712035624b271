use Rattle.std.specs.Prelude.{if◌then◌else◌}
use Rattle.std.proofs.Common.{◌≡◌, sym, ap, subst, ◌∙◌, ℕ, zero, suc, Bool, true, false, List, [], ◌∷◌, ◌++◌, set, Option, Some, None}
use Rattle.b67_segment.specs.Decoded.{AreDecoded}
use Rattle.b67_machine.specs.Tables.{Operators, table_at_level}
use Rattle.b67_machine.proofs.tables.decode.Goals as goal

abbrev or_this : Operators → Option Operators → Operators
or_this x None = x
or_this x (Some y) = y

-- what holds of each table holds once another that has it is put at a level
each_set : (P : ℕ → Operators → Type 0) (levels : List (Option Operators)) (n : ℕ) (x : Operators) → P n x
    → ((k : ℕ) (t : Operators) → table_at_level levels k ≡ Some t → P k t) → (k : ℕ) (t : Operators) → table_at_level (set levels n (Some x)) k ≡ Some t → P k t
each_set P [] n x p all k t e = all k t e
each_set P (a ∷ levels) zero x p all zero t e = subst (λ (u : Operators). P zero u) (ap (or_this x) e) p
each_set P (a ∷ levels) zero x p all (suc k) t e = all (suc k) t e
each_set P (a ∷ levels) (suc n) x p all zero t e = all zero t e
each_set P (a ∷ levels) (suc n) x p all (suc k) t e = each_set (λ j u. P (suc j) u) levels n x p (λ j u h. all (suc j) u h) k t e

-- and once a level without a table comes after the others
each_after : (P : ℕ → Operators → Type 0) (levels : List (Option Operators))
    → ((k : ℕ) (t : Operators) → table_at_level levels k ≡ Some t → P k t) → (k : ℕ) (t : Operators) → table_at_level (levels ++ None ∷ []) k ≡ Some t → P k t
each_after P [] all zero t e = all zero t e
each_after P [] all (suc k) t e = all (suc k) t e
each_after P (a ∷ levels) all zero t e = all zero t e
each_after P (a ∷ levels) all (suc k) t e = each_after (λ j u. P (suc j) u) levels (λ j u h. all (suc j) u h) k t e

each_pushed : (P : ℕ → Operators → Type 0) (b : Bool) (levels after : List (Option Operators)) → after ≡ (if b then (levels ++ None ∷ []) else levels)
    → ((k : ℕ) (t : Operators) → table_at_level levels k ≡ Some t → P k t) → (k : ℕ) (t : Operators) → table_at_level after k ≡ Some t → P k t
each_pushed P true levels after is all k t e = each_after P levels all k t (sym (ap (λ (ls : List (Option Operators)). table_at_level ls k) is) ∙ e)
each_pushed P false levels after is all k t e = all k t (sym (ap (λ (ls : List (Option Operators)). table_at_level ls k) is) ∙ e)

pub returns : goal.returns
returns c =
    each_set (AreDecoded c.args.code.now c.args.segment) c.levels.levels.items c.from-2.result c.in-Ok.table
    (subst (λ (k : ℕ). AreDecoded c.args.code.now c.args.segment k c.in-Ok.table) (sym c.from-2.ensures) c.in-Ok.ensures) c.levels.invariant

pub levels-preserved : goal.levels-preserved
levels-preserved c = each_pushed (AreDecoded c.args.code.now c.args.segment) _ c.levels.levels.items c.push.new.self.items c.push.ensures.items c.levels.invariant
