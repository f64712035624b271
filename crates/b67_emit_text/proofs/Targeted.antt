-- Where labels lead, as they are gathered one after another.
use Rattle.std.proofs.Common.{◌≡◌, ◌∙◌, ℕ, ◌+◌, ◌≤◌, List, ◌∷◌, length, refl, sym, ap, subst}
use Rattle.std.specs.Prelude.{Option, Some, None}
use Rattle.std.specs.BTreeMap.{BTreeMap, IsEmpty, is_at}
use Rattle.std.specs.Map.{lookup}
use Rattle.algol_tree.specs.declared.TheConstants.{MOST_SEGMENT_TOKENS}
use Rattle.algol_tree.specs.declared.token.Spot.{Spot}
use Rattle.algol_tree.specs.contracts.token.SpotOrd.TheImpl.{ghosts}
use Rattle.algol_tree.specs.Plain.{PDecls, PStmts}
use Rattle.b67_emitter.specs.declared.names.Target.{Target}
use Rattle.b67_emit_text.specs.Entries.{AllLow, entries_of}
use Rattle.b67_emit_text.specs.Targets.{TargetAdds, IsSmallText, or_target, targets_from, targets_in, target_under}
use Rattle.b67_emit_text.specs.Texts.{Text}

or_assoc : (x y z : Option Target) → or_target (or_target x y) z ≡ or_target x (or_target y z)
or_assoc None y z = refl
or_assoc (Some t) y z = refl

-- one text after another
pub texts_step : (text : ℕ) (t : Text) (left rest : List Text) (table after : BTreeMap Spot Target) → left ≡ t ∷ rest →
    TargetAdds table after (targets_from text 0 (entries_of t.level t.decls t.stmts)) → (spot : Spot) →
    or_target (target_under after spot) (targets_in (text + 1) rest spot) ≡ or_target (target_under table spot) (targets_in text left spot)
texts_step text t left rest table after next adds spot =
    let later = targets_in (text + 1) rest spot in
    ap (λ (o : Option Target). or_target o later) (adds spot) ∙ or_assoc (target_under table spot) (targets_from text 0 (entries_of t.level t.decls t.stmts) spot) later
    ∙ ap (λ (l : List Text). or_target (target_under table spot) (targets_in text l spot)) (sym next)

-- ---- a text whose parts are known

abbrev SmallIn : ℕ → PDecls → PStmts → Type 0
SmallIn level ds ss = AllLow level ss × (length (entries_of level ds ss) ≤ MOST_SEGMENT_TOKENS)

module _ (t : Text) (level : ℕ) (ds : PDecls) (ss : PStmts) (l : level ≡ t.level) (d : ds ≡ t.decls) (s : ss ≡ t.stmts) where
  pub small_as : IsSmallText t → AllLow level ss × (length (entries_of level ds ss) ≤ MOST_SEGMENT_TOKENS)
  small_as h = subst (λ (x : PStmts). SmallIn level ds x) (sym s) (subst (λ (x : PDecls). SmallIn level x t.stmts) (sym d) (subst (λ (x : ℕ). SmallIn x t.decls t.stmts) (sym l) h))

  pub adds_as : (text : ℕ) (table after : BTreeMap Spot Target) → TargetAdds table after (targets_from text 0 (entries_of level ds ss)) →
      TargetAdds table after (targets_from text 0 (entries_of t.level t.decls t.stmts))
  adds_as text table after h =
      let A : ℕ → PDecls → PStmts → Type 0 = λ x y z. TargetAdds table after (targets_from text 0 (entries_of x y z)) in
      subst (A t.level t.decls) s (subst (λ (y : PDecls). A t.level y ss) d (subst (λ (x : ℕ). A x ds ss) l h))

-- ---- a program

-- the outer text's are there
pub first_step : (t : Text) (rest : List Text) (now : List Text) (table after : BTreeMap Spot Target) → IsEmpty table →
    TargetAdds table after (targets_from 0 0 (entries_of t.level t.decls t.stmts)) → now ≡ rest → (spot : Spot) →
    or_target (target_under after spot) (targets_in 1 now spot) ≡ targets_in 0 (t ∷ rest) spot
first_step t rest now table after none adds same spot =
    ap (λ (o : Option Target). or_target o (targets_in 1 now spot)) (adds spot)
    ∙ ap (λ (es : List (Spot × Target)). or_target (or_target (lookup (is_at (ghosts.cmp spot)) es) (targets_from 0 0 (entries_of t.level t.decls t.stmts) spot)) (targets_in 1 now spot)) none
    ∙ ap (λ (l : List Text). or_target (targets_from 0 0 (entries_of t.level t.decls t.stmts) spot) (targets_in 1 l spot)) same
