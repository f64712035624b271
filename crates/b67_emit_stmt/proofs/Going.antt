-- GO TO, and the statements after labels.
use Rattle.std.proofs.Common.{◌≡◌, ℕ, pos, List, [], ◌∷◌, ◌++◌, length, refl, sym, ap, ◌∙◌, subst, arith}
use Rattle.std.specs.List.{AllByRecursion}
use Rattle.std.specs.Prelude.{Option, Some, IsSome}
use Rattle.std.proofs.lemmas.List.{append-nil}
use Rattle.algol_tree.specs.declared.tree.Named.{Named}
use Rattle.algol_tree.specs.Plain as tree
use Rattle.algol_tree.specs.Plain.{PStmt}
use Rattle.b67_ops.specs.declared.Operator.TheVariants as ops
use Rattle.b67_ops.specs.declared.PlainKind.TheVariants as kinds
use Rattle.b67_ops.specs.declared.intrinsic.Intrinsic.TheVariants.{GoTo}
use Rattle.b67_segment.specs.declared.code.Format.{Format}
use Rattle.b67_segment.specs.Operators.{StandsAmong, size}
use Rattle.b67_segment.specs.Building.{Built}
use Rattle.b67_templates.specs.Emitting.{Emitted}
use Rattle.b67_templates.specs.Fitting.{Target}
use Rattle.b67_templates.specs.Labels.{IsLabel}
use Rattle.b67_templates.specs.Fragments.{Has, IntrinsicAt, NumberAt}
use Rattle.b67_emitter.specs.declared.names.Target as kept
use Rattle.b67_emitter.specs.Values.{labels, target_told}
use Rattle.b67_emitter.proofs.Composing.{then, weaker}
use Rattle.b67_list.proofs.Lists.{each_back}
use Rattle.b67_emit_stmt.specs.declared.draft.Draft.{Draft}
use Rattle.b67_emit_stmt.specs.declared.draft.Known.{Known}
use Rattle.b67_emit_stmt.specs.declared.draft.Label.{Label}
use Rattle.b67_emit_stmt.specs.Drafts.{FormatsCanBeListed, Emits, HasFew}
use Rattle.b67_emit_stmt.specs.Fits.{LabelFits}
use Rattle.b67_emit_stmt.specs.Lengths.{stmt_syllables}
use Rattle.b67_emit_stmt.specs.Places.{Later, Place, GoToAt, StmtAt}
use Rattle.b67_emit_stmt.proofs.Arms.{Stands}
use Rattle.b67_emit_stmt.proofs.Drafts.{emits_then, emits_weaker}

-- ---- GO TO

-- where it leads is known
pub target_known : (s : Known) (sc : Place) (level : ℕ) (n : Named) → LabelFits sc s level n → IsSome (labels s.names.now n.spot)
target_known s sc level n fit = let S : Option Target → Type 0 = λ o. IsSome o in subst S (sym fit.1) refl

one_target : (x y : Target) → Some x ≡ Some y → x ≡ y
one_target x y e = cc

pub go_to_part : (s : Known) (sc : Place) (later : Later) (level : ℕ) (n : Named) (target : kept.Target) (a b d e f g : Built) → LabelFits sc s level n →
    labels s.names.now n.spot ≡ target_told (Some target) → Emitted a b (λ qs. IntrinsicAt qs level GoTo (size a.operators) (size b.operators)) →
    Emitted b d (λ qs. NumberAt qs level (pos target.level) (size b.operators) (size d.operators)) →
    Emitted d e (λ qs. NumberAt qs level (pos target.segment) (size d.operators) (size e.operators)) →
    Emitted e f (λ qs. NumberAt qs level (pos target.entry) (size e.operators) (size f.operators)) →
    Emitted f g (λ qs. Has qs level (size f.operators) (ops.Plain kinds.Entr) (size g.operators)) →
    Emitted a g (λ qs. GoToAt sc later qs level n (size a.operators) (size g.operators))
go_to_part s sc later level n target a b d e f g fit is h i j k l =
    let told : Target = record { level = target.level; segment = target.segment; entry = target.entry } in
    let same : fit.0 ≡ told = one_target fit.0 told (sym fit.1 ∙ is) in
    let L : Target → Type 0 = λ t. IsLabel sc.scopes level n t.level t.segment t.entry in
    weaker (λ qs. GoToAt sc later qs level n (size a.operators) (size g.operators)) (then (then (then (then h i) j) k) l)
    (λ qs p. record {
      target = target.level;
      segment = target.segment;
      entry = target.entry;
      label = subst L same fit.2;
      named = size b.operators;
      leveled = size d.operators;
      segmented = size e.operators;
      placed = size f.operators;
      intrinsic = p.0.0.0.0;
      level_stands = p.0.0.0.1;
      segment_stands = p.0.0.1;
      entry_stands = p.0.1;
      enter = p.1;
    })

-- ---- labels

-- where the next statement begins is noted
pub label_piece : (a b : Draft) (l : Label) → b.out ≡ a.out → b.exits.items ≡ a.exits.items → b.formats.items ≡ a.formats.items → b.labels.items ≡ a.labels.items ++ l ∷ [] →
    l.place ≡ size a.out.operators → HasFew a → Emits 0 a b (λ later qs target. later.labels l.spot ≡ Some (size a.out.operators))
label_piece a b l out es fs ls at few =
    let P : Later → Label → Type 0 = λ later i. later.labels i.spot ≡ Some i.place in
    let same : size b.out.operators ≡ size a.out.operators = ap (λ (o : Built). size o.operators) out in
    record {
      code = record {
        level = ap (λ (o : Built). o.level) out;
        grown = omega (arith, same);
        kept = λ p level next op lo hi s. subst (λ (o : Built). StandsAmong o.operators p level op next) (sym out) s;
        exits = [];
        added = es ∙ sym (append-nil a.exits.items);
        are = tt;
        claimed = λ qs target hi g later known.
            let A : List Label → Type 0 = λ i. AllByRecursion (P later) i in
            let last = each_back (P later) a.labels.items (l ∷ []) (subst A ls known.labels) in
            last.0 ∙ ap (λ (i : ℕ). Some i) at;
      };
      short = omega (arith, same);
      notes = record {
        formats = ([], fs ∙ sym (append-nil a.formats.items));
        labels = l ∷ [];
        labels_are = ls;
        behind = (omega (arith, at), tt);
      };
      few = omega (arith, ap (λ (i : List Format). length i) fs, few, same);
      more = omega (arith, ap (λ (i : List Format). length i) fs, same);
      listed = λ i. subst FormatsCanBeListed (sym fs) i;
    }

pub label_arm : (s : Known) (sc : Place) (level : ℕ) (n : Named) (x : PStmt) (a b c : Draft) → size b.out.operators ≡ size a.out.operators →
    Emits 0 a b (λ later qs target. later.labels n.spot ≡ Some (size a.out.operators)) → Emits (stmt_syllables s x) b c (Stands sc level x b c) →
    Emits (stmt_syllables s (tree.label n x)) a c (Stands sc level (tree.label n x) a c)
label_arm s sc level n x a b c same h i =
    emits_weaker (Stands sc level (tree.label n x) a c) (emits_then h i) (omega arith)
    (λ later qs target hi p.
    let S : ℕ → Type 0 = λ f. StmtAt sc later qs level x f (size c.out.operators) target in
    (p.0, subst S same p.1))
