-- The code of WRITE, and the format that is added for it, which can be listed.
use Rattle.std.proofs.Common.{◌≡◌, ℕ, ◌+◌, ◌≤◌, pos, List, [], ◌∷◌, ◌++◌, length, Some, refl, sym, ap, ◌∙◌, subst, arith, append_assoc, length-append}
use Rattle.std.specs.Prelude.{slice_get}
use Rattle.std.proofs.lemmas.List.{append-nil}
use Rattle.algol_tree.specs.declared.tree.PhraseText.{PhraseText}
use Rattle.algol_tree.specs.Plain.{PExprs}
use Rattle.b67_emit_stmt.specs.Places.{Later, Place, LineAt, WriteListAt}
use Rattle.b67_ops.specs.declared.Operator.TheVariants as ops
use Rattle.b67_ops.specs.declared.PlainKind.TheVariants as kinds
use Rattle.b67_ops.specs.declared.intrinsic.Intrinsic.TheVariants.{Write}
use Rattle.b67_segment.specs.declared.code.Format.{Format}
use Rattle.b67_segment.specs.Operators.{Placed, size}
use Rattle.b67_templates.specs.Fragments.{Has, IntrinsicAt, NumberAt}
use Rattle.b67_templates.specs.Code.{AreParts, numbers_in, exprs_count}
use Rattle.b67_templates.specs.Fitting.{PhrasesFit}
use Rattle.b67_templates.specs.Emitting.{Emitted, EmittedWithExits}
use Rattle.b67_emitter.proofs.Composing.{no_exits, then}
use Rattle.b67_emit_stmt.specs.declared.draft.Draft.{Draft}
use Rattle.b67_emit_stmt.specs.Drafts.{DraftAgrees, FormatsCanBeListed, IsFront, HasFew, Emits, draft_noted}
use Rattle.b67_emit_stmt.proofs.Formats.{format_listed}
use Rattle.b67_emit_stmt.proofs.Notes.{unknown}

seam : (xs : List Format) (x : Format) (ys : List Format) → slice_get (xs ++ x ∷ ys) (length xs) ≡ Some x
seam [] x ys = refl
seam (z ∷ xs) x ys = seam xs x ys

-- the format stands at its number, whatever follows
format_there : (old new formats : List Format) (f : Format) → new ≡ old ++ f ∷ [] → IsFront new formats → slice_get formats (length old) ≡ Some f
format_there old new formats f e k =
    let whole : formats ≡ old ++ f ∷ k.0 = k.1 ∙ ap (λ l. l ++ k.0) e ∙ append_assoc old (f ∷ []) k.0 in
    ap (λ l. slice_get l (length old)) whole ∙ seam old f k.0

module _ (sc : Place) (level : ℕ) (phrases : List PhraseText) (es : PExprs) (a b c d e : Draft) (f : Format) where
  pub write_part : (most : ℕ) → e.exits.items ≡ a.exits.items → e.formats.items ≡ a.formats.items ++ f ∷ [] → e.labels.items ≡ a.labels.items → HasFew a → size a.out.operators + 1 ≤ size e.out.operators →
      size e.out.operators ≤ size a.out.operators + most → AreParts phrases f.phrases → PhrasesFit phrases → numbers_in f.phrases ≡ exprs_count es →
      Emitted a.out b.out (λ qs. IntrinsicAt qs level Write (size a.out.operators) (size b.out.operators)) →
      Emitted b.out c.out (λ qs. NumberAt qs level (pos (length a.formats.items)) (size b.out.operators) (size c.out.operators)) →
      ((later : Later) → Emitted c.out d.out (λ qs. LineAt sc later qs level es (size c.out.operators) (size d.out.operators))) →
      Emitted d.out e.out (λ qs. Has qs level (size d.out.operators) (ops.Plain kinds.Entr) (size e.out.operators)) →
      Emits most a e (λ later qs target. WriteListAt sc later qs level phrases es (size a.out.operators) (size e.out.operators))
  write_part most same fs ls few more short parts fit numbers h i j k =
      let first = then (then (then h i) (j unknown)) k in
      let C : Later → List Placed → Type 0 = λ later qs. WriteListAt sc later qs level phrases es (size a.out.operators) (size e.out.operators) in
      let whole : Emitted a.out e.out (λ qs. (later : Later) → DraftAgrees (draft_noted e) later → C later qs) =
      record {
        level = first.level;
        grown = first.grown;
        kept = first.kept;
        claimed = λ qs keeps later known.
            let p = (then (then (then h i) (j later)) k).claimed qs keeps in
            record {
              format = length a.formats.items;
              is = record { list = f.phrases; is = format_there a.formats.items e.formats.items later.formats f fs known.formats; parts = parts; numbers = numbers };
              named = size b.out.operators;
              numbered = size c.out.operators;
              valued = size d.out.operators;
              intrinsic = p.0.0.0;
              number = p.0.0.1;
              items = p.0.1;
              enter = p.1;
            };
      } in
      let E : List ℕ → Type 0 = λ ys. EmittedWithExits a.out e.out a.exits.items ys (λ qs target. (later : Later) → DraftAgrees (draft_noted e) later → C later qs) in
      record {
        code = subst E (sym same) (no_exits a.exits.items whole);
        short = short;
        notes = record { formats = (f ∷ [], fs); labels = []; labels_are = ls ∙ sym (append-nil a.labels.items); behind = tt };
        few = omega (arith, ap length fs, length-append a.formats.items (f ∷ []), few, more);
        more = omega (arith, ap length fs, length-append a.formats.items (f ∷ []), more);
        listed = λ l. subst FormatsCanBeListed (sym fs) (format_listed a.formats.items f phrases parts fit l);
      }
