-- The entry of code is a mark, its control word, and ENTR; and control words of procedures stand one after another.
use Rattle.std.proofs.Common.{◌≡◌, ℕ, Bool, ◌+◌, ◌*◌, ◌<◌, ◌≤◌, List, [], ◌∷◌, ◌++◌, length, take, get_or, refl, sym, ap, ◌∙◌, subst, arith, length-append}
use Rattle.std.proofs.lemmas.List.{take_more}
use Rattle.b67_control.specs.declared.Pcw.{Pcw}
use Rattle.b67_control.specs.Control.{Fits_pcw, pcw_word}
use Rattle.b67_ops.specs.declared.Operator.TheVariants as ops
use Rattle.b67_ops.specs.declared.PlainKind.TheVariants as kinds
use Rattle.b67_segment.specs.Operators.{Placed, size}
use Rattle.b67_segment.specs.Building.{Built, level_set}
use Rattle.b67_templates.specs.Fragments.{Has, EntryAt, ControlsAt, code_at, routine_at, procedure_controls}
use Rattle.b67_templates.specs.Emitting.{Emitted}
use Rattle.b67_emitter.proofs.Appends.{same_level}
use Rattle.b67_emitter.proofs.Composing.{weaker, then}

-- the bits are those of the control word
pub bits_are : (bits : ℕ) (pcw : Pcw) (segment place level inner : ℕ) → bits ≡ (pcw_word pcw).bits → pcw ≡ code_at segment place level → level ≡ inner →
    bits ≡ (pcw_word (code_at segment place inner)).bits
bits_are bits pcw segment place level inner b p l =
    b ∙ ap (λ (x : Pcw). (pcw_word x).bits) p ∙ ap (λ (n : ℕ). (pcw_word (code_at segment place n)).bits) l

pub fits_as : (pcw : Pcw) (segment place level inner : ℕ) → pcw ≡ code_at segment place level → level ≡ inner → Fits_pcw pcw →
    Fits_pcw (code_at segment place inner)
fits_as pcw segment place level inner p l f =
    let F : Pcw → Type 0 = λ x. Fits_pcw x in
    let G : ℕ → Type 0 = λ n. Fits_pcw (code_at segment place n) in subst G l (subst F p f)

pub entry_part : (segment place bits : ℕ) (a b c d : Built) → b.level ≡ a.level → c.level ≡ b.level → bits ≡ (pcw_word (code_at segment place (level_set a + 1))).bits →
    Fits_pcw (code_at segment place (level_set a + 1)) →
    Emitted a b (λ qs. Has qs (level_set a) (size a.operators) (ops.Plain kinds.Mkst) (size b.operators)) →
    Emitted b c (λ qs. Has qs (level_set b) (size b.operators) (ops.Mpcw bits) (size c.operators)) →
    Emitted c d (λ qs. Has qs (level_set c) (size c.operators) (ops.Plain kinds.Entr) (size d.operators)) →
    Emitted a d (λ qs. EntryAt qs (level_set a) segment place (size a.operators) (size d.operators))
entry_part segment place bits a b c d e f is fits h i j =
    let q = same_level a b e in
    let r = same_level b c f ∙ q in
    let M : ℕ → ℕ → Type 0 = λ n l. Emitted b c (λ qs. Has qs l (size b.operators) (ops.Mpcw n) (size c.operators)) in
    let E : ℕ → Type 0 = λ l. Emitted c d (λ qs. Has qs l (size c.operators) (ops.Plain kinds.Entr) (size d.operators)) in
    let word = (pcw_word (code_at segment place (level_set a + 1))).bits in
    weaker (λ qs. EntryAt qs (level_set a) segment place (size a.operators) (size d.operators)) (then (then h (subst (M word) q (subst (λ n. M n (level_set b)) is i))) (subst E r j))
    (λ qs p. record { marked = size b.operators; named = size c.operators; mark = p.0.0; control = p.0.1; fits = fits; enter = p.1 })

-- ---- control words of procedures

pub control_part : (segment bits : ℕ) (a b : Built) → bits ≡ (pcw_word (code_at segment 0 (level_set a + 1))).bits → Fits_pcw (code_at segment 0 (level_set a + 1)) →
    Emitted a b (λ qs. Has qs (level_set a) (size a.operators) (ops.Mpcw bits) (size b.operators)) →
    Emitted a b (λ qs. ControlsAt qs (level_set a) (procedure_controls (level_set a) (segment ∷ [])) (size a.operators) (size b.operators))
control_part segment bits a b is fits h =
    let M : ℕ → Type 0 = λ n. Emitted a b (λ qs. Has qs (level_set a) (size a.operators) (ops.Mpcw n) (size b.operators)) in
    weaker (λ qs. ControlsAt qs (level_set a) (procedure_controls (level_set a) (segment ∷ [])) (size a.operators) (size b.operators)) (subst M is h) (λ qs x. (size b.operators, x, fits, refl))

-- .. and of the code of an actual

pub routine_bits : (bits : ℕ) (names : Bool) (pcw : Pcw) (segment place level inner : ℕ) → bits ≡ (pcw_word (record pcw { names = names })).bits → pcw ≡ code_at segment place level → level ≡ inner →
    bits ≡ (pcw_word (routine_at names segment place inner)).bits
routine_bits bits names pcw segment place level inner b p l =
    b ∙ ap (λ (x : Pcw). (pcw_word (record x { names = names })).bits) p ∙ ap (λ (n : ℕ). (pcw_word (routine_at names segment place n)).bits) l

pub fits_named : (names : Bool) (pcw : Pcw) (segment place level inner : ℕ) → pcw ≡ code_at segment place level → level ≡ inner → Fits_pcw pcw →
    Fits_pcw (routine_at names segment place inner)
fits_named names pcw segment place level inner p l f = fits_as pcw segment place level inner p l f

pub routine_part : (names : Bool) (segment place bits : ℕ) (a b : Built) → bits ≡ (pcw_word (routine_at names segment place (level_set a + 1))).bits →
    Fits_pcw (routine_at names segment place (level_set a + 1)) →
    Emitted a b (λ qs. Has qs (level_set a) (size a.operators) (ops.Mpcw bits) (size b.operators)) →
    Emitted a b (λ qs. ControlsAt qs (level_set a) (routine_at names segment place (level_set a + 1) ∷ []) (size a.operators) (size b.operators))
routine_part names segment place bits a b is fits h =
    let M : ℕ → Type 0 = λ n. Emitted a b (λ qs. Has qs (level_set a) (size a.operators) (ops.Mpcw n) (size b.operators)) in
    weaker (λ qs. ControlsAt qs (level_set a) (routine_at names segment place (level_set a + 1) ∷ []) (size a.operators) (size b.operators)) (subst M is h) (λ qs x. (size b.operators, x, fits, refl))

pub controls_append : (qs : List Placed) (level : ℕ) (ks : List ℕ) (k from middle to : ℕ) → ControlsAt qs level (procedure_controls level ks) from middle → ControlsAt qs level (procedure_controls level (k ∷ [])) middle to →
    ControlsAt qs level (procedure_controls level (ks ++ k ∷ [])) from to
controls_append qs level [] k from middle to e h = let H : ℕ → Type 0 = λ f. ControlsAt qs level (procedure_controls level (k ∷ [])) f to in subst H (sym e) h
controls_append qs level (x ∷ ks) k from middle to (m, here, fits, rest) h = (m, here, fits, controls_append qs level ks k m middle to rest h)

-- From the first builder to the second the control words of these segments were appended.
pub record Controls (segments : List ℕ) (before after : Built) : Type 0 where
  pub code : Emitted before after (λ qs. ControlsAt qs (level_set before) (procedure_controls (level_set before) segments) (size before.operators) (size after.operators))
  pub level : after.level ≡ before.level
  pub wide : size after.operators ≤ size before.operators + 12 * length segments

pub controls_first : (b : Built) → Controls [] b b
controls_first b = record {
  code = record { level = refl; grown = omega arith; kept = λ at level next op lo hi s. s; claimed = λ qs k. refl };
  level = refl;
  wide = omega arith;
}

-- one more of them
controls_next : (ks : List ℕ) (k : ℕ) (a b c : Built) → Controls ks a b →
    Emitted b c (λ qs. ControlsAt qs (level_set b) (procedure_controls (level_set b) (k ∷ [])) (size b.operators) (size c.operators)) → c.level ≡ b.level → size c.operators ≤ size b.operators + 12 →
    Controls (ks ++ k ∷ []) a c
controls_next ks k a b c s e l w =
    let E : ℕ → Type 0 = λ n. Emitted b c (λ qs. ControlsAt qs n (procedure_controls n (k ∷ [])) (size b.operators) (size c.operators)) in
    record {
      code = weaker (λ qs. ControlsAt qs (level_set a) (procedure_controls (level_set a) (ks ++ k ∷ [])) (size a.operators) (size c.operators)) (then s.code (subst E (same_level a b s.level) e))
          (λ qs both. controls_append qs (level_set a) ks k (size a.operators) (size b.operators) (size c.operators) both.0 both.1);
      level = l ∙ s.level;
      wide = omega (arith, s.wide, length-append ks (k ∷ []));
    }

pub controls_more : (segments : List ℕ) (i : ℕ) (a b c : Built) → i < length segments → Controls (take i segments) a b →
    Emitted b c (λ qs. ControlsAt qs (level_set b) (procedure_controls (level_set b) (get_or segments i 0 ∷ [])) (size b.operators) (size c.operators)) → c.level ≡ b.level →
    size c.operators ≤ size b.operators + 12 → Controls (take (i + 1) segments) a c
controls_more segments i a b c within s e l w =
    let S : List ℕ → Type 0 = λ ks. Controls ks a c in
    subst S (sym (take_more segments i 0 within)) (controls_next (take i segments) (get_or segments i 0) a b c s e l w)
