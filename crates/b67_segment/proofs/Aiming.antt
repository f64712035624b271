-- A branch that is made to go elsewhere.
use Rattle.std.proofs.Common.{◌≡◌, ℕ, ◌+◌, ◌/◌, ◌%◌, ◌^◌, ◌<◌, eqb, None, List, [], ◌∷◌, ◌++◌, length, take, drop, refl, sym, ap, ◌∙◌, subst, arith, append_assoc, length-append}
use Rattle.std.proofs.lemmas.Bool.{eq-eqb, ne_eqb, cond-true, cond-false}
use Rattle.std.proofs.lemmas.List.{take_at, drop_at}
use Rattle.std.specs.Int.{w16, to_be_bytes}
use Rattle.b67_ops.specs.declared.Operator.TheVariants.{Branch}
use Rattle.b67_ops.specs.declared.BranchKind.{BranchKind}
use Rattle.b67_ops.specs.Codes.{code_of}
use Rattle.b67_ops.specs.declared.table.OperatorKind.TheVariants as kinds
use Rattle.b67_ops.specs.Spelling.{spelling}
use Rattle.b67_ops.proofs.Laws.{length_spelling}
use Rattle.b67_segment.specs.declared.code.Mark.{Mark}
use Rattle.b67_segment.specs.Operators.{Placed, width, text, size, marks_of, IsFit, AreFit, aimed, aimed_from}
use Rattle.b67_segment.specs.Building.{Builds, IsBranchAt, spliced}
use Rattle.b67_segment.proofs.Texts.{text_append, marks_after_append, AreFit_append}

splice : (x y : List ℕ) (a b c : ℕ) (zs : List ℕ) (at : ℕ) → length x ≡ at
    → take (at + 1) (x ++ a ∷ b ∷ c ∷ y) ++ zs ++ drop (at + 3) (x ++ a ∷ b ∷ c ∷ y) ≡ x ++ a ∷ (zs ++ y)
splice x y a b c zs at h =
    let all = x ++ a ∷ b ∷ c ∷ y in
    let one : all ≡ (x ++ a ∷ []) ++ (b ∷ c ∷ y) = sym (append_assoc x (a ∷ []) (b ∷ c ∷ y)) in
    let three : all ≡ (x ++ a ∷ b ∷ c ∷ []) ++ y = sym (append_assoc x (a ∷ b ∷ c ∷ []) y) in
    let first : take (at + 1) all ≡ x ++ a ∷ [] =
    ap (take (at + 1)) one ∙ take_at (x ++ a ∷ []) (b ∷ c ∷ y) (at + 1) (omega (arith, length-append x (a ∷ []))) in
    let last : drop (at + 3) all ≡ y =
    ap (drop (at + 3)) three ∙ drop_at (x ++ a ∷ b ∷ c ∷ []) y (at + 3) (omega (arith, length-append x (a ∷ b ∷ c ∷ []))) in
    ap (λ xs. xs ++ zs ++ drop (at + 3) all) first ∙ ap (λ ys. (x ++ a ∷ []) ++ zs ++ ys) last
    ∙ append_assoc (x ++ a ∷ []) zs y ∙ append_assoc x (a ∷ []) (zs ++ y)

-- the operator at a place among others is the one that is changed there
pub aimed_at : (from : ℕ) (before after : List Placed) (p : Placed) (target at : ℕ) → at ≡ from + length (text from before)
    → aimed_from from at target (before ++ p ∷ after) ≡ before ++ record { level = p.level; operator = aimed target p.operator } ∷ after
aimed_at from [] after p target at h = cond-true (eqb from at) _ _ (eq-eqb from at (omega arith))
aimed_at from (q ∷ before) after p target at h =
    let wide = length_spelling from q.level q.operator in
    let next = from + width from q in
    let joined = length-append (spelling from q.level q.operator) (text next before) in
    cond-false (eqb from at) _ _ (ne_eqb from at (λ e. omega (arith, joined, wide.0)))
    ∙ ap (λ qs. q ∷ qs) (aimed_at next before after p target at (omega (arith, joined)))

pub AreFit_parts : (ps : List Placed) (q : Placed) (qs : List Placed) → AreFit (ps ++ q ∷ qs) → AreFit ps × IsFit q × AreFit qs
AreFit_parts [] q qs h = (tt, h.0, h.1)
AreFit_parts (p ∷ ps) q qs h = let rest = AreFit_parts ps q qs h.1 in ((h.0, rest.0), rest.1, rest.2)

module _ (before after : List Placed) (level : ℕ) (kind : BranchKind) where
  branch : ℕ → Placed
  branch place = record { level = level; operator = Branch kind place }

  -- the syllables and the marks around a branch
  branch_text : (place : ℕ) → text 0 (before ++ branch place ∷ after)
      ≡ text 0 before ++ code_of (kinds.Branch kind) ∷ (to_be_bytes w16 place ++ text (size before + 3) after)
  unfolding branch
  branch_text place =
      text_append 0 before (branch place ∷ after)
      ∙ ap (λ k. text 0 before ++ text k (branch place ∷ after)) (omega arith)

  branch_marks : (old target : ℕ) → marks_of (before ++ branch old ∷ after) ≡ marks_of (before ++ branch target ∷ after)
  unfolding branch
  branch_marks old target =
      marks_after_append 0 None before (branch old ∷ after) ∙ sym (marks_after_append 0 None before (branch target ∷ after))

  -- the same operators are built, but for the branch's target
  branch_aimed : (old target : ℕ) (bytes : List ℕ) (ms : List Mark) → target < 2 ^ 16 → Builds (before ++ branch old ∷ after) bytes ms
      → Builds (before ++ branch target ∷ after) (spliced bytes (size before) target) ms
  unfolding branch
  branch_aimed old target bytes ms fits b =
      let at = size before in
      let x = text 0 before in
      let y = text (at + 3) after in
      let parts = AreFit_parts before (branch old) after b.fit in
      let is : bytes ≡ x ++ code_of (kinds.Branch kind) ∷ (to_be_bytes w16 old ++ y) = b.code ∙ branch_text old in
      let text_is : spliced bytes at target ≡ text 0 (before ++ branch target ∷ after) =
      ap (λ xs. spliced xs at target) is
      ∙ splice x y (code_of (kinds.Branch kind)) (old / 256 % 256) (old % 256) (to_be_bytes w16 target) at refl
      ∙ sym (branch_text target) in
      record {
        code = text_is;
        marks = b.marks ∙ branch_marks old target;
        fit = AreFit_append before (branch target ∷ after) parts.0 (record { outer = parts.1.outer; known = parts.1.known; fits = fits }, parts.2);
        room = omega (
          arith,
          b.room,
          ap length is,
          ap length text_is,
          ap length (branch_text target),
          length-append x (code_of (kinds.Branch kind) ∷ (to_be_bytes w16 old ++ y)),
          length-append x (code_of (kinds.Branch kind) ∷ (to_be_bytes w16 target ++ y)),
        );
      }

-- where a branch stands, it is aimed
pub Builds_aimed : {ps : List Placed} {bytes : List ℕ} {ms : List Mark} (at target : ℕ) → target < 2 ^ 16 → IsBranchAt ps at → Builds ps bytes ms
    → Builds (aimed_from 0 at target ps) (spliced bytes at target) ms
unfolding branch
Builds_aimed {ps} {bytes} {ms} at target fits here b =
    let s = here.stands in
    let built : Builds (s.before ++ branch s.before s.after here.level here.kind here.old ∷ s.after) bytes ms = subst (λ qs. Builds qs bytes ms) s.parts b in
    let after = branch_aimed s.before s.after here.level here.kind here.old target bytes ms fits built in
    let is : aimed_from 0 at target ps ≡ s.before ++ branch s.before s.after here.level here.kind target ∷ s.after =
    ap (aimed_from 0 at target) s.parts ∙ aimed_at 0 s.before s.after (record { level = here.level; operator = Branch here.kind here.old }) target at (omega (arith, s.at_is)) in
    rw is (rw s.at_is after)

-- a branch lies within the code
pub branch_within : {ps : List Placed} {bytes : List ℕ} {ms : List Mark} (at : ℕ) → IsBranchAt ps at → Builds ps bytes ms → at + 2 < length bytes
unfolding branch
branch_within {ps} {bytes} {ms} at here b =
    let s = here.stands in
    let y = text (size s.before + 3) s.after in
    let is : bytes ≡ text 0 s.before ++ code_of (kinds.Branch here.kind) ∷ (to_be_bytes w16 here.old ++ y) =
    b.code ∙ ap (text 0) s.parts ∙ branch_text s.before s.after here.level here.kind here.old in
    omega (arith, s.at_is, ap length is, length-append (text 0 s.before) (code_of (kinds.Branch here.kind) ∷ (to_be_bytes w16 here.old ++ y)))
