-- Which operators stand where in a builder, in its segment and in code.
use Rattle.std.proofs.Common.{◌≡◌, ◌≢◌, ℕ, ◌+◌, eqb, Some, Ok, List, [], ◌∷◌, ◌++◌, length, drop, refl, sym, ap, ◌∙◌, subst, inl, inr, arith, append_assoc, length-append}
use Rattle.std.specs.Prelude.{slice_get}
use Rattle.std.proofs.lemmas.Bool.{ne_eqb, cases_Bool, cond-true, cond-false}
use Rattle.std.proofs.lemmas.List.{append-nil, drop_at}
use Rattle.b67_ops.specs.declared.Operator.{Operator}
use Rattle.b67_ops.specs.declared.Operator.TheVariants.{Valc, Namc, Lt8, Lt16, Lt48, Mpcw, Branch, Plain}
use Rattle.b67_ops.specs.declared.BranchKind.{BranchKind}
use Rattle.b67_ops.specs.Spelling.{spelling, OperatorStands}
use Rattle.b67_ops.proofs.Laws.{decoded_stands}
use Rattle.b67_segment.specs.declared.code.Segment.{Segment}
use Rattle.b67_segment.specs.declared.code.Code.{Code}
use Rattle.b67_segment.specs.Operators.{Placed, width, text, size, IsFit, AreFit, StandsAmong, aimed, aimed_from}
use Rattle.b67_segment.specs.Syllables.{syllables, Spells}
use Rattle.b67_segment.specs.Fetching.{fetched_from, fetched, StandsIn}
use Rattle.b67_segment.proofs.Texts.{text_append}
use Rattle.b67_segment.proofs.Aiming.{aimed_at, AreFit_parts}

-- the place after one more operator
pub size_append : (ps : List Placed) (p : Placed) → size (ps ++ p ∷ []) ≡ size ps + width (size ps) p
size_append ps p =
    let sp = spelling (size ps) p.level p.operator in
    ap length (text_append 0 ps (p ∷ []) ∙ ap (λ k. text 0 ps ++ text k (p ∷ [])) (omega arith) ∙ ap (λ xs. text 0 ps ++ xs) (append-nil sp))
    ∙ length-append (text 0 ps) sp

-- what is appended stands at the end
pub StandsAmong_appended : (ps : List Placed) (level : ℕ) (op : Operator)
    → StandsAmong (ps ++ record { level = level; operator = op } ∷ []) (size ps) level op (size (ps ++ record { level = level; operator = op } ∷ []))
StandsAmong_appended ps level op = record {
  before = ps;
  after = [];
  parts = refl;
  at_is = refl;
  next_is = size_append ps (record { level = level; operator = op });
}

-- what stands still stands after more
pub StandsAmong_kept : {ps : List Placed} {at level : ℕ} {op : Operator} {next : ℕ} (more : List Placed)
    → StandsAmong ps at level op next → StandsAmong (ps ++ more) at level op next
StandsAmong_kept {ps} {at} {level} {op} {next} more s = record {
  before = s.before;
  after = s.after ++ more;
  parts = ap (λ qs. qs ++ more) s.parts ∙ append_assoc s.before (record { level = level; operator = op } ∷ s.after) more;
  at_is = s.at_is;
  next_is = s.next_is;
}

-- a branch is as wide wherever it goes
pub aimed_width : (at level target : ℕ) (op : Operator) → length (spelling at level (aimed target op)) ≡ length (spelling at level op)
aimed_width at level target (Valc couple) = refl
aimed_width at level target (Namc couple) = refl
aimed_width at level target (Lt8 n) = refl
aimed_width at level target (Lt16 n) = refl
aimed_width at level target (Lt48 n) = refl
aimed_width at level target (Mpcw n) = refl
aimed_width at level target (Branch kind place) = refl
aimed_width at level target (Plain kind) = refl

-- an operator among others that are aimed, with as many syllables before it
pub record Aside (from : ℕ) (before : List Placed) (p : Placed) (all : List Placed) : Type 0 where
  pub front : List Placed
  pub back : List Placed
  pub parts : all ≡ front ++ p ∷ back
  pub same : length (text from front) ≡ length (text from before)

aimed_aside : (from place target : ℕ) (before after : List Placed) (p : Placed) → from + length (text from before) ≢ place
    → Aside from before p (aimed_from from place target (before ++ p ∷ after))
aimed_aside from place target [] after p h = record {
  front = [];
  back = aimed_from (from + width from p) place target after;
  parts = cond-false (eqb from place) _ _ (ne_eqb from place (λ e. h (omega arith)));
  same = refl;
}
aimed_aside from place target (q ∷ before) after p h =
    let next = from + width from q in
    let changed : Placed = record { level = q.level; operator = aimed target q.operator } in
    let there = changed ∷ before ++ p ∷ after in
    let further = q ∷ aimed_from next place target (before ++ p ∷ after) in
    let wide = aimed_width from q.level target q.operator in
    elim (cases_Bool (eqb from place)) [
      | inl here ↦ record {
        front = changed ∷ before;
        back = after;
        parts = cond-true (eqb from place) there further here;
        same = omega (
          arith,
          wide,
          length-append (spelling from q.level (aimed target q.operator)) (text (from + width from changed) before),
          length-append (spelling from q.level q.operator) (text next before),
          ap (λ n. length (text (from + n) before)) wide,
        );
      }
      | inr other ↦
          let rest = aimed_aside next place target before after p
          (λ e. h (omega (arith, length-append (spelling from q.level q.operator) (text next before)))) in
          record {
            front = q ∷ rest.front;
            back = rest.back;
            parts = cond-false (eqb from place) there further other ∙ ap (λ qs. q ∷ qs) rest.parts;
            same = omega (
              arith,
              rest.same,
              length-append (spelling from q.level q.operator) (text next rest.front),
              length-append (spelling from q.level q.operator) (text next before),
            );
          }
    ]

-- a branch that is aimed leaves the operators at other places only
pub StandsAmong_aimed : {ps : List Placed} {at level : ℕ} {op : Operator} {next : ℕ} (branch target : ℕ) → at ≢ branch
    → StandsAmong ps at level op next → StandsAmong (aimed_from 0 branch target ps) at level op next
StandsAmong_aimed {ps} {at} {level} {op} {next} branch target h s =
    let a = aimed_aside 0 branch target s.before s.after (record { level = level; operator = op }) (λ e. h (omega (arith, s.at_is))) in
    record {
      before = a.front;
      after = a.back;
      parts = ap (aimed_from 0 branch target) s.parts ∙ a.parts;
      at_is = s.at_is ∙ sym a.same;
      next_is = s.next_is;
    }

-- and stands there with its new target
pub StandsAmong_branch : {ps : List Placed} {at level : ℕ} {kind : BranchKind} {old next : ℕ} (target : ℕ)
    → StandsAmong ps at level (Branch kind old) next → StandsAmong (aimed_from 0 at target ps) at level (Branch kind target) next
StandsAmong_branch {ps} {at} {level} {kind} {old} {next} target s = record {
  before = s.before;
  after = s.after;
  parts = ap (aimed_from 0 at target) s.parts
      ∙ aimed_at 0 s.before s.after (record { level = level; operator = Branch kind old }) target at (omega (arith, s.at_is));
  at_is = s.at_is;
  next_is = s.next_is;
}

-- an operator of a segment fits its level
IsFit_among : {ps : List Placed} {at level : ℕ} {op : Operator} {next : ℕ} → AreFit ps → StandsAmong ps at level op next → IsFit (record { level = level; operator = op })
IsFit_among {ps} {at} {level} {op} {next} fit s =
    (AreFit_parts s.before (record { level = level; operator = op }) s.after (subst AreFit s.parts fit)).1

-- an operator stands in the code that spells it
pub Stands_spelled : {ps : List Placed} {segment : Segment} {at level : ℕ} {op : Operator} {next : ℕ} → Spells ps segment
    → StandsAmong ps at level op next → OperatorStands (syllables segment.words) at level op next
Stands_spelled {ps} {segment} {at} {level} {op} {next} sp s =
    let p : Placed = record { level = level; operator = op } in
    let bytes = syllables segment.words in
    let x = text 0 s.before in
    let word = spelling at level op in
    let rest = text (at + length word) s.after in
    let here : 0 + length x ≡ at = omega (arith, s.at_is) in
    let all : bytes ≡ x ++ (word ++ rest) =
    sp.code ∙ ap (text 0) s.parts ∙ text_append 0 s.before (p ∷ s.after) ∙ ap (λ k. x ++ text k (p ∷ s.after)) here in
    let from_here : drop at bytes ≡ word ++ rest = ap (drop at) all ∙ drop_at x (word ++ rest) at (sym s.at_is) in
    let from_next : drop next bytes ≡ rest =
    ap (drop next) (all ∙ sym (append_assoc x word rest))
    ∙ drop_at (x ++ word) rest next (omega (arith, s.at_is, s.next_is, length-append x word)) in
    record {
      text = from_here ∙ ap (λ xs. word ++ xs) (sym from_next);
      next_is = s.next_is;
      fits = (IsFit_among sp.fit s).fits;
    }

-- what stands among a segment's operators is fetched there, wherever the segment stands in a code
pub StandsIn_spelled : {ps : List Placed} {segment : Segment} {at level : ℕ} {op : Operator} {next : ℕ} (code : Code) (number : ℕ)
    → slice_get code.segments number ≡ Some segment → Spells ps segment → StandsAmong ps at level op next
    → StandsIn code (record { segment = number; place = at }) level op next
StandsIn_spelled {segment = segment} code number there sp s = record { segment = segment; there = there; stands = Stands_spelled sp s }

pub fetched_spelled : {ps : List Placed} {segment : Segment} {at level : ℕ} {op : Operator} {next : ℕ} (code : Code) (number : ℕ)
    → slice_get code.segments number ≡ Some segment → Spells ps segment → StandsAmong ps at level op next
    → fetched code (record { segment = number; place = at }) level ≡ Ok (op, next)
fetched_spelled {at = at} {level = level} code number there sp s =
    ap (λ o. fetched_from o at level) there ∙ decoded_stands (IsFit_among sp.fit s).known (Stands_spelled sp s)
