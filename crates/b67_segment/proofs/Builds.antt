-- What a builder keeps, under each of its calls.
use Rattle.std.proofs.Common.{◌*◌, ◌≡◌, ◌≢◌, ℕ, ◌+◌, ◌<◌, ◌≤◌, Bool, true, false, cond, Option, Some, None, List, [], ◌∷◌, ◌++◌, length, refl, sym, ap, ◌∙◌, subst, arith, length-append}
use Rattle.std.proofs.lemmas.List.{append-nil}
use Rattle.std.specs.Option.{ForSome}
use Rattle.std.specs.Prelude.{Result, Ok, Err, OnOk, OnErr}
use Rattle.std.specs.declared.alloc.AllocError.{AllocError}
use Rattle.b67_segment.specs.declared.TheConstants.{MOST_SEGMENT_WORDS}
use Rattle.b67_ops.specs.declared.TheConstants.{OUTER_LEVEL, MOST_LEVEL}
use Rattle.b67_ops.specs.declared.Operator.{Operator}
use Rattle.b67_ops.specs.Spelling.{spelling, Fits}
use Rattle.b67_segment.specs.declared.code.Mark.{Mark}
use Rattle.b67_segment.specs.Operators.{Placed, text, is_level, marks_after, marks_of, last_level}
use Rattle.b67_segment.specs.Building.{Built, level_set, appended, operators_of, level_marked, marks_with, Builds, IsBuilt}
use Rattle.b67_segment.proofs.Texts.{same_level, text_append, marks_after_append, AreFit_append, marked_marks}
use Rattle.b67_segment.proofs.Parsing.{operators_of_built}

-- nothing is built of nothing
pub Builds_none : Builds [] [] []
Builds_none = record { code = refl; marks = refl; fit = tt; room = omega arith }

pub operators_of_none : operators_of [] [] ≡ []
operators_of_none = operators_of_built Builds_none

-- what is built is kept
pub IsBuilt_from : {ps : List Placed} {bytes : List ℕ} {ms : List Mark} (level : Option ℕ) (room : ℕ) → Builds ps bytes ms
    → ForSome level (λ l. (OUTER_LEVEL ≤ l) × (l ≤ MOST_LEVEL)) → (level_marked None ms ≢ level → 0 < room) → IsBuilt bytes ms level room
IsBuilt_from {ps} {bytes} {ms} level room b known marking = record {
  builds = subst (λ qs. Builds qs bytes ms) (sym (operators_of_built b)) b;
  known = known;
  marking = marking;
}

pub IsBuilt_none : (bytes : List ℕ) (ms : List Mark) (room : ℕ) → bytes ≡ [] → ms ≡ [] → IsBuilt bytes ms None room
IsBuilt_none bytes ms room p q = rw (p, q) (IsBuilt_from None room Builds_none (λ l e. cc) (λ h. absurd (h refl)))

-- a mark more, or not
marks_with_append : (b : Bool) (m : Mark) (ms : List Mark) → ms ++ cond b [] (m ∷ []) ≡ cond b ms (ms ++ m ∷ [])
marks_with_append true m ms = append-nil ms
marks_with_append false m ms = refl

-- one more operator is built by its syllables, and by its mark
pub Builds_append : {ps : List Placed} {bytes : List ℕ} {ms : List Mark} (level : ℕ) (op : Operator) → Builds ps bytes ms → OUTER_LEVEL ≤ level → level ≤ MOST_LEVEL → Fits level op
    → length bytes + length (spelling (length bytes) level op) ≤ 6 * MOST_SEGMENT_WORDS
    → Builds (ps ++ record { level = level; operator = op } ∷ []) (bytes ++ spelling (length bytes) level op) (marks_with ms (length bytes) level)
Builds_append {ps} {bytes} {ms} level op b outer most fits room =
    let p : Placed = record { level = level; operator = op } in
    let at = length bytes in
    let sp = spelling at level op in
    let place : at ≡ length (text 0 ps) = ap length b.code in
    let more : text (0 + length (text 0 ps)) (p ∷ []) ≡ sp ++ [] = ap (λ k. text k (p ∷ [])) (omega arith) in
    let all : text 0 (ps ++ p ∷ []) ≡ bytes ++ sp =
    text_append 0 ps (p ∷ []) ∙ ap (λ xs. text 0 ps ++ xs) (more ∙ append-nil sp) ∙ ap (λ xs. xs ++ sp) (sym b.code) in
    let before : last_level None ps ≡ level_marked None ms = sym (marked_marks 0 None ps) ∙ ap (level_marked None) (sym b.marks) in
    let m : Mark = record { place = at; level = level } in
    let last : marks_after (0 + length (text 0 ps)) (last_level None ps) (p ∷ []) ≡ cond (is_level (level_marked None ms) level) [] (m ∷ []) =
    ap (λ k. marks_after k (last_level None ps) (p ∷ [])) (omega arith) ∙ ap (λ k. marks_after at k (p ∷ [])) before in
    let told : marks_of (ps ++ p ∷ []) ≡ marks_with ms at level =
    marks_after_append 0 None ps (p ∷ []) ∙ ap (λ xs. marks_of ps ++ xs) last ∙ ap (λ xs. xs ++ cond (is_level (level_marked None ms) level) [] (m ∷ [])) (sym b.marks)
    ∙ marks_with_append (is_level (level_marked None ms) level) m ms in
    record {
      code = sym all;
      marks = sym told;
      fit = AreFit_append ps (p ∷ []) b.fit (record { outer = outer; known = most; fits = fits }, tt);
      room = omega (arith, length-append bytes sp);
    }

-- the level of the last mark is the one that was set last for an operator
marked_with : (ms : List Mark) (at level : ℕ) → level_marked None (marks_with ms at level) ≡ Some level
marked_with ms at level = marked-cases (is_level (level_marked None ms) level) ms at level refl
  where
    marked-push : (before : Option ℕ) (ms : List Mark) (m : Mark) → level_marked before (ms ++ m ∷ []) ≡ Some m.level
    marked-push before [] m = refl
    marked-push before (x ∷ ms) m = marked-push (Some x.level) ms m

    marked-cases : (b : Bool) (ms : List Mark) (at level : ℕ) → is_level (level_marked None ms) level ≡ b
        → level_marked None (cond b ms (ms ++ record { place = at; level = level } ∷ [])) ≡ Some level
    marked-cases true ms at level h = same_level (level_marked None ms) level h
    marked-cases false ms at level h = marked-push None ms (record { place = at; level = level })

module _ (bytes : List ℕ) (ms : List Mark) (room level : ℕ) (op : Operator) (built : IsBuilt bytes ms (Some level) room) (fits : Fits level op)
    (short : length bytes + length (spelling (length bytes) level op) ≤ 6 * MOST_SEGMENT_WORDS) where
  known : (OUTER_LEVEL ≤ level) × (level ≤ MOST_LEVEL)
  known = built.known level refl

  -- what a call of append leaves is kept, whether or not there was memory
  pub append_keeps : (bytes' : List ℕ) (ms' : List Mark) (room' : ℕ) (r : Result ℕ AllocError)
      → OnOk r (bytes' ≡ bytes ++ spelling (length bytes) level op) → OnOk r (ms' ≡ marks_with ms (length bytes) level)
      → OnErr r ((bytes' ≡ bytes) × (ms' ≡ ms) × (room' ≡ room)) → IsBuilt bytes' ms' (Some level) room'
  append_keeps bytes' ms' room' (Ok place) p q e =
      rw (p, q) (IsBuilt_from (Some level) room' (Builds_append level op built.builds known.0 known.1 fits short) (λ l e. built.known l e)
      (λ other. absurd (other (marked_with ms (length bytes) level))))
  append_keeps bytes' ms' room' (Err none) p q e = rw (e.0, e.1, e.2) built

  -- and the operators are those of before and the new one
  pub append_adds : (bytes' : List ℕ) (ms' : List Mark) (r : Result ℕ AllocError)
      → OnOk r (bytes' ≡ bytes ++ spelling (length bytes) level op) → OnOk r (ms' ≡ marks_with ms (length bytes) level)
      → OnOk r (operators_of bytes' ms' ≡ operators_of bytes ms ++ record { level = level; operator = op } ∷ [])
  append_adds bytes' ms' (Ok place) p q = rw (p, q) (operators_of_built (Builds_append level op built.builds known.0 known.1 fits short))
  append_adds bytes' ms' (Err none) p q = tt

-- so the builder is seen with one operator more
pub appended_seen : (b : Built) (ps : List Placed) (op : Operator) (r : Result ℕ AllocError)
    → OnOk r (ps ≡ b.operators ++ record { level = level_set b; operator = op } ∷ [])
    → OnOk r (◌≡◌ {A = Built} (record { operators = ps; level = b.level }) (appended b op))
appended_seen b ps op (Ok place) h = ap (λ qs. record b { operators = qs }) h
appended_seen b ps op (Err e) h = tt

pub ruleset built_of_nothing = (operators_of_none, IsBuilt_none)
