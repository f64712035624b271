-- The table of a text's labels: how it is appended, kept and aimed.
use Rattle.std.proofs.Common.{arith, ◌≡◌, ◌≢◌, ℕ, zero, suc, ◌+◌, ◌*◌, ◌<◌, ◌≤◌, List, [], ◌∷◌, ◌++◌, length, map, drop, refl, sym, ap, ◌∙◌, subst}
use Rattle.std.specs.Prelude.{Bool, true, false, nat_eq, nat_lt, Some, None, slice_get}
use Rattle.std.proofs.lemmas.Bool.{eqb-true, eqb-false, ltb-true, ltb-false}
use Rattle.std.proofs.lemmas.Option.{slice_get_within}
use Rattle.b67_ops.specs.declared.Operator.{Operator}
use Rattle.b67_ops.specs.declared.Operator.TheVariants.{Branch}
use Rattle.b67_ops.specs.declared.BranchKind.TheVariants.{Brun}
use Rattle.b67_segment.specs.Operators.{Placed, StandsAmong, aimed_from, size}
use Rattle.b67_segment.specs.Building.{Built, IsBranchAt}
use Rattle.b67_segment.proofs.Among.{StandsAmong_aimed, StandsAmong_branch}
use Rattle.b67_templates.specs.Emitting.{OperatorsStay}
use Rattle.b67_templates.specs.Fragments.{Has}
use Rattle.b67_templates.specs.Labels.{table_place}
use Rattle.b67_emit_stmt.specs.declared.draft.Label.{Label}
use Rattle.b67_emitter.proofs.Patching.{length_aimed}
use Rattle.b67_list.proofs.Numbers.{one_target}
use Rattle.b67_emit_text.specs.declared.entries.Declared.{Declared}
use Rattle.b67_emit_text.specs.Entries.{DeclaredLabel, HeadAimed, HeadAt, PendingAt, entry_of, leads}

-- ---- one branch is aimed

-- ---- a table is kept

pending_kept : (ps qs : List Placed) (from t : ℕ) (es : List DeclaredLabel) → OperatorsStay 0 t ps qs → from + 3 * length es ≤ t → PendingAt ps from es → PendingAt qs from es
pending_kept ps qs from t [] keep le h = tt
pending_kept ps qs from t (e ∷ es) keep le h = (
  keep from e.level (from + 3) (Branch Brun 0) (omega arith) (omega (arith, le)) h.0,
  pending_kept ps qs (from + 3) t es keep (omega (arith, le)) h.1,
)

pub head_kept : (ps qs : List Placed) (level t : ℕ) (es : List DeclaredLabel) → OperatorsStay 0 t ps qs → 3 + 3 * length es ≤ t → HeadAt ps level es → HeadAt qs level es
head_kept ps qs level t es keep le h =
    (keep 0 level 3 (Branch Brun 0) (omega arith) (omega (arith, le)) h.0, pending_kept ps qs (table_place 0) t es keep (omega (arith, le)) h.1)

-- one more at its end
pending_more : (ps : List Placed) (from to : ℕ) (es : List DeclaredLabel) (e : DeclaredLabel) → PendingAt ps from es → Has ps e.level to (Branch Brun 0) (to + 3) → to ≡ from + 3 * length es →
    PendingAt ps from (es ++ e ∷ [])
pending_more ps from to [] e h k is =
    let H : ℕ → Type 0 = λ at. Has ps e.level at (Branch Brun 0) (at + 3) in
    let here : to ≡ from = omega (arith, is) in
    (subst H here k, tt)
pending_more ps from to (x ∷ es) e h k is = (h.0, pending_more ps (from + 3) to es e h.1 k (omega (arith, is)))

pub head_more : (ps qs : List Placed) (level to next : ℕ) (es : List DeclaredLabel) (e : DeclaredLabel) → OperatorsStay 0 to ps qs → to ≡ 3 + 3 * length es → HeadAt ps level es →
    Has qs e.level to (Branch Brun 0) next → next ≡ to + 3 → HeadAt qs level (es ++ e ∷ [])
head_more ps qs level to next es e keep is h k wide =
    let there = head_kept ps qs level to es keep (omega (arith, is)) h in
    let N : ℕ → Type 0 = λ n. Has qs e.level to (Branch Brun 0) n in
    (there.0, pending_more qs (table_place 0) to es e there.1 (subst N wide k) (omega (arith, is)))

-- ---- .. and aimed, one branch after another

-- The branches of the first so many entries are aimed, and those of the others are not.
pub record Midway (es : List DeclaredLabel) (number begin : ℕ) (labels : List Label) (before now : Built) : Type 0 where
  pub level : now.level ≡ before.level
  pub place : size now.operators ≡ size before.operators
  pub others :
      (at level next : ℕ) (op : Operator) → table_place (length es) ≤ at → StandsAmong before.operators at level op next → StandsAmong now.operators at level op next
  pub over : (level : ℕ) → Has before.operators level 0 (Branch Brun 0) 3 → Has now.operators level 0 (Branch Brun begin) 3
  pub done :
      (k : ℕ) (e : DeclaredLabel) (target : ℕ) → k < number → slice_get es k ≡ Some e → leads labels e ≡ Some target →
      Has now.operators e.level (table_place k) (Branch Brun target) (table_place k + 3)
  pub pending : PendingAt now.operators (table_place number) (drop number es)

-- a branch before a table is aimed
pending_aside : (ps : List Placed) (branch target from : ℕ) (es : List DeclaredLabel) → branch < from → PendingAt ps from es → PendingAt (aimed_from 0 branch target ps) from es
pending_aside ps branch target from [] lo h = tt
pending_aside ps branch target from (e ∷ es) lo h =
    (StandsAmong_aimed branch target (λ q. omega (arith, lo, q)) h.0, pending_aside ps branch target (from + 3) es (omega (arith, lo)) h.1)

pub midway_first : (es : List DeclaredLabel) (level begin : ℕ) (labels : List Label) (a b : Built) → HeadAt a.operators level es →
    b ≡ record a { operators = aimed_from 0 0 begin a.operators } → Midway es 0 begin labels a b
midway_first es level begin labels a b h is =
    let M : Built → Type 0 = λ o. Midway es 0 begin labels a o in
    subst M (sym is)
    (record {
      level = refl;
      place = length_aimed 0 0 begin a.operators;
      others = λ at l next op lo s. StandsAmong_aimed 0 begin (λ q. omega (arith, lo, q)) s;
      over = λ l s. StandsAmong_branch begin s;
      done = λ k e target lo there to. absurd (omega (arith, lo));
      pending = pending_aside a.operators 0 begin (table_place 0) es (omega arith) h.1;
    })

-- the entry with this number
drop_there : (es : List DeclaredLabel) (number : ℕ) (e : DeclaredLabel) (rest : List DeclaredLabel) → drop number es ≡ e ∷ rest → slice_get es number ≡ Some e
drop_there [] zero e rest h = absurd (let clash : [] ≡ e ∷ rest = h in cc)
drop_there [] (suc n) e rest h = absurd (let clash : [] ≡ e ∷ rest = h in cc)
drop_there (x ∷ es) zero e rest h = cc
drop_there (x ∷ es) (suc n) e rest h = drop_there es n e rest h

drop_within : (es : List DeclaredLabel) (number : ℕ) (e : DeclaredLabel) (rest : List DeclaredLabel) → drop number es ≡ e ∷ rest → number < length es
drop_within [] zero e rest h = absurd (let clash : [] ≡ e ∷ rest = h in cc)
drop_within [] (suc n) e rest h = absurd (let clash : [] ≡ e ∷ rest = h in cc)
drop_within (x ∷ es) zero e rest h = omega arith
drop_within (x ∷ es) (suc n) e rest h = omega (arith, drop_within es n e rest h)

drop_rest : (es : List DeclaredLabel) (number : ℕ) (e : DeclaredLabel) (rest : List DeclaredLabel) → drop number es ≡ e ∷ rest → drop (suc number) es ≡ rest
drop_rest [] zero e rest h = absurd (let clash : [] ≡ e ∷ rest = h in cc)
drop_rest [] (suc n) e rest h = absurd (let clash : [] ≡ e ∷ rest = h in cc)
drop_rest (x ∷ es) zero e rest h = cc
drop_rest (x ∷ es) (suc n) e rest h = drop_rest es n e rest h

lower : (k n : ℕ) → k < suc n → k ≢ n → k < n
lower k n lo other = le_other (nat_lt k n) refl
  where
    le_other : (b : Bool) → nat_lt k n ≡ b → k < n
    le_other true q = ltb-true k n q
    le_other false q = absurd (other (let above : n ≤ k = ltb-false k n q in omega (arith, lo, above)))

one_entry : (x y : DeclaredLabel) → Some x ≡ Some y → x ≡ y
one_entry x y e = cc

module _ (es : List DeclaredLabel) (number begin : ℕ) (labels : List Label) (e : DeclaredLabel) (rest : List DeclaredLabel) (is : drop number es ≡ e ∷ rest) (a b : Built) (m : Midway es number begin labels a b) where
  here : PendingAt b.operators (table_place number) (e ∷ rest)
  here = let P : List DeclaredLabel → Type 0 = λ l. PendingAt b.operators (table_place number) l in subst P is m.pending

  -- its branch can be aimed
  pub branch_there : (branch : ℕ) → branch ≡ table_place number → IsBranchAt b.operators branch
  branch_there branch at =
      let B : ℕ → Type 0 = λ p. IsBranchAt b.operators p in
      subst B (sym at) (record { level = e.level; kind = Brun; old = 0; next = table_place number + 3; stands = here.0 })

  left : (c : Built) → PendingAt c.operators (table_place number + 3) rest → PendingAt c.operators (table_place (suc number)) (drop (suc number) es)
  left c h =
      let P : List DeclaredLabel → Type 0 = λ l. PendingAt c.operators (table_place (suc number)) l in
      let Q : ℕ → Type 0 = λ p. PendingAt c.operators p rest in
      let next : table_place number + 3 ≡ table_place (suc number) = omega arith in
      subst P (sym (drop_rest es number e rest is)) (subst Q next h)

  -- it is aimed
  pub midway_aimed : (c : Built) (branch target : ℕ) → branch ≡ table_place number → leads labels e ≡ Some target → c ≡ record b { operators = aimed_from 0 branch target b.operators } →
      Midway es (suc number) begin labels a c
  midway_aimed c branch target at leads_to same =
      let M : Built → Type 0 = λ o. Midway es (suc number) begin labels a o in
      let at' : ℕ → Built = λ p. record b { operators = aimed_from 0 p target b.operators } in
      subst M (sym (same ∙ ap at' at)) (record {
        level = m.level;
        place = length_aimed 0 (table_place number) target b.operators ∙ m.place;
        others = λ p l next op lo s.
            StandsAmong_aimed (table_place number) target (λ q. omega (arith, lo, q, drop_within es number e rest is)) (m.others p l next op lo s);
        over = λ l s. StandsAmong_aimed (table_place number) target (λ q. omega (arith, q)) (m.over l s);
        done = done;
        pending = left (at' (table_place number)) (pending_aside b.operators (table_place number) target (table_place number + 3) rest (omega arith) here.1);
      })
    where
      there : slice_get es number ≡ Some e
      there = drop_there es number e rest is

      done : (k : ℕ) (x : DeclaredLabel) (to : ℕ) → k < suc number → slice_get es k ≡ Some x → leads labels x ≡ Some to →
          Has (aimed_from 0 (table_place number) target b.operators) x.level (table_place k) (Branch Brun to) (table_place k + 3)
      done k x to lo found leads_to' = by (nat_eq k number) refl
        where
          by : (same : Bool) → nat_eq k number ≡ same → Has (aimed_from 0 (table_place number) target b.operators) x.level (table_place k) (Branch Brun to) (table_place k + 3)
          by true q =
              let k_is : k ≡ number = eqb-true k number q in
              let x_is : e ≡ x = one_entry e x (sym there ∙ ap (λ (n : ℕ). slice_get es n) (sym k_is) ∙ found) in
              let to_is : target ≡ to = one_target target to (sym leads_to ∙ ap (leads labels) x_is ∙ leads_to') in
              let H : ℕ → DeclaredLabel → ℕ → Type 0 = λ n y t. Has (aimed_from 0 (table_place number) target b.operators) y.level (table_place n) (Branch Brun t) (table_place n + 3) in
              subst (λ n. H n x to) (sym k_is) (subst (λ y. H number y to) x_is (subst (H number e) to_is (StandsAmong_branch target here.0)))
          by false q =
              let other : k ≢ number = eqb-false k number q in
              StandsAmong_aimed (table_place number) target (λ p. other (omega (arith, p))) (m.done k x to (lower k number lo other) found leads_to')

  -- it leads nowhere
  pub midway_same : leads labels e ≡ None → Midway es (suc number) begin labels a b
  midway_same nowhere = record {
    level = m.level;
    place = m.place;
    others = m.others;
    over = m.over;
    done = done;
    pending = left b here.1;
  }
    where
      there : slice_get es number ≡ Some e
      there = drop_there es number e rest is

      done : (k : ℕ) (x : DeclaredLabel) (to : ℕ) → k < suc number → slice_get es k ≡ Some x → leads labels x ≡ Some to →
          Has b.operators x.level (table_place k) (Branch Brun to) (table_place k + 3)
      done k x to lo found leads_to' = by (nat_eq k number) refl
        where
          by : (same : Bool) → nat_eq k number ≡ same → Has b.operators x.level (table_place k) (Branch Brun to) (table_place k + 3)
          by true q =
              let k_is : k ≡ number = eqb-true k number q in
              let x_is : e ≡ x = one_entry e x (sym there ∙ ap (λ (n : ℕ). slice_get es n) (sym k_is) ∙ found) in
              absurd (let clash : None ≡ Some to = sym nowhere ∙ ap (leads labels) x_is ∙ leads_to' in cc)
          by false q = m.done k x to (lower k number lo (eqb-false k number q)) found leads_to'

-- all are
pub midway_last : (es : List DeclaredLabel) (number begin : ℕ) (labels : List Label) (a b : Built) → length es ≤ number → Midway es number begin labels a b → HeadAimed es begin labels a b
midway_last es number begin labels a b le m = record {
  level = m.level;
  place = m.place;
  others = m.others;
  over = m.over;
  entries = λ k e target there to. m.done k e target (omega (arith, slice_get_within es k e there, le)) there to;
}

-- ---- the entries as they are gathered

drop_entries : (i : ℕ) (xs : List Declared) → drop i (map entry_of xs) ≡ map entry_of (drop i xs)
drop_entries zero xs = refl
drop_entries (suc i) [] = refl
drop_entries (suc i) (x ∷ xs) = drop_entries i xs

pub next_entry : (i : ℕ) (xs : List Declared) (x : Declared) (rest : List Declared) → drop i xs ≡ x ∷ rest → drop i (map entry_of xs) ≡ entry_of x ∷ map entry_of rest
next_entry i xs x rest is = drop_entries i xs ∙ ap (λ (l : List Declared). map entry_of l) is
