-- CASE: the branches of a table are aimed one after another, each when its statement begins.
use Rattle.std.proofs.Common.{◌≡◌, ◌≢◌, ℕ, zero, suc, ◌+◌, ◌*◌, ◌≤◌, ◌<◌, true, false, List, [], ◌∷◌, ◌++◌, length, refl, sym, ap, ◌∙◌, subst, arith, append_assoc, length-append}
use Rattle.std.specs.Prelude.{nat_eq, Bool}
use Rattle.std.proofs.lemmas.Bool.{ne_eqb}
use Rattle.std.proofs.lemmas.List.{append-nil}
use Rattle.algol_tree.specs.declared.tree.Stmt.{Stmt}
use Rattle.algol_tree.specs.Image.{stmt, stmts}
use Rattle.b67_list.proofs.Truths.{or_second}
use Rattle.b67_emit_stmt.specs.Places.{Later, Place, StmtAt, CasesAt}
use Rattle.b67_ops.specs.declared.Operator.{Operator}
use Rattle.b67_ops.specs.declared.Operator.TheVariants.{Branch}
use Rattle.b67_ops.specs.declared.BranchKind.{BranchKind}
use Rattle.b67_ops.specs.declared.BranchKind.TheVariants.{Brun}
use Rattle.b67_segment.specs.Operators.{Placed, StandsAmong, size}
use Rattle.b67_templates.specs.Fragments.{Has, BranchAt, FragmentGoes, over, stop}
use Rattle.b67_templates.specs.Emitting.{OperatorsStay, Emitted, number_is_among, Leaves, AreExits}
use Rattle.b67_emitter.specs.Aiming.{Aimed}
use Rattle.b67_emitter.proofs.Exits.{next_behind, is_among_append, or_left, none_before, none_behind, exits_kept, exits_append}
use Rattle.b67_emitter.proofs.Appends.{among_itself}
use Rattle.b67_emit_stmt.specs.declared.draft.Draft.{Draft}
use Rattle.b67_emit_stmt.specs.declared.draft.Known.{Known}
use Rattle.b67_emit_stmt.specs.Drafts.{DraftAgrees, FormatsCanBeListed, NotedGrows, HasFew, Emits, draft_noted}
use Rattle.b67_emit_stmt.specs.Cases.{EntriesAt}
use Rattle.b67_emit_stmt.specs.Lengths.{stmt_syllables, stmts_syllables}
use Rattle.b67_emit_stmt.proofs.Notes.{agrees_front, agrees_same, formats_same, grows_equal, grows_then, listed_equal}
use Rattle.b67_emit_stmt.proofs.Lists.{syllables_append}

-- ---- tables

pub entries_size : (ps : List Placed) (level many f t : ℕ) → EntriesAt ps level many f t → t ≡ f + 3 * many
entries_size ps level zero f t h = omega (arith, h)
entries_size ps level (suc many) f t h = omega (arith, entries_size ps level many (f + 3) t h.1)

pub entries_kept : (ps qs : List Placed) (level many f t : ℕ) →
    ((at next : ℕ) (op : Operator) → f ≤ at → next ≤ t → StandsAmong ps at level op next → StandsAmong qs at level op next) → EntriesAt ps level many f t → EntriesAt qs level many f t
entries_kept ps qs level zero f t keep h = h
entries_kept ps qs level (suc many) f t keep h = (
  keep f (f + 3) (Branch Brun 0) (omega arith) (omega (arith, entries_size ps level many (f + 3) t h.1)) h.0,
  entries_kept ps qs level many (f + 3) t (λ at next op lo hi s. keep at next op (omega arith) hi s) h.1,
)

-- one more entry at the end
pub entries_more : (ps : List Placed) (level many f m t : ℕ) → EntriesAt ps level many f m → Has ps level m (Branch Brun 0) t → t ≡ m + 3 → EntriesAt ps level (suc many) f t
entries_more ps level zero f m t h k e =
    let H : ℕ → ℕ → Type 0 = λ at to. Has ps level at (Branch Brun 0) to in
    let K : ℕ → Type 0 = λ at. H at (f + 3) in
    (subst K (sym h) (subst (H m) (e ∙ ap (λ x. x + 3) (sym h)) k), omega (arith, h, e))
entries_more ps level (suc many) f m t h k e = (h.0, entries_more ps level many (f + 3) m t h.1 k e)

-- ---- statements after a table

pub cases_append : (sc : Place) (later : Later) (qs : List Placed) (level : ℕ) (xs : List Stmt) (y : Stmt) (entry u p x : ℕ) →
    CasesAt sc later qs level (stmts xs) entry u → BranchAt qs level Brun (entry + 3 * length xs) p (entry + 3 * length xs + 3) →
    StmtAt sc later qs level (stmt y) p x u → FragmentGoes qs level x u → CasesAt sc later qs level (stmts (xs ++ y ∷ [])) entry u
cases_append sc later qs level [] y entry u p x h b s g =
    let B : ℕ → Type 0 = λ e. BranchAt qs level Brun e p (e + 3) in
    let same : entry + 3 * 0 ≡ entry = omega arith in
    (p, x, subst B same b, s, g, tt)
cases_append sc later qs level (z ∷ xs) y entry u p x h b s g =
    let B : ℕ → Type 0 = λ e. BranchAt qs level Brun e p (e + 3) in
    let same : entry + 3 * length (z ∷ xs) ≡ entry + 3 + 3 * length xs = omega arith in
    (h.0, h.1, h.2, h.3, h.4, cases_append sc later qs level xs y (entry + 3) u p x h.5 (subst B same b) s g)

single_out : (x at : ℕ) → x ≢ at → number_is_among (x ∷ []) at ≡ false
single_out x at h = let e : nat_eq x at ≡ false = ne_eqb x at h in rw e refl

-- what stands in the table up to a place, and after the table, stands still, but the exits, which go to that target
pub record Partly (exits : List ℕ) (target from upto behind to : ℕ) (ps qs : List Placed) : Type 0 where
  pub table :
      (at level next : ℕ) (op : Operator) → number_is_among exits at ≡ false → from ≤ at → at < upto → next ≤ to → StandsAmong ps at level op next → StandsAmong qs at level op next
  pub code :
      (at level next : ℕ) (op : Operator) → number_is_among exits at ≡ false → behind ≤ at → next ≤ to → StandsAmong ps at level op next → StandsAmong qs at level op next
  pub aimed :
      (at level next old : ℕ) (kind : BranchKind) → number_is_among exits at ≡ true → behind ≤ at → next ≤ to → StandsAmong ps at level (Branch kind old) next →
      StandsAmong qs at level (Branch kind target) next

-- The statements that are done stand after the table, and the branches to the others are not aimed yet.
pub record Midcase (known : Known) (sc : Place) (level : ℕ) (done : List Stmt) (left : ℕ) (a t c : Draft) : Type 0 where
  pub level_is : c.out.level ≡ a.out.level
  pub begun : size a.out.operators ≤ size t.out.operators
  pub grown : size t.out.operators ≤ size c.out.operators
  pub short : size c.out.operators + 3 * length done ≤ size t.out.operators + stmts_syllables known (stmts done)
  pub notes : NotedGrows (size a.out.operators) (draft_noted a) (draft_noted c)
  pub few : HasFew c
  pub more : length c.formats.items + size a.out.operators ≤ length a.formats.items + size c.out.operators
  pub listed : FormatsCanBeListed a.formats.items → FormatsCanBeListed c.formats.items
  pub kept : OperatorsStay 0 (size a.out.operators) a.out.operators c.out.operators
  pub exits : List ℕ
  pub added : c.exits.items ≡ a.exits.items ++ exits
  pub are : AreExits c.out.operators exits (size t.out.operators) (size c.out.operators)
  pub pending : EntriesAt c.out.operators level left (size a.out.operators + 3 * length done) (size t.out.operators)
  pub claimed :
      (later : Later) → DraftAgrees (draft_noted c) later → (qs : List Placed) (target : ℕ) → size c.out.operators ≤ target →
      Partly exits target (size a.out.operators) (size a.out.operators + 3 * length done) (size t.out.operators) (size c.out.operators) c.out.operators qs →
      CasesAt sc later qs level (stmts done) (size a.out.operators) target

pub midcase_first : (known : Known) (sc : Place) (level many : ℕ) (a t : Draft) → HasFew a → t.exits.items ≡ a.exits.items → draft_noted t ≡ draft_noted a →
    Emitted a.out t.out (λ qs. EntriesAt qs level many (size a.out.operators) (size t.out.operators)) → Midcase known sc level [] many a t t
midcase_first known sc level many a t few es fs h =
    let here = h.claimed t.out.operators (λ at level next op lo hi s. s) in
    let E : ℕ → Type 0 = λ from. EntriesAt t.out.operators level many from (size t.out.operators) in
    record {
      level_is = h.level;
      begun = h.grown;
      grown = omega arith;
      short = omega arith;
      notes = grows_equal fs;
      few = omega (arith, few, formats_same fs, h.grown);
      more = omega (arith, formats_same fs, h.grown);
      listed = listed_equal fs;
      kept = h.kept;
      exits = [];
      added = es ∙ sym (append-nil a.exits.items);
      are = tt;
      pending = subst E (omega arith) here;
      claimed = λ later k qs target hi l. tt;
    }

module _ (known : Known) (sc : Place) (level : ℕ) (done : List Stmt) (left : ℕ) (a t c d e f : Draft) (s : Stmt) (entry n : ℕ) (m : Midcase known sc level done (suc left) a t c)
    (is : entry ≡ size a.out.operators + 3 * length done) (aim : Aimed (entry ∷ []) c.out d.out) (es : d.exits.items ≡ c.exits.items) (fs : draft_noted d ≡ draft_noted c)
    (g : Emits n d f
    (λ later qs target.
    StmtAt sc later qs level (stmt s) (size d.out.operators) (size e.out.operators) target × BranchAt qs level Brun (size e.out.operators) target (size f.out.operators)))
    (narrow : n ≤ stmt_syllables known (stmt s) + 3) where
  x : ℕ
  x = size a.out.operators + 3 * length done

  -- the entry lies within the table
  within : x + 3 ≤ size t.out.operators
  unfolding x
  within = omega (arith, entries_size c.out.operators level left (x + 3) (size t.out.operators) m.pending.1)

  long : size a.out.operators + 3 * length (done ++ s ∷ []) ≡ x + 3
  unfolding x
  long = omega (arith, length-append done (s ∷ []))

  through : (at l next : ℕ) (op : Operator) → x ≢ at → next ≤ size c.out.operators → StandsAmong c.out.operators at l op next → StandsAmong f.out.operators at l op next
  unfolding x
  through at l next op other hi st =
      g.code.kept at l next op (omega arith) (omega (arith, aim.place))
      (aim.leaves.others at l next op (single_out entry at (λ q. other (sym is ∙ q))) (omega arith) hi st)

  exits_there : AreExits f.out.operators (m.exits ++ g.code.exits) (size t.out.operators) (size f.out.operators)
  exits_there =
      exits_append f.out.operators m.exits g.code.exits (size t.out.operators) (size f.out.operators)
      (exits_kept c.out.operators f.out.operators m.exits (size t.out.operators) (size c.out.operators) (size t.out.operators) (size f.out.operators) (omega arith)
      (omega (arith, aim.place, g.code.grown))
      (λ at l next old kind lo hi st. (old, through at l next (Branch kind old) (λ q. omega (arith, within)) hi st)) m.are)
      (exits_kept f.out.operators f.out.operators g.code.exits (size d.out.operators) (size f.out.operators) (size t.out.operators) (size f.out.operators)
      (omega (arith, aim.place, m.grown)) (omega arith) (λ at l next old kind lo hi st. (old, st)) g.code.are)

  no_new : (at : ℕ) → at < size c.out.operators → number_is_among g.code.exits at ≡ false
  no_new at lo = none_before f.out.operators g.code.exits (size d.out.operators) (size f.out.operators) at g.code.are (omega (arith, aim.place))

  no_old : (at : ℕ) → size c.out.operators ≤ at → number_is_among m.exits at ≡ false
  no_old at hi = none_behind c.out.operators m.exits (size t.out.operators) (size c.out.operators) at m.are hi

  old_alone : (at : ℕ) (b : Bool) → at < size c.out.operators → number_is_among m.exits at ≡ b → number_is_among (m.exits ++ g.code.exits) at ≡ b
  old_alone at b lo q = is_among_append m.exits g.code.exits at ∙ or_left (number_is_among m.exits at) (number_is_among g.code.exits at) (no_new at lo) ∙ q

  new_alone : (at : ℕ) (b : Bool) → size c.out.operators ≤ at → number_is_among g.code.exits at ≡ b → number_is_among (m.exits ++ g.code.exits) at ≡ b
  new_alone at b hi q = is_among_append m.exits g.code.exits at ∙ or_second (number_is_among m.exits at) (number_is_among g.code.exits at) (no_old at hi) ∙ q

  module _ (qs : List Placed) (target : ℕ)
      (l : Partly (m.exits ++ g.code.exits) target (size a.out.operators) (size a.out.operators + 3 * length (done ++ s ∷ [])) (size t.out.operators) (size f.out.operators) f.out.operators qs) where
    before : Partly m.exits target (size a.out.operators) (size a.out.operators + 3 * length done) (size t.out.operators) (size c.out.operators) c.out.operators qs
    unfolding x
    before = record {
      table = λ at level' next op out lo up hi st.
          let behind = next_behind c.out.operators at level' next op st in
          l.table at level' next op (old_alone at false (omega arith) out) lo (omega (arith, long)) (omega (arith, aim.place, g.code.grown))
          (through at level' next op (λ q. omega (arith, q)) hi st);
      code = λ at level' next op out lo hi st.
          let behind = next_behind c.out.operators at level' next op st in
          l.code at level' next op (old_alone at false (omega arith) out) lo (omega (arith, aim.place, g.code.grown))
          (through at level' next op (λ q. omega (arith, within, q)) hi st);
      aimed = λ at level' next old kind among lo hi st.
          let behind = next_behind c.out.operators at level' next (Branch kind old) st in
          l.aimed at level' next old kind (old_alone at true (omega arith) among) lo (omega (arith, aim.place, g.code.grown))
          (through at level' next (Branch kind old) (λ q. omega (arith, within, q)) hi st);
    }

    behind : Leaves g.code.exits target (size d.out.operators) (size f.out.operators) f.out.operators qs
    behind = record {
      others = λ at level' next op out lo hi st.
          l.code at level' next op (new_alone at false (omega (arith, aim.place)) out) (omega (arith, aim.place, m.grown)) hi st;
      aimed = λ at level' next old kind among lo hi st.
          l.aimed at level' next old kind (new_alone at true (omega (arith, aim.place)) among) (omega (arith, aim.place, m.grown)) hi st;
    }

    branch : BranchAt qs level Brun x (size d.out.operators) (x + 3)
    unfolding x
    branch =
        let S : ℕ → Type 0 = λ at. StandsAmong c.out.operators at level (Branch Brun 0) (x + 3) in
        let T : ℕ → Type 0 = λ at. StandsAmong d.out.operators at level (Branch Brun (size c.out.operators)) (x + 3) in
        let U : ℕ → Type 0 = λ to. StandsAmong qs x level (Branch Brun to) (x + 3) in
        let aimed : StandsAmong d.out.operators x level (Branch Brun (size c.out.operators)) (x + 3) =
        subst T is
        (aim.leaves.aimed entry level (x + 3) 0 Brun (among_itself entry) (omega arith) (omega (arith, within, m.grown)) (subst S (sym is) m.pending.0)) in
        record {
          stands = subst U (sym aim.place)
              (l.table x level (x + 3) (Branch Brun (size c.out.operators))
              (old_alone x false (omega (arith, within, m.grown)) (none_before c.out.operators m.exits (size t.out.operators) (size c.out.operators) x m.are (omega (arith, within))))
              (omega arith) (omega (arith, long)) (omega (arith, within, m.grown, aim.place, g.code.grown))
              (g.code.kept x level (x + 3) (Branch Brun (size c.out.operators)) (omega arith) (omega (arith, within, m.grown, aim.place)) aimed));
          forward = omega (arith, within, m.grown, aim.place);
        }

    stand : (later : Later) → DraftAgrees (draft_noted f) later → size f.out.operators ≤ target →
        CasesAt sc later qs level (stmts (done ++ s ∷ [])) (size a.out.operators) target
    unfolding x
    stand later k hi =
        let part = g.code.claimed qs target hi behind later k in
        let first = m.claimed later (agrees_same fs (agrees_front g.notes k)) qs target
        (omega (arith, aim.place, g.code.grown)) before in
        cases_append sc later qs level done s (size a.out.operators) target (size d.out.operators) (size e.out.operators) first branch part.0
        (over (size f.out.operators) part.1 stop)

  pub midcase_more : Midcase known sc level (done ++ s ∷ []) left a t f
  unfolding x
  midcase_more =
      let E : ℕ → Type 0 = λ from. EntriesAt f.out.operators level left from (size t.out.operators) in
      record {
        level_is = g.code.level ∙ aim.level ∙ m.level_is;
        begun = m.begun;
        grown = omega (arith, m.grown, aim.place, g.code.grown);
        short = omega (arith, m.short, g.short, aim.place, narrow, length-append done (s ∷ []), syllables_append known done s []);
        notes = grows_then (omega (arith, m.begun, m.grown)) m.notes (grows_then (omega (arith, aim.place)) (grows_equal {n = size c.out.operators} fs) g.notes);
        few = g.few;
        more = omega (arith, m.more, formats_same fs, aim.place, g.more);
        listed = λ l. g.listed (listed_equal fs (m.listed l));
        kept = λ at l next op lo hi st.
            let behind = next_behind a.out.operators at l next op st in
            through at l next op (λ q. omega (arith, q)) (omega (arith, m.begun, m.grown)) (m.kept at l next op lo hi st);
        exits = m.exits ++ g.code.exits;
        added = g.code.added ∙ ap (λ z. z ++ g.code.exits) (es ∙ m.added) ∙ append_assoc a.exits.items m.exits g.code.exits;
        are = exits_there;
        pending = subst E (sym long)
            (entries_kept c.out.operators f.out.operators level left (x + 3) (size t.out.operators)
            (λ at next op lo hi st. through at level next op (λ q. omega (arith, q)) (omega (arith, m.grown)) st) m.pending.1);
        claimed = λ later k qs target hi l. stand qs target l later k hi;
      }

-- all statements are done
pub midcase_last : (known : Known) (sc : Place) (level : ℕ) (done : List Stmt) (a t c : Draft) (n : ℕ) → Midcase known sc level done zero a t c →
    size c.out.operators ≤ size a.out.operators + n →
    Emits n a c (λ later qs target. CasesAt sc later qs level (stmts done) (size a.out.operators) target)
midcase_last known sc level done a t c n m short =
    let all : size t.out.operators ≡ size a.out.operators + 3 * length done = sym m.pending in
    record {
      code = record {
        level = m.level_is;
        grown = omega (arith, m.begun, m.grown);
        kept = m.kept;
        exits = m.exits;
        added = m.added;
        are = exits_kept c.out.operators c.out.operators m.exits (size t.out.operators) (size c.out.operators) (size a.out.operators) (size c.out.operators) m.begun (omega arith)
            (λ at l next old kind lo hi st. (old, st)) m.are;
        claimed = λ qs target hi l later k. m.claimed later k qs target hi (record {
          table = λ at level' next op out lo up hi st. l.others at level' next op out lo hi st;
          code = λ at level' next op out lo hi st. l.others at level' next op out (omega (arith, m.begun)) hi st;
          aimed = λ at level' next old kind among lo hi st. l.aimed at level' next old kind among (omega (arith, m.begun)) hi st;
        });
      };
      short = short;
      notes = m.notes;
      few = m.few;
      more = m.more;
      listed = m.listed;
    }
