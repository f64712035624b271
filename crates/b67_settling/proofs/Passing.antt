-- A process's own words, changed by an entry of its own, while entries of others pass.
use Rattle.std.proofs.Common.{◌≡◌, ◌≢◌, refl, sym, ap, subst, ◌∙◌, ℕ, ◌+◌, ◌≤◌, Bool, true, false, List, [], ◌∷◌, length, Option, arith, cond}
use Rattle.std.specs.Prelude.{◌&&◌, nat_le}
use Rattle.std.proofs.Math.Decide.{ℕ_discrete}
use Rattle.b67_list.specs.Numbered.{numbered}
use Rattle.b67_num.specs.declared.FaultKind.{FaultKind}
use Rattle.b67_word.specs.declared.Place.{Place}
use Rattle.b67_control.specs.declared.Registers.{Registers}
use Rattle.b67_segment.specs.declared.code.Code.{Code}
use Rattle.b67_store.specs.Store.{stack_limit}
use Rattle.b67_table.specs.declared.Private.{Private}
use Rattle.b67_table.specs.Effect.{Effect}
use Rattle.b67_table.specs.Effect as effects
use Rattle.b67_table.specs.Outcome.{Outcome, gives, faults, interrupts, limit, limited}
use Rattle.b67_table.specs.Ending.{may_act, image_end, failed}
use Rattle.b67_table.specs.Image.{Image, with_private, is_able}
use Rattle.b67_table.specs.Parts.{put_into}
use Rattle.b67_table.specs.Runs.{Plains, stay, go, ProcessActs, acts, fails, RunEntry, Runs, entry}
use Rattle.b67_table.specs.Sound.{OperatorTouches}
use Rattle.b67_table.specs.Table.{raw, table, plain, private_in, private_next, is_new, stack_length, length_in}
use Rattle.b67_table.proofs.Limit.{new_of}
use Rattle.b67_table.proofs.Stacks.{get_numbered_other}
use Rattle.b67_table.proofs.Cited.{number_there}
use Rattle.b67_settling.specs.Own.{StackReaches, own_of, Stay}
use Rattle.b67_settling.specs.Laws.{StopsThere}
use Rattle.b67_settling.specs.Settling.{Result, ResultIsAt, ends, stops, ImageComesTo, now, entry as then_entry}
use Rattle.b67_settling.proofs.Others.{Left, Apart, raw_apart, X, Apartly}
use Rattle.b67_settling.proofs.Moving.{may_still}
use Rattle.b67_settling.proofs.Tails.{IsRun, is_run, one_more}
use Rattle.b67_settling.proofs.Determined.{entry_one, no_entry}

put_outcome : ℕ → ℕ → Private → Outcome Image → Outcome Image
put_outcome p base part (gives img) = gives (with_private img p base part)
put_outcome p base part (faults kind) = faults kind
put_outcome p base part (interrupts kind) = interrupts kind
put_outcome p base part limit = limit

put_new : (p base : ℕ) (part : Private) (o : Outcome Image) → is_new (put_outcome p base part o) ≡ is_new o
unfolding put_outcome
put_new p base part (gives b) = refl
put_new p base part (faults kind) = refl
put_new p base part (interrupts kind) = refl
put_new p base part limit = refl

by_size : (p base : ℕ) (part : Private) (b : Image) (fit : Bool)
    → cond fit (gives (with_private b p base part)) limit ≡ put_outcome p base part (cond fit (gives b) limit)
unfolding put_outcome
by_size p base part b true = refl
by_size p base part b false = refl

limited_put : (q p base : ℕ) (part : Private) → q ≢ p → (e : Effect Image)
    → limited (stack_length q) (put_into p base part e) ≡ put_outcome p base part (limited (stack_length q) e)
unfolding put_outcome
limited_put q p base part h (effects.gives b) =
    ap (λ (o : Option Registers). cond (nat_le (length_in o) stack_limit) (gives (with_private b p base part)) limit)
    (get_numbered_other b.regs p q part.regs h)
    ∙ by_size p base part b (nat_le (stack_length q b) stack_limit)
limited_put q p base part h (effects.faults kind) = refl
limited_put q p base part h (effects.interrupts kind) = refl

-- What others leave of a process, and why: in each image to which a run leads and in which this holds, no operator of another touches what is the
-- process's own, and it still holds after the operator.
pub record Guards (code : Code) (p : ℕ) (r : Registers) (base : ℕ) (Guarded : Image → Type 0) : Type 0 where
  pub apart : (x : Image) (q : ℕ) → IsRun code x → Guarded x → StackReaches x p r base → q ≢ p → (y : Place) → OperatorTouches code x q y → y.stack ≡ r.stack → base ≤ y.at → ⊥
  pub on : (x b : Image) (q : ℕ) → IsRun code x → Guarded x → StackReaches x p r base → q ≢ p → may_act x q ≡ true → table code x q ≡ gives b → Guarded b
  pub failed : (x : Image) (q : ℕ) (kind : FaultKind) → Guarded x → Guarded (failed x q kind)

module _ (code : Code) (p : ℕ) (r : Registers) (base : ℕ) (part : Private) (k : Stay r part.regs) (own : Private) (Guarded : Image → Type 0)
    (guards : Guards code p r base Guarded) where
  -- the image after the process's entry
  unfoldable pub T : Image → Image
  T x = with_private x p base part

  -- it is as it was
  pub record Is (x : Image) : Type 0 where
    pub guarded : Guarded x
    pub reaches : StackReaches x p r base
    pub same : own_of x r base ≡ own

  -- ---- one operator

  module _ (q : ℕ) (h : q ≢ p) (x : Image) (run : IsRun code x) (is : Is x) where
    beside : Apart p r base part x (raw code (with_private x p base part) q) (raw code x q)
    unfolding X Apartly
    beside = raw_apart code q p r base part x h is.reaches k (guards.apart x q run is.guarded is.reaches h)

    table_beside : table code (with_private x p base part) q ≡ put_outcome p base part (table code x q)
    unfolding table
    table_beside = ap (limited (stack_length q)) beside.same ∙ limited_put q p base part h (raw code x q)

    able_after : (b : Image) → table code x q ≡ gives b → is_able (numbered x.states p) ≡ true → is_able (numbered b.states p) ≡ true
    unfolding table
    able_after b t = (beside.after b (new_of (stack_length q) (raw code x q) b t).0).able

    is_after : (b : Image) → may_act x q ≡ true → table code x q ≡ gives b → Is b
    unfolding table
    is_after b may t =
        let l : Left p r base x b = beside.after b (new_of (stack_length q) (raw code x q) b t).0 in
        record { guarded = guards.on x b q run is.guarded is.reaches h may t; reaches = l.reaches; same = l.same ∙ is.same }

    gives_after : (b : Image) → table code x q ≡ gives b → table code (with_private x p base part) q ≡ gives (with_private b p base part)
    unfolding put_outcome
    gives_after b t = table_beside ∙ ap (put_outcome p base part) t

    private_same : private_next code (with_private x p base part) q ≡ private_next code x q
    private_same = ap (private_in code) (get_numbered_other x.regs p q part.regs h)

    new_same : is_new (table code (with_private x p base part) q) ≡ is_new (table code x q)
    new_same = ap is_new table_beside ∙ put_new p base part (table code x q)

    plain_same : plain code (with_private x p base part) q ≡ plain code x q
    unfolding plain
    plain_same =
        ap (λ (b : Bool). b && is_new (table code (with_private x p base part) q)) private_same ∙ ap (λ (b : Bool). private_next code x q && b) new_same

  -- ---- an entry

  module _ (q : ℕ) (h : q ≢ p) (hist counts : List ℕ) (a : Image) (run : Runs code hist counts a) (one : 1 ≤ q) where
    abbrev Able : Image → Type 0
    Able x = is_able (numbered x.states p) ≡ true

    record Stretch (x : Image) (n : ℕ) (quiet : Image) : Type 0 where
      plains : Plains code q (T x) n (T quiet)
      is : Is quiet
      led : IsRun code quiet
      able : Able x → Able quiet
      may : may_act quiet q ≡ true

    stretch : (x quiet : Image) (i n : ℕ) → Plains code q a i x → Is x → may_act x q ≡ true → Plains code q x n quiet → Stretch x n quiet
    unfolding T
    stretch x quiet i n before is may stay = record { plains = stay; is = is; led = is_run code hist counts q i a x run one before; able = λ k. k; may = may }
    stretch x quiet i n before is may (go {b = b} {n = m} e t more) =
        let led : IsRun code x = is_run code hist counts q i a x run one before in
        let s : Stretch b m quiet =
        stretch b quiet (i + 1) m (one_more code q i a x b before e t) (is_after q h x led is b may t) (may_still code x b q e t may) more in
        record {
          plains = go (plain_same q h x led is ∙ e) (gives_after q h x led is b t) s.plains;
          is = s.is;
          led = s.led;
          able = λ m. s.able (able_after q h x led is b t m);
          may = s.may;
        }

    pub record Passed (n : ℕ) (b : Image) : Type 0 where
      pub its : RunEntry code q (T a) n (T b)
      pub is : Is b
      pub able : is_able (numbered a.states p) ≡ true → is_able (numbered b.states p) ≡ true

    pub may_same : (x : Image) → may_act (T x) q ≡ may_act x q
    unfolding T may_act image_end
    may_same x = refl

    by_acts : (quiet b : Image) → IsRun code quiet → Is quiet → may_act quiet q ≡ true → ProcessActs code q quiet b → ProcessActs code q (T quiet) (T b) × Is b × (Able quiet → Able b)
    unfolding T put_outcome failed
    by_acts quiet b led is may (acts e t) = (acts (plain_same q h quiet led is ∙ e) (gives_after q h quiet led is b t), is_after q h quiet led is b may t, able_after q h quiet led is b t)
    by_acts quiet b led is may (fails kind t) = (
      fails kind (table_beside q h quiet led is ∙ ap (put_outcome p base part) t),
      record {
        guarded = guards.failed quiet q kind is.guarded;
        reaches = record { live = is.reaches.live; has = is.reaches.has; words = is.reaches.words; opened = is.reaches.opened; high = is.reaches.high };
        same = is.same;
      },
      λ m. m,
    )

    pub passed : (n : ℕ) (b : Image) → Is a → RunEntry code q a n b → Passed n b
    passed n b is e =
        let s : Stretch a n e.quiet = stretch a e.quiet 0 n stay is e.may e.plains in
        let x = by_acts e.quiet b s.led s.is s.may e.action in
        record { its = record { may = may_same a ∙ e.may; quiet = T e.quiet; plains = s.plains; action = x.0 }; is = x.1; able = λ m. x.2 (s.able m) }

    -- the stack limit
    pub limited_there : (n : ℕ) (quiet : Image) → Is a → may_act a q ≡ true → Plains code q a n quiet → table code quiet q ≡ limit → StopsThere code q quiet (T a)
    unfolding T put_outcome
    limited_there n quiet is may plains l =
        let s : Stretch a n quiet = stretch a quiet 0 n stay is may plains in
        record {
          may = may_same a ∙ may;
          count = n;
          later = T quiet;
          plains = s.plains;
          at_limit = table_beside q h quiet s.led s.is ∙ ap (put_outcome p base part) l;
          words = ap length_in (get_numbered_other quiet.regs p q part.regs h);
        }

    stopped : (n : ℕ) (quiet : Image) → Is a → may_act a q ≡ true → Plains code q a n quiet → table code quiet q ≡ limit
        → ResultIsAt code (T a) (Result.limited a.output q (length_in (numbered quiet.regs q)))
    unfolding T
    stopped n quiet is may plains l =
        let t : StopsThere code q quiet (T a) = limited_there n quiet is may plains l in
        subst (λ (m : ℕ). ResultIsAt code (T a) (Result.limited a.output q m)) t.words (stops t.may t.plains t.at_limit)

  -- ---- many entries

  -- by no more entries
  pub record Comes (o : Result) (img : Image) (s : List ℕ) : Type 0 where
    pub entries : List ℕ
    pub few : length entries ≤ length s
    pub comes_so : ImageComesTo code o img entries

  module _ (count : ℕ) (enters : (y : Image) → StackReaches y p r base → own_of y r base ≡ own → may_act y p ≡ true → RunEntry code p y count (with_private y p base part)) where
    its_own : (x : Image) → Is x → may_act x p ≡ true → RunEntry code p x count (T x)
    unfolding T
    its_own x is may = enters x is.reaches is.same may

    at_end : (hist counts : List ℕ) (x : Image) (o : Result) → Runs code hist counts x → Is x → ResultIsAt code x o → ResultIsAt code (T x) o
    unfolding T image_end
    at_end hist counts x o run is (ends e) = ends e
    at_end hist counts x o run is (stops {p = q} {n = n} {quiet = quiet} may plains l) = by_process (ℕ_discrete q p)
      where
        by_process : Dec (q ≡ p) → ResultIsAt code (T x) (Result.limited x.output q (length_in (numbered quiet.regs q)))
        by_process (no h) = stopped q h hist counts x run (number_there x q may) n quiet is may plains l
        by_process (yes e) =
            no_entry code q x quiet (T x) n count _ plains l
            (subst (λ (m : ℕ). RunEntry code m x count (T x)) (sym e) (its_own x is (subst (λ (m : ℕ). may_act x m ≡ true) e may)))

    pub comes : (o : Result) (hist counts : List ℕ) (x : Image) (s : List ℕ) → Runs code hist counts x → Is x → ImageComesTo code o x s → Comes o (T x) s
    comes o hist counts x s run is (now at) = record { entries = []; few = omega arith; comes_so = now (at_end hist counts x o run is at) }
    comes o hist counts x s run is (then_entry {b = b} {p = q} {n = n} {s = rest} e more) =
        by_process (ℕ_discrete q p) (λ on. comes o (q ∷ hist) ((n + 1) ∷ counts) b rest (entry run e) on more)
      where
        by_process : Dec (q ≡ p) → (Is b → Comes o (T b) rest) → Comes o (T x) (q ∷ rest)
        by_process (yes i) on =
            let its : RunEntry code p x n b = subst (λ (m : ℕ). RunEntry code m x n b) i e in
            let same : b ≡ T x = entry_one code p x b (T x) n count its (its_own x is its.may) in
            record { entries = rest; few = omega arith; comes_so = subst (λ (z : Image). ImageComesTo code o z rest) same more }
        by_process (no h) on =
            let t : Passed q h hist counts x run (number_there x q e.may) n b = passed q h hist counts x run (number_there x q e.may) n b is e in
            let c : Comes o (T b) rest = on t.is in
            record { entries = q ∷ c.entries; few = omega (arith, c.few); comes_so = then_entry t.its c.comes_so }
