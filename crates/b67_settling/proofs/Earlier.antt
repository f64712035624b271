-- A local entry may come before all others.
use Rattle.std.proofs.Common.{◌≡◌, ◌≢◌, refl, sym, ap, subst, ◌∙◌, ℕ, ◌+◌, ◌≤◌, true, List, ◌∷◌, length, Option, Some, None, arith}
use Rattle.std.proofs.lemmas.Option.{none-some}
use Rattle.b67_segment.specs.declared.code.Code.{Code}
use Rattle.b67_control.specs.declared.Registers.{Registers}
use Rattle.b67_table.specs.Ending.{may_act, goes_on, image_end, ImageEnd, failed}
use Rattle.b67_table.specs.Image.{Image, with_private}
use Rattle.b67_table.specs.Outcome.{limit}
use Rattle.b67_table.specs.Private.{floor}
use Rattle.b67_table.specs.Runs.{Plains, RunEntry, Runs}
use Rattle.b67_table.specs.Runs as runs
use Rattle.b67_table.specs.Sound.{Sound}
use Rattle.b67_table.specs.Table.{table}
use Rattle.b67_table.proofs.Cited.{may_by, may_parts, number_there}
use Rattle.b67_settling.specs.Own.{own_of, MovesOwn}
use Rattle.b67_settling.specs.Local.{NobodyDepends, StacksStayOwn, IsLocal, above_floor, in_stack}
use Rattle.b67_settling.specs.Settling.{ComesFirst, alone, local, Settles, here, further, Result, ResultIsAt, ImageComesTo, now, entry}
use Rattle.b67_settling.specs.Settling as settling
use Rattle.b67_settling.specs.Laws.{PassesLocally, both, ends, StopsThere, LocalEntriesPass, Settled}
use Rattle.b67_settling.proofs.Stacks.{nobody_still}
use Rattle.b67_settling.proofs.Determined.{entry_one, no_entry}
use Rattle.b67_settling.proofs.Passing.{Guards, Comes, comes, T, Is, Passed, passed, limited_there}

-- of sound code no operator of another touches what lies above a floor
sound_guards : (code : Code) (p : ℕ) (r : Registers) → Sound code → Guards code p r (floor r) (λ (x : Image). Unit {0})
sound_guards code p r sound =
    record {
      apart = λ x q led u at h y touches k high.
          h (sound.apart led.schedule led.tails x led.run q p y r touches (record { live = at.live; is = at.has }) (k, high));
      on = λ x b q led u at h may t. tt;
      failed = λ x q kind u. tt;
    }

-- of a code whose stacks stay own none touches one on which nobody depends
stack_guards : (code : Code) (p : ℕ) (r : Registers) → StacksStayOwn code → Guards code p r 0 (λ (x : Image). NobodyDepends x r.stack)
unfolding failed
stack_guards code p r stay_own =
    record {
      apart = λ x q led own at h y touches k high.
          h (stay_own led.schedule led.tails x led.run p q r y (record { live = at.live; is = at.has }) own touches k);
      on = λ x b q led own at h may t. nobody_still code led.schedule led.tails x b p q r led.run h at.has own t;
      failed = λ x q kind own. own;
    }

-- ---- a local entry, and what guards what it touches

-- what is the process's own from a base on, and what it becomes
record Owns (code : Code) (a : Image) (p : ℕ) : Type 1 where
  r : Registers
  base : ℕ
  moves : MovesOwn code a p r base
  Guarded : Image → Type 0
  guards : Guards code p r base Guarded
  guarded : Guarded a
  local_by : (x : Image) → Guarded x → MovesOwn code x p r base → IsLocal code x p

owns : (code : Code) (a : Image) (p : ℕ) → Sound code → IsLocal code a p → Owns code a p
owns code a p sound (above_floor r m) =
    record {
      r = r;
      base = floor r;
      moves = m;
      Guarded = λ x. Unit {0};
      guards = sound_guards code p r sound;
      guarded = tt;
      local_by = λ x u k. above_floor r k;
    }
owns code a p sound (in_stack r stay_own own m) =
    record {
      r = r;
      base = 0;
      moves = m;
      Guarded = λ x. NobodyDepends x r.stack;
      guards = stack_guards code p r stay_own;
      guarded = own;
      local_by = λ x there k. in_stack r stay_own there k;
    }

module _ (code : Code) (a : Image) (p : ℕ) (o : Owns code a p) where
  abbrev m : MovesOwn code a p o.r o.base
  m = o.moves

  abbrev Now : Image → Type 0
  Now = Is code p o.r o.base m.part m.stays (own_of a o.r o.base) o.Guarded o.guards

  is_now : Now a
  is_now = record { guarded = o.guarded; reaches = m.reaches; same = refl }

  after_is : (b : Image) (n : ℕ) → RunEntry code p a n b → b ≡ with_private a p o.base m.part
  after_is b n e = entry_one code p a b (with_private a p o.base m.part) n m.count e (m.enters a m.reaches refl e.may)

  -- it is local still
  local_still : (c : Image) → Now c → IsLocal code c p
  local_still c is =
      o.local_by c is.guarded
      (record {
        reaches = is.reaches;
        part = m.part;
        stays = m.stays;
        count = m.count;
        enters = λ x at e may. m.enters x at (e ∙ is.same) may;
      })

same_end : (x b : Image) (p base : ℕ) (part : _) → b ≡ with_private x p base part → (image_end b ≡ image_end x) × (b.output ≡ x.output)
unfolding image_end
same_end x b p base part e = (ap image_end e, ap (λ (i : Image). i.output) e)

-- ---- its laws

pass_by : (code : Code) (p q k : ℕ) (b c d : Image) → (end : Option ImageEnd) → image_end c ≡ end → RunEntry code q b k d → (image_end d ≡ image_end c) × (d.output ≡ c.output)
    → (image_end c ≡ None → (n : ℕ) × RunEntry code p c n d × IsLocal code c p) → PassesLocally code p q b c
pass_by code p q k b c d None i its same more = let t = more i in both its t.1 t.2
pass_by code p q k b c d (Some e) i its same more = ends its i (same.0 ∙ i) same.1

entries_pass : (code : Code) (h counts : List ℕ) (a b c : Image) (p q n k : ℕ) → Sound code → Runs code h counts a → IsLocal code a p → p ≢ q
    → RunEntry code p a n b → RunEntry code q a k c → PassesLocally code p q b c
unfolding T
entries_pass code h counts a b c p q n k sound run local_there differ e f =
    let o : Owns code a p = owns code a p sound local_there in
    let t : Passed code p o.r o.base o.moves.part o.moves.stays (own_of a o.r o.base) o.Guarded o.guards q (λ i. differ (sym i)) h counts a run (number_there a q f.may) k c =
    passed code p o.r o.base o.moves.part o.moves.stays (own_of a o.r o.base) o.Guarded o.guards q (λ i. differ (sym i)) h counts a run (number_there a q f.may) k c
    (is_now code a p o) f in
    pass_by code p q k b c (with_private c p o.base o.moves.part) (image_end c) refl
    (subst (λ (x : Image). RunEntry code q x k (with_private c p o.base o.moves.part)) (sym (after_is code a p o b n e)) t.its)
    (same_end c (with_private c p o.base o.moves.part) p o.base o.moves.part refl)
    (λ i. (o.moves.count, o.moves.enters c t.is.reaches t.is.same (may_by c p i (t.able (may_parts a p e.may).1)), local_still code a p o c t.is))

stops_there : (code : Code) (h counts : List ℕ) (a b quiet : Image) (p q n k : ℕ) → Sound code → Runs code h counts a → IsLocal code a p → p ≢ q
    → RunEntry code p a n b → may_act a q ≡ true → Plains code q a k quiet → table code quiet q ≡ limit → StopsThere code q quiet b
unfolding T
stops_there code h counts a b quiet p q n k sound run local_there differ e may plains l =
    let o : Owns code a p = owns code a p sound local_there in
    subst (StopsThere code q quiet) (sym (after_is code a p o b n e))
    (limited_there code p o.r o.base o.moves.part o.moves.stays (own_of a o.r o.base) o.Guarded o.guards q (λ i. differ (sym i)) h counts a run (number_there a q may) k quiet
    (is_now code a p o) may plains l)

moved_on : (code : Code) (a b : Image) (p n : ℕ) (r : Registers) (base : ℕ) → MovesOwn code a p r base → RunEntry code p a n b → (image_end b ≡ None) × (b.output ≡ a.output)
moved_on code a b p n r base m e =
    let s = same_end a b p base m.part (entry_one code p a b (with_private a p base m.part) n m.count e (m.enters a m.reaches refl e.may)) in
    (s.0 ∙ (may_parts a p e.may).0, s.1)

goes_on_so : (code : Code) (a b : Image) (p n : ℕ) → IsLocal code a p → RunEntry code p a n b → (image_end b ≡ None) × (b.output ≡ a.output)
goes_on_so code a b p n (above_floor r m) e = moved_on code a b p n r (floor r) m e
goes_on_so code a b p n (in_stack r stay_own own m) e = moved_on code a b p n r 0 m e

pub local_entries_pass : LocalEntriesPass
local_entries_pass = record { goes_on = goes_on_so; entries = entries_pass; stops = stops_there }

-- ---- many entries

record Fewer (code : Code) (o : Result) (b : Image) (s : List ℕ) : Type 0 where
  entries : List ℕ
  few : length entries ≤ length s
  comes_so : ImageComesTo code o b entries

-- where no other may act, all begins with it
forced : (code : Code) (a b : Image) (p n : ℕ) (s : List ℕ) (o : Result) → ((q : ℕ) → may_act a q ≡ true → q ≡ p) → RunEntry code p a n b → ImageComesTo code o a s
    → Fewer code o b s
forced code a b p n s o only e (now (settling.ends i)) = absurd (none-some _ (sym (may_parts a p e.may).0 ∙ i))
forced code a b p n s o only e (now (settling.stops {p = q} {n = m} {quiet = quiet} may plains l)) =
    no_entry code q a quiet b m n _ plains l (subst (λ (z : ℕ). RunEntry code z a n b) (sym (only q may)) e)
forced code a b p n s o only e (entry {b = c} {p = q} {n = m} {s = rest} f more) =
    let same : c ≡ b = entry_one code p a c b m n (subst (λ (z : ℕ). RunEntry code z a m c) (only q f.may) f) e in
    record { entries = rest; few = omega arith; comes_so = subst (λ (z : Image). ImageComesTo code o z rest) same more }

-- a local entry comes before all others
locally : (code : Code) (h counts s : List ℕ) (a b : Image) (p n : ℕ) (o : Result) → Sound code → Runs code h counts a → IsLocal code a p
    → RunEntry code p a n b → ImageComesTo code o a s → Fewer code o b s
unfolding T
locally code h counts s a b p n result sound run local_there e c =
    let o : Owns code a p = owns code a p sound local_there in
    let t : Comes code p o.r o.base o.moves.part o.moves.stays (own_of a o.r o.base) o.Guarded o.guards result (with_private a p o.base o.moves.part) s =
    comes code p o.r o.base o.moves.part o.moves.stays (own_of a o.r o.base) o.Guarded o.guards o.moves.count o.moves.enters result h counts a s run (is_now code a p o) c in
    record { entries = t.entries; few = t.few; comes_so = subst (λ (z : Image). ImageComesTo code result z t.entries) (sym (after_is code a p o b n e)) t.comes_so }

first : (code : Code) (h counts s : List ℕ) (a b : Image) (p n : ℕ) (o : Result) → Sound code → Runs code h counts a → ComesFirst code a p → RunEntry code p a n b
    → ImageComesTo code o a s → Fewer code o b s
first code h counts s a b p n o sound run (alone only) e c = forced code a b p n s o only e c
first code h counts s a b p n o sound run (local l) e c = locally code h counts s a b p n o sound run l e c

-- they are entries of a run
record Led (code : Code) (b : Image) : Type 0 where
  history : List ℕ
  counts : List ℕ
  run : Runs code history counts b

led : (code : Code) (h counts : List ℕ) (a : Image) (l : List ℕ) (b : Image) → Runs code h counts a → Settles code a l b → Led code b
led code h counts a l b run here = record { history = h; counts = counts; run = run }
led code h counts a l b run (further {l = k} {b = c} {p = p} {n = n} s f e) =
    let x : Led code c = led code h counts a k c run s in
    record { history = p ∷ x.history; counts = (n + 1) ∷ x.counts; run = runs.entry x.run e }

settles : (code : Code) (h counts : List ℕ) (a : Image) (s l : List ℕ) (b : Image) (o : Result) → Sound code → Runs code h counts a → Settles code a l b → ImageComesTo code o a s → Fewer code o b s
settles code h counts a s l b o sound run here c = record { entries = s; few = omega arith; comes_so = c }
settles code h counts a s l b o sound run (further {l = k} {b = x} {p = p} {n = n} before f e) c =
    let w : Fewer code o x s = settles code h counts a s k x o sound run before c in
    let g : Led code x = led code h counts a k x run before in
    let t : Fewer code o b w.entries = first code g.history g.counts w.entries x b p n o sound g.run f e w.comes_so in
    record { entries = t.entries; few = omega (arith, t.few, w.few); comes_so = t.comes_so }

pub settled : Settled
settled code h counts l s a b o sound run st c =
    let f : Fewer code o b s = settles code h counts a s l b o sound run st c in (f.entries, f.few, f.comes_so)
