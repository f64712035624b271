-- What accidental entry performs, step by step.
use Rattle.std.specs.Result.{IsErrAnd}
use Rattle.std.proofs.Common.{◌≡◌, refl, sym, ap, subst, ◌∙◌, ℕ, zero, suc, ◌+◌, ◌-◌, ◌<◌, ◌==◌, nat_lt, nat_le, Bool, true, false, cond, List, ◌∷◌, replicate, Option, Some, None, Result, Ok, Err, length, arith}
use Rattle.std.proofs.lemmas.Bool.Decides.{nat_tests}
use Rattle.b67_list.specs.Numbered.{numbered, set_numbered}
use Rattle.b67_word.specs.declared.Place.{Place}
use Rattle.b67_control.specs.declared.Registers.{Registers}
use Rattle.b67_control.specs.declared.Mscw.{Mscw}
use Rattle.b67_control.specs.declared.Pcw.{Pcw}
use Rattle.b67_control.specs.Control.{as_rcw}
use Rattle.b67_control.specs.Display.{levels}
use Rattle.b67_store.specs.Store.{Stacks, word_at, stack_limit}
use Rattle.b67_table.specs.declared.Entry.{Entry}
use Rattle.b67_table.specs.declared.InterruptKind.{InterruptKind}
use Rattle.b67_table.specs.declared.InterruptKind.TheVariants.{InvalidOperand, BrokenChain, BadCode}
use Rattle.b67_table.specs.Effect as effects
use Rattle.b67_table.specs.Outcome.{gives, limit, limited}
use Rattle.b67_table.specs.Image.{Image}
use Rattle.b67_table.specs.Limits.{end_of_code}
use Rattle.b67_table.specs.Look.{Look, found, stops, ◌>->◌, look_seen, read_as}
use Rattle.b67_table.specs.Chains.{place, links, link_of, linked, linked_frame}
use Rattle.b67_table.specs.Linkage.{entering, if_home, if_fits, is_home, accidental, selected, entered, entered_mark, control_word}
use Rattle.b67_table.specs.Moves.{pushed}
use Rattle.b67_table.specs.Program.{Program, answer, see, changed, cut, push, registers, done}
use Rattle.b67_table.specs.Table.{stack_length, length_in}
use Rattle.b67_table.proofs.Lists.{numbered_set, numbered_within, numbered_from}
use Rattle.b67_reach.specs.declared.Stop.{Stop}
use Rattle.b67_reach.specs.declared.Stop.TheVariants.{Interrupt, StackLimit}
use Rattle.b67_reach.specs.Images.{Own}
use Rattle.b67_reach.specs.Answers.{looked, ProgramPerforms}
use Rattle.b67_reach.proofs.Looking.{seen_then, after_found, tells_look, performs_then, performs_stop, exits}
use Rattle.b67_operators.specs.Entries.{accident}

-- ---- a look that finds something, or stops alike

-- both find something, or both stop alike
abbrev Alike : {A B : Type 0} → Result A InterruptKind → Result B InterruptKind → Type 0
Alike (Ok a) (Ok b) = Unit {0}
Alike (Ok a) (Err l) = ⊥
Alike (Err k) (Ok b) = ⊥
Alike (Err k) (Err l) = k ≡ l

alike_same : {A : Type 0} (x : Result A InterruptKind) → Alike x x
alike_same (Ok a) = tt
alike_same (Err k) = refl

alike_then : {A B C : Type 0} (q : Result A InterruptKind) (f : A → Result B InterruptKind) (g : A → Result C InterruptKind) → ((a : A) → Alike (f a) (g a))
    → Alike (after_found q f) (after_found q g)
alike_then (Ok a) f g h = h a
alike_then (Err k) f g h = refl

alike_cond : {A : Type 0} (st : Stacks) (b : Bool) (x y z : Look A) → Alike (look_seen st x) (look_seen st y) → Alike (look_seen st (cond b x z)) (look_seen st (cond b y z))
alike_cond st true x y z h = h
alike_cond st false x y z h = alike_same (look_seen st z)

alike_looks : {A B : Type 0} (st : Stacks) (l : Look A) (f g : A → Look B) → ((a : A) → Alike (look_seen st (f a)) (look_seen st (g a)))
    → Alike (look_seen st (l >-> f)) (look_seen st (l >-> g))
alike_looks st l f g h =
    subst (λ (x : Result _ InterruptKind). Alike x (look_seen st (l >-> g))) (sym (seen_then st l f))
    (subst (λ (y : Result _ InterruptKind). Alike (after_found (look_seen st l) (λ a. look_seen st (f a))) y) (sym (seen_then st l g))
    (alike_then (look_seen st l) (λ a. look_seen st (f a)) (λ a. look_seen st (g a)) h))

alike_on : {A B : Type 0} (st : Stacks) (l m : Look A) (f : A → B) → Alike (look_seen st l) (look_seen st m)
    → Alike (look_seen st (l >-> (λ a. found (f a)))) (look_seen st (m >-> (λ a. found (f a))))
alike_on st l m f h =
    subst (λ (x : Result _ InterruptKind). Alike x (look_seen st (m >-> (λ a. found (f a))))) (sym (seen_then st l (λ a. found (f a))))
    (subst (λ (y : Result _ InterruptKind). Alike (after_found (look_seen st l) (λ a. Ok (f a))) y) (sym (seen_then st m (λ a. found (f a))))
    (both_on (look_seen st l) (look_seen st m) h))
  where
    both_on : (x y : Result _ InterruptKind) → Alike x y → Alike (after_found x (λ a. Ok (f a))) (after_found y (λ a. Ok (f a)))
    both_on (Ok a) (Ok b) h = tt
    both_on (Ok a) (Err l) h = absurd h
    both_on (Err k) (Ok b) h = absurd h
    both_on (Err k) (Err l) h = h

-- ---- the links of an entry do not depend on where its mark stands

links_alike : (st : Stacks) (n : ℕ) (link : Place) (x y : List (Option Place)) → Alike (look_seen st (links n link x)) (look_seen st (links n link y))
links_alike st zero link x y = zero_alike (link.stack == 0)
  where
    zero_alike : (b : Bool) → Alike (look_seen st (cond b (found (Some (place 0 0) ∷ None ∷ x)) (stops BrokenChain))) (look_seen st (cond b (found (Some (place 0 0) ∷ None ∷ y)) (stops BrokenChain)))
    zero_alike true = tt
    zero_alike false = refl
links_alike st (suc n) link x y =
    alike_looks st (linked_frame link (n + 2)) (λ (m : Mscw). links n (link_of m) (Some link ∷ x)) (λ (m : Mscw). links n (link_of m) (Some link ∷ y))
    (λ (m : Mscw). links_alike st n (link_of m) (Some link ∷ x) (Some link ∷ y))

linked_alike : (st : Stacks) (top other link : Place) (level : ℕ) → Alike (look_seen st (linked top link level)) (look_seen st (linked other link level))
linked_alike st top other link level =
    alike_cond st (nat_le 2 level) (links (level - 2) link (Some top ∷ replicate (levels - (level + 1)) None))
    (links (level - 2) link (Some other ∷ replicate (levels - (level + 1)) None)) (stops BrokenChain)
    (links_alike st (level - 2) link (Some top ∷ replicate (levels - (level + 1)) None) (Some other ∷ replicate (levels - (level + 1)) None))

module _ (st : Stacks) (r : Registers) (next : ℕ) (fits : Bool) (m n : ℕ) (pcw : Pcw) (home : Place) where
  abbrev body : ℕ → Look Entry
  body k = linked (place r.stack k) home pcw.level >-> (λ (display : List (Option Place)). found (record { home = home; display = display }))

  abbrev test : Bool
  test = is_home (read_as as_rcw (word_at st (place home.stack (home.at + 1)))) pcw.level

  entering_alike : Alike (look_seen st (entering r next fits m pcw (Some home))) (look_seen st (entering r next fits n pcw (Some home)))
  entering_alike =
      alike_cond st (nat_lt next end_of_code) (if_fits fits (if_home (Some home) pcw.level (λ h. body m))) (if_fits fits (if_home (Some home) pcw.level (λ h. body n)))
      (stops BadCode)
      (alike_cond st fits (if_home (Some home) pcw.level (λ h. body m)) (if_home (Some home) pcw.level (λ h. body n)) (stops InvalidOperand)
      (alike_cond st test (body m) (body n) (stops InvalidOperand)
      (alike_on st (linked (place r.stack m) home pcw.level) (linked (place r.stack n) home pcw.level)
      (λ (display : List (Option Place)). record { home = home; display = display })
      (linked_alike st (place r.stack m) (place r.stack n) home pcw.level))))

found_too : {A B : Type 0} (x : Result A InterruptKind) (y : Result B InterruptKind) (a : A) → Alike x y → Ok a ≡ looked x → (b : B) × (Ok b ≡ looked y)
found_too (Ok c) (Ok b) a h e = (b, refl)
found_too (Ok c) (Err l) a h e = absurd h
found_too (Err k) y a h e = cc

stops_too : {A : Type 0} (x y : Result A InterruptKind) (stop : Stop) → Alike x y → ◌≡◌ {A = Result A Stop} (Err stop) (looked x)
    → ◌≡◌ {A = Result A Stop} (Err stop) (looked y)
stops_too (Ok c) y stop h e = cc
stops_too (Err k) (Ok b) stop h e = absurd h
stops_too (Err k) (Err l) stop h e = e ∙ ap (λ (i : InterruptKind). Err (Interrupt i)) h

-- ---- the stack limit

over_limit : (p : ℕ) (regs : List Registers) (r q : Registers) (new : Image) → numbered regs p ≡ Some r → new.regs ≡ set_numbered regs p q → stack_limit < q.s
    → limited (stack_length p) (effects.gives new) ≡ limit
over_limit p regs r q new here e long =
    let there : numbered new.regs p ≡ Some q = ap (λ (z : List Registers). numbered z p) e ∙ numbered_set regs p q (numbered_from regs p r here) (numbered_within regs p r here) in
    let n : stack_length p new ≡ q.s = ap length_in there in
    let test : nat_le (stack_length p new) stack_limit ≡ false = ap (λ (k : ℕ). nat_le k stack_limit) n ∙ grind (arith, nat_tests, long) in
    ap (λ (b : Bool). cond b (gives new) limit) test

module _ (old : Own) (next taken : ℕ) (pcw : Pcw) (home : Place) (selector : ℕ) (r : Result (Unit {0}) Stop) where
  abbrev mark : ℕ
  mark = old.regs.s - taken

  abbrev look : Look Entry
  look = entering old.regs next (nat_lt old.regs.f mark) mark pcw (Some home)

  abbrev rest : Entry → Program
  rest e = answer (accident old.regs next mark pcw e selector)

  pub accident_goes : (new : Own) (e : Entry) → Ok e ≡ looked (look_seen old.stacks look) → ProgramPerforms (rest e) old new r
      → ProgramPerforms (accidental old.regs next taken pcw home selector) old new r
  accident_goes new e f q = performs_then (see look) rest e old new r (tells_look look old.stacks old.rows (Ok e) f) q

  pub accident_stops : (new : Own) (stop : Stop) → new ≡ old → ◌≡◌ {A = Result Entry Stop} (Err stop) (looked (look_seen old.stacks look)) → IsErrAnd r (λ e. e ≡ stop)
      → ProgramPerforms (accidental old.regs next taken pcw home selector) old new r
  accident_stops new stop same f e =
      exits (accidental old.regs next taken pcw home selector) old new r stop e
      (performs_stop (see look) rest stop old new (tells_look look old.stacks old.rows (Err stop) f) same)

  long_frame : (names : Bool) (e : Entry) → stack_limit < mark + 2 + length (selected names selector)
      → (p : ℕ) (img : Image) → numbered img.regs p ≡ Some old.regs
      → limited (stack_length p) (effects.gives (changed p (cut old.regs.stack mark (push old.regs.stack (entered_mark e.home (mark - old.regs.f)) (push old.regs.stack (control_word old.regs next pcw.level) (pushed old.regs.stack (selected names selector) (registers (entered old.regs (mark + 2 + length (selected names selector)) mark pcw e 0) done))))) img)) ≡ limit
  long_frame true e long p img here = over_limit p img.regs old.regs (entered old.regs (mark + 2 + length (selected true selector)) mark pcw e 0) _ here refl long
  long_frame false e long p img here = over_limit p img.regs old.regs (entered old.regs (mark + 2 + length (selected false selector)) mark pcw e 0) _ here refl long

  pub accident_limit : (new : Own) (e : Entry) → new ≡ old → Ok e ≡ looked (look_seen old.stacks look) → stack_limit < mark + 2 + length (selected pcw.names selector)
      → ProgramPerforms {A = Unit {0}} (accidental old.regs next taken pcw home selector) old new (Err StackLimit)
  accident_limit new e same f long =
      performs_then (see look) rest e old new (Err StackLimit) (tells_look look old.stacks old.rows (Ok e) f)
      (record { outcome = λ p img s t here. long_frame pcw.names e long p img here; stays = same })

  -- the same at another mark, where the stack is full
  pub full_stops : (new : Own) (other : ℕ) (stop : Stop) → new ≡ old
      → ◌≡◌ {A = Result Entry Stop} (Err stop) (looked (look_seen old.stacks (entering old.regs next (nat_lt old.regs.f mark) other pcw (Some home)))) → IsErrAnd r (λ e. e ≡ stop)
      → ProgramPerforms (accidental old.regs next taken pcw home selector) old new r
  full_stops new other stop same f e =
      accident_stops new stop same
      (stops_too (look_seen old.stacks (entering old.regs next (nat_lt old.regs.f mark) other pcw (Some home))) (look_seen old.stacks look) stop
      (entering_alike old.stacks old.regs next (nat_lt old.regs.f mark) other mark pcw home) f) e

  pub full_limit : (new : Own) (other : ℕ) (e : Entry) → new ≡ old
      → Ok e ≡ looked (look_seen old.stacks (entering old.regs next (nat_lt old.regs.f mark) other pcw (Some home)))
      → stack_limit < mark + 2 + length (selected pcw.names selector)
      → ProgramPerforms {A = Unit {0}} (accidental old.regs next taken pcw home selector) old new (Err StackLimit)
  full_limit new other e same f long =
      let t = found_too (look_seen old.stacks (entering old.regs next (nat_lt old.regs.f mark) other pcw (Some home))) (look_seen old.stacks look) e
      (entering_alike old.stacks old.regs next (nat_lt old.regs.f mark) other mark pcw home) f in
      accident_limit new t.0 same t.1 long
