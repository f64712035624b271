-- An entry comes before the tails of others.
use Rattle.std.specs.Prelude.{if◌then◌else◌, ◌&&◌}
use Rattle.std.proofs.Common.{◌≡◌, ◌≢◌, refl, sym, ap, subst, ◌∙◌, ℕ, zero, suc, ◌+◌, ◌≤◌, Bool, true, false, List, [], ◌∷◌, ◌++◌, length, Option, Some, None, arith}
use Rattle.std.proofs.Math.Decide.{ℕ_discrete}
use Rattle.std.proofs.lemmas.List.{reverse-append}
use Rattle.b67_list.specs.Numbered.{numbered}
use Rattle.b67_num.specs.declared.FaultKind.{FaultKind}
use Rattle.b67_control.specs.declared.Registers.{Registers}
use Rattle.b67_segment.specs.declared.code.Code.{Code}
use Rattle.b67_store.specs.Store.{Rows, row_limit}
use Rattle.b67_table.specs.declared.ProcessState.{ProcessState}
use Rattle.b67_table.specs.declared.ProcessState.TheVariants as states
use Rattle.b67_table.specs.Effect.{Effect}
use Rattle.b67_table.specs.Effect as effects
use Rattle.b67_table.specs.Ending.{finished, has_ended, image_end_by, image_end, may_act, goes_on, failed}
use Rattle.b67_table.specs.Image.{Image, Failure, is_able, is_live, private_of, with_private, with_effect}
use Rattle.b67_table.specs.Outcome.{Outcome, gives, limited}
use Rattle.b67_table.specs.Private.{floor}
use Rattle.b67_table.specs.Privacy.{Commute}
use Rattle.b67_table.specs.Runs.{Plains, stay, go, ProcessActs, acts, fails, entry, Tails, none, next}
use Rattle.b67_table.specs.Sound.{Sound}
use Rattle.b67_table.specs.Table.{raw, table, plain, private_in, private_next, is_new, stack_length}
use Rattle.b67_table.specs.Valid.{IsValid}
use Rattle.b67_table.proofs.AllValid.{operators_keep_valid}
use Rattle.b67_table.proofs.Limit.{limit_comes_last, fits, new_of}
use Rattle.b67_table.proofs.Privacy.{next_private, raw_is, put_by}
use Rattle.b67_action.proofs.Lent.{private_of_plain}
use Rattle.b67_action.proofs.Runs.{plains_then}
use Rattle.b67_machine.proofs.Plainly.{live_there}
use Rattle.b67_stands.specs.Tails.{more_at, none_at, at_place, with_more}
use Rattle.b67_stands.specs.Going.{Leads, OneMore, LeadsOn, LeadsTo, RunsTakeOperators, RunsTakeEntries}
use Rattle.b67_stands.proofs.Steps.{one_same, plain_of, lives, number_from, others_next, commutes}
use Rattle.b67_table.proofs.FirstValid.{valid_stands}
use Rattle.b67_table.proofs.Cited.{may_able}
use Rattle.b67_table.proofs.Waking.{able_live}
use Rattle.b67_deeds.specs.declared.Letter.{Letter}
use Rattle.b67_letters.specs.Entries.{letters}
use Rattle.b67_letters.specs.Letters.{letter}
use Rattle.b67_stands.proofs.StayApart.{letters_stay_apart}
use Rattle.b67_stands.proofs.Past.{plains_same, none_stays}
use Rattle.b67_stands.proofs.Tailing.{tails_same, HasNone, has_none_on, before_tails, tail_grows, tail_first}

-- ---- more operators

grown : (code : Code) (schedule tails : List ℕ) (a b : Image) (p n : ℕ) → (leads : Leads code schedule tails a) → is_live (numbered a.states p) ≡ true → Plains code p a n b
    → LeadsOn code schedule tails a leads p n b
grown code schedule tails a b zero n leads live plains = absurd (omega (arith, number_from a 0 live))
grown code schedule tails a b (suc k) n leads live plains =
    let r = leads.run in
    let there : suc k ≡ 1 + k = omega arith in
    let after : Tails code 1 r.before_tails (more_at tails k n) b =
    tail_grows code 1 k n r.before_tails a b tails leads.valid r.after (subst (λ (p : ℕ). Plains code p a n b) there plains) in
    record {
      on = record {
        run = record { history = r.history; counts = r.counts; before_tails = r.before_tails; order = r.order; runs = r.runs; after = after };
        valid = leads.valid;
      };
      same = record { history = refl; counts = refl; letters = refl };
    }

pub runs_take_operators : RunsTakeOperators
runs_take_operators = grown

-- ---- images to which runs of a schedule lead

pub record Reached (code : Code) (schedule : List ℕ) (img : Image) : Type 0 where
  pub tails : List ℕ
  pub leads : Leads code schedule tails img
  pub valid : IsValid code img

module _ (code : Code) (schedule : List ℕ) where
  reached_on : (q : ℕ) (a b : Image) → Reached code schedule a → plain code a q ≡ true → table code a q ≡ gives b → Reached code schedule b
  reached_on q a b r e t = record {
    tails = with_more r.tails q 1;
    leads = (grown code schedule r.tails a b q 1 r.leads (lives code a b q t) (go e t stay)).on;
    valid = (one_same code q a b r.valid e t).valid;
  }

  reached_many : (q : ℕ) (a b : Image) (m : ℕ) → Reached code schedule a → Plains code q a m b → Reached code schedule b
  reached_many q a b m r stay = r
  reached_many q a b m r (go {b = c} e t rest) = reached_many q c b _ (reached_on q a c r e t) rest

-- ---- a fault that is kept changes nothing else

failed_plain : (code : Code) (p q : ℕ) (kind : FaultKind) (a b : Image) → IsValid code a → plain code a q ≡ true → table code a q ≡ gives b
    → (plain code (failed a p kind) q ≡ true) × (table code (failed a p kind) q ≡ gives (failed b p kind))
unfolding failed table
failed_plain code p q kind a b v e t =
    let own = private_of_plain code a q e in
    let live = lives code a b q t in
    let r = live_there code a q v live in
    let n = next_private code a q r.0 r.1 own in
    let new = new_of (stack_length q) (raw code a q) b t in
    let put = put_by a b q (floor r.0) (n.change n.next (private_of a r.0)) (sym (raw_is code a q r.0 live r.1 n) ∙ new.0) in
    let x : Image = record a { fault = Some (record { kind = kind; process = p }) } in
    let gave : raw code x q ≡ effects.gives (with_private x q (floor r.0) put.part) =
    raw_is code x q r.0 live r.1 n ∙ ap (with_effect x q (floor r.0)) put.given in
    let after : raw code x q ≡ effects.gives (record b { fault = Some (record { kind = kind; process = p }) }) =
    gave ∙ ap (λ (i : Image). effects.gives (record i { fault = Some (record { kind = kind; process = p }) })) (sym put.is) in
    let gave_table : limited (stack_length q) (raw code x q) ≡ gives (record b { fault = Some (record { kind = kind; process = p }) }) =
    ap (limited (stack_length q)) after ∙ fits (stack_length q) (record b { fault = Some (record { kind = kind; process = p }) }) new.1 in
    (plain_of code x (record b { fault = Some (record { kind = kind; process = p }) }) q own gave_table, gave_table)

-- ---- an action first

not_private_by : (x : Bool) (o : Outcome Image) (c : Image) → (x && is_new o) ≡ false → o ≡ gives c → x ≡ false
not_private_by true o c e t = sym (ap is_new t) ∙ e
not_private_by false o c e t = refl

not_private : (code : Code) (b c : Image) (p : ℕ) → plain code b p ≡ false → table code b p ≡ gives c → private_next code b p ≡ false
unfolding plain
not_private code b c p e t = not_private_by (private_next code b p) (table code b p) c e t

not_plain : (code : Code) (a : Image) (p : ℕ) → private_next code a p ≡ false → plain code a p ≡ false
unfolding plain
not_plain code a p e = ap (λ (x : Bool). x && is_new (table code a p)) e

module _ (code : Code) (schedule : List ℕ) (sound : Sound code) (p q : ℕ) (h : p ≢ q) where
  pub record OneAction (a b c : Image) : Type 0 where
    pub between : Image
    pub action : ProcessActs code p a between
    pub letter_is : letter code a p ≡ letter code b p
    pub plain_then : plain code between q ≡ true
    pub then_other : table code between q ≡ gives c

  one_commutes : (a b : Image) → Reached code schedule a → plain code a q ≡ true → table code a q ≡ gives b → Commute code p q a b
  one_commutes a b r e t =
      commutes code p q a b h r.valid e t
      (λ o has x touches mine. h (sound.apart schedule r.tails a r.leads.run p q x o touches (record { live = lives code a b q t; is = has }) mine))

  -- and its letter is the same
  one_letter : (a b : Image) → Reached code schedule a → plain code a q ≡ true → table code a q ≡ gives b → letter code a p ≡ letter code b p
  one_letter a b r e t =
      let live = lives code a b q t in
      let o = live_there code a q r.valid live in
      sym (letters_stay_apart code p q o.0 a b h (valid_stands code a q o.0 r.valid live o.1) e t
      (λ x touches mine. h (sound.apart schedule r.tails a r.leads.run p q x o.0 touches (record { live = live; is = o.1 }) mine)))

  one_action : (a b c : Image) → Reached code schedule a → plain code a q ≡ true → table code a q ≡ gives b → ProcessActs code p b c → OneAction a b c
  one_action a b c r e t (acts f u) =
      let k = one_commutes a b r e t in
      let m = k.earlier c u in
      let away : private_next code a p ≡ false = sym (others_next code q p a b h r.valid e t) ∙ not_private code b c p f u in
      record { between = m.0; action = acts (not_plain code a p away) m.1; letter_is = one_letter a b r e t; plain_then = k.plain_after m.0 m.1; then_other = m.2 }
  one_action a b c r e t (fails kind u) =
      let k = one_commutes a b r e t in
      let s = failed_plain code p q kind a b r.valid e t in
      record { between = failed a p kind; action = fails kind ((k.fault kind).0 u); letter_is = one_letter a b r e t; plain_then = s.0; then_other = s.1 }

  pub record ActionFirst (a b c : Image) (m : ℕ) : Type 0 where
    pub between : Image
    pub action : ProcessActs code p a between
    pub letter_is : letter code a p ≡ letter code b p
    pub rest : Plains code q between m c

  action_first : (a b c : Image) (m : ℕ) → Reached code schedule a → Plains code q a m b → ProcessActs code p b c → ActionFirst a b c m
  action_first a b c m r stay act = record { between = c; action = act; letter_is = refl; rest = stay }
  action_first a b c m r (go {b = d} {n = l} e t rest) act =
      let later = action_first d b c l (reached_on code schedule q a d r e t) rest act in
      let one = one_action a d later.between r e t later.action in
      record { between = one.between; action = one.action; letter_is = one.letter_is ∙ later.letter_is; rest = go one.plain_then one.then_other later.rest }

module _ (code : Code) (schedule : List ℕ) (sound : Sound code) (p : ℕ) where
  -- the action of p comes before the tails of others
  pub record BeforeAll (s : ℕ) (a : Image) (tails : List ℕ) (b c : Image) : Type 0 where
    pub between : Image
    pub action : ProcessActs code p a between
    pub letter_is : letter code a p ≡ letter code b p
    pub rest : Tails code s between tails c

  action_by : (s : ℕ) (a b c d : Image) (m : ℕ) (ts : List ℕ) → Reached code schedule a → Plains code s a m d → HasNone p s (m ∷ ts) → BeforeAll (s + 1) d ts b c → Dec (s ≡ p)
      → BeforeAll s a (m ∷ ts) b c
  action_by s a b c d m ts r one none_there later (yes e) =
      let nothing : m ≡ 0 = none_there 0 (omega (arith, e)) in
      let here : d ≡ a = sym (none_stays code s a d m one nothing) in
      record {
        between = later.between;
        action = subst (λ (x : Image). ProcessActs code p x later.between) here later.action;
        letter_is = ap (λ (x : Image). letter code x p) (sym here) ∙ later.letter_is;
        rest = subst (λ (k : ℕ). Tails code s later.between (k ∷ ts) c) (sym nothing) (next stay later.rest);
      }
  action_by s a b c d m ts r one none_there later (no g) =
      let k = action_first code schedule sound p s (λ e. g (sym e)) a d later.between m r one later.action in
      record { between = k.between; action = k.action; letter_is = k.letter_is ∙ later.letter_is; rest = next k.rest later.rest }

  before_all : (s : ℕ) (a b c : Image) (tails : List ℕ) → Reached code schedule a → Tails code s a tails b → HasNone p s tails → ProcessActs code p b c → BeforeAll s a tails b c
  before_all s a b c tails r none none_there act = record { between = c; action = act; letter_is = refl; rest = none }
  before_all s a b c tails r (next {n = m} {b = d} {tails = ts} one rest) none_there act =
      action_by s a b c d m ts r one none_there
      (before_all (s + 1) d b c ts (reached_many code schedule s a d m r one) rest (has_none_on p s m ts none_there) act) (ℕ_discrete s p)

-- ---- rows

rows_by : (code : Code) (p : ℕ) (a b : Image) (o : Option Registers) → numbered a.regs p ≡ o → private_in code o ≡ true → is_live (numbered a.states p) ≡ true
    → raw code a p ≡ effects.gives b → b.rows ≡ a.rows
rows_by code p a b None has e live g = cc
rows_by code p a b (Some r) has e live g =
    let n = next_private code a p r has (ap (private_in code) has ∙ e) in
    ap (λ (i : Image). i.rows) (put_by a b p (floor r) (n.change n.next (private_of a r)) (sym (raw_is code a p r live has n) ∙ g)).is

rows_one : (code : Code) (p : ℕ) (a b : Image) → plain code a p ≡ true → table code a p ≡ gives b → b.rows ≡ a.rows
rows_one code p a b e t =
    rows_by code p a b (numbered a.regs p) refl (private_of_plain code a p e) (lives code a b p t) ((limit_comes_last.new code a b p).0 t).0

rows_plains : (code : Code) (p : ℕ) (a b : Image) (n : ℕ) → Plains code p a n b → b.rows ≡ a.rows
rows_plains code p a b n stay = refl
rows_plains code p a b n (go {b = c} e t rest) = rows_plains code p c b _ rest ∙ rows_one code p a c e t

rows_tails : (code : Code) (s : ℕ) (a b : Image) (tails : List ℕ) → Tails code s a tails b → b.rows ≡ a.rows
rows_tails code s a b tails none = refl
rows_tails code s a b tails (next {b = c} {tails = ts} one rest) = rows_tails code (s + 1) c b ts rest ∙ rows_plains code s a c _ one

-- ---- an entry

may_same : (a b : Image) (p : ℕ) → b.states ≡ a.states → b.fault ≡ a.fault → may_act b p ≡ may_act a p
unfolding may_act image_end
may_same a b p s f =
    ap (λ (ss : List ProcessState). goes_on (if has_ended (numbered ss 1) then Some finished else image_end_by b.fault ss) (is_able (numbered ss p))) s
    ∙ ap (λ (o : Option Failure). goes_on (if has_ended (numbered a.states 1) then Some finished else image_end_by o a.states) (is_able (numbered a.states p))) f

acts_valid : (code : Code) (p : ℕ) (a b : Image) → IsValid code a → is_able (numbered a.states p) ≡ true → ProcessActs code p a b → length b.rows ≤ row_limit → IsValid code b
acts_valid code p a b v able (acts e t) few = operators_keep_valid.able code a b p v able t few
acts_valid code p a b v able (fails kind t) few = operators_keep_valid.failed code a p kind v

pub none_there : (tails : List ℕ) (k : ℕ) → at_place (none_at tails k) k ≡ 0
none_there [] k = refl
none_there (t ∷ ts) zero = refl
none_there (t ∷ ts) (suc k) = none_there ts k

has_none : (tails : List ℕ) (k : ℕ) → HasNone (1 + k) 1 (none_at tails k)
has_none tails k j e = let same : k ≡ j = omega (arith, e) in subst (λ (i : ℕ). at_place (none_at tails k) i ≡ 0) same (none_there tails k)

entered : (code : Code) (schedule tails : List ℕ) (a quiet b : Image) (k n : ℕ) (leads : Leads code schedule tails a) → Sound code → may_act a (1 + k) ≡ true
    → Plains code (1 + k) a n quiet → ProcessActs code (1 + k) quiet b → IsValid code b → (to : Leads code (schedule ++ (1 + k) ∷ []) (none_at tails k) b)
    × OneMore (1 + k) (at_place tails k + n + 1) quiet leads to
entered code schedule tails a quiet b k n leads sound may plains act valid =
    let r = leads.run in
    let first : Image = r.before_tails in
    let same = tails_same code 1 r.before_tails a tails leads.valid r.after in
    let f = tail_first code 1 k r.before_tails a tails leads.valid r.after in
    let v = (plains_same code (1 + k) r.before_tails f.between (at_place tails k) leads.valid f.first).valid in
    let g = before_tails code (1 + k) 1 f.between a quiet (none_at tails k) n v f.rest (has_none tails k) plains in
    let all = plains_then code (1 + k) r.before_tails f.between g.between (at_place tails k) n f.first g.first in
    let start : Reached code schedule r.before_tails = record {
      tails = [];
      leads = record {
        run = record { history = r.history; counts = r.counts; before_tails = r.before_tails; order = r.order; runs = r.runs; after = none };
        valid = leads.valid;
      };
      valid = leads.valid;
    } in
    let reached = reached_many code schedule (1 + k) r.before_tails g.between (at_place tails k + n) start all in
    let m = before_all code schedule sound (1 + k) 1 g.between quiet b (none_at tails k) reached g.rest (has_none tails k) act in
    let may_first : may_act r.before_tails (1 + k) ≡ true = sym (may_same r.before_tails a (1 + k) same.states same.fault) ∙ may in
    let on = plains_same code (1 + k) r.before_tails g.between (at_place tails k + n) leads.valid all in
    let able : is_able (numbered g.between.states (1 + k)) ≡ true =
    ap (λ (ss : List ProcessState). is_able (numbered ss (1 + k))) on.states ∙ may_able r.before_tails (1 + k) may_first in
    let few : length m.between.rows ≤ row_limit =
    subst (λ (rows : Rows). length rows ≤ row_limit) (rows_tails code 1 m.between b (none_at tails k) m.rest) valid.rows.few in (
      record {
        run = record {
          history = (1 + k) ∷ r.history;
          counts = (at_place tails k + n + 1) ∷ r.counts;
          before_tails = m.between;
          order = ap (λ (xs : List ℕ). xs ++ (1 + k) ∷ []) r.order ∙ sym (reverse-append ((1 + k) ∷ []) r.history);
          runs = entry r.runs (record { may = may_first; quiet = g.between; plains = all; action = m.action });
          after = m.rest;
        };
        valid = acts_valid code (1 + k) g.between m.between on.valid able m.action few;
      },
      record { history = refl; counts = refl; letters = ap (λ (l : Option Letter). l ∷ letters r.runs) m.letter_is },
    )

taken : (code : Code) (schedule tails : List ℕ) (a quiet b : Image) (p n : ℕ) (leads : Leads code schedule tails a) → Sound code → may_act a p ≡ true
    → Plains code p a n quiet → ProcessActs code p quiet b → IsValid code b → LeadsTo code schedule tails a leads p n quiet b
taken code schedule tails a quiet b zero n leads sound may plains act valid =
    absurd (omega (arith, number_from a 0 (able_live (numbered a.states 0) (may_able a 0 may))))
taken code schedule tails a quiet b (suc k) n leads sound may plains act valid =
    let same : suc k ≡ 1 + k = omega arith in
    let e = subst (λ (p : ℕ). (to : Leads code (schedule ++ p ∷ []) (none_at tails k) b) × OneMore p (at_place tails k + n + 1) quiet leads to) (sym same)
    (entered code schedule tails a quiet b k n leads sound (subst (λ (p : ℕ). may_act a p ≡ true) same may) (subst (λ (p : ℕ). Plains code p a n quiet) same plains)
    (subst (λ (p : ℕ). ProcessActs code p quiet b) same act) valid) in
    record { to = e.0; more = e.1 }

pub runs_take_entries : RunsTakeEntries
runs_take_entries = taken
