-- Entries that go on, one after another, on the machine.
use Rattle.std.specs.Prelude.{IfSome, slice_get}
use Rattle.std.proofs.Common.{◌≡◌, refl, sym, ap, subst, ◌∙◌, ℕ, zero, suc, ◌+◌, ◌-◌, ◌<◌, ◌≤◌, Bool, true, false, List, [], ◌∷◌, ◌++◌, length, take, set, append_assoc, append-nil, Option, Some, None, arith}
use Rattle.std.proofs.lemmas.List.{length-take-le, length-append}
use Rattle.b67_list.specs.Numbered.{numbered, set_numbered}
use Rattle.b67_deeds.specs.declared.Letter.{Letter}
use Rattle.b67_segment.specs.declared.code.Code.{Code}
use Rattle.b67_table.specs.declared.ProcessState.{ProcessState}
use Rattle.b67_table.specs.Image.{Image, is_able}
use Rattle.b67_table.specs.Runs.{Plains}
use Rattle.b67_table.specs.Runs as runs
use Rattle.b67_table.specs.Table.{plain}
use Rattle.b67_table.specs.Valid.{IsValid}
use Rattle.b67_table.proofs.Lists.{numbered_set}
use Rattle.b67_table.proofs.Stacks.{get_numbered_other}
use Rattle.b67_table.proofs.Waking.{able_live}
use Rattle.b67_action.specs.declared.done.Done.{Done}
use Rattle.b67_action.specs.declared.done.Done.TheVariants.{Went}
use Rattle.b67_action.specs.Able.{able_in, AbleAfter}
use Rattle.b67_action.specs.declared.running.Ran.{Ran}
use Rattle.b67_machine.specs.declared.entry.Performed.{Performed}
use Rattle.b67_action.specs.Running.{ActionGoesOn, EntriesWalk, stay, go, IsOpenAt}
use Rattle.b67_action.proofs.Runs.{plains_then}
use Rattle.b67_machine.specs.Kept.{MachineModel, Counts, operators_counted, or_none}
use Rattle.b67_machine.specs.Letters.{or_before, last_or}
use Rattle.b67_machine.specs.Reads.{machine_end}
use Rattle.b67_machine.specs.Stepping.{operators_in, MachineActs, Steps, StepsBy, MachineGoes, MachineFollows, MachinePerforms}
use Rattle.b67_machine.specs.Entries.{EntryPasses, EntriesFollow}
use Rattle.b67_machine.specs.Entries as entries
use Rattle.b67_machine.specs.Chaining.{released_after, ChainRuns, Passing}
use Rattle.b67_machine.proofs.Enabling.{able_after, able_from}
use Rattle.b67_machine.proofs.Ends.{goes_on, same_end, no_end}
use Rattle.b67_machine.proofs.Failures.{acts_by, without}
use Rattle.b67_machine.proofs.Going.{still_goes}
use Rattle.b67_machine.proofs.Lasting.{went_goes}
use Rattle.b67_machine.proofs.Plainly.{plains_keep}

-- ---- counts

-- so many more are a process's
more_counts : List ℕ → ℕ → ℕ → List ℕ
more_counts counts p n = set_numbered counts p (operators_counted counts p + n)

counts_more : (counts : List ℕ) (p n : ℕ) → 1 ≤ p → p ≤ length counts → Counts counts p n (more_counts counts p n)
unfolding more_counts
counts_more counts p n o h = record {
  own = ap or_none (numbered_set counts p (operators_counted counts p + n) o h);
  others = λ q d. ap or_none (get_numbered_other counts p q (operators_counted counts p + n) d);
}

pub counts_then : (a b c : List ℕ) (p n m : ℕ) → Counts a p n b → Counts b p m c → Counts a p (n + m) c
counts_then a b c p n m h k = record {
  own = omega (arith, h.own, k.own);
  others = λ q d. k.others q d ∙ h.others q d;
}

-- what is counted after a part of them
counts_rest : (a b c : List ℕ) (p n m : ℕ) → Counts a p n b → Counts a p (n + m) c → Counts b p m c
counts_rest a b c p n m h k = record {
  own = omega (arith, h.own, k.own);
  others = λ q d. k.others q d ∙ sym (h.others q d);
}

counts_none : (a : List ℕ) (p : ℕ) → Counts a p 0 a
counts_none a p = record { own = omega arith; others = λ q d. refl }

long_more : (counts : List ℕ) (p n : ℕ) → p ≤ length counts → p ≤ length (more_counts counts p n)
unfolding more_counts
long_more counts p n h = omega (arith, h, same_length counts p (operators_counted counts p + n))
  where
    set_length : (xs : List ℕ) (i x : ℕ) → length (set xs i x) ≡ length xs
    set_length [] i x = refl
    set_length (y ∷ ys) zero x = refl
    set_length (y ∷ ys) (suc i) x = ap suc (set_length ys i x)

    same_length : (xs : List ℕ) (q x : ℕ) → length (set_numbered xs q x) ≡ length xs
    same_length xs zero x = refl
    same_length xs (suc i) x = set_length xs i x

-- ---- an entry that goes on

module _ (a b c : MachineModel) (p most k : ℕ) (going : machine_end b ≡ None) (goes : MachineGoes a p k b) (less : k < most) (action : plain b.code b.image p ≡ false)
    (steps : Steps b p Went c) (started : c.image.started ≡ b.image.started) (released : c.released ≡ []) (here : b.lacked ≡ false) (valid : IsValid c.code c.image) where
  pub acts : MachineActs b p Went c
  acts = subst (λ (x : Bool). StepsBy x b p Went c) here steps

  pub passes_by : (named : Letter) → c.letter ≡ Some named → EntryPasses a p most k named c
  passes_by named noted = record {
    performs = record { between = b; plains = goes; then = (less, action, steps) };
    letter = noted;
    still = ap (λ (i : Image). able_in i p) acts.image ∙ acts.came.1;
    started = started ∙ goes.started;
    released = released;
    able = able_after a b c p k Went goes steps refl;
    ends = went_goes b c p going acts;
    lacked = acts.lacked;
    valid = valid;
  }

-- ---- many of them

none_after : (ks : List Letter) (l : Letter) (before : List ℕ) → released_after (length (ks ++ l ∷ [])) before ≡ []
none_after [] l before = refl
none_after (k ∷ ks) l before = refl

pub last_of : (ks : List Letter) (l : Letter) (before : Option Letter) → last_or (ks ++ l ∷ []) before ≡ Some l
last_of [] l before = refl
last_of (k ∷ ks) l before = last_of ks l (Some k)

module _ (p most : ℕ) (old : MachineModel) (ns : List Letter) (m : ℕ) (a : MachineModel) (chain : EntriesFollow p most old ns m a) (going : machine_end a ≡ None) (here : a.lacked ≡ false)
    (sound : IsValid a.code a.image) (able : is_able (numbered a.image.states p) ≡ true) (number : 1 ≤ p) (long : p ≤ length a.counts) where
  -- after entries more with these letters, and so many operators
  record Extended (ks : List Letter) (l : ℕ) (mid : Image) : Type 0 where
    last : MachineModel
    enters : EntriesFollow p most old (ns ++ ks) (m + l) last
    image : last.image ≡ mid
    counts : Counts a.counts p l last.counts
    known : p ≤ length last.counts
    others : last ≡ record a { image = last.image; counts = last.counts; released = released_after (length ks) a.released; letter = last_or ks a.letter }
    ends : machine_end last ≡ None
    valid : IsValid a.code mid
    states : mid.states ≡ a.image.states
    fault : mid.fault ≡ a.image.fault
    started : mid.started ≡ a.image.started

  first : Extended [] 0 a.image
  first =
      let m_is : m ≡ m + 0 = omega arith in
      record {
        last = a;
        enters = subst (λ (xs : List Letter). EntriesFollow p most old xs (m + 0) a) (sym (append-nil ns)) (subst (λ (x : ℕ). EntriesFollow p most old ns x a) m_is chain);
        image = refl;
        counts = counts_none a.counts p;
        known = long;
        others = refl;
        ends = going;
        valid = sound;
        states = refl;
        fault = refl;
        started = refl;
      }

  module _ (ks : List Letter) (l j : ℕ) (b c d : Image) (named : Letter) (e : Extended ks l b) (plains : Plains a.code p b j c) (on : ActionGoesOn a.code p named c d) (within : m + (l + (j + 1)) ≤ most) where
    code_is : e.last.code ≡ a.code
    code_is = ap (λ (x : MachineModel). x.code) e.others

    lacked_is : e.last.lacked ≡ false
    lacked_is = ap (λ (x : MachineModel). x.lacked) e.others ∙ here

    abbrev quiet : MachineModel
    quiet = record e.last { image = c; counts = more_counts e.last.counts p j }

    abbrev after : MachineModel
    after = record e.last { image = d; counts = more_counts (more_counts e.last.counts p j) p 1; released = []; letter = Some named }

    able_then : is_able (numbered b.states p) ≡ true
    able_then = ap (λ (ss : List ProcessState). is_able (numbered ss p)) e.states ∙ able

    goes_then : MachineGoes e.last p j quiet
    goes_then =
        let keeps = plains_keep a.code p b c j e.valid (able_live (numbered b.states p) able_then) plains in
        record {
          performed = subst (λ (x : Code). Plains x p e.last.image j c) (sym code_is) (subst (λ (x : Image). Plains a.code p x j c) (sym e.image) plains);
          counts = counts_more e.last.counts p j number e.known;
          others = refl;
          states = keeps.states ∙ ap (λ (x : Image). x.states) (sym e.image);
          started = keeps.started ∙ ap (λ (x : Image). x.started) (sym e.image);
          fault = keeps.fault ∙ ap (λ (x : Image). x.fault) (sym e.image);
        }

    no_fault : d.fault ≡ None
    no_fault =
        on.calm.fault ∙ (plains_keep a.code p b c j e.valid (able_live (numbered b.states p) able_then) plains).fault ∙ e.fault ∙ (goes_on a going).fault

    steps_then : Steps quiet p Went after
    steps_then =
        subst (λ (x : Bool). StepsBy x quiet p Went after) (sym lacked_is)
        (acts_by quiet after a.code c d p Went code_is refl no_fault on.gone.came (sym (without d no_fault))
        (counts_more (more_counts e.last.counts p j) p 1 number (long_more e.last.counts p j e.known)) on.gone.woken (λ q. on.gone.able)
        (goes_on e.last e.ends).limit lacked_is (sym (ap (λ (x : Option Letter). or_before x quiet.letter) on.letter_is)) code_is)

    passes_then : EntryPasses e.last p (most - (m + l)) j named after
    passes_then =
        passes_by e.last quiet after p (most - (m + l)) j (still_goes e.last quiet p j e.ends goes_then) goes_then (omega (arith, within))
        (subst (λ (x : Code). plain x c p ≡ false) (sym code_is) on.action) steps_then on.calm.started refl lacked_is
        (subst (λ (x : Code). IsValid x d) (sym code_is) on.gone.valid) named refl

    one_extended : Extended (ks ++ named ∷ []) (l + (j + 1)) d
    one_extended =
        let m_is : m + l + (j + 1) ≡ m + (l + (j + 1)) = omega arith in
        let keeps = plains_keep a.code p b c j e.valid (able_live (numbered b.states p) able_then) plains in
        record {
          last = after;
          enters = subst (λ (xs : List Letter). EntriesFollow p most old xs (m + (l + (j + 1))) after) (append_assoc ns ks (named ∷ []))
              (subst (λ (x : ℕ). EntriesFollow p most old ((ns ++ ks) ++ named ∷ []) x after) m_is (entries.go e.enters passes_then));
          image = refl;
          counts = counts_then a.counts e.last.counts after.counts p l (j + 1) e.counts
              (counts_then e.last.counts quiet.counts after.counts p j 1 (counts_more e.last.counts p j number e.known)
              (counts_more (more_counts e.last.counts p j) p 1 number (long_more e.last.counts p j e.known)));
          known = long_more (more_counts e.last.counts p j) p 1 (long_more e.last.counts p j e.known);
          others = ap (λ (x : MachineModel). record x { image = d; counts = after.counts; released = []; letter = Some named }) e.others
              ∙ ap (λ (xs : List ℕ). record a { image = d; counts = after.counts; released = xs; letter = Some named }) (sym (none_after ks named a.released))
              ∙ ap (λ (x : Option Letter). record a { image = d; counts = after.counts; released = released_after (length (ks ++ named ∷ [])) a.released; letter = x })
              (sym (last_of ks named a.letter));
          ends = passes_then.ends;
          valid = on.gone.valid;
          states = on.calm.states ∙ keeps.states ∙ e.states;
          fault = on.calm.fault ∙ keeps.fault ∙ e.fault;
          started = on.calm.started ∙ keeps.started ∙ e.started;
        }

  extend : (ks : List Letter) (l : ℕ) (mid : Image) → EntriesWalk a.code p a.image ks l mid → m + l ≤ most → Extended ks l mid
  extend ks l mid stay within = first
  extend ks l mid (go {ls = is} {l = named} {m = h} {k = j} rest plains on) within =
      one_extended is h j _ _ mid named (extend is h _ rest (omega (arith, within))) plains on within

  -- what a process does on its own stack lengthens the chain
  pub passing_more : (limit : ℕ) (ran : Ran) (noted all : List Letter) (new : MachineModel) → ChainRuns a p limit ran noted new → m + ran.operators ≤ most → (es os : ℕ)
      → take es all ≡ ns ++ take ran.entries noted → os ≡ m + ran.operators → Passing old p most (record { entries = es; operators = os; plain = ran.plain }) all new
  passing_more limit ran noted all new h within es os f g =
      let ks : List Letter = take ran.entries noted in
      let e = extend ks ran.operators h.run.between h.run.walks within in
      let code_is : e.last.code ≡ a.code = ap (λ (x : MachineModel). x.code) e.others in
      record {
        between = e.last;
        enters = subst (λ (xs : List Letter). EntriesFollow p most old xs os e.last) (sym f) (subst (λ (x : ℕ). EntriesFollow p most old (ns ++ ks) x e.last) (sym g) e.enters);
        goes = record {
          performed = subst (λ (x : Code). Plains x p e.last.image ran.plain new.image) (sym code_is)
              (subst (λ (x : Image). Plains a.code p x ran.plain new.image) (sym e.image) h.run.plains);
          counts = counts_rest a.counts e.last.counts new.counts p ran.operators ran.plain e.counts h.counts;
          others = h.others
              ∙ ap (λ (n : ℕ). record a { image = new.image; counts = new.counts; released = released_after n a.released; letter = last_or ks a.letter })
              (sym (length-take-le ran.entries noted h.run.few))
              ∙ sym (ap (λ (x : MachineModel). record x { image = new.image; counts = new.counts }) e.others);
          states = h.run.calm.states ∙ sym (ap (λ (x : Image). x.states) e.image ∙ e.states);
          started = h.run.calm.started ∙ sym (ap (λ (x : Image). x.started) e.image ∙ e.started);
          fault = h.run.calm.fault ∙ sym (ap (λ (x : Image). x.fault) e.image ∙ e.fault);
        };
      }

-- ---- after what a process does on its own stack

never_none : (ls : List Letter) (l : Letter) → ls ++ l ∷ [] ≡ [] → ⊥
never_none [] l e = cc
never_none (k ∷ ls) l e = cc

no_walks : (code : Code) (p : ℕ) (old new : Image) (ls : List Letter) (m : ℕ) → EntriesWalk code p old ls m new → ls ≡ [] → (new ≡ old) × (m ≡ 0)
no_walks code p old new ls m stay e = (refl, refl)
no_walks code p old new ls m (go {ls = is} {l = named} rest plains on) e = absurd (never_none is named e)

module _ (a new : MachineModel) (p limit : ℕ) (ran : Ran) (noted : List Letter) (h : ChainRuns a p limit ran noted new) where
  pub runs_able : is_able (numbered a.image.states p) ≡ true → is_able (numbered new.image.states p) ≡ true
  runs_able able = ap (λ (ss : List ProcessState). is_able (numbered ss p)) h.run.calm.states ∙ able

  pub runs_going : machine_end a ≡ None → machine_end new ≡ None
  runs_going going =
      let on = goes_on a going in
      no_end new (same_end a.image new.image h.run.calm.states h.run.calm.fault ∙ on.end) (ap (λ (x : MachineModel). x.limit) h.others ∙ on.limit)

  pub runs_here : a.lacked ≡ false → new.lacked ≡ false
  runs_here here = ap (λ (x : MachineModel). x.lacked) h.others ∙ here

  -- with no entries there are plain operators only
  pub runs_plainly : ran.entries ≡ 0 → MachineGoes a p ran.plain new × (ran.operators ≡ 0)
  runs_plainly none =
      let k = no_walks a.code p a.image h.run.between (take ran.entries noted) ran.operators h.run.walks (ap (λ (n : ℕ). take n noted) none) in
      let all : ran.operators + ran.plain ≡ ran.plain = omega (arith, k.1) in (
        record {
          performed = subst (λ (x : Image). Plains a.code p x ran.plain new.image) k.0 h.run.plains;
          counts = subst (λ (n : ℕ). Counts a.counts p n new.counts) all h.counts;
          others = h.others ∙ ap (λ (n : ℕ). record a { image = new.image; counts = new.counts; released = released_after n a.released; letter = last_or (take n noted) a.letter }) none;
          states = h.run.calm.states;
          started = h.run.calm.started;
          fault = h.run.calm.fault;
        },
        k.1,
      )

  -- so they are entries that go on, and plain operators after them, within any number of operators that the entries have not
  pub runs_pass : (left : ℕ) → machine_end a ≡ None → a.lacked ≡ false → is_able (numbered a.image.states p) ≡ true → ran.operators ≤ left → Passing a p left ran noted new
  runs_pass left going here able within =
      passing_more p left a [] 0 a entries.stay going here h.begun able h.number h.known limit ran noted noted new h (omega (arith, within)) ran.entries ran.operators refl
      (omega arith)

  pub runs_action : ran.operators + ran.plain < limit → IsOpenAt ran.entries noted → plain new.code new.image p ≡ false
  runs_action less is_open = ap (λ (x : Code). plain x new.image p) (ap (λ (x : MachineModel). x.code) h.others) ∙ h.run.stops less is_open

-- ---- one entry on the process's own stack

-- so many operators: plain ones, and an action of this letter that went on
record OneWalk (code : Code) (p : ℕ) (old new : Image) (ls : List Letter) (n : ℕ) : Type 0 where
  quiet : Image
  l : Letter
  k : ℕ
  plains : Plains code p old k quiet
  on : ActionGoesOn code p l quiet new
  ls_is : ls ≡ l ∷ []
  n_is : n ≡ k + 1

none_before : (is : List Letter) (l : Letter) → length (is ++ l ∷ []) ≡ 1 → is ≡ []
none_before [] l e = refl
none_before (x ∷ xs) l e = absurd (omega (arith, e, length-append xs (l ∷ [])))

one_walk : (code : Code) (p : ℕ) (old new : Image) (ls : List Letter) (n : ℕ) → EntriesWalk code p old ls n new → length ls ≡ 1 → OneWalk code p old new ls n
one_walk code p old new ls n stay e = absurd (omega (arith, e))
one_walk code p old new ls n (go {b = b} {c = c} {ls = is} {l = named} {m = m} {k = k} rest plains on) e =
    let empty = none_before is named e in
    let z = no_walks code p old b is m rest empty in
    record {
      quiet = c;
      l = named;
      k = k;
      plains = subst (λ (x : Image). Plains code p x k c) z.0 plains;
      on = on;
      ls_is = ap (λ (xs : List Letter). xs ++ named ∷ []) empty;
      n_is = omega (arith, z.1);
    }

no_plains : (code : Code) (p : ℕ) (a b : Image) (n : ℕ) → Plains code p a n b → n ≡ 0 → b ≡ a
no_plains code p a b n runs.stay e = refl
no_plains code p a b n (runs.go x y rest) e = absurd (omega (arith, e))

first_is : (ls : List Letter) (l : Letter) → take 1 ls ≡ l ∷ [] → slice_get ls 0 ≡ Some l
first_is [] l e = cc
first_is (x ∷ xs) l e = ap (λ (ks : List Letter). slice_get ks 0) e

module _ (a new : MachineModel) (p most : ℕ) (ran : Ran) (noted : List Letter) (h : ChainRuns a p most ran noted new) (going : machine_end a ≡ None) (here : a.lacked ≡ false)
    (able : is_able (numbered a.image.states p) ≡ true) (within : ran.operators ≤ most) (one : ran.entries ≡ 1) (none : ran.plain ≡ 0) where
  walk : OneWalk a.code p a.image h.run.between (take ran.entries noted) ran.operators
  walk = one_walk a.code p a.image h.run.between (take ran.entries noted) ran.operators h.run.walks (length-take-le ran.entries noted h.run.few ∙ one)

  abbrev quiet_one : MachineModel
  quiet_one = record a { image = walk.quiet; counts = more_counts a.counts p walk.k }

  abbrev after_one : MachineModel
  after_one = record a { image = h.run.between; counts = new.counts; released = []; letter = Some walk.l }

  is_after : new ≡ after_one
  is_after =
      h.others
      ∙ ap (λ (x : Image). record a { image = x; counts = new.counts; released = released_after ran.entries a.released; letter = last_or (take ran.entries noted) a.letter })
      (no_plains a.code p h.run.between new.image ran.plain h.run.plains none)
      ∙ ap (λ (n : ℕ). record a { image = h.run.between; counts = new.counts; released = released_after n a.released; letter = last_or (take ran.entries noted) a.letter }) one
      ∙ ap (λ (ls : List Letter). record a { image = h.run.between; counts = new.counts; released = []; letter = last_or ls a.letter }) walk.ls_is

  goes_one : MachineGoes a p walk.k quiet_one
  goes_one =
      let keeps = plains_keep a.code p a.image walk.quiet walk.k h.begun (able_live (numbered a.image.states p) able) walk.plains in
      record {
        performed = walk.plains;
        counts = counts_more a.counts p walk.k h.number h.known;
        others = refl;
        states = keeps.states;
        started = keeps.started;
        fault = keeps.fault;
      }

  one_counted : Counts quiet_one.counts p 1 new.counts
  one_counted =
      let sum : ran.operators + ran.plain ≡ walk.k + 1 = omega (arith, walk.n_is, none) in
      counts_rest a.counts quiet_one.counts new.counts p walk.k 1 (counts_more a.counts p walk.k h.number h.known) (subst (λ (n : ℕ). Counts a.counts p n new.counts) sum h.counts)

  faultless : h.run.between.fault ≡ None
  faultless = walk.on.calm.fault ∙ goes_one.fault ∙ (goes_on a going).fault

  steps_one : Steps quiet_one p Went after_one
  steps_one =
      subst (λ (x : Bool). StepsBy x quiet_one p Went after_one) (sym here)
      (acts_by quiet_one after_one a.code walk.quiet h.run.between p Went refl refl faultless walk.on.gone.came (sym (without h.run.between faultless))
      one_counted walk.on.gone.woken (λ q. walk.on.gone.able)
      (goes_on a going).limit here (sym (ap (λ (x : Option Letter). or_before x a.letter) walk.on.letter_is)) refl)

  passes_one : EntryPasses a p most walk.k walk.l after_one
  passes_one =
      passes_by a quiet_one after_one p most walk.k (still_goes a quiet_one p walk.k going goes_one) goes_one (omega (arith, walk.n_is, within)) walk.on.action
      steps_one walk.on.calm.started refl here walk.on.gone.valid walk.l refl

  pub one_performs : MachinePerforms a p most (record { plain = ran.operators - 1; done = Some Went }) new
  one_performs =
      let k_is : walk.k ≡ ran.operators - 1 = omega (arith, walk.n_is) in
      subst (λ (x : MachineModel). MachinePerforms a p most (record { plain = ran.operators - 1; done = Some Went }) x) (sym is_after)
      (subst (λ (n : ℕ). MachinePerforms a p most (record { plain = n; done = Some Went }) after_one) k_is passes_one.performs)

  pub one_able : AbleAfter a.image new.image p new.released
  one_able = subst (λ (x : MachineModel). AbleAfter a.image x.image p x.released) (sym is_after) passes_one.able

  pub one_noted : slice_get noted 0 ≡ new.letter
  one_noted = first_is noted walk.l (subst (λ (n : ℕ). take n noted ≡ walk.l ∷ []) one walk.ls_is) ∙ ap (λ (x : MachineModel). x.letter) (sym is_after)

-- ---- before the last entry

goes_after : (a b c : MachineModel) (p k n z : ℕ) → z ≡ k + n → MachineGoes a p k b → MachineGoes b p n c → MachineGoes a p z c
goes_after a b c p k n z e h g = subst (λ (x : ℕ). MachineGoes a p x c) (sym e) (record {
  performed = plains_then a.code p a.image b.image c.image k n h.performed
      (subst (λ (x : Code). Plains x p b.image n c.image) (ap (λ (x : MachineModel). x.code) h.others) g.performed);
  counts = counts_then a.counts b.counts c.counts p k n h.counts g.counts;
  others = g.others ∙ ap (λ (x : MachineModel). record x { image = c.image; counts = c.counts }) h.others;
  states = g.states ∙ h.states;
  started = g.started ∙ h.started;
  fault = g.fault ∙ h.fault;
})

follows_after : (between new : MachineModel) (p n x y z : ℕ) (done : Option Done) (k : ℕ) → z ≡ k + n → y ≡ k + x → MachineFollows between p n x done new → MachineFollows between p z y done new
follows_after between new p n x y z None k e f h = (omega (arith, e, f, h.0), h.1)
follows_after between new p n x y z (Some done) k e f h = (omega (arith, e, f, h.0), h.1, h.2)

-- plain operators, and an entry after them, are one
pub performs_after : (a b c : MachineModel) (p k x y z : ℕ) (f : Performed) → MachineGoes a p k b → MachinePerforms b p x f c → z ≡ k + f.plain → y ≡ k + x
    → MachinePerforms a p y (record { plain = z; done = f.done }) c
performs_after a b c p k x y z f goes h e g = record {
  between = h.between;
  plains = goes_after a b h.between p k f.plain z e goes h.plains;
  then = follows_after h.between c p f.plain x y z f.done k e g h.then;
}

pub able_then_from : (a b c : MachineModel) (p k : ℕ) (o : Option Done) → MachineGoes a p k b → IfSome o (λ done. operators_in done ≡ 1 → AbleAfter b.image c.image p c.released)
    → IfSome o (λ done. operators_in done ≡ 1 → AbleAfter a.image c.image p c.released)
able_then_from a b c p k None goes h = h
able_then_from a b c p k (Some done) goes h = λ e. able_from a.image b.image c.image p c.released goes.states goes.started (h e)
