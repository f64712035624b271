-- A number has one history, and its entries are performed one after another.
use Rattle.std.proofs.Common.{◌≡◌, refl, sym, ap, subst, ◌∙◌, ℕ, zero, suc, ◌+◌, ◌-◌, ◌<◌, ◌≤◌, Bool, true, false, List, [], ◌∷◌, ◌++◌, length, take, drop, reverse, get_or, Some, append_assoc, append-nil, below_more, Result, Ok, Err, arith, inl, inr}
use Rattle.std.specs.Prelude.{◌⊎◌, slice_get, IfOk}
use Rattle.std.specs.List.{All}
use Rattle.std.proofs.Math.Seq.{take-suc}
use Rattle.std.proofs.lemmas.List.{drop_all, length_push, length-append, map-append, reverse-append, take-append-drop}
use Rattle.std.proofs.lemmas.Option.{slice_get_within, same_Some, none-some}
use Rattle.b67_segment.specs.declared.code.Code.{Code}
use Rattle.b67_table.specs.Image.{Image}
use Rattle.b67_table.specs.Beginning.{first_image}
use Rattle.b67_table.specs.Ending.{may_act}
use Rattle.b67_table.specs.Runs.{RunEntry, Runs, begin, entry}
use Rattle.b67_table.proofs.Begun.{last_is}
use Rattle.b67_list.proofs.Lists.{get_front, slice_either}
use Rattle.b67_outcomes.specs.declared.found.Step.{Step}
use Rattle.b67_outcomes.specs.Entering.{ProcessEnters, IsProcessNumber, HistoryLeadsTo, HistoryLeads}
use Rattle.b67_outcomes.specs.Finding.{History, first, later, IsLed, NumberIsAt, IsAfter, AreLed, before_of, HoldsPath}
use Rattle.b67_outcomes.proofs.Determined.{entry_one, no_entry, led_one}

-- ---- lists

-- ---- histories

pub history_stays : (xs more : List Step) (k : ℕ) (h : List ℕ) → History xs k h → History (xs ++ more) k h
history_stays xs more k h first = first
history_stays xs more k h (later {n = n} {step = s} {h = r} there before rest) = later (get_front xs more n s there) before (history_stays xs more s.before r rest)

pub history_within : (steps : List Step) (k : ℕ) (h : List ℕ) → History steps k h → k ≤ length steps
history_within steps k h first = omega arith
history_within steps k h (later {n = n} {step = s} there before rest) = let within = slice_get_within steps n s there in omega (arith, within)

-- the last step of a history
pub record LastStep (steps : List Step) (k : ℕ) (h : List ℕ) : Type 0 where
  pub step : Step
  pub there : slice_get steps (k - 1) ≡ Some step
  pub less : step.before < k
  pub rest : List ℕ
  pub is : h ≡ step.process ∷ rest
  pub before : History steps step.before rest

pub last_step : (steps : List Step) (k : ℕ) (h : List ℕ) → 0 < k → History steps k h → LastStep steps k h
last_step steps k h positive first = absurd (omega (arith, positive))
last_step steps k h positive (later {n = n} {step = s} {h = r} there before rest) =
    let one : suc n - 1 ≡ n = omega arith in
    record {
      step = s;
      there = ap (λ (i : ℕ). slice_get steps i) one ∙ there;
      less = omega (arith, before);
      rest = r;
      is = refl;
      before = rest;
    }

same_history : (s t : Step) (r q : List ℕ) → s ≡ t → r ≡ q → s.process ∷ r ≡ t.process ∷ q
same_history s t r q e f = ap (λ (z : Step). z.process ∷ r) e ∙ ap (λ (z : List ℕ). t.process ∷ z) f

pub history_one : (steps : List Step) (k : ℕ) (g h : List ℕ) → History steps k g → History steps k h → g ≡ h
history_one steps k g h first first = refl
history_one steps k g h (later {n = n} {step = s} {h = r} there before rest) (later {step = t} {h = q} also less more) =
    let same : s ≡ t = same_Some s t (sym there ∙ also) in
    same_history s t r q same (history_one steps s.before r q rest (subst (λ (z : Step). History steps z.before q) (sym same) more))

-- the walk back: before the first step
pub walk_begun : (steps : List Step) (number : ℕ) (h none : List ℕ) → none ≡ [] → History steps number h → History steps number (none ++ h)
walk_begun steps number h none e is = subst (λ (z : List ℕ). History steps number (z ++ h)) (sym e) is

-- its last step is of a state before it
pub step_less : (steps : List Step) (k : ℕ) (h : List ℕ) (step : Step) → 0 < k → History steps k h → slice_get steps (k - 1) ≡ Some step → step.before < k
step_less steps k h step positive is there =
    let last = last_step steps k h positive is in
    subst (λ (z : Step). z.before < k) (same_Some last.step step (sym last.there ∙ there)) last.less

-- a step further back
pub walk_next : (steps : List Step) (number k : ℕ) (done h : List ℕ) (last : LastStep steps k h) (step : Step) → slice_get steps (k - 1) ≡ Some step
    → (all : List ℕ) → all ≡ done ++ step.process ∷ [] → History steps number (done ++ h) → (rest : List ℕ) × History steps step.before rest × History steps number (all ++ rest)
walk_next steps number k done h last step there all e is =
    let same : last.step ≡ step = same_Some last.step step (sym last.there ∙ there) in (
      last.rest,
      subst (λ (z : Step). History steps z.before last.rest) same last.before,
      subst (λ (z : List ℕ). History steps number z)
          (ap (λ (z : List ℕ). done ++ z) (last.is ∙ ap (λ (z : Step). z.process ∷ last.rest) same) ∙ sym (append_assoc done (step.process ∷ []) last.rest)
          ∙ ap (λ (z : List ℕ). z ++ last.rest) (sym e)) is,
    )

pub no_steps : (steps : List Step) (h : List ℕ) → History steps 0 h → h ≡ []
no_steps steps h first = refl

-- and at the first state
pub walk_ended : (steps : List Step) (number k : ℕ) (done h : List ℕ) → k ≤ 0 → History steps k h → History steps number (done ++ h) → History steps number done
walk_ended steps number k done h none is all =
    let zero_is : k ≡ 0 = omega (arith, none) in
    subst (λ (z : List ℕ). History steps number z)
    (ap (λ (z : List ℕ). done ++ z) (no_steps steps h (subst (λ (z : ℕ). History steps z h) zero_is is)) ∙ append-nil done) all

-- a history has no more entries than states were found before it
pub history_short : (steps : List Step) (k : ℕ) (h : List ℕ) → History steps k h → length h ≤ k
history_short steps k h first = omega arith
history_short steps k h (later {step = s} {h = r} there before rest) = let short = history_short steps s.before r rest in omega (arith, before, short)

-- ---- the numbers of processes

pub numbers_begun : (h : List ℕ) → All IsProcessNumber (drop (length h) h)
numbers_begun h = subst (λ (z : List ℕ). All IsProcessNumber z) (sym (drop_all (length h) h (omega arith))) (λ k d below. absurd (omega (arith, below)))

-- ---- runs of histories

pub led_none : (code : Code) → HistoryLeadsTo code [] first_image
led_none code = ([], begin)

pub led_more : (code : Code) (h : List ℕ) (p : ℕ) (a b : Image) (n : ℕ) → HistoryLeadsTo code h a → RunEntry code p a n b → HistoryLeadsTo code (p ∷ h) b
led_more code h p a b n l e = ((n + 1) ∷ l.0, entry l.1 e)

-- nothing is performed yet
pub led_begun : (code : Code) (h : List ℕ) (img : Image) → img ≡ first_image → HistoryLeadsTo code (drop (length h) h) img
led_begun code h img e =
    subst (λ (z : List ℕ). HistoryLeadsTo code z img) (sym (drop_all (length h) h (omega arith))) (subst (λ (x : Image). HistoryLeadsTo code [] x) (sym e) (led_none code))

-- the history of a state that is led has a run
pub led_leads : (code : Code) (steps : List Step) (k : ℕ) (h : List ℕ) → IsLed code steps k → History steps k h → HistoryLeads code h
led_leads code steps k h led is = (led.image, subst (λ (z : List ℕ). HistoryLeadsTo code z led.image) (history_one steps k led.history h led.is is) led.leads)

entered : (code : Code) (p : ℕ) (a b : Image) (r : Bool) (n : ℕ) (c : Image) → ProcessEnters code p a r b → RunEntry code p a n c → c ≡ b
entered code p a b true n c x e = entry_one code p a c b n x.0 e x.1
entered code p a b false n c s e = no_entry code p a b c n _ s e

-- where the process has an entry it is performed
is_entered : (code : Code) (p : ℕ) (a b : Image) (r : Bool) (n : ℕ) (c : Image) → ProcessEnters code p a r b → RunEntry code p a n c → r ≡ true
is_entered code p a b true n c x e = refl
is_entered code p a b false n c s e = no_entry code p a b c n _ s e

-- ---- paths

-- an entry more at the end of a path is one at the head of its history
pub path_end : (path : List ℕ) (p : ℕ) (h : List ℕ) → reverse (path ++ p ∷ []) ++ h ≡ p ∷ (reverse path ++ h)
path_end path p h = ap (λ (z : List ℕ). z ++ h) (reverse-append path (p ∷ []))

-- a run of entries after others has one of those
pub rest_leads : (code : Code) (more h counts : List ℕ) (img : Image) → Runs code (more ++ h) counts img → HistoryLeads code h
rest_leads code [] h counts img r = (img, (counts, r))
rest_leads code (p ∷ more) h counts img (entry {counts = c} {a = a} r e) = rest_leads code more h c a r

-- where a machine stands at the history of a number, that history leads to its image
pub at_history : (code : Code) (steps : List Step) (n : ℕ) (img : Image) (h : List ℕ) → NumberIsAt code steps n img → History steps n h → HistoryLeadsTo code h img
at_history code steps n img h x is = subst (λ (g : List ℕ). HistoryLeadsTo code g img) (history_one steps n x.history h x.is is) x.leads

pub at_stays : (code : Code) (xs more ys : List Step) (n : ℕ) (img : Image) → ys ≡ xs ++ more → NumberIsAt code xs n img → NumberIsAt code ys n img
at_stays code xs more ys n img e x =
    record { history = x.history; is = subst (λ (z : List Step). History z n x.history) (sym e) (history_stays xs more n x.history x.is); leads = x.leads }

pub at_led : (code : Code) (steps : List Step) (n : ℕ) (img : Image) → NumberIsAt code steps n img → IsLed code steps n
at_led code steps n img x = record { history = x.history; image = img; is = x.is; leads = x.leads }

pub at_one : (code : Code) (steps : List Step) (n : ℕ) (a b : Image) → NumberIsAt code steps n a → NumberIsAt code steps n b → a ≡ b
at_one code steps n a b x y = led_one code y.history a b (at_history code steps n a y.history x y.is) y.leads

-- and where it stands after a path
pub after_history : (code : Code) (steps : List Step) (n : ℕ) (path : List ℕ) (img : Image) (h : List ℕ) → IsAfter code steps n path img → History steps n h
    → HistoryLeadsTo code (reverse path ++ h) img
after_history code steps n path img h x is =
    subst (λ (g : List ℕ). HistoryLeadsTo code (reverse path ++ g) img) (history_one steps n x.history h x.is is) x.leads

pub after_one : (code : Code) (steps : List Step) (n : ℕ) (path : List ℕ) (a b : Image) → IsAfter code steps n path a → IsAfter code steps n path b → a ≡ b
after_one code steps n path a b x y =
    led_one code (reverse path ++ y.history) a b (after_history code steps n path a y.history x y.is) y.leads

-- no entry
pub after_none : (code : Code) (steps : List Step) (n : ℕ) (path : List ℕ) (img : Image) → path ≡ [] → NumberIsAt code steps n img → IsAfter code steps n path img
after_none code steps n path img e x =
    subst (λ (z : List ℕ). IsAfter code steps n z img) (sym e) (record { history = x.history; is = x.is; leads = x.leads })

-- an entry more
pub after_more : (code : Code) (steps : List Step) (n : ℕ) (path longer : List ℕ) (p k : ℕ) (a b : Image) → longer ≡ path ++ p ∷ []
    → IsAfter code steps n path a → RunEntry code p a k b → IsAfter code steps n longer b
after_more code steps n path longer p k a b same x e =
    record {
      history = x.history;
      is = x.is;
      leads = subst (λ (z : List ℕ). HistoryLeadsTo code z b) (sym (ap (λ (z : List ℕ). reverse z ++ x.history) same ∙ path_end path p x.history))
          (led_more code (reverse path ++ x.history) p a b k x.leads e);
    }

-- after the first entries of a path that has a run
pub part_leads : (code : Code) (steps : List Step) (n : ℕ) (path : List ℕ) (i : ℕ) (img : Image) → IsAfter code steps n path img
    → (part : Image) × IsAfter code steps n (take i path) part
part_leads code steps n path i img x =
    let whole : reverse path ++ x.history ≡ reverse (drop i path) ++ (reverse (take i path) ++ x.history) =
    ap (λ (z : List ℕ). reverse z ++ x.history) (sym (take-append-drop i path)) ∙ ap (λ (z : List ℕ). z ++ x.history) (reverse-append (take i path) (drop i path))
    ∙ append_assoc (reverse (drop i path)) (reverse (take i path)) x.history in
    let part = rest_leads code (reverse (drop i path)) (reverse (take i path) ++ x.history) x.leads.0 img
    (subst (λ (z : List ℕ). Runs code z x.leads.0 img) whole x.leads.1) in
    (part.0, record { history = x.history; is = x.is; leads = part.1 })

-- the last entry of a path
pub record LastEntry (code : Code) (steps : List Step) (n : ℕ) (path : List ℕ) (p : ℕ) (to : Image) : Type 0 where
  pub from : Image
  pub count : ℕ
  pub before : IsAfter code steps n path from
  pub is : RunEntry code p from count to

pub last_entry : (code : Code) (steps : List Step) (n : ℕ) (path longer : List ℕ) (p : ℕ) (to : Image) → longer ≡ path ++ p ∷ []
    → IsAfter code steps n longer to → LastEntry code steps n path p to
last_entry code steps n path longer p to same x =
    by x.leads.0 (subst (λ (z : List ℕ). Runs code z x.leads.0 to) (ap (λ (z : List ℕ). reverse z ++ x.history) same ∙ path_end path p x.history) x.leads.1)
  where
    by : (counts : List ℕ) → Runs code (p ∷ (reverse path ++ x.history)) counts to → LastEntry code steps n path p to
    by counts (entry {counts = c} {a = a} {n = k} r e) =
        record { from = a; count = k; before = record { history = x.history; is = x.is; leads = (c, r) }; is = e }

-- the entry at a place of a path that has a run
entry_after : (code : Code) (steps : List Step) (n : ℕ) (path : List ℕ) (i : ℕ) (img a : Image) → i < length path → IsAfter code steps n path img
    → IsAfter code steps n (take i path) a → (to : Image) × (count : ℕ) × RunEntry code (get_or path i 0) a count to
entry_after code steps n path i img a below x here =
    let part = part_leads code steps n path (suc i) img x in
    let last = last_entry code steps n (take i path) (take (suc i) path) (get_or path i 0) part.0 (take-suc path i 0 below) part.1 in
    let same = after_one code steps n (take i path) last.from a last.before here in
    (part.0, last.count, subst (λ (z : Image). RunEntry code (get_or path i 0) z last.count part.0) same last.is)

-- the machine that stands after the entries before it may perform it
pub path_may : (code : Code) (steps : List Step) (n : ℕ) (path : List ℕ) (i : ℕ) (img a : Image) → i < length path → IsAfter code steps n path img
    → IsAfter code steps n (take i path) a → may_act a (get_or path i 0) ≡ true
path_may code steps n path i img a below x here = let e = entry_after code steps n path i img a below x here in e.2.may

-- it is performed
pub path_entered : (code : Code) (steps : List Step) (n : ℕ) (path : List ℕ) (i : ℕ) (img a b : Image) (r : Bool) → i < length path
    → IsAfter code steps n path img → IsAfter code steps n (take i path) a → ProcessEnters code (get_or path i 0) a r b → r ≡ true
path_entered code steps n path i img a b r below x here e =
    let y = entry_after code steps n path i img a below x here in is_entered code (get_or path i 0) a b r y.1 y.0 e y.2

-- and the machine stands after it then
pub path_after : (code : Code) (steps : List Step) (n : ℕ) (path : List ℕ) (i : ℕ) (img a b : Image) (r : Bool) → i < length path
    → IsAfter code steps n path img → IsAfter code steps n (take i path) a → ProcessEnters code (get_or path i 0) a r b → IsAfter code steps n (take (i + 1) path) b
path_after code steps n path i img a b r below x here e =
    let y = entry_after code steps n path i img a below x here in
    let same = entered code (get_or path i 0) a b r y.1 y.0 e y.2 in
    let one : suc i ≡ i + 1 = omega arith in
    subst (λ (k : ℕ). IsAfter code steps n (take k path) b) one
    (after_more code steps n (take i path) (take (suc i) path) (get_or path i 0) y.1 a b (take-suc path i 0 below) here
    (subst (λ (z : Image). RunEntry code (get_or path i 0) a y.1 z) same y.2))

-- ---- the steps of a path

led_stays : (code : Code) (xs more : List Step) (k : ℕ) → IsLed code xs k → IsLed code (xs ++ more) k
led_stays code xs more k x = record { history = x.history; image = x.image; is = history_stays xs more k x.history x.is; leads = x.leads }

pub new_history : (xs : List Step) (s : Step) (h : List ℕ) → History xs s.before h → History (xs ++ s ∷ []) (suc (length xs)) (s.process ∷ h)
new_history xs s h is = later (last_is xs s) (history_within xs s.before h is) (history_stays xs (s ∷ []) s.before h is)

-- so each is led where one step more is added
pub new_led : (code : Code) (xs : List Step) (s : Step) (h : List ℕ) → AreLed code xs → History xs s.before h → HistoryLeads code (s.process ∷ h)
    → AreLed code (xs ++ s ∷ [])
new_led code xs s h led is leads k within =
    below_more (λ (q : ℕ). IsLed code (xs ++ s ∷ []) q) (suc (length xs))
    (λ (q : ℕ) (lt : q < suc (length xs)). led_stays code xs (s ∷ []) q (led q (omega (arith, lt))))
    (record { history = s.process ∷ h; image = leads.0; is = new_history xs s h is; leads = leads.1 })
    k (omega (arith, within, length_push xs s))

-- no entry yet
pub held_none : (steps : List Step) (number : ℕ) → HoldsPath steps number [] number steps
held_none steps number =
    record {
      more = [];
      steps = sym (append-nil steps);
      entries = refl;
      chained = λ k s e. absurd (none-some s e);
      at_is = refl;
      is = λ h is. is;
      led = λ code h img is l led. led;
    }

-- a step more
pub held_next : (old steps longer : List Step) (number at : ℕ) (path : List ℕ) (s : Step) → HoldsPath old number path at steps → s.before ≡ at
    → longer ≡ steps ++ s ∷ [] → HoldsPath old number (path ++ s.process ∷ []) (suc (length steps)) longer
held_next old steps longer number at path s x before same =
    subst (λ (z : List Step). HoldsPath old number (path ++ s.process ∷ []) (suc (length steps)) z) (sym same)
    record {
      more = x.more ++ s ∷ [];
      steps = ap (λ (z : List Step). z ++ s ∷ []) x.steps ∙ append_assoc old x.more (s ∷ []);
      entries = map-append (λ (z : Step). z.process) x.more (s ∷ []) ∙ ap (λ (z : List ℕ). z ++ s.process ∷ []) x.entries;
      chained = λ k t e. chain k t (slice_either x.more (s ∷ []) k t e);
      at_is = at_end;
      is = λ h is.
          subst (λ (z : List ℕ). History (steps ++ s ∷ []) (suc (length steps)) z) (sym (path_end path s.process h))
          (new_history steps s (reverse path ++ h) (there h is));
      led = λ code h img is l led.
          let longer_led = subst (λ (z : List ℕ). HistoryLeadsTo code z img) (path_end path s.process h) l in
          let before_led = rest_leads code (s.process ∷ []) (reverse path ++ h) longer_led.0 img longer_led.1 in
          new_led code steps s (reverse path ++ h) (x.led code h before_led.0 is before_led.1 led) (there h is) (img, longer_led);
    }
  where
    chain : (k : ℕ) (t : Step) → (slice_get x.more k ≡ Some t) ⊎ ((j : ℕ) × (k ≡ length x.more + j) × (slice_get (s ∷ []) j ≡ Some t))
        → t.before ≡ before_of number (length old) k
    chain k t (inl was) = x.chained k t was
    chain k t (inr (zero, place, there)) =
        ap (λ (z : Step). z.before) (sym (same_Some s t there)) ∙ before ∙ x.at_is ∙ ap (λ (i : ℕ). before_of number (length old) i) (omega (arith, place))
    chain k t (inr (suc j, place, there)) = absurd (none-some t there)

    at_end : suc (length steps) ≡ before_of number (length old) (length (x.more ++ s ∷ []))
    at_end =
        let size = ap (λ (z : List Step). length z) x.steps ∙ length-append old x.more in
        let longer : suc (length x.more) ≡ length (x.more ++ s ∷ []) = omega (arith, length_push x.more s) in
        let end : suc (length steps) ≡ length old + suc (length x.more) = omega (arith, size) in
        end ∙ ap (λ (i : ℕ). before_of number (length old) i) longer

    there : (h : List ℕ) → History old number h → History steps s.before (reverse path ++ h)
    there h is = subst (λ (k : ℕ). History steps k (reverse path ++ h)) (sym before) (x.is h is)

-- ---- answers

pub ok_map : {A E : Type 0} (r : Result A E) (P Q : A → Type 0) → ((a : A) → P a → Q a) → IfOk r P → IfOk r Q
ok_map (Ok a) P Q f x = f a x
ok_map (Err e) P Q f x = x

pub ok_both : {A E : Type 0} (r : Result A E) (P Q R : A → Type 0) → ((a : A) → P a → Q a → R a) → IfOk r P → IfOk r Q → IfOk r R
ok_both (Ok a) P Q R f p q = f a p q
ok_both (Err e) P Q R f p q = p
