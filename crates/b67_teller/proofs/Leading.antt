-- Who follows a schedule to an end or to the stack limit comes to one outcome.
use Rattle.std.proofs.Common.{◌≡◌, refl, sym, ap, ap₂, subst, ◌∙◌, ℕ, true, true≢false, List, [], ◌∷◌, ◌++◌, reverse, append_assoc, Some, inl, inr}
use Rattle.std.specs.Prelude.{◌⊎◌}
use Rattle.std.proofs.lemmas.List.{reverse-append, reverse-reverse}
use Rattle.std.proofs.lemmas.Option.{same_Some, none-some}
use Rattle.b67_list.specs.Numbered.{numbered}
use Rattle.b67_list.proofs.Lists.{same_head}
use Rattle.b67_segment.specs.declared.code.Code.{Code}
use Rattle.b67_table.specs.Image.{Image}
use Rattle.b67_table.specs.Ending.{ImageEnd, image_end, may_act}
use Rattle.b67_table.specs.Ending as machine
use Rattle.b67_table.specs.Table.{length_in}
use Rattle.b67_table.specs.Runs.{RunEntry, Runs, entry}
use Rattle.b67_report.specs.declared.EndWords.{EndWords}
use Rattle.b67_report.specs.declared.EndWords.TheVariants as ends
use Rattle.b67_told.specs.declared.Outcome.{Outcome}
use Rattle.b67_outcomes.specs.Entering.{Stops, HistoryLeadsTo}
use Rattle.b67_outcomes.proofs.Determined.{led_one, no_entry, stops_one}
use Rattle.b67_outcomes.proofs.Apart.{same_tail}
use Rattle.b67_teller.specs.Following.{IsOutcomeEnd, image_words, ended_outcome, stopped_outcome, IsLong, NextStops, NextIsIllegal, EndsBy, Followed, FollowsOnly}

-- ---- histories

-- an entry within a history, and the image before it
pub record EntryIn (code : Code) (p : ℕ) (h : List ℕ) : Type 0 where
  pub from : Image
  pub to : Image
  pub count : ℕ
  pub before : HistoryLeadsTo code h from
  pub is : RunEntry code p from count to

entry_in : (code : Code) (xs : List ℕ) (p : ℕ) (h counts : List ℕ) (img : Image) → Runs code (xs ++ p ∷ h) counts img → EntryIn code p h
entry_in code [] p h counts img (entry {counts = c} {a = a} {n = n} r e) = record { from = a; to = img; count = n; before = (c, r); is = e }
entry_in code (x ∷ xs) p h counts img (entry {counts = c} {a = a} r e) = entry_in code xs p h c a r

-- a history by the entries of its schedule
back : (history done left : List ℕ) → reverse history ≡ done ++ left → history ≡ reverse left ++ reverse done
back history done left e = sym (reverse-reverse history) ∙ ap reverse e ∙ reverse-append done left

back_all : (history done : List ℕ) → reverse history ≡ done ++ [] → reverse done ≡ history
back_all history done e = sym (back history done [] e)

back_next : (history done : List ℕ) (p : ℕ) (left : List ℕ) → reverse history ≡ done ++ p ∷ left → history ≡ reverse left ++ p ∷ reverse done
back_next history done p left e =
    back history done (p ∷ left) e ∙ ap (λ (z : List ℕ). z ++ reverse done) (reverse-append (p ∷ []) left) ∙ append_assoc (reverse left) (p ∷ []) (reverse done)

-- the last entry is the one found, or that is among those before it
last_or : (p : ℕ) (history xs : List ℕ) (q : ℕ) (h : List ℕ) → p ∷ history ≡ xs ++ q ∷ h
    → ((p ≡ q) × (history ≡ h)) ⊎ ((ys : List ℕ) × (history ≡ ys ++ q ∷ h))
last_or p history [] q h e = inl (same_head p q history h e, same_tail p q history h e)
last_or p history (x ∷ xs) q h e = inr (xs, same_tail p x history (xs ++ q ∷ h) e)

pub outcome_is : (o : Outcome) (output : List (List ℕ)) (end : EndWords) → o.output ≡ output → o.end ≡ end → o ≡ record { output = output; end = end }
outcome_is o output end e f = ap₂ (λ (x : List (List ℕ)) (y : EndWords). record { output = x; end = y }) e f

-- ---- to an end

module _ (code : Code) (history : List ℕ) (img : Image) (leads : HistoryLeadsTo code history img) where
  -- all entries were performed
  all_done : (o : Outcome) (f : Followed code (reverse history) o) → f.left ≡ [] → f.image ≡ img
  all_done o f none =
      led_one code history f.image img
      (subst (λ (h : List ℕ). HistoryLeadsTo code h f.image) (back_all history f.done (f.split ∙ ap (λ (z : List ℕ). f.done ++ z) none)) f.leads) leads

  -- the next entry can be performed
  next_goes : (o : Outcome) (f : Followed code (reverse history) o) (q : ℕ) (left : List ℕ) → f.left ≡ q ∷ left → (n : ℕ) × (b : Image) × RunEntry code q f.image n b
  next_goes o f q left e =
      let x =
      entry_in code (reverse left) q (reverse f.done) leads.0 img
      (subst (λ (h : List ℕ). Runs code h leads.0 img) (back_next history f.done q left (f.split ∙ ap (λ (z : List ℕ). f.done ++ z) e)) leads.1) in
      (x.count, x.to, subst (λ (z : Image). RunEntry code q z x.count x.to) (led_one code (reverse f.done) x.from f.image x.before f.leads) x.is)

  not_stopped : (o : Outcome) (f : Followed code (reverse history) o) (p words : ℕ) (A : Type 0) (left : List ℕ) → f.left ≡ left → NextStops code left f.image p words → A
  not_stopped o f p words A [] e s = absurd s
  not_stopped o f p words A (q ∷ left) e s =
      let x = next_goes o f q left e in
      no_entry code p f.image s.1 x.1 x.0 A s.2 (subst (λ (z : ℕ). RunEntry code z f.image x.0 x.1) s.0 x.2)

  not_illegal : (o : Outcome) (f : Followed code (reverse history) o) (A : Type 0) (left : List ℕ) → f.left ≡ left → NextIsIllegal left f.image → A
  not_illegal o f A [] e s = absurd s
  not_illegal o f A (q ∷ left) e s = let x = next_goes o f q left e in absurd (true≢false (sym x.2.may ∙ s))

  module _ (e : ImageEnd) (there : image_end img ≡ Some e) (o : Outcome) (f : Followed code (reverse history) o) where
    as_ended : (x : ImageEnd) → f.left ≡ [] → image_end f.image ≡ Some x → o.end ≡ image_words x → o ≡ ended_outcome img e
    as_ended x none at is =
        let same = all_done o f none in
        let one : x ≡ e = same_Some x e (sym at ∙ ap (λ (z : Image). image_end z) same ∙ there) in
        outcome_is o img.output (image_words e) (f.output ∙ ap (λ (z : Image). z.output) same) (is ∙ ap image_words one)

    by_end : (end : EndWords) → o.end ≡ end → EndsBy code (reverse history) f.left f.image end
        → (o ≡ ended_outcome img e) ⊎ ((o.end ≡ ends.BudgetSpent) × IsLong code (reverse history))
    by_end ends.Finished is x = inl (as_ended machine.finished x.0 x.1 is)
    by_end (ends.Fault kind process) is x = inl (as_ended (machine.faulted kind process) x.0 x.1 is)
    by_end ends.AllWaiting is x = inl (as_ended machine.all_waiting x.0 x.1 is)
    by_end ends.BudgetSpent is x = inr (is, x)
    by_end (ends.StackLimit process words) is x = not_stopped o f process words _ f.left refl x
    by_end ends.ScheduleEnded is x =
        absurd (none-some e (sym x.1 ∙ ap (λ (z : Image). image_end z) (all_done o f x.0) ∙ there))
    by_end (ends.Illegal number) is x = not_illegal o f _ f.left refl x
    by_end (ends.Differs number) is x = absurd x

pub ended_only : (code : Code) (history : List ℕ) (img : Image) (e : ImageEnd) → HistoryLeadsTo code history img → image_end img ≡ Some e
    → FollowsOnly code (reverse history) (ended_outcome img e)
ended_only code history img e leads there o f = by_end code history img leads e there o f o.end refl f.ends_by

pub own_end : (e : ImageEnd) → IsOutcomeEnd (image_words e)
own_end machine.finished = tt
own_end (machine.faulted kind p) = tt
own_end machine.all_waiting = tt

-- ---- to the stack limit

module _ (code : Code) (history : List ℕ) (p : ℕ) (img quiet : Image) (leads : HistoryLeadsTo code history img) (may : may_act img p ≡ true) (stops : Stops code p img quiet) where
  -- not all entries were performed
  not_all : (o : Outcome) (f : Followed code (reverse (p ∷ history)) o) (A : Type 0) → f.left ≡ [] → A
  not_all o f A none =
      let all = subst (λ (h : List ℕ). HistoryLeadsTo code h f.image) (back_all (p ∷ history) f.done (f.split ∙ ap (λ (z : List ℕ). f.done ++ z) none)) f.leads in
      let x = entry_in code [] p history all.0 f.image all.1 in
      no_entry code p img quiet x.to x.count A stops (subst (λ (z : Image). RunEntry code p z x.count x.to) (led_one code history x.from img x.before leads) x.is)

  -- the next entry is the one that comes to the limit, or it can be performed
  next_is : (o : Outcome) (f : Followed code (reverse (p ∷ history)) o) (q : ℕ) (left : List ℕ) → f.left ≡ q ∷ left
      → ((p ≡ q) × (f.image ≡ img)) ⊎ ((n : ℕ) × (b : Image) × RunEntry code q f.image n b)
  next_is o f q left e = by (last_or p history (reverse left) q (reverse f.done) (back_next (p ∷ history) f.done q left (f.split ∙ ap (λ (z : List ℕ). f.done ++ z) e)))
    where
      by : ((p ≡ q) × (history ≡ reverse f.done)) ⊎ ((ys : List ℕ) × (history ≡ ys ++ q ∷ reverse f.done))
          → ((p ≡ q) × (f.image ≡ img)) ⊎ ((n : ℕ) × (b : Image) × RunEntry code q f.image n b)
      by (inl x) = inl (x.0, led_one code history f.image img (subst (λ (h : List ℕ). HistoryLeadsTo code h f.image) (sym x.1) f.leads) leads)
      by (inr x) =
          let y = entry_in code x.0 q (reverse f.done) leads.0 img (subst (λ (h : List ℕ). Runs code h leads.0 img) x.1 leads.1) in
          inr (y.count, y.to, subst (λ (z : Image). RunEntry code q z y.count y.to) (led_one code (reverse f.done) y.from f.image y.before f.leads) y.is)

  module _ (o : Outcome) (f : Followed code (reverse (p ∷ history)) o) where
    -- it came to the limit there, in the same image
    as_stopped : (r words : ℕ) (other : Image) → o.end ≡ ends.StackLimit r words → p ≡ r → f.image ≡ img → Stops code r f.image other
        → words ≡ length_in (numbered other.regs r) → o ≡ stopped_outcome img p quiet
    as_stopped r words other is here same s has =
        let one = stops_one code p img quiet other stops (subst (λ (z : Image). Stops code p z other) same (subst (λ (z : ℕ). Stops code z f.image other) (sym here) s)) in
        outcome_is o img.output (ends.StackLimit p (length_in (numbered quiet.regs p))) (f.output ∙ ap (λ (z : Image). z.output) same)
        (is ∙ ap₂ (λ (x y : ℕ). ends.StackLimit x y) (sym here)
        (has ∙ ap (λ (z : ℕ). length_in (numbered other.regs z)) (sym here) ∙ ap (λ (z : Image). length_in (numbered z.regs p)) (sym one)))

    by_next : (r words : ℕ) → o.end ≡ ends.StackLimit r words → (left : List ℕ) → f.left ≡ left → NextStops code left f.image r words → o ≡ stopped_outcome img p quiet
    by_next r words is [] e s = absurd s
    by_next r words is (q ∷ left) e s = by (next_is o f q left e)
      where
        by : ((p ≡ q) × (f.image ≡ img)) ⊎ ((n : ℕ) × (b : Image) × RunEntry code q f.image n b) → o ≡ stopped_outcome img p quiet
        by (inl x) = as_stopped r words s.1 is (x.0 ∙ s.0) x.1 s.2 s.3
        by (inr x) = no_entry code r f.image s.1 x.1 x.0 _ s.2 (subst (λ (z : ℕ). RunEntry code z f.image x.0 x.1) s.0 x.2)

    not_forbidden : (A : Type 0) (left : List ℕ) → f.left ≡ left → NextIsIllegal left f.image → A
    not_forbidden A [] e s = absurd s
    not_forbidden A (q ∷ left) e s = by (next_is o f q left e)
      where
        by : ((p ≡ q) × (f.image ≡ img)) ⊎ ((n : ℕ) × (b : Image) × RunEntry code q f.image n b) → A
        by (inl x) = absurd (true≢false (sym may ∙ ap₂ (λ (z : Image) (y : ℕ). may_act z y) (sym x.1) x.0 ∙ s))
        by (inr x) = absurd (true≢false (sym x.2.may ∙ s))

    by_stop : (end : EndWords) → o.end ≡ end → EndsBy code (reverse (p ∷ history)) f.left f.image end
        → (o ≡ stopped_outcome img p quiet) ⊎ ((o.end ≡ ends.BudgetSpent) × IsLong code (reverse (p ∷ history)))
    by_stop ends.Finished is x = not_all o f _ x.0
    by_stop (ends.Fault kind process) is x = not_all o f _ x.0
    by_stop ends.AllWaiting is x = not_all o f _ x.0
    by_stop ends.BudgetSpent is x = inr (is, x)
    by_stop (ends.StackLimit process words) is x = inl (by_next process words is f.left refl x)
    by_stop ends.ScheduleEnded is x = not_all o f _ x.0
    by_stop (ends.Illegal number) is x = not_forbidden _ f.left refl x
    by_stop (ends.Differs number) is x = absurd x

pub stopped_only : (code : Code) (history : List ℕ) (p : ℕ) (img quiet : Image) → HistoryLeadsTo code history img → may_act img p ≡ true → Stops code p img quiet
    → FollowsOnly code (reverse (p ∷ history)) (stopped_outcome img p quiet)
stopped_only code history p img quiet leads may stops o f = by_stop code history p img quiet leads may stops o f o.end refl f.ends_by
