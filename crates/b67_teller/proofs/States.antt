-- From one history of a state to all that is told of it.
use Rattle.std.proofs.Common.{◌≡◌, refl, sym, ap, ap₂, subst, ◌∙◌, ℕ, suc, ◌-◌, ◌≤◌, true, List, ◌∷◌, length, reverse, Option, Some, None, arith, inl, inr}
use Rattle.std.specs.Prelude.{slice_get}
use Rattle.std.proofs.lemmas.Option.{same_Some, none-some, slice_get_within}
use Rattle.b67_list.specs.Numbered.{numbered}
use Rattle.b67_segment.specs.declared.code.Code.{Code}
use Rattle.b67_table.specs.Image.{Image}
use Rattle.b67_table.specs.Ending.{ImageEnd, image_end, may_act}
use Rattle.b67_table.specs.Table.{length_in}
use Rattle.b67_table.specs.Runs.{Runs, entry}
use Rattle.b67_schedule.specs.Schedules.{most_in_schedule}
use Rattle.b67_report.specs.declared.EndWords.{EndWords}
use Rattle.b67_report.specs.declared.EndWords.TheVariants as ends
use Rattle.b67_told.specs.declared.Outcome.{Outcome}
use Rattle.b67_told.specs.declared.Told.{Told}
use Rattle.b67_told.specs.Telling.{OutcomeIsTold}
use Rattle.b67_outcomes.specs.declared.found.TheConstants.{MOST_STEPS}
use Rattle.b67_outcomes.specs.declared.found.Step.{Step}
use Rattle.b67_outcomes.specs.declared.found.Limit.{Limit}
use Rattle.b67_outcomes.specs.declared.found.Found.{Found}
use Rattle.b67_outcomes.specs.Entering.{Stops, HistoryLeadsTo}
use Rattle.b67_outcomes.specs.Finding.{History, AreLed, IsStop}
use Rattle.b67_outcomes.proofs.Determined.{led_one, stops_one}
use Rattle.b67_outcomes.proofs.Histories.{history_one, history_short, history_within, last_step}
use Rattle.b67_outcomes.proofs.Passing.{not_ended}
use Rattle.b67_teller.specs.Following.{words_of_image, image_words, stopped_outcome, ended_outcome, HasOutcome}
use Rattle.b67_teller.specs.Books.{IsStateTold, IsLimitTold, IsHistoryWith, IsSettled, IsOpen, HasOther}

-- what is told of a slice is told
pub told_here : {slice told : List Told} {shown output : List (List ℕ)} {end : EndWords} → slice ≡ told → shown ≡ output
    → OutcomeIsTold slice (record { output = shown; end = end }) → OutcomeIsTold told (record { output = output; end = end })
told_here {slice} {told} {shown} {output} {end} same lines t =
    subst (λ (y : List (List ℕ)). OutcomeIsTold told (record { output = y; end = end })) lines
    (subst (λ (z : List Told). OutcomeIsTold z (record { output = shown; end = end })) same t)

pub told_back : {slice told : List Told} {shown output : List (List ℕ)} {end : EndWords} → slice ≡ told → shown ≡ output
    → OutcomeIsTold told (record { output = output; end = end }) → OutcomeIsTold slice (record { output = shown; end = end })
told_back {slice} {told} {shown} {output} {end} same lines t = told_here (sym same) (sym lines) t

-- ---- states

-- there is an end
pub open_end : (told : List Told) (output : List (List ℕ)) (end : Option EndWords) → IsOpen told output end → (e : EndWords) × (end ≡ Some e)
open_end told output None other = absurd other
open_end told output (Some e) other = (e, refl)

end_is : (o : Option ImageEnd) (end : EndWords) → words_of_image o ≡ Some end → (e : ImageEnd) × (o ≡ Some e) × (image_words e ≡ end)
end_is None end x = absurd (none-some end x)
end_is (Some e) end x = (e, refl, same_Some (image_words e) end x)

module _ (code : Code) (found : Found) (told : List Told) (number : ℕ) (h : List ℕ) (here : Image) (is : History found.steps.items number h) (leads : HistoryLeadsTo code h here) where
  one_image : (g : List ℕ) (img : Image) → History found.steps.items number g → HistoryLeadsTo code g img → img ≡ here
  one_image g img also l =
      led_one code h img here (subst (λ (z : List ℕ). HistoryLeadsTo code z img) (history_one found.steps.items number g h also is) l) leads

  -- it has no end
  pub no_outcome : words_of_image (image_end here) ≡ None → IsStateTold code found told number
  no_outcome goes g img e also l there =
      absurd (none-some (image_words e) (sym goes ∙ ap (λ (i : Image). words_of_image (image_end i)) (sym (one_image g img also l)) ∙ ap words_of_image there))

  -- its outcome is told
  pub state_told : (end : EndWords) → words_of_image (image_end here) ≡ Some end → OutcomeIsTold told (record { output = here.output; end = end }) → IsStateTold code found told number
  state_told end ended t g img e also l there =
      let same = one_image g img also l in
      let one : image_words e ≡ end =
      same_Some (image_words e) end (ap words_of_image (sym there) ∙ ap (λ (i : Image). words_of_image (image_end i)) same ∙ ended) in
      subst (λ (o : Outcome). OutcomeIsTold told o)
      (ap₂ (λ (x : List (List ℕ)) (y : EndWords). record { output = x; end = y }) (ap (λ (i : Image). i.output) (sym same)) (sym one)) t

  pub state_settled : (o : Option EndWords) → words_of_image (image_end here) ≡ o → IsSettled told here.output o → IsStateTold code found told number
  state_settled None goes s = no_outcome goes
  state_settled (Some end) ended t = state_told end ended t

-- its schedule has that outcome
pub state_has : (code : Code) (h schedule : List ℕ) (here : Image) (end : EndWords) → schedule ≡ reverse h → HistoryLeadsTo code h here → words_of_image (image_end here) ≡ Some end
    → HasOutcome code schedule (record { output = here.output; end = end })
state_has code h schedule here end same leads ended =
    let e = end_is (image_end here) end ended in
    inl (record {
      history = h;
      order = same;
      image = here;
      leads = leads;
      end = e.0;
      ended = e.1;
      is = ap (λ (y : EndWords). record { output = here.output; end = y }) (sym e.2);
    })

-- and another one than those that are told
pub state_other : (code : Code) (told : List Told) (h schedule : List ℕ) (here : Image) (o : Option EndWords) → schedule ≡ reverse h → HistoryLeadsTo code h here
    → words_of_image (image_end here) ≡ o → IsOpen told here.output o → HasOther code schedule told
state_other code told h schedule here None same leads ended other = absurd other
state_other code told h schedule here (Some end) same leads ended other =
    record { outcome = record { output = here.output; end = end }; has = state_has code h schedule here end same leads ended; other = other }

-- ---- stack limits

-- its schedule has that outcome
pub limit_has : (code : Code) (steps : List Step) (l : Limit) (history schedule : List ℕ) → IsHistoryWith steps l history → schedule ≡ reverse history → (s : IsStop code steps l)
    → HasOutcome code schedule (stopped_outcome s.image l.process s.quiet)
limit_has code steps l history schedule is same s =
    let one : l.process ∷ s.history ≡ history = ap (λ (z : List ℕ). l.process ∷ z) (history_one steps l.state s.history is.0 s.is is.1) ∙ sym is.2 in
    inr (record {
      process = l.process;
      history = s.history;
      order = same ∙ ap reverse (sym one);
      image = s.image;
      leads = s.leads;
      may = s.may;
      quiet = s.quiet;
      stops = s.stops;
      is = refl;
    })

-- it is that of the image before it and of so many words
pub limit_shown : (code : Code) (steps : List Step) (l : Limit) (h : List ℕ) (here : Image) (words : ℕ) (s : IsStop code steps l) → History steps l.state h → HistoryLeadsTo code h here
    → words ≡ length_in (numbered s.quiet.regs l.process)
    → record { output = here.output; end = ends.StackLimit l.process words } ≡ stopped_outcome s.image l.process s.quiet
limit_shown code steps l h here words s is leads has =
    let same = led_one code h s.image here (subst (λ (z : List ℕ). HistoryLeadsTo code z s.image) (history_one steps l.state s.history h s.is is) s.leads) leads in
    ap₂ (λ (x : List (List ℕ)) (y : ℕ). record { output = x; end = ends.StackLimit l.process y }) (ap (λ (i : Image). i.output) (sym same)) has

-- its outcome is told
pub limit_told : (code : Code) (found : Found) (told : List Told) (l : Limit) (s : IsStop code found.steps.items l) → OutcomeIsTold told (stopped_outcome s.image l.process s.quiet)
    → IsLimitTold code found told l
limit_told code found told l s t g img quiet is leads stops =
    let same : img ≡ s.image =
    led_one code s.history img s.image (subst (λ (z : List ℕ). HistoryLeadsTo code z img) (history_one found.steps.items l.state g s.history is s.is) leads) s.leads in
    let one : quiet ≡ s.quiet = stops_one code l.process s.image quiet s.quiet (subst (λ (x : Image). Stops code l.process x quiet) same stops) s.stops in
    subst (λ (o : Outcome). OutcomeIsTold told o) (ap₂ (λ (x y : Image). stopped_outcome x l.process y) (sym same) (sym one)) t

-- the process may act where it was noted
pub limit_may : (code : Code) (steps : List Step) (l : Limit) (h : List ℕ) (here : Image) → IsStop code steps l → History steps l.state h → HistoryLeadsTo code h here
    → may_act here l.process ≡ true
limit_may code steps l h here s is leads =
    subst (λ (x : Image). may_act x l.process ≡ true)
    (led_one code h s.image here (subst (λ (z : List ℕ). HistoryLeadsTo code z s.image) (history_one steps l.state s.history h s.is is) s.leads) leads) s.may

-- and comes to it there
pub limit_stops : (code : Code) (steps : List Step) (l : Limit) (h : List ℕ) (here : Image) → IsStop code steps l → History steps l.state h
    → HistoryLeadsTo code h here → (quiet : Image) × Stops code l.process here quiet
limit_stops code steps l h here s is leads = (
  s.quiet,
  subst (λ (x : Image). Stops code l.process x s.quiet)
      (led_one code h s.image here (subst (λ (z : List ℕ). HistoryLeadsTo code z s.image) (history_one steps l.state s.history h s.is is) s.leads) leads) s.stops,
)

pub short_with : (steps : List Step) (l : Limit) (history : List ℕ) → IsHistoryWith steps l history → length steps ≤ MOST_STEPS → length history ≤ most_in_schedule
short_with steps l history is few =
    let short = history_short steps l.state is.0 is.1 in
    let within = history_within steps l.state is.0 is.1 in
    let size = ap (λ (z : List ℕ). length z) is.2 in
    omega (arith, short, within, size, few)

pub short_of : (steps : List Step) (number : ℕ) (history : List ℕ) → History steps number history → length steps ≤ MOST_STEPS → length history ≤ most_in_schedule
short_of steps number history is few =
    let short = history_short steps number history is in
    let within = history_within steps number history is in
    omega (arith, short, within, few)

-- where an entry was performed after the history of a state, its image has no end
pub followed_told : (code : Code) (found : Found) (told : List Told) (number k : ℕ) (step : Step) → AreLed code found.steps.items
    → slice_get found.steps.items k ≡ Some step → step.before ≡ number → IsStateTold code found told number
followed_told code found told number k step led there before = λ history img e is leads ends.
    let within = slice_get_within found.steps.items k step there in
    let more = led (suc k) (omega (arith, within)) in
    let last = last_step found.steps.items (suc k) more.history (omega arith) more.is in
    let one : suc k - 1 ≡ k = omega arith in
    let same : last.step ≡ step = same_Some last.step step (sym last.there ∙ ap (λ (i : ℕ). slice_get found.steps.items i) one ∙ there) in
    let number_is : last.step.before ≡ number = ap (λ (s : Step). s.before) same ∙ before in
    let rest = subst (λ (n : ℕ). History found.steps.items n last.rest) number_is last.before in
    let history_is = history_one found.steps.items number last.rest history rest is in
    by history img e leads ends last.step.process more.leads.0
    (subst (λ (h : List ℕ). Runs code h more.leads.0 more.image) (last.is ∙ ap (λ (h : List ℕ). last.step.process ∷ h) history_is) more.leads.1)
  where
    by : (history : List ℕ) (img : Image) (e : ImageEnd) → HistoryLeadsTo code history img → image_end img ≡ Some e → (p : ℕ) (counts : List ℕ)
        → {to : Image} → Runs code (p ∷ history) counts to → OutcomeIsTold told (ended_outcome img e)
    by history img e leads ends p counts (entry {counts = c} {a = a} r x) =
        not_ended img p e _ (subst (λ (i : Image). may_act i p ≡ true) (led_one code history a img (c, r) leads) x.may) ends
