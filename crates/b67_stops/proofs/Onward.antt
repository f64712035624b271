-- From stop to stop.
use Rattle.std.proofs.Common.{arith, ◌≡◌, ◌≢◌, ap, sym, ◌∙◌, subst, ◌⊎◌, inl, inr, ℕ, ◌+◌, ◌-◌, ◌<◌, ◌≤◌, ◌^◌, min, List, [], ◌++◌, length, take, replicate, Some, append_assoc, length-append}
use Rattle.std.specs.Prelude.{slice_get}
use Rattle.std.proofs.Math.Seq.{take-append_seam}
use Rattle.std.proofs.lemmas.List.{length-replicate}
use Rattle.std.proofs.lemmas.Bool.{cases_lt}
use Rattle.b67_commands.specs.declared.command.Command.{Command}
use Rattle.b67_list.proofs.Numbers.{replicate_parts}
use Rattle.b67_stops.specs.Answering.{IsNextStop, AnswersHere, AnsweredBelow, IsAt, AreAnswers}

-- the first so many of a run, and the others
pub run_parts : (count times p : ℕ) (left : List ℕ) → times ≤ count → replicate count p ++ left ≡ replicate times p ++ (replicate (count - times) p ++ left)
run_parts count times p left less =
    let all : count ≡ times + (count - times) = omega (arith, less) in
    ap (λ (n : ℕ). replicate n p ++ left) all
    ∙ ap (λ (xs : List ℕ). xs ++ left) (replicate_parts times (count - times) p)
    ∙ append_assoc (replicate times p) (replicate (count - times) p) left

-- the commands that are given before the stop after k, once those at k are answered
module _
    (A B : List ℕ → Command → List ℕ → Type 0) (given done : List ℕ) (commands : List Command) (at : List ℕ) (k next : ℕ) (old new : List (List ℕ)) (front : take k given ≡ done)
    (kept : (h : List ℕ) (c : Command) (t : List ℕ) → A h c t → B h c t) (below : AnsweredBelow A given commands at k old) (told : AnswersHere B done commands at k old new)
    (stop : IsNextStop at k next) where
  abbrev IsSo : ℕ → ℕ → Command → Type 0
  IsSo place here command = (text : List ℕ) × (slice_get new place ≡ Some text) × B (take here given) command text

  at_least : (place here : ℕ) (command : Command) → slice_get at place ≡ Some here → slice_get commands place ≡ Some command → here < next → k ≤ here
      → (k < here) ⊎ (here ≤ k) → IsSo place here command
  at_least place here command e f less le (inl above) = absurd (omega (arith, less, stop.least place here e above))
  at_least place here command e f less le (inr most) =
      let same : k ≡ here = omega (arith, le, most) in
      let t = told.here place command (e ∙ ap (λ (n : ℕ). Some n) (sym same)) f in
      (t.0, t.1, subst (λ (h : List ℕ). B h command t.0) (sym front ∙ ap (λ (n : ℕ). take n given) same) t.2)

  either : (place here : ℕ) (command : Command) → slice_get at place ≡ Some here → slice_get commands place ≡ Some command → here < next
      → (here < k) ⊎ (k ≤ here) → IsSo place here command
  either place here command e f less (inl before) =
      let apart : here ≢ k = λ (same : here ≡ k). omega (arith, same, before) in
      let t = below place here command e f before in
      (t.0, told.others place here e apart ∙ t.1, kept (take here given) command t.0 t.2)
  either place here command e f less (inr le) = at_least place here command e f less le (cases_lt k here)

  pub below_next : AnsweredBelow B given commands at next new
  below_next place here command e f less = either place here command e f less (cases_lt here k)

module _
    (Stands After : Type 0) (Goes May : List ℕ → Type 0) (A B : List ℕ → Command → List ℕ → Type 0) (done later given left : List ℕ) (p count times : ℕ) (commands : List Command)
    (at : List ℕ) (k next : ℕ) (texts : List (List ℕ)) (s : IsAt Stands Goes A done given (replicate count p ++ left) commands at k next texts) (times_are : times ≡ min (next - k) count) where
  parts : given ≡ done ++ (replicate times p ++ (replicate (count - times) p ++ left))
  parts =
      let few : times ≤ count = omega (arith, times_are) in
      s.split ∙ ap (λ (xs : List ℕ). done ++ xs) (run_parts count times p left few)

  -- the entries that are to be made can be made
  pub may_go : (more : List ℕ) × Goes (done ++ (replicate times p ++ more))
  may_go = (replicate (count - times) p ++ left, subst Goes parts s.goes)

  module _
      (still : After) (may : (h : List ℕ) → Goes h → May h) (kept : (h : List ℕ) (c : Command) (t : List ℕ) → A h c t → B h c t) (more : later ≡ done ++ replicate times p) where
    split : given ≡ later ++ (replicate (count - times) p ++ left)
    split =
        parts ∙ sym (append_assoc done (replicate times p) (replicate (count - times) p ++ left))
        ∙ ap (λ (xs : List ℕ). xs ++ (replicate (count - times) p ++ left)) (sym more)

    pub counted : k + times ≡ length later
    counted = omega (arith, s.is, ap length more, length-append done (replicate times p), length-replicate times p)

    pub within : k + times < 2 ^ 64 - 1
    within = omega (arith, counted, ap length split, length-append later (replicate (count - times) p ++ left), s.few)

    -- before the next stop
    pub goes_on : (there : ℕ) → k + times ≡ there → there ≢ next → IsAt After May B later given (replicate (count - times) p ++ left) commands at there next texts
    goes_on there is apart =
        record {
          stands = still;
          goes = may given s.goes;
          split = split;
          is = sym is ∙ counted;
          above = strictly (cases_lt there next);
          few = s.few;
          places = s.places;
          answered = λ place here command e f less.
              let t = s.answered place here command e f less in (t.0, t.1, kept (take here given) command t.0 t.2);
        }
      where
        strictly : (there < next) ⊎ (next ≤ there) → there < next
        strictly (inl less) = less
        strictly (inr le) = absurd (apart (omega (arith, le, is, times_are, s.above)))

    -- at it
    pub stops : (new : List (List ℕ)) (there then : ℕ) → k + times ≡ there → there ≡ next → AnswersHere B later commands at there texts new → IsNextStop at there then
        → IsAt After May B later given (replicate (count - times) p ++ left) commands at there then new
    stops new there then is here told stop =
        record {
          stands = still;
          goes = may given s.goes;
          split = split;
          is = sym is ∙ counted;
          above = stop.above;
          few = s.few;
          places = told.places ∙ s.places;
          answered = below_next A B given later commands at there then texts new
              (ap (λ (n : ℕ). take n given) (sym is ∙ counted) ∙ ap (λ (xs : List ℕ). take (length later) xs) split ∙ take-append_seam later (replicate (count - times) p ++ left)) kept
              (subst (λ (n : ℕ). AnsweredBelow A given commands at n texts) (sym here) s.answered) told stop;
        }

-- after the last one
pub ends :
    (Stands : Type 0) (Goes : List ℕ → Type 0) (A B : List ℕ → Command → List ℕ → Type 0) (done given left : List ℕ) (commands : List Command) (at : List ℕ) (k next : ℕ) (texts : List (List ℕ))
    → left ≡ [] → ((place here : ℕ) → slice_get at place ≡ Some here → here ≤ length given) → ((h : List ℕ) (c : Command) (t : List ℕ) → A h c t → B h c t)
    → IsAt Stands Goes A done given left commands at k next texts → AreAnswers B given commands at texts
ends Stands Goes A B done given left commands at k next texts none within back s =
    record {
      places = s.places;
      each = λ place here command e f.
          let less : here < next = omega (arith, within place here e, s.above, s.is, ap length s.split, length-append done left, ap length none) in
          let t = s.answered place here command e f less in (t.0, t.1, back (take here given) command t.0 t.2);
    }
