-- The letters that a report prints are those of the source's own actions.
use Rattle.std.proofs.Common.{◌≡◌, ℕ, ◌+◌, ◌-◌, List, [], ◌∷◌, ◌++◌, length, map, reverse, Option, Some, None, slice_get, get_or, option_map, refl, sym, ap, ◌∙◌, arith}
use Rattle.std.proofs.lemmas.List.{get_or-reverse, length-append, length-reverse, reverse-append, reverse-reverse}
use Rattle.std.proofs.lemmas.Option.{get_or_from_slice_get, same_Some, slice_get-get_or, slice_get-map}
use mathlib.Core.List.{append_assoc, reverse-cons}
use Rattle.algol_tree.specs.Plain.{PProgram}
use Rattle.algol_tree.specs.Scopes.{scopes_of}
use Rattle.algol_meaning.specs.World.{World}
use Rattle.algol_meaning.specs.Choice.{choice}
use Rattle.algol_meaning.specs.Run.{run}
use Rattle.b67_deeds.specs.declared.Letter.{Letter}
use Rattle.b67_schedule.specs.Schedules.{entries}
use Rattle.b67_report.specs.declared.Report.{Report}
use Rattle.b67_faithful.specs.Correspondence.{action_in, source_actions}
use Rattle.b67_explain.specs.Explaining.{Explains}
use Rattle.b67_explain.specs.Lettering.{IsTheSources, PrintedLettersAreTheSources}

-- the action of an entry of a history
action_at : (tree : PProgram) (later : List ℕ) (p : ℕ) (h : List ℕ) →
    slice_get (source_actions tree (later ++ p ∷ h)) (length later) ≡ Some (action_in tree (run tree (reverse h)) p)
action_at tree [] p h = refl
action_at tree (q ∷ later) p h = action_at tree later p h

-- it has a letter, and then there is a world before it
letter_there : (x o : Option Letter) → option_map Some x ≡ Some o → (l : Letter) × (x ≡ Some l) × (o ≡ Some l)
letter_there None o e = cc
letter_there (Some l) o e = (l, refl, sym (same_Some (Some l) o e))

world_there : (tree : PProgram) (o : Option World) (p : ℕ) (l : Letter) → action_in tree o p ≡ Some l →
    (world : World) × (o ≡ Some world) × ((choice (scopes_of tree) world p).action ≡ l)
world_there tree None p l e = cc
world_there tree (Some world) p l e = (world, refl, same_Some (choice (scopes_of tree) world p).action l e)

-- what stands at a place from the end
from_end : (ls : List Letter) (later before : ℕ) (l : Letter) → length ls ≡ before + 1 + later → slice_get (reverse ls) later ≡ Some l → slice_get ls before ≡ Some l
from_end ls later before l all e =
    let place : length ls - 1 - later ≡ before = omega (arith, all) in
    let same : get_or ls before l ≡ l =
    ap (λ (k : ℕ). get_or ls k l) (sym place) ∙ sym (get_or-reverse ls later l (omega (arith, all))) ∙ get_or_from_slice_get (reverse ls) later l l e in
    slice_get-get_or ls before l (omega (arith, all)) ∙ ap Some same

module _ (tree : PProgram) (processors budget : ℕ) (report : Report) (x : Explains tree processors budget report) (before : List ℕ) (p : ℕ) (later : List ℕ)
    (split : entries report.schedule.runs ≡ before ++ p ∷ later) where
  history_is : x.table_run.history ≡ reverse later ++ p ∷ reverse before
  history_is =
      sym (reverse-reverse x.table_run.history) ∙ ap reverse (sym x.table_run.order ∙ split) ∙ reverse-append before (p ∷ later)
      ∙ ap (λ (xs : List ℕ). xs ++ reverse before) (reverse-cons p later) ∙ append_assoc (reverse later) (p ∷ []) (reverse before)

  letters_are : map Some (reverse report.schedule.letters) ≡ source_actions tree (reverse later ++ p ∷ reverse before)
  letters_are =
      sym x.letters ∙ x.faithful.follows.actions (entries report.schedule.runs) x.tails x.image x.table_run ∙ ap (source_actions tree) history_is

  here : option_map Some (slice_get (reverse report.schedule.letters) (length (reverse later))) ≡ Some (action_in tree (run tree before) p)
  here =
      sym (slice_get-map Some (reverse report.schedule.letters) (length (reverse later)))
      ∙ ap (λ (os : List (Option Letter)). slice_get os (length (reverse later))) letters_are
      ∙ action_at tree (reverse later) p (reverse before)
      ∙ ap (λ (xs : List ℕ). Some (action_in tree (run tree xs) p)) (reverse-reverse before)

  all : length report.schedule.letters ≡ length before + 1 + length (reverse later)
  all =
      let each = x.is_report.schedule.each in
      let parts = ap length split in
      omega (arith, each, parts, length-append before (p ∷ later), length-reverse later)

  is_sources : IsTheSources tree before p report.schedule.letters
  is_sources =
      let there = letter_there (slice_get (reverse report.schedule.letters) (length (reverse later))) (action_in tree (run tree before) p) here in
      let world = world_there tree (run tree before) p there.0 there.2 in
      record {
        world = world.0;
        legal = world.1;
        letter = from_end report.schedule.letters (length (reverse later)) (length before) there.0 all there.1 ∙ ap Some (sym world.2);
      }

pub printed_letters_are_the_sources : PrintedLettersAreTheSources
printed_letters_are_the_sources tree processors budget report x = record {
  each = x.is_report.schedule.each;
  are = is_sources tree processors budget report x;
}
