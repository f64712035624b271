-- Critical places, process by process.
use Rattle.std.proofs.Common.{◌≡◌, refl, ap, ◌∙◌, ℕ, ◌+◌, ◌≤◌, ◌<◌, List, [], ◌∷◌, Bool, true, false, not, ◌&&◌, ◌||◌, Option, Some, None, length, drop, slice_index_or, add-one, drop-cons, length-drop, arith}
use Rattle.std.proofs.lemmas.List.{nil_from_length}
use Rattle.std.specs.List.{list_any}
use Rattle.b67_word.specs.declared.Place.{Place}
use Rattle.b67_control.specs.declared.Registers.{Registers}
use Rattle.b67_events.specs.Events.{same_place}
use Rattle.b67_table.specs.declared.ProcessState.{ProcessState}
use Rattle.b67_table.specs.Image.{is_ended}
use Rattle.b67_table.specs.Questions.{live_criticals, unless, with_critical}
use Rattle.b67_reach.specs.Criticals.{is_place, has_critical}

abbrev pub some_critical : Place → List ProcessState → List Registers → Bool
some_critical frame states regs = list_any (same_place frame) (live_criticals states regs)

first_or_rest : (frame : Place) (ended : Bool) (critical : Option Place) (rest : List Place)
    → list_any (same_place frame) (unless ended (with_critical critical rest) rest) ≡ (not ended && is_place frame critical) || list_any (same_place frame) rest
first_or_rest frame true critical rest = refl
first_or_rest frame false None rest = refl
first_or_rest frame false (Some place) rest = refl

pub one_more : (frame : Place) (s : ProcessState) (states : List ProcessState) (r : Registers) (regs : List Registers)
    → some_critical frame (s ∷ states) (r ∷ regs) ≡ has_critical s r.critical frame || some_critical frame states regs
one_more frame s states r regs = first_or_rest frame (is_ended s) r.critical (live_criticals states regs)

pub none_left : (frame : Place) (states : List ProcessState) → some_critical frame states [] ≡ false
none_left frame [] = refl
none_left frame (s ∷ states) = refl

pub step : (frame : Place) (states : List ProcessState) (regs : List Registers) (i : ℕ) (d : ProcessState) (r : Registers) → i < length states
    → i < length regs
    → some_critical frame (drop i states) (drop i regs)
    ≡ has_critical (slice_index_or states i d) (slice_index_or regs i r).critical frame || some_critical frame (drop (i + 1) states) (drop (i + 1) regs)
step frame states regs i d r h k =
    let a : drop i states ≡ slice_index_or states i d ∷ drop (i + 1) states = rw (add-one, drop-cons states i d) in
    let b : drop i regs ≡ slice_index_or regs i r ∷ drop (i + 1) regs = rw (add-one, drop-cons regs i r) in
    ap (λ (z : List ProcessState). some_critical frame z (drop i regs)) a
    ∙ ap (λ (z : List Registers). some_critical frame (slice_index_or states i d ∷ drop (i + 1) states) z) b
    ∙ one_more frame (slice_index_or states i d) (drop (i + 1) states) (slice_index_or regs i r) (drop (i + 1) regs)

pub states_end : (frame : Place) (states : List ProcessState) (regs : List Registers) (i : ℕ) → length states ≤ i
    → some_critical frame (drop i states) (drop i regs) ≡ false
states_end frame states regs i h =
    let a : drop i states ≡ [] = nil_from_length (drop i states) (omega (arith, length-drop i states)) in
    ap (λ (z : List ProcessState). some_critical frame z (drop i regs)) a

pub registers_end : (frame : Place) (states : List ProcessState) (regs : List Registers) (i : ℕ) → length regs ≤ i
    → some_critical frame (drop i states) (drop i regs) ≡ false
registers_end frame states regs i h =
    let a : drop i regs ≡ [] = nil_from_length (drop i regs) (omega (arith, length-drop i regs)) in
    ap (λ (z : List Registers). some_critical frame (drop i states) z) a ∙ none_left frame (drop i states)
