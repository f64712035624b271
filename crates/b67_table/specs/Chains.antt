-- The chains of marks in a stack, and the static links between frames.
use Rattle.std.specs.Prelude.{ℕ, zero, suc, ◌+◌, ◌-◌, ◌==◌, ◌&&◌, nat_le, if◌then◌else◌, List, ◌∷◌, Option, Some, None, replicate}
use Rattle.b67_word.specs.declared.Place.{Place}
use Rattle.b67_word.specs.Word.{Word}
use Rattle.b67_control.specs.declared.Mscw.{Mscw}
use Rattle.b67_control.specs.declared.Rcw.{Rcw}
use Rattle.b67_control.specs.Control.{as_mscw, as_rcw}
use Rattle.b67_control.specs.Display.{levels}
use Rattle.b67_table.specs.declared.Below.{Below}
use Rattle.b67_table.specs.declared.InterruptKind.TheVariants.{BrokenChain}
use Rattle.b67_table.specs.Look.{Look, found, stops, at, ◌>->◌, chained, read_as}

abbrev pub place : ℕ → ℕ → Place
place stack displacement = record { stack = stack; at = displacement }

abbrev pub chain_broken : {A : Type 0} → Look A
chain_broken = stops BrokenChain

-- the mark that stands at a place
abbrev pub mark_at : Place → Look Mscw
mark_at here = at here (λ (w : Option Word). chained (read_as as_mscw w))

-- the control word that stands above the mark at a place
abbrev pub control_at : Place → Look Rcw
control_at here = at (place here.stack (here.at + 1)) (λ (w : Option Word). chained (read_as as_rcw w))

-- ---- down a stack

-- so far below a place; a chain that does not go down is broken
abbrev pub below : ℕ → ℕ → (ℕ → Look ℕ) → Look ℕ
below here df next = if nat_le 1 df && nat_le df here then next (here - df) else chain_broken

-- the first entered mark at a displacement or below along DF, in at most so many steps
abbrev pub entered_from : ℕ → ℕ → ℕ → Look ℕ
entered_from zero stack here = chain_broken
entered_from (suc steps) stack here =
    mark_at (place stack here) >-> (λ (m : Mscw). if m.entered then found here else below here m.df (λ (lower : ℕ). entered_from steps stack lower))

-- a step goes down by one at least
abbrev pub entered_below : ℕ → ℕ → Look ℕ
entered_below stack here = entered_from (here + 1) stack here

-- the frame below a frame that is not the base frame
abbrev pub frame_below : Place → Look Place
frame_below f =
    mark_at f >-> (λ (m : Mscw). below f.at m.df (λ (lower : ℕ). entered_below f.stack lower) >-> (λ (lower : ℕ). found (place f.stack lower)))

-- its cells end at the frame that is left, or below
abbrev pub if_apart : ℕ → Below → Look Below
if_apart left b = if nat_le (b.frame + 2 + b.control.caller_cells) left then found b else chain_broken

-- the mark below is an entered one or leads to one; a control word stands above that
abbrev pub left_to : Place → Look Below
left_to f =
    mark_at f >-> (λ (m : Mscw). control_at f >-> (λ (c : Rcw).
    (if nat_le m.df f.at then entered_below f.stack (f.at - m.df) else chain_broken) >-> (λ (lower : ℕ). control_at (place f.stack lower) >-> (λ (unused : Rcw).
    if_apart f.at (record { mark = f.at - m.df; frame = lower; control = c })))))

-- ---- along static links

abbrev pub link_of : Mscw → Place
link_of m = place m.stack m.displacement

abbrev pub if_own : ℕ → Mscw → Rcw → Look Mscw
if_own level m c = if m.entered && c.own_level == level then found m else chain_broken

-- the mark of the frame of this level that a link names
abbrev pub linked_frame : Place → ℕ → Look Mscw
linked_frame link level = mark_at link >-> (λ (m : Mscw). control_at link >-> (λ (c : Rcw). if_own level m c))

-- the display registers below those that are known, of so many levels above 1, from a link on
abbrev pub links : ℕ → Place → List (Option Place) → Look (List (Option Place))
links zero link known = if link.stack == 0 then found (Some (place 0 0) ∷ None ∷ known) else chain_broken
links (suc n) link known = linked_frame link (n + 2) >-> (λ (m : Mscw). links n (link_of m) (Some link ∷ known))

-- the display of a frame of this level at a place, whose static link is given
abbrev pub linked : Place → Place → ℕ → Look (List (Option Place))
linked top link level = if nat_le 2 level then links (level - 2) link (Some top ∷ replicate (levels - (level + 1)) None) else chain_broken

-- the display of the frame of this level that stands at a place
abbrev pub rebuilt : Place → ℕ → Look (List (Option Place))
rebuilt top level = if nat_le 2 level then mark_at top >-> (λ (m : Mscw). linked top (link_of m) level) else chain_broken
