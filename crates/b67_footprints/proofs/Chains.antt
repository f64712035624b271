-- The marks down a stack and along static links, to which an operator is led.
use Rattle.std.proofs.Common.{◌≡◌, refl, ℕ, zero, suc, ◌+◌, ◌-◌, List, ◌∷◌, Option, Some, None, Bool, cond}
use Rattle.std.specs.Prelude.{◌==◌, ◌&&◌, nat_le, nat_lt}
use Rattle.b67_word.specs.declared.Place.{Place}
use Rattle.b67_word.specs.Word.{Word}
use Rattle.b67_control.specs.declared.Registers.{Registers}
use Rattle.b67_control.specs.declared.Mscw.{Mscw}
use Rattle.b67_control.specs.declared.Pcw.{Pcw}
use Rattle.b67_control.specs.Control.{as_mscw, as_rcw}
use Rattle.b67_ops.specs.declared.Operator.{Operator}
use Rattle.b67_store.specs.Store.{word_at}
use Rattle.b67_table.specs.declared.Below.{Below}
use Rattle.b67_table.specs.declared.Entry.{Entry}
use Rattle.b67_table.specs.declared.InterruptKind.TheVariants.{BadCode, BrokenChain}
use Rattle.b67_table.specs.Image.{Image}
use Rattle.b67_table.specs.Limits.{end_of_code}
use Rattle.b67_table.specs.Look.{Look, found, stops, ◌>->◌, read_as}
use Rattle.b67_table.specs.Chains.{place, chain_broken, mark_at, control_at, below, entered_from, entered_below, frame_below, left_to, link_of, linked_frame, links, linked, rebuilt}
use Rattle.b67_table.specs.Linkage.{if_fits, is_home, if_home, entering, leaving}
use Rattle.b67_table.specs.References.{invalid}
use Rattle.b67_footprints.specs.Reaching.{OperatorLeadsTo, linked as by_link, lower as by_distance, mark, control}
use Rattle.b67_footprints.proofs.Going.{Any, LookKeeps, look_then, look_by, look_there}

module _ (img : Image) (op : Operator) (r : Registers) where
  -- the mark stands at the place
  pub record IsMark (x : Place) (m : Mscw) : Type 0 where
    pub word : Word
    pub there : word_at img.stacks x ≡ Some word
    pub is : as_mscw word ≡ Some m

  mark_is : (x : Place) (o : Option Word) (m : Mscw) → word_at img.stacks x ≡ o → read_as as_mscw o ≡ Some m → IsMark x m
  mark_is x None m i e = cc
  mark_is x (Some w) m i e = record { word = w; there = i; is = e }

  pub mark_kept : (x : Place) → OperatorLeadsTo img op r x → LookKeeps img op r (IsMark x) (mark_at x)
  mark_kept x i =
      (mark i, look_there img op r (IsMark x) BrokenChain (read_as as_mscw (word_at img.stacks x)) (λ m e. mark_is x (word_at img.stacks x) m refl e))

  pub any_mark_kept : (x : Place) → OperatorLeadsTo img op r x → LookKeeps img op r Any (mark_at x)
  any_mark_kept x i = (mark i, look_there img op r Any BrokenChain (read_as as_mscw (word_at img.stacks x)) (λ m e. tt))

  control_kept : (x : Place) → OperatorLeadsTo img op r x → LookKeeps img op r Any (control_at x)
  control_kept x i = (control x i, look_there img op r Any BrokenChain (read_as as_rcw (word_at img.stacks (place x.stack (x.at + 1)))) (λ c e. tt))

  -- ---- along static links

  linked_frame_kept : (link : Place) (level : ℕ) → OperatorLeadsTo img op r link → LookKeeps img op r (IsMark link) (linked_frame link level)
  linked_frame_kept link level i =
      look_then img op r (IsMark link) (IsMark link) (mark_at link) _ (mark_kept link i) (λ m k.
      look_then img op r Any (IsMark link) (control_at link) _ (control_kept link i) (λ c t.
      look_by img op r (IsMark link) (m.entered && c.own_level == level) (found m) chain_broken k tt))

  links_kept : (n : ℕ) (link : Place) (known : List (Option Place)) → OperatorLeadsTo img op r link → LookKeeps img op r Any (links n link known)
  links_kept zero link known i = look_by img op r Any (link.stack == 0) (found (Some (place 0 0) ∷ None ∷ known)) chain_broken tt tt
  links_kept (suc n) link known i =
      look_then img op r (IsMark link) Any (linked_frame link (n + 2)) _ (linked_frame_kept link (n + 2) i) (λ m k.
      links_kept n (link_of m) (Some link ∷ known) (by_link link k.word m i k.there k.is))

  pub linked_kept : (top link : Place) (level : ℕ) → OperatorLeadsTo img op r link → LookKeeps img op r Any (linked top link level)
  linked_kept top link level i = look_by img op r Any (nat_le 2 level) (links (level - 2) link _) chain_broken (links_kept (level - 2) link _ i) tt

  pub rebuilt_kept : (top : Place) (level : ℕ) → OperatorLeadsTo img op r top → LookKeeps img op r Any (rebuilt top level)
  rebuilt_kept top level i =
      look_by img op r Any (nat_le 2 level) (mark_at top >-> (λ (m : Mscw). linked top (link_of m) level)) chain_broken
      (look_then img op r (IsMark top) Any (mark_at top) _ (mark_kept top i) (λ m k. linked_kept top (link_of m) level (by_link top k.word m i k.there k.is))) tt

  -- ---- down a stack

  -- it is led to this displacement of the stack
  abbrev pub LeadsDown : ℕ → ℕ → Type 0
  LeadsDown stack n = OperatorLeadsTo img op r (place stack n)

  below_kept : (P : ℕ → Type 0) (here df : ℕ) (next : ℕ → Look ℕ) → LookKeeps img op r P (next (here - df)) → LookKeeps img op r P (below here df next)
  below_kept P here df next k = look_by img op r P (nat_le 1 df && nat_le df here) (next (here - df)) chain_broken k tt

  entered_from_kept : (steps stack here : ℕ) → LeadsDown stack here → LookKeeps img op r (LeadsDown stack) (entered_from steps stack here)
  entered_from_kept zero stack here i = tt
  entered_from_kept (suc steps) stack here i =
      look_then img op r (IsMark (place stack here)) (LeadsDown stack) (mark_at (place stack here)) _ (mark_kept (place stack here) i) (λ m k.
      look_by img op r (LeadsDown stack) m.entered (found here) (below here m.df (λ (lower : ℕ). entered_from steps stack lower)) i
      (below_kept (LeadsDown stack) here m.df (λ (lower : ℕ). entered_from steps stack lower)
      (entered_from_kept steps stack (here - m.df) (by_distance (place stack here) k.word m i k.there k.is))))

  entered_below_kept : (stack here : ℕ) → LeadsDown stack here → LookKeeps img op r (LeadsDown stack) (entered_below stack here)
  entered_below_kept stack here i = entered_from_kept (here + 1) stack here i

  pub frame_below_kept : (f : Place) → OperatorLeadsTo img op r f → LookKeeps img op r (OperatorLeadsTo img op r) (frame_below f)
  frame_below_kept f i =
      look_then img op r (IsMark f) (OperatorLeadsTo img op r) (mark_at f) _ (mark_kept f i) (λ m k.
      look_then img op r (LeadsDown f.stack) (OperatorLeadsTo img op r) (below f.at m.df (λ (lower : ℕ). entered_below f.stack lower)) _
      (below_kept (LeadsDown f.stack) f.at m.df (λ (lower : ℕ). entered_below f.stack lower)
      (entered_below_kept f.stack (f.at - m.df) (by_distance f k.word m i k.there k.is))) (λ lower j. j))

  -- the frame below is one to which it is led
  abbrev pub LeadsBelow : Place → Below → Type 0
  LeadsBelow f b = LeadsDown f.stack b.frame

  pub left_to_kept : (f : Place) → OperatorLeadsTo img op r f → LookKeeps img op r (LeadsBelow f) (left_to f)
  left_to_kept f i =
      look_then img op r (IsMark f) (LeadsBelow f) (mark_at f) _ (mark_kept f i) (λ m k.
      look_then img op r Any (LeadsBelow f) (control_at f) _ (control_kept f i) (λ c t.
      look_then img op r (LeadsDown f.stack) (LeadsBelow f) (cond (nat_le m.df f.at) (entered_below f.stack (f.at - m.df)) chain_broken) _
      (look_by img op r (LeadsDown f.stack) (nat_le m.df f.at) (entered_below f.stack (f.at - m.df)) chain_broken
      (entered_below_kept f.stack (f.at - m.df) (by_distance f k.word m i k.there k.is)) tt) (λ lower j.
      look_then img op r Any (LeadsBelow f) (control_at (place f.stack lower)) _ (control_kept (place f.stack lower) j) (λ unused u.
      look_by img op r (LeadsBelow f) (nat_le (lower + 2 + c.caller_cells) f.at) (found (record { mark = f.at - m.df; frame = lower; control = c })) chain_broken j tt))))

  -- ---- leaving and entering

  pub leaving_kept : (f : Place) → OperatorLeadsTo img op r f → LookKeeps img op r Any (leaving f)
  leaving_kept f i =
      look_then img op r (LeadsBelow f) Any (left_to f) _ (left_to_kept f i) (λ b j.
      look_then img op r Any Any (rebuilt (place f.stack b.frame) b.control.caller_level) _ (rebuilt_kept (place f.stack b.frame) b.control.caller_level j)
      (λ display t. tt))

  pub entering_kept : (next : ℕ) (fits : Bool) (mark_place : ℕ) (pcw : Pcw) (home : Option Place) → ((h : Place) → home ≡ Some h → OperatorLeadsTo img op r h)
      → LookKeeps img op r Any (entering r next fits mark_place pcw home)
  entering_kept next fits mark_place pcw home k =
      look_by img op r Any (nat_lt next end_of_code) (if_fits fits (if_home home pcw.level onward)) (stops BadCode)
      (look_by img op r Any fits (if_home home pcw.level onward) invalid (by_home home k) tt) tt
    where
      onward : Place → Look Entry
      onward h = linked (place r.stack mark_place) h pcw.level >-> (λ (display : List (Option Place)). found (record { home = h; display = display }))

      by_home : (o : Option Place) → ((h : Place) → o ≡ Some h → OperatorLeadsTo img op r h) → LookKeeps img op r Any (if_home o pcw.level onward)
      by_home None i = tt
      by_home (Some h) i = (
        control h (i h refl),
        look_by img op r Any (is_home (read_as as_rcw (word_at img.stacks (place h.stack (h.at + 1)))) pcw.level) (onward h) invalid
            (look_then img op r Any Any (linked (place r.stack mark_place) h pcw.level) _ (linked_kept (place r.stack mark_place) h pcw.level (i h refl)) (λ display t. tt)) tt,
      )
