-- What the chains of marks and links of any stacks come to: frames, and displays.
use Rattle.std.proofs.Common.{◌≡◌, refl, ap, ◌∙◌, ℕ, zero, suc, ◌+◌, ◌-◌, ◌<◌, ◌≤◌, true, ◌==◌, ◌&&◌, List, [], ◌∷◌, ◌++◌, length, All, map, replicate, Option, Some, None, Ok, Err, cond, arith}
use Rattle.std.specs.Prelude.{nat_le, slice_index_or}
use Rattle.std.proofs.lemmas.Bool.{leb-true}
use Rattle.std.proofs.lemmas.List.Elements.{All-nil, All-cons}
use Rattle.b67_word.specs.declared.Place.{Place}
use Rattle.b67_control.specs.declared.Mscw.{Mscw}
use Rattle.b67_control.specs.declared.Rcw.{Rcw}
use Rattle.b67_control.specs.Control.{as_mscw, as_rcw, Fits_mscw, Fits_rcw}
use Rattle.b67_control.specs.Display.{levels}
use Rattle.b67_control.proofs.ControlLaws.{Fits_as_mscw, Fits_as_rcw}
use Rattle.b67_store.specs.Store.{word_at}
use Rattle.b67_table.specs.declared.Below.{Below}
use Rattle.b67_table.specs.declared.InterruptKind.TheVariants.{BrokenChain}
use Rattle.b67_table.specs.Look.{found, look_seen, read_as}
use Rattle.b67_table.specs.Chains.{place, chain_broken, mark_at, control_at, entered_from, entered_below, left_to, link_of, linked_frame, links, linked, rebuilt}
use Rattle.b67_table.specs.Image.{Image}
use Rattle.b67_table.specs.Valid.{IsHeld, IsDisplay, IsFrame}
use Rattle.b67_table.proofs.Finding.{Found, look_then, there_found, found_by, read_is}

module _ (img : Image) where
  abbrev IsMark : Place → Mscw → Type 0
  IsMark x m = read_as as_mscw (word_at img.stacks x) ≡ Some m

  abbrev IsControl : Place → Rcw → Type 0
  IsControl x c = read_as as_rcw (word_at img.stacks (place x.stack (x.at + 1))) ≡ Some c

  pub mark_found : (x : Place) → Found (λ (m : Mscw). read_as as_mscw (word_at img.stacks x) ≡ Some m) (look_seen img.stacks (mark_at x))
  mark_found x = there_found img.stacks (IsMark x) BrokenChain (read_as as_mscw (word_at img.stacks x)) (λ m e. e)

  pub control_found : (x : Place) → Found (λ (c : Rcw). read_as as_rcw (word_at img.stacks (place x.stack (x.at + 1))) ≡ Some c) (look_seen img.stacks (control_at x))
  control_found x = there_found img.stacks (IsControl x) BrokenChain (read_as as_rcw (word_at img.stacks (place x.stack (x.at + 1)))) (λ c e. e)

  mark_fits : (x : Place) (m : Mscw) → read_as as_mscw (word_at img.stacks x) ≡ Some m → Fits_mscw m
  mark_fits x m e = let k = read_is as_mscw (word_at img.stacks x) m e in Fits_as_mscw k.word k.is

  control_fits : (x : Place) (c : Rcw) → read_as as_rcw (word_at img.stacks (place x.stack (x.at + 1))) ≡ Some c → Fits_rcw c
  control_fits x c e = let k = read_is as_rcw (word_at img.stacks (place x.stack (x.at + 1))) c e in Fits_as_rcw k.word k.is

  -- ---- down a stack

  -- an entered mark at this displacement or below
  pub record Entered (stack high low : ℕ) : Type 0 where
    pub mark : Mscw
    pub is : read_as as_mscw (word_at img.stacks (place stack low)) ≡ Some mark
    pub entered : mark.entered ≡ true
    pub under : low ≤ high

  wider : (stack a b low : ℕ) → a ≤ b → Entered stack a low → Entered stack b low
  wider stack a b low h k = record { mark = k.mark; is = k.is; entered = k.entered; under = omega (arith, k.under, h) }

  wider_all : (stack a b : ℕ) → a ≤ b → (e : _) → Found (Entered stack a) e → Found (Entered stack b) e
  wider_all stack a b h (Ok low) k = wider stack a b low h k
  wider_all stack a b h (Err kind) k = tt

  pub entered_found : (steps stack here : ℕ) → Found (Entered stack here) (look_seen img.stacks (entered_from steps stack here))
  entered_found zero stack here = tt
  entered_found (suc steps) stack here =
      look_then img.stacks (IsMark (place stack here)) (Entered stack here) (mark_at (place stack here)) _ (mark_found (place stack here))
      (λ m i. found_by img.stacks (Entered stack here) m.entered (found here) _
      (λ b. record { mark = m; is = i; entered = b; under = omega arith })
      (λ b. found_by img.stacks (Entered stack here) (nat_le 1 m.df && nat_le m.df here) _ chain_broken
      (λ c. wider_all stack (here - m.df) here (omega arith) _ (entered_found steps stack (here - m.df))) (λ c. tt)))

  -- what is left to
  pub record IsBelow (f : Place) (b : Below) : Type 0 where
    pub frame : IsFrame img (place f.stack b.frame)
    pub mark : b.mark ≤ f.at
    pub fits : Fits_rcw b.control
    pub apart : b.frame + 2 + b.control.caller_cells ≤ f.at

  pub left_found : (f : Place) → Found (IsBelow f) (look_seen img.stacks (left_to f))
  left_found f =
      look_then img.stacks (IsMark f) (IsBelow f) (mark_at f) _ (mark_found f) (λ m i.
      look_then img.stacks (IsControl f) (IsBelow f) (control_at f) _ (control_found f) (λ c j.
      look_then img.stacks (Entered f.stack f.at) (IsBelow f) (cond (nat_le m.df f.at) (entered_below f.stack (f.at - m.df)) chain_broken) _
      (found_by img.stacks (Entered f.stack f.at) (nat_le m.df f.at) _ chain_broken
      (λ b. wider_all f.stack (f.at - m.df) f.at (omega arith) _ (entered_found (f.at - m.df + 1) f.stack (f.at - m.df))) (λ b. tt)) (λ low k.
      look_then img.stacks (IsControl (place f.stack low)) (IsBelow f) (control_at (place f.stack low)) _ (control_found (place f.stack low)) (λ u l.
      found_by img.stacks (IsBelow f) (nat_le (low + 2 + c.caller_cells) f.at) _ chain_broken
      (λ b. record {
        frame = record { mark = k.mark; marked = k.is; entered = k.entered; control = u; controlled = l };
        mark = omega arith;
        fits = control_fits f c j;
        apart = leb-true (low + 2 + c.caller_cells) f.at b;
      }) (λ b. tt)))))

  -- ---- along static links

  -- the display registers of a frame from some level on: places, of which the last is the frame's
  record Known (top : Place) (count k : ℕ) (known : List (Option Place)) : Type 0 where
    frames : List Place
    many : length frames ≡ count + 1
    held : All IsHeld frames
    is : known ≡ map (λ (f : Place). Some f) frames ++ replicate k None
    last : slice_index_or known count None ≡ Some top

  known_more : (top link : Place) (count k : ℕ) (known : List (Option Place)) → IsHeld link → Known top count k known → Known top (count + 1) k (Some link ∷ known)
  known_more top link count k known h e = record {
    frames = link ∷ e.frames;
    many = omega (arith, e.many);
    held = All-cons IsHeld link e.frames h e.held;
    is = ap (λ (xs : List (Option Place)). Some link ∷ xs) e.is;
    last = ap (λ (n : ℕ). slice_index_or (Some link ∷ known) n None) (n_plus count) ∙ e.last;
  }
    where
      n_plus : (n : ℕ) → n + 1 ≡ suc n
      n_plus n = omega arith

  -- the display of a frame
  pub record Shows (top : Place) (level : ℕ) (display : List (Option Place)) : Type 0 where
    pub display_is : IsDisplay level display
    pub names : slice_index_or display level None ≡ Some top

  shown : (top : Place) (count level : ℕ) (known : List (Option Place)) → level < levels → level ≡ count + 2 → Known top count (levels - (level + 1)) known
      → Shows top level (Some (place 0 0) ∷ None ∷ known)
  shown top count level known h e k = record {
    display_is = record {
      frames = k.frames;
      some = omega (arith, k.many);
      each = omega (arith, k.many, e);
      known = h;
      held = k.held;
      is = ap (λ (xs : List (Option Place)). Some (place 0 0) ∷ None ∷ xs) k.is;
    };
    names = ap (λ (n : ℕ). slice_index_or (Some (place 0 0) ∷ None ∷ known) n None) (e ∙ two count) ∙ k.last;
  }
    where
      two : (n : ℕ) → n + 2 ≡ suc (suc n)
      two n = omega arith

  link_held : (x : Place) (m : Mscw) → read_as as_mscw (word_at img.stacks x) ≡ Some m → IsHeld (link_of m)
  link_held x m e = let f = mark_fits x m e in record { stack = f.0; displacement = f.1.0 }

  frame_found : (link : Place) (level : ℕ) → Found (λ (m : Mscw). read_as as_mscw (word_at img.stacks link) ≡ Some m) (look_seen img.stacks (linked_frame link level))
  frame_found link level =
      look_then img.stacks (IsMark link) (IsMark link) (mark_at link) _ (mark_found link) (λ m i.
      look_then img.stacks (IsControl link) (IsMark link) (control_at link) _ (control_found link) (λ c j.
      found_by img.stacks (IsMark link) (m.entered && c.own_level == level) (found m) chain_broken (λ b. i) (λ b. tt)))

  links_found : (n : ℕ) (top link : Place) (count level : ℕ) (known : List (Option Place)) → level < levels → level ≡ n + count + 2 → IsHeld link
      → Known top count (levels - (level + 1)) known → Found (Shows top level) (look_seen img.stacks (links n link known))
  links_found zero top link count level known h e i k =
      found_by img.stacks (Shows top level) (link.stack == 0) (found (Some (place 0 0) ∷ None ∷ known)) chain_broken
      (λ b. shown top count level known h (omega (arith, e)) k) (λ b. tt)
  links_found (suc n) top link count level known h e i k =
      look_then img.stacks (IsMark link) (Shows top level) (linked_frame link (n + 2)) _ (frame_found link (n + 2)) (λ m j.
      links_found n top (link_of m) (count + 1) level (Some link ∷ known) h (omega (arith, e)) (link_held link m j) (known_more top link count _ known i k))

  pub linked_found : (top link : Place) (level : ℕ) → level < levels → IsHeld top → IsHeld link → Found (Shows top level) (look_seen img.stacks (linked top link level))
  linked_found top link level h t i =
      found_by img.stacks (Shows top level) (nat_le 2 level) (links (level - 2) link (Some top ∷ replicate (levels - (level + 1)) None)) chain_broken
      (λ b. links_found (level - 2) top link 0 level (Some top ∷ replicate (levels - (level + 1)) None) h (omega (arith, leb-true 2 level b)) i
      (record { frames = top ∷ []; many = refl; held = All-cons IsHeld top [] t (All-nil IsHeld); is = refl; last = refl })) (λ b. tt)

  pub rebuilt_found : (top : Place) (level : ℕ) → level < levels → IsHeld top → Found (Shows top level) (look_seen img.stacks (rebuilt top level))
  rebuilt_found top level h t =
      found_by img.stacks (Shows top level) (nat_le 2 level) _ chain_broken
      (λ b. look_then img.stacks (IsMark top) (Shows top level) (mark_at top) _ (mark_found top) (λ m i.
      linked_found top (link_of m) level h t (link_held top m i))) (λ b. tt)
