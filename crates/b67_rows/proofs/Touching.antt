-- What an operator reaches is in the private part of no other process, where near are the cells that it names and the frames to which marks and the
-- display lead.
use Rattle.std.proofs.Common.{◌≡◌, ◌⊎◌, inl, inr, refl, sym, ap, ◌∙◌, ℕ, ◌+◌, ◌-◌, ◌<◌, ◌≤◌, Some, arith}
use Rattle.b67_list.proofs.Numbers.{none_some}
use Rattle.b67_rows.proofs.Prelude.{numbered, Word, Place, as_mscw, as_pcw, Mscw, Pcw, Registers, Operator, word_at, place, link_of, Image, critical_of, display_at, floor, cell_place, level_below, Cell, HaveOwnStacks, ReachesNoOther, OperatorReaches, some_same}
use Rattle.b67_ops.specs.declared.Operator.TheVariants as ops
use Rattle.b67_ops.specs.declared.PlainKind.TheVariants as kinds
use Rattle.b67_table.specs.Sound.{Lives}
use Rattle.b67_footprints.specs.Reaching.{NamesCell, OperatorLeadsTo, own_word, cell_word, mark, control}
use Rattle.b67_footprints.specs.Laws.{IsOfNoOther}
use Rattle.b67_footprints.proofs.Within.{AreLed, led_are}

-- ---- places

-- a place of the stack is critical for a process
pub record IsDependedOn (img : Image) (stack : ℕ) : Type 0 where
  pub by : ℕ
  pub registers : Registers
  pub frame : Place
  pub has : numbered img.regs by ≡ Some registers
  pub critical : registers.critical ≡ Some frame
  pub lies : frame.stack ≡ stack

-- the stack is the process's own, or somebody depends on it
abbrev pub IsNearStack : ℕ → Image → ℕ → Type 0
IsNearStack p img stack = (stack ≡ p) ⊎ IsDependedOn img stack

-- a place of the process's own stack, or of the system's, or below the floor of the process whose stack it is, on which somebody depends
pub data Near (p : ℕ) (img : Image) (x : Place) : Type 0 where
  own_stack : x.stack ≡ p → Near p img x
  system : x.stack ≡ 0 → Near p img x
  below_floor : (r : Registers) → Lives img x.stack r → x.at < floor r → IsDependedOn img x.stack → Near p img x

-- a mark, with the place above it
abbrev pub NearFrame : ℕ → Image → Place → Type 0
NearFrame p img f = Near p img f × Near p img (place f.stack (f.at + 1))

-- a cell, with its frame
abbrev pub NearCell : ℕ → Image → Cell → Type 0
NearCell p img c = NearFrame p img c.frame × Near p img (cell_place c)

-- the frame so high in a stack
abbrev pub FrameAt : ℕ → Image → ℕ → ℕ → Type 0
FrameAt p img stack at = NearFrame p img (place stack at)

module _ (p : ℕ) (img : Image) where
  pub system_frame : (n : ℕ) → FrameAt p img 0 n
  system_frame n = (system refl, system refl)

  pub own_frame : (f : Place) → f.stack ≡ p → NearFrame p img f
  own_frame f e = (own_stack e, own_stack e)

  pub own_cell : (c : Cell) → c.frame.stack ≡ p → NearCell p img c
  own_cell c e = (own_frame c.frame e, own_stack e)

  pub system_cell : (c : Cell) → c.frame.stack ≡ 0 → NearCell p img c
  system_cell c e = ((system e, system e), system e)

  -- so is what lies lower in that stack
  pub lower_near : (x : Place) (n : ℕ) → n ≤ x.at → Near p img x → Near p img (place x.stack n)
  lower_near x n low (own_stack e) = own_stack e
  lower_near x n low (system e) = system e
  lower_near x n low (below_floor r lives high d) = below_floor r lives (omega (arith, low, high)) d

  -- it is in the private part of no other
  pub near_apart : HaveOwnStacks img → (x : Place) → Near p img x → IsOfNoOther img p x
  near_apart own x (own_stack e) q o there private = sym e ∙ private.0 ∙ (own q o there).0
  near_apart own x (system e) q o there private =
      let none : 0 ≡ q = sym e ∙ private.0 ∙ (own q o there).0 in
      none_some (ap (λ (n : ℕ). numbered img.regs n) none ∙ there.is)
  near_apart own x (below_floor r lives low d) q o there private =
      let number : x.stack ≡ q = private.0 ∙ (own q o there).0 in
      let same : r ≡ o = some_same (sym lives.is ∙ ap (λ (n : ℕ). numbered img.regs n) number ∙ there.is) in
      absurd (omega (arith, low, private.1, ap floor same))

  -- its stack is the process's own, or the system's, or somebody depends on it
  pub near_stack : (x : Place) → Near p img x → IsNearStack p img x.stack ⊎ (x.stack ≡ 0)
  near_stack x (own_stack e) = inl (inl e)
  near_stack x (system e) = inr e
  near_stack x (below_floor r lives low d) = inl (inr d)

-- ---- where a process stands

-- a process of an image: near are the frames to which near marks and its display lead, and the critical places of the processes of near stacks
pub record IsNear (p : ℕ) (img : Image) (r : Registers) : Type 0 where
  pub own : r.stack ≡ p
  pub links : (x : Place) (w : Word) (m : Mscw) → Near p img x → word_at img.stacks x ≡ Some w → as_mscw w ≡ Some m → NearFrame p img (link_of m)
  pub shows : (f : Place) (level : ℕ) → 2 ≤ level → level ≤ r.ll → display_at r level ≡ Some f → NearFrame p img f
  pub depends : (f c : Place) → Near p img f → critical_of img.regs f.stack ≡ Some c → NearFrame p img c

-- an operator names near cells, and enters procedures around which the display names near frames
pub record NamesNear (p : ℕ) (img : Image) (op : Operator) (r : Registers) : Type 0 where
  pub cells : (c : Cell) → NamesCell img op r c → NearCell p img c
  pub around : (f : Place) (w : Word) (pcw : Pcw) → op ≡ ops.Plain kinds.Entr → word_at img.stacks (place r.stack (r.f + 1)) ≡ Some w → as_pcw w ≡ Some pcw →
      level_below r pcw.level ≡ Some f → NearFrame p img f

module _ (p : ℕ) (img : Image) (r : Registers) (near : IsNear p img r) (op : Operator) (names : NamesNear p img op r) where
  abbrev IsThere : Place → Type 0
  IsThere f = NearFrame p img f

  led : AreLed img op r IsThere
  led =
      record {
        own = λ f e. own_frame p img f (e ∙ near.own);
        shown = near.shows;
        around = names.around;
        home = λ c w pcw k there is. (names.cells c k).0;
        linked = λ f w m k there is. near.links f w m k.0 there is;
        lower = λ f w m k there is. (lower_near p img f (f.at - m.df) (omega arith) k.0, lower_near p img (place f.stack (f.at + 1)) (f.at - m.df + 1) (omega arith) k.1);
        depends = λ f c k e. near.depends f c k.0 e;
      }

  led_near : (f : Place) → OperatorLeadsTo img op r f → NearFrame p img f
  led_near f k = led_are img op r IsThere led k

  pub reaches_no_other : HaveOwnStacks img → ReachesNoOther img p op r
  reaches_no_other own =
      record {
        cells = λ c k. near_apart p img own (cell_place c) (names.cells c k).1;
        marks = λ f k. (near_apart p img own f (led_near f k).0, near_apart p img own (place f.stack (f.at + 1)) (led_near f k).1);
      }

  -- nor does it touch a stack but the process's own, the system's, those on which somebody depends, and that of a process that it starts
  pub touches_near : (x : Place) → OperatorReaches img op r x → IsNearStack p img x.stack ⊎ (x.stack ≡ 0)
  touches_near x (own_word e) = inl (inl (e ∙ near.own))
  touches_near x (cell_word c k) = near_stack p img (cell_place c) (names.cells c k).1
  touches_near x (mark k) = near_stack p img x (led_near x k).0
  touches_near x (control f k) = near_stack p img (place f.stack (f.at + 1)) (led_near f k).1
