-- What holds of all that an operator reaches: what holds of what it comes to first, and is kept along references, links and chains.
use Rattle.std.proofs.Common.{◌≡◌, ℕ, ◌+◌, ◌-◌, ◌<◌, ◌≤◌, Some}
use Rattle.b67_word.specs.declared.Place.{Place}
use Rattle.b67_word.specs.Word.{Word}
use Rattle.b67_control.specs.declared.Registers.{Registers}
use Rattle.b67_control.specs.declared.Mscw.{Mscw}
use Rattle.b67_control.specs.declared.Pcw.{Pcw}
use Rattle.b67_control.specs.declared.Sirw.{Sirw}
use Rattle.b67_control.specs.Control.{as_sirw, as_mscw, as_pcw}
use Rattle.b67_ops.specs.declared.Couple.{Couple}
use Rattle.b67_ops.specs.declared.Operator.{Operator}
use Rattle.b67_ops.specs.declared.Operator.TheVariants as ops
use Rattle.b67_ops.specs.declared.PlainKind.TheVariants as kinds
use Rattle.b67_store.specs.Store.{word_at}
use Rattle.b67_table.specs.declared.Cell.{Cell}
use Rattle.b67_table.specs.Image.{Image, critical_of}
use Rattle.b67_table.specs.Private.{display_at}
use Rattle.b67_table.specs.Chains.{place, link_of}
use Rattle.b67_table.specs.References.{cell_place, couple_cell, sirw_cell, cell_of}
use Rattle.b67_table.specs.Rows.{level_below}
use Rattle.b67_footprints.specs.Reaching.{OperatorTakes, OperatorFollows, IsIntrinsic, NamesCell, by_couple, by_word, by_reference, by_argument, by_its_argument, OperatorLeadsTo, own as by_own, shown as by_display, around as by_control, home as by_home, linked as by_link, lower as by_distance, depends as by_dependence, OperatorReaches, own_word, cell_word, mark as at_mark, control as above_mark}

module _ (img : Image) (op : Operator) (r : Registers) where
  -- ---- cells

  -- the cells of a property are those that are named first, and those to which references in them lead
  pub record AreNamed (C : Cell → Type 0) : Type 0 where
    pub couple : (c : Cell) (couple : Couple) → op ≡ ops.Valc couple → couple_cell r couple.level couple.index ≡ Some c → C c
    pub taken : (c : Cell) (n : ℕ) (w : Word) → OperatorTakes op r n → word_at img.stacks (place r.stack n) ≡ Some w → cell_of r w ≡ Some c → C c
    pub reference : (b : Cell) (w : Word) (s : Sirw) → OperatorFollows op → C b → word_at img.stacks (cell_place b) ≡ Some w → as_sirw w ≡ Some s → C (sirw_cell s)
    pub argument : (c : Cell) (v w : Word) (n : ℕ) → op ≡ ops.Plain kinds.Entr → word_at img.stacks (place r.stack (r.f + 1)) ≡ Some v → IsIntrinsic v → r.f + 1 < n
        → word_at img.stacks (place r.stack n) ≡ Some w → cell_of r w ≡ Some c → C c
    pub its_argument : (b c : Cell) (v w : Word) (n : ℕ) → op ≡ ops.Plain kinds.Entr → C b → word_at img.stacks (cell_place b) ≡ Some v → IsIntrinsic v → r.f + 1 < n
        → word_at img.stacks (place r.stack n) ≡ Some w → cell_of r w ≡ Some c → C c

  module _ (C : Cell → Type 0) (are : AreNamed C) where
    pub named_are : {c : Cell} → NamesCell img op r c → C c
    named_are {c} (by_couple couple is e) = are.couple c couple is e
    named_are {c} (by_word n w takes i e) = are.taken c n w takes i e
    named_are (by_reference {b = b} w s follows k i e) = are.reference b w s follows (named_are k) i e
    named_are {c} (by_argument v w n is there kind after i e) = are.argument c v w n is there kind after i e
    named_are {c} (by_its_argument {b = b} v w n is k there kind after i e) = are.its_argument b c v w n is (named_are k) there kind after i e

  -- ---- marks

  -- the marks of a property are those to which it is led first, and those to which links and distances lead from them
  pub record AreLed (M : Place → Type 0) : Type 0 where
    pub own : (f : Place) → f.stack ≡ r.stack → M f
    pub shown : (f : Place) (level : ℕ) → 2 ≤ level → level ≤ r.ll → display_at r level ≡ Some f → M f
    pub around : (f : Place) (w : Word) (pcw : Pcw) → op ≡ ops.Plain kinds.Entr → word_at img.stacks (place r.stack (r.f + 1)) ≡ Some w → as_pcw w ≡ Some pcw
        → level_below r pcw.level ≡ Some f → M f
    pub home : (c : Cell) (w : Word) (pcw : Pcw) → NamesCell img op r c → word_at img.stacks (cell_place c) ≡ Some w → as_pcw w ≡ Some pcw → M c.frame
    pub linked : (f : Place) (w : Word) (m : Mscw) → M f → word_at img.stacks f ≡ Some w → as_mscw w ≡ Some m → M (link_of m)
    pub lower : (f : Place) (w : Word) (m : Mscw) → M f → word_at img.stacks f ≡ Some w → as_mscw w ≡ Some m → M (place f.stack (f.at - m.df))
    pub depends : (f c : Place) → M f → critical_of img.regs f.stack ≡ Some c → M c

  module _ (M : Place → Type 0) (are : AreLed M) where
    pub led_are : {f : Place} → OperatorLeadsTo img op r f → M f
    led_are {f} (by_own e) = are.own f e
    led_are {f} (by_display level low high e) = are.shown f level low high e
    led_are {f} (by_control w pcw is i k e) = are.around f w pcw is i k e
    led_are (by_home c w pcw k i e) = are.home c w pcw k i e
    led_are (by_link f w m k i e) = are.linked f w m (led_are k) i e
    led_are (by_distance f w m k i e) = are.lower f w m (led_are k) i e
    led_are {f} (by_dependence g k e) = are.depends g f (led_are k) e

  -- ---- words

  pub record AreReached (W : Place → Type 0) : Type 0 where
    pub own : (x : Place) → x.stack ≡ r.stack → W x
    pub cell : (c : Cell) → NamesCell img op r c → W (cell_place c)
    pub mark : (f : Place) → OperatorLeadsTo img op r f → W f × W (place f.stack (f.at + 1))

  pub reached_are : (W : Place → Type 0) → AreReached W → {x : Place} → OperatorReaches img op r x → W x
  reached_are W are {x} (own_word e) = are.own x e
  reached_are W are (cell_word c k) = are.cell c k
  reached_are W are {x} (at_mark k) = (are.mark x k).0
  reached_are W are (above_mark f k) = (are.mark f k).1
